-- Demand 1 at the start: what a fresh start leaves, done and refused, and that a page which breaks the rules is answered with 2
-- everywhere (document 01, The page). No proof stands in this file.
use Rattle.std.specs.Prelude.{ℕ, ◌≡◌, Bool, true, false, List, [], length, get_or}
use Rattle.answers.specs.Numbers.{done, bad_page}
use Rattle.answers.specs.Rows.{Outcome, outcome, refused, answer}
use Rattle.page.specs.Limits.{max_workers}
use Rattle.machine.specs.Config.{Config, config, worker_of, lent_of, blank, rules_b, fresh_state, fresh_of}
use Rattle.machine.specs.Requests.{request_of}
use Rattle.machine.specs.Moves.{move_of}
use Rattle.machine.specs.Switch.{switch_on_of, switch_off_of}
use Rattle.machine.specs.Readers.{listed_count_of, first_unlisted_of, entry_of, entry_answer_of, compare_of}
use Rattle.machine.specs.Events.{ran, events_of}

-- ---- 2 everywhere

-- every call is refused with 2 and changes nothing; every reader answers 2, and an entry is empty
pub record AnswersTwo (c : Config) : Type 0 where
  pub request : (w code a b : ℕ) → request_of c w code a b ≡ refused bad_page c
  pub move : (w : ℕ) (flag : Bool) → move_of c w flag ≡ refused bad_page c
  pub on : switch_on_of c ≡ refused bad_page c
  pub off : switch_off_of c ≡ refused bad_page c
  pub run : (answers events : List ℕ) → events_of (ran c answers) events ≡ refused bad_page (ran c answers)
  pub count : listed_count_of (lent_of c) c.state.w ≡ answer bad_page 0
  pub unlisted : first_unlisted_of (lent_of c) c.state.w ≡ answer bad_page 0
  pub entry : (a : ℕ) → entry_of (lent_of c) c.state.w a ≡ []
  pub entry_answer : (a : ℕ) → entry_answer_of (lent_of c) c.state.w a ≡ answer bad_page 0
  pub compare : (a b : ℕ) → compare_of (lent_of c) c.state.w a b ≡ answer bad_page 0

-- a page that breaks the rules
abbrev pub BrokenAnswersTwo : Type 0
BrokenAnswersTwo = (c : Config) → rules_b c ≡ false → AnswersTwo c

-- the state whose numbers are all 0, with any page and bitmap
abbrev pub ZeroAnswersTwo : Type 0
ZeroAnswersTwo = (page bits : List ℕ) → AnswersTwo (config (fresh_state 0 0 0) page bits)

-- ---- the fresh start

-- heads 0, T off, eight idle workers; every word of the bitmap 0, as many as before, and the page as it was
pub record Started (n bw w : ℕ) (page bits : List ℕ) (o : Outcome Config) : Type 0 where
  pub number : o.number ≡ done
  pub value : o.value ≡ 0
  pub blocks : o.after.state.n ≡ n
  pub width : o.after.state.bw ≡ bw
  pub workers : o.after.state.w ≡ w
  pub shared : o.after.state.shared ≡ 0
  pub tagged : o.after.state.tagged ≡ 0
  pub on : o.after.state.on ≡ false
  pub records : length o.after.state.workers ≡ max_workers
  pub idle : (i : ℕ) → worker_of o.after i ≡ blank
  pub untouched : o.after.page ≡ page
  pub words : length o.after.bits ≡ length bits
  pub zeros : (k : ℕ) → get_or o.after.bits k 0 ≡ 0
  pub rules : rules_b o.after ≡ true

-- done, where the page rules hold
abbrev pub FreshDone : Type 0
FreshDone = (n bw w : ℕ) (page bits : List ℕ) → rules_b (config (fresh_state n bw w) page bits) ≡ true → Started n bw w page bits (fresh_of n bw w page bits)

-- refused, it writes nothing and answers the state whose numbers are all 0
abbrev pub FreshRefused : Type 0
FreshRefused =
    (n bw w : ℕ) (page bits : List ℕ) → rules_b (config (fresh_state n bw w) page bits) ≡ false
    → fresh_of n bw w page bits ≡ outcome bad_page 0 (config (fresh_state 0 0 0) page bits)
