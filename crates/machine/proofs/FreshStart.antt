-- Demand 1 at the start: what a fresh start leaves, done and refused, and that a page which breaks the rules, as with the
-- state whose numbers are all 0, is answered with 2 everywhere. Assumes nothing.
use Prim.Native.Nat.{ℕ, zero, suc}
use mathlib.Core.Path.{◌≡◌, refl}
use mathlib.Core.Bool.{Bool, true, false}
use mathlib.Core.List.{List, []}
use lib.ListN.{length, get_or, replicate, length-replicate}
use Rattle.answers.specs.Numbers.{done, bad_page}
use Rattle.answers.specs.Rows.{first, outcome, refused, answer, all}
use Rattle.page.specs.Limits.{max_workers}
use Rattle.page.specs.Page.{fits_b}
use Rattle.machine.specs.Config.{Config, config, lent_of, blank, rules_b, fresh_state, zeroed, fresh_of}
use Rattle.machine.specs.Table.{table, tests_of, move_refusal, on_refusal, off_refusal}
use Rattle.machine.specs.Requests.{request_of}
use Rattle.machine.specs.Moves.{move_of}
use Rattle.machine.specs.Switch.{switch_on_of, switch_off_of}
use Rattle.machine.specs.Readers.{reads_b, listed_count_of, first_unlisted_of, entry_refusal, entry_of, entry_answer_of, compare_refusal, compare_of}
use Rattle.machine.specs.Events.{ran, events_refusal, events_of}
use Rattle.machine.specs.Starting.{AnswersTwo, BrokenAnswersTwo, ZeroAnswersTwo, Started, FreshDone, FreshRefused}

-- ---- 2 everywhere

module _ (c : Config) (e : rules_b c ≡ false) where
  request-two : (w code a b : ℕ) → request_of c w code a b ≡ refused bad_page c
  unfolding request_of table tests_of first
  request-two w code a b = simp e

  move-two : (w : ℕ) (flag : Bool) → move_of c w flag ≡ refused bad_page c
  unfolding move_of move_refusal first
  move-two w flag = simp e

  on-two : switch_on_of c ≡ refused bad_page c
  unfolding switch_on_of on_refusal first
  on-two = simp e

  off-two : switch_off_of c ≡ refused bad_page c
  unfolding switch_off_of off_refusal first
  off-two = simp e

  run-two : (answers events : List ℕ) → events_of (ran c answers) events ≡ refused bad_page (ran c answers)
  unfolding events_of events_refusal first
  run-two answers events = simp e

  -- a reader's test of the rules is the same
  reads-not : reads_b (lent_of c) c.state.w ≡ false
  unfolding reads_b rules_b
  reads-not = e

  count-two : listed_count_of (lent_of c) c.state.w ≡ answer bad_page 0
  unfolding listed_count_of first
  count-two = simp reads-not

  unlisted-two : first_unlisted_of (lent_of c) c.state.w ≡ answer bad_page 0
  unfolding first_unlisted_of first
  unlisted-two = simp reads-not

  entry-two : (a : ℕ) → entry_of (lent_of c) c.state.w a ≡ []
  unfolding entry_of entry_refusal first
  entry-two a = simp reads-not

  entry-answer-two : (a : ℕ) → entry_answer_of (lent_of c) c.state.w a ≡ answer bad_page 0
  unfolding entry_answer_of entry_refusal first
  entry-answer-two a = simp reads-not

  compare-two : (a b : ℕ) → compare_of (lent_of c) c.state.w a b ≡ answer bad_page 0
  unfolding compare_of compare_refusal first
  compare-two a b = simp reads-not

  answers-two : AnswersTwo c
  answers-two = record {
    request = request-two;
    move = move-two;
    on = on-two;
    off = off-two;
    run = run-two;
    count = count-two;
    unlisted = unlisted-two;
    entry = entry-two;
    entry_answer = entry-answer-two;
    compare = compare-two;
  }

pub broken-answers-two : BrokenAnswersTwo
broken-answers-two c e = answers-two c e

zero-breaks : (page bits : List ℕ) → rules_b (config (fresh_state 0 0 0) page bits) ≡ false
unfolding rules_b fits_b all
zero-breaks page bits = refl

pub zero-answers-two : ZeroAnswersTwo
zero-answers-two page bits = broken-answers-two _ (zero-breaks page bits)

-- ---- the fresh start

-- every element of a list that repeats one is that one
pub repeated : {A : Type 0} (m i : ℕ) (x : A) → get_or (replicate m x) i x ≡ x
repeated zero i x = refl
repeated (suc m) zero x = refl
repeated (suc m) (suc i) x = repeated m i x

module _ (n bw w : ℕ) (page bits : List ℕ) where
  fresh-given : rules_b (config (fresh_state n bw w) page bits) ≡ true
      → fresh_of n bw w page bits ≡ outcome done 0 (config (fresh_state n bw w) page (zeroed bits))
  unfolding fresh_of
  fresh-given e = simp e

  zeroed-rules : rules_b (config (fresh_state n bw w) page bits) ≡ true → rules_b (config (fresh_state n bw w) page (zeroed bits)) ≡ true
  unfolding rules_b
  zeroed-rules e = rw length-replicate e

  given-started : rules_b (config (fresh_state n bw w) page bits) ≡ true → Started n bw w page bits (outcome done 0 (config (fresh_state n bw w) page (zeroed bits)))
  given-started e = record {
    number = refl;
    value = refl;
    blocks = refl;
    width = refl;
    workers = refl;
    shared = refl;
    tagged = refl;
    on = refl;
    records = refl;
    idle = λ i. repeated max_workers i blank;
    untouched = refl;
    words = length-replicate (length bits) 0;
    zeros = λ k. repeated (length bits) k 0;
    rules = zeroed-rules e;
  }

pub fresh-done : FreshDone
fresh-done n bw w page bits e = rw (fresh-given n bw w page bits e) (given-started n bw w page bits e)

pub fresh-refused : FreshRefused
unfolding fresh_of
fresh-refused n bw w page bits e = simp e
