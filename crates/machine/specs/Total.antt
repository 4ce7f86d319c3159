-- Demand 1: any state, page, bitmap, worker, code and argument gets a defined answer, and a refusal changes nothing. No proof
-- stands in this file.
use Rattle.std.specs.Prelude.{ℕ, ◌≤◌, ◌≡◌, ◌⊎◌, ◌↔◌, Bool, true, false, not, ◌&&◌, List, [], ◌∷◌, eqb, ltb, get_or}
use Rattle.answers.specs.Numbers.{done, under_way, bad_page, no_worker, no_such, busy, idle, switched, not_empty, listed, none_left, damaged}
use Rattle.answers.specs.Rows.{Row, row, Outcome}
use Rattle.words.specs.Tagged.{address_of}
use Rattle.page.specs.Keeps.{Keeps}
use Rattle.operations.specs.Operations.{takes_b, on_tagged_b, busy_b, one_of}
use Rattle.staged.specs.Damage.{damaged_b}
use Rattle.machine.specs.Config.{Config, lent_of, worker_of, turn_of, blank, rules_b}
use Rattle.machine.specs.Table.{pop, tests_of, any_busy}
use Rattle.machine.specs.Requests.{request_of}
use Rattle.machine.specs.Moves.{move_of}
use Rattle.machine.specs.Switch.{switch_on_of, switch_off_of}
use Rattle.machine.specs.Events.{Run, events_of}

-- a contract that is an equation with a definition permits one answer: two that meet it are equal
abbrev pub OneAnswer : Type 1
OneAnswer = (A : Type 0) (definition x y : A) → x ≡ definition → y ≡ definition → x ≡ y

-- the number is one of the table's; from 2 up the value is 0 and everything stays as it was
pub record Answered (c : Config) (o : Outcome Config) : Type 0 where
  pub within : o.number ≤ damaged
  pub refused : 2 ≤ o.number → (o.value ≡ 0) × (o.after ≡ c)

abbrev pub AllAnswered : Type 0
AllAnswered =
    ((c : Config) (w code a b : ℕ) → Answered c (request_of c w code a b)) × ((c : Config) (w : ℕ) (flag : Bool) → Answered c (move_of c w flag))
    × ((c : Config) → Answered c (switch_on_of c)) × ((c : Config) → Answered c (switch_off_of c))

-- a move gets only 0, 1, 2, 3, 6 or 11
abbrev pub MoveNumbers : Type 0
MoveNumbers =
    (c : Config) (w : ℕ) (flag : Bool) → one_of (move_of c w flag).number (done ∷ under_way ∷ bad_page ∷ no_worker ∷ idle ∷ damaged ∷ []) ≡ true

-- ---- number k is given exactly when row k applies and no row above it does

abbrev pub FirstAt : ℕ → List Row → Type 0
FirstAt k [] = ⊥
FirstAt k (r ∷ rows) = ((r.applies ≡ true) × (r.number ≡ k)) ⊎ ((r.applies ≡ false) × FirstAt k rows)

-- the table of a request, row by row
abbrev pub request_rows : Config → ℕ → ℕ → ℕ → ℕ → List Row
request_rows c w code a b =
    let t = tests_of c w code a b in
    row bad_page t.rules ∷ row no_worker t.worker ∷ row no_such t.arguments ∷ row busy t.busy ∷ row switched (on_tagged_b code && t.off)
    ∷ row not_empty (takes_b code && t.holds) ∷ row listed t.listed ∷ row none_left (eqb code pop && t.empty) ∷ row damaged t.damaged ∷ []

abbrev pub move_rows : Config → ℕ → List Row
move_rows c w =
    row bad_page (not (rules_b c)) ∷ row no_worker (not (ltb w c.state.w)) ∷ row idle (not (busy_b (worker_of c w))) ∷ row damaged (damaged_b (turn_of c w)) ∷ []

abbrev pub on_rows : Config → List Row
on_rows c = row bad_page (not (rules_b c)) ∷ row switched c.state.on ∷ []

abbrev pub off_rows : Config → List Row
off_rows c =
    row bad_page (not (rules_b c)) ∷ row busy (any_busy c.state.workers c.state.w) ∷ row switched (not c.state.on)
    ∷ row not_empty (not (eqb (address_of c.state.tagged) 0)) ∷ []

abbrev pub ExactlyByRows : Type 0
ExactlyByRows =
    ((c : Config) (w code a b k : ℕ) → 2 ≤ k → ((request_of c w code a b).number ≡ k) ↔ FirstAt k (request_rows c w code a b))
    × ((c : Config) (w : ℕ) (flag : Bool) (k : ℕ) → 2 ≤ k → ((move_of c w flag).number ≡ k) ↔ FirstAt k (move_rows c w))
    × ((c : Config) (k : ℕ) → 2 ≤ k → ((switch_on_of c).number ≡ k) ↔ FirstAt k (on_rows c))
    × ((c : Config) (k : ℕ) → 2 ≤ k → ((switch_off_of c).number ≡ k) ↔ FirstAt k (off_rows c))

-- ---- what never changes, in any state

-- words that are no links, bit 0, bits above n, and the records from W on
pub record NeverChanges (c d : Config) : Type 0 where
  pub lent : Keeps (lent_of c) (lent_of d)
  pub w : d.state.w ≡ c.state.w
  pub records : (u : ℕ) → c.state.w ≤ u → get_or d.state.workers u blank ≡ get_or c.state.workers u blank

abbrev pub AllKept : Type 0
AllKept =
    ((c : Config) (w code a b : ℕ) → NeverChanges c (request_of c w code a b).after) × ((c : Config) (w : ℕ) (flag : Bool) → NeverChanges c (move_of c w flag).after)
    × ((c : Config) → NeverChanges c (switch_on_of c).after) × ((c : Config) → NeverChanges c (switch_off_of c).after)

-- and under every run of events
abbrev pub RunsKept : Type 0
RunsKept = (r : Run) (events : List ℕ) → NeverChanges r.config (events_of r events).after.config
