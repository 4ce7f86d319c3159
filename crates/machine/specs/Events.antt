-- A run of events in a lent slice, each of five words: kind, worker, code, a, b. Each event's answer is two words.
use Rattle.std.specs.Prelude.{ℕ, zero, suc, ◌+◌, ◌*◌, ◌/◌, ◌%◌, Bool, not, cond, List, [], ◌∷◌, ltb, eqb, length, get_or, set, Result}
use Rattle.answers.specs.Numbers.{done, bad_page, no_such, none_left}
use Rattle.answers.specs.Rows.{row, first, Outcome, outcome, refused, unless}
use Rattle.answers.specs.Refusals as refusals
use Rattle.answers.specs.declared.Refusal.{Refusal}
use Rattle.machine.specs.declared.State.{State}
use Rattle.machine.specs.Config.{Config, config, rules_b}
use Rattle.machine.specs.Requests.{request_of}
use Rattle.machine.specs.Moves.{move_of}
use Rattle.machine.specs.Switch.{switch_on_of, switch_off_of}

-- words of an event, and of an answer
abbrev pub event_words : ℕ
event_words = 5

abbrev pub answer_words : ℕ
answer_words = 2

-- the kinds of events
abbrev pub a_request : ℕ
a_request = 1

abbrev pub a_move : ℕ
a_move = 2

abbrev pub turns_on : ℕ
turns_on = 3

abbrev pub turns_off : ℕ
turns_off = 4

-- the code of a move is its flag: set where it is not 0
abbrev pub flag_of : ℕ → Bool
flag_of code = not (eqb code 0)

-- an unknown kind is answered with 4
unfoldable pub event_of : Config → ℕ → ℕ → ℕ → ℕ → ℕ → Outcome Config
event_of c kind w code a b =
    cond (eqb kind a_request) (request_of c w code a b)
    (cond (eqb kind a_move) (move_of c w (flag_of code))
    (cond (eqb kind turns_on) (switch_on_of c) (cond (eqb kind turns_off) (switch_off_of c) (refused no_such c))))

-- the configuration and the answers so far
pub record Run : Type 0 where
  pub config : Config
  pub answers : List ℕ

abbrev pub ran : Config → List ℕ → Run
ran c answers = record { config = c; answers = answers }

-- what came of a run: the answer, and what the state and the slices hold
abbrev pub came_run : Result ℕ Refusal → State → List ℕ → List ℕ → List ℕ → Outcome Run
came_run r s page bits answers = outcome (refusals.told r).number (refusals.told r).value (ran (config s page bits) answers)

-- an event's answer written in its place
abbrev pub told : ℕ → Run → Outcome Config → Run
told k r o = ran o.after (set (set r.answers (k * answer_words) o.number) (k * answer_words + 1) o.value)

-- event number k of the slice
abbrev pub event_at : List ℕ → ℕ → Config → Outcome Config
event_at events k c =
    event_of c (get_or events (k * event_words) 0) (get_or events (k * event_words + 1) 0) (get_or events (k * event_words + 2) 0)
    (get_or events (k * event_words + 3) 0) (get_or events (k * event_words + 4) 0)

-- the run after it
abbrev pub turn_at : List ℕ → ℕ → Run → Run
turn_at events k r = told k r (event_at events k r.config)

-- the first m events, in order
unfoldable pub run_of : List ℕ → ℕ → Run → Run
run_of events zero r = r
run_of events (suc m) r = turn_at events m (run_of events m r)

-- 2 for the page rules, 4 for a slice of events that is cut, 10 for too few words for the answers
unfoldable pub events_refusal : Config → List ℕ → List ℕ → ℕ
events_refusal c events answers =
    first
    (row bad_page (not (rules_b c))
    ∷ row no_such (not (eqb (length events % event_words) 0))
    ∷ row none_left (ltb (length answers) (length events / event_words * answer_words))
    ∷ [])

-- the count of events, with every answer written; refused, nothing changes
unfoldable pub events_of : Run → List ℕ → Outcome Run
events_of r events =
    unless (events_refusal r.config events r.answers) r
    (outcome done (length events / event_words) (run_of events (length events / event_words) r))
