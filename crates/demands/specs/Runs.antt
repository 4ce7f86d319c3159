-- Runs of events in a lent slice, five words each: which events the words are, and that what a run leaves and answers is what
-- demand 3 speaks of; demand 1 for runs (docs/RULES.md, Runs of events). No proof stands in this file.
use Rattle.std.specs.Prelude.{ℕ, zero, suc, ◌+◌, ◌*◌, ◌/◌, ◌%◌, ◌≤◌, ◌<◌, ◌≡◌, ◌⊎◌, ◌↔◌, not, cond, List, [], ◌∷◌, ◌++◌, ltb, eqb, length, get_or}
use Rattle.std.proofs.Math.Option.{Option, none, some}
use Rattle.answers.specs.Numbers.{done, bad_page, no_such, none_left}
use Rattle.answers.specs.Rows.{Row, row, Outcome, refused, answer}
use Rattle.answers.specs.declared.Answer.{Answer}
use Rattle.machine.specs.Config.{Config, rules_b, fresh_of}
use Rattle.machine.specs.Events.{event_words, answer_words, a_request, a_move, turns_on, turns_off, flag_of, event_of, Run, ran, run_of, events_of}
use Rattle.machine.specs.Total.{FirstAt}
use Rattle.demands.specs.Simple.{Simple, start}
use Rattle.demands.specs.Moments.{Event, request, move, on, off, step, simple_step, moment, is_moment, AllAllowed, end_of, simple_end}
use Rattle.demands.specs.Relation.{Sim}
use Rattle.demands.specs.Every.{Refines}
use Rattle.demands.specs.Compare.{due}

-- ---- the events of a slice

-- kind 1 is a request, 2 a move with its flag, 3 on, 4 off; an unknown kind is none
unfoldable pub event_read : ℕ → ℕ → ℕ → ℕ → ℕ → Option Event
event_read kind w code a b =
    cond (eqb kind a_request) (some (request w code a b))
    (cond (eqb kind a_move) (some (move w (flag_of code))) (cond (eqb kind turns_on) (some on) (cond (eqb kind turns_off) (some off) none)))

-- event number k of the slice
abbrev pub read_at : List ℕ → ℕ → Option Event
read_at events k =
    event_read (get_or events (k * event_words) 0) (get_or events (k * event_words + 1) 0) (get_or events (k * event_words + 2) 0)
    (get_or events (k * event_words + 3) 0) (get_or events (k * event_words + 4) 0)

abbrev pub known : Option Event → List Event
known none = []
known (some e) = e ∷ []

-- the first m events, in order; unknown kinds are left out
abbrev pub read_first : List ℕ → ℕ → List Event
read_first events zero = []
read_first events (suc m) = read_first events m ++ known (read_at events m)

-- how many there are, and all of them
abbrev pub event_count : List ℕ → ℕ
event_count events = length events / event_words

abbrev pub events_read : List ℕ → List Event
events_read events = read_first events (event_count events)

-- ---- a run is made of steps, in any state

-- the step of an event; an unknown kind is refused with 4 and changes nothing
abbrev pub step_read : Config → Option Event → Outcome Config
step_read c none = refused no_such c
step_read c (some e) = step c e

-- an event by its kind: the steps of demand 3, and 4 for any other kind
pub record ByKind (c : Config) (w code a b : ℕ) : Type 0 where
  pub one : event_of c 1 w code a b ≡ step c (request w code a b)
  pub two : event_of c 2 w code a b ≡ step c (move w (not (eqb code 0)))
  pub three : event_of c 3 w code a b ≡ step c on
  pub four : event_of c 4 w code a b ≡ step c off
  pub other : (kind : ℕ) → (kind ≡ 0) ⊎ (4 < kind) → event_of c kind w code a b ≡ refused no_such c

abbrev pub EveryKind : Type 0
EveryKind = (c : Config) (w code a b : ℕ) → ByKind c w code a b

abbrev pub EventsAreSteps : Type 0
EventsAreSteps = (c : Config) (kind w code a b : ℕ) → event_of c kind w code a b ≡ step_read c (event_read kind w code a b)

-- the answer of a step, and the two words of event k's answer
abbrev pub answer_of : Outcome Config → Answer
answer_of o = answer o.number o.value

abbrev pub answer_at : List ℕ → ℕ → Answer
answer_at answers k = answer (get_or answers (k * answer_words) 0) (get_or answers (k * answer_words + 1) 0)

pub record Stepped (r : Run) (events : List ℕ) (m : ℕ) : Type 0 where
  -- the events read lead to the configuration afterwards
  pub config : (run_of events m r).config ≡ end_of r.config (read_first events m)
  -- an event's answer is that of its step, where the events before it lead
  pub answers : (k : ℕ) → k < m → answer_at (run_of events m r).answers k ≡ answer_of (step_read (end_of r.config (read_first events k)) (read_at events k))
  -- the words behind the last answer are as they were
  pub behind : (j : ℕ) → m * answer_words ≤ j → get_or (run_of events m r).answers j 0 ≡ get_or r.answers j 0
  pub words : length (run_of events m r).answers ≡ length r.answers

-- where there is room for the answers
abbrev pub RunsAreSteps : Type 0
RunsAreSteps = (r : Run) (events : List ℕ) (m : ℕ) → m * answer_words ≤ length r.answers → Stepped r events m

-- ---- demand 1 for runs

-- 0 with the count of events, their answers written where there was room; or 2, 4 or 10, with value 0 and everything as it was
pub record RunAnswered (r : Run) (events : List ℕ) (o : Outcome Run) : Type 0 where
  pub numbers : (o.number ≡ done) ⊎ ((o.number ≡ bad_page) ⊎ ((o.number ≡ no_such) ⊎ (o.number ≡ none_left)))
  pub run : o.number ≡ done → (o.value ≡ event_count events) × (o.after ≡ run_of events (event_count events) r) × (event_count events * answer_words ≤ length r.answers)
  pub refused : 2 ≤ o.number → (o.value ≡ 0) × (o.after ≡ r)

abbrev pub RunsAnswered : Type 0
RunsAnswered = (r : Run) (events : List ℕ) → RunAnswered r events (events_of r events)

-- number k is given exactly when row k applies and no row above it does
abbrev pub run_rows : Run → List ℕ → List Row
run_rows r events =
    row bad_page (not (rules_b r.config)) ∷ row no_such (not (eqb (length events % event_words) 0))
    ∷ row none_left (ltb (length r.answers) (event_count events * answer_words)) ∷ []

abbrev pub RunsByRows : Type 0
RunsByRows = (r : Run) (events : List ℕ) (k : ℕ) → 2 ≤ k → ((events_of r events).number ≡ k) ↔ FirstAt k (run_rows r events)

-- ---- demand 3 for runs

-- a slice holds no store: whatever events are read are allowed
abbrev pub ReadAllowed : Type 0
ReadAllowed = (c : Config) (s : Simple) (events : List ℕ) (m : ℕ) → AllAllowed c s (read_first events m)

-- the answer due: at its moment the simple machine's, at any other move 1 and 0, for an unknown kind 4 and 0
abbrev pub due_to : Config → Simple → Option Event → Answer
due_to c s none = answer no_such 0
due_to c s (some e) = due (is_moment (moment c e)) (simple_step s e)

-- what came of a run that was not refused
pub record RunRefines (c : Config) (s : Simple) (events : List ℕ) (o : Outcome Run) : Type 0 where
  -- of the events read holds all that demand 3 says
  pub refines : Refines c s (events_read events)
  -- they lead to the configuration afterwards, which stands for the simple machine's
  pub config : o.after.config ≡ end_of c (events_read events)
  pub lists : Sim o.after.config (simple_end c s (events_read events))
  -- every event's answer is the one due, where the events before it lead
  pub answers : (k : ℕ) → k < event_count events
      → answer_at o.after.answers k ≡ due_to (end_of c (read_first events k)) (simple_end c s (read_first events k)) (read_at events k)

abbrev pub RunsRefine : Type 0
RunsRefine =
    (c : Config) (s : Simple) → Sim c s → (events answers : List ℕ) → (events_of (ran c answers) events).number ≡ done
    → RunRefines c s events (events_of (ran c answers) events)

-- from every fresh page, after any allowed events: calls, stores and runs before
abbrev pub RunsFromFresh : Type 0
RunsFromFresh =
    (n bw w : ℕ) (page bits : List ℕ) → (fresh_of n bw w page bits).number ≡ done
    → (es : List Event) → AllAllowed (fresh_of n bw w page bits).after (start n w) es
    → (events answers : List ℕ) → (events_of (ran (end_of (fresh_of n bw w page bits).after es) answers) events).number ≡ done
    → RunRefines (end_of (fresh_of n bw w page bits).after es) (simple_end (fresh_of n bw w page bits).after (start n w) es) events
    (events_of (ran (end_of (fresh_of n bw w page bits).after es) answers) events)
