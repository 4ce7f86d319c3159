-- Comparing a machine's run with the simple machine: at each moment of the real machine the simple machine's answer is due, at
-- any other move 1 with value 0.
use Rattle.std.specs.Prelude.{Bool, true, false, ◌&&◌, List, [], ◌∷◌, eqb}
use Rattle.answers.specs.Rows.{Outcome, answer}
use Rattle.answers.specs.declared.Answer.{Answer}
use Rattle.machine.specs.Config.{Config}
use Rattle.demands.specs.Simple.{Simple}
use Rattle.demands.specs.Moments.{Event, step, simple_step, moment, is_moment, follow}

-- a machine, by what comes of each event
abbrev pub Machine : Type 0
Machine = Config → Event → Outcome Config

-- the answer that is due
abbrev pub due : Bool → Outcome Simple → Answer
due true q = answer q.number q.value
due false q = answer 1 0

abbrev pub gives : Outcome Config → Answer → Bool
gives o a = eqb o.number a.number && eqb o.value a.value

-- whether a machine gives every answer that is due, beside the real machine and the simple one
abbrev pub keeps_up : Machine → Config → Config → Simple → List Event → Bool
keeps_up f v c s [] = true
keeps_up f v c s (e ∷ es) =
    gives (f v e) (due (is_moment (moment c e)) (simple_step s e)) && keeps_up f (f v e).after (step c e).after (follow (is_moment (moment c e)) s e) es

-- the answers of a run, and the answers due
abbrev pub answers_of : Machine → Config → List Event → List Answer
answers_of f c [] = []
answers_of f c (e ∷ es) = answer (f c e).number (f c e).value ∷ answers_of f (f c e).after es

abbrev pub answers_due : Config → Simple → List Event → List Answer
answers_due c s [] = []
answers_due c s (e ∷ es) = due (is_moment (moment c e)) (simple_step s e) ∷ answers_due (step c e).after (follow (is_moment (moment c e)) s e) es

-- which events are moments
abbrev pub moments_of : Config → List Event → List Bool
moments_of c [] = []
moments_of c (e ∷ es) = is_moment (moment c e) ∷ moments_of (step c e).after es
