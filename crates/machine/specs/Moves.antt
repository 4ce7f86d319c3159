-- A move of worker w, with its flag (document 01, Requests 6 to 12).
use Rattle.std.specs.Prelude.{ℕ, Bool}
use Rattle.answers.specs.Rows.{Outcome, unless}
use Rattle.staged.specs.Moves.{move_act}
use Rattle.machine.specs.Config.{Config, turn_of, put_turn, over}
use Rattle.machine.specs.Table.{move_refusal}

unfoldable pub move_of : Config → ℕ → Bool → Outcome Config
move_of c w flag = unless (move_refusal c w) c (over (put_turn c w) (move_act (turn_of c w) flag))
