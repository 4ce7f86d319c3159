-- The number of a test that a reader makes first: 0 where the entry may be read.
use Rattle.std.specs.Prelude.{ℕ, Result, Ok, Err}
use Rattle.answers.specs.Numbers.{done}
use Rattle.answers.specs.Refusals.{number_of}
use Rattle.answers.specs.declared.Refusal.{Refusal}

abbrev pub readable : Result Unit Refusal → ℕ
readable (Ok u) = done
readable (Err e) = number_of e
