-- A number is one of several where a test of each finds it. Assumes nothing.
use Rattle.std.proofs.Common.{◌≡◌, ℕ, List, [], ◌∷◌, refl, arith}
use Rattle.std.proofs.Math.Dec.{eqb}
use Rattle.std.specs.List.{list_any}
use Rattle.operations.specs.Operations.{one_of}

pub one_of_any : (x : ℕ) (of : List ℕ) → one_of x of ≡ list_any (λ y. eqb y x) of
unfolding one_of
one_of_any x [] = refl
one_of_any x (y ∷ of) = grind (arith, one_of_any x of)
