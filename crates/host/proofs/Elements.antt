-- A list written out element by element, and runs of stores. Assumes nothing.
use Prim.Native.Nat.{ℕ, zero, suc, ◌+◌}
use mathlib.Core.Path.{◌≡◌, ap, ◌∙◌}
use mathlib.Core.List.{List, [], ◌∷◌, ◌++◌, append-nil}
use native.Mathlib.Omega.{arith}
use lib.ListN.{length, get_or, drop, drop_of_length-le}
use lib.Seq.{drop-cons, sets, sets-eq}

module _ {A : Type 0} where
  -- k elements from place i on
  abbrev pub elements : List A → A → ℕ → ℕ → List A
  elements l d i zero = []
  elements l d i (suc k) = get_or l i d ∷ elements l d (suc i) k

  -- a list from a place on, written out
  pub written_out : (l : List A) (d : A) (i k : ℕ) → i + k ≡ length l → drop i l ≡ elements l d i k
  written_out l d i zero e = drop_of_length-le l {i = i} (omega arith)
  written_out l d i (suc k) e = drop-cons l i d (omega arith) ∙ ap (λ (r : List A). get_or l i d ∷ r) (written_out l d (suc i) k (omega arith))

  -- a list stored over all of another
  pub sets-all : (l vs : List A) → length l ≡ length vs → sets l 0 vs ≡ vs
  sets-all l vs e =
      sets-eq vs l 0 (omega arith)
      ∙ ap (λ (r : List A). vs ++ r) (drop_of_length-le l {i = 0 + length vs} (omega arith))
      ∙ append-nil vs
