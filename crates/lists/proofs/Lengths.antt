-- The statements of `Lengths`, proved from the exact sequences. Assumes nothing.
use Prim.Native.Nat.{ℕ, zero, suc, ◌+◌, ◌≤◌}
use mathlib.Core.Path.{◌≡◌, refl, ◌∙◌, ap}
use mathlib.Core.List.{List, [], ◌∷◌, ◌++◌}
use native.Mathlib.Omega.{arith}
use lib.ListN.{length, length-append}
use Rattle.page.specs.Page.{Lent, Rules}
use Rattle.page.specs.Sequences.{times, Once, Apart, up_from, Runs}
use Rattle.page.proofs.Counting.{times-append, length-le, each_append, up-length}
use Rattle.page.proofs.Running.{run-once, run_short}
use Rattle.lists.specs.Own.{pop_of}
use Rattle.lists.specs.Lengths.{OwnHasLength, LengthsGo, OneListFits, TwoListsFit}
use Rattle.lists.proofs.Sequences.{insert-puts-first, pop-takes-first, append-puts-taken-first, extend-puts-ascending-first, release-clears-all}

-- two lists that run and share no block meet none twice
once-both : (c : Lent) (h k : ℕ) (xs ys : List ℕ) → Rules c → Runs c h xs → Runs c k ys → Apart xs ys → Once (xs ++ ys)
once-both c h k xs ys r x y apart i = go (times i xs) refl
  where
    go : (m : ℕ) → times i xs ≡ m → times i (xs ++ ys) ≤ 1
    go zero e = omega (arith, times-append i xs ys, run-once c r k ys y i)
    go (suc m) e = omega (arith, times-append i xs ys, run-once c r h xs x i, apart i (omega arith))

pub one-list-fits : OneListFits
one-list-fits c h xs r x = run_short c r h xs x

pub two-lists-fit : TwoListsFit
two-lists-fit c h k xs ys r x y apart =
    omega (
      arith,
      length-append xs ys,
      length-le c.n (xs ++ ys) (once-both c h k xs ys r x y apart)
          (each_append xs ys (λ i b. ((x.listed i b).low, (x.listed i b).high)) (λ i b. ((y.listed i b).low, (y.listed i b).high))),
    )

pub lengths-go : LengthsGo
lengths-go c xs r x =
    record {
      insert = λ a low high clear.
          record { blocks = a ∷ xs; runs = (insert-puts-first c a xs r low high clear x).leaves.own; many = omega arith };
      pop = λ k e. pop xs k x e;
      append = λ taken y apart.
          record {
            blocks = taken ++ xs;
            runs = (append-puts-taken-first c taken xs r y x (once-both c.lent c.got c.own taken xs r y x apart)).leaves.own;
            many = length-append taken xs;
          };
      extend = λ a b low some high clear.
          record {
            blocks = up_from a b ++ xs;
            runs = (extend-puts-ascending-first c a b xs r low some high clear x).leaves.own;
            many = length-append (up_from a b) xs ∙ ap (λ (m : ℕ). m + length xs) (up-length a b);
          };
      release = record { blocks = []; runs = (release-clears-all c xs r x).leaves.own; many = refl };
    }
  where
    pop : (xs : List ℕ) (k : ℕ) → Runs c.lent c.own xs → length xs ≡ k + 1 → OwnHasLength (pop_of c) k
    pop [] k x e = absurd (omega arith)
    pop (i ∷ xs) k x e = record { blocks = xs; runs = (pop-takes-first c i xs r x).leaves.own; many = omega arith }
