-- The busy workers of a walk over the records. Assumes nothing.
use Prim.Native.Nat.{ℕ, suc, ◌+◌, ◌-◌, ◌≤◌, ◌<◌}
use mathlib.Core.Path.{◌≡◌, refl, ap, ◌∙◌}
use mathlib.Core.Bool.{Bool, false, ◌||◌}
use mathlib.Core.List.{List, [], ◌∷◌}
use native.Mathlib.Omega.{arith}
use native.Mathlib.Numerals.{add-one}
use lib.ListN.{length, get_or, drop, drop_of_length-le}
use lib.Seq.{drop-cons}
use Rattle.operations.specs.declared.Worker.{Worker}
use Rattle.operations.specs.Operations.{busy_b}
use Rattle.machine.specs.Config.{blank}
use Rattle.machine.specs.Table.{any_busy}

-- ---- the records from i on

-- the first W of the records from i on
abbrev pub busy_from : List Worker → ℕ → ℕ → Bool
busy_from ks w i = any_busy (drop i ks) (w - i)

-- from 0 on, all of them
pub busy-whole : (ks : List Worker) (w : ℕ) → busy_from ks w 0 ≡ any_busy ks w
busy-whole ks w =
    let z : w - 0 ≡ w = omega arith in
    ap (any_busy ks) z

none : (ks : List Worker) → any_busy ks 0 ≡ false
unfolding any_busy
none [] = refl
none (k ∷ ks) = refl

-- past the first W there is none
pub busy-none : (ks : List Worker) (w i : ℕ) → w ≤ i → busy_from ks w i ≡ false
busy-none ks w i h =
    let z : w - i ≡ 0 = omega arith in
    ap (any_busy (drop i ks)) z ∙ none (drop i ks)

-- past the last record there is none
pub busy-end : (ks : List Worker) (w i : ℕ) → length ks ≤ i → busy_from ks w i ≡ false
unfolding any_busy
busy-end ks w i h = simp (drop_of_length-le ks h)

-- the record at i, and those after it
pub busy-at : (ks : List Worker) (w i : ℕ) {b : Bool} → i < length ks → i < w → busy_b (get_or ks i blank) ≡ b → busy_from ks w i ≡ b || busy_from ks w (i + 1)
unfolding any_busy
busy-at ks w i h l e =
    let z : w - i ≡ suc (w - (i + 1)) = omega arith in
    simp (drop-cons ks i blank h, z, e, add-one)
