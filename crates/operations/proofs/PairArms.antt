-- Only a push writes. Assumes nothing.
use Prim.Native.Nat.{ℕ}
use mathlib.Core.Path.{◌≡◌, refl, sym}
use mathlib.Core.Bool.{Bool, true, false, cond, true≢false}
use mathlib.Core.List.{[], ◌∷◌}
use lib.Dec.{eqb}
use Rattle.operations.specs.Operations.{take_shared, take_tagged, set_tag, ask_tag, await_tag, pushes_b, loading, writing, exchanging, swapping, masking, one_of, stages_of, paired_b}

-- only a push writes
pub writing-pushes : (op : ℕ) → paired_b op writing ≡ true → pushes_b op ≡ true
unfolding stages_of one_of
writing-pushes op e = go (pushes_b op) (eqb op take_shared) (eqb op take_tagged) (one_of op (set_tag ∷ ask_tag ∷ [])) (eqb op await_tag) e
  where
    go : (p t m s w : Bool)
        → one_of writing
        (cond p (loading ∷ writing ∷ exchanging ∷ [])
        (cond t (loading ∷ swapping ∷ []) (cond m (masking ∷ []) (cond s (loading ∷ exchanging ∷ []) (cond w (loading ∷ []) [])))))
        ≡ true
        → p ≡ true
    go true t m s w e = refl
    go false true m s w e = absurd (true≢false (sym e))
    go false false true s w e = absurd (true≢false (sym e))
    go false false false true w e = absurd (true≢false (sym e))
    go false false false false true e = absurd (true≢false (sym e))
    go false false false false false e = absurd (true≢false (sym e))
