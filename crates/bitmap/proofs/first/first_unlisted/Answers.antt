-- A word that is not full has the smallest unlisted block, and the blocks of a full one are listed.
use Rattle.std.proofs.Common.{arith, ℕ, ap, subst, sym}
use Rattle.bitmap.specs.Bitmap.{FirstClear, found}
use Rattle.bitmap.proofs.Trailing.{word_below, word-smallest, first-all, first-within}
use Rattle.bitmap.proofs.first.first_unlisted.Goals as goal

pub returns-then-k-lt64 : goal.returns-then-k-lt64
returns-then-k-lt64 c =
    let f = subst (λ (x : ℕ). FirstClear x c.first_clear-k.result) c.with_zero.ensures c.first_clear-k.ensures in
    first-within c.args.bits.now c.args.n _ _ (word-smallest _ _ _ f c.loop-w.invariant c.if-k-lt64.true) c.within.ensures

pub loop-w-preserved : goal.loop-w-preserved
loop-w-preserved c =
    let f = subst (λ (x : ℕ). FirstClear x c.first_clear-k.result) c.with_zero.ensures c.first_clear-k.ensures in
    λ j p l. word_below _ _ _ f c.loop-w.invariant j p (omega arith)

pub returns-else-k-lt64 : goal.returns-else-k-lt64
returns-else-k-lt64 c =
    let f = subst (λ (x : ℕ). FirstClear x c.first_clear-k.result) c.with_zero.ensures c.first_clear-k.ensures in
    sym (ap found (first-all c.args.bits.now c.args.n (λ j p l. word_below _ _ _ f c.loop-w.invariant j p (omega arith))))
