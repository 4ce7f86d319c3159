-- The words before n's, and n's own; where n is past the slice's end, all of them.
use Rattle.std.proofs.Common.{arith, rules, ◌∙◌, ◌+◌, ◌*◌}
use Rattle.bitmap.specs.Bitmap.{bit_put}
use Rattle.bitmap.proofs.Ones.{count_below, below-le, below_more, listed-last, listed-end, listed_le}
use Rattle.bitmap.proofs.count.listed_count.Goals as goal

pub loop-w-init : goal.loop-w-init
unfolding count_below
loop-w-init c = search rules

pub overflow_add-result : goal.overflow_add-result
overflow_add-result c =
    let a = c.args in
    let l = c.loop-w in
    omega (arith, listed-last a.bits.now a.n l.w _ _ c.if-w-last.true l.invariant.counted c.without_zero-word.ensures, listed_le a.bits.now a.n)

pub returns-then-w-last : goal.returns-then-w-last
returns-then-w-last c =
    let a = c.args in
    let l = c.loop-w in
    omega (arith, listed-last a.bits.now a.n l.w _ _ c.if-w-last.true l.invariant.counted c.without_zero-word.ensures)

pub overflow_add-sum : goal.overflow_add-sum
overflow_add-sum c =
    let l = c.loop-w in
    omega (arith, below_more _ l.w _ _ l.invariant.counted c.without_zero-word.ensures (omega arith), below-le (bit_put c.args.bits.now 0 0) ((l.w + 1) * 64))

pub loop-w-preserved : goal.loop-w-preserved
loop-w-preserved c =
    let l = c.loop-w in
    record { before = omega arith; counted = omega (arith, below_more _ l.w _ _ l.invariant.counted c.without_zero-word.ensures (omega arith)) }

pub returns : goal.returns
returns c =
    let l = c.loop-w in
    l.invariant.counted ∙ listed-end c.args.bits.now l.w c.args.n c.loop-w-test.false l.invariant.before
