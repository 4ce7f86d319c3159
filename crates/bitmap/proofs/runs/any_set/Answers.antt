-- A set bit of the run is seen, and past the slice's end none is set.
use Rattle.std.proofs.Common.{arith, refl, sym, ◌∙◌}
use Rattle.bitmap.specs.Bitmap.{any_from, run_length}
use Rattle.bitmap.proofs.Ranges.{any_at, any-more, any-past}
use Rattle.bitmap.proofs.runs.any_set.Goals as goal

pub loop-seen-init : goal.loop-seen-init
unfolding any_from
loop-seen-init c = refl

pub returns-then-bits-i : goal.returns-then-bits-i
returns-then-bits-i c =
    let a = c.args in
    sym (any-past a.bits.now a.a c.loop-seen.seen (run_length a.a a.b) (omega arith) c.if-bits-i.true c.loop-seen.invariant)

pub returns-then-is_set : goal.returns-then-is_set
returns-then-is_set c =
    let a = c.args in
    sym (any_at a.bits.now a.a (run_length a.a a.b) c.loop-seen.seen (omega arith) (sym c.is_set.ensures ∙ c.if-is_set.true))

pub loop-seen-preserved : goal.loop-seen-preserved
loop-seen-preserved c = any-more _ _ _ c.loop-seen.invariant (sym c.is_set.ensures ∙ c.if-is_set.false)
