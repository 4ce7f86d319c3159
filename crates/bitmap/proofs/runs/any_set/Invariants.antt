-- None of the bits seen is set.
use Rattle.std.proofs.Common.{◌≡◌, false}
use Rattle.bitmap.specs.Bitmap.{any_set}
use Rattle.bitmap.proofs.runs.any_set.Given as goal

abbrev pub invariant-loop-seen : goal.invariant-loop-seen
invariant-loop-seen l = any_set l.bits l.a l.seen ≡ false
