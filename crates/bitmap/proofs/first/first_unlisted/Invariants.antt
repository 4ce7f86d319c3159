-- Every block of the words passed is listed.
use Rattle.std.proofs.Common.{◌*◌}
use Rattle.bitmap.proofs.Trailing.{SetBelow}
use Rattle.bitmap.proofs.first.first_unlisted.Given as goal

abbrev pub invariant-loop-w : goal.invariant-loop-w
invariant-loop-w l = SetBelow l.bits (l.w * 64)
