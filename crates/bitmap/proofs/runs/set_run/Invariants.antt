-- As many bits from a on as are done are set.
use Rattle.std.proofs.Common.{◌≡◌}
use Rattle.bitmap.specs.Bitmap.{put_run}
use Rattle.bitmap.proofs.runs.set_run.Given as goal

abbrev pub invariant-loop-done : goal.invariant-loop-done
invariant-loop-done l = l.bits ≡ put_run l.fn.bits l.a l.done 1
