-- The records before i say nothing: the answer is that of the records from i on.
use Rattle.std.proofs.Common.{◌≡◌}
use Rattle.machine.specs.Table.{any_busy}
use Rattle.machine.proofs.GuardArms.{busy_from}
use Rattle.machine.proofs.guards.any_busy.Given as goal

abbrev pub invariant-loop-i : goal.invariant-loop-i
invariant-loop-i l = busy_from l.state.workers l.state.w l.i ≡ any_busy l.state.workers l.state.w
