-- The words before i are equal.
use Rattle.std.proofs.Common.{◌≡◌, ◌+◌}
use Rattle.machine.specs.Readers.{equal_leading}
use Rattle.readers.proofs.ReaderArms.{leading_from}
use Rattle.readers.proofs.equal_leading.Given as goal

abbrev pub invariant-loop-i : goal.invariant-loop-i
invariant-loop-i l = l.i + leading_from l.x l.y l.i ≡ equal_leading l.x l.y
