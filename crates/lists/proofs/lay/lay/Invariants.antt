-- The blocks from i on are laid.
use Rattle.std.proofs.Common.{◌+◌, ◌-◌, ◌≤◌}
use Rattle.page.specs.Sequences.{up_from}
use Rattle.lists.proofs.Arms.{LaidBy}
use Rattle.lists.proofs.lay.lay.Given as goal

abbrev pub invariant-loop-i : goal.invariant-loop-i
invariant-loop-i l = record { from : l.a ≤ l.i; laid : LaidBy l.layout.bw l.own l.fn.page (up_from l.i (l.a + l.b - l.i)) l.head l.page }
