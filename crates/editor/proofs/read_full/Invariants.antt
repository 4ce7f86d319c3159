-- What was read lies within the room; the room that is left shrinks with each read.
use Rattle.std.proofs.Common.{◌≡◌, ◌-◌, ◌≤◌, length}
use Rattle.editor.proofs.read_full.Given as goal

abbrev pub invariant-loop-got : goal.invariant-loop-got
invariant-loop-got g l = (length l.bytes ≡ length l.fn.bytes) × (l.got ≤ length l.bytes)

abbrev pub decreases-loop-got : goal.decreases-loop-got
decreases-loop-got g l = length l.initial.bytes - l.got
