-- As many turns as there are records, none of which stopped; what is left of the bytes shrinks.
use Rattle.std.proofs.Common.{◌≡◌, ◌-◌, ◌*◌, length}
use Rattle.records.specs.Fill.{going, filling, fill_in}
use Rattle.records.proofs.fill.Given as goal

abbrev pub invariant-loop-records : goal.invariant-loop-records
invariant-loop-records l = fill_in l.bytes l.records l.fn.events ≡ filling l.records going l.events

abbrev pub decreases-loop-records : goal.decreases-loop-records
decreases-loop-records l = length l.bytes - 8 * l.records
