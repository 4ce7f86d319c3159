-- What holds of the turns so far, one turn more, and the whole where it stops.
use Rattle.std.proofs.Common.{refl, arith}
use Rattle.records.specs.Fill.{fill_in}
use Rattle.records.proofs.Filling.{holds_at, turn-used}
use Rattle.records.proofs.Turns.{turned-is, turn-out}
use Rattle.records.proofs.fill.Goals as goal

pub loop-records-init : goal.loop-records-init
unfolding fill_in
loop-records-init c = refl

pub fill_one-requires : goal.fill_one-requires
fill_one-requires c =
    let h = holds_at c.args.bytes.now c.args.events.now c.loop-records.records c.loop-records.invariant in
    (h.used, omega (arith, h.room, h.size))

pub loop-records-preserved : goal.loop-records-preserved
loop-records-preserved c =
    turned-is c.args.bytes.now c.args.events.now c.loop-records.records c.loop-records.events c.loop-records.invariant c.in-Ok.ensures

pub overflow_add-records : goal.overflow_add-records
overflow_add-records c =
    omega (arith, turn-used c.args.bytes.now c.args.events.now c.loop-records.records c.loop-records.events c.fill_one.new.events c.loop-records.invariant c.in-Ok.ensures)

pub loop-records-smaller : goal.loop-records-smaller
loop-records-smaller c =
    omega (arith, turn-used c.args.bytes.now c.args.events.now c.loop-records.records c.loop-records.events c.fill_one.new.events c.loop-records.invariant c.in-Ok.ensures)

pub returns-in-Err : goal.returns-in-Err
returns-in-Err c =
    let h = holds_at c.args.bytes.now c.args.events.now c.loop-records.records c.loop-records.invariant in
    turn-out c.args.bytes.now c.args.events.now c.loop-records.records c.loop-records.events c.loop-records.invariant c.in-Err.ensures h.used
