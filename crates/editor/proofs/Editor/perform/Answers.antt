-- The words of the records that were decoded, and then what their run came to.
use Rattle.std.proofs.Common.{arith, length-take}
use Rattle.editor.proofs.Performing.{filled-holds, filled-room, run-numbers}
use Rattle.editor.proofs.Editor.perform.Goals as goal

pub overflow_mul-words : goal.overflow_mul-words
overflow_mul-words c = omega (arith, filled-room _ _ c.fill-filled.ensures)

pub shared_ref_as_front-events : goal.shared_ref_as_front-events
shared_ref_as_front-events c = omega (arith, filled-room _ _ c.fill-filled.ensures)

pub returns-clause-records_in_bounds : goal.returns-clause-records_in_bounds
returns-clause-records_in_bounds c =
    omega (arith, (filled-holds _ _ c.fill-filled.ensures).used, length-take c.min.result c.args.self.now.bytes)

pub invariant_of-self : goal.invariant_of-self
invariant_of-self c =
    let k = run-numbers _ _ c.events.ensures in
    record { blocks = k.0; block_words = k.1; workers = k.2 }
