-- The words of the records that were decoded, a fresh start, and what the run came to.
use Rattle.std.proofs.Common.{sym, ap, arith, length-take-le}
use Rattle.answers.specs.Rows.{Outcome}
use Rattle.machine.specs.Config.{Config}
use Rattle.table_check.specs.Runs.{zeros_run}
use Rattle.table_check.proofs.Running.{filled-room, run_is}
use Rattle.table_check.proofs.runs.run.Goals as goal

pub overflow_mul-used : goal.overflow_mul-used
overflow_mul-used c = omega (arith, filled-room _ _ c.fill-filled.ensures)

pub slice_bounds-words-end : goal.slice_bounds-words-end
slice_bounds-words-end c = filled-room _ _ c.fill-filled.ensures

pub slice_bounds-events-end-3 : goal.slice_bounds-events-end-3
slice_bounds-events-end-3 c = sym (length-take-le _ _ (filled-room _ _ c.fill-filled.ensures))

pub returns : goal.returns
unfolding zeros_run
returns c =
    let started = ap (λ (o : Outcome Config). o.after) (rw c.unwrap-state.ensures at c.fresh.ensures) in
    rw c.from.ensures (run_is _ _ _ _ c.fill-filled.ensures started c.events-came.ensures)
