-- Clearing the blocks that are left comes to what clearing all comes to.
use Rattle.std.proofs.Common.{◌≡◌, ◌-◌}
use Rattle.lists.specs.Own.{clear_all, blocks_from}
use Rattle.lists.proofs.clear.clear_met.Given as goal

abbrev pub invariant-loop : goal.invariant-loop
invariant-loop l =
    clear_all l.bits (blocks_from l.layout.bw l.page (l.count - l.counter) l.h) ≡ clear_all l.fn.bits (blocks_from l.layout.bw l.page l.count l.head)
