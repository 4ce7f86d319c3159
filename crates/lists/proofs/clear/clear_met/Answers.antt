-- One block more is cleared; after the last none is left.
use Rattle.std.proofs.Common.{◌∙◌, sym, arith}
use Rattle.lists.proofs.Walks.{clear_none, clear-more}
use Rattle.lists.proofs.clear.clear_met.Goals as goal

pub loop-preserved : goal.loop-preserved
loop-preserved c =
    let l = c.loop in
    clear-more _ _ _ l.h _ _ (omega arith) (omega arith) (omega arith) c.block.ensures c.clear.ensures c.link-h.ensures ∙ l.invariant

pub returns : goal.returns
returns c = sym (clear_none _ _ _ _ _ (omega arith)) ∙ c.loop.invariant
