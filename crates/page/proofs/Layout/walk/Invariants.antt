-- What is told of the rest of the walk, with room for the blocks that are left, is what is told of the whole.
use Rattle.std.proofs.Common.{◌≡◌, ◌-◌}
use Rattle.page.specs.Page.{lent}
use Rattle.page.specs.Walk.{walk_from, tally}
use Rattle.page.proofs.Layout.walk.Given as goal

abbrev pub invariant-loop-count : goal.invariant-loop-count
invariant-loop-count l =
    let c = lent l.self.n l.self.bw l.page l.bits in
    tally l.count l.last (walk_from c (l.self.n - l.count) l.h) ≡ tally 0 0 (walk_from c l.self.n l.head)
