-- Each block is laid before those above it, and at the end that is all of them.
use Rattle.std.proofs.Common.{◌≡◌, arith, ap₂, subst, ◌+◌, ◌-◌, List, ℕ}
use Rattle.page.specs.Sequences.{up_from}
use Rattle.lists.proofs.Arms.{LaidBy, lay-none, lay-more}
use Rattle.lists.proofs.lay.lay.Goals as goal

pub loop-i-init : goal.loop-i-init
loop-i-init c = record { from = omega arith; laid = lay-none _ _ _ _ _ (omega arith) }

pub loop-i-preserved : goal.loop-i-preserved
loop-i-preserved c =
    let l = c.loop-i in
    record {
      from = omega arith;
      laid = lay-more _ _ _ _ l.i _ _ (omega arith) (omega arith) (omega arith) (omega arith) c.address-at.ensures c.set_link.ensures l.invariant.laid;
    }

pub returns : goal.returns
returns c =
    let x = c.args in
    let l = c.loop-i in
    let all : up_from l.i (x.a + x.b - l.i) ≡ up_from x.a x.b = ap₂ up_from (omega arith) (omega arith) in
    subst (λ (xs : List ℕ). LaidBy x.layout.bw x.own x.page.now xs l.head l.page) all l.invariant.laid
