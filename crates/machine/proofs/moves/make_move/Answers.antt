-- A move by the page rules and the worker, and then the worker's turn.
use Rattle.std.proofs.Common.{refl, arith, le-ltb, lt-ltb}
use Rattle.answers.proofs.Rows.{by}
use Rattle.machine.specs.Config.{config}
use Rattle.machine.proofs.MoveArms.{move-is}
use Rattle.machine.proofs.RequestArms.{worker-inside}
use Rattle.machine.proofs.moves.make_move.Goals as goal

pub returns-then-not-keeps_rules : goal.returns-then-not-keeps_rules
returns-then-not-keeps_rules c =
    let x = c.args in
    move-is (config x.state.now x.page.now x.bits.now) x.worker x.flag (by c.keeps_rules.ensures c.if-not-keeps_rules.true) refl refl

pub returns-then-state-worker : goal.returns-then-state-worker
returns-then-state-worker c =
    let x = c.args in
    move-is (config x.state.now x.page.now x.bits.now) x.worker x.flag (by c.keeps_rules.ensures c.if-not-keeps_rules.false) (le-ltb _ _ c.if-state-worker.true) refl

pub offset_bounds-state-worker : goal.offset_bounds-state-worker
offset_bounds-state-worker c =
    let x = c.args in
    let h = worker-inside (config x.state.now x.page.now x.bits.now) x.worker (by c.keeps_rules.ensures c.if-not-keeps_rules.false) c.if-state-worker.false in
    omega arith

pub bounds-state-worker : goal.bounds-state-worker
bounds-state-worker c =
    let x = c.args in
    worker-inside (config x.state.now x.page.now x.bits.now) x.worker (by c.keeps_rules.ensures c.if-not-keeps_rules.false) c.if-state-worker.false

pub returns : goal.returns
returns c =
    let x = c.args in
    move-is (config x.state.now x.page.now x.bits.now) x.worker x.flag (by c.keeps_rules.ensures c.if-not-keeps_rules.false) (lt-ltb _ _ c.if-state-worker.false)
    (rw (c.layout-layout.ensures, c.common-common.ensures) at c.make-moved.ensures)
