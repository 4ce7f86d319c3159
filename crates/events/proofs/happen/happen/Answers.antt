-- A request of a worker that there is, or of none.
use Rattle.std.proofs.Common.{rules, ◌≡◌, ◌≤◌, ◌<◌, ◌∙◌, refl, arith, le-ltb, lt-ltb}
use Rattle.records.specs.declared.Kind.TheVariants.{Request}
use Rattle.machine.specs.Config.{config}
use Rattle.events.proofs.EventArms.{heard-request, request-happens, has-record}
use Rattle.events.proofs.happen.happen.Goals as goal

pub returns-then-w-e : goal.returns-then-w-e
returns-then-w-e c =
    let x = c.args in
    let e = c.in_ok-e.e in
    let here = config x.state.now x.page.now x.bits.now in
    let is : e.kind ≡ Request = search rules in
    let past : here.state.w ≤ e.worker = search rules in
    request-happens here e.worker e.code e.a e.b c.requires.rules (le-ltb _ _ past) refl ∙ heard-request x.words here e is c.in_ok-e.ensures

pub offset_bounds-state-e : goal.offset_bounds-state-e
offset_bounds-state-e c =
    let x = c.args in
    let here = config x.state.now x.page.now x.bits.now in
    let inside : c.in_ok-e.e.worker < here.state.w = search rules in
    let h = has-record here c.in_ok-e.e.worker c.requires.rules inside in
    omega arith

pub bounds-state-e : goal.bounds-state-e
bounds-state-e c =
    let x = c.args in
    let here = config x.state.now x.page.now x.bits.now in
    let inside : c.in_ok-e.e.worker < here.state.w = search rules in
    has-record here c.in_ok-e.e.worker c.requires.rules inside

pub returns : goal.returns
returns c =
    let x = c.args in
    let e = c.in_ok-e.e in
    let here = config x.state.now x.page.now x.bits.now in
    let is : e.kind ≡ Request = search rules in
    let inside : e.worker < here.state.w = search rules in
    request-happens here e.worker e.code e.a e.b c.requires.rules (lt-ltb _ _ inside) (rw c.requires.layout at c.ask.ensures)
    ∙ heard-request x.words here e is c.in_ok-e.ensures
