-- The record at i is busy, or those after it decide.
use Rattle.std.proofs.Common.{rules, sym, ◌∙◌, ◌<◌, ◌≤◌, length}
use Rattle.machine.proofs.GuardArms.{busy-whole, busy-none, busy-end, busy-at}
use Rattle.machine.proofs.guards.any_busy.Goals as goal

pub loop-i-init : goal.loop-i-init
loop-i-init c = busy-whole _ _

pub returns-then-state-i : goal.returns-then-state-i
returns-then-state-i c =
    let s = c.args.state.now in
    sym (busy-none s.workers s.w c.loop-i.i c.if-state-i.true) ∙ c.loop-i.invariant

pub returns-then-is_busy : goal.returns-then-is_busy
returns-then-is_busy c =
    let s = c.args.state.now in
    let h : c.loop-i.i < length s.workers = search rules in
    sym (busy-at s.workers s.w c.loop-i.i h c.if-state-i.false (sym c.is_busy.ensures ∙ c.if-is_busy.true)) ∙ c.loop-i.invariant

pub loop-i-preserved : goal.loop-i-preserved
loop-i-preserved c =
    let s = c.args.state.now in
    let h : c.loop-i.i < length s.workers = search rules in
    sym (busy-at s.workers s.w c.loop-i.i h c.if-state-i.false (sym c.is_busy.ensures ∙ c.if-is_busy.false)) ∙ c.loop-i.invariant

pub returns : goal.returns
returns c =
    let s = c.args.state.now in
    let h : length s.workers ≤ c.loop-i.i = search rules in
    sym (busy-end s.workers s.w c.loop-i.i h) ∙ c.loop-i.invariant
