-- An event more: it happens, and its answer is written in its place.
use Rattle.std.proofs.Common.{refl, sym, ap, ◌∙◌, ℕ, List}
use Rattle.machine.specs.Config.{config}
use Rattle.machine.specs.Events.{event_at, ran, run_of}
use Rattle.events.proofs.EventArms.{run_more, still-kept}
use Rattle.events.proofs.run.Goals as goal

pub loop-k-init : goal.loop-k-init
unfolding run_of
loop-k-init c = refl

pub happen-answer-requires-clause-rules : goal.happen-answer-requires-clause-rules
happen-answer-requires-clause-rules c = (still-kept c.args.events.now c.loop-k.k _ c.requires.rules c.loop-k.invariant).0

pub happen-answer-requires-clause-layout : goal.happen-answer-requires-clause-layout
happen-answer-requires-clause-layout c =
    c.layout-layout.ensures ∙ sym (still-kept c.args.events.now c.loop-k.k _ c.requires.rules c.loop-k.invariant).1

pub happen-answer-requires-clause-workers : goal.happen-answer-requires-clause-workers
happen-answer-requires-clause-workers c = sym (still-kept c.args.events.now c.loop-k.k _ c.requires.rules c.loop-k.invariant).2

pub loop-k-preserved : goal.loop-k-preserved
loop-k-preserved c =
    let x = c.args in
    let l = c.loop-k in
    let here = config l.state l.page l.bits in
    run_more x.events.now l.k here l.answers (ran (config x.state.now x.page.now x.bits.now) x.answers.now)
    (c.happen-answer.ensures ∙ ap (λ (words : List ℕ). event_at words 0 here) c.read.ensures) refl
    (rw c.from.ensures at c.put.ensures) l.invariant
