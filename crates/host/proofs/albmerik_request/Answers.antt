-- The request is the run of its event.
use Rattle.std.proofs.Common.{ap, ◌∙◌}
use Rattle.answers.specs.Rows.{Outcome}
use Rattle.machine.specs.Config.{config}
use Rattle.machine.specs.Events.{Run}
use Rattle.host.specs.Calls.{holding}
use Rattle.host.proofs.OneEvent.{one-request, request-in-words}
use Rattle.host.proofs.albmerik_request.Goals as goal

pub returns : goal.returns
returns c =
    let x = c.args in
    let r = c.run.new in
    let here = holding x.state.now x.page.now x.bits.now in
    request-in-words here x.worker x.code x.a x.b x.state.now (config r.s r.page r.bits) r.answers c.finish.ensures.answer c.finish.ensures.words
    (ap (λ (o : Outcome Run). o.after) (rw (c.load-s.ensures, c.from.ensures, c.from-2.ensures) at c.run.ensures) ∙ one-request here x.worker x.code x.a x.b)
