-- What was decoded, put behind the others where there is room.
use Rattle.std.proofs.Common.{◌∙◌, ◌+◌, ap}
use Rattle.std.proofs.lemmas.Result.{err_from_is_err_and}
use borrow.Author.Tests.{lt-ltb, le-ltb}
use Rattle.records.specs.Fill.{filling, going}
use Rattle.records.proofs.Turns.{next-is, event-is}
use Rattle.records.proofs.fill_one.Goals as goal

pub returns-in_err-event : goal.returns-in_err-event
returns-in_err-event c =
    let p = err_from_is_err_and c.from_residual.result c.from_residual.ensures.1 in
    rw (p.1, p.2) (next-is c.args.bytes.now c.args.k c.args.events.now c.in_err-event.ensures)

pub returns-then-events-to-lt-EVENT_WORDS : goal.returns-then-events-to-lt-EVENT_WORDS
returns-then-events-to-lt-EVENT_WORDS c =
    event-is c.args.bytes.now c.args.k c.args.events.now c.in_ok-event.ensures (lt-ltb _ _ c.if-events-to-lt-EVENT_WORDS.true)

pub returns : goal.returns
returns c =
    ap (filling (c.args.k + 1) going) c.put.ensures
    ∙ event-is c.args.bytes.now c.args.k c.args.events.now c.in_ok-event.ensures (le-ltb _ _ c.if-events-to-lt-EVENT_WORDS.false)
