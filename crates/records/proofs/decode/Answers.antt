-- At each return the tests that led there say what stands at the place.
use Rattle.std.proofs.Common.{sym, refl}
use Rattle.std.proofs.lemmas.Result.{err_from_is_err_and}
use borrow.Author.Tests.{le-leb, lt-leb, lt-ltb}
use Rattle.records.proofs.Decoding.{decode_is, unmarked-is, marked-is}
use Rattle.records.proofs.decode.Goals as goal

pub returns-then-bytes-at : goal.returns-then-bytes-at
returns-then-bytes-at c = sym (decode_is c.args.bytes.now c.args.at (le-leb _ _ c.if-bytes-at.true) refl refl)

pub returns-then-bytes-at-lt-RECORD_BYTES : goal.returns-then-bytes-at-lt-RECORD_BYTES
returns-then-bytes-at-lt-RECORD_BYTES c =
    sym (decode_is c.args.bytes.now c.args.at (lt-leb _ _ c.if-bytes-at.false) (lt-ltb _ _ c.if-bytes-at-lt-RECORD_BYTES.true) refl)

pub returns-in_err-kind : goal.returns-in_err-kind
returns-in_err-kind c =
    let p = err_from_is_err_and c.from_residual.result c.from_residual.ensures.1 in
    rw (p.1, p.2) (unmarked-is c.args.bytes.now c.args.at c.if-bytes-at.false c.if-bytes-at-lt-RECORD_BYTES.false c.in_err-kind.ensures)

pub returns : goal.returns
returns c =
    let m = marked-is c.args.bytes.now c.args.at c.if-bytes-at.false c.if-bytes-at-lt-RECORD_BYTES.false c.in_ok-kind.ensures in
    rw (m.0, c.from.ensures, c.from-2.ensures, c.two_bytes.ensures, c.two_bytes-2.ensures) m.1
