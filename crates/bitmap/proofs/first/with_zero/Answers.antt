-- Bit 0 of word 0 is set, and no other word has it.
use Rattle.std.proofs.Common.{sym, ap, ◌∙◌, ℕ, bit_or}
use Rattle.bitmap.specs.Bitmap.{with_zero}
use Rattle.bitmap.proofs.Masks.{zero-set, zero-set-other}
use Rattle.bitmap.proofs.first.with_zero.Goals as goal

pub returns-then-w-eq0 : goal.returns-then-w-eq0
returns-then-w-eq0 c =
    let a = c.args in
    ap (λ (x : ℕ). bit_or x 1) c.word_at.ensures ∙ zero-set a.bits.now ∙ ap (with_zero a.bits.now) (sym c.if-w-eq0.true)

pub returns-else-w-eq0 : goal.returns-else-w-eq0
returns-else-w-eq0 c =
    let a = c.args in
    c.word_at-else-w-eq0.ensures ∙ zero-set-other a.bits.now a.w c.if-w-eq0.false
