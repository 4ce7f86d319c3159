-- Bit 0 of word 0 is cleared, and no other word has it.
use Rattle.std.proofs.Common.{arith, sym, ap, ◌∙◌, ℕ, ◌-◌, ◌^◌, get_or, bit_and}
use Rattle.bitmap.specs.Bitmap.{bit_put}
use Rattle.bitmap.proofs.Masks.{zero_clear, zero-other}
use Rattle.bitmap.proofs.count.without_zero.Goals as goal

pub returns-then-w-eq0 : goal.returns-then-w-eq0
returns-then-w-eq0 c =
    let a = c.args in
    ap (λ (x : ℕ). bit_and x (2 ^ 64 - 2)) c.word_at.ensures ∙ zero_clear a.bits.now (omega (arith, c.type_inv.bits 0))
    ∙ ap (λ (w : ℕ). get_or (bit_put a.bits.now 0 0) w 0) (sym c.if-w-eq0.true)

pub returns-else-w-eq0 : goal.returns-else-w-eq0
returns-else-w-eq0 c =
    let a = c.args in
    c.word_at-else-w-eq0.ensures ∙ sym (zero-other a.bits.now a.w 0 c.if-w-eq0.false)
