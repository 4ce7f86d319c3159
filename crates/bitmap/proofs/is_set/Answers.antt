-- The shifted word's lowest bit is the bit.
use Rattle.std.proofs.Common.{ap, ◌∙◌, ℕ, ◌/◌, ◌^◌, eqb, bit_and}
use Rattle.bitmap.proofs.Masks.{bit-read}
use Rattle.bitmap.proofs.is_set.Goals as goal

pub returns : goal.returns
returns c =
    let a = c.args in
    ap (λ (b : ℕ). eqb b 1) (ap (λ (w : ℕ). bit_and (w / 2 ^ bit_and a.i 63) 1) c.word_at.ensures ∙ bit-read a.bits.now a.i)
