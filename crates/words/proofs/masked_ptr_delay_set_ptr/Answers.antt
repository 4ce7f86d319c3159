-- An address that is no multiple of 4 is refused; any other keeps the word's tag.
use Rattle.std.proofs.Common.{◌≡◌, ◌∙◌, sym, ap, arith, ℕ, ◌+◌, ◌%◌, bit_and}
use Rattle.answers.specs.Numbers.{done}
use Rattle.answers.specs.Rows.{answer}
use Rattle.words.specs.Tagged.{tag_of}
use Rattle.words.proofs.Masks.{tag-mask, or-low}
use Rattle.words.proofs.Tagged.{set-ptr, no-ptr}
use Rattle.words.proofs.masked_ptr_delay_set_ptr.Goals as goal

pub returns-then-address-ne0 : goal.returns-then-address-ne0
returns-then-address-ne0 c = sym (no-ptr c.args.v c.args.address (λ e. c.if-address-ne0.true (tag-mask c.args.address ∙ e)))

pub returns : goal.returns
returns c =
    let a = c.args in
    let e : a.address % 4 ≡ 0 = sym (tag-mask a.address) ∙ c.if-address-ne0.false in
    let t : bit_and a.v 3 ≡ tag_of a.v = tag-mask a.v in
    ap (answer done) (or-low a.address 2 e (omega arith) ∙ ap (λ (x : ℕ). a.address + x) t) ∙ sym (set-ptr a.v a.address e)
