-- A tag above 3 is refused; any other takes the old one's place.
use Rattle.std.proofs.Common.{◌∙◌, sym, ap, arith}
use Rattle.answers.specs.Numbers.{done}
use Rattle.answers.specs.Rows.{answer}
use Rattle.words.proofs.Masks.{address-or}
use Rattle.words.proofs.Tagged.{set-delay, no-delay}
use Rattle.words.proofs.masked_ptr_delay_set_delay.Goals as goal

pub returns-then-tag-gt-TAG : goal.returns-then-tag-gt-TAG
returns-then-tag-gt-TAG c = sym (no-delay c.args.v c.args.tag c.if-tag-gt-TAG.true)

pub returns : goal.returns
returns c = ap (answer done) (address-or c.args.v c.args.tag c.ranges.v.fits (omega arith)) ∙ sym (set-delay c.args.v c.args.tag (omega arith))
