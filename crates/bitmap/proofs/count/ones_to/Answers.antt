-- The mask leaves the word's lowest k + 1 bits.
use Rattle.std.proofs.Common.{ap, ◌∙◌, ◌+◌, bit_and}
use lib.Bits.{and_mask}
use Rattle.std.specs.Int.Count.{ones}
use Rattle.words.proofs.Masks.{low_mask}
use Rattle.bitmap.proofs.count.ones_to.Goals as goal

pub returns : goal.returns
returns c =
    let a = c.args in
    c.ones_of.ensures ∙ ap ones (ap (bit_and a.word) (low_mask a.k c.requires) ∙ and_mask a.word (a.k + 1))
