-- Tag 1 takes the old one's place.
use Rattle.std.proofs.Common.{arith}
use Rattle.words.proofs.Masks.{address-or}
use Rattle.words.proofs.masked_ptr_delay_set_freeing.Goals as goal

pub returns : goal.returns
returns c = address-or c.args.v 1 c.ranges.v.fits (omega arith)
