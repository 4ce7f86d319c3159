-- The trailing ones of a word are the trailing zeros of its complement.
use Rattle.bitmap.proofs.Trailing.{first-clear}
use Rattle.bitmap.proofs.first.first_clear.Goals as goal

pub returns : goal.returns
returns c = first-clear c.args.word c.ranges.word.fits
