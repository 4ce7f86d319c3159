-- The refusal is one of the two outcomes; the check finds the other.
use Rattle.std.proofs.Common.{refl}
use Rattle.answers.proofs.Rows.{by}
use Rattle.lists.proofs.Arms.{empty-is}
use Rattle.lists.proofs.Heads.is_empty.Goals as goal

pub returns-then-not-fits : goal.returns-then-not-fits
returns-then-not-fits c = empty-is _ (by c.fits.ensures c.if-not-fits.true) refl
