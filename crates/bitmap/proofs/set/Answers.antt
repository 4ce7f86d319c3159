-- The mask sets the bit in its word; past the slice's end nothing is put.
use Rattle.std.proofs.Common.{sym}
use Rattle.bitmap.proofs.Bits.{put-out}
use Rattle.bitmap.proofs.Masks.{bit-set}
use Rattle.bitmap.proofs.set.Goals as goal

pub returns-then-w-bits : goal.returns-then-w-bits
returns-then-w-bits c = bit-set c.args.bits.now c.args.i

pub returns-else-w-bits : goal.returns-else-w-bits
returns-else-w-bits c = sym (put-out c.args.bits.now c.args.i 1 c.if-w-bits.false)
