-- The mask clears the bit in its word; past the slice's end nothing is put.
use Rattle.std.proofs.Common.{rules, sym}
use Rattle.bitmap.proofs.Bits.{put-out}
use Rattle.bitmap.proofs.Masks.{bit-clear}
use Rattle.bitmap.proofs.clear.Goals as goal

pub returns-then-w-bits : goal.returns-then-w-bits
returns-then-w-bits c = bit-clear c.args.bits.now c.args.i (search rules)

pub returns-else-w-bits : goal.returns-else-w-bits
returns-else-w-bits c = sym (put-out c.args.bits.now c.args.i 0 c.if-w-bits.false)
