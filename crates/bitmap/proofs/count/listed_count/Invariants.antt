-- `sum` counts the bits of the words passed, bit 0 left out, and n's word is not passed.
use Rattle.std.proofs.Common.{◌≡◌, ◌*◌, ◌≤◌}
use Rattle.bitmap.specs.Bitmap.{bit_put}
use Rattle.bitmap.proofs.Ones.{count_below}
use Rattle.bitmap.proofs.count.listed_count.Given as goal

abbrev pub invariant-loop-w : goal.invariant-loop-w
invariant-loop-w l = record { before : l.w ≤ l.last; counted : l.sum ≡ count_below (bit_put l.bits 0 0) (l.w * 64) }
