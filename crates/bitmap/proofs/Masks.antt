-- What the code's masks and shifts compute at a bit of the bitmap. Assumes nothing.
use mathlib.Core.Path.{◌≡◌, refl, ap, ◌∙◌}
use mathlib.Core.Logic.{◌≢◌}
use mathlib.Core.List.{List, [], ◌∷◌}
use Prim.Native.Nat.{ℕ, zero, suc, ◌-◌, ◌*◌, ◌/◌, ◌%◌, ◌^◌, ◌<◌}
use native.Mathlib.Omega.{arith}
use lib.ListN.{get_or, set}
use lib.Seq.{get_or-set_other}
use lib.Bits.{bit_and, bit_or, and_mask}
use Rattle.words.specs.Digits.{digit}
use Rattle.words.proofs.Masks.{or_puts, and-not-puts}
use Rattle.bitmap.specs.Bitmap.{bit_at, bit_put, with_zero}

-- `(word >> (i & 63)) & 1` is bit i
pub bit-read : (bits : List ℕ) (i : ℕ) → bit_and (get_or bits (i / 64) 0 / 2 ^ bit_and i 63) 1 ≡ bit_at bits i
unfolding bit_at digit
bit-read bits i = and_mask _ 1 ∙ ap (λ (k : ℕ). get_or bits (i / 64) 0 / 2 ^ k % 2) (and_mask i 6)

-- `word | 1 << (i & 63)` sets it
pub bit-set : (bits : List ℕ) (i : ℕ) → set bits (i / 64) (bit_or (get_or bits (i / 64) 0) (1 * 2 ^ bit_and i 63 % 2 ^ 64)) ≡ bit_put bits i 1
unfolding bit_put
bit-set bits i = ap (set bits (i / 64)) (rw (and_mask i 6) (or_puts (get_or bits (i / 64) 0) (i % 64) (omega arith)))

-- `word & !(1 << (i & 63))` clears it
pub bit-clear : (bits : List ℕ) (i : ℕ) → get_or bits (i / 64) 0 < 2 ^ 64
    → set bits (i / 64) (bit_and (get_or bits (i / 64) 0) ((2 ^ 64 - 1) - 1 * 2 ^ bit_and i 63 % 2 ^ 64)) ≡ bit_put bits i 0
unfolding bit_put
bit-clear bits i h = ap (set bits (i / 64)) (rw (and_mask i 6) (and-not-puts (get_or bits (i / 64) 0) (i % 64) h (omega arith)))

-- `word & !1` at word 0 clears bit 0
pub zero_clear : (bits : List ℕ) → get_or bits 0 0 < 2 ^ 64 → bit_and (get_or bits 0 0) (2 ^ 64 - 2) ≡ get_or (bit_put bits 0 0) 0 0
unfolding bit_put
zero_clear [] h = refl
zero_clear (w ∷ bits) h = and-not-puts w 0 h (omega arith)

-- and leaves every other word
pub zero-other : (bits : List ℕ) (w b : ℕ) → w ≢ 0 → get_or (bit_put bits 0 b) w 0 ≡ get_or bits w 0
unfolding bit_put
zero-other bits w b h = get_or-set_other bits 0 w _ 0 h

-- `word | 1` at word 0 sets bit 0
pub zero-set : (bits : List ℕ) → bit_or (get_or bits 0 0) 1 ≡ with_zero bits 0
unfolding with_zero
zero-set bits = or_puts (get_or bits 0 0) 0 (omega arith)

-- and no other word has it
pub zero-set-other : (bits : List ℕ) (w : ℕ) → w ≢ 0 → get_or bits w 0 ≡ with_zero bits w
unfolding with_zero
zero-set-other bits zero h = absurd (h refl)
zero-set-other bits (suc w) h = refl
