-- Two bitmaps of words are equal where their lengths and all their bits are. Assumes nothing.
use mathlib.Core.Path.{◌≡◌, sym, ap, ◌∙◌}
use mathlib.Core.Logic.{◌≢◌}
use mathlib.Core.List.{List}
use Prim.Native.Nat.{ℕ, ◌+◌, ◌*◌, ◌/◌, ◌%◌, ◌<◌}
use native.Mathlib.Decide.{dec_lt, ℕ_discrete}
use native.Mathlib.Omega.{arith}
use lib.ListN.{length, get_or}
use lib.Seq.{ext_get_or}
use Rattle.words.specs.Digits.{digit}
use Rattle.words.proofs.Digits.{by_digits}
use Rattle.bitmap.specs.Bitmap.{bit_at, bit_put, Words}
use Rattle.bitmap.proofs.Bits.{at-put-same, at-put-other, put-length, put-words, at_out}

-- bit w * 64 + k is digit k of word w
pub at-word : (bits : List ℕ) (w k : ℕ) → k < 64 → bit_at bits (w * 64 + k) ≡ digit (get_or bits w 0) k
unfolding bit_at
at-word bits w k h =
    let e : (w * 64 + k) / 64 ≡ w = omega arith in
    let f : (w * 64 + k) % 64 ≡ k = omega arith in
    rw (e, f)

-- words that agree in every bit are the same
pub by_bits : (x y : List ℕ) → Words x → Words y → length x ≡ length y → ((i : ℕ) → bit_at x i ≡ bit_at y i) → x ≡ y
unfolding Words
by_bits x y wx wy e h =
    ext_get_or 0 x y e (λ k l. by_digits 64 _ _ (wx k) (wy k) (λ j lj. sym (at-word x k j lj) ∙ h (k * 64 + j) ∙ at-word y k j lj))

-- bits put at different places go in either order
pub put-comm : (bits : List ℕ) (i j a b : ℕ) → Words bits → a < 2 → b < 2 → i ≢ j
    → bit_put (bit_put bits i a) j b ≡ bit_put (bit_put bits j b) i a
put-comm bits i j a b ws ha hb n =
    by_bits x y (put-words _ j b hb (put-words bits i a ha ws)) (put-words _ i a ha (put-words bits j b hb ws)) (lx ∙ sym ly)
    (λ k. pick k (dec_lt (k / 64) (length bits)) (ℕ_discrete k i) (ℕ_discrete k j))
  where
    x : List ℕ
    x = bit_put (bit_put bits i a) j b

    y : List ℕ
    y = bit_put (bit_put bits j b) i a

    lx : length x ≡ length bits
    lx = put-length (bit_put bits i a) j b ∙ put-length bits i a

    ly : length y ≡ length bits
    ly = put-length (bit_put bits j b) i a ∙ put-length bits j b

    pick : (k : ℕ) → Dec (k / 64 < length bits) → Dec (k ≡ i) → Dec (k ≡ j) → bit_at x k ≡ bit_at y k
    pick k (no g) d f = at_out x k (omega (arith, lx)) ∙ sym (at_out y k (omega (arith, ly)))
    pick k (yes l) (yes e) d =
        ap (bit_at x) e ∙ at-put-other _ j i b hb n ∙ at-put-same bits i a ha (omega (arith, ap (λ (m : ℕ). m / 64) e))
        ∙ sym (ap (bit_at y) e ∙ at-put-same (bit_put bits j b) i a ha (omega (arith, put-length bits j b, ap (λ (m : ℕ). m / 64) e)))
    pick k (yes l) (no e) (yes f) =
        ap (bit_at x) f ∙ at-put-same (bit_put bits i a) j b hb (omega (arith, put-length bits i a, ap (λ (m : ℕ). m / 64) f))
        ∙ sym (ap (bit_at y) f ∙ at-put-other _ i j a ha (λ q. n (sym q)) ∙ at-put-same bits j b hb (omega (arith, ap (λ (m : ℕ). m / 64) f)))
    pick k (yes l) (no e) (no f) =
        at-put-other _ j k b hb f ∙ at-put-other bits i k a ha e ∙ sym (at-put-other _ i k a ha e ∙ at-put-other bits j k b hb f)
