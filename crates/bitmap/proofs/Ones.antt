-- The count of ones against the bits. Assumes nothing.
use mathlib.Core.Path.{◌≡◌, refl, sym, ap, ap₂, ◌∙◌}
use mathlib.Core.List.{List}
use Prim.Native.Nat.{ℕ, zero, suc, ◌+◌, ◌*◌, ◌/◌, ◌%◌, ◌^◌, ◌≤◌, ◌<◌}
use native.Mathlib.Nat.{mod-lt, mod-one, mod-eq_of_lt, add-zero, add-suc, add_comm, add_assoc}
use native.Mathlib.Numerals.{one-add}
use native.Mathlib.Decide.{ℕ_discrete}
use native.Mathlib.Omega.{arith}
use lib.Pow.{pow_pos, mod-pow-add}
use lib.ListN.{length, get_or}
use lib.Bits.{bit_and, and_mask}
use lib.Count.{ones, ones_cat}
use Rattle.words.specs.Digits.{digit}
use Rattle.words.proofs.Digits.{digit_lt}
use Rattle.bitmap.specs.Bitmap.{bit_at, bit_put, listed_count}
use Rattle.bitmap.proofs.Bits.{bit-lt, at-put-same, at-put-other, put-length, at_out, at_clear}
use Rattle.bitmap.proofs.Equal.{at-word}

-- how many of the bits below m are set
unfoldable pub count_below : List ℕ → ℕ → ℕ
count_below bits zero = 0
count_below bits (suc m) = count_below bits m + bit_at bits m

-- at most all of them are
pub below-le : (bits : List ℕ) (m : ℕ) → count_below bits m ≤ m
unfolding count_below
below-le bits zero = omega arith
below-le bits (suc m) = omega (arith, below-le bits m, bit-lt bits m)

-- past the end none is
below_end : (bits : List ℕ) (w m : ℕ) → length bits ≤ w → w * 64 ≤ m → count_below bits m ≡ count_below bits (w * 64)
unfolding count_below
below_end bits w zero l h =
    let e : 0 ≡ w * 64 = omega arith in
    ap (count_below bits) e
below_end bits w (suc m) l h = pick (ℕ_discrete (w * 64) (suc m)) (below_end bits w m l)
  where
    pick : Dec (w * 64 ≡ suc m) → (w * 64 ≤ m → count_below bits m ≡ count_below bits (w * 64)) → count_below bits m + bit_at bits m ≡ count_below bits (w * 64)
    pick (yes e) ih = ap (count_below bits) (sym e)
    pick (no n) ih = omega (arith, ih (omega arith), at_out bits m (omega arith))

-- with bit 0, those below n + 1 are those from 1 to n
below-listed : (bits : List ℕ) (n : ℕ) → count_below bits (suc n) ≡ listed_count bits n + bit_at bits 0
unfolding count_below listed_count
below-listed bits zero = refl
below-listed bits (suc n) = omega (arith, below-listed bits n)

-- a digit is its own count
ones_small : (d : ℕ) → d < 2 → ones d ≡ d
unfolding ones
ones_small zero h = refl
ones_small (suc zero) h = refl
ones_small (suc (suc d)) h = absurd (omega arith)

-- one more digit of a word
ones-more : (w k : ℕ) → ones (w % 2 ^ suc k) ≡ ones (w % 2 ^ k) + digit w k
unfolding digit
ones-more w k =
    ap (λ (x : ℕ). ones (w % 2 ^ x)) (sym (one-add k)) ∙ ap ones (mod-pow-add w 1 k)
    ∙ ones_cat k (digit w k) (w % 2 ^ k) (mod-lt w (pow_pos k))
    ∙ ap (λ (x : ℕ). x + ones (w % 2 ^ k)) (ones_small (digit w k) (digit_lt w k))
    ∙ add_comm _ _

-- k bits of word w, after all the words before it
below_word : (bits : List ℕ) (w k : ℕ) → k ≤ 64 → count_below bits (w * 64 + k) ≡ count_below bits (w * 64) + ones (get_or bits w 0 % 2 ^ k)
unfolding count_below ones
below_word bits w zero h =
    ap (count_below bits) (add-zero (w * 64)) ∙ sym (ap (λ (x : ℕ). count_below bits (w * 64) + ones x) (mod-one (get_or bits w 0)) ∙ add-zero _)
below_word bits w (suc k) h =
    ap (count_below bits) (add-suc (w * 64) k)
    ∙ ap₂ (λ (x y : ℕ). x + y) (below_word bits w k (omega arith)) (at-word bits w k h)
    ∙ add_assoc _ _ _
    ∙ ap (λ (x : ℕ). count_below bits (w * 64) + x) (sym (ones-more (get_or bits w 0) k))

-- one more word v on the sum s of the words before it
pub below_more : (bits : List ℕ) (w s v : ℕ) → s ≡ count_below bits (w * 64) → v ≡ get_or bits w 0 → v < 2 ^ 64 → s + ones v ≡ count_below bits ((w + 1) * 64)
below_more bits w s v p q h =
    let e : w * 64 + 64 ≡ (w + 1) * 64 = omega arith in
    ap₂ (λ (x y : ℕ). x + ones y) p (sym (mod-eq_of_lt h) ∙ ap (λ (x : ℕ). x % 2 ^ 64) q)
    ∙ sym (below_word bits w 64 (omega arith)) ∙ ap (count_below bits) e

-- ---- the listed count, and the count after a bit is put

-- it goes by the bits 1 to n
pub listed_same : (x y : List ℕ) (n : ℕ) → ((j : ℕ) → 0 < j → j ≤ n → bit_at x j ≡ bit_at y j) → listed_count x n ≡ listed_count y n
unfolding listed_count
listed_same x y zero h = refl
listed_same x y (suc n) h =
    ap₂ (λ (a b : ℕ). a + b) (listed_same x y n (λ j p l. h j p (omega arith))) (h (suc n) (omega arith) (omega arith))

-- bit 0 and the bits above n are not counted
pub listed-put-out : (bits : List ℕ) (n i b : ℕ) → b < 2 → ((0 < i) → n < i) → listed_count (bit_put bits i b) n ≡ listed_count bits n
listed-put-out bits n i b h o = listed_same (bit_put bits i b) bits n (λ j p l. at-put-other bits i j b h (λ e. ne j p l e))
  where
    ne : (j : ℕ) → 0 < j → j ≤ n → j ≡ i → ⊥
    ne j p l e = omega (arith, o (omega arith))

-- any other bit is
pub listed-put : (bits : List ℕ) (n i b : ℕ) → b < 2 → 0 < i → i ≤ n → i / 64 < length bits
    → listed_count (bit_put bits i b) n + bit_at bits i ≡ listed_count bits n + b
unfolding listed_count
listed-put bits zero i b h p l r = absurd (omega arith)
listed-put bits (suc n) i b h p l r = pick (ℕ_discrete i (suc n)) (λ g. listed-put bits n i b h p g r)
  where
    pick : Dec (i ≡ suc n) → (i ≤ n → listed_count (bit_put bits i b) n + bit_at bits i ≡ listed_count bits n + b)
        → listed_count (bit_put bits i b) n + bit_at (bit_put bits i b) (suc n) + bit_at bits i ≡ listed_count bits n + bit_at bits (suc n) + b
    pick (yes e) ih =
        omega (arith, listed-put-out bits n i b h (λ q. omega arith), at-put-same bits i b h r, ap (bit_at bits) e, ap (bit_at (bit_put bits i b)) e)
    pick (no g) ih = omega (arith, ih (omega arith), at-put-other bits i (suc n) b h (λ e. g (sym e)))

-- ---- what the code sums: the words passed with bit 0 cleared

-- without bit 0, those below n + 1 are those from 1 to n
below-is-listed : (bits : List ℕ) (n : ℕ) → count_below (bit_put bits 0 0) (suc n) ≡ listed_count bits n
below-is-listed bits n =
    omega (arith, below-listed (bit_put bits 0 0) n, listed-put-out bits n 0 0 (omega arith) (λ p. absurd (omega arith)), at_clear bits 0)

-- the word v of n, up to bit n, on the sum s of the words before it
pub listed-last : (bits : List ℕ) (n w s v : ℕ) → w ≡ n / 64 → s ≡ count_below (bit_put bits 0 0) (w * 64) → v ≡ get_or (bit_put bits 0 0) w 0
    → s + ones (v % 2 ^ (bit_and n 63 + 1)) ≡ listed_count bits n
listed-last bits n w s v d p q =
    let e : w * 64 + (n % 64 + 1) ≡ suc n = omega arith in
    ap₂ (λ (x y : ℕ). x + ones (y % 2 ^ (bit_and n 63 + 1))) p q
    ∙ rw (and_mask n 6) (sym (below_word (bit_put bits 0 0) w (n % 64 + 1) (omega arith)) ∙ ap (count_below (bit_put bits 0 0)) e ∙ below-is-listed bits n)

-- all words, where n is past them
pub listed-end : (bits : List ℕ) (w n : ℕ) → length bits ≤ w → w ≤ n / 64 → count_below (bit_put bits 0 0) (w * 64) ≡ listed_count bits n
listed-end bits w n l h =
    sym (below_end (bit_put bits 0 0) w (suc n) (omega (arith, put-length bits 0 0)) (omega arith)) ∙ below-is-listed bits n

-- at most n are listed
pub listed_le : (bits : List ℕ) (n : ℕ) → listed_count bits n ≤ n
unfolding listed_count
listed_le bits zero = omega arith
listed_le bits (suc n) = omega (arith, listed_le bits n, bit-lt bits (suc n))
