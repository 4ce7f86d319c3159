-- Trailing zeros, and the search for a clear bit, against the bits. Assumes nothing.
use mathlib.Core.Path.{◌≡◌, refl, sym, ap, ◌∙◌}
use mathlib.Core.Logic.{◌≢◌, ◌⊎◌, inl, inr, ⊎_elim, ◌↔◌}
use mathlib.Core.Bool.{cond}
use mathlib.Core.List.{List}
use Prim.Native.Nat.{ℕ, zero, suc, ◌+◌, ◌-◌, ◌*◌, ◌/◌, ◌%◌, ◌^◌, ◌≤◌, ◌<◌, suc-le-suc}
use native.Mathlib.Nat.{add-zero, add-suc, suc-add, le_of_suc-le-suc, not-suc-le-zero}
use native.Mathlib.Decide.{dec_lt, dec_le, ℕ_discrete}
use native.Mathlib.Omega.{arith}
use borrow.Author.Tests.{le-leb, lt-leb, ne_eqb}
use Rattle.std.proofs.Common.{Option, Some, None}
use lib.Dec.{leb}
use lib.ListN.{get_or}
use lib.Count.{count_trailing_zeros, under, trailing_le}
use Rattle.words.specs.Digits.{digit}
use Rattle.words.proofs.Digits.{digit_lt, half-digit, first-digit, put_same, put_other}
use Rattle.words.proofs.Masks.{not_digit}
use Rattle.bitmap.specs.Bitmap.{bit_at, when_clear, with_zero, first_from, first_unlisted, found, FirstClear}
use Rattle.bitmap.proofs.Bits.{bit-lt}
use Rattle.bitmap.proofs.Equal.{at-word}

-- the digits below the lowest set one are 0
zeros-below : (k n j : ℕ) → j < count_trailing_zeros k n → digit n j ≡ 0
unfolding count_trailing_zeros
zeros-below zero n j h = absurd (not-suc-le-zero h)
zeros-below (suc k) n j h = go (n % 2) j (first-digit n) (zeros-below k (n / 2)) h
  where
    go : (d j : ℕ) → digit n 0 ≡ d → ((i : ℕ) → i < count_trailing_zeros k (n / 2) → digit (n / 2) i ≡ 0) → j < under d (count_trailing_zeros k (n / 2)) → digit n j ≡ 0
    go zero zero e ih l = e
    go zero (suc j) e ih l = sym (half-digit n j) ∙ ih j (le_of_suc-le-suc l)
    go (suc d) j e ih l = absurd (not-suc-le-zero l)

-- and that one is 1
zeros-end : (k n : ℕ) → count_trailing_zeros k n < k → digit n (count_trailing_zeros k n) ≡ 1
unfolding count_trailing_zeros
zeros-end zero n h = absurd (not-suc-le-zero h)
zeros-end (suc k) n h = go (n % 2) (first-digit n) (omega arith) (zeros-end k (n / 2)) h
  where
    t : ℕ
    t = count_trailing_zeros k (n / 2)

    go : (d : ℕ) → digit n 0 ≡ d → d < 2 → (t < k → digit (n / 2) t ≡ 1) → under d t < suc k → digit n (under d t) ≡ 1
    go zero e b ih l = sym (half-digit n t) ∙ ih (le_of_suc-le-suc l)
    go (suc d) e b ih l = omega arith

-- the trailing zeros of `!w` end at the lowest clear digit of w
pub first-clear : (w : ℕ) → w < 2 ^ 64 → FirstClear w (count_trailing_zeros 64 ((2 ^ 64 - 1) - w))
first-clear w h =
    let t : ℕ = count_trailing_zeros 64 ((2 ^ 64 - 1) - w) in
    let le : t ≤ 64 = trailing_le 64 ((2 ^ 64 - 1) - w) in
    record {
      most = le;
      before = λ j l. omega (arith, digit_lt w j, not_digit 64 w j h (omega arith), zeros-below 64 ((2 ^ 64 - 1) - w) j l);
      here = λ l. omega (arith, not_digit 64 w t h l, zeros-end 64 ((2 ^ 64 - 1) - w) l);
    }

-- every block below m is listed
abbrev pub SetBelow : List ℕ → ℕ → Type 0
SetBelow bits m = (j : ℕ) → 0 < j → j < m → bit_at bits j ≡ 1

-- block i is the smallest that is not
pub record Smallest (bits : List ℕ) (i : ℕ) : Type 0 where
  pub pos : 0 < i
  pub clear : bit_at bits i ≡ 0
  pub before : SetBelow bits i

-- ---- a word of the bitmap with bit 0 set

-- its digits are the bitmap's bits, but for bit 0
zero-digit : (bits : List ℕ) (w k : ℕ) → k < 64 → 0 < w * 64 + k → digit (with_zero bits w) k ≡ bit_at bits (w * 64 + k)
unfolding with_zero
zero-digit bits zero k h p = put_other (get_or bits 0 0) 0 1 k (omega arith) (omega arith) ∙ sym (at-word bits 0 k h)
zero-digit bits (suc w) k h p = sym (at-word bits (suc w) k h)

-- its lowest clear digit is never bit 0
zero-never : (bits : List ℕ) (w k : ℕ) → digit (with_zero bits w) k ≡ 0 → 0 < w * 64 + k
unfolding with_zero
zero-never bits zero zero e = absurd (omega (arith, put_same (get_or bits 0 0) 0 1 (omega arith)))
zero-never bits zero (suc k) e = omega arith
zero-never bits (suc w) k e = omega arith

-- once word w is looked at: the blocks below its lowest clear digit are listed
pub word_below : (bits : List ℕ) (w k : ℕ) → FirstClear (with_zero bits w) k → SetBelow bits (w * 64) → SetBelow bits (w * 64 + k)
word_below bits w k f s j p l = pick (dec_lt j (w * 64))
  where
    pick : Dec (j < w * 64) → bit_at bits j ≡ 1
    pick (yes g) = s j p g
    pick (no g) =
        let e : w * 64 + (j - w * 64) ≡ j = omega arith in
        ap (bit_at bits) (sym e) ∙ sym (zero-digit bits w (j - w * 64) (omega (arith, f.most)) (omega arith))
        ∙ f.before (j - w * 64) (omega arith)

-- and that digit, if there is one, is the smallest block that is not
pub word-smallest : (bits : List ℕ) (w k : ℕ) → FirstClear (with_zero bits w) k → SetBelow bits (w * 64) → k < 64 → Smallest bits (w * 64 + k)
word-smallest bits w k f s h =
    let p : 0 < w * 64 + k = zero-never bits w k (f.here h) in
    record { pos = p; clear = sym (zero-digit bits w k h p) ∙ f.here h; before = word_below bits w k f s }

-- ---- the search

-- m set bits from i on, then a clear one
from_is : (bits : List ℕ) (i f m : ℕ) → m < f → ((j : ℕ) → j < m → bit_at bits (i + j) ≡ 1) → bit_at bits (i + m) ≡ 0 → first_from bits i f ≡ i + m
unfolding first_from
from_is bits i zero m l s z = absurd (not-suc-le-zero l)
from_is bits i (suc f) zero l s z =
    ap (λ (b : ℕ). when_clear b i (first_from bits (suc i) f)) (ap (bit_at bits) (sym (add-zero i)) ∙ z) ∙ sym (add-zero i)
from_is bits i (suc f) (suc m) l s z =
    ap (λ (b : ℕ). when_clear b i (first_from bits (suc i) f)) (ap (bit_at bits) (sym (add-zero i)) ∙ s 0 (omega arith))
    ∙ from_is bits (suc i) f m (le_of_suc-le-suc l) (λ j h. ap (bit_at bits) (suc-add i j ∙ sym (add-suc i j)) ∙ s (suc j) (suc-le-suc h))
    (ap (bit_at bits) (suc-add i m ∙ sym (add-suc i m)) ∙ z)
    ∙ suc-add i m ∙ sym (add-suc i m)

-- set bits only
from-none : (bits : List ℕ) (i f : ℕ) → ((j : ℕ) → j < f → bit_at bits (i + j) ≡ 1) → first_from bits i f ≡ 0
unfolding first_from
from-none bits i zero s = refl
from-none bits i (suc f) s =
    ap (λ (b : ℕ). when_clear b i (first_from bits (suc i) f)) (ap (bit_at bits) (sym (add-zero i)) ∙ s 0 (omega arith))
    ∙ from-none bits (suc i) f (λ j h. ap (bit_at bits) (suc-add i j ∙ sym (add-suc i j)) ∙ s (suc j) (suc-le-suc h))

-- the smallest unlisted block is found where it is within n
pub first-is : (bits : List ℕ) (n i : ℕ) → Smallest bits i → i ≤ n → first_unlisted bits n ≡ i
first-is bits n i s l =
    let p : 0 < i = s.pos in
    let e : 1 + (i - 1) ≡ i = omega arith in
    from_is bits 1 n (i - 1) (omega arith) (λ j h. s.before (1 + j) (omega arith) (omega arith)) (ap (bit_at bits) e ∙ s.clear) ∙ e

-- nothing is found where all blocks to n are listed
pub first-all : (bits : List ℕ) (n : ℕ) → SetBelow bits (n + 1) → first_unlisted bits n ≡ 0
first-all bits n s = from-none bits 1 n (λ j h. s (1 + j) (omega arith) (omega arith))

-- both in one: that block if it is at most n
pub first-within : (bits : List ℕ) (n i : ℕ) (r : Option ℕ) → Smallest bits i → r ≡ cond (leb i n) (Some i) None
    → r ≡ found (first_unlisted bits n)
first-within bits n i r s e = pick (dec_le i n)
  where
    pick : Dec (i ≤ n) → r ≡ found (first_unlisted bits n)
    pick (yes l) =
        let q : r ≡ Some i = e ∙ simp (le-leb i n l) in
        q ∙ sym (ap found (first-is bits n i s l) ∙ simp (ne_eqb i 0 (λ z. omega (arith, s.pos))))
    pick (no g) =
        let q : r ≡ None = e ∙ simp (lt-leb i n (omega arith)) in
        q ∙ sym (ap found (first-all bits n (λ j p l. s.before j p (omega arith))))

-- one of the two is so
either : (bits : List ℕ) (n : ℕ) → SetBelow bits (n + 1) ⊎ ((i : ℕ) × Smallest bits i × i ≤ n)
either bits zero = inl (λ j p l. absurd (omega arith))
either bits (suc n) = ⊎_elim (λ s. pick s (ℕ_discrete (bit_at bits (suc n)) 0)) (λ f. inr (f.0, f.1, omega (arith, f.2))) (either bits n)
  where
    pick : SetBelow bits (n + 1) → Dec (bit_at bits (suc n) ≡ 0) → SetBelow bits (suc n + 1) ⊎ ((i : ℕ) × Smallest bits i × i ≤ suc n)
    pick s (yes z) = inr (suc n, record { pos = omega arith; clear = z; before = λ j p l. s j p (omega arith) }, omega arith)
    pick s (no z) = inl (λ j p l. more j p l (ℕ_discrete j (suc n)))
      where
        more : (j : ℕ) → 0 < j → j < suc n + 1 → Dec (j ≡ suc n) → bit_at bits j ≡ 1
        more j p l (yes e) = ap (bit_at bits) e ∙ omega (arith, bit-lt bits (suc n))
        more j p l (no g) = s j p (omega arith)

-- a block that is found is within n, and is the smallest unlisted one
pub first_found : (bits : List ℕ) (n : ℕ) → first_unlisted bits n ≢ 0 → first_unlisted bits n ≤ n × Smallest bits (first_unlisted bits n)
first_found bits n h = ⊎_elim (λ s. absurd (h (first-all bits n s))) found (either bits n)
  where
    found : (i : ℕ) × Smallest bits i × i ≤ n → first_unlisted bits n ≤ n × Smallest bits (first_unlisted bits n)
    found f = rw (first-is bits n f.0 f.1 f.2) (f.2, f.1)

-- nothing is found exactly where every block of 1 to n is listed
pub first-none : (bits : List ℕ) (n : ℕ) → first_unlisted bits n ≡ 0 ↔ ((j : ℕ) → 0 < j → j ≤ n → bit_at bits j ≡ 1)
first-none bits n = (λ e. ⊎_elim (λ s j p l. s j p (omega arith)) (λ f. absurd (found e f)) (either bits n), λ s. first-all bits n (λ j p l. s j p (omega arith)))
  where
    found : first_unlisted bits n ≡ 0 → (i : ℕ) × Smallest bits i × i ≤ n → ⊥
    found e f = omega (arith, f.1.pos, first-is bits n f.0 f.1 f.2)
