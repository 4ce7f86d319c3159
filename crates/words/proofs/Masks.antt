-- Masks and shifts against digits, division and remainder, at any width and place. Assumes nothing.
use mathlib.Core.Path.{◌≡◌, sym, ap, ap₂, ◌∙◌}
use Prim.Native.Nat.{ℕ, zero, suc, ◌+◌, ◌-◌, ◌*◌, ◌/◌, ◌%◌, ◌^◌, ◌≤◌, ◌<◌, min}
use native.Mathlib.Nat.{mod-lt, pow-suc, add-zero, one-mul, le_of_suc-le-suc, not-suc-le-zero}
use native.Mathlib.Omega.{arith}
use lib.Pow.{pow_pos, pow-lt, split, shl_exact, shr_mod, ones_split, high, ones_lt}
use lib.Arith.{lt-one}
use lib.Bits.{bit_and, bit_or, and_step, and_block, and_mask, and_zero_r, and_high, or_shifted, or_add_and}
use Rattle.words.specs.Digits.{digit, put_digit}
use Rattle.words.specs.Tagged.{tag_of, address_of}
use Rattle.words.proofs.Digits.{parts, half-digit, first-digit}

-- `w & (1 << k)`
pub and_pow : (w k : ℕ) → bit_and w (2 ^ k) ≡ digit w k * 2 ^ k
unfolding digit
and_pow w k =
    ap₂ bit_and (sym (split w k)) (sym (add-zero (1 * 2 ^ k) ∙ one-mul (2 ^ k)))
    ∙ and_block k (w / 2 ^ k) 1 (w % 2 ^ k) 0 (mod-lt w (pow_pos k)) (pow_pos k)
    ∙ ap₂ (λ (x y : ℕ). x * 2 ^ k + y) (and_mask (w / 2 ^ k) 1) (and_zero_r (w % 2 ^ k))
    ∙ add-zero _

-- `a & b` and `a & !b` make a: at one digit, and at all
one-not : (x y : ℕ) → x < 2 → y < 2 → min x (1 - y) + min x y ≡ x
one-not x y hx hy = omega arith

glue : (u v p q h l a : ℕ) → u + v ≡ h → p + q ≡ l → h * 2 + l ≡ a → (u * 2 + p) + (v * 2 + q) ≡ a
glue u v p q h l a d e f = omega arith

pub and-not : (n a b : ℕ) → a < 2 ^ n → b < 2 ^ n → bit_and a ((2 ^ n - 1) - b) + bit_and a b ≡ a
and-not zero a b ha hb = rw (lt-one ha)
and-not (suc n) a b ha hb =
    let m : ℕ = (2 ^ suc n - 1) - b in
    let p : 2 ^ suc n ≡ 2 ^ n * 2 = pow-suc 2 n in
    let hi : m / 2 ≡ (2 ^ n - 1) - b / 2 = omega arith in
    let lo : m % 2 ≡ 1 - b % 2 = omega arith in
    let ih : bit_and (a / 2) (m / 2) + bit_and (a / 2) (b / 2) ≡ a / 2 =
    ap (λ (x : ℕ). bit_and (a / 2) x + bit_and (a / 2) (b / 2)) hi ∙ and-not n (a / 2) (b / 2) (omega arith) (omega arith) in
    let one : min (a % 2) (m % 2) + min (a % 2) (b % 2) ≡ a % 2 = rw lo (one-not (a % 2) (b % 2) (omega arith) (omega arith)) in
    ap₂ (λ (x y : ℕ). x + y) (and_step a m) (and_step a b) ∙ glue _ _ _ _ _ _ a ih one (split a 1)

-- the mask of one bit
shifted : (k : ℕ) → k < 64 → 1 * 2 ^ k % 2 ^ 64 ≡ 2 ^ k
shifted k h = shl_exact {a = 1} 1 k 64 (omega arith) (omega arith) ∙ one-mul (2 ^ k)

-- `w | (1 << k)` puts a 1
pub or_puts : (w k : ℕ) → k < 64 → bit_or w (1 * 2 ^ k % 2 ^ 64) ≡ put_digit w k 1
unfolding put_digit
or_puts w k h =
    let le : digit w k * 2 ^ k ≤ w = omega (arith, parts w k) in
    ap (bit_or w) (shifted k h) ∙ omega (arith, or_add_and w (2 ^ k), and_pow w k)

-- `w & !(1 << k)` puts a 0
pub and-not-puts : (w k : ℕ) → w < 2 ^ 64 → k < 64 → bit_and w ((2 ^ 64 - 1) - 1 * 2 ^ k % 2 ^ 64) ≡ put_digit w k 0
unfolding put_digit
and-not-puts w k hw h =
    ap (λ (x : ℕ). bit_and w ((2 ^ 64 - 1) - x)) (shifted k h)
    ∙ omega (arith, and-not 64 w (2 ^ k) hw (pow-lt h), and_pow w k)

-- the k low bits of a number of j + k cleared
pub clear-low : {v : ℕ} (j k : ℕ) → v < 2 ^ (j + k) → bit_and v (2 ^ (j + k) - 2 ^ k) ≡ v / 2 ^ k * 2 ^ k
clear-low {v} j k h = and_high v j k ∙ ap (λ (x : ℕ). x * 2 ^ k) (shr_mod j k h)

-- a multiple of 2 ^ k, with k bits put below it
pub or-low : (a k : ℕ) {t : ℕ} → a % 2 ^ k ≡ 0 → t < 2 ^ k → bit_or a t ≡ a + t
or-low a k {t} e h =
    let whole : a / 2 ^ k * 2 ^ k ≡ a = sym (add-zero _) ∙ ap (λ (x : ℕ). a / 2 ^ k * 2 ^ k + x) (sym e) ∙ split a k in
    ap (λ (x : ℕ). bit_or x t) (sym whole) ∙ or_shifted (a / 2 ^ k) k t h ∙ ap (λ (x : ℕ). x + t) whole

-- the digits of `!w`
pub not_digit : (n w j : ℕ) → w < 2 ^ n → j < n → digit ((2 ^ n - 1) - w) j ≡ 1 - digit w j
not_digit zero w j h l = absurd (not-suc-le-zero l)
not_digit (suc n) w zero h l =
    let p : 2 ^ suc n ≡ 2 ^ n * 2 = pow-suc 2 n in
    omega (arith, first-digit w, first-digit ((2 ^ suc n - 1) - w))
not_digit (suc n) w (suc j) h l =
    let p : 2 ^ suc n ≡ 2 ^ n * 2 = pow-suc 2 n in
    let hi : ((2 ^ suc n - 1) - w) / 2 ≡ (2 ^ n - 1) - w / 2 = omega arith in
    sym (half-digit ((2 ^ suc n - 1) - w) j) ∙ ap (λ (x : ℕ). digit x j) hi
    ∙ not_digit n (w / 2) j (omega arith) (le_of_suc-le-suc l) ∙ ap (λ (x : ℕ). 1 - x) (half-digit w j)

-- the mask of the k + 1 low bits, `!0 >> (63 - k)`
pub low_mask : (k : ℕ) → k < 64 → (2 ^ 64 - 1) / 2 ^ (63 - k) ≡ 2 ^ (k + 1) - 1
low_mask k h =
    let e : (k + 1) + (63 - k) ≡ 64 = omega arith in
    ap (λ (x : ℕ). (2 ^ x - 1) / 2 ^ (63 - k)) (sym e) ∙ ap (λ (x : ℕ). x / 2 ^ (63 - k)) (ones_split (k + 1) (63 - k))
    ∙ high (2 ^ (k + 1) - 1) (63 - k) (ones_lt (63 - k))

-- ---- the two low bits of a word of 64: its tag

pub tag-mask : (v : ℕ) → bit_and v 3 ≡ tag_of v
tag-mask v = and_mask v 2

pub address-mask : (v : ℕ) → v < 2 ^ 64 → bit_and v (2 ^ 64 - 2 ^ 2) ≡ address_of v
address-mask v h = omega (arith, clear-low 62 2 h)

pub address-or : (v t : ℕ) → v < 2 ^ 64 → t ≤ 3 → bit_or (bit_and v (2 ^ 64 - 2 ^ 2)) t ≡ address_of v + t
address-or v t h l =
    let e : bit_and v (2 ^ 64 - 2 ^ 2) ≡ address_of v = address-mask v h in
    or-low (bit_and v (2 ^ 64 - 2 ^ 2)) 2 (omega arith) (omega arith) ∙ omega arith
