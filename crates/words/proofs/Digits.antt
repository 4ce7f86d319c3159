-- Laws of one binary digit of a number. Assumes nothing.
use mathlib.Core.Path.{◌≡◌, sym, ap, ap₂, ◌∙◌, subst}
use mathlib.Core.Logic.{◌≢◌}
use Prim.Native.Nat.{ℕ, zero, suc, ◌+◌, ◌-◌, ◌*◌, ◌/◌, ◌%◌, ◌^◌, ◌<◌, suc-le-suc}
use native.Mathlib.Nat.{mod-lt, pow-suc, div-one, zero-lt-suc, add-mul, div-lt_iff_lt-mul}
use native.Mathlib.Numerals.{one-add}
use native.Mathlib.Decide.{dec_lt}
use native.Mathlib.Omega.{arith}
use lib.Pow.{pow_pos, split, high, low, shr-shr, field, mod-mod-pow, pow-add, shr_lt}
use lib.Arith.{digits_div, digits_mod, lt-one}
use Rattle.words.specs.Digits.{digit, put_digit}

pub digit_lt : (w k : ℕ) → digit w k < 2
unfolding digit
digit_lt w k = omega arith

-- a number by what stands above digit k, the digit, and what stands below
pub parts : (w k : ℕ) → (w / 2 ^ k / 2 * 2 + digit w k) * 2 ^ k + w % 2 ^ k ≡ w
unfolding digit
parts w k = ap (λ (x : ℕ). x * 2 ^ k + w % 2 ^ k) (split (w / 2 ^ k) 1) ∙ split w k

pub put-parts : (w k b : ℕ) → put_digit w k b ≡ (w / 2 ^ k / 2 * 2 + b) * 2 ^ k + w % 2 ^ k
unfolding put_digit
put-parts w k b =
    let P : ℕ = 2 ^ k in
    let q : ℕ = w / 2 ^ k / 2 in
    let e : w ≡ (q * 2) * P + digit w k * P + w % P = sym (parts w k) ∙ ap (λ (x : ℕ). x + w % P) (add-mul (q * 2) (digit w k) P) in
    omega (arith, e, add-mul (q * 2) b P)

-- what stands from digit k on, above it, and below it, once b is put there
module _ (w k b : ℕ) (h : b < 2) where
  put-div : put_digit w k b / 2 ^ k ≡ w / 2 ^ k / 2 * 2 + b
  put-div = ap (λ (x : ℕ). x / 2 ^ k) (put-parts w k b) ∙ high (w / 2 ^ k / 2 * 2 + b) k (mod-lt w (pow_pos k))

  put-above : put_digit w k b / 2 ^ (k + 1) ≡ w / 2 ^ (k + 1)
  put-above =
      sym (shr-shr (put_digit w k b) k 1) ∙ ap (λ (x : ℕ). x / 2) put-div ∙ digits_div (w / 2 ^ k / 2) h ∙ shr-shr w k 1

  put-below : put_digit w k b % 2 ^ k ≡ w % 2 ^ k
  put-below = ap (λ (x : ℕ). x % 2 ^ k) (put-parts w k b) ∙ low (w / 2 ^ k / 2 * 2 + b) k (mod-lt w (pow_pos k))

  -- the digit put is the digit read
  pub put_same : digit (put_digit w k b) k ≡ b
  unfolding digit
  put_same = ap (λ (x : ℕ). x % 2) put-div ∙ digits_mod (w / 2 ^ k / 2) h

-- a digit above k goes by what stands above k, and one below k by what stands below k
digit-above : (a b k m : ℕ) → a / 2 ^ k ≡ b / 2 ^ k → digit a (k + m) ≡ digit b (k + m)
unfolding digit
digit-above a b k m e = ap (λ (x : ℕ). x % 2) (sym (shr-shr a k m) ∙ ap (λ (x : ℕ). x / 2 ^ m) e ∙ shr-shr b k m)

digit-below : (a b m j : ℕ) → a % 2 ^ (m + (1 + j)) ≡ b % 2 ^ (m + (1 + j)) → digit a j ≡ digit b j
unfolding digit
digit-below a b m j e =
    let low_part : a % 2 ^ (1 + j) ≡ b % 2 ^ (1 + j) =
    sym (mod-mod-pow a m (1 + j)) ∙ ap (λ (x : ℕ). x % 2 ^ (1 + j)) e ∙ mod-mod-pow b m (1 + j) in
    sym (field a 1 j) ∙ ap (λ (x : ℕ). x / 2 ^ j) low_part ∙ field b 1 j

-- every other digit stays
pub put_other : (w k b j : ℕ) → b < 2 → j ≢ k → digit (put_digit w k b) j ≡ digit w j
put_other w k b j h n = pick (dec_lt j k)
  where
    below : j < k → digit (put_digit w k b) j ≡ digit w j
    below l =
        let e : k - (1 + j) + (1 + j) ≡ k = omega arith in
        digit-below (put_digit w k b) w (k - (1 + j)) j (subst (λ (x : ℕ). put_digit w k b % 2 ^ x ≡ w % 2 ^ x) (sym e) (put-below w k b h))

    above : k < j → digit (put_digit w k b) j ≡ digit w j
    above l =
        let e : (k + 1) + (j - (k + 1)) ≡ j = omega arith in
        subst (λ (x : ℕ). digit (put_digit w k b) x ≡ digit w x) e (digit-above (put_digit w k b) w (k + 1) (j - (k + 1)) (put-above w k b h))

    pick : Dec (j < k) → digit (put_digit w k b) j ≡ digit w j
    pick (yes l) = below l
    pick (no g) = above (omega arith)

-- a number of n digits stays one
pub put-lt : (n w k b : ℕ) → b < 2 → k < n → w < 2 ^ n → put_digit w k b < 2 ^ n
put-lt n w k b h l f =
    let e : (n - (k + 1)) + (k + 1) ≡ n = omega arith in
    let f' : w < 2 ^ ((n - (k + 1)) + (k + 1)) = subst (λ (x : ℕ). w < 2 ^ x) (sym e) f in
    let g : put_digit w k b / 2 ^ (k + 1) < 2 ^ (n - (k + 1)) = subst (λ (x : ℕ). x < 2 ^ (n - (k + 1))) (sym (put-above w k b h)) (shr_lt (n - (k + 1)) (k + 1) f') in
    subst (λ (x : ℕ). put_digit w k b < 2 ^ x) e
    (subst (λ (x : ℕ). put_digit w k b < x) (sym (pow-add 2 (n - (k + 1)) (k + 1))) ((div-lt_iff_lt-mul (pow_pos (k + 1))).0 g))

-- putting what is there changes nothing
pub put-same-digit : (w k : ℕ) → put_digit w k (digit w k) ≡ w
put-same-digit w k = put-parts w k (digit w k) ∙ parts w k

-- the second of two puts at one place stays
pub put-put : (w k a b : ℕ) → a < 2 → put_digit (put_digit w k a) k b ≡ put_digit w k b
put-put w k a b h =
    let e : put_digit w k a / 2 ^ k / 2 ≡ w / 2 ^ k / 2 = ap (λ (x : ℕ). x / 2) (put-div w k a h) ∙ digits_div (w / 2 ^ k / 2) h in
    put-parts (put_digit w k a) k b ∙ ap₂ (λ (x y : ℕ). (x * 2 + b) * 2 ^ k + y) e (put-below w k a h) ∙ sym (put-parts w k b)

-- digit j of the half is digit j + 1
pub half-digit : (w j : ℕ) → digit (w / 2) j ≡ digit w (suc j)
unfolding digit
half-digit w j = ap (λ (x : ℕ). x % 2) (shr-shr w 1 j) ∙ ap (λ (k : ℕ). w / 2 ^ k % 2) (one-add j)

pub first-digit : (w : ℕ) → digit w 0 ≡ w % 2
unfolding digit
first-digit w = ap (λ (x : ℕ). x % 2) (div-one w)

-- numbers of n digits, by their digits
pub by_digits : (n a b : ℕ) → a < 2 ^ n → b < 2 ^ n → ((j : ℕ) → j < n → digit a j ≡ digit b j) → a ≡ b
by_digits zero a b ha hb h = lt-one ha ∙ sym (lt-one hb)
by_digits (suc n) a b ha hb h =
    let p : 2 ^ suc n ≡ 2 ^ n * 2 = pow-suc 2 n in
    let halves : a / 2 ≡ b / 2 =
    by_digits n (a / 2) (b / 2) (omega arith) (omega arith) (λ j l. half-digit a j ∙ h (suc j) (suc-le-suc l) ∙ sym (half-digit b j)) in
    let lows : a % 2 ≡ b % 2 = sym (first-digit a) ∙ h 0 (zero-lt-suc n) ∙ first-digit b in
    omega arith
