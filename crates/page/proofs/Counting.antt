-- How often a block stands in sequences, by which "exactly one place" is said. Assumes nothing.
use mathlib.Core.Path.{◌≡◌, refl, sym, ap, subst}
use mathlib.Core.Logic.{◌≢◌, ◌⊎◌, inl, inr, ⊎_elim}
use mathlib.Core.Bool.{Bool, true, false}
use mathlib.Core.List.{List, [], ◌∷◌, ◌++◌}
use Prim.Native.Nat.{ℕ, zero, suc, ◌+◌, ◌≤◌, ◌<◌}
use native.Mathlib.Decide.{dec_lt}
use native.Mathlib.Omega.{arith}
use native.Mathlib.Nat.{le_of_suc-le-suc, not-suc-le-zero}
use lib.Dec.{eqb}
use borrow.Author.Tests.{eqb-true, eqb-false}
use lib.ListN.{length, get_or, set}
use Rattle.page.specs.Walk.{last_of}
use Rattle.page.specs.Sequences.{one, hit, times, Each, Once, up_from}

pub hit-is : (i x : ℕ) → ((i ≡ x) × (hit i x ≡ 1)) ⊎ ((i ≢ x) × (hit i x ≡ 0))
unfolding hit
hit-is i x = go (eqb i x) refl
  where
    go : (b : Bool) → eqb i x ≡ b → ((i ≡ x) × (one b ≡ 1)) ⊎ ((i ≢ x) × (one b ≡ 0))
    go true e = inl (eqb-true i x e, refl)
    go false e = inr (eqb-false i x e, refl)

pub hit_same : (i : ℕ) → hit i i ≡ 1
hit_same i = ⊎_elim (λ h. h.1) (λ h. absurd (h.0 refl)) (hit-is i i)

pub hit_other : (i x : ℕ) → i ≢ x → hit i x ≡ 0
hit_other i x n = ⊎_elim (λ h. absurd (n h.0)) (λ h. h.1) (hit-is i x)

pub hit-zero : (i x : ℕ) → hit i x ≡ 0 → i ≢ x
hit-zero i x z e = ⊎_elim (λ (h : (i ≡ x) × (hit i x ≡ 1)). omega arith) (λ (h : (i ≢ x) × (hit i x ≡ 0)). h.0 e) (hit-is i x)

pub times-append : (i : ℕ) (xs ys : List ℕ) → times i (xs ++ ys) ≡ times i xs + times i ys
times-append i [] ys = omega arith
times-append i (x ∷ xs) ys = omega (arith, times-append i xs ys)

-- the sum of the counts over a list of lists; one element replaced takes its own count off and puts the new one's on
module _ {ℓ} {A : Type ℓ} (f : A → ℕ) where
  abbrev pub sum : List A → ℕ
  sum [] = 0
  sum (x ∷ xs) = f x + sum xs

  pub sum-set : (xs : List A) (w : ℕ) (y d : A) → w < length xs → sum (set xs w y) + f (get_or xs w d) ≡ sum xs + f y
  sum-set [] w y d h = absurd (not-suc-le-zero h)
  sum-set (x ∷ xs) zero y d h = omega arith
  sum-set (x ∷ xs) (suc w) y d h = omega (arith, sum-set xs w y d (le_of_suc-le-suc h))

  pub sum-ge : (xs : List A) (w : ℕ) (d : A) → w < length xs → f (get_or xs w d) ≤ sum xs
  sum-ge [] w d h = absurd (not-suc-le-zero h)
  sum-ge (x ∷ xs) zero d h = omega arith
  sum-ge (x ∷ xs) (suc w) d h = omega (arith, sum-ge xs w d (le_of_suc-le-suc h))

  pub sum-ge-two : (xs : List A) (v w : ℕ) (d : A) → v < length xs → w < length xs → v ≢ w → f (get_or xs v d) + f (get_or xs w d) ≤ sum xs
  sum-ge-two [] v w d hv hw n = absurd (not-suc-le-zero hv)
  sum-ge-two (x ∷ xs) zero zero d hv hw n = absurd (n refl)
  sum-ge-two (x ∷ xs) zero (suc w) d hv hw n = omega (arith, sum-ge xs w d (le_of_suc-le-suc hw))
  sum-ge-two (x ∷ xs) (suc v) zero d hv hw n = omega (arith, sum-ge xs v d (le_of_suc-le-suc hv))
  sum-ge-two (x ∷ xs) (suc v) (suc w) d hv hw n =
      omega (arith, sum-ge-two xs v w d (le_of_suc-le-suc hv) (le_of_suc-le-suc hw) (λ e. n (ap suc e)))

-- ---- a list without repeats over 1 to n is at most n long: its length is the sum of the counts

abbrev pub total : ℕ → List ℕ → ℕ
total zero xs = 0
total (suc m) xs = times (suc m) xs + total m xs

pub total-nil : (m : ℕ) → total m [] ≡ 0
total-nil zero = refl
total-nil (suc m) = omega (arith, total-nil m)

pub total-cons : (m x : ℕ) (xs : List ℕ) → total m (x ∷ xs) ≡ total m (x ∷ []) + total m xs
total-cons zero x xs = omega arith
total-cons (suc m) x xs = omega (arith, total-cons m x xs)

total-above : (m x : ℕ) → m < x → total m (x ∷ []) ≡ 0
total-above zero x h = refl
total-above (suc m) x h = omega (arith, total-above m x (omega arith), hit_other (suc m) x (λ e. omega arith))

total-within : (m x : ℕ) → 1 ≤ x → x ≤ m → total m (x ∷ []) ≡ 1
total-within zero x a b = absurd (omega arith)
total-within (suc m) x a b = go (λ d. total-within m x a d) (hit-is (suc m) x)
  where
    go : (x ≤ m → total m (x ∷ []) ≡ 1) → ((suc m ≡ x) × (hit (suc m) x ≡ 1)) ⊎ ((suc m ≢ x) × (hit (suc m) x ≡ 0)) → hit (suc m) x + 0 + total m (x ∷ []) ≡ 1
    go below (inl h) = omega (arith, total-above m x (omega arith))
    go below (inr h) = let k : suc m ≢ x = h.0 in omega (arith, below (omega arith))

pub total-length : (m : ℕ) (xs : List ℕ) → ((i : ℕ) → 0 < times i xs → (1 ≤ i) × (i ≤ m)) → total m xs ≡ length xs
total-length m [] g = total-nil m
total-length m (x ∷ xs) g =
    let gx : (1 ≤ x) × (x ≤ m) = g x (omega (arith, hit_same x)) in
    omega (arith, total-cons m x xs, total-within m x gx.0 gx.1, total-length m xs (λ i b. g i (omega arith)))

total-le : (m : ℕ) (xs : List ℕ) → ((i : ℕ) → times i xs ≤ 1) → total m xs ≤ m
total-le zero xs h = omega arith
total-le (suc m) xs h = omega (arith, h (suc m), total-le m xs h)

pub length-le : (m : ℕ) (xs : List ℕ) → ((i : ℕ) → times i xs ≤ 1) → ((i : ℕ) → 0 < times i xs → (1 ≤ i) × (i ≤ m)) → length xs ≤ m
length-le m xs h g = omega (arith, total-length m xs g, total-le m xs h)

-- ---- each block of a sequence

pub each-head : {P : ℕ → Type 0} (x : ℕ) (xs : List ℕ) → Each P (x ∷ xs) → P x
each-head x xs g = g x (omega (arith, hit_same x))

pub each_tail : {P : ℕ → Type 0} (x : ℕ) (xs : List ℕ) → Each P (x ∷ xs) → Each P xs
each_tail x xs g i b = g i (omega arith)

pub each-cons : {P : ℕ → Type 0} (x : ℕ) (xs : List ℕ) → P x → Each P xs → Each P (x ∷ xs)
each-cons {P} x xs px g i b = go (hit-is i x)
  where
    go : ((i ≡ x) × (hit i x ≡ 1)) ⊎ ((i ≢ x) × (hit i x ≡ 0)) → P i
    go (inl e) = subst P (sym e.0) px
    go (inr e) = g i (omega arith)

pub each_append : {P : ℕ → Type 0} (xs ys : List ℕ) → Each P xs → Each P ys → Each P (xs ++ ys)
each_append {P} xs ys gx gy i b = go (times i xs) refl
  where
    go : (k : ℕ) → times i xs ≡ k → P i
    go zero e = gy i (omega (arith, times-append i xs ys))
    go (suc k) e = gx i (omega arith)

-- the last of a list with a block before it is the last of the list
pub last_cons : (i x : ℕ) (xs : List ℕ) → last_of i (x ∷ xs) ≡ last_of x xs
unfolding last_of
last_cons i x xs = refl

-- the last block is one of them
pub last-in : (x : ℕ) (xs : List ℕ) → 0 < times (last_of x xs) (x ∷ xs)
unfolding last_of
last-in x [] = omega (arith, hit_same x)
last-in x (y ∷ ys) = omega (arith, last-in y ys)

pub each_right : {P : ℕ → Type 0} (xs ys : List ℕ) → Each P (xs ++ ys) → Each P ys
each_right xs ys g i b = g i (omega (arith, times-append i xs ys))

pub each_left : {P : ℕ → Type 0} (xs ys : List ℕ) → Each P (xs ++ ys) → Each P xs
each_left xs ys g i b = g i (omega (arith, times-append i xs ys))

-- where a block stands in a sequence
pub record Split (x : ℕ) (xs : List ℕ) : Type 0 where
  pub before : List ℕ
  pub after : List ℕ
  pub is : xs ≡ before ++ (x ∷ after)

pub times-split : (x : ℕ) (xs : List ℕ) → 0 < times x xs → Split x xs
times-split x [] b = absurd (omega arith)
times-split x (y ∷ ys) b = go (hit-is x y) (λ l. times-split x ys l)
  where
    go : ((x ≡ y) × (hit x y ≡ 1)) ⊎ ((x ≢ y) × (hit x y ≡ 0)) → (0 < times x ys → Split x ys) → Split x (y ∷ ys)
    go (inl e) ih = record { before = []; after = ys; is = ap (λ (z : ℕ). z ∷ ys) (sym e.0) }
    go (inr e) ih = let v : Split x ys = ih (omega arith) in record { before = y ∷ v.before; after = v.after; is = ap (λ (l : List ℕ). y ∷ l) v.is }

-- ---- the blocks from a on, m of them

pub up-below : (a m i : ℕ) → i < a → times i (up_from a m) ≡ 0
unfolding up_from
up-below a zero i l = refl
up-below a (suc m) i l = omega (arith, hit_other i a (λ e. omega arith), up-below (suc a) m i (omega arith))

pub up_above : (a m i : ℕ) → a + m ≤ i → times i (up_from a m) ≡ 0
unfolding up_from
up_above a zero i l = refl
up_above a (suc m) i l = omega (arith, hit_other i a (λ e. omega arith), up_above (suc a) m i (omega arith))

pub up-times : (a m i : ℕ) → a ≤ i → i < a + m → times i (up_from a m) ≡ 1
unfolding up_from
up-times a zero i l u = absurd (omega arith)
up-times a (suc m) i l u = go (hit-is i a) (λ k. up-times (suc a) m i k (omega arith))
  where
    go : ((i ≡ a) × (hit i a ≡ 1)) ⊎ ((i ≢ a) × (hit i a ≡ 0)) → (suc a ≤ i → times i (up_from (suc a) m) ≡ 1) → hit i a + times i (up_from (suc a) m) ≡ 1
    go (inl e) ih = omega (arith, up-below (suc a) m i (omega arith))
    go (inr e) ih = let n : i ≢ a = e.0 in omega (arith, ih (omega arith))

pub up-each : (a m i : ℕ) → 0 < times i (up_from a m) → (a ≤ i) × (i < a + m)
up-each a m i b = go (dec_lt i a) (dec_lt i (a + m))
  where
    go : Dec (i < a) → Dec (i < a + m) → (a ≤ i) × (i < a + m)
    go (yes l) d = absurd (omega (arith, up-below a m i l))
    go (no l) (yes u) = (omega arith, u)
    go (no l) (no u) = absurd (omega (arith, up_above a m i (omega arith)))

pub up-once : (a m : ℕ) → Once (up_from a m)
up-once a m i = go (dec_lt i a) (dec_lt i (a + m))
  where
    go : Dec (i < a) → Dec (i < a + m) → times i (up_from a m) ≤ 1
    go (yes l) d = omega (arith, up-below a m i l)
    go (no l) (yes u) = omega (arith, up-times a m i (omega arith) u)
    go (no l) (no u) = omega (arith, up_above a m i (omega arith))

pub up-length : (a m : ℕ) → length (up_from a m) ≡ m
unfolding up_from
up-length a zero = refl
up-length a (suc m) = ap suc (up-length (suc a) m)
