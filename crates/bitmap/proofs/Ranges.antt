-- Runs of bits: what a run put holds, and what a run searched says. Assumes nothing.
use mathlib.Core.Path.{◌≡◌, refl, sym, ap, ◌∙◌}
use mathlib.Core.Bool.{Bool, true, false, ◌||◌, true≢false}
use mathlib.Core.List.{List}
use Prim.Native.Nat.{ℕ, zero, suc, ◌+◌, ◌/◌, ◌<◌, ◌≤◌}
use native.Mathlib.Decide.{ℕ_discrete}
use native.Mathlib.Numerals.{add-one}
use native.Mathlib.Omega.{arith}
use lib.Dec.{eqb}
use lib.ListN.{length}
use Rattle.bitmap.specs.Bitmap.{bit_at, bit_put, put_run, any_from, any_set}
use Rattle.bitmap.proofs.Bits.{at-put-same, at-put-other, put-length, put-out, at_out, is_zero}

-- a run put keeps the length
pub run-length : (bits : List ℕ) (a m b : ℕ) → length (put_run bits a m b) ≡ length bits
unfolding put_run
run-length bits a zero b = refl
run-length bits a (suc m) b = put-length (put_run bits a m b) (a + m) b ∙ run-length bits a m b

-- the bits before it stay
pub run-before : (bits : List ℕ) (a m b j : ℕ) → b < 2 → j < a → bit_at (put_run bits a m b) j ≡ bit_at bits j
unfolding put_run
run-before bits a zero b j h l = refl
run-before bits a (suc m) b j h l = at-put-other (put_run bits a m b) (a + m) j b h (omega arith) ∙ run-before bits a m b j h l

-- the bits after it stay
pub run-after : (bits : List ℕ) (a m b j : ℕ) → b < 2 → a + m ≤ j → bit_at (put_run bits a m b) j ≡ bit_at bits j
unfolding put_run
run-after bits a zero b j h l = refl
run-after bits a (suc m) b j h l =
    at-put-other (put_run bits a m b) (a + m) j b h (omega arith) ∙ run-after bits a m b j h (omega arith)

-- the bits in it are put
pub run_inside : (bits : List ℕ) (a m b j : ℕ) → b < 2 → a ≤ j → j < a + m → j / 64 < length bits → bit_at (put_run bits a m b) j ≡ b
unfolding put_run
run_inside bits a zero b j h p l r = absurd (omega arith)
run_inside bits a (suc m) b j h p l r = pick (ℕ_discrete j (a + m)) (λ g. run_inside bits a m b j h p g r)
  where
    pick : Dec (j ≡ a + m) → (j < a + m → bit_at (put_run bits a m b) j ≡ b) → bit_at (bit_put (put_run bits a m b) (a + m) b) j ≡ b
    pick (yes e) ih =
        ap (bit_at (bit_put (put_run bits a m b) (a + m) b)) e
        ∙ at-put-same (put_run bits a m b) (a + m) b h (omega (arith, run-length bits a m b, ap (λ (x : ℕ). x / 64) e))
    pick (no n) ih = at-put-other (put_run bits a m b) (a + m) j b h n ∙ ih (omega arith)

-- where it passes the slice's end, nothing more is put
pub run_past : (bits : List ℕ) (a k m b : ℕ) → k ≤ m → length bits ≤ (a + k) / 64 → put_run bits a m b ≡ put_run bits a k b
unfolding put_run
run_past bits a k zero b h l =
    let e : 0 ≡ k = omega arith in
    ap (λ (x : ℕ). put_run bits a x b) e
run_past bits a k (suc m) b h l = pick (ℕ_discrete k (suc m)) (λ g. run_past bits a k m b g l)
  where
    pick : Dec (k ≡ suc m) → (k ≤ m → put_run bits a m b ≡ put_run bits a k b) → bit_put (put_run bits a m b) (a + m) b ≡ put_run bits a k b
    pick (yes e) ih = ap (λ (x : ℕ). put_run bits a x b) (sym e)
    pick (no n) ih = put-out (put_run bits a m b) (a + m) b (omega (arith, run-length bits a m b)) ∙ ih (omega arith)

-- one of the m numbers from a on that is such is seen
pub from_at : (is : ℕ → Bool) (a m k : ℕ) → k < m → is (a + k) ≡ true → any_from is a m ≡ true
unfolding any_from
from_at is a zero k l e = absurd (omega arith)
from_at is a (suc m) k l e = pick (ℕ_discrete k m) (λ g. from_at is a m k g e)
  where
    or_right : (x y : Bool) → y ≡ true → (x || y) ≡ true
    or_right true y q = refl
    or_right false y q = q

    pick : Dec (k ≡ m) → (k < m → any_from is a m ≡ true) → (any_from is a m || is (a + m)) ≡ true
    pick (yes q) ih = or_right (any_from is a m) (is (a + m)) (ap (λ (x : ℕ). is (a + x)) (sym q) ∙ e)
    pick (no n) ih = ap (λ (x : Bool). x || is (a + m)) (ih (omega arith))

-- where none is seen, none of them is such
pub from-none : (is : ℕ → Bool) (a m : ℕ) → any_from is a m ≡ false → (k : ℕ) → k < m → is (a + k) ≡ false
from-none is a m e k l = pick (is (a + k)) refl
  where
    pick : (b : Bool) → is (a + k) ≡ b → is (a + k) ≡ false
    pick true s = absurd (true≢false (sym (from_at is a m k l s) ∙ e))
    pick false s = s

-- a set bit in the run is seen
pub any_at : (bits : List ℕ) (a m k : ℕ) → k < m → eqb (bit_at bits (a + k)) 1 ≡ true → any_set bits a m ≡ true
any_at bits a m k l e = from_at (λ i. eqb (bit_at bits i) 1) a m k l e

-- one clear bit more
pub any-more : (bits : List ℕ) (a k : ℕ) → any_set bits a k ≡ false → eqb (bit_at bits (a + k)) 1 ≡ false → any_set bits a (k + 1) ≡ false
unfolding any_from
any-more bits a k e f = ap (any_set bits a) (add-one k) ∙ ap (λ (x : Bool). x || eqb (bit_at bits (a + k)) 1) e ∙ f

-- where none is seen, every bit of the run is clear
pub any_none : (bits : List ℕ) (a m : ℕ) → any_set bits a m ≡ false → (k : ℕ) → k < m → bit_at bits (a + k) ≡ 0
any_none bits a m e k l = is_zero bits (a + k) (from-none (λ i. eqb (bit_at bits i) 1) a m e k l)

-- past the slice's end none is set
pub any-past : (bits : List ℕ) (a k m : ℕ) → k ≤ m → length bits ≤ (a + k) / 64 → any_set bits a k ≡ false → any_set bits a m ≡ false
unfolding any_from
any-past bits a k zero h l e = refl
any-past bits a k (suc m) h l e = pick (ℕ_discrete k (suc m)) (λ g. any-past bits a k m g l e)
  where
    pick : Dec (k ≡ suc m) → (k ≤ m → any_set bits a m ≡ false) → (any_set bits a m || eqb (bit_at bits (a + m)) 1) ≡ false
    pick (yes q) ih = ap (any_set bits a) (sym q) ∙ e
    pick (no n) ih = simp (ih (omega arith), at_out bits (a + m) (omega arith))

-- a run of clear bits has none set
pub any-clear : (bits : List ℕ) (a m : ℕ) → ((k : ℕ) → k < m → bit_at bits (a + k) ≡ 0) → any_set bits a m ≡ false
unfolding any_from
any-clear bits a zero z = refl
any-clear bits a (suc m) z = simp (any-clear bits a m (λ k l. z k (omega arith)), z m (omega arith))
