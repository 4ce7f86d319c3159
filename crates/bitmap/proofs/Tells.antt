-- The statements of `Tells`, proved. Assumes nothing.
use Prim.Native.Nat.{ℕ, zero, suc, ◌+◌, ◌-◌, ◌<◌, ◌≤◌}
use mathlib.Core.Path.{◌≡◌, refl, ap, sym, ◌∙◌}
use mathlib.Core.Logic.{◌≢◌}
use mathlib.Core.Bool.{Bool, true, false, ◌||◌, true≢false}
use mathlib.Core.List.{List}
use native.Mathlib.Decide.{ℕ_discrete}
use native.Mathlib.Omega.{arith}
use lib.Dec.{eqb}
use borrow.Author.Tests.{eq-eqb}
use Rattle.words.specs.Digits.{digit}
use Rattle.bitmap.specs.Bitmap.{bit_at, any_from, any_set, listed_count}
use Rattle.bitmap.specs.Tells.{BitStands, PutChangesOne, RunChangesRun, RunReaches, AnySetTells, CountCountsSet, FirstIsSmallest}
use Rattle.bitmap.proofs.Bits.{at-put-same, at-put-other, put-length, is_one}
use Rattle.bitmap.proofs.Ranges.{run-length, run_inside, run-before, run-after, any_at}
use Rattle.bitmap.proofs.Ones.{listed_same}
use Rattle.bitmap.proofs.Trailing.{first_found, first-none}

pub bit-stands : BitStands
unfolding bit_at digit
bit-stands bits i = refl

pub put-changes-one : PutChangesOne
put-changes-one bits i b h =
    record { marks = put-length bits i b; put = at-put-same bits i b h; others = λ j n. at-put-other bits i j b h n }

pub run-changes-run : RunChangesRun
run-changes-run bits a m b h =
    record {
      marks = run-length bits a m b;
      put = λ i p l r. run_inside bits a m b i h p l r;
      below = λ i l. run-before bits a m b i h l;
      above = λ i l. run-after bits a m b i h l;
    }

pub run-reaches : RunReaches
run-reaches a b = (λ l. omega arith, λ p l. omega arith)

-- one that is set is among them
any_found : (bits : List ℕ) (a m : ℕ) → any_set bits a m ≡ true → (i : ℕ) × (a ≤ i) × (i < a + m) × (bit_at bits i ≡ 1)
unfolding any_from
any_found bits a zero e = absurd (true≢false (sym e))
any_found bits a (suc m) e = go (any_set bits a m) refl (eqb (bit_at bits (a + m)) 1) refl e (any_found bits a m)
  where
    go : (p : Bool) → any_set bits a m ≡ p → (q : Bool) → eqb (bit_at bits (a + m)) 1 ≡ q → (p || q) ≡ true
        → (any_set bits a m ≡ true → (i : ℕ) × (a ≤ i) × (i < a + m) × (bit_at bits i ≡ 1)) → (i : ℕ) × (a ≤ i) × (i < a + suc m) × (bit_at bits i ≡ 1)
    go true s q t f ih = let g = ih s in (g.0, g.1, omega (arith, g.2), g.3)
    go false s true t f ih = (a + m, omega arith, omega arith, is_one bits (a + m) t)
    go false s false t f ih = absurd (true≢false (sym f))

pub any-set-tells : AnySetTells
any-set-tells bits a m = (any_found bits a m, found)
  where
    found : (i : ℕ) × (a ≤ i) × (i < a + m) × (bit_at bits i ≡ 1) → any_set bits a m ≡ true
    found f =
        let e : a + (f.0 - a) ≡ f.0 = omega (arith, f.1) in
        any_at bits a m (f.0 - a) (omega (arith, f.1, f.2)) (eq-eqb _ _ (ap (bit_at bits) e ∙ f.3))

-- the count of clear bits
count_none : (bits : List ℕ) (n : ℕ) → ((i : ℕ) → 1 ≤ i → i ≤ n → bit_at bits i ≡ 0) → listed_count bits n ≡ 0
unfolding listed_count
count_none bits zero z = refl
count_none bits (suc n) z = omega (arith, count_none bits n (λ i l u. z i l (omega arith)), z (suc n) (omega arith) (omega arith))

-- the count of one set bit more
count-more : (n : ℕ) (bits others : List ℕ) (i : ℕ) → 1 ≤ i → i ≤ n → bit_at bits i ≡ 0 → bit_at others i ≡ 1
    → ((j : ℕ) → j ≢ i → bit_at others j ≡ bit_at bits j) → listed_count others n ≡ listed_count bits n + 1
unfolding listed_count
count-more zero bits others i l u z o same = absurd (omega arith)
count-more (suc n) bits others i l u z o same = pick (ℕ_discrete i (suc n)) (λ g. count-more n bits others i l g z o same)
  where
    pick : Dec (i ≡ suc n) → (i ≤ n → listed_count others n ≡ listed_count bits n + 1)
        → listed_count others n + bit_at others (suc n) ≡ listed_count bits n + bit_at bits (suc n) + 1
    pick (yes e) ih =
        omega (arith, ap (bit_at bits) e, ap (bit_at others) e, listed_same others bits n (λ j p q. same j (λ f. below j q f)))
      where
        below : (j : ℕ) → j ≤ n → j ≡ i → ⊥
        below j q f = omega arith
    pick (no g) ih = omega (arith, ih (omega arith), same (suc n) (λ e. g (sym e)))

pub count-counts-set : CountCountsSet
count-counts-set n = record { none = λ bits. count_none bits n; same = λ bits others. listed_same bits others n; more = count-more n }

pub first-is-smallest : FirstIsSmallest
first-is-smallest bits n =
    record {
      none = first-none bits n;
      within = λ s. let f = first_found bits n s in (f.1.pos, f.0);
      clear = λ s. (first_found bits n s).1.clear;
      before = λ s. (first_found bits n s).1.before;
    }
