-- Demand 2 for a worker's own list: the statements of `Exact`, proved. Assumes nothing.
use Prim.Native.Nat.{ℕ, zero, suc, ◌+◌, ◌/◌, ◌≤◌, ◌<◌}
use mathlib.Core.Path.{◌≡◌, refl, ap, subst}
use mathlib.Core.Logic.{◌≢◌, ◌⊎◌, inl, inr}
use mathlib.Core.Bool.{Bool, true, false}
use mathlib.Core.List.{List, [], ◌∷◌, ◌++◌}
use native.Mathlib.Decide.{dec_lt}
use native.Mathlib.Omega.{arith}
use lib.Dec.{eqb}
use lib.ListN.{length, set}
use lib.Seq.{get_or-set_other}
use borrow.Author.Tests.{eqb-false, ne_eqb}
use Rattle.answers.specs.Rows.{first}
use Rattle.bitmap.specs.Bitmap.{bit_at, bit_put, any_set, put_run}
use Rattle.bitmap.proofs.Bits.{bit-lt, at-put-same, at-put-other, put-length}
use Rattle.bitmap.proofs.Ranges.{run-before, run_inside, run-after, any-clear}
use Rattle.page.specs.Page.{Lent, lent, Rules, place, block_of, link_at, sound_in}
use Rattle.page.specs.Walk.{Walk, walk_of, last_of}
use Rattle.page.specs.Sequences.{hit, times, Each, Once, up_from, Listed, Runs, OthersStay}
use Rattle.page.proofs.Rules.{rules-test, block-test, run-test, bit-inside, place-apart}
use Rattle.page.proofs.Counting.{hit-is, hit_same, each-head, each_tail, each-cons, up-below, up-times, up_above, up-each, last-in, last_cons}
use Rattle.page.proofs.Running.{others-run, laid-first, laid-stay, run-once, run_sound, run-some, run-front, run-rest, run_none, run-append, walk_is}
use Rattle.lists.specs.Lists.{Lists}
use Rattle.lists.specs.Own.{clear_all, insert_refusal, insert_act, insert_of, pop_refusal, pop_act, pop_of, append_refusal, append_act, append_of, extend_refusal, extend_act, extend_of, release_refusal, release_act, release_of, empty_refusal, empty_act, empty_of}
use Rattle.lists.specs.Exact.{Inserted, InsertPutsFirst, Popped, PopTakesFirst, Appended, AppendPutsTakenFirst, Extended, ExtendPutsAscendingFirst, Released, ReleaseClearsAll, EmptyTells}

-- ---- bits count blocks

-- one bit cleared where it was set
clear-one : (b : List ℕ) (x : ℕ) → x / 64 < length b → bit_at b x ≡ 1 → (i : ℕ) → bit_at (bit_put b x 0) i + hit i x ≡ bit_at b i
clear-one b x w z i = go (hit-is i x)
  where
    go : ((i ≡ x) × (hit i x ≡ 1)) ⊎ ((i ≢ x) × (hit i x ≡ 0)) → bit_at (bit_put b x 0) i + hit i x ≡ bit_at b i
    go (inl e) = omega (arith, ap (bit_at (bit_put b x 0)) e.0, at-put-same b x 0 (omega arith) w, ap (bit_at b) e.0)
    go (inr e) = omega (arith, at-put-other b x i 0 (omega arith) e.0)

-- one bit set where it was clear
set-one : (b : List ℕ) (x : ℕ) → x / 64 < length b → bit_at b x ≡ 0 → (i : ℕ) → bit_at (bit_put b x 1) i ≡ bit_at b i + hit i x
set-one b x w z i = go (hit-is i x)
  where
    go : ((i ≡ x) × (hit i x ≡ 1)) ⊎ ((i ≢ x) × (hit i x ≡ 0)) → bit_at (bit_put b x 1) i ≡ bit_at b i + hit i x
    go (inl e) = omega (arith, ap (bit_at (bit_put b x 1)) e.0, at-put-same b x 1 (omega arith) w, ap (bit_at b) e.0)
    go (inr e) = omega (arith, at-put-other b x i 1 (omega arith) e.0)

module _ (c : Lent) (r : Rules c) (a : ℕ) (l : a ≤ c.n) where
  pub bit-set-adds : bit_at c.bits a ≡ 0 → (i : ℕ) → bit_at (bit_put c.bits a 1) i ≡ bit_at c.bits i + times i (a ∷ [])
  bit-set-adds z i = omega (arith, set-one c.bits a (bit-inside c a r l) z i)

  pub bit-clear-takes : bit_at c.bits a ≡ 1 → (i : ℕ) → bit_at (bit_put c.bits a 0) i + times i (a ∷ []) ≡ bit_at c.bits i
  bit-clear-takes z i = omega (arith, clear-one c.bits a (bit-inside c a r l) z i)

-- the bits of all blocks of a sequence cleared
pub clear-all-takes : (b xs : List ℕ) → Each (λ i. i / 64 < length b) xs → ((i : ℕ) → times i xs ≤ bit_at b i)
    → (i : ℕ) → bit_at (clear_all b xs) i + times i xs ≡ bit_at b i
unfolding clear_all
clear-all-takes b [] w m i = omega arith
clear-all-takes b (x ∷ xs) w m i =
    let one : (j : ℕ) → bit_at (bit_put b x 0) j + hit j x ≡ bit_at b j = λ j. clear-one b x (each-head x xs w) (omega (arith, m x, bit-lt b x, hit_same x)) j in
    let rest : bit_at (clear_all (bit_put b x 0) xs) i + times i xs ≡ bit_at (bit_put b x 0) i =
    clear-all-takes (bit_put b x 0) xs (λ j l. omega (arith, put-length b x 0, each_tail x xs w j l)) (λ j. omega (arith, m j, one j)) i in
    omega (arith, one i)

-- the bits of a run put where they were clear
pub run-adds : (b : List ℕ) (a m : ℕ) → ((i : ℕ) → a ≤ i → i < a + m → (bit_at b i ≡ 0) × (i / 64 < length b))
    → (i : ℕ) → bit_at (put_run b a m 1) i ≡ bit_at b i + times i (up_from a m)
run-adds b a m z i = go (dec_lt i a) (dec_lt i (a + m))
  where
    go : Dec (i < a) → Dec (i < a + m) → bit_at (put_run b a m 1) i ≡ bit_at b i + times i (up_from a m)
    go (yes l) d = omega (arith, run-before b a m 1 i (omega arith) l, up-below a m i l)
    go (no l) (yes u) =
        let f = z i (omega arith) u in
        omega (arith, run_inside b a m 1 i (omega arith) (omega arith) u f.1, up-times a m i (omega arith) u, f.0)
    go (no l) (no u) = omega (arith, run-after b a m 1 i (omega arith) (omega arith), up_above a m i (omega arith))

-- ---- insert

pub insert-acts : (c : Lists) (a : ℕ) → Rules c.lent → 1 ≤ a → a ≤ c.lent.n → bit_at c.lent.bits a ≡ 0 → sound_in c.lent c.own ≡ true
    → insert_of c a ≡ insert_act c a
unfolding insert_of insert_refusal first
insert-acts c a r low high clear s = simp (rules-test c.lent r, block-test c.lent.n a (low, high), clear, s)

pub inserted : (c : Lists) (a : ℕ) (xs : List ℕ) → Rules c.lent → 1 ≤ a → a ≤ c.lent.n → bit_at c.lent.bits a ≡ 0
    → Runs c.lent c.own xs → Inserted c a xs (insert_act c a)
unfolding insert_act
inserted c a xs r low high clear x =
    let l = c.lent in
    let within : Each (λ i. (1 ≤ i) × (i ≤ l.n)) (a ∷ []) = each-cons a [] (low, high) (λ i b. absurd (omega arith)) in
    let adds : (i : ℕ) → bit_at (bit_put l.bits a 1) i ≡ bit_at l.bits i + times i (a ∷ []) = bit-set-adds l r a high clear in
    let stay = laid-stay l.n l.bw l.page l.bits (bit_put l.bits a 1) (a ∷ []) r within adds c.own in
    (record {
      leaves = record {
        number = refl;
        value = refl;
        own = laid-first l.n l.bw l.page l.bits (bit_put l.bits a 1) (a ∷ []) r within adds c.own xs x;
      };
      got = refl;
      others = others-run l.n l.bw l.page _ l.bits _ [] stay;
      stay = stay;
      bit = adds;
    })

pub insert-puts-first : InsertPutsFirst
insert-puts-first c a xs r low high clear x =
    rw (insert-acts c a r low high clear (run_sound c.lent r c.own xs x)) (inserted c a xs r low high clear x)

-- ---- pop

pub pop-acts : (c : Lists) → Rules c.lent → c.own ≢ 0 → sound_in c.lent c.own ≡ true → sound_in c.lent (link_at c.lent.page c.own) ≡ true
    → pop_of c ≡ pop_act c
unfolding pop_of pop_refusal first
pop-acts c r some s t = simp (rules-test c.lent r, ne_eqb _ _ some, s, t)

-- the blocks that are not cleared stay
cleared-stay : (l : Lent) (b xs : List ℕ) → ((i : ℕ) → bit_at b i + times i xs ≡ bit_at l.bits i) → OthersStay l (lent l.n l.bw l.page b) xs
cleared-stay l b xs takes i g z = record { link = refl; listed = record { low = g.low; high = g.high; bit = omega (arith, takes i, g.bit) } }

pub popped : (c : Lists) (x : ℕ) (xs : List ℕ) → Rules c.lent → Runs c.lent c.own (x ∷ xs) → Popped c x xs (pop_act c)
unfolding pop_act
popped c x xs r runs =
    let l = c.lent in
    let rest : Runs l (link_at l.page c.own) xs = run-rest l c.own x xs runs in
    let front : block_of l.bw c.own ≡ x = run-front l r c.own x xs runs in
    let here : Listed l x = each-head x xs runs.listed in
    let takes : (i : ℕ) → bit_at (bit_put l.bits x 0) i + times i (x ∷ []) ≡ bit_at l.bits i = bit-clear-takes l r x here.high here.bit in
    let stay = cleared-stay l (bit_put l.bits x 0) (x ∷ []) takes in
    let others = others-run l.n l.bw l.page l.page l.bits (bit_put l.bits x 0) (x ∷ []) stay in
    rw front
    (record {
      leaves = record {
        number = refl;
        value = refl;
        own = others (link_at l.page c.own) xs rest (λ i b. once-rest (run-once l r c.own (x ∷ xs) runs) i b);
      };
      got = refl;
      page = refl;
      others = others;
      stay = stay;
      bit = takes;
    })
  where
    once-rest : Once (x ∷ xs) → (i : ℕ) → 0 < times i (x ∷ []) → times i xs ≡ 0
    once-rest o i b = omega (arith, o i)

pub pop-takes-first : PopTakesFirst
pop-takes-first c x xs r runs =
    let l = c.lent in
    rw
    (pop-acts c r (run-some l r c.own x xs runs) (run_sound l r c.own (x ∷ xs) runs)
    (run_sound l r (link_at l.page c.own) xs (run-rest l c.own x xs runs)))
    (popped c x xs r runs)

-- ---- append

pub append-acts : (c : Lists) → Rules c.lent → (c.got ≢ 0 → (sound_in c.lent c.own ≡ true) × ((walk_of c.lent c.got).ends ≡ true))
    → append_of c ≡ append_act c
unfolding append_of append_refusal first
append-acts c r f = go (eqb c.got 0) refl
  where
    go : (b : Bool) → eqb c.got 0 ≡ b → append_of c ≡ append_act c
    go true e = simp (rules-test c.lent r, e)
    go false e = let g = f (eqb-false c.got 0 e) in simp (rules-test c.lent r, e, g.0, g.1)

-- a store at the link of one of the blocks xs keeps the others
stored-stay : (l : Lent) (j v : ℕ) (xs : List ℕ) → Rules l → 0 < times j xs → OthersStay l (lent l.n l.bw (set l.page (place l.bw j) v) l.bits) xs
stored-stay l j v xs r m i g z =
    record {
      link = get_or-set_other l.page (place l.bw j) (place l.bw i) v 0 (λ e. differ (place-apart l.bw i j r.some e));
      listed = record { low = g.low; high = g.high; bit = g.bit };
    }
  where
    differ : i ≡ j → ⊥
    differ e = omega (arith, subst (λ (k : ℕ). times k xs ≡ 0) e z)

pub appended : (c : Lists) (taken xs : List ℕ) → Rules c.lent → Runs c.lent c.got taken → Runs c.lent c.own xs → Once (taken ++ xs)
    → Appended c taken xs (append_act c)
unfolding append_act
appended c [] xs r g o once =
    simp g.chain
    (record {
      leaves = record { number = refl; value = refl; own = o };
      got = g.chain;
      others = λ h ys y a. y;
      stay = λ i g z. record { link = refl; listed = g };
      bits = refl;
    })
appended c (x ∷ taken) xs r g o once =
    let l = c.lent in
    let stay = stored-stay l (last_of x taken) c.own (x ∷ taken) r (last-in x taken) in
    simp (ne_eqb _ _ (run-some l r c.got x taken g), walk_is l r c.got (x ∷ taken) g, last_cons 0 x taken)
    (record {
      leaves = record { number = refl; value = refl; own = run-append l.n l.bw l.page l.bits c.got c.own x taken xs r g o once };
      got = refl;
      others = others-run l.n l.bw l.page _ l.bits l.bits (x ∷ taken) stay;
      stay = stay;
      bits = refl;
    })

pub append-puts-taken-first : AppendPutsTakenFirst
append-puts-taken-first c taken xs r g o once =
    rw
    (append-acts c r (λ some. (run_sound c.lent r c.own xs o, ap (λ (w : Walk). w.ends) (walk_is c.lent r c.got taken g))))
    (appended c taken xs r g o once)

-- ---- extend

pub extend-acts : (c : Lists) (a b : ℕ) → Rules c.lent → (1 ≤ a) × (1 ≤ b) × (a + b ≤ c.lent.n + 1) → any_set c.lent.bits a b ≡ false
    → sound_in c.lent c.own ≡ true → extend_of c a b ≡ extend_act c a b
unfolding extend_of extend_refusal first
extend-acts c a b r w n s = simp (rules-test c.lent r, run-test c.lent.n a b w, n, s)

pub extended : (c : Lists) (a b : ℕ) (xs : List ℕ) → Rules c.lent → 1 ≤ a → 1 ≤ b → a + b ≤ c.lent.n + 1
    → ((i : ℕ) → a ≤ i → i < a + b → bit_at c.lent.bits i ≡ 0) → Runs c.lent c.own xs → Extended c a b xs (extend_act c a b)
unfolding extend_act
extended c a b xs r low some high clear x =
    let l = c.lent in
    let within : Each (λ i. (1 ≤ i) × (i ≤ l.n)) (up_from a b) = λ i m. let u = up-each a b i m in omega arith in
    let adds : (i : ℕ) → bit_at (put_run l.bits a b 1) i ≡ bit_at l.bits i + times i (up_from a b) =
    run-adds l.bits a b (λ i p q. (clear i p q, bit-inside l i r (omega arith))) in
    let stay = laid-stay l.n l.bw l.page l.bits (put_run l.bits a b 1) (up_from a b) r within adds c.own in
    (record {
      leaves = record {
        number = refl;
        value = refl;
        own = laid-first l.n l.bw l.page l.bits (put_run l.bits a b 1) (up_from a b) r within adds c.own xs x;
      };
      got = refl;
      others = others-run l.n l.bw l.page _ l.bits _ [] stay;
      stay = stay;
      bit = adds;
    })

pub extend-puts-ascending-first : ExtendPutsAscendingFirst
extend-puts-ascending-first c a b xs r low some high clear x =
    rw
    (extend-acts c a b r (low, some, high) (any-clear c.lent.bits a b (λ k m. clear (a + k) (omega arith) (omega arith)))
    (run_sound c.lent r c.own xs x))
    (extended c a b xs r low some high clear x)

-- ---- release

pub release-acts : (c : Lists) → Rules c.lent → (walk_of c.lent c.own).ends ≡ true → release_of c ≡ release_act c
unfolding release_of release_refusal first
release-acts c r w = simp (rules-test c.lent r, w)

pub released : (c : Lists) (xs : List ℕ) → Rules c.lent → Runs c.lent c.own xs → Released c xs (release_act c)
unfolding release_act
released c xs r x =
    let l = c.lent in
    let takes : (i : ℕ) → bit_at (clear_all l.bits xs) i + times i xs ≡ bit_at l.bits i =
    clear-all-takes l.bits xs (λ i b. bit-inside l i r (x.listed i b).high) (λ i. marked i (times i xs) refl (run-once l r c.own xs x i)) in
    let stay = cleared-stay l (clear_all l.bits xs) xs takes in
    rw (walk_is l r c.own xs x)
    (record {
      leaves = record { number = refl; value = refl; own = run_none (lent l.n l.bw l.page (clear_all l.bits xs)) };
      got = refl;
      page = refl;
      others = others-run l.n l.bw l.page l.page l.bits (clear_all l.bits xs) xs stay;
      stay = stay;
      bit = takes;
    })
  where
    marked : (i k : ℕ) → times i xs ≡ k → times i xs ≤ 1 → times i xs ≤ bit_at c.lent.bits i
    marked i zero e o = omega arith
    marked i (suc k) e o = omega (arith, (x.listed i (omega arith)).bit)

pub release-clears-all : ReleaseClearsAll
release-clears-all c xs r x =
    rw (release-acts c r (ap (λ (w : Walk). w.ends) (walk_is c.lent r c.own xs x))) (released c xs r x)

-- ---- is empty

pub empty-tells : EmptyTells
unfolding empty_of empty_refusal empty_act first
empty-tells c [] r x = simp (rules-test c.lent r, x.chain) (record { number = refl; value = refl; after = refl })
empty-tells c (i ∷ xs) r x =
    simp (rules-test c.lent r, ne_eqb _ _ (run-some c.lent r c.own i xs x)) (record { number = refl; value = refl; after = refl })
