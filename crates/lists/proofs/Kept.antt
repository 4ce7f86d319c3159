-- In any state each call on the lists keeps the words that are no links, bit 0 and the bits above n. Assumes nothing.
use Prim.Native.Nat.{ℕ, zero, suc, ◌+◌, ◌≤◌, ◌<◌}
use mathlib.Core.Path.{◌≡◌, refl, ◌∙◌}
use mathlib.Core.Logic.{◌≢◌}
use mathlib.Core.Bool.{Bool, true, false}
use mathlib.Core.List.{List, [], ◌∷◌}
use native.Mathlib.Omega.{arith}
use lib.Dec.{eqb}
use lib.ListN.{get_or, set, length-set}
use lib.Seq.{get_or-set_other}
use borrow.Author.Tests.{eqb-false, ne_eqb, not-false}
use Rattle.answers.proofs.Rows.{first-none, unless-either}
use Rattle.bitmap.specs.Bitmap.{bit_at, bit_put, put_run}
use Rattle.bitmap.proofs.Bits.{at-put-other, put-length}
use Rattle.bitmap.proofs.Ranges.{run-length, run-before, run-after}
use Rattle.page.specs.Page.{Lent, place, block_of}
use Rattle.page.specs.Keeps.{NoLink, Keeps}
use Rattle.page.specs.Walk.{last_of}
use Rattle.page.specs.Sequences.{Each, up_from, Listed, Runs}
use Rattle.page.proofs.Rules.{block-facts, run-facts, sound-facts}
use Rattle.page.proofs.Counting.{each-head, each_tail, up-each, last-in, last_cons}
use Rattle.page.proofs.Chains.{laid-length, laid-other}
use Rattle.page.proofs.Running.{run-walk}
use Rattle.page.proofs.Keeping.{keeps-refl, keeps-lent}
use Rattle.lists.specs.Lists.{Lists}
use Rattle.lists.specs.Keep.{CallsKeep}
use Rattle.lists.proofs.Walks.{clear-length}
use Rattle.lists.specs.Own.{clear_all, insert_refusal, insert_act, insert_of, pop_refusal, pop_act, pop_of, append_refusal, append_act, append_of, extend_refusal, extend_act, extend_of, release_refusal, release_act, release_of, empty_refusal, empty_act, empty_of, got_walk, own_walk}

-- a block's bit put keeps the others
put_keeps : (n b i : ℕ) (bits : List ℕ) → (1 ≤ i) × (i ≤ n) → b < 2 → (j : ℕ) → (1 ≤ j → n < j) → bit_at (bit_put bits i b) j ≡ bit_at bits j
put_keeps n b i bits w h j out = at-put-other bits i j b h (λ e. clash e)
  where
    clash : j ≡ i → ⊥
    clash e = omega (arith, out (omega arith))

-- a link written keeps every word that is none
link-keeps : (c : Lent) (i v : ℕ) → (1 ≤ i) × (i ≤ c.n) → (k : ℕ) → NoLink c k → get_or (set c.page (place c.bw i) v) k 0 ≡ get_or c.page k 0
link-keeps c i v w k none = get_or-set_other c.page (place c.bw i) k v 0 (none i w.0 w.1)

module _ (c : Lists) where
  -- ---- insert

  pub insert-passed : (a : ℕ) → insert_refusal c a ≡ 0 → (1 ≤ a) × (a ≤ c.lent.n)
  unfolding insert_refusal
  insert-passed a e =
      let t1 = first-none _ _ _ (omega arith) e in
      let t2 = first-none _ _ _ (omega arith) t1.1 in
      block-facts c.lent.n a (not-false _ t2.0)

  pub inserted-keeps : (a : ℕ) → (1 ≤ a) × (a ≤ c.lent.n) → Keeps c.lent (insert_act c a).after.lent
  unfolding insert_act
  inserted-keeps a w =
      keeps-lent c.lent _ _ (length-set c.lent.page (place c.lent.bw a) c.own) (put-length c.lent.bits a 1)
      (link-keeps c.lent a c.own w) (put_keeps c.lent.n 1 a c.lent.bits w (omega arith))

  pub insert-keeps : (a : ℕ) → Keeps c.lent (insert_of c a).after.lent
  unfolding insert_of
  insert-keeps a =
      unless-either c (insert_act c a) (λ d. Keeps c.lent d.lent) (insert_refusal c a) (keeps-refl c.lent) (λ e. inserted-keeps a (insert-passed a e))

  -- ---- pop

  pub pop-passed : pop_refusal c ≡ 0 → Listed c.lent (block_of c.lent.bw c.own)
  unfolding pop_refusal
  pop-passed e =
      let t1 = first-none _ _ _ (omega arith) e in
      let t2 = first-none _ _ _ (omega arith) t1.1 in
      let t3 = first-none _ _ _ (omega arith) t2.1 in
      (sound-facts c.lent c.own (eqb-false _ _ t2.0) (not-false _ t3.0)).1

  pub popped-keeps : Listed c.lent (block_of c.lent.bw c.own) → Keeps c.lent (pop_act c).after.lent
  unfolding pop_act
  popped-keeps w =
      keeps-lent c.lent _ _ refl (put-length c.lent.bits (block_of c.lent.bw c.own) 0) (λ k none. refl)
      (put_keeps c.lent.n 0 (block_of c.lent.bw c.own) c.lent.bits (w.low, w.high) (omega arith))

  pub pop-keeps : Keeps c.lent (pop_of c).after.lent
  unfolding pop_of
  pop-keeps = unless-either c (pop_act c) (λ d. Keeps c.lent d.lent) (pop_refusal c) (keeps-refl c.lent) (λ e. popped-keeps (pop-passed e))

  -- ---- append

  pub append-passed : append_refusal c ≡ 0 → c.got ≢ 0 → Runs c.lent c.got (got_walk c).blocks
  unfolding append_refusal
  append-passed e some =
      let t1 = first-none _ _ _ (omega arith) e in
      let t2 = first-none _ _ _ (omega arith) t1.1 in
      let t3 = first-none _ _ _ (omega arith) t2.1 in
      run-walk c.lent c.lent.n c.got (not-false _ (simp (ne_eqb _ _ some) at t3.0))

  pub appended-keeps : (c.got ≢ 0 → Runs c.lent c.got (got_walk c).blocks) → Keeps c.lent (append_act c).after.lent
  unfolding append_act
  appended-keeps runs = go (eqb c.got 0) refl
    where
      last : (xs : List ℕ) → c.got ≢ 0 → Runs c.lent c.got xs → (1 ≤ last_of 0 xs) × (last_of 0 xs ≤ c.lent.n)
      last [] some x = absurd (some x.chain)
      last (x ∷ xs) some r = let g = r.listed (last_of x xs) (last-in x xs) in rw (last_cons 0 x xs) (g.low, g.high)

      go : (b : Bool) → eqb c.got 0 ≡ b → Keeps c.lent (append_act c).after.lent
      go true q = rw q (keeps-refl c.lent)
      go false q =
          let some : c.got ≢ 0 = eqb-false c.got 0 q in
          let i : ℕ = last_of 0 (got_walk c).blocks in
          rw q
          (keeps-lent c.lent (set c.lent.page (place c.lent.bw i) c.own) c.lent.bits (length-set c.lent.page (place c.lent.bw i) c.own) refl
          (link-keeps c.lent i c.own (last (got_walk c).blocks some (runs some))) (λ j out. refl))

  pub append-keeps : Keeps c.lent (append_of c).after.lent
  unfolding append_of
  append-keeps =
      unless-either c (append_act c) (λ d. Keeps c.lent d.lent) (append_refusal c) (keeps-refl c.lent) (λ e. appended-keeps (append-passed e))

  -- ---- extend

  pub extend-passed : (a b : ℕ) → extend_refusal c a b ≡ 0 → (1 ≤ a) × (1 ≤ b) × (a + b ≤ c.lent.n + 1)
  unfolding extend_refusal
  extend-passed a b e =
      let t1 = first-none _ _ _ (omega arith) e in
      let t2 = first-none _ _ _ (omega arith) t1.1 in
      run-facts c.lent.n a b (not-false _ t2.0)

  pub extended-keeps : (a b : ℕ) → (1 ≤ a) × (1 ≤ b) × (a + b ≤ c.lent.n + 1) → Keeps c.lent (extend_act c a b).after.lent
  unfolding extend_act
  extended-keeps a b w =
      keeps-lent c.lent _ _ (laid-length (place c.lent.bw) c.lent.page c.own (up_from a b)) (run-length c.lent.bits a b 1)
      (λ k none. laid-other (place c.lent.bw) c.lent.page c.own (up_from a b) k (λ i m. let u = up-each a b i m in none i (omega arith) (omega arith)))
      (λ i out. outside w.0 w.2 i out)
    where
      outside : 1 ≤ a → a + b ≤ c.lent.n + 1 → (i : ℕ) → (1 ≤ i → c.lent.n < i) → bit_at (put_run c.lent.bits a b 1) i ≡ bit_at c.lent.bits i
      outside low high zero out = run-before c.lent.bits a b 1 0 (omega arith) (omega arith)
      outside low high (suc i) out = run-after c.lent.bits a b 1 (suc i) (omega arith) (omega (arith, out (omega arith)))

  pub extend-keeps : (a b : ℕ) → Keeps c.lent (extend_of c a b).after.lent
  unfolding extend_of
  extend-keeps a b =
      unless-either c (extend_act c a b) (λ d. Keeps c.lent d.lent) (extend_refusal c a b) (keeps-refl c.lent) (λ e. extended-keeps a b (extend-passed a b e))

  -- ---- release

  pub release-passed : release_refusal c ≡ 0 → Runs c.lent c.own (own_walk c).blocks
  unfolding release_refusal
  release-passed e =
      let t1 = first-none _ _ _ (omega arith) e in
      let t2 = first-none _ _ _ (omega arith) t1.1 in
      run-walk c.lent c.lent.n c.own (not-false _ t2.0)

  pub released-keeps : Runs c.lent c.own (own_walk c).blocks → Keeps c.lent (release_act c).after.lent
  unfolding release_act clear_all
  released-keeps runs =
      keeps-lent c.lent _ _ refl (clear-length c.lent.bits (own_walk c).blocks) (λ k none. refl)
      (cleared (own_walk c).blocks c.lent.bits (λ i m. let g = runs.listed i m in (g.low, g.high)))
    where
      cleared : (xs bits : List ℕ) → Each (λ i. (1 ≤ i) × (i ≤ c.lent.n)) xs → (j : ℕ) → (1 ≤ j → c.lent.n < j) → bit_at (clear_all bits xs) j ≡ bit_at bits j
      cleared [] bits g j out = refl
      cleared (x ∷ xs) bits g j out =
          cleared xs (bit_put bits x 0) (each_tail x xs g) j out ∙ put_keeps c.lent.n 0 x bits (each-head x xs g) (omega arith) j out

  pub release-keeps : Keeps c.lent (release_of c).after.lent
  unfolding release_of
  release-keeps =
      unless-either c (release_act c) (λ d. Keeps c.lent d.lent) (release_refusal c) (keeps-refl c.lent) (λ e. released-keeps (release-passed e))

  -- ---- is empty

  pub empty-keeps : Keeps c.lent (empty_of c).after.lent
  unfolding empty_of empty_act
  empty-keeps = unless-either c (empty_act c) (λ d. Keeps c.lent d.lent) (empty_refusal c) (keeps-refl c.lent) (λ e. keeps-refl c.lent)

pub calls-keep : CallsKeep
calls-keep c =
    record {
      insert = insert-keeps c;
      pop = pop-keeps c;
      append = append-keeps c;
      extend = extend-keeps c;
      release = release-keeps c;
      empty = empty-keeps c;
    }
