-- Lists linked inside a page: one head has one sequence, what a store keeps, blocks laid before a list, one list
-- before another. `at i` is the word where block i starts, above 0 and different for good blocks. Assumes nothing.
use mathlib.Core.Path.{◌≡◌, refl, sym, ap, ap₂, ◌∙◌, subst}
use mathlib.Core.Logic.{◌≢◌, ◌⊎◌, inl, inr}
use mathlib.Core.List.{List, [], ◌∷◌, ◌++◌}
use Prim.Native.Nat.{ℕ, zero, suc, ◌+◌, ◌*◌, ◌≤◌, ◌<◌}
use native.Mathlib.Omega.{arith}
use lib.ListN.{length, get_or, set, length-set, length-append}
use lib.Seq.{get_or-set_same, get_or-set_other}
use Rattle.page.specs.Sequences.{hit, times, Each, Once, Chain, head_of, laid}
use Rattle.page.specs.Walk.{last_of}
use Rattle.page.proofs.Counting.{hit_same, hit-is, Split, times-split, times-append, each-head, each_tail, each_append, each_right, last-in}

module _ (at : ℕ → ℕ) where
  -- the link of block i
  abbrev pub link_of : List ℕ → ℕ → ℕ
  link_of p i = get_or p (at i) 0

  -- every good block's place is above 0, and no two of them share one
  pub record Places (Good : ℕ → Type 0) : Type 0 where
    pub above : (i : ℕ) → Good i → 0 < at i
    pub apart : (i j : ℕ) → Good i → Good j → at i ≡ at j → i ≡ j

  -- two pages that agree on the links of the blocks have the same lists over them
  pub chain-agree : (p q : List ℕ) (h : ℕ) (is : List ℕ) → Each (λ i. link_of q i ≡ link_of p i) is → Chain at p h is → Chain at q h is
  chain-agree p q h [] same c = c
  chain-agree p q h (i ∷ is) same c = (
    c.0,
    subst (λ (k : ℕ). Chain at q k is) (sym (each-head i is same)) (chain-agree p q (link_of p i) is (each_tail i is same) c.1),
  )

  -- a store at a word that is no link of the list
  pub chain-frame : (p : List ℕ) (h : ℕ) (is : List ℕ) (j v : ℕ) → Each (λ i. at i ≢ j) is → Chain at p h is → Chain at (set p j v) h is
  chain-frame p h is j v n c = chain-agree p (set p j v) h is (λ i b. get_or-set_other p j (at i) v 0 (n i b)) c

  -- laying blocks keeps the page's length, and writes at no other place
  pub laid-length : (p : List ℕ) (h : ℕ) (xs : List ℕ) → length (laid at p h xs) ≡ length p
  laid-length p h [] = refl
  laid-length p h (x ∷ xs) = length-set (laid at p h xs) (at x) (head_of at h xs) ∙ laid-length p h xs

  pub laid-other : (p : List ℕ) (h : ℕ) (xs : List ℕ) (k : ℕ) → Each (λ x. k ≢ at x) xs → get_or (laid at p h xs) k 0 ≡ get_or p k 0
  laid-other p h [] k n = refl
  laid-other p h (x ∷ xs) k n =
      get_or-set_other (laid at p h xs) (at x) k (head_of at h xs) 0 (each-head x xs n) ∙ laid-other p h xs k (each_tail x xs n)

-- one after another: a list's rest is a list
pub chain-rest : (at : ℕ → ℕ) (p : List ℕ) (h x : ℕ) (xs ys : List ℕ) → Chain at p h (xs ++ (x ∷ ys)) → Chain at p (8 * at x) (x ∷ ys)
chain-rest at p h x [] ys c = (refl, c.1)
chain-rest at p h x (y ∷ xs) ys c = chain-rest at p (link_of at p y) x xs ys c.1

module _ {at : ℕ → ℕ} {Good : ℕ → Type 0} (pl : Places at Good) where
  -- one head has one sequence
  pub chain-one : (p : List ℕ) (h : ℕ) (xs ys : List ℕ) → Each Good xs → Each Good ys → Chain at p h xs → Chain at p h ys → xs ≡ ys
  chain-one p h [] [] gx gy cx cy = refl
  chain-one p h [] (y ∷ ys) gx gy cx cy = absurd (omega (arith, pl.above y (each-head y ys gy)))
  chain-one p h (x ∷ xs) [] gx gy cx cy = absurd (omega (arith, pl.above x (each-head x xs gx)))
  chain-one p h (x ∷ xs) (y ∷ ys) gx gy cx cy =
      let e : x ≡ y = pl.apart x y (each-head x xs gx) (each-head y ys gy) (omega arith) in
      ap₂ (λ (z : ℕ) (zs : List ℕ). z ∷ zs) e
      (chain-one p (link_of at p x) xs ys (each_tail x xs gx) (each_tail y ys gy) cx.1
      (subst (λ (k : ℕ). Chain at p (link_of at p k) ys) (sym e) cy.1))

  -- a store at the link of a good block that is not on the list
  pub chain-other : (p : List ℕ) (h : ℕ) (is : List ℕ) (a v : ℕ) → Each Good is → Good a → times a is ≡ 0 → Chain at p h is → Chain at (set p (at a) v) h is
  chain-other p h is a v g ga z c = chain-frame at p h is (at a) v differ c
    where
      differ : Each (λ i. at i ≢ at a) is
      differ i b e =
          let same : a ≡ i = pl.apart a i ga (g i b) (sym e) in
          absurd (omega (arith, subst (λ (k : ℕ). times k is ≡ 0) same z))

  -- one block before a list
  pub chain-push : (p : List ℕ) (h : ℕ) (is : List ℕ) (a : ℕ) → Each Good is → Good a → times a is ≡ 0 → at a < length p
      → Chain at p h is → Chain at (set p (at a) h) (8 * at a) (a ∷ is)
  chain-push p h is a g ga z l c =
      (refl, subst (λ (k : ℕ). Chain at (set p (at a) h) k is) (sym (get_or-set_same p (at a) h 0 l)) (chain-other p h is a h g ga z c))

  -- blocks laid before a list
  pub chain-laid : (p : List ℕ) (h : ℕ) (is xs : List ℕ) → Each (λ i. (Good i) × (at i < length p)) xs → Each Good is → Once (xs ++ is)
      → Chain at p h is → Chain at (laid at p h xs) (head_of at h xs) (xs ++ is)
  chain-laid p h is [] gx g once c = c
  chain-laid p h is (x ∷ xs) gx g once c =
      let below : Chain at (laid at p h xs) (head_of at h xs) (xs ++ is) = chain-laid p h is xs (each_tail x xs gx) g (λ i. omega (arith, once i)) c in
      let mine : (Good x) × (at x < length p) = each-head x xs gx in
      chain-push (laid at p h xs) (head_of at h xs) (xs ++ is) x (each_append xs is (λ i b. (each_tail x xs gx i b).0) g) mine.0
      (omega (arith, once x, hit_same x)) (omega (arith, laid-length at p h xs, mine.1)) below

  -- one list before another: the link of its last block is written, and no other word
  pub chain-append : (p : List ℕ) (h k x : ℕ) (xs ys : List ℕ) → Each (λ i. (Good i) × (at i < length p)) (x ∷ xs) → Each Good ys → Once ((x ∷ xs) ++ ys)
      → Chain at p h (x ∷ xs) → Chain at p k ys → Chain at (set p (at (last_of x xs)) k) h ((x ∷ xs) ++ ys)
  unfolding last_of
  chain-append p h k x [] ys gx g once c d =
      let mine : (Good x) × (at x < length p) = each-head x [] gx in
      (c.0, (chain-push p k ys x g mine.0 (omega (arith, once x, hit_same x)) mine.1 d).1)
  chain-append p h k x (y ∷ ys) zs gx g once c d =
      let l : ℕ = last_of y ys in
      let inside : 0 < times l (y ∷ ys) = last-in y ys in
      let differ : at x ≢ at l = λ e.
      let same : x ≡ l = pl.apart x l (each-head x (y ∷ ys) gx).0 (each_tail x (y ∷ ys) gx l inside).0 e in
      let here : hit l x ≡ 1 = subst (λ (u : ℕ). hit l u ≡ 1) (sym same) (hit_same l) in
      omega (arith, once l, times-append l (y ∷ ys) zs) in (
        c.0,
        subst (λ (u : ℕ). Chain at (set p (at l) k) u ((y ∷ ys) ++ zs)) (sym (get_or-set_other p (at l) (at x) k 0 differ))
            (chain-append p (link_of at p x) k y ys zs (each_tail x (y ∷ ys) gx) g (λ i. omega (arith, once i)) c.1 d),
      )

  -- a list meets no block twice: from a block on there is one sequence
  pub chain-once : (p : List ℕ) (h : ℕ) (xs : List ℕ) → Each Good xs → Chain at p h xs → Once xs
  chain-once p h [] g c i = omega arith
  chain-once p h (x ∷ xs) g c i = go (chain-once p (link_of at p x) xs (each_tail x xs g) c.1 i) (hit-is i x) (times i xs) refl
    where
      again : (v : Split x xs) → ⊥
      again v =
          let rest : Chain at p (8 * at x) (x ∷ v.after) =
          chain-rest at p h x (x ∷ v.before) v.after (subst (λ (l : List ℕ). Chain at p h (x ∷ l)) v.is c) in
          let gv : Each Good (x ∷ v.after) = each_right v.before (x ∷ v.after) (subst (λ (l : List ℕ). Each Good l) v.is (each_tail x xs g)) in
          let e : x ∷ v.after ≡ x ∷ xs = chain-one p (8 * at x) (x ∷ v.after) (x ∷ xs) gv g rest (refl, c.1) in
          omega (arith, ap length e, ap length v.is, length-append v.before (x ∷ v.after))

      go : times i xs ≤ 1 → ((i ≡ x) × (hit i x ≡ 1)) ⊎ ((i ≢ x) × (hit i x ≡ 0)) → (k : ℕ) → times i xs ≡ k → hit i x + times i xs ≤ 1
      go l (inl e) zero z = omega arith
      go l (inl e) (suc k) z = absurd (again (times-split x xs (subst (λ (j : ℕ). 0 < times j xs) e.0 (omega arith))))
      go l (inr e) k z = omega arith
