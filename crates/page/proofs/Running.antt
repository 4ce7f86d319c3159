-- Laws of `Runs`: what a list that runs says of its head, what keeps it running, and blocks laid before it. Assumes nothing.
use Prim.Native.Nat.{ℕ, zero, suc, ◌+◌, ◌/◌, ◌≤◌, ◌<◌}
use mathlib.Core.Path.{◌≡◌, refl, sym, ap, ◌∙◌, subst}
use mathlib.Core.Logic.{◌≢◌}
use mathlib.Core.Bool.{Bool, true, false, cond, true≢false}
use mathlib.Core.List.{List, [], ◌∷◌, ◌++◌}
use native.Mathlib.Nat.{mul-pos}
use native.Mathlib.Omega.{arith}
use lib.Dec.{eqb}
use lib.ListN.{length, get_or, set}
use borrow.Author.Tests.{eqb-true, eqb-false, ne_eqb}
use Rattle.bitmap.specs.Bitmap.{bit_at}
use Rattle.bitmap.proofs.Bits.{bit-lt}
use Rattle.page.specs.declared.Walked.{Walked}
use Rattle.page.specs.Page.{Lent, lent, Rules, place, address_of, block_of, link_at, sound_in}
use Rattle.page.specs.Walk.{Walk, ended, broken, then, walk_from, walk_of, last_of, tally}
use Rattle.page.specs.Sequences.{times, Each, Once, Apart, Chain, head_of, laid, Listed, Runs, OthersStay, OthersRun}
use Rattle.page.proofs.Rules.{block-address, address-place, address-some, place-apart, place_inside, sound-zero, sound-facts, sound-test}
use Rattle.std.proofs.Common.{Some, None}
use Rattle.std.proofs.lemmas.Option.{none-some, cond_some}
use Rattle.answers.proofs.Rows.{refuted}
use Rattle.page.proofs.Counting.{times-append, each-head, each_tail, each-cons, each_append, last-in, length-le}
use Rattle.page.proofs.Chains.{Places, chain-agree, chain-one, chain-once, chain-laid, chain-append, laid-other}

-- blocks from 1 on start above word 0, at words of their own
pub places : (bw : ℕ) → 1 ≤ bw → Places (place bw) (λ i. 1 ≤ i)
places bw s = record { above = λ i l. mul-pos {m = i} {n = bw} (omega arith) (omega arith); apart = λ i j a b e. place-apart bw i j s e }

-- listed blocks are from 1 on
pub from_one : (c : Lent) (xs : List ℕ) → Each (Listed c) xs → Each (λ i. 1 ≤ i) xs
from_one c xs g i b = (g i b).low

-- ---- a list that runs

module _ (c : Lent) (r : Rules c) where
  -- one head has one sequence
  pub run-one : (h : ℕ) (xs ys : List ℕ) → Runs c h xs → Runs c h ys → xs ≡ ys
  run-one h xs ys x y =
      chain-one (places c.bw r.some) c.page h xs ys (from_one c xs x.listed) (from_one c ys y.listed) x.chain y.chain

  -- it meets no block twice, and so at most n
  pub run-once : (h : ℕ) (xs : List ℕ) → Runs c h xs → Once xs
  run-once h xs x = chain-once (places c.bw r.some) c.page h xs (from_one c xs x.listed) x.chain

  pub run_short : (h : ℕ) (xs : List ℕ) → Runs c h xs → length xs ≤ c.n
  run_short h xs x = length-le c.n xs (run-once h xs x) (λ i b. ((x.listed i b).low, (x.listed i b).high))

  -- its head is sound
  pub run_sound : (h : ℕ) (xs : List ℕ) → Runs c h xs → sound_in c h ≡ true
  run_sound h [] x = ap (sound_in c) x.chain ∙ sound-zero c
  run_sound h (i ∷ xs) x = ap (sound_in c) x.chain.0 ∙ sound-test c i r (each-head i xs x.listed)

  -- a head of 0 is an empty list's, and no other's
  pub run-zero : (h : ℕ) (xs : List ℕ) → Runs c h xs → h ≡ 0 → xs ≡ []
  run-zero h [] x e = refl
  run-zero h (i ∷ xs) x e = absurd (address-some c.bw i r.some (each-head i xs x.listed).low (sym x.chain.0 ∙ e))

  pub run-some : (h x : ℕ) (xs : List ℕ) → Runs c h (x ∷ xs) → h ≢ 0
  run-some h i xs x e = address-some c.bw i r.some (each-head i xs x.listed).low (sym x.chain.0 ∙ e)

  -- its front block
  pub run-front : (h x : ℕ) (xs : List ℕ) → Runs c h (x ∷ xs) → block_of c.bw h ≡ x
  run-front h i xs x = ap (block_of c.bw) x.chain.0 ∙ block-address c.bw i r.some

-- the link of its front block is the head of the rest
pub run-link : (c : Lent) (h x : ℕ) (xs : List ℕ) → Runs c h (x ∷ xs) → link_at c.page h ≡ get_or c.page (place c.bw x) 0
run-link c h i xs x = ap (λ (k : ℕ). get_or c.page k 0) (ap (λ (k : ℕ). k / 8) x.chain.0 ∙ address-place c.bw i)

pub run-rest : (c : Lent) (h x : ℕ) (xs : List ℕ) → Runs c h (x ∷ xs) → Runs c (link_at c.page h) xs
run-rest c h i xs x =
    record { chain = subst (λ (k : ℕ). Chain (place c.bw) c.page k xs) (sym (run-link c h i xs x)) x.chain.1; listed = each_tail i xs x.listed }

-- an empty list
pub run_none : (c : Lent) → Runs c 0 []
run_none c = record { chain = refl; listed = λ i b. absurd (omega arith) }

-- a block is none of the blocks that another sequence is apart from
pub apart_none : (xs ys : List ℕ) (i : ℕ) → Apart xs ys → 0 < times i ys → times i xs ≡ 0
apart_none xs ys i a l = go (times i xs) refl
  where
    go : (k : ℕ) → times i xs ≡ k → times i xs ≡ 0
    go zero e = e
    go (suc k) e = absurd (omega (arith, a i (omega arith)))

-- where the other blocks stay, the other lists run on
pub others-run : (n bw : ℕ) (p q b e xs : List ℕ) → OthersStay (lent n bw p b) (lent n bw q e) xs → OthersRun (lent n bw p b) (lent n bw q e) xs
others-run n bw p q b e xs stay h ys y apart =
    record {
      chain = chain-agree (place bw) p q h ys (λ i l. (stay i (y.listed i l) (apart_none xs ys i apart l)).link) y.chain;
      listed = λ i l. (stay i (y.listed i l) (apart_none xs ys i apart l)).listed;
    }

-- ---- the walk and the sequence agree both ways

-- the walk that met these blocks and came to 0
abbrev pub met : List ℕ → Walk
met xs = record { ends = true; blocks = xs }

module _ (c : Lent) (r : Rules c) where
  -- with room for them, the walk meets the blocks that the list runs over
  pub walk-run : (room h : ℕ) (xs : List ℕ) → length xs ≤ room → Runs c h xs → walk_from c room h ≡ met xs
  unfolding walk_from
  walk-run zero h [] l x = simp x.chain
  walk-run zero h (i ∷ xs) l x = absurd (omega arith)
  walk-run (suc room) h [] l x = simp x.chain
  walk-run (suc room) h (i ∷ xs) l x =
      simp (ne_eqb _ _ (run-some c r h i xs x), run_sound c r h (i ∷ xs) x, run-front c r h i xs x, walk-run room (link_at c.page h) xs (omega arith) (run-rest c h i xs x))

  pub walk_is : (h : ℕ) (xs : List ℕ) → Runs c h xs → walk_of c h ≡ met xs
  walk_is h xs x = walk-run c.n h xs (run_short c r h xs x) x

-- a walk that ends gives the sequence that the list runs over
module _ (c : Lent) (h : ℕ) where
  -- at 0, and one block before the rest
  at-end : h ≡ 0 → Runs c h []
  at-end e = record { chain = e; listed = λ i b. absurd (omega arith) }

  one_more : (xs : List ℕ) → h ≢ 0 → sound_in c h ≡ true → Runs c (link_at c.page h) xs → Runs c h (block_of c.bw h ∷ xs)
  one_more xs z e x =
      let f = sound-facts c h z e in
      let place_is : h / 8 ≡ place c.bw (block_of c.bw h) = ap (λ (k : ℕ). k / 8) f.0 ∙ address-place c.bw (block_of c.bw h) in
      record {
        chain = (f.0, subst (λ (k : ℕ). Chain (place c.bw) c.page (get_or c.page k 0) xs) place_is x.chain);
        listed = each-cons (block_of c.bw h) xs f.1 x.listed;
      }

pub run-walk : (c : Lent) (room h : ℕ) → (walk_from c room h).ends ≡ true → Runs c h (walk_from c room h).blocks
unfolding walk_from
run-walk c zero h e = go (eqb h 0) refl e
  where
    go : (b : Bool) → eqb h 0 ≡ b → (cond b ended broken).ends ≡ true → Runs c h (cond b ended broken).blocks
    go true q p = at-end c h (eqb-true h 0 q)
    go false q p = absurd (true≢false (sym p))
run-walk c (suc room) h e = go (eqb h 0) refl (sound_in c h) refl e (run-walk c room (link_at c.page h))
  where
    rest : Walk
    rest = walk_from c room (link_at c.page h)

    go : (b : Bool) → eqb h 0 ≡ b → (d : Bool) → sound_in c h ≡ d → (cond b ended (cond d (then (block_of c.bw h) rest) broken)).ends ≡ true
        → (rest.ends ≡ true → Runs c (link_at c.page h) rest.blocks) → Runs c h (cond b ended (cond d (then (block_of c.bw h) rest) broken)).blocks
    go true q d t p ih = at-end c h (eqb-true h 0 q)
    go false q true t p ih = one_more c h rest.blocks (eqb-false h 0 q) t (ih p)
    go false q false t p ih = absurd (true≢false (sym p))

-- the last block of a list that runs, or 0 where it has none, is at most n
pub run-last : (c : Lent) (h : ℕ) (xs : List ℕ) → Runs c h xs → last_of 0 xs ≤ c.n
unfolding last_of
run-last c h [] x = omega arith
run-last c h (i ∷ xs) x = (x.listed (last_of i xs) (last-in i xs)).high

-- ---- what is told of a walk

-- of one that did not come to 0, nothing
pub told-none : (w : Walk) → None ≡ tally 0 0 w → w.ends ≡ false
unfolding tally
told-none w e = refuted w.ends (λ t. none-some _ (simp t at e))

module _ (w : Walk) {m : Walked} (e : Some m ≡ tally 0 0 w) where
  both : (w.ends ≡ true) × (record { count = 0 + length w.blocks; last = last_of 0 w.blocks } ≡ m)
  unfolding tally
  both = cond_some w.ends _ m (sym e)

  -- where something is told, it came to 0
  pub told-ends : w.ends ≡ true
  told-ends = both.0

  -- how many blocks it met, and the last of them
  pub told-count : m.count ≡ length w.blocks
  told-count = omega (arith, ap (λ (x : Walked). x.count) both.1)

  pub told-last : m.last ≡ last_of 0 w.blocks
  told-last = ap (λ (x : Walked). x.last) (sym both.1)

-- ---- blocks laid before a list, and one list before another

-- new blocks laid before a list, their bits put on top of the bitmap: insert and extend
module _ (n bw : ℕ) (p b e new : List ℕ) (r : Rules (lent n bw p b)) (within : Each (λ i. (1 ≤ i) × (i ≤ n)) new)
    (adds : (i : ℕ) → bit_at e i ≡ bit_at b i + times i new) where
  -- the list runs over the new blocks first
  pub laid-first : (h : ℕ) (xs : List ℕ) → Runs (lent n bw p b) h xs → Runs (lent n bw (laid (place bw) p h new) e) (head_of (place bw) h new) (new ++ xs)
  laid-first h xs x =
      record {
        chain = chain-laid (places bw r.some) p h xs new (λ i l. ((within i l).0, place_inside (lent n bw p b) i r (within i l).1))
            (from_one (lent n bw p b) xs x.listed) once x.chain;
        listed = each_append new xs
            (λ i l. record { low = (within i l).0; high = (within i l).1; bit = omega (arith, adds i, bit-lt e i) })
            (λ i l. record { low = (x.listed i l).low; high = (x.listed i l).high; bit = omega (arith, adds i, bit-lt e i, (x.listed i l).bit) });
      }
    where
      once : Once (new ++ xs)
      once i = go (times i xs) refl
        where
          go : (k : ℕ) → times i xs ≡ k → times i (new ++ xs) ≤ 1
          go zero z = omega (arith, times-append i new xs, adds i, bit-lt e i)
          go (suc k) z =
              omega (arith, times-append i new xs, adds i, bit-lt e i, run-once (lent n bw p b) r h xs x i, (x.listed i (omega arith)).bit)

  -- every other listed block stays
  pub laid-stay : (h : ℕ) → OthersStay (lent n bw p b) (lent n bw (laid (place bw) p h new) e) []
  laid-stay h i g z =
      record {
        link = laid-other (place bw) p h new (place bw i) differ;
        listed = record { low = g.low; high = g.high; bit = omega (arith, adds i, bit-lt e i, g.bit) };
      }
    where
      differ : Each (λ x. place bw i ≢ place bw x) new
      differ x m q =
          let same : i ≡ x = place-apart bw i x r.some q in
          omega (arith, adds x, bit-lt e x, subst (λ (j : ℕ). bit_at b j ≡ 1) same g.bit)

-- a block whose link is the head already: a push's exchange
pub run-push : (c : Lent) (h a : ℕ) (xs : List ℕ) → Listed c a → get_or c.page (place c.bw a) 0 ≡ h → Runs c h xs → Runs c (address_of c.bw a) (a ∷ xs)
run-push c h a xs g e x =
    record { chain = (refl, subst (λ (k : ℕ). Chain (place c.bw) c.page k xs) (sym e) x.chain); listed = each-cons a xs g x.listed }

-- one list before another: append
pub run-append : (n bw : ℕ) (p b : List ℕ) (h k x : ℕ) (xs ys : List ℕ) → Rules (lent n bw p b) → Runs (lent n bw p b) h (x ∷ xs) → Runs (lent n bw p b) k ys
    → Once ((x ∷ xs) ++ ys) → Runs (lent n bw (set p (place bw (last_of x xs)) k) b) h ((x ∷ xs) ++ ys)
run-append n bw p b h k x xs ys r c d once =
    record {
      chain = chain-append (places bw r.some) p h k x xs ys (λ i l. ((c.listed i l).low, place_inside (lent n bw p b) i r (c.listed i l).high))
          (from_one (lent n bw p b) ys d.listed) once c.chain d.chain;
      listed = λ i l. let g = each_append (x ∷ xs) ys c.listed d.listed i l in record { low = g.low; high = g.high; bit = g.bit };
    }
