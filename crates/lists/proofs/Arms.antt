-- What each function gives by its tests' outcomes, and what its steps come to: the laws that every return cites.
-- A test that is not reached is cited by `refl`. Assumes nothing.
use Prim.Native.Nat.{ℕ, suc, ◌/◌, ◌≤◌}
use mathlib.Core.Path.{◌≡◌, refl, ◌∙◌}
use mathlib.Core.Bool.{Bool, true, false, not, ◌&&◌, cond}
use mathlib.Core.List.{List, [], ◌∷◌}
use native.Mathlib.Omega.{arith}
use lib.Dec.{leb, eqb}
use lib.ListN.{set}
use Rattle.answers.specs.Numbers.{done, bad_page, no_such, listed, none_left, damaged}
use Rattle.answers.specs.Rows.{row, outcome}
use Rattle.answers.proofs.Rows.{tried, tried-is}
use Rattle.bitmap.specs.Bitmap.{bit_put, any_set, put_run, run_length}
use Rattle.page.specs.declared.Walked.{Walked}
use Rattle.page.specs.Limits.{max_blocks, max_width}
use Rattle.page.specs.Page.{Rules, keeps_rules_b, block_b, run_b, listed_b, place, address_of, block_of, link_at, sound_in}
use Rattle.page.specs.Walk.{last_of, tally}
use Rattle.page.specs.Sequences.{one, up_from, head_of, laid}
use Rattle.page.proofs.Rules.{run-facts, address-within, address_is, block-is, address-place}
use Rattle.page.proofs.Running.{told-ends, told-count, told-last}
use Rattle.std.proofs.Common.{Some}
use Rattle.lists.specs.Lists.{Lists}
use Rattle.lists.specs.Own.{with, insert_act, insert_refusal, insert_of, pop_act, pop_refusal, pop_of, got_walk, append_act, append_refusal, append_of, extend_act, extend_refusal, extend_of, own_walk, clear_all, blocks_from, release_act, release_refusal, release_of, empty_act, empty_refusal, empty_of}
use Rattle.lists.proofs.Walks.{walk-blocks, walk-last}

-- ---- 1. insert

module _ (c : Lists) (a : ℕ) where
  -- by the page rules, a's being a block, its bit, and own's head
  pub insert-is : {b2 b4 b9 b11 : Bool} → keeps_rules_b c.lent ≡ b2 → block_b c.lent.n a ≡ b4 → listed_b c.lent.bits a ≡ b9 → sound_in c.lent c.own ≡ b11
      → tried c (insert_act c a) (row bad_page (not b2) ∷ row no_such (not b4) ∷ row listed b9 ∷ row damaged (not b11) ∷ []) ≡ insert_of c a
  unfolding insert_of insert_refusal
  insert-is p q r t = simp (← p, ← q, ← r, ← t) (tried-is c (insert_act c a) _ refl)

  -- the address, the link written and the bit set
  pub insert-acts : {head : ℕ} {page bits : List ℕ} → Rules c.lent → a ≤ c.lent.n
      → head ≡ cond (leb c.lent.bw max_width && leb a max_blocks) (address_of c.lent.bw a) 0
      → page ≡ set c.lent.page (head / 8) c.own → bits ≡ bit_put c.lent.bits a 1
      → outcome done 0 (with c head c.got page bits) ≡ insert_act c a
  unfolding insert_act
  insert-acts g l p q r = simp (r, q, p, address_is c.lent a g l, address-place)

-- ---- 2. pop

module _ (c : Lists) where
  -- by the page rules, own's being empty, its head, and its front's link
  pub pop-is : {b2 b10 b11 b11' : Bool} {next : ℕ} → keeps_rules_b c.lent ≡ b2 → eqb c.own 0 ≡ b10 → sound_in c.lent c.own ≡ b11
      → next ≡ link_at c.lent.page c.own → sound_in c.lent next ≡ b11'
      → tried c (pop_act c) (row bad_page (not b2) ∷ row none_left b10 ∷ row damaged (not b11) ∷ row damaged (not b11') ∷ []) ≡ pop_of c
  unfolding pop_of pop_refusal
  pop-is p q r e t = simp (← p, ← q, ← r, ← t, e) (tried-is c (pop_act c) _ refl)

  -- the link, the front block and its bit cleared
  pub pop-acts : {front next : ℕ} {bits : List ℕ} → Rules c.lent → next ≡ link_at c.lent.page c.own
      → front ≡ cond (leb 1 c.lent.bw && leb c.lent.bw max_width) (block_of c.lent.bw c.own) 0
      → bits ≡ bit_put c.lent.bits front 0 → outcome done front (with c next c.got c.lent.page bits) ≡ pop_act c
  unfolding pop_act
  pop-acts g p q r = simp (r, q, p, block-is c.lent c.own g)

-- ---- 3. append

module _ (c : Lists) where
  -- by the page rules, got's being empty, own's head, and whether the walk of got came to 0
  pub append-is : {b2 b0 b11 b11' : Bool} → keeps_rules_b c.lent ≡ b2 → eqb c.got 0 ≡ b0 → sound_in c.lent c.own ≡ b11 → (got_walk c).ends ≡ b11'
      → tried c (append_act c) (row bad_page (not b2) ∷ row damaged (not b0 && not b11) ∷ row damaged (not b0 && not b11') ∷ []) ≡ append_of c
  unfolding append_of append_refusal
  append-is p q r t = simp (← p, ← q, ← r, ← t) (tried-is c (append_act c) _ refl)

  -- of an empty got nothing comes
  pub append-none : eqb c.got 0 ≡ true → outcome done 0 c ≡ append_act c
  unfolding append_act
  append-none e = simp e

  -- the walk, the last block's address and its link written
  pub append-acts : {m : Walked} {to : ℕ} {page : List ℕ} → Rules c.lent → eqb c.got 0 ≡ false → Some m ≡ tally 0 0 (got_walk c)
      → to ≡ cond (leb c.lent.bw max_width && leb m.last max_blocks) (address_of c.lent.bw m.last) 0
      → page ≡ set c.lent.page (to / 8) c.own → outcome done m.count (with c c.got 0 page c.lent.bits) ≡ append_act c
  unfolding append_act
  append-acts g z e p q =
      let w = got_walk c in
      simp (z, q, p, told-count w e, told-last w e, address_is c.lent (last_of 0 w.blocks) g (walk-last c.lent c.got (told-ends w e)), address-place)

-- ---- 4. extend

module _ (c : Lists) (a b : ℕ) where
  -- by the page rules, the run's being blocks, its bits, and own's head
  pub extend-is : {b2 b4 b9 b11 : Bool} {m : ℕ} → keeps_rules_b c.lent ≡ b2 → run_b c.lent.n a b ≡ b4 → m ≡ b → any_set c.lent.bits a m ≡ b9
      → sound_in c.lent c.own ≡ b11
      → tried c (extend_act c a b) (row bad_page (not b2) ∷ row no_such (not b4) ∷ row listed b9 ∷ row damaged (not b11) ∷ []) ≡ extend_of c a b
  unfolding extend_of extend_refusal
  extend-is p q e r t = simp (← p, ← q, ← r, ← t, e) (tried-is c (extend_act c a b) _ refl)

  -- a number of 64 bits names every block of a run
  pub run-whole : Rules c.lent → run_b c.lent.n a b ≡ true → run_length a b ≡ b
  run-whole g e =
      let f = run-facts c.lent.n a b e in
      omega arith

  -- the blocks laid and their bits set
  pub extend-acts : {m head : ℕ} {page bits : List ℕ} → m ≡ b → head ≡ head_of (place c.lent.bw) c.own (up_from a b)
      → page ≡ laid (place c.lent.bw) c.lent.page c.own (up_from a b) → bits ≡ put_run c.lent.bits a m 1
      → outcome done b (with c head c.got page bits) ≡ extend_act c a b
  unfolding extend_act
  extend-acts e p q r = simp (p, q, r, e)

-- ---- 5. release

module _ (c : Lists) where
  -- by the page rules, and whether the walk of own came to 0
  pub release-is : {b2 b11 : Bool} → keeps_rules_b c.lent ≡ b2 → (own_walk c).ends ≡ b11
      → tried c (release_act c) (row bad_page (not b2) ∷ row damaged (not b11) ∷ []) ≡ release_of c
  unfolding release_of release_refusal
  release-is p t = simp (← p, ← t) (tried-is c (release_act c) _ refl)

  -- the walk, and as many blocks from own's head on cleared
  pub release-acts : {m : Walked} {bits : List ℕ} → Rules c.lent → Some m ≡ tally 0 0 (own_walk c)
      → bits ≡ clear_all c.lent.bits (blocks_from c.lent.bw c.lent.page m.count c.own)
      → outcome done m.count (with c 0 c.got c.lent.page bits) ≡ release_act c
  unfolding release_act
  release-acts g e p =
      let w = own_walk c in
      simp (p, told-count w e, walk-blocks c.lent g c.own (told-ends w e))

-- ---- 13. whether own is empty

module _ (c : Lists) where
  -- by the page rules, and own's being empty
  pub empty-is : {b2 b0 : Bool} → keeps_rules_b c.lent ≡ b2 → eqb c.own 0 ≡ b0 → tried c (outcome done (one b0) c) (row bad_page (not b2) ∷ []) ≡ empty_of c
  unfolding empty_of empty_refusal empty_act
  empty-is p q = simp (← p, ← q) (tried-is c (outcome done (one (eqb c.own 0)) c) _ refl)

-- ---- blocks laid from the last down

-- the head and the page after these blocks were laid before own
abbrev pub LaidBy : ℕ → ℕ → List ℕ → List ℕ → ℕ → List ℕ → Type 0
LaidBy bw own page xs head after = (head ≡ head_of (place bw) own xs) × (after ≡ laid (place bw) page own xs)

module _ (bw own : ℕ) (page : List ℕ) where
  -- none yet
  pub lay-none : (i m : ℕ) → m ≡ 0 → LaidBy bw own page (up_from i m) own page
  unfolding up_from
  lay-none i m e = simp e (refl, refl)

  -- one more, before those from j on
  pub lay-more : (i j m k : ℕ) {head at : ℕ} {after now : List ℕ} → j ≡ suc i → k ≡ suc m → bw ≤ max_width → i ≤ max_blocks
      → at ≡ cond (leb bw max_width && leb i max_blocks) (address_of bw i) 0 → now ≡ set after (at / 8) head
      → LaidBy bw own page (up_from j m) head after → LaidBy bw own page (up_from i k) at now
  unfolding up_from
  lay-more i j m k e f s l p q x =
      let here = p ∙ address-within bw i s l in
      simp (f, ← e) (here, q ∙ simp (here, address-place, x.0, x.1))
