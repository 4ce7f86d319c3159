-- What is met from a head on: the blocks of a list that runs, those of a walk that ends, and their bits cleared one
-- after another. Assumes nothing.
use Prim.Native.Nat.{ℕ, suc, ◌≤◌}
use mathlib.Core.Path.{◌≡◌, refl, ap₂, ◌∙◌}
use mathlib.Core.Bool.{true, ◌&&◌, cond}
use mathlib.Core.List.{List, [], ◌∷◌}
use lib.Dec.{leb}
use lib.ListN.{length}
use Rattle.bitmap.specs.Bitmap.{bit_put}
use Rattle.bitmap.proofs.Bits.{put-length}
use Rattle.page.specs.Limits.{max_width}
use Rattle.page.specs.Page.{Lent, Rules, block_of, link_at}
use Rattle.page.specs.Walk.{walk_of, last_of}
use Rattle.page.specs.Sequences.{Runs}
use Rattle.page.proofs.Rules.{block_within}
use Rattle.page.proofs.Running.{run-front, run-rest, run-walk, run-last}
use Rattle.lists.specs.Own.{clear_all, blocks_from}

module _ (c : Lent) (r : Rules c) where
  -- the first blocks from a list's head on are the list's
  pub run-blocks : (h : ℕ) (xs : List ℕ) → Runs c h xs → blocks_from c.bw c.page (length xs) h ≡ xs
  unfolding blocks_from
  run-blocks h [] x = refl
  run-blocks h (i ∷ xs) x = ap₂ (λ (j : ℕ) (js : List ℕ). j ∷ js) (run-front c r h i xs x) (run-blocks (link_at c.page h) xs (run-rest c h i xs x))

  -- and so they are the blocks that a walk met which ended
  pub walk-blocks : (h : ℕ) → (walk_of c h).ends ≡ true → blocks_from c.bw c.page (length (walk_of c h).blocks) h ≡ (walk_of c h).blocks
  walk-blocks h e = run-blocks h (walk_of c h).blocks (run-walk c c.n h e)

-- the last of the blocks that it met, or 0, is at most n
pub walk-last : (c : Lent) (h : ℕ) → (walk_of c h).ends ≡ true → last_of 0 (walk_of c h).blocks ≤ c.n
walk-last c h e = run-last c h (walk_of c h).blocks (run-walk c c.n h e)

-- ---- bits cleared one after another

-- clearing keeps the length
pub clear-length : (bits is : List ℕ) → length (clear_all bits is) ≡ length bits
unfolding clear_all
clear-length bits [] = refl
clear-length bits (i ∷ is) = clear-length (bit_put bits i 0) is ∙ put-length bits i 0

module _ (bw : ℕ) (page bits : List ℕ) (h : ℕ) where
  -- no block is left
  pub clear_none : (k : ℕ) → k ≡ 0 → clear_all bits (blocks_from bw page k h) ≡ bits
  unfolding clear_all blocks_from
  clear_none k e = simp e

  -- one is cleared, and the rest is left
  pub clear-more : (k m : ℕ) {i next : ℕ} {after : List ℕ} → k ≡ suc m → 1 ≤ bw → bw ≤ max_width
      → i ≡ cond (leb 1 bw && leb bw max_width) (block_of bw h) 0 → after ≡ bit_put bits i 0 → next ≡ link_at page h
      → clear_all after (blocks_from bw page m next) ≡ clear_all bits (blocks_from bw page k h)
  unfolding clear_all blocks_from
  clear-more k m e s l p q r = simp (e, q, r, p, block_within bw h s l)
