-- Laws of a walk's steps: it comes to 0, it is too long, it meets what is not sound, or it goes one block on. Assumes nothing.
use Rattle.std.proofs.Common.{◌≡◌, ◌≢◌, ℕ, zero, suc, ◌+◌, true, false, Option, Some, None, length, arith}
use native.Mathlib.Nat.{add-zero}
use borrow.Author.Tests.{eq-eqb, ne_eqb}
use Rattle.page.specs.declared.Walked.{Walked}
use Rattle.page.specs.Page.{Lent, block_of, link_at, sound_in}
use Rattle.page.specs.Walk.{Walk, then, walk_from, last_of, tally}

-- what is told of a walk that came to 0
abbrev pub walked : ℕ → ℕ → Option Walked
walked count last = Some (record { count = count; last = last })

-- a block met counts as one more, and is the last
tally-then : (count last i : ℕ) (w : Walk) → tally (count + 1) i w ≡ tally count last (then i w)
unfolding tally last_of
tally-then count last i w =
    let e : count + 1 + length w.blocks ≡ count + suc (length w.blocks) = omega arith in
    simp e

module _ (c : Lent) (room h count last : ℕ) where
  -- it comes to 0
  pub walk_ends : h ≡ 0 → walked count last ≡ tally count last (walk_from c room h)
  unfolding tally walk_from last_of
  walk_ends e = ends room
    where
      ends : (room : ℕ) → walked count last ≡ tally count last (walk_from c room h)
      ends zero = simp (eq-eqb _ _ e, add-zero)
      ends (suc room) = simp (eq-eqb _ _ e, add-zero)

  -- it is too long
  pub walk-long : room ≡ 0 → h ≢ 0 → None ≡ tally count last (walk_from c room h)
  unfolding tally walk_from
  walk-long z e = simp (z, ne_eqb _ _ e)

  -- it meets what is not sound
  pub walk-bad : h ≢ 0 → sound_in c h ≡ false → None ≡ tally count last (walk_from c room h)
  unfolding tally walk_from
  walk-bad e f = bad room
    where
      bad : (room : ℕ) → None ≡ tally count last (walk_from c room h)
      bad zero = simp (ne_eqb _ _ e)
      bad (suc room) = simp (ne_eqb _ _ e, f)

  -- it goes on over block i to the next address
  pub walk-on : (room' i next : ℕ) → room ≡ suc room' → h ≢ 0 → sound_in c h ≡ true → i ≡ block_of c.bw h → next ≡ link_at c.page h
      → tally (count + 1) i (walk_from c room' next) ≡ tally count last (walk_from c room h)
  unfolding walk_from
  walk-on room' i next z e f p q = simp (p, q, tally-then count last, z, ne_eqb _ _ e, f)
