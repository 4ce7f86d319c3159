-- The walk of a list: from a head over sound addresses to 0, at most n blocks (document 01, Damaged).
use Rattle.std.specs.Prelude.{ℕ, zero, suc, ◌+◌, Bool, true, false, cond, List, [], ◌∷◌, Option, Some, None, eqb, length}
use Rattle.page.specs.declared.Walked.{Walked}
use Rattle.page.specs.Page.{Lent, block_of, link_at, sound_in}

-- the blocks met in order, and whether the walk came to 0
pub record Walk : Type 0 where
  pub ends : Bool
  pub blocks : List ℕ

abbrev pub ended : Walk
ended = record { ends = true; blocks = [] }

-- an unsound head or link, or a block too many
abbrev pub broken : Walk
broken = record { ends = false; blocks = [] }

-- a block met before the rest of a walk
abbrev pub then : ℕ → Walk → Walk
then i w = record { ends = w.ends; blocks = i ∷ w.blocks }

-- from head h, with room for so many blocks
unfoldable pub walk_from : Lent → ℕ → ℕ → Walk
walk_from c zero h = cond (eqb h 0) ended broken
walk_from c (suc room) h = cond (eqb h 0) ended (cond (sound_in c h) (then (block_of c.bw h) (walk_from c room (link_at c.page h))) broken)

abbrev pub walk_of : Lent → ℕ → Walk
walk_of c h = walk_from c c.n h

-- the last of a list of blocks, or the block before it where it has none
unfoldable pub last_of : ℕ → List ℕ → ℕ
last_of i [] = i
last_of i (j ∷ is) = last_of j is

-- what is told of a walk that has met count blocks already, the last of them `last`: nothing where it did not come to 0
unfoldable pub tally : ℕ → ℕ → Walk → Option Walked
tally count last w = cond w.ends (Some (record { count = count + length w.blocks; last = last_of last w.blocks })) None
