-- Where the damage test does not hold none of its parts does, and what that gives a move. Assumes nothing.
use Prim.Native.Nat.{ℕ, zero, suc, ◌≤◌}
use mathlib.Core.Path.{◌≡◌, refl, sym, ap, ◌∙◌}
use mathlib.Core.Bool.{Bool, true, false, not, ◌&&◌, ◌||◌}
use mathlib.Core.List.{List, [], ◌∷◌}
use native.Mathlib.Omega.{arith}
use lib.Dec.{eqb}
use lib.ListN.{get_or}
use borrow.Author.Tests.{eqb-true, ltb-false, not-false}
use Rattle.answers.proofs.Rows.{and_left, and_right}
use Rattle.page.specs.Limits.{max_blocks}
use Rattle.page.specs.Page.{Rules, block_b, listed_b}
use Rattle.page.specs.Sequences.{Listed}
use Rattle.page.proofs.Rules.{block-facts}
use Rattle.operations.specs.Operations.{set_tag, pushes_b, writing, paired_b}
use Rattle.operations.proofs.PairArms.{writing-pushes}
use Rattle.staged.specs.Workers.{max_tag}
use Rattle.staged.specs.Damage.{Turn, any, hand_bad, tag_bad, damage_tests, damaged_b}
use Rattle.staged.specs.Moves.{Fitting}

-- ---- any of a list of tests

or_left : (a b : Bool) → a || b ≡ false → a ≡ false
or_left true b e = e
or_left false b e = refl

pub or_right : (a b : Bool) → a || b ≡ false → b ≡ false
or_right true false e = refl
or_right true true e = e
or_right false b e = e

-- where none holds, the one at i does not
none-at : (l : List Bool) (i : ℕ) → any l ≡ false → get_or l i false ≡ false
unfolding any
none-at [] i e = refl
none-at (b ∷ l) zero e = or_left b (any l) e
none-at (b ∷ l) (suc i) e = none-at l i (or_right b (any l) e)

-- ---- where it does not hold

module _ (t : Turn) (d : damaged_b t ≡ false) where
  -- of its tests none does
  pub passes : (i : ℕ) → get_or (damage_tests t) i false ≡ false
  unfolding damaged_b
  passes i = none-at (damage_tests t) i d

  -- a rule pairs operation and stage
  pub is-paired : paired_b t.worker.operation t.worker.stage ≡ true
  is-paired = not-false _ (passes 0)

  -- a push's block is 1 to n and its bit is set
  pub hand-listed : pushes_b t.worker.operation ≡ true → Listed t.lent t.worker.hand
  unfolding hand_bad
  hand-listed p =
      let within = block_b t.lent.n t.worker.hand in
      let e : not (within && listed_b t.lent.bits t.worker.hand) ≡ false = simp p at (passes 1) in
      let b = block-facts t.lent.n t.worker.hand (and_left _ _ (not-false _ e)) in
      record { low = b.0; high = b.1; bit = eqb-true _ _ (and_right within _ (not-false _ e)) }

  -- a wanted tag is at most 3
  pub tag_small : eqb t.worker.operation set_tag ≡ true → t.worker.tag ≤ max_tag
  unfolding tag_bad
  tag_small p = ltb-false max_tag t.worker.tag (simp p at (passes 6))

  -- what the new head rests on
  pub fitting : Rules t.lent → Fitting t.worker t.lent.bw
  fitting r = record { narrow = r.narrow; hand = λ p. omega (arith, (hand-listed p).high); tag = tag_small }

  -- at write there is a block in hand
  pub writes : Rules t.lent → t.worker.stage ≡ writing → t.worker.hand ≤ max_blocks
  writes r e = (fitting r).hand (writing-pushes t.worker.operation (ap (paired_b t.worker.operation) (sym e) ∙ is-paired))
