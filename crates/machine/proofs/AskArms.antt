-- The arguments of a start, and a code that is none of 6 to 12. Assumes nothing.
use Prim.Native.Nat.{ℕ, ◌<◌}
use mathlib.Core.Path.{◌≡◌, refl}
use mathlib.Core.Bool.{Bool, true, false, ◌&&◌}
use lib.Dec.{leb}
use borrow.Author.Tests.{lt-leb}
use Rattle.operations.specs.Operations.{push_shared, await_tag, staged_b}
use Rattle.staged.specs.Start.{start_fits_b}
use Rattle.machine.specs.Table.{arguments_fit_b}

-- ---- the arguments

module _ (n code a b : ℕ) where
  pub fit-staged : staged_b code ≡ true → start_fits_b n code a ≡ arguments_fit_b n code a b
  unfolding arguments_fit_b
  fit-staged s = simp s

-- ---- by the bounds of a code

pub below-staged : (code : ℕ) → code < push_shared → staged_b code ≡ false
unfolding staged_b
below-staged code p = simp (lt-leb _ _ p)

pub above-staged : (code : ℕ) → await_tag < code → staged_b code ≡ false
unfolding staged_b
above-staged code p = go (leb push_shared code)
  where
    go : (v : Bool) → (v && leb code await_tag) ≡ false
    go true = lt-leb _ _ p
    go false = refl
