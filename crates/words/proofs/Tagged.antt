-- Splitting and joining a tagged word agree both ways. Assumes nothing.
use mathlib.Core.Path.{◌≡◌}
use mathlib.Core.Logic.{◌≢◌}
use Prim.Native.Nat.{ℕ, ◌+◌, ◌%◌, ◌≤◌, ◌<◌}
use native.Mathlib.Omega.{arith}
use borrow.Author.Tests.{eq-eqb, ne_eqb, le-leb, lt-leb}
use Rattle.answers.specs.Numbers.{done, no_such}
use Rattle.answers.specs.Rows.{answer}
use Rattle.words.specs.Tagged.{tag_of, address_of, set_ptr_of, set_delay_of}

-- a word is its two parts joined
pub split-join : (v : ℕ) → address_of v + tag_of v ≡ v
split-join v = omega arith

-- the parts of a join are what was joined
pub join-address : (a t : ℕ) → a % 4 ≡ 0 → t ≤ 3 → address_of (a + t) ≡ a
join-address a t h l = omega arith

pub join-tag : (a t : ℕ) → a % 4 ≡ 0 → t ≤ 3 → tag_of (a + t) ≡ t
join-tag a t h l = omega arith

-- the parts keep their rules
pub address-even : (v : ℕ) → address_of v % 4 ≡ 0
address-even v = omega arith

pub tag_small : (v : ℕ) → tag_of v ≤ 3
tag_small v = omega arith

-- a new address or tag within the rules is taken
pub set-ptr : (v a : ℕ) → a % 4 ≡ 0 → set_ptr_of v a ≡ answer done (a + tag_of v)
unfolding set_ptr_of
set-ptr v a h = simp (eq-eqb _ _ h)

pub set-delay : (v t : ℕ) → t ≤ 3 → set_delay_of v t ≡ answer done (address_of v + t)
unfolding set_delay_of
set-delay v t h = simp (le-leb _ _ h)

-- one that breaks them is refused
pub no-ptr : (v a : ℕ) → a % 4 ≢ 0 → set_ptr_of v a ≡ answer no_such 0
unfolding set_ptr_of
no-ptr v a h = simp (ne_eqb _ _ h)

pub no-delay : (v t : ℕ) → 3 < t → set_delay_of v t ≡ answer no_such 0
unfolding set_delay_of
no-delay v t h = simp (lt-leb _ _ h)
