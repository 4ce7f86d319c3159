-- The tests of operations agree: an operation is on one list, it pushes or takes or does neither, and it begins at a stage
-- that a rule pairs with it. Assumes nothing.
use Prim.Native.Nat.{ℕ, zero, suc, ◌+◌, ◌-◌, ◌<◌, ◌≤◌}
use mathlib.Core.Path.{◌≡◌, refl, subst}
use mathlib.Core.Bool.{false, ◌&&◌, ◌||◌, and-false}
use native.Mathlib.Decide.{dec_lt}
use native.Mathlib.Omega.{arith}
use borrow.Author.Tests.{lt-leb, ne_eqb}
use Rattle.operations.specs.Operations.{push_shared, await_tag, staged_b, pushes_b, takes_b, on_shared_b, on_tagged_b, first_stage, one_of, stages_of, paired_b}

pub record Agrees (op : ℕ) : Type 0 where
  -- the staged operations are those on S and those on T
  pub lists : (on_shared_b op || on_tagged_b op) ≡ staged_b op
  -- none is on both
  pub apart : (on_shared_b op && on_tagged_b op) ≡ false
  -- no push is a take
  pub acts : (pushes_b op && takes_b op) ≡ false
  -- the first stage is paired with every staged operation, and with no other
  pub first : paired_b op (first_stage op) ≡ staged_b op

-- 0 to 5, one by one
low : (op : ℕ) → op < push_shared → Agrees op
unfolding staged_b pushes_b takes_b on_shared_b on_tagged_b first_stage one_of stages_of
low zero h = record { lists = refl; apart = refl; acts = refl; first = refl }
low (suc zero) h = record { lists = refl; apart = refl; acts = refl; first = refl }
low (suc (suc zero)) h = record { lists = refl; apart = refl; acts = refl; first = refl }
low (suc (suc (suc zero))) h = record { lists = refl; apart = refl; acts = refl; first = refl }
low (suc (suc (suc (suc zero)))) h = record { lists = refl; apart = refl; acts = refl; first = refl }
low (suc (suc (suc (suc (suc zero))))) h = record { lists = refl; apart = refl; acts = refl; first = refl }
low (suc (suc (suc (suc (suc (suc k)))))) h = absurd (omega arith)

-- 6 to 12, one by one
middle : (k : ℕ) → push_shared + k ≤ await_tag → Agrees (push_shared + k)
unfolding staged_b pushes_b takes_b on_shared_b on_tagged_b first_stage one_of stages_of
middle zero h = record { lists = refl; apart = refl; acts = refl; first = refl }
middle (suc zero) h = record { lists = refl; apart = refl; acts = refl; first = refl }
middle (suc (suc zero)) h = record { lists = refl; apart = refl; acts = refl; first = refl }
middle (suc (suc (suc zero))) h = record { lists = refl; apart = refl; acts = refl; first = refl }
middle (suc (suc (suc (suc zero)))) h = record { lists = refl; apart = refl; acts = refl; first = refl }
middle (suc (suc (suc (suc (suc zero))))) h = record { lists = refl; apart = refl; acts = refl; first = refl }
middle (suc (suc (suc (suc (suc (suc zero)))))) h = record { lists = refl; apart = refl; acts = refl; first = refl }
middle (suc (suc (suc (suc (suc (suc (suc k))))))) h = absurd (omega arith)

-- above them every test fails
high : (op : ℕ) → await_tag < op → Agrees op
unfolding staged_b pushes_b takes_b on_shared_b on_tagged_b one_of stages_of
high op l =
    let past = lt-leb op await_tag l in
    let z6 = ne_eqb op 6 (λ e. omega arith) in
    let z7 = ne_eqb op 7 (λ e. omega arith) in
    let z8 = ne_eqb op 8 (λ e. omega arith) in
    let z9 = ne_eqb op 9 (λ e. omega arith) in
    let z10 = ne_eqb op 10 (λ e. omega arith) in
    let z11 = ne_eqb op 11 (λ e. omega arith) in
    let z12 = ne_eqb op 12 (λ e. omega arith) in
    record {
      lists = simp (z6, z7, past, and-false);
      apart = simp (z6, z7);
      acts = simp (z6, z8);
      first = simp (z6, z7, z8, z9, z10, z11, z12, past, and-false);
    }

pub agrees : (op : ℕ) → Agrees op
agrees op = go (dec_lt op push_shared) (dec_lt await_tag op)
  where
    go : Dec (op < push_shared) → Dec (await_tag < op) → Agrees op
    go (yes l) d = low op l
    go (no l) (yes h) = high op h
    go (no l) (no h) = subst Agrees (omega arith) (middle (op - push_shared) (omega arith))
