-- What a write and the new head of an exchange rest on. Assumes nothing.
use Prim.Native.Nat.{ℕ, ◌≤◌}
use mathlib.Core.Path.{◌≡◌, refl, ap, ◌∙◌}
use mathlib.Core.Bool.{Bool, true, false, ◌&&◌, cond}
use native.Mathlib.Omega.{arith}
use lib.Dec.{leb, eqb}
use Rattle.std.proofs.Common.{Result, Ok, Err}
use Rattle.answers.specs.declared.Refusal.{Refusal}
use Rattle.answers.specs.declared.Refusal.TheVariants.{BadPage, NoWorker, NoSuch, Busy, Idle, Switched, NotEmpty, Listed, NoneLeft, Damaged}
use Rattle.answers.specs.declared.Answer.{Answer}
use Rattle.answers.specs.Numbers.{done}
use Rattle.answers.specs.Refusals.{number_of, told}
use Rattle.answers.specs.Rows.{answer}
use Rattle.words.specs.Tagged.{set_ptr_of, set_delay_of}
use Rattle.words.proofs.Tagged.{set-ptr, set-delay}
use Rattle.page.specs.Limits.{max_blocks, max_width}
use Rattle.page.specs.Page as page
use Rattle.page.proofs.Rules.{address-within, address-place, address-even}
use Rattle.operations.specs.declared.Worker.{Worker}
use Rattle.operations.specs.Operations.{set_tag, pushes_b}
use Rattle.staged.specs.Workers.{max_tag}
use Rattle.staged.specs.Moves.{Fitting, wanted_tag, new_word}

-- the address of a block within the limits, and its place in the page
pub ruleset placed = (address-within, address-place)

-- a refusal is never told as done
refused : (e : Refusal) → number_of e ≡ done → ⊥
refused BadPage h = omega arith
refused NoWorker h = omega arith
refused NoSuch h = omega arith
refused Busy h = omega arith
refused Idle h = omega arith
refused Switched h = omega arith
refused NotEmpty h = omega arith
refused Listed h = omega arith
refused NoneLeft h = omega arith
refused Damaged h = omega arith

-- what is told as done with a value is that value
told-done : (r : Result ℕ Refusal) (v : ℕ) → told r ≡ answer done v → r ≡ Ok v
told-done (Ok w) v h = ap (λ (a : Answer). Ok a.value) h
told-done (Err e) v h = absurd (refused e (ap (λ (a : Answer). a.number) h))

-- ---- the new head of an exchange

module _ (k : Worker) (bw : ℕ) (f : Fitting k bw) where
  -- of a push: its block with the tag seen
  pub push-word : {address : ℕ} {r : Result ℕ Refusal} → pushes_b k.operation ≡ true
      → address ≡ cond (leb bw max_width && leb k.hand max_blocks) (page.address_of bw k.hand) 0 → told r ≡ set_ptr_of k.seen address
      → r ≡ Ok (new_word k bw)
  unfolding new_word
  push-word p a e =
      let at = a ∙ address-within bw k.hand f.narrow (f.hand p) in
      told-done _ _ (e ∙ ap (set_ptr_of k.seen) at ∙ set-ptr k.seen _ (address-even bw k.hand)) ∙ simp p

  -- the wanted tag is at most 3
  wanted-small : wanted_tag k ≤ max_tag
  wanted-small = go (eqb k.operation set_tag) refl
    where
      go : (b : Bool) → eqb k.operation set_tag ≡ b → cond b k.tag 0 ≤ max_tag
      go true e = f.tag e
      go false e = omega arith

  -- of any other operation: the address seen with the tag wanted
  pub tag_word : {tag : ℕ} {r : Result ℕ Refusal} → pushes_b k.operation ≡ false → tag ≡ wanted_tag k → told r ≡ set_delay_of k.seen tag
      → r ≡ Ok (new_word k bw)
  unfolding new_word
  tag_word p t e = told-done _ _ (e ∙ ap (set_delay_of k.seen) t ∙ set-delay k.seen (wanted_tag k) wanted-small) ∙ simp p
