-- The statements of `Facts`, proved. Assumes nothing.
use Prim.Native.Nat.{◌*◌, ◌/◌, ℕ}
use mathlib.Core.Path.{◌≡◌, refl, sym, ap, ◌∙◌}
use native.Mathlib.Nat.{mul_assoc, mul_comm}
use lib.ListN.{get_or}
use Rattle.page.specs.Page.{address_of, block_of}
use Rattle.page.specs.Facts.{LimitsAre, RulesAre, WorkersAre, BlocksAre, RunsOfBlocksAre, BlocksStand}
use Rattle.page.proofs.Rules.{rules-facts, rules-test, workers-facts, workers-test, block-facts, block-test, run-facts, run-test, block-address, address-place}

pub limits-are : LimitsAre
limits-are = (refl, refl, refl)

pub rules-are : RulesAre
rules-are c = (rules-facts c, rules-test c)

pub workers-are : WorkersAre
workers-are w = (workers-facts w, workers-test w)

pub blocks-are : BlocksAre
blocks-are n a = (block-facts n a, block-test n a)

pub runs-of-blocks-are : RunsOfBlocksAre
runs-of-blocks-are n a b = (run-facts n a b, run-test n a b)

-- the address, its factors in the document's order
address-order : (bw i : ℕ) → address_of bw i ≡ 8 * bw * i
address-order bw i = ap (λ (x : ℕ). 8 * x) (mul_comm i bw) ∙ sym (mul_assoc 8 bw i)

pub blocks-stand : BlocksStand
blocks-stand bw i =
    record {
      word = refl;
      address = address-order bw i;
      block = λ s. ap (block_of bw) (sym (address-order bw i)) ∙ block-address bw i s;
      link = λ page. ap (λ (k : ℕ). get_or page k 0) (ap (λ (x : ℕ). x / 8) (sym (address-order bw i)) ∙ address-place bw i);
    }
