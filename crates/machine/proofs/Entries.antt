-- An entry has bw − 1 words, and equal entries compare to as many. Assumes nothing.
use Prim.Native.Nat.{ℕ, suc, ◌+◌, ◌-◌, ◌*◌, ◌≤◌}
use mathlib.Core.Path.{◌≡◌, refl, ap, ◌∙◌}
use mathlib.Core.List.{List, [], ◌∷◌}
use native.Mathlib.Omega.{arith}
use native.Mathlib.Nat.{mul-le-mul_right}
use lib.ListN.{length, length-take, length-drop}
use borrow.Author.Tests.{eq-eqb, not-false}
use Rattle.answers.specs.Numbers.{done}
use Rattle.answers.specs.Rows.{answer}
use Rattle.answers.proofs.Rows.{and_left, first-none}
use Rattle.page.specs.Page.{Lent, Rules, keeps_rules_b, workers_b}
use Rattle.page.proofs.Rules.{rules-facts, block-facts}
use Rattle.machine.specs.Readers.{reads_b, entry_refusal, entry_of, equal_leading, compare_refusal, compare_of}

module _ (c : Lent) (w a : ℕ) (e : entry_refusal c w a ≡ done) where
  entry-rules : Rules c
  unfolding entry_refusal reads_b
  entry-rules = rules-facts c (and_left (keeps_rules_b c) (workers_b w) (not-false _ (first-none _ _ _ (omega arith) e).0))

  entry-block : (1 ≤ a) × (a ≤ c.n)
  unfolding entry_refusal
  entry-block = block-facts c.n a (not-false _ (first-none _ _ _ (omega arith) (first-none _ _ _ (omega arith) e).1).0)

  -- an entry that is not refused has bw − 1 words
  pub entry-words : length (entry_of c w a) ≡ c.bw - 1
  unfolding entry_of
  entry-words =
      let r = entry-rules in
      let room : (a + 1) * c.bw ≤ (c.n + 1) * c.bw = mul-le-mul_right {m = a + 1} {n = c.n + 1} c.bw (omega (arith, entry-block)) in
      rw (eq-eqb (entry_refusal c w a) done e) (simp (length-take, length-drop) (omega (arith, r.some, r.words, room)))

-- a list compared with itself is equal to its end
pub equal-all : (xs : List ℕ) → equal_leading xs xs ≡ length xs
unfolding equal_leading
equal-all [] = refl
equal-all (x ∷ xs) = rw (eq-eqb x x refl) (ap suc (equal-all xs))

-- two entries with the same words compare to bw − 1
pub equal-entries : (c : Lent) (w a b : ℕ) → entry_refusal c w a ≡ done → compare_refusal c w a b ≡ done → entry_of c w b ≡ entry_of c w a
    → compare_of c w a b ≡ answer done (c.bw - 1)
unfolding compare_of
equal-entries c w a b e f same =
    rw (eq-eqb (compare_refusal c w a b) done f, same) (ap (answer done) (equal-all (entry_of c w a) ∙ entry-words c w a e))
