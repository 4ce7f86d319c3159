-- Where an entry lies, and the comparison of words. Assumes nothing.
use Prim.Native.Nat.{ℕ, suc, ◌+◌, ◌-◌, ◌≤◌, ◌<◌, min}
use mathlib.Core.Path.{◌≡◌, refl, sym, ap, ◌∙◌}
use mathlib.Core.Logic.{◌≢◌}
use mathlib.Core.Bool.{not}
use mathlib.Core.List.{List, []}
use native.Mathlib.Omega.{arith}
use native.Mathlib.Nat.{mul-le-mul, mul-le-mul_right}
use native.Mathlib.Numerals.{add-one}
use native.Mathlib.Decide.{dec_lt}
use lib.ListN.{length, get_or, take, drop, drop_of_length-le}
use lib.Seq.{drop-cons}
use borrow.Author.Tests.{eq-eqb, ne_eqb, not-false}
use Rattle.answers.specs.Numbers.{bad_page, no_such}
use Rattle.std.specs.Prelude.{Result, Ok}
use Rattle.answers.specs.Refusals.{number_of}
use Rattle.answers.specs.declared.Refusal.{Refusal}
use Rattle.answers.specs.declared.Refusal.TheVariants.{BadPage, NoWorker, NoSuch, Busy, Idle, Switched, NotEmpty, Listed, NoneLeft, Damaged}
use Rattle.answers.proofs.Rows.{and_left, first-none}
use Rattle.page.specs.Limits.{max_blocks, max_width}
use Rattle.page.specs.Page.{Lent, workers_b, block_b, place}
use Rattle.page.proofs.Rules.{rules-facts, block-facts}
use Rattle.readers.specs.Parts.{readable}
use Rattle.machine.specs.Readers.{reads_b, entry_refusal, entry_of, equal_leading}

-- ---- entries

-- a refusal's number is none that is done
pub refused-number : (e : Refusal) → number_of e ≢ 0
refused-number BadPage p = omega arith
refused-number NoWorker p = omega arith
refused-number NoSuch p = omega arith
refused-number Busy p = omega arith
refused-number Idle p = omega arith
refused-number Switched p = omega arith
refused-number NotEmpty p = omega arith
refused-number Listed p = omega arith
refused-number NoneLeft p = omega arith
refused-number Damaged p = omega arith

module _ (c : Lent) (w a : ℕ) where
  -- a refused entry is empty
  pub entry-none : {k : ℕ} → k ≡ entry_refusal c w a → k ≢ 0 → [] ≡ entry_of c w a
  unfolding entry_of
  entry-none e n = simp (← e, ne_eqb _ _ n)

  -- an entry is the part after the link word
  pub entry-some : {k : ℕ} → k ≡ entry_refusal c w a → k ≡ 0
      → let s = place c.bw a in take (s + c.bw - (s + 1)) (drop (s + 1) c.page) ≡ entry_of c w a
  unfolding entry_of
  entry-some e n =
      let z : place c.bw a + c.bw - (place c.bw a + 1) ≡ c.bw - 1 = omega arith in
      simp (← e, eq-eqb _ _ n, z)

  -- where an entry that is not refused lies
  pub record Lies : Type 0 where
    pub some : 1 ≤ c.bw
    pub inside : place c.bw a + c.bw ≤ length c.page
    pub small : length c.page ≤ 262144

  pub entry-lies : {k : ℕ} → k ≡ entry_refusal c w a → k ≡ 0 → Lies
  unfolding entry_refusal reads_b
  entry-lies e n =
      let t = first-none bad_page (not (reads_b c w)) _ (omega arith) (sym e ∙ n) in
      let u = first-none no_such (not (block_b c.n a)) _ (omega arith) t.1 in
      let g = rules-facts c (and_left _ (workers_b w) (not-false _ t.0)) in
      let l = block-facts c.n a (not-false _ u.0) in
      record {
        some = g.some;
        inside = omega (arith, mul-le-mul_right {m = a + 1} {n = c.n + 1} c.bw (omega arith));
        small = omega (arith, mul-le-mul {n₁ = c.n + 1} {n₂ = max_blocks + 1} {m₂ = max_width} (omega arith) g.narrow);
      }

  -- and it lies there where it may be read
  pub lies-ok : {r : Result Unit Refusal} {u : Unit} → r ≡ Ok u → readable r ≡ entry_refusal c w a → Lies
  lies-ok e q = entry-lies (ap readable (sym e) ∙ q) refl

-- ---- equal leading words, from word i on

module _ (xs ys : List ℕ) (i : ℕ) where
  -- equal words from i on
  abbrev pub leading_from : ℕ
  leading_from = equal_leading (drop i xs) (drop i ys)

  -- past the first list's end there is none
  pub leading_end : length xs ≤ i → leading_from ≡ 0
  unfolding equal_leading
  leading_end h = simp (drop_of_length-le xs h)

  -- nor past the second's
  pub leading-end' : i < length xs → length ys ≤ i → leading_from ≡ 0
  unfolding equal_leading
  leading-end' l h = simp (drop-cons xs i 0 l, drop_of_length-le ys h)

  -- so past the end of either
  pub leading-past : min (length xs) (length ys) ≤ i → leading_from ≡ 0
  leading-past h = pick (dec_lt i (length xs))
    where
      pick : Dec (i < length xs) → leading_from ≡ 0
      pick (yes l) = leading-end' l (omega arith)
      pick (no g) = leading_end (omega arith)

  -- two that differ are no more
  pub leading-stop : i < length xs → i < length ys → get_or xs i 0 ≢ get_or ys i 0 → leading_from ≡ 0
  unfolding equal_leading
  leading-stop l m n = simp (drop-cons xs i 0 l, drop-cons ys i 0 m, ne_eqb _ _ n)

  -- two that are equal are one more
  pub leading-more : i < length xs → i < length ys → get_or xs i 0 ≡ get_or ys i 0 → leading_from ≡ suc (equal_leading (drop (i + 1) xs) (drop (i + 1) ys))
  unfolding equal_leading
  leading-more l m e = simp (drop-cons xs i 0 l, drop-cons ys i 0 m, eq-eqb _ _ e, add-one)
