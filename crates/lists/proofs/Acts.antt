-- The statements of `Acts`, proved: what each definition stores, word by word and bit by bit. Assumes nothing.
use Prim.Native.Nat.{ℕ, zero, suc, ◌+◌, ◌-◌, ◌*◌, ◌≤◌, ◌<◌}
use mathlib.Core.Path.{◌≡◌, refl, sym, ap, ap₂, ◌∙◌}
use mathlib.Core.Logic.{◌≢◌}
use mathlib.Core.List.{List, [], ◌∷◌, ◌++◌}
use native.Mathlib.Decide.{ℕ_discrete}
use native.Mathlib.Numerals.{add-one}
use native.Mathlib.Omega.{arith}
use lib.ListN.{length, get_or, set, length-set, length-append}
use lib.Seq.{get_or-set_same, get_or-set_other}
use borrow.Author.Tests.{eq-eqb, ne_eqb}
use Rattle.answers.specs.Rows.{first}
use Rattle.bitmap.proofs.Bits.{at-put-same, at-put-other, put-length, bit-lt}
use Rattle.bitmap.proofs.Ranges.{run-length, run-before, run_inside, run-after, any-clear}
use Rattle.page.specs.Page.{Lent, lent, Rules, place, block_of}
use Rattle.page.specs.Sequences.{up_from, head_of, laid, Runs}
use Rattle.page.specs.Walk.{Walk, walk_of}
use Rattle.page.proofs.Rules.{rules-test, place_inside, place-apart, bit-inside, sound-facts}
use Rattle.page.proofs.Facts.{blocks-stand}
use Rattle.page.proofs.Heads.{sound-is, last-is}
use Rattle.page.proofs.Counting.{hit_same, times-append, up-each}
use Rattle.page.proofs.Chains.{laid-length, laid-other}
use Rattle.page.proofs.Running.{walk_is, run-some}
use Rattle.lists.specs.Lists.{Lists}
use Rattle.lists.specs.Own.{insert_act, pop_act, append_act, extend_act, release_act, empty_of, empty_refusal, empty_act}
use Rattle.lists.specs.Acts.{SameSizes, InsertDoes, InsertActs, PopDoes, PopActs, AppendDoes, AppendActs, AppendOfNone, ExtendDoes, ExtendActs, ReleaseDoes, ReleaseActs, EmptyActs}
use Rattle.lists.proofs.Sequences as sequences
use Rattle.lists.proofs.Walks.{clear-length}

-- the sizes of another page and bitmap of the same lengths
sizes : (c : Lent) (q e : List ℕ) → length q ≡ length c.page → length e ≡ length c.bits → SameSizes c (lent c.n c.bw q e)
sizes c q e lq le = record { n = refl; bw = refl; words = lq; marks = le }

-- ---- insert

inserts : (c : Lists) (a : ℕ) → Rules c.lent → a ≤ c.lent.n → InsertDoes c a (insert_act c a)
unfolding insert_act
inserts c a r high =
    let l = c.lent in
    record {
      done = record {
        number = refl;
        value = refl;
        own = (blocks-stand l.bw a).address;
        got = refl;
        sizes = sizes l _ _ (length-set l.page (place l.bw a) c.own) (put-length l.bits a 1);
      };
      link = get_or-set_same l.page (place l.bw a) c.own 0 (place_inside l a r high);
      words = λ k n. get_or-set_other l.page (place l.bw a) k c.own 0 n;
      bit = at-put-same l.bits a 1 (omega arith) (bit-inside l a r high);
      bits = λ i n. at-put-other l.bits a i 1 (omega arith) n;
    }

pub insert-acts : InsertActs
insert-acts c a r low high clear s = rw (sequences.insert-acts c a r low high clear ((sound-is c.lent c.own).1 s)) (inserts c a r high)

-- ---- pop

pops : (c : Lists) → Rules c.lent → block_of c.lent.bw c.own ≤ c.lent.n → PopDoes c (pop_act c)
unfolding pop_act
pops c r high =
    let l = c.lent in
    let x = block_of l.bw c.own in
    record {
      done = record { number = refl; value = refl; own = refl; got = refl; sizes = sizes l _ _ refl (put-length l.bits x 0) };
      words = λ k. refl;
      bit = at-put-same l.bits x 0 (omega arith) (bit-inside l x r high);
      bits = λ i n. at-put-other l.bits x i 0 (omega arith) n;
    }

pub pop-acts : PopActs
pop-acts c r some s t =
    let l = c.lent in
    let sound = (sound-is l c.own).1 s in
    rw (sequences.pop-acts c r some sound ((sound-is l _).1 t)) (pops c r (sound-facts l c.own some sound).1.high)

-- ---- append

-- a list with a last block has a head, and that block is listed
module _ (c : Lent) (r : Rules c) (h last : ℕ) where
  some-head : (before : List ℕ) → Runs c h (before ++ (last ∷ [])) → h ≢ 0
  some-head [] x = run-some c r h last [] x
  some-head (i ∷ before) x = run-some c r h i (before ++ (last ∷ [])) x

  last_within : (before : List ℕ) → Runs c h (before ++ (last ∷ [])) → last ≤ c.n
  last_within before x = (x.listed last (omega (arith, times-append last before (last ∷ []), hit_same last))).high

appends : (c : Lists) (before : List ℕ) (last : ℕ) → Rules c.lent → Runs c.lent c.got (before ++ (last ∷ []))
    → AppendDoes c (length before + 1) last (append_act c)
unfolding append_act
appends c before last r x =
    let l = c.lent in
    simp (ne_eqb _ _ (some-head l r c.got last before x), walk_is l r c.got (before ++ (last ∷ [])) x, (last-is 0 last before).1)
    (record {
      done = record {
        number = refl;
        value = length-append before (last ∷ []);
        own = refl;
        got = refl;
        sizes = sizes l _ _ (length-set l.page (place l.bw last) c.own) refl;
      };
      link = get_or-set_same l.page (place l.bw last) c.own 0 (place_inside l last r (last_within l r c.got last before x));
      words = λ k n. get_or-set_other l.page (place l.bw last) k c.own 0 n;
      bits = λ i. refl;
    })

pub append-acts : AppendActs
append-acts c before last r s x =
    let l = c.lent in
    rw (sequences.append-acts c r (λ some. ((sound-is l c.own).1 s, ap (λ (w : Walk). w.ends) (walk_is l r c.got (before ++ (last ∷ [])) x))))
    (appends c before last r x)

pub append-of-none : AppendOfNone
unfolding append_act
append-of-none c r z =
    rw (sequences.append-acts c r (λ some. absurd (some z))) (simp (eq-eqb _ _ z) (record { number = refl; value = refl; after = refl }))

-- ---- extend

-- the link of block i of a run that was laid is the head of what is laid after it
laid-up : (bw h : ℕ) (p : List ℕ) → 1 ≤ bw → (a m i k : ℕ) → a ≤ i → a + m ≡ suc i + k → ((j : ℕ) → j < a + m → place bw j < length p)
    → get_or (laid (place bw) p h (up_from a m)) (place bw i) 0 ≡ head_of (place bw) h (up_from (suc i) k)
unfolding up_from
laid-up bw h p s a zero i k low e inside = absurd (omega arith)
laid-up bw h p s a (suc m) i k low e inside =
    pick (ℕ_discrete i a) (λ n. laid-up bw h p s (suc a) m i k (omega arith) (omega arith) (λ j l. inside j (omega arith)))
  where
    rest : List ℕ
    rest = laid (place bw) p h (up_from (suc a) m)

    pick : Dec (i ≡ a) → (i ≢ a → get_or rest (place bw i) 0 ≡ head_of (place bw) h (up_from (suc i) k))
        → get_or (set rest (place bw a) (head_of (place bw) h (up_from (suc a) m))) (place bw i) 0 ≡ head_of (place bw) h (up_from (suc i) k)
    pick (yes q) ih =
        let same : m ≡ k = omega arith in
        ap (λ (x : ℕ). get_or (set rest (place bw a) (head_of (place bw) h (up_from (suc a) m))) (place bw x) 0) q
        ∙ get_or-set_same rest (place bw a) _ 0 (omega (arith, laid-length (place bw) p h (up_from (suc a) m), inside a (omega arith)))
        ∙ ap₂ (λ (x y : ℕ). head_of (place bw) h (up_from (suc x) y)) (sym q) same
    pick (no n) ih = get_or-set_other rest (place bw a) (place bw i) _ 0 (λ q. n (place-apart bw i a s q)) ∙ ih n

-- the head of a run that is not empty, and of none
module _ (bw h i : ℕ) where
  head-some : (k : ℕ) → 1 ≤ k → head_of (place bw) h (up_from i k) ≡ 8 * bw * i
  unfolding up_from
  head-some zero l = absurd (omega arith)
  head-some (suc k) l = (blocks-stand bw i).address

  head-none : (k : ℕ) → k ≡ 0 → head_of (place bw) h (up_from i k) ≡ h
  unfolding up_from
  head-none k e = simp e

extends : (c : Lists) (a b : ℕ) → Rules c.lent → 1 ≤ a → 1 ≤ b → a + b ≤ c.lent.n + 1 → ExtendDoes c a b (extend_act c a b)
unfolding extend_act
extends c a b r low some high =
    let l = c.lent in
    let link : (i k : ℕ) → a ≤ i → a + b ≡ suc i + k
    → get_or (laid (place l.bw) l.page c.own (up_from a b)) (place l.bw i) 0 ≡ head_of (place l.bw) c.own (up_from (suc i) k) =
    λ i k p e. laid-up l.bw c.own l.page r.some a b i k p e (λ j m. place_inside l j r (omega arith)) in
    record {
      done = record {
        number = refl;
        value = refl;
        own = head-some l.bw c.own a b some;
        got = refl;
        sizes = sizes l _ _ (laid-length (place l.bw) l.page c.own (up_from a b)) (run-length l.bits a b 1);
      };
      link = λ i p m.
          link i ((a + b) - suc i) p (omega arith) ∙ head-some l.bw c.own (suc i) ((a + b) - suc i) (omega arith)
          ∙ ap (λ (x : ℕ). 8 * l.bw * x) (sym (add-one i));
      last = λ i e. link i 0 (omega arith) (omega arith) ∙ head-none l.bw c.own (suc i) 0 refl;
      words = λ k n. laid-other (place l.bw) l.page c.own (up_from a b) k (λ i m. let u = up-each a b i m in n i u.0 u.1);
      bit = λ i p m. run_inside l.bits a b 1 i (omega arith) p m (bit-inside l i r (omega arith));
      below = λ i m. run-before l.bits a b 1 i (omega arith) m;
      above = λ i m. run-after l.bits a b 1 i (omega arith) m;
    }

pub extend-acts : ExtendActs
extend-acts c a b r low some high clear s =
    rw
    (sequences.extend-acts c a b r (low, some, high) (any-clear c.lent.bits a b (λ k m. clear (a + k) (omega arith) (omega arith)))
    ((sound-is c.lent c.own).1 s))
    (extends c a b r low some high)

-- ---- release

releases : (c : Lists) (xs : List ℕ) → Rules c.lent → Runs c.lent c.own xs → ReleaseDoes c xs (release_act c)
unfolding release_act
releases c xs r x =
    let l = c.lent in
    let q = sequences.released c xs r x in
    record {
      done = record {
        number = refl;
        value = q.leaves.value;
        own = refl;
        got = refl;
        sizes = sizes l _ _ refl (clear-length l.bits (walk_of l c.own).blocks);
      };
      words = λ k. refl;
      bit = λ i m. omega (arith, q.bit i, bit-lt l.bits i);
      bits = λ i m. omega (arith, q.bit i);
    }

pub release-acts : ReleaseActs
release-acts c xs r x =
    rw (sequences.release-acts c r (ap (λ (w : Walk). w.ends) (walk_is c.lent r c.own xs x))) (releases c xs r x)

-- ---- is empty

pub empty-acts : EmptyActs
unfolding empty_of empty_refusal empty_act first
empty-acts c r = (
  λ z. simp (rules-test c.lent r, eq-eqb _ _ z) (record { number = refl; value = refl; after = refl }),
  λ n. simp (rules-test c.lent r, ne_eqb _ _ n) (record { number = refl; value = refl; after = refl }),
)
