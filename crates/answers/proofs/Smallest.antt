-- The numbers are the table's, and the first row that applies has the smallest of the numbers that do. Assumes
-- nothing.
use Prim.Native.Nat.{ℕ, ◌≤◌}
use mathlib.Core.Path.{◌≡◌, refl, sym, ◌∙◌, subst}
use mathlib.Core.Logic.{◌≢◌, inl, inr, ◌↔◌}
use mathlib.Core.Bool.{Bool, true, false, cond, true≢false}
use mathlib.Core.List.{List, [], ◌∷◌}
use native.Mathlib.Decide.{ℕ_discrete}
use native.Mathlib.Omega.{arith}
use lib.Dec.{eqb}
use borrow.Author.Tests.{eqb-true, eqb-false}
use Rattle.answers.specs.Rows.{Row, first, Outcome, refused, unless}
use Rattle.answers.specs.Smallest.{NumbersAre, Given, Applies, AnswersBy, UpFrom, Ascending, SmallestFirst, OneIsGiven, Smallest, Numbered}

pub numbers-are : NumbersAre
numbers-are = (refl, refl, refl, refl, refl, refl, refl, refl, refl, refl, refl, refl)

-- a row that applies has a number from `low` up
applies-up : (rows : List Row) (low k : ℕ) → UpFrom low rows → Applies rows k → low ≤ k
applies-up [] low k u x = elim x [ ]
applies-up (r ∷ rows) low k u (inl e) = omega (arith, u.0, e.0)
applies-up (r ∷ rows) low k u (inr a) = omega (arith, u.0, applies-up rows r.number k u.1 a)

-- the first row's number is from `low` up, and at most each that applies
first-least : (rows : List Row) (low k : ℕ) → UpFrom low rows → Applies rows k → (low ≤ first rows) × (first rows ≤ k)
unfolding first
first-least [] low k u a = elim a [ ]
first-least (r ∷ rows) low k u a = go r.applies refl a (λ f. first-least rows r.number k u.1 f)
  where
    go : (b : Bool) → r.applies ≡ b → Applies (r ∷ rows) k → (Applies rows k → (r.number ≤ first rows) × (first rows ≤ k))
        → (low ≤ cond b r.number (first rows)) × (cond b r.number (first rows) ≤ k)
    go true e (inl f) ih = omega (arith, u.0, f.0)
    go true e (inr f) ih = (u.0, applies-up rows r.number k u.1 f)
    go false e (inl f) ih = absurd (true≢false (sym f.1 ∙ e))
    go false e (inr f) ih = omega (arith, u.0, ih f)

-- a number that was given is that of a row that applies
pub first-applies : (rows : List Row) → first rows ≢ 0 → Applies rows (first rows)
unfolding first
first-applies [] n = n refl
first-applies (r ∷ rows) n = go r.applies refl n (first-applies rows)
  where
    go : (b : Bool) → r.applies ≡ b → cond b r.number (first rows) ≢ 0 → (first rows ≢ 0 → Applies rows (first rows))
        → Applies (r ∷ rows) (cond b r.number (first rows))
    go true e n ih = inl (refl, e)
    go false e n ih = inr (ih n)

-- where a number that is not 0 applies itself, it is 0 where none applies
none-given : (Reason : ℕ → Type 0) (number : ℕ) → (number ≢ 0 → Reason number) → ((k : ℕ) → Reason k → ⊥) → number ≡ 0
none-given Reason number why none = go (ℕ_discrete number 0)
  where
    go : Dec (number ≡ 0) → number ≡ 0
    go (yes e) = e
    go (no n) = absurd (none number (why n))

pub smallest-first : SmallestFirst
smallest-first rows u =
    record {
      least = λ k a. (first-least rows 2 k u a).1;
      refuses = λ k a. (first-least rows 2 k u a).0;
      why = first-applies rows;
      none = none-given (Applies rows) (first rows) (first-applies rows);
    }

-- the reasons of a table in other words: each gives a row that applies, and a row that is the least to apply gives it
pub given-from : (rows : List Row) (Reason : ℕ → Type 0) → Ascending rows → ((k : ℕ) → Reason k → Applies rows k)
    → ((k : ℕ) → Applies rows k → ((j : ℕ) → Applies rows j → k ≤ j) → Reason k) → Given Reason (first rows)
given-from rows Reason u to from =
    let g = smallest-first rows u in
    let why : first rows ≢ 0 → Reason (first rows) = λ n. from (first rows) (g.why n) g.least in
    record {
      least = λ k r. g.least k (to k r);
      refuses = λ k r. g.refuses k (to k r);
      why = why;
      none = none-given Reason (first rows) why;
    }

-- what a call does which the table may refuse, where its act is done
pub answers-from : {C : Type 0} (rows : List Row) (c : C) (act : Outcome C) (Reason : ℕ → Type 0) → act.number ≡ 0 → Given Reason (first rows)
    → AnswersBy Reason c (unless (first rows) c act)
answers-from rows c act Reason done g = go (eqb (first rows) 0) refl
  where
    go : (b : Bool) → eqb (first rows) 0 ≡ b → AnswersBy Reason c (cond b act (refused (first rows) c))
    go true e = record { given = rw (done ∙ sym (eqb-true (first rows) 0 e)) g; refused = λ n. absurd (n done) }
    go false e = record { given = g; refused = λ n. (refl, refl) }

-- reasons that hold where others do are given alike
pub given_by : (Reason Other : ℕ → Type 0) (number : ℕ) → ((k : ℕ) → Reason k ↔ Other k) → Given Reason number → Given Other number
given_by Reason Other number same g =
    record {
      least = λ k o. g.least k ((same k).1 o);
      refuses = λ k o. g.refuses k ((same k).1 o);
      why = λ n. (same number).0 (g.why n);
      none = λ f. g.none (λ k r. f k ((same k).0 r));
    }

pub one-is-given : OneIsGiven
one-is-given Reason a b g h = go (ℕ_discrete a 0) (ℕ_discrete b 0)
  where
    go : Dec (a ≡ 0) → Dec (b ≡ 0) → a ≡ b
    go (yes e) (yes f) = omega arith
    go (yes e) (no n) = absurd (omega (arith, g.refuses b (h.why n)))
    go (no n) (yes f) = absurd (omega (arith, h.refuses a (g.why n)))
    go (no n) (no m) = omega (arith, g.least b (h.why m), h.least a (g.why n))

-- a call is numbered by what applies, where its act is numbered 0 or 1
pub numbered-by : (Reason : ℕ → Type 0) {C : Type 0} (c : C) (act : Outcome C) (r : ℕ) {Accepted : Type 0} → act.number ≤ 1 → Given Reason r
    → (r ≡ 0 → Accepted) → Numbered Reason (unless r c act).number Accepted
numbered-by Reason c act r low g h = record { exactly = λ k l. go k l (eqb r 0) refl; accepted = λ none. h (g.none none) }
  where
    go : (k : ℕ) → 2 ≤ k → (b : Bool) → eqb r 0 ≡ b → ((cond b act (refused r c)).number ≡ k) ↔ Smallest Reason k
    go k l true e =
        let z = eqb-true r 0 e in
        (λ m. absurd (omega arith), λ s. absurd (omega (arith, g.refuses k s.0)))
    go k l false e =
        let z = eqb-false r 0 e in
        (λ m. (subst Reason m (g.why z), λ j a. omega (arith, g.least j a)), λ s. omega (arith, g.least k s.0, s.1 r (g.why z)))
