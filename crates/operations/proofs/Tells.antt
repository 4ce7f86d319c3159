-- A test tells a statement: each gives the other. Tests joined tell statements joined. Assumes nothing.
use Prim.Native.Nat.{ℕ, ◌≤◌, ◌<◌}
use mathlib.Core.Path.{◌≡◌, refl, sym, ap, ◌∙◌}
use mathlib.Core.Logic.{◌⊎◌, inl, inr, ⊎_elim, ◌↔◌}
use mathlib.Core.Bool.{Bool, true, false, not, ◌&&◌, ◌||◌, cond, true≢false}
use lib.Dec.{leb, ltb, eqb}
use borrow.Author.Tests.{eqb-true, eq-eqb, leb-true, le-leb, ltb-true, lt-ltb, not-true}
use Rattle.answers.proofs.Rows.{refuted, and_left, and_right}

pub record Tells (b : Bool) (A : Type 0) : Type 0 where
  pub fact : b ≡ true → A
  pub test : A → b ≡ true

-- ---- what a test that tells is good for

-- where it is false the statement fails
pub tells-not : {b : Bool} {A : Type 0} → Tells b A → b ≡ false → A → ⊥
tells-not t e a = true≢false (sym (t.test a) ∙ e)

-- where the statement fails it is false
pub tells-false : {b : Bool} {A : Type 0} → Tells b A → (A → ⊥) → b ≡ false
tells-false t n = refuted _ (λ e. n (t.fact e))

-- the two give each other
pub told-both : {b : Bool} {A : Type 0} → Tells b A → (b ≡ true) ↔ A
told-both t = (t.fact, t.test)

-- ---- tests that tell

-- a test that is always true tells nothing
pub tells-always : Tells true (Unit {0})
tells-always = record { fact = λ e. tt; test = λ u. refl }

-- one that never is tells the absurd
pub tells-never : Tells false ⊥
tells-never = record { fact = λ e. true≢false (sym e); test = λ n. absurd n }

-- that a test is false
pub tells-off : (b : Bool) → Tells (not b) (b ≡ false)
tells-off b = record { fact = not-true b; test = ap not }

-- two statements that give each other
pub tells_both : {b : Bool} {A : Type 0} → (b ≡ true) ↔ A → Tells b A
tells_both p = record { fact = p.0; test = p.1 }

-- another statement, where each gives the other
pub tells_as : {b : Bool} {A B : Type 0} → Tells b A → (A → B) → (B → A) → Tells b B
tells_as t f g = record { fact = λ e. f (t.fact e); test = λ y. t.test (g y) }

pub tells-eq : (x y : ℕ) → Tells (eqb x y) (x ≡ y)
tells-eq x y = record { fact = eqb-true x y; test = eq-eqb x y }

pub tells-le : (x y : ℕ) → Tells (leb x y) (x ≤ y)
tells-le x y = record { fact = leb-true x y; test = le-leb x y }

pub tells-lt : (x y : ℕ) → Tells (ltb x y) (x < y)
tells-lt x y = record { fact = ltb-true x y; test = lt-ltb x y }

-- ---- tests joined

pub tells_none : {b : Bool} {A : Type 0} → Tells b A → Tells (not b) (A → ⊥)
tells_none t = record { fact = λ e. tells-not t (not-true _ e); test = λ n. ap not (tells-false t n) }

pub tells-and : {a b : Bool} {A B : Type 0} → Tells a A → Tells b B → Tells (a && b) (A × B)
tells-and {a} {b} s t = record { fact = λ e. (s.fact (and_left a b e), t.fact (and_right a b e)); test = λ p. simp (s.test p.0, t.test p.1) }

pub tells-or : {a b : Bool} {A B : Type 0} → Tells a A → Tells b B → Tells (a || b) (A ⊎ B)
tells-or {a} {b} {A} {B} s t = record { fact = either a b s.fact t.fact; test = test }
  where
    either : (a b : Bool) → (a ≡ true → A) → (b ≡ true → B) → a || b ≡ true → A ⊎ B
    either true b f g e = inl (f refl)
    either false b f g e = inr (g e)

    or-true : (a : Bool) → a || true ≡ true
    or-true true = refl
    or-true false = refl

    test : A ⊎ B → a || b ≡ true
    test (inl x) = simp (s.test x)
    test (inr y) = simp (t.test y) (or-true a)

-- the one test where another holds, else the other
pub tells-cond : {p a b : Bool} {P A B : Type 0} → Tells p P → Tells a A → Tells b B → Tells (cond p a b) ((P × A) ⊎ ((P → ⊥) × B))
tells-cond {p} {a} {b} {P} {A} {B} s t u = go p s
  where
    go : (p : Bool) → Tells p P → Tells (cond p a b) ((P × A) ⊎ ((P → ⊥) × B))
    go true s = tells_as t (λ x. inl (s.fact refl, x)) (λ y. ⊎_elim (λ l. l.1) (λ r. absurd (r.0 (s.fact refl))) y)
    go false s = tells_as u (λ x. inr (tells-not s refl, x)) (λ y. ⊎_elim (λ l. absurd (tells-not s refl l.0)) (λ r. r.1) y)
