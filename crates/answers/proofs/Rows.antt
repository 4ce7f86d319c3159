-- Laws of rows: which number a table gives, and what a refusal leaves. Assumes nothing.
use Prim.Native.Nat.{ℕ, zero, suc}
use mathlib.Core.Path.{◌≡◌, refl, sym, ap, ◌∙◌}
use mathlib.Core.Logic.{◌≢◌, ◌↔◌}
use mathlib.Core.Bool.{Bool, true, false, not, ◌&&◌, cond, true≢false}
use mathlib.Core.List.{List, [], ◌∷◌}
use lib.Dec.{eqb}
use lib.ListN.{get_or}
use borrow.Author.Tests.{eqb-true, eqb-false, eq-eqb, ne_eqb}
use Rattle.answers.specs.Rows.{all, Row, row, first, Outcome, refused, unless}

-- a test whose truth is absurd is false
pub refuted : (b : Bool) → (b ≡ true → ⊥) → b ≡ false
refuted true h = absurd (h refl)
refuted false h = refl

-- the opposite of a test that tells a fact tells that it does not hold
pub denies : (b : Bool) {P : Type 0} → (b ≡ true ↔ P) → (not b ≡ true) ↔ (P → ⊥)
denies true f = (λ e p. true≢false (sym e), λ n. absurd (n (f.0 refl)))
denies false f = (λ e p. true≢false (sym (f.1 p)), λ n. refl)

pub and_left : (a b : Bool) → a && b ≡ true → a ≡ true
and_left true b e = refl
and_left false b e = e

pub and_right : (a b : Bool) → a && b ≡ true → b ≡ true
and_right true b e = e
and_right false b e = absurd (true≢false (sym e))

-- of a list of tests that all hold, the one at i
pub all-at : (l : List Bool) (i : ℕ) → all l ≡ true → get_or l i true ≡ true
unfolding all
all-at [] i e = refl
all-at (b ∷ l) zero e = and_left b (all l) e
all-at (b ∷ l) (suc i) e = all-at l i (and_right b (all l) e)

-- two tests by the outcome of the first
pub and-by : {a v : Bool} (b : Bool) → a ≡ v → v && b ≡ a && b
and-by b e = simp e

-- two tests that give each other are one
pub agrees : (p q : Bool) → (p ≡ true → q ≡ true) → (q ≡ true → p ≡ true) → p ≡ q
agrees true q f g = sym (f refl)
agrees false true f g = absurd (true≢false (sym (g refl)))
agrees false false f g = refl

-- what a call's promise and the test of its result say of the promised value
pub by : {r b v : Bool} → r ≡ b → r ≡ v → b ≡ v
by p q = sym p ∙ q

pub by-not : {r b v : Bool} → r ≡ b → not r ≡ v → b ≡ not v
by-not p q = sym p ∙ sym (not-not _) ∙ ap not q
  where
    not-not : (r : Bool) → not (not r) ≡ r
    not-not true = refl
    not-not false = refl

-- ---- the first row that applies

pub first-at : (r : Row) (rows : List Row) → r.applies ≡ true → first (r ∷ rows) ≡ r.number
unfolding first
first-at r rows e = simp e

pub first_past : (r : Row) (rows : List Row) → r.applies ≡ false → first (r ∷ rows) ≡ first rows
unfolding first
first_past r rows e = simp e

-- no row applies
pub first-none : (number : ℕ) (applies : Bool) (rows : List Row) → number ≢ 0 → first (row number applies ∷ rows) ≡ 0 → (applies ≡ false) × (first rows ≡ 0)
unfolding first
first-none number true rows n e = absurd (n e)
first-none number false rows n e = (refl, e)

-- two tables that agree row by row, as far as no row above applies
pub data Agree : List Row → List Row → Type 0 where
  none : Agree [] []
  then : (number : ℕ) {a b : Bool} {rows others : List Row} → a ≡ b → (a ≡ false → Agree rows others) → Agree (row number a ∷ rows) (row number b ∷ others)

-- they give the same number
pub first-agree : {rows others : List Row} → Agree rows others → first rows ≡ first others
unfolding first
first-agree none = refl
first-agree (then number {a} {b} {rows} {others} e f) = go a e (λ z. first-agree (f z))
  where
    go : (a : Bool) → a ≡ b → (a ≡ false → first rows ≡ first others) → first (row number a ∷ rows) ≡ first (row number b ∷ others)
    go true e f = rw (← e)
    go false e f = rw (← e) (f refl)

-- ---- a refusal, and an act

module _ {C : Type 0} (c : C) (act : Outcome C) where
  -- refused by a number that is not 0
  pub unless-refused : (k : ℕ) → k ≢ 0 → unless k c act ≡ refused k c
  unless-refused k h = simp (ne_eqb _ _ h)

  -- not refused
  pub unless-done : (k : ℕ) → k ≡ 0 → unless k c act ≡ act
  unless-done k h = simp (eq-eqb _ _ h)

  -- what holds before, and after the act where nothing refuses, holds afterwards
  pub unless-either : (P : C → Type 0) (k : ℕ) → P c → (k ≡ 0 → P act.after) → P (unless k c act).after
  unless-either P k p q = go (eqb k 0) refl
    where
      go : (b : Bool) → eqb k 0 ≡ b → P (cond b act (refused k c)).after
      go true e = q (eqb-true k 0 e)
      go false e = p

-- ---- refusals one after another

-- no row's number is 0
abbrev pub numbered : List Row → Bool
numbered [] = true
numbered (r ∷ rows) = not (eqb r.number 0) && numbered rows

module _ {C : Type 0} (c : C) (act : Outcome C) where
  -- a table's rows tried in order, and the act where none applies
  abbrev pub tried : List Row → Outcome C
  tried [] = act
  tried (r ∷ rows) = cond r.applies (refused r.number c) (tried rows)

  -- that is what a call does which the table may refuse
  pub tried-is : (rows : List Row) → numbered rows ≡ true → tried rows ≡ unless (first rows) c act
  unfolding first
  tried-is [] e = refl
  tried-is (r ∷ rows) e = go r.applies (tried-is rows (and_right (not (eqb r.number 0)) (numbered rows) e))
    where
      go : (b : Bool) → tried rows ≡ unless (first rows) c act → cond b (refused r.number c) (tried rows) ≡ unless (cond b r.number (first rows)) c act
      go true ih = sym (unless-refused c act r.number (eqb-false _ _ (by-not refl (and_left _ (numbered rows) e))))
      go false ih = ih
