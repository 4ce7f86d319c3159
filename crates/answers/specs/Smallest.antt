-- The twelve numbers by their numerals, and which of several is given: the smallest (document 01, Numbers given back).
-- No proof stands in this file.
use Rattle.std.specs.Prelude.{ℕ, ◌≤◌, ◌≡◌, ◌≢◌, ◌⊎◌, ◌↔◌, true, List, [], ◌∷◌}
use Rattle.answers.specs.Numbers.{done, under_way, bad_page, no_worker, no_such, busy, idle, switched, not_empty, listed, none_left, damaged}
use Rattle.answers.specs.Rows.{Row, first, Outcome}

-- Each name stands for its number in the table.
abbrev pub NumbersAre : Type 0
NumbersAre =
    (done ≡ 0) × (under_way ≡ 1) × (bad_page ≡ 2) × (no_worker ≡ 3) × (no_such ≡ 4) × (busy ≡ 5) × (idle ≡ 6) × (switched ≡ 7) × (not_empty ≡ 8)
    × (listed ≡ 9) × (none_left ≡ 10) × (damaged ≡ 11)

-- The number that is given where `Reason k` says that number k applies.
pub record Given (Reason : ℕ → Type 0) (number : ℕ) : Type 0 where
  -- it is at most every number that applies
  pub least : (k : ℕ) → Reason k → number ≤ k
  -- where one applies, the call is refused
  pub refuses : (k : ℕ) → Reason k → 2 ≤ number
  -- a number that is not 0 applies itself
  pub why : number ≢ 0 → Reason number
  -- where none applies, it is 0
  pub none : ((k : ℕ) → Reason k → ⊥) → number ≡ 0

-- A call gives the smallest number with a reason, and 0 where there is none; any other than 0 has value 0 and changes
-- nothing.
pub record AnswersBy {C : Type 0} (Reason : ℕ → Type 0) (c : C) (o : Outcome C) : Type 0 where
  pub given : Given Reason o.number
  pub refused : o.number ≢ 0 → (o.value ≡ 0) × (o.after ≡ c)

-- A row of the table with number k applies.
abbrev pub Applies : List Row → ℕ → Type 0
Applies [] k = ⊥
Applies (r ∷ rows) k = ((k ≡ r.number) × (r.applies ≡ true)) ⊎ Applies rows k

-- The rows' numbers are at least the first number given, and none is below the one before it.
abbrev pub UpFrom : ℕ → List Row → Type 0
UpFrom low [] = Unit {0}
UpFrom low (r ∷ rows) = (low ≤ r.number) × UpFrom r.number rows

abbrev pub Ascending : List Row → Type 0
Ascending rows = UpFrom 2 rows

-- Of a table with ascending numbers the smallest number that applies is given.
abbrev pub SmallestFirst : Type 0
SmallestFirst = (rows : List Row) → Ascending rows → Given (Applies rows) (first rows)

-- The reasons leave one number alone.
abbrev pub OneIsGiven : Type 1
OneIsGiven = (Reason : ℕ → Type 0) (a b : ℕ) → Given Reason a → Given Reason b → a ≡ b

-- ---- the number of a call that may also be under way

-- Number k applies, and no number below it does.
abbrev pub Smallest : (ℕ → Type 0) → ℕ → Type 0
Smallest Reason k = Reason k × ((j : ℕ) → Reason j → k ≤ j)

-- A number from 2 up is given exactly where it is the smallest that applies; where none applies the call is accepted.
pub record Numbered (Reason : ℕ → Type 0) (number : ℕ) (Accepted : Type 0) : Type 0 where
  pub exactly : (k : ℕ) → 2 ≤ k → (number ≡ k) ↔ Smallest Reason k
  pub accepted : ((k : ℕ) → Reason k → ⊥) → Accepted
