-- Refusals as rows of a table, the smallest first, and what comes of a call: a number, a value and what stands
-- afterwards (document 01, Numbers given back).
use Rattle.std.specs.Prelude.{ℕ, Bool, true, ◌&&◌, cond, List, [], ◌∷◌, eqb}
use Rattle.answers.specs.Numbers.{done}
use Rattle.answers.specs.declared.Answer.{Answer}

-- every test of the list holds
unfoldable pub all : List Bool → Bool
all [] = true
all (b ∷ l) = b && all l

-- a number, and whether what it stands for applies
pub record Row : Type 0 where
  pub number : ℕ
  pub applies : Bool

abbrev pub row : ℕ → Bool → Row
row number applies = record { number = number; applies = applies }

-- the number of the first row that applies; 0 where none does
unfoldable pub first : List Row → ℕ
first [] = done
first (r ∷ rows) = cond r.applies r.number (first rows)

-- what comes of a call: its answer, and what stands afterwards
pub record Outcome (C : Type 0) : Type 0 where
  pub number : ℕ
  pub value : ℕ
  pub after : C

module _ {C : Type 0} where
  abbrev pub outcome : ℕ → ℕ → C → Outcome C
  outcome number v after = record { number = number; value = v; after = after }

  -- refused: value 0, and everything as it was
  abbrev pub refused : ℕ → C → Outcome C
  refused number c = outcome number 0 c

  -- what a call does where nothing refuses it
  abbrev pub unless : ℕ → C → Outcome C → Outcome C
  unless number c act = cond (eqb number done) act (refused number c)

-- a number and its value
abbrev pub answer : ℕ → ℕ → Answer
answer number v = record { number = number; value = v }
