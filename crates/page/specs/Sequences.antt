-- The sequences of blocks that lists run over, and how often a block stands in them (document 01, The page).
-- `at i` is the word where block i starts; its address is 8 times that.
use Rattle.std.specs.Prelude.{ℕ, zero, suc, ◌+◌, ◌*◌, ◌≤◌, ◌<◌, ◌≡◌, Bool, true, false, List, [], ◌∷◌, eqb, get_or, set}
use Rattle.bitmap.specs.Bitmap.{bit_at}
use Rattle.page.specs.Page.{Lent, place}

-- ---- counting

abbrev pub one : Bool → ℕ
one true = 1
one false = 0

-- 1 where the two are the same block, else 0
unfoldable pub hit : ℕ → ℕ → ℕ
hit i x = one (eqb i x)

-- how often block i stands in a sequence
abbrev pub times : ℕ → List ℕ → ℕ
times i [] = 0
times i (x ∷ xs) = hit i x + times i xs

-- what holds of each block of a sequence
abbrev pub Each : (ℕ → Type 0) → List ℕ → Type 0
Each P xs = (i : ℕ) → 0 < times i xs → P i

-- no block is met twice
abbrev pub Once : List ℕ → Type 0
Once xs = (i : ℕ) → times i xs ≤ 1

-- two sequences share no block
abbrev pub Apart : List ℕ → List ℕ → Type 0
Apart xs ys = (i : ℕ) → 0 < times i xs → times i ys ≡ 0

-- a, a+1, .. a+m−1
unfoldable pub up_from : ℕ → ℕ → List ℕ
up_from a zero = []
up_from a (suc m) = a ∷ up_from (suc a) m

-- ---- lists linked inside a page

module _ (at : ℕ → ℕ) where
  -- from head h the links of page p lead over the blocks, in order, to 0
  abbrev pub Chain : List ℕ → ℕ → List ℕ → Type 0
  Chain p h [] = h ≡ 0
  Chain p h (i ∷ is) = (h ≡ 8 * at i) × Chain p (get_or p (at i) 0) is

  -- the head of blocks laid before a list with head h
  abbrev pub head_of : ℕ → List ℕ → ℕ
  head_of h [] = h
  head_of h (i ∷ is) = 8 * at i

  -- the page with those blocks' links written: each to the next, the last to h
  abbrev pub laid : List ℕ → ℕ → List ℕ → List ℕ
  laid p h [] = p
  laid p h (i ∷ is) = set (laid p h is) (at i) (head_of h is)

-- block i is 1 to n and its bit is set
pub record Listed (c : Lent) (i : ℕ) : Type 0 where
  pub low : 1 ≤ i
  pub high : i ≤ c.n
  pub bit : bit_at c.bits i ≡ 1

-- the list with head h runs over the blocks xs, at sound addresses, to 0
pub record Runs (c : Lent) (h : ℕ) (xs : List ℕ) : Type 0 where
  pub chain : Chain (place c.bw) c.page h xs
  pub listed : Each (Listed c) xs

-- a listed block that is not among the blocks xs stays listed, and its link stays
pub record Stays (c d : Lent) (i : ℕ) : Type 0 where
  pub link : get_or d.page (place d.bw i) 0 ≡ get_or c.page (place c.bw i) 0
  pub listed : Listed d i

abbrev pub OthersStay : Lent → Lent → List ℕ → Type 0
OthersStay c d xs = (i : ℕ) → Listed c i → times i xs ≡ 0 → Stays c d i

-- a list that shares no block with the blocks xs runs on as before
abbrev pub OthersRun : Lent → Lent → List ℕ → Type 0
OthersRun c d xs = (h : ℕ) (ys : List ℕ) → Runs c h ys → Apart xs ys → Runs d h ys
