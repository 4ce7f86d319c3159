-- What the bitmap tells, bit by bit: where a bit stands, what a put changes, which bits a run, the listed count and
-- the first unlisted block speak of (document 01, The page; Requests). No proof stands in this file.
use Rattle.std.specs.Prelude.{ℕ, ◌+◌, ◌/◌, ◌%◌, ◌^◌, ◌<◌, ◌≤◌, ◌≡◌, ◌≢◌, ◌↔◌, true, List, length, get_or}
use Rattle.bitmap.specs.Bitmap.{bit_at, bit_put, listed_count, first_unlisted, any_set, put_run, run_length}

-- Bit i is binary digit i mod 64 of word i / 64.
abbrev pub BitStands : Type 0
BitStands = (bits : List ℕ) (i : ℕ) → bit_at bits i ≡ get_or bits (i / 64) 0 / 2 ^ (i % 64) % 2

-- One bit is b afterwards, and all others, and the length, are as before.
pub record PutsOne (before after : List ℕ) (i b : ℕ) : Type 0 where
  pub marks : length after ≡ length before
  pub put : i / 64 < length before → bit_at after i ≡ b
  pub others : (j : ℕ) → j ≢ i → bit_at after j ≡ bit_at before j

-- A put of 0 or 1 changes that bit alone.
abbrev pub PutChangesOne : Type 0
PutChangesOne = (bits : List ℕ) (i b : ℕ) → b < 2 → PutsOne bits (bit_put bits i b) i b

-- The m bits from a on are b afterwards, and all others, and the length, are as before.
pub record PutsRun (before after : List ℕ) (a m b : ℕ) : Type 0 where
  pub marks : length after ≡ length before
  pub put : (i : ℕ) → a ≤ i → i < a + m → i / 64 < length before → bit_at after i ≡ b
  pub below : (i : ℕ) → i < a → bit_at after i ≡ bit_at before i
  pub above : (i : ℕ) → a + m ≤ i → bit_at after i ≡ bit_at before i

-- A run that is put changes its bits alone.
abbrev pub RunChangesRun : Type 0
RunChangesRun = (bits : List ℕ) (a m b : ℕ) → b < 2 → PutsRun bits (put_run bits a m b) a m b

-- A run is as long as it is asked for, or ends with the last number of 64 bits.
abbrev pub RunReaches : Type 0
RunReaches =
    (a b : ℕ) → (a + b ≤ 18446744073709551616 → run_length a b ≡ b)
    × (a ≤ 18446744073709551616 → 18446744073709551616 ≤ a + b → a + run_length a b ≡ 18446744073709551616)

-- Any bit of a run is set exactly where one is.
abbrev pub AnySetTells : Type 0
AnySetTells = (bits : List ℕ) (a m : ℕ) → (any_set bits a m ≡ true) ↔ ((i : ℕ) × (a ≤ i) × (i < a + m) × (bit_at bits i ≡ 1))

-- The listed count is 0 where the bits 1 to n are clear, goes by these bits alone, and one bit more that is set among
-- them is one more.
pub record CountTells (n : ℕ) : Type 0 where
  pub none : (bits : List ℕ) → ((i : ℕ) → 1 ≤ i → i ≤ n → bit_at bits i ≡ 0) → listed_count bits n ≡ 0
  pub same : (bits others : List ℕ) → ((i : ℕ) → 1 ≤ i → i ≤ n → bit_at bits i ≡ bit_at others i) → listed_count bits n ≡ listed_count others n
  pub more : (bits others : List ℕ) (i : ℕ) → 1 ≤ i → i ≤ n → bit_at bits i ≡ 0 → bit_at others i ≡ 1
      → ((j : ℕ) → j ≢ i → bit_at others j ≡ bit_at bits j) → listed_count others n ≡ listed_count bits n + 1

abbrev pub CountCountsSet : Type 0
CountCountsSet = (n : ℕ) → CountTells n

-- The first unlisted block, if there is one, is the smallest of 1 to n with a clear bit; 0 exactly where none is
-- clear.
pub record FirstTells (bits : List ℕ) (n r : ℕ) : Type 0 where
  pub none : (r ≡ 0) ↔ ((i : ℕ) → 1 ≤ i → i ≤ n → bit_at bits i ≡ 1)
  pub within : r ≢ 0 → (1 ≤ r) × (r ≤ n)
  pub clear : r ≢ 0 → bit_at bits r ≡ 0
  pub before : r ≢ 0 → (i : ℕ) → 1 ≤ i → i < r → bit_at bits i ≡ 1

abbrev pub FirstIsSmallest : Type 0
FirstIsSmallest = (bits : List ℕ) (n : ℕ) → FirstTells bits n (first_unlisted bits n)
