-- What the five readers answer, in plain numbers: the smallest number with a reason and value 0, or 0 with a value
-- that says what stands in the page and the bitmap (document 01, Requests; Numbers given back). No proof stands in
-- this file.
use Rattle.std.specs.Prelude.{ℕ, ◌+◌, ◌-◌, ◌*◌, ◌≤◌, ◌<◌, ◌≡◌, ◌≢◌, List, [], length, get_or}
use Rattle.answers.specs.declared.Answer.{Answer}
use Rattle.answers.specs.Smallest.{Given}
use Rattle.bitmap.specs.Bitmap.{bit_at, listed_count}
use Rattle.page.specs.Page.{Lent, Rules}
use Rattle.readers.specs.Readers.{listed_count_of, first_unlisted_of, entry_of, entry_answer_of, compare_of}

-- The page rules hold, and there are 1 to 8 workers.
pub record Readable (c : Lent) (w : ℕ) : Type 0 where
  pub rules : Rules c
  pub some : 1 ≤ w
  pub most : w ≤ 8

-- The smallest number with a reason, with value 0; or 0, with a value of which this is true.
pub record ReaderTells (Reason : ℕ → Type 0) (IsValue : ℕ → Type 0) (r : Answer) : Type 0 where
  pub given : Given Reason r.number
  pub refused : r.number ≢ 0 → r.value ≡ 0
  pub told : r.number ≡ 0 → IsValue r.value

-- Listed count: refused where the page rules are broken.
pub data CountReason (c : Lent) (w : ℕ) : ℕ → Type 0 where
  rules : (Readable c w → ⊥) → CountReason c w 2

abbrev pub ListedCountTells : Type 0
ListedCountTells = (c : Lent) (w : ℕ) → ReaderTells (CountReason c w) (λ v. v ≡ listed_count c.bits c.n) (listed_count_of c w)

-- First unlisted: refused too where each of 1 to n has its bit set; else the smallest that has not.
pub data UnlistedReason (c : Lent) (w : ℕ) : ℕ → Type 0 where
  rules : (Readable c w → ⊥) → UnlistedReason c w 2
  none : ((i : ℕ) → 1 ≤ i → i ≤ c.n → bit_at c.bits i ≡ 1) → UnlistedReason c w 10

pub record SmallestClear (c : Lent) (v : ℕ) : Type 0 where
  pub low : 1 ≤ v
  pub high : v ≤ c.n
  pub clear : bit_at c.bits v ≡ 0
  pub before : (i : ℕ) → 1 ≤ i → i < v → bit_at c.bits i ≡ 1

abbrev pub FirstUnlistedTells : Type 0
FirstUnlistedTells = (c : Lent) (w : ℕ) → ReaderTells (UnlistedReason c w) (SmallestClear c) (first_unlisted_of c w)

-- Entry: refused where a is no block, or its bit is set.
pub data EntryReason (c : Lent) (w a : ℕ) : ℕ → Type 0 where
  rules : (Readable c w → ⊥) → EntryReason c w a 2
  block : ((1 ≤ a) × (a ≤ c.n) → ⊥) → EntryReason c w a 4
  set : bit_at c.bits a ≡ 1 → EntryReason c w a 9

-- The entry view is empty where a number applies; else it is the bw−1 words behind block a's link.
pub record Views (c : Lent) (w a : ℕ) (part : List ℕ) : Type 0 where
  pub refused : (k : ℕ) → EntryReason c w a k → part ≡ []
  pub size : ((k : ℕ) → EntryReason c w a k → ⊥) → length part ≡ c.bw - 1
  pub word : ((k : ℕ) → EntryReason c w a k → ⊥) → (k : ℕ) → k + 1 < c.bw → get_or part k 0 ≡ get_or c.page (a * c.bw + 1 + k) 0

abbrev pub EntryTells : Type 0
EntryTells = (c : Lent) (w a : ℕ) → ReaderTells (EntryReason c w a) (λ v. v ≡ 0) (entry_answer_of c w a) × Views c w a (entry_of c w a)

-- Comparison: both blocks are judged.
pub data CompareReason (c : Lent) (w a b : ℕ) : ℕ → Type 0 where
  one : (k : ℕ) → EntryReason c w a k → CompareReason c w a b k
  other : (k : ℕ) → EntryReason c w b k → CompareReason c w a b k

-- The count of leading words that the entries of a and b share: all before it are equal, and the next two differ, if
-- any.
pub record Shares (c : Lent) (a b v : ℕ) : Type 0 where
  pub most : v ≤ c.bw - 1
  pub equal : (k : ℕ) → k < v → get_or c.page (a * c.bw + 1 + k) 0 ≡ get_or c.page (b * c.bw + 1 + k) 0
  pub differ : v + 1 < c.bw → get_or c.page (a * c.bw + 1 + v) 0 ≢ get_or c.page (b * c.bw + 1 + v) 0

abbrev pub ComparisonTells : Type 0
ComparisonTells = (c : Lent) (w a b : ℕ) → ReaderTells (CompareReason c w a b) (Shares c a b) (compare_of c w a b)
