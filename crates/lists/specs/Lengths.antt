-- How many blocks the lists have after a call, and at most: upstream's promises on `len()` and its two bounds. No
-- proof stands in this file.
use Rattle.std.specs.Prelude.{ℕ, ◌+◌, ◌≤◌, ◌<◌, ◌≡◌, List, length}
use Rattle.answers.specs.Rows.{Outcome}
use Rattle.bitmap.specs.Bitmap.{bit_at}
use Rattle.page.specs.Page.{Lent, Rules}
use Rattle.page.specs.Sequences.{Apart, Runs}
use Rattle.lists.specs.Lists.{Lists}
use Rattle.lists.specs.Own.{insert_of, pop_of, append_of, extend_of, release_of}

-- The list with head h runs, over m blocks.
pub record HasLength (c : Lent) (h m : ℕ) : Type 0 where
  pub blocks : List ℕ
  pub runs : Runs c h blocks
  pub many : length blocks ≡ m

-- Own runs over m blocks after a call.
abbrev pub OwnHasLength : Outcome Lists → ℕ → Type 0
OwnHasLength o m = HasLength o.after.lent o.after.own m

-- Insert adds one, pop takes one, append adds got's, extend adds b, release leaves none.
pub record LengthsTell (c : Lists) (xs : List ℕ) : Type 0 where
  pub insert : (a : ℕ) → 1 ≤ a → a ≤ c.lent.n → bit_at c.lent.bits a ≡ 0 → OwnHasLength (insert_of c a) (length xs + 1)
  pub pop : (k : ℕ) → length xs ≡ k + 1 → OwnHasLength (pop_of c) k
  pub append : (taken : List ℕ) → Runs c.lent c.got taken → Apart taken xs → OwnHasLength (append_of c) (length taken + length xs)
  pub extend : (a b : ℕ) → 1 ≤ a → 1 ≤ b → a + b ≤ c.lent.n + 1 → ((i : ℕ) → a ≤ i → i < a + b → bit_at c.lent.bits i ≡ 0)
      → OwnHasLength (extend_of c a b) (b + length xs)
  pub release : OwnHasLength (release_of c) 0

abbrev pub LengthsGo : Type 0
LengthsGo = (c : Lists) (xs : List ℕ) → Rules c.lent → Runs c.lent c.own xs → LengthsTell c xs

-- A list has at most n blocks, and two that share none have at most n together.
abbrev pub OneListFits : Type 0
OneListFits = (c : Lent) (h : ℕ) (xs : List ℕ) → Rules c → Runs c h xs → length xs ≤ c.n

abbrev pub TwoListsFit : Type 0
TwoListsFit =
    (c : Lent) (h k : ℕ) (xs ys : List ℕ) → Rules c → Runs c h xs → Runs c k ys → Apart xs ys → length xs + length ys ≤ c.n
