-- What requests 1 to 5 and 13 do in any state that they accept, word by word and bit by bit (document 01, Requests 1
-- to 13). No list but the one that is walked need run. No proof stands in this file.
use Rattle.std.specs.Prelude.{ℕ, ◌+◌, ◌*◌, ◌/◌, ◌≤◌, ◌<◌, ◌≡◌, ◌≢◌, List, [], ◌∷◌, ◌++◌, length, get_or}
use Rattle.answers.specs.Rows.{Outcome}
use Rattle.bitmap.specs.Bitmap.{bit_at}
use Rattle.page.specs.Page.{Lent, Rules}
use Rattle.page.specs.Heads.{SoundHead}
use Rattle.page.specs.Sequences.{times, Runs}
use Rattle.lists.specs.Lists.{Lists}
use Rattle.lists.specs.Own.{insert_of, pop_of, append_of, extend_of, release_of, empty_of}

-- The page's numbers and both lengths are as before.
pub record SameSizes (c d : Lent) : Type 0 where
  pub n : d.n ≡ c.n
  pub bw : d.bw ≡ c.bw
  pub words : length d.page ≡ length c.page
  pub marks : length d.bits ≡ length c.bits

-- Word k, and bit i, are as before.
abbrev pub SameWord : Lent → Lent → ℕ → Type 0
SameWord c d k = get_or d.page k 0 ≡ get_or c.page k 0

abbrev pub SameBit : Lent → Lent → ℕ → Type 0
SameBit c d i = bit_at d.bits i ≡ bit_at c.bits i

-- Done with this value, and these heads afterwards.
pub record Done (c : Lists) (o : Outcome Lists) (v front taken : ℕ) : Type 0 where
  pub number : o.number ≡ 0
  pub value : o.value ≡ v
  pub own : o.after.own ≡ front
  pub got : o.after.got ≡ taken
  pub sizes : SameSizes c.lent o.after.lent

-- Insert: block a's link is the old head and its bit is set; no other word and no other bit changes.
pub record InsertDoes (c : Lists) (a : ℕ) (o : Outcome Lists) : Type 0 where
  pub done : Done c o 0 (8 * c.lent.bw * a) c.got
  pub link : get_or o.after.lent.page (a * c.lent.bw) 0 ≡ c.own
  pub words : (k : ℕ) → k ≢ a * c.lent.bw → SameWord c.lent o.after.lent k
  pub bit : bit_at o.after.lent.bits a ≡ 1
  pub bits : (i : ℕ) → i ≢ a → SameBit c.lent o.after.lent i

abbrev pub InsertActs : Type 0
InsertActs =
    (c : Lists) (a : ℕ) → Rules c.lent → 1 ≤ a → a ≤ c.lent.n → bit_at c.lent.bits a ≡ 0 → SoundHead c.lent c.own
    → InsertDoes c a (insert_of c a)

-- Pop: the front block is told, its link is the head, its bit is clear; no word and no other bit changes.
pub record PopDoes (c : Lists) (o : Outcome Lists) : Type 0 where
  pub done : Done c o (c.own / (8 * c.lent.bw)) (get_or c.lent.page (c.own / 8) 0) c.got
  pub words : (k : ℕ) → SameWord c.lent o.after.lent k
  pub bit : bit_at o.after.lent.bits (c.own / (8 * c.lent.bw)) ≡ 0
  pub bits : (i : ℕ) → i ≢ c.own / (8 * c.lent.bw) → SameBit c.lent o.after.lent i

abbrev pub PopActs : Type 0
PopActs =
    (c : Lists) → Rules c.lent → c.own ≢ 0 → SoundHead c.lent c.own → SoundHead c.lent (get_or c.lent.page (c.own / 8) 0)
    → PopDoes c (pop_of c)

-- Append: the link of got's last block is own's old head; no other word and no bit changes.
pub record AppendDoes (c : Lists) (count last : ℕ) (o : Outcome Lists) : Type 0 where
  pub done : Done c o count c.got 0
  pub link : get_or o.after.lent.page (last * c.lent.bw) 0 ≡ c.own
  pub words : (k : ℕ) → k ≢ last * c.lent.bw → SameWord c.lent o.after.lent k
  pub bits : (i : ℕ) → SameBit c.lent o.after.lent i

abbrev pub AppendActs : Type 0
AppendActs =
    (c : Lists) (before : List ℕ) (last : ℕ) → Rules c.lent → SoundHead c.lent c.own → Runs c.lent c.got (before ++ (last ∷ []))
    → AppendDoes c (length before + 1) last (append_of c)

-- With got empty nothing is looked at or changed.
pub record NothingDone (c : Lists) (v : ℕ) (o : Outcome Lists) : Type 0 where
  pub number : o.number ≡ 0
  pub value : o.value ≡ v
  pub after : o.after ≡ c

abbrev pub AppendOfNone : Type 0
AppendOfNone = (c : Lists) → Rules c.lent → c.got ≡ 0 → NothingDone c 0 (append_of c)

-- Extend: each block links to the next one up, the last to the old head, their bits are set; no other word or bit
-- changes.
pub record ExtendDoes (c : Lists) (a b : ℕ) (o : Outcome Lists) : Type 0 where
  pub done : Done c o b (8 * c.lent.bw * a) c.got
  pub link : (i : ℕ) → a ≤ i → i + 1 < a + b → get_or o.after.lent.page (i * c.lent.bw) 0 ≡ 8 * c.lent.bw * (i + 1)
  pub last : (i : ℕ) → i + 1 ≡ a + b → get_or o.after.lent.page (i * c.lent.bw) 0 ≡ c.own
  pub words : (k : ℕ) → ((i : ℕ) → a ≤ i → i < a + b → k ≢ i * c.lent.bw) → SameWord c.lent o.after.lent k
  pub bit : (i : ℕ) → a ≤ i → i < a + b → bit_at o.after.lent.bits i ≡ 1
  pub below : (i : ℕ) → i < a → SameBit c.lent o.after.lent i
  pub above : (i : ℕ) → a + b ≤ i → SameBit c.lent o.after.lent i

abbrev pub ExtendActs : Type 0
ExtendActs =
    (c : Lists) (a b : ℕ) → Rules c.lent → 1 ≤ a → 1 ≤ b → a + b ≤ c.lent.n + 1
    → ((i : ℕ) → a ≤ i → i < a + b → bit_at c.lent.bits i ≡ 0) → SoundHead c.lent c.own → ExtendDoes c a b (extend_of c a b)

-- Release: the bits of exactly own's blocks are cleared; no word changes.
pub record ReleaseDoes (c : Lists) (xs : List ℕ) (o : Outcome Lists) : Type 0 where
  pub done : Done c o (length xs) 0 c.got
  pub words : (k : ℕ) → SameWord c.lent o.after.lent k
  pub bit : (i : ℕ) → 0 < times i xs → bit_at o.after.lent.bits i ≡ 0
  pub bits : (i : ℕ) → times i xs ≡ 0 → SameBit c.lent o.after.lent i

abbrev pub ReleaseActs : Type 0
ReleaseActs = (c : Lists) (xs : List ℕ) → Rules c.lent → Runs c.lent c.own xs → ReleaseDoes c xs (release_of c)

-- Request 13 looks at the head alone.
abbrev pub EmptyActs : Type 0
EmptyActs = (c : Lists) → Rules c.lent → (c.own ≡ 0 → NothingDone c 1 (empty_of c)) × (c.own ≢ 0 → NothingDone c 0 (empty_of c))
