-- When requests 1 to 5 and 13 are refused, and with which number: the smallest that applies; a refusal has value 0 and
-- changes nothing (document 01, Numbers given back; Damaged). No proof stands in this file.
use Rattle.std.specs.Prelude.{ℕ, ◌+◌, ◌/◌, ◌≤◌, ◌<◌, ◌≡◌, ◌≢◌, List, get_or}
use Rattle.answers.specs.Smallest.{AnswersBy}
use Rattle.bitmap.specs.Bitmap.{bit_at}
use Rattle.page.specs.Page.{Rules}
use Rattle.page.specs.Heads.{SoundHead}
use Rattle.page.specs.Sequences.{Runs}
use Rattle.lists.specs.Lists.{Lists}
use Rattle.lists.specs.Own.{insert_of, pop_of, append_of, extend_of, release_of, empty_of}

-- Insert: the page rules broken, no such block, its bit set, an own head that is not sound.
pub data InsertReason (c : Lists) (a : ℕ) : ℕ → Type 0 where
  rules : (Rules c.lent → ⊥) → InsertReason c a 2
  block : ((1 ≤ a) × (a ≤ c.lent.n) → ⊥) → InsertReason c a 4
  set : bit_at c.lent.bits a ≡ 1 → InsertReason c a 9
  own : (SoundHead c.lent c.own → ⊥) → InsertReason c a 11

abbrev pub InsertAnswers : Type 0
InsertAnswers = (c : Lists) (a : ℕ) → AnswersBy (InsertReason c a) c (insert_of c a)

-- Pop: the page rules broken, own empty, an own head or a link of its first block that is not sound.
pub data PopReason (c : Lists) : ℕ → Type 0 where
  rules : (Rules c.lent → ⊥) → PopReason c 2
  empty : c.own ≡ 0 → PopReason c 10
  own : (SoundHead c.lent c.own → ⊥) → PopReason c 11
  link : c.own ≢ 0 → (SoundHead c.lent (get_or c.lent.page (c.own / 8) 0) → ⊥) → PopReason c 11

abbrev pub PopAnswers : Type 0
PopAnswers = (c : Lists) → AnswersBy (PopReason c) c (pop_of c)

-- Append: the page rules broken; with got not empty, an own head that is not sound, or no sequence that got runs over.
pub data AppendReason (c : Lists) : ℕ → Type 0 where
  rules : (Rules c.lent → ⊥) → AppendReason c 2
  own : c.got ≢ 0 → (SoundHead c.lent c.own → ⊥) → AppendReason c 11
  got : c.got ≢ 0 → ((xs : List ℕ) → Runs c.lent c.got xs → ⊥) → AppendReason c 11

abbrev pub AppendAnswers : Type 0
AppendAnswers = (c : Lists) → AnswersBy (AppendReason c) c (append_of c)

-- Extend: the page rules broken, no such run of blocks, a bit of it set, an own head that is not sound.
pub data ExtendReason (c : Lists) (a b : ℕ) : ℕ → Type 0 where
  rules : (Rules c.lent → ⊥) → ExtendReason c a b 2
  run : ((1 ≤ a) × (1 ≤ b) × (a + b ≤ c.lent.n + 1) → ⊥) → ExtendReason c a b 4
  set : (i : ℕ) → a ≤ i → i < a + b → bit_at c.lent.bits i ≡ 1 → ExtendReason c a b 9
  own : (SoundHead c.lent c.own → ⊥) → ExtendReason c a b 11

abbrev pub ExtendAnswers : Type 0
ExtendAnswers = (c : Lists) (a b : ℕ) → AnswersBy (ExtendReason c a b) c (extend_of c a b)

-- Release: the page rules broken, or no sequence that own runs over.
pub data ReleaseReason (c : Lists) : ℕ → Type 0 where
  rules : (Rules c.lent → ⊥) → ReleaseReason c 2
  own : ((xs : List ℕ) → Runs c.lent c.own xs → ⊥) → ReleaseReason c 11

abbrev pub ReleaseAnswers : Type 0
ReleaseAnswers = (c : Lists) → AnswersBy (ReleaseReason c) c (release_of c)

-- Request 13: the page rules broken.
pub data EmptyReason (c : Lists) : ℕ → Type 0 where
  rules : (Rules c.lent → ⊥) → EmptyReason c 2

abbrev pub EmptyAnswers : Type 0
EmptyAnswers = (c : Lists) → AnswersBy (EmptyReason c) c (empty_of c)
