-- What the bytes of a record say: the four marks, the fields, and what stands at a place (document 01, Checked by
-- hand). No proof stands in this file.
use Rattle.std.specs.Prelude.{ℕ, ◌+◌, ◌*◌, ◌≤◌, ◌<◌, ◌≡◌, ◌≢◌, ◌↔◌, List, Ok, Err, length, get_or}
use Rattle.records.specs.declared.Stop.TheVariants.{Ended, Cut, Unknown}
use Rattle.records.specs.Records.{kind_of, EventWords, event_at, decode_at}

-- Two bytes are these.
abbrev pub Pair : ℕ → ℕ → ℕ → ℕ → Type 0
Pair x y m n = (m ≡ x) × (n ≡ y)

-- A request is 1, a move 2, on 3 and off 4, each for its own mark alone; any other two bytes are 0.
pub record MarkTells (m n : ℕ) : Type 0 where
  pub request : (kind_of m n ≡ 1) ↔ Pair 0x53 0x55 m n
  pub move : (kind_of m n ≡ 2) ↔ Pair 0x4D 0x56 m n
  pub on : (kind_of m n ≡ 3) ↔ Pair 0x45 0x4E m n
  pub off : (kind_of m n ≡ 4) ↔ Pair 0x44 0x49 m n
  pub other : (Pair 0x53 0x55 m n → ⊥) → (Pair 0x4D 0x56 m n → ⊥) → (Pair 0x45 0x4E m n → ⊥) → (Pair 0x44 0x49 m n → ⊥) → kind_of m n ≡ 0

abbrev pub MarksAre : Type 0
MarksAre = (m n : ℕ) → MarkTells m n

-- The mark, worker, code, and a and b low byte first.
pub record EventTells (bytes : List ℕ) (at : ℕ) (e : EventWords) : Type 0 where
  pub kind : e.kind ≡ kind_of (get_or bytes at 0) (get_or bytes (at + 1) 0)
  pub worker : e.worker ≡ get_or bytes (at + 2) 0
  pub code : e.code ≡ get_or bytes (at + 3) 0
  pub a : e.a ≡ get_or bytes (at + 4) 0 + 256 * get_or bytes (at + 5) 0
  pub b : e.b ≡ get_or bytes (at + 6) 0 + 256 * get_or bytes (at + 7) 0

-- Past the last byte is the end; fewer than 8 bytes are a cut record; 8 bytes are an event, or an unknown mark.
pub record PlaceTells (bytes : List ℕ) (at : ℕ) : Type 0 where
  pub fields : EventTells bytes at (event_at bytes at)
  pub end : length bytes ≤ at → decode_at bytes at ≡ Err Ended
  pub cut : at < length bytes → length bytes < at + 8 → decode_at bytes at ≡ Err Cut
  pub unknown : at + 8 ≤ length bytes → kind_of (get_or bytes at 0) (get_or bytes (at + 1) 0) ≡ 0 → decode_at bytes at ≡ Err Unknown
  pub whole : at + 8 ≤ length bytes → kind_of (get_or bytes at 0) (get_or bytes (at + 1) 0) ≢ 0 → decode_at bytes at ≡ Ok (event_at bytes at)

abbrev pub RecordsAre : Type 0
RecordsAre = (bytes : List ℕ) (at : ℕ) → PlaceTells bytes at
