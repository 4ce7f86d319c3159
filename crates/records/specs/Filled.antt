-- What a fill leaves: the records it used, each event's five words in their place, the words past them, and why it
-- stopped. No proof stands in this file.
use Rattle.std.specs.Prelude.{ℕ, ◌+◌, ◌*◌, ◌≤◌, ◌<◌, ◌≡◌, List, Some, Result, Ok, Err, length, get_or}
use Rattle.records.specs.declared.Stop.{Stop}
use Rattle.records.specs.declared.Stop.TheVariants.{NoRoom}
use Rattle.records.specs.Records.{EventWords, event_at, decode_at}
use Rattle.records.specs.Fill.{Filling, fill_of}

-- an event's five words from a place on
pub record EventStands (words : List ℕ) (to : ℕ) (e : EventWords) : Type 0 where
  pub kind : get_or words to 0 ≡ e.kind
  pub worker : get_or words (to + 1) 0 ≡ e.worker
  pub code : get_or words (to + 2) 0 ≡ e.code
  pub a : get_or words (to + 3) 0 ≡ e.a
  pub b : get_or words (to + 4) 0 ≡ e.b

-- why no more, by what stands behind the records used
abbrev pub why_of : Result EventWords Stop → Stop
why_of (Err stop) = stop
why_of (Ok _) = NoRoom

module _ (bytes words : List ℕ) where
  -- so many records are used, and their events stand in the words
  pub record FillHolds (f : Filling) : Type 0 where
    pub used : 8 * f.records ≤ length bytes
    pub room : 5 * f.records ≤ length words
    pub size : length f.words ≡ length words
    pub found : (i : ℕ) → i < f.records → decode_at bytes (8 * i) ≡ Ok (event_at bytes (8 * i))
    pub stands : (i : ℕ) → i < f.records → EventStands f.words (5 * i) (event_at bytes (8 * i))
    pub past : (j : ℕ) → 5 * f.records ≤ j → get_or f.words j 0 ≡ get_or words j 0

  -- why it stopped; for want of room only where five more words have none
  pub record Stopped (f : Filling) : Type 0 where
    pub why : f.stop ≡ Some (why_of (decode_at bytes (8 * f.records)))
    pub full : f.stop ≡ Some NoRoom → length words < 5 * f.records + 5

-- A fill uses records as long as they decode to events with room for them, and says why no more.
abbrev pub FillTells : Type 0
FillTells = (bytes words : List ℕ) → FillHolds bytes words (fill_of bytes words) × Stopped bytes words (fill_of bytes words)
