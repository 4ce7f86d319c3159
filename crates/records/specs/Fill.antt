-- Filling words with the events of records from the start of the bytes: five words each, kind, worker, code, a and b.
use Rattle.std.specs.Prelude.{ℕ, zero, suc, ◌+◌, ◌-◌, ◌*◌, ◌/◌, cond, List, Option, Some, None, Result, Ok, Err, ltb, length, set}
use Rattle.records.specs.declared.Stop.{Stop}
use Rattle.records.specs.declared.Stop.TheVariants.{Ended, Cut, Unknown, NoRoom}
use Rattle.records.specs.declared.Filled.{Filled}
use Rattle.records.specs.Records.{EventWords, decode_at}

-- why filling stopped: the bytes ended on a record's end, a cut record, an unknown mark, no room for five more words
abbrev pub ended : Option Stop
ended = Some Ended

abbrev pub cut : Option Stop
cut = Some Cut

abbrev pub unknown : Option Stop
unknown = Some Unknown

abbrev pub no_room : Option Stop
no_room = Some NoRoom

-- it did not stop yet
abbrev pub going : Option Stop
going = None

-- how many records stand in the words, why no more, and the words
pub record Filling : Type 0 where
  pub records : ℕ
  pub stop : Option Stop
  pub words : List ℕ

abbrev pub filling : ℕ → Option Stop → List ℕ → Filling
filling records stop words = record { records = records; stop = stop; words = words }

-- the words with an event's five from a place on
abbrev pub put_event : List ℕ → ℕ → EventWords → List ℕ
put_event words to e =
    set (set (set (set (set words to e.kind) (to + 1) e.worker) (to + 2) e.code) (to + 3) e.a) (to + 4) e.b

-- what was decoded, put behind the k events before it
abbrev pub put_next : ℕ → List ℕ → Result EventWords Stop → Filling
put_next k words (Err stop) = filling k (Some stop) words
put_next k words (Ok e) =
    cond (ltb (length words - 5 * k) 5) (filling k no_room words) (filling (k + 1) going (put_event words (5 * k) e))

-- one record more, unless filling has stopped
unfoldable pub next : List ℕ → Filling → Filling
next bytes f = elim f.stop [ None ↦ put_next f.records f.words (decode_at bytes (8 * f.records)) | Some _ ↦ f ]

-- after so many turns
unfoldable pub fill_in : List ℕ → ℕ → List ℕ → Filling
fill_in bytes zero words = filling 0 going words
fill_in bytes (suc turns) words = next bytes (fill_in bytes turns words)

-- the whole: a turn for each whole record, and one that finds the end
abbrev pub fill_of : List ℕ → List ℕ → Filling
fill_of bytes words = fill_in bytes (length bytes / 8 + 1) words

-- what a turn came to: one record more if it did not stop
abbrev pub turned : ℕ → Result Unit Stop → List ℕ → Filling
turned k (Ok _) words = filling (k + 1) going words
turned k (Err stop) words = filling k (Some stop) words

-- what an answer and the words come to
abbrev pub came : Filled → List ℕ → Filling
came r words = filling r.records (Some r.stop) words
