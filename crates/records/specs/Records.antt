-- Records of 8 bytes: a two-byte mark, worker, code, a and b as two bytes each, low first (document 01, Checked by hand).
use Rattle.std.specs.Prelude.{ℕ, ◌+◌, ◌-◌, ◌*◌, Bool, cond, List, [], ◌∷◌, Result, Ok, Err, eqb, leb, ltb, length, get_or}
use Rattle.answers.specs.Rows.{all, row, first}
use Rattle.records.specs.declared.Event.{Event}
use Rattle.records.specs.declared.Kind.{Kind}
use Rattle.records.specs.declared.Kind.TheVariants.{Request, Move, On, Off}
use Rattle.records.specs.declared.Stop.{Stop}
use Rattle.records.specs.declared.Stop.TheVariants.{Ended, Cut, Unknown}

-- the kinds of an event
abbrev pub request : ℕ
request = 1

abbrev pub move : ℕ
move = 2

abbrev pub on : ℕ
on = 3

abbrev pub off : ℕ
off = 4

-- the number of a kind
abbrev pub kind_number : Kind → ℕ
kind_number Request = request
kind_number Move = move
kind_number On = on
kind_number Off = off

-- the mark x y
unfoldable pub is_mark : ℕ → ℕ → ℕ → ℕ → Bool
is_mark x y m n = all (eqb m x ∷ eqb n y ∷ [])

-- the kind that a mark stands for; 0 for no mark
unfoldable pub kind_of : ℕ → ℕ → ℕ
kind_of m n =
    first
    (row request (is_mark 0x53 0x55 m n)
    ∷ row move (is_mark 0x4D 0x56 m n)
    ∷ row on (is_mark 0x45 0x4E m n)
    ∷ row off (is_mark 0x44 0x49 m n)
    ∷ [])

-- the number of a kind that was found, or why none was
abbrev pub known : Result Kind Stop → Result ℕ Stop
known (Ok kind) = Ok (kind_number kind)
known (Err stop) = Err stop

-- the kind of two bytes, or that they are no mark
abbrev pub marked_by : List ℕ → Result ℕ Stop
marked_by mark = let kind = kind_of (get_or mark 0 0) (get_or mark 1 0) in cond (eqb kind 0) (Err Unknown) (Ok kind)

-- two bytes, low first
abbrev pub two_bytes : ℕ → ℕ → ℕ
two_bytes low high = low + 256 * high

-- an event's five words
pub record EventWords : Type 0 where
  pub kind : ℕ
  pub worker : ℕ
  pub code : ℕ
  pub a : ℕ
  pub b : ℕ

abbrev pub words_of : Event → EventWords
words_of e = record { kind = kind_number e.kind; worker = e.worker; code = e.code; a = e.a; b = e.b }

-- the event of the 8 bytes at a place
abbrev pub event_at : List ℕ → ℕ → EventWords
event_at bytes at =
    record {
      kind = kind_of (get_or bytes at 0) (get_or bytes (at + 1) 0);
      worker = get_or bytes (at + 2) 0;
      code = get_or bytes (at + 3) 0;
      a = two_bytes (get_or bytes (at + 4) 0) (get_or bytes (at + 5) 0);
      b = two_bytes (get_or bytes (at + 6) 0) (get_or bytes (at + 7) 0);
    }

-- what stands at a place: an event, or the end, a cut record or an unknown mark
unfoldable pub decode_at : List ℕ → ℕ → Result EventWords Stop
decode_at bytes at =
    cond (leb (length bytes) at) (Err Ended)
    (cond (ltb (length bytes - at) 8) (Err Cut)
    (cond (eqb (event_at bytes at).kind 0) (Err Unknown)
    (Ok (event_at bytes at))))

-- an event that was read as its words, or why none was
abbrev pub read : Result Event Stop → Result EventWords Stop
read (Ok e) = Ok (words_of e)
read (Err stop) = Err stop
