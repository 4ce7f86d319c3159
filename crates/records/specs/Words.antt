-- The event that five words spell: kind, worker, code, a and b (document 01, Requests; an unknown kind is refused with 4).
use Rattle.std.specs.Prelude.{ℕ, Bool, ◌&&◌, cond, List, Result, Ok, Err, leb, get_or}
use Rattle.answers.specs.declared.Refusal.{Refusal}
use Rattle.answers.specs.declared.Refusal.TheVariants.{NoSuch}
use Rattle.records.specs.declared.Event.{Event}
use Rattle.records.specs.Records.{EventWords, words_of}

-- five words
abbrev pub five : List ℕ → EventWords
five words =
    record {
      kind = get_or words 0 0;
      worker = get_or words 1 0;
      code = get_or words 2 0;
      a = get_or words 3 0;
      b = get_or words 4 0;
    }

-- one of the four kinds
abbrev pub is_kind : ℕ → Bool
is_kind kind = leb 1 kind && leb kind 4

-- the event that words spell, or 4
abbrev pub spelled_by : List ℕ → Result EventWords Refusal
spelled_by words = cond (is_kind (get_or words 0 0)) (Ok (five words)) (Err NoSuch)

-- an event that was heard as its words, or why none was
abbrev pub heard : Result Event Refusal → Result EventWords Refusal
heard (Ok e) = Ok (words_of e)
heard (Err refusal) = Err refusal
