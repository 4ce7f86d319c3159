-- The words of an event in the slice.
use Rattle.std.specs.Prelude.{ℕ, ◌+◌, ◌*◌, List, [], ◌∷◌, get_or}
use Rattle.machine.specs.Events.{event_words}

-- the five words of event number k
abbrev pub words_at : List ℕ → ℕ → List ℕ
words_at events k =
    get_or events (k * event_words) 0 ∷ get_or events (k * event_words + 1) 0 ∷ get_or events (k * event_words + 2) 0
    ∷ get_or events (k * event_words + 3) 0 ∷ get_or events (k * event_words + 4) 0 ∷ []
