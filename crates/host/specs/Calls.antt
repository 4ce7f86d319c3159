-- What a call leaves in the words that the host lends: the state's, the page's, the bitmap's, and for a run of events the
-- answers' (document 01, Numbers given back).
use Rattle.std.specs.Prelude.{ℕ, cond, List, ltb}
use Rattle.answers.specs.Numbers.{bad_page}
use Rattle.answers.specs.Rows.{Outcome, outcome}
use Rattle.answers.specs.declared.Answer.{Answer}
use Rattle.machine.specs.declared.State.{State}
use Rattle.machine.specs.Config.{Config, config}
use Rattle.machine.specs.Events.{Run}
use Rattle.host.specs.Spelling.{spelled, words_of}

-- what the lent words hold
pub record Held : Type 0 where
  pub state : List ℕ
  pub page : List ℕ
  pub bits : List ℕ

abbrev pub held : List ℕ → List ℕ → List ℕ → Held
held state page bits = record { state = state; page = page; bits = bits }

-- what came of a call: the answer, and what the words hold
abbrev pub gave : Answer → List ℕ → List ℕ → List ℕ → Outcome Held
gave r state page bits = outcome r.number r.value (held state page bits)

-- the configuration that the words hold
abbrev pub holding : List ℕ → List ℕ → List ℕ → Config
holding state page bits = config (spelled state) page bits

-- the state's words after an answer: those of the state given back, or as they were where the number refuses
unfoldable pub written : List ℕ → ℕ → State → List ℕ
written words number s = cond (ltb number bad_page) (words_of s) words

-- an outcome of the machine in words
abbrev pub in_words : List ℕ → Outcome Config → Outcome Held
in_words words o = outcome o.number o.value (held (written words o.number o.after.state) o.after.page o.after.bits)

-- a fresh start writes the state's words even where it refuses: all 0
abbrev pub fresh_in_words : Outcome Config → Outcome Held
fresh_in_words o = outcome o.number o.value (held (words_of o.after.state) o.after.page o.after.bits)

-- what the lent words hold, with the answers of a run of events
pub record HeldRun : Type 0 where
  pub held : Held
  pub answers : List ℕ

abbrev pub held_run : Held → List ℕ → HeldRun
held_run h answers = record { held = h; answers = answers }

-- what came of a run of events
abbrev pub gave_run : Answer → List ℕ → List ℕ → List ℕ → List ℕ → Outcome HeldRun
gave_run r state page bits answers = outcome r.number r.value (held_run (held state page bits) answers)

-- a run of events in words
abbrev pub run_in_words : List ℕ → Outcome Run → Outcome HeldRun
run_in_words words o =
    outcome o.number o.value
    (held_run (held (written words o.number o.after.config.state) o.after.config.page o.after.config.bits) o.after.answers)
