-- A run of records on a fresh page of 63 blocks of 4 words, with eight workers (document 01, Checked by hand).
use Rattle.std.specs.Prelude.{ℕ, ◌*◌, ◌≡◌, List, length, take, replicate}
use Rattle.answers.specs.Rows.{Outcome, outcome}
use Rattle.records.specs.Fill.{Filling, fill_of}
use Rattle.machine.specs.Config.{config, fresh_of}
use Rattle.machine.specs.Events.{event_words, answer_words, Run, ran, events_of}
use Rattle.table_check.specs.declared.runs.Ran.{Ran}

-- the events of so many records, run from the start
abbrev pub from_fresh : List ℕ → List ℕ → List ℕ → Filling → Outcome Run
from_fresh page bits answers f = events_of (ran (fresh_of 63 4 8 page bits).after answers) (take (event_words * f.records) f.words)

-- room for 32 records
unfoldable pub run_of : List ℕ → List ℕ → List ℕ → List ℕ → Outcome Run
run_of run page bits answers = from_fresh page bits answers (fill_of run (replicate 160 0))

-- the same over zeros
unfoldable pub zeros_run : List ℕ → Outcome Run
zeros_run run = run_of run (replicate 256 0) (replicate 1 0) (replicate 64 0)

-- what a run left
abbrev pub left : Ran → Outcome Run
left r = outcome r.answer.number r.answer.value (ran (config r.state r.page r.bits) r.answers)

-- these are its answers, two words each, and no more
pub record Answers (run expected : List ℕ) : Type 0 where
  pub count : answer_words * (zeros_run run).value ≡ length expected
  pub each : take (length expected) (zeros_run run).after.answers ≡ expected
