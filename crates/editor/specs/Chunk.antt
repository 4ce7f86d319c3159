-- What comes of some bytes: the events of their records are run, in order (document 01, Checked by hand).
use Rattle.std.specs.Prelude.{ℕ, ◌*◌, ◌≡◌, Option, List, take}
use Rattle.records.specs.declared.Stop.{Stop}
use Rattle.records.specs.Records.{request, move, on, off}
use Rattle.records.specs.Fill.{Filling, fill_of}
use Rattle.machine.specs.Config.{Config}
use Rattle.machine.specs.Events.{event_words, a_request, a_move, turns_on, turns_off, ran, events_of}

-- the kinds that records are decoded to are those of the events that run
abbrev pub KindsAgree : Type 0
KindsAgree = (request ≡ a_request) × (move ≡ a_move) × (on ≡ turns_on) × (off ≡ turns_off)

-- how many records were answered, why no more, the configuration afterwards and the answers
pub record Performed : Type 0 where
  pub records : ℕ
  pub stop : Option Stop
  pub config : Config
  pub answers : List ℕ

abbrev pub performed : ℕ → Option Stop → Config → List ℕ → Performed
performed records stop config answers = record { records = records; stop = stop; config = config; answers = answers }

-- the events that were decoded are run
abbrev pub run_of : Config → List ℕ → Filling → Performed
run_of c answers f =
    let r = (events_of (ran c answers) (take (event_words * f.records) f.words)).after in
    performed f.records f.stop r.config r.answers

abbrev pub perform_of : Config → List ℕ → List ℕ → List ℕ → Performed
perform_of c bytes events answers = run_of c answers (fill_of bytes events)
