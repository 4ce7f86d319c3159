-- Decoding, a fresh start and a run, one after the other. Assumes nothing.
use Prim.Native.Nat.{ℕ, ◌*◌, ◌≤◌}
use mathlib.Core.Path.{◌≡◌, sym, ap, ◌∙◌, subst}
use mathlib.Core.List.{List}
use native.Mathlib.Omega.{arith}
use lib.ListN.{length, take, replicate}
use Rattle.answers.specs.Rows.{Outcome}
use Rattle.records.specs.declared.Filled.{Filled}
use Rattle.records.specs.Fill.{fill_of}
use Rattle.records.specs.Fill as fill
use Rattle.records.specs.Filled.{FillHolds}
use Rattle.records.proofs.Filling.{fill_holds}
use Rattle.machine.specs.Config.{Config, fresh_of}
use Rattle.machine.specs.Events.{event_words, Run, ran, events_of}
use Rattle.table_check.specs.Runs.{from_fresh, run_of}

-- the words of the records are within the room
pub filled-room : (bytes events : List ℕ) {r : Filled} {words : List ℕ} → fill.came r words ≡ fill_of bytes events → event_words * r.records ≤ length words
filled-room bytes events {r} {words} e =
    let h : FillHolds bytes events (fill.came r words) = subst (FillHolds bytes events) (sym e) (fill_holds bytes events) in
    omega (arith, h.room, h.size)

pub run_is : (bytes page bits answers : List ℕ) {r : Filled} {words : List ℕ} → fill.came r words ≡ fill_of bytes (replicate 160 0)
    → {c : Config} → c ≡ (fresh_of 63 4 8 page bits).after
    → {o : Outcome Run} → o ≡ events_of (ran c answers) (take (event_words * r.records) words)
    → o ≡ run_of bytes page bits answers
unfolding run_of
run_is bytes page bits answers {r} {words} e f g =
    g
    ∙ ap (λ (c : Config). events_of (ran c answers) (take (event_words * r.records) words)) f
    ∙ ap (from_fresh page bits answers) e
