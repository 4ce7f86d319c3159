-- Decoding and running, one after the other. Assumes nothing.
use Prim.Native.Nat.{ℕ, ◌*◌, ◌≤◌}
use mathlib.Core.Path.{◌≡◌, refl, sym, ap, ◌∙◌, subst}
use mathlib.Core.List.{List}
use native.Mathlib.Omega.{arith}
use lib.ListN.{length}
use Rattle.records.specs.declared.Filled.{Filled}
use Rattle.records.specs.Fill.{came, fill_of}
use Rattle.records.specs.Filled.{FillHolds}
use Rattle.records.proofs.Filling.{fill_holds}
use Rattle.answers.specs.Rows.{Outcome}
use Rattle.machine.specs.Events.{event_words, Run, events_of}
use Rattle.machine.proofs.RunsKeep.{runs-kept}
use Rattle.editor.specs.Chunk.{KindsAgree}

pub kinds-agree : KindsAgree
kinds-agree = (refl, refl, refl, refl)

-- the records are within the bytes, and their words within the room
pub filled-holds : (bytes events : List ℕ) {r : Filled} {words : List ℕ} → came r words ≡ fill_of bytes events → FillHolds bytes events (came r words)
filled-holds bytes events e = subst (FillHolds bytes events) (sym e) (fill_holds bytes events)

pub filled-room : (bytes events : List ℕ) {r : Filled} {words : List ℕ} → came r words ≡ fill_of bytes events → event_words * r.records ≤ length words
filled-room bytes events e = let h = filled-holds bytes events e in omega (arith, h.room, h.size)

-- a run keeps the page's numbers
pub run-numbers : (r : Run) (events : List ℕ) {o : Outcome Run} → o ≡ events_of r events
    → (o.after.config.state.n ≡ r.config.state.n) × (o.after.config.state.bw ≡ r.config.state.bw) × (o.after.config.state.w ≡ r.config.state.w)
run-numbers r events e =
    let k = runs-kept r events in (
      ap (λ (o : Outcome Run). o.after.config.state.n) e ∙ k.lent.n,
      ap (λ (o : Outcome Run). o.after.config.state.bw) e ∙ k.lent.bw,
      ap (λ (o : Outcome Run). o.after.config.state.w) e ∙ k.w,
    )
