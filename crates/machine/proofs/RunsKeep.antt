-- Demand 1, proved for runs of events: what no call changes, no run of them does. Assumes nothing.
use Prim.Native.Nat.{ℕ, zero, suc, ◌+◌, ◌*◌, ◌/◌}
use mathlib.Core.Path.{◌∙◌, ap}
use mathlib.Core.List.{List}
use native.Mathlib.Omega.{arith}
use lib.Dec.{eqb}
use lib.ListN.{length, get_or}
use Rattle.answers.specs.Numbers.{done}
use Rattle.answers.specs.Rows.{Outcome, outcome}
use Rattle.answers.proofs.Rows.{unless-either}
use Rattle.page.specs.Page.{Lent, place}
use Rattle.page.specs.Keeps.{Keeps}
use Rattle.machine.specs.Config.{Config}
use Rattle.machine.specs.Events.{event_words, a_request, a_move, turns_on, turns_off, flag_of, event_of, Run, run_of, events_refusal, events_of}
use Rattle.machine.specs.Total.{NeverChanges, RunsKept}
use Rattle.machine.proofs.Unchanged.{kept_refl, pick, all-kept}

-- ---- one after the other

keeps_then : {c d e : Lent} → Keeps c d → Keeps d e → Keeps c e
keeps_then p q =
    record {
      n = q.n ∙ p.n;
      bw = q.bw ∙ p.bw;
      words = q.words ∙ p.words;
      marks = q.marks ∙ p.marks;
      word = λ k none. q.word k (λ i low high e. none i low (omega (arith, p.n)) (e ∙ ap (λ (b : ℕ). place b i) p.bw)) ∙ p.word k none;
      bit = λ i out. q.bit i (λ low. omega (arith, out low, p.n)) ∙ p.bit i out;
    }

kept_then : {c d e : Config} → NeverChanges c d → NeverChanges d e → NeverChanges c e
kept_then p q =
    record { lent = keeps_then p.lent q.lent; w = q.w ∙ p.w; records = λ u l. q.records u (omega (arith, p.w)) ∙ p.records u l }

-- ---- an event, and a run of them

pub event-kept : (c : Config) (kind w code a b : ℕ) → NeverChanges c (event_of c kind w code a b).after
unfolding event_of
event-kept c kind w code a b =
    pick P (eqb kind a_request) _ _ (all-kept.0 c w code a b)
    (pick P (eqb kind a_move) _ _ (all-kept.1 c w (flag_of code))
    (pick P (eqb kind turns_on) _ _ (all-kept.2 c) (pick P (eqb kind turns_off) _ _ (all-kept.3 c) (kept_refl c))))
  where
    P : Outcome Config → Type 0
    P o = NeverChanges c o.after

pub run-kept : (events : List ℕ) (m : ℕ) (r : Run) → NeverChanges r.config (run_of events m r).config
unfolding run_of
run-kept events zero r = kept_refl r.config
run-kept events (suc m) r =
    kept_then (run-kept events m r)
    (event-kept (run_of events m r).config (get_or events (m * event_words) 0) (get_or events (m * event_words + 1) 0) (get_or events (m * event_words + 2) 0)
    (get_or events (m * event_words + 3) 0) (get_or events (m * event_words + 4) 0))

pub runs-kept : RunsKept
unfolding events_of
runs-kept r events =
    let m = length events / event_words in
    unless-either r (outcome done m (run_of events m r)) (λ (x : Run). NeverChanges r.config x.config) (events_refusal r.config events r.answers)
    (kept_refl r.config) (λ e. run-kept events m r)
