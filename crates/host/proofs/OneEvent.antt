-- A request as a run of one event. Assumes nothing.
use Prim.Native.Nat.{ℕ}
use mathlib.Core.Path.{◌≡◌, refl, sym, ap, ◌∙◌}
use mathlib.Core.Bool.{Bool, true, false, cond}
use mathlib.Core.List.{List, [], ◌∷◌}
use lib.ListN.{get_or}
use Rattle.answers.specs.declared.Answer.{Answer}
use Rattle.host.specs.Calls.{held, gave, written, in_words}
use Rattle.answers.specs.Numbers.{done, bad_page}
use Rattle.answers.specs.Rows.{first, Outcome, outcome, refused}
use Rattle.machine.specs.Config.{Config, rules_b}
use Rattle.machine.specs.Table.{table, tests_of}
use Rattle.machine.specs.Requests.{request_of}
use Rattle.machine.specs.Events.{a_request, event_of, Run, ran, run_of, events_refusal, events_of}

module _ (c : Config) (w code a b : ℕ) where
  -- where the page rules are broken the request is refused by 2
  pub request-refused : rules_b c ≡ false → request_of c w code a b ≡ refused bad_page c
  unfolding request_of table tests_of first
  request-refused e = simp e

  -- the event, and the run with the request's answer written
  abbrev asked : List ℕ
  asked = a_request ∷ w ∷ code ∷ a ∷ b ∷ []

  abbrev answered : Outcome Config → Run
  answered o = ran o.after (o.number ∷ o.value ∷ [])

  -- refused by 2 where the page rules are broken, and else done, with the request's answer
  pub one-event : (x y : ℕ) → events_of (ran c (x ∷ y ∷ [])) asked ≡ cond (rules_b c) (outcome done 1 (answered (request_of c w code a b))) (refused bad_page (ran c (x ∷ y ∷ [])))
  unfolding events_of events_refusal first run_of event_of
  one-event x y = go (rules_b c) refl
    where
      go : (k : Bool) → rules_b c ≡ k → events_of (ran c (x ∷ y ∷ [])) asked ≡ cond k (outcome done 1 (answered (request_of c w code a b))) (refused bad_page (ran c (x ∷ y ∷ [])))
      go true e = simp e
      go false e = simp e

  -- with the refusal by 2 written in advance, the answer after the run is the request's
  pub one-request : (events_of (ran c (bad_page ∷ 0 ∷ [])) asked).after ≡ answered (request_of c w code a b)
  one-request = ap (λ (o : Outcome Run). o.after) (one-event bad_page 0) ∙ go (rules_b c) refl
    where
      go : (k : Bool) → rules_b c ≡ k → (cond k (outcome done 1 (answered (request_of c w code a b))) (refused bad_page (ran c (bad_page ∷ 0 ∷ [])))).after ≡ answered (request_of c w code a b)
      go true e = refl
      go false e = sym (ap answered (request-refused e))

  -- and so are the words that are left
  pub request-in-words : (words : List ℕ) (d : Config) (answers : List ℕ) {r : Answer} {after : List ℕ}
      → r ≡ record { number = get_or answers 0 0; value = get_or answers 1 0 } → after ≡ written words (get_or answers 0 0) d.state
      → ran d answers ≡ answered (request_of c w code a b) → gave r after d.page d.bits ≡ in_words words (request_of c w code a b)
  request-in-words words d answers p q e =
      simp (p, q)
      (ap
      (λ (x : Run).
      outcome (get_or x.answers 0 0) (get_or x.answers 1 0) (held (written words (get_or x.answers 0 0) x.config.state) x.config.page x.config.bits))
      e)
