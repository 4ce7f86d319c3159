-- An event by what its words spell and by its kind, and one event more. Assumes nothing.
use Rattle.std.proofs.Common.{ℕ, ◌+◌, ◌*◌, ◌≡◌, sym, ap, ◌∙◌, List, set, add-one}
use Rattle.std.proofs.Common.{Bool, true, false, not, cond, Result, Ok, Err, get_or, ltb, subst, ◌<◌}
use mathlib.Core.Bool.{true≢false}
use Rattle.answers.specs.Numbers.{no_worker}
use Rattle.answers.specs.Rows.{Outcome, refused}
use Rattle.answers.specs.declared.Refusal.{Refusal}
use Rattle.answers.specs.declared.Refusal.TheVariants.{NoSuch}
use Rattle.page.specs.Limits.{max_workers}
use Rattle.records.specs.declared.Event.{Event}
use Rattle.records.specs.declared.Kind.{Kind}
use Rattle.records.specs.declared.Kind.TheVariants.{Request}
use Rattle.records.specs.Records.{EventWords, kind_number, words_of}
use Rattle.records.specs.Words.{five, is_kind, spelled_by, heard}
use Rattle.machine.specs.Config.{Config, over, rules_b, layout_of}
use Rattle.machine.specs.Total.{NeverChanges}
use Rattle.machine.specs.Parts.{Asker, asker_of, put_asker, ask_of}
use Rattle.machine.proofs.RequestArms.{request-is, worker-inside}
use Rattle.machine.proofs.RunsKeep.{run-kept}
use Rattle.machine.specs.Events.{a_request, event_of, answer_words, Run, ran, told, event_at, turn_at, run_of}

-- one event more
pub run_more : (events : List ℕ) (k : ℕ) (c : Config) (answers : List ℕ) (x : Run) {o : Outcome Config} {d : Config} {after : List ℕ} → o ≡ event_at events k c
    → d ≡ o.after → after ≡ set (set answers (k * answer_words) o.number) (k * answer_words + 1) o.value → ran c answers ≡ run_of events k x
    → ran d after ≡ run_of events (k + 1) x
unfolding run_of
run_more events k c answers x {o} {d} {after} p z e q =
    ap (λ (d : Config). ran d after) z
    ∙ ap (λ (l : List ℕ). ran o.after l) e
    ∙ ap (told k (ran c answers)) p
    ∙ ap (turn_at events k) q
    ∙ ap (λ (m : ℕ). run_of events m x) (sym (add-one k))

-- ---- one event

-- what was heard is what the words spell
heard-is : (words : List ℕ) (e : Event) → heard (Ok e) ≡ spelled_by words → words_of e ≡ five words
heard-is words e h = go (is_kind (get_or words 0 0)) h
  where
    inside : Result EventWords Refusal → EventWords
    inside (Ok x) = x
    inside (Err refusal) = words_of e

    is_ok : Result EventWords Refusal → Bool
    is_ok (Ok x) = true
    is_ok (Err refusal) = false

    go : (b : Bool) → Ok (words_of e) ≡ cond b (Ok (five words)) (Err NoSuch) → words_of e ≡ five words
    go true h = ap inside h
    go false h = absurd (true≢false (ap is_ok h))

pub heard-request : (words : List ℕ) (c : Config) (e : Event) → e.kind ≡ Request → heard (Ok e) ≡ spelled_by words
    → event_of c a_request e.worker e.code e.a e.b ≡ event_at words 0 c
heard-request words c e p h =
    ap (λ (k : Kind). event_of c (kind_number k) e.worker e.code e.a e.b) (sym p)
    ∙ ap (λ (x : EventWords). event_of c x.kind x.worker x.code x.a x.b) (heard-is words e h)

-- a request past the page rules
pub request-happens : (c : Config) (w code a b : ℕ) {v : Bool} {o : Outcome Asker} → rules_b c ≡ true → ltb w c.state.w ≡ v
    → o ≡ ask_of c.state.on (asker_of c w) code a b
    → cond (not v) (refused no_worker c) (over (put_asker c w) o) ≡ event_of c a_request w code a b
unfolding event_of
request-happens c w code a b r l e = request-is c w a b code r l e

-- where the page rules are kept, a worker below W has a record
pub has-record : (c : Config) (w : ℕ) → rules_b c ≡ true → w < c.state.w → w < max_workers
has-record c w r l = worker-inside c w r l

-- the rules, n, bw and W after some events
pub still-kept : (events : List ℕ) (m : ℕ) (x : Run) {c : Config} {answers : List ℕ} → rules_b x.config ≡ true → ran c answers ≡ run_of events m x
    → (rules_b c ≡ true) × (layout_of c.state ≡ layout_of x.config.state) × (c.state.w ≡ x.config.state.w)
unfolding rules_b
still-kept events m x {c} r e =
    let k : NeverChanges x.config c = subst (NeverChanges x.config) (sym (ap (λ (y : Run). y.config) e)) (run-kept events m x) in
    (rw (k.lent.n, k.lent.bw, k.w, k.lent.words, k.lent.marks) r, simp (k.lent.n, k.lent.bw), k.w)
