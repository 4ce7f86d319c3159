-- A run of events is made of demand 3's steps, refused it changes nothing, and from a fresh page its answers are those due.
-- Assumes nothing.
use Prim.Native.Nat.{ℕ, zero, suc, ◌+◌, ◌*◌, ◌%◌, ◌≤◌, ◌<◌}
use mathlib.Core.Path.{◌≡◌, refl, sym, ap, ◌∙◌, subst}
use mathlib.Core.Logic.{◌≢◌, inl, inr, ⊎_elim, ◌↔◌}
use mathlib.Core.Bool.{Bool, true, false, not, cond}
use mathlib.Core.Option.{Option, none, some}
use mathlib.Core.List.{List, [], ◌∷◌, ◌++◌}
use native.Mathlib.Decide.{ℕ_discrete}
use native.Mathlib.Omega.{arith}
use lib.Dec.{ltb, eqb}
use lib.ListN.{length, get_or, set, length-set}
use lib.Seq.{get_or-set_same, get_or-set_other}
use borrow.Author.Tests.{eqb-true, ne_eqb, ltb-false}
use Rattle.answers.specs.Numbers.{done, bad_page, no_such, none_left}
use Rattle.answers.specs.Rows.{first, Outcome, outcome, unless, answer}
use Rattle.machine.specs.Config.{Config, rules_b, fresh_of}
use Rattle.machine.specs.Events.{event_words, answer_words, a_request, a_move, turns_on, turns_off, event_of, Run, ran, event_at, run_of, events_refusal, events_of}
use Rattle.machine.specs.Total.{FirstAt}
use Rattle.machine.proofs.Totals.{first-exactly}
use Rattle.demands.specs.Simple.{Simple, start}
use Rattle.demands.specs.Moments.{Event, request, move, on, off, store, step, simple_step, moment, is_moment, follow, Allowed, AllAllowed, end_of, simple_end}
use Rattle.demands.specs.Relation.{Sim}
use Rattle.demands.specs.Every.{Answers, Said, Refines}
use Rattle.demands.specs.Compare.{due}
use Rattle.demands.specs.Runs.{event_read, read_at, known, read_first, event_count, events_read, step_read, EveryKind, EventsAreSteps, answer_of, answer_at, Stepped, RunsAreSteps, RunAnswered, RunsAnswered, run_rows, RunsByRows, ReadAllowed, due_to, RunsRefine, RunsFromFresh}
use Rattle.demands.proofs.Saying.{said}
use Rattle.demands.proofs.Interleaving.{every-interleaving, from-fresh}

-- ---- one event

pub every-kind : EveryKind
unfolding event_of step
every-kind c w code a b = record {
  one = refl;
  two = refl;
  three = refl;
  four = refl;
  other = λ kind h.
      let far : (k : ℕ) → 1 ≤ k → k ≤ 4 → eqb kind k ≡ false = λ k l u. ne_eqb kind k (λ e. ⊎_elim (λ z. omega arith) (λ z. omega arith) h) in
      simp (far 1 (omega arith) (omega arith), far 2 (omega arith) (omega arith), far 3 (omega arith) (omega arith), far 4 (omega arith) (omega arith));
}

pub events-are-steps : EventsAreSteps
unfolding event_of event_read step
events-are-steps c kind w code a b = go (eqb kind a_request) refl (eqb kind a_move) refl (eqb kind turns_on) refl (eqb kind turns_off) refl
  where
    go : (p : Bool) → eqb kind a_request ≡ p → (q : Bool) → eqb kind a_move ≡ q → (r : Bool) → eqb kind turns_on ≡ r → (t : Bool) → eqb kind turns_off ≡ t
        → event_of c kind w code a b ≡ step_read c (event_read kind w code a b)
    go true e q f r g t h = rw e
    go false e true f r g t h = rw (e, f)
    go false e false f true g t h = rw (e, f, g)
    go false e false f false g true h = rw (e, f, g, h)
    go false e false f false g false h = rw (e, f, g, h)

-- ---- a run

end_more : (c : Config) (es fs : List Event) → end_of c (es ++ fs) ≡ end_of (end_of c es) fs
end_more c [] fs = refl
end_more c (e ∷ es) fs = end_more (step c e).after es fs

end_known : (c : Config) (x : Option Event) → (step_read c x).after ≡ end_of c (known x)
end_known c none = refl
end_known c (some e) = refl

-- answers written at their places
module _ (l : List ℕ) (m x y : ℕ) where
  abbrev written : List ℕ
  written = set (set l (m * answer_words) x) (m * answer_words + 1) y

  written-words : length written ≡ length l
  written-words = length-set (set l (m * answer_words) x) (m * answer_words + 1) y ∙ length-set l (m * answer_words) x

  written-other : (j : ℕ) → j ≢ m * answer_words → j ≢ m * answer_words + 1 → get_or written j 0 ≡ get_or l j 0
  written-other j p q = get_or-set_other (set l (m * answer_words) x) (m * answer_words + 1) j y 0 q ∙ get_or-set_other l (m * answer_words) j x 0 p

  written-here : suc m * answer_words ≤ length l → answer_at written m ≡ answer x y
  written-here room =
      simp (
        get_or-set_other (set l (m * answer_words) x) (m * answer_words + 1) (m * answer_words) y 0 (λ e. omega arith),
        get_or-set_same l (m * answer_words) x 0 (omega arith),
        get_or-set_same (set l (m * answer_words) x) (m * answer_words + 1) y 0 (omega (arith, length-set l (m * answer_words) x)),
      )

  written-before : (k : ℕ) → k < m → answer_at written k ≡ answer_at l k
  written-before k b =
      simp (written-other (k * answer_words) (λ e. omega arith) (λ e. omega arith), written-other (k * answer_words + 1) (λ e. omega arith) (λ e. omega arith))

pub runs-are-steps : RunsAreSteps
unfolding run_of
runs-are-steps r events zero room = record { config = refl; answers = λ k l. absurd (omega arith); behind = λ j l. refl; words = refl }
runs-are-steps r events (suc m) room = more (runs-are-steps r events m (omega arith))
  where
    c : Config
    c = end_of r.config (read_first events m)

    so_far : List ℕ
    so_far = (run_of events m r).answers

    o : Outcome Config
    o = event_at events m (run_of events m r).config

    more : Stepped r events m → Stepped r events (suc m)
    more b = record {
      config = ap (λ (o : Outcome Config). o.after) stepped ∙ end_known c (read_at events m) ∙ sym (end_more r.config (read_first events m) (known (read_at events m)));
      answers = λ k l. each k l (ℕ_discrete k m);
      behind = λ j l. written-other so_far m o.number o.value j (λ e. omega arith) (λ e. omega arith) ∙ b.behind j (omega arith);
      words = written-words so_far m o.number o.value ∙ b.words;
    }
      where
        stepped : o ≡ step_read c (read_at events m)
        stepped = events-are-steps (run_of events m r).config _ _ _ _ _ ∙ ap (λ (d : Config). step_read d (read_at events m)) b.config

        each : (k : ℕ) → k < suc m → Dec (k ≡ m)
            → answer_at (run_of events (suc m) r).answers k ≡ answer_of (step_read (end_of r.config (read_first events k)) (read_at events k))
        each k l (yes e) =
            subst (λ (k : ℕ). answer_at (run_of events (suc m) r).answers k ≡ answer_of (step_read (end_of r.config (read_first events k)) (read_at events k))) (sym e)
            (written-here so_far m o.number o.value (omega (arith, b.words)) ∙ ap answer_of stepped)
        each k l (no n) = written-before so_far m o.number o.value k (omega (arith, n)) ∙ b.answers k (omega (arith, n))

-- ---- demand 1 for runs

pub runs-answered : RunsAnswered
unfolding events_of events_refusal first
runs-answered r events =
    go (not (rules_b r.config)) (not (eqb (length events % event_words) 0)) (ltb (length r.answers) (event_count events * answer_words)) refl
  where
    act : Outcome Run
    act = outcome done (event_count events) (run_of events (event_count events) r)

    go : (b2 b4 b10 : Bool) → ltb (length r.answers) (event_count events * answer_words) ≡ b10
        → RunAnswered r events (unless (cond b2 bad_page (cond b4 no_such (cond b10 none_left done))) r act)
    go true b4 b10 e = record { numbers = inr (inl refl); run = λ z. absurd (omega arith); refused = λ z. (refl, refl) }
    go false true b10 e = record { numbers = inr (inr (inl refl)); run = λ z. absurd (omega arith); refused = λ z. (refl, refl) }
    go false false true e = record { numbers = inr (inr (inr refl)); run = λ z. absurd (omega arith); refused = λ z. (refl, refl) }
    go false false false e =
        record { numbers = inl refl; run = λ z. (refl, refl, ltb-false (length r.answers) (event_count events * answer_words) e); refused = λ z. absurd (omega arith) }

pub runs-by-rows : RunsByRows
unfolding events_of events_refusal
runs-by-rows r events k l = go (eqb (first (run_rows r events)) 0) refl (first-exactly k (run_rows r events) (omega arith))
  where
    act : Outcome Run
    act = outcome done (event_count events) (run_of events (event_count events) r)

    go : (b : Bool) → eqb (first (run_rows r events)) 0 ≡ b → (first (run_rows r events) ≡ k) ↔ FirstAt k (run_rows r events)
        → ((unless (first (run_rows r events)) r act).number ≡ k) ↔ FirstAt k (run_rows r events)
    go true e both =
        let z : first (run_rows r events) ≡ 0 = eqb-true (first (run_rows r events)) 0 e in
        rw e (λ x. absurd (omega arith), λ x. absurd (omega (arith, both.1 x)))
    go false e both = rw e both

-- ---- demand 3 for runs

-- an event that is no store
abbrev NoStore : Event → Type 0
NoStore (request w code a b) = Unit {0}
NoStore (move w flag) = Unit {0}
NoStore on = Unit {0}
NoStore off = Unit {0}
NoStore (store k v) = ⊥

abbrev Calls : Option Event → Type 0
Calls none = Unit {0}
Calls (some e) = NoStore e

read-calls : (kind w code a b : ℕ) → Calls (event_read kind w code a b)
unfolding event_read
read-calls kind w code a b = go (eqb kind a_request) refl (eqb kind a_move) refl (eqb kind turns_on) refl (eqb kind turns_off) refl
  where
    go : (p : Bool) → eqb kind a_request ≡ p → (q : Bool) → eqb kind a_move ≡ q → (r : Bool) → eqb kind turns_on ≡ r → (t : Bool) → eqb kind turns_off ≡ t
        → Calls (event_read kind w code a b)
    go true e q f r g t h = rw e tt
    go false e true f r g t h = rw (e, f) tt
    go false e false f true g t h = rw (e, f, g) tt
    go false e false f false g true h = rw (e, f, g, h) tt
    go false e false f false g false h = rw (e, f, g, h) tt

call-allowed : (c : Config) (s : Simple) (e : Event) → NoStore e → Allowed c s e
call-allowed c s (request w code a b) n = tt
call-allowed c s (move w flag) n = tt
call-allowed c s on n = tt
call-allowed c s off n = tt
call-allowed c s (store k v) n = absurd n

allowed-more : (c : Config) (s : Simple) (es : List Event) (x : Option Event) → Calls x → AllAllowed c s es → AllAllowed c s (es ++ known x)
allowed-more c s [] none n ok = tt
allowed-more c s [] (some e) n ok = (call-allowed c s e n, tt)
allowed-more c s (e ∷ es) x n ok = (ok.0, allowed-more (step c e).after (follow (is_moment (moment c e)) s e) es x n ok.1)

pub read-allowed : ReadAllowed
read-allowed c s events zero = tt
read-allowed c s events (suc m) = allowed-more c s (read_first events m) (read_at events m) (read-calls _ _ _ _ _) (read-allowed c s events m)

-- what is said of a call is that it gives the answer due
call-due : (c : Config) (s : Simple) (e : Event) → NoStore e → Said c s e → answer_of (step c e) ≡ due (is_moment (moment c e)) (simple_step s e)
call-due c s e n x = go (is_moment (moment c e)) e n x.answers
  where
    go : (q : Bool) (e : Event) → NoStore e → Answers q c s e → answer_of (step c e) ≡ due q (simple_step s e)
    go true e n a = simp (a.number, a.value)
    go false (request w code a b) n x = absurd x
    go false (move w flag) n x = simp (x.0, x.1)
    go false on n x = absurd x
    go false off n x = absurd x
    go false (store k v) n x = absurd n

read-due : (c : Config) (s : Simple) → Sim c s → (x : Option Event) → Calls x → answer_of (step_read c x) ≡ due_to c s x
read-due c s m none n = refl
read-due c s m (some e) n = call-due c s e n (said c s m e (call-allowed c s e n))

pub runs-refine : RunsRefine
runs-refine c s m events answers e = record {
  refines = every;
  config = config;
  lists = subst (λ (d : Config). Sim d (simple_end c s (events_read events))) (sym config) every.lists;
  answers = λ k l.
      ap (λ (r : Run). answer_at r.answers k) came.1 ∙ steps.answers k l
      ∙ read-due (end_of c (read_first events k)) (simple_end c s (read_first events k)) (every-interleaving c s m (read_first events k) (read-allowed c s events k)).lists
      (read_at events k) (read-calls _ _ _ _ _);
}
  where
    every : Refines c s (events_read events)
    every = every-interleaving c s m (events_read events) (read-allowed c s events (event_count events))

    came : ((events_of (ran c answers) events).value ≡ event_count events) × ((events_of (ran c answers) events).after ≡ run_of events (event_count events) (ran c answers))
        × (event_count events * answer_words ≤ length answers)
    came = (runs-answered (ran c answers) events).run e

    steps : Stepped (ran c answers) events (event_count events)
    steps = runs-are-steps (ran c answers) events (event_count events) came.2

    config : (events_of (ran c answers) events).after.config ≡ end_of c (events_read events)
    config = ap (λ (r : Run). r.config) came.1 ∙ steps.config

pub runs-from-fresh : RunsFromFresh
runs-from-fresh n bw w page bits e es ok events answers f =
    runs-refine (end_of (fresh_of n bw w page bits).after es) (simple_end (fresh_of n bw w page bits).after (start n w) es) (from-fresh n bw w page bits e es ok).lists events
    answers f
