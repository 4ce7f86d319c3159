-- The tests behind the rows tell the facts of `Facts`. Assumes nothing.
use Prim.Native.Nat.{ℕ, zero, suc, ◌+◌, ◌-◌, ◌/◌, ◌≤◌, ◌<◌}
use mathlib.Core.Path.{◌≡◌, refl, sym, ap, subst, ◌∙◌}
use mathlib.Core.Logic.{◌≢◌, ◌⊎◌, inl, inr}
use mathlib.Core.Bool.{Bool, true, false, not, ◌||◌, true≢false}
use mathlib.Core.List.{List, [], ◌∷◌}
use native.Mathlib.Omega.{arith}
use lib.ListN.{get_or}
use borrow.Author.Tests.{ne_eqb, leb-true, le-leb}
use Rattle.bitmap.specs.Bitmap.{any_from}
use Rattle.bitmap.proofs.Ranges.{from_at}
use Rattle.page.specs.Page.{Rules, link_at, sound_in}
use Rattle.page.specs.Walk.{walk_of}
use Rattle.page.specs.Heads.{SoundHead}
use Rattle.page.specs.Sequences.{Runs}
use Rattle.page.proofs.Rules.{rules-facts, rules-test, workers-facts, workers-test, block-facts, block-test, run-facts, run-test}
use Rattle.page.proofs.Running.{run_sound}
use Rattle.page.proofs.Heads.{sound-is, walk-ends}
use Rattle.operations.specs.declared.Worker.{Worker}
use Rattle.operations.specs.Operations.{staged_b, pushes_b}
use Rattle.operations.proofs.Tells.{Tells, told-both, tells_both, tells-never, tells_as, tells-eq, tells_none, tells-and, tells-or}
use Rattle.operations.specs.Numbered.{Pushes}
use Rattle.operations.proofs.Numbered.{tells-pushes, tells-busy}
use Rattle.staged.specs.Start.{start_fits_b}
use Rattle.machine.specs.Config.{Config, worker_of, lent_of, blank, rules_b}
use Rattle.machine.specs.Table.{arguments_fit_b, any_named, own_unsound, link_unsound, walk_broken, tests_of, any_busy}
use Rattle.machine.specs.Facts.{RulesFact, RulesAreFacts, Fits, fits_insert, fits_pop, fits_append, fits_extend, fits_release, fits_push_shared, fits_take_shared, fits_push_tagged, fits_take_tagged, fits_set_tag, fits_ask_tag, fits_await_tag, fits_ask_empty, ArgumentsFit, Named, named_insert, named_extend, named_push_shared, named_push_tagged, NamedBlocks, RequestDamaged, insert_own, pop_own, pop_link, append_own, append_got, extend_own, release_own, release_walk, DamageAtRequest}
use Rattle.machine.proofs.AskArms.{above-staged}

-- ---- the page rules

module _ (c : Config) where
  -- what is lent keeps its part of them
  pub lent-rules : RulesFact c → Rules (lent_of c)
  lent-rules r = record { blocks = r.blocks; some = r.some; narrow = r.narrow; words = r.words; marks = r.marks }

  pub tells-rules : Tells (rules_b c) (RulesFact c)
  unfolding rules_b
  tells-rules =
      tells_as
      (tells-and (tells_both (rules-facts (lent_of c), rules-test (lent_of c))) (tells_both (workers-facts c.state.w, workers-test c.state.w)))
      (λ p. record { blocks = p.0.blocks; some = p.0.some; narrow = p.0.narrow; workers = p.1.0; most = p.1.1; words = p.0.words; marks = p.0.marks })
      (λ r. (lent-rules r, (r.workers, r.most)))

pub rules-are-facts : RulesAreFacts
rules-are-facts c = told-both (tells-rules c)

-- ---- the arguments

-- every number is one of 0 to 13, or above
pub each-code : (P : ℕ → Type 0) → P 0 → P 1 → P 2 → P 3 → P 4 → P 5 → P 6 → P 7 → P 8 → P 9 → P 10 → P 11 → P 12 → P 13 → ((k : ℕ) → 13 < k → P k) → (code : ℕ) → P code
each-code P p0 p1 p2 p3 p4 p5 p6 p7 p8 p9 p10 p11 p12 p13 more zero = p0
each-code P p0 p1 p2 p3 p4 p5 p6 p7 p8 p9 p10 p11 p12 p13 more (suc zero) = p1
each-code P p0 p1 p2 p3 p4 p5 p6 p7 p8 p9 p10 p11 p12 p13 more (suc (suc zero)) = p2
each-code P p0 p1 p2 p3 p4 p5 p6 p7 p8 p9 p10 p11 p12 p13 more (suc (suc (suc zero))) = p3
each-code P p0 p1 p2 p3 p4 p5 p6 p7 p8 p9 p10 p11 p12 p13 more (suc (suc (suc (suc zero)))) = p4
each-code P p0 p1 p2 p3 p4 p5 p6 p7 p8 p9 p10 p11 p12 p13 more (suc (suc (suc (suc (suc zero))))) = p5
each-code P p0 p1 p2 p3 p4 p5 p6 p7 p8 p9 p10 p11 p12 p13 more (suc (suc (suc (suc (suc (suc zero)))))) = p6
each-code P p0 p1 p2 p3 p4 p5 p6 p7 p8 p9 p10 p11 p12 p13 more (suc (suc (suc (suc (suc (suc (suc zero))))))) = p7
each-code P p0 p1 p2 p3 p4 p5 p6 p7 p8 p9 p10 p11 p12 p13 more (suc (suc (suc (suc (suc (suc (suc (suc zero)))))))) = p8
each-code P p0 p1 p2 p3 p4 p5 p6 p7 p8 p9 p10 p11 p12 p13 more (suc (suc (suc (suc (suc (suc (suc (suc (suc zero))))))))) = p9
each-code P p0 p1 p2 p3 p4 p5 p6 p7 p8 p9 p10 p11 p12 p13 more (suc (suc (suc (suc (suc (suc (suc (suc (suc (suc zero)))))))))) = p10
each-code P p0 p1 p2 p3 p4 p5 p6 p7 p8 p9 p10 p11 p12 p13 more (suc (suc (suc (suc (suc (suc (suc (suc (suc (suc (suc zero))))))))))) = p11
each-code P p0 p1 p2 p3 p4 p5 p6 p7 p8 p9 p10 p11 p12 p13 more (suc (suc (suc (suc (suc (suc (suc (suc (suc (suc (suc (suc zero)))))))))))) = p12
each-code P p0 p1 p2 p3 p4 p5 p6 p7 p8 p9 p10 p11 p12 p13 more (suc (suc (suc (suc (suc (suc (suc (suc (suc (suc (suc (suc (suc zero))))))))))))) = p13
each-code P p0 p1 p2 p3 p4 p5 p6 p7 p8 p9 p10 p11 p12 p13 more (suc (suc (suc (suc (suc (suc (suc (suc (suc (suc (suc (suc (suc (suc k)))))))))))))) = more (suc (suc (suc (suc (suc (suc (suc (suc (suc (suc (suc (suc (suc (suc k)))))))))))))) (omega arith)

module _ (n a b : ℕ) where
  -- a number above 13 is no request's
  none_above : (k : ℕ) → 13 < k → arguments_fit_b n k a b ≡ false
  unfolding arguments_fit_b
  none_above k l =
      simp (above-staged k (omega arith), ne_eqb k 1 (λ e. omega arith), ne_eqb k 2 (λ e. omega arith), ne_eqb k 3 (λ e. omega arith), ne_eqb k 4 (λ e. omega arith), ne_eqb k 5 (λ e. omega arith), ne_eqb k 13 (λ e. omega arith))

  abbrev FitAt : ℕ → Type 0
  FitAt code = arguments_fit_b n code a b ≡ true → Fits n code a b

  fit-facts : (code : ℕ) → FitAt code
  unfolding arguments_fit_b staged_b start_fits_b pushes_b
  fit-facts =
      each-code FitAt (λ e. absurd (no e)) (λ e. let f = block-facts n a e in fits_insert f.0 f.1) (λ e. fits_pop) (λ e. fits_append)
      (λ e. let f = run-facts n a b e in fits_extend f.0 f.1 f.2) (λ e. fits_release) (λ e. let f = block-facts n a e in fits_push_shared f.0 f.1) (λ e. fits_take_shared)
      (λ e. let f = block-facts n a e in fits_push_tagged f.0 f.1) (λ e. fits_take_tagged) (λ e. fits_set_tag (leb-true a 3 e)) (λ e. fits_ask_tag) (λ e. fits_await_tag)
      (λ e. fits_ask_empty) (λ k l e. absurd (no (sym (none_above k l) ∙ e)))
    where
      no : false ≡ true → ⊥
      no e = let z : ◌≡◌ {A = ℕ} 0 1 = cc in omega arith

  fit-test : (code : ℕ) → Fits n code a b → arguments_fit_b n code a b ≡ true
  unfolding arguments_fit_b staged_b start_fits_b pushes_b
  fit-test code (fits_insert p q) = block-test n a (p, q)
  fit-test code fits_pop = refl
  fit-test code fits_append = refl
  fit-test code (fits_extend p q r) = run-test n a b (p, q, r)
  fit-test code fits_release = refl
  fit-test code (fits_push_shared p q) = block-test n a (p, q)
  fit-test code fits_take_shared = refl
  fit-test code (fits_push_tagged p q) = block-test n a (p, q)
  fit-test code fits_take_tagged = refl
  fit-test code (fits_set_tag p) = le-leb a 3 p
  fit-test code fits_ask_tag = refl
  fit-test code fits_await_tag = refl
  fit-test code fits_ask_empty = refl

  pub tells-fits : (code : ℕ) → Tells (arguments_fit_b n code a b) (Fits n code a b)
  tells-fits code = record { fact = fit-facts code; test = fit-test code }

pub arguments-fit : ArgumentsFit
arguments-fit n code a b = told-both (tells-fits n a b code)

-- ---- the blocks named

module _ (is : ℕ → Bool) where
  -- one of the m numbers from a on
  abbrev SomeFrom : ℕ → ℕ → Type 0
  SomeFrom a m = (i : ℕ) × (a ≤ i) × (i < a + m) × (is i ≡ true)

  found_from : (a m : ℕ) → any_from is a m ≡ true → SomeFrom a m
  unfolding any_from
  found_from a zero e = absurd (true≢false (sym e))
  found_from a (suc m) e = go (any_from is a m) refl e (found_from a m)
    where
      go : (v : Bool) → any_from is a m ≡ v → (v || is (a + m)) ≡ true → (any_from is a m ≡ true → SomeFrom a m) → SomeFrom a (suc m)
      go true p q ih =
          let f = ih p in
          (f.0, f.1, omega (arith, f.2), f.3)
      go false p q ih = (a + m, omega arith, omega arith, q)

  tells-from : (a m : ℕ) → Tells (any_from is a m) (SomeFrom a m)
  tells-from a m = record { fact = found_from a m; test = λ f. from_at is a m (f.0 - a) (omega (arith, f.1, f.2)) (ap is (back f.0 f.1) ∙ f.3) }
    where
      back : (i : ℕ) → a ≤ i → a + (i - a) ≡ i
      back i l = omega arith

  abbrev SomeNamed : ℕ → ℕ → ℕ → Type 0
  SomeNamed code a b = (i : ℕ) × Named code a b i × (is i ≡ true)

  abbrev NamedCases : ℕ → ℕ → ℕ → Type 0
  NamedCases code a b = (((code ≡ 1) ⊎ Pushes code) × (is a ≡ true)) ⊎ ((code ≡ 4) × SomeFrom a b)

  to_named : (code a b : ℕ) → NamedCases code a b → SomeNamed code a b
  to_named code a b (inl (inl e, t)) = (a, subst (λ (k : ℕ). Named k a b a) (sym e) named_insert, t)
  to_named code a b (inl (inr (inl e), t)) = (a, subst (λ (k : ℕ). Named k a b a) (sym e) named_push_shared, t)
  to_named code a b (inl (inr (inr e), t)) = (a, subst (λ (k : ℕ). Named k a b a) (sym e) named_push_tagged, t)
  to_named code a b (inr (e, f)) = (f.0, subst (λ (k : ℕ). Named k a b f.0) (sym e) (named_extend f.1 f.2), f.3)

  from_named : (code a b : ℕ) → SomeNamed code a b → NamedCases code a b
  from_named code a b (i, named_insert, t) = inl (inl refl, t)
  from_named code a b (i, named_extend p q, t) = inr (refl, (i, p, q, t))
  from_named code a b (i, named_push_shared, t) = inl (inr (inl refl), t)
  from_named code a b (i, named_push_tagged, t) = inl (inr (inr refl), t)

  tells-of : (v : Bool) → Tells v (v ≡ true)
  tells-of v = record { fact = λ e. e; test = λ e. e }

  pub tells-named : (code a b : ℕ) → Tells (any_named is code a b) (SomeNamed code a b)
  unfolding any_named
  tells-named code a b =
      tells_as
      (tells-or (tells-and (tells-or (tells-eq code 1) (tells-pushes code)) (tells-of (is a))) (tells-and (tells-eq code 4) (tells-from a b)))
      (to_named code a b) (from_named code a b)

pub named-blocks : NamedBlocks
named-blocks is code a b = told-both (tells-named is code a b)

-- ---- damage at a request

module _ (c : Config) (w : ℕ) (r : RulesFact c) where
  -- a head is not sound
  abbrev Unsound : ℕ → Type 0
  Unsound h = SoundHead (lent_of c) h → ⊥

  -- no sequence runs from it
  abbrev Runless : ℕ → Type 0
  Runless h = (xs : List ℕ) → Runs (lent_of c) h xs → ⊥

  tells-unsound : (h : ℕ) → Tells (not (sound_in (lent_of c) h)) (Unsound h)
  tells-unsound h = tells_none (tells_both (sound-is (lent_of c) h))

  tells-runless : (h : ℕ) → Tells (not (walk_of (lent_of c) h).ends) (Runless h)
  tells-runless h =
      tells_as (tells_none (tells_both (walk-ends (lent_of c) h (lent-rules c r)).ends)) (λ f xs x. f (xs, x)) (λ f s. f s.0 s.1)

  abbrev own : ℕ
  own = (worker_of c w).own

  abbrev got : ℕ
  got = (worker_of c w).got

  abbrev DamageCases : ℕ → Type 0
  DamageCases code =
      ((((((code ≡ 1) ⊎ (code ≡ 2)) ⊎ (code ≡ 4)) ⊎ ((code ≡ 3) × (got ≢ 0))) × Unsound own) ⊎ ((code ≡ 2) × Unsound (get_or c.page (own / 8) 0)))
      ⊎ ((((code ≡ 3) × (got ≢ 0)) × Runless got) ⊎ ((code ≡ 5) × Runless own))

  at : {code m : ℕ} → code ≡ m → RequestDamaged c w m → RequestDamaged c w code
  at e d = subst (RequestDamaged c w) (sym e) d

  to-damaged : (code : ℕ) → DamageCases code → RequestDamaged c w code
  to-damaged code (inl (inl (inl (inl (inl e)), f))) = at e (insert_own f)
  to-damaged code (inl (inl (inl (inl (inr e)), f))) = at e (pop_own f)
  to-damaged code (inl (inl (inl (inr e), f))) = at e (extend_own f)
  to-damaged code (inl (inl (inr (e, g), f))) = at e (append_own g f)
  to-damaged code (inl (inr (e, f))) = at e (pop_link f)
  to-damaged code (inr (inl ((e, g), f))) = at e (append_got g f)
  to-damaged code (inr (inr (e, f))) = at e (release_walk f)

  -- a list that runs has a sound head
  runless : Unsound own → Runless own
  runless f xs x = f ((sound-is (lent_of c) own).0 (run_sound (lent_of c) (lent-rules c r) own xs x))

  from-damaged : (code : ℕ) → RequestDamaged c w code → DamageCases code
  from-damaged code (insert_own f) = inl (inl (inl (inl (inl refl)), f))
  from-damaged code (pop_own f) = inl (inl (inl (inl (inr refl)), f))
  from-damaged code (pop_link f) = inl (inr (refl, f))
  from-damaged code (append_own g f) = inl (inl (inr (refl, g), f))
  from-damaged code (append_got g f) = inr (inl ((refl, g), f))
  from-damaged code (extend_own f) = inl (inl (inl (inr refl), f))
  from-damaged code (release_own f) = inr (inr (refl, runless f))
  from-damaged code (release_walk f) = inr (inr (refl, f))

  pub tells-damage : (code a b : ℕ) → Tells (tests_of c w code a b).damaged (RequestDamaged c w code)
  unfolding tests_of own_unsound link_unsound walk_broken
  tells-damage code a b =
      tells_as
      (tells-or
      (tells-or
      (tells-and
      (tells-or (tells-or (tells-or (tells-eq code 1) (tells-eq code 2)) (tells-eq code 4)) (tells-and (tells-eq code 3) (tells_none (tells-eq got 0))))
      (tells-unsound own))
      (tells-and (tells-eq code 2) (tells-unsound (link_at c.page own))))
      (tells-or (tells-and (tells-and (tells-eq code 3) (tells_none (tells-eq got 0))) (tells-runless got)) (tells-and (tells-eq code 5) (tells-runless own))))
      (to-damaged code) (from-damaged code)

pub damage-at-request : DamageAtRequest
damage-at-request c w code a b r = told-both (tells-damage c w r code a b)

-- ---- a worker under way

-- one of the first m
abbrev pub SomeBusy : List Worker → ℕ → Type 0
SomeBusy ks m = (u : ℕ) × (u < m) × ((get_or ks u blank).operation ≢ 0)

pub tells-any : (ks : List Worker) (m : ℕ) → Tells (any_busy ks m) (SomeBusy ks m)
unfolding any_busy
tells-any [] m = tells_as tells-never (λ f. absurd f) (λ f. f.2 refl)
tells-any (k ∷ ks) zero = tells_as tells-never (λ f. absurd f) (λ f. omega (arith, f.1))
tells-any (k ∷ ks) (suc m) = tells_as (tells-or (tells-busy k) (tells-any ks m)) to (λ f. from f.0 f.1 f.2)
  where
    to : (k.operation ≢ 0) ⊎ SomeBusy ks m → SomeBusy (k ∷ ks) (suc m)
    to (inl f) = (0, omega arith, f)
    to (inr f) = (suc f.0, omega (arith, f.1), f.2)

    from : (u : ℕ) → u < suc m → (get_or (k ∷ ks) u blank).operation ≢ 0 → (k.operation ≢ 0) ⊎ SomeBusy ks m
    from zero l f = inl f
    from (suc u) l f = inr (u, omega arith, f)
