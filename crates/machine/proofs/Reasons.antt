-- Each number is given for its reason, and of several the smallest: the statements of `Reasons`, proved. Assumes
-- nothing.
use Prim.Native.Nat.{ℕ, ◌-◌, ◌%◌, ◌≤◌, ◌<◌}
use mathlib.Core.Path.{◌≡◌, refl, sym, ap, subst, ◌∙◌}
use mathlib.Core.Logic.{◌≢◌, ◌⊎◌, inl, inr, ⊎_elim}
use mathlib.Core.Bool.{Bool, true, false, not, ◌&&◌}
use native.Mathlib.Decide.{dec_le}
use native.Mathlib.Omega.{arith}
use lib.Dec.{ltb, eqb}
use borrow.Author.Tests.{eqb-true, eq-eqb}
use Rattle.answers.specs.Rows.{Outcome, outcome, unless}
use Rattle.answers.specs.Smallest.{Given, Applies, Ascending, Numbered}
use Rattle.answers.proofs.Rows.{first-at, unless-done}
use Rattle.answers.proofs.Smallest.{smallest-first, given_by, numbered-by}
use Rattle.page.specs.Page.{listed_b}
use Rattle.words.specs.Tagged.{tag_of, address_of}
use Rattle.operations.specs.Operations.{on_tagged_b, takes_b, staged_b}
use Rattle.operations.proofs.Tells.{Tells, tells-not, tells-off, tells_as, tells-eq, tells-lt, tells_none, tells-and}
use Rattle.operations.proofs.Numbered.{tells-staged, tells-takes, tells-tagged, tells-busy, tells-idle}
use Rattle.staged.specs.Start.{start_act}
use Rattle.staged.specs.Moves.{move_act}
use Rattle.staged.proofs.Damaged.{tells-damaged}
use Rattle.machine.specs.Config.{Config, worker_of, rules_b, lists_of, turn_of, put_turn, over}
use Rattle.machine.specs.Table.{table, tests_of, request_refusal, move_refusal, on_refusal, off_refusal}
use Rattle.machine.specs.Requests.{request_act, request_of}
use Rattle.machine.specs.Moves.{move_of}
use Rattle.machine.specs.Switch.{with_switch, switch_on_of, switch_off_of}
use Rattle.machine.specs.Total.{request_rows, move_rows, on_rows, off_rows}
use Rattle.machine.specs.Facts.{RulesFact}
use Rattle.machine.specs.Reasons.{RequestApplies, request_rules, request_worker, request_unfit, request_busy, request_off, request_full, request_listed, request_empty, request_damaged, MoveApplies, move_rules, move_worker, move_idle, move_damaged, OnApplies, on_rules, on_twice, OffApplies, off_rules, off_busy, off_twice, off_listed, RequestNumbers, MovesNumbered, OnNumbers, OffNumbers}
use Rattle.machine.proofs.AskArms.{below-staged, above-staged}
use Rattle.machine.proofs.Facts.{tells-rules, tells-fits, tells-named, tells-damage, tells-any}
use Rattle.machine.proofs.Totals.{at-once-done, request-act-small, move-act-small}

-- ---- a page that breaks the rules

module _ (Reason : ℕ → Type 0) where
  -- where 2 applies it is the smallest
  given-two : (refusal : ℕ) → refusal ≡ 2 → ((k : ℕ) → Reason k → 2 ≤ k) → Reason 2 → Given Reason refusal
  given-two refusal e up two =
      record {
        least = λ k r. omega (arith, up k r);
        refuses = λ k r. omega arith;
        why = λ n. subst Reason (sym e) two;
        none = λ f. absurd (f 2 two);
      }

-- ---- requests

-- no such worker
tells-none-such : (w workers : ℕ) → Tells (not (ltb w workers)) (workers ≤ w)
tells-none-such w workers = tells_as (tells_none (tells-lt w workers)) to (λ l h. omega arith)
  where
    to : (w < workers → ⊥) → workers ≤ w
    to f = go (dec_le workers w)
      where
        go : Dec (workers ≤ w) → workers ≤ w
        go (yes l) = l
        go (no n) = absurd (f (omega arith))

module _ (c : Config) (w code a b : ℕ) where
  abbrev pub Why : ℕ → Type 0
  Why = RequestApplies c w code a b

  tells-off-now : Tells (on_tagged_b code && not c.state.on) (((8 ≤ code) × (code ≤ 12)) × (c.state.on ≡ false))
  tells-off-now = tells-and (tells-tagged code) (tells-off c.state.on)

  tells-full-now : Tells (takes_b code && not (eqb (worker_of c w).got 0)) (((code ≡ 7) ⊎ (code ≡ 9)) × ((worker_of c w).got ≢ 0))
  tells-full-now = tells-and (tells-takes code) (tells_none (tells-eq (worker_of c w).got 0))

  request-up : (k : ℕ) → Why k → 2 ≤ k
  request-up k (request_rules f) = omega arith
  request-up k (request_worker l) = omega arith
  request-up k (request_unfit f) = omega arith
  request-up k (request_busy f) = omega arith
  request-up k (request_off l m e) = omega arith
  request-up k (request_full e f) = omega arith
  request-up k (request_listed i n e) = omega arith
  request-up k (request_empty e f) = omega arith
  request-up k (request_damaged d) = omega arith

  at : {k m : ℕ} → k ≡ m → Why m → Why k
  at e y = subst Why (sym e) y

  to-request : RulesFact c → (k : ℕ) → Applies (request_rows c w code a b) k → Why k
  unfolding tests_of
  to-request r k (inl (e, t)) = at e (request_rules ((tells_none (tells-rules c)).fact t))
  to-request r k (inr (inl (e, t))) = at e (request_worker ((tells-none-such w c.state.w).fact t))
  to-request r k (inr (inr (inl (e, t)))) = at e (request_unfit ((tells_none (tells-fits c.state.n a b code)).fact t))
  to-request r k (inr (inr (inr (inl (e, t))))) = at e (request_busy ((tells-busy (worker_of c w)).fact t))
  to-request r k (inr (inr (inr (inr (inl (e, t)))))) =
      let f = tells-off-now.fact t in
      at e (request_off f.0.0 f.0.1 f.1)
  to-request r k (inr (inr (inr (inr (inr (inl (e, t))))))) =
      let f = tells-full-now.fact t in
      at e (request_full f.0 f.1)
  to-request r k (inr (inr (inr (inr (inr (inr (inl (e, t)))))))) =
      let f = (tells-named (listed_b c.bits) code a b).fact t in
      at e (request_listed f.0 f.1 (eqb-true _ _ f.2))
  to-request r k (inr (inr (inr (inr (inr (inr (inr (inl (e, t))))))))) =
      let f = (tells-and (tells-eq code 2) (tells-eq (worker_of c w).own 0)).fact t in
      at e (request_empty f.0 f.1)
  to-request r k (inr (inr (inr (inr (inr (inr (inr (inr (inl (e, t)))))))))) = at e (request_damaged ((tells-damage c w r code a b).fact t))
  to-request r k (inr (inr (inr (inr (inr (inr (inr (inr (inr x9))))))))) = elim x9 [ ]

  from-request : RulesFact c → (k : ℕ) → Why k → Applies (request_rows c w code a b) k
  unfolding tests_of
  from-request r k (request_rules f) = inl (refl, (tells_none (tells-rules c)).test f)
  from-request r k (request_worker l) = inr (inl (refl, (tells-none-such w c.state.w).test l))
  from-request r k (request_unfit f) = inr (inr (inl (refl, (tells_none (tells-fits c.state.n a b code)).test f)))
  from-request r k (request_busy f) = inr (inr (inr (inl (refl, (tells-busy (worker_of c w)).test f))))
  from-request r k (request_off l m e) = inr (inr (inr (inr (inl (refl, tells-off-now.test ((l, m), e))))))
  from-request r k (request_full e f) = inr (inr (inr (inr (inr (inl (refl, tells-full-now.test (e, f)))))))
  from-request r k (request_listed i n e) =
      inr (inr (inr (inr (inr (inr (inl (refl, (tells-named (listed_b c.bits) code a b).test (i, n, eq-eqb _ _ e))))))))
  from-request r k (request_empty e f) =
      inr (inr (inr (inr (inr (inr (inr (inl (refl, (tells-and (tells-eq code 2) (tells-eq (worker_of c w).own 0)).test (e, f)))))))))
  from-request r k (request_damaged d) = inr (inr (inr (inr (inr (inr (inr (inr (inl (refl, (tells-damage c w r code a b).test d)))))))))

  request-ascends : Ascending (request_rows c w code a b)
  unfolding tests_of
  request-ascends = omega arith

  broken-two : rules_b c ≡ false → request_refusal c w code a b ≡ 2
  unfolding table tests_of
  broken-two e = first-at _ _ (ap not e)

  pub request-given : Given Why (request_refusal c w code a b)
  unfolding table
  request-given = go (rules_b c) refl
    where
      go : (v : Bool) → rules_b c ≡ v → Given Why (request_refusal c w code a b)
      go false e = given-two Why (request_refusal c w code a b) (broken-two e) request-up (request_rules (tells-not (tells-rules c) e))
      go true e =
          let r = (tells-rules c).fact e in
          given_by (Applies (request_rows c w code a b)) Why (request_refusal c w code a b) (λ k. (to-request r k, from-request r k)) (smallest-first (request_rows c w code a b) request-ascends)

  -- what an accepted request answers
  accepted-staged : 6 ≤ code → code ≤ 12 → (request_act c w code a b).number ≡ 1
  unfolding request_act start_act
  accepted-staged l m = simp ((tells-staged code).test (l, m))

  accepted-done : (code < 6) ⊎ (12 < code) → (request_act c w code a b).number ≡ 0
  unfolding request_act
  accepted-done out =
      let e : staged_b code ≡ false = ⊎_elim (below-staged code) (above-staged code) out in
      rw e (at-once-done (lists_of c w) code a b)

  pub request-numbered : let k = (request_of c w code a b).number in Numbered Why k ((6 ≤ code → code ≤ 12 → k ≡ 1) × ((code < 6) ⊎ (12 < code) → k ≡ 0))
  unfolding request_of
  request-numbered =
      numbered-by Why c (request_act c w code a b) (request_refusal c w code a b) (request-act-small c w code a b) request-given
      (λ z. (λ l m. given z ∙ accepted-staged l m, λ out. given z ∙ accepted-done out))
    where
      given : request_refusal c w code a b ≡ 0 → (unless (request_refusal c w code a b) c (request_act c w code a b)).number ≡ (request_act c w code a b).number
      given z = ap (λ (o : Outcome Config). o.number) (unless-done c (request_act c w code a b) (request_refusal c w code a b) z)

pub request-numbers : RequestNumbers
request-numbers c w code a b = request-numbered c w code a b

-- ---- moves

module _ (c : Config) (w : ℕ) where
  to-move : (k : ℕ) → Applies (move_rows c w) k → MoveApplies c w k
  to-move k (inl (e, t)) = subst (MoveApplies c w) (sym e) (move_rules ((tells_none (tells-rules c)).fact t))
  to-move k (inr (inl (e, t))) = subst (MoveApplies c w) (sym e) (move_worker ((tells-none-such w c.state.w).fact t))
  to-move k (inr (inr (inl (e, t)))) = subst (MoveApplies c w) (sym e) (move_idle ((tells-idle (worker_of c w)).fact t))
  to-move k (inr (inr (inr (inl (e, t))))) = subst (MoveApplies c w) (sym e) (move_damaged ((tells-damaged (turn_of c w)).fact t))
  to-move k (inr (inr (inr (inr x4)))) = elim x4 [ ]

  from-move : (k : ℕ) → MoveApplies c w k → Applies (move_rows c w) k
  from-move k (move_rules f) = inl (refl, (tells_none (tells-rules c)).test f)
  from-move k (move_worker l) = inr (inl (refl, (tells-none-such w c.state.w).test l))
  from-move k (move_idle e) = inr (inr (inl (refl, (tells-idle (worker_of c w)).test e)))
  from-move k (move_damaged d) = inr (inr (inr (inl (refl, (tells-damaged (turn_of c w)).test d))))

move-ascends : (c : Config) (w : ℕ) → Ascending (move_rows c w)
move-ascends c w = omega arith

pub moves-numbered : MovesNumbered
unfolding move_of move_refusal
moves-numbered c w flag =
    numbered-by (MoveApplies c w) c act (move_refusal c w) small
    (given_by (Applies (move_rows c w)) (MoveApplies c w) (move_refusal c w) (λ k. (to-move c w k, from-move c w k)) (smallest-first (move_rows c w) (move-ascends c w)))
    (λ z. accepted z)
  where
    act : Outcome Config
    act = over (put_turn c w) (move_act (turn_of c w) flag)

    small : act.number ≤ 1
    small = move-act-small (turn_of c w) flag

    accepted : move_refusal c w ≡ 0 → (unless (move_refusal c w) c act).number ≤ 1
    accepted z = rw (unless-done c act (move_refusal c w) z) small

-- ---- T's switch

module _ (c : Config) where
  to-on : (k : ℕ) → Applies (on_rows c) k → OnApplies c k
  to-on k (inl (e, t)) = subst (OnApplies c) (sym e) (on_rules ((tells_none (tells-rules c)).fact t))
  to-on k (inr (inl (e, t))) = subst (OnApplies c) (sym e) (on_twice t)
  to-on k (inr (inr x)) = elim x [ ]

  from_on : (k : ℕ) → OnApplies c k → Applies (on_rows c) k
  from_on k (on_rules f) = inl (refl, (tells_none (tells-rules c)).test f)
  from_on k (on_twice e) = inr (inl (refl, e))

  -- T's address part is not 0
  tells-part : Tells (not (eqb (address_of c.state.tagged) 0)) (c.state.tagged - c.state.tagged % 4 ≢ 0)
  tells-part = tells_none (tells-eq (c.state.tagged - c.state.tagged % 4) 0)

  to-off : (k : ℕ) → Applies (off_rows c) k → OffApplies c k
  to-off k (inl (e, t)) = subst (OffApplies c) (sym e) (off_rules ((tells_none (tells-rules c)).fact t))
  to-off k (inr (inl (e, t))) =
      let f = (tells-any c.state.workers c.state.w).fact t in
      subst (OffApplies c) (sym e) (off_busy f.0 f.1 f.2)
  to-off k (inr (inr (inl (e, t)))) = subst (OffApplies c) (sym e) (off_twice ((tells-off c.state.on).fact t))
  to-off k (inr (inr (inr (inl (e, t))))) = subst (OffApplies c) (sym e) (off_listed (tells-part.fact t))
  to-off k (inr (inr (inr (inr x4)))) = elim x4 [ ]

  from-off : (k : ℕ) → OffApplies c k → Applies (off_rows c) k
  from-off k (off_rules f) = inl (refl, (tells_none (tells-rules c)).test f)
  from-off k (off_busy u l f) = inr (inl (refl, (tells-any c.state.workers c.state.w).test (u, l, f)))
  from-off k (off_twice e) = inr (inr (inl (refl, (tells-off c.state.on).test e)))
  from-off k (off_listed f) = inr (inr (inr (inl (refl, tells-part.test f))))

  on-ascends : Ascending (on_rows c)
  on-ascends = omega arith

  off-ascends : Ascending (off_rows c)
  off-ascends = omega arith

  pub on-given : Given (OnApplies c) (on_refusal c)
  unfolding on_refusal
  on-given = given_by (Applies (on_rows c)) (OnApplies c) (on_refusal c) (λ k. (to-on k, from_on k)) (smallest-first (on_rows c) on-ascends)

  pub off-given : Given (OffApplies c) (off_refusal c)
  unfolding off_refusal
  off-given = given_by (Applies (off_rows c)) (OffApplies c) (off_refusal c) (λ k. (to-off k, from-off k)) (smallest-first (off_rows c) off-ascends)

pub on-numbers : OnNumbers
unfolding switch_on_of
on-numbers c =
    numbered-by (OnApplies c) c (outcome 0 0 (with_switch c true)) (on_refusal c) (omega arith) (on-given c)
    (λ z. ap (λ (o : Outcome Config). o.number) (unless-done c (outcome 0 0 (with_switch c true)) (on_refusal c) z))

pub off-numbers : OffNumbers
unfolding switch_off_of
off-numbers c =
    let act = outcome 0 (tag_of c.state.tagged) (with_switch c false) in
    numbered-by (OffApplies c) c act (off_refusal c) (omega arith) (off-given c)
    (λ z. ap (λ (o : Outcome Config). o.number) (unless-done c act (off_refusal c) z))
