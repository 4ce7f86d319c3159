-- What is said of each event: its answer, that 11 is never given, that 0 is given exactly at a moment. Assumes nothing.
use Prim.Native.Nat.{ℕ, ◌≤◌, ◌<◌}
use mathlib.Core.Path.{◌≡◌, refl, sym, ap, ◌∙◌}
use mathlib.Core.Logic.{◌≢◌, ◌⊎◌, inl, inr, ◌↔◌}
use mathlib.Core.Bool.{Bool, true, false, not, cond, true≢false}
use mathlib.Core.List.{List, [], ◌∷◌}
use native.Mathlib.Omega.{arith}
use lib.Dec.{eqb}
use lib.ListN.{length, get_or-eq_default}
use borrow.Author.Tests.{eqb-true, eqb-false}
use Rattle.answers.specs.Numbers.{done, under_way, damaged}
use Rattle.answers.specs.Rows.{Row, first, Outcome, unless}
use Rattle.words.specs.Tagged.{freeing}
use Rattle.page.specs.Sequences.{one}
use Rattle.operations.specs.Operations.{ask_tag, staged_b, loading, exchanging, swapping, masking}
use Rattle.staged.specs.Damage.{Turn, head_word}
use Rattle.staged.specs.Moves.{fails_b}
use Rattle.machine.specs.Config.{Config, worker_of, turn_of}
use Rattle.machine.specs.Table.{insert, pop, append, extend, release, Tests, table}
use Rattle.machine.specs.Moves.{move_of}
use Rattle.demands.specs.Simple.{Simple, Hands, still, hands_of, judged, over_hands}
use Rattle.demands.specs.Simple as simple
use Rattle.demands.specs.Moments.{Event, request, move, on, off, store, step, simple_step, is_moment, ends_at_load, act_of, moment, Allowed}
use Rattle.demands.specs.Relation.{Sim}
use Rattle.demands.specs.Every.{Alike, Answers, is_act, DoneAtMoment, AskTells, Said}
use Rattle.demands.proofs.Refusals.{note-is}
use Rattle.demands.proofs.Requests.{Explained, request-explained}
use Rattle.demands.proofs.Moves.{By}
use Rattle.demands.proofs.Switching.{on-explained, off-explained}
use Rattle.demands.proofs.Events.{Mover, nobody, rests, works, mover, nobody-called, rests-called, works-acts, busy-moves, move-explained}

-- ---- 11 is no row of the simple machine

-- no row that applies has the number
abbrev Never : ℕ → List Row → Type 0
Never k [] = Unit {0}
Never k (r ∷ rows) = ((r.number ≢ k) ⊎ (r.applies ≡ false)) × Never k rows

first-never : (k : ℕ) (rows : List Row) → done ≢ k → Never k rows → first rows ≢ k
unfolding first
first-never k [] z n = z
first-never k (r ∷ rows) z n = go r.applies refl n.0 (first-never k rows z n.1)
  where
    go : (b : Bool) → r.applies ≡ b → (r.number ≢ k) ⊎ (r.applies ≡ false) → first rows ≢ k → cond r.applies r.number (first rows) ≢ k
    go true e (inl f) g = rw e f
    go true e (inr f) g = absurd (true≢false (sym e ∙ f))
    go false e f g = rw e g

unless-never : {C : Type 0} (c : C) (act : Outcome C) (k : ℕ) → k ≢ damaged → act.number ≢ damaged → (unless k c act).number ≢ damaged
unless-never c act k n a = go (eqb k 0) refl
  where
    go : (b : Bool) → eqb k 0 ≡ b → (unless k c act).number ≢ damaged
    go true e = rw e a
    go false e = rw e n

module _ (s : Simple) where
  -- what acts at once is answered 0
  pub own-done : (t : Hands) (code a b : ℕ) → (simple.own_act t code a b).number ≡ done
  unfolding simple.own_act
  own-done t code a b = go (eqb code insert) refl (eqb code pop) refl (eqb code append) refl (eqb code extend) refl (eqb code release) refl
    where
      go : (b1 : Bool) → eqb code insert ≡ b1 → (b2 : Bool) → eqb code pop ≡ b2 → (b3 : Bool) → eqb code append ≡ b3 → (b4 : Bool) → eqb code extend ≡ b4
          → (b5 : Bool) → eqb code release ≡ b5 → (simple.own_act t code a b).number ≡ done
      go true e1 b2 e2 b3 e3 b4 e4 b5 e5 = rw e1
      go false e1 true e2 b3 e3 b4 e4 b5 e5 = rw (e1, e2)
      go false e1 false e2 true e3 b4 e4 b5 e5 = rw (e1, e2, e3)
      go false e1 false e2 false e3 true e4 b5 e5 = rw (e1, e2, e3, e4)
      go false e1 false e2 false e3 false e4 true e5 = rw (e1, e2, e3, e4, e5)
      go false e1 false e2 false e3 false e4 false e5 = rw (e1, e2, e3, e4, e5)

  -- an act is answered 0
  pub act-done : (w : ℕ) (t : Hands) → (simple.act s w t).number ≡ done
  unfolding simple.act
  act-done w t = go (eqb t.note 6) refl (eqb t.note 7) refl (eqb t.note 8) refl (eqb t.note 9) refl (eqb t.note 10) refl (eqb t.note 11) refl
    where
      go : (b1 : Bool) → eqb t.note 6 ≡ b1 → (b2 : Bool) → eqb t.note 7 ≡ b2 → (b3 : Bool) → eqb t.note 8 ≡ b3 → (b4 : Bool) → eqb t.note 9 ≡ b4
          → (b5 : Bool) → eqb t.note 10 ≡ b5 → (b6 : Bool) → eqb t.note 11 ≡ b6 → (simple.act s w t).number ≡ done
      go true e1 b2 e2 b3 e3 b4 e4 b5 e5 b6 e6 = rw e1
      go false e1 true e2 b3 e3 b4 e4 b5 e5 b6 e6 = rw (e1, e2)
      go false e1 false e2 true e3 b4 e4 b5 e5 b6 e6 = rw (e1, e2, e3)
      go false e1 false e2 false e3 true e4 b5 e5 b6 e6 = rw (e1, e2, e3, e4)
      go false e1 false e2 false e3 false e4 true e5 b6 e6 = rw (e1, e2, e3, e4, e5)
      go false e1 false e2 false e3 false e4 false e5 true e6 = rw (e1, e2, e3, e4, e5, e6)
      go false e1 false e2 false e3 false e4 false e5 false e6 = rw (e1, e2, e3, e4, e5, e6)

  -- the value of 11 is 0 exactly if the tag is 1
  pub ask-value : (w : ℕ) (t : Hands) → t.note ≡ ask_tag → ((simple.act s w t).value ≡ 0) ↔ (s.tag ≡ freeing)
  unfolding simple.act
  ask-value w t e = rw e (go (eqb s.tag freeing) refl)
    where
      go : (b : Bool) → eqb s.tag freeing ≡ b → (one (not (eqb s.tag freeing)) ≡ 0) ↔ (s.tag ≡ freeing)
      go true q = (λ z. eqb-true _ _ q, λ z. rw q)
      go false q = (λ z. absurd (let f : one (not false) ≡ 0 = rw q at z in omega arith), λ z. absurd (eqb-false _ _ q z))

  table-never : (code : ℕ) (t : Tests) → t.damaged ≡ false → table code t ≢ damaged
  unfolding table
  table-never code t e =
      first-never damaged _ (omega arith) (
        inl (omega arith),
        (inl (omega arith), (inl (omega arith), (inl (omega arith), (inl (omega arith), (inl (omega arith), (inl (omega arith), (inl (omega arith), (inr e, tt)))))))),
      )

  -- a refusal is never 1
  pub table-not-one : (code : ℕ) (t : Tests) → table code t ≢ under_way
  unfolding table
  table-not-one code t =
      first-never under_way _ (omega arith) (
        inl (omega arith),
        (inl (omega arith), (inl (omega arith), (inl (omega arith), (inl (omega arith), (inl (omega arith), (inl (omega arith), (inl (omega arith), (inl (omega arith), tt)))))))),
      )

  request-never : (w code a b : ℕ) → (simple.request s w code a b).number ≢ damaged
  unfolding simple.request simple.start_act judged
  request-never w code a b =
      unless-never s (over_hands s w (cond (staged_b code) (simple.start_act (hands_of s w) code a) (simple.own_act (hands_of s w) code a b)))
      (table code (judged s w code a b)) (table-never code (judged s w code a b) refl) (go (staged_b code) refl)
    where
      go : (q : Bool) → staged_b code ≡ q → (cond (staged_b code) (simple.start_act (hands_of s w) code a) (simple.own_act (hands_of s w) code a b)).number ≢ damaged
      go true e = rw e (omega arith)
      go false e = rw e (λ z. omega (arith, own-done (hands_of s w) code a b, z))

  move-never : (w : ℕ) → (simple.move s w).number ≢ damaged
  unfolding simple.move
  move-never w =
      unless-never s (simple.act s w (hands_of s w)) _ (first-never damaged _ (omega arith) (inl (omega arith), (inl (omega arith), tt))) (λ z. omega (arith, act-done w (hands_of s w), z))

  on-never : (simple.switch_on s).number ≢ damaged
  unfolding simple.switch_on
  on-never = unless-never s _ _ (first-never damaged _ (omega arith) (inl (omega arith), tt)) (omega arith)

  off-never : (simple.switch_off s).number ≢ damaged
  unfolding simple.switch_off
  off-never = unless-never s _ _ (first-never damaged _ (omega arith) (inl (omega arith), (inl (omega arith), (inl (omega arith), tt)))) (omega arith)

-- ---- what an event says

-- of a worker with an operation under way, a moment is an act
pub moment-act : (t : Turn) (flag : Bool) → is_moment (act_of t flag) ≡ is_act (act_of t flag)
unfolding act_of
moment-act t flag =
    go (eqb t.worker.stage loading) refl (ends_at_load t) refl (eqb t.worker.stage exchanging) refl (fails_b (head_word t) t.worker.seen flag) refl (eqb t.worker.stage swapping) refl
    (eqb t.worker.stage masking) refl
  where
    go : (b1 : Bool) → eqb t.worker.stage loading ≡ b1 → (b2 : Bool) → ends_at_load t ≡ b2 → (b3 : Bool) → eqb t.worker.stage exchanging ≡ b3
        → (b4 : Bool) → fails_b (head_word t) t.worker.seen flag ≡ b4 → (b5 : Bool) → eqb t.worker.stage swapping ≡ b5 → (b6 : Bool) → eqb t.worker.stage masking ≡ b6
        → is_moment (act_of t flag) ≡ is_act (act_of t flag)
    go true e1 true e2 b3 e3 b4 e4 b5 e5 b6 e6 = rw (e1, e2)
    go true e1 false e2 b3 e3 b4 e4 b5 e5 b6 e6 = rw (e1, e2)
    go false e1 b2 e2 true e3 true e4 b5 e5 b6 e6 = rw (e1, e3, e4)
    go false e1 b2 e2 true e3 false e4 b5 e5 b6 e6 = rw (e1, e3, e4)
    go false e1 b2 e2 false e3 b4 e4 true e5 b6 e6 = rw (e1, e3, e5)
    go false e1 b2 e2 false e3 b4 e4 false e5 true e6 = rw (e1, e3, e5, e6)
    go false e1 b2 e2 false e3 b4 e4 false e5 false e6 = rw (e1, e3, e5, e6)

module _ (c : Config) (s : Simple) (m : Sim c s) where
  alike : (e : Event) → Explained (step c e) (simple_step s e) → Alike c s e
  alike e x = record { number = x.number; value = x.value }

  -- ---- moves

  module _ (w : ℕ) (flag : Bool) where
    abbrev e : Event
    e = move w flag

    move-answers : Answers (is_moment (moment c e)) c s e
    unfolding step simple_step
    move-answers = go (is_moment (moment c e)) (move-explained c s m w flag)
      where
        go : (q : Bool) → By q (move_of c w flag) s (simple.move s w) → Answers q c s e
        go true x = alike e x
        go false x = (x.number, x.value)

    move-undamaged : (step c e).number ≢ damaged
    unfolding step
    move-undamaged = go (is_moment (moment c e)) (move-explained c s m w flag)
      where
        go : (q : Bool) → By q (move_of c w flag) s (simple.move s w) → (move_of c w flag).number ≢ damaged
        go true x = λ z. move-never s w (sym x.number ∙ z)
        go false x = λ z. omega (arith, x.number, z)

    -- the answer of a worker with an operation under way
    works-answers : w < c.state.w → (worker_of c w).operation ≢ 0 → (q : Bool) → is_moment (moment c e) ≡ q
        → By q (move_of c w flag) s (simple.move s w) → ((move_of c w flag).number ≡ done) ↔ (q ≡ true)
    works-answers l n true z x =
        (λ y. refl, λ y. x.number ∙ ap (λ (o : Outcome Simple). o.number) (busy-moves c s m w flag l n).1 ∙ act-done s w (hands_of s w))
    works-answers l n false z x = (λ y. absurd (omega (arith, x.number, y)), λ y. absurd (true≢false (sym y)))

    move-at-moment : DoneAtMoment c e
    unfolding step
    move-at-moment not-called = go (mover c s m w)
      where
        go : Mover c s m w → ((move_of c w flag).number ≡ done) ↔ (is_act (moment c e) ≡ true)
        go (nobody l) = absurd (not-called (nobody-called c s m w flag l))
        go (rests l z) = absurd (not-called (rests-called c s m w flag l z))
        go (works l n) =
            rw (ap is_moment (works-acts c s m w flag l n) ∙ moment-act (turn_of c w) flag ∙ ap is_act (sym (works-acts c s m w flag l n))) at
            (works-answers l n (is_moment (moment c e)) refl (move-explained c s m w flag))

    move-ask : AskTells c s e
    unfolding step
    move-ask note zero-answer = go (mover c s m w)
      where
        told : (q : Bool) → By q (move_of c w flag) s (simple.move s w) → w < c.state.w → (worker_of c w).operation ≢ 0 → ((move_of c w flag).value ≡ 0) ↔ (s.tag ≡ freeing)
        told true x l n =
            rw (x.value, ap (λ (o : Outcome Simple). o.value) (busy-moves c s m w flag l n).1) (ask-value s w (hands_of s w) note)
        told false x l n = absurd (omega (arith, x.number, zero-answer))

        go : Mover c s m w → ((move_of c w flag).value ≡ 0) ↔ (s.tag ≡ freeing)
        go (nobody l) =
            let past : length s.workers ≤ w = omega (arith, m.count) in
            absurd (omega (arith, note, ap (λ (t : Hands). t.note) (get_or-eq_default s.workers still past)))
        go (rests l z) = absurd (omega (arith, note, note-is c s m w l, z))
        go (works l n) = told (is_moment (moment c e)) (move-explained c s m w flag) l n

  -- ---- any event

  pub said : (e : Event) → Allowed c s e → Said c s e
  unfolding step simple_step moment
  said (request w code a b) may =
      let x = request-explained c s m w code a b in
      record { answers = record { number = x.number; value = x.value }; undamaged = λ z. request-never s w code a b (sym x.number ∙ z); at_moment = tt; ask = tt }
  said (move w flag) may =
      record { answers = move-answers w flag; undamaged = move-undamaged w flag; at_moment = move-at-moment w flag; ask = move-ask w flag }
  said on may =
      let x = on-explained c s m in
      record { answers = record { number = x.number; value = x.value }; undamaged = λ z. on-never s (sym x.number ∙ z); at_moment = tt; ask = tt }
  said off may =
      let x = off-explained c s m in
      record { answers = record { number = x.number; value = x.value }; undamaged = λ z. off-never s (sym x.number ∙ z); at_moment = tt; ask = tt }
  said (store k v) may = record { answers = tt; undamaged = omega arith; at_moment = tt; ask = tt }
