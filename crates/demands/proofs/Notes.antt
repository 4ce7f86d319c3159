-- Operations begun and acted: each event keeps the balance of notes. Assumes nothing.
use Prim.Native.Nat.{ℕ, ◌+◌, ◌≤◌, ◌<◌}
use mathlib.Core.Path.{◌≡◌, refl, sym, ap, ◌∙◌, subst}
use mathlib.Core.Logic.{◌≢◌}
use mathlib.Core.Bool.{Bool, true, false, not, ◌&&◌, cond, true≢false}
use mathlib.Core.List.{List, [], ◌∷◌}
use native.Mathlib.Nat.{zero-add}
use native.Mathlib.Omega.{arith}
use lib.Dec.{eqb, leb}
use lib.ListN.{length, get_or, set}
use lib.Seq.{get_or-set_same, get_or-set_other}
use borrow.Author.Tests.{eqb-true, eqb-false, ne_eqb, not-false, ltb-true, lt-ltb, le-ltb, leb-true}
use Rattle.answers.specs.Numbers.{done, under_way, busy, switched, not_empty}
use Rattle.answers.specs.Rows.{row, first, Outcome, outcome, unless}
use Rattle.answers.proofs.Rows.{unless-either, and_left}
use Rattle.page.specs.Sequences.{one}
use Rattle.operations.specs.Operations.{push_shared, await_tag, staged_b}
use Rattle.staged.specs.Moves.{move_act}
use Rattle.machine.specs.Config.{Config, worker_of, turn_of, put_turn, over}
use Rattle.machine.specs.Table.{insert, pop, append, extend, release, table, request_refusal, move_refusal, on_refusal, off_refusal}
use Rattle.machine.specs.Requests.{request_act, request_of}
use Rattle.machine.specs.Moves.{move_of}
use Rattle.machine.specs.Switch.{switch_on_of, switch_off_of}
use Rattle.machine.proofs.Passing.{Passed, passed}
use Rattle.demands.specs.Simple.{Simple, Hands, still, hands_of, put_hands, judged, over_hands}
use Rattle.demands.specs.Simple as simple
use Rattle.demands.specs.Moments.{Event, request, move, on, off, store, step, simple_step, called, is_moment, moment, act_of, Allowed, follow}
use Rattle.demands.specs.Relation.{Sim}
use Rattle.demands.specs.Every.{is_act, begins, acts, busy_one}
use Rattle.demands.proofs.Refusals.{note-is}
use Rattle.demands.proofs.Requests.{request-explained}
use Rattle.demands.proofs.Events.{Mover, nobody, rests, works, mover, nobody-called, rests-called, works-acts, busy-moves, event-sim}
use Rattle.demands.proofs.Saying.{own-done, table-not-one, moment-act}

-- a worker's note, counted
abbrev noted : Simple → ℕ → ℕ
noted s w = one (not (eqb (hands_of s w).note 0))

-- one worker's hands replaced
put-noted : (ts : List Hands) (v w : ℕ) (t : Hands) → v < length ts → (b : Bool) → eqb v w ≡ b
    → (get_or (set ts v t) w still).note ≡ cond b t.note (get_or ts w still).note
put-noted ts v w t l true e = ap (λ (k : ℕ). (get_or (set ts v t) k still).note) (sym (eqb-true v w e)) ∙ ap (λ (h : Hands). h.note) (get_or-set_same ts v t still l)
put-noted ts v w t l false e = ap (λ (h : Hands). h.note) (get_or-set_other ts v w t still (λ q. eqb-false v w e (sym q)))

-- no staged operation is 0
staged-some : (code : ℕ) → staged_b code ≡ true → code ≢ 0
unfolding staged_b
staged-some code e z = omega (arith, leb-true push_shared code (and_left (leb push_shared code) (leb code await_tag) e))

-- a worker that the table passed is there, and has no note
module _ (s : Simple) (v code a b : ℕ) (p : Passed code (judged s v code a b)) where
  passed-there : v < length s.workers
  unfolding judged
  passed-there = ltb-true _ _ (not-false _ p.worker)

  passed-idle : (hands_of s v).note ≡ 0
  unfolding judged
  passed-idle = eqb-true _ _ (not-false _ p.busy)

module _ (s : Simple) (v w : ℕ) where
  -- ---- requests

  own-note : (t : Hands) (code a b : ℕ) → (simple.own_act t code a b).after.note ≡ t.note
  unfolding simple.own_act
  own-note t code a b = go (eqb code insert) refl (eqb code pop) refl (eqb code append) refl (eqb code extend) refl (eqb code release) refl
    where
      go : (b1 : Bool) → eqb code insert ≡ b1 → (b2 : Bool) → eqb code pop ≡ b2 → (b3 : Bool) → eqb code append ≡ b3 → (b4 : Bool) → eqb code extend ≡ b4
          → (b5 : Bool) → eqb code release ≡ b5 → (simple.own_act t code a b).after.note ≡ t.note
      go true e1 b2 e2 b3 e3 b4 e4 b5 e5 = rw e1
      go false e1 true e2 b3 e3 b4 e4 b5 e5 = rw (e1, e2)
      go false e1 false e2 true e3 b4 e4 b5 e5 = rw (e1, e2, e3)
      go false e1 false e2 false e3 true e4 b5 e5 = rw (e1, e2, e3, e4)
      go false e1 false e2 false e3 false e4 true e5 = rw (e1, e2, e3, e4, e5)
      go false e1 false e2 false e3 false e4 false e5 = rw (e1, e2, e3, e4, e5)

  request-notes : (code a b : ℕ) → one (eqb v w && eqb (simple.request s v code a b).number under_way) + noted s w ≡ noted (simple.request s v code a b).after w
  unfolding simple.request simple.start_act
  request-notes code a b = go (table code (judged s v code a b)) refl (eqb (table code (judged s v code a b)) 0) refl
    where
      act : Outcome Simple
      act = over_hands s v (cond (staged_b code) (simple.start_act (hands_of s v) code a) (simple.own_act (hands_of s v) code a b))

      acted : Passed code (judged s v code a b) → one (eqb v w && eqb act.number under_way) + noted s w ≡ noted act.after w
      acted p = by (staged_b code) refl (eqb v w) refl
        where
          there : v < length s.workers
          there = passed-there s v code a b p

          idle : (hands_of s v).note ≡ 0
          idle = passed-idle s v code a b p

          after-note : (t : Hands) (q : Bool) → eqb v w ≡ q → noted (put_hands s v t) w ≡ one (not (eqb (cond q t.note (hands_of s w).note) 0))
          after-note t q e = ap (λ (k : ℕ). one (not (eqb k 0))) (put-noted s.workers v w t there q e)

          by : (x : Bool) → staged_b code ≡ x → (q : Bool) → eqb v w ≡ q → one (eqb v w && eqb act.number under_way) + noted s w ≡ noted act.after w
          by true f true e =
              let same : v ≡ w = eqb-true v w e in
              rw (f, e) (begun f (subst (λ (k : ℕ). (hands_of s k).note ≡ 0) same idle))
            where
              begun : staged_b code ≡ true → (hands_of s w).note ≡ 0 → one (true && eqb (simple.start_act (hands_of s v) code a).number under_way) + noted s w ≡ noted (put_hands s v (simple.start_act (hands_of s v) code a).after) w
              begun f z = rw (after-note (simple.start_act (hands_of s v) code a).after true e) (rw (z, ne_eqb code 0 (staged-some code f)))
          by true f false e = rw (f, e) (sym (after-note (simple.start_act (hands_of s v) code a).after false e ∙ omega arith))
          by false f true e =
              let same : (hands_of s v).note ≡ (hands_of s w).note = ap (λ (k : ℕ). (hands_of s k).note) (eqb-true v w e) in
              let kept : noted (put_hands s v (simple.own_act (hands_of s v) code a b).after) w ≡ noted s w =
              after-note (simple.own_act (hands_of s v) code a b).after true e ∙ ap (λ (k : ℕ). one (not (eqb k 0))) (own-note (hands_of s v) code a b ∙ same) in
              rw (f, e, own-done s (hands_of s v) code a b) (omega (arith, kept))
          by false f false e = rw (f, e) (sym (after-note (simple.own_act (hands_of s v) code a b).after false e ∙ omega arith))

      go : (k : ℕ) → table code (judged s v code a b) ≡ k → (q : Bool) → eqb k 0 ≡ q
          → one (eqb v w && eqb (unless k s act).number under_way) + noted s w ≡ noted (unless k s act).after w
      go k e true q = rw q (acted (passed code (judged s v code a b) (e ∙ eqb-true k 0 q)))
      go k e false q = rw (q, ne_eqb k 1 (λ z. table-not-one s code (judged s v code a b) (e ∙ z))) (no (eqb v w))
        where
          no : (b : Bool) → one (b && false) + noted s w ≡ noted s w
          no true = omega arith
          no false = omega arith

  -- ---- moves: an act is the end of its note

  act-notes : v < length s.workers → (hands_of s v).note ≢ 0 → noted s w ≡ one (eqb v w) + noted (simple.act s v (hands_of s v)).after w
  unfolding simple.act
  act-notes there some =
      go (eqb t.note 6) refl (eqb t.note 7) refl (eqb t.note 8) refl (eqb t.note 9) refl (eqb t.note 10) refl (eqb t.note 11) refl
    where
      t : Hands
      t = hands_of s v

      -- hands without a note at the worker's place
      ended : (h : Hands) → h.note ≡ 0 → noted s w ≡ one (eqb v w) + one (not (eqb (get_or (set s.workers v h) w still).note 0))
      ended h z = by (eqb v w) refl
        where
          by : (q : Bool) → eqb v w ≡ q → noted s w ≡ one q + one (not (eqb (get_or (set s.workers v h) w still).note 0))
          by true e =
              let was : (hands_of s w).note ≢ 0 = subst (λ (k : ℕ). (hands_of s k).note ≢ 0) (eqb-true v w e) some in
              rw (put-noted s.workers v w h there true e, z, ne_eqb (hands_of s w).note 0 was)
          by false e = rw (put-noted s.workers v w h there false e) (omega arith)

      go : (b1 : Bool) → eqb t.note 6 ≡ b1 → (b2 : Bool) → eqb t.note 7 ≡ b2 → (b3 : Bool) → eqb t.note 8 ≡ b3 → (b4 : Bool) → eqb t.note 9 ≡ b4
          → (b5 : Bool) → eqb t.note 10 ≡ b5 → (b6 : Bool) → eqb t.note 11 ≡ b6 → noted s w ≡ one (eqb v w) + noted (simple.act s v t).after w
      go true e1 b2 e2 b3 e3 b4 e4 b5 e5 b6 e6 = rw e1 (ended _ refl)
      go false e1 true e2 b3 e3 b4 e4 b5 e5 b6 e6 = rw (e1, e2) (ended _ refl)
      go false e1 false e2 true e3 b4 e4 b5 e5 b6 e6 = rw (e1, e2, e3) (ended _ refl)
      go false e1 false e2 false e3 true e4 b5 e5 b6 e6 = rw (e1, e2, e3, e4) (ended _ refl)
      go false e1 false e2 false e3 false e4 true e5 b6 e6 = rw (e1, e2, e3, e4, e5) (ended _ refl)
      go false e1 false e2 false e3 false e4 false e5 true e6 = rw (e1, e2, e3, e4, e5, e6) (ended _ refl)
      go false e1 false e2 false e3 false e4 false e5 false e6 = rw (e1, e2, e3, e4, e5, e6) (ended _ refl)

and_one : (b : Bool) → (b && true) ≡ b
and_one true = refl
and_one false = refl

and_none : (b : Bool) → (b && false) ≡ false
and_none true = refl
and_none false = refl

-- ---- W stays

pub same_w : (c : Config) (e : Event) → (step c e).after.state.w ≡ c.state.w
unfolding step request_of request_act move_of switch_on_of switch_off_of
same_w c (request w code a b) = unless-either c (request_act c w code a b) (λ d. d.state.w ≡ c.state.w) (request_refusal c w code a b) refl (λ z. go (staged_b code) refl)
  where
    go : (q : Bool) → staged_b code ≡ q → (request_act c w code a b).after.state.w ≡ c.state.w
    go true e = rw e
    go false e = rw e
same_w c (move w flag) = unless-either c (over (put_turn c w) (move_act (turn_of c w) flag)) (λ d. d.state.w ≡ c.state.w) (move_refusal c w) refl (λ z. refl)
same_w c on = unless-either c _ (λ d. d.state.w ≡ c.state.w) (on_refusal c) refl (λ z. refl)
same_w c off = unless-either c _ (λ d. d.state.w ≡ c.state.w) (off_refusal c) refl (λ z. refl)
same_w c (store k v) = refl

-- the switch leaves the workers alone
on-workers : (s : Simple) → (simple.switch_on s).after.workers ≡ s.workers
unfolding simple.switch_on
on-workers s =
    unless-either s (outcome done 0 (simple.simple s.n s.shared [] 0 true s.workers)) (λ t. t.workers ≡ s.workers) (first (row switched s.on ∷ [])) refl (λ z. refl)

off-workers : (s : Simple) → (simple.switch_off s).after.workers ≡ s.workers
unfolding simple.switch_off
off-workers s =
    unless-either s (outcome done s.tag (simple.simple s.n s.shared [] 0 false s.workers)) (λ t. t.workers ≡ s.workers)
    (first (row busy (simple.any_note s.workers) ∷ row switched (not s.on) ∷ row not_empty (not (simple.is_nil s.tagged)) ∷ [])) refl (λ z. refl)

-- ---- every event keeps the balance

module _ (c : Config) (s : Simple) (m : Sim c s) (w : ℕ) (l : w < c.state.w) where
  busy-noted : busy_one c w ≡ noted s w
  busy-noted = ap (λ (k : ℕ). one (not (eqb k 0))) (note-is c s m w l)

  -- the simple machine's side
  abbrev Balanced : Event → Type 0
  Balanced e = begins w c e + noted s w ≡ acts w c e + noted (follow (is_moment (moment c e)) s e) w

  nobody-still : (v : ℕ) → c.state.w ≤ v → (simple.move s v).after ≡ s
  unfolding simple.move first
  nobody-still v h = rw (le-ltb v (length s.workers) (omega (arith, m.count)))

  rests-still : (v : ℕ) → v < c.state.w → (worker_of c v).operation ≡ 0 → (simple.move s v).after ≡ s
  unfolding simple.move first
  rests-still v h e = rw (lt-ltb v (length s.workers) (omega (arith, m.count)), sym (note-is c s m v h) ∙ e)

  move-balanced : (v : ℕ) (flag : Bool) → Balanced (move v flag)
  unfolding simple_step
  move-balanced v flag = go (mover c s m v)
    where
      quiet : moment c (move v flag) ≡ called → (simple.move s v).after ≡ s → Balanced (move v flag)
      quiet e f = rw (e, f) (no (eqb v w))
        where
          no : (b : Bool) → 0 + noted s w ≡ one (b && false) + noted s w
          no true = refl
          no false = refl

      go : Mover c s m v → Balanced (move v flag)
      go (nobody h) = quiet (nobody-called c s m v flag h) (nobody-still v h)
      go (rests h e) = quiet (rests-called c s m v flag h e) (rests-still v h e)
      go (works h n) = rw (works-acts c s m v flag h n) (by (is_moment (act_of (turn_of c v) flag)) (is_act (act_of (turn_of c v) flag)) (moment-act (turn_of c v) flag))
        where
          by : (q a : Bool) → q ≡ a → 0 + noted s w ≡ one (eqb v w && a) + noted (follow q s (move v flag)) w
          by true true e =
              let acted : noted (simple.move s v).after w ≡ noted (simple.act s v (hands_of s v)).after w =
              ap (λ (o : Outcome Simple). noted o.after w) (busy-moves c s m v flag h n).1 in
              let kept : noted s w ≡ one (eqb v w) + noted (simple.act s v (hands_of s v)).after w =
              act-notes s v w (omega (arith, m.count)) (λ z. n (note-is c s m v h ∙ z)) in
              rw (and_one (eqb v w)) (zero-add (noted s w) ∙ kept ∙ ap (λ (k : ℕ). one (eqb v w) + k) (sym acted))
          by true false e = absurd (true≢false e)
          by false true e = absurd (true≢false (sym e))
          by false false e = rw (and_none (eqb v w))

  balanced : (e : Event) → Balanced e
  unfolding step simple_step moment
  balanced (request v code a b) =
      let x = request-explained c s m v code a b in
      rw x.number (request-notes s v w code a b ∙ omega arith)
  balanced (move v flag) = move-balanced v flag
  balanced on = ap (λ (ts : List Hands). 0 + one (not (eqb (get_or ts w still).note 0))) (sym (on-workers s))
  balanced off = ap (λ (ts : List Hands). 0 + one (not (eqb (get_or ts w still).note 0))) (sym (off-workers s))
  balanced (store k v) = refl

  pub balance : (e : Event) → Allowed c s e → begins w c e + busy_one c w ≡ acts w c e + busy_one (step c e).after w
  balance e may =
      let m' : Sim (step c e).after (follow (is_moment (moment c e)) s e) = event-sim c s m e may in
      let l' : w < (step c e).after.state.w = omega (arith, same_w c e) in
      omega (arith, balanced e, busy-noted, ap (λ (k : ℕ). one (not (eqb k 0))) (note-is (step c e).after (follow (is_moment (moment c e)) s e) m' w l'))
