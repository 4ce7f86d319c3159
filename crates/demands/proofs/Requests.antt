-- Every request is explained: refused alike, done alike, begun alike. Assumes nothing.
use Prim.Native.Nat.{ℕ, ◌+◌, ◌-◌, ◌≤◌, ◌<◌}
use mathlib.Core.Path.{◌≡◌, refl, sym, ap, ◌∙◌, subst}
use mathlib.Core.Logic.{◌≢◌}
use mathlib.Core.Bool.{Bool, true, false, ◌&&◌, ◌||◌, cond, true≢false}
use mathlib.Core.List.{List, [], ◌∷◌, ◌++◌}
use native.Mathlib.Omega.{arith}
use lib.Dec.{eqb, leb}
use lib.ListN.{length}
use lib.Seq.{set-get_or}
use borrow.Author.Tests.{eqb-true, eqb-false, not-false, ltb-true, ltb-false, leb-true}
use Rattle.answers.specs.Rows.{Outcome, outcome, unless}
use Rattle.answers.proofs.Rows.{and_left, and_right}
use Rattle.bitmap.specs.Bitmap.{any_from}
use Rattle.bitmap.proofs.Ranges.{from-none}
use Rattle.page.specs.Page.{Lent}
use Rattle.page.specs.Sequences.{one, Once, up_from, Runs}
use Rattle.page.proofs.Counting.{times-append}
use Rattle.lists.specs.Own.{insert_act, pop_act, append_act, extend_act, release_act, empty_act}
use Rattle.lists.proofs.Sequences.{popped, appended, released}
use Rattle.operations.specs.declared.Worker.{Worker}
use Rattle.operations.specs.Operations.{staged_b, pushes_b, takes_b, on_tagged_b}
use Rattle.staged.specs.Start.{start_act, start_fits_b}
use Rattle.machine.specs.Config.{Config, lent_of, worker_of, blank, lists_of, put_lists, starter_of, put_starter, over}
use Rattle.machine.specs.Table.{insert, pop, append, extend, release, table, arguments_fit_b, any_named}
use Rattle.machine.specs.Requests.{at_once_act, request_act, request_of}
use Rattle.machine.proofs.Passing.{Passed, passed}
use Rattle.demands.specs.Simple.{Simple, Hands, hands, hands_of, times_in, in_use, is_nil, front, rest, still, judged, own_act, over_hands}
use Rattle.demands.specs.Simple as simple
use Rattle.demands.specs.Relation.{Doing, resting, pushing_shared, pushing_tagged, taking_shared, taking_tagged, setting, asking, awaiting, Sim}
use Rattle.demands.proofs.Facts.{one_place, held-part}
use Rattle.demands.proofs.Refusals.{named-block, named-run, refused-alike, note-is, empty-is}
use Rattle.demands.proofs.AtOnce.{insert-sim, pop-sim, append-sim, extend-sim, release-sim}
use Rattle.demands.proofs.Starts.{begin-push-shared, begin-push-tagged, begin-take-shared, begin-take-tagged, begin-set, begin-ask, begin-await}

-- an outcome of the real machine is one of the simple machine
pub record Explained (o : Outcome Config) (q : Outcome Simple) : Type 0 where
  pub sim : Sim o.after q.after
  pub number : o.number ≡ q.number
  pub value : o.value ≡ q.value

-- a block that is not in use
free : (s : Simple) (i : ℕ) → in_use s i ≡ false → times_in i s ≡ 0
free s i e = omega (arith, ltb-false 0 (times_in i s) e)

or_left : (x y : Bool) → (x || y) ≡ false → x ≡ false
or_left true y q = q
or_left false y q = refl

or_right : (x y : Bool) → (x || y) ≡ false → y ≡ false
or_right true y q = absurd (true≢false q)
or_right false y q = q

or-true : (x : Bool) → (x || true) ≡ true
or-true true = refl
or-true false = refl

pub nil_is : (xs : List ℕ) → is_nil xs ≡ true → xs ≡ []
nil_is [] e = refl
nil_is (x ∷ xs) e = absurd (true≢false (sym e))

-- what is left of 6 to 12
last : (k : ℕ) → 6 ≤ k → k ≤ 12 → k ≢ 6 → k ≢ 7 → k ≢ 8 → k ≢ 9 → k ≢ 10 → k ≢ 11 → k ≡ 12
last k lo hi n6 n7 n8 n9 n10 n11 =
    let a : 8 ≤ k = omega arith in
    let b : 10 ≤ k = omega arith in
    omega arith

-- an idle worker's hand is empty
idle-hand : (c : Lent) (on : Bool) (k : Worker) (t : Hands) → k.operation ≡ 0 → Doing c on k t → t.hand ≡ []
idle-hand c on k t z (resting h a e) = h
idle-hand c on k t z (pushing_shared h a e g x y) = absurd (omega arith)
idle-hand c on k t z (pushing_tagged h a e g x y) = absurd (omega arith)
idle-hand c on k t z (taking_shared h a e x y) = h
idle-hand c on k t z (taking_tagged h a e x y u) = h
idle-hand c on k t z (setting h a e x y u v) = h
idle-hand c on k t z (asking h a e x y u) = h
idle-hand c on k t z (awaiting h a e x y) = h

-- a worker that the table passed is there
there : (c : Config) (s : Simple) → Sim c s → (w code a b : ℕ) → Passed code (judged s w code a b) → w < c.state.w
unfolding judged
there c s m w code a b p = subst (λ (k : ℕ). w < k) m.count (ltb-true _ _ (not-false _ p.worker))

module _ (c : Config) (s : Simple) (m : Sim c s) (w : ℕ) (l : w < c.state.w) (code a b : ℕ) (p : Passed code (judged s w code a b)) where
  fit : arguments_fit_b c.state.n code a b ≡ true
  unfolding judged
  fit = subst (λ (k : ℕ). arguments_fit_b k code a b ≡ true) m.n (not-false _ p.arguments)

  idle : (worker_of c w).operation ≡ 0
  unfolding judged
  idle = note-is c s m w l ∙ eqb-true _ _ (not-false _ p.busy)

  -- ---- those that act at once

  abbrev mine : Hands
  mine = hands_of s w

  -- the hands with other own and got
  abbrev held : List ℕ → List ℕ → Hands
  held xs ys = hands xs ys mine.hand mine.note mine.want

  at-insert : code ≡ insert → Explained (over (put_lists c w) (insert_act (lists_of c w) a)) (over_hands s w (outcome 0 0 (held (a ∷ mine.own) mine.got)))
  unfolding judged any_named insert_act
  at-insert e =
      let f = named-block c.state.n code a b fit (rw e refl) in
      let new : in_use s a ≡ false = or_left _ _ (rw e at p.listed) in
      record { sim = insert-sim c s m w l idle a f.0 f.1 (free s a new); number = refl; value = refl }

  at-pop : code ≡ pop → Explained (over (put_lists c w) (pop_act (lists_of c w))) (over_hands s w (outcome 0 (front mine.own) (held (rest mine.own) mine.got)))
  unfolding judged
  at-pop e = go mine.own refl
    where
      go : (xs : List ℕ) → mine.own ≡ xs → Explained (over (put_lists c w) (pop_act (lists_of c w))) (over_hands s w (outcome 0 (front mine.own) (held (rest mine.own) mine.got)))
      go [] q = absurd (true≢false (rw (e, q) at p.empty))
      go (x ∷ xs) q =
          let o = popped (lists_of c w) x xs m.rules (subst (λ (ys : List ℕ). Runs (lent_of c) (worker_of c w).own ys) q (m.each w l).own) in
          rw q (record { sim = pop-sim c s m w l idle x xs q; number = o.leaves.number; value = o.leaves.value })

  at-append : Explained (over (put_lists c w) (append_act (lists_of c w))) (over_hands s w (outcome 0 (length mine.got) (held (mine.got ++ mine.own) [])))
  at-append =
      let o = appended (lists_of c w) mine.got mine.own m.rules (m.each w l).got (m.each w l).own once in
      record { sim = append-sim c s m w l idle; number = o.leaves.number; value = o.leaves.value }
    where
      once : Once (mine.got ++ mine.own)
      once i = omega (arith, times-append i mine.got mine.own, held-part c s m w i l, one_place c s m i)

  at-extend : code ≡ extend → Explained (over (put_lists c w) (extend_act (lists_of c w) a b)) (over_hands s w (outcome 0 b (held (up_from a b ++ mine.own) mine.got)))
  unfolding judged any_named extend_act pushes_b
  at-extend e =
      let f = named-run c.state.n code a b fit e in
      let none : any_from (in_use s) a b ≡ false = rw e at p.listed in
      let new : (i : ℕ) → a ≤ i → i < a + b → times_in i s ≡ 0 = λ i x y.
      let q : a + (i - a) ≡ i = omega arith in
      subst (λ (j : ℕ). times_in j s ≡ 0) q (free s (a + (i - a)) (from-none (in_use s) a b none (i - a) (omega arith))) in
      record { sim = extend-sim c s m w l idle a b f.0 f.1 f.2 new; number = refl; value = refl }

  at-release : Explained (over (put_lists c w) (release_act (lists_of c w))) (over_hands s w (outcome 0 (length mine.own) (held [] mine.got)))
  at-release =
      let o = released (lists_of c w) mine.own m.rules (m.each w l).own in
      record { sim = release-sim c s m w l idle; number = o.leaves.number; value = o.leaves.value }

  at-empty : Explained (over (put_lists c w) (empty_act (lists_of c w))) (over_hands s w (outcome 0 (one (is_nil mine.own)) mine))
  unfolding empty_act
  at-empty =
      record {
        sim = rw (set-get_or c.state.workers w blank, set-get_or s.workers w still) m;
        number = refl;
        value = ap one (empty-is c s m (worker_of c w).own mine.own (m.each w l).own);
      }

  pub once-explained : Explained (over (put_lists c w) (at_once_act (lists_of c w) code a b)) (over_hands s w (own_act mine code a b))
  unfolding at_once_act own_act
  once-explained = go (eqb code insert) refl (eqb code pop) refl (eqb code append) refl (eqb code extend) refl (eqb code release) refl
    where
      go : (b1 : Bool) → eqb code insert ≡ b1 → (b2 : Bool) → eqb code pop ≡ b2 → (b3 : Bool) → eqb code append ≡ b3 → (b4 : Bool) → eqb code extend ≡ b4
          → (b5 : Bool) → eqb code release ≡ b5 → Explained (over (put_lists c w) (at_once_act (lists_of c w) code a b)) (over_hands s w (own_act mine code a b))
      go true e1 b2 e2 b3 e3 b4 e4 b5 e5 = rw e1 (at-insert (eqb-true _ _ e1))
      go false e1 true e2 b3 e3 b4 e4 b5 e5 = rw (e1, e2) (at-pop (eqb-true _ _ e2))
      go false e1 false e2 true e3 b4 e4 b5 e5 = rw (e1, e2, e3) at-append
      go false e1 false e2 false e3 true e4 b5 e5 = rw (e1, e2, e3, e4) (at-extend (eqb-true _ _ e4))
      go false e1 false e2 false e3 false e4 true e5 = rw (e1, e2, e3, e4, e5) at-release
      go false e1 false e2 false e3 false e4 false e5 = rw (e1, e2, e3, e4, e5) at-empty

  -- ---- those that start

  no-hand : mine.hand ≡ []
  no-hand = idle-hand (lent_of c) c.state.on (worker_of c w) mine idle (m.each w l).doing

  live : on_tagged_b code ≡ true → c.state.on ≡ true
  unfolding judged
  live e = m.on ∙ not-false _ (rw e at p.off)

  nothing-held : takes_b code ≡ true → mine.got ≡ []
  unfolding judged
  nothing-held e = nil_is mine.got (not-false _ (rw e at p.holds))

  new-block : pushes_b code ≡ true → (1 ≤ a) × (a ≤ c.state.n) × (times_in a s ≡ 0)
  unfolding judged any_named
  new-block e =
      let named : (eqb code insert || pushes_b code) ≡ true = rw e (or-true (eqb code insert)) in
      let f = named-block c.state.n code a b fit named in
      (f.0, f.1, free s a (rw named at (or_left ((eqb code insert || pushes_b code) && in_use s a) (eqb code extend && any_from (in_use s) a b) p.listed)))

  abbrev Begun : ℕ → Type 0
  Begun k = Explained (over (put_starter c w) (start_act (starter_of c w) k a)) (over_hands s w (simple.start_act mine k a))

  begun-as : (k : ℕ) → Sim (over (put_starter c w) (start_act (starter_of c w) k a)).after (over_hands s w (simple.start_act mine k a)).after → Begun k
  unfolding start_act simple.start_act
  begun-as k x = record { sim = x; number = refl; value = refl }

  pub start-explained : staged_b code ≡ true → Begun code
  unfolding staged_b on_tagged_b takes_b pushes_b arguments_fit_b start_fits_b
  start-explained e = go (eqb code 6) refl (eqb code 7) refl (eqb code 8) refl (eqb code 9) refl (eqb code 10) refl (eqb code 11) refl
    where
      at : (k : ℕ) → code ≡ k → Begun k → Begun code
      at k q x = subst Begun (sym q) x

      low : 6 ≤ code
      low = leb-true _ _ (and_left (leb 6 code) (leb code 12) e)

      high : code ≤ 12
      high = leb-true _ _ (and_right (leb 6 code) (leb code 12) e)

      go : (b6 : Bool) → eqb code 6 ≡ b6 → (b7 : Bool) → eqb code 7 ≡ b7 → (b8 : Bool) → eqb code 8 ≡ b8 → (b9 : Bool) → eqb code 9 ≡ b9
          → (b10 : Bool) → eqb code 10 ≡ b10 → (b11 : Bool) → eqb code 11 ≡ b11 → Begun code
      go true e6 b7 e7 b8 e8 b9 e9 b10 e10 b11 e11 =
          let q : code ≡ 6 = eqb-true _ _ e6 in
          let f = new-block (rw q refl) in
          at 6 q (begun-as 6 (begin-push-shared c s m w l no-hand a f.0 f.1 f.2))
      go false e6 true e7 b8 e8 b9 e9 b10 e10 b11 e11 =
          let q : code ≡ 7 = eqb-true _ _ e7 in
          at 7 q (begun-as 7 (begin-take-shared c s m w l no-hand a (nothing-held (rw q refl))))
      go false e6 false e7 true e8 b9 e9 b10 e10 b11 e11 =
          let q : code ≡ 8 = eqb-true _ _ e8 in
          let f = new-block (rw q refl) in
          at 8 q (begun-as 8 (begin-push-tagged c s m w l no-hand a f.0 f.1 f.2 (live (rw q refl))))
      go false e6 false e7 false e8 true e9 b10 e10 b11 e11 =
          let q : code ≡ 9 = eqb-true _ _ e9 in
          at 9 q (begun-as 9 (begin-take-tagged c s m w l no-hand a (nothing-held (rw q refl)) (live (rw q refl))))
      go false e6 false e7 false e8 false e9 true e10 b11 e11 =
          let q : code ≡ 10 = eqb-true _ _ e10 in
          let small : a ≤ 3 = leb-true _ _ (rw q at fit) in
          at 10 q (begun-as 10 (begin-set c s m w l no-hand a small (live (rw q refl))))
      go false e6 false e7 false e8 false e9 false e10 true e11 =
          let q : code ≡ 11 = eqb-true _ _ e11 in
          at 11 q (begun-as 11 (begin-ask c s m w l no-hand a (live (rw q refl))))
      go false e6 false e7 false e8 false e9 false e10 false e11 =
          let n6 = eqb-false _ _ e6 in
          let n7 = eqb-false _ _ e7 in
          let n8 = eqb-false _ _ e8 in
          let n9 = eqb-false _ _ e9 in
          let n10 = eqb-false _ _ e10 in
          let n11 = eqb-false _ _ e11 in
          let q : code ≡ 12 = last code low high n6 n7 n8 n9 n10 n11 in
          at 12 q (begun-as 12 (begin-await c s m w l no-hand a (live (rw q refl))))

-- ---- every request

module _ (c : Config) (s : Simple) (m : Sim c s) (w code a b : ℕ) where
  pub request-explained : Explained (request_of c w code a b) (simple.request s w code a b)
  unfolding request_of request_act simple.request
  request-explained = rw (refused-alike c s m w code a b) (go (table code (judged s w code a b)) refl (eqb (table code (judged s w code a b)) 0) refl)
    where
      acted : table code (judged s w code a b) ≡ 0
          → Explained (request_act c w code a b) (over_hands s w (cond (staged_b code) (simple.start_act (hands_of s w) code a) (own_act (hands_of s w) code a b)))
      acted e = by (staged_b code) refl
        where
          p : Passed code (judged s w code a b)
          p = passed code (judged s w code a b) e

          l : w < c.state.w
          l = there c s m w code a b p

          by : (q : Bool) → staged_b code ≡ q → Explained (request_act c w code a b) (over_hands s w (cond (staged_b code) (simple.start_act (hands_of s w) code a) (own_act (hands_of s w) code a b)))
          by true q = rw q (start-explained c s m w l code a b p q)
          by false q = rw q (once-explained c s m w l code a b p)

      go : (k : ℕ) → table code (judged s w code a b) ≡ k → (q : Bool) → eqb k 0 ≡ q
          → Explained (unless k c (request_act c w code a b)) (unless k s (over_hands s w (cond (staged_b code) (simple.start_act (hands_of s w) code a) (own_act (hands_of s w) code a b))))
      go k e true q = rw q (acted (e ∙ eqb-true k 0 q))
      go k e false q = rw q (record { sim = m; number = refl; value = refl })
