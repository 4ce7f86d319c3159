-- Demand 1, proved: numbers within the table, refusals that change nothing, each number exactly by its row. Assumes nothing.
use Prim.Native.Nat.{ℕ, zero, suc, ◌≤◌}
use mathlib.Core.Path.{◌≡◌, refl, sym, ◌∙◌}
use mathlib.Core.Logic.{◌≢◌, ◌⊎◌, inl, inr, ⊎_elim, ◌↔◌}
use mathlib.Core.Bool.{Bool, true, false, not, cond, true≢false}
use mathlib.Core.List.{List, [], ◌∷◌}
use native.Mathlib.Omega.{arith}
use lib.Dec.{eqb, ltb, leb}
use borrow.Author.Tests.{eqb-true}
use Rattle.answers.specs.Numbers.{done, under_way, damaged}
use Rattle.answers.specs.Rows.{Row, first, Outcome, outcome, unless}
use Rattle.lists.specs.Own.{insert_act, pop_act, append_act, extend_act, release_act, empty_act}
use Rattle.operations.specs.Operations.{busy_b, take_shared, set_tag, ask_tag, loading, writing, exchanging, swapping, staged_b, pushes_b, one_of}
use Rattle.staged.specs.Workers.{max_sightings}
use Rattle.staged.specs.Start.{start_act}
use Rattle.staged.specs.Damage.{Turn, head_word, damaged_b}
use Rattle.staged.specs.Moves.{fails_b, load_ask, load_await, load_act, write_act, exchange_act, swap_act, mask_act, move_act}
use Rattle.words.specs.Tagged.{tag_of}
use Rattle.lists.specs.Lists.{Lists}
use Rattle.machine.specs.Config.{Config, worker_of, rules_b, lists_of, turn_of, put_turn, over}
use Rattle.machine.specs.Table.{insert, pop, append, extend, release, table, request_refusal, move_refusal, on_refusal, off_refusal}
use Rattle.machine.specs.Requests.{at_once_act, request_act, request_of}
use Rattle.machine.specs.Moves.{move_of}
use Rattle.machine.specs.Switch.{with_switch, switch_on_of, switch_off_of}
use Rattle.machine.specs.Total.{OneAnswer, Answered, AllAnswered, MoveNumbers, FirstAt, request_rows, move_rows, on_rows, off_rows, ExactlyByRows}
use Rattle.machine.proofs.Unchanged.{pick}

-- ---- rows

pub one_answer : OneAnswer
one_answer A d x y p q = p ∙ sym q

-- a number that is not 0 is given exactly if its row applies and none above does
pub first-exactly : (k : ℕ) (rows : List Row) → k ≢ 0 → (first rows ≡ k) ↔ FirstAt k rows
unfolding first
first-exactly k [] n = (λ e. absurd (n (sym e)), λ x. absurd x)
first-exactly k (r ∷ rows) n = go r.applies refl (first-exactly k rows n)
  where
    go : (b : Bool) → r.applies ≡ b → (first rows ≡ k) ↔ FirstAt k rows
        → (cond r.applies r.number (first rows) ≡ k) ↔ (((r.applies ≡ true) × (r.number ≡ k)) ⊎ ((r.applies ≡ false) × FirstAt k rows))
    go true e ih = rw e (λ x. inl (refl, x), λ x. ⊎_elim (λ y. y.1) (λ y. absurd (true≢false y.0)) x)
    go false e ih = rw e (λ x. inr (refl, ih.0 x), λ x. ⊎_elim (λ y. absurd (true≢false (sym y.0))) (λ y. ih.1 y.1) x)

-- every row's number is at most 11
abbrev Small : List Row → Type 0
Small [] = Unit {0}
Small (r ∷ rows) = (r.number ≤ damaged) × Small rows

first_small : (rows : List Row) → Small rows → first rows ≤ damaged
unfolding first
first_small [] s = omega arith
first_small (r ∷ rows) s = go r.applies refl (first_small rows s.1)
  where
    go : (b : Bool) → r.applies ≡ b → first rows ≤ damaged → cond r.applies r.number (first rows) ≤ damaged
    go true e l = rw e s.0
    go false e l = rw e l

-- ---- a refusal or an act

module _ (c : Config) (k : ℕ) (act : Outcome Config) where
  unless-answered : k ≤ damaged → act.number ≤ under_way → Answered c (unless k c act)
  unless-answered l a = go (eqb k 0) refl
    where
      go : (b : Bool) → eqb k 0 ≡ b → Answered c (unless k c act)
      go true e = rw e (record { within = omega arith; refused = λ z. absurd (omega arith) })
      go false e = rw e (record { within = l; refused = λ z. (refl, refl) })

  -- a number from 2 up is the refusal's
  unless-number : act.number ≤ under_way → (j : ℕ) → 2 ≤ j → ((unless k c act).number ≡ j) ↔ (k ≡ j)
  unless-number a j l = go (eqb k 0) refl
    where
      go : (b : Bool) → eqb k 0 ≡ b → ((unless k c act).number ≡ j) ↔ (k ≡ j)
      go true e = let z : k ≡ 0 = eqb-true k 0 e in rw e (λ x. absurd (omega arith), λ x. absurd (omega arith))
      go false e = rw e (λ x. x, λ x. x)

-- ---- what the acts answer

pub at-once-done : (l : Lists) (code a b : ℕ) → (at_once_act l code a b).number ≡ done
unfolding at_once_act insert_act pop_act append_act extend_act release_act empty_act
at-once-done l code a b = go (eqb code insert) refl (eqb code pop) refl (eqb code append) refl (eqb code extend) refl (eqb code release) refl (eqb l.got 0) refl
  where
    go : (b1 : Bool) → eqb code insert ≡ b1 → (b2 : Bool) → eqb code pop ≡ b2 → (b3 : Bool) → eqb code append ≡ b3 → (b4 : Bool) → eqb code extend ≡ b4
        → (b5 : Bool) → eqb code release ≡ b5 → (b6 : Bool) → eqb l.got 0 ≡ b6 → (at_once_act l code a b).number ≡ done
    go true e1 b2 e2 b3 e3 b4 e4 b5 e5 b6 e6 = rw e1
    go false e1 true e2 b3 e3 b4 e4 b5 e5 b6 e6 = rw (e1, e2)
    go false e1 false e2 true e3 b4 e4 b5 e5 true e6 = rw (e1, e2, e3, e6)
    go false e1 false e2 true e3 b4 e4 b5 e5 false e6 = rw (e1, e2, e3, e6)
    go false e1 false e2 false e3 true e4 b5 e5 b6 e6 = rw (e1, e2, e3, e4)
    go false e1 false e2 false e3 false e4 true e5 b6 e6 = rw (e1, e2, e3, e4, e5)
    go false e1 false e2 false e3 false e4 false e5 b6 e6 = rw (e1, e2, e3, e4, e5)

pub request-act-small : (c : Config) (w code a b : ℕ) → (request_act c w code a b).number ≤ under_way
unfolding request_act start_act
request-act-small c w code a b = go (staged_b code) refl
  where
    go : (q : Bool) → staged_b code ≡ q → (request_act c w code a b).number ≤ under_way
    go true e = rw e (omega arith)
    go false e = rw e (omega (arith, at-once-done (lists_of c w) code a b))

-- either of two, whichever a test picks
pick_small : {C : Type 0} (b : Bool) (x y : Outcome C) → x.number ≤ under_way → y.number ≤ under_way → (cond b x y).number ≤ under_way
pick_small {C} = pick (λ (o : Outcome C). o.number ≤ under_way)

pub move-act-small : (t : Turn) (flag : Bool) → (move_act t flag).number ≤ under_way
unfolding move_act load_act load_ask load_await write_act exchange_act swap_act mask_act
move-act-small t flag =
    pick_small (eqb t.worker.stage loading) (load_act t) _
    (pick_small (pushes_b t.worker.operation) _ _ (omega arith)
    (pick_small (eqb t.worker.operation take_shared) _ _ (pick_small (eqb (head_word t) 0) _ _ (omega arith) (omega arith))
    (pick_small (eqb t.worker.operation set_tag) _ _ (omega arith)
    (pick_small (eqb t.worker.operation ask_tag) (load_ask t (head_word t)) (load_await t (head_word t))
    (pick_small (eqb (tag_of (head_word t)) 1) _ _ (pick_small (leb max_sightings t.worker.sightings) _ _ (omega arith) (omega arith))
    (pick_small (eqb (tag_of (head_word t)) 2) _ _ (omega arith) (omega arith)))
    (pick_small (eqb (tag_of (head_word t)) 1) _ _ (omega arith) (omega arith))))))
    (pick_small (eqb t.worker.stage writing) (write_act t) _ (omega arith)
    (pick_small (eqb t.worker.stage exchanging) (exchange_act t flag) _ (pick_small (fails_b (head_word t) t.worker.seen flag) _ _ (omega arith) (omega arith))
    (pick_small (eqb t.worker.stage swapping) (swap_act t) (mask_act t) (omega arith) (omega arith))))

-- ---- the tables

request-refusal-small : (c : Config) (w code a b : ℕ) → request_refusal c w code a b ≤ damaged
unfolding table
request-refusal-small c w code a b =
    first_small _ (omega arith, (omega arith, (omega arith, (omega arith, (omega arith, (omega arith, (omega arith, (omega arith, (omega arith, tt)))))))))

move-refusal-small : (c : Config) (w : ℕ) → move_refusal c w ≤ damaged
unfolding move_refusal
move-refusal-small c w = first_small _ (omega arith, (omega arith, (omega arith, (omega arith, tt))))

pub all-answered : AllAnswered
unfolding request_of move_of switch_on_of switch_off_of on_refusal off_refusal
all-answered = (
  λ c w code a b. unless-answered c (request_refusal c w code a b) (request_act c w code a b) (request-refusal-small c w code a b) (request-act-small c w code a b),
  λ c w flag. unless-answered c (move_refusal c w) (over (put_turn c w) (move_act (turn_of c w) flag)) (move-refusal-small c w) (move-act-small (turn_of c w) flag),
  λ c. unless-answered c (on_refusal c) _ (first_small _ (omega arith, (omega arith, tt))) (omega arith),
  λ c. unless-answered c (off_refusal c) _ (first_small _ (omega arith, (omega arith, (omega arith, (omega arith, tt))))) (omega arith),
)

pub move-numbers : MoveNumbers
unfolding move_of move_refusal first one_of
move-numbers c w flag =
    go (not (rules_b c)) (not (ltb w c.state.w)) (not (busy_b (worker_of c w))) (damaged_b (turn_of c w)) (move_act (turn_of c w) flag).number refl (move-act-small (turn_of c w) flag)
  where
    act : (k : ℕ) → (move_act (turn_of c w) flag).number ≡ k → k ≤ under_way → one_of (move_act (turn_of c w) flag).number (0 ∷ 1 ∷ 2 ∷ 3 ∷ 6 ∷ 11 ∷ []) ≡ true
    act zero e l = rw e
    act (suc zero) e l = rw e
    act (suc (suc k)) e l = absurd (omega arith)

    go : (b2 b3 b6 b11 : Bool) (k : ℕ) → (move_act (turn_of c w) flag).number ≡ k → k ≤ under_way
        → one_of (unless (cond b2 2 (cond b3 3 (cond b6 6 (cond b11 11 0)))) c (over (put_turn c w) (move_act (turn_of c w) flag))).number (0 ∷ 1 ∷ 2 ∷ 3 ∷ 6 ∷ 11 ∷ []) ≡ true
    go true b3 b6 b11 k e l = refl
    go false true b6 b11 k e l = refl
    go false false true b11 k e l = refl
    go false false false true k e l = refl
    go false false false false k e l = act k e l

pub exactly-by-rows : ExactlyByRows
unfolding request_of move_of switch_on_of switch_off_of table move_refusal on_refusal off_refusal
exactly-by-rows = (
  λ c w code a b k l. both (unless-number c (request_refusal c w code a b) (request_act c w code a b) (request-act-small c w code a b) k l) (first-exactly k (request_rows c w code a b) (omega arith)),
  λ c w flag k l. both (unless-number c (move_refusal c w) (over (put_turn c w) (move_act (turn_of c w) flag)) (move-act-small (turn_of c w) flag) k l) (first-exactly k (move_rows c w) (omega arith)),
  λ c k l. both (unless-number c (on_refusal c) (outcome done 0 (with_switch c true)) (omega arith) k l) (first-exactly k (on_rows c) (omega arith)),
  λ c k l. both (unless-number c (off_refusal c) (outcome done (tag_of c.state.tagged) (with_switch c false)) (omega arith) k l) (first-exactly k (off_rows c) (omega arith)),
)
  where
    both : {A B C : Type 0} → A ↔ B → B ↔ C → A ↔ C
    both f g = (λ a. g.0 (f.0 a), λ c. f.1 (g.1 c))
