-- What a request or a move leaves as it was, proved. Assumes nothing.
use Prim.Native.Nat.{ℕ}
use mathlib.Core.Path.{◌≡◌, refl}
use mathlib.Core.Bool.{Bool, true, false}
use lib.Dec.{eqb, leb}
use lib.Seq.{get_or-set_other}
use Rattle.answers.specs.Rows.{Outcome}
use Rattle.answers.proofs.Rows.{unless-either}
use Rattle.words.specs.Tagged.{tag_of}
use Rattle.operations.specs.Operations.{take_shared, set_tag, ask_tag, loading, writing, exchanging, swapping, staged_b, pushes_b}
use Rattle.staged.specs.Workers.{max_sightings}
use Rattle.staged.specs.Damage.{Turn, head_word}
use Rattle.staged.specs.Moves.{fails_b, load_ask, load_await, load_act, write_act, exchange_act, swap_act, mask_act, move_act}
use Rattle.machine.specs.Config.{Config, turn_of, put_turn, over, blank}
use Rattle.machine.specs.Table.{request_refusal, move_refusal}
use Rattle.machine.specs.Requests.{request_act, request_of}
use Rattle.machine.specs.Moves.{move_of}
use Rattle.machine.specs.Leaves.{RequestLeaves, RequestsLeaveHeads, StartsLeavePage, MoveLeaves, MovesLeaveBits}
use Rattle.machine.proofs.Unchanged.{pick}

request-act-leaves : (c : Config) (w code a b : ℕ) → RequestLeaves w c (request_act c w code a b).after
unfolding request_act
request-act-leaves c w code a b = go (staged_b code) refl
  where
    go : (q : Bool) → staged_b code ≡ q → RequestLeaves w c (request_act c w code a b).after
    go true e = rw e (record { shared = refl; tagged = refl; on = refl; others = λ u n. get_or-set_other c.state.workers w u _ blank n })
    go false e = rw e (record { shared = refl; tagged = refl; on = refl; others = λ u n. get_or-set_other c.state.workers w u _ blank n })

pub requests-leave-heads : RequestsLeaveHeads
unfolding request_of
requests-leave-heads c w code a b =
    unless-either c (request_act c w code a b) (RequestLeaves w c) (request_refusal c w code a b)
    (record { shared = refl; tagged = refl; on = refl; others = λ u n. refl }) (λ e. request-act-leaves c w code a b)

start-act-leaves : (c : Config) (w code a b : ℕ) → staged_b code ≡ true → (request_act c w code a b).after.page ≡ c.page
unfolding request_act
start-act-leaves c w code a b e = rw e

pub starts-leave-page : StartsLeavePage
unfolding request_of
starts-leave-page c w code a b e =
    unless-either c (request_act c w code a b) (λ (d : Config). d.page ≡ c.page) (request_refusal c w code a b) refl (λ z. start-act-leaves c w code a b e)

move-act-leaves : (t : Turn) (flag : Bool) → ((move_act t flag).after.lent.bits ≡ t.lent.bits) × ((move_act t flag).after.on ≡ t.on)
unfolding move_act load_act load_ask load_await write_act exchange_act swap_act mask_act
move-act-leaves t flag =
    pick P (eqb t.worker.stage loading) _ _ load
    (pick P (eqb t.worker.stage writing) _ _ same
    (pick P (eqb t.worker.stage exchanging) _ _ (pick P (fails_b (head_word t) t.worker.seen flag) _ _ same same) (pick P (eqb t.worker.stage swapping) _ _ same same)))
  where
    P : Outcome Turn → Type 0
    P o = (o.after.lent.bits ≡ t.lent.bits) × (o.after.on ≡ t.on)

    same : (t.lent.bits ≡ t.lent.bits) × (t.on ≡ t.on)
    same = (refl, refl)

    load : P (load_act t)
    load =
        pick P (pushes_b t.worker.operation) _ _ same
        (pick P (eqb t.worker.operation take_shared) _ _ (pick P (eqb (head_word t) 0) _ _ same same)
        (pick P (eqb t.worker.operation set_tag) _ _ same
        (pick P (eqb t.worker.operation ask_tag) _ _
        (pick P (eqb (tag_of (head_word t)) 1) _ _ (pick P (leb max_sightings t.worker.sightings) _ _ same same) (pick P (eqb (tag_of (head_word t)) 2) _ _ same same))
        (pick P (eqb (tag_of (head_word t)) 1) _ _ same same))))

pub moves-leave-bits : MovesLeaveBits
unfolding move_of
moves-leave-bits c w flag =
    unless-either c (over (put_turn c w) (move_act (turn_of c w) flag)) (MoveLeaves w c) (move_refusal c w) (record { bits = refl; on = refl; others = λ u n. refl })
    (λ e. let l = move-act-leaves (turn_of c w) flag in record { bits = l.0; on = l.1; others = λ u n. get_or-set_other c.state.workers w u _ blank n })
