-- Events, their steps on the real machine and on the simple one, and the moments: which act, if any, an event is, read from
-- the configuration before it (document 01, The simple machine: Moments).
use Rattle.std.specs.Prelude.{ℕ, ◌≤◌, ◌≡◌, Bool, true, false, not, ◌&&◌, ◌||◌, cond, List, [], ◌∷◌, eqb, leb, set}
use Rattle.answers.specs.Numbers.{done}
use Rattle.answers.specs.Rows.{Outcome, outcome}
use Rattle.words.specs.Tagged.{tag_of, freeing, no_delayed_free}
use Rattle.page.specs.Page.{place}
use Rattle.operations.specs.Operations.{take_shared, ask_tag, await_tag, loading, exchanging, swapping, masking, busy_b}
use Rattle.staged.specs.Workers.{max_sightings}
use Rattle.staged.specs.Damage.{Turn, head_word}
use Rattle.staged.specs.Moves.{fails_b}
use Rattle.machine.specs.Config.{Config, config, turn_of, worker_of}
use Rattle.machine.specs.Requests.{request_of}
use Rattle.machine.specs.Moves.{move_of}
use Rattle.machine.specs.Switch.{switch_on_of, switch_off_of}
use Rattle.demands.specs.Simple.{Simple, times_in}
use Rattle.demands.specs.Simple as machine

-- a request, a move with its flag, T switched on or off, and a caller's store of a word of the page
pub data Event : Type 0 where
  request : (w code a b : ℕ) → Event
  move : (w : ℕ) → (flag : Bool) → Event
  on : Event
  off : Event
  store : (k v : ℕ) → Event

-- a step of the real machine: the definitions that the contracts cite
unfoldable pub step : Config → Event → Outcome Config
step c (request w code a b) = request_of c w code a b
step c (move w flag) = move_of c w flag
step c on = switch_on_of c
step c off = switch_off_of c
step c (store k v) = outcome done 0 (config c.state (set c.page k v) c.bits)

-- a step of the simple machine; a store is none of its business
unfoldable pub simple_step : Simple → Event → Outcome Simple
simple_step s (request w code a b) = machine.request s w code a b
simple_step s (move w flag) = machine.move s w
simple_step s on = machine.switch_on s
simple_step s off = machine.switch_off s
simple_step s (store k v) = outcome done 0 s

-- the acts: a call that acts at once, refusals included; the exchange, the swap, the masking, the load that ends its
-- operation; or none
pub data Act : Type 0 where
  called : Act
  exchanged : Act
  swapped : Act
  masked : Act
  loaded : Act
  none : Act

-- the loads that end their operation: of 7 with S empty, of 11 with tag 0 or 3 or at the fifth sighting, of 12 unless the tag is 1
unfoldable pub ends_at_load : Turn → Bool
ends_at_load t =
    (eqb t.worker.operation take_shared && eqb (head_word t) 0)
    || (eqb t.worker.operation ask_tag
    && (cond (eqb (tag_of (head_word t)) freeing) (leb max_sightings t.worker.sightings) (not (eqb (tag_of (head_word t)) no_delayed_free))))
    || (eqb t.worker.operation await_tag && not (eqb (tag_of (head_word t)) freeing))

-- the act of a worker with an operation under way, by its stage
unfoldable pub act_of : Turn → Bool → Act
act_of t flag =
    cond (eqb t.worker.stage loading) (cond (ends_at_load t) loaded none)
    (cond (eqb t.worker.stage exchanging) (cond (fails_b (head_word t) t.worker.seen flag) none exchanged)
    (cond (eqb t.worker.stage swapping) swapped (cond (eqb t.worker.stage masking) masked none)))

-- the moment of an event; a move of no worker or of an idle one is a refused call
unfoldable pub moment : Config → Event → Act
moment c (request w code a b) = called
moment c (move w flag) = cond (leb c.state.w w || not (busy_b (worker_of c w))) called (act_of (turn_of c w) flag)
moment c on = called
moment c off = called
moment c (store k v) = none

abbrev pub is_moment : Act → Bool
is_moment called = true
is_moment exchanged = true
is_moment swapped = true
is_moment masked = true
is_moment loaded = true
is_moment none = false

-- ---- runs

-- the premise: a caller stores at words of blocks 1 to n that are no link of a block on a list or in a hand
abbrev pub Allowed : Config → Simple → Event → Type 0
Allowed c s (request w code a b) = Unit {0}
Allowed c s (move w flag) = Unit {0}
Allowed c s on = Unit {0}
Allowed c s off = Unit {0}
Allowed c s (store k v) = (c.state.bw ≤ k) × ((i : ℕ) → k ≡ place c.state.bw i → times_in i s ≡ 0)

-- the simple machine steps at moments alone
abbrev pub follow : Bool → Simple → Event → Simple
follow true s e = (simple_step s e).after
follow false s e = s

abbrev pub AllAllowed : Config → Simple → List Event → Type 0
AllAllowed c s [] = Unit {0}
AllAllowed c s (e ∷ es) = Allowed c s e × AllAllowed (step c e).after (follow (is_moment (moment c e)) s e) es

-- where the real machine and the simple one stand after the events
abbrev pub end_of : Config → List Event → Config
end_of c [] = c
end_of c (e ∷ es) = end_of (step c e).after es

abbrev pub simple_end : Config → Simple → List Event → Simple
simple_end c s [] = s
simple_end c s (e ∷ es) = simple_end (step c e).after (follow (is_moment (moment c e)) s e) es
