-- The trail of one block: each event that moved it, the worker, from where to where, and how many blocks were before it there,
-- which is the order in which it is read. No proof stands in this file.
use Rattle.std.specs.Prelude.{ℕ, suc, ◌<◌, ◌≡◌, ◌≢◌, Bool, true, false, ◌&&◌, cond, List, [], ◌∷◌, ltb, eqb, length, get_or}
use Rattle.page.specs.Sequences.{times}
use Rattle.machine.specs.Config.{Config}
use Rattle.demands.specs.Simple.{Simple, Hands, hands_of, times_in}
use Rattle.demands.specs.Moments.{Event, step, moment, is_moment, follow, simple_end}

-- where a block is: with its caller, on S or T, on a worker's own or got, or in a worker's hand
pub data Place : Type 0 where
  caller : Place
  shared : Place
  tagged : Place
  own : (w : ℕ) → Place
  got : (w : ℕ) → Place
  hand : (w : ℕ) → Place

-- how many blocks stand before block i
unfoldable pub before : ℕ → List ℕ → ℕ
before i [] = 0
before i (x ∷ xs) = cond (eqb i x) 0 (suc (before i xs))

-- a place and the count of blocks before it there
pub record Spot : Type 0 where
  pub place : Place
  pub order : ℕ

abbrev pub spot : Place → ℕ → Spot
spot place order = record { place = place; order = order }

abbrev pub is_in : ℕ → List ℕ → Bool
is_in i xs = ltb 0 (times i xs)

-- among the workers from number w on
unfoldable pub spot_among : ℕ → ℕ → List Hands → Spot
spot_among i w [] = spot caller 0
spot_among i w (t ∷ ts) =
    cond (is_in i t.own) (spot (own w) (before i t.own))
    (cond (is_in i t.got) (spot (got w) (before i t.got)) (cond (is_in i t.hand) (spot (hand w) 0) (spot_among i (suc w) ts)))

unfoldable pub spot_of : ℕ → Simple → Spot
spot_of i s =
    cond (is_in i s.shared) (spot shared (before i s.shared))
    (cond (is_in i s.tagged) (spot tagged (before i s.tagged)) (spot_among i 0 s.workers))

abbrev pub place_of : ℕ → Simple → Place
place_of i s = (spot_of i s).place

-- a place by its kind and its worker
unfoldable pub kind_of : Place → ℕ
kind_of caller = 0
kind_of shared = 1
kind_of tagged = 2
kind_of (own w) = 3
kind_of (got w) = 4
kind_of (hand w) = 5

unfoldable pub whose : Place → ℕ
whose caller = 0
whose shared = 0
whose tagged = 0
whose (own w) = w
whose (got w) = w
whose (hand w) = w

-- the same place
unfoldable pub same_place : Place → Place → Bool
same_place p q = eqb (kind_of p) (kind_of q) && eqb (whose p) (whose q)

-- one step of a trail: the event that moved the block, from where, to where, and its order there
pub record Step : Type 0 where
  pub event : Event
  pub from : Place
  pub to : Place
  pub order : ℕ

-- the step of an event, if it moved the block
abbrev pub step_if : Bool → Event → Place → Spot → List Step → List Step
step_if true e from to rest = rest
step_if false e from to rest = record { event = e; from = from; to = to.place; order = to.order } ∷ rest

abbrev pub trail : ℕ → Config → Simple → List Event → List Step
trail i c s [] = []
trail i c s (e ∷ es) =
    step_if (same_place (place_of i s) (place_of i (follow (is_moment (moment c e)) s e))) e (place_of i s) (spot_of i (follow (is_moment (moment c e)) s e))
    (trail i (step c e).after (follow (is_moment (moment c e)) s e) es)

-- ---- what is said of it

-- the steps join up: each begins where the one before ended, the first at one place and the last at another
abbrev pub Joins : Place → List Step → Place → Type 0
Joins from [] to = from ≡ to
Joins from (t ∷ ts) to = (t.from ≡ from) × Joins t.to ts to

-- the trail of any run joins up, from the block's place at the start to its place at the end
abbrev pub TrailJoins : Type 0
TrailJoins = (i : ℕ) (c : Config) (s : Simple) (es : List Event) → Joins (place_of i s) (trail i c s es) (place_of i (simple_end c s es))

-- a place tells where the block truly is
abbrev pub IsAt : ℕ → Simple → Place → Type 0
IsAt i s caller = times_in i s ≡ 0
IsAt i s shared = 0 < times i s.shared
IsAt i s tagged = 0 < times i s.tagged
IsAt i s (own w) = 0 < times i (hands_of s w).own
IsAt i s (got w) = 0 < times i (hands_of s w).got
IsAt i s (hand w) = 0 < times i (hands_of s w).hand

abbrev pub PlaceTells : Type 0
PlaceTells = (i : ℕ) (s : Simple) → IsAt i s (place_of i s)

-- block i is read after k others: it stands at index k of the sequence, and not before
pub record ReadAfter (k i : ℕ) (xs : List ℕ) : Type 0 where
  pub within : k < length xs
  pub here : get_or xs k 0 ≡ i
  pub first : (j : ℕ) → j < k → get_or xs j 0 ≢ i

-- an order tells after how many blocks of its list the block is read; with its caller and in a hand it is 0
abbrev pub IsOrder : ℕ → Simple → Place → ℕ → Type 0
IsOrder i s caller k = k ≡ 0
IsOrder i s shared k = ReadAfter k i s.shared
IsOrder i s tagged k = ReadAfter k i s.tagged
IsOrder i s (own w) k = ReadAfter k i (hands_of s w).own
IsOrder i s (got w) k = ReadAfter k i (hands_of s w).got
IsOrder i s (hand w) k = k ≡ 0

abbrev pub OrderTells : Type 0
OrderTells = (i : ℕ) (s : Simple) → IsOrder i s (place_of i s) (spot_of i s).order

-- a step tells the event that moved the block, where it was before, where it is afterwards, and its order there
pub record MovedBy (i : ℕ) (e : Event) (s s' : Simple) (t : Step) : Type 0 where
  pub by : t.event ≡ e
  pub away : same_place t.from t.to ≡ false
  pub was : IsAt i s t.from
  pub is : IsAt i s' t.to
  pub read : IsOrder i s' t.to t.order

-- each event in turn leaves the block at its place and has no step, or moved it and has the next one
pub data Told (i : ℕ) : Config → Simple → List Event → List Step → Type 0 where
  ends : {c : Config} {s : Simple} → Told i c s [] []
  stays : {c : Config} {s : Simple} {e : Event} {es : List Event} {ts : List Step} → place_of i s ≡ place_of i (follow (is_moment (moment c e)) s e)
      → Told i (step c e).after (follow (is_moment (moment c e)) s e) es ts → Told i c s (e ∷ es) ts
  moves : {c : Config} {s : Simple} {e : Event} {es : List Event} {t : Step} {ts : List Step} → MovedBy i e s (follow (is_moment (moment c e)) s e) t
      → Told i (step c e).after (follow (is_moment (moment c e)) s e) es ts → Told i c s (e ∷ es) (t ∷ ts)

abbrev pub TrailTells : Type 0
TrailTells = (i : ℕ) (c : Config) (s : Simple) (es : List Event) → Told i c s es (trail i c s es)
