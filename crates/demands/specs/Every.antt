-- Demand 3: every interleaving. For every list of allowed events, from any configuration that stands for a simple one and so
-- from every fresh page, the real machine answers as the simple one does. No proof stands in this file.
use Rattle.std.specs.Prelude.{ℕ, ◌+◌, ◌≤◌, ◌<◌, ◌≡◌, ◌≢◌, ◌↔◌, Bool, true, false, ◌&&◌, List, [], ◌∷◌, eqb, length}
use Rattle.answers.specs.Numbers.{done, under_way, none_left, damaged}
use Rattle.answers.specs.Rows.{answer}
use Rattle.words.specs.Tagged.{freeing}
use Rattle.bitmap.specs.Bitmap.{listed_count}
use Rattle.page.specs.Sequences.{one}
use Rattle.operations.specs.Operations.{ask_tag, busy_b}
use Rattle.machine.specs.Config.{Config, worker_of, lent_of, fresh_of}
use Rattle.machine.specs.Readers.{listed_count_of, first_unlisted_of, entry_refusal}
use Rattle.demands.specs.Simple.{Simple, Hands, start, hands_of, times_in, sum_over}
use Rattle.demands.specs.Moments.{Event, request, move, on, off, store, step, simple_step, Act, called, exchanged, swapped, masked, loaded, none, moment, is_moment, follow, AllAllowed, end_of, simple_end}
use Rattle.demands.specs.Relation.{Sim}

-- ---- one event

-- at its moment an event gives the simple machine's answer
pub record Alike (c : Config) (s : Simple) (e : Event) : Type 0 where
  pub number : (step c e).number ≡ (simple_step s e).number
  pub value : (step c e).value ≡ (simple_step s e).value

-- a move without a moment is under way, with value 0; a store is no call
abbrev pub Quiet : Config → Event → Type 0
Quiet c (request w code a b) = ⊥
Quiet c (move w flag) = ((step c (move w flag)).number ≡ under_way) × ((step c (move w flag)).value ≡ 0)
Quiet c on = ⊥
Quiet c off = ⊥
Quiet c (store k v) = Unit {0}

abbrev pub Answers : Bool → Config → Simple → Event → Type 0
Answers true c s e = Alike c s e
Answers false c s e = Quiet c e

-- the act of an operation under way
abbrev pub is_act : Act → Bool
is_act called = false
is_act exchanged = true
is_act swapped = true
is_act masked = true
is_act loaded = true
is_act none = false

-- a move of a worker with an operation under way is answered 0 exactly at its moment
abbrev pub DoneAtMoment : Config → Event → Type 0
DoneAtMoment c (request w code a b) = Unit {0}
DoneAtMoment c (move w flag) = (moment c (move w flag) ≢ called) → ((step c (move w flag)).number ≡ done) ↔ (is_act (moment c (move w flag)) ≡ true)
DoneAtMoment c on = Unit {0}
DoneAtMoment c off = Unit {0}
DoneAtMoment c (store k v) = Unit {0}

-- a request 11 that ends with number 0 has value 0 exactly when the tag at its moment is 1
abbrev pub AskTells : Config → Simple → Event → Type 0
AskTells c s (request w code a b) = Unit {0}
AskTells c s (move w flag) =
    (hands_of s w).note ≡ ask_tag → (step c (move w flag)).number ≡ done → ((step c (move w flag)).value ≡ 0) ↔ (s.tag ≡ freeing)
AskTells c s on = Unit {0}
AskTells c s off = Unit {0}
AskTells c s (store k v) = Unit {0}

-- what is said of each event
pub record Said (c : Config) (s : Simple) (e : Event) : Type 0 where
  pub answers : Answers (is_moment (moment c e)) c s e
  pub undamaged : (step c e).number ≢ damaged
  pub at_moment : DoneAtMoment c e
  pub ask : AskTells c s e

-- ---- operations begun and acted, counted from the run

-- worker w begins one: a request of its own is answered 1
abbrev pub begins : ℕ → Config → Event → ℕ
begins w c (request v code a b) = one (eqb v w && eqb (step c (request v code a b)).number under_way)
begins w c (move v flag) = 0
begins w c on = 0
begins w c off = 0
begins w c (store k v) = 0

-- an operation of worker w acts: a move of its own is the moment of an act
abbrev pub acts : ℕ → Config → Event → ℕ
acts w c (request v code a b) = 0
acts w c (move v flag) = one (eqb v w && is_act (moment c (move v flag)))
acts w c on = 0
acts w c off = 0
acts w c (store k v) = 0

abbrev pub counted : (Config → Event → ℕ) → Config → List Event → ℕ
counted f c [] = 0
counted f c (e ∷ es) = f c e + counted f (step c e).after es

abbrev pub busy_one : Config → ℕ → ℕ
busy_one c w = one (busy_b (worker_of c w))

-- ---- a run

-- of every event, with the configuration and the simple state before it
abbrev pub Throughout : (Config → Simple → Event → Type 0) → Config → Simple → List Event → Type 0
Throughout P c s [] = Unit {0}
Throughout P c s (e ∷ es) = P c s e × Throughout P (step c e).after (follow (is_moment (moment c e)) s e) es

pub record Refines (c : Config) (s : Simple) (es : List Event) : Type 0 where
  -- answers: each event's, in order; 11 is never given
  pub said : Throughout Said c s es
  -- lists, hands, tag, switch and notes are the simple machine's afterwards, and each block is in one place
  pub lists : Sim (end_of c es) (simple_end c s es)
  -- once: of each worker every operation begun has acted once, but the one under way
  pub once : (w : ℕ) → w < c.state.w → counted (begins w) c es + busy_one c w ≡ counted (acts w) c es + busy_one (end_of c es) w

abbrev pub EveryInterleaving : Type 0
EveryInterleaving = (c : Config) (s : Simple) → Sim c s → (es : List Event) → AllAllowed c s es → Refines c s es

-- a fresh page stands for empty lists and hands
abbrev pub FreshStands : Type 0
FreshStands =
    (n bw w : ℕ) (page bits : List ℕ) → (fresh_of n bw w page bits).number ≡ done → Sim (fresh_of n bw w page bits).after (start n w)

-- demand 3
abbrev pub FromFresh : Type 0
FromFresh =
    (n bw w : ℕ) (page bits : List ℕ) → (fresh_of n bw w page bits).number ≡ done
    → (es : List Event) → AllAllowed (fresh_of n bw w page bits).after (start n w) es → Refines (fresh_of n bw w page bits).after (start n w) es

-- ---- what follows at any point of a run

-- the blocks on lists and in hands
abbrev pub blocks_held : Hands → ℕ
blocks_held t = length t.own + length t.got + length t.hand

abbrev pub blocks_in : Simple → ℕ
blocks_in s = length s.shared + length s.tagged + sum_over blocks_held s.workers

pub record Stands (c : Config) (s : Simple) : Type 0 where
  -- each block is with its caller or in exactly one place
  pub place : (i : ℕ) → times_in i s ≤ 1
  -- set bits number the sum of all sequence lengths and full hands
  pub bits : listed_count c.bits c.state.n ≡ blocks_in s
  -- T is 0 while it is off
  pub null : c.state.on ≡ false → c.state.tagged ≡ 0
  -- own and got together have at most n
  pub bound : (w : ℕ) → w < c.state.w → length (hands_of s w).own + length (hands_of s w).got ≤ c.state.n
  -- the listed count is that sum
  pub count : listed_count_of (lent_of c) c.state.w ≡ answer done (blocks_in s)
  -- first unlisted is the smallest block in nobody's list or hand, and 10 exactly if there is none
  pub first : (i : ℕ) → first_unlisted_of (lent_of c) c.state.w ≡ answer done i
      → (1 ≤ i) × (i ≤ c.state.n) × (times_in i s ≡ 0) × ((j : ℕ) → 1 ≤ j → j < i → times_in j s ≡ 1)
  pub full : first_unlisted_of (lent_of c) c.state.w ≡ answer none_left 0 ↔ ((j : ℕ) → 1 ≤ j → j ≤ c.state.n → times_in j s ≡ 1)
  -- an entry can be viewed exactly when its block is with its caller
  pub entry : (i : ℕ) → 1 ≤ i → i ≤ c.state.n → (entry_refusal (lent_of c) c.state.w i ≡ done) ↔ (times_in i s ≡ 0)

abbrev pub WhatStands : Type 0
WhatStands = (c : Config) (s : Simple) → Sim c s → Stands c s
