-- One worker's part of a request, and T's switch: its record, the head words, the switch and what is lent. The page rules are
-- tested before.
use Rattle.std.specs.Prelude.{ℕ, ◌≡◌, Bool, true, false, not, cond, List, eqb, ltb, Option, Result, Ok, Err, ◌||◌}
use Rattle.answers.specs.Numbers.{done, no_such, busy, switched, not_empty}
use Rattle.answers.specs.Rows.{Outcome, outcome, refused}
use Rattle.answers.specs.Refusals.{progress, told}
use Rattle.answers.specs.declared.Refusal.{Refusal}
use Rattle.answers.specs.declared.Refusal.TheVariants.{NoSuch}
use Rattle.words.specs.Tagged.{tag_of, address_of}
use Rattle.page.specs.Page.{Lent, lent}
use Rattle.lists.specs.declared.Heads.{Heads}
use Rattle.lists.specs.Lists.{Lists}
use Rattle.lists.specs.Own.{insert_of, pop_of, append_of, extend_of, release_of, empty_of}
use Rattle.operations.specs.declared.Worker.{Worker}
use Rattle.operations.specs.Operations.{staged_b, busy_b}
use Rattle.staged.specs.Start.{Starter, starter, start_of}
use Rattle.staged.specs.Moves as staged
use Rattle.machine.specs.Config.{Config, config, worker_of, lent_of, turn_of, put_worker, put_turn, with_heads, over, rules_b}
use Rattle.machine.specs.declared.ask.AtOnce.{AtOnce}
use Rattle.machine.specs.declared.ask.AtOnce.TheVariants.{Insert, Pop, Append, Extend, Release, AskEmpty}
use Rattle.machine.specs.Table.{insert, pop, append, extend, release, ask_empty, arguments_fit_b}
use Rattle.machine.specs.Requests.{request_of}
use Rattle.machine.specs.Moves.{move_of}

-- what a request may change: the worker's record, and what the slices hold
pub record Asker : Type 0 where
  pub worker : Worker
  pub lent : Lent

abbrev pub asker : Worker → Lent → Asker
asker k l = record { worker = k; lent = l }

-- a request's answer, and what the record and the slices hold then
abbrev pub answered : ℕ → ℕ → Result (Option ℕ) Refusal → Worker → List ℕ → List ℕ → Outcome Asker
answered n bw r k page bits = outcome (progress r).number (progress r).value (asker k (lent n bw page bits))

-- the same for a request that is never under way
abbrev pub came_at_once : ℕ → ℕ → Result ℕ Refusal → Worker → List ℕ → List ℕ → Outcome Asker
came_at_once n bw r k page bits = outcome (told r).number (told r).value (asker k (lent n bw page bits))

-- a worker's part, and putting it back
abbrev pub asker_of : Config → ℕ → Asker
asker_of c w = asker (worker_of c w) (lent_of c)

abbrev pub put_asker : Config → ℕ → Asker → Config
put_asker c w x = config (put_worker c.state w x.worker) x.lent.page x.lent.bits

-- ---- 1 to 5 and 13

-- the number of a request that acts at once
abbrev pub number_of : AtOnce → ℕ
number_of Insert = insert
number_of Pop = pop
number_of Append = append
number_of Extend = extend
number_of Release = release
number_of AskEmpty = ask_empty

-- one of the six
abbrev pub acts_b : ℕ → Bool
acts_b code = eqb code insert || eqb code pop || eqb code append || eqb code extend || eqb code release || eqb code ask_empty

-- a number means the request that has it; any other is refused with 4
abbrev pub numbered : ℕ → Result ℕ Refusal
numbered code = cond (acts_b code) (Ok code) (Err NoSuch)

abbrev pub meant : Result AtOnce Refusal → Result ℕ Refusal
meant (Ok request) = Ok (number_of request)
meant (Err refusal) = Err refusal

abbrev pub heads_in : Worker → Heads
heads_in k = record { own = k.own; got = k.got }

abbrev pub lists_in : Asker → Lists
lists_in x = record { own = x.worker.own; got = x.worker.got; lent = x.lent }

-- own and got alone change
abbrev pub of_lists : Asker → Outcome Lists → Outcome Asker
of_lists x o = outcome o.number o.value (asker (with_heads x.worker o.after.own o.after.got) o.after.lent)

-- each as it refuses and acts
unfoldable pub at_once_of : Lists → ℕ → ℕ → ℕ → Outcome Lists
at_once_of l code a b =
    cond (eqb code insert) (insert_of l a)
    (cond (eqb code pop) (pop_of l)
    (cond (eqb code append) (append_of l)
    (cond (eqb code extend) (extend_of l a b) (cond (eqb code release) (release_of l) (empty_of l)))))

-- ---- 6 to 12

abbrev pub starter_in : Asker → Starter
starter_in x = starter x.worker x.lent.bits

-- no page word changes
abbrev pub of_starter : Asker → Outcome Starter → Outcome Asker
of_starter x o = outcome o.number o.value (asker o.after.worker (lent x.lent.n x.lent.bw x.lent.page o.after.bits))

-- ---- any request, of a worker that there is

-- none of 6 to 12: refused with 4 or 5, or it acts at once. under: the worker has an operation under way
unfoldable pub ask_lists_of : Bool → Lists → ℕ → ℕ → ℕ → Outcome Lists
ask_lists_of under l code a b =
    cond (not (arguments_fit_b l.lent.n code a b)) (refused no_such l) (cond under (refused busy l) (at_once_of l code a b))

-- and what it does to the whole record: own and got alone change
abbrev pub on_lists : Bool → Asker → ℕ → ℕ → ℕ → Outcome Asker
on_lists under x code a b = of_lists x (ask_lists_of under (lists_in x) code a b)

unfoldable pub ask_of : Bool → Asker → ℕ → ℕ → ℕ → Outcome Asker
ask_of on x code a b =
    cond (staged_b code) (of_starter x (start_of x.lent.n on (starter_in x) code a)) (of_lists x (ask_lists_of (busy_b x.worker) (lists_in x) code a b))

-- ---- the whole by its parts

-- past the page rules and the worker, a request is its worker's part of it
abbrev pub RequestsByPart : Type 0
RequestsByPart =
    (c : Config) (w code a b : ℕ) → rules_b c ≡ true → ltb w c.state.w ≡ true
    → over (put_asker c w) (ask_of c.state.on (asker_of c w) code a b) ≡ request_of c w code a b

-- and a move is its worker's turn
abbrev pub MovesByTurn : Type 0
MovesByTurn =
    (c : Config) (w : ℕ) (flag : Bool) → rules_b c ≡ true → ltb w c.state.w ≡ true → over (put_turn c w) (staged.move_of (turn_of c w) flag) ≡ move_of c w flag

-- ---- T's switch: its word and whether it is on

-- an answer, T's word and its switch
pub record Toggled : Type 0 where
  pub number : ℕ
  pub value : ℕ
  pub tagged : ℕ
  pub on : Bool

abbrev pub toggled : ℕ → ℕ → ℕ → Bool → Toggled
toggled number v tagged on = record { number = number; value = v; tagged = tagged; on = on }

-- an answer, and what T's word and its switch are then
abbrev pub toggles : Result ℕ Refusal → ℕ → Bool → Toggled
toggles r tagged on = toggled (told r).number (told r).value tagged on

unfoldable pub toggle_on_of : ℕ → Bool → Toggled
toggle_on_of tagged on = cond on (toggled switched 0 tagged on) (toggled done 0 0 true)

-- any: a worker has an operation under way
unfoldable pub toggle_off_of : Bool → ℕ → Bool → Toggled
toggle_off_of any tagged on =
    cond any (toggled busy 0 tagged on)
    (cond (not on) (toggled switched 0 tagged on)
    (cond (not (eqb (address_of tagged) 0)) (toggled not_empty 0 tagged on) (toggled done (tag_of tagged) 0 false)))
