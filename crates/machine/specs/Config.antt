-- A configuration: the state and what the lent slices hold; a worker's part of it, and putting a part back
-- (document 01, The page).
use Rattle.std.specs.Prelude.{ℕ, Bool, false, ◌&&◌, cond, List, length, get_or, set, replicate, Option, Result, Ok, Err}
use Rattle.answers.specs.Numbers.{done, bad_page}
use Rattle.answers.specs.Rows.{Outcome, outcome}
use Rattle.answers.specs.Refusals.{number_of, progress, told}
use Rattle.answers.specs.declared.Answer.{Answer}
use Rattle.answers.specs.declared.Refusal.{Refusal}
use Rattle.page.specs.Limits.{max_workers}
use Rattle.page.specs.declared.Layout.{Layout}
use Rattle.page.specs.Page.{Lent, lent, keeps_rules_b, workers_b}
use Rattle.lists.specs.Lists.{Lists}
use Rattle.operations.specs.declared.Worker.{Worker}
use Rattle.operations.specs.Operations.{record8}
use Rattle.staged.specs.Start.{Starter, starter}
use Rattle.staged.specs.Damage.{Turn, turn}
use Rattle.staged.specs.declared.Common.{Common}
use Rattle.machine.specs.declared.State.{State}

pub record Config : Type 0 where
  pub state : State
  pub page : List ℕ
  pub bits : List ℕ

abbrev pub config : State → List ℕ → List ℕ → Config
config s page bits = record { state = s; page = page; bits = bits }

-- an answer, and what state and slices hold then
abbrev pub answers_with : Answer → State → List ℕ → List ℕ → Outcome Config
answers_with a s page bits = outcome a.number a.value (config s page bits)

-- what came of a request or a move
abbrev pub came : Result (Option ℕ) Refusal → State → List ℕ → List ℕ → Outcome Config
came r s page bits = answers_with (progress r) s page bits

-- what came of a call that is never under way
abbrev pub came_told : Result ℕ Refusal → State → List ℕ → List ℕ → Outcome Config
came_told r s page bits = answers_with (told r) s page bits

-- the page's numbers, and what the workers share
abbrev pub layout_of : State → Layout
layout_of s = record { n = s.n; bw = s.bw }

abbrev pub common_of : State → Common
common_of s = record { shared = s.shared; tagged = s.tagged; on = s.on }

abbrev pub state_of : ℕ → ℕ → ℕ → ℕ → ℕ → Bool → List Worker → State
state_of n bw w shared tagged on workers =
    record { n = n; bw = bw; w = w; shared = shared; tagged = tagged; on = on; workers = workers }

-- ---- a worker's part

-- an idle worker with empty lists
abbrev pub blank : Worker
blank = record8 0 0 0 0 0 0 0 0

abbrev pub worker_of : Config → ℕ → Worker
worker_of c w = get_or c.state.workers w blank

abbrev pub lent_of : Config → Lent
lent_of c = lent c.state.n c.state.bw c.page c.bits

abbrev pub lists_of : Config → ℕ → Lists
lists_of c w = record { own = (worker_of c w).own; got = (worker_of c w).got; lent = lent_of c }

abbrev pub starter_of : Config → ℕ → Starter
starter_of c w = starter (worker_of c w) c.bits

abbrev pub turn_of : Config → ℕ → Turn
turn_of c w = turn (worker_of c w) c.state.shared c.state.tagged c.state.on (lent_of c)

-- ---- putting it back

-- one worker's record
abbrev pub put_worker : State → ℕ → Worker → State
put_worker s w k = state_of s.n s.bw s.w s.shared s.tagged s.on (set s.workers w k)

-- own and got alone change
abbrev pub with_heads : Worker → ℕ → ℕ → Worker
with_heads k own got = record8 own got k.operation k.stage k.tag k.hand k.seen k.sightings

abbrev pub put_lists : Config → ℕ → Lists → Config
put_lists c w l = config (put_worker c.state w (with_heads (worker_of c w) l.own l.got)) l.lent.page l.lent.bits

abbrev pub put_starter : Config → ℕ → Starter → Config
put_starter c w k = config (put_worker c.state w k.worker) c.page k.bits

abbrev pub put_turn : Config → ℕ → Turn → Config
put_turn c w t =
    config (state_of c.state.n c.state.bw c.state.w t.shared t.tagged t.on (set c.state.workers w t.worker))
    t.lent.page t.lent.bits

-- an outcome of a part as one of the whole
abbrev pub over : {A : Type 0} → (A → Config) → Outcome A → Outcome Config
over put o = outcome o.number o.value (put o.after)

-- ---- the page rules with W, and the fresh start

unfoldable pub rules_b : Config → Bool
rules_b c = keeps_rules_b (lent_of c) && workers_b c.state.w

-- heads 0, T off, workers idle
abbrev pub fresh_state : ℕ → ℕ → ℕ → State
fresh_state n bw w = state_of n bw w 0 0 false (replicate max_workers blank)

-- the bitmap with every word 0
abbrev pub zeroed : List ℕ → List ℕ
zeroed bits = replicate (length bits) 0

-- what came of a fresh start; where it is refused, a host is given the state whose numbers are all 0
abbrev pub came_fresh : Result State Refusal → List ℕ → List ℕ → Outcome Config
came_fresh (Ok s) page bits = outcome done 0 (config s page bits)
came_fresh (Err e) page bits = outcome (number_of e) 0 (config (fresh_state 0 0 0) page bits)

-- Fresh start: bitmap zeroed, page untouched. Refused with 2, it writes nothing and answers a state whose numbers are all 0.
unfoldable pub fresh_of : ℕ → ℕ → ℕ → List ℕ → List ℕ → Outcome Config
fresh_of n bw w page bits =
    cond (rules_b (config (fresh_state n bw w) page bits)) (outcome done 0 (config (fresh_state n bw w) page (zeroed bits)))
    (outcome bad_page 0 (config (fresh_state 0 0 0) page bits))
