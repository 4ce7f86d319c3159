-- Document 01's table, row by row, the smallest number first (document 01, Numbers given back).
use Rattle.std.specs.Prelude.{ℕ, zero, suc, Bool, false, not, ◌&&◌, ◌||◌, cond, List, [], ◌∷◌, ltb, eqb}
use Rattle.answers.specs.Numbers.{bad_page, no_worker, no_such, busy, idle, switched, not_empty, listed, none_left, damaged}
use Rattle.answers.specs.Rows.{row, first}
use Rattle.words.specs.Tagged.{address_of}
use Rattle.bitmap.specs.Bitmap.{any_from}
use Rattle.page.specs.Page.{block_b, run_b, listed_b, link_at, sound_in}
use Rattle.page.specs.Walk.{walk_of}
use Rattle.operations.specs.declared.Worker.{Worker}
use Rattle.operations.specs.Operations.{staged_b, pushes_b, takes_b, on_tagged_b, busy_b}
use Rattle.staged.specs.Start.{start_fits_b}
use Rattle.staged.specs.Damage.{damaged_b}
use Rattle.machine.specs.Config.{Config, worker_of, lent_of, turn_of, rules_b}

-- ---- the requests that act at once

abbrev pub insert : ℕ
insert = 1

abbrev pub pop : ℕ
pop = 2

abbrev pub append : ℕ
append = 3

abbrev pub extend : ℕ
extend = 4

abbrev pub release : ℕ
release = 5

abbrev pub ask_empty : ℕ
ask_empty = 13

-- ---- what the rows ask

-- the tests behind the rows, whichever machine fills them in
pub record Tests : Type 0 where
  pub rules : Bool
  pub worker : Bool
  pub arguments : Bool
  pub busy : Bool
  pub off : Bool
  pub holds : Bool
  pub listed : Bool
  pub empty : Bool
  pub damaged : Bool

-- the table, the smallest number first
unfoldable pub table : ℕ → Tests → ℕ
table code t =
    first
    -- n, bw, W or a slice length breaks the page rules
    (row bad_page t.rules
    -- no such worker
    ∷ row no_worker t.worker
    -- no such operation; block not 1 to n; extend by 0 or past n; tag above 3
    ∷ row no_such t.arguments
    -- request to a worker with an operation under way
    ∷ row busy t.busy
    -- operation on T while off
    ∷ row switched (on_tagged_b code && t.off)
    -- take while got is not empty
    ∷ row not_empty (takes_b code && t.holds)
    -- a named block's bit is set
    ∷ row listed t.listed
    -- pop with own empty
    ∷ row none_left (eqb code pop && t.empty)
    -- damaged
    ∷ row damaged t.damaged
    ∷ [])

-- the arguments that a request's code asks for
unfoldable pub arguments_fit_b : ℕ → ℕ → ℕ → ℕ → Bool
arguments_fit_b n code a b =
    cond (staged_b code) (start_fits_b n code a)
    (cond (eqb code insert) (block_b n a)
    (cond (eqb code extend) (run_b n a b) (eqb code pop || eqb code append || eqb code release || eqb code ask_empty)))

-- the blocks that a request names: a, or for extend a to a+b−1
unfoldable pub any_named : (ℕ → Bool) → ℕ → ℕ → ℕ → Bool
any_named is code a b = ((eqb code insert || pushes_b code) && is a) || (eqb code extend && any_from is a b)

-- ---- the tests on a configuration

-- an own head that is not sound (insert, pop, extend, append with got not empty; release walks from it)
unfoldable pub own_unsound : Config → ℕ → ℕ → Bool
own_unsound c w code =
    (eqb code insert || eqb code pop || eqb code extend || (eqb code append && not (eqb (worker_of c w).got 0))) && not (sound_in (lent_of c) (worker_of c w).own)

-- for pop also the link of its first block
unfoldable pub link_unsound : Config → ℕ → ℕ → Bool
link_unsound c w code = eqb code pop && not (sound_in (lent_of c) (link_at c.page (worker_of c w).own))

-- for append the walk of got, for release that of own
unfoldable pub walk_broken : Config → ℕ → ℕ → Bool
walk_broken c w code =
    (eqb code append && not (eqb (worker_of c w).got 0) && not (walk_of (lent_of c) (worker_of c w).got).ends)
    || (eqb code release && not (walk_of (lent_of c) (worker_of c w).own).ends)

unfoldable pub tests_of : Config → ℕ → ℕ → ℕ → ℕ → Tests
tests_of c w code a b = record {
  rules = not (rules_b c);
  worker = not (ltb w c.state.w);
  arguments = not (arguments_fit_b c.state.n code a b);
  busy = busy_b (worker_of c w);
  off = not c.state.on;
  holds = not (eqb (worker_of c w).got 0);
  listed = any_named (listed_b c.bits) code a b;
  empty = eqb (worker_of c w).own 0;
  damaged = own_unsound c w code || link_unsound c w code || walk_broken c w code;
}

abbrev pub request_refusal : Config → ℕ → ℕ → ℕ → ℕ → ℕ
request_refusal c w code a b = table code (tests_of c w code a b)

-- ---- a move gets only 2, 3, 6 or 11

unfoldable pub move_refusal : Config → ℕ → ℕ
move_refusal c w =
    first
    (row bad_page (not (rules_b c))
    ∷ row no_worker (not (ltb w c.state.w))
    ∷ row idle (not (busy_b (worker_of c w)))
    ∷ row damaged (damaged_b (turn_of c w))
    ∷ [])

-- ---- the switch

-- any of the first m workers has an operation under way
unfoldable pub any_busy : List Worker → ℕ → Bool
any_busy [] m = false
any_busy (k ∷ ks) zero = false
any_busy (k ∷ ks) (suc m) = busy_b k || any_busy ks m

-- switching on while on
unfoldable pub on_refusal : Config → ℕ
on_refusal c = first (row bad_page (not (rules_b c)) ∷ row switched c.state.on ∷ [])

-- switching off while any worker has an operation under way, while off, or while T's address part is not 0
unfoldable pub off_refusal : Config → ℕ
off_refusal c =
    first
    (row bad_page (not (rules_b c))
    ∷ row busy (any_busy c.state.workers c.state.w)
    ∷ row switched (not c.state.on)
    ∷ row not_empty (not (eqb (address_of c.state.tagged) 0))
    ∷ [])
