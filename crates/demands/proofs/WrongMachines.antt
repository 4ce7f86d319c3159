-- Wrong machines: each worthless version and slip, as a variant of a rule, and a run on which it and the simple machine part.
-- The real machine keeps up on the same run. Assumes nothing.
use Prim.Native.Nat.{ℕ, ◌+◌}
use mathlib.Core.Path.{◌≡◌, refl}
use mathlib.Core.Bool.{Bool, true, false, ◌&&◌, cond}
use mathlib.Core.List.{List, [], ◌∷◌, ◌++◌}
use lib.Dec.{eqb, leb}
use lib.ListN.{length, set, replicate}
use Rattle.answers.specs.Numbers.{done, under_way, no_such}
use Rattle.answers.specs.Rows.{all, first, Outcome, outcome, refused, unless}
use Rattle.words.specs.Digits.{digit, put_digit}
use Rattle.words.specs.Tagged.{tag_of, freeing}
use Rattle.bitmap.specs.Bitmap.{bit_at, bit_put, any_from, put_run}
use Rattle.page.specs.Page.{lent, fits_b, workers_b, block_b, run_b, good_b, sound_b, place, block_of}
use Rattle.page.specs.Page as page
use Rattle.page.specs.Walk.{walk_from, walk_of, last_of}
use Rattle.page.specs.Sequences.{hit, up_from}
use Rattle.lists.specs.Lists.{Lists}
use Rattle.lists.specs.Own.{with, insert_act, pop_act, append_act, extend_act, release_act, empty_act}
use Rattle.operations.specs.Operations.{push_shared, ask_tag, loading, writing, exchanging, swapping, staged_b, pushes_b, takes_b, on_shared_b, on_tagged_b, word_of, off_b, full_b, first_stage, stages_of, one_of, record8}
use Rattle.staged.specs.Workers.{begun, at_stage}
use Rattle.staged.specs.Start.{start_fits_b, start_act}
use Rattle.staged.specs.Damage.{Turn, turn, head_word, hand_bad, tag_on_shared, seen_bad, head_bad, sightings_bad, tag_bad, any, damaged_b}
use Rattle.staged.specs.Moves.{goes_on, ends, ends_with, load_ask, load_await, load_act, write_act, new_word, exchange_value, fails_b, exchange_act, swap_act, mask_act, move_act}
use Rattle.machine.specs.Config.{Config, config, state_of, lists_of, starter_of, turn_of, put_lists, put_starter, put_turn, over, rules_b, fresh_state}
use Rattle.machine.specs.Table.{pop, append, table, arguments_fit_b, any_named, own_unsound, link_unsound, walk_broken, tests_of, request_refusal, move_refusal, any_busy, on_refusal, off_refusal}
use Rattle.machine.specs.Requests.{at_once_act, request_act, request_of}
use Rattle.machine.specs.Moves.{move_of}
use Rattle.machine.specs.Switch.{switch_on_of, switch_off_of}
use Rattle.demands.specs.Simple.{judged, own_act, act, start}
use Rattle.demands.specs.Simple as simple
use Rattle.demands.specs.Moments.{Event, request, move, on, off, store, step, simple_step, ends_at_load, act_of, moment}
use Rattle.demands.specs.ByHand.{pushes, takes, sets}
use Rattle.demands.specs.Compare.{Machine, keeps_up}

-- ---- a small page: seven blocks of two words, three workers

abbrev small : Config
small = config (fresh_state 7 2 3) (replicate 16 5) (0 ∷ [])

abbrev KeepsUp : Machine → List Event → Bool
KeepsUp f es = keeps_up f small small (start 7 3) es

-- ---- variants

-- another rule for what acts at once
abbrev at_once_by : (Lists → ℕ → ℕ → ℕ → Outcome Lists) → Machine
at_once_by g c (request w code a b) =
    unless (request_refusal c w code a b) c
    (cond (staged_b code) (over (put_starter c w) (start_act (starter_of c w) code a)) (over (put_lists c w) (g (lists_of c w) code a b)))
at_once_by g c (move w flag) = step c (move w flag)
at_once_by g c on = step c on
at_once_by g c off = step c off
at_once_by g c (store k v) = step c (store k v)

-- another rule for moves
abbrev moves_by : (Turn → Bool → Outcome Turn) → Machine
moves_by f c (request w code a b) = step c (request w code a b)
moves_by f c (move w flag) = unless (move_refusal c w) c (over (put_turn c w) (f (turn_of c w) flag))
moves_by f c on = step c on
moves_by f c off = step c off
moves_by f c (store k v) = step c (store k v)

-- another value
abbrev valued : {C : Type 0} → ℕ → Outcome C → Outcome C
valued v o = outcome o.number v o.after

abbrev at_stage_by : ℕ → (Turn → Bool → Outcome Turn) → Turn → Bool → Outcome Turn
at_stage_by stage f t flag = cond (eqb t.worker.stage stage) (f t flag) (move_act t flag)

-- ---- runs

abbrev pops : ℕ → List Event
pops w = request w 2 0 0 ∷ request w 2 0 0 ∷ request w 2 0 0 ∷ []

-- two blocks pushed, taken, put before own's one, and read
abbrev merged : List Event
merged = request 0 1 4 0 ∷ (pushes 1 5 ++ (pushes 2 6 ++ (takes 0 ++ (request 0 3 0 0 ∷ pops 0))))

-- ---- worthless versions

-- refusing all
abbrev refuses : Machine
refuses c e = refused no_such c

-- always block 1, and always value 0, at a pop
abbrev pops_one : Machine
pops_one = at_once_by (λ l code a b. cond (eqb code pop) (valued 1 (pop_act l)) (at_once_act l code a b))

abbrev pops_zero : Machine
pops_zero = at_once_by (λ l code a b. cond (eqb code pop) (valued 0 (pop_act l)) (at_once_act l code a b))

-- the same at a take
abbrev takes_one : Machine
takes_one = moves_by (at_stage_by swapping (λ t flag. valued 1 (swap_act t)))

abbrev takes_zero : Machine
takes_zero = moves_by (at_stage_by swapping (λ t flag. valued 0 (swap_act t)))

-- touching nothing
abbrev touches_nothing : Machine
touches_nothing c e = outcome (step c e).number (step c e).value c

-- linking the block at the request and idling through the moves
abbrev links_at_request : Machine
links_at_request c (request w code a b) =
    cond (eqb code push_shared)
    (unless (request_refusal c w code a b) c
    (outcome under_way 0
    (config
    (state_of c.state.n c.state.bw c.state.w (page.address_of c.state.bw a) c.state.tagged c.state.on (set c.state.workers w (begun (turn_of c w).worker code a)))
    (set c.page (place c.state.bw a) c.state.shared) (bit_put c.bits a 1))))
    (step c (request w code a b))
links_at_request c (move w flag) =
    moves_by
    (λ t f. cond (eqb t.worker.operation push_shared)
    (cond (eqb t.worker.stage exchanging) (ends t 0) (goes_on t (at_stage t.worker (t.worker.stage + 1)))) (move_act t f))
    c (move w flag)
links_at_request c on = step c on
links_at_request c off = step c off
links_at_request c (store k v) = step c (store k v)

-- an invented append count
abbrev invents_count : Machine
invents_count = at_once_by (λ l code a b. cond (eqb code append) (valued 7 (append_act l)) (at_once_act l code a b))

-- ---- slips

-- own before got in append
abbrev own_first : Machine
own_first =
    at_once_by (λ l code a b. cond (eqb code append) (append_act (record { own = l.got; got = l.own; lent = l.lent })) (at_once_act l code a b))

-- only the front block moved
abbrev front_only : Machine
front_only =
    at_once_by
    (λ l code a b. cond (eqb code append)
    (outcome done (length (walk_of l.lent l.got).blocks) (with l l.got 0 (set l.lent.page (place l.lent.bw (block_of l.lent.bw l.got)) l.own) l.lent.bits))
    (at_once_act l code a b))

-- linking to the word seen with its tag still on it
abbrev tag_linked : Machine
tag_linked =
    moves_by
    (at_stage_by writing
    (λ t flag. outcome under_way 0
    (turn (at_stage t.worker exchanging) t.shared t.tagged t.on
    (lent t.lent.n t.lent.bw (set t.lent.page (place t.lent.bw t.worker.hand) t.worker.seen) t.lent.bits))))

-- sightings reset after a failed exchange
abbrev resets_sightings : Machine
resets_sightings =
    moves_by
    (at_stage_by exchanging
    (λ t flag. cond flag
    (goes_on t (record8 t.worker.own t.worker.got t.worker.operation loading t.worker.tag t.worker.hand t.worker.seen 0)) (exchange_act t flag)))

-- stopping at the fourth sighting
abbrev stops_at_fourth : Machine
stops_at_fourth =
    moves_by
    (at_stage_by loading
    (λ t flag. cond (eqb t.worker.operation ask_tag && (eqb (tag_of (head_word t)) freeing && leb 3 t.worker.sightings)) (ends t 0) (load_act t)))

-- clearing the bit of a block when it is taken
abbrev clears_at_take : Machine
clears_at_take =
    moves_by
    (at_stage_by swapping
    (λ t flag. outcome done (swap_act t).value
    (turn (swap_act t).after.worker 0 t.tagged t.on
    (lent t.lent.n t.lent.bw t.lent.page (bit_put t.lent.bits (block_of t.lent.bw t.shared) 0)))))

-- ---- others

-- an exchange without comparing
abbrev compares_not : Machine
compares_not =
    moves_by
    (at_stage_by exchanging (λ t flag. cond flag (goes_on t (at_stage t.worker loading)) (ends_with t (exchange_value t.worker) (new_word t.worker t.lent.bw))))

-- an exchange that ignores the flag
abbrev ignores_flag : Machine
ignores_flag = moves_by (at_stage_by exchanging (λ t flag. exchange_act t false))

-- a take that leaves S
abbrev leaves_shared : Machine
leaves_shared =
    moves_by (at_stage_by swapping (λ t flag. outcome done (swap_act t).value (turn (swap_act t).after.worker t.shared t.tagged t.on t.lent)))

-- a link written before the load
abbrev writes_first : Machine
writes_first =
    moves_by
    (λ t flag. cond (eqb t.worker.stage loading && pushes_b t.worker.operation) (outcome under_way 0 (turn (at_stage t.worker writing) t.shared t.tagged t.on (write_act t).after.lent))
    (cond (eqb t.worker.stage writing)
    (goes_on t (record8 t.worker.own t.worker.got t.worker.operation exchanging t.worker.tag t.worker.hand (head_word t) t.worker.sightings)) (move_act t flag)))

-- a hand not emptied at its moment
abbrev keeps_hand : Machine
keeps_hand = moves_by (λ t flag. cond (eqb (move_act t flag).number done && pushes_b t.worker.operation) (outcome done (move_act t flag).value (turn t.worker (move_act t flag).after.shared (move_act t flag).after.tagged t.on t.lent)) (move_act t flag))

-- ---- runs on which they part

-- T switched on with tag 1, two blocks pushed on it, taken and read
abbrev tagged-run : List Event
tagged-run =
    on ∷ (sets 0 1 ++ (request 1 8 5 0 ∷ move 1 false ∷ move 1 false ∷ move 1 false ∷ request 2 8 6 0 ∷ move 2 false ∷ move 2 false ∷ move 2 false
    ∷ request 0 9 0 0 ∷ move 0 false ∷ request 0 3 0 0 ∷ pops 0))

-- four sightings of tag 1, a failed exchange at tag 2, and tag 1 again
abbrev asked-run : List Event
asked-run =
    on ∷ (sets 0 1 ++ (request 1 11 0 0 ∷ move 1 false ∷ move 1 false ∷ move 1 false ∷ move 1 false
    ∷ (sets 0 2 ++ (move 1 false ∷ move 1 true ∷ (sets 0 1 ++ (move 1 false ∷ []))))))

-- a flagged exchange, and one overtaken by another push
abbrev contended : List Event
contended =
    request 0 6 4 0 ∷ move 0 false ∷ move 0 false ∷ move 0 true ∷ move 0 false ∷ move 0 false
    ∷ (pushes 1 5 ++ (move 0 false ∷ move 0 false ∷ move 0 false ∷ move 0 false ∷ (takes 2 ++ (request 2 3 0 0 ∷ pops 2))))

-- a take between a push's request and its exchange
abbrev between : List Event
between = request 0 6 4 0 ∷ (takes 1 ++ (move 0 false ∷ move 0 false ∷ move 0 false ∷ takes 1))

-- a block taken is still listed; a take leaves nothing; a hand is empty afterwards
abbrev taken : List Event
taken = pushes 0 4 ++ (takes 1 ++ (request 2 1 4 0 ∷ (takes 2 ++ (request 0 1 5 0 ∷ []))))

pub wrong-machines-part :
    (KeepsUp refuses merged ≡ false) × (KeepsUp pops_one merged ≡ false) × (KeepsUp pops_zero merged ≡ false) × (KeepsUp takes_one merged ≡ false) × (KeepsUp takes_zero merged ≡ false)
    × (KeepsUp touches_nothing merged ≡ false) × (KeepsUp links_at_request between ≡ false) × (KeepsUp invents_count merged ≡ false) × (KeepsUp own_first merged ≡ false)
    × (KeepsUp front_only merged ≡ false) × (KeepsUp tag_linked tagged-run ≡ false) × (KeepsUp resets_sightings asked-run ≡ false) × (KeepsUp stops_at_fourth asked-run ≡ false)
    × (KeepsUp clears_at_take taken ≡ false) × (KeepsUp compares_not contended ≡ false) × (KeepsUp ignores_flag contended ≡ false) × (KeepsUp leaves_shared taken ≡ false)
    × (KeepsUp writes_first merged ≡ false) × (KeepsUp keeps_hand taken ≡ false)
unfolding all first digit put_digit bit_at bit_put any_from put_run fits_b workers_b block_b run_b good_b sound_b walk_from last_of hit up_from insert_act pop_act append_act extend_act release_act empty_act staged_b pushes_b takes_b on_shared_b on_tagged_b word_of off_b full_b first_stage stages_of one_of begun start_fits_b start_act hand_bad tag_on_shared seen_bad head_bad sightings_bad tag_bad any damaged_b load_ask load_await load_act write_act new_word exchange_value fails_b exchange_act swap_act mask_act move_act rules_b table arguments_fit_b any_named own_unsound link_unsound walk_broken tests_of move_refusal any_busy on_refusal off_refusal at_once_act request_act request_of move_of switch_on_of switch_off_of judged own_act act step simple_step ends_at_load act_of moment simple.start_act simple.request simple.move simple.switch_on simple.switch_off
wrong-machines-part = (refl, refl, refl, refl, refl, refl, refl, refl, refl, refl, refl, refl, refl, refl, refl, refl, refl, refl, refl)

-- the real machine keeps up on every one of these runs
pub real-machine-keeps-up :
    (KeepsUp step merged ≡ true) × (KeepsUp step between ≡ true) × (KeepsUp step tagged-run ≡ true) × (KeepsUp step asked-run ≡ true) × (KeepsUp step contended ≡ true) × (KeepsUp step taken ≡ true)
unfolding all first digit put_digit bit_at bit_put any_from put_run fits_b workers_b block_b run_b good_b sound_b walk_from last_of hit up_from insert_act pop_act append_act extend_act release_act empty_act staged_b pushes_b takes_b on_shared_b on_tagged_b word_of off_b full_b first_stage stages_of one_of begun start_fits_b start_act hand_bad tag_on_shared seen_bad head_bad sightings_bad tag_bad any damaged_b load_ask load_await load_act write_act new_word exchange_value fails_b exchange_act swap_act mask_act move_act rules_b table arguments_fit_b any_named own_unsound link_unsound walk_broken tests_of move_refusal any_busy on_refusal off_refusal at_once_act request_act request_of move_of switch_on_of switch_off_of judged own_act act step simple_step ends_at_load act_of moment simple.start_act simple.request simple.move simple.switch_on simple.switch_off
real-machine-keeps-up = (refl, refl, refl, refl, refl, refl)
