-- One move of a worker: load, write, exchange, swap, mask (document 01, Requests 6 to 12).
use Rattle.std.specs.Prelude.{ℕ, ◌+◌, ◌≤◌, ◌≡◌, Bool, true, not, ◌||◌, cond, List, [], ◌∷◌, Option, Result, leb, eqb, set}
use Rattle.answers.specs.declared.Refusal.{Refusal}
use Rattle.answers.specs.Numbers.{done, under_way, bad_page, idle, damaged}
use Rattle.answers.specs.Refusals.{progress}
use Rattle.answers.specs.Rows.{row, first, Outcome, outcome, unless}
use Rattle.words.specs.Tagged.{tag_of, address_of, freeing, no_delayed_free}
use Rattle.page.specs.Limits.{max_blocks, max_width}
use Rattle.page.specs.Page.{Lent, lent, keeps_rules_b, place, block_of}
use Rattle.page.specs.Page as page
use Rattle.operations.specs.declared.Worker.{Worker}
use Rattle.operations.specs.Operations.{pushes_b, on_shared_b, take_shared, set_tag, ask_tag, loading, writing, exchanging, swapping, busy_b}
use Rattle.staged.specs.declared.Common.{Common}
use Rattle.staged.specs.Workers.{max_tag, max_sightings, rested, holding, saw, sighted, at_stage}
use Rattle.staged.specs.Damage.{Turn, turn, turn_of, head_word, damaged_b}

-- ---- what a move leaves

-- what a move gives back and leaves of the record and of what the workers share, with what is lent
abbrev pub leaves : Result (Option ℕ) Refusal → Worker → Common → Lent → Outcome Turn
leaves r k c l = outcome (progress r).number (progress r).value (turn_of k c l)

-- the same, with what the slices hold then
abbrev pub went : ℕ → ℕ → Result (Option ℕ) Refusal → Worker → Common → List ℕ → List ℕ → Outcome Turn
went n bw r k c page bits = leaves r k c (lent n bw page bits)

-- another record, all else as it was
abbrev pub with_worker : Turn → Worker → Turn
with_worker t k = turn k t.shared t.tagged t.on t.lent

-- under way with another record
abbrev pub goes_on : Turn → Worker → Outcome Turn
goes_on t k = outcome under_way 0 (with_worker t k)

-- ended with a value, all else as it was
abbrev pub ends : Turn → ℕ → Outcome Turn
ends t v = outcome done v (with_worker t (rested t.worker))

-- ended with a value and another word for the operation's head
abbrev pub ends_with : Turn → ℕ → ℕ → Outcome Turn
ends_with t v word =
    outcome done v
    (turn (rested t.worker) (cond (on_shared_b t.worker.operation) word t.shared) (cond (on_shared_b t.worker.operation) t.tagged word)
    t.on t.lent)

-- a load that does not end its operation stores the word seen
abbrev pub sees : Turn → ℕ → ℕ → Outcome Turn
sees t word stage = goes_on t (saw t.worker word stage)

-- ---- load, of the operation's head word

-- 7: done with value 0 if S is 0, else swap
abbrev pub load_take : Turn → ℕ → Outcome Turn
load_take t word = cond (eqb word 0) (ends t 0) (sees t word swapping)

-- 11, tag 1: a sighting, and the fifth ends with value 0
abbrev pub sighting : Turn → ℕ → Outcome Turn
sighting t word = cond (leb max_sightings t.worker.sightings) (ends t 0) (goes_on t (sighted t.worker word))

-- 11: tag 1 is a sighting; tag 2 goes to an exchange; tag 0 or 3 ends with value 1
unfoldable pub load_ask : Turn → ℕ → Outcome Turn
load_ask t word = cond (eqb (tag_of word) freeing) (sighting t word) (cond (eqb (tag_of word) no_delayed_free) (sees t word exchanging) (ends t 1))

-- 12: tag 1 answers 1; else done, value the tag
unfoldable pub load_await : Turn → ℕ → Outcome Turn
load_await t word = cond (eqb (tag_of word) freeing) (sees t word loading) (ends t (tag_of word))

-- the load of a word, by the operation
abbrev pub load_word : Turn → ℕ → Outcome Turn
load_word t word =
    cond (pushes_b t.worker.operation) (sees t word writing)
    (cond (eqb t.worker.operation take_shared) (load_take t word)
    (cond (eqb t.worker.operation set_tag) (sees t word exchanging)
    (cond (eqb t.worker.operation ask_tag) (load_ask t word) (load_await t word))))

unfoldable pub load_act : Turn → Outcome Turn
load_act t = load_word t (head_word t)

-- ---- write: the link becomes the address part of the word seen

unfoldable pub write_act : Turn → Outcome Turn
write_act t =
    outcome under_way 0
    (turn (at_stage t.worker exchanging) t.shared t.tagged t.on
    (lent t.lent.n t.lent.bw (set t.lent.page (place t.lent.bw t.worker.hand) (address_of t.worker.seen)) t.lent.bits))

-- ---- exchange

-- it fails where the flag is set or the head differs from the word seen; then only the stage changes
unfoldable pub fails_b : ℕ → ℕ → Bool → Bool
fails_b head seen flag = flag || not (eqb head seen)

-- what the new head rests on, once the page rules and the damage test are passed
pub record Fitting (k : Worker) (bw : ℕ) : Type 0 where
  pub narrow : bw ≤ max_width
  pub hand : pushes_b k.operation ≡ true → k.hand ≤ max_blocks
  pub tag : eqb k.operation set_tag ≡ true → k.tag ≤ max_tag

-- the tag that an exchange without a block puts: the wanted one for 10, 0 for 11
abbrev pub wanted_tag : Worker → ℕ
wanted_tag k = cond (eqb k.operation set_tag) k.tag 0

-- the new head: a push's block with the tag seen, or the address seen with the tag put
unfoldable pub new_word : Worker → ℕ → ℕ
new_word k bw =
    cond (pushes_b k.operation) (page.address_of bw k.hand + tag_of k.seen) (address_of k.seen + wanted_tag k)

-- the value: 1 for 11, else the tag before
unfoldable pub exchange_value : Worker → ℕ
exchange_value k = cond (eqb k.operation ask_tag) 1 (tag_of k.seen)

unfoldable pub exchange_act : Turn → Bool → Outcome Turn
exchange_act t flag =
    cond (fails_b (head_word t) t.worker.seen flag) (goes_on t (at_stage t.worker loading))
    (ends_with t (exchange_value t.worker) (new_word t.worker t.lent.bw))

-- ---- swap and mask: got becomes what was there; the value is its front block's number, or 0

-- S becomes 0
unfoldable pub swap_act : Turn → Outcome Turn
swap_act t =
    outcome done (block_of t.lent.bw t.shared)
    (turn (holding t.worker t.shared) 0 t.tagged t.on t.lent)

-- T keeps only its tag
unfoldable pub mask_act : Turn → Outcome Turn
mask_act t =
    outcome done (block_of t.lent.bw (address_of t.tagged))
    (turn (holding t.worker (address_of t.tagged)) t.shared (tag_of t.tagged) t.on t.lent)

-- ---- a move

unfoldable pub move_refusal : Turn → ℕ
move_refusal t = first (row bad_page (not (keeps_rules_b t.lent)) ∷ row idle (not (busy_b t.worker)) ∷ row damaged (damaged_b t) ∷ [])

unfoldable pub move_act : Turn → Bool → Outcome Turn
move_act t flag =
    cond (eqb t.worker.stage loading) (load_act t)
    (cond (eqb t.worker.stage writing) (write_act t)
    (cond (eqb t.worker.stage exchanging) (exchange_act t flag)
    (cond (eqb t.worker.stage swapping) (swap_act t) (mask_act t))))

unfoldable pub move_of : Turn → Bool → Outcome Turn
move_of t flag = unless (move_refusal t) t (move_act t flag)
