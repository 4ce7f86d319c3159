-- Demand 2 for pushes, takes and tags: the statements of `Exact`, proved. Assumes nothing.
use Prim.Native.Nat.{ℕ, ◌+◌, ◌*◌, ◌%◌}
use mathlib.Core.Path.{◌≡◌, refl, sym, ap, ◌∙◌, subst}
use mathlib.Core.Logic.{◌≢◌}
use mathlib.Core.Bool.{Bool, true, false, not, ◌||◌}
use mathlib.Core.List.{List, [], ◌∷◌}
use native.Mathlib.Omega.{arith}
use native.Mathlib.Nat.{zero-div}
use lib.Dec.{eqb}
use lib.ListN.{get_or, set}
use lib.Seq.{get_or-set_same, get_or-set_other}
use borrow.Author.Tests.{eqb-true, eq-eqb, ne_eqb, lt-leb, not-false}
use Rattle.answers.proofs.Rows.{first-none, unless-done}
use Rattle.words.specs.Tagged.{tag_of, address_of, freeing, no_delayed_free}
use Rattle.words.proofs.Tagged.{join-address, join-tag, tag_small}
use Rattle.page.specs.Page.{Lent, Rules, place, block_of, good_b}
use Rattle.page.specs.Page as page
use Rattle.page.specs.Sequences.{times, Listed, Runs}
use Rattle.page.proofs.Counting.{hit-zero}
use Rattle.page.proofs.Rules.{rules-facts, address-even, place_inside, place-apart}
use Rattle.page.proofs.Running.{run-push, run-front, others-run}
use Rattle.operations.specs.Operations.{push_shared, pushes_b, on_shared_b, word_of, first_stage, one_of, paired_b, loading, exchanging}
use Rattle.staged.specs.Workers.{begun}
use Rattle.staged.specs.Start.{start_act, start_refusal, start_of}
use Rattle.staged.specs.Damage.{Turn, head_word, seen_bad, tag_on_shared, damaged_b}
use Rattle.staged.specs.Moves.{load_ask, load_await, load_act, write_act, new_word, exchange_value, fails_b, exchange_act, swap_act, mask_act, move_act, move_refusal, move_of}
use Rattle.staged.specs.Exact.{front, StartSetsAfresh, PushTakesInHand, PushLoads, TakeLoads, SetLoads, AskLoads, WaitLoads, WriteLinksToSeen, OnlyStage, FlagFails, OtherWordFails, PutsFirstOnShared, PutsFirstOnTagged, ExchangePutsFirst, TakeFindsNone, TakeYieldsShared, TakeYieldsTagged, SetPutsTag, AskPutsZero, SightingIsCounted, FifthSightingEnds, AskTellsOne, WaitTellsTag}
use Rattle.operations.proofs.PairArms.{writing-pushes}
use Rattle.staged.proofs.DamageArms.{or_right, passes, is-paired, hand-listed}

-- ---- what a move that is not refused rests on

module _ (t : Turn) (e : move_refusal t ≡ 0) where
  -- it acts
  acts : (flag : Bool) → move_of t flag ≡ move_act t flag
  unfolding move_of
  acts flag = unless-done t (move_act t flag) (move_refusal t) e

  -- the page rules hold
  rules : Rules t.lent
  unfolding move_refusal
  rules = rules-facts t.lent (not-false _ (first-none _ _ _ (omega arith) e).0)

  -- nothing is damaged
  undamaged : damaged_b t ≡ false
  unfolding move_refusal
  undamaged = (first-none _ _ _ (omega arith) (first-none _ _ _ (omega arith) (first-none _ _ _ (omega arith) e).1).1).0

  -- the word that a push on S saw has no tag
  seen-bare : t.worker.operation ≡ push_shared → t.worker.stage ≡ exchanging → tag_of t.worker.seen ≡ 0
  unfolding seen_bad tag_on_shared on_shared_b one_of
  seen-bare op st =
      let address = address_of t.worker.seen in
      let bad = not (eqb address 0 || good_b t.lent.n t.lent.bw address) in
      let f : bad || not (eqb (tag_of t.worker.seen) 0) ≡ false = simp (op, st) at (passes t undamaged 2) in
      eqb-true _ _ (not-false _ (or_right bad _ f))

-- ---- a start

pub start-sets-afresh : StartSetsAfresh
unfolding start_of start_act begun first_stage pushes_b
start-sets-afresh n on c op a e =
    rw (unless-done c (start_act c op a) (start_refusal n on c op a) e) (record { number = refl; value = refl; worker = refl; bits = refl })

pub push-takes-in-hand : PushTakesInHand
unfolding start_of start_act begun
push-takes-in-hand n on c op a push e =
    rw (unless-done c (start_act c op a) (start_refusal n on c op a) e, push) (record { number = refl; value = refl; hand = refl; own = refl; got = refl; bits = refl })

-- ---- loads that go on

pub push-loads : PushLoads
unfolding move_act load_act on_shared_b word_of
push-loads t flag push st e =
    rw (acts t e flag, st, push) (record { number = refl; value = refl; worker = refl; shared = refl; tagged = refl; on = refl; lent = refl })

pub take-loads : TakeLoads
unfolding move_act load_act pushes_b on_shared_b word_of
take-loads t flag op st e some =
    rw (acts t e flag, st, op, ne_eqb t.shared 0 some) (record { number = refl; value = refl; worker = refl; shared = refl; tagged = refl; on = refl; lent = refl })

pub set-loads : SetLoads
unfolding move_act load_act pushes_b on_shared_b word_of
set-loads t flag op st e =
    rw (acts t e flag, st, op) (record { number = refl; value = refl; worker = refl; shared = refl; tagged = refl; on = refl; lent = refl })

pub ask-loads : AskLoads
unfolding move_act load_act load_ask pushes_b on_shared_b word_of
ask-loads t flag op st e two =
    rw (acts t e flag, st, op, two) (record { number = refl; value = refl; worker = refl; shared = refl; tagged = refl; on = refl; lent = refl })

pub wait-loads : WaitLoads
unfolding move_act load_act load_await pushes_b on_shared_b word_of
wait-loads t flag op st e one =
    rw (acts t e flag, st, op, one) (record { number = refl; value = refl; worker = refl; shared = refl; tagged = refl; on = refl; lent = refl })

-- ---- the write

pub write-links-to-seen : WriteLinksToSeen
unfolding move_act write_act
write-links-to-seen t flag st e =
    let at = place t.lent.bw t.worker.hand in
    let to = address_of t.worker.seen in
    rw (acts t e flag, st)
    (record {
      number = refl;
      value = refl;
      worker = refl;
      link = get_or-set_same t.lent.page at to 0 (place_inside t.lent t.worker.hand (rules t e) hand.high);
      lists =
          others-run t.lent.n t.lent.bw t.lent.page (set t.lent.page at to) t.lent.bits t.lent.bits (t.worker.hand ∷ [])
          (λ i g z. record { link = get_or-set_other t.lent.page at (place t.lent.bw i) to 0 (apart i z); listed = record { low = g.low; high = g.high; bit = g.bit } });
      lent = refl;
      shared = refl;
      tagged = refl;
      on = refl;
    })
  where
    -- only a push writes
    hand : Listed t.lent t.worker.hand
    hand = hand-listed t (undamaged t e) (writing-pushes t.worker.operation (ap (paired_b t.worker.operation) (sym st) ∙ is-paired t (undamaged t e)))

    -- another block starts at another word
    apart : (i : ℕ) → times i (t.worker.hand ∷ []) ≡ 0 → place t.lent.bw i ≢ place t.lent.bw t.worker.hand
    apart i z f = hit-zero i t.worker.hand (omega arith) (place-apart t.lent.bw i t.worker.hand (rules t e).some f)

-- ---- a failed exchange

fails : (t : Turn) (flag : Bool) → t.worker.stage ≡ exchanging → move_refusal t ≡ 0 → fails_b (head_word t) t.worker.seen flag ≡ true
    → OnlyStage t loading (move_of t flag)
unfolding move_act exchange_act
fails t flag st e f =
    rw (acts t e flag, st, f) (record { number = refl; value = refl; worker = refl; shared = refl; tagged = refl; on = refl; lent = refl })

pub flag-fails : FlagFails
unfolding fails_b
flag-fails t st e = fails t true st e refl

pub other-word-fails : OtherWordFails
unfolding fails_b on_shared_b word_of
other-word-fails t true st e n = fails t true st e refl
other-word-fails t false st e n = fails t false st e (ap not (ne_eqb (head_word t) t.worker.seen n))

-- ---- a successful exchange of a push

pub puts-first-on-shared : PutsFirstOnShared
unfolding move_act exchange_act fails_b new_word exchange_value pushes_b on_shared_b word_of
puts-first-on-shared t xs op st e same runs ready =
    rw (acts t e false, st, op, eq-eqb t.shared t.worker.seen same, bare)
    (record { ends = record { number = refl; value = refl; worker = refl; shared = refl; tagged = refl; on = refl; lent = refl }; list = list })
  where
    bare : tag_of t.worker.seen ≡ 0
    bare = seen-bare t e op st

    -- the link of the block in hand is S
    list : Runs t.lent (page.address_of t.lent.bw t.worker.hand + 0) (t.worker.hand ∷ xs)
    list =
        let to : get_or t.lent.page (place t.lent.bw t.worker.hand) 0 ≡ t.shared = omega (arith, ready.link, bare) in
        let address : page.address_of t.lent.bw t.worker.hand ≡ page.address_of t.lent.bw t.worker.hand + 0 = omega arith in
        subst (λ (h : ℕ). Runs t.lent h (t.worker.hand ∷ xs)) address
        (run-push t.lent t.shared t.worker.hand xs (hand-listed t (undamaged t e) (ap pushes_b op)) to runs)

pub puts-first-on-tagged : PutsFirstOnTagged
unfolding move_act exchange_act fails_b new_word exchange_value pushes_b on_shared_b word_of
puts-first-on-tagged t xs op st e same runs ready =
    rw (acts t e false, st, op, eq-eqb t.tagged t.worker.seen same)
    (record {
      ends = record { number = refl; value = ap tag_of (sym same); worker = refl; shared = refl; tagged = refl; on = refl; lent = refl };
      list = list;
      tag = join-tag address (tag_of t.worker.seen) even (tag_small t.worker.seen) ∙ ap tag_of (sym same);
    })
  where
    address : ℕ
    address = page.address_of t.lent.bw t.worker.hand

    even : address % 4 ≡ 0
    even = address-even t.lent.bw t.worker.hand

    list : Runs t.lent (address_of (address + tag_of t.worker.seen)) (t.worker.hand ∷ xs)
    list =
        subst (λ (h : ℕ). Runs t.lent h (t.worker.hand ∷ xs)) (sym (join-address address (tag_of t.worker.seen) even (tag_small t.worker.seen)))
        (run-push t.lent (address_of t.tagged) t.worker.hand xs (hand-listed t (undamaged t e) (ap pushes_b op)) (ready.link ∙ ap address_of (sym same)) runs)

pub exchange-puts-first : ExchangePutsFirst
exchange-puts-first = (puts-first-on-shared, puts-first-on-tagged)

-- ---- takes

-- the front of a list by its head
head-front : (c : Lent) → Rules c → (h : ℕ) (xs : List ℕ) → Runs c h xs → block_of c.bw h ≡ front xs
head-front c r h [] x = ap (block_of c.bw) x.chain ∙ zero-div (8 * c.bw)
head-front c r h (i ∷ xs) x = run-front c r h i xs x

pub take-finds-none : TakeFindsNone
unfolding move_act load_act pushes_b on_shared_b word_of
take-finds-none t flag op st e z =
    rw (acts t e flag, st, op, z) (record { number = refl; value = refl; worker = refl; shared = refl; tagged = refl; on = refl; lent = refl })

pub take-yields-shared : TakeYieldsShared
unfolding move_act swap_act
take-yields-shared t flag xs op st e runs =
    rw (acts t e flag, st)
    (record {
      ends =
          record { number = refl; value = head-front t.lent (rules t e) t.shared xs runs; worker = refl; shared = refl; tagged = refl; on = refl; lent = refl };
      list = runs;
    })

pub take-yields-tagged : TakeYieldsTagged
unfolding move_act mask_act
take-yields-tagged t flag xs op st e runs =
    rw (acts t e flag, st)
    (record {
      ends =
          record { number = refl; value = head-front t.lent (rules t e) (address_of t.tagged) xs runs; worker = refl; shared = refl; tagged = refl; on = refl; lent = refl };
      list = runs;
    })

-- ---- tags

pub set-puts-tag : SetPutsTag
unfolding move_act exchange_act fails_b new_word exchange_value pushes_b on_shared_b word_of
set-puts-tag t op st e same =
    rw (acts t e false, st, op, eq-eqb t.tagged t.worker.seen same)
    (record { number = refl; value = ap tag_of (sym same); worker = refl; shared = refl; tagged = ap (λ (v : ℕ). address_of v + t.worker.tag) (sym same); on = refl; lent = refl })

pub ask-puts-zero : AskPutsZero
unfolding move_act exchange_act fails_b new_word exchange_value pushes_b on_shared_b word_of
ask-puts-zero t op st e same =
    rw (acts t e false, st, op, eq-eqb t.tagged t.worker.seen same)
    (record { number = refl; value = refl; worker = refl; shared = refl; tagged = ap (λ (v : ℕ). address_of v + 0) (sym same); on = refl; lent = refl })

pub sighting-is-counted : SightingIsCounted
unfolding move_act load_act load_ask pushes_b on_shared_b word_of
sighting-is-counted t flag op st e f l =
    rw (acts t e flag, st, op, eq-eqb (tag_of t.tagged) freeing f, lt-leb 4 t.worker.sightings l)
    (record { number = refl; value = refl; worker = refl; shared = refl; tagged = refl; on = refl; lent = refl })

pub fifth-sighting-ends : FifthSightingEnds
unfolding move_act load_act load_ask pushes_b on_shared_b word_of
fifth-sighting-ends t flag op st e f k =
    rw (acts t e flag, st, op, eq-eqb (tag_of t.tagged) freeing f, k) (record { number = refl; value = refl; worker = refl; shared = refl; tagged = refl; on = refl; lent = refl })

pub ask-tells-one : AskTellsOne
unfolding move_act load_act load_ask pushes_b on_shared_b word_of
ask-tells-one t flag op st e f g =
    rw (acts t e flag, st, op, ne_eqb (tag_of t.tagged) freeing f, ne_eqb (tag_of t.tagged) no_delayed_free g)
    (record { number = refl; value = refl; worker = refl; shared = refl; tagged = refl; on = refl; lent = refl })

pub wait-tells-tag : WaitTellsTag
unfolding move_act load_act load_await pushes_b on_shared_b word_of
wait-tells-tag t flag op st e n =
    rw (acts t e flag, st, op, ne_eqb (tag_of t.tagged) freeing n) (record { number = refl; value = refl; worker = refl; shared = refl; tagged = refl; on = refl; lent = refl })
