-- Demand 2 for pushes, takes and tags: the exact sequences at each moment, and all that a move leaves, in document 01's words.
-- Premises: the move is not refused, the list concerned runs over sound addresses to 0, and at a push's exchange the block in
-- hand is on none of them and its link is the address part of the word seen. No proof stands in this file.
use Rattle.std.specs.Prelude.{ℕ, ◌+◌, ◌<◌, ◌≡◌, Bool, true, false, ◌||◌, cond, List, [], ◌∷◌, eqb, get_or, set}
use Rattle.answers.specs.Numbers.{done, under_way}
use Rattle.answers.specs.Rows.{Outcome}
use Rattle.words.specs.Tagged.{tag_of, address_of, freeing, no_delayed_free, use_delayed_free}
use Rattle.bitmap.specs.Bitmap.{bit_put}
use Rattle.page.specs.Page.{lent, place}
use Rattle.page.specs.Sequences.{times, Runs, OthersRun}
use Rattle.operations.specs.declared.Worker.{Worker}
use Rattle.operations.specs.Operations.{pushes_b, push_shared, take_shared, push_tagged, take_tagged, set_tag, ask_tag, await_tag, loading, writing, exchanging, swapping, masking}
use Rattle.staged.specs.Start.{Starter, start_refusal, start_of}
use Rattle.staged.specs.Damage.{Turn}
use Rattle.staged.specs.Moves.{move_refusal, move_of}

-- the front block, 0 of an empty list
abbrev pub front : List ℕ → ℕ
front [] = 0
front (x ∷ xs) = x

-- the head word of an operation: S for 6 and 7, else T
abbrev pub head_of : ℕ → Turn → ℕ
head_of op t = cond (eqb op push_shared || eqb op take_shared) t.shared t.tagged

-- ---- a start

-- every field but own and got set afresh: the stage masking for 9, else loading; a tag for 10; a hand for 6 and 8; the others 0
abbrev pub afresh : ℕ → ℕ → ℕ → ℕ → Worker
afresh own got op a =
    record {
      own = own;
      got = got;
      operation = op;
      stage = cond (eqb op take_tagged) masking loading;
      tag = cond (eqb op set_tag) a 0;
      hand = cond (eqb op push_shared || eqb op push_tagged) a 0;
      seen = 0;
      sightings = 0;
    }

-- A start sets every field but own and got afresh; for 6 and 8 the block's bit is set, and no other bit changes.
pub record SetAfresh (c : Starter) (op a : ℕ) (o : Outcome Starter) : Type 0 where
  pub number : o.number ≡ under_way
  pub value : o.value ≡ 0
  pub worker : o.after.worker ≡ afresh c.worker.own c.worker.got op a
  pub bits : o.after.bits ≡ cond (eqb op push_shared || eqb op push_tagged) (bit_put c.bits a 1) c.bits

abbrev pub StartSetsAfresh : Type 0
StartSetsAfresh = (n : ℕ) (on : Bool) (c : Starter) (op a : ℕ) → start_refusal n on c op a ≡ 0 → SetAfresh c op a (start_of n on c op a)

-- A push's request puts the block in hand and sets its bit; S, T and the page are no part of it.
pub record HandTaken (c : Starter) (a : ℕ) (o : Outcome Starter) : Type 0 where
  pub number : o.number ≡ under_way
  pub value : o.value ≡ 0
  pub hand : o.after.worker.hand ≡ a
  pub own : o.after.worker.own ≡ c.worker.own
  pub got : o.after.worker.got ≡ c.worker.got
  pub bits : o.after.bits ≡ bit_put c.bits a 1

abbrev pub PushTakesInHand : Type 0
PushTakesInHand = (n : ℕ) (on : Bool) (c : Starter) (op a : ℕ) → pushes_b op ≡ true → start_refusal n on c op a ≡ 0 → HandTaken c a (start_of n on c op a)

-- ---- what every move that goes on leaves, and every move that ends its operation

-- the record with another stage, word seen and count of sightings; no other field changes
abbrev pub onward : Worker → ℕ → ℕ → ℕ → Worker
onward k stage seen sightings =
    record { own = k.own; got = k.got; operation = k.operation; stage = stage; tag = k.tag; hand = k.hand; seen = seen; sightings = sightings }

-- Under way: value 0, and nothing but the stage, the word seen and the sightings may change.
pub record GoesOn (t : Turn) (stage seen sightings : ℕ) (o : Outcome Turn) : Type 0 where
  pub number : o.number ≡ under_way
  pub value : o.value ≡ 0
  pub worker : o.after.worker ≡ onward t.worker stage seen sightings
  pub shared : o.after.shared ≡ t.shared
  pub tagged : o.after.tagged ≡ t.tagged
  pub on : o.after.on ≡ t.on
  pub lent : o.after.lent ≡ t.lent

-- every field but own and got is 0
abbrev pub at_rest : ℕ → ℕ → Worker
at_rest own got = record { own = own; got = got; operation = 0; stage = 0; tag = 0; hand = 0; seen = 0; sightings = 0 }

-- Done with a value: an end sets every field but own and got to 0; got, S and T are the words given, and nothing else changes.
pub record Ends (t : Turn) (v got toS toT : ℕ) (o : Outcome Turn) : Type 0 where
  pub number : o.number ≡ done
  pub value : o.value ≡ v
  pub worker : o.after.worker ≡ at_rest t.worker.own got
  pub shared : o.after.shared ≡ toS
  pub tagged : o.after.tagged ≡ toT
  pub on : o.after.on ≡ t.on
  pub lent : o.after.lent ≡ t.lent

-- A load that ends its operation tells a value; got, S and T stay.
abbrev pub Told : Turn → ℕ → Outcome Turn → Type 0
Told t v o = Ends t v t.worker.got t.shared t.tagged o

-- ---- a load that does not end its operation stores the word seen

-- The word is stored, the next move is another stage, and nothing else changes.
abbrev pub Loaded : Turn → ℕ → ℕ → Outcome Turn → Type 0
Loaded t word stage o = GoesOn t stage word t.worker.sightings o

-- 6 and 8: the next move writes the link
abbrev pub PushLoads : Type 0
PushLoads =
    (t : Turn) (flag : Bool) → pushes_b t.worker.operation ≡ true → t.worker.stage ≡ loading → move_refusal t ≡ 0
    → Loaded t (head_of t.worker.operation t) writing (move_of t flag)

-- 7, where S is not 0: the next move swaps
abbrev pub TakeLoads : Type 0
TakeLoads =
    (t : Turn) (flag : Bool) → t.worker.operation ≡ take_shared → t.worker.stage ≡ loading → move_refusal t ≡ 0 → (t.shared ≡ 0 → ⊥)
    → Loaded t t.shared swapping (move_of t flag)

-- 10: the next move exchanges, whatever the tag
abbrev pub SetLoads : Type 0
SetLoads =
    (t : Turn) (flag : Bool) → t.worker.operation ≡ set_tag → t.worker.stage ≡ loading → move_refusal t ≡ 0
    → Loaded t t.tagged exchanging (move_of t flag)

-- 11 at tag 2: the next move exchanges
abbrev pub AskLoads : Type 0
AskLoads =
    (t : Turn) (flag : Bool) → t.worker.operation ≡ ask_tag → t.worker.stage ≡ loading → move_refusal t ≡ 0 → tag_of t.tagged ≡ no_delayed_free
    → Loaded t t.tagged exchanging (move_of t flag)

-- 12 at tag 1: the next move loads again
abbrev pub WaitLoads : Type 0
WaitLoads =
    (t : Turn) (flag : Bool) → t.worker.operation ≡ await_tag → t.worker.stage ≡ loading → move_refusal t ≡ 0 → tag_of t.tagged ≡ freeing
    → Loaded t t.tagged loading (move_of t flag)

-- ---- the write of a push

-- The write gives the block in hand the address part of the word seen for its link, and changes no other word: every list that
-- the block is not on keeps its sequence.
pub record Linked (t : Turn) (o : Outcome Turn) : Type 0 where
  pub number : o.number ≡ under_way
  pub value : o.value ≡ 0
  pub worker : o.after.worker ≡ onward t.worker exchanging t.worker.seen t.worker.sightings
  pub link : get_or o.after.lent.page (place t.lent.bw t.worker.hand) 0 ≡ address_of t.worker.seen
  pub lists : OthersRun t.lent o.after.lent (t.worker.hand ∷ [])
  pub lent : o.after.lent
      ≡ lent t.lent.n t.lent.bw (set t.lent.page (place t.lent.bw t.worker.hand) (address_of t.worker.seen)) t.lent.bits
  pub shared : o.after.shared ≡ t.shared
  pub tagged : o.after.tagged ≡ t.tagged
  pub on : o.after.on ≡ t.on

abbrev pub WriteLinksToSeen : Type 0
WriteLinksToSeen = (t : Turn) (flag : Bool) → t.worker.stage ≡ writing → move_refusal t ≡ 0 → Linked t (move_of t flag)

-- ---- a failed exchange

-- A failure changes only the stage: the next move loads again.
abbrev pub OnlyStage : Turn → ℕ → Outcome Turn → Type 0
OnlyStage t stage o = GoesOn t stage t.worker.seen t.worker.sightings o

-- an exchange with the flag set fails
abbrev pub FlagFails : Type 0
FlagFails = (t : Turn) → t.worker.stage ≡ exchanging → move_refusal t ≡ 0 → OnlyStage t loading (move_of t true)

-- an exchange fails where the head differs from the word seen
abbrev pub OtherWordFails : Type 0
OtherWordFails =
    (t : Turn) (flag : Bool) → t.worker.stage ≡ exchanging → move_refusal t ≡ 0 → (head_of t.worker.operation t ≡ t.worker.seen → ⊥)
    → OnlyStage t loading (move_of t flag)

-- ---- a successful exchange of a push

-- What document 01 asks of the block in hand: it is on none of the lists, and its link is the address part of the word seen. The
-- first follows from the second where the list runs, and stands here because the document names it.
pub record HandReady (t : Turn) (xs : List ℕ) : Type 0 where
  pub apart : times t.worker.hand xs ≡ 0
  pub link : get_or t.lent.page (place t.lent.bw t.worker.hand) 0 ≡ address_of t.worker.seen

-- 6: the block in hand is at the front of S, value 0; no page word, no bit and no other head changes, so every other list keeps
-- its sequence
pub record SharedPushed (t : Turn) (xs : List ℕ) (o : Outcome Turn) : Type 0 where
  pub ends : Ends t 0 t.worker.got o.after.shared t.tagged o
  pub list : Runs o.after.lent o.after.shared (t.worker.hand ∷ xs)

abbrev pub PutsFirstOnShared : Type 0
PutsFirstOnShared =
    (t : Turn) (xs : List ℕ) → t.worker.operation ≡ push_shared → t.worker.stage ≡ exchanging → move_refusal t ≡ 0 → t.shared ≡ t.worker.seen
    → Runs t.lent t.shared xs → HandReady t xs → SharedPushed t xs (move_of t false)

-- 8: the same on T, tag kept, value the tag
pub record TaggedPushed (t : Turn) (xs : List ℕ) (o : Outcome Turn) : Type 0 where
  pub ends : Ends t (tag_of t.tagged) t.worker.got t.shared o.after.tagged o
  pub list : Runs o.after.lent (address_of o.after.tagged) (t.worker.hand ∷ xs)
  pub tag : tag_of o.after.tagged ≡ tag_of t.tagged

abbrev pub PutsFirstOnTagged : Type 0
PutsFirstOnTagged =
    (t : Turn) (xs : List ℕ) → t.worker.operation ≡ push_tagged → t.worker.stage ≡ exchanging → move_refusal t ≡ 0 → t.tagged ≡ t.worker.seen
    → Runs t.lent (address_of t.tagged) xs → HandReady t xs → TaggedPushed t xs (move_of t false)

-- A push puts its block to the front.
abbrev pub ExchangePutsFirst : Type 0
ExchangePutsFirst = PutsFirstOnShared × PutsFirstOnTagged

-- ---- takes

-- 7: a load that finds S empty ends with value 0, and got stays as it was
abbrev pub TakeFindsNone : Type 0
TakeFindsNone =
    (t : Turn) (flag : Bool) → t.worker.operation ≡ take_shared → t.worker.stage ≡ loading → move_refusal t ≡ 0 → t.shared ≡ 0
    → Told t 0 (move_of t flag)

-- A take of S yields the whole list and leaves S empty.
pub record SharedTaken (t : Turn) (xs : List ℕ) (o : Outcome Turn) : Type 0 where
  pub ends : Ends t (front xs) t.shared 0 t.tagged o
  pub list : Runs o.after.lent o.after.worker.got xs

abbrev pub TakeYieldsShared : Type 0
TakeYieldsShared =
    (t : Turn) (flag : Bool) (xs : List ℕ) → t.worker.operation ≡ take_shared → t.worker.stage ≡ swapping → move_refusal t ≡ 0
    → Runs t.lent t.shared xs → SharedTaken t xs (move_of t flag)

-- A take of T yields the whole list and keeps the tag.
pub record TaggedTaken (t : Turn) (xs : List ℕ) (o : Outcome Turn) : Type 0 where
  pub ends : Ends t (front xs) (address_of t.tagged) t.shared (tag_of t.tagged) o
  pub list : Runs o.after.lent o.after.worker.got xs

abbrev pub TakeYieldsTagged : Type 0
TakeYieldsTagged =
    (t : Turn) (flag : Bool) (xs : List ℕ) → t.worker.operation ≡ take_tagged → t.worker.stage ≡ masking → move_refusal t ≡ 0
    → Runs t.lent (address_of t.tagged) xs → TaggedTaken t xs (move_of t flag)

-- ---- tags: set tag, ask and wait answer as document 01 says, and the list on T stays

-- An exchange puts a tag.
abbrev pub TagPut : Turn → ℕ → ℕ → Outcome Turn → Type 0
TagPut t v tag o = Ends t v t.worker.got t.shared (address_of t.tagged + tag) o

-- 10: the tag becomes the wanted one, whatever it was; value the tag before
abbrev pub SetPutsTag : Type 0
SetPutsTag =
    (t : Turn) → t.worker.operation ≡ set_tag → t.worker.stage ≡ exchanging → move_refusal t ≡ 0 → t.tagged ≡ t.worker.seen
    → TagPut t (tag_of t.tagged) t.worker.tag (move_of t false)

-- 11: the exchange puts tag 0, value 1
abbrev pub AskPutsZero : Type 0
AskPutsZero =
    (t : Turn) → t.worker.operation ≡ ask_tag → t.worker.stage ≡ exchanging → move_refusal t ≡ 0 → t.tagged ≡ t.worker.seen
    → TagPut t 1 use_delayed_free (move_of t false)

-- 11: four sightings of tag 1 are counted, each stores the word seen, and the next move loads again
abbrev pub SightingIsCounted : Type 0
SightingIsCounted =
    (t : Turn) (flag : Bool) → t.worker.operation ≡ ask_tag → t.worker.stage ≡ loading → move_refusal t ≡ 0 → tag_of t.tagged ≡ freeing
    → t.worker.sightings < 4 → GoesOn t loading t.tagged (t.worker.sightings + 1) (move_of t flag)

-- 11: the fifth sighting ends it with value 0
abbrev pub FifthSightingEnds : Type 0
FifthSightingEnds =
    (t : Turn) (flag : Bool) → t.worker.operation ≡ ask_tag → t.worker.stage ≡ loading → move_refusal t ≡ 0 → tag_of t.tagged ≡ freeing
    → t.worker.sightings ≡ 4 → Told t 0 (move_of t flag)

-- 11: a tag that is neither 1 nor 2 ends it with value 1
abbrev pub AskTellsOne : Type 0
AskTellsOne =
    (t : Turn) (flag : Bool) → t.worker.operation ≡ ask_tag → t.worker.stage ≡ loading → move_refusal t ≡ 0 → (tag_of t.tagged ≡ freeing → ⊥)
    → (tag_of t.tagged ≡ no_delayed_free → ⊥) → Told t 1 (move_of t flag)

-- 12: done with the tag as value unless it is 1
abbrev pub WaitTellsTag : Type 0
WaitTellsTag =
    (t : Turn) (flag : Bool) → t.worker.operation ≡ await_tag → t.worker.stage ≡ loading → move_refusal t ≡ 0 → (tag_of t.tagged ≡ freeing → ⊥)
    → Told t (tag_of t.tagged) (move_of t flag)
