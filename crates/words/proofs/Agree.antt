-- The statements of `Agree`, proved. Assumes nothing.
use Prim.Native.Nat.{ℕ, ◌+◌, ◌%◌, ◌≤◌}
use mathlib.Core.Path.{◌≡◌, refl}
use Rattle.answers.specs.declared.Answer.{Answer}
use Rattle.answers.specs.Rows.{answer}
use Rattle.words.specs.Agree.{TagsAre, SplitThenJoin, JoinThenSplit, Makes, Refuses4, AddressIsSet, TagIsSet}
use Rattle.words.proofs.Tagged.{split-join, join-address, join-tag, address-even, tag_small, set-ptr, set-delay, no-ptr, no-delay}

pub tags-are : TagsAre
tags-are = (refl, refl, refl, refl)

pub split-then-join : SplitThenJoin
split-then-join v = record { address = refl; tag = refl; whole = split-join v; multiple = address-even v; small = tag_small v }

pub join-then-split : JoinThenSplit
join-then-split a t h l = (join-address a t h l, join-tag a t h l)

-- an answer by its word
makes : (r : Answer) (a t : ℕ) → r ≡ answer 0 (a + t) → a % 4 ≡ 0 → t ≤ 3 → Makes r a t
makes r a t e h l = rw e (record { number = refl; value = refl; has_address = join-address a t h l; has_tag = join-tag a t h l })

-- a refusal by its number
refuses : (r : Answer) → r ≡ answer 4 0 → Refuses4 r
refuses r e = rw e (refl, refl)

pub address-is-set : AddressIsSet
address-is-set v a = (λ h. makes _ a (v % 4) (set-ptr v a h) h (tag_small v), λ n. refuses _ (no-ptr v a n))

pub tag-is-set : TagIsSet
tag-is-set v t = (λ l. makes _ _ t (set-delay v t l) (address-even v) l, λ g. refuses _ (no-delay v t g))
