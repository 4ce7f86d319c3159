-- Splitting and joining a tagged word agree both ways, and what setting an address or a tag gives (document 01, The
-- page). No proof stands in this file.
use Rattle.std.specs.Prelude.{ℕ, ◌+◌, ◌-◌, ◌%◌, ◌≤◌, ◌<◌, ◌≡◌, ◌≢◌}
use Rattle.answers.specs.declared.Answer.{Answer}
use Rattle.words.specs.Tagged.{tag_of, address_of, use_delayed_free, freeing, no_delayed_free, never_delayed_free, set_ptr_of, set_delay_of}

-- The four tags by their numerals.
abbrev pub TagsAre : Type 0
TagsAre = (use_delayed_free ≡ 0) × (freeing ≡ 1) × (no_delayed_free ≡ 2) × (never_delayed_free ≡ 3)

-- Any word splits into a multiple of 4 and a tag of at most 3, and they make it again.
pub record Parts (v : ℕ) : Type 0 where
  pub address : address_of v ≡ v - v % 4
  pub tag : tag_of v ≡ v % 4
  pub whole : address_of v + tag_of v ≡ v
  pub multiple : address_of v % 4 ≡ 0
  pub small : tag_of v ≤ 3

abbrev pub SplitThenJoin : Type 0
SplitThenJoin = (v : ℕ) → Parts v

-- A multiple of 4 joined with a tag of at most 3 splits into the two again.
abbrev pub JoinThenSplit : Type 0
JoinThenSplit = (a t : ℕ) → a % 4 ≡ 0 → t ≤ 3 → (address_of (a + t) ≡ a) × (tag_of (a + t) ≡ t)

-- Done, with the word of this address and this tag.
pub record Makes (r : Answer) (address tag : ℕ) : Type 0 where
  pub number : r.number ≡ 0
  pub value : r.value ≡ address + tag
  pub has_address : address_of r.value ≡ address
  pub has_tag : tag_of r.value ≡ tag

-- Refused with 4 and value 0.
abbrev pub Refuses4 : Answer → Type 0
Refuses4 r = (r.number ≡ 4) × (r.value ≡ 0)

-- A multiple of 4 becomes the word's address, and the tag stays; any other number is refused.
abbrev pub AddressIsSet : Type 0
AddressIsSet = (v a : ℕ) → (a % 4 ≡ 0 → Makes (set_ptr_of v a) a (v % 4)) × (a % 4 ≢ 0 → Refuses4 (set_ptr_of v a))

-- A tag of at most 3 becomes the word's tag, and the address stays; any other number is refused.
abbrev pub TagIsSet : Type 0
TagIsSet = (v t : ℕ) → (t ≤ 3 → Makes (set_delay_of v t) (v - v % 4) t) × (3 < t → Refuses4 (set_delay_of v t))
