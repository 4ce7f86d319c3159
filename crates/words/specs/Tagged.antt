-- A tagged word is an address, a multiple of 4, plus a tag of 0 to 3 (document 01, The page).
use Rattle.std.specs.Prelude.{ℕ, ◌+◌, ◌-◌, ◌%◌, cond, eqb, leb}
use Rattle.answers.specs.declared.Answer.{Answer}
use Rattle.answers.specs.Numbers.{done, no_such}
use Rattle.answers.specs.Rows.{answer}

-- the tag: v mod 4
abbrev pub tag_of : ℕ → ℕ
tag_of v = v % 4

-- the address part: v − v mod 4
abbrev pub address_of : ℕ → ℕ
address_of v = v - v % 4

-- the tags' names
abbrev pub use_delayed_free : ℕ
use_delayed_free = 0

abbrev pub freeing : ℕ
freeing = 1

abbrev pub no_delayed_free : ℕ
no_delayed_free = 2

abbrev pub never_delayed_free : ℕ
never_delayed_free = 3

-- another address with the word's tag; 4 where the address is no multiple of 4
unfoldable pub set_ptr_of : ℕ → ℕ → Answer
set_ptr_of v address = cond (eqb (address % 4) 0) (answer done (address + tag_of v)) (answer no_such 0)

-- another tag with the word's address; 4 where the tag is above 3
unfoldable pub set_delay_of : ℕ → ℕ → Answer
set_delay_of v tag = cond (leb tag 3) (answer done (address_of v + tag)) (answer no_such 0)
