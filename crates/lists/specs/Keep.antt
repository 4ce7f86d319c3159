-- What no call on the lists changes, in any state and whatever it answers: the words that are no links, bit 0 and the
-- bits above n, the numbers and the lengths (document 01, The page). No proof stands in this file.
use Rattle.std.specs.Prelude.{ℕ}
use Rattle.answers.specs.Rows.{Outcome}
use Rattle.page.specs.Keeps.{Keeps}
use Rattle.lists.specs.Lists.{Lists}
use Rattle.lists.specs.Own.{insert_of, pop_of, append_of, extend_of, release_of, empty_of}

-- What is lent is kept so by a call.
abbrev pub Kept : Lists → Outcome Lists → Type 0
Kept c o = Keeps c.lent o.after.lent

pub record KeptByAll (c : Lists) : Type 0 where
  pub insert : (a : ℕ) → Kept c (insert_of c a)
  pub pop : Kept c (pop_of c)
  pub append : Kept c (append_of c)
  pub extend : (a b : ℕ) → Kept c (extend_of c a b)
  pub release : Kept c (release_of c)
  pub empty : Kept c (empty_of c)

abbrev pub CallsKeep : Type 0
CallsKeep = (c : Lists) → KeptByAll c
