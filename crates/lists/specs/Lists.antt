-- A worker's two lists in what is lent, and what comes of a call on them.
use Rattle.std.specs.Prelude.{ℕ, List, Result}
use Rattle.answers.specs.declared.Refusal.{Refusal}
use Rattle.answers.specs.Refusals.{told}
use Rattle.answers.specs.Rows.{Outcome, outcome}
use Rattle.page.specs.Page.{Lent, lent}
use Rattle.lists.specs.declared.Heads.{Heads}

-- the heads of own and got, and what is lent
pub record Lists : Type 0 where
  pub own : ℕ
  pub got : ℕ
  pub lent : Lent

abbrev pub lists : ℕ → ℕ → ℕ → ℕ → List ℕ → List ℕ → Lists
lists own got n bw page bits = record { own = own; got = got; lent = lent n bw page bits }

-- what came of a call: the answer, the heads, and what the slices hold
abbrev pub came : ℕ → ℕ → Result ℕ Refusal → Heads → List ℕ → List ℕ → Outcome Lists
came n bw result heads page bits = outcome (told result).number (told result).value (lists heads.own heads.got n bw page bits)
