-- How the contracts of `start` and `make` read what a call is lent and what it gives back: each field is what its name
-- says, so that what the other statements say of a configuration, they say of the code. No proof stands in this file.
use Rattle.std.specs.Prelude.{ℕ, ◌≡◌, List, Option, Some, None, Result, Ok, Err}
use Rattle.answers.specs.declared.Refusal.{Refusal}
use Rattle.answers.specs.Refusals.{number_of}
use Rattle.answers.specs.Rows.{Outcome}
use Rattle.page.specs.Page.{lent}
use Rattle.operations.specs.declared.Worker.{Worker}
use Rattle.staged.specs.declared.Common.{Common}
use Rattle.staged.specs.Start.{Starter, starter, started}
use Rattle.staged.specs.Damage.{Turn, turn_of}
use Rattle.staged.specs.Moves.{went}

-- An accepted start is under way with value 0, and a refused one has its refusal's number and value 0.
pub record Begins (r : Result (Unit {0}) Refusal) (o : Outcome Starter) : Type 0 where
  pub under_way : r ≡ Ok tt → (o.number ≡ 1) × (o.value ≡ 0)
  pub refused : (e : Refusal) → r ≡ Err e → (o.number ≡ number_of e) × (o.value ≡ 0)

-- A start is read as its worker's record and the bitmap before and after.
pub record StartRead (k then : Worker) (bits after : List ℕ) (r : Result (Unit {0}) Refusal) (c : Starter) (o : Outcome Starter) : Type 0 where
  pub worker : c.worker ≡ k
  pub bitmap : c.bits ≡ bits
  pub answer : Begins r o
  pub worker_after : o.after.worker ≡ then
  pub bitmap_after : o.after.bits ≡ after

abbrev pub StartIsRead : Type 0
StartIsRead = (k then : Worker) (bits after : List ℕ) (r : Result (Unit {0}) Refusal) → StartRead k then bits after r (starter k bits) (started r then after)

-- A move that ended has number 0 and its value, one under way number 1 and value 0, and a refused one its refusal's
-- number and value 0.
pub record Progresses (r : Result (Option ℕ) Refusal) (o : Outcome Turn) : Type 0 where
  pub ended : (v : ℕ) → r ≡ Ok (Some v) → (o.number ≡ 0) × (o.value ≡ v)
  pub under_way : r ≡ Ok None → (o.number ≡ 1) × (o.value ≡ 0)
  pub refused : (e : Refusal) → r ≡ Err e → (o.number ≡ number_of e) × (o.value ≡ 0)

-- A move is read as its worker's record, S, T, the switch, n, bw, the page before and after, and the bitmap.
pub record MoveRead (k then : Worker) (common left : Common) (n bw : ℕ) (page after bits : List ℕ) (r : Result (Option ℕ) Refusal) (t : Turn) (o : Outcome Turn) : Type 0 where
  pub worker : t.worker ≡ k
  pub head_s : t.shared ≡ common.shared
  pub head_t : t.tagged ≡ common.tagged
  pub switch : t.on ≡ common.on
  pub blocks : t.lent.n ≡ n
  pub width : t.lent.bw ≡ bw
  pub words : t.lent.page ≡ page
  pub bitmap : t.lent.bits ≡ bits
  pub answer : Progresses r o
  pub worker_after : o.after.worker ≡ then
  pub head_s_after : o.after.shared ≡ left.shared
  pub head_t_after : o.after.tagged ≡ left.tagged
  pub switch_after : o.after.on ≡ left.on
  pub blocks_after : o.after.lent.n ≡ n
  pub width_after : o.after.lent.bw ≡ bw
  pub words_after : o.after.lent.page ≡ after
  pub bitmap_after : o.after.lent.bits ≡ bits

abbrev pub MoveIsRead : Type 0
MoveIsRead =
    (k then : Worker) (common left : Common) (n bw : ℕ) (page after bits : List ℕ) (r : Result (Option ℕ) Refusal)
    → MoveRead k then common left n bw page after bits r (turn_of k common (lent n bw page bits)) (went n bw r then left after bits)
