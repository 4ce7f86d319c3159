-- The statements of `Readings`, proved. Assumes nothing.
use mathlib.Core.Path.{◌≡◌, refl, ap}
use Rattle.std.proofs.Common.{ℕ, List, Option, Some, None, Result, Ok, Err}
use Rattle.answers.specs.declared.Refusal.{Refusal}
use Rattle.answers.specs.Refusals.{number_of}
use Rattle.page.specs.Page.{Lent}
use Rattle.operations.specs.declared.Worker.{Worker}
use Rattle.staged.specs.declared.Common.{Common}
use Rattle.staged.specs.Start.{started}
use Rattle.staged.specs.Moves.{leaves}
use Rattle.staged.specs.Readings.{Begins, StartIsRead, Progresses, MoveIsRead}

begins : (r : Result (Unit {0}) Refusal) (k : Worker) (bits : List ℕ) → Begins r (started r k bits)
begins (Ok u) k bits = record { under_way = λ e. (refl, refl); refused = λ f e. absurd cc }
begins (Err x) k bits = record { under_way = λ e. absurd cc; refused = λ f e. let same : x ≡ f = cc in (ap number_of same, refl) }

pub start-is-read : StartIsRead
start-is-read k then bits after r =
    record { worker = refl; bitmap = refl; answer = begins r then after; worker_after = refl; bitmap_after = refl }

progresses : (r : Result (Option ℕ) Refusal) (k : Worker) (c : Common) (l : Lent) → Progresses r (leaves r k c l)
progresses (Ok (Some w)) k c l =
    record { ended = λ v e. (refl, cc); under_way = λ e. absurd cc; refused = λ f e. absurd cc }
progresses (Ok None) k c l =
    record { ended = λ v e. absurd cc; under_way = λ e. (refl, refl); refused = λ f e. absurd cc }
progresses (Err x) k c l =
    record { ended = λ v e. absurd cc; under_way = λ e. absurd cc; refused = λ f e. let same : x ≡ f = cc in (ap number_of same, refl) }

pub move-is-read : MoveIsRead
move-is-read k then common left n bw page after bits r =
    record {
      worker = refl;
      head_s = refl;
      head_t = refl;
      switch = refl;
      blocks = refl;
      width = refl;
      words = refl;
      bitmap = refl;
      answer = progresses r then left _;
      worker_after = refl;
      head_s_after = refl;
      head_t_after = refl;
      switch_after = refl;
      blocks_after = refl;
      width_after = refl;
      words_after = refl;
      bitmap_after = refl;
    }
