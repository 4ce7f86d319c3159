-- The start of requests 6 to 12: what refuses it, smallest number first, and the record set afresh. S, T and the page are no
-- part of it (document 01, Numbers given back and Requests).
use Rattle.std.specs.Prelude.{ℕ, Bool, not, ◌&&◌, cond, List, [], ◌∷◌, Result, Ok, Err, leb, eqb}
use Rattle.answers.specs.declared.Answer.{Answer}
use Rattle.answers.specs.declared.Refusal.{Refusal}
use Rattle.answers.specs.Numbers.{under_way, no_such, busy, switched, not_empty, listed}
use Rattle.answers.specs.Refusals.{number_of}
use Rattle.answers.specs.Rows.{row, first, answer, Outcome, outcome, unless}
use Rattle.bitmap.specs.Bitmap.{bit_put}
use Rattle.page.specs.Page.{block_b, listed_b}
use Rattle.operations.specs.declared.Worker.{Worker}
use Rattle.operations.specs.Operations.{set_tag, staged_b, pushes_b, off_b, full_b, busy_b}
use Rattle.staged.specs.Workers.{max_tag, begun}

-- what a start may change: the worker's record and the bitmap
pub record Starter : Type 0 where
  pub worker : Worker
  pub bits : List ℕ

abbrev pub starter : Worker → List ℕ → Starter
starter k bits = record { worker = k; bits = bits }

-- under way, or refused, with value 0
abbrev pub begins : Result (Unit {0}) Refusal → Answer
begins (Ok u) = answer under_way 0
begins (Err e) = answer (number_of e) 0

-- what a start gives back and leaves
abbrev pub started : Result (Unit {0}) Refusal → Worker → List ℕ → Outcome Starter
started r k bits = outcome (begins r).number (begins r).value (starter k bits)

-- the request's argument: a block for a push, a tag for request 10, none for the others
unfoldable pub start_fits_b : ℕ → ℕ → ℕ → Bool
start_fits_b n op a = cond (pushes_b op) (block_b n a) (cond (eqb op set_tag) (leb a max_tag) (staged_b op))

unfoldable pub start_refusal : ℕ → Bool → Starter → ℕ → ℕ → ℕ
start_refusal n on c op a =
    first (row no_such (not (start_fits_b n op a)) ∷ row busy (busy_b c.worker) ∷ row switched (off_b op on)
    ∷ row not_empty (full_b op c.worker.got) ∷ row listed (pushes_b op && listed_b c.bits a) ∷ [])

-- a push's block is in hand from now on: its bit is set
unfoldable pub start_act : Starter → ℕ → ℕ → Outcome Starter
start_act c op a = outcome under_way 0 (starter (begun c.worker op a) (cond (pushes_b op) (bit_put c.bits a 1) c.bits))

unfoldable pub start_of : ℕ → Bool → Starter → ℕ → ℕ → Outcome Starter
start_of n on c op a = unless (start_refusal n on c op a) c (start_act c op a)
