-- What a value or a refusal is as number and value (document 01, Numbers given back).
use Rattle.std.specs.Prelude.{ℕ, Option, Some, None, Result, Ok, Err}
use Rattle.answers.specs.Numbers.{done, under_way, bad_page, no_worker, no_such, busy, idle, switched, not_empty, listed, none_left, damaged}
use Rattle.answers.specs.declared.Answer.{Answer}
use Rattle.answers.specs.declared.Refusal.{Refusal}
use Rattle.answers.specs.declared.Refusal.TheVariants.{BadPage, NoWorker, NoSuch, Busy, Idle, Switched, NotEmpty, Listed, NoneLeft, Damaged}
use Rattle.answers.specs.Rows.{answer}

-- the number of a refusal
abbrev pub number_of : Refusal → ℕ
number_of BadPage = bad_page
number_of NoWorker = no_worker
number_of NoSuch = no_such
number_of Busy = busy
number_of Idle = idle
number_of Switched = switched
number_of NotEmpty = not_empty
number_of Listed = listed
number_of NoneLeft = none_left
number_of Damaged = damaged

-- done with a value, under way, or refused with value 0
abbrev pub progress : Result (Option ℕ) Refusal → Answer
progress (Ok (Some v)) = answer done v
progress (Ok None) = answer under_way 0
progress (Err e) = answer (number_of e) 0

-- done with a value, or refused with value 0
abbrev pub told : Result ℕ Refusal → Answer
told (Ok v) = answer done v
told (Err e) = answer (number_of e) 0
