-- A request, decided by its number: those that act at once and those that start (document 01, Requests 1 to 13).
use Rattle.std.specs.Prelude.{ℕ, cond, eqb}
use Rattle.answers.specs.Rows.{Outcome, unless}
use Rattle.lists.specs.Lists.{Lists}
use Rattle.lists.specs.Own.{insert_act, pop_act, append_act, extend_act, release_act, empty_act}
use Rattle.operations.specs.Operations.{staged_b}
use Rattle.staged.specs.Start.{start_act}
use Rattle.machine.specs.Config.{Config, lists_of, starter_of, put_lists, put_starter, over}
use Rattle.machine.specs.Table.{insert, pop, append, extend, release, request_refusal}

-- 1 to 5 and 13 act at once on the worker's lists
unfoldable pub at_once_act : Lists → ℕ → ℕ → ℕ → Outcome Lists
at_once_act l code a b =
    cond (eqb code insert) (insert_act l a)
    (cond (eqb code pop) (pop_act l)
    (cond (eqb code append) (append_act l)
    (cond (eqb code extend) (extend_act l a b) (cond (eqb code release) (release_act l) (empty_act l)))))

-- 6 to 12 start
unfoldable pub request_act : Config → ℕ → ℕ → ℕ → ℕ → Outcome Config
request_act c w code a b =
    cond (staged_b code) (over (put_starter c w) (start_act (starter_of c w) code a)) (over (put_lists c w) (at_once_act (lists_of c w) code a b))

unfoldable pub request_of : Config → ℕ → ℕ → ℕ → ℕ → Outcome Config
request_of c w code a b = unless (request_refusal c w code a b) c (request_act c w code a b)
