-- The first k events have happened, each with its answer in its place.
use Rattle.std.proofs.Common.{◌≡◌}
use Rattle.machine.specs.Config.{config}
use Rattle.machine.specs.Events.{ran, run_of}
use Rattle.events.proofs.run.Given as goal

abbrev pub invariant-loop-k : goal.invariant-loop-k
invariant-loop-k l =
    ran (config l.state l.page l.bits) l.answers ≡ run_of l.events l.k (ran (config l.initial.state l.initial.page l.initial.bits) l.initial.answers)
