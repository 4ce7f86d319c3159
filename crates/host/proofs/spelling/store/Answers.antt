-- All eight records are written.
use Rattle.std.proofs.Common.{◌≡◌, ◌∙◌, rules, length}
use Rattle.page.specs.Limits.{max_workers}
use Rattle.host.proofs.Spelled.{stored_is}
use Rattle.host.proofs.spelling.store.Goals as goal

pub returns : goal.returns
returns c =
    let s = c.args.s.now in
    let eight : length s.workers ≡ max_workers = search rules in
    c.loop-i.invariant.1 ∙ stored_is c.args.words.now s c.loop-i.i c.requires eight c.loop-i-test.false
