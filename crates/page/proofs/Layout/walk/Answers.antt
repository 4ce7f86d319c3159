-- Each step of the walk is a law of `Steps`.
use Rattle.std.proofs.Common.{◌∙◌, arith}
use Rattle.answers.proofs.Rows.{by}
use Rattle.page.specs.Page.{lent}
use Rattle.page.proofs.Rules.{block_within, sound-good}
use Rattle.page.proofs.Steps.{walk_ends, walk-long, walk-bad, walk-on}
use Rattle.page.proofs.Layout.walk.Goals as goal

pub returns-then-h-eq0 : goal.returns-then-h-eq0
returns-then-h-eq0 c = walk_ends _ _ _ _ _ c.if-h-eq0.true ∙ c.loop-count.invariant

pub returns-then-not-sound : goal.returns-then-not-sound
returns-then-not-sound c = walk-bad _ _ _ _ _ c.if-h-eq0.false (by c.sound.ensures c.if-not-sound.true) ∙ c.loop-count.invariant

pub loop-count-preserved : goal.loop-count-preserved
loop-count-preserved c =
    let x = c.args in
    let l = c.loop-count in
    let some = c.if-h-eq0.false in
    let sound = by c.sound.ensures c.if-not-sound.false in
    let g = sound-good (lent x.self.n x.self.bw x.page.now x.bits.now) l.h some sound in
    let met = c.block-last.ensures ∙ block_within x.self.bw l.h g.some g.narrow in
    walk-on _ _ _ _ _ _ _ _ (omega arith) some sound met c.link-h.ensures ∙ l.invariant

pub returns-else-not-sound : goal.returns-else-not-sound
returns-else-not-sound c = walk-long _ _ _ _ _ (omega arith) c.if-h-eq0.false ∙ c.loop-count.invariant
