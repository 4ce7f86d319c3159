-- The block that a good head leads to is the one whose bit is looked at.
use Rattle.std.proofs.Common.{◌≡◌, ◌∙◌, true}
use borrow.Author.Tests.{ne_eqb}
use Rattle.answers.proofs.Rows.{by}
use Rattle.page.specs.Page.{block_of, good_b, sound_b}
use Rattle.page.proofs.Rules.{block_within, good-facts}
use Rattle.page.proofs.Layout.sound.Goals as goal

pub returns-then-good : goal.returns-then-good
unfolding sound_b
returns-then-good c =
    let x = c.args in
    let e : good_b x.self.n x.self.bw x.h ≡ true = by c.good.ensures c.if-good.true in
    let g = good-facts x.self.n x.self.bw x.h e in
    let i : c.block.result ≡ block_of x.self.bw x.h = c.block.ensures ∙ block_within x.self.bw x.h g.some g.narrow in
    simp (ne_eqb _ _ c.if-h-eq0.false, e, c.is_set.ensures, i)
