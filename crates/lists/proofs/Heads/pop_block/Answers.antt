-- Each return is one of pop's outcomes.
use Rattle.std.proofs.Common.{◌≡◌, ◌∙◌, refl, true}
use borrow.Author.Tests.{eq-eqb, ne_eqb}
use Rattle.answers.proofs.Rows.{by}
use Rattle.page.specs.Page.{keeps_rules_b}
use Rattle.page.proofs.Rules.{rules-facts}
use Rattle.lists.specs.Lists.{lists}
use Rattle.lists.proofs.Arms.{pop-is, pop-acts}
use Rattle.lists.proofs.Heads.pop_block.Goals as goal

pub returns-then-not-fits : goal.returns-then-not-fits
returns-then-not-fits c = pop-is _ (by c.fits.ensures c.if-not-fits.true) refl refl refl refl

pub returns-then-self-eq0 : goal.returns-then-self-eq0
returns-then-self-eq0 c = pop-is _ (by c.fits.ensures c.if-not-fits.false) (eq-eqb _ _ c.if-self-eq0.true) refl refl refl

pub returns-then-not-sound : goal.returns-then-not-sound
returns-then-not-sound c =
    pop-is _ (by c.fits.ensures c.if-not-fits.false) (ne_eqb _ _ c.if-self-eq0.false) (by c.sound.ensures c.if-not-sound.true) refl refl

pub returns-then-not-sound-2 : goal.returns-then-not-sound-2
returns-then-not-sound-2 c =
    pop-is _ (by c.fits.ensures c.if-not-fits.false) (ne_eqb _ _ c.if-self-eq0.false) (by c.sound.ensures c.if-not-sound.false) c.link-next.ensures
    (by c.sound-2.ensures c.if-not-sound-2.true)

pub returns : goal.returns
returns c =
    let x = c.args in
    let l = lists x.self.now.own x.self.now.got x.layout.n x.layout.bw x.page.now x.bits.now in
    let keeps : keeps_rules_b l.lent ≡ true = by c.fits.ensures c.if-not-fits.false in
    pop-acts l (rules-facts l.lent keeps) c.link-next.ensures c.block-front.ensures c.clear.ensures
    ∙ pop-is l keeps (ne_eqb _ _ c.if-self-eq0.false) (by c.sound.ensures c.if-not-sound.false) c.link-next.ensures
    (by c.sound-2.ensures c.if-not-sound-2.false)
