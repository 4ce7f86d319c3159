-- Each return is one of insert's outcomes.
use Rattle.std.proofs.Common.{◌≡◌, ◌∙◌, refl, true}
use Rattle.answers.proofs.Rows.{by}
use Rattle.page.specs.Page.{keeps_rules_b}
use Rattle.page.proofs.Rules.{rules-facts, block-facts}
use Rattle.lists.specs.Lists.{lists}
use Rattle.lists.proofs.Arms.{insert-is, insert-acts}
use Rattle.lists.proofs.Heads.insert_block.Goals as goal

pub returns-then-not-fits : goal.returns-then-not-fits
returns-then-not-fits c = insert-is _ _ (by c.fits.ensures c.if-not-fits.true) refl refl refl

pub returns-then-not-is_block : goal.returns-then-not-is_block
returns-then-not-is_block c = insert-is _ _ (by c.fits.ensures c.if-not-fits.false) (by c.is_block.ensures c.if-not-is_block.true) refl refl

pub returns-then-is_set : goal.returns-then-is_set
returns-then-is_set c =
    insert-is _ _ (by c.fits.ensures c.if-not-fits.false) (by c.is_block.ensures c.if-not-is_block.false) (by c.is_set.ensures c.if-is_set.true) refl

pub returns-then-not-sound : goal.returns-then-not-sound
returns-then-not-sound c =
    insert-is _ _ (by c.fits.ensures c.if-not-fits.false) (by c.is_block.ensures c.if-not-is_block.false) (by c.is_set.ensures c.if-is_set.false)
    (by c.sound.ensures c.if-not-sound.true)

pub returns : goal.returns
returns c =
    let x = c.args in
    let l = lists x.self.now.own x.self.now.got x.layout.n x.layout.bw x.page.now x.bits.now in
    let keeps : keeps_rules_b l.lent ≡ true = by c.fits.ensures c.if-not-fits.false in
    let block = by c.is_block.ensures c.if-not-is_block.false in
    insert-acts l x.a (rules-facts l.lent keeps) (block-facts _ _ block).1 c.address-head.ensures c.set_link.ensures c.set.ensures
    ∙ insert-is l x.a keeps block (by c.is_set.ensures c.if-is_set.false) (by c.sound.ensures c.if-not-sound.false)
