-- What the stages require, from the page rules and the damage test.
use Rattle.answers.proofs.Rows.{by}
use Rattle.page.specs.Page.{lent}
use Rattle.page.proofs.Rules.{rules-facts}
use Rattle.staged.specs.Damage.{turn_of}
use Rattle.staged.proofs.DamageArms.{fitting, writes}
use Rattle.staged.proofs.moves.make.Goals as goal

pub write-requires : goal.write-requires
write-requires c =
    let x = c.args in
    let t = turn_of x.k.now x.common.now (lent x.layout.n x.layout.bw x.page.now x.bits.now) in
    let r = rules-facts t.lent (by c.fits.ensures c.if-not-fits.false) in
    (r.narrow, writes t (by (c.is_damaged.ensures x.page.now) c.if-is_damaged.false) r c.in-2.is)

pub exchange-requires : goal.exchange-requires
exchange-requires c =
    let x = c.args in
    let t = turn_of x.k.now x.common.now (lent x.layout.n x.layout.bw x.page.now x.bits.now) in
    fitting t (by (c.is_damaged.ensures x.page.now) c.if-is_damaged.false) (rules-facts t.lent (by c.fits.ensures c.if-not-fits.false))

pub swap-requires : goal.swap-requires
swap-requires c =
    let x = c.args in
    let r = rules-facts (lent x.layout.n x.layout.bw x.page.now x.bits.now) (by c.fits.ensures c.if-not-fits.false) in
    (r.some, r.narrow)

pub mask-requires : goal.mask-requires
mask-requires c =
    let x = c.args in
    let r = rules-facts (lent x.layout.n x.layout.bw x.page.now x.bits.now) (by c.fits.ensures c.if-not-fits.false) in
    (r.some, r.narrow)
