-- Each return is one of release's outcomes.
use Rattle.std.proofs.Common.{◌≡◌, ◌∙◌, refl, true, arith, Some, None, Err}
use Rattle.answers.proofs.Rows.{by}
use Rattle.answers.specs.declared.Refusal.TheVariants.{Damaged}
use Rattle.page.specs.Page.{lent, keeps_rules_b}
use Rattle.page.proofs.Rules.{rules-facts}
use Rattle.page.proofs.Running.{told-none, told-ends}
use Rattle.lists.specs.Lists.{lists}
use Rattle.lists.specs.Own.{own_walk}
use Rattle.lists.proofs.Arms.{release-is, release-acts}
use Rattle.lists.proofs.Heads.make_empty.Goals as goal

pub returns-then-not-fits : goal.returns-then-not-fits
returns-then-not-fits c = release-is _ (by c.fits.ensures c.if-not-fits.true) refl

pub returns-in_err-met : goal.returns-in_err-met
returns-in_err-met c =
    let none : None ≡ c.walk.result = grind arith in
    let e : c.from_residual.result ≡ Err Damaged = grind arith in
    rw e (release-is _ (by c.fits.ensures c.if-not-fits.false) (told-none _ (none ∙ c.walk.ensures)))

pub clear_met-requires : goal.clear_met-requires
clear_met-requires c =
    let x = c.args in
    let keeps = rules-facts (lent x.layout.n x.layout.bw x.page.now x.bits.now) (by c.fits.ensures c.if-not-fits.false) in
    (keeps.some, keeps.narrow)

pub returns : goal.returns
returns c =
    let x = c.args in
    let l = lists x.self.now.own x.self.now.got x.layout.n x.layout.bw x.page.now x.bits.now in
    let keeps : keeps_rules_b l.lent ≡ true = by c.fits.ensures c.if-not-fits.false in
    let met : Some c.in_ok-met.met ≡ c.walk.result = grind arith in
    let told = met ∙ c.walk.ensures in
    release-acts l (rules-facts l.lent keeps) told c.clear_met.ensures ∙ release-is l keeps (told-ends (own_walk l) told)
