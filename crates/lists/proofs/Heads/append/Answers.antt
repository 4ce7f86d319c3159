-- Each return is one of append's outcomes.
use Rattle.std.proofs.Common.{◌≡◌, ◌∙◌, refl, true, arith, Some, None, Err}
use borrow.Author.Tests.{eq-eqb, ne_eqb}
use Rattle.answers.proofs.Rows.{by}
use Rattle.page.specs.Page.{keeps_rules_b}
use Rattle.page.proofs.Rules.{rules-facts}
use Rattle.page.proofs.Running.{told-none, told-ends}
use Rattle.lists.specs.Lists.{lists}
use Rattle.lists.specs.Own.{got_walk}
use Rattle.answers.specs.declared.Refusal.TheVariants.{Damaged}
use Rattle.lists.proofs.Arms.{append-is, append-none, append-acts}
use Rattle.lists.proofs.Heads.append.Goals as goal

pub returns-then-not-fits : goal.returns-then-not-fits
returns-then-not-fits c = append-is _ (by c.fits.ensures c.if-not-fits.true) refl refl refl

pub returns-then-self-eq0 : goal.returns-then-self-eq0
returns-then-self-eq0 c =
    let z = eq-eqb _ _ c.if-self-eq0.true in
    append-none _ z ∙ append-is _ (by c.fits.ensures c.if-not-fits.false) z refl refl

pub returns-then-not-sound : goal.returns-then-not-sound
returns-then-not-sound c =
    append-is _ (by c.fits.ensures c.if-not-fits.false) (ne_eqb _ _ c.if-self-eq0.false) (by c.sound.ensures c.if-not-sound.true) refl

pub returns-in_err-taken : goal.returns-in_err-taken
returns-in_err-taken c =
    let none : None ≡ c.walk.result = grind arith in
    let e : c.from_residual.result ≡ Err Damaged = grind arith in
    let own = by c.sound.ensures c.if-not-sound.false in
    rw e (append-is _ (by c.fits.ensures c.if-not-fits.false) (ne_eqb _ _ c.if-self-eq0.false) own (told-none _ (none ∙ c.walk.ensures)))

pub returns : goal.returns
returns c =
    let x = c.args in
    let l = lists x.self.now.own x.self.now.got x.layout.n x.layout.bw x.page.now x.bits.now in
    let keeps : keeps_rules_b l.lent ≡ true = by c.fits.ensures c.if-not-fits.false in
    let some = ne_eqb _ _ c.if-self-eq0.false in
    let met : Some c.in_ok-taken.taken ≡ c.walk.result = grind arith in
    let told = met ∙ c.walk.ensures in
    append-acts l (rules-facts l.lent keeps) some told c.address.ensures c.set_link.ensures
    ∙ append-is l keeps some (by c.sound.ensures c.if-not-sound.false) (told-ends (got_walk l) told)
