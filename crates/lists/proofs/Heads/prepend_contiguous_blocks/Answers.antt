-- Each return is one of extend's outcomes.
use Rattle.std.proofs.Common.{◌≡◌, ◌∙◌, refl, true, arith}
use Rattle.answers.proofs.Rows.{by}
use Rattle.page.specs.Page.{lent, keeps_rules_b}
use Rattle.page.proofs.Rules.{rules-facts, run-facts}
use Rattle.lists.specs.Lists.{lists}
use Rattle.lists.proofs.Arms.{extend-is, run-whole, extend-acts}
use Rattle.lists.proofs.Heads.prepend_contiguous_blocks.Goals as goal

pub returns-then-not-fits : goal.returns-then-not-fits
returns-then-not-fits c = extend-is _ _ _ (by c.fits.ensures c.if-not-fits.true) refl refl refl refl

pub returns-then-not-is_run : goal.returns-then-not-is_run
returns-then-not-is_run c = extend-is _ _ _ (by c.fits.ensures c.if-not-fits.false) (by c.is_run.ensures c.if-not-is_run.true) refl refl refl

pub returns-then-any_set : goal.returns-then-any_set
returns-then-any_set c =
    let x = c.args in
    let l = lists x.self.now.own x.self.now.got x.layout.n x.layout.bw x.page.now x.bits.now in
    let keeps : keeps_rules_b l.lent ≡ true = by c.fits.ensures c.if-not-fits.false in
    let run = by c.is_run.ensures c.if-not-is_run.false in
    extend-is l x.a x.b keeps run (run-whole l x.a x.b (rules-facts l.lent keeps) run) (by c.any_set.ensures c.if-any_set.true) refl

pub returns-then-not-sound : goal.returns-then-not-sound
returns-then-not-sound c =
    let x = c.args in
    let l = lists x.self.now.own x.self.now.got x.layout.n x.layout.bw x.page.now x.bits.now in
    let keeps : keeps_rules_b l.lent ≡ true = by c.fits.ensures c.if-not-fits.false in
    let run = by c.is_run.ensures c.if-not-is_run.false in
    extend-is l x.a x.b keeps run (run-whole l x.a x.b (rules-facts l.lent keeps) run) (by c.any_set.ensures c.if-any_set.false)
    (by c.sound.ensures c.if-not-sound.true)

pub lay-self-requires : goal.lay-self-requires
lay-self-requires c =
    let x = c.args in
    let keeps = rules-facts (lent x.layout.n x.layout.bw x.page.now x.bits.now) (by c.fits.ensures c.if-not-fits.false) in
    let run = run-facts x.layout.n x.a x.b (by c.is_run.ensures c.if-not-is_run.false) in
    (omega arith, keeps.narrow)

pub returns : goal.returns
returns c =
    let x = c.args in
    let l = lists x.self.now.own x.self.now.got x.layout.n x.layout.bw x.page.now x.bits.now in
    let keeps : keeps_rules_b l.lent ≡ true = by c.fits.ensures c.if-not-fits.false in
    let run = by c.is_run.ensures c.if-not-is_run.false in
    let whole = run-whole l x.a x.b (rules-facts l.lent keeps) run in
    extend-acts l x.a x.b whole c.lay-self.ensures.0 c.lay-self.ensures.1 c.set_run.ensures
    ∙ extend-is l x.a x.b keeps run whole (by c.any_set.ensures c.if-any_set.false) (by c.sound.ensures c.if-not-sound.false)
