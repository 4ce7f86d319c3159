-- The digits are the fewest that hold the number.
use Rattle.std.proofs.Common.{◌∙◌, List, ℕ, subst}
use Rattle.editor.specs.Text.{Wrote}
use Rattle.editor.proofs.Decimal.{fewest-are}
use Rattle.editor.proofs.text.Text.number.Goals as goal

pub returns-clause-wrote : goal.returns-clause-wrote
returns-clause-wrote c =
    let d = c.decimal-count.ensures in
    let s = c.args.self.now in
    subst (λ (t : List ℕ). Wrote s.room s.end t c.push.new.self.room c.push.new.self.end) (d.digits ∙ fewest-are _ _ c.ranges.n.fits d.len) c.push.ensures.wrote
