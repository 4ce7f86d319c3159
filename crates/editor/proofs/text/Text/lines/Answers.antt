-- A line more stands behind those before it.
use Rattle.std.proofs.Common.{arith}
use Rattle.editor.proofs.Writing.{wrote-no-line, wrote-line}
use Rattle.editor.proofs.text.Text.lines.Goals as goal

pub loop-k-init : goal.loop-k-init
loop-k-init c = (omega arith, wrote-no-line c.args.self.now.room c.args.self.now.end c.args.answers.now c.args.self.now.within)

pub loop-k-preserved : goal.loop-k-preserved
loop-k-preserved c =
    let w = c.line.ensures in
    (omega (arith, w.upper_bound), wrote-line c.args.answers.now c.loop-k.k c.loop-k.invariant.1 w.wrote)
