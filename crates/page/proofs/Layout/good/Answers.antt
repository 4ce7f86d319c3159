-- A head is the address of the block that it leads to, or of none.
use Rattle.std.proofs.Common.{arith, ◌∙◌, sym}
use mathlib.Core.Bool.{true≢false}
use Rattle.answers.proofs.Rows.{by}
use Rattle.page.proofs.Rules.{block-facts, block-test, good-not, good-is}
use Rattle.page.proofs.Layout.good.Goals as goal

pub returns-then-self-lt1 : goal.returns-then-self-lt1
returns-then-self-lt1 c = sym (good-not c.args.self.n c.args.self.bw c.args.h (λ g. omega arith))

pub returns-then-is_block : goal.returns-then-is_block
returns-then-is_block c =
    let x = c.args in
    let f = block-facts _ _ (by c.is_block.ensures c.if-is_block.true) in
    good-is x.self.n x.self.bw x.h (omega arith) (omega arith) f.0 f.1

pub returns-else-is_block : goal.returns-else-is_block
returns-else-is_block c =
    let x = c.args in
    c.if-is_block.false
    ∙ sym (good-not x.self.n x.self.bw x.h (λ g. true≢false (sym (block-test _ _ (g.low, g.high)) ∙ by c.is_block.ensures c.if-is_block.false)))
