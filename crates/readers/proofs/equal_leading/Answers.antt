-- The words at i differ, or one word more is equal; where one list ends there are no more.
use Rattle.std.proofs.Common.{arith}
use Rattle.readers.proofs.ReaderArms.{leading-past, leading-stop, leading-more}
use Rattle.readers.proofs.equal_leading.Goals as goal

pub returns-then-x-i : goal.returns-then-x-i
returns-then-x-i c =
    let a = c.args in
    omega (arith, leading-stop a.x.now a.y.now c.loop-i.i (omega arith) (omega arith) c.if-x-i.true)

pub loop-i-preserved : goal.loop-i-preserved
loop-i-preserved c =
    let a = c.args in
    omega (arith, leading-more a.x.now a.y.now c.loop-i.i (omega arith) (omega arith) c.if-x-i.false)

pub returns : goal.returns
returns c = omega (arith, leading-past c.args.x.now c.args.y.now c.loop-i.i (omega arith))
