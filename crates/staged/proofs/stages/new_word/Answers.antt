-- The words are set, since what they are set to fits.
use Rattle.answers.proofs.Rows.{by}
use Rattle.staged.proofs.StageArms.{push-word, tag_word}
use Rattle.staged.proofs.stages.new_word.Goals as goal

pub unwrap-requires : goal.unwrap-requires
unwrap-requires c =
    let e = push-word _ _ c.requires (by c.pushes.ensures c.if-pushes.true) c.address.ensures c.masked_ptr_delay_set_ptr.ensures in
    rw e

pub unwrap-requires-else-pushes : goal.unwrap-requires-else-pushes
unwrap-requires-else-pushes c =
    let e = tag_word _ _ c.requires (by c.pushes.ensures c.if-pushes.false) c.only_if.ensures c.masked_ptr_delay_set_delay.ensures in
    rw e

pub returns-then-pushes : goal.returns-then-pushes
returns-then-pushes c =
    let e = push-word _ _ c.requires (by c.pushes.ensures c.if-pushes.true) c.address.ensures c.masked_ptr_delay_set_ptr.ensures in
    cc

pub returns-else-pushes : goal.returns-else-pushes
returns-else-pushes c =
    let e = tag_word _ _ c.requires (by c.pushes.ensures c.if-pushes.false) c.only_if.ensures c.masked_ptr_delay_set_delay.ensures in
    cc
