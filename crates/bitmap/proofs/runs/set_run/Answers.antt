-- One bit more is put, and past the slice's end nothing is.
use Rattle.std.proofs.Common.{arith, refl, sym, ap, ◌∙◌, ℕ, ◌+◌, List, add-one}
use Rattle.bitmap.specs.Bitmap.{bit_put, put_run, run_length}
use Rattle.bitmap.proofs.Ranges.{run_past}
use Rattle.bitmap.proofs.runs.set_run.Goals as goal

pub loop-done-init : goal.loop-done-init
unfolding put_run
loop-done-init c = refl

pub returns-then-bits-i : goal.returns-then-bits-i
returns-then-bits-i c =
    let a = c.args in
    let l = c.loop-done in
    l.invariant ∙ sym (run_past a.bits.now a.a l.done (run_length a.a a.b) 1 (omega arith) (omega arith))

pub loop-done-preserved : goal.loop-done-preserved
unfolding put_run
loop-done-preserved c =
    let a = c.args in
    let l = c.loop-done in
    c.set.ensures ∙ ap (λ (x : List ℕ). bit_put x (a.a + l.done) 1) l.invariant
    ∙ ap (λ (n : ℕ). put_run a.bits.now a.a n 1) (sym (add-one l.done))
