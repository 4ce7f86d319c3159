-- Where the entry lies.
use Rattle.std.proofs.Common.{arith, refl, ap, sym, ◌∙◌}
use Rattle.readers.specs.Parts.{readable}
use Rattle.readers.proofs.ReaderArms.{entry-none, entry-some, lies-ok, refused-number}
use Rattle.readers.proofs.entry.Goals as goal

pub overflow_mul-from : goal.overflow_mul-from
overflow_mul-from c = omega (arith, lies-ok _ _ _ c.in-Ok.is c.entry_readable.ensures)

pub overflow_add-from : goal.overflow_add-from
overflow_add-from c = omega (arith, lies-ok _ _ _ c.in-Ok.is c.entry_readable.ensures)

pub overflow_mul-end : goal.overflow_mul-end
overflow_mul-end c = omega (arith, lies-ok _ _ _ c.in-Ok.is c.entry_readable.ensures)

pub overflow_add-end : goal.overflow_add-end
overflow_add-end c = omega (arith, lies-ok _ _ _ c.in-Ok.is c.entry_readable.ensures)

pub offset_bounds-page-from : goal.offset_bounds-page-from
offset_bounds-page-from c = omega (arith, lies-ok _ _ _ c.in-Ok.is c.entry_readable.ensures)

pub slice_bounds-result-count : goal.slice_bounds-result-count
slice_bounds-result-count c = omega (arith, lies-ok _ _ _ c.in-Ok.is c.entry_readable.ensures)

pub slice_bounds-result-start : goal.slice_bounds-result-start
slice_bounds-result-start c = omega (arith, lies-ok _ _ _ c.in-Ok.is c.entry_readable.ensures)

pub slice_bounds-result-end : goal.slice_bounds-result-end
slice_bounds-result-end c = omega (arith, lies-ok _ _ _ c.in-Ok.is c.entry_readable.ensures)

pub returns-in-Ok : goal.returns-in-Ok
returns-in-Ok c = entry-some _ _ _ (ap readable (sym c.in-Ok.is) ∙ c.entry_readable.ensures) refl

pub returns-in-Err : goal.returns-in-Err
returns-in-Err c = entry-none _ _ _ (ap readable (sym c.in-Err.is) ∙ c.entry_readable.ensures) (refused-number _)
