-- The lines of the answers so far stand behind the text that was there.
use Rattle.std.proofs.Common.{◌+◌, ◌*◌, ◌≤◌}
use Rattle.editor.specs.Text.{Wrote, lines_text}
use Rattle.editor.proofs.text.Text.lines.Given as goal

abbrev pub invariant-loop-k : goal.invariant-loop-k
invariant-loop-k l =
    (l.self.end ≤ l.fn.self.end + 42 * l.k) × Wrote l.fn.self.room l.fn.self.end (lines_text l.answers l.k) l.self.room l.self.end
