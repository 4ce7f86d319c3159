-- Texts put one behind the other. Assumes nothing.
use Prim.Native.Nat.{ℕ, ◌+◌, ◌*◌, ◌≤◌}
use mathlib.Core.Path.{refl, sym, ap, ◌∙◌}
use mathlib.Core.List.{List, [], ◌++◌, append-nil, append_assoc}
use native.Mathlib.Numerals.{add-one}
use lib.ListN.{length, take, get_or}
use Rattle.editor.specs.Text.{Wrote, line_text, lines_text}

-- no text
pub wrote_none : (before : List ℕ) (at : ℕ) → at ≤ length before → Wrote before at [] before at
wrote_none before at h = record { stands = sym (append-nil (take at before)); room = refl; within = h }

-- a text behind a text
pub wrote_then : {before text after more last : List ℕ} {at end past : ℕ} → Wrote before at text after end → Wrote after end more last past
    → Wrote before at (text ++ more) last past
wrote_then {before} {text} {after} {more} {last} {at} {end} {past} v w =
    record {
      stands = w.stands ∙ ap (λ (s : List ℕ). s ++ more) v.stands ∙ append_assoc (take at before) text more;
      room = w.room ∙ v.room;
      within = w.within;
    }

-- ---- lines

-- the line of answer k behind those before it
pub wrote-line : {before after last : List ℕ} {at end past : ℕ} (answers : List ℕ) (k : ℕ) → Wrote before at (lines_text answers k) after end
    → Wrote after end (line_text (get_or answers (2 * k) 0) (get_or answers (2 * k + 1) 0)) last past → Wrote before at (lines_text answers (k + 1)) last past
unfolding lines_text
wrote-line answers k v w = rw (add-one k) (wrote_then v w)

-- before the first one
pub wrote-no-line : (before : List ℕ) (at : ℕ) (answers : List ℕ) → at ≤ length before → Wrote before at (lines_text answers 0) before at
unfolding lines_text
wrote-no-line before at answers h = wrote_none before at h
