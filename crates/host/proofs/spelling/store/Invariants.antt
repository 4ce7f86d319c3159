-- The records before i are written behind the first six words.
use Rattle.std.proofs.Common.{◌≡◌, length, take}
use Rattle.std.proofs.lemmas.List.Edits.{sets}
use Rattle.host.specs.Spelling.{state_words, joined}
use Rattle.host.proofs.spelling.store.Given as goal

abbrev pub invariant-loop-i : goal.invariant-loop-i
invariant-loop-i l = (length l.words ≡ state_words) × (l.words ≡ sets l.initial.words 6 (joined (take l.i l.k-items)))
