-- Which of the 70 words is what, by numerals, read and written, and what a call leaves in them. No proof stands in
-- this file.
use Rattle.std.specs.Prelude.{ℕ, ◌+◌, ◌*◌, ◌≤◌, ◌<◌, ◌≡◌, ◌≢◌, ◌↔◌, true, List, length, get_or}
use Rattle.machine.specs.declared.State.{State}
use Rattle.machine.specs.Config.{blank}
use Rattle.host.specs.Spelling.{spelled, words_of}
use Rattle.host.specs.Calls.{written}

-- the words of a state: n, bw, W, S, T, whether T is on, and eight words for each of the eight records
pub record Words (words : List ℕ) (s : State) : Type 0 where
  pub n : s.n ≡ get_or words 0 0
  pub bw : s.bw ≡ get_or words 1 0
  pub w : s.w ≡ get_or words 2 0
  pub shared : s.shared ≡ get_or words 3 0
  pub tagged : s.tagged ≡ get_or words 4 0
  pub on : (s.on ≡ true) ↔ (get_or words 5 0 ≢ 0)
  pub own : (i : ℕ) → i < 8 → (get_or s.workers i blank).own ≡ get_or words (6 + i * 8) 0
  pub got : (i : ℕ) → i < 8 → (get_or s.workers i blank).got ≡ get_or words (6 + i * 8 + 1) 0
  pub operation : (i : ℕ) → i < 8 → (get_or s.workers i blank).operation ≡ get_or words (6 + i * 8 + 2) 0
  pub stage : (i : ℕ) → i < 8 → (get_or s.workers i blank).stage ≡ get_or words (6 + i * 8 + 3) 0
  pub tag : (i : ℕ) → i < 8 → (get_or s.workers i blank).tag ≡ get_or words (6 + i * 8 + 4) 0
  pub hand : (i : ℕ) → i < 8 → (get_or s.workers i blank).hand ≡ get_or words (6 + i * 8 + 5) 0
  pub seen : (i : ℕ) → i < 8 → (get_or s.workers i blank).seen ≡ get_or words (6 + i * 8 + 6) 0
  pub sightings : (i : ℕ) → i < 8 → (get_or s.workers i blank).sightings ≡ get_or words (6 + i * 8 + 7) 0

-- any words spell such a state, of eight records
abbrev pub WordsAreRead : Type 0
WordsAreRead = (words : List ℕ) → Words words (spelled words) × (length (spelled words).workers ≡ 8)

-- a state of eight records is written so, in 70 words, on as 0 or 1
pub record Writes (s : State) (words : List ℕ) : Type 0 where
  pub each : Words words s
  pub long : length words ≡ 70
  pub switch : get_or words 5 0 ≤ 1

abbrev pub WordsAreWritten : Type 0
WordsAreWritten = (s : State) → length s.workers ≡ 8 → Writes s (words_of s)

-- a call writes the words of the state given back where its number is 0 or 1, and leaves them where it is higher
abbrev pub RefusedLeavesWords : Type 0
RefusedLeavesWords =
    (words : List ℕ) (number : ℕ) (s : State) → (number ≤ 1 → written words number s ≡ words_of s) × (2 ≤ number → written words number s ≡ words)
