-- Good and sound heads in plain numbers, and what a walk from a head tells: a list is damaged where no sequence of
-- blocks runs from its head (document 01, The page; Damaged). No proof stands in this file.
use Rattle.std.specs.Prelude.{ℕ, ◌*◌, ◌/◌, ◌%◌, ◌≤◌, ◌≡◌, ◌⊎◌, ◌↔◌, true, List, [], ◌∷◌, ◌++◌, Option, Some, None, length}
use Rattle.bitmap.specs.Bitmap.{bit_at}
use Rattle.page.specs.declared.Walked.{Walked}
use Rattle.page.specs.Page.{Lent, Rules, good_b, sound_in}
use Rattle.page.specs.Sequences.{Runs}
use Rattle.page.specs.Walk.{walk_of, last_of, tally}

-- A good head is the address of a block: 8·bw divides it, and it is at least 8·bw and at most 8·bw·n, with bw from 1
-- to 64.
pub record GoodHead (n bw h : ℕ) : Type 0 where
  pub some : 1 ≤ bw
  pub narrow : bw ≤ 64
  pub multiple : h % (8 * bw) ≡ 0
  pub low : 8 * bw ≤ h
  pub high : h ≤ 8 * bw * n

abbrev pub GoodIs : Type 0
GoodIs = (n bw h : ℕ) → (good_b n bw h ≡ true) ↔ GoodHead n bw h

-- A sound head is 0 or the address of a listed block.
abbrev pub SoundHead : Lent → ℕ → Type 0
SoundHead c h = (h ≡ 0) ⊎ (GoodHead c.n c.bw h × (bit_at c.bits (h / (8 * c.bw)) ≡ 1))

abbrev pub SoundIs : Type 0
SoundIs = (c : Lent) (h : ℕ) → (sound_in c h ≡ true) ↔ SoundHead c h

-- What a walk that came to 0 tells: how many blocks it met, and the last of them. Of one that did not it tells nothing.
abbrev pub told : List ℕ → Option Walked
told xs = Some (record { count = length xs; last = last_of 0 xs })

abbrev pub untold : Option Walked
untold = None

-- A walk ends exactly where the list runs over a sequence, and it tells of that sequence.
pub record Walks (c : Lent) (h : ℕ) : Type 0 where
  pub ends : ((walk_of c h).ends ≡ true) ↔ ((xs : List ℕ) × Runs c h xs)
  pub blocks : (xs : List ℕ) → Runs c h xs → (walk_of c h).blocks ≡ xs
  pub tells : (xs : List ℕ) → Runs c h xs → tally 0 0 (walk_of c h) ≡ told xs
  pub damaged : ((xs : List ℕ) → Runs c h xs → ⊥) → tally 0 0 (walk_of c h) ≡ untold

abbrev pub WalkEnds : Type 0
WalkEnds = (c : Lent) (h : ℕ) → Rules c → Walks c h

-- The last block is the one at the end, and where there is none, the number given for it.
abbrev pub LastIs : Type 0
LastIs = (i j : ℕ) (xs : List ℕ) → (last_of i [] ≡ i) × (last_of i (xs ++ (j ∷ [])) ≡ j)
