-- The statements of `Heads`, proved. Assumes nothing.
use Prim.Native.Nat.{ℕ, ◌*◌, ◌%◌}
use mathlib.Core.Path.{◌≡◌, refl}
use mathlib.Core.Logic.{inl, inr, ◌↔◌}
use mathlib.Core.Bool.{Bool, true, false, ◌||◌}
use mathlib.Core.List.{List, [], ◌∷◌, ◌++◌}
use native.Mathlib.Nat.{zero-add}
use native.Mathlib.Decide.{ℕ_discrete}
use lib.Dec.{leb, eqb}
use borrow.Author.Tests.{leb-true, eqb-true, le-leb, eq-eqb, ne_eqb}
use Rattle.answers.specs.Rows.{all}
use Rattle.answers.proofs.Rows.{refuted, and_left, and_right, all-at}
use Rattle.page.specs.Page.{listed_b, block_of, good_b, sound_b, sound_in}
use Rattle.page.specs.Sequences.{Runs}
use Rattle.page.specs.Walk.{walk_of, last_of, tally}
use Rattle.page.specs.Heads.{GoodHead, GoodIs, SoundHead, SoundIs, WalkEnds, LastIs}
use Rattle.page.proofs.Running.{run-walk, walk_is}

pub good-head-facts : (n bw h : ℕ) → good_b n bw h ≡ true → GoodHead n bw h
unfolding good_b
good-head-facts n bw h e =
    let l = leb 1 bw ∷ leb bw 64 ∷ eqb (h % (8 * bw)) 0 ∷ leb (8 * bw) h ∷ leb h (8 * bw * n) ∷ [] in
    record {
      some = leb-true _ _ (all-at l 0 e);
      narrow = leb-true _ _ (all-at l 1 e);
      multiple = eqb-true _ _ (all-at l 2 e);
      low = leb-true _ _ (all-at l 3 e);
      high = leb-true _ _ (all-at l 4 e);
    }

pub good-head-test : (n bw h : ℕ) → GoodHead n bw h → good_b n bw h ≡ true
unfolding good_b all
good-head-test n bw h g = simp (le-leb _ _ g.some, le-leb _ _ g.narrow, eq-eqb _ _ g.multiple, le-leb _ _ g.low, le-leb _ _ g.high)

pub good-is : GoodIs
good-is n bw h = (good-head-facts n bw h, good-head-test n bw h)

pub sound-is : SoundIs
unfolding sound_b
sound-is c h = (go (ℕ_discrete h 0), back)
  where
    go : Dec (h ≡ 0) → sound_in c h ≡ true → SoundHead c h
    go (yes z) e = inl z
    go (no z) e =
        let both = simp (ne_eqb _ _ z) at e in
        inr (good-head-facts c.n c.bw h (and_left _ (listed_b c.bits (block_of c.bw h)) both), eqb-true _ _ (and_right (good_b c.n c.bw h) _ both))

    back : SoundHead c h → sound_in c h ≡ true
    back (inl z) = simp (eq-eqb _ _ z)
    back (inr g) = simp (good-head-test c.n c.bw h g.0, eq-eqb _ _ g.1) (or-true (eqb h 0))
      where
        or-true : (b : Bool) → (b || true) ≡ true
        or-true true = refl
        or-true false = refl

pub walk_ends : WalkEnds
unfolding tally
walk_ends c h r =
    record {
      ends = ends;
      blocks = λ xs x. simp (walk_is c r h xs x);
      tells = λ xs x. simp (walk_is c r h xs x, zero-add);
      damaged = λ none. simp (refuted (walk_of c h).ends (λ e. let f = ends.0 e in none f.0 f.1));
    }
  where
    ends : ((walk_of c h).ends ≡ true) ↔ ((xs : List ℕ) × Runs c h xs)
    ends = (λ e. ((walk_of c h).blocks, run-walk c c.n h e), λ f. simp (walk_is c r h f.0 f.1))

last_end : (i j : ℕ) (xs : List ℕ) → last_of i (xs ++ (j ∷ [])) ≡ j
unfolding last_of
last_end i j [] = refl
last_end i j (x ∷ xs) = last_end x j xs

pub last-is : LastIs
unfolding last_of
last-is i j xs = (refl, last_end i j xs)
