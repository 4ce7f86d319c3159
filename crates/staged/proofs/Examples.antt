-- The premises of each statement of `Exact` are met: none of them speaks of nothing. And each case of damage at a move gives 11.
-- Assumes nothing.
use Prim.Native.Nat.{ℕ, ◌+◌, ◌<◌}
use mathlib.Core.Path.{◌≡◌, refl}
use mathlib.Core.Bool.{Bool, true, false}
use mathlib.Core.List.{[], ◌∷◌}
use native.Mathlib.Omega.{arith}
use Rattle.answers.specs.Numbers.{done, damaged}
use Rattle.answers.specs.Rows.{all, first}
use Rattle.words.specs.Digits.{digit}
use Rattle.bitmap.specs.Bitmap.{bit_at}
use Rattle.page.specs.Page.{Lent, lent, fits_b, block_b, good_b, sound_b}
use Rattle.page.specs.Walk.{walk_from}
use Rattle.page.specs.Sequences.{hit, Runs}
use Rattle.page.proofs.Running.{run-walk}
use Rattle.operations.specs.declared.Worker.{Worker}
use Rattle.operations.specs.Operations.{push_shared, take_shared, push_tagged, take_tagged, set_tag, ask_tag, await_tag, staged_b, pushes_b, takes_b, on_shared_b, on_tagged_b, word_of, off_b, full_b, loading, writing, exchanging, swapping, masking, one_of, stages_of, record8}
use Rattle.staged.specs.Start.{Starter, starter, start_fits_b, start_refusal, start_of}
use Rattle.staged.specs.Damage.{Turn, turn, hand_bad, tag_on_shared, seen_bad, head_bad, sightings_bad, tag_bad, any, damaged_b}
use Rattle.staged.specs.Moves.{move_refusal, move_of}
use Rattle.staged.specs.Exact.{SetAfresh, HandTaken, GoesOn, Loaded, Linked, OnlyStage, HandReady, SharedPushed, TaggedPushed, SharedTaken, TaggedTaken, TagPut, Told}
use Rattle.staged.proofs.Sequences.{start-sets-afresh, push-takes-in-hand, push-loads, take-loads, set-loads, ask-loads, wait-loads, write-links-to-seen, flag-fails, other-word-fails, puts-first-on-shared, puts-first-on-tagged, take-finds-none, take-yields-shared, take-yields-tagged, set-puts-tag, ask-puts-zero, sighting-is-counted, fifth-sighting-ends, ask-tells-one, wait-tells-tag}

-- two blocks of one word, both listed: block 2 leads to block 1, block 1 to 0
abbrev small : Lent
small = lent 2 1 (7 ∷ 0 ∷ 8 ∷ []) (6 ∷ [])

-- the list with block 1 alone
block_one : Runs small 8 (1 ∷ [])
unfolding all walk_from sound_b good_b bit_at digit
block_one = run-walk small 2 8 refl

-- an idle worker, no block listed
abbrev idle : Starter
idle = starter (record8 0 0 0 0 0 0 0 0) (0 ∷ [])

-- an operation at a stage, block 2 in hand, the wanted tag 3; S and T lead to block 1, T with the tag given
abbrev due : ℕ → ℕ → ℕ → ℕ → ℕ → Turn
due op stage seen sightings tag = turn (record8 0 0 op stage 3 2 seen sightings) 8 (8 + tag) true small

-- a take of S while S is empty
abbrev none_due : Turn
none_due = turn (record8 0 0 take_shared loading 0 0 0 0) 0 0 false small

-- block 2 is not on the list, and leads to it
ready : (op seen tag : ℕ) → seen ≡ 8 + tag → tag < 4 → HandReady (due op exchanging seen 0 tag) (1 ∷ [])
unfolding hit
ready op seen tag e l = record { apart = refl; link = omega arith }

-- each statement, at an example
pub record Met : Type 0 where
  pub start_sets_afresh : SetAfresh idle set_tag 3 (start_of 2 true idle set_tag 3)
  pub push_takes_in_hand : HandTaken idle 2 (start_of 2 false idle push_shared 2)
  pub push_loads : Loaded (due push_shared loading 0 0 0) 8 writing (move_of (due push_shared loading 0 0 0) false)
  pub tagged_push_loads : Loaded (due push_tagged loading 0 0 2) 10 writing (move_of (due push_tagged loading 0 0 2) false)
  pub take_loads : Loaded (due take_shared loading 0 0 0) 8 swapping (move_of (due take_shared loading 0 0 0) false)
  pub set_loads : Loaded (due set_tag loading 0 0 1) 9 exchanging (move_of (due set_tag loading 0 0 1) false)
  pub ask_loads : Loaded (due ask_tag loading 0 0 2) 10 exchanging (move_of (due ask_tag loading 0 0 2) false)
  pub wait_loads : Loaded (due await_tag loading 0 0 1) 9 loading (move_of (due await_tag loading 0 0 1) false)
  pub write_links_to_seen : Linked (due push_tagged writing 2 0 2) (move_of (due push_tagged writing 2 0 2) false)
  pub flag_fails : OnlyStage (due ask_tag exchanging 10 1 2) loading (move_of (due ask_tag exchanging 10 1 2) true)
  pub other_word_fails : OnlyStage (due push_shared exchanging 0 0 0) loading (move_of (due push_shared exchanging 0 0 0) false)
  pub puts_first_on_shared : SharedPushed (due push_shared exchanging 8 0 0) (1 ∷ []) (move_of (due push_shared exchanging 8 0 0) false)
  pub puts_first_on_tagged : TaggedPushed (due push_tagged exchanging 10 0 2) (1 ∷ []) (move_of (due push_tagged exchanging 10 0 2) false)
  pub take_finds_none : Told none_due 0 (move_of none_due false)
  pub take_yields_shared : SharedTaken (due take_shared swapping 8 0 0) (1 ∷ []) (move_of (due take_shared swapping 8 0 0) false)
  pub take_yields_tagged : TaggedTaken (due take_tagged masking 0 0 3) (1 ∷ []) (move_of (due take_tagged masking 0 0 3) false)
  pub set_puts_tag : TagPut (due set_tag exchanging 9 0 1) 1 3 (move_of (due set_tag exchanging 9 0 1) false)
  pub ask_puts_zero : TagPut (due ask_tag exchanging 10 0 2) 1 0 (move_of (due ask_tag exchanging 10 0 2) false)
  pub sighting_is_counted : GoesOn (due ask_tag loading 0 3 1) loading 9 4 (move_of (due ask_tag loading 0 3 1) false)
  pub fifth_sighting_ends : Told (due ask_tag loading 9 4 1) 0 (move_of (due ask_tag loading 9 4 1) false)
  pub ask_tells_one : Told (due ask_tag loading 0 0 3) 1 (move_of (due ask_tag loading 0 0 3) false)
  pub wait_tells_tag : Told (due await_tag loading 0 0 2) 2 (move_of (due await_tag loading 0 0 2) false)

pub all-met : Met
unfolding all first fits_b block_b good_b sound_b bit_at digit staged_b pushes_b takes_b on_shared_b on_tagged_b word_of off_b full_b one_of stages_of start_fits_b start_refusal hand_bad tag_on_shared seen_bad head_bad sightings_bad tag_bad any damaged_b move_refusal
all-met =
    record {
      start_sets_afresh = start-sets-afresh 2 true idle set_tag 3 refl;
      push_takes_in_hand = push-takes-in-hand 2 false idle push_shared 2 refl refl;
      push_loads = push-loads (due push_shared loading 0 0 0) false refl refl refl;
      tagged_push_loads = push-loads (due push_tagged loading 0 0 2) false refl refl refl;
      take_loads = take-loads (due take_shared loading 0 0 0) false refl refl refl (omega arith);
      set_loads = set-loads (due set_tag loading 0 0 1) false refl refl refl;
      ask_loads = ask-loads (due ask_tag loading 0 0 2) false refl refl refl refl;
      wait_loads = wait-loads (due await_tag loading 0 0 1) false refl refl refl refl;
      write_links_to_seen = write-links-to-seen (due push_tagged writing 2 0 2) false refl refl;
      flag_fails = flag-fails (due ask_tag exchanging 10 1 2) refl refl;
      other_word_fails = other-word-fails (due push_shared exchanging 0 0 0) false refl refl (omega arith);
      puts_first_on_shared = puts-first-on-shared (due push_shared exchanging 8 0 0) (1 ∷ []) refl refl refl refl block_one (ready push_shared 8 0 refl (omega arith));
      puts_first_on_tagged = puts-first-on-tagged (due push_tagged exchanging 10 0 2) (1 ∷ []) refl refl refl refl block_one (ready push_tagged 10 2 refl (omega arith));
      take_finds_none = take-finds-none none_due false refl refl refl refl;
      take_yields_shared = take-yields-shared (due take_shared swapping 8 0 0) false (1 ∷ []) refl refl refl block_one;
      take_yields_tagged = take-yields-tagged (due take_tagged masking 0 0 3) false (1 ∷ []) refl refl refl block_one;
      set_puts_tag = set-puts-tag (due set_tag exchanging 9 0 1) refl refl refl refl;
      ask_puts_zero = ask-puts-zero (due ask_tag exchanging 10 0 2) refl refl refl refl;
      sighting_is_counted = sighting-is-counted (due ask_tag loading 0 3 1) false refl refl refl refl (omega arith);
      fifth_sighting_ends = fifth-sighting-ends (due ask_tag loading 9 4 1) false refl refl refl refl refl;
      ask_tells_one = ask-tells-one (due ask_tag loading 0 0 3) false refl refl refl (omega arith) (omega arith);
      wait_tells_tag = wait-tells-tag (due await_tag loading 0 0 2) false refl refl refl (omega arith);
    }

-- ---- damage at a move

-- the number that refuses a move of a record, by S, T, the switch and the bitmap of that page
abbrev refusal_of : Worker → ℕ → ℕ → Bool → ℕ → ℕ
refusal_of k shared tagged on bits = move_refusal (turn k shared tagged on (lent 2 1 (7 ∷ 0 ∷ 8 ∷ []) (bits ∷ [])))

-- each case of document 01, in its order, where no other applies
pub record Damages : Type 0 where
  pub unpaired : refusal_of (record8 0 0 await_tag exchanging 0 0 8 0) 8 8 true 6 ≡ damaged
  pub hand_none : refusal_of (record8 0 0 push_shared loading 0 0 0 0) 8 8 true 6 ≡ damaged
  pub hand_past : refusal_of (record8 0 0 push_tagged loading 0 3 0 0) 8 8 true 6 ≡ damaged
  pub hand_clear : refusal_of (record8 0 0 push_shared exchanging 0 2 8 0) 8 8 true 2 ≡ damaged
  pub seen_past : refusal_of (record8 0 0 set_tag exchanging 0 0 24 0) 8 8 true 6 ≡ damaged
  pub seen_tagged : refusal_of (record8 0 0 push_shared writing 0 2 9 0) 8 8 true 6 ≡ damaged
  pub head_past : refusal_of (record8 0 0 take_tagged masking 0 0 0 0) 8 24 true 6 ≡ damaged
  pub head_clear : refusal_of (record8 0 0 await_tag loading 0 0 0 0) 8 16 true 2 ≡ damaged
  pub head_tagged : refusal_of (record8 0 0 take_shared swapping 0 0 8 0) 9 8 true 6 ≡ damaged
  pub off : refusal_of (record8 0 0 push_tagged exchanging 0 2 8 0) 8 8 false 6 ≡ damaged
  pub sightings : refusal_of (record8 0 0 ask_tag exchanging 0 0 8 5) 8 8 true 6 ≡ damaged
  pub tag : refusal_of (record8 0 0 set_tag exchanging 4 0 8 0) 8 8 true 6 ≡ damaged
  pub got_shared : refusal_of (record8 0 16 take_shared swapping 0 0 8 0) 8 8 true 6 ≡ damaged
  pub got_tagged : refusal_of (record8 0 16 take_tagged masking 0 0 0 0) 8 8 true 6 ≡ damaged
  -- an exchange does not test the head it compares
  pub head_untested : refusal_of (record8 0 0 push_shared exchanging 0 2 8 0) 25 8 true 6 ≡ done

pub all-damaged : Damages
unfolding all first fits_b block_b good_b sound_b bit_at digit pushes_b takes_b on_shared_b on_tagged_b word_of off_b full_b one_of stages_of hand_bad tag_on_shared seen_bad head_bad sightings_bad tag_bad any damaged_b move_refusal
all-damaged =
    record {
      unpaired = refl;
      hand_none = refl;
      hand_past = refl;
      hand_clear = refl;
      seen_past = refl;
      seen_tagged = refl;
      head_past = refl;
      head_clear = refl;
      head_tagged = refl;
      off = refl;
      sightings = refl;
      tag = refl;
      got_shared = refl;
      got_tagged = refl;
      head_untested = refl;
    }
