-- Each row of the table and each case of damage at a request, computed at an example. Assumes nothing.
use Prim.Native.Nat.{ℕ}
use mathlib.Core.Path.{◌≡◌, refl}
use mathlib.Core.Bool.{true, false}
use mathlib.Core.List.{List, [], ◌∷◌}
use Rattle.answers.specs.Numbers.{done, bad_page, no_worker, no_such, busy, switched, not_empty, listed, none_left, damaged}
use Rattle.answers.specs.Rows.{all, first}
use Rattle.words.specs.Digits.{digit}
use Rattle.bitmap.specs.Bitmap.{bit_at, any_from}
use Rattle.page.specs.Page.{fits_b, workers_b, block_b, run_b, good_b, sound_b}
use Rattle.page.specs.Walk.{walk_from}
use Rattle.operations.specs.declared.Worker.{Worker}
use Rattle.operations.specs.Operations.{push_shared, take_shared, push_tagged, take_tagged, set_tag, staged_b, pushes_b, takes_b, on_tagged_b, record8}
use Rattle.staged.specs.Start.{start_fits_b}
use Rattle.machine.specs.Config.{config, state_of, rules_b}
use Rattle.machine.specs.Table.{insert, pop, append, extend, release, ask_empty, table, arguments_fit_b, any_named, own_unsound, link_unsound, walk_broken, tests_of, request_refusal}

-- a worker with these lists and this operation under way
abbrev holding : ℕ → ℕ → ℕ → Worker
holding own got operation = record8 own got operation 0 0 0 0 0

-- the number that refuses a request of worker w, the first of two, on a page of two blocks of one word; T is on
abbrev refusal : Worker → List ℕ → ℕ → ℕ → ℕ → ℕ → ℕ → ℕ
refusal k page bits w code a b = request_refusal (config (state_of 2 1 2 0 0 true (k ∷ [])) page (bits ∷ [])) w code a b

-- block 2 leads to block 1, block 1 to 0
abbrev sound : List ℕ
sound = 7 ∷ 0 ∷ 8 ∷ []

-- block 2 leads past the page, and in a ring
abbrev past : List ℕ
past = 7 ∷ 0 ∷ 24 ∷ []

abbrev ring : List ℕ
ring = 7 ∷ 16 ∷ 8 ∷ []

-- each row in the table's order; where two apply, the smaller number
pub record Refuses : Type 0 where
  pub short_page : refusal (holding 0 0 0) (7 ∷ 0 ∷ []) 0 2 14 0 0 ≡ bad_page
  pub worker : refusal (holding 0 0 0) sound 0 2 14 0 0 ≡ no_worker
  pub operation : refusal (holding 0 0 6) sound 0 0 14 0 0 ≡ no_such
  pub block_none : refusal (holding 0 0 6) sound 0 0 insert 0 0 ≡ no_such
  pub block_past : refusal (holding 0 0 6) sound 0 0 push_shared 3 0 ≡ no_such
  pub extend_none : refusal (holding 0 0 6) sound 0 0 extend 1 0 ≡ no_such
  pub extend_past : refusal (holding 0 0 6) sound 0 0 extend 2 2 ≡ no_such
  pub tag : refusal (holding 0 0 6) sound 0 0 set_tag 4 0 ≡ no_such
  pub under_way : refusal (holding 0 0 6) sound 6 0 insert 1 0 ≡ busy
  pub off : request_refusal (config (state_of 2 1 2 0 0 false (holding 0 8 0 ∷ [])) sound (2 ∷ [])) 0 take_tagged 0 0 ≡ switched
  pub got_shared : refusal (holding 0 8 0) sound 2 0 take_shared 0 0 ≡ not_empty
  pub got_tagged : refusal (holding 0 8 0) sound 2 0 take_tagged 0 0 ≡ not_empty
  pub inserted : refusal (holding 24 0 0) sound 2 0 insert 1 0 ≡ listed
  pub pushed : refusal (holding 0 0 0) sound 2 0 push_tagged 1 0 ≡ listed
  pub extended : refusal (holding 24 0 0) sound 4 0 extend 1 2 ≡ listed
  pub nothing : refusal (holding 0 0 0) sound 0 0 pop 0 0 ≡ none_left
  -- nothing to append: own is not looked at
  pub unasked : refusal (holding 24 0 0) sound 0 0 append 0 0 ≡ done
  pub empty : refusal (holding 24 0 0) sound 0 0 ask_empty 0 0 ≡ done

-- damage at a request, in document 01's order
pub record Damages : Type 0 where
  pub insert_own : refusal (holding 24 0 0) sound 2 0 insert 2 0 ≡ damaged
  pub insert_clear : refusal (holding 16 0 0) sound 2 0 insert 2 0 ≡ damaged
  pub pop_own : refusal (holding 4 0 0) sound 6 0 pop 0 0 ≡ damaged
  pub pop_link : refusal (holding 16 0 0) past 6 0 pop 0 0 ≡ damaged
  pub pop_clear : refusal (holding 16 0 0) sound 4 0 pop 0 0 ≡ damaged
  pub extend_own : refusal (holding 24 0 0) sound 0 0 extend 1 2 ≡ damaged
  pub release_own : refusal (holding 24 0 0) sound 6 0 release 0 0 ≡ damaged
  pub append_own : refusal (holding 24 8 0) sound 6 0 append 0 0 ≡ damaged
  pub append_head : refusal (holding 0 24 0) sound 6 0 append 0 0 ≡ damaged
  pub append_link : refusal (holding 0 16 0) past 6 0 append 0 0 ≡ damaged
  pub append_ring : refusal (holding 0 8 0) ring 6 0 append 0 0 ≡ damaged
  pub release_link : refusal (holding 16 0 0) past 6 0 release 0 0 ≡ damaged
  pub release_ring : refusal (holding 8 0 0) ring 6 0 release 0 0 ≡ damaged

pub all-refused : Refuses
unfolding table tests_of arguments_fit_b any_named own_unsound link_unsound walk_broken rules_b fits_b workers_b block_b run_b good_b sound_b walk_from bit_at any_from digit all first staged_b pushes_b takes_b on_tagged_b start_fits_b
all-refused =
    record {
      short_page = refl;
      worker = refl;
      operation = refl;
      block_none = refl;
      block_past = refl;
      extend_none = refl;
      extend_past = refl;
      tag = refl;
      under_way = refl;
      off = refl;
      got_shared = refl;
      got_tagged = refl;
      inserted = refl;
      pushed = refl;
      extended = refl;
      nothing = refl;
      unasked = refl;
      empty = refl;
    }

pub all-damaged : Damages
unfolding table tests_of arguments_fit_b any_named own_unsound link_unsound walk_broken rules_b fits_b workers_b block_b run_b good_b sound_b walk_from bit_at any_from digit all first staged_b pushes_b takes_b on_tagged_b start_fits_b
all-damaged =
    record {
      insert_own = refl;
      insert_clear = refl;
      pop_own = refl;
      pop_link = refl;
      pop_clear = refl;
      extend_own = refl;
      release_own = refl;
      append_own = refl;
      append_head = refl;
      append_link = refl;
      append_ring = refl;
      release_link = refl;
      release_ring = refl;
    }
