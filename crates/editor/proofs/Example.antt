-- The whole case of document 01, from its bytes to the lines that are printed, computed on the definitions. Assumes nothing.
use Prim.Native.Nat.{ℕ}
use mathlib.Core.Path.{◌≡◌, refl}
use mathlib.Core.List.{List, [], ◌∷◌}
use Rattle.answers.specs.Rows.{all, first}
use Rattle.words.specs.Digits.{digit, put_digit}
use Rattle.bitmap.specs.Bitmap.{bit_at, bit_put, any_from, put_run}
use Rattle.page.specs.Page.{fits_b, workers_b, block_b, run_b, good_b, sound_b}
use Rattle.page.specs.Walk.{walk_from, last_of}
use Rattle.page.specs.Sequences.{up_from}
use Rattle.lists.specs.Own.{insert_act, pop_act, append_act, extend_act, release_act, empty_act}
use Rattle.operations.specs.Operations.{staged_b, pushes_b, takes_b, on_shared_b, on_tagged_b, word_of, off_b, full_b, first_stage, stages_of, one_of}
use Rattle.staged.specs.Workers.{begun}
use Rattle.staged.specs.Start.{start_fits_b, start_act}
use Rattle.staged.specs.Damage.{hand_bad, tag_on_shared, seen_bad, head_bad, sightings_bad, tag_bad, any, damaged_b}
use Rattle.staged.specs.Moves.{load_ask, load_await, load_act, write_act, new_word, exchange_value, fails_b, exchange_act, swap_act, mask_act, move_act}
use Rattle.machine.specs.Config.{rules_b, fresh_of}
use Rattle.machine.specs.Table.{table, arguments_fit_b, any_named, own_unsound, link_unsound, walk_broken, tests_of, move_refusal, any_busy, on_refusal, off_refusal}
use Rattle.machine.specs.Requests.{at_once_act, request_act, request_of}
use Rattle.machine.specs.Moves.{move_of}
use Rattle.machine.specs.Switch.{switch_on_of, switch_off_of}
use Rattle.machine.specs.Events.{event_of, events_refusal, events_of}
use Rattle.machine.specs.Events as events
use Rattle.records.specs.Records.{is_mark, kind_of, decode_at}
use Rattle.records.specs.Fill.{next, fill_in}
use lib.ListN.{replicate}
use Rattle.records.proofs.Example.{whole_case}
use Rattle.std.specs.Prelude.{Bool, true, false, Option, Some}
use Rattle.records.specs.declared.Stop.{Stop}
use Rattle.records.specs.declared.Stop.TheVariants.{Ended}
use Rattle.editor.specs.Text.{decimal, lines_text, chunk_text}
use Rattle.editor.specs.Chunk.{Performed, perform_of}

-- what comes of it on a fresh page (n = 63, bw = 4, W = 8)
abbrev whole : Performed
whole = perform_of (fresh_of 63 4 8 (replicate 256 0) (replicate 1 0)).after whole_case (replicate 80 0) (replicate 30 0)

-- whether the bytes ended on a record's end
abbrev is_ended : Option Stop → Bool
is_ended (Some Ended) = true
is_ended _ = false

-- the fifteen lines
abbrev whole_lines : List ℕ
whole_lines =
    48 ∷ 32 ∷ 48 ∷ 10
    ∷ 48 ∷ 32 ∷ 48 ∷ 10
    ∷ 49 ∷ 32 ∷ 48 ∷ 10
    ∷ 57 ∷ 32 ∷ 48 ∷ 10
    ∷ 49 ∷ 32 ∷ 48 ∷ 10
    ∷ 49 ∷ 32 ∷ 48 ∷ 10
    ∷ 49 ∷ 32 ∷ 48 ∷ 10
    ∷ 49 ∷ 32 ∷ 48 ∷ 10
    ∷ 49 ∷ 32 ∷ 48 ∷ 10
    ∷ 48 ∷ 32 ∷ 48 ∷ 10
    ∷ 49 ∷ 32 ∷ 48 ∷ 10
    ∷ 49 ∷ 32 ∷ 48 ∷ 10
    ∷ 48 ∷ 32 ∷ 57 ∷ 10
    ∷ 48 ∷ 32 ∷ 49 ∷ 10
    ∷ 48 ∷ 32 ∷ 57 ∷ 10 ∷ []

pub whole-printed : chunk_text whole.answers whole.records (is_ended whole.stop) ≡ whole_lines
unfolding all first digit put_digit bit_at bit_put any_from put_run fits_b workers_b block_b run_b good_b sound_b walk_from last_of up_from insert_act pop_act append_act extend_act release_act empty_act staged_b pushes_b takes_b on_shared_b on_tagged_b word_of off_b full_b first_stage stages_of one_of begun start_fits_b start_act hand_bad tag_on_shared seen_bad head_bad sightings_bad tag_bad any damaged_b load_ask load_await load_act write_act new_word exchange_value fails_b exchange_act swap_act mask_act move_act rules_b table arguments_fit_b any_named own_unsound link_unsound walk_broken tests_of move_refusal any_busy on_refusal off_refusal at_once_act request_act request_of move_of switch_on_of switch_off_of fresh_of is_mark kind_of decode_at next fill_in event_of events.run_of events_refusal events_of decimal lines_text
whole-printed = refl
