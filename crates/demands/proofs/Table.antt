-- P1 to P12, the whole case of document 01 and the run in which an address is used again, computed on the definitions. Assumes
-- nothing.
use mathlib.Core.Path.{refl}
use Rattle.answers.specs.Rows.{all, first}
use Rattle.words.specs.Digits.{digit, put_digit}
use Rattle.words.specs.Tagged.{set_delay_of}
use Rattle.bitmap.specs.Bitmap.{bit_at, bit_put, any_from, put_run}
use Rattle.page.specs.Page.{fits_b, workers_b, block_b, run_b, good_b, sound_b}
use Rattle.page.specs.Walk.{walk_from, last_of}
use Rattle.page.specs.Sequences.{hit, up_from}
use Rattle.lists.specs.Own.{insert_act, pop_act, append_act, extend_act, release_act, empty_act}
use Rattle.operations.specs.Operations.{staged_b, pushes_b, takes_b, on_shared_b, on_tagged_b, word_of, off_b, full_b, first_stage, stages_of, one_of}
use Rattle.staged.specs.Workers.{begun}
use Rattle.staged.specs.Start.{start_fits_b, start_act}
use Rattle.staged.specs.Damage.{hand_bad, tag_on_shared, seen_bad, head_bad, sightings_bad, tag_bad, any, damaged_b}
use Rattle.staged.specs.Moves.{load_ask, load_await, load_act, write_act, new_word, exchange_value, fails_b, exchange_act, swap_act, mask_act, move_act}
use Rattle.machine.specs.Config.{rules_b, fresh_of}
use Rattle.machine.specs.Table.{table, arguments_fit_b, any_named, own_unsound, link_unsound, walk_broken, tests_of, move_refusal, any_busy, on_refusal, off_refusal}
use Rattle.machine.specs.Requests.{at_once_act, request_act, request_of}
use Rattle.machine.specs.Moves.{move_of}
use Rattle.machine.specs.Switch.{switch_on_of, switch_off_of}
use Rattle.demands.specs.Simple.{judged, own_act, act}
use Rattle.demands.specs.Simple as simple
use Rattle.demands.specs.Moments.{step, simple_step, ends_at_load, act_of, moment}
use Rattle.demands.specs.ByHand.{Checked, Reused}

pub table-holds : Checked
unfolding all first digit put_digit bit_at bit_put any_from put_run fits_b workers_b block_b run_b good_b sound_b walk_from last_of hit up_from insert_act pop_act append_act extend_act release_act empty_act staged_b pushes_b takes_b on_shared_b on_tagged_b word_of off_b full_b first_stage stages_of one_of begun start_fits_b start_act hand_bad tag_on_shared seen_bad head_bad sightings_bad tag_bad any damaged_b load_ask load_await load_act write_act new_word exchange_value fails_b exchange_act swap_act mask_act move_act rules_b table arguments_fit_b any_named own_unsound link_unsound walk_broken tests_of move_refusal any_busy on_refusal off_refusal at_once_act request_act request_of move_of switch_on_of switch_off_of judged own_act act step simple_step ends_at_load act_of moment simple.start_act simple.request simple.move simple.switch_on simple.switch_off set_delay_of fresh_of
table-holds = record {
  p1 = refl;
  p2 = (refl, refl);
  p3 = refl;
  p4 = (refl, refl);
  p5 = (refl, refl);
  p6 = (refl, refl, refl, refl, refl);
  p7 = refl;
  p8 = (refl, refl);
  p9 = (refl, refl, refl);
  p10 = (refl, refl);
  p11 = refl;
  p12 = refl;
  whole = refl;
  whole_due = refl;
  whole_moments = refl;
}

pub reuse-holds : Reused
unfolding all first digit put_digit bit_at bit_put any_from put_run fits_b workers_b block_b run_b good_b sound_b walk_from last_of hit up_from insert_act pop_act append_act extend_act release_act empty_act staged_b pushes_b takes_b on_shared_b on_tagged_b word_of off_b full_b first_stage stages_of one_of begun start_fits_b start_act hand_bad tag_on_shared seen_bad head_bad sightings_bad tag_bad any damaged_b load_ask load_await load_act write_act new_word exchange_value fails_b exchange_act swap_act mask_act move_act rules_b table arguments_fit_b any_named own_unsound link_unsound walk_broken tests_of move_refusal any_busy on_refusal off_refusal at_once_act request_act request_of move_of switch_on_of switch_off_of judged own_act act step simple_step ends_at_load act_of moment simple.start_act simple.request simple.move simple.switch_on simple.switch_off fresh_of
reuse-holds = record { real = refl; shared = refl; simple = refl }
