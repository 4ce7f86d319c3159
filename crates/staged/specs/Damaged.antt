-- When a move finds its operation damaged, in facts (document 01, Damaged, at a move). Operations stand by the
-- numbers of their requests, 6 to 12, and stages by theirs: 1 loads, 2 writes, 3 exchanges, 4 swaps, 5 masks. The
-- address part of a word v is v - v % 4 and its tag v % 4. No proof stands in this file.
use Rattle.std.specs.Prelude.{◌-◌, ◌%◌, ◌<◌, ◌≡◌, ◌≢◌, ◌↔◌, true, false}
use Rattle.bitmap.specs.Bitmap.{bit_at}
use Rattle.page.specs.Heads.{GoodHead, SoundHead}
use Rattle.operations.specs.Numbered.{Pushes, Takes, OnShared, OnTagged, ReadsHead, UsesSeen, Paired}
use Rattle.staged.specs.Damage.{Turn, damaged_b}

-- the block in hand is not 1 to n, or its bit is clear
pub data HandBad (t : Turn) : Type 0 where
  hand_zero : t.worker.hand ≡ 0 → HandBad t
  hand_past : t.lent.n < t.worker.hand → HandBad t
  hand_clear : bit_at t.lent.bits t.worker.hand ≡ 0 → HandBad t

-- the address part of the word seen is neither 0 nor good; for S, its tag is not 0
pub data SeenBad (t : Turn) : Type 0 where
  seen_address : t.worker.seen - t.worker.seen % 4 ≢ 0 → (GoodHead t.lent.n t.lent.bw (t.worker.seen - t.worker.seen % 4) → ⊥) → SeenBad t
  seen_tag : OnShared t.worker.operation → t.worker.seen % 4 ≢ 0 → SeenBad t

-- the address part of the head, S for 6 and 7 and else T, is not sound; for S, its tag is not 0
pub data HeadBad (t : Turn) : Type 0 where
  shared_unsound : OnShared t.worker.operation → (SoundHead t.lent (t.shared - t.shared % 4) → ⊥) → HeadBad t
  shared_tag : OnShared t.worker.operation → t.shared % 4 ≢ 0 → HeadBad t
  tagged_unsound : (OnShared t.worker.operation → ⊥) → (SoundHead t.lent (t.tagged - t.tagged % 4) → ⊥) → HeadBad t

-- One of the eight cases, in the document's order.
pub data Damaged (t : Turn) : Type 0 where
  unpaired : (Paired t.worker.operation t.worker.stage → ⊥) → Damaged t
  bad_hand : Pushes t.worker.operation → HandBad t → Damaged t
  bad_seen : UsesSeen t.worker.stage → SeenBad t → Damaged t
  bad_head : ReadsHead t.worker.stage → HeadBad t → Damaged t
  switched_off : OnTagged t.worker.operation → t.on ≡ false → Damaged t
  many_sightings : t.worker.operation ≡ 11 → 4 < t.worker.sightings → Damaged t
  high_tag : t.worker.operation ≡ 10 → 3 < t.worker.tag → Damaged t
  full_got : Takes t.worker.operation → t.worker.got ≢ 0 → Damaged t

-- The test that a move makes holds exactly in these cases.
abbrev pub DamageIsFacts : Type 0
DamageIsFacts = (t : Turn) → (damaged_b t ≡ true) ↔ Damaged t
