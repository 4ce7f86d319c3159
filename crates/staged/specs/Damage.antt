-- What a move works on, and when that is damaged (document 01, Damaged, at a move).
use Rattle.std.specs.Prelude.{ℕ, Bool, false, not, ◌&&◌, ◌||◌, List, [], ◌∷◌, ltb, eqb}
use Rattle.words.specs.Tagged.{tag_of, address_of}
use Rattle.page.specs.Page.{Lent, block_b, listed_b, good_b, sound_b}
use Rattle.operations.specs.declared.Worker.{Worker}
use Rattle.operations.specs.Operations.{pushes_b, on_shared_b, word_of, off_b, full_b, set_tag, ask_tag, reads_head_b, uses_seen_b, paired_b}
use Rattle.staged.specs.declared.Common.{Common}
use Rattle.staged.specs.Workers.{max_tag, max_sightings}

-- one worker's record, the two head words, the switch, and what is lent
pub record Turn : Type 0 where
  pub worker : Worker
  pub shared : ℕ
  pub tagged : ℕ
  pub on : Bool
  pub lent : Lent

abbrev pub turn : Worker → ℕ → ℕ → Bool → Lent → Turn
turn k shared tagged on l = record { worker = k; shared = shared; tagged = tagged; on = on; lent = l }

-- the same, as the code has it
abbrev pub turn_of : Worker → Common → Lent → Turn
turn_of k c l = turn k c.shared c.tagged c.on l

-- the head word of the operation under way
abbrev pub head_word : Turn → ℕ
head_word t = word_of t.worker.operation t.shared t.tagged

-- for 6 and 8, the block in hand not 1 to n or its bit clear
unfoldable pub hand_bad : ℕ → List ℕ → Worker → Bool
hand_bad n bits k = pushes_b k.operation && not (block_b n k.hand && listed_b bits k.hand)

-- for S, a word with a nonzero tag
unfoldable pub tag_on_shared : ℕ → ℕ → Bool
tag_on_shared op word = on_shared_b op && not (eqb (tag_of word) 0)

-- at write or exchange, a seen word whose address part is neither 0 nor good; for S, a nonzero tag too
unfoldable pub seen_bad : ℕ → ℕ → Worker → Bool
seen_bad n bw k =
    uses_seen_b k.stage
    && (not (eqb (address_of k.seen) 0 || good_b n bw (address_of k.seen)) || tag_on_shared k.operation k.seen)

-- at load, swap or masking, a head whose address part is not sound; for S, a nonzero tag too
unfoldable pub head_bad : ℕ → ℕ → List ℕ → Worker → ℕ → Bool
head_bad n bw bits k word =
    reads_head_b k.stage && (not (sound_b n bw bits (address_of word)) || tag_on_shared k.operation word)

-- for 11, sightings above 4
unfoldable pub sightings_bad : Worker → Bool
sightings_bad k = eqb k.operation ask_tag && ltb max_sightings k.sightings

-- for 10, a wanted tag above 3
unfoldable pub tag_bad : Worker → Bool
tag_bad k = eqb k.operation set_tag && ltb max_tag k.tag

-- one of the tests holds
unfoldable pub any : List Bool → Bool
any [] = false
any (b ∷ l) = b || any l

-- the cases in the document's order; the first is an operation and stage that no rule pairs, the fifth T off, the last got not empty
abbrev pub damage_tests : Turn → List Bool
damage_tests t =
    let k = t.worker in
    let l = t.lent in
    not (paired_b k.operation k.stage) ∷ hand_bad l.n l.bits k ∷ seen_bad l.n l.bw k ∷ head_bad l.n l.bw l.bits k (head_word t)
    ∷ off_b k.operation t.on ∷ sightings_bad k ∷ tag_bad k ∷ full_b k.operation k.got ∷ []

-- any case
unfoldable pub damaged_b : Turn → Bool
damaged_b t = any (damage_tests t)
