-- P1 to P12 and the whole case of document 01 as one statement (Checked by hand), with n = 63, bw = 4, W = 8, and a run in which
-- an address is used again between a load and its exchange. No proof stands in this file.
use Rattle.std.specs.Prelude.{ℕ, ◌*◌, ◌≡◌, true, false, List, [], ◌∷◌, ◌++◌, get_or, replicate}
use Rattle.answers.specs.Rows.{answer}
use Rattle.answers.specs.declared.Answer.{Answer}
use Rattle.words.specs.Tagged.{tag_of, address_of, set_delay_of}
use Rattle.page.specs.Page as page
use Rattle.page.specs.Walk.{walk_of}
use Rattle.machine.specs.Config.{Config, lent_of, worker_of, fresh_of}
use Rattle.demands.specs.Simple.{start}
use Rattle.demands.specs.Moments.{Event, request, move, on, step, end_of, simple_end}
use Rattle.demands.specs.Compare.{answers_of, answers_due, moments_of}

-- a fresh page of 63 blocks of 4 words, whatever its words, and eight workers
abbrev pub clean : Config
clean = (fresh_of 63 4 8 (replicate 256 7) (5 ∷ [])).after

abbrev pub after : List Event → Config
after es = end_of clean es

-- the answers to more events after some
abbrev pub then : List Event → List Event → List Answer
then es more = answers_of step (after es) more

-- the blocks of a worker's own list
abbrev pub owns : Config → ℕ → List ℕ
owns c w = (walk_of (lent_of c) (worker_of c w).own).blocks

-- the link of block i
abbrev pub link : Config → ℕ → ℕ
link c i = get_or c.page (i * 4) 0

-- a request and its moves
abbrev pub pushes : ℕ → ℕ → List Event
pushes w a = request w 6 a 0 ∷ move w false ∷ move w false ∷ move w false ∷ []

abbrev pub takes : ℕ → List Event
takes w = request w 7 0 0 ∷ move w false ∷ move w false ∷ []

abbrev pub sets : ℕ → ℕ → List Event
sets w tag = request w 10 tag 0 ∷ move w false ∷ move w false ∷ []

-- own 6, 5 and got 9, 8 of worker 0
abbrev pub both : List Event
both = request 0 1 5 0 ∷ request 0 1 6 0 ∷ (pushes 1 8 ++ (pushes 1 9 ++ takes 0))

-- own 7
abbrev pub seven : List Event
seven = request 0 1 7 0 ∷ []

-- block 3 alone on T with tag 3
abbrev pub alone : List Event
alone = on ∷ (sets 0 3 ++ (request 1 8 3 0 ∷ move 1 false ∷ move 1 false ∷ move 1 false ∷ []))

-- the whole case
abbrev pub case : List Event
case =
    request 0 1 5 0 ∷ request 0 1 6 0 ∷ request 1 6 9 0 ∷ request 2 6 9 0 ∷ move 1 false ∷ move 1 false ∷ move 1 true ∷ move 1 false ∷ move 1 false ∷ move 1 false
    ∷ request 0 7 0 0 ∷ move 0 false ∷ move 0 false ∷ request 0 3 0 0 ∷ request 0 2 0 0 ∷ []

abbrev pub lines : List Answer
lines =
    answer 0 0 ∷ answer 0 0 ∷ answer 1 0 ∷ answer 9 0 ∷ answer 1 0 ∷ answer 1 0 ∷ answer 1 0 ∷ answer 1 0 ∷ answer 1 0 ∷ answer 0 0 ∷ answer 1 0 ∷ answer 1 0 ∷ answer 0 9
    ∷ answer 0 1 ∷ answer 0 9 ∷ []

pub record Checked : Type 0 where
  -- block 3 has address 96
  pub p1 : page.address_of 4 3 ≡ 96
  -- word 99 splits into 96 and 3
  pub p2 : (address_of 99 ≡ 96) × (tag_of 99 ≡ 3)
  -- tag 1 on 98 gives 97
  pub p3 : set_delay_of 98 1 ≡ answer 0 97
  -- own 6,5, got 9,8: append answers 2, own 9,8,6,5
  pub p4 : (then both (request 0 3 0 0 ∷ []) ≡ answer 0 2 ∷ []) × (owns (after (both ++ (request 0 3 0 0 ∷ []))) 0 ≡ 9 ∷ 8 ∷ 6 ∷ 5 ∷ [])
  -- got empty: 0
  pub p5 : (then seven (request 0 3 0 0 ∷ []) ≡ answer 0 0 ∷ []) × (after (seven ++ (request 0 3 0 0 ∷ [])) ≡ after seven)
  -- extend a=3, b=3 on own 7: 3,4,5,7, links 128, 160, 224
  pub p6 : (then seven (request 0 4 3 3 ∷ []) ≡ answer 0 3 ∷ []) × (owns (after (seven ++ (request 0 4 3 3 ∷ []))) 0 ≡ 3 ∷ 4 ∷ 5 ∷ 7 ∷ [])
      × (link (after (seven ++ (request 0 4 3 3 ∷ []))) 3 ≡ 128) × (link (after (seven ++ (request 0 4 3 3 ∷ []))) 4 ≡ 160) × (link (after (seven ++ (request 0 4 3 3 ∷ []))) 5 ≡ 224)
  -- b=0: 4
  pub p7 : then seven (request 0 4 3 0 ∷ []) ≡ answer 4 0 ∷ []
  -- a=62, b=2 is done; b=3: 4
  pub p8 : (then seven (request 0 4 62 2 ∷ []) ≡ answer 0 2 ∷ []) × (then seven (request 0 4 62 3 ∷ []) ≡ answer 4 0 ∷ [])
  -- take of T=99, block 3 alone: value 3, T=3
  pub p9 : ((after alone).state.tagged ≡ 99) × (then alone (request 0 9 0 0 ∷ move 0 false ∷ []) ≡ answer 1 0 ∷ answer 0 3 ∷ [])
      × ((after (alone ++ (request 0 9 0 0 ∷ move 0 false ∷ []))).state.tagged ≡ 3)
  -- request 11 on tag 2: load, exchange, value 1, tag 0
  pub p10 : (then (on ∷ sets 0 2) (request 3 11 0 0 ∷ move 3 false ∷ move 3 false ∷ []) ≡ answer 1 0 ∷ answer 1 0 ∷ answer 0 1 ∷ [])
      × (tag_of (after (on ∷ (sets 0 2 ++ (request 3 11 0 0 ∷ move 3 false ∷ move 3 false ∷ [])))).state.tagged ≡ 0)
  -- on tag 1: fourth load answers 1, fifth ends with value 0
  pub p11 : then (on ∷ sets 0 1) (request 3 11 0 0 ∷ move 3 false ∷ move 3 false ∷ move 3 false ∷ move 3 false ∷ move 3 false ∷ [])
      ≡ answer 1 0 ∷ answer 1 0 ∷ answer 1 0 ∷ answer 1 0 ∷ answer 1 0 ∷ answer 0 0 ∷ []
  -- insert of a block in a hand: 9
  pub p12 : then (request 1 6 9 0 ∷ []) (request 0 1 9 0 ∷ []) ≡ answer 9 0 ∷ []
  -- the whole case, on both machines, its moments marked
  pub whole : answers_of step clean case ≡ lines
  pub whole_due : answers_due clean (start 63 8) case ≡ lines
  pub whole_moments : moments_of clean case
      ≡ true ∷ true ∷ true ∷ true ∷ false ∷ false ∷ false ∷ false ∷ false ∷ true ∷ true ∷ false ∷ true ∷ true ∷ true ∷ []

-- ---- an address used again: worker 0 has loaded S with block 1 in front and written its link; meanwhile 1 is taken, read, and
-- pushed again after 2, so that the head word is the same and the list another; its exchange succeeds, and S is 3, 1, 2

abbrev pub reuse : List Event
reuse =
    pushes 1 1 ++ (request 0 6 3 0 ∷ move 0 false ∷ move 0 false
    ∷ (takes 2 ++ (request 2 3 0 0 ∷ request 2 2 0 0 ∷ (pushes 2 2 ++ (pushes 2 1 ++ (move 0 false ∷ []))))))

pub record Reused : Type 0 where
  pub real : answers_of step clean reuse ≡ answers_due clean (start 63 8) reuse
  pub shared : (walk_of (lent_of (after reuse)) (after reuse).state.shared).blocks ≡ 3 ∷ 1 ∷ 2 ∷ []
  pub simple : (simple_end clean (start 63 8) reuse).shared ≡ 3 ∷ 1 ∷ 2 ∷ []
