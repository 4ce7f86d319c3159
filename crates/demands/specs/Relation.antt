-- How a configuration stands for a state of the simple machine: each head runs over its sequence (demand 2's `Runs`), each
-- record fits its note, and set bits are the blocks in use (document 01, The simple machine).
use Rattle.std.specs.Prelude.{ℕ, ◌≤◌, ◌<◌, ◌≡◌, ◌⊎◌, Bool, true, false, [], ◌∷◌, length, get_or}
use Rattle.words.specs.Tagged.{tag_of, address_of, no_delayed_free}
use Rattle.bitmap.specs.Bitmap.{bit_at}
use Rattle.page.specs.Limits.{max_workers}
use Rattle.page.specs.Page.{Lent, Rules, place}
use Rattle.page.specs.Page as page
use Rattle.page.specs.Sequences.{Listed, Runs}
use Rattle.operations.specs.declared.Worker.{Worker}
use Rattle.operations.specs.Operations.{push_shared, take_shared, push_tagged, take_tagged, set_tag, ask_tag, await_tag, loading, writing, exchanging, swapping, masking}
use Rattle.staged.specs.Workers.{max_sightings}
use Rattle.machine.specs.Config.{Config, lent_of, worker_of}
use Rattle.demands.specs.Simple.{Simple, Hands, hands_of, times_in}

-- the address part of a word seen is 0 or a block's address
pub record Seen (c : Lent) (word : ℕ) : Type 0 where
  pub block : ℕ
  pub within : block ≤ c.n
  pub is : address_of word ≡ page.address_of c.bw block

-- a push by its stage: what was seen, and the link written
pub data Pushing (c : Lent) (k : Worker) : Type 0 where
  loads : k.stage ≡ loading → Pushing c k
  writes : k.stage ≡ writing → Seen c k.seen → Pushing c k
  exchanges : k.stage ≡ exchanging → Seen c k.seen → get_or c.page (place c.bw k.hand) 0 ≡ address_of k.seen → Pushing c k

-- a worker's record and its note, by the operation under way
pub data Doing (c : Lent) (on : Bool) (k : Worker) (t : Hands) : Type 0 where
  resting : t.hand ≡ [] → k.operation ≡ 0 → t.note ≡ 0 → Doing c on k t
  pushing_shared : t.hand ≡ k.hand ∷ [] → k.operation ≡ push_shared → t.note ≡ push_shared → Listed c k.hand
      → (k.stage ≡ loading) ⊎ (tag_of k.seen ≡ 0) → Pushing c k → Doing c on k t
  pushing_tagged : t.hand ≡ k.hand ∷ [] → k.operation ≡ push_tagged → t.note ≡ push_tagged → Listed c k.hand → on ≡ true → Pushing c k → Doing c on k t
  taking_shared : t.hand ≡ [] → k.operation ≡ take_shared → t.note ≡ take_shared → t.got ≡ [] → (k.stage ≡ loading) ⊎ (k.stage ≡ swapping) → Doing c on k t
  taking_tagged : t.hand ≡ [] → k.operation ≡ take_tagged → t.note ≡ take_tagged → t.got ≡ [] → on ≡ true → k.stage ≡ masking → Doing c on k t
  setting : t.hand ≡ [] → k.operation ≡ set_tag → t.note ≡ set_tag → k.tag ≡ t.want → k.tag ≤ 3 → on ≡ true
      → (k.stage ≡ loading) ⊎ ((k.stage ≡ exchanging) × Seen c k.seen) → Doing c on k t
  asking : t.hand ≡ [] → k.operation ≡ ask_tag → t.note ≡ ask_tag → k.sightings ≤ max_sightings → on ≡ true
      → (k.stage ≡ loading) ⊎ ((k.stage ≡ exchanging) × Seen c k.seen × (tag_of k.seen ≡ no_delayed_free)) → Doing c on k t
  awaiting : t.hand ≡ [] → k.operation ≡ await_tag → t.note ≡ await_tag → on ≡ true → k.stage ≡ loading → Doing c on k t

-- one worker: own and got run over its sequences
pub record Fits (c : Lent) (on : Bool) (k : Worker) (t : Hands) : Type 0 where
  pub own : Runs c k.own t.own
  pub got : Runs c k.got t.got
  pub doing : Doing c on k t

pub record Sim (c : Config) (s : Simple) : Type 0 where
  pub rules : Rules (lent_of c)
  pub some : 1 ≤ c.state.w
  pub most : c.state.w ≤ max_workers
  pub records : length c.state.workers ≡ max_workers
  pub n : s.n ≡ c.state.n
  pub count : length s.workers ≡ c.state.w
  pub shared : Runs (lent_of c) c.state.shared s.shared
  pub tagged : Runs (lent_of c) (address_of c.state.tagged) s.tagged
  pub tag : tag_of c.state.tagged ≡ s.tag
  pub on : c.state.on ≡ s.on
  pub off : s.on ≡ false → (s.tagged ≡ []) × (s.tag ≡ 0)
  pub each : (w : ℕ) → w < c.state.w → Fits (lent_of c) c.state.on (worker_of c w) (hands_of s w)
  -- each block is with its caller, in one hand, or once on one list: the bits tell
  pub once : (i : ℕ) → 1 ≤ i → i ≤ c.state.n → times_in i s ≡ bit_at c.bits i
  pub within : (i : ℕ) → 0 < times_in i s → (1 ≤ i) × (i ≤ c.state.n)
