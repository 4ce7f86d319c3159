-- The page's tests as facts with their numerals: limits, page rules, workers, blocks, runs of blocks, and addresses
-- (document 01, The page). No proof stands in this file.
use Rattle.std.specs.Prelude.{ℕ, ◌+◌, ◌*◌, ◌≤◌, ◌≡◌, ◌↔◌, true, List, get_or}
use Rattle.page.specs.Limits.{max_blocks, max_width, max_workers}
use Rattle.page.specs.Page.{Lent, keeps_rules_b, Rules, workers_b, block_b, run_b, place, address_of, block_of, link_at}

-- At most 4,095 blocks of at most 64 words, and 8 workers.
abbrev pub LimitsAre : Type 0
LimitsAre = (max_blocks ≡ 4095) × (max_width ≡ 64) × (max_workers ≡ 8)

-- The test of the page rules is true exactly where they hold.
abbrev pub RulesAre : Type 0
RulesAre = (c : Lent) → (keeps_rules_b c ≡ true) ↔ Rules c

-- There are 1 to 8 workers.
abbrev pub WorkersAre : Type 0
WorkersAre = (w : ℕ) → (workers_b w ≡ true) ↔ (1 ≤ w) × (w ≤ 8)

-- Blocks are numbered from 1 to n.
abbrev pub BlocksAre : Type 0
BlocksAre = (n a : ℕ) → (block_b n a ≡ true) ↔ (1 ≤ a) × (a ≤ n)

-- A run from a on has a block at least, and its last one, a+b−1, is at most n.
abbrev pub RunsOfBlocksAre : Type 0
RunsOfBlocksAre = (n a b : ℕ) → (run_b n a b ≡ true) ↔ (1 ≤ a) × (1 ≤ b) × (a + b ≤ n + 1)

-- Block i starts at word i·bw, which is its link, and has the address 8·bw·i, which leads back to it.
pub record BlockStands (bw i : ℕ) : Type 0 where
  pub word : place bw i ≡ i * bw
  pub address : address_of bw i ≡ 8 * bw * i
  pub block : 1 ≤ bw → block_of bw (8 * bw * i) ≡ i
  pub link : (page : List ℕ) → link_at page (8 * bw * i) ≡ get_or page (i * bw) 0

abbrev pub BlocksStand : Type 0
BlocksStand = (bw i : ℕ) → BlockStands bw i
