-- What the rows of the tables speak of, in facts and numerals: the page rules with W, the arguments that fit a
-- request, the blocks that it names, and damage at a request (document 01, The page; Numbers given back; Damaged). No
-- proof stands in this file.
use Rattle.std.specs.Prelude.{ℕ, ◌+◌, ◌*◌, ◌/◌, ◌≤◌, ◌<◌, ◌≡◌, ◌≢◌, ◌↔◌, Bool, true, List, length, get_or}
use Rattle.page.specs.Heads.{SoundHead}
use Rattle.page.specs.Sequences.{Runs}
use Rattle.machine.specs.Config.{Config, worker_of, lent_of, rules_b}
use Rattle.machine.specs.Table.{arguments_fit_b, any_named, request_damaged_b}

-- ---- the page rules

-- n, bw, W and the two lengths keep the page rules.
pub record PageFact (n bw w : ℕ) (page bits : List ℕ) : Type 0 where
  pub blocks : n ≤ 4095
  pub some : 1 ≤ bw
  pub narrow : bw ≤ 64
  pub workers : 1 ≤ w
  pub most : w ≤ 8
  pub words : length page ≡ (n + 1) * bw
  pub marks : length bits ≡ (n + 64) / 64

abbrev pub RulesFact : Config → Type 0
RulesFact c = PageFact c.state.n c.state.bw c.state.w c.page c.bits

abbrev pub RulesAreFacts : Type 0
RulesAreFacts = (c : Config) → (rules_b c ≡ true) ↔ RulesFact c

-- ---- arguments

-- There is a request with this number, and a and b are what it asks for; those that it does not use may be anything.
pub data Fits : ℕ → ℕ → ℕ → ℕ → Type 0 where
  fits_insert : {n a b : ℕ} → 1 ≤ a → a ≤ n → Fits n 1 a b
  fits_pop : {n a b : ℕ} → Fits n 2 a b
  fits_append : {n a b : ℕ} → Fits n 3 a b
  fits_extend : {n a b : ℕ} → 1 ≤ a → 1 ≤ b → a + b ≤ n + 1 → Fits n 4 a b
  fits_release : {n a b : ℕ} → Fits n 5 a b
  fits_push_shared : {n a b : ℕ} → 1 ≤ a → a ≤ n → Fits n 6 a b
  fits_take_shared : {n a b : ℕ} → Fits n 7 a b
  fits_push_tagged : {n a b : ℕ} → 1 ≤ a → a ≤ n → Fits n 8 a b
  fits_take_tagged : {n a b : ℕ} → Fits n 9 a b
  fits_set_tag : {n a b : ℕ} → a ≤ 3 → Fits n 10 a b
  fits_ask_tag : {n a b : ℕ} → Fits n 11 a b
  fits_await_tag : {n a b : ℕ} → Fits n 12 a b
  fits_ask_empty : {n a b : ℕ} → Fits n 13 a b

abbrev pub ArgumentsFit : Type 0
ArgumentsFit = (n code a b : ℕ) → (arguments_fit_b n code a b ≡ true) ↔ Fits n code a b

-- Block i is named by the request: a by an insert or a push, a to a+b−1 by an extend.
pub data Named : ℕ → ℕ → ℕ → ℕ → Type 0 where
  named_insert : {a b : ℕ} → Named 1 a b a
  named_extend : {a b i : ℕ} → a ≤ i → i < a + b → Named 4 a b i
  named_push_shared : {a b : ℕ} → Named 6 a b a
  named_push_tagged : {a b : ℕ} → Named 8 a b a

abbrev pub NamedBlocks : Type 0
NamedBlocks = (is : ℕ → Bool) (code a b : ℕ) → (any_named is code a b ≡ true) ↔ ((i : ℕ) × Named code a b i × (is i ≡ true))

-- ---- damage at a request

-- Each request by its number: a head or a link that is not sound, or a list that runs over no sequence of blocks to 0.
pub data RequestDamaged (c : Config) (w : ℕ) : ℕ → Type 0 where
  insert_own : (SoundHead (lent_of c) (worker_of c w).own → ⊥) → RequestDamaged c w 1
  pop_own : (SoundHead (lent_of c) (worker_of c w).own → ⊥) → RequestDamaged c w 2
  pop_link : (SoundHead (lent_of c) (get_or c.page ((worker_of c w).own / 8) 0) → ⊥) → RequestDamaged c w 2
  append_own : (worker_of c w).got ≢ 0 → (SoundHead (lent_of c) (worker_of c w).own → ⊥) → RequestDamaged c w 3
  append_got : (worker_of c w).got ≢ 0 → ((xs : List ℕ) → Runs (lent_of c) (worker_of c w).got xs → ⊥) → RequestDamaged c w 3
  extend_own : (SoundHead (lent_of c) (worker_of c w).own → ⊥) → RequestDamaged c w 4
  release_own : (SoundHead (lent_of c) (worker_of c w).own → ⊥) → RequestDamaged c w 5
  release_walk : ((xs : List ℕ) → Runs (lent_of c) (worker_of c w).own xs → ⊥) → RequestDamaged c w 5

abbrev pub DamageAtRequest : Type 0
DamageAtRequest = (c : Config) (w code : ℕ) → RulesFact c → (request_damaged_b c w code ≡ true) ↔ RequestDamaged c w code
