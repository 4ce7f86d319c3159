-- The operations and stages by their numbers, and what each test of them tells (document 01, Requests 6 to 12).
-- Operations have the numbers of their requests; stage 1 loads, 2 writes, 3 exchanges, 4 swaps, 5 masks. No proof
-- stands in this file.
use Rattle.std.specs.Prelude.{ℕ, ◌≤◌, ◌≡◌, ◌≢◌, ◌⊎◌, ◌↔◌, Bool, true, false}
use Rattle.operations.specs.declared.Worker.{Worker}
use Rattle.operations.specs.Operations.{staged_b, pushes_b, takes_b, on_shared_b, on_tagged_b, word_of, off_b, full_b, first_stage, reads_head_b, uses_seen_b, paired_b, busy_b}

-- the operations that push a block
abbrev pub Pushes : ℕ → Type 0
Pushes op = op ≡ 6 ⊎ op ≡ 8

-- those that take a list
abbrev pub Takes : ℕ → Type 0
Takes op = op ≡ 7 ⊎ op ≡ 9

-- those on S
abbrev pub OnShared : ℕ → Type 0
OnShared op = op ≡ 6 ⊎ op ≡ 7

-- those on T
abbrev pub OnTagged : ℕ → Type 0
OnTagged op = (8 ≤ op) × (op ≤ 12)

-- the stages at which the head is looked at
abbrev pub ReadsHead : ℕ → Type 0
ReadsHead stage = stage ≡ 1 ⊎ stage ≡ 4 ⊎ stage ≡ 5

-- those at which the word seen is used
abbrev pub UsesSeen : ℕ → Type 0
UsesSeen stage = stage ≡ 2 ⊎ stage ≡ 3

-- a rule pairs the operation with the stage
pub data Paired : ℕ → ℕ → Type 0 where
  push_shared_loads : Paired 6 1
  push_shared_writes : Paired 6 2
  push_shared_exchanges : Paired 6 3
  take_shared_loads : Paired 7 1
  take_shared_swaps : Paired 7 4
  push_tagged_loads : Paired 8 1
  push_tagged_writes : Paired 8 2
  push_tagged_exchanges : Paired 8 3
  take_tagged_masks : Paired 9 5
  set_loads : Paired 10 1
  set_exchanges : Paired 10 3
  ask_loads : Paired 11 1
  ask_exchanges : Paired 11 3
  wait_loads : Paired 12 1

-- Each test of an operation is true exactly for these numbers; its head word and its first stage go by them too.
pub record OperationIs (op : ℕ) : Type 0 where
  pub staged : (staged_b op ≡ true) ↔ (6 ≤ op) × (op ≤ 12)
  pub pushes : (pushes_b op ≡ true) ↔ Pushes op
  pub takes : (takes_b op ≡ true) ↔ Takes op
  pub shared : (on_shared_b op ≡ true) ↔ OnShared op
  pub tagged : (on_tagged_b op ≡ true) ↔ OnTagged op
  pub word_shared : (s t : ℕ) → OnShared op → word_of op s t ≡ s
  pub word_tagged : (s t : ℕ) → (OnShared op → ⊥) → word_of op s t ≡ t
  pub off : (on : Bool) → (off_b op on ≡ true) ↔ OnTagged op × (on ≡ false)
  pub full : (got : ℕ) → (full_b op got ≡ true) ↔ Takes op × (got ≢ 0)
  pub first_masks : op ≡ 9 → first_stage op ≡ 5
  pub first_loads : op ≢ 9 → first_stage op ≡ 1
  pub paired : (stage : ℕ) → (paired_b op stage ≡ true) ↔ Paired op stage

abbrev pub OperationsAre : Type 0
OperationsAre = (op : ℕ) → OperationIs op

-- So is each test of a stage.
abbrev pub StagesAre : Type 0
StagesAre = (stage : ℕ) → ((reads_head_b stage ≡ true) ↔ ReadsHead stage) × ((uses_seen_b stage ≡ true) ↔ UsesSeen stage)

-- A worker is busy while its operation is not 0.
abbrev pub BusyIs : Type 0
BusyIs = (k : Worker) → (busy_b k ≡ true) ↔ (k.operation ≢ 0)
