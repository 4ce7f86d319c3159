-- Laws of the page: a test that is true gives its facts, its facts give the test, and block and address lead to each other.
-- Assumes nothing.
use Prim.Native.Nat.{ℕ, ◌+◌, ◌*◌, ◌/◌, ◌%◌, ◌≤◌, ◌<◌}
use mathlib.Core.Path.{◌≡◌, refl, sym, ap, ◌∙◌}
use mathlib.Core.Logic.{◌≢◌, ◌↔◌}
use mathlib.Core.Bool.{true, false, ◌&&◌, cond}
use mathlib.Core.List.{[], ◌∷◌}
use native.Mathlib.Nat.{mul-le-mul, mul_left_comm, mul_comm, mul_assoc, mul-pos, mul-le-mul_right, mul-lt-mul_of_pos_right, eq_of_mul-eq-mul_right, div-add-mod', div-le_of_le-mul, le-div_iff_mul-le, mul-div_cancel, mul-div-mul_left, mul-mod_left}
use native.Mathlib.Omega.{arith}
use lib.Dec.{leb, eqb}
use lib.ListN.{length}
use borrow.Author.Tests.{leb-true, eqb-true, le-leb, eq-eqb, ne_eqb}
use Rattle.answers.specs.Rows.{all}
use Rattle.answers.proofs.Rows.{refuted, agrees, and_left, and_right, all-at}
use Rattle.page.specs.Limits.{max_blocks, max_width, max_workers}
use Rattle.page.specs.Page.{Lent, fits_tests, fits_b, keeps_rules_b, Rules, workers_b, block_b, run_b, listed_b, place, address_of, block_of, good_b, sound_b, sound_in}
use Rattle.page.specs.Sequences.{Listed}

-- ---- the page rules

-- the rules as facts of n, bw and the two lengths
abbrev pub Fits : ℕ → ℕ → ℕ → ℕ → Type 0
Fits n bw p b = (n ≤ max_blocks) × (1 ≤ bw) × (bw ≤ max_width) × (p ≡ (n + 1) * bw) × (b ≡ (n + 64) / 64)

module _ (n bw p b : ℕ) where
  -- what the test says
  pub fits-facts : fits_b n bw p b ≡ true → Fits n bw p b
  unfolding fits_b
  fits-facts e =
      let l = fits_tests n bw p b in (
        leb-true _ _ (all-at l 0 e),
        leb-true _ _ (all-at l 1 e),
        leb-true _ _ (all-at l 2 e),
        eqb-true _ _ (all-at l 3 e),
        eqb-true _ _ (all-at l 4 e),
      )

  -- what passes it
  pub fits-test : Fits n bw p b → fits_b n bw p b ≡ true
  unfolding fits_b all
  fits-test f = simp (le-leb _ _ f.0, le-leb _ _ f.1, le-leb _ _ f.2, eq-eqb _ _ f.3, eq-eqb _ _ f.4)

module _ (c : Lent) where
  -- a page whose test is true keeps the rules
  pub rules-facts : keeps_rules_b c ≡ true → Rules c
  rules-facts e =
      let f = fits-facts c.n c.bw (length c.page) (length c.bits) e in
      record { blocks = f.0; some = f.1; narrow = f.2; words = f.3; marks = f.4 }

  -- a page that keeps them passes the test
  pub rules-test : Rules c → keeps_rules_b c ≡ true
  rules-test r = fits-test _ _ _ _ (r.blocks, r.some, r.narrow, r.words, r.marks)

-- ---- a block's number, and how many workers

module _ (n a : ℕ) where
  -- a block's number is 1 to n
  pub block-facts : block_b n a ≡ true → (1 ≤ a) × (a ≤ n)
  unfolding block_b
  block-facts e =
      let l = leb 1 a ∷ leb a n ∷ [] in
      (leb-true _ _ (all-at l 0 e), leb-true _ _ (all-at l 1 e))

  -- 1 to n are blocks' numbers
  pub block-test : (1 ≤ a) × (a ≤ n) → block_b n a ≡ true
  unfolding block_b all
  block-test f = simp (le-leb _ _ f.0, le-leb _ _ f.1)

module _ (w : ℕ) where
  -- there are 1 to 8 workers
  pub workers-facts : workers_b w ≡ true → (1 ≤ w) × (w ≤ max_workers)
  unfolding workers_b block_b
  workers-facts = block-facts max_workers w

  -- 1 to 8 workers may be
  pub workers-test : (1 ≤ w) × (w ≤ max_workers) → workers_b w ≡ true
  unfolding workers_b block_b
  workers-test = block-test max_workers w

module _ (n a b : ℕ) where
  -- a run of blocks lies within 1 to n
  pub run-facts : run_b n a b ≡ true → (1 ≤ a) × (1 ≤ b) × (a + b ≤ n + 1)
  unfolding run_b
  run-facts e =
      let l = leb 1 a ∷ leb a n ∷ leb 1 b ∷ leb (a + b) (n + 1) ∷ [] in
      (leb-true _ _ (all-at l 0 e), leb-true _ _ (all-at l 2 e), leb-true _ _ (all-at l 3 e))

  -- and every such run passes
  pub run-test : (1 ≤ a) × (1 ≤ b) × (a + b ≤ n + 1) → run_b n a b ≡ true
  unfolding run_b all
  run-test f = simp (le-leb _ _ f.0, le-leb a n (omega arith), le-leb _ _ f.1, le-leb _ _ f.2)

-- ---- addresses

-- block i's address leads to block i
pub block-address : (bw i : ℕ) → 1 ≤ bw → block_of bw (address_of bw i) ≡ i
block-address bw i s = mul-div-mul_left (i * bw) bw (omega arith) ∙ mul-div_cancel i (omega arith)

-- a multiple of 8·bw is the address of the block that it leads to
pub address-block : (bw h : ℕ) → h % (8 * bw) ≡ 0 → h ≡ address_of bw (block_of bw h)
address-block bw h e = omega (arith, div-add-mod' h (8 * bw), mul_left_comm 8 (h / (8 * bw)) bw)

-- from 8·bw on an address leads to a block from 1 on, and only from there
pub block-low : (bw h : ℕ) → 1 ≤ bw → (1 ≤ block_of bw h) ↔ (8 * bw ≤ h)
block-low bw h s =
    let both = le-div_iff_mul-le {k = 8 * bw} {x = 1} {y = h} (omega arith) in
    (λ l. omega (arith, both.0 l), λ l. both.1 (omega arith))

-- an address is a multiple of 8·bw
pub address-whole : (bw i : ℕ) → address_of bw i % (8 * bw) ≡ 0
address-whole bw i = rw (mul_left_comm 8 i bw) (mul-mod_left i (8 * bw))

-- the word at block i's address is the one where it starts
pub address-place : (bw i : ℕ) → address_of bw i / 8 ≡ place bw i
address-place bw i = omega arith

-- its two lowest bits are free
pub address-even : (bw i : ℕ) → address_of bw i % 4 ≡ 0
address-even bw i = omega arith

-- a block's address is above 0
pub address-pos : (bw i : ℕ) → 1 ≤ bw → 1 ≤ i → 0 < address_of bw i
address-pos bw i s l = omega (arith, mul-pos {m = i} {n = bw} (omega arith) (omega arith))

-- and so it is not 0, which means none
pub address-some : (bw i : ℕ) → 1 ≤ bw → 1 ≤ i → address_of bw i ≢ 0
address-some bw i s l e = omega (arith, address-pos bw i s l)

-- it is below 2^21
pub address-fits : (bw i : ℕ) → bw ≤ max_width → i ≤ max_blocks → address_of bw i < 2097152
address-fits bw i s l = omega (arith, mul-le-mul {n₂ = max_blocks} {m₂ = max_width} l s)

-- two blocks do not start at one word
pub place-apart : (bw i j : ℕ) → 1 ≤ bw → place bw i ≡ place bw j → i ≡ j
place-apart bw i j s e = eq_of_mul-eq-mul_right bw (omega arith) i j e

module _ (c : Lent) (i : ℕ) (r : Rules c) (l : i ≤ c.n) where
  -- a block starts inside the page
  pub place_inside : place c.bw i < length c.page
  place_inside = omega (arith, mul-lt-mul_of_pos_right {m = i} {n = c.n + 1} {k = c.bw} (omega arith) (omega arith))

  -- and its bit stands inside the bitmap
  pub bit-inside : i / 64 < length c.bits
  bit-inside = omega arith

-- ---- what `address` and `block` give

-- within the limits, block i's address
pub address-within : (bw i : ℕ) → bw ≤ max_width → i ≤ max_blocks → cond (leb bw max_width && leb i max_blocks) (address_of bw i) 0 ≡ address_of bw i
address-within bw i s l = simp (le-leb _ _ s, le-leb _ _ l)

-- within the limits, the block at h
pub block_within : (bw h : ℕ) → 1 ≤ bw → bw ≤ max_width → cond (leb 1 bw && leb bw max_width) (block_of bw h) 0 ≡ block_of bw h
block_within bw h s l = simp (le-leb _ _ s, le-leb _ _ l)

-- on a page that keeps the rules, block i's address
pub address_is : (c : Lent) (i : ℕ) → Rules c → i ≤ c.n → cond (leb c.bw max_width && leb i max_blocks) (address_of c.bw i) 0 ≡ address_of c.bw i
address_is c i r l = address-within c.bw i r.narrow (omega arith)

-- on a page that keeps the rules, the block at h
pub block-is : (c : Lent) (h : ℕ) → Rules c → cond (leb 1 c.bw && leb c.bw max_width) (block_of c.bw h) 0 ≡ block_of c.bw h
block-is c h r = block_within c.bw h r.some r.narrow

-- ---- good heads

-- h is the address of a block, as facts
pub record Good (n bw h : ℕ) : Type 0 where
  pub some : 1 ≤ bw
  pub narrow : bw ≤ max_width
  pub is : h ≡ address_of bw (block_of bw h)
  pub low : 1 ≤ block_of bw h
  pub high : block_of bw h ≤ n

module _ (n bw h : ℕ) where
  -- a good head is a block's address
  pub good-facts : good_b n bw h ≡ true → Good n bw h
  unfolding good_b
  good-facts e =
      let l = leb 1 bw ∷ leb bw max_width ∷ eqb (h % (8 * bw)) 0 ∷ leb (8 * bw) h ∷ leb h (8 * bw * n) ∷ [] in
      let s : 1 ≤ bw = leb-true _ _ (all-at l 0 e) in
      record {
        some = s;
        narrow = leb-true _ _ (all-at l 1 e);
        is = address-block bw h (eqb-true _ _ (all-at l 2 e));
        low = (block-low bw h s).1 (leb-true _ _ (all-at l 3 e));
        high = div-le_of_le-mul (8 * bw) (leb-true _ _ (all-at l 4 e));
      }

  -- what is no block's address is not good
  pub good-not : (Good n bw h → ⊥) → good_b n bw h ≡ false
  good-not f = refuted _ (λ e. f (good-facts e))

-- a block's address is good
pub good-test : (n bw i : ℕ) → 1 ≤ bw → bw ≤ max_width → 1 ≤ i → i ≤ n → good_b n bw (address_of bw i) ≡ true
unfolding good_b all
good-test n bw i s w l m =
    simp (
      le-leb _ _ s,
      le-leb _ _ w,
      eq-eqb _ _ (address-whole bw i),
      le-leb (8 * bw) (address_of bw i) (omega (arith, mul-le-mul_right {m = 1} {n = i} bw l)),
      le-leb (address_of bw i) (8 * bw * n) (omega (arith, mul-le-mul_right {m = i} {n = n} bw m, mul_comm n bw, mul_assoc 8 bw n)),
    )

-- the facts of a good head pass the test
pub good_of : (n bw h : ℕ) → Good n bw h → good_b n bw h ≡ true
good_of n bw h g = ap (good_b n bw) g.is ∙ good-test n bw (block_of bw h) g.some g.narrow g.low g.high

-- with a block's number, a head is good if it is that block's address
pub good-is : (n bw h : ℕ) → 1 ≤ bw → bw ≤ max_width → 1 ≤ block_of bw h → block_of bw h ≤ n → eqb (block_of bw h * (8 * bw)) h ≡ good_b n bw h
good-is n bw h s w l m =
    agrees (eqb (block_of bw h * (8 * bw)) h) (good_b n bw h)
    (λ e. good_of n bw h (record { some = s; narrow = w; is = sym (eqb-true _ _ e) ∙ mul_left_comm (block_of bw h) 8 bw; low = l; high = m }))
    (λ e. eq-eqb _ _ (mul_left_comm (block_of bw h) 8 bw ∙ sym (good-facts n bw h e).is))

-- ---- sound heads

-- 0 is sound: an empty list
pub sound-zero : (c : Lent) → sound_in c 0 ≡ true
unfolding sound_b
sound-zero c = refl

module _ (c : Lent) (h : ℕ) (z : h ≢ 0) (e : sound_in c h ≡ true) where
  -- past the case of 0, the two tests of a sound head
  both : good_b c.n c.bw h && listed_b c.bits (block_of c.bw h) ≡ true
  unfolding sound_b
  both = simp (ne_eqb _ _ z) at e

  -- any other sound head is good
  pub sound-good : Good c.n c.bw h
  sound-good = good-facts c.n c.bw h (and_left _ (listed_b c.bits (block_of c.bw h)) both)

  -- it is the address of a listed block
  pub sound-facts : (h ≡ address_of c.bw (block_of c.bw h)) × Listed c (block_of c.bw h)
  sound-facts =
      let g = sound-good in
      (g.is, record { low = g.low; high = g.high; bit = eqb-true _ _ (and_right (good_b c.n c.bw h) _ both) })

-- a listed block's address is sound
pub sound-test : (c : Lent) (i : ℕ) → Rules c → Listed c i → sound_in c (address_of c.bw i) ≡ true
unfolding sound_b
sound-test c i r l =
    simp (
      ne_eqb _ _ (address-some c.bw i r.some l.low),
      good-test c.n c.bw i r.some r.narrow l.low l.high,
      block-address c.bw i r.some,
      eq-eqb _ _ l.bit,
    )
