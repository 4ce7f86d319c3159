-- One bit put and read again: the same, another, past the end, twice. Assumes nothing.
use mathlib.Core.Path.{◌≡◌, sym, ap, ◌∙◌}
use mathlib.Core.Logic.{◌≢◌}
use mathlib.Core.List.{List}
use Prim.Native.Nat.{ℕ, ◌/◌, ◌%◌, ◌^◌, ◌≤◌, ◌<◌}
use native.Mathlib.Nat.{zero-div}
use native.Mathlib.Decide.{dec_lt, ℕ_discrete}
use native.Mathlib.Omega.{arith}
use mathlib.Core.Bool.{true, false}
use lib.Dec.{eqb}
use borrow.Author.Tests.{eqb-true, eqb-false}
use lib.ListN.{length, get_or, set, length-set, get_or-eq_default}
use lib.Seq.{get_or-set_same, get_or-set_other, set_out, set-get_or, set-set}
use Rattle.words.specs.Digits.{digit, put_digit}
use Rattle.bitmap.specs.Bitmap.{bit_at, bit_put, Words}
use Rattle.words.proofs.Digits.{digit_lt, put_same, put_other, put-lt, put-same-digit, put-put}

-- a bit is 0 or 1
pub bit-lt : (bits : List ℕ) (i : ℕ) → bit_at bits i < 2
unfolding bit_at
bit-lt bits i = digit_lt (get_or bits (i / 64) 0) (i % 64)

-- past the end a bit is 0
pub at_out : (bits : List ℕ) (i : ℕ) → length bits ≤ i / 64 → bit_at bits i ≡ 0
unfolding bit_at digit
at_out bits i h = rw (get_or-eq_default bits 0 h) (omega (arith, zero-div (2 ^ (i % 64))))

-- and putting one there changes nothing
pub put-out : (bits : List ℕ) (i b : ℕ) → length bits ≤ i / 64 → bit_put bits i b ≡ bits
unfolding bit_put
put-out bits i b h = set_out bits (i / 64) _ h

-- a put keeps the length
pub put-length : (bits : List ℕ) (i b : ℕ) → length (bit_put bits i b) ≡ length bits
unfolding bit_put
put-length bits i b = length-set bits (i / 64) _

-- the bit put is the bit read
pub at-put-same : (bits : List ℕ) (i b : ℕ) → b < 2 → i / 64 < length bits → bit_at (bit_put bits i b) i ≡ b
unfolding bit_at bit_put
at-put-same bits i b h l =
    ap (λ (w : ℕ). digit w (i % 64)) (get_or-set_same bits (i / 64) _ 0 l) ∙ put_same (get_or bits (i / 64) 0) (i % 64) b h

-- every other bit stays
pub at-put-other : (bits : List ℕ) (i j b : ℕ) → b < 2 → j ≢ i → bit_at (bit_put bits i b) j ≡ bit_at bits j
unfolding bit_at bit_put
at-put-other bits i j b h n = word (ℕ_discrete (j / 64) (i / 64)) (dec_lt (i / 64) (length bits))
  where
    w : ℕ
    w = get_or bits (i / 64) 0

    new : List ℕ
    new = set bits (i / 64) (put_digit w (i % 64) b)

    word : Dec (j / 64 ≡ i / 64) → Dec (i / 64 < length bits) → digit (get_or new (j / 64) 0) (j % 64) ≡ digit (get_or bits (j / 64) 0) (j % 64)
    word (no g) d = ap (λ (x : ℕ). digit x (j % 64)) (get_or-set_other bits (i / 64) (j / 64) _ 0 g)
    word (yes e) (no g) = ap (λ (l : List ℕ). digit (get_or l (j / 64) 0) (j % 64)) (set_out bits (i / 64) _ (omega arith))
    word (yes e) (yes l) =
        ap (λ (x : ℕ). digit (get_or new x 0) (j % 64)) e
        ∙ ap (λ (x : ℕ). digit x (j % 64)) (get_or-set_same bits (i / 64) _ 0 l)
        ∙ put_other w (i % 64) b (j % 64) h (omega arith)
        ∙ ap (λ (x : ℕ). digit (get_or bits x 0) (j % 64)) (sym e)

-- a bit that was cleared is 0, past the end too
pub at_clear : (bits : List ℕ) (i : ℕ) → bit_at (bit_put bits i 0) i ≡ 0
at_clear bits i = pick (dec_lt (i / 64) (length bits))
  where
    pick : Dec (i / 64 < length bits) → bit_at (bit_put bits i 0) i ≡ 0
    pick (yes l) = at-put-same bits i 0 (omega arith) l
    pick (no g) = at_out (bit_put bits i 0) i (omega (arith, put-length bits i 0))

-- words stay words
pub put-words : (bits : List ℕ) (i b : ℕ) → b < 2 → Words bits → Words (bit_put bits i b)
unfolding bit_put Words
put-words bits i b h ws k = word (ℕ_discrete k (i / 64)) (dec_lt (i / 64) (length bits))
  where
    w : ℕ
    w = get_or bits (i / 64) 0

    new : List ℕ
    new = set bits (i / 64) (put_digit w (i % 64) b)

    word : Dec (k ≡ i / 64) → Dec (i / 64 < length bits) → get_or new k 0 < 2 ^ 64
    word (no g) d = rw (get_or-set_other bits (i / 64) k _ 0 g) (ws k)
    word (yes e) (no g) = rw (set_out bits (i / 64) (put_digit w (i % 64) b) (omega arith)) (ws k)
    word (yes e) (yes l) = rw (e, get_or-set_same bits (i / 64) (put_digit w (i % 64) b) 0 l) (put-lt 64 w (i % 64) b h (omega arith) (ws (i / 64)))

-- putting what is there changes nothing
pub put-again : (bits : List ℕ) (i b : ℕ) → bit_at bits i ≡ b → bit_put bits i b ≡ bits
unfolding bit_at bit_put
put-again bits i b e =
    ap (λ (x : ℕ). set bits (i / 64) (put_digit (get_or bits (i / 64) 0) (i % 64) x)) (sym e)
    ∙ ap (set bits (i / 64)) (put-same-digit (get_or bits (i / 64) 0) (i % 64))
    ∙ set-get_or bits (i / 64) 0

-- the second of two puts at one place stays
pub put-twice : (bits : List ℕ) (i a b : ℕ) → a < 2 → bit_put (bit_put bits i a) i b ≡ bit_put bits i b
unfolding bit_put
put-twice bits i a b h = pick (dec_lt (i / 64) (length bits))
  where
    w : ℕ
    w = get_or bits (i / 64) 0

    new : List ℕ
    new = set bits (i / 64) (put_digit w (i % 64) a)

    pick : Dec (i / 64 < length bits) → set new (i / 64) (put_digit (get_or new (i / 64) 0) (i % 64) b) ≡ set bits (i / 64) (put_digit w (i % 64) b)
    pick (yes l) =
        set-set bits (i / 64) _ _
        ∙ ap (λ (x : ℕ). set bits (i / 64) (put_digit x (i % 64) b)) (get_or-set_same bits (i / 64) _ 0 l)
        ∙ ap (set bits (i / 64)) (put-put w (i % 64) a b h)
    pick (no g) = ap (λ (l : List ℕ). set l (i / 64) (put_digit (get_or l (i / 64) 0) (i % 64) b)) (set_out bits (i / 64) _ (omega arith))

-- a bit that tests as set is 1
pub is_one : (bits : List ℕ) (i : ℕ) → eqb (bit_at bits i) 1 ≡ true → bit_at bits i ≡ 1
is_one bits i e = eqb-true (bit_at bits i) 1 e

-- and one that does not is 0
pub is_zero : (bits : List ℕ) (i : ℕ) → eqb (bit_at bits i) 1 ≡ false → bit_at bits i ≡ 0
is_zero bits i e =
    let n : bit_at bits i ≢ 1 = eqb-false (bit_at bits i) 1 e in
    omega (arith, bit-lt bits i)
