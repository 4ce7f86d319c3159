-- A bitmap is a list of words of 64 bits: block i is bit i mod 64 of word i / 64 (document 01, The page).
use Rattle.std.specs.Prelude.{◌≡◌, Bool, false, ◌||◌, cond, List, Option, Some, None, ℕ, zero, suc, ◌+◌, ◌-◌, ◌/◌, ◌%◌, ◌^◌, ◌<◌, ◌≤◌, min, eqb, get_or, set}
use Rattle.words.specs.Digits.{digit, put_digit}

-- bit i; 0 past the end
unfoldable pub bit_at : List ℕ → ℕ → ℕ
bit_at bits i = digit (get_or bits (i / 64) 0) (i % 64)

-- the bitmap with b for bit i; the same bitmap where i is past its end
unfoldable pub bit_put : List ℕ → ℕ → ℕ → List ℕ
bit_put bits i b = set bits (i / 64) (put_digit (get_or bits (i / 64) 0) (i % 64) b)

-- every element is a word
unfoldable pub Words : List ℕ → Type 0
Words bits = (k : ℕ) → get_or bits k 0 < 2 ^ 64

-- how many of the bits 1 to n are set (document 01, Requests: listed count)
unfoldable pub listed_count : List ℕ → ℕ → ℕ
listed_count bits zero = 0
listed_count bits (suc n) = listed_count bits n + bit_at bits (suc n)

-- `clear` where the bit is 0, else `rest`
abbrev pub when_clear : ℕ → ℕ → ℕ → ℕ
when_clear zero clear rest = clear
when_clear (suc b) clear rest = rest

-- the first of the m numbers from i on whose bit is clear; 0 if there is none
unfoldable pub first_from : List ℕ → ℕ → ℕ → ℕ
first_from bits i zero = 0
first_from bits i (suc m) = when_clear (bit_at bits i) i (first_from bits (suc i) m)

-- the smallest of 1 to n whose bit is clear; 0 if there is none (document 01, Requests: first unlisted)
abbrev pub first_unlisted : List ℕ → ℕ → ℕ
first_unlisted bits n = first_from bits 1 n

-- a block that was found; 0 is none
abbrev pub found : ℕ → Option ℕ
found i = cond (eqb i 0) None (Some i)

-- word w, with bit 0 of the bitmap set
unfoldable pub with_zero : List ℕ → ℕ → ℕ
with_zero bits zero = put_digit (get_or bits 0 0) 0 1
with_zero bits (suc w) = get_or bits (suc w) 0

-- r is the lowest clear digit of a word of 64, or 64
pub record FirstClear (w r : ℕ) : Type 0 where
  pub most : r ≤ 64
  pub before : (j : ℕ) → j < r → digit w j ≡ 1
  pub here : r < 64 → digit w r ≡ 0

-- any of the m numbers from a on is such
unfoldable pub any_from : (ℕ → Bool) → ℕ → ℕ → Bool
any_from is a zero = false
any_from is a (suc m) = any_from is a m || is (a + m)

-- any of the m bits from a on is set
abbrev pub any_set : List ℕ → ℕ → ℕ → Bool
any_set bits a m = any_from (λ i. eqb (bit_at bits i) 1) a m

-- the bitmap with b for the m bits from a on
unfoldable pub put_run : List ℕ → ℕ → ℕ → ℕ → List ℕ
put_run bits a zero b = bits
put_run bits a (suc m) b = bit_put (put_run bits a m b) (a + m) b

-- how many of the b numbers from a on a number of 64 bits can name
abbrev pub run_length : ℕ → ℕ → ℕ
run_length a b = min b (2 ^ 64 - a)
