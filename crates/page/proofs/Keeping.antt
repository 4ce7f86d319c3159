-- What stays: links are written at blocks' places and bits put for blocks 1 to n, and nothing else. Assumes nothing.
use Prim.Native.Nat.{ℕ, ◌≤◌, ◌<◌}
use mathlib.Core.Path.{◌≡◌, refl}
use mathlib.Core.List.{List}
use native.Mathlib.Nat.{mul-le-mul_right}
use native.Mathlib.Omega.{arith}
use lib.ListN.{length, get_or}
use Rattle.bitmap.specs.Bitmap.{bit_at}
use Rattle.page.specs.Page.{Lent, lent}
use Rattle.page.specs.Keeps.{NoLink, Keeps}

pub keeps-refl : (c : Lent) → Keeps c c
keeps-refl c = record { n = refl; bw = refl; words = refl; marks = refl; word = λ k l. refl; bit = λ i l. refl }

-- another page and bitmap of the same lengths that differ at links and at bits 1 to n alone
pub keeps-lent : (c : Lent) (q e : List ℕ) → length q ≡ length c.page → length e ≡ length c.bits
    → ((k : ℕ) → NoLink c k → get_or q k 0 ≡ get_or c.page k 0) → ((i : ℕ) → (1 ≤ i → c.n < i) → bit_at e i ≡ bit_at c.bits i)
    → Keeps c (lent c.n c.bw q e)
keeps-lent c q e lq le w b = record { n = refl; bw = refl; words = lq; marks = le; word = w; bit = b }

-- the first bw words are no links
pub first-words : (c : Lent) (k : ℕ) → k < c.bw → NoLink c k
first-words c k l i low high e = omega (arith, mul-le-mul_right {m = 1} {n = i} c.bw low)
