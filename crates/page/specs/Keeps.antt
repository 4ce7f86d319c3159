-- What no call ever changes, in any state (document 01, The page; demand 2: words that are no links never change).
use Rattle.std.specs.Prelude.{ℕ, ◌≤◌, ◌<◌, ◌≡◌, ◌≢◌, length, get_or}
use Rattle.bitmap.specs.Bitmap.{bit_at}
use Rattle.page.specs.Page.{Lent, place}

-- word k is no block's link; the first bw words are none
abbrev pub NoLink : Lent → ℕ → Type 0
NoLink c k = (i : ℕ) → 1 ≤ i → i ≤ c.n → k ≢ place c.bw i

-- the numbers and the lengths, every word that is no link, bit 0 and the bits above n stay
pub record Keeps (c d : Lent) : Type 0 where
  pub n : d.n ≡ c.n
  pub bw : d.bw ≡ c.bw
  pub words : length d.page ≡ length c.page
  pub marks : length d.bits ≡ length c.bits
  pub word : (k : ℕ) → NoLink c k → get_or d.page k 0 ≡ get_or c.page k 0
  pub bit : (i : ℕ) → (1 ≤ i → c.n < i) → bit_at d.bits i ≡ bit_at c.bits i
