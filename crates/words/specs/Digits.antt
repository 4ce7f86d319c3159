-- Binary digits of a number.
use Rattle.std.specs.Prelude.{ℕ, ◌+◌, ◌-◌, ◌*◌, ◌/◌, ◌%◌, ◌^◌}

-- binary digit k
unfoldable pub digit : ℕ → ℕ → ℕ
digit w k = w / 2 ^ k % 2

-- the number with b for its digit k
unfoldable pub put_digit : ℕ → ℕ → ℕ → ℕ
put_digit w k b = w - digit w k * 2 ^ k + b * 2 ^ k
