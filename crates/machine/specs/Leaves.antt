-- What a request or a move leaves as it was, in any state (document 01, Requests 1 to 13). No proof stands in this file.
use Rattle.std.specs.Prelude.{ℕ, ◌≡◌, ◌≢◌, Bool, true, get_or}
use Rattle.operations.specs.Operations.{staged_b}
use Rattle.machine.specs.Config.{Config, blank}
use Rattle.machine.specs.Requests.{request_of}
use Rattle.machine.specs.Moves.{move_of}

-- every worker's record but one
abbrev pub OtherRecords : ℕ → Config → Config → Type 0
OtherRecords w c d = (u : ℕ) → u ≢ w → get_or d.state.workers u blank ≡ get_or c.state.workers u blank

-- a request leaves S, T, T's switch and the records of the others
pub record RequestLeaves (w : ℕ) (c d : Config) : Type 0 where
  pub shared : d.state.shared ≡ c.state.shared
  pub tagged : d.state.tagged ≡ c.state.tagged
  pub on : d.state.on ≡ c.state.on
  pub others : OtherRecords w c d

abbrev pub RequestsLeaveHeads : Type 0
RequestsLeaveHeads = (c : Config) (w code a b : ℕ) → RequestLeaves w c (request_of c w code a b).after

-- a request of 6 to 12 leaves the page as well: no block is linked before its operation's moves
abbrev pub StartsLeavePage : Type 0
StartsLeavePage = (c : Config) (w code a b : ℕ) → staged_b code ≡ true → (request_of c w code a b).after.page ≡ c.page

-- a move leaves the bitmap, T's switch and the records of the others
pub record MoveLeaves (w : ℕ) (c d : Config) : Type 0 where
  pub bits : d.bits ≡ c.bits
  pub on : d.state.on ≡ c.state.on
  pub others : OtherRecords w c d

abbrev pub MovesLeaveBits : Type 0
MovesLeaveBits = (c : Config) (w : ℕ) (flag : Bool) → MoveLeaves w c (move_of c w flag).after
