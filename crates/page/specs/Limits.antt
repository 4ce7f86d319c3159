-- The limits of a page (document 01, The page).
use Rattle.std.specs.Prelude.{ℕ}

-- blocks
abbrev pub max_blocks : ℕ
max_blocks = 4095

-- words of a block
abbrev pub max_width : ℕ
max_width = 64

-- workers
abbrev pub max_workers : ℕ
max_workers = 8
