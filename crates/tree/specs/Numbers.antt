-- The numbers of sendings and trials. Assumes nothing.
use Rattle.std.specs.Prelude.{ℕ, ◌-◌, ◌^◌}

-- the highest number: the counter of its block, two above it, is the highest that there is
abbrev pub last_number : ℕ
last_number = 2 ^ 32 - 3
