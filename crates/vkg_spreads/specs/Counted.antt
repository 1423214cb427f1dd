-- A number that is counted up to a bound.
use Rattle.std.specs.Prelude.{ℕ, min}

-- 65 stands for any number of more
abbrev pub capped : ℕ → ℕ
capped n = min n 65
