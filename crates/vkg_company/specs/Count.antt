-- How many employees a word asks for.
use Rattle.std.specs.Prelude.{◌≡◌, ℕ, ◌<◌, ◌≤◌, Bool, ◌&&◌, List, Option, decimal, nat_lt, nat_le}
use Rattle.std.specs.Bool.{then_some}
use Rattle.std.specs.Str.{bytes_eq}
use Rattle.std.specs.Str.Parse.{digits_value}

-- own: a number from 1 to 100000, in decimal digits without a sign or a leading zero
pub record IsCount (word : List ℕ) (n : ℕ) : Type 0 where
  pub written : word ≡ decimal n
  pub some : 0 < n
  pub limit : n ≤ 100000

-- the same as a test
abbrev pub is_count : List ℕ → ℕ → Bool
is_count word n = nat_lt 0 n && (nat_le n 100000 && bytes_eq (decimal n) word)

abbrev pub if_count : List ℕ → ℕ → Option ℕ
if_count word n = then_some (is_count word n) n

-- the number that the word's digits are, where it is one
abbrev pub count_in : List ℕ → Option ℕ
count_in word = if_count word (digits_value 10 word)
