-- The kinds of tokens.
use Rattle.std.specs.Prelude.{ℕ, ◌<◌, List, map, slice_index_or}
use Rattle.std.specs.List.{AllByRecursion}
use Rattle.vkg_tokens.specs.declared.cutting.Token.{Token}

-- the kinds of these tokens, one after another
abbrev pub kinds_of : List Token → List ℕ
kinds_of tokens = map (λ t. t.kind) tokens

-- where a token begins
abbrev pub start_at : List Token → ℕ → ℕ
start_at tokens i = slice_index_or (map (λ t. t.start) tokens) i 0

-- Each token is of a kind below this number.
abbrev pub AreBelow : ℕ → List Token → Type 0
AreBelow kinds tokens = AllByRecursion (λ t. t.kind < kinds) tokens
