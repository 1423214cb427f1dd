-- Where a text is known to hold no name behind a prefix, so that the search for the longest token need not read a run of words again.
use Rattle.std.specs.Prelude.{◌≡◌, ℕ, ◌<◌, ◌≤◌, Bool, true, false, List, length, take, drop, get_or, fold, Option, Some, None}
use Rattle.std.proofs.Common.{suc}
use Rattle.vkg_tokens.specs.declared.cutting.Piece.{Piece}
use Rattle.vkg_tokens.specs.declared.cutting.Piece.TheVariants.{Gap, Word, Nothing}
use Rattle.vkg_tokens.specs.declared.lang.Lang.{Lang}
use Rattle.vkg_tokens.specs.declared.lang.State.{State}
use Rattle.vkg_tokens.specs.declared.lang.State.TheVariants.{OfScan}
use Rattle.vkg_tokens.specs.declared.lexeme.Lexeme.TheVariants.{OfName}
use Rattle.vkg_tokens.specs.declared.names.Name.TheVariants.{Prefix}
use Rattle.vkg_tokens.specs.declared.scan.Scan.TheVariants.{Between}
use Rattle.vkg_tokens.specs.Ddl.{is_word_part}
use Rattle.vkg_tokens.specs.Lang.{stepped, classed}

-- what begins a prefixed name and is no word
abbrev pub a_prefix : State
a_prefix = OfScan (Between (OfName Prefix))

abbrev pub is_prefix : State → Bool
is_prefix (OfScan (Between (OfName Prefix))) = true
is_prefix state = false

-- a prefix that is read on with this text never becomes a token
abbrev pub EndsNoName : Lang → List ℕ → Type 0
EndsNoName lang rest = (n : ℕ) → n ≤ length rest → classed lang (fold stepped (Some a_prefix) (take n rest)) ≡ None

-- so it is behind each letter, digit or `_` from one place up to another
abbrev pub IsBarren : Lang → List ℕ → ℕ → ℕ → Type 0
IsBarren lang text from to = (k : ℕ) → from ≤ k → k < to → is_word_part (get_or text k 0) ≡ true → EndsNoName lang (drop (suc k) text)

-- where a token found at the front ends
abbrev pub end_of : Option (ℕ × ℕ) → ℕ
end_of None = 0
end_of (Some t) = t.1

abbrev pub piece_size : Piece → ℕ
piece_size (Gap n) = n
piece_size (Word class n) = n
piece_size Nothing = 0
