-- The least place at which no token begins or the bytes are no UTF-8.
use Rattle.std.specs.Prelude.{◌≡◌, ◌≤◌, ℕ, List, length, take, IsUtf8, Ok, Err}
use Rattle.std.specs.Str.Lossy.{utf8_valid_len}
use Rattle.vkg_tokens.specs.declared.lang.Lang.{Lang}
use Rattle.vkg_tokens.specs.declared.cutting.Token.{Token}
use Rattle.vkg_tokens.specs.Cut.{tokens_of}

-- Unicode 3.9, table 3-7: the longest front of the bytes that is UTF-8
abbrev pub valid_front : List ℕ → List ℕ
valid_front bytes = take (utf8_valid_len bytes) bytes

-- Tokens run up to this place of a text: no token begins at it, or it is the end.
pub data IsEndOfTokens (lang : Lang) (text : List ℕ) : ℕ → Type 0 where
  stops : {at : ℕ} → tokens_of lang text ≡ Err at → IsEndOfTokens lang text at
  ends : {ts : List Token} {at : ℕ} → tokens_of lang text ≡ Ok ts → at ≡ length text → IsEndOfTokens lang text at

-- RDF 1.1 Turtle, 6.5, and SPARQL 1.1, 19.8: tokens are of characters, so none holds a byte of no character. At this place no token begins, or
-- the bytes are no UTF-8 from here.
pub data IsBadAt (lang : Lang) (bytes : List ℕ) : ℕ → Type 0 where
  no_token : {at : ℕ} → tokens_of lang (valid_front bytes) ≡ Err at → IsBadAt lang bytes at
  no_utf8 : {at : ℕ} → (IsUtf8 bytes → ⊥) → at ≡ utf8_valid_len bytes → IsBadAt lang bytes at

-- the least such place
pub record IsFirstBad (lang : Lang) (bytes : List ℕ) (at : ℕ) : Type 0 where
  pub bad : IsBadAt lang bytes at
  pub least : (other : ℕ) → IsBadAt lang bytes other → at ≤ other
