-- The least place at which no token begins or the bytes are no UTF-8.
use Rattle.std.proofs.Common.{◌≡◌, ℕ, ◌+◌, ◌-◌, ◌≤◌, List, [], ◌∷◌, Result, Ok, Err, zero, suc, length, take, ap, sym, ◌∙◌, subst, arith}
use Rattle.std.specs.Prelude.{IsUtf8}
use Rattle.std.specs.Str.Lossy.{utf8_valid_len}
use Rattle.std.proofs.Math.Seq.{take-length}
use Rattle.std.proofs.lemmas.List.{length-take-le}
use Rattle.std.proofs.lemmas.Str.{utf8_valid_len_le, utf8_valid_len-IsUtf8}
use Rattle.vkg_lists.specs.Results.{in_front}
use Rattle.vkg_lists.proofs.Results.{ok_err, err_same}
use Rattle.vkg_tokens.specs.declared.lang.Lang.{Lang}
use Rattle.vkg_tokens.specs.declared.cutting.Token.{Token}
use Rattle.vkg_tokens.specs.declared.cutting.Piece.{Piece}
use Rattle.vkg_tokens.specs.declared.cutting.Piece.TheVariants.{Gap, Word, Nothing}
use Rattle.vkg_tokens.specs.Cut.{cut, cut_piece, piece, tokens_of}
use Rattle.vkg_turtle.specs.Lexical.{IsEndOfTokens, stops, ends, valid_front, IsBadAt, no_token, no_utf8, IsFirstBad}

-- ---- a place at which no token begins is within the text

front_err : (t : Token) (r : Result (List Token) ℕ) (at : ℕ) → in_front t r ≡ Err at → r ≡ Err at
front_err t (Ok ts) at e = absurd (ok_err (t ∷ ts) at e)
front_err t (Err p) at e = e

piece_within : (lang : Lang) (at bound place : ℕ) (rest : List ℕ) (p : Piece) (after : ℕ → Result (List Token) ℕ)
    → at ≤ bound → ((n : ℕ) → after n ≡ Err place → place ≤ bound) → cut_piece lang at rest p after ≡ Err place → place ≤ bound
piece_within lang at bound place rest (Gap n) after l h e = h n e
piece_within lang at bound place rest (Word class n) after l h e = h n (front_err _ (after n) place e)
piece_within lang at bound place rest Nothing after l h e = subst (λ p. p ≤ bound) (err_same {A = List Token} at place e) l

cut_within : (lang : Lang) (at left : ℕ) (bytes : List ℕ) (place : ℕ) → cut lang at left bytes ≡ Err place → place ≤ at + length bytes
unfolding cut
cut_within lang at left [] place e = absurd (ok_err [] place e)
cut_within lang at (suc left) (b ∷ bs) place e = let h = cut_within lang (at + 1) left bs place e in omega (arith, h)
cut_within lang at zero (b ∷ bs) place e =
    piece_within lang at (at + length (b ∷ bs)) place (b ∷ bs) (piece lang (b ∷ bs)) (λ n. cut lang (at + 1) (n - 1) bs) (omega arith)
    (λ n h. let l = cut_within lang (at + 1) (n - 1) bs place h in omega (arith, l)) e

place_within : (lang : Lang) (text : List ℕ) (place : ℕ) → tokens_of lang text ≡ Err place → place ≤ length text
place_within lang text place e = let h = cut_within lang 0 0 text place e in omega (arith, h)

-- ---- the front of a text is the text

pub front_is_all : (bytes : List ℕ) → IsUtf8 bytes → valid_front bytes ≡ bytes
front_is_all bytes u = ap (λ n. take n bytes) (utf8_valid_len-IsUtf8 bytes u) ∙ take-length bytes

pub length-front : (bytes : List ℕ) → length (valid_front bytes) ≡ utf8_valid_len bytes
length-front bytes = length-take-le (utf8_valid_len bytes) bytes (utf8_valid_len_le bytes)

-- ---- each of the two is the least

module _ {lang : Lang} {bytes : List ℕ} where
  before_end : (at : ℕ) → tokens_of lang (valid_front bytes) ≡ Err at → (other : ℕ) → IsBadAt lang bytes other → at ≤ other
  before_end at e other (no_token h) = let same : at ≡ other = err_same {A = List Token} at other (sym e ∙ h) in omega (arith, same)
  before_end at e other (no_utf8 n h) = let l = place_within lang (valid_front bytes) at e in omega (arith, l, length-front bytes, h)

  pub first_token : (at : ℕ) → tokens_of lang (valid_front bytes) ≡ Err at → IsFirstBad lang bytes at
  first_token at e = record { bad = no_token e; least = before_end at e }

  pub first_of_text : (at : ℕ) → IsUtf8 bytes → tokens_of lang bytes ≡ Err at → IsFirstBad lang bytes at
  first_of_text at u e = first_token at (ap (tokens_of lang) (front_is_all bytes u) ∙ e)

  at_end : (ts : List Token) → tokens_of lang (valid_front bytes) ≡ Ok ts → (other : ℕ) → IsBadAt lang bytes other → utf8_valid_len bytes ≤ other
  at_end ts e other (no_token h) = absurd (ok_err ts other (sym e ∙ h))
  at_end ts e other (no_utf8 n h) = omega (arith, h)

  pub first_byte : (ts : List Token) (at : ℕ) → (IsUtf8 bytes → ⊥) → tokens_of lang (valid_front bytes) ≡ Ok ts → at ≡ utf8_valid_len bytes → IsFirstBad lang bytes at
  first_byte ts at n e p = record { bad = no_utf8 n p; least = λ other h. let l = at_end ts e other h in omega (arith, l, p) }

  pub first_in_front : (at : ℕ) → (IsUtf8 bytes → ⊥) → IsEndOfTokens lang (valid_front bytes) at → IsFirstBad lang bytes at
  first_in_front at n (stops e) = first_token at e
  first_in_front at n (ends {ts} e l) = first_byte ts at n e (l ∙ length-front bytes)

  -- ---- there is one, and none of a text of tokens

  pub one_first : {a b : ℕ} → IsFirstBad lang bytes a → IsFirstBad lang bytes b → a ≡ b
  one_first {a = a} {b = b} x y = let l = x.least b y.bad in let m = y.least a x.bad in omega (arith, l, m)

  pub not_bad : {ts : List Token} {at : ℕ} → IsUtf8 bytes → tokens_of lang bytes ≡ Ok ts → IsFirstBad lang bytes at → ⊥
  not_bad {ts = ts} {at = at} u e f = none f.bad
    where
      none : IsBadAt lang bytes at → ⊥
      none (no_token h) = ok_err ts at (sym (ap (tokens_of lang) (front_is_all bytes u) ∙ e) ∙ h)
      none (no_utf8 n h) = n u
