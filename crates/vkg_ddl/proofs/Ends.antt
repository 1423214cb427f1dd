-- Each token of a schema begins and ends with an ASCII byte.
use Rattle.std.proofs.Common.{◌≡◌, ℕ, zero, suc, ◌+◌, ◌-◌, ◌<◌, ◌≤◌, lit<, Bool, true, false, cond, ◌||◌, ◌==◌, ◌⊎◌, inl, inr, Option, Some, None, Ok, List, [], ◌∷◌, ◌++◌, length, get_or, take, refl, sym, ap, ◌∙◌, subst, arith, append_assoc}
use Rattle.std.specs.Prelude.{fold, option_map}
use Rattle.std.specs.List.{AllByRecursion}
use Rattle.std.specs.Char.{is_ascii_digit, is_ascii_alphanumeric}
use Rattle.std.proofs.lemmas.Bool.Decides.{nat_tests}
use Rattle.std.proofs.lemmas.List.{get_or-append-add, length_push}
use Rattle.std.proofs.lemmas.List.Folds.{fold_stays}
use Rattle.std.proofs.lemmas.List.Sums.{fold_more}
use Rattle.std.proofs.lemmas.Option.{none-some, same_Some}
use Rattle.std.proofs.Math.Nat.{lt_of_not-le}
use Rattle.std.specs.Bool.{then_some}
use Rattle.std.specs.Option.{option_and_then}
use Rattle.vkg_lists.proofs.Results.{front_given}
use Rattle.vkg_tokens.specs.declared.cutting.Piece.{Piece}
use Rattle.vkg_tokens.specs.declared.cutting.Piece.TheVariants.{Gap, Word as Found, Nothing}
use Rattle.vkg_tokens.specs.declared.cutting.Token.{Token}
use Rattle.vkg_tokens.specs.declared.ddl.Ddl.{Ddl}
use Rattle.vkg_tokens.specs.declared.ddl.Ddl.TheVariants.{Start, Word, Opened, Emptied, Inside, Closed, Digits, Open, Comma, Close, Semicolon}
use Rattle.vkg_tokens.specs.declared.lang.Lang.TheVariants as lang
use Rattle.vkg_tokens.specs.declared.lang.State.TheVariants.{OfDdl}
use Rattle.vkg_tokens.specs.Cut.{piece, word_or_nothing, cut_piece, cut, tokens_of}
use Rattle.vkg_tokens.specs.Ddl.{is_word_part, ddl_begin, ddl_step, ddl_class}
use Rattle.vkg_tokens.specs.Lang.{kind_of, is_blank, begins_comment, line_length, stepped, classed, token_class, or_shorter, longest_to, longest}
use Rattle.vkg_ddl.specs.Names.{HasAsciiEnds}

other_byte : (b n : ℕ) → n < 128 → 128 ≤ b → (b == n) ≡ false
other_byte b n l h = grind (arith, nat_tests)

fails_high : (b : ℕ) (t : Bool) → (t ≡ true → b < 128) → 128 ≤ b → t ≡ false
fails_high b true low h = let l : b < 128 = low refl in absurd (omega (arith, h, l))
fails_high b false low h = refl

no_digit : (b : ℕ) → 128 ≤ b → is_ascii_digit b ≡ false
no_digit b h = fails_high b (is_ascii_digit b) (λ e. grind arith) h

no_letter : (b : ℕ) → 128 ≤ b → is_ascii_alphanumeric b ≡ false
no_letter b h = fails_high b (is_ascii_alphanumeric b) (λ e. grind arith) h

no_word : (b : ℕ) → 128 ≤ b → is_word_part b ≡ false
no_word b h = λ i. no_letter b h i || other_byte b 95 (lit< tt) h i

-- no token begins with another byte
begins_low : (b : ℕ) → 128 ≤ b → ddl_begin b ≡ None
begins_low b h = λ i.
    cond (other_byte b 40 (lit< tt) h i) (Some Open)
    (cond (other_byte b 44 (lit< tt) h i) (Some Comma)
    (cond (other_byte b 41 (lit< tt) h i) (Some Close)
    (cond (other_byte b 59 (lit< tt) h i) (Some Semicolon)
    (cond (other_byte b 34 (lit< tt) h i) (Some Opened)
    (cond (no_digit b h i) (Some Digits)
    (cond (no_word b h i) (Some Word) None))))))

-- what was read, with this byte at its end, is no token
abbrev IsNoEnd : Option Ddl → Type 0
IsNoEnd o = (o ≡ None) ⊎ (o ≡ Some Inside)

ends_low : (s : Ddl) (b : ℕ) → 128 ≤ b → IsNoEnd (ddl_step s b)
ends_low Start b h = inl (begins_low b h)
ends_low Word b h = inl (ap (λ t. then_some t Word) (no_word b h))
ends_low Opened b h = inr (ap (λ t. Some (cond t Emptied Inside)) (other_byte b 34 (lit< tt) h))
ends_low Emptied b h = inl (ap (λ t. then_some t Inside) (other_byte b 34 (lit< tt) h))
ends_low Inside b h = inr (ap (λ t. Some (cond t Closed Inside)) (other_byte b 34 (lit< tt) h))
ends_low Closed b h = inl (ap (λ t. then_some t Inside) (other_byte b 34 (lit< tt) h))
ends_low Digits b h = inl (ap (λ t. then_some t Digits) (no_digit b h))
ends_low Open b h = inl refl
ends_low Comma b h = inl refl
ends_low Close b h = inl refl
ends_low Semicolon b h = inl refl

-- what was read with one more byte, where anything was
abbrev ddl_stepped : Option Ddl → ℕ → Option Ddl
ddl_stepped o b = option_and_then (λ s. ddl_step s b) o

abbrev ddl_classed : Option Ddl → Option ℕ
ddl_classed o = option_and_then ddl_class o

one_lifted : (o : Option Ddl) (b : ℕ) → stepped (option_map OfDdl o) b ≡ option_map OfDdl (ddl_stepped o b)
one_lifted None b = refl
one_lifted (Some s) b = refl

lifted : (o : Option Ddl) (text : List ℕ) → fold stepped (option_map OfDdl o) text ≡ option_map OfDdl (fold ddl_stepped o text)
lifted o [] = refl
lifted o (b ∷ bs) = ap (λ p. fold stepped p bs) (one_lifted o b) ∙ lifted (ddl_stepped o b) bs

class_lifted : (o : Option Ddl) → classed lang.Ddl (option_map OfDdl o) ≡ ddl_classed o
class_lifted None = refl
class_lifted (Some s) = refl

-- the class of a text, by the automaton of the DDL alone
class_of : (text : List ℕ) → token_class lang.Ddl text ≡ ddl_classed (fold ddl_stepped (Some Start) text)
unfolding token_class
class_of text = ap (classed lang.Ddl) (lifted (Some Start) text) ∙ class_lifted (fold ddl_stepped (Some Start) text)

no_first : (b : ℕ) (bs : List ℕ) → 128 ≤ b → token_class lang.Ddl (b ∷ bs) ≡ None
no_first b bs h = class_of (b ∷ bs) ∙ ap (λ o. ddl_classed (fold ddl_stepped o bs)) (begins_low b h) ∙ ap ddl_classed (fold_stays ddl_stepped None (λ c. refl) bs)

no_class : (o : Option Ddl) → IsNoEnd o → ddl_classed o ≡ None
no_class o (inl e) = ap ddl_classed e
no_class o (inr e) = ap ddl_classed e

no_step : (o : Option Ddl) (b : ℕ) → 128 ≤ b → IsNoEnd (ddl_stepped o b)
no_step None b h = inl refl
no_step (Some s) b h = ends_low s b h

no_last : (text : List ℕ) (i : ℕ) → i < length text → 128 ≤ get_or text i 0 → token_class lang.Ddl (take (i + 1) text) ≡ None
no_last text i l h =
    class_of (take (i + 1) text) ∙ ap ddl_classed (fold_more ddl_stepped (Some Start) text i 0 l)
    ∙ no_class (ddl_stepped (fold ddl_stepped (Some Start) (take i text)) (get_or text i 0)) (no_step (fold ddl_stepped (Some Start) (take i text)) (get_or text i 0) h)

-- the ends of the first n bytes
record AreAsciiEnds (rest : List ℕ) (n : ℕ) : Type 0 where
  some : 0 < n
  inside : n ≤ length rest
  first : get_or rest 0 0 < 128
  last : get_or rest (n - 1) 0 < 128

ends_of : (rest : List ℕ) (n class : ℕ) → 0 < n → n ≤ length rest → token_class lang.Ddl (take n rest) ≡ Some class → AreAsciiEnds rest n
ends_of [] n class s l e = absurd (omega (arith, s, l))
ends_of (b ∷ bs) zero class s l e = absurd (omega (arith, s))
ends_of (b ∷ bs) (suc n) class s l e = record {
  some = s;
  inside = l;
  first = lt_of_not-le (λ h. none-some _ (sym (no_first b (take n bs) h) ∙ e));
  last =
      let here : suc n ≡ n + 1 = omega arith in
      let at : suc n - 1 ≡ n = omega arith in
      lt_of_not-le (λ h. none-some _ (sym (no_last (b ∷ bs) n (omega (arith, l)) (subst (λ k. 128 ≤ get_or (b ∷ bs) k 0) at h)) ∙ ap (λ k. token_class lang.Ddl (take k (b ∷ bs))) (sym here) ∙ e));
}

found_by : (rest : List ℕ) (m n class : ℕ) (o : Option ℕ) → suc m ≤ length rest → (longest_to lang.Ddl rest m ≡ Some (class, n) → AreAsciiEnds rest n) → token_class lang.Ddl (take (suc m) rest) ≡ o → or_shorter o (suc m) (longest_to lang.Ddl rest m) ≡ Some (class, n) → AreAsciiEnds rest n
found_by rest m n class None l shorter f g = shorter g
found_by rest m n class (Some c) l shorter f g = let same : suc m ≡ n = ap (λ (t : ℕ × ℕ). t.1) (same_Some (c, suc m) (class, n) g) in subst (AreAsciiEnds rest) same (ends_of rest (suc m) c (omega arith) l f)

found_to : (rest : List ℕ) (m n class : ℕ) → m ≤ length rest → longest_to lang.Ddl rest m ≡ Some (class, n) → AreAsciiEnds rest n
found_to rest zero n class l e = absurd (cc)
found_to rest (suc m) n class l e = found_by rest m n class (token_class lang.Ddl (take (suc m) rest)) l (λ g. found_to rest m n class (omega (arith, l)) g) refl e

word_found : (rest : List ℕ) (n class : ℕ) (o : Option (ℕ × ℕ)) → longest lang.Ddl rest ≡ o → word_or_nothing o ≡ Found class n → AreAsciiEnds rest n
word_found rest n class None f e = absurd (cc)
word_found rest n class (Some t) f e =
    let here : t.0 ≡ class = cc in
    let size : t.1 ≡ n = cc in
    found_to rest (length rest) n class (omega arith) (f ∙ (λ i. Some (here i, size i)))

piece_ends : (b : ℕ) (bs : List ℕ) (n class : ℕ) → piece lang.Ddl (b ∷ bs) ≡ Found class n → AreAsciiEnds (b ∷ bs) n
unfolding piece
piece_ends b bs n class e = by_tests (is_blank b) (begins_comment lang.Ddl (b ∷ bs)) e
  where
    by_tests : (blank comment : Bool) → cond blank (Gap 1) (cond comment (Gap (line_length bs + 1)) (word_or_nothing (longest lang.Ddl (b ∷ bs)))) ≡ Found class n → AreAsciiEnds (b ∷ bs) n
    by_tests true comment f = absurd (cc)
    by_tests false true f = absurd (cc)
    by_tests false false f = word_found (b ∷ bs) n class (longest lang.Ddl (b ∷ bs)) refl f

placed : (front rest : List ℕ) (at n kind : ℕ) → at ≡ length front → AreAsciiEnds rest n → HasAsciiEnds (front ++ rest) (record { kind = kind; start = at; end = at + n })
placed front rest at n kind e a =
    let first : at ≡ length front + 0 = omega (arith, e) in
    let last : at + n - 1 ≡ length front + (n - 1) = let s = a.some in omega (arith, e, s) in (
      subst (λ k. get_or (front ++ rest) k 0 < 128) (sym first) (subst (λ v. v < 128) (sym (get_or-append-add front rest 0 0)) a.first),
      subst (λ k. get_or (front ++ rest) k 0 < 128) (sym last) (subst (λ v. v < 128) (sym (get_or-append-add front rest (n - 1) 0)) a.last),
    )

-- of what is behind one byte the tokens have such ends
abbrev Further : List ℕ → List ℕ → ℕ → ℕ → Type 0
Further front bs b at = (n : ℕ) (us : List Token) → cut lang.Ddl (at + 1) n bs ≡ Ok us → AllByRecursion (HasAsciiEnds ((front ++ b ∷ []) ++ bs)) us

moved : (front bs : List ℕ) (b : ℕ) (us : List Token) → AllByRecursion (HasAsciiEnds ((front ++ b ∷ []) ++ bs)) us → AllByRecursion (HasAsciiEnds (front ++ b ∷ bs)) us
moved front bs b us h = subst (λ text. AllByRecursion (HasAsciiEnds text) us) (append_assoc front (b ∷ []) bs) h

by_piece : (front bs : List ℕ) (b at : ℕ) (ts : List Token) (p : Piece) → at ≡ length front → Further front bs b at → piece lang.Ddl (b ∷ bs) ≡ p → cut_piece lang.Ddl at (b ∷ bs) p (λ n. cut lang.Ddl (at + 1) (n - 1) bs) ≡ Ok ts → AllByRecursion (HasAsciiEnds (front ++ b ∷ bs)) ts
by_piece front bs b at ts (Gap n) e further f d = moved front bs b ts (further (n - 1) ts d)
by_piece front bs b at ts (Found class n) e further f d =
    let r = front_given _ _ ts d in
    subst (AllByRecursion (HasAsciiEnds (front ++ b ∷ bs))) r.2 (placed front (b ∷ bs) at n (kind_of lang.Ddl class (take n (b ∷ bs))) e (piece_ends b bs n class f), moved front bs b r.0 (further (n - 1) r.0 r.1))
by_piece front bs b at ts Nothing e further f d = absurd (cc)

cut_ends : (front rest : List ℕ) (at left : ℕ) (ts : List Token) → at ≡ length front → cut lang.Ddl at left rest ≡ Ok ts → AllByRecursion (HasAsciiEnds (front ++ rest)) ts
unfolding cut
cut_ends front [] at left ts e c = let none : [] ≡ ts = cc in subst (AllByRecursion (HasAsciiEnds (front ++ []))) none tt
cut_ends front (b ∷ bs) at (suc left) ts e c = moved front bs b ts (cut_ends (front ++ b ∷ []) bs (at + 1) left ts (ap (λ k. k + 1) e ∙ sym (length_push front b)) c)
cut_ends front (b ∷ bs) at zero ts e c = by_piece front bs b at ts (piece lang.Ddl (b ∷ bs)) e (λ n us d. cut_ends (front ++ b ∷ []) bs (at + 1) n us (ap (λ k. k + 1) e ∙ sym (length_push front b)) d) refl c

-- the tokens of a text begin and end with ASCII bytes
pub ascii_ends : (text : List ℕ) (ts : List Token) → tokens_of lang.Ddl text ≡ Ok ts → AllByRecursion (HasAsciiEnds text) ts
ascii_ends text ts e = cut_ends [] text 0 0 ts refl e
