-- The bytes of a language tag of Turtle are visible.
use Rattle.std.proofs.Common.{codes, ◌≡◌, ◌∙◌, ◌+◌, ◌-◌, ◌*◌, ℕ, zero, suc, Bool, true, false, ◌==◌, ◌||◌, List, [], ◌∷◌, length, take, drop, refl, sym, ap, subst, Option, Some, None, Ok, Err, Result, arith, nat_lt}
use Rattle.std.specs.Prelude.{IfOk, IfSome, fold, nat_le, option_map}
use Rattle.std.specs.List.{AllByRecursion, list_all}
use Rattle.std.specs.Option.{option_or}
use Rattle.std.proofs.Math.Utf8.{scalar}
use Rattle.std.proofs.lemmas.Bool.{cond_both}
use Rattle.std.proofs.lemmas.Bool.Decides.{nat_tests}
use Rattle.vkg_lists.proofs.Bools.{and_true}
use Rattle.vkg_terms.specs.Writable.{is_visible}
use Rattle.vkg_tokens.specs.declared.lang.Lang.TheVariants.{Turtle}
use Rattle.vkg_tokens.specs.declared.lang.State.{State}
use Rattle.vkg_tokens.specs.declared.lang.State.TheVariants.{OfDdl, OfScan}
use Rattle.vkg_tokens.specs.declared.lexeme.Lexeme.{Lexeme}
use Rattle.vkg_tokens.specs.declared.lexeme.Lexeme.TheVariants.{Start, OfName, OfNumber, OfString, OfIri, OfSign, OfTag, OfVariable}
use Rattle.vkg_tokens.specs.declared.scan.Scan.{Scan}
use Rattle.vkg_tokens.specs.declared.scan.Scan.TheVariants.{Between, Within}
use Rattle.vkg_tokens.specs.declared.tags.Tag.{Tag}
use Rattle.vkg_tokens.specs.declared.tags.Tag.TheVariants.{At, Letters, Dash, Part}
use Rattle.vkg_tokens.specs.declared.iris.IriRef.TheVariants as iri
use Rattle.vkg_tokens.specs.Ddl.{ddl_step}
use Rattle.vkg_tokens.specs.Lang.{begins_comment, class_at, classed, is_blank, kind_of, longest_to, or_shorter, start, step, stepped, token_class}
use Rattle.vkg_tokens.specs.Cut.{cut, cut_piece, piece, tokens_of, word_or_nothing}
use Rattle.vkg_tokens.specs.Words.{is_caseless, is_exactly, turtle_tag, turtle_word}
use Rattle.vkg_tokens.specs.declared.cutting.Piece.{Piece}
use Rattle.vkg_tokens.specs.declared.cutting.Piece.TheVariants.{Gap, Nothing, Word}
use Rattle.vkg_tokens.specs.declared.cutting.Token.{Token}
use Rattle.vkg_lists.specs.Results.{in_front}
use Rattle.std.proofs.lemmas.List.{drop-drop}
use Rattle.vkg_tokens.specs.declared.names.Name.{Name}
use Rattle.vkg_tokens.specs.declared.names.Name.TheVariants as name
use Rattle.vkg_tokens.specs.declared.numbers.Number.{Number}
use Rattle.vkg_tokens.specs.declared.numbers.Number.TheVariants as number
use Rattle.vkg_tokens.specs.declared.strings.Quoted.{Quoted}
use Rattle.vkg_tokens.specs.declared.strings.Quoted.TheVariants as string
use Rattle.vkg_tokens.specs.declared.iris.IriRef.{IriRef}
use Rattle.vkg_tokens.specs.declared.signs.Sign.{Sign}
use Rattle.vkg_tokens.specs.declared.signs.Sign.TheVariants as sign
use Rattle.vkg_tokens.specs.Lexeme.{string_or_none, turtle_iri, turtle_name, turtle_number, first_byte, further_byte, lexeme_begin, lexeme_step, mark_begin, with_code}
use Rattle.vkg_tokens.specs.Names.{name_begin, name_step}
use Rattle.vkg_tokens.specs.Numbers.{number_begin, number_step}
use Rattle.vkg_tokens.specs.Strings.{quoted_begin, quoted_step}
use Rattle.vkg_tokens.specs.Iris.{iri_step}
use Rattle.vkg_tokens.specs.Signs.{turtle_sign, sign_begin, sign_step}
use Rattle.vkg_tokens.specs.Tags.{tag_step, variable_step}
use Rattle.std.specs.Char.{is_ascii_alphabetic, is_ascii_alphanumeric}

-- nothing was read yet, or a tag
abbrev tagging : Lexeme → Bool
tagging Start = true
tagging (OfName s) = false
tagging (OfNumber s) = false
tagging (OfString s) = false
tagging (OfIri s) = false
tagging (OfSign s) = false
tagging (OfTag s) = true
tagging (OfVariable s) = false

-- what comes of this is a tag only if that was one, and by a visible character
abbrev Back : Bool → ℕ → Option Lexeme → Type 0
Back before c o = IfSome o (λ m. tagging m ≡ true → (before ≡ true) × (is_visible c ≡ true))

module _ (before : Bool) (c : ℕ) where
  no_tag : {S : Type 0} (F : S → Lexeme) → ((s : S) → tagging (F s) ≡ false) → (o : Option S) → Back before c (option_map F o)
  no_tag F h None = tt
  no_tag F h (Some s) = λ t. let f = h s in cc

  or_later : {S : Type 0} (F : S → Lexeme) → ((s : S) → tagging (F s) ≡ false) → (o : Option S) (rest : Option Lexeme) → Back before c rest → Back before c (option_or (option_map F o) rest)
  or_later F h None rest k = k
  or_later F h (Some s) rest k = λ t. let f = h s in cc

mark_back : (c : ℕ) → Back true c (mark_begin c)
mark_back c =
    cond_both (c == 0x3c) _ _ (Back true c) (λ _. λ t. cc)
    (λ _. cond_both (c == 0x40) _ _ (Back true c) (λ w. λ t. (refl, grind (arith, nat_tests)))
    (λ _. cond_both (c == 0x3f) _ _ (Back true c) (λ _. λ t. cc)
    (λ _. cond_both (c == 0x24) _ _ (Back true c) (λ _. λ t. cc) (λ _. tt))))

begin_back : (c : ℕ) → Back true c (lexeme_begin c)
begin_back c =
    or_later true c OfName (λ s. refl) (name_begin c) _
    (or_later true c OfNumber (λ s. refl) (number_begin c) _
    (or_later true c OfString (λ s. refl) (quoted_begin c) _
    (or_later true c OfSign (λ s. refl) (sign_begin c) _ (mark_back c))))

letter_visible : (c : ℕ) → is_ascii_alphabetic c ≡ true → is_visible c ≡ true
letter_visible c e = grind (arith, nat_tests)

part_visible : (c : ℕ) → is_ascii_alphanumeric c ≡ true → is_visible c ≡ true
part_visible c e = grind (arith, nat_tests)

dash_visible : (c : ℕ) → (c == 0x2d) ≡ true → is_visible c ≡ true
dash_visible c e = grind (arith, nat_tests)

tag_back : (s : Tag) (c : ℕ) → Back true c (option_map OfTag (tag_step s c))
tag_back At c = cond_both (is_ascii_alphabetic c) (Some Letters) None (λ o. Back true c (option_map OfTag o)) (λ e. λ t. (refl, letter_visible c e)) (λ _. tt)
tag_back Letters c =
    cond_both (is_ascii_alphabetic c) (Some Letters) _ (λ o. Back true c (option_map OfTag o)) (λ e. λ t. (refl, letter_visible c e))
    (λ _. cond_both (c == 0x2d) (Some Dash) None (λ o. Back true c (option_map OfTag o)) (λ e. λ t. (refl, dash_visible c e)) (λ _. tt))
tag_back Dash c = cond_both (is_ascii_alphanumeric c) (Some Part) None (λ o. Back true c (option_map OfTag o)) (λ e. λ t. (refl, part_visible c e)) (λ _. tt)
tag_back Part c =
    cond_both (is_ascii_alphanumeric c) (Some Part) _ (λ o. Back true c (option_map OfTag o)) (λ e. λ t. (refl, part_visible c e))
    (λ _. cond_both (c == 0x2d) (Some Dash) None (λ o. Back true c (option_map OfTag o)) (λ e. λ t. (refl, dash_visible c e)) (λ _. tt))

lexeme_back : (m : Lexeme) (c : ℕ) → Back (tagging m) c (lexeme_step m c)
lexeme_back Start c = begin_back c
lexeme_back (OfName s) c = no_tag false c OfName (λ s. refl) (name_step s c)
lexeme_back (OfNumber s) c = no_tag false c OfNumber (λ s. refl) (number_step s c)
lexeme_back (OfString s) c = no_tag false c OfString (λ s. refl) (quoted_step s c)
lexeme_back (OfIri s) c = no_tag false c OfIri (λ s. refl) (iri_step s c)
lexeme_back (OfSign s) c = no_tag false c OfSign (λ s. refl) (sign_step s c)
lexeme_back (OfTag s) c = tag_back s c
lexeme_back (OfVariable s) c = no_tag false c OfVariable (λ s. refl) (variable_step s c)

-- ---- bytes

abbrev scanning : Scan → Bool
scanning (Between m) = tagging m
scanning (Within m left bits) = tagging m

abbrev reading : State → Bool
reading (OfDdl s) = false
reading (OfScan s) = scanning s

abbrev BackScan : Bool → ℕ → Option Scan → Type 0
BackScan before b o = IfSome o (λ s. scanning s ≡ true → (before ≡ true) × (is_visible b ≡ true))

between_back : (before : Bool) (c b : ℕ) → (is_visible c ≡ true → is_visible b ≡ true) → (o : Option Lexeme) → Back before c o → BackScan before b (option_map Between o)
between_back before c b v None h = tt
between_back before c b v (Some m) h = λ t. let k = h t in (k.0, v k.1)

code_back : (m : Lexeme) (c b : ℕ) → (is_visible c ≡ true → is_visible b ≡ true) → BackScan (tagging m) b (with_code m c)
code_back m c b v = cond_both (scalar c) (option_map Between (lexeme_step m c)) None (BackScan (tagging m) b) (λ _. between_back (tagging m) c b v (lexeme_step m c) (lexeme_back m c)) (λ _. tt)

first_back : (m : Lexeme) (b : ℕ) → BackScan (tagging m) b (first_byte m b)
first_back m b =
    cond_both (nat_lt b 0x80) _ _ (BackScan (tagging m) b) (λ _. code_back m b b (λ v. v))
    (λ low. let v : is_visible b ≡ true = grind (arith, nat_tests) in
    cond_both (nat_lt b 0xc0) _ _ (BackScan (tagging m) b) (λ _. tt)
    (λ _. cond_both (nat_lt b 0xe0) _ _ (BackScan (tagging m) b) (λ _. λ t. (t, v))
    (λ _. cond_both (nat_lt b 0xf0) _ _ (BackScan (tagging m) b) (λ _. λ t. (t, v))
    (λ _. cond_both (nat_lt b 0xf8) _ _ (BackScan (tagging m) b) (λ _. λ t. (t, v)) (λ _. tt)))))

further_back : (m : Lexeme) (left bits b : ℕ) → BackScan (tagging m) b (further_byte m left bits b)
further_back m left bits b =
    cond_both (nat_lt b 0x80 || nat_le 0xc0 b || nat_le 0x8000 bits) _ _ (BackScan (tagging m) b) (λ _. tt)
    (λ low. let v : is_visible b ≡ true = grind (arith, nat_tests) in
    cond_both (nat_lt 1 left) _ _ (BackScan (tagging m) b) (λ _. λ t. (t, v)) (λ _. code_back m (bits * 64 + (b - 0x80)) b (λ _. v)))

abbrev BackState : Bool → ℕ → Option State → Type 0
BackState before b o = IfSome o (λ s. reading s ≡ true → (before ≡ true) × (is_visible b ≡ true))

scan_back : (before : Bool) (b : ℕ) (o : Option Scan) → BackScan before b o → BackState before b (option_map OfScan o)
scan_back before b None h = tt
scan_back before b (Some s) h = h

step_back : (s : State) (b : ℕ) → BackState (reading s) b (step s b)
step_back (OfDdl s) b = of (ddl_step s b)
  where
    of : (o : Option _) → BackState false b (option_map OfDdl o)
    of None = tt
    of (Some r) = λ t. cc
step_back (OfScan (Between m)) b = scan_back (tagging m) b (first_byte m b) (first_back m b)
step_back (OfScan (Within m left bits)) b = scan_back (tagging m) b (further_byte m left bits b) (further_back m left bits b)

nothing_read : (bs : List ℕ) → fold stepped None bs ≡ None
nothing_read [] = refl
nothing_read (b ∷ bs) = nothing_read bs

abbrev AllVisible : List ℕ → Type 0
AllVisible bs = list_all is_visible bs ≡ true

-- all of a text that is read as a tag
bytes_back : (bs : List ℕ) (s : State) → IfSome (fold stepped (Some s) bs) (λ r. reading r ≡ true → (reading s ≡ true) × AllVisible bs)
bytes_back [] s = λ t. (t, refl)
bytes_back (b ∷ bs) s = of (step s b) (step_back s b) (λ r. bytes_back bs r)
  where
    of : (o : Option State) → BackState (reading s) b o → ((r : State) → IfSome (fold stepped (Some r) bs) (λ q. reading q ≡ true → (reading r ≡ true) × AllVisible bs))
        → IfSome (fold stepped o bs) (λ q. reading q ≡ true → (reading s ≡ true) × AllVisible (b ∷ bs))
    of None h more = subst (λ o. IfSome o (λ q. reading q ≡ true → (reading s ≡ true) × AllVisible (b ∷ bs))) (sym (nothing_read bs)) tt
    of (Some r) h more = further (fold stepped (Some r) bs) (more r)
      where
        further : (o : Option State) → IfSome o (λ q. reading q ≡ true → (reading r ≡ true) × AllVisible bs) → IfSome o (λ q. reading q ≡ true → (reading s ≡ true) × AllVisible (b ∷ bs))
        further None k = tt
        further (Some q) k = λ t. let p = k t in let w = h p.0 in (w.0, and_true (is_visible b) (list_all is_visible bs) w.1 p.1)

-- ---- kinds

word_kind : (text : List ℕ) → turtle_word text ≡ 20 → ⊥
unfolding turtle_word
word_kind text =
    let P : ℕ → Type 0 = λ n. n ≡ 20 → ⊥ in
    cond_both (is_exactly text (codes "a")) 9 _ P (λ _. λ e. omega arith)
    (λ _. cond_both (is_exactly text (codes "true")) 11 _ P (λ _. λ e. omega arith)
    (λ _. cond_both (is_exactly text (codes "false")) 12 _ P (λ _. λ e. omega arith)
    (λ _. cond_both (is_caseless text (codes "prefix")) 2 _ P (λ _. λ e. omega arith)
    (λ _. cond_both (is_caseless text (codes "base")) 3 24 P (λ _. λ e. omega arith) (λ _. λ e. omega arith)))))

tag_class : (class : ℕ) (text : List ℕ) → kind_of Turtle class text ≡ 20 → class ≡ 20
tag_class class text =
    cond_both (class == 24) (turtle_word text) _ (λ n. n ≡ 20 → class ≡ 20) (λ _. λ e. absurd (word_kind text e))
    (λ _. cond_both (class == 20) (turtle_tag text) class (λ n. n ≡ 20 → class ≡ 20) (λ w. λ e. grind (arith, nat_tests)) (λ _. λ e. e))

abbrev NotTag : Option ℕ → Type 0
NotTag o = IfSome o (λ class. class ≡ 20 → ⊥)

name_class : (s : Name) → NotTag (turtle_name s)
name_class name.Word = λ e. absurd (omega arith)
name_class name.Prefix = tt
name_class name.PrefixDot = tt
name_class name.Colon = λ e. absurd (omega arith)
name_class name.Local = λ e. absurd (omega arith)
name_class name.LocalDot = tt
name_class name.Percent = tt
name_class name.PercentDigit = tt
name_class name.Backslash = tt
name_class name.LowLine = λ e. absurd (omega arith)
name_class name.LowWord = λ e. absurd (omega arith)
name_class name.BlankColon = tt
name_class name.Blank = λ e. absurd (omega arith)
name_class name.BlankDot = tt

number_class : (s : Number) → NotTag (turtle_number s)
number_class number.Plus = tt
number_class number.Minus = tt
number_class number.Dot = λ e. absurd (omega arith)
number_class number.SignDot = tt
number_class number.Digits = λ e. absurd (omega arith)
number_class number.DigitsDot = tt
number_class number.Fraction = λ e. absurd (omega arith)
number_class number.Exponent = tt
number_class number.ExponentSign = tt
number_class number.ExponentDigits = λ e. absurd (omega arith)

string_class : (s : Quoted) → NotTag (string_or_none 19 s)
string_class (string.Opened mark) = tt
string_class (string.Emptied mark) = λ e. absurd (omega arith)
string_class (string.Inside of quotes) = tt
string_class (string.Escape of) = tt
string_class (string.Digits of point) = tt
string_class string.Closed = λ e. absurd (omega arith)

iri_class : (s : IriRef) → NotTag (turtle_iri s)
iri_class iri.Less = tt
iri_class iri.LessEqual = tt
iri_class iri.Inside = tt
iri_class iri.Escape = tt
iri_class (iri.Digits point) = tt
iri_class iri.Closed = λ e. absurd (omega arith)

sign_class : (s : Sign) → NotTag (turtle_sign s)
sign_class sign.OpenBrace = tt
sign_class sign.CloseBrace = tt
sign_class sign.Open = λ e. absurd (omega arith)
sign_class sign.Close = λ e. absurd (omega arith)
sign_class sign.OpenBracket = λ e. absurd (omega arith)
sign_class sign.CloseBracket = λ e. absurd (omega arith)
sign_class sign.Semicolon = λ e. absurd (omega arith)
sign_class sign.Comma = λ e. absurd (omega arith)
sign_class sign.Equal = tt
sign_class sign.Greater = tt
sign_class sign.GreaterEqual = tt
sign_class sign.Not = tt
sign_class sign.NotEqual = tt
sign_class sign.Ampersand = tt
sign_class sign.And = tt
sign_class sign.Bar = tt
sign_class sign.Or = tt
sign_class sign.Caret = tt
sign_class sign.Carets = λ e. absurd (omega arith)
sign_class sign.Star = tt
sign_class sign.Slash = tt

abbrev ReadsTag : State → Option ℕ → Type 0
ReadsTag s o = IfSome o (λ class. class ≡ 20 → reading s ≡ true)

no_tag_class : (s : State) (o : Option ℕ) → NotTag o → ReadsTag s o
no_tag_class s None h = tt
no_tag_class s (Some class) h = λ e. absurd (h e)

any_class : (s : State) → reading s ≡ true → (o : Option ℕ) → ReadsTag s o
any_class s t None = tt
any_class s t (Some class) = λ e. t

class_reads : (s : State) → ReadsTag s (class_at Turtle s)
class_reads (OfDdl s) = tt
class_reads (OfScan (Within m left bits)) = tt
class_reads (OfScan (Between Start)) = tt
class_reads (OfScan (Between (OfName s))) = no_tag_class (OfScan (Between (OfName s))) (turtle_name s) (name_class s)
class_reads (OfScan (Between (OfNumber s))) = no_tag_class (OfScan (Between (OfNumber s))) (turtle_number s) (number_class s)
class_reads (OfScan (Between (OfString s))) = no_tag_class (OfScan (Between (OfString s))) (string_or_none 19 s) (string_class s)
class_reads (OfScan (Between (OfIri s))) = no_tag_class (OfScan (Between (OfIri s))) (turtle_iri s) (iri_class s)
class_reads (OfScan (Between (OfSign s))) = no_tag_class (OfScan (Between (OfSign s))) (turtle_sign s) (sign_class s)
class_reads (OfScan (Between (OfTag s))) = any_class (OfScan (Between (OfTag s))) refl _
class_reads (OfScan (Between (OfVariable s))) = tt

-- a text that is a token of kind 20
tag_text : (text : List ℕ) → IfSome (token_class Turtle text) (λ class. kind_of Turtle class text ≡ 20 → AllVisible text)
unfolding token_class
tag_text text = of (fold stepped (Some (start Turtle)) text) (bytes_back text (start Turtle))
  where
    of : (o : Option State) → IfSome o (λ r. reading r ≡ true → (true ≡ true) × AllVisible text) → IfSome (classed Turtle o) (λ class. kind_of Turtle class text ≡ 20 → AllVisible text)
    of None h = tt
    of (Some s) h = at_class (class_at Turtle s) (class_reads s)
      where
        at_class : (o : Option ℕ) → ReadsTag s o → IfSome o (λ class. kind_of Turtle class text ≡ 20 → AllVisible text)
        at_class None k = tt
        at_class (Some class) k = λ e. (h (k (tag_class class text e))).1

-- ---- tokens

abbrev FinePiece : List ℕ → Piece → Type 0
FinePiece rest (Gap n) = Unit {0}
FinePiece rest (Word class n) = kind_of Turtle class (take n rest) ≡ 20 → AllVisible (take n rest)
FinePiece rest Nothing = Unit {0}

longest_fine : (rest : List ℕ) (n : ℕ) → FinePiece rest (word_or_nothing (longest_to Turtle rest n))
longest_fine rest zero = tt
longest_fine rest (suc n) = of (token_class Turtle (take (suc n) rest)) (tag_text (take (suc n) rest)) (longest_fine rest n)
  where
    of : (o : Option ℕ) → IfSome o (λ class. kind_of Turtle class (take (suc n) rest) ≡ 20 → AllVisible (take (suc n) rest)) → FinePiece rest (word_or_nothing (longest_to Turtle rest n))
        → FinePiece rest (word_or_nothing (or_shorter o (suc n) (longest_to Turtle rest n)))
    of None h k = k
    of (Some class) h k = h

piece_fine : (rest : List ℕ) → FinePiece rest (piece Turtle rest)
unfolding piece
piece_fine [] = tt
piece_fine (b ∷ bs) =
    cond_both (is_blank b) _ _ (FinePiece (b ∷ bs)) (λ _. tt)
    (λ _. cond_both (begins_comment Turtle (b ∷ bs)) _ _ (FinePiece (b ∷ bs)) (λ _. tt) (λ _. longest_fine (b ∷ bs) (length (b ∷ bs))))

-- a token of kind 20 holds visible bytes
abbrev pub IsVisibleTag : List ℕ → Token → Type 0
IsVisibleTag text t = t.kind ≡ 20 → list_all is_visible (take (t.end - t.start) (drop t.start text)) ≡ true

front_tags : (text : List ℕ) (t : Token) → IsVisibleTag text t → (r : Result (List Token) ℕ) → IfOk r (AllByRecursion (IsVisibleTag text)) → IfOk (in_front t r) (AllByRecursion (IsVisibleTag text))
front_tags text t h (Ok ts) k = (h, k)
front_tags text t h (Err at) k = tt

cut_piece_fine : (text : List ℕ) (at : ℕ) (rest : List ℕ) → rest ≡ drop at text → (p : Piece) → FinePiece rest p → (after : ℕ → Result (List Token) ℕ) → ((n : ℕ) → IfOk (after n) (AllByRecursion (IsVisibleTag text)))
    → IfOk (cut_piece Turtle at rest p after) (AllByRecursion (IsVisibleTag text))
cut_piece_fine text at rest is (Gap n) f after h = h n
cut_piece_fine text at rest is Nothing f after h = tt
cut_piece_fine text at rest is (Word class n) f after h =
    let size : n ≡ at + n - at = omega arith in
    front_tags text (record { kind = kind_of Turtle class (take n rest); start = at; end = at + n })
    (λ e. subst (λ m. AllVisible (take m (drop at text))) size (subst (λ (r : List ℕ). AllVisible (take n r)) is (f e))) (after n) (h n)

cut_fine : (text : List ℕ) (at left : ℕ) (bs : List ℕ) → bs ≡ drop at text → IfOk (cut Turtle at left bs) (AllByRecursion (IsVisibleTag text))
unfolding cut
cut_fine text at left [] is = tt
cut_fine text at (suc left) (b ∷ bs) is = cut_fine text (at + 1) left bs (ap (drop 1) is ∙ drop-drop 1 at text)
cut_fine text at zero (b ∷ bs) is =
    cut_piece_fine text at (b ∷ bs) is (piece Turtle (b ∷ bs)) (piece_fine (b ∷ bs)) (λ n. cut Turtle (at + 1) (n - 1) bs)
    (λ n. cut_fine text (at + 1) (n - 1) bs (ap (drop 1) is ∙ drop-drop 1 at text))

pub tags_visible : (text : List ℕ) (ts : List Token) → tokens_of Turtle text ≡ Ok ts → AllByRecursion (IsVisibleTag text) ts
tags_visible text ts e = subst (λ r. IfOk r (AllByRecursion (IsVisibleTag text))) e (cut_fine text 0 0 text refl)
