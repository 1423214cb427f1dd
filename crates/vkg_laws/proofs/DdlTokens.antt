-- What the automaton of the DDL takes is what the productions make.
use Rattle.std.proofs.Common.{◌≡◌, ◌≢◌, ℕ, ◌≤◌, Bool, true, false, ◌&&◌, ◌||◌, ◌==◌, if◌then◌else◌, List, [], ◌∷◌, codes, nat_le, fold, option_map, Option, Some, None, refl, ap, sym, ◌∙◌, subst, bytes_eq, arith, true≢false, ⊎_elim, eqb-true}
use Rattle.std.specs.Bool.{then_some}
use Rattle.std.specs.Char.{is_ascii_alphabetic, is_ascii_digit}
use Rattle.std.specs.Int.{is_in_range}
use Rattle.std.specs.List.{list_all}
use Rattle.std.specs.Str.{str_to_ascii_lowercase}
use Rattle.std.proofs.Math.Bool.{or_comm}
use Rattle.std.proofs.lemmas.Bool.{and_from, and_parts, cond-false, leb-true, ne_eqb, or_cases}
use Rattle.std.proofs.lemmas.Option.{cond_some, none-some}
use Rattle.std.proofs.lemmas.Slice.Eq.{bytes_eq-Decides}
use Rattle.vkg_terms.specs.Name.{closes}
use Rattle.vkg_terms.proofs.NameLemmas.{delimited_exactly}
use Rattle.vkg_tokens.specs.declared.ddl.Ddl.{Ddl}
use Rattle.vkg_tokens.specs.declared.ddl.Ddl.TheVariants.{Word, Opened, Emptied, Inside, Closed, Digits, Open, Comma, Close, Semicolon}
use Rattle.vkg_tokens.specs.declared.lang.Lang.TheVariants as lang
use Rattle.vkg_tokens.specs.declared.lang.State.TheVariants.{OfDdl}
use Rattle.vkg_tokens.specs.Characters.{is_word_letter}
use Rattle.vkg_tokens.specs.Ddl.{is_word_part, ddl_begin, ddl_step, ddl_class, keyword_kind}
use Rattle.vkg_tokens.specs.Lang.{classed, kind_of, stepped, token_class}
use Rattle.vkg_laws.specs.DdlTokens.{is_part, IsWord, IsInteger, IsBetweenQuotes, IsToken, opening, comma, closing, semicolon, word, integer, delimited, IsKeyword, create, table, constraint, not, null, primary, key, unique, references, foreign, AreProductions}

-- ---- what is read behind a state, by the text alone

-- the class of what was read, and then of this text
abbrev reads : Option Ddl → List ℕ → Option ℕ
reads o text = classed lang.Ddl (fold stepped (option_map OfDdl o) text)

reads_nothing : (text : List ℕ) → reads None text ≡ None
reads_nothing [] = refl
reads_nothing (b ∷ bs) = reads_nothing bs

-- one byte that has to pass a test
reads_if : (t : Bool) (s : Ddl) (text : List ℕ) (rest : Bool) (o : Option ℕ) → reads (Some s) text ≡ (if rest then o else None) → reads (then_some t s) text ≡ (if t && rest then o else None)
reads_if true s text rest o e = e
reads_if false s text rest o e = reads_nothing text

-- a state that stays while the bytes pass a test
repeated : (s : Ddl) (p : ℕ → Bool) → ((b : ℕ) → ddl_step s b ≡ then_some (p b) s) → (text : List ℕ) → reads (Some s) text ≡ (if list_all p text then ddl_class s else None)
repeated s p h [] = refl
repeated s p h (b ∷ bs) = ap (λ o. reads o bs) (h b) ∙ reads_if (p b) s bs (list_all p bs) (ddl_class s) (repeated s p h bs)

-- behind the first quote, where some of the name may stand before
abbrev within : Bool → Ddl
within true = Inside
within false = Opened

abbrev shut : Bool → Ddl
shut true = Closed
shut false = Emptied

quote_last : (some t : Bool) → reads (Some (if t then shut some else Inside)) [] ≡ (if t && some then Some 16 else None)
quote_last true true = refl
quote_last true false = refl
quote_last false true = refl
quote_last false false = refl

quote_next : (some t : Bool) (c : ℕ) (bs : List ℕ) → reads (Some Inside) bs ≡ (if closes true bs then Some 16 else None) → reads (Some Inside) (c ∷ bs) ≡ (if closes true (c ∷ bs) then Some 16 else None)
    → reads (Some (if t then shut some else Inside)) (c ∷ bs) ≡ (if (if t then (c == 34) && closes true bs else closes true (c ∷ bs)) then Some 16 else None)
quote_next true true c bs after here = reads_if (c == 34) Inside bs (closes true bs) (Some 16) after
quote_next false true c bs after here = reads_if (c == 34) Inside bs (closes true bs) (Some 16) after
quote_next true false c bs after here = here
quote_next false false c bs after here = here

within_step : (some : Bool) (b : ℕ) → ddl_step (within some) b ≡ Some (if b == 34 then shut some else Inside)
within_step true b = refl
within_step false b = refl

reads_name : (some : Bool) (text : List ℕ) → reads (Some (within some)) text ≡ (if closes some text then Some 16 else None)
reads_name true [] = refl
reads_name false [] = refl
reads_name some (b ∷ []) = ap (λ o. reads o []) (within_step some b) ∙ quote_last some (b == 34)
reads_name some (b ∷ c ∷ bs) = ap (λ o. reads o (c ∷ bs)) (within_step some b) ∙ quote_next some (b == 34) c bs (reads_name true bs) (reads_name true (c ∷ bs))

-- ---- letters and digits

or_moved : (d u l z : Bool) → (d || ((u || l) || z)) ≡ (((d || u) || l) || z)
or_moved true u l z = refl
or_moved false u l z = refl

same_part : (b : ℕ) → is_part b ≡ is_word_part b
same_part b = or_comm (is_word_letter b) (is_ascii_digit b) ∙ or_moved (is_ascii_digit b) (is_in_range 65 90 b) (is_in_range 97 122 b) (b == 95)

same_parts : (bs : List ℕ) → list_all is_part bs ≡ list_all is_word_part bs
same_parts bs = λ i. list_all (λ b. same_part b i) bs

letter_above : (b : ℕ) → is_word_letter b ≡ true → 58 ≤ b
letter_above b h =
    ⊎_elim
    (λ (a : is_ascii_alphabetic b ≡ true).
    ⊎_elim
    (λ (u : is_in_range 65 90 b ≡ true). let k : 65 ≤ b = leb-true 65 b (and_parts (nat_le 65 b) (nat_le b 90) u).0 in omega arith)
    (λ (l : is_in_range 97 122 b ≡ true). let k : 97 ≤ b = leb-true 97 b (and_parts (nat_le 97 b) (nat_le b 122) l).0 in omega arith)
    (or_cases (is_in_range 65 90 b) (is_in_range 97 122 b) a))
    (λ (z : (b == 95) ≡ true). let k : b ≡ 95 = eqb-true b 95 z in omega arith)
    (or_cases (is_ascii_alphabetic b) (b == 95) h)

letter_no_digit : (b : ℕ) → is_word_letter b ≡ true → is_ascii_digit b ≡ true → ⊥
letter_no_digit b h d = let k : b ≤ 57 = leb-true b 57 (and_parts (nat_le 48 b) (nat_le b 57) d).1 in let m : 58 ≤ b = letter_above b h in omega arith

-- ---- the first byte

data Begins (b : ℕ) : Option Ddl → Type 0 where
  open_paren : b ≡ 40 → Begins b (Some Open)
  a_comma : b ≡ 44 → Begins b (Some Comma)
  close_paren : b ≡ 41 → Begins b (Some Close)
  a_semicolon : b ≡ 59 → Begins b (Some Semicolon)
  a_quote : b ≡ 34 → Begins b (Some Opened)
  a_digit : is_ascii_digit b ≡ true → Begins b (Some Digits)
  a_letter : is_word_letter b ≡ true → Begins b (Some Word)
  none_begins : is_ascii_digit b ≡ false → is_word_letter b ≡ false → Begins b None

begins_part : (b : ℕ) (d l : Bool) → is_ascii_digit b ≡ d → is_word_letter b ≡ l → Begins b (if d then Some Digits else if d || l then Some Word else None)
begins_part b true l e f = a_digit e
begins_part b false true e f = a_letter f
begins_part b false false e f = none_begins e f

begins_by : (b : ℕ) (o c p s q : Bool) (rest : Option Ddl) → (b == 40) ≡ o → (b == 44) ≡ c → (b == 41) ≡ p → (b == 59) ≡ s → (b == 34) ≡ q → Begins b rest
    → Begins b (if o then Some Open else if c then Some Comma else if p then Some Close else if s then Some Semicolon else if q then Some Opened else rest)
begins_by b true c p s q rest e1 e2 e3 e4 e5 r = open_paren (eqb-true b 40 e1)
begins_by b false true p s q rest e1 e2 e3 e4 e5 r = a_comma (eqb-true b 44 e2)
begins_by b false false true s q rest e1 e2 e3 e4 e5 r = close_paren (eqb-true b 41 e3)
begins_by b false false false true q rest e1 e2 e3 e4 e5 r = a_semicolon (eqb-true b 59 e4)
begins_by b false false false false true rest e1 e2 e3 e4 e5 r = a_quote (eqb-true b 34 e5)
begins_by b false false false false false rest e1 e2 e3 e4 e5 r = r

begins : (b : ℕ) → Begins b (ddl_begin b)
begins b =
    begins_by b _ _ _ _ _ (if is_ascii_digit b then Some Digits else if is_word_part b then Some Word else None) refl refl refl refl refl
    (subst (λ t. Begins b (if is_ascii_digit b then Some Digits else if t then Some Word else None)) (or_comm (is_ascii_digit b) (is_word_letter b) ∙ same_part b) (begins_part b (is_ascii_digit b) (is_word_letter b) refl refl))

no_letter : (b c : ℕ) → b ≡ c → is_word_letter c ≡ false → is_word_letter b ≡ true → ⊥
no_letter b c e f h = true≢false (sym h ∙ ap is_word_letter e ∙ f)

no_digit : (b c : ℕ) → b ≡ c → is_ascii_digit c ≡ false → is_ascii_digit b ≡ true → ⊥
no_digit b c e f h = true≢false (sym h ∙ ap is_ascii_digit e ∙ f)

letter_begins : (b : ℕ) (o : Option Ddl) → Begins b o → is_word_letter b ≡ true → o ≡ Some Word
letter_begins b _ (open_paren e) h = absurd (no_letter b 40 e refl h)
letter_begins b _ (a_comma e) h = absurd (no_letter b 44 e refl h)
letter_begins b _ (close_paren e) h = absurd (no_letter b 41 e refl h)
letter_begins b _ (a_semicolon e) h = absurd (no_letter b 59 e refl h)
letter_begins b _ (a_quote e) h = absurd (no_letter b 34 e refl h)
letter_begins b _ (a_digit d) h = absurd (letter_no_digit b h d)
letter_begins b _ (a_letter l) h = refl
letter_begins b _ (none_begins d l) h = absurd (true≢false (sym h ∙ l))

digit_begins : (b : ℕ) (o : Option Ddl) → Begins b o → is_ascii_digit b ≡ true → o ≡ Some Digits
digit_begins b _ (open_paren e) h = absurd (no_digit b 40 e refl h)
digit_begins b _ (a_comma e) h = absurd (no_digit b 44 e refl h)
digit_begins b _ (close_paren e) h = absurd (no_digit b 41 e refl h)
digit_begins b _ (a_semicolon e) h = absurd (no_digit b 59 e refl h)
digit_begins b _ (a_quote e) h = absurd (no_digit b 34 e refl h)
digit_begins b _ (a_digit d) h = refl
digit_begins b _ (a_letter l) h = absurd (letter_no_digit b l h)
digit_begins b _ (none_begins d l) h = absurd (true≢false (sym h ∙ d))

-- ---- a token is made by its production

nothing_more : (bs : List ℕ) → list_all (λ _. false) bs ≡ true → bs ≡ []
nothing_more [] e = refl
nothing_more (b ∷ bs) e = absurd (true≢false (sym e))

sign_alone : (s : Ddl) (b c n k : ℕ) (bs : List ℕ) → ((x : ℕ) → ddl_step s x ≡ None) → ddl_class s ≡ Some n → b ≡ c → reads (Some s) bs ≡ Some k → ((b ∷ bs) ≡ c ∷ []) × (n ≡ k)
sign_alone s b c n k bs ends is e q =
    let r : (list_all (λ _. false) bs ≡ true) × (n ≡ k) =
    cond_some (list_all (λ _. false) bs) n k (ap (λ o. if list_all (λ _. false) bs then o else None) (sym is) ∙ sym (repeated s (λ _. false) ends bs) ∙ q) in
    ((λ i. e i ∷ nothing_more bs r.0 i), r.1)

made : (b : ℕ) (o : Option Ddl) → Begins b o → (bs : List ℕ) (k : ℕ) → reads o bs ≡ Some k → IsToken (b ∷ bs) k
made b _ (open_paren e) bs k q = let r = sign_alone Open b 40 2 k bs (λ _. refl) refl e q in subst (IsToken (b ∷ bs)) r.1 (opening r.0)
made b _ (a_comma e) bs k q = let r = sign_alone Comma b 44 3 k bs (λ _. refl) refl e q in subst (IsToken (b ∷ bs)) r.1 (comma r.0)
made b _ (close_paren e) bs k q = let r = sign_alone Close b 41 4 k bs (λ _. refl) refl e q in subst (IsToken (b ∷ bs)) r.1 (closing r.0)
made b _ (a_semicolon e) bs k q = let r = sign_alone Semicolon b 59 5 k bs (λ _. refl) refl e q in subst (IsToken (b ∷ bs)) r.1 (semicolon r.0)
made b _ (a_quote e) bs k q =
    let r = cond_some (closes false bs) 16 k (sym (reads_name false bs) ∙ q) in
    subst (IsToken (b ∷ bs)) r.1 (delimited (e, (delimited_exactly (34 ∷ bs) bs (closes false bs) refl refl).0 r.0))
made b _ (a_digit d) bs k q =
    let r = cond_some (list_all is_ascii_digit bs) 7 k (sym (repeated Digits is_ascii_digit (λ _. refl) bs) ∙ q) in
    subst (IsToken (b ∷ bs)) r.1 (integer ((λ e. cc), and_from (is_ascii_digit b) (list_all is_ascii_digit bs) d r.0))
made b _ (a_letter l) bs k q =
    let r = cond_some (list_all is_word_part bs) 6 k (sym (repeated Word is_word_part (λ _. refl) bs) ∙ q) in
    subst (IsToken (b ∷ bs)) r.1 (word (l, same_parts bs ∙ r.0))
made b _ (none_begins d l) bs k q = absurd (none-some k (sym (reads_nothing bs) ∙ q))

token_made : (text : List ℕ) (k : ℕ) → token_class lang.Ddl text ≡ Some k → IsToken text k
unfolding token_class
token_made [] k q = absurd (none-some k q)
token_made (b ∷ bs) k q = made b (ddl_begin b) (begins b) bs k q

-- ---- what a production makes is a token

word_taken : (text : List ℕ) → IsWord text → token_class lang.Ddl text ≡ Some 6
unfolding token_class
word_taken [] w = absurd w
word_taken (b ∷ bs) w =
    ap (λ o. reads o bs) (letter_begins b (ddl_begin b) (begins b) w.0) ∙ repeated Word is_word_part (λ _. refl) bs
    ∙ ap (λ t. if t then Some 6 else None) (sym (same_parts bs) ∙ w.1)

integer_taken : (text : List ℕ) → IsInteger text → token_class lang.Ddl text ≡ Some 7
unfolding token_class
integer_taken [] n = absurd (n.0 refl)
integer_taken (b ∷ bs) n =
    let d = and_parts (is_ascii_digit b) (list_all is_ascii_digit bs) n.1 in
    ap (λ o. reads o bs) (digit_begins b (ddl_begin b) (begins b) d.0) ∙ repeated Digits is_ascii_digit (λ _. refl) bs
    ∙ ap (λ t. if t then Some 7 else None) d.1

name_taken : (text : List ℕ) → IsBetweenQuotes text → token_class lang.Ddl text ≡ Some 16
unfolding token_class
name_taken [] n = absurd n
name_taken (b ∷ bs) n =
    ap (λ c. reads (ddl_begin c) bs) n.0 ∙ reads_name false bs
    ∙ ap (λ t. if t then Some 16 else None) ((delimited_exactly (34 ∷ bs) bs (closes false bs) refl refl).1 n.1)

token_taken : (text : List ℕ) (k : ℕ) → IsToken text k → token_class lang.Ddl text ≡ Some k
unfolding token_class
token_taken text _ (opening e) = ap (token_class lang.Ddl) e
token_taken text _ (comma e) = ap (token_class lang.Ddl) e
token_taken text _ (closing e) = ap (token_class lang.Ddl) e
token_taken text _ (semicolon e) = ap (token_class lang.Ddl) e
token_taken text _ (word w) = word_taken text w
token_taken text _ (integer n) = integer_taken text n
token_taken text _ (delimited n) = name_taken text n

none_from : (o : Option ℕ) → ((k : ℕ) → o ≡ Some k → ⊥) → o ≡ None
none_from None h = refl
none_from (Some k) h = absurd (h k refl)

-- ---- the keywords

abbrev kind_in : List ℕ → ℕ
kind_in x =
    if bytes_eq x (codes "create") then 0
    else if bytes_eq x (codes "table") then 1
    else if bytes_eq x (codes "constraint") then 8
    else if bytes_eq x (codes "not") then 9
    else if bytes_eq x (codes "null") then 10
    else if bytes_eq x (codes "primary") then 11
    else if bytes_eq x (codes "key") then 12
    else if bytes_eq x (codes "unique") then 13
    else if bytes_eq x (codes "references") then 14
    else if bytes_eq x (codes "foreign") then 15
    else 6

keyword_by : (x w : List ℕ) (t : Bool) (n k rest : ℕ) → (t ≡ true → x ≡ w) → IsKeyword w n → (rest ≡ k → IsKeyword x k) → (if t then n else rest) ≡ k → IsKeyword x k
keyword_by x w true n k rest is here after e = subst (IsKeyword x) e (subst (λ y. IsKeyword y n) (sym (is refl)) here)
keyword_by x w false n k rest is here after e = after e

or_keyword : (x w : List ℕ) (n k rest : ℕ) → IsKeyword w n → (rest ≡ k → IsKeyword x k) → (if bytes_eq x w then n else rest) ≡ k → IsKeyword x k
or_keyword x w n k rest = keyword_by x w (bytes_eq x w) n k rest (bytes_eq-Decides x w).0

is_keyword : (x : List ℕ) (k : ℕ) → k ≢ 6 → kind_in x ≡ k → IsKeyword x k
is_keyword x k h =
    or_keyword x _ 0 k _ create
    (or_keyword x _ 1 k _ table
    (or_keyword x _ 8 k _ constraint
    (or_keyword x _ 9 k _ not
    (or_keyword x _ 10 k _ null
    (or_keyword x _ 11 k _ primary
    (or_keyword x _ 12 k _ key
    (or_keyword x _ 13 k _ unique
    (or_keyword x _ 14 k _ references
    (or_keyword x _ 15 k 6 foreign (λ e. absurd (h (sym e))))))))))))

keyword_has : (x : List ℕ) (k : ℕ) → IsKeyword x k → kind_in x ≡ k
keyword_has _ _ create = refl
keyword_has _ _ table = refl
keyword_has _ _ constraint = refl
keyword_has _ _ not = refl
keyword_has _ _ null = refl
keyword_has _ _ primary = refl
keyword_has _ _ key = refl
keyword_has _ _ unique = refl
keyword_has _ _ references = refl
keyword_has _ _ foreign = refl

kind_is : (text : List ℕ) → kind_of lang.Ddl 6 text ≡ kind_in (str_to_ascii_lowercase text)
unfolding keyword_kind
kind_is text = refl

pub are_productions : AreProductions
are_productions = record {
  some = λ text k. (token_made text k, token_taken text k);
  none = λ text. ((λ e k t. none-some k (sym e ∙ token_taken text k t)), λ h. none_from (token_class lang.Ddl text) (λ k e. h k (token_made text k e)));
  keyword = λ text k h. ((λ e. is_keyword (str_to_ascii_lowercase text) k h (sym (kind_is text) ∙ e)), λ w. kind_is text ∙ keyword_has (str_to_ascii_lowercase text) k w);
  other = λ text k h. cond-false (k == 6) (keyword_kind text) k (ne_eqb k 6 h);
}
