-- What the tokens of a query mean, where no check fails of them.
use Rattle.vkg_lists.proofs.Results.{none_if}
use Rattle.std.proofs.Common.{◌≡◌, ◌∙◌, ℕ, ◌≤◌, ◌-◌, ◌||◌, ◌&&◌, ◌==◌, not, true≢false, Bool, true, false, if◌then◌else◌, zero, suc, List, [], ◌∷◌, codes, drop, Option, Some, None, option_map, refl, sym, ap, subst, arith, eqb-true}
use Rattle.std.specs.Prelude.{nat_lt, slice_get}
use Rattle.std.specs.Str.{str_to_ascii_lowercase}
use Rattle.std.proofs.lemmas.Bool.{and_right, cond-true}
use Rattle.std.proofs.lemmas.Option.{slice_get-map}
use Rattle.vkg_grammar.specs.Kinds.{kinds_of}
use Rattle.vkg_cells.specs.WellTyped.{is_well_typed, is_too_wide, is_wide_number}
use Rattle.vkg_terms.specs.Vocabulary.{xsd}
use Rattle.vkg_terms.specs.declared.term.Term.{Term}
use Rattle.vkg_tokens.specs.declared.cutting.Token.{Token}
use Rattle.vkg_tokens.specs.declared.sparql_kinds.TheConstants.{OPEN_BRACKET, EQUAL, NOT_EQUAL, LESS, GREATER, LESS_EQUAL, GREATER_EQUAL, IRIREF, PNAME_NS, PNAME_LN, BLANK, VAR, STRING, INTEGER, DECIMAL, IS_A, TRUE, FALSE, ISIRI, ISURI, ISBLANK, ISLITERAL, ISNUMERIC, STR, LANG, DATATYPE, STRLEN, STRSTARTS, STRENDS, CONTAINS}
use Rattle.vkg_turtle.specs.Document.{typed}
use Rattle.vkg_turtle.specs.Words.{between}
use Rattle.vkg_turtle.specs.declared.lexeme.Word.{Word}
use Rattle.vkg_turtle.specs.declared.lexeme.Word.TheVariants.{Integer}
use Rattle.vkg_turtle.specs.declared.lexeme.Word.TheVariants as lexical
use Rattle.vkg_sparql.specs.declared.checks.Check.TheVariants.{Wide}
use Rattle.vkg_sparql.specs.declared.environment.Environment.{Environment}
use Rattle.vkg_sparql.specs.declared.lexeme.Lexeme.{Lexeme}
use Rattle.vkg_sparql.specs.declared.meaning.Meaning.{Meaning}
use Rattle.vkg_sparql.specs.declared.meaning.Meaning.TheVariants.{Variable, Label, Fixed}
use Rattle.vkg_sparql.specs.Checks.{begins_slice, fails, first_place, is_literal, is_slice_number, no_number, slice_over}
use Rattle.vkg_sparql.specs.Lexemes.{key_of, lexeme_of, lexeme_word, lexemes_of, named_of, number_in, template_end}
use Rattle.vkg_sparql.specs.Literals.{is_term, meaning_of, meanings_of, operator_of, term_of}
use Rattle.vkg_sparql.specs.Meanings.{meaning_at}
use Rattle.vkg_sparql.proofs.Numbering.{Marked, is_variable_key, numbered}
use Rattle.vkg_sparql.proofs.SliceNumbers.{slice_is_narrow}

-- what stands behind the place i
abbrev behind : {X : Type 0} → List X → ℕ → List X
behind xs i = drop (suc i) xs

record Dropped {X : Type 0} (start : ℕ) (xs : List X) (i : ℕ) (x : X) : Type 0 where
  place : ℕ
  at : slice_get (drop start xs) place ≡ Some x
  rest : behind (drop start xs) place ≡ behind xs i

dropped : {X : Type 0} (start : ℕ) (xs : List X) (i : ℕ) (x : X) → start ≤ i → slice_get xs i ≡ Some x → Dropped start xs i x
dropped zero xs i x l e = record { place = i; at = e; rest = refl }
dropped (suc s) [] zero x l e = absurd (cc)
dropped (suc s) [] (suc i) x l e = absurd (cc)
dropped (suc s) (y ∷ xs) zero x l e = absurd (omega (arith, l))
dropped (suc s) (y ∷ xs) (suc i) x l e =
    let d = dropped s xs i x (omega (arith, l)) e in
    record { place = d.place; at = d.at; rest = d.rest }

-- ---- a token's meaning is that of its lexeme

meaning_is : (e : Environment) (keys : List (List ℕ)) (start : ℕ) (xs : List Lexeme) (i : ℕ) (x : Lexeme) → start ≤ i → slice_get xs i ≡ Some x → meaning_at (meanings_of e keys start xs) i ≡ meaning_of e keys x (behind xs i)
meaning_is e keys start [] zero x l h = absurd (cc)
meaning_is e keys start [] (suc i) x l h = absurd (cc)
meaning_is e keys zero (y ∷ xs) zero x l h =
    let same : y ≡ x = cc in
    ap (λ z. meaning_of e keys z xs) same
meaning_is e keys (suc s) (y ∷ xs) zero x l h = absurd (omega (arith, l))
meaning_is e keys start (y ∷ xs) (suc i) x l h = meaning_is e keys (start - 1) xs i x (omega (arith, l)) h

-- ---- no token is a number of too many digits: before the slice by the check of that, in the slice by the check of its numbers

slice_word_is_narrow : (e : Environment) (word : Word) (xs : List Lexeme) → is_slice_number word ≡ true → is_wide_number (term_of e word xs) ≡ false
slice_word_is_narrow e (Integer text) xs h = slice_is_narrow text h
slice_word_is_narrow e word xs h = absurd (cc)

passes_in_slice : (e : Environment) (x : Lexeme) (xs : List Lexeme) → (is_literal x.kind && not (is_slice_number x.word)) ≡ false → fails Wide e x xs ≡ false
unfolding fails
passes_in_slice e x xs h = by (is_literal x.kind) (is_slice_number x.word) refl h
  where
    by : (a b : Bool) → is_slice_number x.word ≡ b → (a && not b) ≡ false → (if a then is_wide_number (term_of e x.word xs) else false) ≡ false
    by true true s h = slice_word_is_narrow e x.word xs s
    by true false s h = absurd (true≢false h)
    by false b s h = refl

slice_passes : (e : Environment) (xs : List Lexeme) (i : ℕ) (x : Lexeme) → no_number xs ≡ None → slice_get xs i ≡ Some x → fails Wide e x (behind xs i) ≡ false
slice_passes e [] zero x n h = absurd (cc)
slice_passes e [] (suc i) x n h = absurd (cc)
slice_passes e (y ∷ xs) zero x n h =
    let same : y ≡ x = cc in
    ap (λ z. fails Wide e z xs) (sym same) ∙ passes_in_slice e y xs (none_if (is_literal y.kind && not (is_slice_number y.word)) y.at (no_number xs) n).0
slice_passes e (y ∷ xs) (suc i) x n h = slice_passes e xs i x (none_if (is_literal y.kind && not (is_slice_number y.word)) y.at (no_number xs) n).1 h

-- no check of these fails
pub record Fine (e : Environment) (xs : List Lexeme) : Type 0 where
  pub wide : first_place Wide e xs ≡ None
  pub slice : slice_over xs ≡ None

-- of the first token, by whether it begins the slice
record FineAt (e : Environment) (y : Lexeme) (xs : List Lexeme) (b : Bool) : Type 0 where
  wide : (if b then None else if fails Wide e y xs then Some y.at else first_place Wide e xs) ≡ None
  slice : (if b then no_number (y ∷ xs) else slice_over xs) ≡ None

first_passes : (e : Environment) (y : Lexeme) (xs : List Lexeme) (b : Bool) → FineAt e y xs b → fails Wide e y xs ≡ false
first_passes e y xs true f = passes_in_slice e y xs (none_if (is_literal y.kind && not (is_slice_number y.word)) y.at (no_number xs) f.slice).0
first_passes e y xs false f = (none_if (fails Wide e y xs) y.at (first_place Wide e xs) f.wide).0

later_passes : (e : Environment) (y : Lexeme) (xs : List Lexeme) (i : ℕ) (x : Lexeme) (b : Bool) → FineAt e y xs b → slice_get xs i ≡ Some x → (Fine e xs → fails Wide e x (behind xs i) ≡ false) → fails Wide e x (behind xs i) ≡ false
later_passes e y xs i x true f h rest = slice_passes e xs i x (none_if (is_literal y.kind && not (is_slice_number y.word)) y.at (no_number xs) f.slice).1 h
later_passes e y xs i x false f h rest = rest (record { wide = (none_if (fails Wide e y xs) y.at (first_place Wide e xs) f.wide).1; slice = f.slice })

passes_at : (e : Environment) (xs : List Lexeme) (i : ℕ) (x : Lexeme) → Fine e xs → slice_get xs i ≡ Some x → fails Wide e x (behind xs i) ≡ false
passes_at e [] zero x f h = absurd (cc)
passes_at e [] (suc i) x f h = absurd (cc)
passes_at e (y ∷ xs) zero x f h =
    let same : y ≡ x = cc in
    ap (λ z. fails Wide e z xs) (sym same) ∙ first_passes e y xs (begins_slice y.kind) (record { wide = f.wide; slice = f.slice })
passes_at e (y ∷ xs) (suc i) x f h = later_passes e y xs i x (begins_slice y.kind) (record { wide = f.wide; slice = f.slice }) h (λ g. passes_at e xs i x g h)

-- ---- terms that are no numbers

boolean_is_narrow : (text : List ℕ) → is_wide_number (typed text (codes "boolean")) ≡ false
boolean_is_narrow text = and_right (is_well_typed (xsd (codes "boolean")) text) (is_too_wide (xsd (codes "boolean")) text) refl

-- a number is another, or is not
other : (P : ℕ → Type 0) (k n : ℕ) → P n → ((k == n) ≡ false → P k) → P k
other P k n p f = by (k == n) refl
  where
    by : (b : Bool) → (k == n) ≡ b → P k
    by true e = subst P (sym (eqb-true k n e)) p
    by false e = f e

one_of_three : (a b c : Bool) → (false || false || false || a || b || c || false || false || false) ≡ true → (a || b || c) ≡ true
one_of_three true b c h = refl
one_of_three false true c h = refl
one_of_three false false true h = refl
one_of_three false false false h = absurd (cc)

abbrev IsNarrow : Bool → Environment → List ℕ → List Lexeme → ℕ → Type 0
IsNarrow is_template e token xs k = is_wide_number (term_of e (lexeme_word is_template k token) xs) ≡ false

-- a word of another kind than a label's is the same in a template
no_label : (t : Bool) (k : ℕ) (token : List ℕ) → (k == BLANK) ≡ false → lexeme_word t k token ≡ lexeme_word false k token
no_label true k token e = ap (λ b. if b then lexical.Label token else lexeme_word false k token) e
no_label false k token e = refl

-- a kind that is told as another one than a label's
known : (is_template : Bool) (e : Environment) (token : List ℕ) (xs : List Lexeme) (k : ℕ) → (k == BLANK) ≡ false → IsNarrow false e token xs k → IsNarrow is_template e token xs k
known t e token xs k b h = ap (λ w. is_wide_number (term_of e w xs)) (no_label t k token b) ∙ h

-- a term, by the kind of its token
narrow : (is_template : Bool) (e : Environment) (token : List ℕ) (xs : List Lexeme) (k : ℕ) → is_term k ≡ true → (is_literal k ≡ true → IsNarrow is_template e token xs k) → IsNarrow is_template e token xs k
narrow is_template e token xs k t lit =
    let P : ℕ → Type 0 = IsNarrow is_template e token xs in
    let by : (n : ℕ) → (n == BLANK) ≡ false → IsNarrow false e token xs n → P n = known is_template e token xs in
    other P k IRIREF (by IRIREF refl refl) (λ a. other P k PNAME_NS (by PNAME_NS refl refl) (λ b. other P k PNAME_LN (by PNAME_LN refl refl) (λ c. other P k IS_A (by IS_A refl refl) (λ f.
    other P k TRUE (by TRUE refl (boolean_is_narrow (str_to_ascii_lowercase token))) (λ g. other P k FALSE (by FALSE refl (boolean_is_narrow (str_to_ascii_lowercase token))) (λ h.
    lit (one_of_three (k == STRING) (k == INTEGER) (k == DECIMAL) (sym (λ i. a i || b i || c i || (k == STRING) || (k == INTEGER) || (k == DECIMAL) || f i || g i || h i) ∙ t))))))))

-- ---- the keys of tokens

abbrev lexeme : Bool → ℕ → ℕ → List ℕ → Lexeme
lexeme is_template kind at token = record { kind = kind; at = at; word = lexeme_word is_template kind token }

record HasKey (x : Lexeme) (b : Bool) : Type 0 where
  key : List ℕ
  is : key_of x ≡ Some key
  mark : is_variable_key key ≡ b

variable_key : (t : Bool) (kind at : ℕ) (token : List ℕ) → (kind == VAR) ≡ true → HasKey (lexeme t kind at token) true
variable_key true kind at token e = subst (λ k. HasKey (lexeme true k at token) true) (sym (eqb-true kind VAR e)) (record { key = _; is = refl; mark = refl })
variable_key false kind at token e = subst (λ k. HasKey (lexeme false k at token) true) (sym (eqb-true kind VAR e)) (record { key = _; is = refl; mark = refl })

label_key : (t : Bool) (at : ℕ) (token : List ℕ) → HasKey (lexeme t BLANK at token) false
label_key true at token = record { key = _; is = refl; mark = refl }
label_key false at token = record { key = _; is = refl; mark = refl }

labels_key : (t : Bool) (kind at : ℕ) (token : List ℕ) (a b : Bool) → (kind == BLANK) ≡ a → (kind == OPEN_BRACKET) ≡ b → (a || b) ≡ true → HasKey (lexeme t kind at token) false
labels_key t kind at token true b e f h = subst (λ k. HasKey (lexeme t k at token) false) (sym (eqb-true kind BLANK e)) (label_key t at token)
labels_key t kind at token false true e f h = subst (λ k. HasKey (lexeme t k at token) false) (sym (eqb-true kind OPEN_BRACKET f)) (record { key = _; is = refl; mark = refl })
labels_key t kind at token false false e f h = absurd (cc)

-- ---- what stands where a pattern, an expression or a selection asks for a token

abbrev pub is_node_kind : ℕ → Bool
is_node_kind k = if k == VAR then true else if (k == BLANK) || (k == OPEN_BRACKET) then true else is_term k

abbrev pub is_operand_kind : ℕ → Bool
is_operand_kind k = if k == VAR then true else if (k == BLANK) || (k == OPEN_BRACKET) then false else is_term k

abbrev pub is_variable_kind : ℕ → Bool
is_variable_kind k = k == VAR

module _ (keys : List (List ℕ)) where
  abbrev pub IsNode : Meaning → Type 0
  IsNode (Variable n) = Marked keys n true
  IsNode (Label n) = Marked keys n false
  IsNode (Fixed t) = is_wide_number t ≡ false
  IsNode m = ⊥

  abbrev pub IsOperand : Meaning → Type 0
  IsOperand (Variable n) = Marked keys n true
  IsOperand (Fixed t) = is_wide_number t ≡ false
  IsOperand m = ⊥

  abbrev pub IsVariable : Meaning → Type 0
  IsVariable (Variable n) = Marked keys n true
  IsVariable m = ⊥

  abbrev pub IsGiven : Meaning → Type 0
  IsGiven (Fixed t) = is_wide_number t ≡ false
  IsGiven m = Unit {0}

  given_if : (b : Bool) (m o : Meaning) → IsGiven m → IsGiven o → IsGiven (if b then m else o)
  given_if true m o h k = h
  given_if false m o h k = k

  -- a sign or a word is no term
  given_operator : (kind : ℕ) → IsGiven (operator_of kind)
  given_operator kind =
      given_if (kind == EQUAL) _ _ tt (given_if (kind == NOT_EQUAL) _ _ tt (given_if (kind == LESS) _ _ tt (given_if (kind == GREATER) _ _ tt (given_if (kind == LESS_EQUAL) _ _ tt (given_if (kind == GREATER_EQUAL) _ _ tt
      (given_if ((kind == ISIRI) || (kind == ISURI)) _ _ tt (given_if (kind == ISBLANK) _ _ tt (given_if (kind == ISLITERAL) _ _ tt (given_if (kind == ISNUMERIC) _ _ tt (given_if (kind == STR) _ _ tt (given_if (kind == LANG) _ _ tt
      (given_if (kind == DATATYPE) _ _ tt (given_if (kind == STRLEN) _ _ tt (given_if (kind == STRSTARTS) _ _ tt (given_if (kind == STRENDS) _ _ tt (given_if (kind == CONTAINS) _ _ tt tt))))))))))))))))

  given_by : (a b c : Bool) (n : ℕ) (t : Term) (o : Meaning) → IsGiven o → (c ≡ true → is_wide_number t ≡ false) → IsGiven (if a then Variable n else if b then Label n else if c then Fixed t else o)
  given_by true b c n t o h f = tt
  given_by false true c n t o h f = tt
  given_by false false true n t o h f = f refl
  given_by false false false n t o h f = h

  node_by : (a b c : Bool) (n : ℕ) (t : Term) (o : Meaning) → (if a then true else if b then true else c) ≡ true → (a ≡ true → Marked keys n true) → (b ≡ true → Marked keys n false) → (c ≡ true → is_wide_number t ≡ false)
      → IsNode (if a then Variable n else if b then Label n else if c then Fixed t else o)
  node_by true b c n t o h v l f = v refl
  node_by false true c n t o h v l f = l refl
  node_by false false true n t o h v l f = f refl
  node_by false false false n t o h v l f = absurd (cc)

  operand_by : (a b c : Bool) (n : ℕ) (t : Term) (o : Meaning) → (if a then true else if b then false else c) ≡ true → (a ≡ true → Marked keys n true) → (c ≡ true → is_wide_number t ≡ false)
      → IsOperand (if a then Variable n else if b then Label n else if c then Fixed t else o)
  operand_by true b c n t o h v f = v refl
  operand_by false true c n t o h v f = absurd (cc)
  operand_by false false true n t o h v f = f refl
  operand_by false false false n t o h v f = absurd (cc)

  variable_by : (a b c : Bool) (n : ℕ) (t : Term) (o : Meaning) → a ≡ true → (a ≡ true → Marked keys n true) → IsVariable (if a then Variable n else if b then Label n else if c then Fixed t else o)
  variable_by true b c n t o h v = v refl
  variable_by false b c n t o h v = absurd (cc)

  module _ (e : Environment) (t : Bool) (kind at : ℕ) (token : List ℕ) (xs : List Lexeme)
      (numbers : (key : List ℕ) → key_of (lexeme t kind at token) ≡ Some key → slice_get keys (number_in keys (key_of (lexeme t kind at token))) ≡ Some key)
      (fine : fails Wide e (lexeme t kind at token) xs ≡ false) where
    abbrev number : ℕ
    number = number_in keys (key_of (lexeme t kind at token))

    marked : (b : Bool) → HasKey (lexeme t kind at token) b → Marked keys number b
    marked b k = ap (option_map is_variable_key) (numbers k.key k.is) ∙ ap Some k.mark

    literal : is_literal kind ≡ true → is_wide_number (term_of e (lexeme_word t kind token) xs) ≡ false
    unfolding fails
    literal h = sym (cond-true (is_literal kind) (is_wide_number (term_of e (lexeme_word t kind token) xs)) false h) ∙ fine

    term : is_term kind ≡ true → is_wide_number (term_of e (lexeme_word t kind token) xs) ≡ false
    term h = narrow t e token xs kind h literal

    variable : (kind == VAR) ≡ true → Marked keys number true
    variable h = marked true (variable_key t kind at token h)

    label : ((kind == BLANK) || (kind == OPEN_BRACKET)) ≡ true → Marked keys number false
    label h = marked false (labels_key t kind at token (kind == BLANK) (kind == OPEN_BRACKET) refl refl h)

    pub node : is_node_kind kind ≡ true → IsNode (meaning_of e keys (lexeme t kind at token) xs)
    unfolding meaning_of
    node h = node_by (kind == VAR) ((kind == BLANK) || (kind == OPEN_BRACKET)) (is_term kind) number (term_of e (lexeme_word t kind token) xs) (operator_of kind) h variable label term

    pub operand : is_operand_kind kind ≡ true → IsOperand (meaning_of e keys (lexeme t kind at token) xs)
    unfolding meaning_of
    operand h = operand_by (kind == VAR) ((kind == BLANK) || (kind == OPEN_BRACKET)) (is_term kind) number (term_of e (lexeme_word t kind token) xs) (operator_of kind) h variable term

    pub given : IsGiven (meaning_of e keys (lexeme t kind at token) xs)
    unfolding meaning_of
    given = given_by (kind == VAR) ((kind == BLANK) || (kind == OPEN_BRACKET)) (is_term kind) number (term_of e (lexeme_word t kind token) xs) (operator_of kind) (given_operator kind) term

    pub only_variable : is_variable_kind kind ≡ true → IsVariable (meaning_of e keys (lexeme t kind at token) xs)
    unfolding meaning_of
    only_variable h = variable_by (kind == VAR) ((kind == BLANK) || (kind == OPEN_BRACKET)) (is_term kind) number (term_of e (lexeme_word t kind token) xs) (operator_of kind) h variable

-- ---- at a token of the text

record Stands (text : List ℕ) (tokens : List Token) (i k : ℕ) : Type 0 where
  token : Token
  at : slice_get (lexemes_of text tokens) i ≡ Some (lexeme_of text (template_end tokens) token)
  kind : token.kind ≡ k

stands_at : (text : List ℕ) (tokens : List Token) (i k : ℕ) (o : Option Token) → slice_get tokens i ≡ o → option_map (λ t. t.kind) o ≡ Some k → Stands text tokens i k
stands_at text tokens i k None e h = absurd (cc)
stands_at text tokens i k (Some t) e h = record { token = t; at = slice_get-map (lexeme_of text (template_end tokens)) tokens i ∙ ap (option_map (lexeme_of text (template_end tokens))) e; kind = cc }

stands : (text : List ℕ) (tokens : List Token) (i k : ℕ) → slice_get (kinds_of tokens) i ≡ Some k → Stands text tokens i k
stands text tokens i k h = stands_at text tokens i k (slice_get tokens i) refl (sym (slice_get-map (λ t. t.kind) tokens i) ∙ h)

module _ (text : List ℕ) (tokens : List Token) (e : Environment) (start : ℕ) where
  abbrev pub lexed : List Lexeme
  lexed = lexemes_of text tokens

  abbrev end : ℕ
  end = template_end tokens

  abbrev pub body : List Lexeme
  body = drop start lexed

  abbrev pub body_keys : List (List ℕ)
  body_keys = (named_of body).keys

  abbrev pub all_meanings : List Meaning
  all_meanings = meanings_of e body_keys start lexed

  module _ (fine : Fine e body) (i k : ℕ) (l : start ≤ i) (h : slice_get (kinds_of tokens) i ≡ Some k) where
    at_token : (P : Meaning → Type 0)
        → ((t : Bool) (kind at : ℕ) (token : List ℕ) (xs : List Lexeme) → kind ≡ k
        → ((key : List ℕ) → key_of (lexeme t kind at token) ≡ Some key → slice_get body_keys (number_in body_keys (key_of (lexeme t kind at token))) ≡ Some key)
        → fails Wide e (lexeme t kind at token) xs ≡ false → P (meaning_of e body_keys (lexeme t kind at token) xs))
        → P (meaning_at all_meanings i)
    at_token P f =
        let s = stands text tokens i k h in
        let d = dropped start lexed i (lexeme_of text end s.token) l s.at in
        subst P (sym (meaning_is e body_keys start lexed i (lexeme_of text end s.token) l s.at))
        (f (nat_lt s.token.start end) s.token.kind s.token.start (between text s.token.start s.token.end) (behind lexed i) s.kind
        (λ key q. numbered body d.place (lexeme_of text end s.token) key d.at q)
        (subst (λ xs. fails Wide e (lexeme_of text end s.token) xs ≡ false) d.rest (passes_at e body d.place (lexeme_of text end s.token) fine d.at)))

    pub node_at : is_node_kind k ≡ true → IsNode body_keys (meaning_at all_meanings i)
    node_at p = at_token (IsNode body_keys) (λ t kind at token xs same numbers narrow. node body_keys e t kind at token xs numbers narrow (ap is_node_kind same ∙ p))

    pub operand_at : is_operand_kind k ≡ true → IsOperand body_keys (meaning_at all_meanings i)
    operand_at p = at_token (IsOperand body_keys) (λ t kind at token xs same numbers narrow. operand body_keys e t kind at token xs numbers narrow (ap is_operand_kind same ∙ p))

    pub variable_at : is_variable_kind k ≡ true → IsVariable body_keys (meaning_at all_meanings i)
    variable_at p = at_token (IsVariable body_keys) (λ t kind at token xs same numbers narrow. only_variable body_keys e t kind at token xs numbers narrow (ap is_variable_kind same ∙ p))

    pub given_at : IsGiven body_keys (meaning_at all_meanings i)
    given_at = at_token (IsGiven body_keys) (λ t kind at token xs same numbers narrow. given body_keys e t kind at token xs numbers narrow)
