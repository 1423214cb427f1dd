-- The text of an expression begins with a word, and the word tells its form.
use Rattle.std.proofs.Common.{◌≡◌, ◌∙◌, ℕ, ◌<◌, ◌^◌, ◌==◌, ◌&&◌, Bool, true, false, not, if◌then◌else◌, suc, List, [], ◌∷◌, ◌++◌, flat_map, refl, sym, ap, arith, append_assoc, nat_le}
use Rattle.std.specs.Char.{is_ascii_digit}
use Rattle.std.specs.Prelude.{IsUtf8, codes, decimal}
use Rattle.std.specs.List.{list_all, list_any}
use Rattle.std.specs.Str.{bytes_eq}
use Rattle.std.proofs.lemmas.Str.Ascii.{IsAscii-nil, IsAscii-push}
use Rattle.std.proofs.lemmas.Bool.Decides.{nat_tests}
use Rattle.std.proofs.lemmas.List.{append_cancel_left}
use Rattle.std.proofs.lemmas.Str.{IsUtf8-append, IsUtf8-from_ascii}
use Rattle.std.proofs.lemmas.Fmt.{decimal_injective}
use Rattle.vkg_lists.proofs.Runs.{stops, run_same}
use Rattle.vkg_lists.proofs.Bools.{and_parts}
use Rattle.vkg_lists.proofs.Heads.{head_same, tail_same}
use Rattle.vkg_terms.specs.declared.term.Annotation.{Annotation}
use Rattle.vkg_terms.specs.declared.term.Annotation.TheVariants.{Plain, Lang, Typed}
use Rattle.vkg_terms.specs.declared.term.Term.{Term}
use Rattle.vkg_terms.specs.NQuads.{term_text}
use Rattle.vkg_terms.specs.Writable.{HoldsText}
use Rattle.vkg_terms.proofs.TextLemmas.{term_text_same}
use Rattle.vkg_cells.specs.declared.cell.Cell.{Cell}
use Rattle.vkg_cells.specs.declared.cell.Cell.TheVariants as cell
use Rattle.vkg_cells.specs.declared.cell.SqlType.{SqlType}
use Rattle.vkg_cells.specs.declared.cell.SqlType.TheVariants as kind
use Rattle.vkg_values.specs.declared.operator.Test.{Test as TermTest}
use Rattle.vkg_values.specs.declared.operator.Test.TheVariants as test
use Rattle.vkg_values.specs.declared.operator.Take.{Take as TermTake}
use Rattle.vkg_values.specs.declared.operator.Take.TheVariants as take
use Rattle.vkg_values.specs.declared.operator.Compare.{Compare as TermCompare}
use Rattle.vkg_values.specs.declared.operator.Compare.TheVariants as cmp
use Rattle.vkg_expr.specs.declared.expr.Operator.{Operator}
use Rattle.vkg_expr.specs.declared.expr.Operator.TheVariants.{Test, Take, Compare}
use Rattle.vkg_expr.specs.Expr.{Expr, Exprs, Col, Const, MakeIri, IriOf, MakeBlank, MakeLit, Lex, IriSafe, Concat, Same, IsNull, Not, And, Or, Coalesce, Sparql, Ebv}
use Rattle.vkg_expr.specs.Expr as expr
use Rattle.vkg_expr.specs.Typing.{fits}
use Rattle.vkg_expr.specs.TermExprs.{text_const}
use Rattle.vkg_sqltext.specs.Laws.{HoldsAnnotation, HoldsCell}
use Rattle.vkg_sqltext.specs.Text.{commas, compare_text, constant_text, expr_text, expr_texts, kind_text, operator_text, quoted, take_text, test_text}
use Rattle.vkg_sqltext.proofs.Cutting.{decimal_digits, quoted_same, stops_behind}

-- what stands behind the word: nothing, a quoted text, one without a word, a number, a kind, a term, or arguments
data Head : Type 0 where
  Bare : (w : List ℕ) → Head
  Spaced : (w s : List ℕ) → Head
  Quote : (s : List ℕ) → Head
  Column : (n : ℕ) → Head
  Cast : (k : SqlType) → Head
  Whole : (t : Term) → Head
  Calls : (w : List ℕ) (es : Exprs) → Head

abbrev word : Head → List ℕ
word (Bare w) = w
word (Spaced w s) = w
word (Quote s) = []
word (Column n) = codes "c"
word (Cast k) = codes "CAST"
word (Whole t) = codes "TERM"
word (Calls w es) = w

abbrev rest : Head → List ℕ
rest (Bare w) = []
rest (Spaced w s) = 32 ∷ quoted s
rest (Quote s) = quoted s
rest (Column n) = decimal (suc n)
rest (Cast k) = codes "(NULL AS " ++ kind_text k ++ codes ")"
rest (Whole t) = 32 ∷ quoted (term_text t)
rest (Calls w es) = codes "(" ++ commas (expr_texts es) ++ codes ")"

abbrev number : Head → ℕ
number (Bare w) = 0
number (Spaced w s) = 1
number (Quote s) = 2
number (Column n) = 3
number (Cast k) = 4
number (Whole t) = 5
number (Calls w es) = 6

-- the form that a word tells; 7 is that of no expression
abbrev pub class : List ℕ → ℕ
class w =
    if list_any (bytes_eq w) (codes "TRUE" ∷ codes "FALSE" ∷ []) then 0
    else if list_any (bytes_eq w) (codes "INT" ∷ codes "DEC" ∷ codes "DATE" ∷ codes "STAMP" ∷ codes "BIN" ∷ codes "TIME" ∷ []) then 1
    else if bytes_eq w [] then 2
    else if bytes_eq w (codes "c") then 3
    else if bytes_eq w (codes "CAST") then 4
    else if bytes_eq w (codes "TERM") then 5
    else if bytes_eq w (codes "DISTINCT") then 7
    else 6

abbrev pub is_letter : ℕ → Bool
is_letter b = nat_le 65 b && nat_le b 122

abbrev cell_head : Cell → SqlType → Head
cell_head cell.Null k = Cast k
cell_head (cell.Int s) k = Spaced (codes "INT") s
cell_head (cell.Dec s) k = Spaced (codes "DEC") s
cell_head (cell.Bool true) k = Bare (codes "TRUE")
cell_head (cell.Bool false) k = Bare (codes "FALSE")
cell_head (cell.Text s) k = Quote s
cell_head (cell.Date s) k = Spaced (codes "DATE") s
cell_head (cell.Stamp s) k = Spaced (codes "STAMP") s
cell_head (cell.Bin s) k = Spaced (codes "BIN") s
cell_head (cell.Time s) k = Spaced (codes "TIME") s
cell_head (cell.Term t) k = Whole t

-- a quoted argument has the text of a constant
abbrev annotation_said : Annotation → Exprs
annotation_said Plain = expr.Nil
annotation_said (Lang tag) = expr.More (text_const (codes "@" ++ tag)) expr.Nil
annotation_said (Typed datatype) = expr.More (text_const (codes "^^" ++ datatype)) expr.Nil

abbrev one : Expr → Exprs
one e = expr.More e expr.Nil

abbrev head : Expr → Head
head (Col at) = Column at
head (Const c k) = cell_head c k
head (MakeIri e) = Calls (codes "IRI") (one e)
head (IriOf base e) = Calls (codes "IRI_OF") (expr.More (text_const base) (one e))
head (MakeBlank e) = Calls (codes "BLANK") (one e)
head (MakeLit e annotation) = Calls (codes "LIT") (expr.More e (annotation_said annotation))
head (Lex e) = Calls (codes "LEX") (one e)
head (IriSafe e) = Calls (codes "SAFE") (one e)
head (Concat es) = Calls (codes "CONCAT") es
head (Same a b) = Calls (codes "SAME") (expr.More a (one b))
head (IsNull e) = Calls (codes "IS_NULL") (one e)
head (Not e) = Calls (codes "NOT") (one e)
head (And es) = Calls (codes "AND") es
head (Or es) = Calls (codes "OR") es
head (Coalesce es) = Calls (codes "COALESCE") es
head (Sparql op es) = Calls (operator_text op) es
head (Ebv e) = Calls (codes "EBV") (one e)

-- ---- the text is that of the head

cell_text_is : (c : Cell) (k : SqlType) → constant_text c k ≡ word (cell_head c k) ++ rest (cell_head c k)
cell_text_is cell.Null k = refl
cell_text_is (cell.Bool true) k = refl
cell_text_is (cell.Bool false) k = refl
cell_text_is c k = refl

lit_text_is : (e : Expr) (annotation : Annotation) → expr_text (MakeLit e annotation) ≡ word (head (MakeLit e annotation)) ++ rest (head (MakeLit e annotation))
lit_text_is e Plain = refl
lit_text_is e (Lang tag) = refl
lit_text_is e (Typed datatype) = refl

text_is : (e : Expr) → expr_text e ≡ word (head e) ++ rest (head e)
text_is (Const c k) = cell_text_is c k
text_is (MakeLit e annotation) = lit_text_is e annotation
text_is (Sparql op es) =
    append_assoc (operator_text op ++ codes "(") (commas (expr_texts es)) (codes ")") ∙ append_assoc (operator_text op) (codes "(") (commas (expr_texts es) ++ codes ")")
text_is e = refl

record IsHead (h : Head) : Type 0 where
  told : class (word h) ≡ number h
  letters : list_all is_letter (word h) ≡ true

cell_headed : (c : Cell) (k : SqlType) → IsHead (cell_head c k)
cell_headed (cell.Bool true) k = record { told = refl; letters = refl }
cell_headed (cell.Bool false) k = record { told = refl; letters = refl }
cell_headed c k = record { told = refl; letters = refl }

test_headed : (op : TermTest) (es : Exprs) → IsHead (Calls (test_text op) es)
test_headed op es = by op
  where
    by : (op : TermTest) → IsHead (Calls (test_text op) es)
    by test.IsIri = record { told = refl; letters = refl }
    by test.IsBlank = record { told = refl; letters = refl }
    by test.IsLiteral = record { told = refl; letters = refl }
    by test.IsNumeric = record { told = refl; letters = refl }

take_headed : (op : TermTake) (es : Exprs) → IsHead (Calls (take_text op) es)
take_headed take.Str es = record { told = refl; letters = refl }
take_headed take.Lang es = record { told = refl; letters = refl }
take_headed take.Datatype es = record { told = refl; letters = refl }
take_headed take.Length es = record { told = refl; letters = refl }

compare_headed : (op : TermCompare) (es : Exprs) → IsHead (Calls (compare_text op) es)
compare_headed cmp.Equal es = record { told = refl; letters = refl }
compare_headed cmp.NotEqual es = record { told = refl; letters = refl }
compare_headed cmp.Less es = record { told = refl; letters = refl }
compare_headed cmp.Greater es = record { told = refl; letters = refl }
compare_headed cmp.LessOrEqual es = record { told = refl; letters = refl }
compare_headed cmp.GreaterOrEqual es = record { told = refl; letters = refl }
compare_headed cmp.Starts es = record { told = refl; letters = refl }
compare_headed cmp.Ends es = record { told = refl; letters = refl }
compare_headed cmp.Contains es = record { told = refl; letters = refl }

operator_headed : (op : Operator) (es : Exprs) → IsHead (Calls (operator_text op) es)
operator_headed (Test op) es = test_headed op es
operator_headed (Take op) es = take_headed op es
operator_headed (Compare op) es = compare_headed op es

headed : (e : Expr) → IsHead (head e)
headed (Const c k) = cell_headed c k
headed (Sparql op es) = operator_headed op es
headed e = record { told = refl; letters = refl }

-- ---- the expression of a head

abbrev first_of : Exprs → Expr
first_of expr.Nil = Col 0
first_of (expr.More e es) = e

abbrev behind_first : Exprs → Exprs
behind_first expr.Nil = expr.Nil
behind_first (expr.More e es) = es

abbrev text_in : Expr → List ℕ
text_in (Const (cell.Text s) k) = s
text_in e = []

abbrev annotation_by : List ℕ → Annotation
annotation_by [] = Plain
annotation_by (b ∷ []) = if b == 64 then Lang [] else Plain
annotation_by (b ∷ c ∷ s) = if b == 64 then Lang (c ∷ s) else Typed s

abbrev annotation_back : Exprs → Annotation
annotation_back expr.Nil = Plain
annotation_back (expr.More e es) = annotation_by (text_in e)

abbrev operator_back : List ℕ → Operator
operator_back w =
    if bytes_eq w (codes "EQ") then Compare cmp.Equal
    else if bytes_eq w (codes "NE") then Compare cmp.NotEqual
    else if bytes_eq w (codes "LT") then Compare cmp.Less
    else if bytes_eq w (codes "GT") then Compare cmp.Greater
    else if bytes_eq w (codes "LE") then Compare cmp.LessOrEqual
    else if bytes_eq w (codes "GE") then Compare cmp.GreaterOrEqual
    else if bytes_eq w (codes "STRSTARTS") then Compare cmp.Starts
    else if bytes_eq w (codes "STRENDS") then Compare cmp.Ends
    else if bytes_eq w (codes "CONTAINS") then Compare cmp.Contains
    else if bytes_eq w (codes "STR") then Take take.Str
    else if bytes_eq w (codes "LANG") then Take take.Lang
    else if bytes_eq w (codes "DATATYPE") then Take take.Datatype
    else if bytes_eq w (codes "STRLEN") then Take take.Length
    else if bytes_eq w (codes "IS_IRI") then Test test.IsIri
    else if bytes_eq w (codes "IS_BLANK") then Test test.IsBlank
    else if bytes_eq w (codes "IS_LITERAL") then Test test.IsLiteral
    else Test test.IsNumeric

abbrev call_back : List ℕ → Exprs → Expr
call_back w es =
    if bytes_eq w (codes "IRI") then MakeIri (first_of es)
    else if bytes_eq w (codes "IRI_OF") then IriOf (text_in (first_of es)) (first_of (behind_first es))
    else if bytes_eq w (codes "BLANK") then MakeBlank (first_of es)
    else if bytes_eq w (codes "LIT") then MakeLit (first_of es) (annotation_back (behind_first es))
    else if bytes_eq w (codes "LEX") then Lex (first_of es)
    else if bytes_eq w (codes "SAFE") then IriSafe (first_of es)
    else if bytes_eq w (codes "CONCAT") then Concat es
    else if bytes_eq w (codes "SAME") then Same (first_of es) (first_of (behind_first es))
    else if bytes_eq w (codes "IS_NULL") then IsNull (first_of es)
    else if bytes_eq w (codes "NOT") then Not (first_of es)
    else if bytes_eq w (codes "AND") then And es
    else if bytes_eq w (codes "OR") then Or es
    else if bytes_eq w (codes "COALESCE") then Coalesce es
    else if bytes_eq w (codes "EBV") then Ebv (first_of es)
    else Sparql (operator_back w) es

abbrev spaced_back : List ℕ → List ℕ → Expr
spaced_back w s =
    if bytes_eq w (codes "INT") then Const (cell.Int s) kind.Int
    else if bytes_eq w (codes "DEC") then Const (cell.Dec s) kind.Dec
    else if bytes_eq w (codes "DATE") then Const (cell.Date s) kind.Date
    else if bytes_eq w (codes "STAMP") then Const (cell.Stamp s) kind.Stamp
    else if bytes_eq w (codes "BIN") then Const (cell.Bin s) kind.Bin
    else Const (cell.Time s) kind.Time

abbrev back : Head → Expr
back (Bare w) = Const (cell.Bool (bytes_eq w (codes "TRUE"))) kind.Bool
back (Spaced w s) = spaced_back w s
back (Quote s) = text_const s
back (Column n) = Col n
back (Cast k) = Const cell.Null k
back (Whole t) = Const (cell.Term t) kind.Term
back (Calls w es) = call_back w es

cell_back : (c : Cell) (k : SqlType) → fits k c ≡ true → back (cell_head c k) ≡ Const c k
cell_back cell.Null k h = refl
cell_back (cell.Int s) kind.Int h = refl
cell_back (cell.Dec s) kind.Dec h = refl
cell_back (cell.Bool true) kind.Bool h = refl
cell_back (cell.Bool false) kind.Bool h = refl
cell_back (cell.Text s) kind.Text h = refl
cell_back (cell.Date s) kind.Date h = refl
cell_back (cell.Stamp s) kind.Stamp h = refl
cell_back (cell.Bin s) kind.Bin h = refl
cell_back (cell.Time s) kind.Time h = refl
cell_back (cell.Term t) kind.Term h = refl
cell_back c k h = absurd (cc)

lang_back : (tag : List ℕ) → annotation_by (64 ∷ tag) ≡ Lang tag
lang_back [] = refl
lang_back (b ∷ bs) = refl

lit_back : (e : Expr) (annotation : Annotation) → back (head (MakeLit e annotation)) ≡ MakeLit e annotation
lit_back e Plain = refl
lit_back e (Lang tag) = ap (MakeLit e) (lang_back tag)
lit_back e (Typed datatype) = refl

test_back : (op : TermTest) (es : Exprs) → back (Calls (test_text op) es) ≡ Sparql (Test op) es
test_back test.IsIri es = refl
test_back test.IsBlank es = refl
test_back test.IsLiteral es = refl
test_back test.IsNumeric es = refl

take_back : (op : TermTake) (es : Exprs) → back (Calls (take_text op) es) ≡ Sparql (Take op) es
take_back take.Str es = refl
take_back take.Lang es = refl
take_back take.Datatype es = refl
take_back take.Length es = refl

compare_back : (op : TermCompare) (es : Exprs) → back (Calls (compare_text op) es) ≡ Sparql (Compare op) es
compare_back cmp.Equal es = refl
compare_back cmp.NotEqual es = refl
compare_back cmp.Less es = refl
compare_back cmp.Greater es = refl
compare_back cmp.LessOrEqual es = refl
compare_back cmp.GreaterOrEqual es = refl
compare_back cmp.Starts es = refl
compare_back cmp.Ends es = refl
compare_back cmp.Contains es = refl

operator_is_back : (op : Operator) (es : Exprs) → back (Calls (operator_text op) es) ≡ Sparql op es
operator_is_back (Test op) es = test_back op es
operator_is_back (Take op) es = take_back op es
operator_is_back (Compare op) es = compare_back op es

-- ---- what is asked of an expression

abbrev mutual
  pub SoundExpr : Expr → Type 0
  SoundExpr (Col at) = suc at < 2 ^ 64
  SoundExpr (Const c k) = (fits k c ≡ true) × HoldsCell c
  SoundExpr (MakeIri e) = SoundExpr e
  SoundExpr (IriOf base e) = IsUtf8 base × SoundExpr e
  SoundExpr (MakeBlank e) = SoundExpr e
  SoundExpr (MakeLit e annotation) = SoundExpr e × HoldsAnnotation annotation
  SoundExpr (Lex e) = SoundExpr e
  SoundExpr (IriSafe e) = SoundExpr e
  SoundExpr (Concat es) = SoundExprs es
  SoundExpr (Same a b) = SoundExpr a × SoundExpr b
  SoundExpr (IsNull e) = SoundExpr e
  SoundExpr (Not e) = SoundExpr e
  SoundExpr (And es) = SoundExprs es
  SoundExpr (Or es) = SoundExprs es
  SoundExpr (Coalesce es) = SoundExprs es
  SoundExpr (Sparql op es) = SoundExprs es
  SoundExpr (Ebv e) = SoundExpr e

  pub SoundExprs : Exprs → Type 0
  SoundExprs expr.Nil = Unit {0}
  SoundExprs (expr.More e es) = SoundExpr e × SoundExprs es

abbrev SoundHead : Head → Type 0
SoundHead (Bare w) = Unit {0}
SoundHead (Spaced w s) = IsUtf8 s
SoundHead (Quote s) = IsUtf8 s
SoundHead (Column n) = suc n < 2 ^ 64
SoundHead (Cast k) = Unit {0}
SoundHead (Whole t) = HoldsText t × IsUtf8 (term_text t)
SoundHead (Calls w es) = SoundExprs es

is_back : (e : Expr) → SoundExpr e → back (head e) ≡ e
is_back (Const c k) h = cell_back c k h.0
is_back (MakeLit e annotation) h = lit_back e annotation
is_back (Sparql op es) h = operator_is_back op es
is_back e h = refl

sound_cell : (c : Cell) (k : SqlType) → HoldsCell c → SoundHead (cell_head c k)
sound_cell (cell.Bool true) k h = tt
sound_cell (cell.Bool false) k h = tt
sound_cell c k h = h

utf8_behind : (b : ℕ) → b < 128 → (s : List ℕ) → IsUtf8 s → IsUtf8 (b ∷ s)
utf8_behind b l s h = IsUtf8-append (b ∷ []) s (IsUtf8-from_ascii (b ∷ []) (IsAscii-push [] b IsAscii-nil l)) h

sound_annotation : (annotation : Annotation) → HoldsAnnotation annotation → SoundExprs (annotation_said annotation)
sound_annotation Plain h = tt
sound_annotation (Lang tag) h = ((refl, utf8_behind 64 (omega arith) tag h), tt)
sound_annotation (Typed datatype) h = ((refl, utf8_behind 94 (omega arith) (94 ∷ datatype) (utf8_behind 94 (omega arith) datatype h)), tt)

sound_head : (e : Expr) → SoundExpr e → SoundHead (head e)
sound_head (Const c k) h = sound_cell c k h.1
sound_head (IriOf base e) h = ((refl, h.0), (h.1, tt))
sound_head (MakeLit e annotation) h = (h.0, sound_annotation annotation h.1)
sound_head (Same a b) h = (h.0, (h.1, tt))
sound_head (MakeIri e) h = (h, tt)
sound_head (MakeBlank e) h = (h, tt)
sound_head (Lex e) h = (h, tt)
sound_head (IriSafe e) h = (h, tt)
sound_head (IsNull e) h = (h, tt)
sound_head (Not e) h = (h, tt)
sound_head (Ebv e) h = (h, tt)
sound_head e h = h

-- ---- what may stand behind an expression

pub data Ends : List ℕ → Type 0 where
  at_end : Ends []
  at_bracket : (x : List ℕ) → Ends (41 ∷ x)
  at_comma : (x : List ℕ) → Ends (44 ∷ x)
  at_space : (x : List ℕ) → Ends (32 ∷ x)

-- bytes of another kind
pub ends_stop : (p : ℕ → Bool) {x : List ℕ} → not (p 41) ≡ true → not (p 44) ≡ true → not (p 32) ≡ true → Ends x → stops p x ≡ true
ends_stop p bracket comma space at_end = refl
ends_stop p bracket comma space (at_bracket x) = bracket
ends_stop p bracket comma space (at_comma x) = comma
ends_stop p bracket comma space (at_space x) = space

digit_no_letter : (b : ℕ) → is_ascii_digit b ≡ true → is_letter b ≡ false
digit_no_letter b h = grind (arith, nat_tests)

rest_stops : (h : Head) (x : List ℕ) → SoundHead h → Ends x → stops is_letter (rest h ++ x) ≡ true
rest_stops (Bare w) x s e = ends_stop is_letter refl refl refl e
rest_stops (Spaced w t) x s e = refl
rest_stops (Quote t) x s e = refl
rest_stops (Column n) x s e = stops_behind is_letter is_ascii_digit (decimal (suc n)) x (decimal_digits (suc n) s) digit_no_letter (ends_stop is_letter refl refl refl e)
rest_stops (Cast k) x s e = refl
rest_stops (Whole t) x s e = refl
rest_stops (Calls w es) x s e = refl

-- ---- kinds

abbrev kind_back : List ℕ → SqlType
kind_back w =
    if bytes_eq w (codes "INT") then kind.Int
    else if bytes_eq w (codes "DEC") then kind.Dec
    else if bytes_eq w (codes "BOOL") then kind.Bool
    else if bytes_eq w (codes "TEXT") then kind.Text
    else if bytes_eq w (codes "DATE") then kind.Date
    else if bytes_eq w (codes "STAMP") then kind.Stamp
    else if bytes_eq w (codes "BIN") then kind.Bin
    else if bytes_eq w (codes "TIME") then kind.Time
    else kind.Term

kind_is_back : (k : SqlType) → kind_back (kind_text k) ≡ k
kind_is_back kind.Int = refl
kind_is_back kind.Dec = refl
kind_is_back kind.Bool = refl
kind_is_back kind.Text = refl
kind_is_back kind.Date = refl
kind_is_back kind.Stamp = refl
kind_is_back kind.Bin = refl
kind_is_back kind.Time = refl
kind_is_back kind.Term = refl

kind_letters : (k : SqlType) → list_all is_letter (kind_text k) ≡ true
kind_letters kind.Int = refl
kind_letters kind.Dec = refl
kind_letters kind.Bool = refl
kind_letters kind.Text = refl
kind_letters kind.Date = refl
kind_letters kind.Stamp = refl
kind_letters kind.Bin = refl
kind_letters kind.Time = refl
kind_letters kind.Term = refl

pub kind_same : (k l : SqlType) (x y : List ℕ) → stops is_letter x ≡ true → stops is_letter y ≡ true → kind_text k ++ x ≡ kind_text l ++ y → (k ≡ l) × (x ≡ y)
kind_same k l x y s t e =
    let r = run_same is_letter (kind_text k) (kind_text l) x y (kind_letters k) (kind_letters l) s t e in
    (sym (kind_is_back k) ∙ ap kind_back r.0 ∙ kind_is_back l, r.1)

-- ---- one head

abbrev pub ExprIsOne : Expr → Type 0
ExprIsOne e = (f : Expr) (x y : List ℕ) → SoundExpr e → SoundExpr f → Ends x → Ends y → expr_text e ++ x ≡ expr_text f ++ y → (e ≡ f) × (x ≡ y)

abbrev ExprsAreOne : Exprs → Type 0
ExprsAreOne expr.Nil = Unit {0}
ExprsAreOne (expr.More e es) = ExprIsOne e × ExprsAreOne es

abbrev HeadIsOne : Head → Type 0
HeadIsOne (Calls w es) = ExprsAreOne es
HeadIsOne h = Unit {0}

abbrev commaed : Exprs → List ℕ
commaed es = flat_map (λ u. codes ", " ++ u) (expr_texts es)

ends_behind : (es : Exprs) (x : List ℕ) → Ends (commaed es ++ 41 ∷ x)
ends_behind expr.Nil x = at_bracket x
ends_behind (expr.More e es) x = at_comma _

behind_same : (es fs : Exprs) (x y : List ℕ) → ExprsAreOne es → SoundExprs es → SoundExprs fs → commaed es ++ 41 ∷ x ≡ commaed fs ++ 41 ∷ y → (es ≡ fs) × (x ≡ y)
behind_same expr.Nil expr.Nil x y a s t same = (refl, tail_same 41 41 x y same)
behind_same expr.Nil (expr.More f fs) x y a s t same = absurd (let bad = head_same 41 44 _ _ same in omega (arith, bad))
behind_same (expr.More e es) expr.Nil x y a s t same = absurd (let bad = head_same 44 41 _ _ same in omega (arith, bad))
behind_same (expr.More e es) (expr.More f fs) x y a s t same =
    let joined : (expr_text e ++ commaed es) ++ 41 ∷ x ≡ (expr_text f ++ commaed fs) ++ 41 ∷ y = tail_same 32 32 _ _ (tail_same 44 44 _ _ same) in
    let r = a.0 f (commaed es ++ 41 ∷ x) (commaed fs ++ 41 ∷ y) s.0 t.0 (ends_behind es x) (ends_behind fs y)
    (sym (append_assoc (expr_text e) (commaed es) (41 ∷ x)) ∙ joined ∙ append_assoc (expr_text f) (commaed fs) (41 ∷ y)) in
    let more = behind_same es fs x y a.1 s.1 t.1 r.1 in
    ((λ i. expr.More (r.0 i) (more.0 i)), more.1)

letter_is : (c b : ℕ) → is_letter c ≡ false → is_letter b ≡ true → c ≡ b → ⊥
letter_is c b k h e = absurd (let g : true ≡ false = sym h ∙ ap is_letter (sym e) ∙ k in cc)

module _ (c : ℕ) (no_letter : is_letter c ≡ false) (no_quote : c ≡ 39 → ⊥) where
  opens_by : (h : Head) (z x : List ℕ) → IsHead h → c ∷ x ≡ (word h ++ rest h) ++ z → ⊥
  opens_by (Bare []) z x i e = absurd (let bad : 2 ≡ 0 = i.told in omega (arith, bad))
  opens_by (Bare (b ∷ w)) z x i e = letter_is c b no_letter (and_parts (is_letter b) (list_all is_letter w) i.letters).0 (head_same c b _ _ e)
  opens_by (Spaced [] s) z x i e = absurd (let bad : 2 ≡ 1 = i.told in omega (arith, bad))
  opens_by (Spaced (b ∷ w) s) z x i e = letter_is c b no_letter (and_parts (is_letter b) (list_all is_letter w) i.letters).0 (head_same c b _ _ e)
  opens_by (Quote s) z x i e = no_quote (head_same c 39 _ _ e)
  opens_by (Column n) z x i e = letter_is c 99 no_letter refl (head_same c 99 _ _ e)
  opens_by (Cast k) z x i e = letter_is c 67 no_letter refl (head_same c 67 _ _ e)
  opens_by (Whole t) z x i e = letter_is c 84 no_letter refl (head_same c 84 _ _ e)
  opens_by (Calls [] es) z x i e = absurd (let bad : 2 ≡ 6 = i.told in omega (arith, bad))
  opens_by (Calls (b ∷ w) es) z x i e = letter_is c b no_letter (and_parts (is_letter b) (list_all is_letter w) i.letters).0 (head_same c b _ _ e)

  -- an expression begins with a letter or a quote
  pub not_begun : (f : Expr) (z x : List ℕ) → c ∷ x ≡ expr_text f ++ z → ⊥
  not_begun f z x e = opens_by (head f) z x (headed f) (e ∙ ap (λ l. l ++ z) (text_is f))

not_closing : (f : Expr) (z x : List ℕ) → 41 ∷ x ≡ expr_text f ++ z → ⊥
not_closing f z x e = not_begun 41 refl (λ bad. absurd (omega (arith, bad))) f z x e

arguments_same : (es fs : Exprs) (x y : List ℕ) → ExprsAreOne es → SoundExprs es → SoundExprs fs → commas (expr_texts es) ++ 41 ∷ x ≡ commas (expr_texts fs) ++ 41 ∷ y → (es ≡ fs) × (x ≡ y)
arguments_same expr.Nil expr.Nil x y a s t same = (refl, tail_same 41 41 x y same)
arguments_same expr.Nil (expr.More f fs) x y a s t same = absurd (not_closing f (commaed fs ++ 41 ∷ y) x (same ∙ append_assoc (expr_text f) (commaed fs) (41 ∷ y)))
arguments_same (expr.More e es) expr.Nil x y a s t same = absurd (not_closing e (commaed es ++ 41 ∷ x) y (sym same ∙ append_assoc (expr_text e) (commaed es) (41 ∷ x)))
arguments_same (expr.More e es) (expr.More f fs) x y a s t same =
    let r = a.0 f (commaed es ++ 41 ∷ x) (commaed fs ++ 41 ∷ y) s.0 t.0 (ends_behind es x) (ends_behind fs y)
    (sym (append_assoc (expr_text e) (commaed es) (41 ∷ x)) ∙ same ∙ append_assoc (expr_text f) (commaed fs) (41 ∷ y)) in
    let more = behind_same es fs x y a.1 s.1 t.1 r.1 in
    ((λ i. expr.More (r.0 i) (more.0 i)), more.1)

head_one : (h k : Head) (x y : List ℕ) → HeadIsOne h → SoundHead h → SoundHead k → Ends x → Ends y → word h ≡ word k → number h ≡ number k → rest h ++ x ≡ rest k ++ y → (h ≡ k) × (x ≡ y)
head_one (Bare v) (Bare w) x y a s t u z e n same = (ap Bare e, same)
head_one (Spaced v p) (Spaced w q) x y a s t u z e n same =
    let r = quoted_same p q x y s t (ends_stop (λ b. b == 39) refl refl refl u) (ends_stop (λ b. b == 39) refl refl refl z) (tail_same 32 32 _ _ same) in
    ((λ i. Spaced (e i) (r.0 i)), r.1)
head_one (Quote p) (Quote q) x y a s t u z e n same =
    let r = quoted_same p q x y s t (ends_stop (λ b. b == 39) refl refl refl u) (ends_stop (λ b. b == 39) refl refl refl z) same in
    (ap Quote r.0, r.1)
head_one (Column i) (Column j) x y a s t u z e n same =
    let r = run_same is_ascii_digit (decimal (suc i)) (decimal (suc j)) x y (decimal_digits (suc i) s) (decimal_digits (suc j) t) (ends_stop is_ascii_digit refl refl refl u) (ends_stop is_ascii_digit refl refl refl z) same in
    let g : suc i ≡ suc j = decimal_injective (suc i) (suc j) s t r.0 in
    let h : i ≡ j = omega (arith, g) in
    (ap Column h, r.1)
head_one (Cast k) (Cast l) x y a s t u z e n same =
    let opened : (kind_text k ++ codes ")") ++ x ≡ (kind_text l ++ codes ")") ++ y = append_cancel_left (codes "(NULL AS ") ((kind_text k ++ codes ")") ++ x) ((kind_text l ++ codes ")") ++ y) same in
    let r = kind_same k l (41 ∷ x) (41 ∷ y) refl refl (sym (append_assoc (kind_text k) (codes ")") x) ∙ opened ∙ append_assoc (kind_text l) (codes ")") y) in
    (ap Cast r.0, tail_same 41 41 x y r.1)
head_one (Whole p) (Whole q) x y a s t u z e n same =
    let r = quoted_same (term_text p) (term_text q) x y s.1 t.1 (ends_stop (λ b. b == 39) refl refl refl u) (ends_stop (λ b. b == 39) refl refl refl z) (tail_same 32 32 _ _ same) in
    (ap Whole (term_text_same p q s.0 t.0 r.0), r.1)
head_one (Calls v es) (Calls w fs) x y a s t u z e n same =
    let r = arguments_same es fs x y a s t (sym (append_assoc (commas (expr_texts es)) (codes ")") x) ∙ tail_same 40 40 _ _ same ∙ append_assoc (commas (expr_texts fs)) (codes ")") y) in
    ((λ i. Calls (e i) (r.0 i)), r.1)
head_one h k x y a s t u z e n same = absurd (omega (arith, n))

from_head : (e : Expr) → HeadIsOne (head e) → ExprIsOne e
from_head e a f x y s t u z same =
    let joined : word (head e) ++ (rest (head e) ++ x) ≡ word (head f) ++ (rest (head f) ++ y) =
    sym (append_assoc (word (head e)) (rest (head e)) x) ∙ ap (λ l. l ++ x) (sym (text_is e)) ∙ same ∙ ap (λ l. l ++ y) (text_is f) ∙ append_assoc (word (head f)) (rest (head f)) y in
    let r = run_same is_letter (word (head e)) (word (head f)) (rest (head e) ++ x) (rest (head f) ++ y) (headed e).letters (headed f).letters
    (rest_stops (head e) x (sound_head e s) u) (rest_stops (head f) y (sound_head f t) z) joined in
    let n : number (head e) ≡ number (head f) = sym (headed e).told ∙ ap class r.0 ∙ (headed f).told in
    let h = head_one (head e) (head f) x y a (sound_head e s) (sound_head f t) u z r.0 n r.1 in
    (sym (is_back e s) ∙ ap back h.0 ∙ is_back f t, h.1)

said_one : (s : List ℕ) → ExprIsOne (text_const s)
said_one s = from_head (text_const s) tt

cell_one : (c : Cell) (k : SqlType) → HeadIsOne (cell_head c k)
cell_one (cell.Bool true) k = tt
cell_one (cell.Bool false) k = tt
cell_one c k = tt

annotation_one : (annotation : Annotation) → ExprsAreOne (annotation_said annotation)
annotation_one Plain = tt
annotation_one (Lang tag) = (said_one (codes "@" ++ tag), tt)
annotation_one (Typed datatype) = (said_one (codes "^^" ++ datatype), tt)

mutual
  pub expr_one : (e : Expr) → ExprIsOne e
  expr_one (Col at) = from_head (Col at) tt
  expr_one (Const c k) = from_head (Const c k) (cell_one c k)
  expr_one (MakeIri e) = from_head (MakeIri e) (expr_one e, tt)
  expr_one (IriOf base e) = from_head (IriOf base e) (said_one base, (expr_one e, tt))
  expr_one (MakeBlank e) = from_head (MakeBlank e) (expr_one e, tt)
  expr_one (MakeLit e annotation) = from_head (MakeLit e annotation) (expr_one e, annotation_one annotation)
  expr_one (Lex e) = from_head (Lex e) (expr_one e, tt)
  expr_one (IriSafe e) = from_head (IriSafe e) (expr_one e, tt)
  expr_one (Concat es) = from_head (Concat es) (exprs_one es)
  expr_one (Same a b) = from_head (Same a b) (expr_one a, (expr_one b, tt))
  expr_one (IsNull e) = from_head (IsNull e) (expr_one e, tt)
  expr_one (Not e) = from_head (Not e) (expr_one e, tt)
  expr_one (And es) = from_head (And es) (exprs_one es)
  expr_one (Or es) = from_head (Or es) (exprs_one es)
  expr_one (Coalesce es) = from_head (Coalesce es) (exprs_one es)
  expr_one (Sparql op es) = from_head (Sparql op es) (exprs_one es)
  expr_one (Ebv e) = from_head (Ebv e) (expr_one e, tt)

  exprs_one : (es : Exprs) → ExprsAreOne es
  exprs_one expr.Nil = tt
  exprs_one (expr.More e es) = (expr_one e, exprs_one es)

-- the word with which an expression begins, where it has one
pub record Begins (e : Expr) : Type 0 where
  pub front : List ℕ
  pub behind : List ℕ
  pub is : expr_text e ≡ front ++ behind
  pub letters : list_all is_letter front ≡ true
  pub known : class front ≡ 7 → ⊥
  pub ends : (x : List ℕ) → Ends x → stops is_letter (behind ++ x) ≡ true

number_known : (h : Head) → number h ≡ 7 → ⊥
number_known (Bare w) e = absurd (omega (arith, e))
number_known h e = absurd (omega (arith, e))

pub begins : (e : Expr) → SoundExpr e → Begins e
begins e s = record {
  front = word (head e);
  behind = rest (head e);
  is = text_is e;
  letters = (headed e).letters;
  known = λ k. number_known (head e) (sym (headed e).told ∙ k);
  ends = λ x u. rest_stops (head e) x (sound_head e s) u;
}
