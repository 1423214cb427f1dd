-- The text of a plan over a schema, as a statement in the manner of SQL-92.
use Rattle.std.specs.Prelude.{ℕ, suc, true, false, List, [], ◌∷◌, ◌++◌, map, flat_map, chars, codes, decimal, encode_utf8, ◌==◌, if◌then◌else◌}
use Rattle.std.specs.List.{join_by}
use Rattle.vkg_terms.specs.declared.term.Annotation.{Annotation}
use Rattle.vkg_terms.specs.declared.term.Annotation.TheVariants.{Plain, Lang, Typed}
use Rattle.vkg_terms.specs.NQuads.{term_text}
use Rattle.vkg_cells.specs.declared.cell.Cell.{Cell}
use Rattle.vkg_cells.specs.declared.cell.Cell.TheVariants as cell
use Rattle.vkg_cells.specs.declared.cell.SqlType.{SqlType}
use Rattle.vkg_cells.specs.declared.cell.SqlType.TheVariants as kind
use Rattle.vkg_schema.specs.Names.{table_name}
use Rattle.vkg_values.specs.declared.operator.Test.{Test as TermTest}
use Rattle.vkg_values.specs.declared.operator.Test.TheVariants as test
use Rattle.vkg_values.specs.declared.operator.Take.{Take as TermTake}
use Rattle.vkg_values.specs.declared.operator.Take.TheVariants as take
use Rattle.vkg_values.specs.declared.operator.Compare.{Compare as TermCompare}
use Rattle.vkg_values.specs.declared.operator.Compare.TheVariants as cmp
use Rattle.vkg_expr.specs.declared.expr.Operator.{Operator}
use Rattle.vkg_expr.specs.declared.expr.Operator.TheVariants.{Test, Take, Compare}
use Rattle.vkg_expr.specs.Expr.{Expr, Exprs, Col, Const, MakeIri, IriOf, MakeBlank, MakeLit, Lex, IriSafe, Concat, Same, IsNull, Not, And, Or, Coalesce, Sparql, Ebv}
use Rattle.vkg_expr.specs.Expr as expr
use Rattle.vkg_plan.specs.Kinds.{Tables}
use Rattle.vkg_plan.specs.Plan.{Plan, Plans, Unit, Empty, Scan, Select, Project, Join, Left, AntiJoin, UnionAll, Distinct, Nil, More}

-- SQL-92, 5.2 and 5.3: each character, and this one twice
abbrev pub doubled : ℕ → ℕ → List ℕ
doubled sign c = if c == sign then c ∷ c ∷ [] else encode_utf8 c

-- SQL-92, 5.3, character string literal: a quote (39) within is doubled
abbrev pub quoted : List ℕ → List ℕ
quoted text = codes "'" ++ flat_map (doubled 39) (chars text) ++ codes "'"

abbrev pub kind_text : SqlType → List ℕ
kind_text kind.Int = codes "INT"
kind_text kind.Dec = codes "DEC"
kind_text kind.Bool = codes "BOOL"
kind_text kind.Text = codes "TEXT"
kind_text kind.Date = codes "DATE"
kind_text kind.Stamp = codes "STAMP"
kind_text kind.Bin = codes "BIN"
kind_text kind.Time = codes "TIME"
kind_text kind.Term = codes "TERM"

abbrev pub constant_text : Cell → SqlType → List ℕ
constant_text cell.Null k = codes "CAST(NULL AS " ++ kind_text k ++ codes ")"
constant_text (cell.Int s) k = codes "INT " ++ quoted s
constant_text (cell.Dec s) k = codes "DEC " ++ quoted s
constant_text (cell.Bool true) k = codes "TRUE"
constant_text (cell.Bool false) k = codes "FALSE"
constant_text (cell.Text s) k = quoted s
constant_text (cell.Date s) k = codes "DATE " ++ quoted s
constant_text (cell.Stamp s) k = codes "STAMP " ++ quoted s
constant_text (cell.Bin s) k = codes "BIN " ++ quoted s
constant_text (cell.Time s) k = codes "TIME " ++ quoted s
constant_text (cell.Term t) k = codes "TERM " ++ quoted (term_text t)

abbrev pub compare_text : TermCompare → List ℕ
compare_text cmp.Equal = codes "EQ"
compare_text cmp.NotEqual = codes "NE"
compare_text cmp.Less = codes "LT"
compare_text cmp.Greater = codes "GT"
compare_text cmp.LessOrEqual = codes "LE"
compare_text cmp.GreaterOrEqual = codes "GE"
compare_text cmp.Starts = codes "STRSTARTS"
compare_text cmp.Ends = codes "STRENDS"
compare_text cmp.Contains = codes "CONTAINS"

abbrev pub take_text : TermTake → List ℕ
take_text take.Str = codes "STR"
take_text take.Lang = codes "LANG"
take_text take.Datatype = codes "DATATYPE"
take_text take.Length = codes "STRLEN"

abbrev pub test_text : TermTest → List ℕ
test_text test.IsIri = codes "IS_IRI"
test_text test.IsBlank = codes "IS_BLANK"
test_text test.IsLiteral = codes "IS_LITERAL"
test_text test.IsNumeric = codes "IS_NUMERIC"

abbrev pub operator_text : Operator → List ℕ
operator_text (Compare op) = compare_text op
operator_text (Take op) = take_text op
operator_text (Test op) = test_text op

-- the pieces with a text between each two
abbrev pub separated : List ℕ → List (List ℕ) → List ℕ
separated sign ts = join_by (λ t. t) sign ts

abbrev pub commas : List (List ℕ) → List ℕ
commas = separated (codes ", ")

-- a name and its arguments
abbrev pub call : List ℕ → List (List ℕ) → List ℕ
call name arguments = name ++ codes "(" ++ commas arguments ++ codes ")"

abbrev pub lit_arguments : List ℕ → Annotation → List (List ℕ)
lit_arguments e Plain = e ∷ []
lit_arguments e (Lang tag) = e ∷ quoted (codes "@" ++ tag) ∷ []
lit_arguments e (Typed iri) = e ∷ quoted (codes "^^" ++ iri) ∷ []

abbrev pub column_text : ℕ → List ℕ
column_text at = codes "c" ++ decimal (suc at)

abbrev mutual
  pub expr_text : Expr → List ℕ
  expr_text (Col at) = column_text at
  expr_text (Const c k) = constant_text c k
  expr_text (MakeIri e) = call (codes "IRI") (expr_text e ∷ [])
  expr_text (IriOf base e) = call (codes "IRI_OF") (quoted base ∷ expr_text e ∷ [])
  expr_text (MakeBlank e) = call (codes "BLANK") (expr_text e ∷ [])
  expr_text (MakeLit e k) = call (codes "LIT") (lit_arguments (expr_text e) k)
  expr_text (Lex e) = call (codes "LEX") (expr_text e ∷ [])
  expr_text (IriSafe e) = call (codes "SAFE") (expr_text e ∷ [])
  expr_text (Concat es) = call (codes "CONCAT") (expr_texts es)
  expr_text (Same a b) = call (codes "SAME") (expr_text a ∷ expr_text b ∷ [])
  expr_text (IsNull e) = call (codes "IS_NULL") (expr_text e ∷ [])
  expr_text (Not e) = call (codes "NOT") (expr_text e ∷ [])
  expr_text (And es) = call (codes "AND") (expr_texts es)
  expr_text (Or es) = call (codes "OR") (expr_texts es)
  expr_text (Coalesce es) = call (codes "COALESCE") (expr_texts es)
  expr_text (Sparql op es) = call (operator_text op) (expr_texts es)
  expr_text (Ebv e) = call (codes "EBV") (expr_text e ∷ [])

  pub expr_texts : Exprs → List (List ℕ)
  expr_texts expr.Nil = []
  expr_texts (expr.More e es) = expr_text e ∷ expr_texts es

-- SQL-92, 5.2, delimited identifier: a quote (34) within is doubled
abbrev pub table_text : Tables → ℕ → List ℕ
table_text schema table =
    codes "TABLE \"" ++ flat_map (doubled 34) (chars (table_name schema table)) ++ codes "\""

abbrev pub in_brackets : List ℕ → List ℕ
in_brackets t = codes "(" ++ t ++ codes ")"

-- expressions under the names c1, c2 and so on, from the n-th
abbrev pub outputs : ℕ → List Expr → List (List ℕ)
outputs n [] = []
outputs n (e ∷ es) = (expr_text e ++ codes " AS " ++ column_text n) ∷ outputs (suc n) es

abbrev pub outputs_text : List Expr → List ℕ
outputs_text [] = codes "()"
outputs_text (e ∷ es) = commas (outputs 0 (e ∷ es))

-- texts of plans under the names t1, t2 and so on
abbrev pub sources : ℕ → List (List ℕ) → List (List ℕ)
sources n [] = []
sources n (t ∷ ts) = (in_brackets t ++ codes " AS t" ++ decimal n) ∷ sources (suc n) ts

abbrev mutual
  pub sql_text : Tables → Plan → List ℕ
  sql_text schema Unit = codes "VALUES ()"
  sql_text schema (Empty ks) = call (codes "EMPTY ") (map kind_text ks)
  sql_text schema (Scan table) = table_text schema table
  sql_text schema (Select c p) = codes "SELECT * FROM " ++ in_brackets (sql_text schema p) ++ codes " AS t WHERE " ++ expr_text c
  sql_text schema (Project es p) = codes "SELECT " ++ outputs_text es ++ codes " FROM " ++ in_brackets (sql_text schema p) ++ codes " AS t"
  sql_text schema (Join ps c) = codes "SELECT * FROM " ++ separated (codes " CROSS JOIN ") (sources 1 (sql_texts schema ps)) ++ codes " WHERE " ++ expr_text c
  sql_text schema (Left p q c) = codes "SELECT * FROM " ++ separated (codes " LEFT JOIN ") (sources 1 (sql_text schema p ∷ sql_text schema q ∷ [])) ++ codes " ON " ++ expr_text c
  sql_text schema (AntiJoin p q c) = codes "SELECT * FROM " ++ separated (codes " ANTI JOIN ") (sources 1 (sql_text schema p ∷ sql_text schema q ∷ [])) ++ codes " ON " ++ expr_text c
  sql_text schema (UnionAll ps) = separated (codes " UNION ALL ") (map in_brackets (sql_texts schema ps))
  sql_text schema (Distinct p) = codes "SELECT DISTINCT * FROM " ++ in_brackets (sql_text schema p) ++ codes " AS t"

  pub sql_texts : Tables → Plans → List (List ℕ)
  sql_texts schema Nil = []
  sql_texts schema (More p ps) = sql_text schema p ∷ sql_texts schema ps
