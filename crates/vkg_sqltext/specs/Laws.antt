-- No two plans share a text.
use Rattle.std.specs.Prelude.{◌≡◌, ℕ, ◌<◌, ◌^◌, ◌++◌, suc, List, [], ◌∷◌, IfSome, IsTrue, IsUtf8}
use Rattle.vkg_terms.specs.declared.term.Annotation.{Annotation}
use Rattle.vkg_terms.specs.declared.term.Annotation.TheVariants.{Plain, Lang, Typed}
use Rattle.vkg_terms.specs.NQuads.{term_text}
use Rattle.vkg_terms.specs.Writable.{HoldsText}
use Rattle.vkg_cells.specs.declared.cell.Cell.{Cell}
use Rattle.vkg_cells.specs.declared.cell.Cell.TheVariants as cell
use Rattle.vkg_schema.specs.Names.{HasOwnNames}
use Rattle.vkg_expr.specs.Expr.{Expr, Exprs, Col, Const, MakeIri, IriOf, MakeBlank, MakeLit, Lex, IriSafe, Concat, Same, IsNull, Not, And, Or, Coalesce, Sparql, Ebv}
use Rattle.vkg_expr.specs.Expr as expr
use Rattle.vkg_plan.specs.Kinds.{Tables, is_well_typed}
use Rattle.vkg_plan.specs.Plan.{Plan, Plans, Unit as Once, Empty, Scan, Select, Project, Join, Left, AntiJoin, UnionAll, Distinct, Nil, More}
use Rattle.vkg_order.specs.declared.modifiers.Direction.{Direction}
use Rattle.vkg_order.specs.declared.modifiers.Modifiers.{Modifiers}
use Rattle.vkg_sqltext.specs.OrderText.{order_text}
use Rattle.vkg_sqltext.specs.Text.{sql_text}

-- What values of the program hold: numbers of 64 bits and texts in UTF-8. A column's text counts from 1.
abbrev pub HoldsAnnotation : Annotation → Type 0
HoldsAnnotation Plain = Unit {0}
HoldsAnnotation (Lang tag) = IsUtf8 tag
HoldsAnnotation (Typed datatype) = IsUtf8 datatype

abbrev pub HoldsCell : Cell → Type 0
HoldsCell cell.Null = Unit {0}
HoldsCell (cell.Int text) = IsUtf8 text
HoldsCell (cell.Dec text) = IsUtf8 text
HoldsCell (cell.Bool b) = Unit {0}
HoldsCell (cell.Text text) = IsUtf8 text
HoldsCell (cell.Date text) = IsUtf8 text
HoldsCell (cell.Stamp text) = IsUtf8 text
HoldsCell (cell.Bin text) = IsUtf8 text
HoldsCell (cell.Time text) = IsUtf8 text
HoldsCell (cell.Term term) = HoldsText term × IsUtf8 (term_text term)

abbrev mutual
  pub HoldsExpr : Expr → Type 0
  HoldsExpr (Col at) = suc at < 2 ^ 64
  HoldsExpr (Const c k) = HoldsCell c
  HoldsExpr (MakeIri e) = HoldsExpr e
  HoldsExpr (IriOf base e) = IsUtf8 base × HoldsExpr e
  HoldsExpr (MakeBlank e) = HoldsExpr e
  HoldsExpr (MakeLit e annotation) = HoldsExpr e × HoldsAnnotation annotation
  HoldsExpr (Lex e) = HoldsExpr e
  HoldsExpr (IriSafe e) = HoldsExpr e
  HoldsExpr (Concat es) = HoldsExprs es
  HoldsExpr (Same a b) = HoldsExpr a × HoldsExpr b
  HoldsExpr (IsNull e) = HoldsExpr e
  HoldsExpr (Not e) = HoldsExpr e
  HoldsExpr (And es) = HoldsExprs es
  HoldsExpr (Or es) = HoldsExprs es
  HoldsExpr (Coalesce es) = HoldsExprs es
  HoldsExpr (Sparql op es) = HoldsExprs es
  HoldsExpr (Ebv e) = HoldsExpr e

  pub HoldsExprs : Exprs → Type 0
  HoldsExprs expr.Nil = Unit {0}
  HoldsExprs (expr.More e es) = HoldsExpr e × HoldsExprs es

abbrev mutual
  pub HoldsPlan : Plan → Type 0
  HoldsPlan Once = Unit {0}
  HoldsPlan (Empty ks) = Unit {0}
  HoldsPlan (Scan table) = Unit {0}
  HoldsPlan (Select c p) = HoldsExpr c × HoldsPlan p
  HoldsPlan (Project es p) = HoldsExprs (expr.exprs es) × HoldsPlan p
  HoldsPlan (Join ps c) = HoldsPlans ps × HoldsExpr c
  HoldsPlan (Left p q c) = HoldsPlan p × HoldsPlan q × HoldsExpr c
  HoldsPlan (AntiJoin p q c) = HoldsPlan p × HoldsPlan q × HoldsExpr c
  HoldsPlan (UnionAll ps) = HoldsPlans ps
  HoldsPlan (Distinct p) = HoldsPlan p

  pub HoldsPlans : Plans → Type 0
  HoldsPlans Nil = Unit {0}
  HoldsPlans (More p ps) = HoldsPlan p × HoldsPlans ps

-- well-typed plans over one schema that have one text are one plan
abbrev pub HaveOwnTexts : Type 0
HaveOwnTexts = (schema : Tables) → HasOwnNames schema → (p q : Plan) → IsTrue (is_well_typed schema p) → IsTrue (is_well_typed schema q) → HoldsPlan p → HoldsPlan q → sql_text schema p ≡ sql_text schema q → p ≡ q

-- what values of the program hold of an order: the numbers of its columns, which count from 1, are of 64 bits, and those of its slice of 32
abbrev pub HoldsKeys : ℕ → List Direction → Type 0
HoldsKeys at [] = Unit {0}
HoldsKeys at (d ∷ ds) = (suc at < 2 ^ 64) × HoldsKeys (suc at) ds

pub record HoldsOrder (at : ℕ) (m : Modifiers) : Type 0 where
  pub keys : HoldsKeys at m.directions
  pub offset : m.slice.offset < 2 ^ 64
  pub limit : IfSome m.slice.limit (λ n. n < 2 ^ 64)

-- and with their orders: what has one text is one plan in one order, of which one slice is asked
abbrev pub HaveOwnOrders : Type 0
HaveOwnOrders = (schema : Tables) → HasOwnNames schema → (p q : Plan) → IsTrue (is_well_typed schema p) → IsTrue (is_well_typed schema q) → HoldsPlan p → HoldsPlan q
    → (at by : ℕ) (m n : Modifiers) → HoldsOrder at m → HoldsOrder by n → sql_text schema p ++ order_text at m ≡ sql_text schema q ++ order_text by n → (p ≡ q) × (m.directions ≡ n.directions) × (m.slice ≡ n.slice)
