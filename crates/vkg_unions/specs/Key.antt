-- A number for each plan, so that plans of other numbers are other plans: an FNV-1a hash of its columns, tables and texts in preorder.
use Rattle.std.specs.Prelude.{ℕ, ◌*◌, ◌%◌, ◌^◌, List, bit_xor, fold, map}
use Rattle.vkg_cells.specs.declared.cell.Cell.{Cell}
use Rattle.vkg_cells.specs.declared.cell.Cell.TheVariants as cell
use Rattle.vkg_terms.specs.declared.term.Term.{Term}
use Rattle.vkg_terms.specs.declared.term.Term.TheVariants as term
use Rattle.vkg_expr.specs.Expr.{Expr, Exprs, Col, Const, MakeIri, IriOf, MakeBlank, MakeLit, Lex, IriSafe, Concat, Same, IsNull, Not, And, Or, Coalesce, Sparql, Ebv, exprs}
use Rattle.vkg_expr.specs.Expr as expr
use Rattle.vkg_plan.specs.declared.plan.Plan.{Plan as PlanValue}
use Rattle.vkg_plan.specs.Seen.{plan_seen}
use Rattle.vkg_plan.specs.Plan.{Plan, Plans, Unit, Empty, Scan, Select, Project, Join, Left, AntiJoin, UnionAll, Distinct, Nil, More}

abbrev pub mixed : ℕ → ℕ → ℕ
mixed key n = (bit_xor key n * 1099511628211) % 2 ^ 64

abbrev pub text_key : ℕ → List ℕ → ℕ
text_key key text = fold mixed key text

abbrev pub term_key : ℕ → Term → ℕ
term_key key (term.Iri text) = text_key key text
term_key key (term.Blank text) = text_key key text
term_key key (term.Lit text annotation) = text_key key text

abbrev pub cell_key : ℕ → Cell → ℕ
cell_key key (cell.Text text) = text_key key text
cell_key key (cell.Term term) = term_key key term
cell_key key c = key

abbrev mutual
  pub expr_key : ℕ → Expr → ℕ
  expr_key key (Col at) = mixed key at
  expr_key key (Const c k) = cell_key key c
  expr_key key (MakeIri e) = expr_key key e
  expr_key key (IriOf base e) = expr_key key e
  expr_key key (MakeBlank e) = expr_key key e
  expr_key key (MakeLit e a) = expr_key key e
  expr_key key (Lex e) = expr_key key e
  expr_key key (IriSafe e) = expr_key key e
  expr_key key (Concat es) = exprs_key key es
  expr_key key (Same a b) = expr_key (expr_key key a) b
  expr_key key (IsNull e) = expr_key key e
  expr_key key (Not e) = expr_key key e
  expr_key key (And es) = exprs_key key es
  expr_key key (Or es) = exprs_key key es
  expr_key key (Coalesce es) = exprs_key key es
  expr_key key (Sparql op es) = exprs_key key es
  expr_key key (Ebv e) = expr_key key e

  pub exprs_key : ℕ → Exprs → ℕ
  exprs_key key expr.Nil = key
  exprs_key key (expr.More e es) = exprs_key (expr_key key e) es

abbrev mutual
  pub plan_key : ℕ → Plan → ℕ
  plan_key key Unit = key
  plan_key key (Empty ks) = key
  plan_key key (Scan table) = mixed key table
  plan_key key (Select c p) = plan_key (expr_key key c) p
  plan_key key (Project es p) = plan_key (exprs_key key (exprs es)) p
  plan_key key (Join ps c) = expr_key (plans_key key ps) c
  plan_key key (Left p q c) = expr_key (plan_key (plan_key key p) q) c
  plan_key key (AntiJoin p q c) = expr_key (plan_key (plan_key key p) q) c
  plan_key key (UnionAll ps) = plans_key key ps
  plan_key key (Distinct p) = plan_key key p

  pub plans_key : ℕ → Plans → ℕ
  plans_key key Nil = key
  plans_key key (More p ps) = plans_key (plan_key key p) ps

-- those of plans
abbrev pub keys_of : List PlanValue → List ℕ
keys_of ps = map (λ p. plan_key 0 (plan_seen p)) ps
