-- What the typing of a plan says of its parts.
use Rattle.std.proofs.Common.{◌≡◌, ◌<◌, ◌==◌, ◌&&◌, true, List, length, Option, option_map, is_some, ap}
use Rattle.std.specs.Prelude.{slice_get}
use Rattle.std.proofs.lemmas.Option.{slice_get_within}
use Rattle.vkg_lists.proofs.Onto.{first_some, both_some, map_given}
use Rattle.vkg_lists.specs.Options.{joined}
use Rattle.vkg_lists.proofs.Bools.{and_parts}
use Rattle.vkg_lists.proofs.Results.{some_of, some_then, then_test}
use Rattle.vkg_cells.specs.declared.cell.SqlType.{SqlType}
use Rattle.vkg_cells.specs.declared.cell.SqlType.TheVariants as kind
use Rattle.vkg_expr.specs.Expr.{Expr, Exprs, Col, Const, MakeIri, IriOf, MakeBlank, MakeLit, Lex, IriSafe, Concat, Same, IsNull, Not, And, Or, Coalesce, Sparql, Ebv, each, exprs}
use Rattle.vkg_expr.specs.Expr as expr
use Rattle.vkg_expr.specs.Typing.{are_all, arity, common, equality_kind, fits, is_one, kind_of, kinds_of, lexical_kind, no_column}
use Rattle.vkg_expr.proofs.TypedParts.{all_is, equality_given, lexical_given, one_is}
use Rattle.vkg_expr.proofs.ValueFits.{common_given}
use Rattle.vkg_plan.specs.Kinds.{Tables, beside_all, kinds_of_each, plan_kinds}
use Rattle.vkg_plan.specs.Plan.{Plan, Plans, Unit as Once, Empty, Scan, Select, Project, Join, Left, AntiJoin, UnionAll, Distinct, Nil, More}
use Rattle.vkg_plan.proofs.KindLists.{alike_some, beside_some}
use Rattle.vkg_plan.proofs.RowsFit.{checked_parts, first_checked-parts}
use Rattle.vkg_sqltext.specs.Laws.{HoldsExpr, HoldsExprs, HoldsPlan, HoldsPlans}
use Rattle.vkg_sqltext.proofs.Heads.{SoundExpr, SoundExprs}

one_some : (k : SqlType) (o : Option SqlType) → is_one k o ≡ true → is_some o ≡ true
one_some k o h = ap is_some (one_is k o h)

all_some : (k : SqlType) (o : Option (List SqlType)) → are_all k o ≡ true → is_some o ≡ true
all_some k o h = ap is_some (all_is k o h).1

lexical_some : (o : Option SqlType) → is_some (lexical_kind o) ≡ true → is_some o ≡ true
lexical_some o h = let s = some_of (lexical_kind o) h in ap is_some (lexical_given o s.0 s.1).1

equality_some : (o p : Option SqlType) → is_some (equality_kind o p) ≡ true → (is_some o ≡ true) × (is_some p ≡ true)
equality_some o p h =
    let s = some_of (equality_kind o p) h in
    let g = equality_given o p s.0 s.1 in
    (ap is_some g.0.1, ap is_some g.1.1)

mapped_some : {A B : Type 0} (f : A → B) (o : Option A) → is_some (option_map f o) ≡ true → is_some o ≡ true
mapped_some f o h = let s = some_of (option_map f o) h in ap is_some (map_given f o s.0 s.1).1

common_some : (o : Option (List SqlType)) → is_some (common o) ≡ true → is_some o ≡ true
common_some o h = let s = some_of (common o) h in ap is_some (common_given o s.0 s.1).1

mutual
  pub sound_expr : (e : Expr) (ks : List SqlType) → is_some (kind_of e ks) ≡ true → HoldsExpr e → SoundExpr e
  sound_expr (Col at) ks h w = w
  sound_expr (Const c k) ks h w = (then_test (fits k c) k h, w)
  sound_expr (MakeIri e) ks h w = sound_expr e ks (one_some kind.Text (kind_of e ks) (then_test (is_one kind.Text (kind_of e ks)) kind.Term h)) w
  sound_expr (IriOf base e) ks h w = (w.0, sound_expr e ks (one_some kind.Text (kind_of e ks) (then_test (is_one kind.Text (kind_of e ks)) kind.Text h)) w.1)
  sound_expr (MakeBlank e) ks h w = sound_expr e ks (one_some kind.Text (kind_of e ks) (then_test (is_one kind.Text (kind_of e ks)) kind.Term h)) w
  sound_expr (MakeLit e annotation) ks h w = (sound_expr e ks (one_some kind.Text (kind_of e ks) (then_test (is_one kind.Text (kind_of e ks)) kind.Term h)) w.0, w.1)
  sound_expr (Lex e) ks h w = sound_expr e ks (lexical_some (kind_of e ks) h) w
  sound_expr (IriSafe e) ks h w = sound_expr e ks (one_some kind.Text (kind_of e ks) (then_test (is_one kind.Text (kind_of e ks)) kind.Text h)) w
  sound_expr (Concat es) ks h w = sound_exprs es ks (all_some kind.Text (kinds_of es ks) (and_parts (no_column es) (are_all kind.Text (kinds_of es ks)) (then_test (no_column es && are_all kind.Text (kinds_of es ks)) kind.Text h)).1) w
  sound_expr (Same a b) ks h w =
      let s = equality_some (kind_of a ks) (kind_of b ks) h in
      (sound_expr a ks s.0 w.0, sound_expr b ks s.1 w.1)
  sound_expr (IsNull e) ks h w = sound_expr e ks (mapped_some (λ k. kind.Bool) (kind_of e ks) h) w
  sound_expr (Not e) ks h w = sound_expr e ks (one_some kind.Bool (kind_of e ks) (then_test (is_one kind.Bool (kind_of e ks)) kind.Bool h)) w
  sound_expr (And es) ks h w = sound_exprs es ks (all_some kind.Bool (kinds_of es ks) (then_test (are_all kind.Bool (kinds_of es ks)) kind.Bool h)) w
  sound_expr (Or es) ks h w = sound_exprs es ks (all_some kind.Bool (kinds_of es ks) (then_test (are_all kind.Bool (kinds_of es ks)) kind.Bool h)) w
  sound_expr (Coalesce es) ks h w = sound_exprs es ks (common_some (kinds_of es ks) h) w
  sound_expr (Sparql op es) ks h w = sound_exprs es ks (all_some kind.Term (kinds_of es ks) (and_parts (length (each es) == arity op) (are_all kind.Term (kinds_of es ks)) (then_test ((length (each es) == arity op) && are_all kind.Term (kinds_of es ks)) _ h)).1) w
  sound_expr (Ebv e) ks h w = sound_expr e ks (one_some kind.Term (kind_of e ks) (then_test (is_one kind.Term (kind_of e ks)) kind.Bool h)) w

  pub sound_exprs : (es : Exprs) (ks : List SqlType) → is_some (kinds_of es ks) ≡ true → HoldsExprs es → SoundExprs es
  sound_exprs expr.Nil ks h w = tt
  sound_exprs (expr.More e es) ks h w =
      let s = first_some (kind_of e ks) (kinds_of es ks) h in
      (sound_expr e ks s.0 w.0, sound_exprs es ks s.1 w.1)

-- ---- plans

abbrev mutual
  pub SoundPlan : Tables → Plan → Type 0
  SoundPlan schema Once = Unit {0}
  SoundPlan schema (Empty ks) = Unit {0}
  SoundPlan schema (Scan table) = table < length schema
  SoundPlan schema (Select c p) = SoundExpr c × SoundPlan schema p
  SoundPlan schema (Project es p) = SoundExprs (exprs es) × SoundPlan schema p
  SoundPlan schema (Join Nil c) = ⊥
  SoundPlan schema (Join (More p ps) c) = SoundPlan schema p × SoundPlans schema ps × SoundExpr c
  SoundPlan schema (Left p q c) = SoundPlan schema p × SoundPlan schema q × SoundExpr c
  SoundPlan schema (AntiJoin p q c) = SoundPlan schema p × SoundPlan schema q × SoundExpr c
  SoundPlan schema (UnionAll Nil) = ⊥
  SoundPlan schema (UnionAll (More p ps)) = SoundPlan schema p × SoundPlans schema ps
  SoundPlan schema (Distinct p) = SoundPlan schema p

  pub SoundPlans : Tables → Plans → Type 0
  SoundPlans schema Nil = Unit {0}
  SoundPlans schema (More p ps) = SoundPlan schema p × SoundPlans schema ps

mutual
  pub sound_plan : (schema : Tables) (p : Plan) → is_some (plan_kinds schema p) ≡ true → HoldsPlan p → SoundPlan schema p
  sound_plan schema Once h w = tt
  sound_plan schema (Empty ks) h w = tt
  sound_plan schema (Scan table) h w =
      let s = some_of (slice_get schema table) (mapped_some _ (slice_get schema table) h) in
      slice_get_within schema table s.0 s.1
  sound_plan schema (Select c p) h w =
      let s = checked_parts c (plan_kinds schema p) h in
      (sound_expr c s.0 (ap is_some s.2) w.0, sound_plan schema p (ap is_some s.1) w.1)
  sound_plan schema (Project es p) h w =
      let s = some_then (kinds_of (exprs es)) (plan_kinds schema p) h in
      (sound_exprs (exprs es) s.0 s.2 w.0, sound_plan schema p (ap is_some s.1) w.1)
  sound_plan schema (Join Nil c) h w = absurd (cc)
  sound_plan schema (Join (More p ps) c) h w =
      let s = checked_parts c (beside_all (kinds_of_each schema (More p ps))) h in
      let parts = first_some (plan_kinds schema p) (kinds_of_each schema ps) (beside_some (kinds_of_each schema (More p ps)) (ap is_some s.1)) in
      (sound_plan schema p parts.0 w.0.0, sound_plans schema ps parts.1 w.0.1, sound_expr c s.0 (ap is_some s.2) w.1)
  sound_plan schema (Left p q c) h w =
      let s = checked_parts c (joined (plan_kinds schema p) (plan_kinds schema q)) h in
      let parts = both_some (plan_kinds schema p) (plan_kinds schema q) (ap is_some s.1) in
      (sound_plan schema p parts.0 w.0, sound_plan schema q parts.1 w.1, sound_expr c s.0 (ap is_some s.2) w.2)
  sound_plan schema (AntiJoin p q c) h w =
      let k = some_of (plan_kinds schema (AntiJoin p q c)) h in
      let a = first_checked-parts c (plan_kinds schema p) (plan_kinds schema q) k.0 k.1 in
      let s = checked_parts c (joined (plan_kinds schema p) (plan_kinds schema q)) (ap is_some a.both) in
      (sound_plan schema p (ap is_some a.first) w.0, sound_plan schema q (ap is_some a.second) w.1, sound_expr c s.0 (ap is_some s.2) w.2)
  sound_plan schema (UnionAll Nil) h w = absurd (cc)
  sound_plan schema (UnionAll (More p ps)) h w =
      let parts = first_some (plan_kinds schema p) (kinds_of_each schema ps) (alike_some (kinds_of_each schema (More p ps)) h) in
      (sound_plan schema p parts.0 w.0, sound_plans schema ps parts.1 w.1)
  sound_plan schema (Distinct p) h w = sound_plan schema p h w

  sound_plans : (schema : Tables) (ps : Plans) → is_some (kinds_of_each schema ps) ≡ true → HoldsPlans ps → SoundPlans schema ps
  sound_plans schema Nil h w = tt
  sound_plans schema (More p ps) h w =
      let parts = first_some (plan_kinds schema p) (kinds_of_each schema ps) h in
      (sound_plan schema p parts.0 w.0, sound_plans schema ps parts.1 w.1)
