-- The parts of an expression that is typed on a row are typed on it, and their values are what its step asks for.
use Rattle.std.proofs.Common.{arith, ◌≡◌, ℕ, suc, ◌<◌, ◌≤◌, true, ◌∙◌, List, [], ◌∷◌, ◌++◌, get_or, length, map, refl, sym, ap, subst}
use Rattle.std.specs.Prelude.{All, Option, Some, None, Result, Ok, Err, IfOk, unwrap_or, ◌==◌}
use Rattle.std.specs.Bool.{then_some}
use Rattle.std.specs.List.{AllByRecursion, list_all}
use Rattle.std.proofs.lemmas.Bool.{eqb-true}
use Rattle.std.proofs.lemmas.Option.{slice_get_within}
use Rattle.std.proofs.lemmas.List.Elements.{All-from_recursion}
use Rattle.std.proofs.lemmas.Result.{IfOk-weaker}
use Rattle.std.proofs.lemmas.Slice.Zip.{AllZip-long}
use Rattle.vkg_lists.proofs.Each.{zip_get}
use Rattle.vkg_lists.proofs.Onto.{first_given, map_given}
use Rattle.vkg_lists.proofs.Results.{then_given}
use Rattle.vkg_terms.specs.declared.term.Annotation.{Annotation}
use Rattle.vkg_cells.specs.declared.cell.Cell.{Cell}
use Rattle.vkg_cells.specs.declared.cell.Cell.TheVariants as cell
use Rattle.vkg_cells.specs.declared.cell.SqlType.{SqlType}
use Rattle.vkg_cells.specs.declared.cell.SqlType.TheVariants as kind
use Rattle.vkg_schema.specs.Rows.{Row}
use Rattle.vkg_expr.specs.declared.expr.Expr.{Expr as ExprValue}
use Rattle.vkg_expr.specs.declared.expr.Expr.TheFolds.{fold-roll-Expr}
use Rattle.vkg_expr.specs.declared.expr.Expr.TheOpen.{Expr-F}
use Rattle.vkg_expr.specs.declared.expr.Expr.TheVariants as value
use Rattle.vkg_expr.specs.declared.expr.Expr.TheVariants.{rolls-Col, rolls-MakeIri, rolls-IriOf, rolls-MakeBlank, rolls-MakeLit, rolls-Lex, rolls-IriSafe, rolls-Concat, rolls-Same, rolls-IsNull, rolls-Not, rolls-And, rolls-Or, rolls-Coalesce, rolls-Sparql, rolls-Ebv}
use Rattle.vkg_expr.specs.declared.expr.Operator.{Operator}
use Rattle.vkg_expr.specs.Expr.{Expr, Exprs, Col, MakeIri, IriOf, MakeBlank, MakeLit, Lex, IriSafe, Concat, Same, IsNull, Not, And, Or, Coalesce, Sparql, Ebv, Nil, More, each, exprs}
use Rattle.vkg_expr.specs.Laws.{FitsRow, HasKinds, IsCondition, IsTyped}
use Rattle.vkg_expr.specs.Seen.{expr_seen, expr_step}
use Rattle.vkg_expr.specs.Steps.{AllFit, Fits, TakesEach, TakesOne}
use Rattle.vkg_expr.specs.Typing.{are_all, arity, equality_kind, is_one, kind_of, kinds_of, lexical_kind, no_column, result_kind, same_kind, fits}
use Rattle.vkg_expr.specs.Value.{value_of, values_of}
use Rattle.vkg_expr.proofs.ValueFits.{along, common_given, kind_same, value-fits, values-fit}
use Rattle.vkg_expr.proofs.Weights.{item-weighs, weight, weight_of, weight_of_each}
use Rattle.vkg_lists.proofs.Bools.{and_parts}

abbrev Got : {E : Type 0} → Result Cell E → Expr → Row → Type 0
Got r e row = IfOk r (λ c. c ≡ value_of e row)

abbrev GotEach : {E : Type 0} → Result (List Cell) E → Exprs → Row → Type 0
GotEach r es row = IfOk r (λ cs. cs ≡ values_of es row)

pub fits_row : (ks : List SqlType) (row : Row) → HasKinds ks row → FitsRow ks row
fits_row ks row h at k e =
    let c = zip_get (λ k c. fits k c ≡ true) ks row at k h e in
    subst (λ o. fits k (unwrap_or o cell.Null) ≡ true) (sym c.1) c.2

pub kinds-append : (ks ls : List SqlType) (cs ds : Row) → HasKinds ks cs → HasKinds ls ds → HasKinds (ks ++ ls) (cs ++ ds)
kinds-append [] ls [] ds h k = k
kinds-append [] ls (c ∷ cs) ds h k = absurd h
kinds-append (x ∷ ks) ls [] ds h k = absurd h
kinds-append (x ∷ ks) ls (c ∷ cs) ds h k = (h.0, kinds-append ks ls cs ds h.1 k)

column-within : (at : ℕ) (row : Row) → IsTyped (Col at) row → at < length row
column-within at row t = subst (λ n. at < n) (sym (AllZip-long (λ k c. fits k c ≡ true) t.kinds row t.of_row)) (slice_get_within t.kinds at t.own t.of_expr)

-- of one part

pub one_is : (k : SqlType) (o : Option SqlType) → is_one k o ≡ true → o ≡ Some k
one_is k None e = cc
one_is k (Some l) e = ap Some (sym (kind_same k l e))

one_given : (m k l : SqlType) (o : Option SqlType) → then_some (is_one m o) k ≡ Some l → o ≡ Some m
one_given m k l o e = one_is m o (then_given (is_one m o) k l e).0

pub lexical_given : (o : Option SqlType) (l : SqlType) → lexical_kind o ≡ Some l → (k : SqlType) × (o ≡ Some k)
lexical_given None l e = cc
lexical_given (Some k) l e = (k, refl)

pub equality_given : (a b : Option SqlType) (l : SqlType) → equality_kind a b ≡ Some l → ((k : SqlType) × (a ≡ Some k)) × ((k : SqlType) × (b ≡ Some k))
equality_given (Some k) (Some m) l e = ((k, refl), (m, refl))
equality_given (Some k) None l e = cc
equality_given None b l e = cc

pub typed_by : (ks : List SqlType) (k : SqlType) (e : Expr) (row : Row) → HasKinds ks row → kind_of e ks ≡ Some k → IsTyped e row
typed_by ks k e row h t = record { kinds = ks; own = k; of_row = h; of_expr = t }

typed-MakeIri : (e : Expr) (row : Row) → IsTyped (MakeIri e) row → IsTyped e row
typed-MakeIri e row t = typed_by t.kinds kind.Text e row t.of_row (one_given _ kind.Term t.own (kind_of e t.kinds) t.of_expr)

typed-IriOf : (base : List ℕ) (e : Expr) (row : Row) → IsTyped (IriOf base e) row → IsTyped e row
typed-IriOf base e row t = typed_by t.kinds kind.Text e row t.of_row (one_given _ kind.Text t.own (kind_of e t.kinds) t.of_expr)

typed-MakeBlank : (e : Expr) (row : Row) → IsTyped (MakeBlank e) row → IsTyped e row
typed-MakeBlank e row t = typed_by t.kinds kind.Text e row t.of_row (one_given _ kind.Term t.own (kind_of e t.kinds) t.of_expr)

typed-MakeLit : (e : Expr) (a : Annotation) (row : Row) → IsTyped (MakeLit e a) row → IsTyped e row
typed-MakeLit e a row t = typed_by t.kinds kind.Text e row t.of_row (one_given _ kind.Term t.own (kind_of e t.kinds) t.of_expr)

typed-Lex : (e : Expr) (row : Row) → IsTyped (Lex e) row → IsTyped e row
typed-Lex e row t = let k = lexical_given (kind_of e t.kinds) t.own t.of_expr in typed_by t.kinds k.0 e row t.of_row k.1

typed-IriSafe : (e : Expr) (row : Row) → IsTyped (IriSafe e) row → IsTyped e row
typed-IriSafe e row t = typed_by t.kinds kind.Text e row t.of_row (one_given _ kind.Text t.own (kind_of e t.kinds) t.of_expr)

typed-IsNull : (e : Expr) (row : Row) → IsTyped (IsNull e) row → IsTyped e row
typed-IsNull e row t = let k = map_given (λ k. kind.Bool) (kind_of e t.kinds) t.own t.of_expr in typed_by t.kinds k.0 e row t.of_row k.1

typed-Not : (e : Expr) (row : Row) → IsTyped (Not e) row → IsTyped e row
typed-Not e row t = typed_by t.kinds kind.Bool e row t.of_row (one_given _ kind.Bool t.own (kind_of e t.kinds) t.of_expr)

typed-Ebv : (e : Expr) (row : Row) → IsTyped (Ebv e) row → IsTyped e row
typed-Ebv e row t = typed_by t.kinds kind.Term e row t.of_row (one_given _ kind.Bool t.own (kind_of e t.kinds) t.of_expr)

typed-Same_left : (a b : Expr) (row : Row) → IsTyped (Same a b) row → IsTyped a row
typed-Same_left a b row t = let k = (equality_given (kind_of a t.kinds) (kind_of b t.kinds) t.own t.of_expr).0 in typed_by t.kinds k.0 a row t.of_row k.1

typed-Same_right : (a b : Expr) (row : Row) → IsTyped (Same a b) row → IsTyped b row
typed-Same_right a b row t = let k = (equality_given (kind_of a t.kinds) (kind_of b t.kinds) t.own t.of_expr).1 in typed_by t.kinds k.0 b row t.of_row k.1

if_fits : {E : Type 0} (m k l : SqlType) (r : Result Cell E) (e : Expr) (ks : List SqlType) (row : Row) → HasKinds ks row → then_some (is_one m (kind_of e ks)) k ≡ Some l → Got r e row → IfOk r (Fits m)
if_fits m k l r e ks row h t g = IfOk-weaker r (λ c. c ≡ value_of e row) (Fits m) (λ c i. subst (Fits m) (sym i) (value-fits e ks m row (fits_row ks row h) (one_given m k l (kind_of e ks) t))) g

takes-MakeIri : {E : Type 0} (r : Result Cell E) (e : Expr) (row : Row) → IsTyped (MakeIri e) row → Got r e row → IfOk r (TakesOne (MakeIri e))
takes-MakeIri r e row t g = if_fits kind.Text kind.Term t.own r e t.kinds row t.of_row t.of_expr g

takes-IriOf : {E : Type 0} (r : Result Cell E) (base : List ℕ) (e : Expr) (row : Row) → IsTyped (IriOf base e) row → Got r e row → IfOk r (TakesOne (IriOf base e))
takes-IriOf r base e row t g = if_fits kind.Text kind.Text t.own r e t.kinds row t.of_row t.of_expr g

takes-MakeBlank : {E : Type 0} (r : Result Cell E) (e : Expr) (row : Row) → IsTyped (MakeBlank e) row → Got r e row → IfOk r (TakesOne (MakeBlank e))
takes-MakeBlank r e row t g = if_fits kind.Text kind.Term t.own r e t.kinds row t.of_row t.of_expr g

takes-MakeLit : {E : Type 0} (r : Result Cell E) (e : Expr) (a : Annotation) (row : Row) → IsTyped (MakeLit e a) row → Got r e row → IfOk r (TakesOne (MakeLit e a))
takes-MakeLit r e a row t g = if_fits kind.Text kind.Term t.own r e t.kinds row t.of_row t.of_expr g

takes-Lex : {E : Type 0} (r : Result Cell E) (e : Expr) → IfOk r (TakesOne (Lex e))
takes-Lex (Ok c) e = tt
takes-Lex (Err x) e = tt

takes-IriSafe : {E : Type 0} (r : Result Cell E) (e : Expr) (row : Row) → IsTyped (IriSafe e) row → Got r e row → IfOk r (TakesOne (IriSafe e))
takes-IriSafe r e row t g = if_fits kind.Text kind.Text t.own r e t.kinds row t.of_row t.of_expr g

takes-IsNull : {E : Type 0} (r : Result Cell E) (e : Expr) → IfOk r (TakesOne (IsNull e))
takes-IsNull (Ok c) e = tt
takes-IsNull (Err x) e = tt

takes-Not : {E : Type 0} (r : Result Cell E) (e : Expr) (row : Row) → IsTyped (Not e) row → Got r e row → IfOk r (TakesOne (Not e))
takes-Not r e row t g = if_fits kind.Bool kind.Bool t.own r e t.kinds row t.of_row t.of_expr g

takes-Ebv : {E : Type 0} (r : Result Cell E) (e : Expr) (row : Row) → IsTyped (Ebv e) row → Got r e row → IfOk r (TakesOne (Ebv e))
takes-Ebv r e row t g = if_fits kind.Term kind.Bool t.own r e t.kinds row t.of_row t.of_expr g

-- of a list of parts

pub all_is : (k : SqlType) (o : Option (List SqlType)) → are_all k o ≡ true → (ls : List SqlType) × (o ≡ Some ls) × (list_all (same_kind k) ls ≡ true)
all_is k None e = cc
all_is k (Some ls) e = (ls, refl, e)

-- each of some is typed on the row
abbrev pub AreTyped : List ExprValue → Row → Type 0
AreTyped xs row = All (λ x. IsTyped (expr_seen x) row) xs

each_typed : (xs : List ExprValue) (ks ls : List SqlType) (row : Row) → HasKinds ks row → kinds_of (exprs (map expr_seen xs)) ks ≡ Some ls → AllByRecursion (λ x. IsTyped (expr_seen x) row) xs
each_typed [] ks ls row h t = tt
each_typed (x ∷ xs) ks ls row h t =
    let m = first_given (kind_of (expr_seen x) ks) (kinds_of (exprs (map expr_seen xs)) ks) ls t in
    (typed_by ks m.0 (expr_seen x) row h m.1, each_typed xs ks m.2.0 row h m.2.1)

pub are_typed : (xs : List ExprValue) (ks ls : List SqlType) (row : Row) → HasKinds ks row → kinds_of (exprs (map expr_seen xs)) ks ≡ Some ls → AreTyped xs row
are_typed xs ks ls row h t = All-from_recursion (λ x. IsTyped (expr_seen x) row) xs (each_typed xs ks ls row h t)

all_typed : (m : SqlType) (xs : List ExprValue) (ks : List SqlType) (row : Row) → HasKinds ks row → are_all m (kinds_of (exprs (map expr_seen xs)) ks) ≡ true → AreTyped xs row
all_typed m xs ks row h t = let a = all_is m (kinds_of (exprs (map expr_seen xs)) ks) t in are_typed xs ks a.0 row h a.1

each_fit : (m : SqlType) (ls : List SqlType) (cs : List Cell) → list_all (same_kind m) ls ≡ true → HasKinds ls cs → AllByRecursion (Fits m) cs
each_fit m [] [] a h = tt
each_fit m [] (c ∷ cs) a h = absurd h
each_fit m (l ∷ ls) [] a h = absurd h
each_fit m (l ∷ ls) (c ∷ cs) a h =
    let b = and_parts (same_kind m l) (list_all (same_kind m) ls) a in
    (along l m c (sym (kind_same m l b.0)) h.0, each_fit m ls cs b.1 h.1)

all_fit : (m : SqlType) (es : Exprs) (ks : List SqlType) (row : Row) → HasKinds ks row → are_all m (kinds_of es ks) ≡ true → AllFit m (values_of es row)
all_fit m es ks row h t =
    let a = all_is m (kinds_of es ks) t in
    All-from_recursion (Fits m) (values_of es row) (each_fit m a.0 (values_of es row) a.2 (values-fit es ks a.0 row (fits_row ks row h) a.1))

if_got_each : {E : Type 0} (P : List Cell → Type 0) (r : Result (List Cell) E) (es : Exprs) (row : Row) → P (values_of es row) → GotEach r es row → IfOk r P
if_got_each P r es row p h = IfOk-weaker r (λ cs. cs ≡ values_of es row) P (λ cs i. subst P (sym i) p) h

length-values : (es : Exprs) (row : Row) → length (values_of es row) ≡ length (each es)
length-values Nil row = refl
length-values (More e es) row = ap suc (length-values es row)

-- what is asked of the kinds
concat_asks : (es : Exprs) (ks : List SqlType) (l : SqlType) → kind_of (Concat es) ks ≡ Some l → are_all kind.Text (kinds_of es ks) ≡ true
concat_asks es ks l t = (and_parts (no_column es) (are_all kind.Text (kinds_of es ks)) (then_given _ kind.Text l t).0).1

sparql_asks : (op : Operator) (es : Exprs) (ks : List SqlType) (l : SqlType) → kind_of (Sparql op es) ks ≡ Some l → ((length (each es) == arity op) ≡ true) × (are_all kind.Term (kinds_of es ks) ≡ true)
sparql_asks op es ks l t = and_parts (length (each es) == arity op) (are_all kind.Term (kinds_of es ks)) (then_given _ (result_kind op) l t).0

typed-Concat : (xs : List ExprValue) (row : Row) → IsTyped (Concat (exprs (map expr_seen xs))) row → AreTyped xs row
typed-Concat xs row t = all_typed kind.Text xs t.kinds row t.of_row (concat_asks (exprs (map expr_seen xs)) t.kinds t.own t.of_expr)

typed-And : (xs : List ExprValue) (row : Row) → IsTyped (And (exprs (map expr_seen xs))) row → AreTyped xs row
typed-And xs row t = all_typed kind.Bool xs t.kinds row t.of_row (then_given _ kind.Bool t.own t.of_expr).0

typed-Or : (xs : List ExprValue) (row : Row) → IsTyped (Or (exprs (map expr_seen xs))) row → AreTyped xs row
typed-Or xs row t = all_typed kind.Bool xs t.kinds row t.of_row (then_given _ kind.Bool t.own t.of_expr).0

typed-Coalesce : (xs : List ExprValue) (row : Row) → IsTyped (Coalesce (exprs (map expr_seen xs))) row → AreTyped xs row
typed-Coalesce xs row t =
    let m = common_given (kinds_of (exprs (map expr_seen xs)) t.kinds) t.own t.of_expr in
    are_typed xs t.kinds m.0 row t.of_row m.1

typed-Sparql : (op : Operator) (xs : List ExprValue) (row : Row) → IsTyped (Sparql op (exprs (map expr_seen xs))) row → AreTyped xs row
typed-Sparql op xs row t = all_typed kind.Term xs t.kinds row t.of_row (sparql_asks op (exprs (map expr_seen xs)) t.kinds t.own t.of_expr).1

takes-Concat : {E : Type 0} (r : Result (List Cell) E) (es : Exprs) (row : Row) → IsTyped (Concat es) row → GotEach r es row → IfOk r (TakesEach (Concat es))
takes-Concat r es row t g = if_got_each (AllFit kind.Text) r es row (all_fit kind.Text es t.kinds row t.of_row (concat_asks es t.kinds t.own t.of_expr)) g

takes-And : {E : Type 0} (r : Result (List Cell) E) (es : Exprs) (row : Row) → IsTyped (And es) row → GotEach r es row → IfOk r (TakesEach (And es))
takes-And r es row t g = if_got_each (AllFit kind.Bool) r es row (all_fit kind.Bool es t.kinds row t.of_row (then_given _ kind.Bool t.own t.of_expr).0) g

takes-Or : {E : Type 0} (r : Result (List Cell) E) (es : Exprs) (row : Row) → IsTyped (Or es) row → GotEach r es row → IfOk r (TakesEach (Or es))
takes-Or r es row t g = if_got_each (AllFit kind.Bool) r es row (all_fit kind.Bool es t.kinds row t.of_row (then_given _ kind.Bool t.own t.of_expr).0) g

takes-Coalesce : {E : Type 0} (r : Result (List Cell) E) (es : Exprs) → IfOk r (TakesEach (Coalesce es))
takes-Coalesce (Ok cs) es = tt
takes-Coalesce (Err x) es = tt

takes-Sparql : {E : Type 0} (r : Result (List Cell) E) (op : Operator) (es : Exprs) (row : Row) → IsTyped (Sparql op es) row → GotEach r es row → IfOk r (TakesEach (Sparql op es))
takes-Sparql r op es row t g =
    let a = sparql_asks op es t.kinds t.own t.of_expr in
    let n : length (values_of es row) ≡ arity op = length-values es row ∙ eqb-true (length (each es)) (arity op) a.0 in
    if_got_each (TakesEach (Sparql op es)) r es row (n, all_fit kind.Term es t.kinds row t.of_row a.1) g

-- a condition is typed, and its value is a truth or NULL
pub condition-typed : (c : Expr) (row : Row) → IsCondition c row → IsTyped c row
condition-typed c row t = typed_by t.kinds kind.Bool c row t.of_row t.of_expr

pub condition-fits : (c : Expr) (row : Row) → IsCondition c row → Fits kind.Bool (value_of c row)
condition-fits c row t = value-fits c t.kinds kind.Bool row (fits_row t.kinds row t.of_row) t.of_expr

-- the same of the program's type

seen-Col : (at : ℕ) → expr_seen (value.Col at) ≡ Col at
seen-Col at = ap expr_seen (sym (rolls-Col at)) ∙ fold-roll-Expr Expr expr_step (Expr-F.Col at)

seen-MakeIri : (p : ExprValue) → expr_seen (value.MakeIri p) ≡ MakeIri (expr_seen p)
seen-MakeIri p = ap expr_seen (sym (rolls-MakeIri p)) ∙ fold-roll-Expr Expr expr_step (Expr-F.MakeIri p)

seen-IriOf : (base : List ℕ) (p : ExprValue) → expr_seen (value.IriOf base p) ≡ IriOf base (expr_seen p)
seen-IriOf base p = ap expr_seen (sym (rolls-IriOf base p)) ∙ fold-roll-Expr Expr expr_step (Expr-F.IriOf base p)

seen-MakeBlank : (p : ExprValue) → expr_seen (value.MakeBlank p) ≡ MakeBlank (expr_seen p)
seen-MakeBlank p = ap expr_seen (sym (rolls-MakeBlank p)) ∙ fold-roll-Expr Expr expr_step (Expr-F.MakeBlank p)

seen-MakeLit : (p : ExprValue) (a : Annotation) → expr_seen (value.MakeLit p a) ≡ MakeLit (expr_seen p) a
seen-MakeLit p a = ap expr_seen (sym (rolls-MakeLit p a)) ∙ fold-roll-Expr Expr expr_step (Expr-F.MakeLit p a)

seen-Lex : (p : ExprValue) → expr_seen (value.Lex p) ≡ Lex (expr_seen p)
seen-Lex p = ap expr_seen (sym (rolls-Lex p)) ∙ fold-roll-Expr Expr expr_step (Expr-F.Lex p)

seen-IriSafe : (p : ExprValue) → expr_seen (value.IriSafe p) ≡ IriSafe (expr_seen p)
seen-IriSafe p = ap expr_seen (sym (rolls-IriSafe p)) ∙ fold-roll-Expr Expr expr_step (Expr-F.IriSafe p)

seen-IsNull : (p : ExprValue) → expr_seen (value.IsNull p) ≡ IsNull (expr_seen p)
seen-IsNull p = ap expr_seen (sym (rolls-IsNull p)) ∙ fold-roll-Expr Expr expr_step (Expr-F.IsNull p)

seen-Not : (p : ExprValue) → expr_seen (value.Not p) ≡ Not (expr_seen p)
seen-Not p = ap expr_seen (sym (rolls-Not p)) ∙ fold-roll-Expr Expr expr_step (Expr-F.Not p)

seen-Ebv : (p : ExprValue) → expr_seen (value.Ebv p) ≡ Ebv (expr_seen p)
seen-Ebv p = ap expr_seen (sym (rolls-Ebv p)) ∙ fold-roll-Expr Expr expr_step (Expr-F.Ebv p)

seen-Same : (a b : ExprValue) → expr_seen (value.Same a b) ≡ Same (expr_seen a) (expr_seen b)
seen-Same a b = ap expr_seen (sym (rolls-Same a b)) ∙ fold-roll-Expr Expr expr_step (Expr-F.Same a b)

seen-Concat : (xs : List ExprValue) → expr_seen (value.Concat xs) ≡ Concat (exprs (map expr_seen xs))
seen-Concat xs = ap expr_seen (sym (rolls-Concat xs)) ∙ fold-roll-Expr Expr expr_step (Expr-F.Concat xs)

pub seen-And : (xs : List ExprValue) → expr_seen (value.And xs) ≡ And (exprs (map expr_seen xs))
seen-And xs = ap expr_seen (sym (rolls-And xs)) ∙ fold-roll-Expr Expr expr_step (Expr-F.And xs)

pub seen-Or : (xs : List ExprValue) → expr_seen (value.Or xs) ≡ Or (exprs (map expr_seen xs))
seen-Or xs = ap expr_seen (sym (rolls-Or xs)) ∙ fold-roll-Expr Expr expr_step (Expr-F.Or xs)

seen-Coalesce : (xs : List ExprValue) → expr_seen (value.Coalesce xs) ≡ Coalesce (exprs (map expr_seen xs))
seen-Coalesce xs = ap expr_seen (sym (rolls-Coalesce xs)) ∙ fold-roll-Expr Expr expr_step (Expr-F.Coalesce xs)

seen-Sparql : (op : Operator) (xs : List ExprValue) → expr_seen (value.Sparql op xs) ≡ Sparql op (exprs (map expr_seen xs))
seen-Sparql op xs = ap expr_seen (sym (rolls-Sparql op xs)) ∙ fold-roll-Expr Expr expr_step (Expr-F.Sparql op xs)

along_typed : (w e : Expr) (row : Row) → w ≡ e → IsTyped w row → IsTyped e row
along_typed w e row i t = subst (λ x. IsTyped x row) i t

pub column-is_within : (w : ExprValue) (at : ℕ) (row : Row) → w ≡ value.Col at → IsTyped (expr_seen w) row → at < length row
column-is_within w at row i t = column-within at row (along_typed _ _ row (ap expr_seen i ∙ seen-Col at) t)

-- typed on the row, and lighter
abbrev pub IsPart : ExprValue → ExprValue → Row → Type 0
IsPart q w row = (weight_of q < weight_of w) × IsTyped (expr_seen q) row

abbrev pub ArePartsOf : List ExprValue → ExprValue → Row → Type 0
ArePartsOf ys w row = (weight_of_each ys < weight_of w) × AreTyped ys row

is_part : (w p q : ExprValue) (e : Expr) (row : Row) → expr_seen w ≡ e → weight_of p < weight e → q ≡ p → IsTyped (expr_seen p) row → IsPart q w row
is_part w p q e row i l j t = (subst (λ x. weight_of q < weight x) (sym i) (subst (λ x. weight_of x < weight e) (sym j) l), subst (λ x. IsTyped (expr_seen x) row) (sym j) t)

are_parts : (w : ExprValue) (xs ys : List ExprValue) (e : Expr) (row : Row) → expr_seen w ≡ e → weight_of_each xs < weight e → ys ≡ xs → AreTyped xs row → ArePartsOf ys w row
are_parts w xs ys e row i l j t = (subst (λ x. weight_of_each ys < weight x) (sym i) (subst (λ zs. weight_of_each zs < weight e) (sym j) l), subst (λ zs. AreTyped zs row) (sym j) t)

pub item-is_part : (xs : List ExprValue) (x : ExprValue) (i : ℕ) (row : Row) → i < length xs → x ≡ get_or xs i x → AreTyped xs row → (weight_of x ≤ weight_of_each xs) × IsTyped (expr_seen x) row
item-is_part xs x i row b e h = (subst (λ z. weight_of z ≤ weight_of_each xs) (sym e) (item-weighs xs x i b), subst (λ z. IsTyped (expr_seen z) row) (sym e) (h i x b))

pub part-MakeIri : (w : ExprValue) (p q : ExprValue) (row : Row) → w ≡ value.MakeIri p → q ≡ p → IsTyped (expr_seen w) row → IsPart q w row
part-MakeIri w p q row i j t =
    let e : expr_seen w ≡ MakeIri (expr_seen p) = ap expr_seen i ∙ seen-MakeIri p in
    is_part w p q (MakeIri (expr_seen p)) row e (omega arith) j (typed-MakeIri (expr_seen p) row (along_typed _ _ row e t))

pub part-IriOf : (w : ExprValue) (base : List ℕ) (p q : ExprValue) (row : Row) → w ≡ value.IriOf base p → q ≡ p → IsTyped (expr_seen w) row → IsPart q w row
part-IriOf w base p q row i j t =
    let e : expr_seen w ≡ IriOf base (expr_seen p) = ap expr_seen i ∙ seen-IriOf base p in
    is_part w p q (IriOf base (expr_seen p)) row e (omega arith) j (typed-IriOf base (expr_seen p) row (along_typed _ _ row e t))

pub part-MakeBlank : (w : ExprValue) (p q : ExprValue) (row : Row) → w ≡ value.MakeBlank p → q ≡ p → IsTyped (expr_seen w) row → IsPart q w row
part-MakeBlank w p q row i j t =
    let e : expr_seen w ≡ MakeBlank (expr_seen p) = ap expr_seen i ∙ seen-MakeBlank p in
    is_part w p q (MakeBlank (expr_seen p)) row e (omega arith) j (typed-MakeBlank (expr_seen p) row (along_typed _ _ row e t))

pub part-MakeLit : (w : ExprValue) (p q : ExprValue) (a : Annotation) (row : Row) → w ≡ value.MakeLit p a → q ≡ p → IsTyped (expr_seen w) row → IsPart q w row
part-MakeLit w p q a row i j t =
    let e : expr_seen w ≡ MakeLit (expr_seen p) a = ap expr_seen i ∙ seen-MakeLit p a in
    is_part w p q (MakeLit (expr_seen p) a) row e (omega arith) j (typed-MakeLit (expr_seen p) a row (along_typed _ _ row e t))

pub part-Lex : (w : ExprValue) (p q : ExprValue) (row : Row) → w ≡ value.Lex p → q ≡ p → IsTyped (expr_seen w) row → IsPart q w row
part-Lex w p q row i j t =
    let e : expr_seen w ≡ Lex (expr_seen p) = ap expr_seen i ∙ seen-Lex p in
    is_part w p q (Lex (expr_seen p)) row e (omega arith) j (typed-Lex (expr_seen p) row (along_typed _ _ row e t))

pub part-IriSafe : (w : ExprValue) (p q : ExprValue) (row : Row) → w ≡ value.IriSafe p → q ≡ p → IsTyped (expr_seen w) row → IsPart q w row
part-IriSafe w p q row i j t =
    let e : expr_seen w ≡ IriSafe (expr_seen p) = ap expr_seen i ∙ seen-IriSafe p in
    is_part w p q (IriSafe (expr_seen p)) row e (omega arith) j (typed-IriSafe (expr_seen p) row (along_typed _ _ row e t))

pub part-IsNull : (w : ExprValue) (p q : ExprValue) (row : Row) → w ≡ value.IsNull p → q ≡ p → IsTyped (expr_seen w) row → IsPart q w row
part-IsNull w p q row i j t =
    let e : expr_seen w ≡ IsNull (expr_seen p) = ap expr_seen i ∙ seen-IsNull p in
    is_part w p q (IsNull (expr_seen p)) row e (omega arith) j (typed-IsNull (expr_seen p) row (along_typed _ _ row e t))

pub part-Not : (w : ExprValue) (p q : ExprValue) (row : Row) → w ≡ value.Not p → q ≡ p → IsTyped (expr_seen w) row → IsPart q w row
part-Not w p q row i j t =
    let e : expr_seen w ≡ Not (expr_seen p) = ap expr_seen i ∙ seen-Not p in
    is_part w p q (Not (expr_seen p)) row e (omega arith) j (typed-Not (expr_seen p) row (along_typed _ _ row e t))

pub part-Ebv : (w : ExprValue) (p q : ExprValue) (row : Row) → w ≡ value.Ebv p → q ≡ p → IsTyped (expr_seen w) row → IsPart q w row
part-Ebv w p q row i j t =
    let e : expr_seen w ≡ Ebv (expr_seen p) = ap expr_seen i ∙ seen-Ebv p in
    is_part w p q (Ebv (expr_seen p)) row e (omega arith) j (typed-Ebv (expr_seen p) row (along_typed _ _ row e t))

pub part-Same_left : (w a b q : ExprValue) (row : Row) → w ≡ value.Same a b → q ≡ a → IsTyped (expr_seen w) row → IsPart q w row
part-Same_left w a b q row i j t =
    let e : expr_seen w ≡ Same (expr_seen a) (expr_seen b) = ap expr_seen i ∙ seen-Same a b in
    is_part w a q (Same (expr_seen a) (expr_seen b)) row e (omega arith) j (typed-Same_left (expr_seen a) (expr_seen b) row (along_typed _ _ row e t))

pub part-Same_right : (w a b q : ExprValue) (row : Row) → w ≡ value.Same a b → q ≡ b → IsTyped (expr_seen w) row → IsPart q w row
part-Same_right w a b q row i j t =
    let e : expr_seen w ≡ Same (expr_seen a) (expr_seen b) = ap expr_seen i ∙ seen-Same a b in
    is_part w b q (Same (expr_seen a) (expr_seen b)) row e (omega arith) j (typed-Same_right (expr_seen a) (expr_seen b) row (along_typed _ _ row e t))

pub parts-Concat : (w : ExprValue) (xs ys : List ExprValue) (row : Row) → w ≡ value.Concat xs → ys ≡ xs → IsTyped (expr_seen w) row → ArePartsOf ys w row
parts-Concat w xs ys row i j t =
    let e : expr_seen w ≡ Concat (exprs (map expr_seen xs)) = ap expr_seen i ∙ seen-Concat xs in
    are_parts w xs ys (Concat (exprs (map expr_seen xs))) row e (omega arith) j (typed-Concat xs row (along_typed _ _ row e t))

pub parts-And : (w : ExprValue) (xs ys : List ExprValue) (row : Row) → w ≡ value.And xs → ys ≡ xs → IsTyped (expr_seen w) row → ArePartsOf ys w row
parts-And w xs ys row i j t =
    let e : expr_seen w ≡ And (exprs (map expr_seen xs)) = ap expr_seen i ∙ seen-And xs in
    are_parts w xs ys (And (exprs (map expr_seen xs))) row e (omega arith) j (typed-And xs row (along_typed _ _ row e t))

pub parts-Or : (w : ExprValue) (xs ys : List ExprValue) (row : Row) → w ≡ value.Or xs → ys ≡ xs → IsTyped (expr_seen w) row → ArePartsOf ys w row
parts-Or w xs ys row i j t =
    let e : expr_seen w ≡ Or (exprs (map expr_seen xs)) = ap expr_seen i ∙ seen-Or xs in
    are_parts w xs ys (Or (exprs (map expr_seen xs))) row e (omega arith) j (typed-Or xs row (along_typed _ _ row e t))

pub parts-Coalesce : (w : ExprValue) (xs ys : List ExprValue) (row : Row) → w ≡ value.Coalesce xs → ys ≡ xs → IsTyped (expr_seen w) row → ArePartsOf ys w row
parts-Coalesce w xs ys row i j t =
    let e : expr_seen w ≡ Coalesce (exprs (map expr_seen xs)) = ap expr_seen i ∙ seen-Coalesce xs in
    are_parts w xs ys (Coalesce (exprs (map expr_seen xs))) row e (omega arith) j (typed-Coalesce xs row (along_typed _ _ row e t))

pub parts-Sparql : (w : ExprValue) (op : Operator) (xs ys : List ExprValue) (row : Row) → w ≡ value.Sparql op xs → ys ≡ xs → IsTyped (expr_seen w) row → ArePartsOf ys w row
parts-Sparql w op xs ys row i j t =
    let e : expr_seen w ≡ Sparql op (exprs (map expr_seen xs)) = ap expr_seen i ∙ seen-Sparql op xs in
    are_parts w xs ys (Sparql op (exprs (map expr_seen xs))) row e (omega arith) j (typed-Sparql op xs row (along_typed _ _ row e t))

along_takes : {E : Type 0} (r : Result Cell E) (w e : Expr) → w ≡ e → IfOk r (TakesOne e) → IfOk r (TakesOne w)
along_takes r w e i h = subst (λ x. IfOk r (TakesOne x)) (sym i) h

along_takes_each : {E : Type 0} (r : Result (List Cell) E) (w e : Expr) → w ≡ e → IfOk r (TakesEach e) → IfOk r (TakesEach w)
along_takes_each r w e i h = subst (λ x. IfOk r (TakesEach x)) (sym i) h

pub asks-MakeIri : {E : Type 0} (r : Result Cell E) (w : ExprValue) (p q : ExprValue) (row : Row) → w ≡ value.MakeIri p → q ≡ p → IsTyped (expr_seen w) row → Got r (expr_seen q) row → IfOk r (TakesOne (expr_seen w))
asks-MakeIri r w p q row i j t g = along_takes r _ _ (ap expr_seen i ∙ seen-MakeIri p) (takes-MakeIri r (expr_seen p) row (along_typed _ _ row (ap expr_seen i ∙ seen-MakeIri p) t) (subst (λ x. Got r (expr_seen x) row) j g))

pub asks-IriOf : {E : Type 0} (r : Result Cell E) (w : ExprValue) (base : List ℕ) (p q : ExprValue) (row : Row) → w ≡ value.IriOf base p → q ≡ p → IsTyped (expr_seen w) row → Got r (expr_seen q) row → IfOk r (TakesOne (expr_seen w))
asks-IriOf r w base p q row i j t g = along_takes r _ _ (ap expr_seen i ∙ seen-IriOf base p) (takes-IriOf r base (expr_seen p) row (along_typed _ _ row (ap expr_seen i ∙ seen-IriOf base p) t) (subst (λ x. Got r (expr_seen x) row) j g))

pub asks-MakeBlank : {E : Type 0} (r : Result Cell E) (w : ExprValue) (p q : ExprValue) (row : Row) → w ≡ value.MakeBlank p → q ≡ p → IsTyped (expr_seen w) row → Got r (expr_seen q) row → IfOk r (TakesOne (expr_seen w))
asks-MakeBlank r w p q row i j t g = along_takes r _ _ (ap expr_seen i ∙ seen-MakeBlank p) (takes-MakeBlank r (expr_seen p) row (along_typed _ _ row (ap expr_seen i ∙ seen-MakeBlank p) t) (subst (λ x. Got r (expr_seen x) row) j g))

pub asks-MakeLit : {E : Type 0} (r : Result Cell E) (w : ExprValue) (p q : ExprValue) (a : Annotation) (row : Row) → w ≡ value.MakeLit p a → q ≡ p → IsTyped (expr_seen w) row → Got r (expr_seen q) row → IfOk r (TakesOne (expr_seen w))
asks-MakeLit r w p q a row i j t g = along_takes r _ _ (ap expr_seen i ∙ seen-MakeLit p a) (takes-MakeLit r (expr_seen p) a row (along_typed _ _ row (ap expr_seen i ∙ seen-MakeLit p a) t) (subst (λ x. Got r (expr_seen x) row) j g))

pub asks-Lex : {E : Type 0} (r : Result Cell E) (w p : ExprValue) → w ≡ value.Lex p → IfOk r (TakesOne (expr_seen w))
asks-Lex r w p i = along_takes r _ _ (ap expr_seen i ∙ seen-Lex p) (takes-Lex r (expr_seen p))

pub asks-IriSafe : {E : Type 0} (r : Result Cell E) (w : ExprValue) (p q : ExprValue) (row : Row) → w ≡ value.IriSafe p → q ≡ p → IsTyped (expr_seen w) row → Got r (expr_seen q) row → IfOk r (TakesOne (expr_seen w))
asks-IriSafe r w p q row i j t g = along_takes r _ _ (ap expr_seen i ∙ seen-IriSafe p) (takes-IriSafe r (expr_seen p) row (along_typed _ _ row (ap expr_seen i ∙ seen-IriSafe p) t) (subst (λ x. Got r (expr_seen x) row) j g))

pub asks-IsNull : {E : Type 0} (r : Result Cell E) (w p : ExprValue) → w ≡ value.IsNull p → IfOk r (TakesOne (expr_seen w))
asks-IsNull r w p i = along_takes r _ _ (ap expr_seen i ∙ seen-IsNull p) (takes-IsNull r (expr_seen p))

pub asks-Not : {E : Type 0} (r : Result Cell E) (w : ExprValue) (p q : ExprValue) (row : Row) → w ≡ value.Not p → q ≡ p → IsTyped (expr_seen w) row → Got r (expr_seen q) row → IfOk r (TakesOne (expr_seen w))
asks-Not r w p q row i j t g = along_takes r _ _ (ap expr_seen i ∙ seen-Not p) (takes-Not r (expr_seen p) row (along_typed _ _ row (ap expr_seen i ∙ seen-Not p) t) (subst (λ x. Got r (expr_seen x) row) j g))

pub asks-Ebv : {E : Type 0} (r : Result Cell E) (w : ExprValue) (p q : ExprValue) (row : Row) → w ≡ value.Ebv p → q ≡ p → IsTyped (expr_seen w) row → Got r (expr_seen q) row → IfOk r (TakesOne (expr_seen w))
asks-Ebv r w p q row i j t g = along_takes r _ _ (ap expr_seen i ∙ seen-Ebv p) (takes-Ebv r (expr_seen p) row (along_typed _ _ row (ap expr_seen i ∙ seen-Ebv p) t) (subst (λ x. Got r (expr_seen x) row) j g))

pub asks-Concat : {E : Type 0} (r : Result (List Cell) E) (w : ExprValue) (xs ys : List ExprValue) (row : Row) → w ≡ value.Concat xs → ys ≡ xs → IsTyped (expr_seen w) row → GotEach r (exprs (map expr_seen ys)) row → IfOk r (TakesEach (expr_seen w))
asks-Concat r w xs ys row i j t g = along_takes_each r _ _ (ap expr_seen i ∙ seen-Concat xs) (takes-Concat r (exprs (map expr_seen xs)) row (along_typed _ _ row (ap expr_seen i ∙ seen-Concat xs) t) (subst (λ zs. GotEach r (exprs (map expr_seen zs)) row) j g))

pub asks-And : {E : Type 0} (r : Result (List Cell) E) (w : ExprValue) (xs ys : List ExprValue) (row : Row) → w ≡ value.And xs → ys ≡ xs → IsTyped (expr_seen w) row → GotEach r (exprs (map expr_seen ys)) row → IfOk r (TakesEach (expr_seen w))
asks-And r w xs ys row i j t g = along_takes_each r _ _ (ap expr_seen i ∙ seen-And xs) (takes-And r (exprs (map expr_seen xs)) row (along_typed _ _ row (ap expr_seen i ∙ seen-And xs) t) (subst (λ zs. GotEach r (exprs (map expr_seen zs)) row) j g))

pub asks-Or : {E : Type 0} (r : Result (List Cell) E) (w : ExprValue) (xs ys : List ExprValue) (row : Row) → w ≡ value.Or xs → ys ≡ xs → IsTyped (expr_seen w) row → GotEach r (exprs (map expr_seen ys)) row → IfOk r (TakesEach (expr_seen w))
asks-Or r w xs ys row i j t g = along_takes_each r _ _ (ap expr_seen i ∙ seen-Or xs) (takes-Or r (exprs (map expr_seen xs)) row (along_typed _ _ row (ap expr_seen i ∙ seen-Or xs) t) (subst (λ zs. GotEach r (exprs (map expr_seen zs)) row) j g))

pub asks-Coalesce : {E : Type 0} (r : Result (List Cell) E) (w : ExprValue) (xs : List ExprValue) → w ≡ value.Coalesce xs → IfOk r (TakesEach (expr_seen w))
asks-Coalesce r w xs i = along_takes_each r _ _ (ap expr_seen i ∙ seen-Coalesce xs) (takes-Coalesce r (exprs (map expr_seen xs)))

pub asks-Sparql : {E : Type 0} (r : Result (List Cell) E) (w : ExprValue) (op : Operator) (xs ys : List ExprValue) (row : Row) → w ≡ value.Sparql op xs → ys ≡ xs → IsTyped (expr_seen w) row → GotEach r (exprs (map expr_seen ys)) row → IfOk r (TakesEach (expr_seen w))
asks-Sparql r w op xs ys row i j t g = along_takes_each r _ _ (ap expr_seen i ∙ seen-Sparql op xs) (takes-Sparql r op (exprs (map expr_seen xs)) row (along_typed _ _ row (ap expr_seen i ∙ seen-Sparql op xs) t) (subst (λ zs. GotEach r (exprs (map expr_seen zs)) row) j g))
