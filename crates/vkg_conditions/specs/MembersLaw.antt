-- Members left out, spread or met again: the others are lighter, and gather to the same truth.
use Rattle.std.proofs.Common.{◌≡◌, ◌∙◌, ◌+◌, ◌≤◌, Bool, true, false, List, [], ◌∷◌, ◌++◌, map, refl, sym, ap, subst, arith}
use Rattle.std.specs.Prelude.{Some, fold, option_map, if◌then◌else◌}
use Rattle.std.specs.List.{list_any}
use Rattle.std.proofs.lemmas.List.{map-append}
use Rattle.std.proofs.lemmas.Option.{same_Some}
use Rattle.vkg_lists.proofs.Onto.{map_given}
use Rattle.vkg_cells.specs.declared.cell.SqlType.{SqlType}
use Rattle.vkg_schema.specs.Rows.{Row}
use Rattle.vkg_expr.specs.Expr.{Expr, Exprs, Col, Const, MakeIri, IriOf, MakeBlank, MakeLit, Lex, IriSafe, Concat, Same, IsNull, Not, And, Or, Coalesce, Sparql, Ebv, Nil, More, exprs}
use Rattle.vkg_rules.specs.Measure.{equalities, equalities_each, size, sizes}
use Rattle.vkg_conditions.specs.Conditions.{members, spread, without_first, without_repeat}
use Rattle.vkg_conditions.specs.Gathered.{Truth, absorbed, gathered-append, gathered-more}
use Rattle.vkg_conditions.specs.Junctions.{AreTruths, IsJunction, IsLighter, IsTruth, truth_on, truths-append}
use Rattle.vkg_same.specs.SameExpr.{same_expr}
use Rattle.vkg_same.specs.SameExprLaw.{same_expr-is}

pub size_positive : (e : Expr) → 1 ≤ size e
size_positive (Col at) = omega arith
size_positive (Const c k) = omega arith
size_positive (MakeIri e) = omega arith
size_positive (IriOf base e) = omega arith
size_positive (MakeBlank e) = omega arith
size_positive (MakeLit e l) = omega arith
size_positive (Lex e) = omega arith
size_positive (IriSafe e) = omega arith
size_positive (Concat es) = omega arith
size_positive (Same a b) = omega arith
size_positive (IsNull e) = omega arith
size_positive (Not e) = omega arith
size_positive (And Nil) = omega arith
size_positive (And (More e es)) = omega arith
size_positive (Or Nil) = omega arith
size_positive (Or (More e es)) = omega arith
size_positive (Coalesce es) = omega arith
size_positive (Sparql op es) = omega arith
size_positive (Ebv e) = omega arith

sizes-append : (xs ys : List Expr) → sizes (exprs (xs ++ ys)) ≡ sizes (exprs xs) + sizes (exprs ys)
sizes-append [] ys = omega arith
sizes-append (x ∷ xs) ys = let h = sizes-append xs ys in omega (arith, h)

equalities-append : (ks : List SqlType) (xs ys : List Expr) → equalities_each ks (exprs (xs ++ ys)) ≡ equalities_each ks (exprs xs) + equalities_each ks (exprs ys)
equalities-append ks [] ys = omega arith
equalities-append ks (x ∷ xs) ys = let h = equalities-append ks xs ys in omega (arith, h)

-- a list in the place of another among the members
pub record Fewer (op : Truth → Truth → Truth) (unit : Bool) (xs ys : List Expr) : Type 0 where
  pub truths : (ks : List SqlType) → AreTruths ks xs → AreTruths ks ys
  pub light : (ks : List SqlType) → IsLighter ks xs ys
  pub same : (row : Row) → fold op (Some unit) (map (truth_on row) xs) ≡ fold op (Some unit) (map (truth_on row) ys)

module _ (make : Exprs → Expr) (of : List Expr → Expr) (op : Truth → Truth → Truth) (unit zero : Bool) (is : IsJunction make of op unit zero) where
  more-on : (row : Row) (x : Expr) (xs : List Expr) → fold op (Some unit) (map (truth_on row) (x ∷ xs)) ≡ op (truth_on row x) (fold op (Some unit) (map (truth_on row) xs))
  more-on row x xs = gathered-more op (Some unit) (Some zero) is.gathers (truth_on row x) (map (truth_on row) xs)

  -- a member kept before a change
  kept : (x : Expr) (xs ys : List Expr) → Fewer op unit xs ys → Fewer op unit (x ∷ xs) (x ∷ ys)
  kept x xs ys f = record {
    truths = λ ks h. (h.0, f.truths ks h.1);
    light = λ ks. let l = f.light ks in let a = l.sizes_less in let b = l.no_more in record { sizes_less = omega (arith, a); no_more = omega (arith, b) };
    same = λ row. more-on row x xs ∙ ap (op (truth_on row x)) (f.same row) ∙ sym (more-on row x ys);
  }

  -- ---- a member that adds nothing
  first-at : (test : Expr → Bool) → ((e : Expr) (row : Row) → test e ≡ true → truth_on row e ≡ Some unit) → (x : Expr) (xs ys : List Expr) (b : Bool) → test x ≡ b
      → ((zs : List Expr) → without_first test xs ≡ Some zs → Fewer op unit xs zs) → (if b then Some xs else option_map (λ fs. x ∷ fs) (without_first test xs)) ≡ Some ys → Fewer op unit (x ∷ xs) ys
  first-at test h x xs ys true k rec e = subst (Fewer op unit (x ∷ xs)) (same_Some xs ys e) (record {
    truths = λ ks t. t.1;
    light = λ ks. let p = size_positive x in record { sizes_less = omega (arith, p); no_more = omega arith };
    same = λ row. more-on row x xs ∙ ap (λ t. op t (fold op (Some unit) (map (truth_on row) xs))) (h x row k) ∙ is.gathers.first_unit (fold op (Some unit) (map (truth_on row) xs));
  })
  first-at test h x xs ys false k rec e =
      let m = map_given (λ (fs : List Expr). x ∷ fs) (without_first test xs) ys e in
      subst (Fewer op unit (x ∷ xs)) m.2 (kept x xs m.0 (rec m.0 m.1))

  pub first-dropped : (test : Expr → Bool) → ((e : Expr) (row : Row) → test e ≡ true → truth_on row e ≡ Some unit) → (xs ys : List Expr) → without_first test xs ≡ Some ys → Fewer op unit xs ys
  first-dropped test h [] ys e = cc
  first-dropped test h (x ∷ xs) ys e = first-at test h x xs ys (test x) refl (first-dropped test h xs) e

  -- ---- members nested in one
  module _ (nested : Expr → Bool)
      (truths : (ks : List SqlType) (e : Expr) → nested e ≡ true → IsTruth ks e → AreTruths ks (members e))
      (lighter : (ks : List SqlType) (e : Expr) → nested e ≡ true → (1 + sizes (exprs (members e)) ≤ size e) × (equalities_each ks (exprs (members e)) ≤ equalities ks e))
      (gathers : (e : Expr) (row : Row) → nested e ≡ true → truth_on row e ≡ fold op (Some unit) (map (truth_on row) (members e))) where
    spread-at : (x : Expr) (xs ys : List Expr) (b : Bool) → nested x ≡ b → ((zs : List Expr) → spread nested xs ≡ Some zs → Fewer op unit xs zs)
        → (if b then Some (members x ++ xs) else option_map (λ fs. x ∷ fs) (spread nested xs)) ≡ Some ys → Fewer op unit (x ∷ xs) ys
    spread-at x xs ys true k rec e = subst (Fewer op unit (x ∷ xs)) (same_Some (members x ++ xs) ys e) (record {
      truths = λ ks t. truths-append ks (members x) xs (truths ks x k t.0) t.1;
      light = λ ks.
          let l = lighter ks x k in let a = sizes-append (members x) xs in let b = equalities-append ks (members x) xs in let c = l.0 in let d = l.1 in
          record { sizes_less = omega (arith, a, c); no_more = omega (arith, b, d) };
      same = λ row.
          more-on row x xs ∙ ap (λ t. op t (fold op (Some unit) (map (truth_on row) xs))) (gathers x row k)
          ∙ sym (gathered-append op (Some unit) (Some zero) is.gathers (map (truth_on row) (members x)) (map (truth_on row) xs))
          ∙ ap (fold op (Some unit)) (sym (map-append (truth_on row) (members x) xs));
    })
    spread-at x xs ys false k rec e =
        let m = map_given (λ (fs : List Expr). x ∷ fs) (spread nested xs) ys e in
        subst (Fewer op unit (x ∷ xs)) m.2 (kept x xs m.0 (rec m.0 m.1))

    pub spread-fewer : (xs ys : List Expr) → spread nested xs ≡ Some ys → Fewer op unit xs ys
    spread-fewer [] ys e = cc
    spread-fewer (x ∷ xs) ys e = spread-at x xs ys (nested x) refl (spread-fewer xs) e

  -- ---- a member met again
  record Behind (before xs ys : List Expr) : Type 0 where
    truths : (ks : List SqlType) → AreTruths ks xs → AreTruths ks ys
    light : (ks : List SqlType) → IsLighter ks xs ys
    same : (row : Row) → op (fold op (Some unit) (map (truth_on row) before)) (fold op (Some unit) (map (truth_on row) xs)) ≡ op (fold op (Some unit) (map (truth_on row) before)) (fold op (Some unit) (map (truth_on row) ys))

  -- with a member more before
  around : (row : Row) (x : Expr) (before xs : List Expr) →
      op (fold op (Some unit) (map (truth_on row) before)) (fold op (Some unit) (map (truth_on row) (x ∷ xs)))
      ≡ op (fold op (Some unit) (map (truth_on row) (x ∷ before))) (fold op (Some unit) (map (truth_on row) xs))
  around row x before xs =
      let t = truth_on row x in let b = fold op (Some unit) (map (truth_on row) before) in let r = fold op (Some unit) (map (truth_on row) xs) in
      ap (op b) (more-on row x xs) ∙ sym (is.gathers.assoc b t r) ∙ ap (λ p. op p r) (is.gathers.swap b t) ∙ ap (λ p. op p r) (sym (more-on row x before))

  repeat-at : (x : Expr) (before xs ys : List Expr) (b : Bool) → list_any (same_expr x) before ≡ b → ((zs : List Expr) → without_repeat (x ∷ before) xs ≡ Some zs → Behind (x ∷ before) xs zs)
      → (if b then Some xs else option_map (λ fs. x ∷ fs) (without_repeat (x ∷ before) xs)) ≡ Some ys → Behind before (x ∷ xs) ys
  repeat-at x before xs ys true k rec e = subst (Behind before (x ∷ xs)) (same_Some xs ys e) (record {
    truths = λ ks t. t.1;
    light = λ ks. let p = size_positive x in record { sizes_less = omega (arith, p); no_more = omega arith };
    same = λ row.
        let t = truth_on row x in let b = fold op (Some unit) (map (truth_on row) before) in let r = fold op (Some unit) (map (truth_on row) xs) in
        ap (op b) (more-on row x xs) ∙ sym (is.gathers.assoc b t r)
        ∙ ap (λ p. op p r) (absorbed op (Some unit) (Some zero) is.gathers (truth_on row) same_expr same_expr-is x before k);
  })
  repeat-at x before xs ys false k rec e =
      let m = map_given (λ (fs : List Expr). x ∷ fs) (without_repeat (x ∷ before) xs) ys e in
      let f = rec m.0 m.1 in
      subst (Behind before (x ∷ xs)) m.2 (record {
        truths = λ ks h. (h.0, f.truths ks h.1);
        light = λ ks. let l = f.light ks in let a = l.sizes_less in let b = l.no_more in record { sizes_less = omega (arith, a); no_more = omega (arith, b) };
        same = λ row. around row x before xs ∙ f.same row ∙ sym (around row x before m.0);
      })

  repeat-behind : (before xs ys : List Expr) → without_repeat before xs ≡ Some ys → Behind before xs ys
  repeat-behind before [] ys e = cc
  repeat-behind before (x ∷ xs) ys e = repeat-at x before xs ys (list_any (same_expr x) before) refl (repeat-behind (x ∷ before) xs) e

  pub repeat-dropped : (xs ys : List Expr) → without_repeat [] xs ≡ Some ys → Fewer op unit xs ys
  repeat-dropped xs ys e =
      let f = repeat-behind [] xs ys e in
      record {
        truths = f.truths;
        light = f.light;
        same = λ row. sym (is.gathers.first_unit (fold op (Some unit) (map (truth_on row) xs))) ∙ f.same row ∙ is.gathers.first_unit (fold op (Some unit) (map (truth_on row) ys));
      }
