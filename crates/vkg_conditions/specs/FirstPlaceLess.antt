-- A change at the first place of an expression: where a step makes its own place lighter, the whole is lighter.
use Rattle.std.proofs.Common.{◌≡◌, inl, inr, true, ◌+◌, ◌<◌, ◌≤◌, ◌&&◌, List, refl, ap, subst, arith}
use Rattle.std.specs.Prelude.{Option, Some, option_map, length, ◌==◌}
use Rattle.std.specs.Option.{option_or}
use Rattle.vkg_lists.proofs.Bools.{and_parts}
use Rattle.vkg_lists.proofs.Onto.{first_given, map_given}
use Rattle.vkg_lists.proofs.Results.{then_given}
use Rattle.vkg_cells.specs.declared.cell.SqlType.{SqlType}
use Rattle.vkg_cells.specs.declared.cell.SqlType.TheVariants as kind
use Rattle.vkg_schema.specs.Rows.{Row}
use Rattle.vkg_expr.specs.Expr.{Expr, Exprs, Col, Const, MakeIri, IriOf, MakeBlank, MakeLit, Lex, IriSafe, Concat, Same, IsNull, Not, And, Or, Coalesce, Sparql, Ebv, Nil, More, each}
use Rattle.vkg_expr.specs.Places.{first_place, first_of_each}
use Rattle.vkg_expr.specs.Typing.{are_all, arity, is_one, kind_of, kinds_of, no_column, result_kind}
use Rattle.vkg_expr.proofs.TypedParts.{all_is, equality_given, lexical_given, one_is}
use Rattle.vkg_expr.proofs.ValueFits.{common_given}
use Rattle.vkg_rules.specs.Measure.{equalities, equalities_each, is_term, one_if, size, sizes}
use Rattle.vkg_conditions.specs.SameAs.{SameOn}
use Rattle.vkg_conditions.specs.FirstPlace.{first_place-same, or_cases}

abbrev pub HasMore : Exprs → Type 0
HasMore Nil = ⊥
HasMore (More e es) = Unit {0}

pub and_size : (es : Exprs) → HasMore es → size (And es) ≡ 1 + sizes es
and_size Nil h = absurd h
and_size (More e es) h = refl

pub or_size : (es : Exprs) → HasMore es → size (Or es) ≡ 1 + sizes es
or_size Nil h = absurd h
or_size (More e es) h = refl

-- smaller, and with no more equalities of terms
abbrev pub IsLess : List SqlType → Expr → Expr → Type 0
IsLess ks e d = (size d < size e) × (equalities ks d ≤ equalities ks e)

abbrev pub AreLess : List SqlType → Exprs → Exprs → Type 0
AreLess ks es ds = (sizes ds < sizes es) × (equalities_each ks ds ≤ equalities_each ks es) × HasMore es × HasMore ds

module _ (On : Row → Type 0) (ks : List SqlType) (f : Expr → Option Expr)
    (good : (e d : Expr) (k : SqlType) → kind_of e ks ≡ Some k → f e ≡ Some d → SameOn On ks e d)
    (texts : (es ds : Exprs) → are_all kind.Text (kinds_of es ks) ≡ true → no_column es ≡ true → first_of_each f es ≡ Some ds → no_column ds ≡ true)
    (less : (e d : Expr) (k : SqlType) → kind_of e ks ≡ Some k → f e ≡ Some d → IsLess ks e d) where
  root : (e d : Expr) (k : SqlType) (o : Option Expr) → kind_of e ks ≡ Some k → option_or (f e) o ≡ Some d → (o ≡ Some d → IsLess ks e d) → IsLess ks e d
  root e d k o t h g = elim (or_cases (f e) o d h) [ inl i ↦ less e d k t i | inr i ↦ g i ]

  under : {X : Type 0} (g : X → Expr) (o : Option X) (whole d : Expr) → option_map g o ≡ Some d → ((y : X) → o ≡ Some y → IsLess ks whole (g y)) → IsLess ks whole d
  under g o whole d h k = let m = map_given g o d h in subst (IsLess ks whole) m.2 (k m.0 m.1)

  mutual
    pub place-less : (e d : Expr) (k : SqlType) → kind_of e ks ≡ Some k → first_place f e ≡ Some d → IsLess ks e d
    place-less (Col at) d k t h = less (Col at) d k t h
    place-less (Const c l) d k t h = less (Const c l) d k t h
    place-less (MakeIri e) d k t h = root (MakeIri e) d k _ t h (λ i. under MakeIri (first_place f e) (MakeIri e) d i (λ y j. let s = place-less e y kind.Text (one_is kind.Text (kind_of e ks) (then_given (is_one kind.Text (kind_of e ks)) kind.Term k t).0) j in let a = s.0 in let b = s.1 in (omega (arith, a), omega (arith, b))))
    place-less (IriOf base e) d k t h = root (IriOf base e) d k _ t h (λ i. under (λ x. IriOf base x) (first_place f e) (IriOf base e) d i (λ y j. let s = place-less e y kind.Text (one_is kind.Text (kind_of e ks) (then_given (is_one kind.Text (kind_of e ks)) kind.Text k t).0) j in let a = s.0 in let b = s.1 in (omega (arith, a), omega (arith, b))))
    place-less (MakeBlank e) d k t h = root (MakeBlank e) d k _ t h (λ i. under MakeBlank (first_place f e) (MakeBlank e) d i (λ y j. let s = place-less e y kind.Text (one_is kind.Text (kind_of e ks) (then_given (is_one kind.Text (kind_of e ks)) kind.Term k t).0) j in let a = s.0 in let b = s.1 in (omega (arith, a), omega (arith, b))))
    place-less (MakeLit e l) d k t h = root (MakeLit e l) d k _ t h (λ i. under (λ x. MakeLit x l) (first_place f e) (MakeLit e l) d i (λ y j. let s = place-less e y kind.Text (one_is kind.Text (kind_of e ks) (then_given (is_one kind.Text (kind_of e ks)) kind.Term k t).0) j in let a = s.0 in let b = s.1 in (omega (arith, a), omega (arith, b))))
    place-less (Lex e) d k t h = root (Lex e) d k _ t h (λ i. under Lex (first_place f e) (Lex e) d i (λ y j. let m = lexical_given (kind_of e ks) k t in let s = place-less e y m.0 m.1 j in let a = s.0 in let b = s.1 in (omega (arith, a), omega (arith, b))))
    place-less (IriSafe e) d k t h = root (IriSafe e) d k _ t h (λ i. under IriSafe (first_place f e) (IriSafe e) d i (λ y j. let s = place-less e y kind.Text (one_is kind.Text (kind_of e ks) (then_given (is_one kind.Text (kind_of e ks)) kind.Text k t).0) j in let a = s.0 in let b = s.1 in (omega (arith, a), omega (arith, b))))
    place-less (IsNull e) d k t h = root (IsNull e) d k _ t h (λ i. under IsNull (first_place f e) (IsNull e) d i (λ y j. let m = map_given (λ k. kind.Bool) (kind_of e ks) k t in let s = place-less e y m.0 m.1 j in let a = s.0 in let b = s.1 in (omega (arith, a), omega (arith, b))))
    place-less (Not e) d k t h = root (Not e) d k _ t h (λ i. under Not (first_place f e) (Not e) d i (λ y j. let s = place-less e y kind.Bool (one_is kind.Bool (kind_of e ks) (then_given (is_one kind.Bool (kind_of e ks)) kind.Bool k t).0) j in let a = s.0 in let b = s.1 in (omega (arith, a), omega (arith, b))))
    place-less (Ebv e) d k t h = root (Ebv e) d k _ t h (λ i. under Ebv (first_place f e) (Ebv e) d i (λ y j. let s = place-less e y kind.Term (one_is kind.Term (kind_of e ks) (then_given (is_one kind.Term (kind_of e ks)) kind.Bool k t).0) j in let a = s.0 in let b = s.1 in (omega (arith, a), omega (arith, b))))
    place-less (Same a b) d k t h =
        let m = equality_given (kind_of a ks) (kind_of b ks) k t in
        root (Same a b) d k _ t h (λ i. elim (or_cases _ _ d i) [
          | inl j ↦ under (λ x. Same x b) (first_place f a) (Same a b) d j (λ y l.
              let s = place-less a y m.0.0 m.0.1 l in let u = s.0 in let v = s.1 in
              let e = ap (λ x. one_if (is_term x && is_term (kind_of b ks))) (first_place-same On ks f good texts a y m.0.0 m.0.1 l).kind_kept in (omega (arith, u), omega (arith, v, e)))
          | inr j ↦ under (λ x. Same a x) (first_place f b) (Same a b) d j (λ y l.
              let s = place-less b y m.1.0 m.1.1 l in let u = s.0 in let v = s.1 in
              let e = ap (λ x. one_if (is_term (kind_of a ks) && is_term x)) (first_place-same On ks f good texts b y m.1.0 m.1.1 l).kind_kept in (omega (arith, u), omega (arith, v, e)))
        ])
    place-less (Concat es) d k t h = root (Concat es) d k _ t h (λ i. under Concat (first_of_each f es) (Concat es) d i (λ y j.
        let b = and_parts (no_column es) (are_all kind.Text (kinds_of es ks)) (then_given (no_column es && are_all kind.Text (kinds_of es ks)) kind.Text k t).0 in
        let a = all_is kind.Text (kinds_of es ks) b.1 in
        let s = each-less es y a.0 a.1 j in let u = s.0 in let v = s.1 in (omega (arith, u), omega (arith, v))))
    place-less (And es) d k t h = root (And es) d k _ t h (λ i. under And (first_of_each f es) (And es) d i (λ y j.
        let a = all_is kind.Bool (kinds_of es ks) (then_given (are_all kind.Bool (kinds_of es ks)) kind.Bool k t).0 in
        let s = each-less es y a.0 a.1 j in let u = s.0 in let v = s.1 in let p = and_size es s.2 in let q = and_size y s.3 in (omega (arith, u, p, q), omega (arith, v))))
    place-less (Or es) d k t h = root (Or es) d k _ t h (λ i. under Or (first_of_each f es) (Or es) d i (λ y j.
        let a = all_is kind.Bool (kinds_of es ks) (then_given (are_all kind.Bool (kinds_of es ks)) kind.Bool k t).0 in
        let s = each-less es y a.0 a.1 j in let u = s.0 in let v = s.1 in let p = or_size es s.2 in let q = or_size y s.3 in (omega (arith, u, p, q), omega (arith, v))))
    place-less (Coalesce es) d k t h = root (Coalesce es) d k _ t h (λ i. under Coalesce (first_of_each f es) (Coalesce es) d i (λ y j.
        let a = common_given (kinds_of es ks) k t in
        let s = each-less es y a.0 a.1 j in let u = s.0 in let v = s.1 in (omega (arith, u), omega (arith, v))))
    place-less (Sparql op es) d k t h = root (Sparql op es) d k _ t h (λ i. under (λ x. Sparql op x) (first_of_each f es) (Sparql op es) d i (λ y j.
        let b = and_parts (length (each es) == arity op) (are_all kind.Term (kinds_of es ks)) (then_given ((length (each es) == arity op) && are_all kind.Term (kinds_of es ks)) (result_kind op) k t).0 in
        let a = all_is kind.Term (kinds_of es ks) b.1 in
        let s = each-less es y a.0 a.1 j in let u = s.0 in let v = s.1 in (omega (arith, u), omega (arith, v))))

    pub each-less : (es ds : Exprs) (ls : List SqlType) → kinds_of es ks ≡ Some ls → first_of_each f es ≡ Some ds → AreLess ks es ds
    each-less Nil ds ls t h = cc
    each-less (More e es) ds ls t h =
        let m = first_given (kind_of e ks) (kinds_of es ks) ls t in
        elim (or_cases _ _ ds h) [
          | inl i ↦ let n = map_given (λ x. More x es) (first_place f e) ds i in let s = place-less e n.0 m.0 m.1 n.1 in let u = s.0 in let v = s.1 in
              subst (AreLess ks (More e es)) n.2 (omega (arith, u), omega (arith, v), tt, tt)
          | inr i ↦ let n = map_given (λ x. More e x) (first_of_each f es) ds i in let s = each-less es n.0 m.2.0 m.2.1 n.1 in let u = s.0 in let v = s.1 in
              subst (AreLess ks (More e es)) n.2 (omega (arith, u), omega (arith, v), tt, tt)
        ]
