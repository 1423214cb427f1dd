-- A change at a place of a plan's own expressions that makes no column of a text: what it keeps at its place the plan keeps.
use Rattle.std.proofs.Common.{◌≡◌, ◌∙◌, inl, inr, suc, ◌<◌, ◌≤◌, true, not, List, [], ◌∷◌, refl, sym, ap, subst, arith}
use Rattle.std.specs.Prelude.{Option, Some, option_map}
use Rattle.std.specs.Option.{option_or}
use Rattle.vkg_lists.specs.Options.{with_first}
use Rattle.vkg_lists.proofs.Bools.{and_parts, and_true}
use Rattle.vkg_lists.proofs.Onto.{first_given, map_given}
use Rattle.vkg_cells.specs.declared.cell.SqlType.{SqlType}
use Rattle.vkg_cells.specs.declared.cell.SqlType.TheVariants as kind
use Rattle.vkg_schema.specs.Rows.{Row, is_known_true}
use Rattle.vkg_expr.specs.Expr.{Expr, Exprs, Col, Const, MakeIri, IriOf, MakeBlank, MakeLit, Lex, IriSafe, Concat, Same, IsNull, Not, And, Or, Coalesce, Sparql, Ebv, Nil, More, exprs}
use Rattle.vkg_expr.specs.Places.{first_place, first_of_each}
use Rattle.vkg_expr.specs.Typing.{are_all, is_column, is_one, kind_of, kinds_of, no_column}
use Rattle.vkg_expr.specs.Value.{truth_of, value_of, values_of}
use Rattle.vkg_expr.proofs.KindLists.{are_all-more}
use Rattle.vkg_expr.proofs.TypedParts.{one_is}
use Rattle.vkg_plan.specs.Kinds.{Kinds, Tables}
use Rattle.vkg_plan.specs.Plan.{Plan, Select, Project, Join, Left, AntiJoin}
use Rattle.vkg_rules.specs.declared.rewrite.Fell.TheVariants as fell
use Rattle.vkg_rules.specs.InNodes.{IsLawful}
use Rattle.vkg_rules.specs.Measure.{equalities_each, sizes}
use Rattle.vkg_rules.specs.Steps.{IsTyped}
use Rattle.vkg_conditions.specs.FirstPlace.{first_place-same, or_cases}
use Rattle.vkg_conditions.specs.FirstPlaceLess.{place-less}
use Rattle.vkg_conditions.specs.Junctions.{IsTruth, SimplerOn}
use Rattle.vkg_conditions.specs.NodesLaw.{AreOwn, BetterOn, anti-better, join-better, left-better, project-better, select-better}
use Rattle.vkg_conditions.specs.SameAs.{SameEachOn, SameOn}
use Rattle.vkg_conditions.specs.SimplifyCondition.{first_of, in_own}

-- it makes each expression simpler, on such rows, and no text a column
pub record IsSoundOn (On : Kinds → Row → Type 0) (f : Expr → Option Expr) : Type 0 where
  pub simpler : (ks : List SqlType) (e d : Expr) (k : SqlType) → kind_of e ks ≡ Some k → f e ≡ Some d → SimplerOn (On ks) ks e d
  pub bare : (ks : List SqlType) (e d : Expr) → kind_of e ks ≡ Some kind.Text → f e ≡ Some d → not (is_column d) ≡ true

-- ---- a text that is no column stays none

module _ (ks : List SqlType) (f : Expr → Option Expr) (bare : (e d : Expr) → kind_of e ks ≡ Some kind.Text → f e ≡ Some d → not (is_column d) ≡ true) where
  at_root : (e d : Expr) (o : Option Expr) → kind_of e ks ≡ Some kind.Text → option_or (f e) o ≡ Some d → (o ≡ Some d → not (is_column d) ≡ true) → not (is_column d) ≡ true
  at_root e d o t h g = elim (or_cases (f e) o d h) [ inl i ↦ bare e d t i | inr i ↦ g i ]

  below : {X : Type 0} (g : X → Expr) (o : Option X) (d : Expr) → ((x : X) → not (is_column (g x)) ≡ true) → option_map g o ≡ Some d → not (is_column d) ≡ true
  below g o d n h = let m = map_given g o d h in subst (λ x. not (is_column x) ≡ true) m.2 (n m.0)

  bare-place : (e d : Expr) → kind_of e ks ≡ Some kind.Text → first_place f e ≡ Some d → not (is_column d) ≡ true
  bare-place (Col at) d t h = bare (Col at) d t h
  bare-place (Const c k) d t h = bare (Const c k) d t h
  bare-place (MakeIri e) d t h = at_root (MakeIri e) d _ t h (below MakeIri (first_place f e) d (λ x. refl))
  bare-place (IriOf base e) d t h = at_root (IriOf base e) d _ t h (below (λ x. IriOf base x) (first_place f e) d (λ x. refl))
  bare-place (MakeBlank e) d t h = at_root (MakeBlank e) d _ t h (below MakeBlank (first_place f e) d (λ x. refl))
  bare-place (MakeLit e l) d t h = at_root (MakeLit e l) d _ t h (below (λ x. MakeLit x l) (first_place f e) d (λ x. refl))
  bare-place (Lex e) d t h = at_root (Lex e) d _ t h (below Lex (first_place f e) d (λ x. refl))
  bare-place (IriSafe e) d t h = at_root (IriSafe e) d _ t h (below IriSafe (first_place f e) d (λ x. refl))
  bare-place (IsNull e) d t h = at_root (IsNull e) d _ t h (below IsNull (first_place f e) d (λ x. refl))
  bare-place (Not e) d t h = at_root (Not e) d _ t h (below Not (first_place f e) d (λ x. refl))
  bare-place (Ebv e) d t h = at_root (Ebv e) d _ t h (below Ebv (first_place f e) d (λ x. refl))
  bare-place (Same a b) d t h = at_root (Same a b) d _ t h (λ i. elim (or_cases _ _ d i) [ inl j ↦ below (λ x. Same x b) (first_place f a) d (λ x. refl) j | inr j ↦ below (λ x. Same a x) (first_place f b) d (λ x. refl) j ])
  bare-place (Concat es) d t h = at_root (Concat es) d _ t h (below Concat (first_of_each f es) d (λ x. refl))
  bare-place (And es) d t h = at_root (And es) d _ t h (below And (first_of_each f es) d (λ x. refl))
  bare-place (Or es) d t h = at_root (Or es) d _ t h (below Or (first_of_each f es) d (λ x. refl))
  bare-place (Coalesce es) d t h = at_root (Coalesce es) d _ t h (below Coalesce (first_of_each f es) d (λ x. refl))
  bare-place (Sparql op es) d t h = at_root (Sparql op es) d _ t h (below (λ x. Sparql op x) (first_of_each f es) d (λ x. refl))

  bare-each : (es ds : Exprs) → are_all kind.Text (kinds_of es ks) ≡ true → no_column es ≡ true → first_of_each f es ≡ Some ds → no_column ds ≡ true
  bare-each Nil ds t n h = cc
  bare-each (More e es) ds t n h =
      let b = and_parts (not (is_column e)) (no_column es) n in
      let a = and_parts (is_one kind.Text (kind_of e ks)) (are_all kind.Text (kinds_of es ks)) (sym (are_all-more kind.Text (kind_of e ks) (kinds_of es ks)) ∙ t) in
      elim (or_cases _ _ ds h) [
        | inl i ↦ let m = map_given (λ x. More x es) (first_place f e) ds i in subst (λ x. no_column x ≡ true) m.2 (and_true _ _ (bare-place e m.0 (one_is kind.Text (kind_of e ks) a.0) m.1) b.1)
        | inr i ↦ let m = map_given (λ x. More e x) (first_of_each f es) ds i in subst (λ x. no_column x ≡ true) m.2 (and_true _ _ b.0 (bare-each es m.0 a.1 b.1 m.1))
      ]

-- ---- at a place

module _ (On : Kinds → Row → Type 0) (f : Expr → Option Expr) (sound : IsSoundOn On f) (ks : List SqlType) where
  same : (e d : Expr) (k : SqlType) → kind_of e ks ≡ Some k → f e ≡ Some d → SameOn (On ks) ks e d
  same e d k t h = (sound.simpler ks e d k t h).same

  texts : (es ds : Exprs) → are_all kind.Text (kinds_of es ks) ≡ true → no_column es ≡ true → first_of_each f es ≡ Some ds → no_column ds ≡ true
  texts es ds t n h = bare-each ks f (sound.bare ks) es ds t n h

  pub place-simpler : (e d : Expr) (k : SqlType) → kind_of e ks ≡ Some k → first_place f e ≡ Some d → SimplerOn (On ks) ks e d
  place-simpler e d k t h =
      let l = place-less (On ks) ks f same texts (λ e d k t h. ((sound.simpler ks e d k t h).less, (sound.simpler ks e d k t h).fewer)) e d k t h in
      record { same = first_place-same (On ks) ks f same texts e d k t h; less = l.0; fewer = l.1 }

  place-better : (c d : Expr) → first_place f c ≡ Some d → IsTruth ks c → BetterOn (On ks) ks c d
  place-better c d h t =
      let s = place-simpler c d kind.Bool t h in
      record { truth = s.same.kind_kept ∙ t; same = λ row w. ap (λ v. is_known_true (truth_of v)) (s.same.value row w); less = s.less; fewer = s.fewer }

  -- the same among several
  abbrev AreBetter : List Expr → List Expr → Type 0
  AreBetter es ds = SameEachOn (On ks) ks (exprs es) (exprs ds) × (sizes (exprs ds) < sizes (exprs es)) × (equalities_each ks (exprs ds) ≤ equalities_each ks (exprs es))

  first-better : (es ds : List Expr) (ls : List SqlType) → kinds_of (exprs es) ks ≡ Some ls → first_of f es ≡ Some ds → AreBetter es ds
  first-better [] ds ls t h = cc
  first-better (e ∷ es) ds ls t h =
      let m = first_given (kind_of e ks) (kinds_of (exprs es) ks) ls t in
      elim (or_cases _ _ ds h) [
        | inl i ↦
            let n = map_given (λ x. x ∷ es) (first_place f e) ds i in
            let s = place-simpler e n.0 m.0 m.1 n.1 in let a = s.less in let b = s.fewer in
            subst (AreBetter (e ∷ es)) n.2 (
              record {
                kinds_kept = ap (λ x. with_first x (kinds_of (exprs es) ks)) s.same.kind_kept;
                as_many = refl;
                values = λ row w. ap (λ v. v ∷ values_of (exprs es) row) (s.same.value row w);
              },
              omega (arith, a),
              omega (arith, b),
            )
        | inr i ↦
            let n = map_given (λ x. e ∷ x) (first_of f es) ds i in
            let s = first-better es n.0 m.2.0 m.2.1 n.1 in let a = s.1 in let b = s.2 in
            subst (AreBetter (e ∷ es)) n.2 (
              record {
                kinds_kept = ap (with_first (kind_of e ks)) s.0.kinds_kept;
                as_many = ap suc s.0.as_many;
                values = λ row w. ap (λ v. value_of e row ∷ v) (s.0.values row w);
              },
              omega (arith, a),
              omega (arith, b),
            )
      ]

pub sound-lawful : (On : Kinds → Row → Type 0) (f : Expr → Option Expr) → IsSoundOn On f → (s : Tables) (p q : Plan) → AreOwn On s p → IsTyped s p → in_own f p ≡ Some q → IsLawful s p (q, fell.Size)
sound-lawful On f sound s (Select c p) q own t h =
    let m = map_given (λ d. Select d p) (first_place f c) q h in
    subst (λ z. IsLawful s (Select c p) (z, fell.Size)) m.2 (select-better On s c m.0 p t own (λ ks k. place-better On f sound ks c m.0 m.1 k))
sound-lawful On f sound s (Project es p) q own t h =
    let m = map_given (λ ds. Project ds p) (first_of f es) q h in
    subst (λ z. IsLawful s (Project es p) (z, fell.Size)) m.2 (project-better On s es m.0 p t own (λ ks ls k. first-better On f sound ks es m.0 ls k m.1))
sound-lawful On f sound s (Join ps c) q own t h =
    let m = map_given (Join ps) (first_place f c) q h in
    subst (λ z. IsLawful s (Join ps c) (z, fell.Size)) m.2 (join-better On s c m.0 ps t own (λ ks k. place-better On f sound ks c m.0 m.1 k))
sound-lawful On f sound s (Left p r c) q own t h =
    let m = map_given (Left p r) (first_place f c) q h in
    subst (λ z. IsLawful s (Left p r c) (z, fell.Size)) m.2 (left-better On s c m.0 p r t own (λ ks k. place-better On f sound ks c m.0 m.1 k))
sound-lawful On f sound s (AntiJoin p r c) q own t h =
    let m = map_given (AntiJoin p r) (first_place f c) q h in
    subst (λ z. IsLawful s (AntiJoin p r c) (z, fell.Size)) m.2 (anti-better On s c m.0 p r t own (λ ks k. place-better On f sound ks c m.0 m.1 k))
sound-lawful On f sound s _ q own t h = cc
