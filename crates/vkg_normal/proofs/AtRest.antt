-- Nodes over a left join to which none of the first rules applies: none applies with another left side of these columns, where they may rest.
use Rattle.std.proofs.Common.{◌≡◌, true, false, List, [], ◌++◌, length, Option, Some, None, refl, sym, ap, subst}
use Rattle.std.specs.Prelude.{Bool, ◌&&◌, not, option_map, if◌then◌else◌}
use Rattle.std.specs.Bool.{then_some}
use Rattle.std.specs.List.{list_all, list_any}
use Rattle.std.specs.Option.{option_map_or, option_or}
use Rattle.vkg_lists.proofs.Onto.{map_lacking}
use Rattle.vkg_lists.proofs.Results.{some_of}
use Rattle.vkg_lists.specs.Options.{joined}
use Rattle.vkg_expr.specs.Expr.{Expr}
use Rattle.vkg_expr.specs.Logic.{and_then, conjuncts}
use Rattle.vkg_expr.specs.Places.{first_place}
use Rattle.vkg_plan.specs.Kinds.{Kinds, Tables, checked, plan_kinds, width}
use Rattle.vkg_plan.specs.Plan.{Plan, Nil, Scan, Project, Left}
use Rattle.vkg_rules.proofs.Outcomes.{neither}
use Rattle.vkg_rules.specs.declared.rewrite.Fell.TheVariants as fell
use Rattle.vkg_rules.specs.Parts.{typed_left, typed_project}
use Rattle.vkg_rules.specs.Steps.{IsTyped, Step}
use Rattle.vkg_steps.specs.Rests.{Rests}
use Rattle.vkg_conditions.proofs.Told.{condition-stays}
use Rattle.vkg_conditions.specs.Cases.{smaller}
use Rattle.vkg_conditions.specs.SimplifyCondition.{first_of, simplify_condition}
use Rattle.vkg_equalities.proofs.Conjuncts.{none_asked}
use Rattle.vkg_equalities.specs.Decided.{asks_terms}
use Rattle.vkg_equalities.specs.TermEquality.{term_equality}
use Rattle.vkg_key_joins.specs.ParentJoin.{parent_join}
use Rattle.vkg_lifts.specs.LiftProjects.{Parts, above, keeps_nulls, lift_projects, parts_between}
use Rattle.vkg_moves.specs.LeftToJoin.{left_to_join}
use Rattle.vkg_moves.specs.MergeProjects.{are_in_place, merge_projects}
use Rattle.vkg_moves.specs.MergeSelects.{Part, merge_selects, part_behind}
use Rattle.vkg_nulls.specs.KnownColumns.{known_columns, own_known}
use Rattle.vkg_nulls.specs.NullTests.{known_column, of_constant, of_strict}
use Rattle.vkg_nulls.specs.SimplifyNull.{changed_by, simplify_null}
use Rattle.vkg_shapes.specs.FalseCondition.{false_condition, is_never}
use Rattle.vkg_shapes.specs.Parts.{padded}
use Rattle.vkg_shapes.specs.PropagateEmpty.{is_nothing, propagate_empty}
use Rattle.vkg_shapes.specs.SelectTrue.{select_true}
use Rattle.vkg_spreads.specs.DistributeUnion.{distribute_union}
use Rattle.vkg_unions.specs.EqualMembers.{equal_members}
use Rattle.vkg_unique.specs.UnusedLeft.{is_over_first, keys_of, ties_key, unused_left, without_right}
use Rattle.vkg_normal.specs.NormalForm.{anti_joins, conditions, distincts, first_rules, flatten, key_joins, left_joins, moves, removals}
use Rattle.vkg_normal.specs.Resting.{may_rest}
use Rattle.vkg_normal.proofs.Flags.{left-flags}

-- ---- the rules one by one

pub record NoneOf (s : Tables) (p : Plan) : Type 0 where
  pub never : false_condition s p ≡ None
  pub selects : merge_selects s p ≡ None
  pub projects : merge_projects s p ≡ None
  pub lifts : lift_projects s p ≡ None
  pub empty : propagate_empty s p ≡ None
  pub unused : unused_left s p ≡ None
  pub condition : simplify_condition s p ≡ None
  pub null : simplify_null s p ≡ None

none_of : (s : Tables) (p : Plan) → first_rules s p ≡ None → NoneOf s p
unfolding first_rules moves removals left_joins conditions anti_joins
none_of s p e =
    let a = neither (select_true s p) _ e in
    let b = neither (false_condition s p) _ a.1 in
    let m = neither (moves s p) _ b.1 in
    let k = neither (merge_selects s p) _ m.0 in
    let l = neither (merge_projects s p) (lift_projects s p) k.1 in
    let h = neither (propagate_empty s p) _ m.1 in
    let f = neither (flatten s p) _ h.1 in
    let u = neither (distribute_union s p) _ f.1 in
    let v = neither (removals s p) _ u.1 in
    let z = neither (conditions s p) (anti_joins s p) v.1 in
    let d = neither (distincts s p) _ v.0 in
    let j = neither (key_joins s p) (left_joins s p) d.1 in
    let w = neither (left_to_join s p) _ j.1 in
    let x = neither (equal_members s p) (unused_left s p) w.1 in
    let t = neither (term_equality s p) _ z.0 in
    let y = neither (simplify_condition s p) (simplify_null s p) t.1 in
    record {
      never = b.0;
      selects = k.0;
      projects = l.0;
      lifts = l.1;
      empty = h.0;
      unused = x.1;
      condition = y.0;
      null = y.1;
    }

-- ---- of a left join

left-none : (s : Tables) (p q : Plan) (c : Expr) → NoneOf s (Left p q c) → term_equality s (Left p q c) ≡ None → distribute_union s (Left p q c) ≡ None → first_rules s (Left p q c) ≡ None
unfolding first_rules moves flatten removals distincts key_joins left_joins conditions anti_joins
left-none s p q c n t u =
    λ i. option_or (n.never i) (option_or (option_or (n.selects i) (n.lifts i)) (option_or (n.empty i) (option_or (u i) (option_or (option_or (t i) (option_or (n.condition i) (n.null i))) None))))

project-none : (s : Tables) (es : List Expr) (p : Plan) → NoneOf s (Project es p) → parent_join s (Project es p) ≡ None → distribute_union s (Project es p) ≡ None → first_rules s (Project es p) ≡ None
unfolding first_rules moves flatten removals distincts key_joins left_joins conditions anti_joins
project-none s es p n j u =
    λ i. option_or (option_or (n.projects i) (n.lifts i)) (option_or (n.empty i) (option_or (u i) (option_or (option_or (j i) (n.unused i)) (option_or (option_or (n.condition i) (n.null i)) None))))

-- ---- what depends on the number of columns alone, and on the rest of the node

under : {A B : Type 0} (b : Bool) (o : Option A) (p : Option B) → (o ≡ None → p ≡ None) → (if b then o else None) ≡ None → (if b then p else None) ≡ None
under true o p f e = f e
under false o p f e = refl

not-some : {A B : Type 0} (b : Bool) (x : A) (y : B) → then_some b x ≡ None → then_some b y ≡ None
not-some true x y e = cc
not-some false x y e = refl

padded-none : (o n : Option Kinds) (p q : Plan) → padded o n p ≡ None → padded o n q ≡ None
padded-none None n p q e = refl
padded-none (Some ks) None p q e = refl
padded-none (Some ks) (Some ls) p q e = cc

-- another left side of these columns
module _ (s : Tables) (x l y : Plan) (d : Expr) (same : plan_kinds s l ≡ plan_kinds s x) where
  abbrev old : Plan
  old = Left x y d

  abbrev new : Plan
  new = Left l y d

  kinds-same : plan_kinds s new ≡ plan_kinds s old
  kinds-same = ap (λ (o : Option Kinds). checked d (joined o (plan_kinds s y))) same

  width-same : width s new ≡ width s old
  width-same = ap (λ (o : Option Kinds). option_map_or length o 0) kinds-same

  inner-width : width s l ≡ width s x
  inner-width = ap (λ (o : Option Kinds). option_map_or length o 0) same

  padded-same : (q : Plan) → padded (plan_kinds s old) (plan_kinds s q) old ≡ None → padded (plan_kinds s new) (plan_kinds s q) new ≡ None
  padded-same q e = subst (λ (o : Option Kinds). padded o (plan_kinds s q) new ≡ None) (sym kinds-same) (padded-none (plan_kinds s old) (plan_kinds s q) old new e)

  flags-same : IsTyped s x → known_columns s new ≡ known_columns s old
  flags-same t = let a = some_of (plan_kinds s x) t in left-flags s x l y a.0 a.1 same

  -- ---- on the left of a left join
  module _ (q : Plan) (c : Expr) where
    selects-same : merge_selects s (Left old q c) ≡ None → merge_selects s (Left new q c) ≡ None
    selects-same e =
        ap (option_map (λ (z : Part). (Left new z.0 (and_then z.1 c), fell.Weight)))
        (subst (λ n. part_behind n q ≡ None) (sym width-same) (map_lacking (λ (z : Part). (Left old z.0 (and_then z.1 c), fell.Weight)) (part_behind (width s old) q) e))

    lifts-same : lift_projects s (Left old q c) ≡ None → lift_projects s (Left new q c) ≡ None
    lifts-same e =
        under (keeps_nulls q) (option_map (λ (z : Parts). above z.0 (Left old z.1) c) (parts_between s (width s old) 0 q)) (option_map (λ (z : Parts). above z.0 (Left new z.1) c) (parts_between s (width s new) 0 q))
        (λ h. ap (option_map (λ (z : Parts). above z.0 (Left new z.1) c))
        (subst (λ n. parts_between s n 0 q ≡ None) (sym width-same) (map_lacking (λ (z : Parts). above z.0 (Left old z.1) c) (parts_between s (width s old) 0 q) h))) e

    changed-left : (f : Expr → Option Expr) → changed_by f (Left old q c) ≡ None → changed_by f (Left new q c) ≡ None
    changed-left f e = ap (λ (o : Option Expr). option_map smaller (option_map (Left new q) o)) (map_lacking (Left old q) (first_place f c) (map_lacking smaller (option_map (Left old q) (first_place f c)) e))

    null-left : IsTyped s x → simplify_null s (Left old q c) ≡ None → simplify_null s (Left new q c) ≡ None
    unfolding simplify_null
    null-left t e =
        let a = neither (changed_by (known_column (own_known s (Left old q c))) (Left old q c)) _ e in
        let b = neither (changed_by of_constant (Left old q c)) (changed_by of_strict (Left old q c)) a.1 in
        let flags : own_known s (Left new q c) ≡ own_known s (Left old q c) = ap (λ (fs : List Bool). fs ++ known_columns s q) (flags-same t) in
        let known = subst (λ (fs : List Bool). changed_by (known_column fs) (Left new q c) ≡ None) (sym flags) (changed-left (known_column (own_known s (Left old q c))) a.0) in
        let constant = changed-left of_constant b.0 in
        let strict = changed-left of_strict b.1 in
        λ i. option_or (known i) (option_or (constant i) (strict i))

    left-rests : IsTyped s x → list_any asks_terms (conjuncts c) ≡ false → first_rules s (Left old q c) ≡ None → first_rules s (Left new q c) ≡ None
    left-rests t h e =
        let n = none_of s (Left old q c) e in
        left-none s new q c
        (record {
          never = under (is_never c) (padded (plan_kinds s old) (plan_kinds s q) old) (padded (plan_kinds s new) (plan_kinds s q) new) (padded-same q) n.never;
          selects = selects-same n.selects;
          projects = refl;
          lifts = lifts-same n.lifts;
          empty = under (is_nothing q) (padded (plan_kinds s old) (plan_kinds s q) old) (padded (plan_kinds s new) (plan_kinds s q) new) (padded-same q) n.empty;
          unused = refl;
          condition = condition-stays s 0 [] (Left new q c) ((old, Nil), n.condition);
          null = null-left t n.null;
        })
        (ap (option_map (λ (z : Expr). (Left new q z, fell.Equalities))) (none_asked s (Left new q c) c h))
        refl

  -- ---- below a Project
  module _ (es : List Expr) where
    unused-same : (z : Plan) → without_right s es x d z ≡ None → without_right s es l d z ≡ None
    unused-same (Scan table) e =
        subst (λ n. then_some {T = Step} (ties_key n d (keys_of s table) && list_all (is_over_first n) es) (Project es l, fell.Weight) ≡ None) (sym inner-width)
        (not-some {A = Step} {B = Step} (ties_key (width s x) d (keys_of s table) && list_all (is_over_first (width s x)) es) (Project es x, fell.Weight) (Project es l, fell.Weight) e)
    unused-same _ e = refl

    projects-same : merge_projects s (Project es old) ≡ None → merge_projects s (Project es new) ≡ None
    projects-same e =
        subst (λ n. then_some {T = Step} (are_in_place n es) (new, fell.Weight) ≡ None) (sym width-same)
        (not-some {A = Step} {B = Step} (are_in_place (width s old) es) (old, fell.Weight) (new, fell.Weight) e)

    changed-project : (f : Expr → Option Expr) → changed_by f (Project es old) ≡ None → changed_by f (Project es new) ≡ None
    changed-project f e =
        ap (λ (o : Option (List Expr)). option_map smaller (option_map (λ ds. Project ds new) o))
        (map_lacking (λ ds. Project ds old) (first_of f es) (map_lacking smaller (option_map (λ ds. Project ds old) (first_of f es)) e))

    null-project : IsTyped s x → simplify_null s (Project es old) ≡ None → simplify_null s (Project es new) ≡ None
    unfolding simplify_null
    null-project t e =
        let a = neither (changed_by (known_column (own_known s (Project es old))) (Project es old)) _ e in
        let b = neither (changed_by of_constant (Project es old)) (changed_by of_strict (Project es old)) a.1 in
        let known = subst (λ (fs : List Bool). changed_by (known_column fs) (Project es new) ≡ None) (sym (flags-same t)) (changed-project (known_column (own_known s (Project es old))) a.0) in
        let constant = changed-project of_constant b.0 in
        let strict = changed-project of_strict b.1 in
        λ i. option_or (known i) (option_or (constant i) (strict i))

    project-rests : IsTyped s x → first_rules s (Project es old) ≡ None → first_rules s (Project es new) ≡ None
    project-rests t e =
        let n = none_of s (Project es old) e in
        project-none s es new
        (record {
          never = refl;
          selects = refl;
          projects = projects-same n.projects;
          lifts = refl;
          empty = refl;
          unused = unused-same y n.unused;
          condition = condition-stays s 0 [] (Project es new) ((x, Nil), n.condition);
          null = null-project t n.null;
        })
        refl
        refl

-- ---- the first rules rest where they may

is-not : (b : Bool) → not b ≡ true → b ≡ false
is-not true e = cc
is-not false e = refl

pub first-rest : (s : Tables) (p : Plan) → IsTyped s p → first_rules s p ≡ None → may_rest p ≡ true → Rests s (first_rules s) p
first-rest s (Left (Left x y d) q c) t e m =
    let inner = (typed_left s x y d (typed_left s (Left x y d) q c t).0).0 in
    λ l k. left-rests s x l y d k q c inner (is-not (list_any asks_terms (conjuncts c)) m) e
first-rest s (Left _ q c) t e m = cc
first-rest s (Project es (Left x y d)) t e m =
    let inner = (typed_left s x y d (typed_project s es (Left x y d) t)).0 in
    λ l k. project-rests s x l y d k es inner e
first-rest s (Project es _) t e m = cc
first-rest s _ t e m = cc
