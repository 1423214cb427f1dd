-- Kinds of lists of plans, from their first.
use Rattle.std.proofs.Common.{◌≡◌, true, ◌&&◌, List, [], ◌∷◌, ◌++◌, refl, append_assoc, ◌≤◌, arith, length, map}
use Rattle.std.proofs.Math.Bool.{and-false}
use Rattle.std.specs.Prelude.{Option, Some, None, is_some, option_map, if◌then◌else◌}
use Rattle.std.specs.Cmp.Lexicographic.{pointwise}
use Rattle.vkg_lists.specs.Options.{with_first}
use Rattle.vkg_lists.proofs.Counts.{eq_itself}
use Rattle.vkg_lists.proofs.Onto.{onto, onto_none, joined_nil}
use Rattle.vkg_lists.proofs.Tests.{list_test}
use Rattle.vkg_expr.specs.Typing.{same_kind}
use Rattle.vkg_plan.specs.declared.plan.Plan.{Plan as PlanValue}
use Rattle.vkg_plan.specs.Kinds.{Kinds, Tables, alike, are_alike, beside_all, is_alike, side_by_side, kinds_of_each, plan_kinds}
use Rattle.vkg_plan.specs.Plan.{plans}
use Rattle.vkg_plan.specs.Seen.{plan_seen}
use Rattle.vkg_expr.proofs.ValueFits.{kinds_apart}

pub themselves : (ks : Kinds) → pointwise same_kind ks ks ≡ true
themselves ks = eq_itself (list_test kinds_apart) ks

pub are_alike-more : (ks : Kinds) (a : Option Kinds) (o : Option (List Kinds)) → are_alike ks (with_first a o) ≡ (is_alike ks a && are_alike ks o)
are_alike-more ks None o = refl
are_alike-more ks (Some ls) None = rw and-false
are_alike-more ks (Some ls) (Some kss) = refl

pub alike-more : (ks : Kinds) (o : Option (List Kinds)) → alike (with_first (Some ks) o) ≡ (if are_alike ks o then Some ks else None)
alike-more ks None = refl
alike-more ks (Some kss) = refl

pub beside_all-more : (a : Option Kinds) (o : Option (List Kinds)) → beside_all (with_first a o) ≡ option_map side_by_side (with_first a o)
beside_all-more None o = refl
beside_all-more (Some ks) None = refl
beside_all-more (Some ks) (Some kss) = refl

pub beside_some : (o : Option (List Kinds)) → is_some (beside_all o) ≡ true → is_some o ≡ true
beside_some None e = cc
beside_some (Some kss) e = refl

pub alike_some : (o : Option (List Kinds)) → is_some (alike o) ≡ true → is_some o ≡ true
alike_some None e = cc
alike_some (Some kss) e = refl

pub onto-nil : (ks : Kinds) → onto ks (Some []) ≡ Some ks
onto-nil ks = joined_nil (Some ks)

pub onto-more : (ks ls : Kinds) (o : Option (List Kinds)) → onto ks (option_map side_by_side (with_first (Some ls) o)) ≡ onto (ks ++ ls) (option_map side_by_side o)
onto-more ks ls None = refl
onto-more ks ls (Some kss) = rw append_assoc

pub join-some : (s : Tables) (ps : List PlanValue) → 1 ≤ length ps → beside_all (kinds_of_each s (plans (map plan_seen ps))) ≡ option_map side_by_side (kinds_of_each s (plans (map plan_seen ps)))
join-some s [] h = absurd (omega arith)
join-some s (p ∷ ps) h = beside_all-more (plan_kinds s (plan_seen p)) (kinds_of_each s (plans (map plan_seen ps)))

pub ruleset plan_lists = (are_alike-more, alike-more, beside_all-more, onto_none, onto-nil, onto-more)
