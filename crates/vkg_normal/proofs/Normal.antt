-- The normal form is the rules' one end, and keeps what each of them keeps.
use Rattle.std.proofs.Common.{◌≡◌, ◌∙◌, subst}
use Rattle.std.proofs.lemmas.List.Sorted.{IsPermutation-trans}
use Rattle.vkg_schema.specs.Meets.{IsWellFormed}
use Rattle.vkg_plan.specs.Kinds.{Tables}
use Rattle.vkg_plan.specs.Plan.{Plan}
use Rattle.vkg_rules.specs.Steps.{IsTyped, Keeps}
use Rattle.vkg_chains.specs.Ends.{IsEndOf, end_of}
use Rattle.vkg_chains.specs.FixLaw.{typed-kept}
use Rattle.vkg_chains.proofs.EndLemmas.{end-is, end-keeps, end-settled}
use Rattle.vkg_normal.specs.Laws.{HasNormalForm}
use Rattle.vkg_normal.specs.NormalForm.{IsNormal, IsNormalFormOf, all_rules, first_rules, first_rules-fall, first_rules-keep, normal_form, rules-fall, rules-keep}
use Rattle.vkg_normal.proofs.OneEnd.{only-end}

pub keeps_typed : (s : Tables) (p q : Plan) → IsTyped s p → Keeps s p q → IsTyped s q
keeps_typed s p q t k = typed-kept s p q t k.kinds

pub keeps_then : (s : Tables) (p q r : Plan) → Keeps s p q → Keeps s q r → Keeps s p r
keeps_then s p q r a b = record { kinds = b.kinds ∙ a.kinds; rows = λ db m. IsPermutation-trans _ _ _ (a.rows db m) (b.rows db m) }

pub ends_then : (s : Tables) (p q r : Plan) → IsEndOf first_rules s p q → IsEndOf all_rules s q r → IsNormalFormOf s p r
ends_then s p q r a b = record { between = q; of_first = a; of_all = b }

module _ (s : Tables) (form : IsWellFormed s) (p : Plan) (t : IsTyped s p) where
  abbrev between : Plan
  between = end_of first_rules s p

  first-keeps : Keeps s p between
  first-keeps = end-keeps first_rules first_rules-keep first_rules-fall s form p t

  between-typed : IsTyped s between
  between-typed = keeps_typed s p between t first-keeps

  first-end : IsEndOf first_rules s p between
  first-end = end-is first_rules first_rules-keep first_rules-fall s form p t

  last-end : IsEndOf all_rules s between (normal_form s p)
  unfolding normal_form
  last-end = end-is all_rules rules-keep rules-fall s form between between-typed

  pub normal-end : IsNormalFormOf s p (normal_form s p)
  normal-end = ends_then s p between (normal_form s p) first-end last-end

  only-normal : (q : Plan) → IsNormalFormOf s p q → q ≡ normal_form s p
  only-normal q e =
      let same = only-end first_rules s p e.between between e.of_first first-end in
      only-end all_rules s between q (normal_form s p) (subst (λ b. IsEndOf all_rules s b q) same e.of_all) last-end

  pub normal-settled : IsNormal s (normal_form s p)
  unfolding normal_form
  normal-settled = end-settled all_rules rules-keep rules-fall s form between between-typed

  pub normal-keeps : Keeps s p (normal_form s p)
  unfolding normal_form
  normal-keeps = keeps_then s p between (end_of all_rules s between) first-keeps (end-keeps all_rules rules-keep rules-fall s form between between-typed)

  pub normal-typed : IsTyped s (normal_form s p)
  normal-typed = keeps_typed s p (normal_form s p) t normal-keeps

  pub has_normal_form : HasNormalForm s p
  has_normal_form = record {
    end = normal-end;
    only = only-normal;
    settled = normal-settled;
    typed = normal-typed;
    keeps = normal-keeps;
  }
