-- The steps of reading a mapping.
use Rattle.std.proofs.Common.{◌≡◌, ℕ, ◌∙◌, ap, List, Ok, Err, true, false, cond, nat_lt}
use Rattle.std.specs.Prelude.{sum_by}
use Rattle.vkg_maps.specs.declared.mapping.Mapping.{Mapping}
use Rattle.vkg_maps.specs.declared.mapping.TriplesMap.{TriplesMap}
use Rattle.vkg_maps.specs.QuadRules.{rule_limit}
use Rattle.vkg_r2rml.specs.RuleCount.{rules_of_map}
use Rattle.vkg_r2rml.specs.Mapping.{fault, of_maps}
use Rattle.vkg_r2rml.proofs.RuleCount.{rule_count}

-- whether there are too many rules, by the count
pub too_many : (base : List ℕ) (maps : List TriplesMap) → nat_lt rule_limit (sum_by rules_of_map maps) ≡ true → of_maps base (Ok maps) ≡ Err (fault 22 0)
too_many base maps e =
    let made : Mapping = record { base = base; maps = maps } in
    ap (λ b. cond b (Err (fault 22 0)) (Ok made)) (ap (nat_lt rule_limit) (rule_count made) ∙ e)

pub few_enough : (base : List ℕ) (maps : List TriplesMap) → nat_lt rule_limit (sum_by rules_of_map maps) ≡ false → of_maps base (Ok maps) ≡ Ok (record { base = base; maps = maps })
few_enough base maps e =
    let made : Mapping = record { base = base; maps = maps } in
    ap (λ b. cond b (Err (fault 22 0)) (Ok made)) (ap (nat_lt rule_limit) (rule_count made) ∙ e)
