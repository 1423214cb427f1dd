-- The columns of the members until a place, and of the one there.
use Rattle.std.proofs.Common.{◌≡◌, ◌∙◌, ℕ, ◌+◌, ◌<◌, List, [], ◌∷◌, ◌++◌, length, length-append, map, take, get_or, Option, sym, ap, arith}
use Rattle.std.specs.Option.{option_map_or}
use Rattle.std.proofs.lemmas.List.{map-append, take_more}
use Rattle.vkg_plan.specs.declared.plan.Plan.{Plan as PlanValue}
use Rattle.vkg_plan.specs.Kinds.{Kinds, Tables, plan_kinds, width}
use Rattle.vkg_plan.specs.Seen.{plan_seen}
use Rattle.vkg_keys.specs.Members.{widths}
use Rattle.vkg_keys.proofs.Places.{widths-append}

pub widths-here : (s : Tables) (ps : List PlanValue) (i : ℕ) (p : PlanValue) → i < length ps → p ≡ get_or ps i p →
    widths s (map plan_seen (take (i + 1) ps)) ≡ widths s (map plan_seen (take i ps)) + width s (plan_seen p)
widths-here s ps i p below is =
    ap (λ l. widths s (map plan_seen l)) (take_more ps i p below)
    ∙ ap (widths s) (map-append plan_seen (take i ps) (get_or ps i p ∷ []))
    ∙ widths-append s (map plan_seen (take i ps)) (plan_seen (get_or ps i p) ∷ [])
    ∙ ap (λ q. widths s (map plan_seen (take i ps)) + (width s (plan_seen q) + 0)) (sym is)
    ∙ ap (λ w. widths s (map plan_seen (take i ps)) + w) (omega arith)

pub counted : (s : Tables) (ps : List PlanValue) (i : ℕ) (p : PlanValue) (old own : Kinds) {o : Option Kinds} {all : Kinds} → i < length ps → p ≡ get_or ps i p → o ≡ plan_kinds s (plan_seen p) → all ≡ old ++ own → length own ≡ option_map_or length o 0 →
    length old ≡ widths s (map plan_seen (take i ps)) → length all ≡ widths s (map plan_seen (take (i + 1) ps))
counted s ps i p old own below is kinds more long h =
    ap length more
    ∙ length-append old own
    ∙ (λ j. h j + long j)
    ∙ (λ j. widths s (map plan_seen (take i ps)) + option_map_or length (kinds j) 0)
    ∙ sym (widths-here s ps i p below is)
