-- The Scans among members, one member at a time.
use Rattle.std.proofs.Common.{◌≡◌, ◌∙◌, ℕ, ◌+◌, ◌<◌, ◌≤◌, List, [], ◌∷◌, ◌++◌, append-nil, append_assoc, drop, get_or, length, map, take, refl, sym, ap, add-one, drop-cons}
use Rattle.std.proofs.lemmas.List.{drop_all, map-append, take_more}
use Rattle.vkg_plan.specs.declared.plan.Plan.{Plan as PlanValue}
use Rattle.vkg_plan.specs.Plan.{Plan, Unit as UnitPlan, Empty, Scan, Select, Project, Join, Left, AntiJoin, UnionAll, Distinct}
use Rattle.vkg_plan.specs.Seen.{plan_seen}
use Rattle.vkg_keys.specs.declared.scanning.ScanAt.{ScanAt}
use Rattle.vkg_keys.specs.Members.{scan_between, scans}
use Rattle.vkg_keys.specs.ScansSeen.{place_in, scan_if}

at-place : (ps : List PlanValue) (i : ℕ) (p : Plan) → map (place_in ps) (scan_if i p) ≡ scan_between (map plan_seen (take i ps)) p (map plan_seen (drop (i + 1) ps))
at-place ps i UnitPlan = refl
at-place ps i (Empty ks) = refl
at-place ps i (Scan table) = refl
at-place ps i (Select c p) = refl
at-place ps i (Project es p) = refl
at-place ps i (Join qs c) = refl
at-place ps i (Left p q c) = refl
at-place ps i (AntiJoin p q c) = refl
at-place ps i (UnionAll qs) = refl
at-place ps i (Distinct p) = refl

left-here : (ps : List PlanValue) (i : ℕ) (p : PlanValue) → i < length ps → p ≡ get_or ps i p →
    scans (map plan_seen (take i ps)) (map plan_seen (drop i ps)) ≡ scan_between (map plan_seen (take i ps)) (plan_seen p) (map plan_seen (drop (i + 1) ps)) ++ scans (map plan_seen (take (i + 1) ps)) (map plan_seen (drop (i + 1) ps))
left-here ps i p below is =
    let rest : drop i ps ≡ p ∷ drop (i + 1) ps = drop-cons ps i p below ∙ ap (λ n. get_or ps i p ∷ drop n ps) (sym (add-one i)) ∙ ap (λ q. q ∷ drop (i + 1) ps) (sym is) in
    let more : map plan_seen (take (i + 1) ps) ≡ map plan_seen (take i ps) ++ plan_seen p ∷ [] =
    ap (map plan_seen) (take_more ps i p below) ∙ map-append plan_seen (take i ps) (get_or ps i p ∷ []) ∙ ap (λ q. map plan_seen (take i ps) ++ plan_seen q ∷ []) (sym is) in
    ap (λ l. scans (map plan_seen (take i ps)) (map plan_seen l)) rest
    ∙ ap (λ l. scan_between (map plan_seen (take i ps)) (plan_seen p) (map plan_seen (drop (i + 1) ps)) ++ scans l (map plan_seen (drop (i + 1) ps))) (sym more)

pub one-scanned : (ps : List PlanValue) (i : ℕ) (p : PlanValue) (old : List ScanAt) {new : List ScanAt} → i < length ps → p ≡ get_or ps i p → new ≡ old ++ scan_if i (plan_seen p) →
    map (place_in ps) old ++ scans (map plan_seen (take i ps)) (map plan_seen (drop i ps)) ≡ scans [] (map plan_seen ps) →
    map (place_in ps) new ++ scans (map plan_seen (take (i + 1) ps)) (map plan_seen (drop (i + 1) ps)) ≡ scans [] (map plan_seen ps)
one-scanned ps i p old below is more h =
    let rest = scans (map plan_seen (take (i + 1) ps)) (map plan_seen (drop (i + 1) ps)) in
    ap (λ xs. map (place_in ps) xs ++ rest) more
    ∙ ap (λ xs. xs ++ rest) (map-append (place_in ps) old (scan_if i (plan_seen p)))
    ∙ append_assoc (map (place_in ps) old) (map (place_in ps) (scan_if i (plan_seen p))) rest
    ∙ ap (λ xs. map (place_in ps) old ++ (xs ++ rest)) (at-place ps i (plan_seen p))
    ∙ ap (λ xs. map (place_in ps) old ++ xs) (sym (left-here ps i p below is))
    ∙ h

pub none-left : (ps : List PlanValue) (i : ℕ) (all : List ScanAt) → length ps ≤ i → map (place_in ps) all ++ scans (map plan_seen (take i ps)) (map plan_seen (drop i ps)) ≡ scans [] (map plan_seen ps) → map (place_in ps) all ≡ scans [] (map plan_seen ps)
none-left ps i all end h = sym (append-nil (map (place_in ps) all)) ∙ ap (λ l. map (place_in ps) all ++ scans (map plan_seen (take i ps)) (map plan_seen l)) (sym (drop_all i ps end)) ∙ h

pub nothing_more : (found : List ScanAt) → found ++ [] ≡ found
nothing_more found = append-nil found
