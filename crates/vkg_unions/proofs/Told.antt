-- What follows for a plan from what a rule did not do to it before it became another at a place.
use Rattle.std.proofs.Common.{◌≡◌, ◌∙◌, ℕ, zero, suc, ◌+◌, ◌<◌, ◌≤◌, Bool, true, false, not, ◌&&◌, List, [], ◌∷◌, ◌++◌, map, take, drop, length, get_or, Option, Some, None, refl, sym, ap, arith, append_assoc, append-nil, add-one}
use Rattle.std.specs.Prelude.{is_none, option_map, ◌||◌, if◌then◌else◌}
use Rattle.std.specs.List.{list_any}
use Rattle.std.specs.Option.{option_or}
use Rattle.vkg_lists.proofs.Bools.{and_parts}
use Rattle.vkg_lists.proofs.Onto.{map_lacking}
use Rattle.vkg_expr.specs.Expr.{Expr}
use Rattle.vkg_plan.specs.declared.plan.Plan.{Plan as PlanValue}
use Rattle.vkg_plan.specs.Kinds.{Tables}
use Rattle.vkg_plan.specs.Plan.{Plan, Plans, Unit as UnitPlan, Empty, Scan, Select, Project, Join, Left, AntiJoin, UnionAll, Distinct, Nil, More, each}
use Rattle.vkg_plan.specs.Seen.{plan_seen}
use Rattle.vkg_rules.proofs.Outcomes.{neither}
use Rattle.vkg_rules.specs.Everywhere.{among, around, everywhere, first_of_list, in_members, later_in_list}
use Rattle.vkg_rules.specs.Places.{DidNotApply, Others, before_all, with_at, with_member}
use Rattle.vkg_rules.specs.StepSeen.{plans_seen}
use Rattle.vkg_rules.specs.Steps.{ListStep, Step}
use Rattle.vkg_unions.specs.DistinctDistinct as distinct
use Rattle.vkg_unions.specs.DistinctDistinct.{distinct_distinct, none_at, none_in, without_distinct}
use Rattle.vkg_unions.specs.EqualMembers as equal
use Rattle.vkg_unions.specs.EqualMembers.{distinct_union, equal_members, is_alone, without_repeat}
use Rattle.vkg_unions.specs.SamePlan.{same_plan}

-- ---- DistinctDistinct

none-is : {A : Type 0} (o : Option A) → is_none o ≡ true → o ≡ None
none-is None e = refl
none-is (Some x) e = cc

pub none_mapped : {A B : Type 0} (f : A → B) (o : Option A) → is_none (option_map f o) ≡ is_none o
none_mapped f None = refl
none_mapped f (Some x) = refl

none-map : {A B : Type 0} (f : A → B) (o : Option A) → o ≡ None → option_map f o ≡ None
none-map f o e = ap (option_map f) e

abbrev below : Plan → Option Step
below p = everywhere without_distinct p

abbrev in_all : Plans → Option ListStep
in_all ps = in_members without_distinct ps

members-apart : (p : Plan) (ps : Plans) → in_all (More p ps) ≡ None → (below p ≡ None) × (in_all ps ≡ None)
members-apart p ps e =
    let n = neither (option_map (first_of_list ps) (below p)) (option_map (later_in_list p) (in_all ps)) e in
    (map_lacking (first_of_list ps) (below p) n.0, map_lacking (later_in_list p) (in_all ps) n.1)

members-together : (p : Plan) (ps : Plans) → below p ≡ None → in_all ps ≡ None → in_all (More p ps) ≡ None
members-together p ps e h =
    ap (λ o. option_or (option_map (first_of_list ps) o) (option_map (later_in_list p) (in_all ps))) e ∙ ap (option_map (later_in_list p)) h

all-behind : (qs ps : Plans) → in_all (before_all qs ps) ≡ None → in_all ps ≡ None
all-behind Nil ps e = e
all-behind (More q qs) ps e = all-behind qs ps (members-apart q (before_all qs ps) e).1

sides-apart : (p q : Plan) (c : Expr) → below (Left p q c) ≡ None → (below p ≡ None) × (below q ≡ None)
sides-apart p q c e =
    let n = neither (option_map (around (λ x. Left x q c)) (below p)) (option_map (around (λ x. Left p x c)) (below q)) e in
    (map_lacking (around (λ x. Left x q c)) (below p) n.0, map_lacking (around (λ x. Left p x c)) (below q) n.1)

sides-together : (p q : Plan) (c : Expr) → below p ≡ None → below q ≡ None → below (Left p q c) ≡ None
sides-together p q c e h =
    ap (λ o. option_or (option_map (around (λ x. Left x q c)) o) (option_map (around (λ x. Left p x c)) (below q))) e ∙ ap (option_map (around (λ x. Left p x c))) h

halves-apart : (p q : Plan) (c : Expr) → below (AntiJoin p q c) ≡ None → (below p ≡ None) × (below q ≡ None)
halves-apart p q c e =
    let n = neither (option_map (around (λ x. AntiJoin x q c)) (below p)) (option_map (around (λ x. AntiJoin p x c)) (below q)) e in
    (map_lacking (around (λ x. AntiJoin x q c)) (below p) n.0, map_lacking (around (λ x. AntiJoin p x c)) (below q) n.1)

halves-together : (p q : Plan) (c : Expr) → below p ≡ None → below q ≡ None → below (AntiJoin p q c) ≡ None
halves-together p q c e h =
    ap (λ o. option_or (option_map (around (λ x. AntiJoin x q c)) o) (option_map (around (λ x. AntiJoin p x c)) (below q))) e ∙ ap (option_map (around (λ x. AntiJoin p x c))) h

mutual
  none-there : (path : List ℕ) (y : Others) (p : Plan) → none_at path p ≡ true → below (with_at path y p) ≡ None → below p ≡ None
  none-there [] y p h e = none-is (below p) h
  none-there (at ∷ path) y UnitPlan h e = e
  none-there (at ∷ path) y (Empty ks) h e = e
  none-there (at ∷ path) y (Scan table) h e = e
  none-there (at ∷ path) y (Select c p) h e =
      none-map (around (Select c)) (below p) (none-there (at ∷ path) y p h (map_lacking (around (Select c)) (below (with_at (at ∷ path) y p)) e))
  none-there (at ∷ path) y (Project es p) h e =
      none-map (around (Project es)) (below p) (none-there (at ∷ path) y p h (map_lacking (around (Project es)) (below (with_at (at ∷ path) y p)) e))
  none-there (at ∷ path) y (Join ps c) h e =
      none-map (among (λ qs. Join qs c)) (in_all ps) (none-within at path y ps h (map_lacking (among (λ qs. Join qs c)) (in_all (with_member at path y ps)) e))
  none-there (zero ∷ []) y (Left p q c) h e = sides-together p q c (none-is (below p) h) (sides-apart y.0 q c e).1
  none-there (zero ∷ n ∷ path) y (Left p q c) h e = let s = sides-apart (with_at (n ∷ path) y p) q c e in sides-together p q c (none-there (n ∷ path) y p h s.0) s.1
  none-there (suc at ∷ []) y (Left p q c) h e = sides-together p q c (sides-apart p y.0 c e).0 (none-is (below q) h)
  none-there (suc at ∷ n ∷ path) y (Left p q c) h e = let s = sides-apart p (with_at (n ∷ path) y q) c e in sides-together p q c s.0 (none-there (n ∷ path) y q h s.1)
  none-there (zero ∷ []) y (AntiJoin p q c) h e = halves-together p q c (none-is (below p) h) (halves-apart y.0 q c e).1
  none-there (zero ∷ n ∷ path) y (AntiJoin p q c) h e = let s = halves-apart (with_at (n ∷ path) y p) q c e in halves-together p q c (none-there (n ∷ path) y p h s.0) s.1
  none-there (suc at ∷ []) y (AntiJoin p q c) h e = halves-together p q c (halves-apart p y.0 c e).0 (none-is (below q) h)
  none-there (suc at ∷ n ∷ path) y (AntiJoin p q c) h e = let s = halves-apart p (with_at (n ∷ path) y q) c e in halves-together p q c s.0 (none-there (n ∷ path) y q h s.1)
  none-there (at ∷ path) y (UnionAll ps) h e =
      none-map (among UnionAll) (in_all ps) (none-within at path y ps h (map_lacking (among UnionAll) (in_all (with_member at path y ps)) e))
  none-there (at ∷ path) y (Distinct p) h e = cc

  none-within : (at : ℕ) (path : List ℕ) (y : Others) (ps : Plans) → none_in at path ps ≡ true → in_all (with_member at path y ps) ≡ None → in_all ps ≡ None
  none-within at path y Nil h e = refl
  none-within zero [] y (More p ps) h e = members-together p ps (none-is (below p) h) (all-behind y.1 ps (members-apart y.0 (before_all y.1 ps) e).1)
  none-within zero (n ∷ path) y (More p ps) h e = let m = members-apart (with_at (n ∷ path) y p) ps e in members-together p ps (none-there (n ∷ path) y p h m.0) m.1
  none-within (suc at) path y (More p ps) h e = let m = members-apart p (with_member at path y ps) e in members-together p ps m.0 (none-within at path y ps h m.1)

pub distinct-stays : (s : Tables) (path : List ℕ) (p : Plan) → DidNotApply (distinct_distinct s) path p → distinct.stays path p ≡ true → distinct_distinct s p ≡ None
distinct-stays s [] (Distinct p) d h = none-map (around Distinct) (below p) (none-is (below p) h)
distinct-stays s (at ∷ path) (Distinct p) d h =
    none-map (around Distinct) (below p) (none-there (at ∷ path) d.0 p h (map_lacking (around Distinct) (below (with_at (at ∷ path) d.0 p)) d.1))
distinct-stays s path _ d h = refl

pub left-turn : (at : ℕ) (path : List ℕ) (p q : Plan) (c : Expr) → at ≡ 0 → none_at path p ≡ none_at (at ∷ path) (Left p q c)
left-turn zero path p q c e = refl
left-turn (suc at) path p q c e = absurd (omega (arith, e))

pub right-turn : (at : ℕ) (path : List ℕ) (p q : Plan) (c : Expr) → 0 < at → none_at path q ≡ none_at (at ∷ path) (Left p q c)
right-turn zero path p q c e = absurd (omega (arith, e))
right-turn (suc at) path p q c e = refl

pub alone-turn : (at : ℕ) (path : List ℕ) (p q : Plan) (c : Expr) → at ≡ 0 → none_at path p ≡ none_at (at ∷ path) (AntiJoin p q c)
alone-turn zero path p q c e = refl
alone-turn (suc at) path p q c e = absurd (omega (arith, e))

pub against-turn : (at : ℕ) (path : List ℕ) (p q : Plan) (c : Expr) → 0 < at → none_at path q ≡ none_at (at ∷ path) (AntiJoin p q c)
against-turn zero path p q c e = absurd (omega (arith, e))
against-turn (suc at) path p q c e = refl

pub none-past : (ps : List PlanValue) (at : ℕ) (path : List ℕ) → length ps ≤ at → true ≡ none_in at path (plans_seen ps)
none-past [] at path h = refl
none-past (p ∷ ps) zero path h = absurd (omega (arith, h))
none-past (p ∷ ps) (suc at) path h = none-past ps at path (omega (arith, h))

pub none-here : (ps : List PlanValue) (at : ℕ) (path : List ℕ) (p : PlanValue) → at < length ps → p ≡ get_or ps at p → none_at path (plan_seen p) ≡ none_in at path (plans_seen ps)
none-here [] at path p h e = absurd (omega (arith, h))
none-here (q ∷ ps) zero path p h e = ap (λ (x : PlanValue). none_at path (plan_seen x)) e
none-here (q ∷ ps) (suc at) path p h e = none-here ps at path p (omega (arith, h)) e

-- ---- EqualMembers

is-not : (b : Bool) → not b ≡ true → b ≡ false
is-not true e = cc
is-not false e = refl

neither-is : (a b : Bool) → (a || b) ≡ false → (a ≡ false) × (b ≡ false)
neither-is true b e = cc
neither-is false b e = (refl, e)

any-append : (test : Plan → Bool) (xs ys : List Plan) → list_any test (xs ++ ys) ≡ (list_any test xs || list_any test ys)
any-append test [] ys = refl
any-append test (x ∷ xs) ys = or-rest (test x) (list_any test xs) (list_any test (xs ++ ys)) (list_any test ys) (any-append test xs ys)
  where
    or-rest : (a b c d : Bool) → c ≡ (b || d) → (a || c) ≡ ((a || b) || d)
    or-rest true b c d e = refl
    or-rest false b c d e = e

if_none : {A : Type 0} (b : Bool) (x : A) (o : Option A) → (if b then Some x else o) ≡ None → (b ≡ false) × (o ≡ None)
if_none true x o e = cc
if_none false x o e = (refl, e)

abbrev equals : List Plan → Plan → Bool
equals qs p = list_any (λ q. same_plan q p) qs

repeat-apart : (es : List Plan) (p : Plan) (ps : Plans) → without_repeat es (More p ps) ≡ None → (equals es p ≡ false) × (without_repeat (es ++ p ∷ []) ps ≡ None)
repeat-apart es p ps e =
    let n = if_none (equals es p) ps (option_map (More p) (without_repeat (es ++ p ∷ []) ps)) e in
    (n.0, map_lacking (More p) (without_repeat (es ++ p ∷ []) ps) n.1)

repeat-together : (es : List Plan) (p : Plan) (ps : Plans) → equals es p ≡ false → without_repeat (es ++ p ∷ []) ps ≡ None → without_repeat es (More p ps) ≡ None
repeat-together es p ps h e = ap (λ b. if b then Some ps else option_map (More p) (without_repeat (es ++ p ∷ []) ps)) h ∙ ap (option_map (More p)) e

-- of what is equal to one of the second plans, one of the first is, or p
abbrev Covers : List Plan → Plan → List Plan → Type 0
Covers es p fs = (q : Plan) → equals es q ≡ false → same_plan p q ≡ false → equals fs q ≡ false

or-false : (a b : Bool) → a ≡ false → b ≡ false → (a || b) ≡ false
or-false true b e h = cc
or-false false b e h = h

covers-more : (es : List Plan) (p : Plan) (fs : List Plan) (r : Plan) → Covers es p fs → Covers (es ++ r ∷ []) p (fs ++ r ∷ [])
covers-more es p fs r k q e h =
    let n = neither-is (equals es q) (equals (r ∷ []) q) (sym (any-append (λ x. same_plan x q) es (r ∷ [])) ∙ e) in
    any-append (λ x. same_plan x q) fs (r ∷ []) ∙ or-false (equals fs q) (equals (r ∷ []) q) (k q n.0 h) n.1

fewer-before : (es : List Plan) (p : Plan) (fs : List Plan) (ps : Plans) → Covers es p fs → list_any (λ q. same_plan p q) (each ps) ≡ false → without_repeat es ps ≡ None → without_repeat fs ps ≡ None
fewer-before es p fs Nil k h e = refl
fewer-before es p fs (More r ps) k h e =
    let n = repeat-apart es r ps e in
    let m = neither-is (same_plan p r) (list_any (λ q. same_plan p q) (each ps)) h in
    repeat-together fs r ps (k r n.0 m.0) (fewer-before (es ++ r ∷ []) p (fs ++ r ∷ []) ps (covers-more es p fs r k) m.1 n.1)

-- behind plans that are no longer there
repeat-behind : (es : List Plan) (qs ps : Plans) → without_repeat es (before_all qs ps) ≡ None → without_repeat (es ++ each qs) ps ≡ None
repeat-behind es Nil ps e = ap (λ l. without_repeat l ps) (append-nil es) ∙ e
repeat-behind es (More q qs) ps e =
    ap (λ l. without_repeat l ps) (sym (append_assoc es (q ∷ []) (each qs))) ∙ repeat-behind (es ++ q ∷ []) qs ps (repeat-apart es q (before_all qs ps) e).1

covers-here : (es : List Plan) (z : Plan) (zs : List Plan) (p : Plan) → Covers ((es ++ z ∷ []) ++ zs) p (es ++ p ∷ [])
covers-here es z zs p q e h =
    let n = neither-is (equals (es ++ z ∷ []) q) (equals zs q) (sym (any-append (λ x. same_plan x q) (es ++ z ∷ []) zs) ∙ e) in
    let m = neither-is (equals es q) (equals (z ∷ []) q) (sym (any-append (λ x. same_plan x q) es (z ∷ [])) ∙ n.0) in
    any-append (λ x. same_plan x q) es (p ∷ []) ∙ or-false (equals es q) (equals (p ∷ []) q) m.0 (or-false (same_plan p q) false h refl)

alone-here : (es : List Plan) (z : Plan) (zs : Plans) (p : Plan) (ps : Plans) → without_repeat es (More z (before_all zs ps)) ≡ None → is_alone es zero (More p ps) ≡ true → without_repeat es (More p ps) ≡ None
alone-here es z zs p ps e h =
    let b = and_parts (not (equals es p)) (not (list_any (λ q. same_plan p q) (each ps))) h in
    let rest = repeat-behind (es ++ z ∷ []) zs ps (repeat-apart es z (before_all zs ps) e).1 in
    repeat-together es p ps (is-not (equals es p) b.0)
    (fewer-before ((es ++ z ∷ []) ++ each zs) p (es ++ p ∷ []) ps (covers-here es z (each zs) p) (is-not (list_any (λ q. same_plan p q) (each ps)) b.1) rest)

alone-there : (es : List Plan) (at : ℕ) (path : List ℕ) (y : Others) (ps : Plans) → without_repeat es (with_member at path y ps) ≡ None → is_alone es at ps ≡ true → without_repeat es ps ≡ None
alone-there es at path y Nil e h = refl
alone-there es zero [] y (More p ps) e h = alone-here es y.0 y.1 p ps e h
alone-there es zero (n ∷ path) y (More p ps) e h = alone-here es (with_at (n ∷ path) y p) Nil p ps e h
alone-there es (suc at) path y (More p ps) e h =
    let n = repeat-apart es p (with_member at path y ps) e in
    repeat-together es p ps n.0 (alone-there (es ++ p ∷ []) at path y ps n.1 h)

pub equal-stays : (s : Tables) (path : List ℕ) (p : Plan) → DidNotApply (equal_members s) path p → equal.stays path p ≡ true → equal_members s p ≡ None
equal-stays s [] (Distinct (UnionAll ps)) d h = cc
equal-stays s (at ∷ path) (Distinct (UnionAll ps)) d h =
    ap (option_map distinct_union) (alone-there [] at path d.0 ps (map_lacking distinct_union (without_repeat [] (with_member at path d.0 ps)) d.1) h)
equal-stays s path (Distinct _) d h = refl
equal-stays s path _ d h = refl

-- as the program asks it
any-seen : (test : Plan → Bool) (qs : List PlanValue) → list_any test (map plan_seen qs) ≡ list_any (λ q. test (plan_seen q)) qs
any-seen test [] = refl
any-seen test (q ∷ qs) = ap (λ b. test (plan_seen q) || b) (any-seen test qs)

each-seen : (qs : List PlanValue) → each (plans_seen qs) ≡ map plan_seen qs
each-seen [] = refl
each-seen (q ∷ qs) = ap (λ l. plan_seen q ∷ l) (each-seen qs)

pub alone-past : (es : List Plan) (ps : List PlanValue) (at : ℕ) → length ps ≤ at → true ≡ is_alone es at (plans_seen ps)
alone-past es [] at h = refl
alone-past es (p ∷ ps) zero h = absurd (omega (arith, h))
alone-past es (p ∷ ps) (suc at) h = alone-past (es ++ plan_seen p ∷ []) ps at (omega (arith, h))

alone-seen : (es : List Plan) (ps : List PlanValue) (at : ℕ) (p : PlanValue) → at < length ps → p ≡ get_or ps at p →
    is_alone es at (plans_seen ps) ≡ (not (equals (es ++ map plan_seen (take at ps)) (plan_seen p)) && not (list_any (λ q. same_plan (plan_seen p) (plan_seen q)) (drop (suc at) ps)))
alone-seen es [] at p h e = absurd (omega (arith, h))
alone-seen es (x ∷ ps) zero p h e =
    let there : list_any (λ q. same_plan (plan_seen x) q) (each (plans_seen ps)) ≡ list_any (λ q. same_plan (plan_seen x) (plan_seen q)) ps =
    ap (list_any (λ q. same_plan (plan_seen x) q)) (each-seen ps) ∙ any-seen (λ q. same_plan (plan_seen x) q) ps in
    ap (λ b. not (equals es (plan_seen x)) && not b) there
    ∙ ap (λ l. not (equals l (plan_seen x)) && not (list_any (λ q. same_plan (plan_seen x) (plan_seen q)) ps)) (sym (append-nil es))
    ∙ ap (λ (z : PlanValue). not (equals (es ++ []) (plan_seen z)) && not (list_any (λ q. same_plan (plan_seen z) (plan_seen q)) ps)) (sym e)
alone-seen es (x ∷ ps) (suc at) p h e =
    alone-seen (es ++ plan_seen x ∷ []) ps at p (omega (arith, h)) e
    ∙ ap (λ l. not (equals l (plan_seen p)) && not (list_any (λ q. same_plan (plan_seen p) (plan_seen q)) (drop (suc at) ps))) (append_assoc es (plan_seen x ∷ []) (map plan_seen (take at ps)))

pub alone-is : (ps : List PlanValue) (at : ℕ) (p : PlanValue) → at < length ps → p ≡ get_or ps at p →
    (not (list_any (λ q. same_plan (plan_seen q) (plan_seen p)) (take at ps)) && not (list_any (λ q. same_plan (plan_seen p) (plan_seen q)) (drop (at + 1) ps))) ≡ is_alone [] at (plans_seen ps)
alone-is ps at p h e =
    sym (
    alone-seen [] ps at p h e
    ∙ ap (λ b. not b && not (list_any (λ q. same_plan (plan_seen p) (plan_seen q)) (drop (suc at) ps))) (any-seen (λ q. same_plan q (plan_seen p)) (take at ps))
    ∙ ap (λ n. not (list_any (λ q. same_plan (plan_seen q) (plan_seen p)) (take at ps)) && not (list_any (λ q. same_plan (plan_seen p) (plan_seen q)) (drop n ps))) (sym (add-one at)))
