-- The outcome of a step at a node, from that at its part.
use Rattle.std.proofs.Common.{◌≡◌, ℕ, zero, suc, ◌≤◌, List, [], ◌∷◌, ◌++◌, Option, Some, None, refl, sym, ap, ◌∙◌, subst, arith, length, slice_get, map, get_or, ◌<◌, add-one, ◌+◌}
use Rattle.std.specs.Prelude.{IfOk, Result, Ok, Err, option_map, reverse, slice_set}
use Rattle.std.specs.Option.{option_or}
use Rattle.std.proofs.lemmas.List.{reverse-append}
use Rattle.std.proofs.lemmas.Option.{same_Some}
use Rattle.vkg_expr.specs.Expr.{Expr}
use Rattle.vkg_base.specs.declared.memory.Memory.{Memory}
use Rattle.vkg_plan.specs.declared.plan.Plan.{Plan as PlanValue}
use Rattle.vkg_plan.specs.Seen.{plan_seen}
use Rattle.vkg_plan.specs.Kinds.{Tables}
use Rattle.vkg_rules.specs.Parts.{AreTyped, typed_more}
use Rattle.vkg_rules.specs.Steps.{IsTyped}
use Rattle.vkg_plan.specs.Plan.{Plan, Plans, Nil, More, plans, Select, Project, Join, Left, AntiJoin, UnionAll, Distinct}
use Rattle.vkg_rules.specs.declared.rewrite.Fell.{Fell}
use Rattle.vkg_rules.specs.Everywhere.{among, around, everywhere, first_of_list, in_members, inside, later_in_list}
use Rattle.vkg_rules.specs.Steps.{ListStep, Step}
use Rattle.vkg_rules.proofs.Members.{everywhere-root}
use Rattle.vkg_rules.proofs.Seen.{seen-Join, seen-Distinct}
use Rattle.vkg_plan.proofs.SeenParts.{seen-Select, seen-Project, seen-Left, seen-AntiJoin, seen-UnionAll}
use Rattle.vkg_steps.specs.Behind.{Behind, BehindEach, BehindMember}
use Rattle.vkg_rules.proofs.Outcomes.{outcome-some}
use Rattle.vkg_rules.specs.Places.{DidNotApply, DiffersAt, DiffersBefore, outcome, with_at}
use Rattle.vkg_steps.specs.Outcomes.{DifferAt, IsInside, IsListStep, IsNext, IsStep, list_outcome}
use Rattle.vkg_steps.proofs.PlaceLemmas.{differ-set, differs-against, differs-alone, differs-distinct, differs-join, differs-left, differs-project, differs-right, differs-select, differs-union, dropped as drop_behind, not-applied, nothing_behind}

pub ruleset outcomes = (seen-Select, seen-Project, seen-Left, seen-AntiJoin, seen-UnionAll, seen-Join, seen-Distinct)

-- ---- places

pub first_behind : (r : Plan → Option Step) (ps : Plans) → BehindMember r zero [] ps
first_behind r Nil = tt
first_behind r (More p ps) = nothing_behind r p

-- the last turn comes first when a place is turned round
pub turned : (place : List ℕ) (at : ℕ) → reverse (place ++ at ∷ []) ≡ at ∷ reverse place
turned place at = reverse-append place (at ∷ [])

-- ---- the root

-- where a member was dropped, or the root
next_place : (r : Plan → Option Step) (path next : List ℕ) (dropped : Option ℕ) (p q : Plan) → Behind r path p → DiffersBefore dropped p q → IsNext path dropped next → Behind r next q × DiffersAt next p q
next_place r path [] dropped p q b d n = (nothing_behind r q, tt)
next_place r [] (at ∷ []) dropped p q b d n = absurd n.1
next_place r (m ∷ path) (at ∷ []) dropped p q b d n =
    let there : DiffersAt (at ∷ []) p q = subst (λ (o : Option ℕ). DiffersBefore o p q) n.0 d in
    let behind : Behind r (at ∷ path) (with_at (at ∷ []) there.0 q) = subst (Behind r (at ∷ path)) (sym there.1) (subst (λ (k : ℕ). Behind r (k ∷ path) p) n.1 b) in
    (drop_behind r at path there.0 q behind, there)
next_place r path (at ∷ m ∷ more) dropped p q b d n = absurd n

pub at_root : (r : Plan → Option Step) (path next : List ℕ) (dropped : Option ℕ) (p q : Plan) (f : Fell) → r p ≡ Some (q, f) → Behind r path p → DiffersBefore dropped p q → IsNext path dropped next →
    ((q, Some f) ≡ outcome p (everywhere r p)) × Behind r next q × DiffersAt next p q
at_root r path next dropped p q f e b d n = let h = next_place r path next dropped p q b d n in (sym (ap (outcome p) (everywhere-root r p ∙ ap (λ o. option_or o (inside r p)) e)), h.0, h.1)

pub from_inside : (r : Plan → Option Step) (p q : Plan) (f : Option Fell) (place : List ℕ) → r p ≡ None → IsInside r p q f place → IsStep r p q f place
from_inside r p q f place e is = (is.0 ∙ sym (ap (outcome p) (everywhere-root r p ∙ ap (λ o. option_or o (inside r p)) e)), is.1, is.2)

-- ---- the nodes

outcome-Select : (c : Expr) (p : Plan) (o : Option Step) → outcome (Select c p) (option_map (around (Select c)) o) ≡ (Select c (outcome p o).0, (outcome p o).1)
outcome-Select c p None = refl
outcome-Select c p (Some x) = refl

outcome-Project : (es : List Expr) (p : Plan) (o : Option Step) → outcome (Project es p) (option_map (around (Project es)) o) ≡ (Project es (outcome p o).0, (outcome p o).1)
outcome-Project es p None = refl
outcome-Project es p (Some x) = refl

outcome-Distinct : (p : Plan) (o : Option Step) → outcome (Distinct p) (option_map (around Distinct) o) ≡ (Distinct (outcome p o).0, (outcome p o).1)
outcome-Distinct p None = refl
outcome-Distinct p (Some x) = refl

outcome-Join : (ps : Plans) (c : Expr) (o : Option ListStep) → outcome (Join ps c) (option_map (among (λ qs. Join qs c)) o) ≡ (Join (list_outcome ps o).0 c, (list_outcome ps o).1)
outcome-Join ps c None = refl
outcome-Join ps c (Some x) = refl

outcome-UnionAll : (ps : Plans) (o : Option ListStep) → outcome (UnionAll ps) (option_map (among UnionAll) o) ≡ (UnionAll (list_outcome ps o).0, (list_outcome ps o).1)
outcome-UnionAll ps None = refl
outcome-UnionAll ps (Some x) = refl

pub in_select : (r : Plan → Option Step) (c : Expr) (p q : Plan) (f : Option Fell) (place : List ℕ) → r (Select c p) ≡ None → IsStep r p q f place → IsInside r (Select c p) (Select c q) f place
in_select r c p q f place none is =
    let d = differs-select c (reverse place) p q is.2 in
    (ap (λ (y : Plan × Option Fell). (Select c y.0, y.1)) is.0 ∙ sym (outcome-Select c p (everywhere r p)), (not-applied r (reverse place) (Select c p) (Select c q) none d, is.1), d)

pub in_project : (r : Plan → Option Step) (es : List Expr) (p q : Plan) (f : Option Fell) (place : List ℕ) → r (Project es p) ≡ None → IsStep r p q f place → IsInside r (Project es p) (Project es q) f place
in_project r es p q f place none is =
    let d = differs-project es (reverse place) p q is.2 in
    (ap (λ (y : Plan × Option Fell). (Project es y.0, y.1)) is.0 ∙ sym (outcome-Project es p (everywhere r p)), (not-applied r (reverse place) (Project es p) (Project es q) none d, is.1), d)

pub in_distinct : (r : Plan → Option Step) (p q : Plan) (f : Option Fell) (place : List ℕ) → r (Distinct p) ≡ None → IsStep r p q f place → IsInside r (Distinct p) (Distinct q) f place
in_distinct r p q f place none is =
    let d = differs-distinct (reverse place) p q is.2 in
    (ap (λ (y : Plan × Option Fell). (Distinct y.0, y.1)) is.0 ∙ sym (outcome-Distinct p (everywhere r p)), (not-applied r (reverse place) (Distinct p) (Distinct q) none d, is.1), d)

each_behind_join : (r : Plan → Option Step) (path : List ℕ) (ps : Plans) (c : Expr) → DidNotApply r path (Join ps c) → BehindEach r path ps → Behind r path (Join ps c)
each_behind_join r [] ps c none h = tt
each_behind_join r (at ∷ path) ps c none h = (none, h)

each_behind_union : (r : Plan → Option Step) (path : List ℕ) (ps : Plans) → DidNotApply r path (UnionAll ps) → BehindEach r path ps → Behind r path (UnionAll ps)
each_behind_union r [] ps none h = tt
each_behind_union r (at ∷ path) ps none h = (none, h)

pub join_behind : (r : Plan → Option Step) (path : List ℕ) (ps : Plans) (c : Expr) → Behind r path (Join ps c) → BehindEach r path ps
join_behind r [] ps c h = tt
join_behind r (at ∷ path) ps c h = h.1

pub union_behind : (r : Plan → Option Step) (path : List ℕ) (ps : Plans) → Behind r path (UnionAll ps) → BehindEach r path ps
union_behind r [] ps h = tt
union_behind r (at ∷ path) ps h = h.1

pub in_join : (r : Plan → Option Step) (ps qs : Plans) (c : Expr) (f : Option Fell) (place : List ℕ) → r (Join ps c) ≡ None → IsListStep r ps qs f place → IsInside r (Join ps c) (Join qs c) f place
in_join r ps qs c f place none is =
    let d = differs-join c (reverse place) ps qs is.2 in
    (ap (λ (y : Plans × Option Fell). (Join y.0 c, y.1)) is.0 ∙ sym (outcome-Join ps c (in_members r ps)), each_behind_join r (reverse place) qs c (not-applied r (reverse place) (Join ps c) (Join qs c) none d) is.1, d)

pub in_union : (r : Plan → Option Step) (ps qs : Plans) (f : Option Fell) (place : List ℕ) → r (UnionAll ps) ≡ None → IsListStep r ps qs f place → IsInside r (UnionAll ps) (UnionAll qs) f place
in_union r ps qs f place none is =
    let d = differs-union (reverse place) ps qs is.2 in
    (ap (λ (y : Plans × Option Fell). (UnionAll y.0, y.1)) is.0 ∙ sym (outcome-UnionAll ps (in_members r ps)), each_behind_union r (reverse place) qs (not-applied r (reverse place) (UnionAll ps) (UnionAll qs) none d) is.1, d)

-- ---- Left: the left side, or else the right one

left-some : (p q : Plan) (c : Expr) (o n : Option Step) (x : Step) → o ≡ Some x →
    outcome (Left p q c) (option_or (option_map (around (λ x. Left x q c)) o) (option_map (around (λ x. Left p x c)) n)) ≡ (Left x.0 q c, Some x.1)
left-some p q c o n x e = ap (λ (z : Option Step). outcome (Left p q c) (option_or (option_map (around (λ x. Left x q c)) z) (option_map (around (λ x. Left p x c)) n))) e

right-outcome : (p q : Plan) (c : Expr) (n : Option Step) → outcome (Left p q c) (option_map (around (λ x. Left p x c)) n) ≡ (Left p (outcome q n).0 c, (outcome q n).1)
right-outcome p q c None = refl
right-outcome p q c (Some x) = refl

pub in_left : (r : Plan → Option Step) (p q p' : Plan) (c : Expr) (f : Fell) (place : List ℕ) → r (Left p q c) ≡ None → IsStep r p p' (Some f) place → IsInside r (Left p q c) (Left p' q c) (Some f) (place ++ 0 ∷ [])
in_left r p q p' c f place none is =
    let d = differs-left (reverse place) p p' q c is.2 in
    let same = sym (turned place 0) in (
      sym (left-some p q c (everywhere r p) (everywhere r q) (p', f) (outcome-some p p' f (everywhere r p) is.0)),
      subst (λ (path : List ℕ). Behind r path (Left p' q c)) same (not-applied r (0 ∷ reverse place) (Left p q c) (Left p' q c) none d, is.1),
      subst (λ (path : List ℕ). DiffersAt path (Left p q c) (Left p' q c)) same d,
    )

pub in_right : (r : Plan → Option Step) (p q q' : Plan) (c : Expr) (f : Option Fell) (place : List ℕ) → everywhere r p ≡ None → r (Left p q c) ≡ None → IsStep r q q' f place →
    IsInside r (Left p q c) (Left p q' c) f (place ++ 1 ∷ [])
in_right r p q q' c f place settled none is =
    let d = differs-right (reverse place) p q q' c is.2 in
    let same = sym (turned place 1) in (
      ap (λ (y : Plan × Option Fell). (Left p y.0 c, y.1)) is.0
          ∙ sym (right-outcome p q c (everywhere r q))
          ∙ sym (ap (λ (z : Option Step). outcome (Left p q c) (option_or (option_map (around (λ x. Left x q c)) z) (option_map (around (λ x. Left p x c)) (everywhere r q)))) settled),
      subst (λ (path : List ℕ). Behind r path (Left p q' c)) same (not-applied r (1 ∷ reverse place) (Left p q c) (Left p q' c) none d, (settled, is.1)),
      subst (λ (path : List ℕ). DiffersAt path (Left p q c) (Left p q' c)) same d,
    )

-- ---- AntiJoin: as Left

alone-some : (p q : Plan) (c : Expr) (o n : Option Step) (x : Step) → o ≡ Some x →
    outcome (AntiJoin p q c) (option_or (option_map (around (λ x. AntiJoin x q c)) o) (option_map (around (λ x. AntiJoin p x c)) n)) ≡ (AntiJoin x.0 q c, Some x.1)
alone-some p q c o n x e = ap (λ (z : Option Step). outcome (AntiJoin p q c) (option_or (option_map (around (λ x. AntiJoin x q c)) z) (option_map (around (λ x. AntiJoin p x c)) n))) e

against-outcome : (p q : Plan) (c : Expr) (n : Option Step) → outcome (AntiJoin p q c) (option_map (around (λ x. AntiJoin p x c)) n) ≡ (AntiJoin p (outcome q n).0 c, (outcome q n).1)
against-outcome p q c None = refl
against-outcome p q c (Some x) = refl

pub in_alone : (r : Plan → Option Step) (p q p' : Plan) (c : Expr) (f : Fell) (place : List ℕ) → r (AntiJoin p q c) ≡ None → IsStep r p p' (Some f) place → IsInside r (AntiJoin p q c) (AntiJoin p' q c) (Some f) (place ++ 0 ∷ [])
in_alone r p q p' c f place none is =
    let d = differs-alone (reverse place) p p' q c is.2 in
    let same = sym (turned place 0) in (
      sym (alone-some p q c (everywhere r p) (everywhere r q) (p', f) (outcome-some p p' f (everywhere r p) is.0)),
      subst (λ (path : List ℕ). Behind r path (AntiJoin p' q c)) same (not-applied r (0 ∷ reverse place) (AntiJoin p q c) (AntiJoin p' q c) none d, is.1),
      subst (λ (path : List ℕ). DiffersAt path (AntiJoin p q c) (AntiJoin p' q c)) same d,
    )

pub in_against : (r : Plan → Option Step) (p q q' : Plan) (c : Expr) (f : Option Fell) (place : List ℕ) → everywhere r p ≡ None → r (AntiJoin p q c) ≡ None → IsStep r q q' f place →
    IsInside r (AntiJoin p q c) (AntiJoin p q' c) f (place ++ 1 ∷ [])
in_against r p q q' c f place settled none is =
    let d = differs-against (reverse place) p q q' c is.2 in
    let same = sym (turned place 1) in (
      ap (λ (y : Plan × Option Fell). (AntiJoin p y.0 c, y.1)) is.0
          ∙ sym (against-outcome p q c (everywhere r q))
          ∙ sym (ap (λ (z : Option Step). outcome (AntiJoin p q c) (option_or (option_map (around (λ x. AntiJoin x q c)) z) (option_map (around (λ x. AntiJoin p x c)) (everywhere r q)))) settled),
      subst (λ (path : List ℕ). Behind r path (AntiJoin p q' c)) same (not-applied r (1 ∷ reverse place) (AntiJoin p q c) (AntiJoin p q' c) none d, (settled, is.1)),
      subst (λ (path : List ℕ). DiffersAt path (AntiJoin p q c) (AntiJoin p q' c)) same d,
    )

-- ---- lists

pub member_behind : (r : Plan → Option Step) (xs : List Plan) (at : ℕ) (path : List ℕ) (p : Plan) → BehindMember r at path (plans xs) → slice_get xs at ≡ Some p → Behind r path p
member_behind r [] at path p b e = cc
member_behind r (x ∷ xs) zero path p b e = subst (Behind r path) (same_Some x p e) b
member_behind r (x ∷ xs) (suc at) path p b e = member_behind r xs at path p b.1 e

after_behind : (r : Plan → Option Step) (xs : List Plan) (at : ℕ) (path : List ℕ) (p : Plan) → BehindMember r at path (plans xs) → slice_get xs at ≡ Some p → everywhere r p ≡ None →
    BehindMember r (suc at) [] (plans xs)
after_behind r [] at path p b e none = cc
after_behind r (x ∷ xs) zero path p b e none = (ap (everywhere r) (same_Some x p e) ∙ none, first_behind r (plans xs))
after_behind r (x ∷ xs) (suc at) path p b e none = (b.0, after_behind r xs at path p b.1 e none)

pub next_behind : (r : Plan → Option Step) (xs : List Plan) (at : ℕ) (path : List ℕ) (p : Plan) → BehindMember r at path (plans xs) → slice_get xs at ≡ Some p → everywhere r p ≡ None →
    BehindMember r (at + 1) [] (plans xs)
next_behind r xs at path p b e none = subst (λ n. BehindMember r n [] (plans xs)) (sym (add-one at)) (after_behind r xs at path p b e none)

later : (r : Plan → Option Step) (p : Plan) (ps : Plans) → everywhere r p ≡ None → in_members r (More p ps) ≡ option_map (later_in_list p) (in_members r ps)
later r p ps e = ap (λ o. option_or (option_map (first_of_list ps) o) (option_map (later_in_list p) (in_members r ps))) e

pub none_left : (r : Plan → Option Step) (xs : List Plan) (at : ℕ) (path : List ℕ) → BehindMember r at path (plans xs) → length xs ≤ at → in_members r (plans xs) ≡ None
none_left r [] at path b h = refl
none_left r (x ∷ xs) zero path b h = absurd (omega (arith, h))
none_left r (x ∷ xs) (suc at) path b h = later r x (plans xs) b.0 ∙ ap (option_map (later_in_list x)) (none_left r xs at path b.1 (omega (arith, h)))

pub found_behind : (r : Plan → Option Step) (xs : List Plan) (at : ℕ) (path : List ℕ) (p : Plan) (y : Step) → BehindMember r at path (plans xs) → slice_get xs at ≡ Some p → everywhere r p ≡ Some y →
    in_members r (plans xs) ≡ Some (plans (slice_set xs at y.0), y.1)
found_behind r [] at path p y b e h = cc
found_behind r (x ∷ xs) zero path p y b e h =
    ap (λ o. option_or (option_map (first_of_list (plans xs)) o) (option_map (later_in_list x) (in_members r (plans xs)))) (ap (everywhere r) (same_Some x p e) ∙ h)
found_behind r (x ∷ xs) (suc at) path p y b e h = later r x (plans xs) b.0 ∙ ap (option_map (later_in_list x)) (found_behind r xs at path p y b.1 e h)

pub set_behind : (r : Plan → Option Step) (xs : List Plan) (at : ℕ) (path place : List ℕ) (y : Plan) → BehindMember r at path (plans xs) → Behind r place y →
    BehindMember r at place (plans (slice_set xs at y))
set_behind r [] at path place y b h = tt
set_behind r (x ∷ xs) zero path place y b h = h
set_behind r (x ∷ xs) (suc at) path place y b h = (b.0, set_behind r xs at path place y b.1 h)

-- a member changed in its place, and none of them
pub in_list : (r : Plan → Option Step) (xs ys : List Plan) (at : ℕ) (path place : List ℕ) (p q : Plan) (f : Fell) → BehindMember r at path (plans xs) → slice_get xs at ≡ Some p →
    IsStep r p q (Some f) place → ys ≡ slice_set xs at q → IsListStep r (plans xs) (plans ys) (Some f) (place ++ at ∷ [])
in_list r xs ys at path place p q f b e is same = (
  ap (λ (l : List Plan). (plans l, Some f)) same
      ∙ sym (ap (list_outcome (plans xs)) (found_behind r xs at path p (q, f) b e (outcome-some p q f (everywhere r p) is.0))),
  subst (λ (way : List ℕ). BehindEach r way (plans ys)) (sym (turned place at))
      (subst (λ (l : List Plan). BehindMember r at (reverse place) (plans l)) (sym same) (set_behind r xs at path (reverse place) q b is.1)),
  subst (λ (way : List ℕ). DifferAt way (plans xs) (plans ys)) (sym (turned place at))
      (subst (λ (l : List Plan). DifferAt (at ∷ reverse place) (plans xs) (plans l)) (sym same) (differ-set xs at (reverse place) p q e is.2)),
)

pub in_none : (r : Plan → Option Step) (xs ys : List Plan) (at : ℕ) (path : List ℕ) → BehindMember r at path (plans xs) → length xs ≤ at → ys ≡ xs → IsListStep r (plans xs) (plans ys) None []
in_none r xs ys at path b h same =
    (ap (λ (l : List Plan). (plans l, None)) same ∙ sym (ap (list_outcome (plans xs)) (none_left r xs at path b h)), tt, tt)

-- ---- what is at a place

seen_at : (ms : List PlanValue) (i : ℕ) (d : PlanValue) → i < length ms → slice_get (map plan_seen ms) i ≡ Some (plan_seen (get_or ms i d))
seen_at [] i d h = absurd (omega (arith, h))
seen_at (m ∷ ms) zero d h = refl
seen_at (m ∷ ms) (suc i) d h = seen_at ms i d (omega (arith, h))

pub member_at : (ms : List PlanValue) (ps : List Plan) (i : ℕ) (d : PlanValue) → map plan_seen ms ≡ ps → i < length ms → slice_get ps i ≡ Some (plan_seen (get_or ms i d))
member_at ms ps i d same h = ap (λ l. slice_get l i) (sym same) ∙ seen_at ms i d h

pub typed_at : (s : Tables) (ps : List Plan) (i : ℕ) (p : Plan) → AreTyped s (plans ps) → slice_get ps i ≡ Some p → IsTyped s p
typed_at s [] i p t e = cc
typed_at s (x ∷ ps) zero p t e = subst (IsTyped s) (same_Some x p e) (typed_more s x (plans ps) t).0
typed_at s (x ∷ ps) (suc i) p t e = typed_at s ps i p (typed_more s x (plans ps) t).1 e

-- ---- left joins by the turn

pub left_turn : (r : Plan → Option Step) (turn : ℕ) (path : List ℕ) (p q : Plan) (c : Expr) → Behind r (turn ∷ path) (Left p q c) → turn ≡ 0 → Behind r path p
left_turn r zero path p q c h e = h.1
left_turn r (suc n) path p q c h e = absurd (omega (arith, e))

pub right_turn : (r : Plan → Option Step) (turn : ℕ) (path : List ℕ) (p q : Plan) (c : Expr) → Behind r (turn ∷ path) (Left p q c) → 0 < turn → (everywhere r p ≡ None) × Behind r path q
right_turn r zero path p q c h e = absurd (omega (arith, e))
right_turn r (suc n) path p q c h e = h.1

-- ---- anti joins by the turn

pub alone_turn : (r : Plan → Option Step) (turn : ℕ) (path : List ℕ) (p q : Plan) (c : Expr) → Behind r (turn ∷ path) (AntiJoin p q c) → turn ≡ 0 → Behind r path p
alone_turn r zero path p q c h e = h.1
alone_turn r (suc n) path p q c h e = absurd (omega (arith, e))

pub against_turn : (r : Plan → Option Step) (turn : ℕ) (path : List ℕ) (p q : Plan) (c : Expr) → Behind r (turn ∷ path) (AntiJoin p q c) → 0 < turn → (everywhere r p ≡ None) × Behind r path q
against_turn r zero path p q c h e = absurd (omega (arith, e))
against_turn r (suc n) path p q c h e = h.1

-- what is told of a result part by part
pub told : {X : Type 0} (P : Plan → Option Fell → List ℕ → Type 0) (a : X → Plan) (b : X → Option Fell) (d : X → List ℕ) (p : Plan) (f : Option Fell) (n : List ℕ) (made : Result X Memory)
    → IfOk made (λ x. a x ≡ p) → IfOk made (λ x. b x ≡ f) → IfOk made (λ x. d x ≡ n) → P p f n → IfOk made (λ x. P (a x) (b x) (d x))
told P a b d p f n (Ok x) e h k is = subst (λ z. P z (b x) (d x)) (sym e) (subst (λ z. P p z (d x)) (sym h) (subst (λ z. P p f z) (sym k) is))
told P a b d p f n (Err m) e h k is = tt

pub told_next : {X : Type 0} (P : Plan → Option Fell → List ℕ → Type 0) (N : List ℕ → Type 0) (a : X → Plan) (b : X → Option Fell) (d : X → List ℕ) (p : Plan) (f : Option Fell) (made : Result X Memory)
    → IfOk made (λ x. a x ≡ p) → IfOk made (λ x. b x ≡ f) → IfOk made (λ x. N (d x)) → ((n : List ℕ) → N n → P p f n) → IfOk made (λ x. P (a x) (b x) (d x))
told_next P N a b d p f (Ok x) e h k is = subst (λ z. P z (b x) (d x)) (sym e) (subst (λ z. P p z (d x)) (sym h) (is (d x) k))
told_next P N a b d p f (Err m) e h k is = tt
