-- Members before and behind a Scan: where one is found, and the columns and the rows of all.
use Rattle.std.proofs.Common.{◌≡◌, ◌∙◌, ◌⊎◌, inl, inr, ℕ, ◌+◌, ◌<◌, true, List, [], ◌∷◌, ◌++◌, append_assoc, length, length-append, Option, Some, None, refl, sym, ap, subst, arith}
use Rattle.std.specs.Prelude.{option_map}
use Rattle.std.specs.List.{Contains}
use Rattle.std.specs.Option.{option_map_or, option_or}
use Rattle.std.proofs.lemmas.List.Elements.{Contains-append_cases}
use Rattle.std.proofs.lemmas.Option.{same_Some}
use Rattle.std.proofs.lemmas.Slice.Zip.{AllZip-long}
use Rattle.vkg_lists.specs.Options.{joined, with_first}
use Rattle.vkg_lists.proofs.Members.{Contains-here, Contains-none, Contains-only, Contains-there, each_from_recursion}
use Rattle.vkg_lists.proofs.Onto.{both_given, joined_assoc, map_given, nil_joined}
use Rattle.vkg_schema.specs.Rows.{Database, Row}
use Rattle.vkg_expr.specs.Laws.{HasKinds}
use Rattle.vkg_expr.specs.Typing.{fits}
use Rattle.vkg_plan.proofs.KindLists.{beside_all-more}
use Rattle.vkg_plan.proofs.Pairs.{pairs-assoc, unit-pairs}
use Rattle.vkg_plan.proofs.RowsFit.{beside_is, each-fit, product-fit}
use Rattle.vkg_plan.specs.Kinds.{Kinds, Tables, beside_all, kinds_of_each, plan_kinds, side_by_side, width}
use Rattle.vkg_plan.specs.Laws.{HaveKinds, TablesFit}
use Rattle.vkg_plan.specs.Plan.{Plan, Unit as UnitPlan, Empty, Scan, Select, Project, Join, Left, AntiJoin, UnionAll, Distinct, plans}
use Rattle.vkg_plan.specs.Rows.{pairs, product, rows_of, rows_of_each}
use Rattle.vkg_keys.specs.Keys.{AreWide}
use Rattle.vkg_keys.specs.Members.{Place, first_made, first_two, scan_between, scans, widths}

-- ---- where a Scan was found

-- the members are those before it, it, and those behind it
abbrev pub IsPlace : List Plan → Place → Type 0
IsPlace ps x = ps ≡ x.before ++ (Scan x.table ∷ x.after)

either-given : {A : Type 0} (o p : Option A) (x : A) → option_or o p ≡ Some x → (o ≡ Some x) ⊎ (p ≡ Some x)
either-given None p x e = inr e
either-given (Some y) p x e = inl e

pub made-given : {A B : Type 0} (make : A → Option B) (xs : List A) (r : B) → first_made make xs ≡ Some r → (x : A) × Contains xs x × (make x ≡ Some r)
made-given make [] r e = cc
made-given make (x ∷ xs) r e = elim (either-given (make x) (first_made make xs) r e) [
  | inl h ↦ (x, Contains-here x xs, h)
  | inr h ↦ let g = made-given make xs r h in (g.0, Contains-there x xs g.0 g.1, g.2)
]

between-place : (before : List Plan) (p : Plan) (ps : List Plan) (x : Place) → Contains (scan_between before p ps) x → IsPlace (before ++ (p ∷ ps)) x
between-place before UnitPlan ps x c = absurd (Contains-none x c)
between-place before (Empty ks) ps x c = absurd (Contains-none x c)
between-place before (Scan table) ps x c =
    let here : Place = record { before = before; table = table; after = ps } in
    let is : here ≡ x = Contains-only here x c in
    subst (IsPlace (before ++ (Scan table ∷ ps))) is refl
between-place before (Select e p) ps x c = absurd (Contains-none x c)
between-place before (Project es p) ps x c = absurd (Contains-none x c)
between-place before (Join qs e) ps x c = absurd (Contains-none x c)
between-place before (Left p q e) ps x c = absurd (Contains-none x c)
between-place before (AntiJoin p q e) ps x c = absurd (Contains-none x c)
between-place before (UnionAll qs) ps x c = absurd (Contains-none x c)
between-place before (Distinct p) ps x c = absurd (Contains-none x c)

scan-place : (before ps : List Plan) (x : Place) → Contains (scans before ps) x → IsPlace (before ++ ps) x
scan-place before [] x c = absurd (Contains-none x c)
scan-place before (p ∷ ps) x c = elim (Contains-append_cases (scan_between before p ps) (scans (before ++ p ∷ []) ps) x c) [
  | inl h ↦ between-place before p ps x h
  | inr h ↦ sym (append_assoc before (p ∷ []) ps) ∙ scan-place (before ++ p ∷ []) ps x h
]

-- where something is made of two of them
pub record ScansFound {B : Type 0} (make : Place → Place → Option B) (ps : List Plan) (r : B) : Type 0 where
  pub first : Place
  pub of_first : IsPlace ps first
  pub second : Place
  pub of_second : IsPlace ps second
  pub made : make first second ≡ Some r

pub scans-found : {B : Type 0} (make : Place → Place → Option B) (ps : List Plan) (r : B) → first_two make ps ≡ Some r → ScansFound make ps r
scans-found make ps r e =
    let g = made-given (λ x. first_made (make x) (scans [] ps)) (scans [] ps) r e in
    let h = made-given (make g.0) (scans [] ps) r g.2 in
    record { first = g.0; of_first = scan-place [] ps g.0 g.1; second = h.0; of_second = scan-place [] ps h.0 h.1; made = h.2 }

-- of two Scans the one with fewer members before it is among those before the other
pub earlier : (b : List Plan) (p : Plan) (a : List Plan) (b' : List Plan) (q : Plan) (a' : List Plan) → b ++ (p ∷ a) ≡ b' ++ (q ∷ a') → length b < length b' →
    (m : List Plan) × (b' ≡ b ++ (p ∷ m)) × (a ≡ m ++ (q ∷ a'))
earlier [] p a [] q a' e h = absurd (omega (arith, h))
earlier [] p a (x ∷ b') q a' e h =
    let first : p ≡ x = cc e in
    let rest : a ≡ b' ++ (q ∷ a') = cc e in
    (b', ap (λ y. y ∷ b') (sym first), rest)
earlier (x ∷ b) p a [] q a' e h = absurd (omega (arith, h))
earlier (x ∷ b) p a (y ∷ b') q a' e h =
    let first : x ≡ y = cc e in
    let rest : b ++ (p ∷ a) ≡ b' ++ (q ∷ a') = cc e in
    let g = earlier b p a b' q a' rest (omega (arith, h)) in
    (g.0, (λ i. sym first i ∷ g.1 i), g.2)

-- ---- the columns of members

pub widths-append : (s : Tables) (ps qs : List Plan) → widths s (ps ++ qs) ≡ widths s ps + widths s qs
widths-append s [] qs = omega arith
widths-append s (p ∷ ps) qs = let e = widths-append s ps qs in omega (arith, e)

-- the kinds of all
abbrev pub sides : Tables → List Plan → Option Kinds
sides s ps = option_map side_by_side (kinds_of_each s (plans ps))

with_first-sides : (k : Option Kinds) (o : Option (List Kinds)) → option_map side_by_side (with_first k o) ≡ joined k (option_map side_by_side o)
with_first-sides None o = refl
with_first-sides (Some ks) None = refl
with_first-sides (Some ks) (Some kss) = refl

pub sides-more : (s : Tables) (p : Plan) (ps : List Plan) → sides s (p ∷ ps) ≡ joined (plan_kinds s p) (sides s ps)
sides-more s p ps = with_first-sides (plan_kinds s p) (kinds_of_each s (plans ps))

pub sides-append : (s : Tables) (ps qs : List Plan) → sides s (ps ++ qs) ≡ joined (sides s ps) (sides s qs)
sides-append s [] qs = sym (nil_joined (sides s qs))
sides-append s (p ∷ ps) qs =
    sides-more s p (ps ++ qs)
    ∙ ap (joined (plan_kinds s p)) (sides-append s ps qs)
    ∙ sym (joined_assoc (plan_kinds s p) (sides s ps) (sides s qs))
    ∙ ap (λ o. joined o (sides s qs)) (sym (sides-more s p ps))

as_wide : (s : Tables) (p : Plan) (ks : Kinds) → plan_kinds s p ≡ Some ks → length ks ≡ width s p
as_wide s p ks e = ap (λ o. option_map_or length o 0) (sym e)

pub sides-wide : (s : Tables) (ps : List Plan) (ks : Kinds) → sides s ps ≡ Some ks → length ks ≡ widths s ps
sides-wide s [] ks e = ap length (sym (same_Some [] ks e))
sides-wide s (p ∷ ps) ks e =
    let a = both_given (plan_kinds s p) (sides s ps) ks (sym (sides-more s p ps) ∙ e) in
    let own = as_wide s p a.0 a.1 in
    let rest = sides-wide s ps a.2.0 a.2.1 in
    ap length (sym a.2.2) ∙ length-append a.0 a.2.0 ∙ (λ i. own i + rest i)

-- where there is a member, a product has these kinds
pub beside-sides : (s : Tables) (b : List Plan) (p : Plan) (a : List Plan) → beside_all (kinds_of_each s (plans (b ++ (p ∷ a)))) ≡ sides s (b ++ (p ∷ a))
beside-sides s [] p a = beside_all-more (plan_kinds s p) (kinds_of_each s (plans a))
beside-sides s (q ∷ b) p a = beside_all-more (plan_kinds s q) (kinds_of_each s (plans (b ++ (p ∷ a))))

pub sides-of : (o : Option (List Kinds)) (ks : Kinds) → beside_all o ≡ Some ks → option_map side_by_side o ≡ Some ks
sides-of o ks e = let b = beside_is o ks e in ap (option_map side_by_side) b.1 ∙ ap Some b.2

-- the kinds of those before a member, of that one and of those behind it
pub record AroundKinds (s : Tables) (b : List Plan) (p : Plan) (a : List Plan) (ks : Kinds) : Type 0 where
  pub first : Kinds
  pub of_first : sides s b ≡ Some first
  pub own : Kinds
  pub of_own : plan_kinds s p ≡ Some own
  pub last : Kinds
  pub of_last : sides s a ≡ Some last
  pub together : first ++ (own ++ last) ≡ ks

pub around-kinds : (s : Tables) (b : List Plan) (p : Plan) (a : List Plan) (ks : Kinds) → sides s (b ++ (p ∷ a)) ≡ Some ks → AroundKinds s b p a ks
around-kinds s b p a ks e =
    let x = both_given (sides s b) (sides s (p ∷ a)) ks (sym (sides-append s b (p ∷ a)) ∙ e) in
    let y = both_given (plan_kinds s p) (sides s a) x.2.0 (sym (sides-more s p a) ∙ x.2.1) in
    record {
      first = x.0;
      of_first = x.1;
      own = y.0;
      of_own = y.1;
      last = y.2.0;
      of_last = y.2.1;
      together = ap (λ m. x.0 ++ m) y.2.2 ∙ x.2.2;
    }

-- of two lists of members together
pub both-kinds : (s : Tables) (ps qs : List Plan) (ks ls : Kinds) → sides s ps ≡ Some ks → sides s qs ≡ Some ls → sides s (ps ++ qs) ≡ Some (ks ++ ls)
both-kinds s ps qs ks ls e f = sides-append s ps qs ∙ (λ i. joined (e i) (f i))

-- ---- the rows of members

abbrev pub member_rows : Tables → List Plan → Database → List Row
member_rows s ps db = product (rows_of_each s (plans ps) db)

pub rows-append : (s : Tables) (db : Database) (ps qs : List Plan) → member_rows s (ps ++ qs) db ≡ pairs (member_rows s ps db) (member_rows s qs db)
rows-append s db [] qs = sym (unit-pairs (member_rows s qs db))
rows-append s db (p ∷ ps) qs = ap (pairs (rows_of s p db)) (rows-append s db ps qs) ∙ sym (pairs-assoc (rows_of s p db) (member_rows s ps db) (member_rows s qs db))

-- a member between others, and another behind it
pub rows-one : (s : Tables) (db : Database) (b : List Plan) (p : Plan) (a : List Plan) → member_rows s (b ++ (p ∷ a)) db ≡ pairs (member_rows s b db) (pairs (rows_of s p db) (member_rows s a db))
rows-one s db b p a = rows-append s db b (p ∷ a)

pub rows-two : (s : Tables) (db : Database) (b : List Plan) (p : Plan) (m : List Plan) (q : Plan) (a : List Plan) →
    member_rows s (b ++ (p ∷ (m ++ (q ∷ a)))) db ≡ pairs (member_rows s b db) (pairs (rows_of s p db) (pairs (member_rows s m db) (pairs (rows_of s q db) (member_rows s a db))))
rows-two s db b p m q a = rows-one s db b p (m ++ (q ∷ a)) ∙ ap (λ rows. pairs (member_rows s b db) (pairs (rows_of s p db) rows)) (rows-one s db m q a)

-- one of the two alone
pub rows-left : (s : Tables) (db : Database) (b : List Plan) (p : Plan) (m a : List Plan) →
    member_rows s (b ++ (p ∷ (m ++ a))) db ≡ pairs (member_rows s b db) (pairs (rows_of s p db) (pairs (member_rows s m db) (member_rows s a db)))
rows-left s db b p m a = rows-one s db b p (m ++ a) ∙ ap (λ rows. pairs (member_rows s b db) (pairs (rows_of s p db) rows)) (rows-append s db m a)

pub wide-kinds : (ks : Kinds) (n : ℕ) (rows : List Row) → length ks ≡ n → HaveKinds ks rows → AreWide n rows
wide-kinds ks n rows w h r c = AllZip-long (λ k x. fits k x ≡ true) ks r (each_from_recursion (HasKinds ks) rows h r c) ∙ w

pub wide-members : (s : Tables) (db : Database) → TablesFit s db → (ps : List Plan) (ks : Kinds) → sides s ps ≡ Some ks → AreWide (widths s ps) (member_rows s ps db)
wide-members s db t ps ks e =
    let a = map_given side_by_side (kinds_of_each s (plans ps)) ks e in
    wide-kinds ks (widths s ps) (member_rows s ps db) (sides-wide s ps ks e)
    (subst (λ m. HaveKinds m (member_rows s ps db)) a.2 (product-fit a.0 (rows_of_each s (plans ps) db) (each-fit s db t (plans ps) a.0 a.1)))
