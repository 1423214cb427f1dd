-- Its laws: a product among the members of a product is one product, and the inner condition reads the columns that it read.
use Rattle.std.proofs.Common.{◌≡◌, ◌∙◌, inl, inr, ℕ, ◌+◌, ◌*◌, ◌<◌, List, [], ◌∷◌, ◌++◌, Option, Some, None, length, length-append, append-nil, append_assoc, refl, sym, ap, subst, arith, true}
use Rattle.std.specs.Prelude.{is_some, option_map, if◌then◌else◌}
use Rattle.std.specs.List.{filter}
use Rattle.std.specs.Option.{option_map_or}
use Rattle.std.proofs.Math.Nat.{mul-lt-mul_of_pos_left, mul-lt-mul_of_pos_right, mul_assoc}
use Rattle.std.proofs.lemmas.Option.{same_Some}
use Rattle.std.proofs.lemmas.Slice.Zip.{AllZip-long}
use Rattle.vkg_lists.proofs.Bags.{bag_same}
use Rattle.vkg_lists.proofs.Onto.{both_given, joined_assoc, map_given, nil_joined}
use Rattle.vkg_lists.specs.Options.{joined, with_first}
use Rattle.vkg_cells.specs.declared.cell.SqlType.TheVariants as kind
use Rattle.vkg_schema.specs.Rows.{Database, Row}
use Rattle.vkg_expr.specs.Expr.{Expr}
use Rattle.vkg_expr.specs.Laws.{HasKinds}
use Rattle.vkg_expr.specs.Logic.{and_then}
use Rattle.vkg_expr.specs.Strict.{moved}
use Rattle.vkg_expr.specs.Typing.{fits, is_one, kind_of}
use Rattle.vkg_expr.specs.Value.{holds}
use Rattle.vkg_columns.proofs.Conjuncts.{IsTruth, and_then-kind, filter-and_then}
use Rattle.vkg_columns.proofs.MovedColumns.{left-holds, moved-kind, moved_behind-holds}
use Rattle.vkg_columns.proofs.OnColumns.{columns-in_range}
use Rattle.vkg_plan.proofs.KindLists.{beside_all-more}
use Rattle.vkg_plan.proofs.Pairs.{pairs-assoc, pairs-unit, unit-pairs}
use Rattle.vkg_plan.proofs.RowsFit.{beside_is, checked_parts, each-fit, product-fit, rows-fit}
use Rattle.vkg_plan.specs.Kinds.{Kinds, Tables, beside_all, checked, kinds_of_each, plan_kinds, side_by_side, width}
use Rattle.vkg_plan.specs.Laws.{HaveKinds, TablesFit}
use Rattle.vkg_plan.specs.Plan.{Plan, Plans, Join, Nil, More, each, plans}
use Rattle.vkg_plan.specs.Rows.{pairs, product, rows_of, rows_of_each}
use Rattle.vkg_rules.specs.declared.rewrite.Fell.TheVariants as fell
use Rattle.vkg_rules.specs.EverywhereLaw.{or_given}
use Rattle.vkg_rules.specs.Measure.{weight, weights_product}
use Rattle.vkg_rules.specs.Parts.{checked-is}
use Rattle.vkg_rules.specs.Steps.{Falls, FallsAll, IsTyped, Keeps, KeepsAll, Step}
use Rattle.vkg_rules.specs.Weights.{product_positive, weight_positive}
use Rattle.vkg_joins.specs.JoinInJoin.{Members, before, behind, join_in_join, opened, parts_behind}
use Rattle.vkg_joins.specs.KeptPairs.{left_kept, right_kept}
use Rattle.vkg_joins.specs.TableRows.{tables_fit}

-- ---- members before others

-- the kinds of all
abbrev sides : Tables → Plans → Option Kinds
sides s ps = option_map side_by_side (kinds_of_each s ps)

abbrev both : Plans → Plans → Plans
both qs ps = plans (each qs ++ each ps)

plans-each : (ps : Plans) → plans (each ps) ≡ ps
plans-each Nil = refl
plans-each (More p ps) = ap (More p) (plans-each ps)

sides-more : (k : Option Kinds) (o : Option (List Kinds)) → option_map side_by_side (with_first k o) ≡ joined k (option_map side_by_side o)
sides-more None o = refl
sides-more (Some ks) None = refl
sides-more (Some ks) (Some kss) = refl

sides-both : (s : Tables) (qs ps : Plans) → sides s (both qs ps) ≡ joined (sides s qs) (sides s ps)
sides-both s Nil ps = ap (sides s) (plans-each ps) ∙ sym (nil_joined (sides s ps))
sides-both s (More q qs) ps =
    sides-more (plan_kinds s q) (kinds_of_each s (both qs ps))
    ∙ ap (joined (plan_kinds s q)) (sides-both s qs ps)
    ∙ sym (joined_assoc (plan_kinds s q) (sides s qs) (sides s ps))
    ∙ ap (λ o. joined o (sides s ps)) (sym (sides-more (plan_kinds s q) (kinds_of_each s qs)))

product-both : (s : Tables) (db : Database) (qs ps : Plans) → product (rows_of_each s (both qs ps) db) ≡ pairs (product (rows_of_each s qs db)) (product (rows_of_each s ps db))
product-both s db Nil ps = ap (λ z. product (rows_of_each s z db)) (plans-each ps) ∙ sym (unit-pairs (product (rows_of_each s ps db)))
product-both s db (More q qs) ps =
    ap (pairs (rows_of s q db)) (product-both s db qs ps)
    ∙ sym (pairs-assoc (rows_of s q db) (product (rows_of_each s qs db)) (product (rows_of_each s ps db)))

weights-both : (qs ps : Plans) → weights_product (both qs ps) ≡ weights_product qs * weights_product ps
weights-both Nil ps = let e = ap weights_product (plans-each ps) in omega (arith, e)
weights-both (More q qs) ps = ap (λ n. weight q * n) (weights-both qs ps) ∙ sym (mul_assoc (weight q) (weights_product qs) (weights_product ps))

-- a list of one or more has its kinds together
some-both : (s : Tables) (qs ps : Plans) (ks : Kinds) → beside_all (kinds_of_each s qs) ≡ Some ks → beside_all (kinds_of_each s (both qs ps)) ≡ sides s (both qs ps)
some-both s Nil ps ks e = cc
some-both s (More q qs) ps ks e = beside_all-more (plan_kinds s q) (kinds_of_each s (both qs ps))

sides-of : (o : Option (List Kinds)) (ks : Kinds) → beside_all o ≡ Some ks → option_map side_by_side o ≡ Some ks
sides-of o ks e = let b = beside_is o ks e in ap (option_map side_by_side) b.1 ∙ ap Some b.2

-- ---- the first Join opened

-- behind rows of the kinds ks, which are n: the kinds stay, the pairs are those that the condition keeps, and the weight is less
record IsOpened (s : Tables) (n : ℕ) (ps : Plans) (x : Members) : Type 0 where
  kinds : (ks ls : Kinds) → length ks ≡ n → sides s ps ≡ Some ls → (beside_all (kinds_of_each s x.0) ≡ Some ls) × IsTruth (ks ++ ls) x.1
  rows : (db : Database) → TablesFit s db → (ks ls : Kinds) → length ks ≡ n → sides s ps ≡ Some ls → (ts : List Row) → HaveKinds ks ts →
      pairs ts (product (rows_of_each s ps db)) ≡ filter (holds x.1) (pairs ts (product (rows_of_each s x.0 db)))
  less : weights_product x.0 < weights_product ps

wide : (n : ℕ) (ks : Kinds) (row : Row) → length ks ≡ n → HasKinds ks row → length row ≡ n
wide n ks row e h = AllZip-long (λ k c. fits k c ≡ true) ks row h ∙ e

-- the kinds of a typed Join's members, over which its condition is a truth
record JoinKinds (s : Tables) (qs : Plans) (d : Expr) (ks : Kinds) : Type 0 where
  each_one : List Kinds
  of_each : kinds_of_each s qs ≡ Some each_one
  together : side_by_side each_one ≡ ks
  some : beside_all (kinds_of_each s qs) ≡ Some ks
  condition : kind_of d ks ≡ Some kind.Bool

join-kinds : (s : Tables) (qs : Plans) (d : Expr) (ks : Kinds) → plan_kinds s (Join qs d) ≡ Some ks → JoinKinds s qs d ks
join-kinds s qs d ks e =
    let o = beside_all (kinds_of_each s qs) in
    let some = sym (checked-is d o (ap is_some e)) ∙ e in
    let b = beside_is (kinds_of_each s qs) ks some in
    let a = checked_parts d o (ap is_some e) in
    record {
      each_one = b.0;
      of_each = b.1;
      together = b.2;
      some = some;
      condition = subst (λ ls. kind_of d ls ≡ Some kind.Bool) (same_Some a.0 ks (sym a.1 ∙ some)) a.2;
    }

here-kinds : (s : Tables) (n : ℕ) (qs : Plans) (d : Expr) (ps : Plans) (ks ls : Kinds) → length ks ≡ n → sides s (More (Join qs d) ps) ≡ Some ls →
    (beside_all (kinds_of_each s (both qs ps)) ≡ Some ls) × IsTruth (ks ++ ls) (moved n d)
here-kinds s n qs d ps ks ls w e =
    let a = both_given (plan_kinds s (Join qs d)) (sides s ps) ls (sym (sides-more (plan_kinds s (Join qs d)) (kinds_of_each s ps)) ∙ e) in
    let j = join-kinds s qs d a.0 a.1 in
    let inner : sides s qs ≡ Some a.0 = sides-of (kinds_of_each s qs) a.0 j.some in (
      some-both s qs ps a.0 j.some ∙ sides-both s qs ps ∙ (λ i. joined (inner i) (a.2.1 i)) ∙ ap Some a.2.2,
      subst (λ m. IsTruth (ks ++ m) (moved n d)) a.2.2 (moved-kind ks a.0 a.2.0 n d kind.Bool w j.condition),
    )

here-rows : (s : Tables) (n : ℕ) (qs : Plans) (d : Expr) (ps : Plans) (db : Database) → TablesFit s db → (ks ls : Kinds) → length ks ≡ n → sides s (More (Join qs d) ps) ≡ Some ls →
    (ts : List Row) → HaveKinds ks ts → pairs ts (product (rows_of_each s (More (Join qs d) ps) db)) ≡ filter (holds (moved n d)) (pairs ts (product (rows_of_each s (both qs ps) db)))
here-rows s n qs d ps db t ks ls w e ts h =
    let a = both_given (plan_kinds s (Join qs d)) (sides s ps) ls (sym (sides-more (plan_kinds s (Join qs d)) (kinds_of_each s ps)) ∙ e) in
    let us = a.0 in
    let j = join-kinds s qs d us a.1 in
    let own = product (rows_of_each s qs db) in
    let rest = product (rows_of_each s ps db) in
    let fit : HaveKinds us own = subst (λ m. HaveKinds m own) j.together (product-fit j.each_one (rows_of_each s qs db) (each-fit s db t qs j.each_one j.of_each)) in
    let within = columns-in_range d us kind.Bool j.condition in
    ap (pairs ts) (left_kept (λ (l r : Row). l ++ r) (HasKinds us) (holds d) (holds d) (λ l k r. sym (left-holds l r (length us) d (wide (length us) us l refl k) within)) own fit rest)
    ∙ right_kept (λ (l r : Row). l ++ r) (HasKinds ks) (holds d) (holds (moved n d)) (λ l k r. sym (moved_behind-holds l r n d (wide n ks l w k))) ts h (pairs own rest)
    ∙ ap (λ rows. filter (holds (moved n d)) (pairs ts rows)) (sym (product-both s db qs ps))

here-less : (qs : Plans) (d : Expr) (ps : Plans) → weights_product (both qs ps) < weights_product (More (Join qs d) ps)
here-less qs d ps =
    let more : weights_product qs < 3 * weights_product qs = let k = product_positive qs in omega (arith, k) in
    let less = mul-lt-mul_of_pos_right more (product_positive ps) in
    let e = weights-both qs ps in omega (arith, less, e)

here : (s : Tables) (n : ℕ) (p : Plan) (ps : Plans) (y : Members) → parts_behind n p ≡ Some y → IsOpened s n (More p ps) (before ps y)
here s n (Join qs d) ps y e = subst (λ z. IsOpened s n (More (Join qs d) ps) (before ps z)) (same_Some (qs, moved n d) y e)
    (record { kinds = here-kinds s n qs d ps; rows = here-rows s n qs d ps; less = here-less qs d ps })
here s n _ ps y e = cc

-- ---- a member that stays

pairs-fit : (ks ls : Kinds) (ts rs : List Row) → HaveKinds ks ts → HaveKinds ls rs → HaveKinds (ks ++ ls) (pairs ts rs)
pairs-fit ks ls ts rs h k =
    subst (λ m. HaveKinds (ks ++ m) (pairs ts rs)) (append-nil ls)
    (subst (λ m. HaveKinds (ks ++ (ls ++ [])) (pairs ts m)) (pairs-unit rs) (product-fit (ks ∷ ls ∷ []) (ts ∷ rs ∷ []) (h, (k, tt))))

later : (s : Tables) (n : ℕ) (p : Plan) (ps : Plans) (y : Members) → IsOpened s (n + width s p) ps y → IsOpened s n (More p ps) (behind p y)
later s n p ps y d = record {
  kinds = λ ks ls w e.
      let a = both_given (plan_kinds s p) (sides s ps) ls (sym (sides-more (plan_kinds s p) (kinds_of_each s ps)) ∙ e) in
      let r = d.kinds (ks ++ a.0) a.2.0 (wider ks a.0 w a.1) a.2.1 in (
        beside_all-more (plan_kinds s p) (kinds_of_each s y.0)
            ∙ sides-more (plan_kinds s p) (kinds_of_each s y.0)
            ∙ (λ i. joined (a.1 i) (sides-of (kinds_of_each s y.0) a.2.0 r.0 i))
            ∙ ap Some a.2.2,
        subst (λ m. IsTruth m y.1) (append_assoc ks a.0 a.2.0 ∙ ap (λ m. ks ++ m) a.2.2) r.1,
      );
  rows = λ db t ks ls w e ts h.
      let a = both_given (plan_kinds s p) (sides s ps) ls (sym (sides-more (plan_kinds s p) (kinds_of_each s ps)) ∙ e) in
      let rs = rows_of s p db in
      sym (pairs-assoc ts rs (product (rows_of_each s ps db)))
      ∙ d.rows db t (ks ++ a.0) a.2.0 (wider ks a.0 w a.1) a.2.1 (pairs ts rs) (pairs-fit ks a.0 ts rs h (rows-fit s db t p a.0 a.1))
      ∙ ap (filter (holds y.1)) (pairs-assoc ts rs (product (rows_of_each s y.0 db)));
  less = mul-lt-mul_of_pos_left d.less (weight_positive p);
}
  where
    wider : (ks us : Kinds) → length ks ≡ n → plan_kinds s p ≡ Some us → length (ks ++ us) ≡ n + width s p
    wider ks us w e =
        let l = length-append ks us in
        let k : width s p ≡ length us = ap (λ o. option_map_or length o 0) e in omega (arith, l, k, w)

is-opened : (s : Tables) (n : ℕ) (ps : Plans) (x : Members) → opened s n ps ≡ Some x → IsOpened s n ps x
is-opened s n Nil x e = cc
is-opened s n (More p ps) x e = elim (or_given _ _ x e) [
  | inl k ↦ let m = map_given (before ps) (parts_behind n p) x k in subst (IsOpened s n (More p ps)) m.2 (here s n p ps m.0 m.1)
  | inr k ↦ let m = map_given (behind p) (opened s (n + width s p) ps) x k in subst (IsOpened s n (More p ps)) m.2 (later s n p ps m.0 (is-opened s (n + width s p) ps m.0 m.1))
]

-- ---- the laws

-- the Join that comes of a condition and what was opened
abbrev rejoined : Expr → Members → Step
rejoined c x = (Join x.0 (and_then x.1 c), fell.Weight)

checked-truth : (c : Expr) (o : Option Kinds) (ks : Kinds) → o ≡ Some ks → IsTruth ks c → checked c o ≡ Some ks
checked-truth c o ks e k = ap (checked c) e ∙ ap (λ m. if is_one kind.Bool m then Some ks else None) k

opened-keeps : (s : Tables) (ps : Plans) (c : Expr) (x : Members) → IsTyped s (Join ps c) → opened s 0 ps ≡ Some x → Keeps s (Join ps c) (rejoined c x).0
opened-keeps s ps c x t e =
    let d = is-opened s 0 ps x e in
    let a = checked_parts c (beside_all (kinds_of_each s ps)) t in
    let ks = a.0 in
    let of_all = sides-of (kinds_of_each s ps) ks a.1 in
    let k = d.kinds [] ks refl of_all in
    record {
      kinds = checked-truth (and_then x.1 c) (beside_all (kinds_of_each s x.0)) ks k.0 (and_then-kind ks x.1 c k.1 a.2) ∙ sym (checked-truth c (beside_all (kinds_of_each s ps)) ks a.1 a.2);
      rows = λ db m.
          let old = product (rows_of_each s ps db) in
          let new = product (rows_of_each s x.0 db) in
          bag_same (
          ap (filter (holds c)) (sym (unit-pairs old) ∙ d.rows db (tables_fit s db m) [] ks refl of_all ([] ∷ []) (tt, tt) ∙ ap (filter (holds x.1)) (unit-pairs new))
          ∙ filter-and_then x.1 c new);
    }

join-keeps : (s : Tables) (ps : Plans) (c : Expr) (x : Step) → IsTyped s (Join ps c) → option_map (rejoined c) (opened s 0 ps) ≡ Some x → Keeps s (Join ps c) x.0
join-keeps s ps c x t e =
    let m = map_given (rejoined c) (opened s 0 ps) x e in
    subst (λ (z : Step). Keeps s (Join ps c) z.0) m.2 (opened-keeps s ps c m.0 t m.1)

join-falls : (s : Tables) (ps : Plans) (c : Expr) (x : Step) → option_map (rejoined c) (opened s 0 ps) ≡ Some x → Falls s (Join ps c) x
join-falls s ps c x e =
    let m = map_given (rejoined c) (opened s 0 ps) x e in
    let l = (is-opened s 0 ps m.0 m.1).less in
    subst (Falls s (Join ps c)) m.2 (omega (arith, l))

pub join_in_join-keeps : KeepsAll join_in_join
join_in_join-keeps s form (Join ps c) x t e = join-keeps s ps c x t e
join_in_join-keeps s form _ x t e = cc

pub join_in_join-falls : FallsAll join_in_join
join_in_join-falls s form (Join ps c) x t e = join-falls s ps c x e
join_in_join-falls s form _ x t e = cc
