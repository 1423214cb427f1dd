-- A selection among the members of a product, or on the right of a left join: its condition above, moved behind the columns before it.
use Rattle.std.proofs.Common.{◌≡◌, ◌∙◌, inl, inr, ℕ, ◌+◌, ◌*◌, ◌<◌, List, [], ◌∷◌, ◌++◌, Option, Some, None, length, length-append, append-nil, append_assoc, refl, sym, ap, subst, arith}
use Rattle.std.specs.Prelude.{is_some, option_map}
use Rattle.std.specs.List.{filter}
use Rattle.std.specs.Option.{option_map_or}
use Rattle.std.proofs.Math.Nat.{mul-lt-mul_of_pos_left, mul-lt-mul_of_pos_right}
use Rattle.std.proofs.lemmas.Option.{same_Some}
use Rattle.vkg_lists.proofs.Bags.{bag_same}
use Rattle.vkg_lists.proofs.Onto.{both_given, map_given}
use Rattle.vkg_lists.specs.Options.{joined, with_first}
use Rattle.vkg_cells.specs.declared.cell.SqlType.TheVariants as kind
use Rattle.vkg_schema.specs.Rows.{Database, Row}
use Rattle.vkg_expr.specs.Expr.{Expr}
use Rattle.vkg_expr.specs.Laws.{HasKinds}
use Rattle.vkg_expr.specs.Logic.{and_then}
use Rattle.vkg_expr.specs.Strict.{moved}
use Rattle.vkg_expr.specs.Value.{holds}
use Rattle.vkg_columns.proofs.Conjuncts.{IsTruth, and_then-kind, filter-and_then, holds-and_then}
use Rattle.vkg_columns.proofs.MovedColumns.{left-holds, moved-kind, moved_behind-holds}
use Rattle.vkg_columns.proofs.OnColumns.{columns-in_range}
use Rattle.vkg_plan.proofs.KindLists.{beside_all-more}
use Rattle.vkg_plan.proofs.Pairs.{pairs-assoc, pairs-unit, unit-pairs}
use Rattle.vkg_plan.proofs.RowsFit.{beside_is, checked_parts, product-fit, rows-fit}
use Rattle.vkg_plan.specs.Kinds.{Kinds, Tables, beside_all, kinds_of_each, plan_kinds, side_by_side, width}
use Rattle.vkg_plan.specs.Laws.{HaveKinds, TablesFit}
use Rattle.vkg_plan.specs.Plan.{Plan, Plans, Select, Join, Left, Nil, More}
use Rattle.vkg_plan.specs.Rows.{left_pairs, pairs, product, rows_of, rows_of_each}
use Rattle.vkg_rules.specs.declared.rewrite.Fell.TheVariants as fell
use Rattle.vkg_rules.specs.EverywhereLaw.{or_given}
use Rattle.vkg_rules.specs.Measure.{weight, weights_product}
use Rattle.vkg_rules.specs.Parts.{checked-is}
use Rattle.vkg_rules.specs.Steps.{Falls, IsTyped, Keeps, Step}
use Rattle.vkg_rules.specs.Weights.{product_positive, weight_positive}
use Rattle.vkg_shapes.specs.PartsLaw.{wide}
use Rattle.vkg_joins.specs.JoinInJoin.{Members, behind}
use Rattle.vkg_joins.specs.KeptPairs.{left_kept, right_kept}
use Rattle.vkg_joins.specs.TableRows.{tables_fit}
use Rattle.vkg_moves.specs.Conditions.{checked-given, checked-truth}
use Rattle.vkg_moves.specs.LeftRows.{right_above}
use Rattle.vkg_moves.specs.MergeSelects.{Part, before, part_behind, unselected}
use Rattle.vkg_moves.specs.SelectLaw.{kinds-wide}

-- ---- members of a product

-- the kinds of all
abbrev sides : Tables → Plans → Option Kinds
sides s ps = option_map side_by_side (kinds_of_each s ps)

sides-more : (k : Option Kinds) (o : Option (List Kinds)) → option_map side_by_side (with_first k o) ≡ joined k (option_map side_by_side o)
sides-more None o = refl
sides-more (Some ks) None = refl
sides-more (Some ks) (Some kss) = refl

-- the kinds of one and of others, which are there where those of all are
more-given : (s : Tables) (p : Plan) (ps : Plans) (ls : Kinds) → sides s (More p ps) ≡ Some ls → (us : Kinds) × (plan_kinds s p ≡ Some us) × ((vs : Kinds) × (sides s ps ≡ Some vs) × (us ++ vs ≡ ls))
more-given s p ps ls e = both_given (plan_kinds s p) (sides s ps) ls (sym (sides-more (plan_kinds s p) (kinds_of_each s ps)) ∙ e)

more-made : (s : Tables) (p : Plan) (ps : Plans) (us vs ls : Kinds) → plan_kinds s p ≡ Some us → sides s ps ≡ Some vs → us ++ vs ≡ ls → beside_all (kinds_of_each s (More p ps)) ≡ Some ls
more-made s p ps us vs ls e f g =
    beside_all-more (plan_kinds s p) (kinds_of_each s ps) ∙ sides-more (plan_kinds s p) (kinds_of_each s ps) ∙ (λ i. joined (e i) (f i)) ∙ ap Some g

sides-of : (o : Option (List Kinds)) (ks : Kinds) → beside_all o ≡ Some ks → option_map side_by_side o ≡ Some ks
sides-of o ks e = let b = beside_is o ks e in ap (option_map side_by_side) b.1 ∙ ap Some b.2

-- behind rows of the kinds ks, which are n: the kinds stay, the pairs are those that the condition keeps, and the weight is less
record IsUnselected (s : Tables) (n : ℕ) (ps : Plans) (x : Members) : Type 0 where
  kinds : (ks ls : Kinds) → length ks ≡ n → sides s ps ≡ Some ls → (beside_all (kinds_of_each s x.0) ≡ Some ls) × IsTruth (ks ++ ls) x.1
  rows : (db : Database) → TablesFit s db → (ks ls : Kinds) → length ks ≡ n → sides s ps ≡ Some ls → (ts : List Row) → HaveKinds ks ts →
      pairs ts (product (rows_of_each s ps db)) ≡ filter (holds x.1) (pairs ts (product (rows_of_each s x.0 db)))
  less : weights_product x.0 < weights_product ps

-- a condition moved behind a row of these kinds
behind-holds : (ks : Kinds) (n : ℕ) (d : Expr) → length ks ≡ n → (l : Row) → HasKinds ks l → (r : Row) → holds d r ≡ holds (moved n d) (l ++ r)
behind-holds ks n d w l k r = sym (moved_behind-holds l r n d (sym (wide ks l k) ∙ w))

here-kinds : (s : Tables) (n : ℕ) (d : Expr) (p : Plan) (ps : Plans) (ks ls : Kinds) → length ks ≡ n → sides s (More (Select d p) ps) ≡ Some ls →
    (beside_all (kinds_of_each s (More p ps)) ≡ Some ls) × IsTruth (ks ++ ls) (moved n d)
here-kinds s n d p ps ks ls w e =
    let a = more-given s (Select d p) ps ls e in
    let g = checked-given d (plan_kinds s p) a.0 a.1 in
    (more-made s p ps a.0 a.2.0 ls g.0 a.2.1 a.2.2, subst (λ m. IsTruth (ks ++ m) (moved n d)) a.2.2 (moved-kind ks a.0 a.2.0 n d kind.Bool w g.1))

here-rows : (s : Tables) (n : ℕ) (d : Expr) (p : Plan) (ps : Plans) (db : Database) → TablesFit s db → (ks ls : Kinds) → length ks ≡ n → sides s (More (Select d p) ps) ≡ Some ls →
    (ts : List Row) → HaveKinds ks ts → pairs ts (product (rows_of_each s (More (Select d p) ps) db)) ≡ filter (holds (moved n d)) (pairs ts (product (rows_of_each s (More p ps) db)))
here-rows s n d p ps db t ks ls w e ts h =
    let us = (more-given s (Select d p) ps ls e).0 in
    let g = checked-given d (plan_kinds s p) us (more-given s (Select d p) ps ls e).1 in
    let own = rows_of s p db in
    let rest = product (rows_of_each s ps db) in
    let within = columns-in_range d us kind.Bool g.1 in
    ap (pairs ts) (left_kept (λ (l r : Row). l ++ r) (HasKinds us) (holds d) (holds d) (λ l k r. sym (left-holds l r (length us) d (sym (wide us l k)) within)) own (rows-fit s db t p us g.0) rest)
    ∙ right_kept (λ (l r : Row). l ++ r) (HasKinds ks) (holds d) (holds (moved n d)) (behind-holds ks n d w) ts h (pairs own rest)

here-less : (d : Expr) (p : Plan) (ps : Plans) → weights_product (More p ps) < weights_product (More (Select d p) ps)
here-less d p ps =
    let less : weight p < 2 * weight p = let k = weight_positive p in omega (arith, k) in
    mul-lt-mul_of_pos_right less (product_positive ps)

here : (s : Tables) (n : ℕ) (p : Plan) (ps : Plans) (y : Part) → part_behind n p ≡ Some y → IsUnselected s n (More p ps) (before ps y)
here s n (Select d p) ps y e = subst (λ z. IsUnselected s n (More (Select d p) ps) (before ps z)) (same_Some (p, moved n d) y e)
    (record { kinds = here-kinds s n d p ps; rows = here-rows s n d p ps; less = here-less d p ps })
here s n _ ps y e = cc

pairs-fit : (ks ls : Kinds) (ts rs : List Row) → HaveKinds ks ts → HaveKinds ls rs → HaveKinds (ks ++ ls) (pairs ts rs)
pairs-fit ks ls ts rs h k =
    subst (λ m. HaveKinds (ks ++ m) (pairs ts rs)) (append-nil ls)
    (subst (λ m. HaveKinds (ks ++ (ls ++ [])) (pairs ts m)) (pairs-unit rs) (product-fit (ks ∷ ls ∷ []) (ts ∷ rs ∷ []) (h, (k, tt))))

-- a member that stays
later : (s : Tables) (n : ℕ) (p : Plan) (ps : Plans) (y : Members) → IsUnselected s (n + width s p) ps y → IsUnselected s n (More p ps) (behind p y)
later s n p ps y d = record {
  kinds = λ ks ls w e.
      let a = more-given s p ps ls e in
      let r = d.kinds (ks ++ a.0) a.2.0 (wider ks a.0 w a.1) a.2.1 in
      (more-made s p y.0 a.0 a.2.0 ls a.1 (sides-of (kinds_of_each s y.0) a.2.0 r.0) a.2.2, subst (λ m. IsTruth m y.1) (append_assoc ks a.0 a.2.0 ∙ ap (λ m. ks ++ m) a.2.2) r.1);
  rows = λ db t ks ls w e ts h.
      let a = more-given s p ps ls e in
      let rs = rows_of s p db in
      sym (pairs-assoc ts rs (product (rows_of_each s ps db)))
      ∙ d.rows db t (ks ++ a.0) a.2.0 (wider ks a.0 w a.1) a.2.1 (pairs ts rs) (pairs-fit ks a.0 ts rs h (rows-fit s db t p a.0 a.1))
      ∙ ap (filter (holds y.1)) (pairs-assoc ts rs (product (rows_of_each s y.0 db)));
  less = mul-lt-mul_of_pos_left d.less (weight_positive p);
}
  where
    wider : (ks us : Kinds) → length ks ≡ n → plan_kinds s p ≡ Some us → length (ks ++ us) ≡ n + width s p
    wider ks us w e =
        let l = length-append ks us in
        let k = kinds-wide s p us e in omega (arith, l, k, w)

is-unselected : (s : Tables) (n : ℕ) (ps : Plans) (x : Members) → unselected s n ps ≡ Some x → IsUnselected s n ps x
is-unselected s n Nil x e = cc
is-unselected s n (More p ps) x e = elim (or_given _ _ x e) [
  | inl k ↦ let m = map_given (before ps) (part_behind n p) x k in subst (IsUnselected s n (More p ps)) m.2 (here s n p ps m.0 m.1)
  | inr k ↦ let m = map_given (behind p) (unselected s (n + width s p) ps) x k in subst (IsUnselected s n (More p ps)) m.2 (later s n p ps m.0 (is-unselected s (n + width s p) ps m.0 m.1))
]

-- the Join that comes of it
abbrev pub rejoined : Expr → Members → Step
rejoined c x = (Join x.0 (and_then x.1 c), fell.Weight)

unselected-keeps : (s : Tables) (ps : Plans) (c : Expr) (x : Members) → IsTyped s (Join ps c) → unselected s 0 ps ≡ Some x → Keeps s (Join ps c) (rejoined c x).0
unselected-keeps s ps c x t e =
    let d = is-unselected s 0 ps x e in
    let a = checked_parts c (beside_all (kinds_of_each s ps)) t in
    let ks = a.0 in
    let of_all = sides-of (kinds_of_each s ps) ks a.1 in
    let k = d.kinds [] ks refl of_all in
    record {
      kinds = checked-truth (and_then x.1 c) (beside_all (kinds_of_each s x.0)) ks k.0 (and_then-kind ks x.1 c k.1 a.2) ∙ sym (checked-truth c (beside_all (kinds_of_each s ps)) ks a.1 a.2);
      rows = λ db m.
          let old = product (rows_of_each s ps db) in
          let new = product (rows_of_each s x.0 db) in
          bag_same (
          ap (filter (holds c)) (sym (unit-pairs old) ∙ d.rows db (tables_fit s db m) [] ks refl of_all ([] ∷ []) (tt, tt) ∙ ap (filter (holds x.1)) (unit-pairs new))
          ∙ filter-and_then x.1 c new);
    }

pub joined-keeps : (s : Tables) (ps : Plans) (c : Expr) (x : Step) → IsTyped s (Join ps c) → option_map (rejoined c) (unselected s 0 ps) ≡ Some x → Keeps s (Join ps c) x.0
joined-keeps s ps c x t e =
    let m = map_given (rejoined c) (unselected s 0 ps) x e in
    subst (λ (z : Step). Keeps s (Join ps c) z.0) m.2 (unselected-keeps s ps c m.0 t m.1)

pub joined-falls : (s : Tables) (ps : Plans) (c : Expr) (x : Step) → option_map (rejoined c) (unselected s 0 ps) ≡ Some x → Falls s (Join ps c) x
joined-falls s ps c x e =
    let m = map_given (rejoined c) (unselected s 0 ps) x e in
    let l = (is-unselected s 0 ps m.0 m.1).less in
    subst (Falls s (Join ps c)) m.2 (omega (arith, l))

-- ---- the right side of a left join

module _ (s : Tables) where
  pub right-kinds : (p q : Plan) (c d : Expr) → IsTyped s (Left p (Select d q) c) → plan_kinds s (Left p q (and_then (moved (width s p) d) c)) ≡ plan_kinds s (Left p (Select d q) c)
  right-kinds p q c d t =
      let a = checked_parts c (joined (plan_kinds s p) (plan_kinds s (Select d q))) t in
      let b = both_given (plan_kinds s p) (plan_kinds s (Select d q)) a.0 a.1 in
      let g = checked-given d (plan_kinds s q) b.2.0 b.2.1 in
      let m : IsTruth (b.0 ++ (b.2.0 ++ [])) (moved (width s p) d) = moved-kind b.0 b.2.0 [] (width s p) d kind.Bool (kinds-wide s p b.0 b.1) g.1 in
      let inner : IsTruth a.0 (moved (width s p) d) = subst (λ ks. IsTruth ks (moved (width s p) d)) (ap (λ r. b.0 ++ r) (append-nil b.2.0) ∙ b.2.2) m in
      checked-truth (and_then (moved (width s p) d) c) (joined (plan_kinds s p) (plan_kinds s q)) a.0 ((λ i. joined (b.1 i) (g.0 i)) ∙ ap Some b.2.2) (and_then-kind a.0 (moved (width s p) d) c inner a.2)
      ∙ sym (checked-truth c (joined (plan_kinds s p) (plan_kinds s (Select d q))) a.0 a.1 a.2)

  right-keeps : (p q : Plan) (c d : Expr) → IsTyped s (Left p (Select d q) c) → Keeps s (Left p (Select d q) c) (Left p q (and_then (moved (width s p) d) c))
  right-keeps p q c d t =
      let a = checked_parts c (joined (plan_kinds s p) (plan_kinds s (Select d q))) t in
      let b = both_given (plan_kinds s p) (plan_kinds s (Select d q)) a.0 a.1 in
      let inner = moved (width s p) d in
      record {
        kinds = right-kinds p q c d t;
        rows = λ db m.
            let ls = rows_of s p db in
            let rs = rows_of s q db in
            bag_same (
            ap (λ o. left_pairs (holds c) (option_map_or length o 0) ls (filter (holds d) rs)) (checked-is d (plan_kinds s q) (ap is_some b.2.1))
            ∙ right_above (HasKinds b.0) (holds d) (holds inner) (holds c) (holds (and_then inner c)) (width s q) (behind-holds b.0 (width s p) d (kinds-wide s p b.0 b.1))
            (λ row. holds-and_then row inner c) ls rs (rows-fit s db (tables_fit s db m) p b.0 b.1));
      }

  abbrev pub with_right : Plan → Expr → Part → Step
  with_right p c x = (Left p x.0 (and_then x.1 c), fell.Weight)

  right-of : (p q : Plan) (c : Expr) (y : Part) → IsTyped s (Left p q c) → part_behind (width s p) q ≡ Some y → Keeps s (Left p q c) (with_right p c y).0
  right-of p (Select d q) c y t e = subst (λ (z : Part). Keeps s (Left p (Select d q) c) (with_right p c z).0) (same_Some (q, moved (width s p) d) y e) (right-keeps p q c d t)
  right-of p _ c y t e = cc

  pub beside-keeps : (p q : Plan) (c : Expr) (x : Step) → IsTyped s (Left p q c) → option_map (with_right p c) (part_behind (width s p) q) ≡ Some x → Keeps s (Left p q c) x.0
  beside-keeps p q c x t e =
      let m = map_given (with_right p c) (part_behind (width s p) q) x e in
      subst (λ (z : Step). Keeps s (Left p q c) z.0) m.2 (right-of p q c m.0 t m.1)

  right-less : (p q : Plan) (y : Part) (n : ℕ) → part_behind n q ≡ Some y → 4 * weight p * weight y.0 < 4 * weight p * weight q
  right-less p (Select d q) y n e =
      let four : 0 < 4 * weight p = let k = weight_positive p in omega (arith, k) in
      let less : weight q < 2 * weight q = let k = weight_positive q in omega (arith, k) in
      subst (λ (z : Part). 4 * weight p * weight z.0 < 4 * weight p * weight (Select d q)) (same_Some (q, moved n d) y e) (mul-lt-mul_of_pos_left less four)
  right-less p _ y n e = cc

  pub beside-falls : (p q : Plan) (c : Expr) (x : Step) → option_map (with_right p c) (part_behind (width s p) q) ≡ Some x → Falls s (Left p q c) x
  beside-falls p q c x e =
      let m = map_given (with_right p c) (part_behind (width s p) q) x e in
      let l = right-less p q m.0 (width s p) m.1 in
      subst (Falls s (Left p q c)) m.2 (omega (arith, l))
