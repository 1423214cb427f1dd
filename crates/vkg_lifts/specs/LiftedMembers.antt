-- Of the members of a Join the first Project lifted: its expressions give of the rows below it those that were there.
use Rattle.std.proofs.Common.{◌≡◌, ◌∙◌, inl, inr, ℕ, ◌+◌, ◌*◌, ◌<◌, ◌≤◌, List, [], ◌∷◌, ◌++◌, Option, Some, None, append-nil, drop, length, length-append, append_assoc, map, refl, sym, ap, subst, take, arith}
use Rattle.std.specs.Prelude.{option_map}
use Rattle.std.proofs.Math.Nat.{mul-lt-mul_of_pos_left}
use Rattle.std.proofs.lemmas.List.{length-drop, length-take-le, map-id, take-append-drop}
use Rattle.std.proofs.lemmas.Option.{same_Some}
use Rattle.vkg_lists.proofs.Onto.{both_given, map_given}
use Rattle.vkg_lists.specs.Options.{joined, with_first}
use Rattle.vkg_schema.specs.Rows.{Database, Row}
use Rattle.vkg_expr.specs.Expr.{Expr, exprs}
use Rattle.vkg_expr.specs.Typing.{kinds_of}
use Rattle.vkg_expr.specs.Value.{values_of}
use Rattle.vkg_plan.proofs.KindLists.{beside_all-more}
use Rattle.vkg_plan.proofs.Pairs.{pairs-assoc, pairs-unit}
use Rattle.vkg_plan.proofs.RowsFit.{beside_is, each-fit, product-fit, rows-fit}
use Rattle.vkg_plan.specs.Kinds.{Kinds, Tables, beside_all, kinds_of_each, plan_kinds, side_by_side, width}
use Rattle.vkg_plan.specs.Laws.{HaveKinds, TablesFit}
use Rattle.vkg_plan.specs.Plan.{Plan, Plans, Project, Nil, More}
use Rattle.vkg_plan.specs.Rows.{pairs, product, rows_of, rows_of_each}
use Rattle.vkg_rules.specs.EverywhereLaw.{or_given}
use Rattle.vkg_rules.specs.Measure.{weight, weights_product}
use Rattle.vkg_rules.specs.Weights.{product_positive, weight_positive}
use Rattle.vkg_lifts.specs.InBetween.{AreWithin, between-kinds, between-values}
use Rattle.vkg_lifts.specs.LiftProjects.{Lifted, Parts, before, behind, in_between, lifted, parts_between, widths}
use Rattle.vkg_lifts.specs.LiftedKinds.{as_wide, project-kinds, wide-rows}
use Rattle.vkg_lifts.specs.ThroughPairs.{AreOfWidth, pairs-through}

-- ---- the kinds of several together

abbrev pub sides : Tables → Plans → Option Kinds
sides s ps = option_map side_by_side (kinds_of_each s ps)

sides-more : (k : Option Kinds) (o : Option (List Kinds)) → option_map side_by_side (with_first k o) ≡ joined k (option_map side_by_side o)
sides-more None o = refl
sides-more (Some ks) None = refl
sides-more (Some ks) (Some kss) = refl

pub sides-of : (o : Option (List Kinds)) (ks : Kinds) → beside_all o ≡ Some ks → option_map side_by_side o ≡ Some ks
sides-of o ks e = let b = beside_is o ks e in ap (option_map side_by_side) b.1 ∙ ap Some b.2

-- the first's, and those of the others
record SidesParts (s : Tables) (p : Plan) (ps : Plans) (ls : Kinds) : Type 0 where
  first : Kinds
  of_first : plan_kinds s p ≡ Some first
  rest : Kinds
  of_rest : sides s ps ≡ Some rest
  together : first ++ rest ≡ ls

sides-parts : (s : Tables) (p : Plan) (ps : Plans) (ls : Kinds) → sides s (More p ps) ≡ Some ls → SidesParts s p ps ls
sides-parts s p ps ls e =
    let a = both_given (plan_kinds s p) (sides s ps) ls (sym (sides-more (plan_kinds s p) (kinds_of_each s ps)) ∙ e) in
    record { first = a.0; of_first = a.1; rest = a.2.0; of_rest = a.2.1; together = a.2.2 }

-- one and others have their kinds together
made-sides : (s : Tables) (p : Plan) (ps : Plans) (ks ls : Kinds) → plan_kinds s p ≡ Some ks → sides s ps ≡ Some ls → beside_all (kinds_of_each s (More p ps)) ≡ Some (ks ++ ls)
made-sides s p ps ks ls e f =
    beside_all-more (plan_kinds s p) (kinds_of_each s ps) ∙ sides-more (plan_kinds s p) (kinds_of_each s ps) ∙ (λ i. joined (e i) (f i))

sides-wide : (s : Tables) (ps : Plans) (ls : Kinds) → sides s ps ≡ Some ls → length ls ≡ widths s ps
sides-wide s Nil ls e = ap length (sym (same_Some [] ls e))
sides-wide s (More p ps) ls e =
    let a = sides-parts s p ps ls e in
    let own = as_wide s p a.first a.of_first in
    let rest = sides-wide s ps a.rest a.of_rest in
    ap length (sym a.together) ∙ length-append a.first a.rest ∙ (λ i. own i + rest i)

sides-fit : (s : Tables) (db : Database) → TablesFit s db → (ps : Plans) (ls : Kinds) → sides s ps ≡ Some ls → HaveKinds ls (product (rows_of_each s ps db))
sides-fit s db t ps ls e =
    let a = map_given side_by_side (kinds_of_each s ps) ls e in
    subst (λ m. HaveKinds m (product (rows_of_each s ps db))) a.2 (product-fit a.0 (rows_of_each s ps db) (each-fit s db t ps a.0 a.1))

pairs-fit : (ks ls : Kinds) (ts rs : List Row) → HaveKinds ks ts → HaveKinds ls rs → HaveKinds (ks ++ ls) (pairs ts rs)
pairs-fit ks ls ts rs h k =
    subst (λ m. HaveKinds (ks ++ m) (pairs ts rs)) (append-nil ls)
    (subst (λ m. HaveKinds (ks ++ (ls ++ [])) (pairs ts m)) (pairs-unit rs) (product-fit (ks ∷ ls ∷ []) (ts ∷ rs ∷ []) (h, (k, tt))))

-- ---- rows below a Project, with rows before and behind them

-- with a row behind it
pub left-both : (w k : ℕ) (es : List Expr) → AreWithin w es → (m r : Row) → length m ≡ w → length r ≡ k → values_of (exprs es) m ++ r ≡ values_of (exprs (in_between 0 w k es)) (m ++ r)
left-both w k es within m r lm lr = sym (between-values [] m r 0 w k es refl lm lr within)

module _ (n w k : ℕ) (es : List Expr) (within : AreWithin w es) where
  middle-both : (l m r : Row) → length l ≡ n → length m ≡ w → length r ≡ k → l ++ values_of (exprs (in_between 0 w k es)) (m ++ r) ≡ values_of (exprs (in_between n w k es)) (l ++ (m ++ r))
  middle-both l m r ll lm lr = ap (λ z. l ++ z) (sym (left-both w k es within m r lm lr)) ∙ sym (between-values l m r n w k es ll lm lr within)

  -- with a row before it, and what is behind it
  cut-both : (l z : Row) → length l ≡ n → length z ≡ w + k → l ++ values_of (exprs (in_between 0 w k es)) z ≡ values_of (exprs (in_between n w k es)) (l ++ z)
  cut-both l z ll lz =
      let short : w ≤ length z = omega (arith, lz) in
      let left = length-take-le w z short in
      let dropped = length-drop w z in
      let right : length (drop w z) ≡ k = omega (arith, dropped, lz) in
      subst (λ y. l ++ values_of (exprs (in_between 0 w k es)) y ≡ values_of (exprs (in_between n w k es)) (l ++ y)) (take-append-drop w z) (middle-both l (take w z) (drop w z) ll left right)

  middle-rows : (ls ms rs : List Row) → AreOfWidth n ls → AreOfWidth w ms → AreOfWidth k rs → AreOfWidth (w + k) (pairs ms rs) →
      pairs ls (pairs (map (values_of (exprs es)) ms) rs) ≡ map (values_of (exprs (in_between n w k es))) (pairs ls (pairs ms rs))
  middle-rows ls ms rs ll lm lr lp =
      ap (pairs ls)
      (ap (pairs (map (values_of (exprs es)) ms)) (sym (map-id rs))
      ∙ pairs-through (values_of (exprs es)) (λ r. r) (values_of (exprs (in_between 0 w k es))) w k (left-both w k es within) ms rs lm lr)
      ∙ ap (λ zs. pairs zs (map (values_of (exprs (in_between 0 w k es))) (pairs ms rs))) (sym (map-id ls))
      ∙ pairs-through (λ l. l) (values_of (exprs (in_between 0 w k es))) (values_of (exprs (in_between n w k es))) n (w + k) cut-both ls (pairs ms rs) ll lp

-- ---- the first Project lifted

-- behind rows of the kinds ks, which are n: the kinds and the pairs are those that the expressions give of what is below, and the weight is less
pub record IsLifted (s : Tables) (n : ℕ) (ps : Plans) (x : Lifted) : Type 0 where
  pub kinds : (ks ls : Kinds) → length ks ≡ n → sides s ps ≡ Some ls → (ms : Kinds) × (beside_all (kinds_of_each s x.1) ≡ Some ms) × (kinds_of (exprs x.0) (ks ++ ms) ≡ Some (ks ++ ls))
  pub rows : (db : Database) → TablesFit s db → (ks ls : Kinds) → length ks ≡ n → sides s ps ≡ Some ls → (ts : List Row) → HaveKinds ks ts →
      pairs ts (product (rows_of_each s ps db)) ≡ map (values_of (exprs x.0)) (pairs ts (product (rows_of_each s x.1 db)))
  pub less : 3 * weights_product x.1 < weights_product ps

here-kinds : (s : Tables) (n : ℕ) (es : List Expr) (p : Plan) (ps : Plans) (ks ls : Kinds) → length ks ≡ n → sides s (More (Project es p) ps) ≡ Some ls →
    (ms : Kinds) × (beside_all (kinds_of_each s (More p ps)) ≡ Some ms) × (kinds_of (exprs (in_between n (width s p) (widths s ps) es)) (ks ++ ms) ≡ Some (ks ++ ls))
here-kinds s n es p ps ks ls w e =
    let a = sides-parts s (Project es p) ps ls e in
    let b = project-kinds s es p a.first a.of_first in
    let long = sides-wide s ps a.rest a.of_rest in (
      b.below ++ a.rest,
      made-sides s p ps b.below a.rest b.of_below a.of_rest,
      between-kinds ks b.below a.rest n (width s p) (widths s ps) es a.first w b.as_wide long b.of_each ∙ ap (λ m. Some (ks ++ m)) a.together,
    )

here-rows : (s : Tables) (n : ℕ) (es : List Expr) (p : Plan) (ps : Plans) (db : Database) → TablesFit s db → (ks ls : Kinds) → length ks ≡ n → sides s (More (Project es p) ps) ≡ Some ls →
    (ts : List Row) → HaveKinds ks ts →
    pairs ts (product (rows_of_each s (More (Project es p) ps) db)) ≡ map (values_of (exprs (in_between n (width s p) (widths s ps) es))) (pairs ts (product (rows_of_each s (More p ps) db)))
here-rows s n es p ps db t ks ls w e ts h =
    let a = sides-parts s (Project es p) ps ls e in
    let b = project-kinds s es p a.first a.of_first in
    let own = rows_of s p db in
    let rest = product (rows_of_each s ps db) in
    let long = sides-wide s ps a.rest a.of_rest in
    let both : length (b.below ++ a.rest) ≡ width s p + widths s ps = length-append b.below a.rest ∙ (λ i. b.as_wide i + long i) in
    let own_fit = rows-fit s db t p b.below b.of_below in
    let rest_fit = sides-fit s db t ps a.rest a.of_rest in
    middle-rows n (width s p) (widths s ps) es b.within ts own rest
    (wide-rows ks n ts w h)
    (wide-rows b.below (width s p) own b.as_wide own_fit)
    (wide-rows a.rest (widths s ps) rest long rest_fit)
    (wide-rows (b.below ++ a.rest) (width s p + widths s ps) (pairs own rest) both (pairs-fit b.below a.rest own rest own_fit rest_fit))

three_more : (a b : ℕ) → 0 < b → 3 * (a * b) < (3 * a + 1) * b
three_more a b h = omega (arith, h)

here : (s : Tables) (n : ℕ) (p : Plan) (ps : Plans) (y : Parts) → parts_between s n (widths s ps) p ≡ Some y → IsLifted s n (More p ps) (before ps y)
here s n (Project es p) ps y e = subst (λ z. IsLifted s n (More (Project es p) ps) (before ps z)) (same_Some (in_between n (width s p) (widths s ps) es, p) y e)
    (record { kinds = here-kinds s n es p ps; rows = here-rows s n es p ps; less = three_more (weight p) (weights_product ps) (product_positive ps) })
here s n _ ps y e = cc

-- ---- a member that stays

later : (s : Tables) (n : ℕ) (p : Plan) (ps : Plans) (y : Lifted) → IsLifted s (n + width s p) ps y → IsLifted s n (More p ps) (behind p y)
later s n p ps y d = record {
  kinds = λ ks ls w e.
      let a = sides-parts s p ps ls e in
      let r = d.kinds (ks ++ a.first) a.rest (wider ks a.first w a.of_first) a.of_rest in (
        a.first ++ r.0,
        made-sides s p y.1 a.first r.0 a.of_first (sides-of (kinds_of_each s y.1) r.0 r.1),
        ap (kinds_of (exprs y.0)) (sym (append_assoc ks a.first r.0)) ∙ r.2 ∙ ap Some (append_assoc ks a.first a.rest ∙ ap (λ m. ks ++ m) a.together),
      );
  rows = λ db t ks ls w e ts h.
      let a = sides-parts s p ps ls e in
      let rs = rows_of s p db in
      sym (pairs-assoc ts rs (product (rows_of_each s ps db)))
      ∙ d.rows db t (ks ++ a.first) a.rest (wider ks a.first w a.of_first) a.of_rest (pairs ts rs) (pairs-fit ks a.first ts rs h (rows-fit s db t p a.first a.of_first))
      ∙ ap (map (values_of (exprs y.0))) (pairs-assoc ts rs (product (rows_of_each s y.1 db)));
  less = let l = mul-lt-mul_of_pos_left d.less (weight_positive p) in omega (arith, l);
}
  where
    wider : (ks us : Kinds) → length ks ≡ n → plan_kinds s p ≡ Some us → length (ks ++ us) ≡ n + width s p
    wider ks us w e = let own = as_wide s p us e in length-append ks us ∙ (λ i. w i + own i)

pub is-lifted : (s : Tables) (n : ℕ) (ps : Plans) (x : Lifted) → lifted s n ps ≡ Some x → IsLifted s n ps x
is-lifted s n Nil x e = cc
is-lifted s n (More p ps) x e = elim (or_given _ _ x e) [
  | inl k ↦ let m = map_given (before ps) (parts_between s n (widths s ps) p) x k in subst (IsLifted s n (More p ps)) m.2 (here s n p ps m.0 m.1)
  | inr k ↦ let m = map_given (behind p) (lifted s (n + width s p) ps) x k in subst (IsLifted s n (More p ps)) m.2 (later s n p ps m.0 (is-lifted s (n + width s p) ps m.0 m.1))
]
