-- What the condition and the expressions are on a row of members with the parent's, what is left of them is on the row without it.
use Rattle.std.proofs.Common.{◌≡◌, ℕ, ◌+◌, ◌<◌, Bool, true, false, List, ◌++◌, length, length-append, map, ap, subst, arith}
use Rattle.std.specs.List.{AllByRecursion}
use Rattle.vkg_columns.specs.Columns.{OnColumns, OnEach, at_place}
use Rattle.vkg_expr.specs.Expr.{Expr, exprs}
use Rattle.vkg_expr.specs.Strict.{put}
use Rattle.vkg_expr.specs.Value.{holds, values_of}
use Rattle.vkg_schema.specs.declared.table.Reference.{Reference}
use Rattle.vkg_schema.specs.Meets.{IsWellFormed}
use Rattle.vkg_schema.specs.Rows.{Row, agree, cell_at, has_no_null}
use Rattle.vkg_plan.specs.Kinds.{Tables, width}
use Rattle.vkg_plan.specs.Plan.{Plan, Scan}
use Rattle.vkg_keys.specs.Keys.{firsts}
use Rattle.vkg_keys.specs.Members.{widths}
use Rattle.vkg_keys.proofs.Places.{sides-wide}
use Rattle.vkg_key_joins.specs.ParentJoin.{known_too}
use Rattle.vkg_key_joins.specs.ParentKinds.{IsParent, child, condition_given, exprs_given, inside, kinds, names, parent_table}
use Rattle.vkg_key_joins.specs.ParentRows.{IsGivenOf, null-fails, same-test, same-values}

module _ (s : Tables) (form : IsWellFormed s) (l a : List Plan) (es : List Expr) (c : Expr) (of : ℕ) (reference : Reference) (b d : List Plan) (g : IsParent s l a es c of reference b d) where
  -- the condition that is left, and the expressions
  abbrev pub left_test : Row → Bool
  left_test = holds (known_too (child s form l a es c of reference b d g) (put (at_place (names s form l a es c of reference b d g)) c) reference.pairs)

  abbrev pub left_values : Row → Row
  left_values = values_of (exprs (map (put (at_place (names s form l a es c of reference b d g))) es))

  -- the row of the members before the parent, that of those behind it, and the child's
  module _ (x z r : Row) (stands : (k : ℕ) → k < width s (Scan of) → cell_at (x ++ z) (widths s b + k) ≡ cell_at r k) where
    pub row-null : has_no_null (firsts reference.pairs) r ≡ false → left_test (x ++ z) ≡ false
    row-null h = null-fails (widths s l) (width s (Scan reference.table)) (widths s a) (widths s b) (width s (Scan of)) reference.pairs x z r stands (inside s form l a es c of reference b d g) c h

    -- and the parent's
    module _ (q : Row) (lx : length x ≡ widths s l) (lq : length q ≡ width s (Scan reference.table)) (lz : length z ≡ widths s a) where
      whole-long : length (kinds s form l a es c of reference b d g).all ≡ length (x ++ (q ++ z))
      whole-long =
          let all = kinds s form l a es c of reference b d g in
          let k = all.around in
          let one = length-append k.first (k.own ++ k.last) in
          let two = length-append k.own k.last in
          let three = length-append x (q ++ z) in
          let four = length-append q z in
          let first = sides-wide s l k.first k.of_first in
          let last = sides-wide s a k.last k.of_last in
          let own = (parent_table s form l a es c of reference b d g).as_long in
          let together : length (k.first ++ (k.own ++ k.last)) ≡ length all.all = ap length k.together in
          omega (arith, one, two, three, four, first, last, own, together, lx, lq, lz)

      module _ (same : AllByRecursion (λ p. cell_at r p.0 ≡ cell_at q p.1) reference.pairs) where
        pub row-test : agree reference.pairs r q ≡ true → holds c (x ++ (q ++ z)) ≡ left_test (x ++ z)
        row-test agrees =
            same-test (widths s l) (width s (Scan reference.table)) (widths s a) (widths s b) (width s (Scan of)) reference.pairs x z r stands (inside s form l a es c of reference b d g) q lx lq lz same c
            (subst (λ n. OnColumns (IsGivenOf n (widths s l) (width s (Scan reference.table)) reference.pairs) c) whole-long (condition_given s form l a es c of reference b d g)) agrees

        pub row-values : values_of (exprs es) (x ++ (q ++ z)) ≡ left_values (x ++ z)
        row-values =
            same-values (widths s l) (width s (Scan reference.table)) (widths s a) (widths s b) (width s (Scan of)) reference.pairs x z r stands (inside s form l a es c of reference b d g) q lx lq lz same es
            (subst (λ n. OnEach (IsGivenOf n (widths s l) (width s (Scan reference.table)) reference.pairs) (exprs es)) whole-long (exprs_given s form l a es c of reference b d g))
