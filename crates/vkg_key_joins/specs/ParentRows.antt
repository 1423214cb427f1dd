-- A row with the parent's, and the same without it: what the expressions are on the one, those with the child's columns put in are on the other.
use Rattle.std.proofs.Common.{◌≡◌, ◌∙◌, ℕ, ◌+◌, ◌<◌, Bool, true, false, not, ◌&&◌, List, [], ◌∷◌, ◌++◌, length, map, refl, sym, ap, arith}
use Rattle.std.specs.List.{AllByRecursion, list_all}
use Rattle.vkg_lists.specs.Lists.{AllBelow}
use Rattle.vkg_columns.proofs.OnColumns.{on-weaker, on_each-weaker}
use Rattle.vkg_columns.proofs.PutIn.{put-holds, put_each-exprs, put_each-values}
use Rattle.vkg_columns.specs.Columns.{Gives, OnColumns, OnEach, at_place, columns_from}
use Rattle.vkg_expr.specs.Expr.{Expr, exprs}
use Rattle.vkg_expr.specs.Strict.{put}
use Rattle.vkg_expr.specs.Value.{holds, value_of, values_of}
use Rattle.vkg_schema.specs.Rows.{Row, agree, cell_at, has_no_null, is_known, is_null}
use Rattle.vkg_keys.specs.Keys.{firsts}
use Rattle.vkg_keys.specs.Members.{renamed}
use Rattle.vkg_keys.proofs.Agreement.{agree-known}
use Rattle.vkg_keys.proofs.RenamedColumns.{place-columns, renamed-value}
use Rattle.vkg_key_joins.specs.ParentJoin.{all_tied_to, is_given, known_too}
use Rattle.vkg_key_joins.specs.ParentNames.{given-tied, known-holds, long-tied, place-first, tied-gives}

-- the columns that may be named, of so many
abbrev pub IsGivenOf : ℕ → ℕ → ℕ → List (ℕ × ℕ) → ℕ → Type 0
IsGivenOf long n wide pairs at = (at < long) × (is_given n wide pairs at ≡ true)

-- the parent's columns, so wide, stand behind n others and before z; without them the child's w columns stand behind f others
module _ (n wide z f w : ℕ) (pairs : List (ℕ × ℕ)) where
  abbrev pub child : List Expr
  child = columns_from f w

  abbrev pub names : List Expr
  names = renamed n (all_tied_to child pairs 0 wide) z

  module _ (l d r : Row) (stands : (k : ℕ) → k < w → cell_at (l ++ d) (f + k) ≡ cell_at r k) where
    child-value : (k : ℕ) → k < w → value_of (at_place child k) (l ++ d) ≡ cell_at r k
    child-value k h = ap (λ e. value_of e (l ++ d)) (place-columns f w k h) ∙ stands k h

    child-is_known : (k : ℕ) → k < w → not (is_null (value_of (at_place child k) (l ++ d))) ≡ is_known r k
    unfolding is_known
    child-is_known k h = ap (λ c. not (is_null c)) (child-value k h)

    -- the tests of the child's columns
    child-known : (ties : List (ℕ × ℕ)) → AllBelow w (firsts ties) → list_all (λ p. not (is_null (value_of (at_place child p.0) (l ++ d)))) ties ≡ has_no_null (firsts ties) r
    child-known [] h = refl
    child-known (p ∷ ties) h = λ i. child-is_known p.0 h.0 i && child-known ties h.1 i

    child-cells : (q : Row) (ties : List (ℕ × ℕ)) → AllBelow w (firsts ties) → AllByRecursion (λ p. cell_at r p.0 ≡ cell_at q p.1) ties → AllByRecursion (λ p. value_of (at_place child p.0) (l ++ d) ≡ cell_at q p.1) ties
    child-cells q [] h same = tt
    child-cells q (p ∷ ties) h same = (child-value p.0 h.0 ∙ same.0, child-cells q ties h.1 same.1)

    module _ (inside : AllBelow w (firsts pairs)) where
      -- a row with NULL in the foreign key fails
      pub null-fails : (c : Expr) → has_no_null (firsts pairs) r ≡ false → holds (known_too child (put (at_place names) c) pairs) (l ++ d) ≡ false
      null-fails c h =
          known-holds child (l ++ d) (put (at_place names) c) pairs
          ∙ ap (λ b. holds (put (at_place names) c) (l ++ d) && b) (child-known pairs inside ∙ h)
          ∙ fails (holds (put (at_place names) c) (l ++ d))
        where
          fails : (b : Bool) → (b && false) ≡ false
          fails true = refl
          fails false = refl

      -- the parent's part is q, whose cells the child's row has
      module _ (q : Row) (ll : length l ≡ n) (lq : length q ≡ wide) (ld : length d ≡ z) (same : AllByRecursion (λ p. cell_at r p.0 ≡ cell_at q p.1) pairs) where
        given-value : (at : ℕ) → IsGivenOf (length (l ++ (q ++ d))) n wide pairs at → Gives (at_place names) (l ++ d) (l ++ (q ++ d)) at
        given-value at g = renamed-value l q d n z (all_tied_to child pairs 0 wide) ll ld (long-tied child pairs 0 wide ∙ sym lq) at g.0 (λ y h e. own y (omega (arith, h, lq)) (ap (is_given n wide pairs) (sym e) ∙ g.1))
          where
            own : (y : ℕ) → y < wide → is_given n wide pairs (n + y) ≡ true → Gives (at_place (all_tied_to child pairs 0 wide)) (l ++ d) q y
            own y h t =
                ap (λ e. value_of e (l ++ d)) (place-first child pairs wide y h)
                ∙ tied-gives (λ e. value_of e (l ++ d)) (cell_at q) child pairs (child-cells q pairs inside same) y (given-tied n wide pairs y h t)

        -- what is taken of the row
        pub same-values : (es : List Expr) → OnEach (IsGivenOf (length (l ++ (q ++ d))) n wide pairs) (exprs es) → values_of (exprs es) (l ++ (q ++ d)) ≡ values_of (exprs (map (put (at_place names)) es)) (l ++ d)
        same-values es on =
            sym (ap (λ fs. values_of fs (l ++ d)) (sym (put_each-exprs (at_place names) es))
            ∙ put_each-values (at_place names) (l ++ d) (l ++ (q ++ d)) (exprs es) (on_each-weaker (IsGivenOf (length (l ++ (q ++ d))) n wide pairs) (Gives (at_place names) (l ++ d) (l ++ (q ++ d))) given-value (exprs es) on))

        -- and where the condition holds
        pub same-test : (c : Expr) → OnColumns (IsGivenOf (length (l ++ (q ++ d))) n wide pairs) c → agree pairs r q ≡ true → holds c (l ++ (q ++ d)) ≡ holds (known_too child (put (at_place names) c) pairs) (l ++ d)
        same-test c on agrees =
            sym (known-holds child (l ++ d) (put (at_place names) c) pairs
            ∙ ap (λ b. holds (put (at_place names) c) (l ++ d) && b) (child-known pairs inside ∙ agree-known pairs r q agrees)
            ∙ right (holds (put (at_place names) c) (l ++ d))
            ∙ put-holds (at_place names) (l ++ d) (l ++ (q ++ d)) c (on-weaker (IsGivenOf (length (l ++ (q ++ d))) n wide pairs) (Gives (at_place names) (l ++ d) (l ++ (q ++ d))) given-value c on))
          where
            right : (b : Bool) → (b && true) ≡ b
            right true = refl
            right false = refl
