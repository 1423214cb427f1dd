-- Such plans have no row in common.
use Rattle.std.proofs.Common.{◌≡◌, ◌∙◌, inl, inr, ℕ, zero, suc, ◌<◌, Bool, true, false, true≢false, not, ◌||◌, List, [], ◌∷◌, ◌++◌, length, map, append-nil, refl, sym, ap, arith}
use Rattle.std.specs.Prelude.{Option, Some, None, slice_get}
use Rattle.std.specs.Bool.{then_some}
use Rattle.std.specs.List.{Contains}
use Rattle.std.specs.Option.{option_map_or}
use Rattle.std.proofs.lemmas.Bool.{or_cases}
use Rattle.std.proofs.lemmas.Option.{option_and_then_some}
use Rattle.vkg_lists.proofs.Bools.{and_parts}
use Rattle.vkg_lists.proofs.Members.{Contains-flat_map, Contains-from_map, Contains-map, each_from_recursion}
use Rattle.vkg_lists.proofs.Onto.{first_given}
use Rattle.vkg_cells.specs.Order.{same}
use Rattle.vkg_cells.specs.declared.cell.Cell.TheVariants as cell
use Rattle.vkg_cells.specs.declared.cell.SqlType.{SqlType}
use Rattle.vkg_cells.specs.declared.cell.SqlType.TheVariants as kind
use Rattle.vkg_schema.specs.Meets.{IsWellFormed, MeetsSchema}
use Rattle.vkg_schema.specs.Rows.{Database, Row, is_known_true, is_null}
use Rattle.vkg_expr.specs.declared.term_expr.Sort.{Sort}
use Rattle.vkg_expr.specs.declared.term_expr.Sort.TheVariants.{OfIri, OfBlank, OfLit}
use Rattle.vkg_expr.specs.declared.term_expr.Piece.{Piece}
use Rattle.vkg_expr.specs.declared.term_expr.Piece.TheVariants.{Chars, Hole}
use Rattle.vkg_expr.specs.declared.term_expr.TermExpr.{TermExpr}
use Rattle.vkg_expr.specs.declared.term_expr.TermExpr.TheVariants.{Fixed, Made, Resolved}
use Rattle.vkg_expr.specs.Expr.{Expr, Col, Const, Same, exprs}
use Rattle.vkg_expr.specs.Laws.{FitsRow}
use Rattle.vkg_expr.specs.Strict.{are_strict, columns, is_strict, moved, put}
use Rattle.vkg_expr.specs.TermExprs.{made, piece_expr, pieces_expr, term_expr}
use Rattle.vkg_expr.specs.Typing.{equality_kind, kind_of, kinds_of, same_family}
use Rattle.vkg_expr.specs.Value.{holds, value_of, values_of}
use Rattle.vkg_expr.proofs.ReadBack.{truth_back}
use Rattle.vkg_expr.proofs.TypedParts.{fits_row, kinds-append}
use Rattle.vkg_columns.specs.Columns.{KeepsKind, at_place, columns_from}
use Rattle.vkg_columns.proofs.Conjuncts.{IsTruth}
use Rattle.vkg_columns.proofs.MovedColumns.{left-value, moved-behind, moved-kind, moved-put, put-itself}
use Rattle.vkg_columns.proofs.OnColumns.{columns-in_range, on-weaker}
use Rattle.vkg_columns.proofs.PutIn.{put-kind}
use Rattle.vkg_plan.specs.Kinds.{Kinds, Tables, plan_kinds}
use Rattle.vkg_plan.specs.Plan.{Plan, Project}
use Rattle.vkg_plan.specs.Rows.{pairs, rows_of}
use Rattle.vkg_rules.specs.Measure.{or_no_kinds}
use Rattle.vkg_equalities.specs.Decided.{both_compared, compared, decided}
use Rattle.vkg_equalities.specs.DecidedLaw.{IsRight, compared-is, decided-right}
use Rattle.vkg_equalities.specs.TableColumns.{flag_at, table_columns}
use Rattle.vkg_equalities.specs.TableColumnsLaw.{FitsColumns, cells, pair-cells}
use Rattle.vkg_nulls.specs.KnownColumnsLaw.{HasKnown}
use Rattle.vkg_nulls.specs.NullExactly.{null-exactly}
use Rattle.vkg_keys.proofs.SameCells.{are_same, same-itself}
use Rattle.vkg_unique.specs.Apart.{any_pair, are_apart, differ, is_false, is_never, lists_differ}
use Rattle.vkg_unique.specs.DistinctRows.{IsApart}
use Rattle.vkg_unique.specs.RecoveredLaw.{wide-plan}
use Rattle.vkg_unique.specs.Sure.{is_sure, sure_columns}
use Rattle.vkg_unique.specs.SureLaw.{known-append, none-null, of_kinds, sure}

-- ---- what is compared is strict

pieces-strict : (sort : Sort) (ps : List Piece) → are_strict (exprs (map (piece_expr sort) ps)) ≡ true
pieces-strict sort [] = refl
pieces-strict OfIri (Chars s ∷ ps) = pieces-strict OfIri ps
pieces-strict OfIri (Hole at k ∷ ps) = pieces-strict OfIri ps
pieces-strict OfBlank (Chars s ∷ ps) = pieces-strict OfBlank ps
pieces-strict OfBlank (Hole at k ∷ ps) = pieces-strict OfBlank ps
pieces-strict (OfLit a) (Chars s ∷ ps) = pieces-strict (OfLit a) ps
pieces-strict (OfLit a) (Hole at k ∷ ps) = pieces-strict (OfLit a) ps

text-strict : (sort : Sort) (ps : List Piece) → is_strict (pieces_expr sort ps) ≡ true
text-strict sort [] = refl
text-strict OfIri (Chars s ∷ []) = refl
text-strict OfIri (Hole at k ∷ []) = refl
text-strict OfBlank (Chars s ∷ []) = refl
text-strict OfBlank (Hole at k ∷ []) = refl
text-strict (OfLit a) (Chars s ∷ []) = refl
text-strict (OfLit a) (Hole at k ∷ []) = refl
text-strict sort (p ∷ q ∷ ps) = pieces-strict sort (p ∷ q ∷ ps)

made-strict : (sort : Sort) (e : Expr) → is_strict e ≡ true → is_strict (made sort e) ≡ true
made-strict OfIri e h = h
made-strict OfBlank e h = h
made-strict (OfLit a) e h = h

term-strict : (f : TermExpr) → is_strict (term_expr f) ≡ true
term-strict (Fixed t) = refl
term-strict (Made sort ps) = made-strict sort (pieces_expr sort ps) (text-strict sort ps)
term-strict (Resolved base at k) = refl

compared-strict : (t : ℕ → Bool) (ks : Kinds) (e : Expr) (f : TermExpr) → compared t ks e ≡ Some f → is_strict e ≡ true
compared-strict t ks e f h = ap is_strict (sym (compared-is t ks e f h).0) ∙ term-strict f

both-there : (o p : Option TermExpr) (d : Expr) → both_compared o p ≡ Some d → (e : TermExpr) × (f : TermExpr) × (o ≡ Some e) × (p ≡ Some f)
both-there (Some e) (Some f) d h = (e, f, refl, refl)
both-there _ _ d h = cc

-- ---- two expressions over one row

false-holds : (d : Expr) (row : Row) → is_false d ≡ true → holds d row ≡ false
false-holds (Const (cell.Bool true) k) row h = cc
false-holds (Const (cell.Bool false) k) row h = refl
false-holds _ row h = cc

some_false : (o : Option Expr) → option_map_or is_false o false ≡ true → (d : Expr) × (o ≡ Some d) × (is_false d ≡ true)
some_false None h = cc
some_false (Some d) h = (d, refl, h)

-- what is not NULL is the same as itself
itself-holds : (e f : Expr) (row : Row) → value_of e row ≡ value_of f row → is_null (value_of e row) ≡ false → holds (Same e f) row ≡ true
itself-holds e f row h n =
    ap is_known_true (truth_back (same (value_of e row) (value_of f row)))
    ∙ (λ i. are_same (value_of e row) (sym h i))
    ∙ same-itself (value_of e row) ∙ ap not n

one_family : (k : SqlType) → same_family k k ≡ true
one_family kind.Text = refl
one_family kind.Int = refl
one_family kind.Dec = refl
one_family kind.Bool = refl
one_family kind.Date = refl
one_family kind.Stamp = refl
one_family kind.Bin = refl
one_family kind.Time = refl
one_family kind.Term = refl

same-truth : (ks : Kinds) (e f : Expr) (k : SqlType) → kind_of e ks ≡ Some k → kind_of f ks ≡ Some k → IsTruth ks (Same e f)
same-truth ks e f k i j = (λ n. equality_kind (i n) (j n)) ∙ ap (λ b. then_some b kind.Bool) (one_family k)

module _ (tables flags : List Bool) (ks : Kinds) (row : Row) (fit : FitsRow ks row) (held : FitsColumns (flag_at tables) ks row) (known : HasKnown flags row) where
  not-null : (e : Expr) (k : SqlType) → kind_of e ks ≡ Some k → is_strict e ≡ true → is_sure flags e ≡ true → is_null (value_of e row) ≡ false
  not-null e k t st h = null-exactly ks row fit e k t st ∙ none-null flags row (columns e) known h

  differ-apart : (e f : Expr) (k : SqlType) → kind_of e ks ≡ Some k → kind_of f ks ≡ Some k → differ tables flags ks e f ≡ true → value_of e row ≡ value_of f row → ⊥
  differ-apart e f k i j h v =
      let b = and_parts (is_sure flags e || is_sure flags f) (is_never tables ks e f) h in
      let d = some_false (decided (flag_at tables) ks (Same e f)) b.1 in
      let c = both-there (compared (flag_at tables) ks e) (compared (flag_at tables) ks f) d.0 d.1 in
      let known_value : is_null (value_of e row) ≡ false = elim (or_cases (is_sure flags e) (is_sure flags f) b.0) [
        | inl x ↦ not-null e k i (compared-strict (flag_at tables) ks e c.0 c.2) x
        | inr x ↦ ap is_null v ∙ not-null f k j (compared-strict (flag_at tables) ks f c.1 c.3) x
      ] in
      let right : IsRight (flag_at tables) ks (Same e f) d.0 = decided-right (flag_at tables) ks (Same e f) d.0 (same-truth ks e f k i j) d.1 in
      true≢false (sym (itself-holds e f row v known_value) ∙ sym (right.same row held) ∙ false-holds d.0 row d.2)

-- ---- rows of two projections

slice_get-before : (ks ls : Kinds) (at : ℕ) → at < length ks → slice_get (ks ++ ls) at ≡ slice_get ks at
slice_get-before [] ls at h = absurd (omega (arith, h))
slice_get-before (k ∷ ks) ls zero h = refl
slice_get-before (k ∷ ks) ls (suc at) h = slice_get-before ks ls at (omega (arith, h))

-- more columns behind leave the kind of an expression as it is
kind_before : (ks ls : Kinds) (e : Expr) (k : SqlType) → kind_of e ks ≡ Some k → kind_of e (ks ++ ls) ≡ Some k
kind_before ks ls e k t = ap (λ x. kind_of x (ks ++ ls)) (sym (put-itself e)) ∙ put-kind (λ at. Col at) ks (ks ++ ls) e k (on-weaker (λ at. at < length ks) (KeepsKind (λ at. Col at) ks (ks ++ ls)) (λ at b. slice_get-before ks ls at b) e (columns-in_range e ks k t)) t

-- the second plan's columns behind those of the first
abbrev behind : Kinds → Kinds → Expr → Expr
behind ks ls f = put (at_place (columns_from (length ks) (length ls))) f

module _ (s : Tables) (db : Database) (form : IsWellFormed s) (m : MeetsSchema s db) (p q : Plan) (ks ls : Kinds) (e : plan_kinds s p ≡ Some ks) (f : plan_kinds s q ≡ Some ls) where
  abbrev of_tables : List Bool
  of_tables = table_columns s p ++ table_columns s q

  abbrev are_sure : List Bool
  are_sure = sure_columns s p ++ sure_columns s q

  pair_member : (l r : Row) → Contains (rows_of s p db) l → Contains (rows_of s q db) r → Contains (pairs (rows_of s p db) (rows_of s q db)) (l ++ r)
  pair_member l r c d = Contains-flat_map (λ l. map (λ r. l ++ r) (rows_of s q db)) (rows_of s p db) l (l ++ r) c (Contains-map (λ r. l ++ r) (rows_of s q db) r d)

  pair-apart : (x y : Expr) (k : SqlType) → kind_of x ks ≡ Some k → kind_of y ls ≡ Some k → differ of_tables are_sure (ks ++ ls) x (behind ks ls y) ≡ true →
      (l r : Row) → Contains (rows_of s p db) l → Contains (rows_of s q db) r → value_of x l ≡ value_of y r → ⊥
  pair-apart x y k i j h l r c d v =
      let hl = of_kinds s db m p ks e l c in
      let hr = of_kinds s db m q ls f r d in
      let long : length l ≡ length ks = wide-plan s db m p ks e l c in
      let is : behind ks ls y ≡ moved (length ks) y = moved-put (length ks) (length ls) y (columns-in_range y ls k j) in
      let kind_behind : kind_of (behind ks ls y) (ks ++ ls) ≡ Some k = ap (λ z. kind_of z (ks ++ ls)) is ∙ ap (λ z. kind_of (moved (length ks) y) (ks ++ z)) (sym (append-nil ls)) ∙ moved-kind ks ls [] (length ks) y k refl j in
      let fits = fits_row (ks ++ ls) (l ++ r) (kinds-append ks ls l r hl hr) in
      let held = each_from_recursion (FitsColumns (flag_at of_tables) (ks ++ ls)) (pairs (rows_of s p db) (rows_of s q db))
      (pair-cells s db form m p (table_columns s q) ks ls (rows_of s q db) e (cells s db form m p ks e) (cells s db form m q ls f)) (l ++ r) (pair_member l r c d) in
      let known = known-append (sure_columns s p) (sure_columns s q) l r (sure s db m p ks e l c) (sure s db m q ls f r d) in
      differ-apart of_tables are_sure (ks ++ ls) (l ++ r) fits held known x (behind ks ls y) k (kind_before ks ls x k i) kind_behind h
      (left-value l r (length ks) x long (columns-in_range x ks k i) ∙ v ∙ sym (ap (λ z. value_of z (l ++ r)) is ∙ moved-behind l r (length ks) y long))

  lists-apart : (xs ys : List Expr) (ms : Kinds) → kinds_of (exprs xs) ks ≡ Some ms → kinds_of (exprs ys) ls ≡ Some ms →
      any_pair (λ x y. differ of_tables are_sure (ks ++ ls) x (behind ks ls y)) xs ys ≡ true →
      (l r : Row) → Contains (rows_of s p db) l → Contains (rows_of s q db) r → values_of (exprs xs) l ≡ values_of (exprs ys) r → ⊥
  lists-apart [] ys ms i j h l r c d v = true≢false (sym h)
  lists-apart (x ∷ xs) [] ms i j h l r c d v = true≢false (sym h)
  lists-apart (x ∷ xs) (y ∷ ys) ms i j h l r c d v =
      let a = first_given (kind_of x ks) (kinds_of (exprs xs) ks) ms i in
      let b = first_given (kind_of y ls) (kinds_of (exprs ys) ls) ms j in
      let both : b.0 ∷ b.2.0 ≡ a.0 ∷ a.2.0 = b.2.2 ∙ sym a.2.2 in
      let first : b.0 ≡ a.0 = cc both in
      let rest : b.2.0 ≡ a.2.0 = cc both in
      let here : value_of x l ≡ value_of y r = cc v in
      let behind_it : values_of (exprs xs) l ≡ values_of (exprs ys) r = cc v in
      elim (or_cases (differ of_tables are_sure (ks ++ ls) x (behind ks ls y)) (any_pair (λ x y. differ of_tables are_sure (ks ++ ls) x (behind ks ls y)) xs ys) h) [
        | inl n ↦ pair-apart x y a.0 a.1 (b.1 ∙ ap Some first) n l r c d here
        | inr n ↦ lists-apart xs ys a.2.0 a.2.1 (b.2.1 ∙ ap Some rest) n l r c d behind_it
      ]

module _ (s : Tables) (db : Database) (form : IsWellFormed s) (m : MeetsSchema s db) where
  projects-apart : (xs ys : List Expr) (p q : Plan) (ms ks ls : Kinds) → plan_kinds s p ≡ Some ks → kinds_of (exprs xs) ks ≡ Some ms → plan_kinds s q ≡ Some ls → kinds_of (exprs ys) ls ≡ Some ms →
      are_apart s (Project xs p) (Project ys q) ≡ true → IsApart (rows_of s (Project xs p) db) (rows_of s (Project ys q) db)
  unfolding lists_differ
  projects-apart xs ys p q ms ks ls e i f j h z c d =
      let a = Contains-from_map (values_of (exprs xs)) (rows_of s p db) z c in
      let b = Contains-from_map (values_of (exprs ys)) (rows_of s q db) z d in
      let over : any_pair (λ x y. differ (table_columns s p ++ table_columns s q) (sure_columns s p ++ sure_columns s q) (ks ++ ls) x (behind ks ls y)) xs ys ≡ true =
      (λ n. any_pair (λ x y. differ (table_columns s p ++ table_columns s q) (sure_columns s p ++ sure_columns s q) (or_no_kinds (sym e n) ++ or_no_kinds (sym f n)) x (behind (or_no_kinds (sym e n)) (or_no_kinds (sym f n)) y)) xs ys) ∙ h in
      lists-apart s db form m p q ks ls e f xs ys ms i j over a.0 b.0 a.1 b.1 (a.2 ∙ sym b.2)

  pub plans-apart : (p q : Plan) (ms : Kinds) → plan_kinds s p ≡ Some ms → plan_kinds s q ≡ Some ms → are_apart s p q ≡ true → IsApart (rows_of s p db) (rows_of s q db)
  plans-apart (Project xs p) (Project ys q) ms e f h =
      option_and_then_some (kinds_of (exprs xs)) (plan_kinds s p) ms e (λ ks i j.
      option_and_then_some (kinds_of (exprs ys)) (plan_kinds s q) ms f (λ ls k l. projects-apart xs ys p q ms ks ls i j k l h))
  plans-apart _ _ ms e f h = cc
