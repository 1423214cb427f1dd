-- Its laws: each left row makes one row of the projection, with its own values.
use Rattle.std.proofs.Common.{◌≡◌, ◌∙◌, ℕ, zero, suc, ◌+◌, ◌*◌, ◌<◌, Bool, true, ◌&&◌, nat_lt, List, [], ◌∷◌, ◌++◌, length, Option, Some, None, refl, sym, ap, subst, arith}
use Rattle.std.specs.Prelude.{option_and_then, slice_get}
use Rattle.std.specs.List.{Contains, list_all}
use Rattle.std.specs.Option.{option_map_or}
use Rattle.std.proofs.lemmas.Bool.{ltb-true}
use Rattle.std.proofs.lemmas.List.Folds.{list_all-append}
use Rattle.std.proofs.lemmas.Option.{option_and_then_some}
use Rattle.vkg_lists.specs.Options.{joined, with_first}
use Rattle.vkg_lists.proofs.Bools.{and_parts}
use Rattle.vkg_lists.proofs.Onto.{both_given, first_given}
use Rattle.vkg_lists.proofs.Positions.{Found, found, get_member}
use Rattle.vkg_lists.proofs.Results.{some_of, then_given}
use Rattle.vkg_schema.specs.declared.table.Key.{Key}
use Rattle.vkg_schema.specs.declared.table.Table.{Table}
use Rattle.vkg_schema.specs.Rows.{Row, rows_of as table_rows}
use Rattle.vkg_expr.specs.Expr.{Expr, Exprs, Col, Const, MakeIri, IriOf, MakeBlank, MakeLit, Lex, IriSafe, Concat, Same, IsNull, Not, And, Or, Coalesce, Sparql, Ebv, Nil, More, exprs}
use Rattle.vkg_expr.specs.Strict.{columns, columns_each}
use Rattle.vkg_expr.specs.Typing.{kind_of, kinds_of}
use Rattle.vkg_expr.specs.Value.{value_of, values_of}
use Rattle.vkg_cells.specs.declared.cell.SqlType.{SqlType}
use Rattle.vkg_columns.specs.Columns.{IsWithin, KeepsKind, OnEach}
use Rattle.vkg_columns.proofs.MovedColumns.{left-value, put-itself}
use Rattle.vkg_columns.proofs.OnColumns.{on-weaker}
use Rattle.vkg_columns.proofs.PutIn.{put-kind}
use Rattle.vkg_plan.specs.Kinds.{Kinds, Tables, plan_kinds, width}
use Rattle.vkg_plan.specs.Plan.{Plan, Scan, Project, Left}
use Rattle.vkg_plan.specs.Rows.{rows_of}
use Rattle.vkg_rules.specs.declared.rewrite.Fell.TheVariants as fell
use Rattle.vkg_rules.specs.Measure.{weight}
use Rattle.vkg_rules.specs.Steps.{Falls, FallsAll, IsTyped, Keeps, KeepsAll, Step}
use Rattle.vkg_keys.specs.Ties.{all_valued}
use Rattle.vkg_keys.proofs.TableRows.{key_holds, table_meets}
use Rattle.vkg_unique.specs.RecoveredLaw.{wide-plan}
use Rattle.vkg_unique.specs.SureLaw.{checked-given}
use Rattle.vkg_unique.specs.UnusedLeft.{is_over_first, keys_of, over_left, ties_key, unused_left, without_right}
use Rattle.vkg_unique.specs.UnusedLeftRows.{unused_left-rows}

-- ---- expressions over the first columns

module _ (n : ℕ) where
  abbrev are_first : List ℕ → Bool
  are_first columns = list_all (λ at. nat_lt at n) columns

  mutual
    within : (e : Expr) → are_first (columns e) ≡ true → IsWithin n e
    within (Col at) h = ltb-true at n (and_parts (nat_lt at n) true h).0
    within (Const c k) h = tt
    within (MakeIri e) h = within e h
    within (IriOf base e) h = within e h
    within (MakeBlank e) h = within e h
    within (MakeLit e l) h = within e h
    within (Lex e) h = within e h
    within (IriSafe e) h = within e h
    within (IsNull e) h = within e h
    within (Not e) h = within e h
    within (Ebv e) h = within e h
    within (Same a b) h =
        let p = and_parts (are_first (columns a)) (are_first (columns b)) (sym (list_all-append (λ at. nat_lt at n) (columns a) (columns b)) ∙ h) in
        (within a p.0, within b p.1)
    within (Concat es) h = each-within es h
    within (And es) h = each-within es h
    within (Or es) h = each-within es h
    within (Coalesce es) h = each-within es h
    within (Sparql op es) h = each-within es h

    each-within : (es : Exprs) → are_first (columns_each es) ≡ true → OnEach (λ at. at < n) es
    each-within Nil h = tt
    each-within (More e es) h =
        let p = and_parts (are_first (columns e)) (are_first (columns_each es)) (sym (list_all-append (λ at. nat_lt at n) (columns e) (columns_each es)) ∙ h) in
        (within e p.0, each-within es p.1)

  over-within : (e : Expr) → is_over_first n e ≡ true → IsWithin n e
  unfolding is_over_first
  over-within e h = within e h

  pub first-value : (e : Expr) → is_over_first n e ≡ true → (l x : Row) → length l ≡ n → value_of e (l ++ x) ≡ value_of e l
  first-value e h l x w = left-value l x n e w (over-within e h)

  first-values : (es : List Expr) → list_all (is_over_first n) es ≡ true → (l x : Row) → length l ≡ n → values_of (exprs es) (l ++ x) ≡ values_of (exprs es) l
  first-values [] h l x w = refl
  first-values (e ∷ es) h l x w =
      let p = and_parts (is_over_first n e) (list_all (is_over_first n) es) h in
      λ i. first-value e p.0 l x w i ∷ first-values es p.1 l x w i

-- ---- kinds

kind_at-first : (ks ls : List SqlType) (at : ℕ) → at < length ks → slice_get ks at ≡ slice_get (ks ++ ls) at
kind_at-first [] ls at h = absurd (omega (arith, h))
kind_at-first (k ∷ ks) ls zero h = refl
kind_at-first (k ∷ ks) ls (suc at) h = kind_at-first ks ls at (omega (arith, h))

-- it has over the first columns alone the kind that it has over all
first-kind : (ks ls : List SqlType) (e : Expr) (k : SqlType) → IsWithin (length ks) e → kind_of e (ks ++ ls) ≡ Some k → kind_of e ks ≡ Some k
first-kind ks ls e k w h =
    ap (λ x. kind_of x ks) (sym (put-itself e))
    ∙ put-kind (λ at. Col at) (ks ++ ls) ks e k (on-weaker (λ at. at < length ks) (KeepsKind (λ at. Col at) (ks ++ ls) ks) (λ at b. kind_at-first ks ls at b) e w) h

first-kinds : (ks ls : Kinds) (es : List Expr) (ms : Kinds) → list_all (is_over_first (length ks)) es ≡ true → kinds_of (exprs es) (ks ++ ls) ≡ Some ms → kinds_of (exprs es) ks ≡ Some ms
first-kinds ks ls [] ms h e = e
first-kinds ks ls (x ∷ xs) ms h e =
    let p = and_parts (is_over_first (length ks) x) (list_all (is_over_first (length ks)) xs) h in
    let m = first_given (kind_of x (ks ++ ls)) (kinds_of (exprs xs) (ks ++ ls)) ms e in
    (λ i. with_first (first-kind ks ls x m.0 (over-within (length ks) x p.0) m.1 i) (first-kinds ks ls xs m.2.0 p.1 m.2.1 i)) ∙ ap Some m.2.2

-- ---- the rule

module _ (s : Tables) where
  -- what is asked of the left join
  record IsUnused (es : List Expr) (p : Plan) (c : Expr) (table : ℕ) : Type 0 where
    target : Table
    there : slice_get s table ≡ Some target
    key : Key
    of_target : Contains target.keys key
    ties : all_valued (is_over_first (width s p)) c (width s p) key.columns ≡ true
    over : list_all (is_over_first (width s p)) es ≡ true

  key-found : (n : ℕ) (c : Expr) (o : Option Table) → ties_key n c (option_map_or (λ (t : Table). t.keys) o []) ≡ true →
      (t : Table) × (o ≡ Some t) × ((k : Key) × Contains t.keys k × (all_valued (is_over_first n) c n k.columns ≡ true))
  unfolding ties_key
  key-found n c None h = cc
  key-found n c (Some t) h =
      let f = found (λ (k : Key). all_valued (is_over_first n) c n k.columns) t.keys h in
      let k : Found (λ (k : Key). all_valued (is_over_first n) c n k.columns) t.keys f.0 f.1 = f.2 in
      (t, refl, (f.1, get_member t.keys f.0 f.1 k.at, k.passes))

  is-unused : (es : List Expr) (p : Plan) (c : Expr) (table : ℕ) → (ties_key (width s p) c (keys_of s table) && list_all (is_over_first (width s p)) es) ≡ true → IsUnused es p c table
  is-unused es p c table h =
      let b = and_parts (ties_key (width s p) c (keys_of s table)) (list_all (is_over_first (width s p)) es) h in
      let k = key-found (width s p) c (slice_get s table) b.0 in
      record { target = k.0; there = k.1; key = k.2.0; of_target = k.2.1; ties = k.2.2; over = b.1 }

  unused-keeps : (es : List Expr) (p : Plan) (c : Expr) (table : ℕ) → IsTyped s (Project es (Left p (Scan table) c)) → IsUnused es p c table → Keeps s (Project es (Left p (Scan table) c)) (Project es p)
  unused-keeps es p c table t u =
      let q : Plan = Scan table in
      let k = some_of (plan_kinds s (Project es (Left p q c))) t in
      option_and_then_some (kinds_of (exprs es)) (plan_kinds s (Left p q c)) k.0 k.1 (λ all i j.
      let a = both_given (plan_kinds s p) (plan_kinds s q) all (checked-given c (joined (plan_kinds s p) (plan_kinds s q)) all i).0 in
      let n : width s p ≡ length a.0 = ap (λ o. option_map_or length o 0) a.1 in
      let over : list_all (is_over_first (length a.0)) es ≡ true = ap (λ m. list_all (is_over_first m) es) (sym n) ∙ u.over in
      let whole : kinds_of (exprs es) (a.0 ++ a.2.0) ≡ Some k.0 = ap (kinds_of (exprs es)) a.2.2 ∙ j in
      record {
        kinds = ap (option_and_then (kinds_of (exprs es))) a.1 ∙ first-kinds a.0 a.2.0 es k.0 over whole ∙ sym k.1;
        rows = λ db m. unused_left-rows (is_over_first (width s p)) c u.key (width s p) (width s q) (rows_of s p db) (table_rows db table) (values_of (exprs es))
            (key_holds db u.target (table_rows db table) (table_meets s db m table u.target u.there) u.key u.of_target)
            (λ r d. wide-plan s db m p a.0 a.1 r d ∙ sym n)
            u.ties
            (λ e h l x w. first-value (width s p) e h l x w)
            (λ l x w. first-values (width s p) es u.over l x w);
      })

  -- 48w + 4 falls to 3w + 1
  left-weight : (w : ℕ) → 3 * w + 1 < 3 * (4 * w * 4 + 1) + 1
  left-weight w = omega arith

  right-keeps : (es : List Expr) (p : Plan) (c : Expr) (q : Plan) (x : Step) → IsTyped s (Project es (Left p q c)) → without_right s es p c q ≡ Some x → Keeps s (Project es (Left p q c)) x.0
  right-keeps es p c (Scan table) x t e =
      let w = then_given (ties_key (width s p) c (keys_of s table) && list_all (is_over_first (width s p)) es) (Project es p, fell.Weight) x e in
      subst (λ (z : Step). Keeps s (Project es (Left p (Scan table) c)) z.0) w.1 (unused-keeps es p c table t (is-unused es p c table w.0))
  right-keeps es p c _ x t e = cc

  right-falls : (es : List Expr) (p : Plan) (c : Expr) (q : Plan) (x : Step) → without_right s es p c q ≡ Some x → Falls s (Project es (Left p q c)) x
  right-falls es p c (Scan table) x e =
      let w = then_given (ties_key (width s p) c (keys_of s table) && list_all (is_over_first (width s p)) es) (Project es p, fell.Weight) x e in
      subst (Falls s (Project es (Left p (Scan table) c))) w.1 (left-weight (weight p))
  right-falls es p c _ x e = cc

  over-keeps : (es : List Expr) (p : Plan) (x : Step) → IsTyped s (Project es p) → over_left s es p ≡ Some x → Keeps s (Project es p) x.0
  over-keeps es (Left p q c) x t e = right-keeps es p c q x t e
  over-keeps es _ x t e = cc

  over-falls : (es : List Expr) (p : Plan) (x : Step) → over_left s es p ≡ Some x → Falls s (Project es p) x
  over-falls es (Left p q c) x e = right-falls es p c q x e
  over-falls es _ x e = cc

pub unused_left-keeps : KeepsAll unused_left
unused_left-keeps s form (Project es p) x t e = over-keeps s es p x t e
unused_left-keeps s form _ x t e = cc

pub unused_left-falls : FallsAll unused_left
unused_left-falls s form (Project es p) x t e = over-falls s es p x e
unused_left-falls s form _ x t e = cc
