-- The rules of a mapping within a well-formed schema fit it.
use Rattle.std.proofs.Common.{◌≡◌, ◌∙◌, ℕ, zero, suc, ◌+◌, ◌<◌, false, List, [], ◌∷◌, ◌++◌, map, length, refl, sym, ap, subst, arith}
use Rattle.std.specs.Prelude.{◌≢◌, Contains, flat_map, IfSome, Option, Some, None, option_map, slice_get}
use Rattle.std.specs.Bool.{then_some}
use Rattle.std.specs.List.{AllByRecursion}
use Rattle.std.proofs.lemmas.Option.{none-some}
use Rattle.vkg_lists.specs.Lists.{AllBelow}
use Rattle.vkg_lists.proofs.Each.{recursion_weaken}
use Rattle.vkg_lists.proofs.Heads.{slice_get-behind}
use Rattle.vkg_lists.proofs.Positions.{get_below}
use Rattle.vkg_lists.proofs.Members.{Contains-from_map, recursion_from_each}
use Rattle.vkg_lists.proofs.Tests.{nat_test}
use Rattle.vkg_cells.specs.declared.cell.SqlType.{SqlType}
use Rattle.vkg_cells.specs.declared.cell.SqlType.TheVariants as kind
use Rattle.vkg_cells.specs.Order.{family}
use Rattle.vkg_schema.specs.declared.table.Column.{Column}
use Rattle.vkg_schema.specs.Meets.{IsColumn, IsTable as IsTableOf, IsWellFormed}
use Rattle.vkg_maps.specs.declared.mapping.Mapping.{Mapping}
use Rattle.vkg_maps.specs.declared.quad_rule.Join.{Join}
use Rattle.vkg_maps.specs.declared.quad_rule.QuadRule.{QuadRule}
use Rattle.vkg_maps.specs.declared.term_map.Piece.{Piece as TemplatePiece}
use Rattle.vkg_maps.specs.declared.term_map.Piece.TheVariants as piece
use Rattle.vkg_maps.specs.declared.term_map.TermMap.{TermMap}
use Rattle.vkg_maps.specs.declared.term_map.TermMap.TheVariants as from
use Rattle.vkg_maps.specs.declared.term_map.TermType.TheVariants as sort
use Rattle.vkg_maps.specs.QuadRules.{quad_rules}
use Rattle.vkg_expr.specs.declared.term_expr.Piece.{Piece}
use Rattle.vkg_expr.specs.declared.term_expr.Piece.TheVariants.{Chars, Hole}
use Rattle.vkg_expr.specs.declared.term_expr.TermExpr.{TermExpr}
use Rattle.vkg_expr.specs.declared.term_expr.TermExpr.TheVariants.{Fixed, Made, Resolved}
use Rattle.vkg_expr.specs.TermExprs.{moved_piece, moved_term}
use Rattle.vkg_expr.specs.Typing.{equality_kind, same_kind}
use Rattle.vkg_plan.specs.Kinds.{Tables}
use Rattle.vkg_row_rules.specs.declared.row_rule.RowRule.{RowRule}
use Rattle.vkg_row_rules.specs.RowRules.{object_term, row_rule, row_rules}
use Rattle.vkg_row_rules.specs.RowTerms.{kind_at, piece_of, row_term}
use Rattle.vkg_maps.specs.Within.{IsCondition, IsOver, IsWithin, piece_columns, kinds_at}
use Rattle.vkg_row_rules.proofs.SoundRules.{AreJoined, OfRule, object_table, rules_within}
use Rattle.vkg_unfolded.specs.FittingRules.{AreFitting, FitsCondition, FitsGraph, FitsJoin, FitsPiece, FitsTerm, IsFitting, IsTable, rule_kinds}
use Rattle.vkg_fine_rules.specs.Laws.{HasFittingRules}

-- ---- kinds of columns

-- no column holds terms
abbrev NoTerms : List SqlType → Type 0
NoTerms ks = AllByRecursion (λ k. same_kind kind.Term k ≡ false) ks

no_term : (k : SqlType) → k ≢ kind.Term → same_kind kind.Term k ≡ false
no_term kind.Text n = refl
no_term kind.Int n = refl
no_term kind.Dec n = refl
no_term kind.Bool n = refl
no_term kind.Date n = refl
no_term kind.Stamp n = refl
no_term kind.Bin n = refl
no_term kind.Time n = refl
no_term kind.Term n = absurd (n refl)

no_terms : (columns : List Column) → AllByRecursion IsColumn columns → NoTerms (map (λ (c : Column). c.kind) columns)
no_terms [] h = tt
no_terms (c ∷ cs) h = (no_term c.kind h.0.kind, no_terms cs h.1)

none_at : (tables whole : Tables) → AllByRecursion (IsTableOf tables) whole → (table : ℕ) → NoTerms (kinds_at whole table)
none_at tables [] h table = tt
none_at tables (t ∷ ts) h zero = no_terms t.columns h.0.columns
none_at tables (t ∷ ts) h (suc table) = none_at tables ts h.1 table

table_there : (schema : Tables) (table : ℕ) → table < length schema → IsTable schema table
table_there [] table l = absurd (let n : table < 0 = l in omega (arith, n))
table_there (t ∷ ts) zero l = refl
table_there (t ∷ ts) (suc table) l = table_there ts table (omega (arith, l))

-- ---- holes

hole_fits : (ks : List SqlType) → NoTerms ks → (at : ℕ) → at < length ks → FitsPiece ks (Hole at (kind_at ks at))
hole_fits [] h at l = absurd (let n : at < 0 = l in omega (arith, n))
hole_fits (k ∷ ks) h zero l = (refl, h.0)
hole_fits (k ∷ ks) h (suc at) l = hole_fits ks h.1 at (omega (arith, l))

module _ (ks : List SqlType) (none : NoTerms ks) where
  pieces_fit : (ps : List TemplatePiece) → AllBelow (length ks) (flat_map piece_columns ps) → AllByRecursion (FitsPiece ks) (map (piece_of ks) ps)
  pieces_fit [] h = tt
  pieces_fit (piece.Fixed text ∷ ps) h = (tt, pieces_fit ps h)
  pieces_fit (piece.Column c ∷ ps) h = (hole_fits ks none c h.0, pieces_fit ps h.1)

  term_fits : (base : List ℕ) (t : TermMap) → IsOver ks t → FitsTerm ks (row_term base ks t)
  term_fits base (from.Constant c) h = tt
  term_fits base (from.Column c sort.Iri) h = hole_fits ks none c h.columns.0
  term_fits base (from.Column c sort.Blank) h = (hole_fits ks none c h.columns.0, tt)
  term_fits base (from.Column c (sort.Literal a)) h = (hole_fits ks none c h.columns.0, tt)
  term_fits base (from.Template ps y) h = pieces_fit ps h.columns

  graph_fits : (base : List ℕ) (g : Option TermMap) → IfSome g (IsOver ks) → FitsGraph ks (option_map (row_term base ks) g)
  graph_fits base None h = tt
  graph_fits base (Some g) h = term_fits base g h

-- ---- behind the child's columns

module _ (ks ls : List SqlType) where
  hole_behind : (at : ℕ) (k : SqlType) → FitsPiece ls (Hole at k) → FitsPiece (ks ++ ls) (Hole (at + length ks) k)
  hole_behind at k h = (slice_get-behind ks ls (at + length ks) at refl ∙ h.0, h.1)

  pieces_behind : (ps : List Piece) → AllByRecursion (FitsPiece ls) ps → AllByRecursion (FitsPiece (ks ++ ls)) (map (moved_piece (length ks)) ps)
  pieces_behind [] h = tt
  pieces_behind (Chars s ∷ ps) h = (tt, pieces_behind ps h.1)
  pieces_behind (Hole at k ∷ ps) h = (hole_behind at k h.0, pieces_behind ps h.1)

  term_behind : (e : TermExpr) → FitsTerm ls e → FitsTerm (ks ++ ls) (moved_term (length ks) e)
  term_behind (Fixed t) h = tt
  term_behind (Made s ps) h = pieces_behind ps h
  term_behind (Resolved base at k) h = hole_behind at k h

-- ---- joins

families_give : (k l : SqlType) → family k ≡ family l → equality_kind (Some k) (Some l) ≡ Some kind.Bool
families_give k l e = ap (λ b. then_some b kind.Bool) ((nat_test.decides (family k) (family l)).1 e)

condition_fits : (ks ls : List SqlType) (c : ℕ × ℕ) → IsCondition ks ls c → FitsCondition ks ls c
condition_fits ks ls c h = of (slice_get ks c.0) refl (slice_get ls c.1) refl h.comparable
  where
    nothing : (xs : List SqlType) (n : ℕ) → n < length xs → slice_get xs n ≡ None → ⊥
    nothing xs n l e = let r = get_below xs n l in none-some r.0 (sym e ∙ r.1)

    of : (o : Option SqlType) → slice_get ks c.0 ≡ o → (p : Option SqlType) → slice_get ls c.1 ≡ p → IfSome o (λ k. IfSome p (λ l. family k ≡ family l)) → equality_kind o p ≡ Some kind.Bool
    of None e p f g = absurd (nothing ks c.0 h.of_child e)
    of (Some k) e None f g = absurd (nothing ls c.1 h.of_parent f)
    of (Some k) e (Some l) f g = families_give k l g

module _ (schema : Tables) (mapping : Mapping) (well : IsWellFormed schema) (within : IsWithin schema mapping) where
  abbrev Over : ℕ → TermMap → Type 0
  Over table t = IsOver (kinds_at schema table) t

  none : (table : ℕ) → NoTerms (kinds_at schema table)
  none table = none_at schema schema well table

  join_fits : (table : ℕ) (join : Option Join) → AreJoined schema table join → FitsJoin schema table join
  join_fits table None h = tt
  join_fits table (Some join) h =
      let ks = kinds_at schema table in
      let ls = kinds_at schema join.table in
      (table_there schema join.table h.0, recursion_weaken (IsCondition ks ls) (FitsCondition ks ls) join.conditions (condition_fits ks ls) h.1)

  object_fits : (table : ℕ) (join : Option Join) (t : TermMap) → Over (object_table table join) t → FitsTerm (rule_kinds schema table join) (object_term mapping.base schema (kinds_at schema table) join t)
  object_fits table None t h = term_fits (kinds_at schema table) (none table) mapping.base t h
  object_fits table (Some join) t h = term_behind (kinds_at schema table) (kinds_at schema join.table) (row_term mapping.base (kinds_at schema join.table) t) (term_fits (kinds_at schema join.table) (none join.table) mapping.base t h)

  rule_fits : (q : QuadRule) → OfRule Over schema q → IsFitting schema (row_rule mapping.base schema q)
  rule_fits q h = record {
    table = table_there schema q.table h.table;
    join = join_fits q.table q.join h.joined;
    subject = term_fits (kinds_at schema q.table) (none q.table) mapping.base q.subject h.subject;
    predicate = term_fits (kinds_at schema q.table) (none q.table) mapping.base q.predicate h.predicate;
    object = object_fits q.table q.join q.object h.object;
    graph = graph_fits (kinds_at schema q.table) (none q.table) mapping.base q.graph h.graph;
  }

  all_fit : AreFitting schema (row_rules schema mapping)
  all_fit = recursion_from_each (IsFitting schema) (row_rules schema mapping) each
    where
      each : (rule : RowRule) → Contains (row_rules schema mapping) rule → IsFitting schema rule
      each rule c = let q = Contains-from_map (row_rule mapping.base schema) (quad_rules mapping) rule c in subst (IsFitting schema) q.2 (rule_fits q.0 (rules_within schema mapping within q.0 q.1))

pub has_fitting_rules : (schema : Tables) (mapping : Mapping) → HasFittingRules schema mapping
has_fitting_rules schema mapping well within = all_fit schema mapping well within
