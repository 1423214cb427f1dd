-- Rows that some expressions tell apart: their values give back the cells of a key of each table.
use Rattle.std.specs.Prelude.{ℕ, Bool, true, false, ◌&&◌, ◌||◌, List, [], ◌∷◌, fold, drop, slice_get, if◌then◌else◌}
use Rattle.std.specs.List.{list_all, list_any}
use Rattle.std.specs.Option.{option_map_or}
use Rattle.std.specs.Str.{is_utf8}
use Rattle.vkg_schema.specs.declared.table.Key.{Key}
use Rattle.vkg_schema.specs.declared.table.Table.{Table}
use Rattle.vkg_expr.specs.declared.term_expr.Sort.{Sort}
use Rattle.vkg_expr.specs.declared.term_expr.Sort.TheVariants.{OfIri}
use Rattle.vkg_expr.specs.declared.term_expr.Piece.{Piece}
use Rattle.vkg_expr.specs.declared.term_expr.Piece.TheVariants.{Chars, Hole}
use Rattle.vkg_expr.specs.declared.term_expr.TermExpr.{TermExpr}
use Rattle.vkg_expr.specs.declared.term_expr.TermExpr.TheVariants.{Made}
use Rattle.vkg_expr.specs.Expr.{Expr, Col}
use Rattle.vkg_match.specs.Cut.{is_separable}
use Rattle.vkg_plan.specs.Kinds.{Kinds, Tables, width}
use Rattle.vkg_plan.specs.Plan.{Plan, Plans, Scan, Select, Join, Nil, More}
use Rattle.vkg_rules.specs.Measure.{kinds_or_none}
use Rattle.vkg_equalities.specs.Recognised.{recognised}
use Rattle.vkg_equalities.specs.TableColumns.{flag_at, table_columns}
use Rattle.vkg_keys.specs.Keys.{is_full}
use Rattle.vkg_unique.specs.Sure.{sure_columns, unset, with_flags}

-- ---- what a term gives back

-- the columns of the holes, in the order of the text
abbrev pub hole_columns : List Piece → List ℕ
hole_columns [] = []
hole_columns (Chars text ∷ ps) = hole_columns ps
hole_columns (Hole at k ∷ ps) = at ∷ hole_columns ps

-- there is one alone
abbrev pub is_one : List ℕ → Bool
is_one (at ∷ []) = true
is_one columns = false

abbrev pub is_text : Piece → Bool
is_text (Chars text) = is_utf8 text
is_text (Hole at k) = true

-- R2RML, 7.3: IRI-safe texts with characters between them that no such text holds
abbrev pub is_parted : Sort → List Piece → Bool
is_parted OfIri ps = list_all is_text ps && is_separable ps
is_parted sort ps = false

-- the texts of the holes can be read off the text
abbrev pub is_readable : Sort → List Piece → Bool
is_readable sort ps = is_one (hole_columns ps) || is_parted sort ps

-- the columns whose cells the term gives back, where these are such
abbrev pub given_by_term : (ℕ → Bool) → TermExpr → List ℕ
given_by_term is_good (Made sort ps) = if list_all is_good (hole_columns ps) && is_readable sort ps then hole_columns ps else []
given_by_term is_good e = []

-- the columns whose cells the value of an expression gives back
abbrev pub given_back : (ℕ → Bool) → Kinds → Expr → List ℕ
given_back is_good ks (Col at) = at ∷ []
given_back is_good ks e = option_map_or (given_by_term is_good) (recognised ks e) []

-- a column of a table that is never NULL
abbrev pub is_good_at : List Bool → List Bool → ℕ → Bool
is_good_at tables sure at = flag_at tables at && flag_at sure at

-- of each column whether the values of these expressions give its cells back
unfoldable pub given_in_all : List Bool → List Bool → Kinds → List Expr → List Bool
given_in_all tables sure ks es = fold (λ flags e. with_flags flags (given_back (is_good_at tables sure) ks e)) (unset ks) es

abbrev pub recovered : Tables → List Expr → Plan → List Bool
recovered schema es p = given_in_all (table_columns schema p) (sure_columns schema p) (kinds_or_none schema p) es

-- ---- a key of each table

-- a key without NULL, whose columns are all flagged
abbrev pub is_key_given : List Bool → Table → Key → Bool
is_key_given flags table key = is_full table key && list_all (flag_at flags) key.columns

-- the plan has Scans alone below Selects and Joins, and of each such a key
abbrev mutual
  pub are_keys_given : Tables → List Bool → Plan → Bool
  are_keys_given schema flags (Scan table) = option_map_or (λ t. list_any (is_key_given flags t) t.keys) (slice_get schema table) false
  are_keys_given schema flags (Select c p) = are_keys_given schema flags p
  are_keys_given schema flags (Join ps c) = are_keys_given_in schema flags ps
  are_keys_given schema flags p = false

  pub are_keys_given_in : Tables → List Bool → Plans → Bool
  are_keys_given_in schema flags Nil = true
  are_keys_given_in schema flags (More p ps) = are_keys_given schema flags p && are_keys_given_in schema (drop (width schema p) flags) ps

-- the values of the expressions give back a key of each table
abbrev pub is_recovered : Tables → List Expr → Plan → Bool
is_recovered schema es p = are_keys_given schema (recovered schema es p) p
