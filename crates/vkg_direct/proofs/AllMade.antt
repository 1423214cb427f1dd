-- Each term map of the direct mapping makes its term over a database that meets the schema.
use Rattle.std.proofs.Common.{◌≡◌, ◌⊎◌, inl, inr, ℕ, refl, sym, ◌∙◌, ap, subst, List, [], ◌∷◌, length, true, Option, Some, None, Ok}
use Rattle.std.specs.Prelude.{Contains, chars, option_map, slice_get, unwrap_or, IfSome, IsTrue, IsUtf8}
use Rattle.std.specs.List.{AllByRecursion, AllZip, enumerate_from}
use Rattle.std.proofs.lemmas.Option.{same_Some}
use Rattle.std.proofs.lemmas.Str.{scalars-chars}
use lib.Utf8.{scalars}
use Rattle.vkg_lists.proofs.Each.{recursion_get, zip_get}
use Rattle.vkg_lists.proofs.Numbered.{numbered_place}
use Rattle.vkg_lists.proofs.Positions.{found, get_member, get_below}
use Rattle.vkg_lists.specs.Lists.{AllBelow}
use Rattle.vkg_terms.specs.declared.term.Term.TheVariants.{Lit}
use Rattle.vkg_terms.specs.Iri.{is_absolute}
use Rattle.vkg_cells.specs.declared.cell.Cell.{Cell}
use Rattle.vkg_cells.specs.declared.cell.Cell.TheVariants as cell
use Rattle.vkg_cells.specs.Form.{lexical_form, natural}
use Rattle.vkg_schema.specs.declared.table.Table.{Table}
use Rattle.vkg_schema.specs.declared.table.Column.{Column}
use Rattle.vkg_schema.specs.declared.table.Key.{Key}
use Rattle.vkg_schema.specs.Rows.{Row, Database, rows_of, cell_at}
use Rattle.vkg_schema.specs.Meets.{IsWellFormed, IsTable, IsColumn, IsKey, IsReference, FitsColumn, MeetsSchema}
use Rattle.vkg_schema.proofs.RowFits.{row_of_table}
use Rattle.vkg_maps.specs.declared.term_map.TermMap.TheVariants as from
use Rattle.vkg_maps.specs.declared.term_map.TermType.TheVariants as sort
use Rattle.vkg_maps.specs.Terms.{term_of, where_value, against}
use Rattle.vkg_direct.specs.DirectGraph.{primary_key, row_node}
use Rattle.vkg_direct.specs.DirectMapping.{direct_map, has_primary_key}
use Rattle.vkg_lists.proofs.Members.{each_from_recursion}
use Rattle.vkg_direct.proofs.Whole.{parent_at, AllMade}
use Rattle.vkg_direct.proofs.Cells.{Formed, formed}
use Rattle.vkg_direct.proofs.Nodes.{Known, Named, node_made}

-- a cell that fits its column is NULL or has its form
fitted : (column : Column) (c : Cell) → IsColumn column → FitsColumn column c → (c ≡ cell.Null) ⊎ Formed column.kind c
fitted column c is f = elim f.kind [ inl e ↦ inl e | inr o ↦ inr (formed column.kind c is.kind o) ]

module _ (table : Table) (row : Row) (cells : AllZip FitsColumn table.columns row) (columns : AllByRecursion IsColumn table.columns) where
  known : (j : ℕ) (column : Column) → slice_get table.columns j ≡ Some column → IsTrue column.not_null → Known row j
  known j column e n =
      let z = zip_get FitsColumn table.columns row j column cells e in
      let at : cell_at row j ≡ z.0 = ap (λ o. unwrap_or o cell.Null) z.1 in
      elim (fitted column z.0 (recursion_get IsColumn table.columns j column columns e) z.2) [
        | inl i ↦ absurd (z.2.not_null n i)
        | inr f ↦ record { form = f.form; is = ap lexical_form at ∙ f.is; spelled = f.spelled }
      ]

  all_known : (js : List ℕ) → AllBelow (length table.columns) js → AllByRecursion (λ k. IfSome (slice_get table.columns k) (λ c. IsTrue c.not_null)) js → AllByRecursion (Known row) js
  all_known [] b n = tt
  all_known (j ∷ js) b n =
      let s = get_below table.columns j b.0 in
      let P : Option Column → Type 0 = λ o. IfSome o (λ c. IsTrue c.not_null) in
      (known j s.0 s.1 (subst P s.1 n.0), all_known js b.1 n.1)

  made_literal : (c : ℕ × Column) → Contains (enumerate_from 0 table.columns) c → (base : List ℕ) → term_of base (from.Column c.0 (sort.Literal (natural c.1.kind))) row ≡ Ok (option_map (λ form. Lit form (natural c.1.kind)) (lexical_form (cell_at row c.0)))
  made_literal c h base =
      let e = numbered_place table.columns c h in
      let z = zip_get FitsColumn table.columns row c.0 c.1 cells e in
      let at : cell_at row c.0 ≡ z.0 = ap (λ o. unwrap_or o cell.Null) z.1 in
      let P : Option (List ℕ) → Type 0 = λ o. where_value (sort.Literal (natural c.1.kind)) (option_map (against base (sort.Literal (natural c.1.kind))) o) ≡ Ok (option_map (λ form. Lit form (natural c.1.kind)) o) in
      elim (fitted c.1 z.0 (recursion_get IsColumn table.columns c.0 c.1 columns e) z.2) [
        | inl i ↦ subst P (sym (ap lexical_form (at ∙ i))) refl
        | inr f ↦ subst P (sym (ap lexical_form at ∙ f.is)) f.typed
      ]

named : (tables : List Table) (table : Table) → IsTable tables table → Named table
named tables table t = record { name = scalars-chars table.name t.name; columns = λ c. of_column (slice_get table.columns c) (λ column e. (recursion_get IsColumn table.columns c column t.columns e).name) }
  where
    of_column : (o : Option Column) → ((column : Column) → o ≡ Some column → IsUtf8 column.name) → scalars (chars (unwrap_or (option_map (λ c. c.name) o) [])) ≡ true
    of_column None h = scalars-chars [] ([], (refl, refl))
    of_column (Some column) h = scalars-chars column.name (h column refl)

module _ (base : List ℕ) (tables : List Table) (db : Database) (absolute : is_absolute base ≡ true) (well : IsWellFormed tables) (meets : MeetsSchema tables db) (keyed : (t : Table) → Contains tables t → has_primary_key t ≡ true) where
  row_fits : (k : ℕ) (table : Table) → slice_get tables k ≡ Some table → (row : Row) → Contains (rows_of db k) row → AllZip FitsColumn table.columns row
  row_fits k table e row h =
      let r = row_of_table db tables db meets k row h in
      subst (λ (t : Table). AllZip FitsColumn t.columns row) (same_Some r.0 table (sym r.1 ∙ e)) r.2

  node : (k : ℕ) (table : Table) → slice_get tables k ≡ Some table → (row : Row) → Contains (rows_of db k) row → term_of base (direct_map base (k, table)).subject row ≡ Ok (Some (row_node base table row))
  node k table e row h =
      let t = recursion_get (IsTable tables) tables k table well e in
      let f = found (λ (k : Key). k.primary) table.keys (keyed table (get_member tables k table e)) in
      let is = each_from_recursion (IsKey table) table.keys t.keys f.1 (get_member table.keys f.0 f.1 f.2.at) in
      let key : primary_key table ≡ f.1.columns = ap (λ o. unwrap_or (option_map (λ k. k.columns) o) []) f.2.found in
      let known = all_known table row (row_fits k table e row h) t.columns f.1.columns is.columns (is.primary f.2.passes) in
      node_made base k table row absolute (named tables table t) (λ n. is.some (sym key ∙ n)) (subst (λ cs. AllByRecursion (Known row) cs) (sym key) known)

  pub all_made : AllMade base tables db
  all_made kt h row r =
      let e = numbered_place tables kt h in
      let t = recursion_get (IsTable tables) tables kt.0 kt.1 well e in
      record {
        node = node kt.0 kt.1 e row r;
        literals = λ c c_is. made_literal kt.1 row (row_fits kt.0 kt.1 e row r) t.columns c c_is base;
        parents = λ ref ref_is other o_is.
            let f = each_from_recursion (IsReference tables kt.1) kt.1.references t.references ref ref_is in
            let target = get_below tables ref.table f.inside in
            ap (λ m. term_of base m.subject other) (parent_at base tables (direct_map base kt) ref.table target.0 target.1)
            ∙ (node ref.table target.0 target.1 other o_is
            ∙ ap (λ o. Ok (Some (row_node base (unwrap_or o kt.1) other))) (sym target.1));
      }
