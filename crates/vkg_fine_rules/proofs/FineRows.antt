-- Each row of each rule of a mapping is fine.
use Rattle.std.proofs.Common.{◌≡◌, ℕ, [], ◌++◌, length, sym, subst}
use Rattle.std.specs.Prelude.{Option, Some, None, option_map, Contains, IfSome}
use Rattle.vkg_lists.proofs.Members.{Contains-from_map}
use Rattle.vkg_schema.specs.Meets.{IsWellFormed, MeetsSchema}
use Rattle.vkg_schema.specs.Rows.{Database, Row}
use Rattle.vkg_maps.specs.declared.mapping.Mapping.{Mapping}
use Rattle.vkg_maps.specs.declared.quad_rule.QuadRule.{QuadRule}
use Rattle.vkg_maps.specs.declared.term_map.TermMap.{TermMap}
use Rattle.vkg_maps.specs.DataFaults.{data_faults}
use Rattle.vkg_maps.specs.QuadRules.{quad_rules}
use Rattle.vkg_plan.specs.Kinds.{Tables}
use Rattle.vkg_match.proofs.NeverIri.{never_default}
use Rattle.vkg_row_rules.specs.declared.row_rule.RowRule.{RowRule}
use Rattle.vkg_row_rules.specs.RowDataset.{rule_rows}
use Rattle.vkg_row_rules.specs.RowRules.{row_rule, row_rules}
use Rattle.vkg_row_rules.specs.RowTerms.{row_term}
use Rattle.vkg_maps.specs.Within.{IsWithin, kinds_at}
use Rattle.vkg_row_rules.proofs.Bridge.{rule_sound}
use Rattle.vkg_row_rules.proofs.RowParts.{row_parts}
use Rattle.vkg_row_rules.proofs.RuleQuads.{GraphIs, IsFine}
use Rattle.vkg_unfolded.specs.FineRows.{IsFineRow, IsNarrow, IsNarrowGraph, Meets, NeverDefault}
use Rattle.vkg_fine_rules.specs.Laws.{HasFineRows}
use Rattle.vkg_fine_rules.proofs.Fits.{FitsKinds, fits_rows, fits_holes}
use Rattle.vkg_fine_rules.proofs.Narrow.{narrow_term}

module _ (schema : Tables) (mapping : Mapping) (db : Database) (well : IsWellFormed schema) (within : IsWithin schema mapping) (meets : MeetsSchema schema db) (faultless : data_faults mapping db ≡ []) where
  narrow_graph : (table : ℕ) (g : Option TermMap) (row child : Row) → IfSome g (IsFine mapping.base schema db table) → GraphIs mapping.base (kinds_at schema table) g row child → IsNarrowGraph (option_map (row_term mapping.base (kinds_at schema table)) g) row
  narrow_graph table None row child h e = tt
  narrow_graph table (Some g) row child h e = subst IsNarrow (sym e) (narrow_term mapping.base g child h.over.narrow)

  never : (table : ℕ) (g : Option TermMap) (child more : Row) → length (kinds_at schema table) ≡ length child → FitsKinds (kinds_at schema table) child → IfSome g (IsFine mapping.base schema db table) →
      NeverDefault (option_map (row_term mapping.base (kinds_at schema table)) g) (child ++ more)
  never table None child more w f h = tt
  never table (Some g) child more w f h =
      let ks = kinds_at schema table in
      never_default (child ++ more) (row_term mapping.base ks g) (fits_holes ks child more w f mapping.base g h.over)

  fine : (q : QuadRule) → Contains (quad_rules mapping) q → (row : Row) → Contains (rule_rows schema db q.table q.join) row → IsFineRow (row_rule mapping.base schema q) row
  fine q c row r =
      let sound = rule_sound schema mapping db within meets faultless q c in
      let p = row_parts mapping.base schema db q sound row r in
      record {
        subject = subst IsNarrow (sym p.subject) (narrow_term mapping.base q.subject p.child sound.terms.subject.over.narrow);
        predicate = subst IsNarrow (sym p.predicate) (narrow_term mapping.base q.predicate p.child sound.terms.predicate.over.narrow);
        object = subst IsNarrow (sym p.object) (narrow_term mapping.base q.object p.other sound.terms.object.over.narrow);
        graph = narrow_graph q.table q.graph row p.child sound.terms.graph p.graph;
        never = subst (NeverDefault (option_map (row_term mapping.base (kinds_at schema q.table)) q.graph)) (sym p.whole)
            (never q.table q.graph p.child p.behind_child (sound.width p.child p.of_child) (fits_rows schema db well meets q.table p.child p.of_child) sound.terms.graph);
      }

  all_fine : Meets schema (row_rules schema mapping) db
  all_fine rule c row r =
      let q = Contains-from_map (row_rule mapping.base schema) (quad_rules mapping) rule c in
      subst (λ (x : RowRule). IsFineRow x row) q.2 (fine q.0 q.1 row (subst (λ (x : RowRule). Contains (rule_rows schema db x.table x.join) row) (sym q.2) r))

pub has_fine_rows : (schema : Tables) (mapping : Mapping) (db : Database) → HasFineRows schema mapping db
has_fine_rows schema mapping db well within meets faultless = all_fine schema mapping db well within meets faultless
