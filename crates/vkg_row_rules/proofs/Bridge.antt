-- The rules over rows give the dataset of the mapping.
use Rattle.std.proofs.Common.{◌≡◌, ◌∙◌, ℕ, [], length, refl, ap, sym}
use Rattle.std.specs.Prelude.{Contains}
use Rattle.std.proofs.lemmas.List.{length-map}
use Rattle.std.proofs.lemmas.Slice.Zip.{AllZip-long}
use Rattle.vkg_lists.specs.Sets.{distinct}
use Rattle.vkg_lists.proofs.Members.{each_from_recursion, flat_map_agree_on}
use Rattle.vkg_lists.proofs.Walks.{flat_map-map}
use Rattle.vkg_schema.specs.declared.table.Column.{Column}
use Rattle.vkg_schema.specs.Meets.{FitsColumn, MeetsSchema}
use Rattle.vkg_schema.specs.Rows.{Database, Row, rows_of}
use Rattle.vkg_schema.proofs.RowFits.{row_of_table}
use Rattle.vkg_maps.proofs.TableKinds.{kinds_of}
use Rattle.vkg_maps.specs.declared.mapping.Mapping.{Mapping}
use Rattle.vkg_maps.specs.declared.quad_rule.QuadRule.{QuadRule}
use Rattle.vkg_maps.specs.DataFaults.{data_faults}
use Rattle.vkg_maps.specs.Dataset.{quad_eq, quads_of_rule}
use Rattle.vkg_maps.specs.QuadRules.{quad_rules}
use Rattle.vkg_plan.specs.Kinds.{Tables}
use Rattle.vkg_row_rules.specs.Laws.{GivesDataset}
use Rattle.vkg_row_rules.specs.RowDataset.{quads_of}
use Rattle.vkg_row_rules.specs.RowRules.{row_rule}
use Rattle.vkg_maps.specs.Within.{IsMapWithin, IsWithin, kinds_at}
use Rattle.vkg_row_rules.proofs.Faultless.{all_made}
use Rattle.vkg_row_rules.proofs.RuleQuads.{IsFine, IsSound, rule_quads}
use Rattle.vkg_row_rules.proofs.SoundRules.{listed_over, of_rules}

-- ---- how wide rows are

row_width : (schema : Tables) (db : Database) → MeetsSchema schema db → (table : ℕ) (row : Row) → Contains (rows_of db table) row → length (kinds_at schema table) ≡ length row
row_width schema db meets table row c =
    let r = row_of_table db schema db meets table row c in
    ap length (kinds_of schema table r.0 r.1) ∙ length-map r.0.columns (λ (c : Column). c.kind) ∙ sym (AllZip-long FitsColumn r.0.columns row r.2)

module _ (schema : Tables) (mapping : Mapping) (db : Database) (within : IsWithin schema mapping) (meets : MeetsSchema schema db) (faultless : data_faults mapping db ≡ []) where
  pub rule_sound : (rule : QuadRule) → Contains (quad_rules mapping) rule → IsSound mapping.base schema db rule
  rule_sound rule c = record {
    width = row_width schema db meets rule.table;
    terms = of_rules (IsFine mapping.base schema db) schema mapping within
        (λ table iri. record { over = record { columns = tt; narrow = refl }; made = λ row d. refl })
        (λ m is_map t d. record {
          over = listed_over schema mapping.maps m (each_from_recursion (IsMapWithin schema mapping.maps) mapping.maps within m is_map) t d;
          made = all_made mapping db faultless m is_map t d;
        }) rule c;
  }

pub gives_dataset : (schema : Tables) (mapping : Mapping) (db : Database) → GivesDataset schema mapping db
gives_dataset schema mapping db within meets faultless =
    ap (distinct quad_eq) (flat_map-map (quads_of schema db) (row_rule mapping.base schema) (quad_rules mapping)
    ∙ flat_map_agree_on (λ rule. quads_of schema db (row_rule mapping.base schema rule)) (quads_of_rule mapping.base db) (quad_rules mapping)
    (λ rule c. rule_quads mapping.base schema db rule (rule_sound schema mapping db within meets faultless rule c)))
