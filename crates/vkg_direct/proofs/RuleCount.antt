-- How many quad rules the direct mapping has.
use Rattle.std.proofs.Common.{◌≡◌, ℕ, suc, ◌+◌, refl, sym, ◌∙◌, ap, List, [], ◌∷◌, map, flat_map, length, arith, length-append, Bool, Ok, Err, cond, true, false, nat_lt, Result}
use Rattle.std.specs.Prelude.{sum_by}
use Rattle.std.specs.List.{enumerate_from}
use Rattle.std.proofs.lemmas.Grind.{flat_map-append}
use Rattle.std.proofs.lemmas.List.Sums.{sum_by-cons}
use Rattle.vkg_schema.specs.declared.table.Table.{Table}
use Rattle.vkg_schema.specs.declared.table.Column.{Column}
use Rattle.vkg_schema.specs.declared.table.Reference.{Reference}
use Rattle.vkg_maps.specs.declared.mapping.Mapping.{Mapping}
use Rattle.vkg_maps.specs.declared.mapping.TriplesMap.{TriplesMap}
use Rattle.vkg_maps.specs.QuadRules.{map_rules, predicate_object_rules, quad_rules, rule_limit}
use Rattle.vkg_direct.specs.declared.direct_error.DirectError.{DirectError}
use Rattle.vkg_direct.specs.declared.direct_error.DirectError.TheVariants.{TooManyRules}
use Rattle.vkg_direct.specs.DirectMapping.{column_property, reference_property, direct_map, maps_of, direct, rules_of_table, within_limit}

module _ (base : List ℕ) (maps : List TriplesMap) where
  column_rules : (k : ℕ) (table : Table) (n : ℕ) (cs : List Column) → length (flat_map (predicate_object_rules maps (direct_map base (k, table))) (map (column_property base table) (enumerate_from n cs))) ≡ length cs
  column_rules k table n [] = refl
  column_rules k table n (c ∷ cs) = ap suc (column_rules k table (n + 1) cs)

  reference_rules : (k : ℕ) (table : Table) (rs : List Reference) → length (flat_map (predicate_object_rules maps (direct_map base (k, table))) (map (reference_property base table) rs)) ≡ length rs
  reference_rules k table [] = refl
  reference_rules k table (r ∷ rs) = ap suc (reference_rules k table rs)

  table_rules : (k : ℕ) (table : Table) → length (map_rules maps (direct_map base (k, table))) ≡ rules_of_table table
  table_rules k table =
      let rules = predicate_object_rules maps (direct_map base (k, table)) in
      let columns = map (column_property base table) (enumerate_from 0 table.columns) in
      let references = map (reference_property base table) table.references in
      let more : (a b : ℕ) → suc (a + b) ≡ 1 + a + b = λ a b. omega arith in
      ap suc (ap length (flat_map-append rules columns references) ∙ length-append (flat_map rules columns) (flat_map rules references))
      ∙ ap (λ n. suc (n + length (flat_map rules references))) (column_rules k table 0 table.columns)
      ∙ ap (λ n. suc (length table.columns + n)) (reference_rules k table table.references)
      ∙ more (length table.columns) (length table.references)

  all_rules : (n : ℕ) (tables : List Table) → length (flat_map (map_rules maps) (map (direct_map base) (enumerate_from n tables))) ≡ sum_by rules_of_table tables
  all_rules n [] = refl
  all_rules n (t ∷ ts) =
      length-append (map_rules maps (direct_map base (n, t))) (flat_map (map_rules maps) (map (direct_map base) (enumerate_from (n + 1) ts)))
      ∙ ap (λ m. m + length (flat_map (map_rules maps) (map (direct_map base) (enumerate_from (n + 1) ts)))) (table_rules n t)
      ∙ ap (λ m. rules_of_table t + m) (all_rules (n + 1) ts)
      ∙ sym (sum_by-cons rules_of_table t ts)

pub rule_count : (tables : List Table) (base : List ℕ) → length (quad_rules (direct tables base)) ≡ sum_by rules_of_table tables
rule_count tables base = all_rules base (maps_of base tables) 0 tables

-- whether the direct mapping has too many rules, by the count
pub too_many : (tables : List Table) (base : List ℕ) → nat_lt rule_limit (sum_by rules_of_table tables) ≡ true → within_limit (direct tables base) ≡ Err TooManyRules
too_many tables base e = ap (λ b. cond b (Err TooManyRules) (Ok (direct tables base))) (ap (nat_lt rule_limit) (rule_count tables base) ∙ e)

pub few_enough : (tables : List Table) (base : List ℕ) → nat_lt rule_limit (sum_by rules_of_table tables) ≡ false → within_limit (direct tables base) ≡ Ok (direct tables base)
few_enough tables base e = ap (λ b. cond b (Err TooManyRules) (Ok (direct tables base))) (ap (nat_lt rule_limit) (rule_count tables base) ∙ e)

limited : (b : Bool) (made mapping : Mapping) → ◌≡◌ {A = Result Mapping DirectError} (cond b (Err TooManyRules) (Ok made)) (Ok mapping) → made ≡ mapping
limited true made mapping e = cc
limited false made mapping e = cc

-- where there is a mapping, it is the direct one
pub direct_of_limit : (tables : List Table) (base : List ℕ) (mapping : Mapping) → within_limit (direct tables base) ≡ Ok mapping → direct tables base ≡ mapping
direct_of_limit tables base mapping e = limited (nat_lt rule_limit (length (quad_rules (direct tables base)))) (direct tables base) mapping e
