use Rattle.std.proofs.Common.{◌≡◌, ◌∙◌, ℕ, List, sym, ap, subst, None, not, Ok, Result, IfOk}
use Rattle.std.specs.Prelude.{position}
use Rattle.std.proofs.lemmas.Result.{IfOk-weaker}
use Rattle.vkg_schema.specs.declared.table.Table.{Table}
use Rattle.vkg_maps.specs.declared.mapping.Mapping.{Mapping}
use Rattle.vkg_direct.specs.declared.direct_error.DirectError.{DirectError}
use Rattle.vkg_direct.specs.DirectMapping.{direct, within_limit, has_primary_key}
use Rattle.vkg_direct.specs.Laws.{GivesDirectGraph, MakesEachTerm}
use Rattle.vkg_direct.proofs.Law.{direct_graph_is, direct_faultless}
use Rattle.vkg_direct.proofs.RuleCount.{direct_of_limit}
use Rattle.vkg_direct.proofs.mapping.direct.Goals as goal

-- what holds of the direct mapping holds of the answer
carried : (P : Mapping → Type 0) (tables : List Table) (base : List ℕ) (r : Result Mapping DirectError) → IfOk r (λ m. within_limit (direct tables base) ≡ Ok m) → P (direct tables base) → IfOk r P
carried P tables base r h p = IfOk-weaker r (λ m. within_limit (direct tables base) ≡ Ok m) P (λ m e. subst P (direct_of_limit tables base m e) p) h

pub returns-in-None-clause-graph : goal.returns-in-None-clause-graph
returns-in-None-clause-graph c =
    let tables = c.args.schema.now in
    let base = c.args.base.now in
    let same : c.tables-tables.result.now ≡ tables = c.tables-tables.ensures.value in
    let keys : position (λ t. not (has_primary_key t)) tables ≡ None = ap (λ ts. position (λ t. not (has_primary_key t)) ts) (sym same) ∙ (sym c.without_key.ensures.value ∙ c.in-None.is) in
    let ok = subst (λ ts. IfOk c.direct_within_limit.result (λ m. within_limit (direct ts base) ≡ Ok m)) same c.direct_within_limit.ensures.ok in
    carried (GivesDirectGraph tables base) tables base c.direct_within_limit.result ok (direct_graph_is base tables c.requires c.tables-tables.ensures.form keys)

pub returns-in-None-clause-faultless : goal.returns-in-None-clause-faultless
returns-in-None-clause-faultless c =
    let tables = c.args.schema.now in
    let base = c.args.base.now in
    let same : c.tables-tables.result.now ≡ tables = c.tables-tables.ensures.value in
    let keys : position (λ t. not (has_primary_key t)) tables ≡ None = ap (λ ts. position (λ t. not (has_primary_key t)) ts) (sym same) ∙ (sym c.without_key.ensures.value ∙ c.in-None.is) in
    let ok = subst (λ ts. IfOk c.direct_within_limit.result (λ m. within_limit (direct ts base) ≡ Ok m)) same c.direct_within_limit.ensures.ok in
    carried (MakesEachTerm tables) tables base c.direct_within_limit.result ok (direct_faultless base tables c.requires c.tables-tables.ensures.form keys)
