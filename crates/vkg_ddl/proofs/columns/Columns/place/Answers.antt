use Rattle.std.proofs.Common.{◌∙◌, ap, subst}
use Rattle.std.specs.Prelude.{IfSome, false, find, slice_get}
use Rattle.std.specs.List.{enumerate_from}
use Rattle.std.specs.Option.{option_map_or}
use Rattle.vkg_ddl.specs.Index.{IsIndexOf, places_named}
use Rattle.vkg_ddl.specs.NameChecks.{column_place, matches}
use Rattle.vkg_ddl.proofs.IndexLemmas.{place_found}
use Rattle.vkg_ddl.proofs.columns.Columns.place.Goals as goal

pub returns-in-Ok : goal.returns-in-Ok
returns-in-Ok c =
    let columns = c.self.inside.columns.now in
    let n = c.args.n.now in
    let index : IsIndexOf columns c.in-Some.places = subst (λ o. IfSome o (IsIndexOf columns)) c.in-Some.is c.self.invariant in
    c.first_of.ensures
    ∙ ap (find (λ k. option_map_or (λ d. matches n d.name) (slice_get columns k) false))
    (c.numbers_of.ensures ∙ index c.as_str.result.now ∙ ap (λ q. places_named q (enumerate_from 0 columns)) (c.as_str.ensures.value ∙ c.in-Ok.ensures))
    ∙ place_found columns n
    ∙ ap (λ cs. column_place cs n) c.self.view_is
