use Rattle.std.proofs.Common.{◌≡◌, ◌∙◌, length, ap, sym, subst}
use Rattle.vkg_sparql.specs.Seen.{group_seen, query_seen}
use Rattle.vkg_algebra.specs.Lawful.{IsLawfulAlgebra}
use Rattle.vkg_algebra.specs.Seen.{algebra_seen}
use Rattle.vkg_algebra.specs.Translation.{algebra_of, elements, group_algebra, simplified}
use Rattle.vkg_algebra.proofs.LawfulLemmas.{lawful_algebra}
use Rattle.vkg_algebra.proofs.translation.translate.Goals as goal

pub returns-clause-lawful : goal.returns-clause-lawful
returns-clause-lawful c =
    let q = query_seen c.args.query.now in
    let group : algebra_seen c.in_ok-translated.field-0 ≡ simplified (group_algebra (elements (group_seen c.as_slice.result.now))) = c.in_ok-translated.ensures in
    let is : algebra_seen c.into_inner.result ≡ algebra_of q = ap algebra_seen c.into_inner.ensures ∙ group ∙ ap (λ ps. simplified (group_algebra (elements (group_seen ps)))) c.as_slice.ensures in
    λ h. subst (IsLawfulAlgebra (length q.names)) (sym is) (lawful_algebra q h)
