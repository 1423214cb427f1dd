use Rattle.std.proofs.Common.{◌<◌, ◌++◌, ◌∷◌, [], ◌∙◌, ap, length, arith}
use Rattle.std.specs.Prelude.{if◌then◌else◌}
use Rattle.std.specs.Str.{bytes_eq}
use Rattle.vkg_hash.specs.Groups.{group}
use Rattle.vkg_term_maps.proofs.IndexLemmas.{numbers_more}
use Rattle.vkg_term_maps.proofs.index.index_of.Goals as goal

pub loop-k-preserved : goal.loop-k-preserved
loop-k-preserved c = λ q.
    let inside : c.loop-k.k < length c.args.triples.now = omega arith in
    numbers_more c.args.triples.now c.loop-k.k c.index-triples-k.result q (group c.loop-k.index q) _ _ inside c.index-triples-k.is
    (c.in_ok-add.ensures q ∙ ap (λ name. group c.loop-k.index q ++ (if bytes_eq q name then c.loop-k.k ∷ [] else [])) c.name.ensures.value) (c.loop-k.invariant q)
