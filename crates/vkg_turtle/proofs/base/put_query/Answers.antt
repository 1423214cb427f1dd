use Rattle.std.proofs.Common.{◌∙◌, ◌++◌, List, ℕ, ap, length, string_bytes}
use Rattle.vkg_turtle.proofs.Known.{query_boundary, query_known, query_resolved}
use Rattle.vkg_turtle.proofs.base.put_query.Goals as goal

pub truncate-requires : goal.truncate-requires
truncate-requires c = λ l. let b = query_boundary (string_bytes c.args.text) c.args.places.path c.requires.known.path in (b.0, λ some. b.1)

pub invariant_of-result : goal.invariant_of-result
invariant_of-result c =
    query_known (string_bytes c.args.text) c.args.reference.now c.requires.empty c.args.places c.requires.known c.requires.scheme _
    (c.in_ok-push_str.ensures.bytes ∙ ap (λ (l : List ℕ). l ++ c.args.reference.now) c.truncate.ensures.bytes)
    _ _ (ap length c.before_fragment.ensures.front) c.iri_behind.ensures

pub returns : goal.returns
returns c =
    query_resolved (string_bytes c.args.text) c.args.reference.now c.requires.empty c.args.places c.requires.known c.requires.scheme c.requires.query _
    (c.in_ok-push_str.ensures.bytes ∙ ap (λ (l : List ℕ). l ++ c.args.reference.now) c.truncate.ensures.bytes)
