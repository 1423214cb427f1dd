use Rattle.std.proofs.Common.{◌∙◌, ◌++◌, List, ℕ, ap, length, string_bytes}
use Rattle.std.proofs.lemmas.Str.{IsUtf8-string_bytes}
use Rattle.vkg_turtle.proofs.Known.{path_known}
use Rattle.vkg_turtle.proofs.Placing.{front_boundary, put_resolved}
use Rattle.vkg_turtle.proofs.base.put_path.Goals as goal

pub truncate-requires : goal.truncate-requires
truncate-requires c = λ l.
    let h = rw c.requires.front at c.requires.known.front in
    let b = front_boundary (string_bytes c.args.text) c.args.front (IsUtf8-string_bytes c.args.text) h in
    (b.0, λ some. b.1)

pub invariant_of-result : goal.invariant_of-result
invariant_of-result c =
    let h = rw c.requires.front at c.requires.known.front in
    path_known (string_bytes c.args.text) c.args.places c.requires.known c.args.front h c.args.reference.now c.args.end c.requires.plain _
    (c.in_ok-push_str.ensures.bytes ∙ ap (λ (l : List ℕ). l ++ c.args.reference.now) c.truncate.ensures.bytes)
    _ _ _ (ap length c.before_query.ensures.front) (ap length c.before_fragment.ensures.front) c.iri_behind.ensures

pub returns : goal.returns
returns c =
    let h = rw c.requires.front at c.requires.known.front in
    put_resolved (string_bytes c.args.text) c.args.front h c.args.reference.now c.args.end c.requires.plain _
    (c.in_ok-push_str.ensures.bytes ∙ ap (λ (l : List ℕ). l ++ c.args.reference.now) c.truncate.ensures.bytes)
