use Rattle.std.proofs.Common.{ℕ, ◌++◌, ◌∷◌, ◌∙◌, sym, ap, map, flat_map, append_assoc, string_bytes}
use Rattle.std.specs.List.{join_with_byte}
use Rattle.vkg_terms.specs.Safe.{safe}
use Rattle.vkg_direct.specs.DirectGraph.{column_name}
use Rattle.vkg_direct.proofs.Joined.{joined_is}
use Rattle.vkg_direct.proofs.iris.push_names.Goals as goal

pub returns-in_ok-push_rest-in-Some : goal.returns-in_ok-push_rest-in-Some
returns-in_ok-push_rest-in-Some c =
    let f = λ (p : ℕ × ℕ). safe (column_name c.args.table.now p.0) in
    let out = string_bytes c.args.out.now in
    let first = c.in-Some.first.now in
    let rest = c.in-Some.rest.now in
    c.in_ok-push_rest-in-Some.ensures
    ∙ (ap (λ s. s ++ flat_map (λ p. 59 ∷ f p) rest) (c.in_ok-push_safe-in-Some.ensures ∙ ap (λ n. out ++ safe n) c.column_name.ensures)
    ∙ (append_assoc out (f first) (flat_map (λ p. 59 ∷ f p) rest)
    ∙ ap (λ s. out ++ s) (sym (joined_is 59 f first rest) ∙ ap (λ ps. join_with_byte 59 (map f ps)) (sym c.in-Some.ensures.cases.0))))
