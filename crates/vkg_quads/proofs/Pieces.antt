-- The value of a template, piece by piece.
use Rattle.std.proofs.Common.{◌≡◌, ◌∙◌, ap, sym, ℕ, ◌+◌, ◌<◌, List, drop, length, get_or, Option, Some}
use Rattle.vkg_lists.specs.Options.{joined}
use Rattle.vkg_lists.proofs.Firsts.{opened}
use Rattle.vkg_lists.proofs.Onto.{joined_assoc}
use Rattle.vkg_schema.specs.Rows.{Row}
use Rattle.vkg_maps.specs.declared.term_map.Piece.{Piece}
use Rattle.vkg_maps.specs.declared.term_map.TermType.{TermType}
use Rattle.vkg_maps.specs.Terms.{piece_text, template_value}

pub value_more : (type : TermType) (row : Row) (ps : List Piece) (i : ℕ) (p : Piece) (was : List ℕ) (o : Option (List ℕ)) → i < length ps → p ≡ get_or ps i p → joined (Some was) (piece_text type row p) ≡ o → joined (Some was) (template_value type row (drop i ps)) ≡ joined o (template_value type row (drop (i + 1) ps))
value_more type row ps i p was o h e f =
    ap (λ qs. joined (Some was) (template_value type row qs)) (opened ps i p h e)
    ∙ (sym (joined_assoc (Some was) (piece_text type row p) (template_value type row (drop (i + 1) ps)))
    ∙ ap (λ x. joined x (template_value type row (drop (i + 1) ps))) f)
