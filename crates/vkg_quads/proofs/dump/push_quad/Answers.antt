use Rattle.std.proofs.Common.{◌∙◌, sym, ap, string_bytes}
use Rattle.std.specs.Prelude.{option_map}
use Rattle.vkg_quads.proofs.Partners.{quad_none, quad_some}
use Rattle.vkg_quads.proofs.dump.push_quad.Goals as goal

pub returns-in-None : goal.returns-in-None
returns-in-None c = quad_none _ _ (ap (λ o. option_map string_bytes o) (sym c.in-None.is) ∙ c.in_ok-line_of_rows.ensures)

pub returns-in_ok-push-in-Some : goal.returns-in_ok-push-in-Some
returns-in_ok-push-in-Some c =
    c.in_ok-push-in-Some.ensures.ok
    ∙ quad_some _ (string_bytes c.in-Some.text) _ (ap (λ o. option_map string_bytes o) (sym c.in-Some.is) ∙ c.in_ok-line_of_rows.ensures)
