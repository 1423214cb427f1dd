use Rattle.std.proofs.Common.{◌∙◌, ap}
use Rattle.std.specs.List.{list_any}
use Rattle.vkg_turtle.specs.Fronts.{is_dot_segment}
use Rattle.vkg_turtle.proofs.PathLemmas.{any_of_texts}
use Rattle.vkg_turtle.proofs.path.has_dots.Goals as goal

pub returns : goal.returns
returns c =
    c.any_dots.ensures ∙ ap (list_any (λ s. is_dot_segment s.now)) c.as_slice.ensures.value
    ∙ any_of_texts is_dot_segment c.in_ok-segments.segments.items
    ∙ ap (list_any is_dot_segment) c.in_ok-segments.ensures
