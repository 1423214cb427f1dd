use Rattle.std.proofs.Common.{◌≡◌, fold, drop}
use Rattle.vkg_terms.specs.Standing.{after_character}
use Rattle.vkg_terms.proofs.template_standing.after_text.Given as goal

abbrev pub invariant-loop-b : goal.invariant-loop-b
invariant-loop-b l = fold after_character l.front (drop l.b-index l.text) ≡ fold after_character l.initial.front l.text
