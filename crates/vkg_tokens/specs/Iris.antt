-- IRIs in angle brackets (RDF 1.1 Turtle, 6.5, and SPARQL 1.1 Query Language, 19.8: IRIREF; the numeric escapes too), and what else begins with `<`, character by character.
use Rattle.std.specs.Prelude.{ℕ, Option, Some, None, option_map, if◌then◌else◌, ◌==◌}
use Rattle.vkg_tokens.specs.declared.characters.CodePoint.{CodePoint}
use Rattle.vkg_tokens.specs.declared.iris.IriRef.{IriRef}
use Rattle.vkg_tokens.specs.declared.iris.IriRef.TheVariants.{Less, LessEqual, Inside, Escape, Digits, Closed}
use Rattle.vkg_tokens.specs.Characters.{is_iri_part, code_point_begin, code_point_more}

-- `>` (62) closes, `\` (92) begins an escape
abbrev pub in_iri : ℕ → Option IriRef
in_iri c = if c == 0x3e then Some Closed else if c == 0x5c then Some Escape else if is_iri_part c then Some Inside else None

abbrev pub behind_iri_digit : CodePoint → IriRef
behind_iri_digit point = if point.left == 0 then Inside else Digits point

-- what was read with one more character
abbrev pub iri_step : IriRef → ℕ → Option IriRef
iri_step Less c = if c == 0x3d then Some LessEqual else in_iri c
iri_step LessEqual c = in_iri c
iri_step Inside c = in_iri c
iri_step Escape c = option_map Digits (code_point_begin c)
iri_step (Digits point) c = option_map behind_iri_digit (code_point_more point c)
iri_step Closed c = None
