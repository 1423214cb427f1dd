-- Own, after R2RML, 7.3 and 7.4, and RFC 3986, 3.1: a template's standing, found a character at a time.
use Rattle.std.specs.Prelude.{ℕ, not, fold, if◌then◌else◌, ◌==◌}
use Rattle.std.specs.Char.{is_ascii_alphabetic}
use Rattle.vkg_terms.specs.Iri.{is_scheme_character}
use Rattle.vkg_terms.specs.declared.template.Part.{Part}
use Rattle.vkg_terms.specs.declared.template.Part.TheVariants as part
use Rattle.vkg_terms.specs.declared.template.Standing.{Standing}
use Rattle.vkg_terms.specs.declared.template.Standing.TheVariants as stands
use Rattle.vkg_terms.specs.declared.template_standing.Front.{Front}
use Rattle.vkg_terms.specs.declared.template_standing.Front.TheVariants.{Empty, Scheme, NoScheme, Hole, Absolute, Relative, Doubtful}

abbrev pub at_colon : Front → Front
at_colon Scheme = Absolute
at_colon Hole = Doubtful
at_colon front = Relative

-- a character that may stand in a scheme
abbrev pub with_character : Front → ℕ → Front
with_character Empty c = if is_ascii_alphabetic c then Scheme else NoScheme
with_character front c = front

abbrev pub going : Front → ℕ → Front
going front c = if c == 58 then at_colon front else if not (is_scheme_character c) then Relative else with_character front c

abbrev pub after_character : Front → ℕ → Front
after_character Absolute c = Absolute
after_character Relative c = Relative
after_character Doubtful c = Doubtful
after_character front c = going front c

abbrev pub after_hole : Front → Front
after_hole Absolute = Absolute
after_hole Relative = Relative
after_hole Doubtful = Doubtful
after_hole front = Hole

abbrev pub after_part : Front → Part → Front
after_part front (part.Fixed text) = fold after_character front text
after_part front (part.Hole name) = after_hole front

abbrev pub decided : Front → Standing
decided Absolute = stands.Absolute
decided Doubtful = stands.Doubtful
decided front = stands.Relative
