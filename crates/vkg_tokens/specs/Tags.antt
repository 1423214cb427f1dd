-- Language tags (RDF 1.1 Turtle, 6.5, and SPARQL 1.1 Query Language, 19.8: LANGTAG) and variables (SPARQL 1.1 Query Language, 19.8: VAR1, VAR2), character by character.
use Rattle.std.specs.Prelude.{ℕ, Option, Some, None, if◌then◌else◌, ◌==◌}
use Rattle.std.specs.Char.{is_ascii_alphabetic, is_ascii_alphanumeric}
use Rattle.vkg_tokens.specs.declared.tags.Tag.{Tag}
use Rattle.vkg_tokens.specs.declared.tags.Tag.TheVariants.{At, Letters, Dash, Part}
use Rattle.vkg_tokens.specs.declared.variables.Variable.{Variable}
use Rattle.vkg_tokens.specs.declared.variables.Variable.TheVariants as variable
use Rattle.vkg_tokens.specs.Characters.{is_label_start, is_variable_part}

abbrev pub in_letters : ℕ → Option Tag
in_letters c = if is_ascii_alphabetic c then Some Letters else if c == 0x2d then Some Dash else None

abbrev pub in_part : ℕ → Option Tag
in_part c = if is_ascii_alphanumeric c then Some Part else if c == 0x2d then Some Dash else None

-- letters first; behind a `-` (45) digits too
abbrev pub tag_step : Tag → ℕ → Option Tag
tag_step At c = if is_ascii_alphabetic c then Some Letters else None
tag_step Letters c = in_letters c
tag_step Dash c = if is_ascii_alphanumeric c then Some Part else None
tag_step Part c = in_part c

abbrev pub variable_step : Variable → ℕ → Option Variable
variable_step variable.Question c = if is_label_start c then Some variable.Named else None
variable_step variable.Dollar c = if is_label_start c then Some variable.Named else None
variable_step variable.Named c = if is_variable_part c then Some variable.Named else None
