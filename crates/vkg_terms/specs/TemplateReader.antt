-- A template is read a character at a time.
use Rattle.std.specs.Prelude.{ℕ, List, [], ◌∷◌, ◌++◌, Option, Some, None, if◌then◌else◌, ◌==◌, encode_utf8}
use Rattle.std.specs.Str.{bytes_eq}
use Rattle.std.specs.String.{string_bytes}
use Rattle.vkg_terms.specs.TemplateText.{is_special}
use Rattle.vkg_terms.specs.declared.template.Part.{Part}
use Rattle.vkg_terms.specs.declared.template.Part.TheVariants as part
use Rattle.vkg_terms.specs.declared.template_reader.Place.{Place}
use Rattle.vkg_terms.specs.declared.template_reader.Place.TheVariants.{Fixed, Hole, EscapedFixed, EscapedHole, Broken}
use Rattle.vkg_terms.specs.declared.template_reader.Reader.{Reader}

-- the parts that ended, the text of the part that did not, and where it stands
pub record State : Type 0 where
  pub parts : List Part
  pub text : List ℕ
  pub place : Place

abbrev pub state : Reader → State
state r = record { parts = r.parts; text = string_bytes r.text; place = r.place }

abbrev pub start : State
start = record { parts = []; text = []; place = Fixed }

-- the fixed part that ends here, if it holds anything
abbrev pub fixed_part : List ℕ → List Part
fixed_part text = if bytes_eq text [] then [] else part.Fixed text ∷ []

abbrev pub at_place : State → Place → State
at_place s place = record s { place = place }

abbrev pub with_char : State → ℕ → State
with_char s c = record s { text = s.text ++ encode_utf8 c }

abbrev pub with_fixed : State → State
with_fixed s = record s { parts = s.parts ++ fixed_part s.text; text = [] }

abbrev pub with_hole : State → State
with_hole s = if bytes_eq s.text [] then at_place s Broken else record { parts = s.parts ++ part.Hole s.text ∷ []; text = []; place = Fixed }

abbrev pub step_fixed : State → ℕ → State
step_fixed s c =
    if c == 92 then at_place s EscapedFixed
    else if c == 123 then at_place (with_fixed s) Hole
    else if c == 125 then at_place s Broken
    else with_char s c

abbrev pub step_hole : State → ℕ → State
step_hole s c =
    if c == 92 then at_place s EscapedHole
    else if c == 123 then at_place s Broken
    else if c == 125 then with_hole s
    else with_char s c

abbrev pub step_escaped : State → ℕ → Place → State
step_escaped s c back = if is_special c then at_place (with_char s c) back else at_place s Broken

abbrev pub step_at : Place → State → ℕ → State
step_at Fixed s c = step_fixed s c
step_at Hole s c = step_hole s c
step_at EscapedFixed s c = step_escaped s c Fixed
step_at EscapedHole s c = step_escaped s c Hole
step_at Broken s c = s

abbrev pub step : State → ℕ → State
step s c = step_at s.place s c

abbrev pub finished_at : Place → State → Option (List Part)
finished_at Fixed s = Some (s.parts ++ fixed_part s.text)
finished_at Hole s = None
finished_at EscapedFixed s = None
finished_at EscapedHole s = None
finished_at Broken s = None

abbrev pub finished : State → Option (List Part)
finished s = finished_at s.place s
