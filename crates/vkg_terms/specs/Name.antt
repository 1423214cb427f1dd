-- Which texts name a table or a column.
use Rattle.std.specs.Prelude.{ℕ, Bool, true, false, ◌&&◌, List, [], ◌∷◌, ◌++◌, flat_map, if◌then◌else◌, ◌==◌, Option, Some, None, ◌≡◌, ◌≢◌}
use Rattle.std.specs.List.{list_all}
use Rattle.vkg_terms.specs.TemplateParts.{template_of}
use Rattle.vkg_terms.specs.TemplateText.{Reads}
use Rattle.vkg_terms.specs.declared.template.Part.{Part}
use Rattle.vkg_terms.specs.declared.template.Part.TheVariants.{Fixed, Hole}

-- SQL-92, 5.2, delimited identifier: a quote (34) within is doubled
abbrev pub doubled : ℕ → List ℕ
doubled b = if b == 34 then 34 ∷ 34 ∷ [] else b ∷ []

-- a name between quotes, behind the first of them
abbrev pub quoted : List ℕ → List ℕ
quoted name = flat_map doubled name ++ 34 ∷ []

-- the text is a delimited identifier, behind its first quote
abbrev pub IsDelimited : List ℕ → Type 0
IsDelimited text = (name : List ℕ) × (name ≢ []) × (text ≡ quoted name)

-- the same, octet by octet, where some of the name may stand before
abbrev pub closes : Bool → List ℕ → Bool
closes some [] = false
closes some (b ∷ []) = (b == 34) && some
closes some (b ∷ c ∷ bs) = if b == 34 then (c == 34) && closes true bs else closes true (c ∷ bs)

-- R2RML, 5, SQL identifier: what begins with a quote is a whole delimited identifier; own: every other text that is not empty is a name
abbrev pub is_name : List ℕ → Bool
is_name [] = false
is_name (b ∷ bs) = if b == 34 then closes false bs else true

-- a hole holds a name
abbrev pub is_named : Part → Bool
is_named (Fixed text) = true
is_named (Hole name) = is_name name

abbrev pub is_all_named : List Part → Bool
is_all_named parts = list_all is_named parts

abbrev pub if_named : Option (List Part) → Option (List Part)
if_named None = None
if_named (Some parts) = if is_all_named parts then Some parts else None

-- the template of a text, or none where its braces, its escapes or a hole are bad
abbrev pub template_read : List ℕ → Option (List Part)
template_read text = if_named (template_of text)

-- the text is written as these parts are, and each hole holds a name
pub record IsTemplateOf (text : List ℕ) (parts : List Part) : Type 0 where
  pub reads : Reads text parts
  pub named : is_all_named parts ≡ true

-- whatever the text is written as, some hole holds no name
abbrev pub IsNoTemplate : List ℕ → Type 0
IsNoTemplate text = (parts : List Part) → Reads text parts → is_all_named parts ≡ false
