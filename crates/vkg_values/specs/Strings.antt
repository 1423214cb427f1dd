-- The functions on strings, SPARQL 1.1 Query, 17.4.3; none is an error.
use Rattle.std.specs.Prelude.{ℕ, ◌^◌, Bool, true, false, ◌||◌, List, [], ◌∷◌, Option, Some, None, chars, codes, decimal, length, nat_eq, nat_lt, if◌then◌else◌}
use Rattle.std.specs.Bool.{then_some}
use Rattle.std.specs.List.{starts_with}
use Rattle.std.specs.Str.{bytes_eq}
use Rattle.vkg_terms.specs.declared.term.Annotation.{Annotation}
use Rattle.vkg_terms.specs.declared.term.Annotation.TheVariants.{Plain, Lang, Typed}
use Rattle.vkg_terms.specs.declared.term.Term.{Term}
use Rattle.vkg_terms.specs.declared.term.Term.TheVariants.{Lit}
use Rattle.vkg_terms.specs.Vocabulary.{xsd}

-- 17.4.3.1.1: a string is a plain literal, as each of xsd:string is here, or one with a language tag
abbrev pub is_string : Annotation → Bool
is_string Plain = true
is_string (Lang tag) = true
is_string (Typed datatype) = false

-- 17.4.3.1.2: the second string is plain, or both have one tag
abbrev pub are_compatible : Annotation → Annotation → Bool
are_compatible Plain Plain = true
are_compatible (Lang tag) Plain = true
are_compatible (Lang tag) (Lang other) = bytes_eq tag other
are_compatible a b = false

-- a test of the texts of two strings that are compatible
abbrev pub on_strings : (List ℕ → List ℕ → Bool) → Term → Term → Option Bool
on_strings f (Lit text a) (Lit part b) = then_some (are_compatible a b) (f text part)
on_strings f s t = None

-- the part stands somewhere in the text; in UTF-8 no character begins within another, so bytes tell what characters tell
abbrev pub has_part : List ℕ → List ℕ → Bool
has_part [] part = starts_with nat_eq [] part
has_part (b ∷ bs) part = starts_with nat_eq (b ∷ bs) part || has_part bs part

-- a limit of this project: a number has at most 38 digits
abbrev pub count_term : ℕ → Option Term
count_term n = then_some (nat_lt n (10 ^ 38)) (Lit (decimal n) (Typed (xsd (codes "integer"))))

-- 17.4.3.2, STRLEN: how many characters (code points) a string has, an xsd:integer
abbrev pub length_of : Term → Option Term
length_of (Lit text annotation) = if is_string annotation then count_term (length (chars text)) else None
length_of t = None
