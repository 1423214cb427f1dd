-- The definitions at examples.
use Rattle.std.specs.Prelude.{◌≡◌, refl, codes, true, false, None, Some, [], ◌∷◌, List, ℕ, Option}
use Rattle.std.specs.declared.cmp.Ordering.TheVariants.{Less, Equal}
use Rattle.vkg_terms.specs.declared.term.Term.{Term}
use Rattle.vkg_terms.specs.declared.term.Term.TheVariants.{Iri, Blank, Lit}
use Rattle.vkg_terms.specs.declared.term.Annotation.TheVariants.{Plain, Typed}
use Rattle.vkg_terms.specs.Vocabulary.{xsd}
use Rattle.vkg_order.specs.declared.modifiers.Direction.TheVariants.{Ascending, Descending}
use Rattle.vkg_order.specs.declared.modifiers.Modifiers.{Modifiers}
use Rattle.vkg_order.specs.Entries.{Entry}
use Rattle.vkg_order.specs.Listed.{listed}
use Rattle.vkg_order.specs.Values.{value_cmp}

integer : List ℕ → Option Term
integer text = Some (Lit text (Typed (xsd (codes "integer"))))

plain : List ℕ → Option Term
plain text = Some (Lit text Plain)

iri : List ℕ → Option Term
iri text = Some (Iri text)

v1 : value_cmp None (Some (Blank (codes "b"))) ≡ Less
unfolding value_cmp
v1 = refl

v2 : value_cmp (Some (Blank (codes "b"))) (iri (codes "a")) ≡ Less
unfolding value_cmp iri
v2 = refl

v3 : value_cmp (iri (codes "z")) (integer (codes "1")) ≡ Less
unfolding value_cmp iri integer
v3 = refl

v4 : value_cmp (integer (codes "9")) (integer (codes "10")) ≡ Less
unfolding value_cmp integer
v4 = refl

v5 : value_cmp (integer (codes "07")) (Some (Lit (codes "7.0") (Typed (xsd (codes "decimal"))))) ≡ Equal
unfolding value_cmp integer
v5 = refl

v6 : value_cmp (integer (codes "10")) (plain (codes "10")) ≡ Less
unfolding value_cmp integer plain
v6 = refl

v7 : value_cmp (plain (codes "x")) (Some (Lit (codes "0") (Typed (xsd (codes "boolean"))))) ≡ Less
unfolding value_cmp plain
v7 = refl

-- the small company's names: Ann of employee 7, Bo of 8, Ann of 9
entry : List ℕ → List ℕ → Entry
entry name employee = record { keys = plain name ∷ iri employee ∷ []; line = name }

company : List Entry
company = entry (codes "Ann") (codes "7") ∷ entry (codes "Bo") (codes "8") ∷ entry (codes "Ann") (codes "9") ∷ []

asked : Option ℕ → ℕ → Modifiers
asked limit offset = record { directions = Descending ∷ Ascending ∷ []; distinct = false; slice = record { offset = offset; limit = limit } }

l1 : listed (asked (Some 2) 0) company ≡ codes "Bo" ∷ codes "Ann" ∷ []
unfolding listed value_cmp company entry asked plain iri
l1 = refl

l2 : listed (asked (Some 1) 1) company ≡ codes "Ann" ∷ []
unfolding listed value_cmp company entry asked plain iri
l2 = refl

l3 : listed (asked (Some 0) 0) company ≡ []
unfolding listed value_cmp company entry asked plain iri
l3 = refl

l4 : listed (asked None 3) company ≡ []
unfolding listed value_cmp company entry asked plain iri
l4 = refl

-- by the employee, from the greatest down, each name once
by_employee : List ℕ → List ℕ → Entry
by_employee name employee = record { keys = iri employee ∷ []; line = name }

l5 : listed (record { directions = Descending ∷ []; distinct = true; slice = record { offset = 0; limit = None } })
    (by_employee (codes "Ann") (codes "7") ∷ by_employee (codes "Bo") (codes "8") ∷ by_employee (codes "Ann") (codes "9") ∷ []) ≡ codes "Ann" ∷ codes "Bo" ∷ []
unfolding listed value_cmp by_employee iri
l5 = refl
