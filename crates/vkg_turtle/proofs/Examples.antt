-- The definitions at examples.
use Rattle.std.specs.Prelude.{◌≡◌, refl, ℕ, List, [], ◌∷◌, fold, codes, Some}
use Rattle.vkg_terms.specs.declared.term.Term.{Term}
use Rattle.vkg_terms.specs.declared.term.Term.TheVariants.{Iri, Blank, Lit}
use Rattle.vkg_terms.specs.declared.term.Annotation.TheVariants.{Lang}
use Rattle.vkg_terms.specs.Vocabulary.{rdf_type}
use Rattle.vkg_turtle.specs.declared.document.Document.{Document}
use Rattle.vkg_turtle.specs.declared.escape.Escape.TheVariants.{Outside}
use Rattle.vkg_turtle.specs.declared.lexeme.Word.{Word}
use Rattle.vkg_turtle.specs.declared.lexeme.Word.TheVariants.{Sign, Reference, Name, Label, Quoted, Tag, IsA}
use Rattle.vkg_turtle.specs.declared.role.Role.{Role}
use Rattle.vkg_turtle.specs.declared.role.Role.TheVariants as role
use Rattle.vkg_turtle.specs.declared.triple.Triple.{Triple}
use Rattle.vkg_turtle.specs.Document.{act, begun, declared, namespace, node_at, with_triple}
use Rattle.vkg_turtle.specs.Escapes.{unescaped}
use Rattle.vkg_turtle.specs.Words.{between, inside, quotes}

-- `a\tb`, `\u00e9`, `\"`
tab_row : unescaped Outside (codes "a\\tb") ≡ 97 ∷ 9 ∷ 98 ∷ []
tab_row = refl

number_row : unescaped Outside (codes "\\u00e9-\\U0001F600") ≡ 0xE9 ∷ 45 ∷ 0x1F600 ∷ []
number_row = refl

quote_row : unescaped Outside (codes "\\\"\\\\") ≡ codes "\"\\"
quote_row = refl

-- `é` is two bytes: nothing begins or ends within it
between_1 : between (195 ∷ 169 ∷ codes "b") 0 2 ≡ 195 ∷ 169 ∷ []
between_1 = refl

between_2 : between (195 ∷ 169 ∷ codes "b") 1 3 ≡ []
between_2 = refl

inside_row : inside (codes "<a>") 1 1 ≡ codes "a"
inside_row = refl

quotes_1 : quotes (codes "\"\"\"x\"\"\"") ≡ 3
quotes_1 = refl

quotes_2 : quotes (codes "''") ≡ 1
quotes_2 = refl

-- a prefix named again takes the last
again : namespace (codes "a") (declared (codes "a") (codes "y:") (declared (codes "b") (codes "z:") (declared (codes "a") (codes "x:") []))) ≡ Some (codes "y:")
again = refl

-- what tokens with these meanings make of the state
after : List (Role × Word × ℕ) → Document
after tokens = fold (λ d t. act t.0 (record { word = t.1; at = t.2 }) d) (begun (codes "http://e/b")) tokens

triple : Term → Term → Term → ℕ → Triple
triple subject predicate object at = record { subject = subject; predicate = predicate; object = object; at = at }

-- _:x a [ a _:y ], _:z .
brackets : (after ((role.Subject, Label (codes "x"), 0) ∷ (role.Verb, IsA, 4) ∷ (role.OpenObject, Sign, 6) ∷ (role.Verb, IsA, 8) ∷ (role.Object, Label (codes "y"), 10)
    ∷ (role.CloseObject, Sign, 14) ∷ (role.Object, Label (codes "z"), 17) ∷ [])).triples
    ≡ triple (Blank (codes "x")) (Iri rdf_type) (node_at 6) 6 ∷ triple (node_at 6) (Iri rdf_type) (Blank (codes "y")) 10 ∷ triple (Blank (codes "x")) (Iri rdf_type) (Blank (codes "z")) 17 ∷ []
unfolding after triple
brackets = refl

-- <#s> a "v"@en .
tagged : (after ((role.Subject, Reference (codes "#s"), 0) ∷ (role.Verb, IsA, 5) ∷ (role.Object, Quoted (codes "v"), 7) ∷ (role.Language, Tag (codes "en"), 10) ∷ [])).triples
    ≡ triple (Iri (codes "http://e/b#s")) (Iri rdf_type) (Lit (codes "v") (Lang (codes "en"))) 7 ∷ []
unfolding after triple
tagged = refl

-- <a b> a p:q . the reference is not absolute, the prefix is not declared
noted : (after ((role.Subject, Reference (codes "a b"), 0) ∷ (role.Verb, IsA, 6) ∷ (role.Object, Name (codes "p") (codes "q"), 8) ∷ [])).unknown ≡ Some 8
unfolding after
noted = refl

noted_too : (after ((role.Subject, Reference (codes "a b"), 0) ∷ (role.Verb, IsA, 6) ∷ (role.Object, Name (codes "p") (codes "q"), 8) ∷ [])).relative ≡ Some 0
unfolding after
noted_too = refl

-- a repeated triple stands once, where it first stands
once : fold with_triple [] (triple (Blank (codes "x")) (Iri rdf_type) (Blank (codes "y")) 3 ∷ triple (Blank (codes "x")) (Iri rdf_type) (Blank (codes "y")) 9 ∷ [])
    ≡ triple (Blank (codes "x")) (Iri rdf_type) (Blank (codes "y")) 3 ∷ []
unfolding triple
once = refl
