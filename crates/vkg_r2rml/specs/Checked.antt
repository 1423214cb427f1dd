-- What checks make of a part of a mapping: its value, or the number of the least check that fails.
use Rattle.std.specs.Prelude.{ℕ, min, List, [], ◌∷◌, filter_map, Result, Ok, Err}
use Rattle.std.specs.Result.{result_ok, result_err, result_map_both}
use Rattle.vkg_lists.specs.Results.{unless}
use Rattle.vkg_lists.specs.Places.{least_of}
use Rattle.vkg_terms.specs.declared.term.Term.{Term}
use Rattle.vkg_terms.specs.declared.term.Term.TheVariants.{Lit}
use Rattle.vkg_term_maps.specs.declared.error.TermMapFault.{TermMapFault}
use Rattle.vkg_term_maps.specs.Checks.{check_of}

abbrev pub Checked : Type 0 → Type 0
Checked A = Result A ℕ

-- two parts whose checks do not need each other
abbrev pub both : {A B : Type 0} → Checked A → Checked B → Checked (A × B)
both (Ok a) (Ok b) = Ok (a, b)
both (Ok a) (Err d) = Err d
both (Err c) (Ok b) = Err c
both (Err c) (Err d) = Err (min c d)

-- any number of such parts
abbrev pub all_of : {A : Type 0} → List (Checked A) → Checked (List A)
all_of parts = unless (least_of result_err parts) (Ok (filter_map result_ok parts))

-- a part whose checks need an earlier one: they are not asked where that failed
abbrev pub and_then : {A B : Type 0} → Checked A → (A → Checked B) → Checked B
and_then (Ok a) next = next a
and_then (Err check) next = Err check

abbrev pub exactly_one : {A : Type 0} → ℕ → List A → Checked A
exactly_one check (x ∷ []) = Ok x
exactly_one check xs = Err check

abbrev pub at_least_one : {A : Type 0} → ℕ → List A → Checked (List A)
at_least_one check [] = Err check
at_least_one check (x ∷ xs) = Ok (x ∷ xs)

abbrev pub none_of : {A : Type 0} → ℕ → List A → Checked (List A)
none_of check [] = Ok []
none_of check (x ∷ xs) = Err check

-- an IRI or a blank node, which may have properties
abbrev pub resource : ℕ → Term → Checked Term
resource check (Lit text annotation) = Err check
resource check t = Ok t

-- the checks of a term map, by their numbers
abbrev pub numbered : {A : Type 0} → Result A TermMapFault → Checked A
numbered r = result_map_both (λ a. a) check_of r
