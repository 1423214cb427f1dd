-- Triples are found by the texts of their subjects.
use Rattle.std.proofs.Common.{◌≡◌, ℕ, suc, ◌+◌, ◌<◌, refl, sym, ◌∙◌, ap, List, [], ◌∷◌, ◌++◌, drop, length, get_or, Bool, true, false, Option, Some, None, arith, append_assoc}
use Rattle.std.specs.Prelude.{◌&&◌, filter_map, slice_get, if◌then◌else◌, option_and_then}
use Rattle.std.specs.List.{cons_option, enumerate_from}
use Rattle.std.specs.Str.{bytes_eq}
use Rattle.std.proofs.lemmas.Bool.{and_left}
use Rattle.vkg_lists.proofs.Firsts.{opened}
use Rattle.vkg_terms.specs.declared.term.Term.{Term}
use Rattle.vkg_terms.specs.declared.term.Term.TheVariants.{Iri, Blank, Lit}
use Rattle.vkg_terms.specs.Same.{term_eq, term_name, annotation_eq}
use Rattle.vkg_turtle.specs.declared.triple.Triple.{Triple}
use Rattle.vkg_term_maps.specs.declared.place.Role.{Role}
use Rattle.vkg_term_maps.specs.Graph.{object_if, objects, place_if, place_of, places}
use Rattle.vkg_term_maps.specs.Index.{numbers_named, given_at}

-- ---- one more triple in the index

one_more : (b : Bool) (i : ℕ) (g rest : List ℕ) → (g ++ (if b then i ∷ [] else [])) ++ rest ≡ g ++ cons_option (if b then Some i else None) rest
one_more true i g rest = append_assoc g (i ∷ []) rest
one_more false i g rest = append_assoc g [] rest

pub numbers_more : (xs : List Triple) (i : ℕ) (x : Triple) (q : List ℕ) (g g' all : List ℕ) → i < length xs → x ≡ get_or xs i x → g' ≡ g ++ (if bytes_eq q (term_name x.subject) then i ∷ [] else []) → g ++ numbers_named q (enumerate_from i (drop i xs)) ≡ all → g' ++ numbers_named q (enumerate_from (i + 1) (drop (i + 1) xs)) ≡ all
numbers_more xs i x q g g' all h e n was =
    let rest = numbers_named q (enumerate_from (i + 1) (drop (i + 1) xs)) in
    ap (λ g. g ++ rest) n
    ∙ (one_more (bytes_eq q (term_name x.subject)) i g rest
    ∙ (ap (λ ys. g ++ numbers_named q (enumerate_from i ys)) (sym (opened xs i x h e)) ∙ was))

-- ---- what the triples under a text give

-- a triple gives nothing where its subject has another text
record GivesByName {A : Type 0} (name : List ℕ) (f : Triple → Option A) : Type 0 where
  other : (t : Triple) → bytes_eq name (term_name t.subject) ≡ false → f t ≡ None

looked_up_from : {A : Type 0} (name : List ℕ) (f : Triple → Option A) → GivesByName name f → (all : List Triple) (k : ℕ) (ts : List Triple) → ((i : ℕ) → slice_get all (k + i) ≡ slice_get ts i) → filter_map (given_at f all) (numbers_named name (enumerate_from k ts)) ≡ filter_map f ts
looked_up_from name f by all k [] at = refl
looked_up_from {A} name f by all k (t ∷ ts) at = split (bytes_eq name (term_name t.subject)) refl
    (looked_up_from name f by all (k + 1) ts (λ i. let e : (k + 1) + i ≡ k + suc i = omega arith in ap (λ j. slice_get all j) e ∙ at (suc i)))
  where
    here : slice_get all k ≡ Some t
    here = let e : k ≡ k + 0 = omega arith in ap (λ j. slice_get all j) e ∙ at 0

    split : (b : Bool) → bytes_eq name (term_name t.subject) ≡ b → filter_map (given_at f all) (numbers_named name (enumerate_from (k + 1) ts)) ≡ filter_map f ts → filter_map (given_at f all) (cons_option (if bytes_eq name (term_name t.subject) then Some k else None) (numbers_named name (enumerate_from (k + 1) ts))) ≡ filter_map f (t ∷ ts)
    split true e r =
        ap (λ b. filter_map (given_at f all) (cons_option (if b then Some k else None) (numbers_named name (enumerate_from (k + 1) ts)))) e
        ∙ (ap (λ o. cons_option (option_and_then f o) (filter_map (given_at f all) (numbers_named name (enumerate_from (k + 1) ts)))) here
        ∙ ap (λ r. cons_option (f t) r) r)
    split false e r =
        ap (λ b. filter_map (given_at f all) (cons_option (if b then Some k else None) (numbers_named name (enumerate_from (k + 1) ts)))) e
        ∙ (r ∙ ap (λ o. cons_option o (filter_map f ts)) (sym (by.other t e)))

-- ---- one term has one text

other_text : (s t : Term) → bytes_eq (term_name s) (term_name t) ≡ false → term_eq s t ≡ false
other_text (Iri a) (Iri b) e = e
other_text (Iri a) (Blank b) e = refl
other_text (Iri a) (Lit b y) e = refl
other_text (Blank a) (Iri b) e = refl
other_text (Blank a) (Blank b) e = e
other_text (Blank a) (Lit b y) e = refl
other_text (Lit a x) (Iri b) e = refl
other_text (Lit a x) (Blank b) e = refl
other_text (Lit a x) (Lit b y) e = and_left (bytes_eq a b) (annotation_eq x y) e

pub objects_found : (triples : List Triple) (node : Term) (property : List ℕ) → filter_map (given_at (object_if node property) triples) (numbers_named (term_name node) (enumerate_from 0 triples)) ≡ objects triples node property
objects_found triples node property = looked_up_from (term_name node) (object_if node property) by triples 0 triples (λ i. let e : 0 + i ≡ i = omega arith in ap (λ j. slice_get triples j) e)
  where
    by : GivesByName (term_name node) (object_if node property)
    by = record { other = λ t e. ap (λ b. if b && term_eq t.predicate (Iri property) then Some t.object else None) (other_text node t.subject e) }

pub places_found : (triples : List Triple) (node : Term) (role : Role) → filter_map (given_at (place_if node role) triples) (numbers_named (term_name node) (enumerate_from 0 triples)) ≡ places triples node role
places_found triples node role = looked_up_from (term_name node) (place_if node role) by triples 0 triples (λ i. let e : 0 + i ≡ i = omega arith in ap (λ j. slice_get triples j) e)
  where
    by : GivesByName (term_name node) (place_if node role)
    by = record { other = λ t e. ap (λ b. if b then place_of role t else None) (other_text node t.subject e) }
