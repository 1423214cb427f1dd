-- `term_eq` tells two terms apart.
use Rattle.std.proofs.Common.{◌≡◌, ◌∙◌, refl, sym, ap, true, ◌&&◌}
use Rattle.std.specs.Bool.{Decides}
use Rattle.std.specs.Cmp.{first_so, second_so}
use Rattle.std.specs.Str.{bytes_eq}
use Rattle.vkg_lists.specs.Sets.{IsEqualityTest}
use Rattle.vkg_lists.proofs.Counts.{eq_itself, eq_same}
use Rattle.vkg_lists.proofs.Texts.{bytes_test}
use Rattle.vkg_terms.specs.declared.term.Term.{Term}
use Rattle.vkg_terms.specs.declared.term.Term.TheVariants.{Iri, Blank, Lit}
use Rattle.vkg_terms.specs.declared.term.Annotation.{Annotation}
use Rattle.vkg_terms.specs.declared.term.Annotation.TheVariants.{Plain, Lang, Typed}
use Rattle.vkg_terms.specs.Same.{annotation_eq, term_eq}

pub same_annotation : (a b : Annotation) → annotation_eq a b ≡ true → a ≡ b
same_annotation Plain Plain e = refl
same_annotation Plain (Lang b) e = cc
same_annotation Plain (Typed b) e = cc
same_annotation (Lang a) Plain e = cc
same_annotation (Lang a) (Lang b) e = ap Lang (eq_same bytes_test a b e)
same_annotation (Lang a) (Typed b) e = cc
same_annotation (Typed a) Plain e = cc
same_annotation (Typed a) (Lang b) e = cc
same_annotation (Typed a) (Typed b) e = ap Typed (eq_same bytes_test a b e)

pub annotation_itself : (a : Annotation) → annotation_eq a a ≡ true
annotation_itself Plain = refl
annotation_itself (Lang a) = eq_itself bytes_test a
annotation_itself (Typed a) = eq_itself bytes_test a

same_term : (s t : Term) → term_eq s t ≡ true → s ≡ t
same_term (Iri a) (Iri b) e = ap Iri (eq_same bytes_test a b e)
same_term (Iri a) (Blank b) e = cc
same_term (Iri a) (Lit b y) e = cc
same_term (Blank a) (Iri b) e = cc
same_term (Blank a) (Blank b) e = ap Blank (eq_same bytes_test a b e)
same_term (Blank a) (Lit b y) e = cc
same_term (Lit a x) (Iri b) e = cc
same_term (Lit a x) (Blank b) e = cc
same_term (Lit a x) (Lit b y) e =
    ap (λ text. Lit text x) (eq_same bytes_test a b (first_so (bytes_eq a b) (annotation_eq x y) e))
    ∙ ap (Lit b) (same_annotation x y (second_so (bytes_eq a b) (annotation_eq x y) e))

pub term_itself : (t : Term) → term_eq t t ≡ true
term_itself (Iri a) = eq_itself bytes_test a
term_itself (Blank a) = eq_itself bytes_test a
term_itself (Lit a x) = λ i. eq_itself bytes_test a i && annotation_itself x i

-- the test of terms decides whether they are one
pub term_decides : (s t : Term) → Decides (term_eq s t) (s ≡ t)
term_decides s t = (same_term s t, λ e. ap (λ u. term_eq s u) (sym e) ∙ term_itself s)

pub terms_apart : IsEqualityTest term_eq
terms_apart = record { decides = term_decides }
