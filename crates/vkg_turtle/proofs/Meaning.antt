-- One note of a derivation more.
use Rattle.vkg_grammar.specs.declared.note.Note.{Note}
use Rattle.std.proofs.Common.{◌≡◌, ℕ, ◌+◌, ◌<◌, ◌≤◌, Bool, true, false, cond, List, [], ◌∷◌, length, get_or, drop, ap, sym, ◌∙◌, arith}
use Rattle.std.proofs.lemmas.List.{at_drop_more, at_drop_all}
use Rattle.vkg_turtle.specs.declared.document.Document.{Document}
use Rattle.vkg_turtle.specs.declared.lexeme.Lexeme.{Lexeme}
use Rattle.vkg_turtle.specs.declared.role.Role.{Role}
use Rattle.vkg_turtle.specs.Document.{act, role_of, is_choice, document_of, with_token}

note_first : (n : Note) (ns : List Note) (xs : List Lexeme) (state : Document) (is_so : Bool) → is_choice (role_of n.symbol) ≡ is_so → document_of (n ∷ ns) xs state ≡ cond is_so (document_of ns xs state) (with_token (role_of n.symbol) xs state (λ ys next. document_of ns ys next))
unfolding document_of
note_first n ns xs state is_so e = ap (λ b. cond b (document_of ns xs state) (with_token (role_of n.symbol) xs state (λ ys next. document_of ns ys next))) e

module _ (notes : List Note) (i : ℕ) (d : Note) (r : Role) (h : i < length notes) (e : r ≡ role_of (get_or notes i d).symbol) where
  here : (xs : List Lexeme) (state : Document) (is_so : Bool) → is_so ≡ is_choice r → document_of (drop i notes) xs state ≡ cond is_so (document_of (drop (i + 1) notes) xs state) (with_token r xs state (λ ys next. document_of (drop (i + 1) notes) ys next))
  here xs state is_so q =
      at_drop_more (λ ns. document_of ns xs state) notes i d h
      ∙ note_first (get_or notes i d) (drop (i + 1) notes) xs state is_so (ap is_choice (sym e) ∙ sym q)
      ∙ ap (λ y. cond is_so (document_of (drop (i + 1) notes) xs state) (with_token y xs state (λ ys next. document_of (drop (i + 1) notes) ys next))) (sym e)

  pub past_choice : (xs : List Lexeme) (state all : Document) → true ≡ is_choice r → document_of (drop i notes) xs state ≡ all → document_of (drop (i + 1) notes) xs state ≡ all
  past_choice xs state all q inv = sym (here xs state true q) ∙ inv

  pub past_token : (xs ys : List Lexeme) (x : Lexeme) (state next all : Document) → false ≡ is_choice r → xs ≡ x ∷ ys → next ≡ act r x state → document_of (drop i notes) xs state ≡ all → document_of (drop (i + 1) notes) ys next ≡ all
  past_token xs ys x state next all q f n inv =
      ap (document_of (drop (i + 1) notes) ys) n
      ∙ sym (ap (λ y. with_token r y state (λ ys next. document_of (drop (i + 1) notes) ys next)) f)
      ∙ sym (here xs state false q) ∙ inv

  pub out_of_tokens : (xs : List Lexeme) (state all : Document) → false ≡ is_choice r → length xs ≡ 0 → document_of (drop i notes) xs state ≡ all → state ≡ all
  out_of_tokens [] state all q z inv = sym (here [] state false q) ∙ inv
  out_of_tokens (x ∷ xs) state all q z inv = absurd (omega arith)

pub all_noted : (notes : List Note) (i : ℕ) (xs : List Lexeme) (state all : Document) → length notes ≤ i → document_of (drop i notes) xs state ≡ all → state ≡ all
unfolding document_of
all_noted notes i xs state all h inv = sym (at_drop_all (λ ns. document_of ns xs state) notes i h) ∙ inv
