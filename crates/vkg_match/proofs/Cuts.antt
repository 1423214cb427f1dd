-- A cut text is the text of its pieces, and no part of it holds a break.
use Rattle.std.proofs.Common.{◌≡◌, ℕ, refl, sym, ap, subst, ◌∙◌, List, [], ◌∷◌, ◌++◌, true, false, cond, map, append-nil}
use Rattle.std.specs.Prelude.{Some, fold, chars}
use Rattle.std.specs.List.{AllByRecursion}
use Rattle.std.specs.Str.{NoCharPasses}
use Rattle.std.proofs.lemmas.List.{map_push}
use Rattle.std.proofs.lemmas.Str.{encodes-chars, NoCharPasses-append, NoCharPasses-nil}
use Rattle.vkg_lists.specs.Options.{joined}
use Rattle.vkg_lists.proofs.Members.{recursion_push, recursion_append}
use Rattle.vkg_lists.proofs.Onto.{joined_assoc, joined_each, joined_nil, nil_joined}
use lib.Utf8.{encode, encodes}
use Rattle.vkg_cells.specs.declared.cell.SqlType.{SqlType}
use Rattle.vkg_schema.specs.Rows.{Row}
use Rattle.vkg_expr.specs.declared.term_expr.Sort.{Sort}
use Rattle.vkg_expr.specs.declared.term_expr.Sort.TheVariants.{OfIri, OfBlank, OfLit}
use Rattle.vkg_expr.specs.declared.term_expr.Piece.{Piece}
use Rattle.vkg_expr.specs.declared.term_expr.Piece.TheVariants.{Chars, Hole}
use Rattle.vkg_expr.proofs.TermValues.{Text, piece_text, pieces_text}
use Rattle.vkg_match.specs.declared.cut.Segment.{Segment}
use Rattle.vkg_match.specs.Cut.{Cut, cut_at, cut_character, cut_piece, cut_pieces, is_break, last_pieces, text_pieces, uncut, with_character}
use Rattle.vkg_match.specs.Laws.{IsTextPiece}
use Rattle.vkg_match.proofs.Splits.{Clear, whole}

whole-append : (xs : List (Text × ℕ)) (o : Text) (c : ℕ) (l : Text) → whole (xs ++ (o, c) ∷ []) l ≡ joined (whole xs o) (joined (Some (encode c)) l)
whole-append [] o c l = refl
whole-append (x ∷ xs) o c l =
    ap (λ w. joined x.0 (joined (Some (encode x.1)) w)) (whole-append xs o c l)
    ∙ ap (joined x.0) (sym (joined_assoc (Some (encode x.1)) (whole xs o) (joined (Some (encode c)) l)))
    ∙ sym (joined_assoc x.0 (joined (Some (encode x.1)) (whole xs o)) (joined (Some (encode c)) l))

whole-last : (xs : List (Text × ℕ)) (l m : Text) → whole xs (joined l m) ≡ joined (whole xs l) m
whole-last [] l m = refl
whole-last (x ∷ xs) l m =
    ap (λ w. joined x.0 (joined (Some (encode x.1)) w)) (whole-last xs l m)
    ∙ ap (joined x.0) (sym (joined_assoc (Some (encode x.1)) (whole xs l) m))
    ∙ sym (joined_assoc x.0 (joined (Some (encode x.1)) (whole xs l)) m)

module _ (sort : Sort) (row : Row) where
  pieces_text-append : (ps qs : List Piece) → pieces_text sort row (ps ++ qs) ≡ joined (pieces_text sort row ps) (pieces_text sort row qs)
  pieces_text-append [] qs = sym (nil_joined (pieces_text sort row qs))
  pieces_text-append (p ∷ ps) qs =
      ap (joined (piece_text sort row p)) (pieces_text-append ps qs)
      ∙ sym (joined_assoc (piece_text sort row p) (pieces_text sort row ps) (pieces_text sort row qs))

  pub chars_text : (s : List ℕ) → piece_text sort row (Chars s) ≡ Some s
  chars_text s = elim sort as (λ t. piece_text t row (Chars s) ≡ Some s) [ OfIri ↦ refl | OfBlank ↦ refl | OfLit a ↦ refl ]

  text_pieces_text : (s : List ℕ) → pieces_text sort row (text_pieces s) ≡ Some s
  text_pieces_text [] = refl
  text_pieces_text (b ∷ bs) = joined_nil (piece_text sort row (Chars (b ∷ bs))) ∙ chars_text (b ∷ bs)

  last_text : (cut : Cut) → pieces_text sort row (last_pieces cut) ≡ joined (pieces_text sort row cut.pieces) (Some cut.text)
  last_text cut = pieces_text-append cut.pieces (text_pieces cut.text) ∙ ap (joined (pieces_text sort row cut.pieces)) (text_pieces_text cut.text)

  -- a segment as a part
  abbrev pub part : Segment → Text × ℕ
  part m = (pieces_text sort row m.pieces, m.mark)

  abbrev pub parts : Cut → List (Text × ℕ)
  parts cut = map part cut.done

  abbrev pub last : Cut → Text
  last cut = pieces_text sort row (last_pieces cut)

  abbrev pub whole_text : Cut → Text
  whole_text cut = whole (parts cut) (last cut)

  at_text : (cut : Cut) (c : ℕ) → whole_text (cut_at cut c) ≡ joined (whole_text cut) (Some (encode c))
  at_text cut c =
      ap (λ xs. whole xs (Some [])) (map_push part cut.done (record { pieces = last_pieces cut; mark = c }))
      ∙ whole-append (parts cut) (last cut) c (Some [])
      ∙ ap (joined (whole_text cut)) (joined_nil (Some (encode c)))

  character_text : (cut : Cut) (c : ℕ) → whole_text (with_character cut c) ≡ joined (whole_text cut) (Some (encode c))
  character_text cut c =
      ap (whole (parts cut)) (last_text (with_character cut c) ∙ sym (joined_assoc (pieces_text sort row cut.pieces) (Some cut.text) (Some (encode c))) ∙ ap (λ l. joined l (Some (encode c))) (sym (last_text cut)))
      ∙ whole-last (parts cut) (last cut) (Some (encode c))

  cut_character_text : (cut : Cut) (c : ℕ) → whole_text (cut_character sort cut c) ≡ joined (whole_text cut) (Some (encode c))
  unfolding cut_character
  cut_character_text cut c = elim (is_break sort c) as (λ b. whole_text (cond b (cut_at cut c) (with_character cut c)) ≡ joined (whole_text cut) (Some (encode c))) [
    | true ↦ at_text cut c
    | false ↦ character_text cut c
  ]

  cut_characters_text : (cut : Cut) (cs : List ℕ) → whole_text (fold (cut_character sort) cut cs) ≡ joined (whole_text cut) (Some (encodes cs))
  cut_characters_text cut [] = sym (joined_nil (whole_text cut))
  cut_characters_text cut (c ∷ cs) =
      cut_characters_text (cut_character sort cut c) cs
      ∙ ap (λ w. joined w (Some (encodes cs))) (cut_character_text cut c)
      ∙ joined_assoc (whole_text cut) (Some (encode c)) (Some (encodes cs))

  abbrev pub with_hole : Cut → Piece → Cut
  with_hole cut p = record { done = cut.done; pieces = last_pieces cut ++ p ∷ []; text = [] }

  hole_text : (cut : Cut) (p : Piece) → whole_text (with_hole cut p) ≡ joined (whole_text cut) (piece_text sort row p)
  hole_text cut p =
      ap (whole (parts cut)) (last_text (with_hole cut p) ∙ joined_nil (pieces_text sort row (last_pieces cut ++ p ∷ [])) ∙ pieces_text-append (last_pieces cut) (p ∷ []) ∙ ap (joined (last cut)) (joined_nil (piece_text sort row p)))
      ∙ whole-last (parts cut) (last cut) (piece_text sort row p)

  cut_piece_text : (cut : Cut) (p : Piece) → IsTextPiece p → whole_text (cut_piece sort cut p) ≡ joined (whole_text cut) (piece_text sort row p)
  unfolding cut_piece
  cut_piece_text cut (Chars s) h = cut_characters_text cut (chars s) ∙ ap (joined (whole_text cut)) (ap Some (encodes-chars s h) ∙ sym (chars_text s))
  cut_piece_text cut (Hole at k) h = hole_text cut (Hole at k)

  cut_all_text : (cut : Cut) (ps : List Piece) → AllByRecursion IsTextPiece ps → whole_text (fold (cut_piece sort) cut ps) ≡ joined (whole_text cut) (pieces_text sort row ps)
  cut_all_text cut [] h = sym (joined_nil (whole_text cut))
  cut_all_text cut (p ∷ ps) h =
      cut_all_text (cut_piece sort cut p) ps h.1
      ∙ ap (λ w. joined w (pieces_text sort row ps)) (cut_piece_text cut p h.0)
      ∙ joined_assoc (whole_text cut) (piece_text sort row p) (pieces_text sort row ps)

  -- the cut text is the text
  pub cut_text : (ps : List Piece) → AllByRecursion IsTextPiece ps → whole_text (cut_pieces sort ps) ≡ pieces_text sort row ps
  cut_text ps h = cut_all_text uncut ps h ∙ nil_joined (pieces_text sort row ps)

  -- what holds of a cut: its parts hold no break, breaks stand behind them, and its pieces are as they should be
  module _ (Fine : Piece → Type 0) (constants : (s : List ℕ) → Fine (Chars s)) (clear : (at : ℕ) (k : SqlType) → Fine (Hole at k) → Clear (is_break sort) (piece_text sort row (Hole at k))) where
    abbrev pub IsFineSegment : Segment → Type 0
    IsFineSegment m = (Clear (is_break sort) (pieces_text sort row m.pieces) × (is_break sort m.mark ≡ true)) × AllByRecursion Fine m.pieces

    pub record IsFine (cut : Cut) : Type 0 where
      pub done : AllByRecursion IsFineSegment cut.done
      pub unbroken : Clear (is_break sort) (pieces_text sort row cut.pieces)
      pub pieces : AllByRecursion Fine cut.pieces
      pub text : NoCharPasses (is_break sort) cut.text

    text_fine : (s : List ℕ) → AllByRecursion Fine (text_pieces s)
    text_fine [] = tt
    text_fine (b ∷ bs) = (constants (b ∷ bs), tt)

    pub last_clear : (cut : Cut) → IsFine cut → Clear (is_break sort) (last cut)
    last_clear cut h = subst (Clear (is_break sort)) (sym (last_text cut)) (joined_each (NoCharPasses (is_break sort)) (NoCharPasses-append (is_break sort)) (pieces_text sort row cut.pieces) (Some cut.text) h.unbroken h.text)

    pub last_fine : (cut : Cut) → IsFine cut → AllByRecursion Fine (last_pieces cut)
    last_fine cut h = recursion_append Fine cut.pieces (text_pieces cut.text) h.pieces (text_fine cut.text)

    at_fine : (cut : Cut) (c : ℕ) → IsFine cut → is_break sort c ≡ true → IsFine (cut_at cut c)
    at_fine cut c h b = record {
      done = recursion_push IsFineSegment cut.done (record { pieces = last_pieces cut; mark = c }) h.done ((last_clear cut h, b), last_fine cut h);
      unbroken = NoCharPasses-nil (is_break sort);
      pieces = tt;
      text = NoCharPasses-nil (is_break sort);
    }

    character_fine : (cut : Cut) (c : ℕ) → IsFine cut → is_break sort c ≡ false → IsFine (with_character cut c)
    character_fine cut c h b = record {
      done = h.done;
      unbroken = h.unbroken;
      pieces = h.pieces;
      text = NoCharPasses-append (is_break sort) cut.text (encode c) h.text (c ∷ [], append-nil (encode c), (b, tt));
    }

    cut_character_fine : (cut : Cut) (c : ℕ) → IsFine cut → IsFine (cut_character sort cut c)
    unfolding cut_character
    cut_character_fine cut c h = elim (is_break sort c) as (λ b. is_break sort c ≡ b → IsFine (cond b (cut_at cut c) (with_character cut c))) [
      | true ↦ λ e. at_fine cut c h e
      | false ↦ λ e. character_fine cut c h e
    ] refl

    cut_characters_fine : (cut : Cut) (cs : List ℕ) → IsFine cut → IsFine (fold (cut_character sort) cut cs)
    cut_characters_fine cut [] h = h
    cut_characters_fine cut (c ∷ cs) h = cut_characters_fine (cut_character sort cut c) cs (cut_character_fine cut c h)

    hole_fine : (cut : Cut) (at : ℕ) (k : SqlType) → IsFine cut → Fine (Hole at k) → IsFine (with_hole cut (Hole at k))
    hole_fine cut at k h f = record {
      done = h.done;
      unbroken = subst (Clear (is_break sort)) (sym (pieces_text-append (last_pieces cut) (Hole at k ∷ []) ∙ ap (joined (last cut)) (joined_nil (piece_text sort row (Hole at k))))) (joined_each (NoCharPasses (is_break sort)) (NoCharPasses-append (is_break sort)) (last cut) (piece_text sort row (Hole at k)) (last_clear cut h) (clear at k f));
      pieces = recursion_append Fine (last_pieces cut) (Hole at k ∷ []) (last_fine cut h) (f, tt);
      text = NoCharPasses-nil (is_break sort);
    }

    cut_piece_fine : (cut : Cut) (p : Piece) → IsFine cut → Fine p → IsFine (cut_piece sort cut p)
    unfolding cut_piece
    cut_piece_fine cut (Chars s) h f = cut_characters_fine cut (chars s) h
    cut_piece_fine cut (Hole at k) h f = hole_fine cut at k h f

    cut_all_fine : (cut : Cut) (ps : List Piece) → IsFine cut → AllByRecursion Fine ps → IsFine (fold (cut_piece sort) cut ps)
    cut_all_fine cut [] h f = h
    cut_all_fine cut (p ∷ ps) h f = cut_all_fine (cut_piece sort cut p) ps (cut_piece_fine cut p h f.0) f.1

    pub cut_fine : (ps : List Piece) → AllByRecursion Fine ps → IsFine (cut_pieces sort ps)
    cut_fine ps f = cut_all_fine uncut ps (record { done = tt; unbroken = NoCharPasses-nil (is_break sort); pieces = tt; text = NoCharPasses-nil (is_break sort) }) f
