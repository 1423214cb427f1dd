-- The equalities of a verdict on typed terms are truths over the same columns, and ask no two terms to be the same.
use Rattle.std.proofs.Common.{◌+◌, ◌≡◌, ◌∙◌, ℕ, Bool, true, false, cond, not, List, [], ◌∷◌, map, refl, sym, ap, subst, Result, Ok, Err}
use Rattle.std.specs.Prelude.{⊤, Option, Some, None, option_map, option_and_then, slice_get, IfSome, fold, chars, ◌&&◌, ◌||◌, ◌==◌, bytes_eq}
use Rattle.std.specs.Bool.{then_some}
use Rattle.std.specs.List.{AllByRecursion}
use Rattle.vkg_lists.proofs.Bools.{and_parts, not_true}
use Rattle.vkg_lists.proofs.Members.{recursion_append, recursion_push}
use Rattle.vkg_lists.proofs.Results.{ok_same, then_given}
use Rattle.vkg_terms.specs.declared.term.Term.TheVariants.{Iri, Blank, Lit}
use Rattle.vkg_terms.specs.Same.{term_eq}
use Rattle.vkg_cells.specs.declared.cell.Cell.{Cell}
use Rattle.vkg_cells.specs.declared.cell.Cell.TheVariants as cell
use Rattle.vkg_cells.specs.declared.cell.SqlType.{SqlType}
use Rattle.vkg_cells.specs.declared.cell.SqlType.TheVariants as kind
use Rattle.vkg_cells.specs.declared.cell.FieldFault.{FieldFault}
use Rattle.vkg_cells.specs.Field.{cell_of_field}
use Rattle.vkg_cells.specs.Form.{lexical_form}
use Rattle.vkg_cells.specs.Order.{same_form}
use Rattle.vkg_cells.proofs.FieldLemmas.{field_ok, number_ok, octets_ok, stamp_ok, time_ok}
use Rattle.vkg_expr.specs.declared.term_expr.Sort.{Sort}
use Rattle.vkg_expr.specs.declared.term_expr.Sort.TheVariants.{OfIri, OfBlank, OfLit}
use Rattle.vkg_expr.specs.declared.term_expr.Piece.{Piece}
use Rattle.vkg_expr.specs.declared.term_expr.Piece.TheVariants.{Chars, Hole}
use Rattle.vkg_expr.specs.declared.term_expr.TermExpr.{TermExpr}
use Rattle.vkg_expr.specs.declared.term_expr.TermExpr.TheVariants.{Fixed, Made, Resolved}
use Rattle.vkg_expr.specs.Expr.{Expr, Col, Const, IriOf, Lex, exprs}
use Rattle.vkg_expr.specs.Steps.{Fits}
use Rattle.vkg_expr.specs.TermExprs.{made, piece_expr, pieces_expr, term_expr}
use Rattle.vkg_expr.specs.Typing.{are_all, equality_kind, is_column, is_one, kind_of, kinds_of, lexical_kind, no_column, same_family, same_kind}
use Rattle.vkg_expr.proofs.KindLists.{are_all-more}
use Rattle.vkg_expr.proofs.TypedParts.{one_is}
use Rattle.vkg_match.specs.declared.cut.Segment.{Segment}
use Rattle.vkg_match.specs.Cut.{Cut, cut_at, cut_character, cut_piece, cut_pieces, is_break, last_pieces, text_pieces, uncut, with_character}
use Rattle.vkg_match.specs.Sources.{cell_if, cell_with, labelled_of}
use Rattle.vkg_match.specs.Verdict.{Verdict, Never, All, both, by_constants, by_sorts, constant_agrees, constant_of, cut_of, cuts_agree, hole_makes, hole_text, holes_agree, holes_or_texts, if_cut, is_resolved, lone_hole, of_one_sort, pieces_of, same_sort, segment, segment_at, segments, sort_of, texts_agree, verdict_of, when, where_cell, where_same, whole_text}
use Rattle.vkg_columns.proofs.Conjuncts.{IsTruth}
use Rattle.vkg_plan.specs.Kinds.{Kinds}
use Rattle.vkg_rules.specs.Measure.{equalities, equalities_each, one_if}
use Rattle.vkg_equalities.specs.RecognisedLaw.{HasHoles, IsHoleOf}

-- a cell that is read as a field of a kind is of it
field-fits : (k : SqlType) (c : Cell) (text : List ℕ) → cell_of_field k text ≡ Ok c → Fits k c
field-fits kind.Text c text e = subst (Fits kind.Text) (ok_same (cell.Text text) c e) refl
field-fits kind.Int c text e = subst (Fits kind.Int) (number_ok _ text _ c e).2 refl
field-fits kind.Dec c text e = subst (Fits kind.Dec) (number_ok _ text _ c e).2 refl
field-fits kind.Bool c text e = subst (Fits kind.Bool) (field_ok _ _ c e).1 refl
field-fits kind.Date c text e = subst (Fits kind.Date) (field_ok _ _ c e).1 refl
field-fits kind.Stamp c text e = subst (Fits kind.Stamp) (stamp_ok _ c e).2 refl
field-fits kind.Bin c text e = subst (Fits kind.Bin) (octets_ok _ c e).1 refl
field-fits kind.Time c text e = subst (Fits kind.Time) (time_ok _ c e).2 refl
field-fits kind.Term c text e = cc

family_itself : (k : SqlType) → same_family k k ≡ true
family_itself kind.Text = refl
family_itself kind.Int = refl
family_itself kind.Dec = refl
family_itself kind.Bool = refl
family_itself kind.Date = refl
family_itself kind.Stamp = refl
family_itself kind.Bin = refl
family_itself kind.Time = refl
family_itself kind.Term = refl

module _ (ks : Kinds) where
  -- a hole of its column's kind, which holds no terms
  abbrev pub IsSound : Piece → Type 0
  IsSound (Chars text) = ⊤
  IsSound (Hole at k) = (slice_get ks at ≡ Some k) × (same_kind kind.Term k ≡ false)

  abbrev pub IsSoundTerm : TermExpr → Type 0
  IsSoundTerm (Fixed t) = ⊤
  IsSoundTerm (Made sort ps) = AllByRecursion IsSound ps
  IsSoundTerm (Resolved base at k) = IsSound (Hole at k)

  abbrev IsText : Expr → Type 0
  IsText e = kind_of e ks ≡ Some kind.Text

  -- of no two terms
  abbrev pub HasNone : Expr → Type 0
  HasNone e = equalities ks e ≡ 0

  abbrev pub IsPlain : Expr → Type 0
  IsPlain e = IsTruth ks e × HasNone e

  abbrev pub IsTypedVerdict : Verdict → Type 0
  IsTypedVerdict Never = ⊤
  IsTypedVerdict (All es) = AllByRecursion IsPlain es

  -- ---- the pieces of a typed term

  sound-form : (at : ℕ) (k : SqlType) → slice_get ks at ≡ Some k → IsText (Lex (Col at)) → IsSound (Hole at k)
  sound-form at k i h = (i, not_true (same_kind kind.Term k) (then_given (not (same_kind kind.Term k)) kind.Text kind.Text (ap lexical_kind (sym i) ∙ h)).0)

  sound-piece : (sort : Sort) (p : Piece) → IsText (piece_expr sort p) → IsHoleOf ks p → IsSound p
  sound-piece sort (Chars s) h i = tt
  sound-piece OfIri (Hole at k) h i = sound-form at k i (one_is kind.Text (kind_of (Lex (Col at)) ks) (then_given _ kind.Text kind.Text h).0)
  sound-piece OfBlank (Hole at k) h i = sound-form at k i h
  sound-piece (OfLit a) (Hole at k) h i = sound-form at k i h

  sound-each : (sort : Sort) (ps : List Piece) → are_all kind.Text (kinds_of (exprs (map (piece_expr sort) ps)) ks) ≡ true → AllByRecursion (IsHoleOf ks) ps → AllByRecursion IsSound ps
  sound-each sort [] h i = tt
  sound-each sort (p ∷ ps) h i =
      let o = kind_of (piece_expr sort p) ks in
      let b = and_parts (is_one kind.Text o) (are_all kind.Text (kinds_of (exprs (map (piece_expr sort) ps)) ks)) (sym (are_all-more kind.Text o (kinds_of (exprs (map (piece_expr sort) ps)) ks)) ∙ h) in
      (sound-piece sort p (one_is kind.Text o b.0) i.0, sound-each sort ps b.1 i.1)

  sound-pieces : (sort : Sort) (ps : List Piece) → IsText (pieces_expr sort ps) → AllByRecursion (IsHoleOf ks) ps → AllByRecursion IsSound ps
  sound-pieces sort [] h i = tt
  sound-pieces sort (p ∷ []) h i = (sound-piece sort p h i.0, tt)
  sound-pieces sort (p ∷ q ∷ ps) h i =
      let es = exprs (map (piece_expr sort) (p ∷ q ∷ ps)) in
      sound-each sort (p ∷ q ∷ ps) (and_parts (no_column es) (are_all kind.Text (kinds_of es ks)) (then_given _ kind.Text kind.Text h).0).1 i

  text-of-made : (sort : Sort) (x : Expr) (l : SqlType) → kind_of (made sort x) ks ≡ Some l → IsText x
  text-of-made OfIri x l h = one_is kind.Text (kind_of x ks) (then_given _ kind.Term l h).0
  text-of-made OfBlank x l h = one_is kind.Text (kind_of x ks) (then_given _ kind.Term l h).0
  text-of-made (OfLit a) x l h = one_is kind.Text (kind_of x ks) (then_given _ kind.Term l h).0

  pub sound-term : (e : TermExpr) (l : SqlType) → kind_of (term_expr e) ks ≡ Some l → HasHoles ks e → IsSoundTerm e
  sound-term (Fixed t) l h i = tt
  sound-term (Made sort ps) l h i = sound-pieces sort ps (text-of-made sort (pieces_expr sort ps) l h) i
  sound-term (Resolved base at k) l h i =
      let x : IsText (IriOf base (Lex (Col at))) = text-of-made OfIri (IriOf base (Lex (Col at))) l h in
      sound-form at k i (one_is kind.Text (kind_of (Lex (Col at)) ks) (then_given _ kind.Text kind.Text x).0)

  -- ---- the text of pieces is typed

  typed-form : (at : ℕ) (k : SqlType) → IsSound (Hole at k) → IsText (Lex (Col at))
  typed-form at k h = ap lexical_kind h.0 ∙ ap (λ b. then_some (not b) kind.Text) h.1

  typed-piece : (sort : Sort) (p : Piece) → IsSound p → IsText (piece_expr sort p)
  typed-piece OfIri (Chars s) h = refl
  typed-piece OfBlank (Chars s) h = refl
  typed-piece (OfLit a) (Chars s) h = refl
  typed-piece OfIri (Hole at k) h = ap (λ o. then_some (is_one kind.Text o) kind.Text) (typed-form at k h)
  typed-piece OfBlank (Hole at k) h = typed-form at k h
  typed-piece (OfLit a) (Hole at k) h = typed-form at k h

  column-none : (sort : Sort) (p : Piece) → is_column (piece_expr sort p) ≡ false
  column-none OfIri (Chars s) = refl
  column-none OfBlank (Chars s) = refl
  column-none (OfLit a) (Chars s) = refl
  column-none OfIri (Hole at k) = refl
  column-none OfBlank (Hole at k) = refl
  column-none (OfLit a) (Hole at k) = refl

  columns-none : (sort : Sort) (ps : List Piece) → no_column (exprs (map (piece_expr sort) ps)) ≡ true
  columns-none sort [] = refl
  columns-none sort (p ∷ ps) = λ i. not (column-none sort p i) && columns-none sort ps i

  all-typed : (sort : Sort) (ps : List Piece) → AllByRecursion IsSound ps → are_all kind.Text (kinds_of (exprs (map (piece_expr sort) ps)) ks) ≡ true
  all-typed sort [] h = refl
  all-typed sort (p ∷ ps) h =
      are_all-more kind.Text (kind_of (piece_expr sort p) ks) (kinds_of (exprs (map (piece_expr sort) ps)) ks)
      ∙ (λ i. is_one kind.Text (typed-piece sort p h.0 i) && all-typed sort ps h.1 i)

  pub typed-pieces : (sort : Sort) (ps : List Piece) → AllByRecursion IsSound ps → IsText (pieces_expr sort ps)
  typed-pieces sort [] h = refl
  typed-pieces sort (p ∷ []) h = typed-piece sort p h.0
  typed-pieces sort (p ∷ q ∷ ps) h = λ i. then_some (columns-none sort (p ∷ q ∷ ps) i && all-typed sort (p ∷ q ∷ ps) h i) kind.Text

  -- ---- verdicts

  none-piece : (sort : Sort) (p : Piece) → HasNone (piece_expr sort p)
  none-piece OfIri (Chars s) = refl
  none-piece OfBlank (Chars s) = refl
  none-piece (OfLit a) (Chars s) = refl
  none-piece OfIri (Hole at k) = refl
  none-piece OfBlank (Hole at k) = refl
  none-piece (OfLit a) (Hole at k) = refl

  none-each : (sort : Sort) (ps : List Piece) → equalities_each ks (exprs (map (piece_expr sort) ps)) ≡ 0
  none-each sort [] = refl
  none-each sort (p ∷ ps) = λ i. none-piece sort p i + none-each sort ps i

  pub none-pieces : (sort : Sort) (ps : List Piece) → HasNone (pieces_expr sort ps)
  none-pieces sort [] = refl
  none-pieces sort (p ∷ []) = none-piece sort p
  none-pieces sort (p ∷ q ∷ ps) = none-each sort (p ∷ q ∷ ps)

  none-whole : (e : TermExpr) → HasNone (whole_text e)
  none-whole (Fixed t) = refl
  none-whole (Made sort ps) = none-pieces sort ps
  none-whole (Resolved base at k) = refl

  typed-same : (a b : Expr) (k l : SqlType) → kind_of a ks ≡ Some k → kind_of b ks ≡ Some l → same_family k l ≡ true → same_kind kind.Term k ≡ false → HasNone a → HasNone b → IsTypedVerdict (where_same a b)
  typed-same a b k l h g f n x y = (
    (
      (λ i. equality_kind (h i) (g i)) ∙ ap (λ c. then_some c kind.Bool) f,
      (λ i. one_if (is_one kind.Term (h i) && is_one kind.Term (kind_of b ks)) + x i + y i) ∙ ap (λ c. one_if (c && is_one kind.Term (kind_of b ks)) + 0 + 0) n,
    ),
    tt,
  )

  typed-texts : (a b : Expr) → IsText a → IsText b → HasNone a → HasNone b → IsTypedVerdict (where_same a b)
  typed-texts a b h g x y = typed-same a b kind.Text kind.Text h g refl refl x y

  typed-both : (v w : Verdict) → IsTypedVerdict v → IsTypedVerdict w → IsTypedVerdict (both v w)
  typed-both Never w h g = tt
  typed-both (All es) Never h g = tt
  typed-both (All es) (All fs) h g = recursion_append IsPlain es fs h g

  typed-when : (b : Bool) → IsTypedVerdict (when b)
  typed-when true = tt
  typed-when false = tt

  typed-agree : (sort : Sort) (ps qs : List Piece) → AllByRecursion IsSound ps → AllByRecursion IsSound qs → IsTypedVerdict (texts_agree sort ps qs)
  typed-agree sort ps qs h g = typed-texts (pieces_expr sort ps) (pieces_expr sort qs) (typed-pieces sort ps h) (typed-pieces sort qs g) (none-pieces sort ps) (none-pieces sort qs)

  abbrev IsSoundHole : (ℕ × SqlType) → Type 0
  IsSoundHole h = IsSound (Hole h.0 h.1)

  typed-cell : (hole : ℕ × SqlType) (o : Option Cell) → IsSoundHole hole → IfSome o (λ c. Fits hole.1 c) → IsTypedVerdict (where_cell hole o)
  typed-cell hole None h f = tt
  typed-cell hole (Some c) h f = typed-same (Col hole.0) (Const c hole.1) hole.1 hole.1 h.0 (ap (λ b. then_some b hole.1) f) (family_itself hole.1) h.1 refl refl

  cell-fits : (k : SqlType) (form : List ℕ) (r : Result Cell FieldFault) → cell_of_field k form ≡ r → IfSome (cell_if form r) (λ c. Fits k c)
  cell-fits k form (Err x) e = tt
  cell-fits k form (Ok c) e = elim (same_form (lexical_form c) (Some form)) as (λ b. IfSome (cond b (Some c) None) (λ c. Fits k c)) [
    | true ↦ field-fits k c form e
    | false ↦ tt
  ]

  made-fits : (k : SqlType) (o : Option (List ℕ)) → IfSome (option_and_then (cell_with k) o) (λ c. Fits k c)
  made-fits k None = tt
  made-fits k (Some form) = cell-fits k form (cell_of_field k form) refl

  typed-makes : (sort : Sort) (hole : ℕ × SqlType) (text : List ℕ) → IsSoundHole hole → IsTypedVerdict (hole_makes sort hole text)
  typed-makes sort hole text h = typed-cell hole (option_and_then (cell_with hole.1) (hole_text sort text)) h (made-fits hole.1 (hole_text sort text))

  typed-holes : (h i : ℕ × SqlType) → IsSoundHole h → IsSoundHole i → IsTypedVerdict (holes_agree h i)
  typed-holes h i a b = elim (same_family h.1 i.1) as (λ c. same_family h.1 i.1 ≡ c → IsTypedVerdict (cond c (where_same (Col h.0) (Col i.0)) (where_same (Lex (Col h.0)) (Lex (Col i.0))))) [
    | true ↦ λ e. typed-same (Col h.0) (Col i.0) h.1 i.1 a.0 b.0 e a.1 refl refl
    | false ↦ λ e. typed-texts (Lex (Col h.0)) (Lex (Col i.0)) (typed-form h.0 h.1 a) (typed-form i.0 i.1 b) refl refl
  ] refl

  lone-sound : (ps : List Piece) → AllByRecursion IsSound ps → IfSome (lone_hole ps) IsSoundHole
  lone-sound [] h = tt
  lone-sound (Chars s ∷ ps) h = tt
  lone-sound (Hole at k ∷ []) h = h.0
  lone-sound (Hole at k ∷ p ∷ ps) h = tt

  typed-constant : (sort : Sort) (ps qs : List Piece) (o : Option (ℕ × SqlType)) (text : List ℕ) → AllByRecursion IsSound ps → AllByRecursion IsSound qs → IfSome o IsSoundHole → IsTypedVerdict (constant_agrees sort ps qs o text)
  typed-constant sort ps qs None text h g s = typed-agree sort ps qs h g
  typed-constant sort ps qs (Some hole) text h g s = typed-makes sort hole text s

  typed-either : (sort : Sort) (ps qs : List Piece) (o p : Option (ℕ × SqlType)) → AllByRecursion IsSound ps → AllByRecursion IsSound qs → IfSome o IsSoundHole → IfSome p IsSoundHole → IsTypedVerdict (holes_or_texts sort ps qs o p)
  typed-either sort ps qs None p h g a b = typed-agree sort ps qs h g
  typed-either sort ps qs (Some x) None h g a b = typed-agree sort ps qs h g
  typed-either sort ps qs (Some x) (Some y) h g a b = typed-holes x y a b

  typed-constants : (sort : Sort) (ps qs : List Piece) (o p : Option (List ℕ)) → AllByRecursion IsSound ps → AllByRecursion IsSound qs → IsTypedVerdict (by_constants sort ps qs o p)
  typed-constants sort ps qs (Some s) (Some t) h g = typed-when (bytes_eq s t)
  typed-constants sort ps qs (Some s) None h g = typed-constant sort ps qs (lone_hole qs) s h g (lone-sound qs g)
  typed-constants sort ps qs None (Some t) h g = typed-constant sort ps qs (lone_hole ps) t h g (lone-sound ps h)
  typed-constants sort ps qs None None h g = typed-either sort ps qs (lone_hole ps) (lone_hole qs) h g (lone-sound ps h) (lone-sound qs g)

  typed-segment : (sort : Sort) (ps qs : List Piece) → AllByRecursion IsSound ps → AllByRecursion IsSound qs → IsTypedVerdict (segment sort ps qs)
  unfolding segment
  typed-segment sort ps qs h g = typed-constants sort ps qs (constant_of ps) (constant_of qs) h g

  abbrev IsSoundSegment : Segment → Type 0
  IsSoundSegment m = AllByRecursion IsSound m.pieces

  typed-segment_at : (sort : Sort) (m n : Segment) → IsSoundSegment m → IsSoundSegment n → IsTypedVerdict (segment_at sort m n)
  unfolding segment_at
  typed-segment_at sort m n h g = elim (m.mark == n.mark) as (λ b. IsTypedVerdict (cond b (segment sort m.pieces n.pieces) Never)) [
    | true ↦ typed-segment sort m.pieces n.pieces h g
    | false ↦ tt
  ]

  typed-segments : (sort : Sort) (ms ns : List Segment) → AllByRecursion IsSoundSegment ms → AllByRecursion IsSoundSegment ns → IsTypedVerdict (segments sort ms ns)
  typed-segments sort [] [] h g = tt
  typed-segments sort [] (n ∷ ns) h g = tt
  typed-segments sort (m ∷ ms) [] h g = tt
  typed-segments sort (m ∷ ms) (n ∷ ns) h g = typed-both (segment_at sort m n) (segments sort ms ns) (typed-segment_at sort m n h.0 g.0) (typed-segments sort ms ns h.1 g.1)

  -- ---- cuts

  record IsSoundCut (cut : Cut) : Type 0 where
    done : AllByRecursion IsSoundSegment cut.done
    pieces : AllByRecursion IsSound cut.pieces

  sound-text : (s : List ℕ) → AllByRecursion IsSound (text_pieces s)
  sound-text [] = tt
  sound-text (b ∷ bs) = (tt, tt)

  sound-last : (cut : Cut) → IsSoundCut cut → AllByRecursion IsSound (last_pieces cut)
  sound-last cut h = recursion_append IsSound cut.pieces (text_pieces cut.text) h.pieces (sound-text cut.text)

  sound-at : (cut : Cut) (c : ℕ) → IsSoundCut cut → IsSoundCut (cut_at cut c)
  sound-at cut c h = record { done = recursion_push IsSoundSegment cut.done (record { pieces = last_pieces cut; mark = c }) h.done (sound-last cut h); pieces = tt }

  sound-with : (cut : Cut) (c : ℕ) → IsSoundCut cut → IsSoundCut (with_character cut c)
  sound-with cut c h = record { done = h.done; pieces = h.pieces }

  sound-character : (sort : Sort) (cut : Cut) (c : ℕ) → IsSoundCut cut → IsSoundCut (cut_character sort cut c)
  unfolding cut_character
  sound-character sort cut c h = elim (is_break sort c) as (λ b. IsSoundCut (cond b (cut_at cut c) (with_character cut c))) [
    | true ↦ sound-at cut c h
    | false ↦ sound-with cut c h
  ]

  sound-characters : (sort : Sort) (cut : Cut) (cs : List ℕ) → IsSoundCut cut → IsSoundCut (fold (cut_character sort) cut cs)
  sound-characters sort cut [] h = h
  sound-characters sort cut (c ∷ cs) h = sound-characters sort (cut_character sort cut c) cs (sound-character sort cut c h)

  sound-cut_piece : (sort : Sort) (cut : Cut) (p : Piece) → IsSoundCut cut → IsSound p → IsSoundCut (cut_piece sort cut p)
  unfolding cut_piece
  sound-cut_piece sort cut (Chars s) h f = sound-characters sort cut (chars s) h
  sound-cut_piece sort cut (Hole at k) h f = record { done = h.done; pieces = recursion_append IsSound (last_pieces cut) (Hole at k ∷ []) (sound-last cut h) (f, tt) }

  sound-cut_all : (sort : Sort) (cut : Cut) (ps : List Piece) → IsSoundCut cut → AllByRecursion IsSound ps → IsSoundCut (fold (cut_piece sort) cut ps)
  sound-cut_all sort cut [] h f = h
  sound-cut_all sort cut (p ∷ ps) h f = sound-cut_all sort (cut_piece sort cut p) ps (sound-cut_piece sort cut p h f.0) f.1

  sound-cut : (sort : Sort) (ps : List Piece) → AllByRecursion IsSound ps → IsSoundCut (cut_pieces sort ps)
  sound-cut sort ps f = sound-cut_all sort uncut ps (record { done = tt; pieces = tt }) f

  typed-cuts : (sort : Sort) (ps qs : List Piece) → AllByRecursion IsSound ps → AllByRecursion IsSound qs → IsTypedVerdict (cuts_agree sort (cut_pieces sort ps) (cut_pieces sort qs))
  typed-cuts sort ps qs h g =
      let c = cut_pieces sort ps in
      let d = cut_pieces sort qs in
      typed-both (segments sort c.done d.done) (segment sort (last_pieces c) (last_pieces d))
      (typed-segments sort c.done d.done (sound-cut sort ps h).done (sound-cut sort qs g).done)
      (typed-segment sort (last_pieces c) (last_pieces d) (sound-last c (sound-cut sort ps h)) (sound-last d (sound-cut sort qs g)))

  -- ---- terms

  sound-labelled : (o : Option (List ℕ)) → IfSome (option_map (λ text. Chars text ∷ []) o) (AllByRecursion IsSound)
  sound-labelled None = tt
  sound-labelled (Some s) = (tt, tt)

  sound-pieces_of : (e : TermExpr) → IsSoundTerm e → IfSome (pieces_of e) (AllByRecursion IsSound)
  sound-pieces_of (Fixed (Iri s)) h = (tt, tt)
  sound-pieces_of (Fixed (Lit s a)) h = (tt, tt)
  sound-pieces_of (Fixed (Blank l)) h = sound-labelled (labelled_of l)
  sound-pieces_of (Made sort ps) h = h
  sound-pieces_of (Resolved base at k) h = tt

  typed-if : (sort : Sort) (o p : Option (List Piece)) → IfSome o (AllByRecursion IsSound) → IfSome p (AllByRecursion IsSound) → IsTypedVerdict (if_cut sort (option_map (cut_pieces sort) o) (option_map (cut_pieces sort) p))
  typed-if sort None p h g = tt
  typed-if sort (Some ps) None h g = tt
  typed-if sort (Some ps) (Some qs) h g = typed-cuts sort ps qs h g

  typed-whole : (e : TermExpr) → IsSoundTerm e → IsText (whole_text e)
  typed-whole (Fixed t) h = refl
  typed-whole (Made sort ps) h = typed-pieces sort ps h
  typed-whole (Resolved base at k) h = ap (λ o. then_some (is_one kind.Text o) kind.Text) (typed-form at k h)

  typed-one : (sort : Sort) (e f : TermExpr) → IsSoundTerm e → IsSoundTerm f → IsTypedVerdict (of_one_sort sort e f)
  typed-one sort e f h g = elim (is_resolved e || is_resolved f) as (λ b. IsTypedVerdict (cond b (where_same (whole_text e) (whole_text f)) (if_cut sort (cut_of sort e) (cut_of sort f)))) [
    | true ↦ typed-texts (whole_text e) (whole_text f) (typed-whole e h) (typed-whole f g) (none-whole e) (none-whole f)
    | false ↦ typed-if sort (pieces_of e) (pieces_of f) (sound-pieces_of e h) (sound-pieces_of f g)
  ]

  typed-by_sorts : (e f : TermExpr) → IsSoundTerm e → IsSoundTerm f → IsTypedVerdict (by_sorts e f)
  typed-by_sorts e f h g = elim (same_sort (sort_of e) (sort_of f)) as (λ b. IsTypedVerdict (cond b (of_one_sort (sort_of e) e f) Never)) [
    | true ↦ typed-one (sort_of e) e f h g
    | false ↦ tt
  ]

  pub typed-verdict : (e f : TermExpr) → IsSoundTerm e → IsSoundTerm f → IsTypedVerdict (verdict_of e f)
  typed-verdict (Fixed t) (Fixed u) h g = typed-when (term_eq t u)
  typed-verdict (Fixed t) (Made sort ps) h g = typed-by_sorts (Fixed t) (Made sort ps) h g
  typed-verdict (Fixed t) (Resolved base at k) h g = typed-by_sorts (Fixed t) (Resolved base at k) h g
  typed-verdict (Made sort ps) f h g = typed-by_sorts (Made sort ps) f h g
  typed-verdict (Resolved base at k) f h g = typed-by_sorts (Resolved base at k) f h g
