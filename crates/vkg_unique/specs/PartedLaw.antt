-- Equal IRIs of one template, between any two of whose holes stands a character that no IRI-safe text holds, have equal cells in each
-- hole.
use Rattle.std.proofs.Common.{◌≡◌, ◌∙◌, inr, ℕ, Bool, true, false, true≢false, ◌||◌, List, [], ◌∷◌, ◌++◌, append_assoc, Some, refl, sym, ap, subst}
use Rattle.std.specs.Prelude.{IfSome, IsUtf8, chars, option_map}
use Rattle.std.specs.List.{AllByRecursion, list_all, list_any}
use Rattle.std.specs.Str.{NoCharPasses, NonePass, is_utf8}
use Rattle.std.proofs.lemmas.List.{append_cancel_left, append_cancel_right}
use Rattle.std.proofs.lemmas.Option.{same_Some}
use Rattle.std.proofs.lemmas.Str.{IsUtf8-from_is_utf8, NoCharPasses-append, NoCharPasses-nil, encode_same, encodes-chars}
use lib.Utf8.{encode, encodes}
use Rattle.vkg_lists.specs.Options.{joined}
use Rattle.vkg_lists.proofs.Bools.{and_parts, neither}
use Rattle.vkg_terms.specs.Safe.{safe}
use Rattle.vkg_terms.proofs.SafeLemmas.{safe_same}
use Rattle.vkg_cells.specs.declared.cell.SqlType.{SqlType}
use Rattle.vkg_schema.specs.Rows.{Row, cell_at}
use Rattle.vkg_expr.specs.declared.term_expr.Sort.TheVariants.{OfIri}
use Rattle.vkg_expr.specs.declared.term_expr.Piece.{Piece}
use Rattle.vkg_expr.specs.declared.term_expr.Piece.TheVariants.{Chars, Hole}
use Rattle.vkg_expr.proofs.TermValues.{pieces_text}
use Rattle.vkg_match.specs.Cut.{are_parted, has_break, is_break}
use Rattle.vkg_match.proofs.Forms.{Proper}
use Rattle.vkg_match.proofs.Holes.{clear_hole}
use Rattle.vkg_plan.specs.Kinds.{Kinds}
use Rattle.vkg_equalities.specs.RecognisedLaw.{IsHoleOf}
use Rattle.vkg_unique.specs.HolesLaw.{AreProper, after-same, one_form}
use Rattle.vkg_unique.specs.Recovered.{hole_columns, is_text}

-- ---- texts up to a break

abbrev IsClear : List ℕ → Type 0
IsClear s = NoCharPasses (is_break OfIri) s

module _ (p : ℕ → Bool) where
  apart : (c d : ℕ) → p c ≡ true → p d ≡ false → c ≡ d → ⊥
  apart c d a b e = cc

  -- what stands before the first such character is the same in equal texts
  before-break : (cs ds : List ℕ) (c : ℕ) (u v : List ℕ) → NonePass p cs → NonePass p ds → p c ≡ true → encodes cs ++ (encode c ++ u) ≡ encodes ds ++ (encode c ++ v) → encodes cs ≡ encodes ds
  before-break [] [] c u v a b h e = refl
  before-break [] (x ∷ ds) c u v a b h e =
      let s = encode_same c x u (encodes ds ++ (encode c ++ v)) (e ∙ append_assoc (encode x) (encodes ds) (encode c ++ v)) in
      absurd (apart c x h b.0 s.0)
  before-break (y ∷ cs) [] c u v a b h e =
      let s = encode_same c y v (encodes cs ++ (encode c ++ u)) (sym e ∙ append_assoc (encode y) (encodes cs) (encode c ++ u)) in
      absurd (apart c y h a.0 s.0)
  before-break (y ∷ cs) (x ∷ ds) c u v a b h e =
      let s = encode_same y x (encodes cs ++ (encode c ++ u)) (encodes ds ++ (encode c ++ v)) (sym (append_assoc (encode y) (encodes cs) (encode c ++ u)) ∙ e ∙ append_assoc (encode x) (encodes ds) (encode c ++ v)) in
      let t = before-break cs ds c u v a.1 b.1 h s.1 in
      λ i. encode (s.0 i) ++ t i

  none-pass : (cs : List ℕ) → list_any p cs ≡ false → NonePass p cs
  none-pass [] e = tt
  none-pass (c ∷ cs) e = let b = neither (p c) (list_any p cs) e in (b.0, none-pass cs b.1)

  -- the first such character of some, with what stands before and behind it
  record Split (cs : List ℕ) : Type 0 where
    before : List ℕ
    mark : ℕ
    after : List ℕ
    none : NonePass p before
    passes : p mark ≡ true
    whole : encodes cs ≡ encodes before ++ (encode mark ++ encodes after)

  split : (cs : List ℕ) → list_any p cs ≡ true → Split cs
  split [] e = absurd (true≢false (sym e))
  split (c ∷ cs) e = elim (p c) as (λ b. p c ≡ b → (b || list_any p cs) ≡ true → Split (c ∷ cs)) [
    | true ↦ λ b f. record { before = []; mark = c; after = cs; none = tt; passes = b; whole = refl }
    | false ↦ λ b f.
        let r : Split cs = split cs f in
        record {
          before = c ∷ r.before;
          mark = r.mark;
          after = r.after;
          none = (b, r.none);
          passes = r.passes;
          whole = ap (λ s. encode c ++ s) r.whole ∙ sym (append_assoc (encode c) (encodes r.before) (encode r.mark ++ encodes r.after));
        }
  ] refl e

clear-same : (x y : List ℕ) (c : ℕ) (u v : List ℕ) → IsClear x → IsClear y → is_break OfIri c ≡ true → x ++ (encode c ++ u) ≡ y ++ (encode c ++ v) → x ≡ y
clear-same x y c u v a b h e =
    sym a.1 ∙ before-break (is_break OfIri) a.0 b.0 c u v a.2 b.2 h ((λ i. a.1 i ++ (encode c ++ u)) ∙ e ∙ (λ i. sym b.1 i ++ (encode c ++ v))) ∙ b.1

-- before a constant with a break
broken-same : (s a x y u v : List ℕ) → IsUtf8 s → IsClear x → IsClear y → IsClear a → has_break s ≡ true → x ++ (a ++ (s ++ u)) ≡ y ++ (a ++ (s ++ v)) → x ≡ y
broken-same s a x y u v utf cx cy ca n e =
    let c : Split (is_break OfIri) (chars s) = split (is_break OfIri) (chars s) n in
    let before = encodes c.before in
    let clear : IsClear (a ++ before) = NoCharPasses-append (is_break OfIri) a before ca (c.before, refl, c.none) in
    let cut : s ≡ before ++ (encode c.mark ++ encodes c.after) = sym (encodes-chars s utf) ∙ c.whole in
    let at : (m t : List ℕ) → m ++ (a ++ (s ++ t)) ≡ (m ++ (a ++ before)) ++ (encode c.mark ++ (encodes c.after ++ t)) = λ m t.
    (λ j. m ++ (a ++ (cut j ++ t)))
    ∙ (λ j. m ++ (a ++ append_assoc before (encode c.mark ++ encodes c.after) t j))
    ∙ (λ j. m ++ (a ++ (before ++ append_assoc (encode c.mark) (encodes c.after) t j)))
    ∙ (λ j. m ++ sym (append_assoc a before (encode c.mark ++ (encodes c.after ++ t))) j)
    ∙ sym (append_assoc m (a ++ before) (encode c.mark ++ (encodes c.after ++ t))) in
    append_cancel_right x y (a ++ before)
    (clear-same (x ++ (a ++ before)) (y ++ (a ++ before)) c.mark (encodes c.after ++ u) (encodes c.after ++ v)
    (NoCharPasses-append (is_break OfIri) x (a ++ before) cx clear) (NoCharPasses-append (is_break OfIri) y (a ++ before) cy clear) c.passes
    (sym (at x u) ∙ e ∙ at y v))

module _ (is_good : ℕ → Bool) (ks : Kinds) where
  -- the text of pieces whose holes are such
  text-there : (row : Row) → AreProper is_good ks row → (ps : List Piece) → list_all is_good (hole_columns ps) ≡ true → AllByRecursion (IsHoleOf ks) ps → (t : List ℕ) × (pieces_text OfIri row ps ≡ Some t)
  text-there row y [] g i = ([], refl)
  text-there row y (Chars s ∷ ps) g i = let r = text-there row y ps g i.1 in (s ++ r.0, ap (joined (Some s)) r.1)
  text-there row y (Hole at k ∷ ps) g i =
      let b = and_parts (is_good at) (list_all is_good (hole_columns ps)) g in
      let p = y at k b.0 i.0 in
      let r = text-there row y ps b.1 i.1 in
      (safe p.form ++ r.0, λ j. joined (ap (option_map safe) p.is j) (r.1 j))

  module _ (z w : Row) (of_z : AreProper is_good ks z) (of_w : AreProper is_good ks w) where
    -- before the rest of two such texts, with a the constants between
    start-same : (ps : List Piece) (a x y u v : List ℕ) → IsClear x → IsClear y → IsClear a → list_all is_good (hole_columns ps) ≡ true → list_all is_text ps ≡ true → are_parted false ps ≡ true → AllByRecursion (IsHoleOf ks) ps →
        pieces_text OfIri z ps ≡ Some u → pieces_text OfIri w ps ≡ Some v → x ++ (a ++ u) ≡ y ++ (a ++ v) → x ≡ y
    start-same [] a x y u v cx cy ca g t d i f h e =
        let same : v ≡ u = same_Some v u (sym h ∙ f) in
        append_cancel_right x y (a ++ u) (e ∙ ap (λ m. y ++ (a ++ m)) same)
    start-same (Hole at k ∷ ps) a x y u v cx cy ca g t d i f h e = absurd (true≢false (sym d))
    start-same (Chars s ∷ ps) a x y u v cx cy ca g t d i f h e =
        let b = and_parts (is_utf8 s) (list_all is_text ps) t in
        let utf = IsUtf8-from_is_utf8 s b.0 in
        let r = text-there z of_z ps g i.1 in
        let q = text-there w of_w ps g i.1 in
        let of_u : u ≡ s ++ r.0 = same_Some u (s ++ r.0) (sym f ∙ ap (joined (Some s)) r.1) in
        let of_v : v ≡ s ++ q.0 = same_Some v (s ++ q.0) (sym h ∙ ap (joined (Some s)) q.1) in
        let all : x ++ (a ++ (s ++ r.0)) ≡ y ++ (a ++ (s ++ q.0)) = (λ j. x ++ (a ++ sym of_u j)) ∙ e ∙ (λ j. y ++ (a ++ of_v j)) in
        elim (has_break s) as (λ b. has_break s ≡ b → are_parted b ps ≡ true → x ≡ y) [
          | true ↦ λ n d. broken-same s a x y r.0 q.0 utf cx cy ca n all
          | false ↦ λ n d.
              let clear : IsClear s = (chars s, encodes-chars s utf, none-pass (is_break OfIri) (chars s) n) in
              start-same ps (a ++ s) x y r.0 q.0 cx cy (NoCharPasses-append (is_break OfIri) a s ca clear) g b.1 d i.1 r.1 q.1
              ((λ j. x ++ append_assoc a s r.0 j) ∙ all ∙ (λ j. y ++ sym (append_assoc a s q.0) j))
        ] refl d

    hole-clear : (row : Row) (at : ℕ) (k : SqlType) (p : Proper k (cell_at row at)) → IsClear (safe p.form)
    hole-clear row at k p = subst (λ o. IfSome (option_map safe o) (NoCharPasses (is_break OfIri))) p.is (clear_hole OfIri row at k (inr (p.form, p.spelled, p.read)))

    pub parted-same : (ps : List Piece) (b : Bool) → list_all is_good (hole_columns ps) ≡ true → list_all is_text ps ≡ true → are_parted b ps ≡ true → AllByRecursion (IsHoleOf ks) ps → pieces_text OfIri z ps ≡ pieces_text OfIri w ps →
        AllByRecursion (λ at. cell_at z at ≡ cell_at w at) (hole_columns ps)
    parted-same [] b g t d i h = tt
    parted-same (Chars s ∷ ps) b g t d i h =
        parted-same ps (b || has_break s) g (and_parts (is_utf8 s) (list_all is_text ps) t).1 d i.1 (after-same s (pieces_text OfIri z ps) (pieces_text OfIri w ps) h)
    parted-same (Hole at k ∷ ps) b g t d i h =
        let gs = and_parts (is_good at) (list_all is_good (hole_columns ps)) g in
        let ds = and_parts b (are_parted false ps) d in
        let p = of_z at k gs.0 i.0 in
        let q = of_w at k gs.0 i.0 in
        let u = text-there z of_z ps gs.1 i.1 in
        let v = text-there w of_w ps gs.1 i.1 in
        let both : safe p.form ++ u.0 ≡ safe q.form ++ v.0 = same_Some (safe p.form ++ u.0) (safe q.form ++ v.0)
        ((λ j. joined (option_map safe (sym p.is j)) (sym u.1 j)) ∙ h ∙ (λ j. joined (option_map safe (q.is j)) (v.1 j))) in
        let same : safe p.form ≡ safe q.form = start-same ps [] (safe p.form) (safe q.form) u.0 v.0 (hole-clear z at k p) (hole-clear w at k q) (NoCharPasses-nil (is_break OfIri)) gs.1 t ds.1 i.1 u.1 v.1 both in
        let rest : u.0 ≡ v.0 = append_cancel_left (safe p.form) u.0 v.0 (both ∙ ap (λ m. m ++ v.0) (sym same)) in (
          one_form k (cell_at z at) (cell_at w at) p q (safe_same p.form q.form p.spelled q.spelled same),
          parted-same ps false gs.1 t ds.1 i.1 (u.1 ∙ ap Some rest ∙ sym v.1),
        )
