-- Texts that are split at characters that their parts do not hold.
use Rattle.std.proofs.Common.{◌≡◌, ℕ, refl, sym, ap, ◌∙◌, List, [], ◌∷◌, ◌++◌, Bool, true, false, ◌&&◌, ◌==◌, append_assoc, arith}
use Rattle.std.specs.Prelude.{Some, None, bytes_eq, IfSome}
use Rattle.std.specs.List.{AllByRecursion}
use Rattle.std.specs.Str.{NonePass, NoCharPasses}
use Rattle.std.proofs.lemmas.Slice.Eq.{bytes_eq-Decides}
use Rattle.std.proofs.lemmas.Str.{encode_same}
use Rattle.std.proofs.Math.Bool.{and-false, and_assoc}
use lib.Utf8.{encode, encodes}
use Rattle.vkg_lists.specs.Options.{joined}
use Rattle.vkg_lists.proofs.Bools.{and_parts, is_false, same_truth}
use Rattle.vkg_terms.proofs.Octets.{not_nothing}
use Rattle.vkg_cells.specs.Order.{same_form}
use Rattle.vkg_expr.proofs.TermValues.{Text}

-- of two parts that hold no such character, and each such a character behind it
module _ (p : ℕ → Bool) where
  apart : (c d : ℕ) → p c ≡ true → p d ≡ false → c ≡ d → ⊥
  apart c d a b e = cc

  split_same : (cs ds : List ℕ) (c d : ℕ) (u v : List ℕ) → NonePass p cs → NonePass p ds → p c ≡ true → p d ≡ true
      → encodes cs ++ (encode c ++ u) ≡ encodes ds ++ (encode d ++ v) → (encodes cs ≡ encodes ds) × (c ≡ d) × (u ≡ v)
  split_same [] [] c d u v a b h g e = let s = encode_same c d u v e in (refl, s.0, s.1)
  split_same [] (x ∷ ds) c d u v a b h g e =
      let s = encode_same c x u (encodes ds ++ (encode d ++ v)) (e ∙ append_assoc (encode x) (encodes ds) (encode d ++ v)) in
      absurd (apart c x h b.0 s.0)
  split_same (y ∷ cs) [] c d u v a b h g e =
      let s = encode_same d y v (encodes cs ++ (encode c ++ u)) (sym e ∙ append_assoc (encode y) (encodes cs) (encode c ++ u)) in
      absurd (apart d y g a.0 s.0)
  split_same (y ∷ cs) (x ∷ ds) c d u v a b h g e =
      let s = encode_same y x (encodes cs ++ (encode c ++ u)) (encodes ds ++ (encode d ++ v)) (sym (append_assoc (encode y) (encodes cs) (encode c ++ u)) ∙ e ∙ append_assoc (encode x) (encodes ds) (encode d ++ v)) in
      let t = split_same cs ds c d u v a.1 b.1 h g s.1 in
      ((λ i. encode (s.0 i) ++ t.0 i), t.1, t.2)

  ends_apart : (cs ds : List ℕ) (d : ℕ) (v : List ℕ) → NonePass p cs → NonePass p ds → p d ≡ true → encodes cs ≡ encodes ds ++ (encode d ++ v) → ⊥
  ends_apart [] [] d v a b g e = not_nothing d v e
  ends_apart [] (x ∷ ds) d v a b g e = not_nothing x (encodes ds ++ (encode d ++ v)) (e ∙ append_assoc (encode x) (encodes ds) (encode d ++ v))
  ends_apart (y ∷ cs) [] d v a b g e = let s = encode_same d y v (encodes cs) (sym e) in apart d y g a.0 s.0
  ends_apart (y ∷ cs) (x ∷ ds) d v a b g e =
      let s = encode_same y x (encodes cs) (encodes ds ++ (encode d ++ v)) (e ∙ append_assoc (encode x) (encodes ds) (encode d ++ v)) in
      ends_apart cs ds d v a.1 b.1 g s.1

  -- no character of the text, if there is one, passes
  abbrev pub Clear : Text → Type 0
  Clear o = IfSome o (NoCharPasses p)

  abbrev pub ClearPart : (Text × ℕ) → Type 0
  ClearPart x = Clear x.0 × (p x.1 ≡ true)

  parts_same : (s t : List ℕ) (c d : ℕ) (u v : List ℕ) → NoCharPasses p s → NoCharPasses p t → p c ≡ true → p d ≡ true
      → bytes_eq (s ++ (encode c ++ u)) (t ++ (encode d ++ v)) ≡ (((c == d) && bytes_eq s t) && bytes_eq u v)
  parts_same s t c d u v h k a b = same_truth _ _ there back
    where
      there : bytes_eq (s ++ (encode c ++ u)) (t ++ (encode d ++ v)) ≡ true → (((c == d) && bytes_eq s t) && bytes_eq u v) ≡ true
      there e =
          let is = (bytes_eq-Decides (s ++ (encode c ++ u)) (t ++ (encode d ++ v))).0 e in
          let r = split_same h.0 k.0 c d u v h.2 k.2 a b ((λ i. h.1 i ++ (encode c ++ u)) ∙ is ∙ (λ i. sym k.1 i ++ (encode d ++ v))) in
          let texts : s ≡ t = sym h.1 ∙ r.0 ∙ k.1 in
          let one = (bytes_eq-Decides s t).1 texts in
          let two = (bytes_eq-Decides u v).1 r.2 in
          let marks : (c == d) ≡ true = let m = r.1 in grind arith in
          rw (marks, one, two) refl

      back : (((c == d) && bytes_eq s t) && bytes_eq u v) ≡ true → bytes_eq (s ++ (encode c ++ u)) (t ++ (encode d ++ v)) ≡ true
      back e =
          let q = and_parts ((c == d) && bytes_eq s t) (bytes_eq u v) e in
          let r = and_parts (c == d) (bytes_eq s t) q.0 in
          let marks : c ≡ d = let m = r.0 in grind arith in
          let one = (bytes_eq-Decides s t).0 r.1 in
          let two = (bytes_eq-Decides u v).0 q.1 in
          (bytes_eq-Decides (s ++ (encode c ++ u)) (t ++ (encode d ++ v))).1 (λ i. one i ++ (encode (marks i) ++ two i))

  step : (o o' : Text) (c d : ℕ) (w w' : Text) → Clear o → Clear o' → p c ≡ true → p d ≡ true
      → same_form (joined o (joined (Some (encode c)) w)) (joined o' (joined (Some (encode d)) w')) ≡ (((c == d) && same_form o o') && same_form w w')
  step None o' c d w w' h k a b = sym (ap (λ t. t && same_form w w') (and-false (c == d)))
  step (Some s) None c d None w' h k a b = sym (ap (λ t. t && same_form None w') (and-false (c == d)))
  step (Some s) None c d (Some u) w' h k a b = sym (ap (λ t. t && same_form (Some u) w') (and-false (c == d)))
  step (Some s) (Some t) c d None w' h k a b = sym (and-false ((c == d) && bytes_eq s t))
  step (Some s) (Some t) c d (Some u) None h k a b = sym (and-false ((c == d) && bytes_eq s t))
  step (Some s) (Some t) c d (Some u) (Some v) h k a b = parts_same s t c d u v h k a b

  end_left : (l o : Text) (d : ℕ) (w : Text) → Clear l → Clear o → p d ≡ true → same_form l (joined o (joined (Some (encode d)) w)) ≡ false
  end_left None o d w h k b = refl
  end_left (Some s) None d w h k b = refl
  end_left (Some s) (Some t) d None h k b = refl
  end_left (Some s) (Some t) d (Some v) h k b =
      is_false _ (λ e. ends_apart h.0 k.0 d v h.2 k.2 b (h.1 ∙ (bytes_eq-Decides s (t ++ (encode d ++ v))).0 e ∙ (λ i. sym k.1 i ++ (encode d ++ v))))

  end_right : (l o : Text) (d : ℕ) (w : Text) → Clear l → Clear o → p d ≡ true → same_form (joined o (joined (Some (encode d)) w)) l ≡ false
  end_right l None d w h k b = refl
  end_right l (Some t) d None h k b = refl
  end_right None (Some t) d (Some v) h k b = refl
  end_right (Some s) (Some t) d (Some v) h k b =
      is_false _ (λ e. ends_apart h.0 k.0 d v h.2 k.2 b (h.1 ∙ sym ((bytes_eq-Decides (t ++ (encode d ++ v)) s).0 e) ∙ (λ i. sym k.1 i ++ (encode d ++ v))))

-- parts, each with the character behind it, and a last part
abbrev pub whole : List (Text × ℕ) → Text → Text
whole [] last = last
whole (x ∷ xs) last = joined x.0 (joined (Some (encode x.1)) (whole xs last))

abbrev pub agree : List (Text × ℕ) → List (Text × ℕ) → Bool
agree [] [] = true
agree (x ∷ xs) (y ∷ ys) = ((x.1 == y.1) && same_form x.0 y.0) && agree xs ys
agree xs ys = false

-- the wholes are one text exactly where part by part they are
pub split_exact : (p : ℕ → Bool) (xs ys : List (Text × ℕ)) (l m : Text) → AllByRecursion (ClearPart p) xs → AllByRecursion (ClearPart p) ys → Clear p l → Clear p m
    → same_form (whole xs l) (whole ys m) ≡ (agree xs ys && same_form l m)
split_exact p [] [] l m a b h k = refl
split_exact p [] (y ∷ ys) l m a b h k = end_left p l y.0 y.1 (whole ys m) h b.0.0 b.0.1
split_exact p (x ∷ xs) [] l m a b h k = end_right p m x.0 x.1 (whole xs l) k a.0.0 a.0.1
split_exact p (x ∷ xs) (y ∷ ys) l m a b h k =
    step p x.0 y.0 x.1 y.1 (whole xs l) (whole ys m) a.0.0 b.0.0 a.0.1 b.0.1
    ∙ ap (λ t. ((x.1 == y.1) && same_form x.0 y.0) && t) (split_exact p xs ys l m a.1 b.1 h k)
    ∙ sym (and_assoc ((x.1 == y.1) && same_form x.0 y.0) (agree xs ys) (same_form l m))
