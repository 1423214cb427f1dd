-- The fixed texts of a template that is read of a text are texts.
use Rattle.std.proofs.Common.{◌⊎◌, ◌≡◌, ◌∙◌, Bool, true, false, cond, not, ◌==◌, ℕ, inl, inr, ◌<◌, ◌≤◌, ◌++◌, List, [], ◌∷◌, map, refl, sym, ap, subst, Option, Some, None, IsUtf8, arith}
use Rattle.std.specs.Prelude.{IfSome, option_and_then, option_map}
use Rattle.std.specs.List.{AllByRecursion, list_all}
use Rattle.std.proofs.Math.Utf8.{encode, encodes, scalar, scalars}
use Rattle.std.proofs.lemmas.Bool.{cond_both}
use Rattle.std.proofs.lemmas.Bool.Decides.{nat_tests}
use Rattle.std.proofs.lemmas.Str.{IsUtf8-append, IsUtf8-encode, encode_ascii}
use Rattle.vkg_lists.specs.Options.{with_first}
use Rattle.vkg_lists.proofs.Bools.{and_parts, not_true}
use Rattle.vkg_terms.specs.declared.template.Part.{Part}
use Rattle.vkg_terms.specs.declared.template.Part.TheVariants as part
use Rattle.vkg_terms.specs.Name.{if_named, is_all_named, template_read}
use Rattle.vkg_terms.specs.TemplateParts.{Mark, Plain, Open, Close, escape, hole, inside, mark, marks, onto_fixed, outside, template_of}
use Rattle.vkg_terms.specs.TemplateText.{is_special}
use Rattle.vkg_terms.proofs.Octets.{encode_all, not_nothing, scalar_below}

abbrev pub IsTextPart : Part → Type 0
IsTextPart (part.Fixed text) = IsUtf8 text
IsTextPart (part.Hole name) = Unit {0}

abbrev TextParts : List Part → Type 0
TextParts ps = AllByRecursion IsTextPart ps

-- ---- the marks of a text: braces, and runs of characters that stand for themselves

data TextMarks : List Mark → Type 0 where
  ended : TextMarks []
  opened : {ms : List Mark} → TextMarks ms → TextMarks (Open ∷ ms)
  closed : {ms : List Mark} → TextMarks ms → TextMarks (Close ∷ ms)
  run : {ms : List Mark} (t : List ℕ) → IsUtf8 t → TextMarks ms → TextMarks (map Plain t ++ ms)

abbrev MarkedText : Option (List Mark) → Type 0
MarkedText o = IfSome o TextMarks

no_escape : (b : ℕ) (bs : List ℕ) → (b == 92) ≡ false → marks (b ∷ bs) ≡ with_first (Some (mark b)) (marks bs)
no_escape b [] e = ap (λ t. cond t None (Some (mark b ∷ []))) e
no_escape b (c ∷ bs) e = ap (λ t. cond t (escape c (marks bs)) (with_first (Some (mark b)) (marks (c ∷ bs)))) e

an_escape : (b c : ℕ) (bs : List ℕ) → (b == 92) ≡ true → marks (b ∷ c ∷ bs) ≡ escape c (marks bs)
an_escape b c bs e = ap (λ t. cond t (escape c (marks bs)) (with_first (Some (mark b)) (marks (c ∷ bs)))) e

plain_mark : (b : ℕ) → is_special b ≡ false → mark b ≡ Plain b
plain_mark b e = by_tests (b == 123) (b == 125) refl refl
  where
    by_tests : (x y : Bool) → (b == 123) ≡ x → (b == 125) ≡ y → cond x Open (cond y Close (Plain b)) ≡ Plain b
    by_tests true y f g = absurd (grind (arith, nat_tests))
    by_tests false true f g = absurd (grind (arith, nat_tests))
    by_tests false false f g = refl

abbrev before : List ℕ → Option (List Mark) → Option (List Mark)
before t o = option_map (λ ms. map Plain t ++ ms) o

before_more : (x : ℕ) (xs : List ℕ) (o : Option (List Mark)) → with_first (Some (Plain x)) (before xs o) ≡ before (x ∷ xs) o
before_more x xs None = refl
before_more x xs (Some ms) = refl

before_none : (o : Option (List Mark)) → o ≡ before [] o
before_none None = refl
before_none (Some ms) = refl

plain_run : (xs bs : List ℕ) → list_all (λ b. not (is_special b)) xs ≡ true → marks (xs ++ bs) ≡ before xs (marks bs)
plain_run [] bs e = before_none (marks bs)
plain_run (x ∷ xs) bs e =
    let p = and_parts (not (is_special x)) (list_all (λ b. not (is_special b)) xs) e in
    let plain = not_true (is_special x) p.0 in
    no_escape x (xs ++ bs) (grind (arith, nat_tests))
    ∙ (λ i. with_first (Some (plain_mark x plain i)) (plain_run xs bs p.1 i))
    ∙ before_more x xs (marks bs)

run_marked : (t : List ℕ) → IsUtf8 t → (o : Option (List Mark)) → MarkedText o → MarkedText (before t o)
run_marked t u None h = tt
run_marked t u (Some ms) h = run t u h

first_marked : (m : Mark) → ((ms : List Mark) → TextMarks ms → TextMarks (m ∷ ms)) → (o : Option (List Mark)) → MarkedText o → MarkedText (with_first (Some m) o)
first_marked m f None h = tt
first_marked m f (Some ms) h = f ms h

-- the octets of a character that stands for itself do so
plain_octets : (c : ℕ) → scalar c ≡ true → is_special c ≡ false → list_all (λ b. not (is_special b)) (encode c) ≡ true
plain_octets c u e = encode_all (λ b. not (is_special b)) c (scalar_below c u) (λ b h _. high b h) (λ _. ap not e)
  where
    high : (b : ℕ) → 128 ≤ b → not (is_special b) ≡ true
    high b h = grind (arith, nat_tests)

sole : (c : ℕ) (bs : List ℕ) → c < 128 → encode c ++ bs ≡ c ∷ bs
sole c bs l = ap (λ (t : List ℕ). t ++ bs) (encode_ascii c l)

-- a character behind a backslash
behind_marked : (d : ℕ) (bs : List ℕ) → scalar d ≡ true → MarkedText (marks bs) → MarkedText (marks (92 ∷ (encode d ++ bs)))
behind_marked d bs u h = of (is_special d) refl
  where
    none : (xs : List ℕ) → list_all (λ b. not (is_special b)) xs ≡ true → MarkedText (marks (92 ∷ (xs ++ bs))) ⊎ (xs ≡ [])
    none [] e = inr refl
    none (x ∷ xs) e =
        let p = not_true (is_special x) (and_parts (not (is_special x)) (list_all (λ b. not (is_special b)) xs) e).0 in
        inl (subst MarkedText (sym (an_escape 92 x (xs ++ bs) refl ∙ ap (λ t. cond t (with_first (Some (Plain x)) (marks (xs ++ bs))) None) p)) tt)

    of : (s : Bool) → is_special d ≡ s → MarkedText (marks (92 ∷ (encode d ++ bs)))
    of true e =
        subst MarkedText (sym (ap (λ (t : List ℕ). marks (92 ∷ t)) (sole d bs (grind (arith, nat_tests))) ∙ an_escape 92 d bs refl ∙ ap (λ t. cond t (with_first (Some (Plain d)) (marks bs)) None) e))
        (first_marked (Plain d) (λ ms m. run (d ∷ []) (subst IsUtf8 (encode_ascii d (grind (arith, nat_tests))) (IsUtf8-encode d u)) m) (marks bs) h)
    of false e = elim (none (encode d) (plain_octets d u e)) [
      | inl m ↦ m
      | inr n ↦ absurd (not_nothing d [] (sym (ap (λ (t : List ℕ). t ++ []) n)))
    ]

char_marked : (c : ℕ) (bs : List ℕ) → scalar c ≡ true → (c == 92) ≡ false → MarkedText (marks bs) → MarkedText (marks (encode c ++ bs))
char_marked c bs u n h = of (c == 123) (c == 125) refl refl
  where
    brace : (m : Mark) → c < 128 → mark c ≡ m → marks (encode c ++ bs) ≡ with_first (Some m) (marks bs)
    brace m l e = ap marks (sole c bs l) ∙ no_escape c bs n ∙ ap (λ x. with_first (Some x) (marks bs)) e

    of : (x y : Bool) → (c == 123) ≡ x → (c == 125) ≡ y → MarkedText (marks (encode c ++ bs))
    of true y f g = subst MarkedText (sym (brace Open (grind (arith, nat_tests)) (ap (λ b. cond b Open (cond (c == 125) Close (Plain c))) f))) (first_marked Open (λ ms m. opened m) (marks bs) h)
    of false true f g =
        subst MarkedText (sym (brace Close (grind (arith, nat_tests)) (ap (λ b. cond b Open (cond (c == 125) Close (Plain c))) f ∙ ap (λ b. cond b Close (Plain c)) g))) (first_marked Close (λ ms m. closed m) (marks bs) h)
    of false false f g =
        subst MarkedText (sym (plain_run (encode c) bs (plain_octets c u (grind (arith, nat_tests))))) (run_marked (encode c) (IsUtf8-encode c u) (marks bs) h)

backslash : (c : ℕ) (bs : List ℕ) → (c == 92) ≡ true → encode c ++ bs ≡ 92 ∷ bs
backslash c bs e = let same : c ≡ 92 = grind (arith, nat_tests) in sole c bs (omega arith) ∙ ap (λ b. b ∷ bs) same

text_marked : (cs : List ℕ) → scalars cs ≡ true → MarkedText (marks (encodes cs))
text_marked [] u = ended
text_marked (c ∷ []) u = of (c == 92) refl
  where
    of : (b : Bool) → (c == 92) ≡ b → MarkedText (marks (encode c ++ []))
    of true e = subst (λ (t : List ℕ). MarkedText (marks t)) (sym (backslash c [] e)) tt
    of false e = char_marked c [] (and_parts (scalar c) true u).0 e ended
text_marked (c ∷ d ∷ cs) u =
    let p = and_parts (scalar c) (scalars (d ∷ cs)) u in
    let q = and_parts (scalar d) (scalars cs) p.1 in
    of (c == 92) refl p.0 q.0 (text_marked (d ∷ cs) p.1) (text_marked cs q.1)
  where
    of : (b : Bool) → (c == 92) ≡ b → scalar c ≡ true → scalar d ≡ true → MarkedText (marks (encodes (d ∷ cs))) → MarkedText (marks (encodes cs)) → MarkedText (marks (encode c ++ encodes (d ∷ cs)))
    of true e v w h k = subst (λ (t : List ℕ). MarkedText (marks t)) (sym (backslash c (encodes (d ∷ cs)) e)) (behind_marked d (encodes cs) w k)
    of false e v w h k = char_marked c (encodes (d ∷ cs)) v e h

-- ---- the parts of such marks

-- a text before the parts that follow it
abbrev in_front_of : List ℕ → List Part → List Part
in_front_of [] ps = ps
in_front_of (b ∷ bs) ps = onto_fixed b (in_front_of bs ps)

joined_fixed : (t u : List ℕ) (ps : List Part) → in_front_of t (part.Fixed u ∷ ps) ≡ part.Fixed (t ++ u) ∷ ps
joined_fixed [] u ps = refl
joined_fixed (b ∷ t) u ps = ap (onto_fixed b) (joined_fixed t u ps)

alone : (b : ℕ) (t : List ℕ) → in_front_of (b ∷ t) [] ≡ part.Fixed (b ∷ t) ∷ []
alone b [] = refl
alone b (c ∷ t) = ap (onto_fixed b) (alone c t)

before_hole : (b : ℕ) (t name : List ℕ) (ps : List Part) → in_front_of (b ∷ t) (part.Hole name ∷ ps) ≡ part.Fixed (b ∷ t) ∷ part.Hole name ∷ ps
before_hole b [] name ps = refl
before_hole b (c ∷ t) name ps = ap (onto_fixed b) (before_hole c t name ps)

front_text : (t : List ℕ) → IsUtf8 t → (ps : List Part) → TextParts ps → TextParts (in_front_of t ps)
front_text [] u ps h = h
front_text (b ∷ t) u [] h = subst TextParts (sym (alone b t)) (u, tt)
front_text (b ∷ t) u (part.Fixed v ∷ ps) h = subst TextParts (sym (joined_fixed (b ∷ t) v ps)) (IsUtf8-append (b ∷ t) v u h.0, h.1)
front_text (b ∷ t) u (part.Hole name ∷ ps) h = subst TextParts (sym (before_hole b t name ps)) (u, h)

outside_run : (t : List ℕ) (ms : List Mark) → outside (map Plain t ++ ms) ≡ option_map (in_front_of t) (outside ms)
outside_run [] ms = of (outside ms)
  where
    of : (o : Option (List Part)) → o ≡ option_map (in_front_of []) o
    of None = refl
    of (Some ps) = refl
outside_run (b ∷ t) ms = ap (option_map (onto_fixed b)) (outside_run t ms) ∙ of (outside ms)
  where
    of : (o : Option (List Part)) → option_map (onto_fixed b) (option_map (in_front_of t) o) ≡ option_map (in_front_of (b ∷ t)) o
    of None = refl
    of (Some ps) = refl

abbrev ReadText : Option (List Part) → Type 0
ReadText o = IfSome o TextParts

run_text : (t : List ℕ) → IsUtf8 t → (o : Option (List Part)) → ReadText o → ReadText (option_map (in_front_of t) o)
run_text t u None h = tt
run_text t u (Some ps) h = front_text t u ps h

hole_text : (name : List ℕ) (o : Option (List Part)) → ReadText o → ReadText (hole name o)
hole_text [] o h = tt
hole_text (b ∷ bs) None h = tt
hole_text (b ∷ bs) (Some ps) h = (tt, h)

-- whatever name a hole has
inside_run : (t : List ℕ) (ms : List Mark) → ((name : List ℕ) → ReadText (inside name ms)) → (name : List ℕ) → ReadText (inside name (map Plain t ++ ms))
inside_run [] ms h name = h name
inside_run (b ∷ t) ms h name = inside_run t ms h (name ++ b ∷ [])

mutual
  outside_text : (ms : List Mark) → TextMarks ms → ReadText (outside ms)
  outside_text _ ended = tt
  outside_text _ (opened {ms = ms} m) = inside_text ms m []
  outside_text _ (closed m) = tt
  outside_text _ (run {ms = ms} t u m) = subst ReadText (sym (outside_run t ms)) (run_text t u (outside ms) (outside_text ms m))

  inside_text : (ms : List Mark) → TextMarks ms → (name : List ℕ) → ReadText (inside name ms)
  inside_text _ ended name = tt
  inside_text _ (opened m) name = tt
  inside_text _ (closed {ms = ms} m) name = hole_text name (outside ms) (outside_text ms m)
  inside_text _ (run {ms = ms} t u m) name = inside_run t ms (inside_text ms m) name

-- ---- the template

marked_read : (o : Option (List Mark)) → MarkedText o → ReadText (option_and_then outside o)
marked_read None h = tt
marked_read (Some ms) h = outside_text ms h

named : (o : Option (List Part)) → ReadText o → ReadText (if_named o)
named None h = tt
named (Some ps) h = cond_both (is_all_named ps) (Some ps) None ReadText (λ _. h) (λ _. tt)

pub read_texts : (text : List ℕ) → IsUtf8 text → ReadText (template_read text)
read_texts text (cs, (u, e)) = named (template_of text) (marked_read (marks text) (subst (λ (t : List ℕ). MarkedText (marks t)) e (text_marked cs u)))
