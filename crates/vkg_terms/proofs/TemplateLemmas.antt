-- The reader of a template gives its parts.
use Rattle.std.proofs.Common.{◌≡◌, ◌==◌, ◌++◌, ◌∷◌, [], List, ℕ, ◌<◌, ◌≤◌, sym, ap, ◌∙◌, refl, Option, Some, None, Bool, true, false, if◌then◌else◌, not, arith, append_assoc}
use Rattle.std.specs.Prelude.{fold, option_and_then, option_map, chars, IsUtf8}
use Rattle.std.specs.List.{list_all}
use Rattle.std.proofs.lemmas.Bool.Decides.{nat_tests}
use Rattle.std.proofs.lemmas.Str.{encode_ascii, encodes-chars, scalars-chars}
use Rattle.std.proofs.lemmas.Iterator.Adapters.{option_map_id}
use Rattle.std.proofs.lemmas.List.{append-nil}
use Rattle.std.proofs.Math.Utf8.{encode, encodes, scalar, scalars}
use Rattle.vkg_lists.specs.Options.{with_first}
use Rattle.vkg_terms.specs.declared.template.Part.{Part}
use Rattle.vkg_terms.specs.declared.template.Part.TheVariants as part
use Rattle.vkg_terms.specs.declared.template_reader.Place.{Place}
use Rattle.vkg_terms.specs.declared.template_reader.Place.TheVariants.{Fixed, Hole, EscapedFixed, EscapedHole, Broken}
use Rattle.vkg_terms.specs.TemplateParts.{Mark, Plain, Open, Close, mark, marks, escape, onto_fixed, outside, inside, template_of}
use Rattle.vkg_terms.specs.TemplateText.{is_special}
use Rattle.vkg_terms.specs.TemplateReader.{State, start, fixed_part, step, at_place, with_char, with_fixed, with_hole, finished, finished_at}
use Rattle.vkg_lists.proofs.Bools.{and_parts, not_true}
use Rattle.vkg_terms.proofs.Octets.{encode_all, not_nothing, scalar_below}

-- a text put before the parts that follow it
abbrev pub glue : List ℕ → List Part → List Part
glue [] ps = ps
glue (b ∷ bs) ps = onto_fixed b (glue bs ps)

glue-append : (t : List ℕ) (b : ℕ) (ps : List Part) → glue (t ++ b ∷ []) ps ≡ glue t (onto_fixed b ps)
glue-append [] b ps = refl
glue-append (c ∷ t) b ps = ap (onto_fixed c) (glue-append t b ps)

pub glue_end : (t : List ℕ) → glue t [] ≡ fixed_part t
glue_end [] = refl
glue_end (b ∷ []) = refl
glue_end (b ∷ c ∷ t) = ap (onto_fixed b) (glue_end (c ∷ t))

pub glue_hole : (t name : List ℕ) (ps : List Part) → glue t (part.Hole name ∷ ps) ≡ fixed_part t ++ part.Hole name ∷ ps
glue_hole [] name ps = refl
glue_hole (b ∷ []) name ps = refl
glue_hole (b ∷ c ∷ t) name ps = ap (onto_fixed b) (glue_hole (c ∷ t) name ps)

-- what is read of the marks that are left
abbrev fixed_rest : List Part → List ℕ → Option (List Mark) → Option (List Part)
fixed_rest parts text None = None
fixed_rest parts text (Some ms) = option_map (λ ps. parts ++ glue text ps) (outside ms)

abbrev hole_rest : List Part → List ℕ → Option (List Mark) → Option (List Part)
hole_rest parts text None = None
hole_rest parts text (Some ms) = option_map (λ ps. parts ++ ps) (inside text ms)

abbrev escaped_rest : (Option (List Mark) → Option (List Part)) → List ℕ → Option (List Part)
escaped_rest go [] = None
escaped_rest go (b ∷ bs) = go (escape b (marks bs))

abbrev whole_at : Place → List Part → List ℕ → List ℕ → Option (List Part)
whole_at Fixed parts text bs = fixed_rest parts text (marks bs)
whole_at Hole parts text bs = hole_rest parts text (marks bs)
whole_at EscapedFixed parts text bs = escaped_rest (fixed_rest parts text) bs
whole_at EscapedHole parts text bs = escaped_rest (hole_rest parts text) bs
whole_at Broken parts text bs = None

abbrev whole : State → List ℕ → Option (List Part)
whole s bs = whole_at s.place s.parts s.text bs

-- an octet that is no backslash
pub marks-cons : (b : ℕ) (bs : List ℕ) → (b == 92) ≡ false → marks (b ∷ bs) ≡ with_first (Some (mark b)) (marks bs)
marks-cons b [] e = ap (λ t. if t then None else Some (mark b ∷ [])) e
marks-cons b (c ∷ bs) e = ap (λ t. if t then escape c (marks bs) else with_first (Some (mark b)) (marks (c ∷ bs))) e

marks_escape : (b : ℕ) (bs : List ℕ) (go : Option (List Mark) → Option (List Part)) → go None ≡ None → (b == 92) ≡ true → go (marks (b ∷ bs)) ≡ escaped_rest go bs
marks_escape b [] go n e = ap (λ t. go (if t then None else Some (mark b ∷ []))) e ∙ n
marks_escape b (c ∷ bs) go n e = ap (λ t. go (if t then escape c (marks bs) else with_first (Some (mark b)) (marks (c ∷ bs)))) e

-- a character that stands for itself goes to the text
plain_fixed : (parts : List Part) (text : List ℕ) (b : ℕ) (ms : Option (List Mark)) → fixed_rest parts text (with_first (Some (Plain b)) ms) ≡ fixed_rest parts (text ++ b ∷ []) ms
plain_fixed parts text b None = refl
plain_fixed parts text b (Some ms) = plain_by (outside ms)
  where
    plain_by : (o : Option (List Part)) → option_map (λ ps. parts ++ glue text ps) (option_map (onto_fixed b) o) ≡ option_map (λ ps. parts ++ glue (text ++ b ∷ []) ps) o
    plain_by None = refl
    plain_by (Some ps) = ap (λ qs. Some (parts ++ qs)) (sym (glue-append text b ps))

plain_hole : (parts : List Part) (text : List ℕ) (b : ℕ) (ms : Option (List Mark)) → hole_rest parts text (with_first (Some (Plain b)) ms) ≡ hole_rest parts (text ++ b ∷ []) ms
plain_hole parts text b None = refl
plain_hole parts text b (Some ms) = refl

-- whatever follows an open brace begins with a hole
after_open : (f g : List Part → List Part) (name : List ℕ) (ms : List Mark) → ((n : List ℕ) (ps : List Part) → f (part.Hole n ∷ ps) ≡ g (part.Hole n ∷ ps)) → option_map f (inside name ms) ≡ option_map g (inside name ms)
after_open f g name [] h = refl
after_open f g name (Plain b ∷ ms) h = after_open f g (name ++ b ∷ []) ms h
after_open f g name (Open ∷ ms) h = refl
after_open f g [] (Close ∷ ms) h = refl
after_open f g (b ∷ bs) (Close ∷ ms) h = by_rest (outside ms)
  where
    by_rest : (o : Option (List Part)) → option_map f (option_map (λ parts. part.Hole (b ∷ bs) ∷ parts) o) ≡ option_map g (option_map (λ parts. part.Hole (b ∷ bs) ∷ parts) o)
    by_rest None = refl
    by_rest (Some ps) = ap Some (h (b ∷ bs) ps)

open_fixed : (parts : List Part) (text : List ℕ) (ms : Option (List Mark)) → fixed_rest parts text (with_first (Some Open) ms) ≡ hole_rest (parts ++ fixed_part text) [] ms
open_fixed parts text None = refl
open_fixed parts text (Some ms) =
    after_open (λ ps. parts ++ glue text ps) (λ ps. (parts ++ fixed_part text) ++ ps) [] ms
    (λ n ps. ap (λ qs. parts ++ qs) (glue_hole text n ps) ∙ sym (append_assoc parts (fixed_part text) (part.Hole n ∷ ps)))

close_fixed : (parts : List Part) (text : List ℕ) (ms : Option (List Mark)) → fixed_rest parts text (with_first (Some Close) ms) ≡ None
close_fixed parts text None = refl
close_fixed parts text (Some ms) = refl

open_hole : (parts : List Part) (text : List ℕ) (ms : Option (List Mark)) → hole_rest parts text (with_first (Some Open) ms) ≡ None
open_hole parts text None = refl
open_hole parts text (Some ms) = refl

hole_parts : (parts : List Part) (b : ℕ) (t : List ℕ) (o : Option (List Part)) → option_map (λ ps. parts ++ ps) (option_map (λ ps. part.Hole (b ∷ t) ∷ ps) o) ≡ option_map (λ ps. (parts ++ part.Hole (b ∷ t) ∷ []) ++ ps) o
hole_parts parts b t None = refl
hole_parts parts b t (Some ps) = ap Some (sym (append_assoc parts (part.Hole (b ∷ t) ∷ []) ps))

empty_hole : (parts : List Part) (ms : Option (List Mark)) → hole_rest parts [] (with_first (Some Close) ms) ≡ None
empty_hole parts None = refl
empty_hole parts (Some ms) = refl

some_hole : (parts : List Part) (b : ℕ) (t : List ℕ) (ms : Option (List Mark)) → hole_rest parts (b ∷ t) (with_first (Some Close) ms) ≡ fixed_rest (parts ++ part.Hole (b ∷ t) ∷ []) [] ms
some_hole parts b t None = refl
some_hole parts b t (Some ms) = hole_parts parts b t (outside ms)

close_hole : (parts : List Part) (text : List ℕ) (bs : List ℕ) → hole_rest parts text (with_first (Some Close) (marks bs)) ≡ whole (with_hole (record { parts = parts; text = text; place = Hole })) bs
close_hole parts [] bs = empty_hole parts (marks bs)
close_hole parts (b ∷ t) bs = some_hole parts b t (marks bs)

-- the tests of an octet that stands for itself
ordinary_mark : (b : ℕ) → is_special b ≡ false → mark b ≡ Plain b
ordinary_mark b e = by_tests (b == 123) (b == 125) refl refl
  where
    by_tests : (x y : Bool) → (b == 123) ≡ x → (b == 125) ≡ y → (if x then Open else if y then Close else Plain b) ≡ Plain b
    by_tests true y f g = absurd (grind (arith, nat_tests))
    by_tests false true f g = absurd (grind (arith, nat_tests))
    by_tests false false f g = refl

pub ordinary_cons : (b : ℕ) (bs : List ℕ) → is_special b ≡ false → marks (b ∷ bs) ≡ with_first (Some (Plain b)) (marks bs)
ordinary_cons b bs e = marks-cons b bs (grind (arith, nat_tests)) ∙ ap (λ m. with_first (Some m) (marks bs)) (ordinary_mark b e)

-- a run of octets that stand for themselves goes to the text
module _ (go : List ℕ → Option (List Mark) → Option (List Part)) (plain : (text : List ℕ) (b : ℕ) (ms : Option (List Mark)) → go text (with_first (Some (Plain b)) ms) ≡ go (text ++ b ∷ []) ms) where
  plain_run : (xs text bs : List ℕ) → list_all (λ b. not (is_special b)) xs ≡ true → go text (marks (xs ++ bs)) ≡ go (text ++ xs) (marks bs)
  plain_run [] text bs e = ap (λ t. go t (marks bs)) (sym (append-nil text))
  plain_run (x ∷ xs) text bs e =
      let parts = and_parts (not (is_special x)) (list_all (λ b. not (is_special b)) xs) e in
      ap (go text) (ordinary_cons x (xs ++ bs) (not_true (is_special x) parts.0))
      ∙ plain text x (marks (xs ++ bs))
      ∙ plain_run xs (text ++ x ∷ []) bs parts.1
      ∙ ap (λ t. go t (marks bs)) (append_assoc text (x ∷ []) xs)

-- the octets of a character that stands for itself do so
ordinary : (c : ℕ) → scalar c ≡ true → is_special c ≡ false → list_all (λ b. not (is_special b)) (encode c) ≡ true
ordinary c u e = encode_all (λ b. not (is_special b)) c (scalar_below c u) (λ b h _. high b h) (λ _. ap not e)
  where
    high : (b : ℕ) → 128 ≤ b → not (is_special b) ≡ true
    high b h = grind (arith, nat_tests)

sole : (c : ℕ) (bs : List ℕ) → c < 128 → encode c ++ bs ≡ c ∷ bs
sole c bs l = ap (λ (t : List ℕ). t ++ bs) (encode_ascii c l)

close_mark : (c : ℕ) → (c == 123) ≡ false → (c == 125) ≡ true → mark c ≡ Close
close_mark c f g = ap (λ b. if b then Open else if c == 125 then Close else Plain c) f ∙ ap (λ b. if b then Close else Plain c) g

fixed_step : (parts : List Part) (text : List ℕ) (c : ℕ) (bs : List ℕ) (x y z : Bool) → scalar c ≡ true → (c == 92) ≡ x → (c == 123) ≡ y → (c == 125) ≡ z
    → whole (let s : State = record { parts = parts; text = text; place = Fixed } in if x then at_place s EscapedFixed else if y then at_place (with_fixed s) Hole else if z then at_place s Broken else with_char s c) bs ≡ fixed_rest parts text (marks (encode c ++ bs))
fixed_step parts text c bs true y z u e f g =
    sym (ap (λ (t : List ℕ). fixed_rest parts text (marks t)) (sole c bs (grind (arith, nat_tests))) ∙ marks_escape c bs (fixed_rest parts text) refl e)
fixed_step parts text c bs false true z u e f g =
    sym (ap (λ (t : List ℕ). fixed_rest parts text (marks t)) (sole c bs (grind (arith, nat_tests))) ∙ ap (fixed_rest parts text) (marks-cons c bs e ∙ ap (λ m. with_first (Some m) (marks bs)) (ap (λ b. if b then Open else if c == 125 then Close else Plain c) f)) ∙ open_fixed parts text (marks bs))
fixed_step parts text c bs false false true u e f g =
    sym (ap (λ (t : List ℕ). fixed_rest parts text (marks t)) (sole c bs (grind (arith, nat_tests))) ∙ ap (fixed_rest parts text) (marks-cons c bs e ∙ ap (λ m. with_first (Some m) (marks bs)) (close_mark c f g)) ∙ close_fixed parts text (marks bs))
fixed_step parts text c bs false false false u e f g =
    sym (plain_run (fixed_rest parts) (plain_fixed parts) (encode c) text bs (ordinary c u (grind (arith, nat_tests))))

hole_step : (parts : List Part) (text : List ℕ) (c : ℕ) (bs : List ℕ) (x y z : Bool) → scalar c ≡ true → (c == 92) ≡ x → (c == 123) ≡ y → (c == 125) ≡ z
    → whole (let s : State = record { parts = parts; text = text; place = Hole } in if x then at_place s EscapedHole else if y then at_place s Broken else if z then with_hole s else with_char s c) bs ≡ hole_rest parts text (marks (encode c ++ bs))
hole_step parts text c bs true y z u e f g =
    sym (ap (λ (t : List ℕ). hole_rest parts text (marks t)) (sole c bs (grind (arith, nat_tests))) ∙ marks_escape c bs (hole_rest parts text) refl e)
hole_step parts text c bs false true z u e f g =
    sym (ap (λ (t : List ℕ). hole_rest parts text (marks t)) (sole c bs (grind (arith, nat_tests))) ∙ ap (hole_rest parts text) (marks-cons c bs e ∙ ap (λ m. with_first (Some m) (marks bs)) (ap (λ b. if b then Open else if c == 125 then Close else Plain c) f)) ∙ open_hole parts text (marks bs))
hole_step parts text c bs false false true u e f g =
    sym (ap (λ (t : List ℕ). hole_rest parts text (marks t)) (sole c bs (grind (arith, nat_tests))) ∙ ap (hole_rest parts text) (marks-cons c bs e ∙ ap (λ m. with_first (Some m) (marks bs)) (close_mark c f g)) ∙ close_hole parts text bs)
hole_step parts text c bs false false false u e f g =
    sym (plain_run (hole_rest parts) (plain_hole parts) (encode c) text bs (ordinary c u (grind (arith, nat_tests))))

-- a character after a backslash
module _ (go : List ℕ → Option (List Mark) → Option (List Part)) (none : (text : List ℕ) → go text None ≡ None) (plain : (text : List ℕ) (b : ℕ) (ms : Option (List Mark)) → go text (with_first (Some (Plain b)) ms) ≡ go (text ++ b ∷ []) ms) where
  escaped_good : (text : List ℕ) (c : ℕ) (bs : List ℕ) → is_special c ≡ true → go (text ++ encode c) (marks bs) ≡ escaped_rest (go text) (encode c ++ bs)
  escaped_good text c bs e =
      let l : c < 128 = grind (arith, nat_tests) in
      sym (ap (escaped_rest (go text)) (sole c bs l) ∙ ap (λ b. go text (if b then with_first (Some (Plain c)) (marks bs) else None)) e ∙ plain text c (marks bs) ∙ ap (λ (t : List ℕ). go (text ++ t) (marks bs)) (sym (encode_ascii c l)))

  first_bad : (text : List ℕ) (xs bs : List ℕ) → list_all (λ b. not (is_special b)) xs ≡ true → (xs ≡ [] → ⊥) → escaped_rest (go text) (xs ++ bs) ≡ None
  first_bad text [] bs e n = absurd (n refl)
  first_bad text (x ∷ xs) bs e n =
      ap (λ b. go text (if b then with_first (Some (Plain x)) (marks (xs ++ bs)) else None)) (not_true (is_special x) (and_parts (not (is_special x)) (list_all (λ b. not (is_special b)) xs) e).0) ∙ none text

  escaped_bad : (text : List ℕ) (c : ℕ) (bs : List ℕ) → scalar c ≡ true → is_special c ≡ false → None ≡ escaped_rest (go text) (encode c ++ bs)
  escaped_bad text c bs u e = sym (first_bad text (encode c) bs (ordinary c u e) (λ n. not_nothing c [] (sym (append-nil (encode c) ∙ n))))

escaped_step : (place : Place) (parts : List Part) (text : List ℕ) (c : ℕ) (bs : List ℕ) (back : Place) (x : Bool) → scalar c ≡ true → is_special c ≡ x
    → (go : List ℕ → Option (List Mark) → Option (List Part)) → ((text : List ℕ) → go text None ≡ None) → ((text : List ℕ) (b : ℕ) (ms : Option (List Mark)) → go text (with_first (Some (Plain b)) ms) ≡ go (text ++ b ∷ []) ms)
    → ((text : List ℕ) → whole_at back parts text bs ≡ go text (marks bs))
    → whole (let s : State = record { parts = parts; text = text; place = place } in if x then at_place (with_char s c) back else at_place s Broken) bs ≡ escaped_rest (go text) (encode c ++ bs)
escaped_step place parts text c bs back true u e go none plain h = h (text ++ encode c) ∙ escaped_good go none plain text c bs e
escaped_step place parts text c bs back false u e go none plain h = escaped_bad go none plain text c bs u e

-- one character more is read, and what is left is the same
step_whole : (place : Place) (parts : List Part) (text : List ℕ) (c : ℕ) (bs : List ℕ) → scalar c ≡ true
    → whole (step (record { parts = parts; text = text; place = place }) c) bs ≡ whole_at place parts text (encode c ++ bs)
step_whole Fixed parts text c bs u = fixed_step parts text c bs (c == 92) (c == 123) (c == 125) u refl refl refl
step_whole Hole parts text c bs u = hole_step parts text c bs (c == 92) (c == 123) (c == 125) u refl refl refl
step_whole EscapedFixed parts text c bs u = escaped_step EscapedFixed parts text c bs Fixed (is_special c) u refl (fixed_rest parts) (λ _. refl) (plain_fixed parts) (λ _. refl)
step_whole EscapedHole parts text c bs u = escaped_step EscapedHole parts text c bs Hole (is_special c) u refl (hole_rest parts) (λ _. refl) (plain_hole parts) (λ _. refl)
step_whole Broken parts text c bs u = refl

run_whole : (s : State) (cs : List ℕ) → scalars cs ≡ true → whole (fold step s cs) [] ≡ whole s (encodes cs)
run_whole s [] u = refl
run_whole s (c ∷ cs) u =
    let parts = and_parts (scalar c) (scalars cs) u in
    run_whole (step s c) cs parts.1 ∙ step_whole s.place s.parts s.text c (encodes cs) parts.0

end_whole : (place : Place) (parts : List Part) (text : List ℕ) → finished_at place (record { parts = parts; text = text; place = place }) ≡ whole_at place parts text []
end_whole Fixed parts text = ap (λ ps. Some (parts ++ ps)) (sym (glue_end text))
end_whole Hole parts text = refl
end_whole EscapedFixed parts text = refl
end_whole EscapedHole parts text = refl
end_whole Broken parts text = refl

start_whole : (ms : Option (List Mark)) → fixed_rest [] [] ms ≡ option_and_then outside ms
start_whole None = refl
start_whole (Some ms) = option_map_id (outside ms)

-- the reader, run over a text, gives the parts of the template
pub finished-run : (text : List ℕ) → IsUtf8 text → finished (fold step start (chars text)) ≡ template_of text
finished-run text u =
    let s = fold step start (chars text) in
    end_whole s.place s.parts s.text
    ∙ run_whole start (chars text) (scalars-chars text u)
    ∙ ap (λ t. whole start t) (encodes-chars text u)
    ∙ start_whole (marks text)
