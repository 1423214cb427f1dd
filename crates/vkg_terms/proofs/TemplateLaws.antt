-- A text is read as a template exactly where it is that template's text.
use Rattle.std.proofs.Common.{◌≡◌, ◌≢◌, ◌==◌, ◌++◌, ◌∷◌, [], List, ℕ, sym, ap, ◌∙◌, subst, refl, Option, Some, None, Bool, true, false, if◌then◌else◌, arith, append_assoc, flat_map, map}
use Rattle.std.specs.Prelude.{option_and_then, option_map}
use Rattle.std.proofs.lemmas.Bool.Decides.{nat_tests}
use Rattle.std.proofs.lemmas.Iterator.Adapters.{option_map_id}
use Rattle.std.proofs.lemmas.List.{append-nil}
use Rattle.std.proofs.lemmas.Option.{cond_some, none-some, option_and_then_some, same_Some}
use Rattle.vkg_lists.specs.Options.{with_first}
use Rattle.vkg_lists.proofs.Onto.{first_given, map_given}
use Rattle.vkg_lists.proofs.Results.{none_if}
use Rattle.vkg_terms.specs.declared.template.Part.{Part}
use Rattle.vkg_terms.specs.declared.template.Part.TheVariants.{Fixed, Hole}
use Rattle.vkg_terms.specs.TemplateParts.{Mark, Plain, Open, Close, mark, marks, escape, onto_fixed, hole, outside, inside, template_of}
use Rattle.vkg_terms.proofs.TemplateLemmas.{marks-cons, ordinary_cons, glue, glue_end, glue_hole}
use Rattle.vkg_terms.specs.Name.{is_all_named, if_named, template_read, IsTemplateOf, IsNoTemplate}
use Rattle.vkg_terms.specs.TemplateText.{escaped, is_special, template_text, IsNormal, Reads}

-- how a mark is written
abbrev written : Mark → List ℕ
written (Plain b) = escaped b
written Open = 123 ∷ []
written Close = 125 ∷ []

-- the marks of a written text
plain_marks : (b : ℕ) (bs : List ℕ) (ms : List Mark) (s : Bool) → is_special b ≡ s → marks bs ≡ Some ms → marks ((if s then 92 ∷ b ∷ [] else b ∷ []) ++ bs) ≡ Some (Plain b ∷ ms)
plain_marks b bs ms true e h = ap (λ t. if t then with_first (Some (Plain b)) (marks bs) else None) e ∙ ap (with_first (Some (Plain b))) h
plain_marks b bs ms false e h = ordinary_cons b bs e ∙ ap (with_first (Some (Plain b))) h

marks-written : (ms : List Mark) → marks (flat_map written ms) ≡ Some ms
marks-written [] = refl
marks-written (Plain b ∷ ms) = plain_marks b (flat_map written ms) ms (is_special b) refl (marks-written ms)
marks-written (Open ∷ ms) = marks-cons 123 (flat_map written ms) refl ∙ ap (with_first (Some Open)) (marks-written ms)
marks-written (Close ∷ ms) = marks-cons 125 (flat_map written ms) refl ∙ ap (with_first (Some Close)) (marks-written ms)

mark_written : (b : ℕ) (x y : Bool) → (b == 123) ≡ x → (b == 125) ≡ y → (b == 92) ≡ false → written (if x then Open else if y then Close else Plain b) ≡ b ∷ []
mark_written b true y e f g = let h : 123 ≡ b = grind (arith, nat_tests) in ap (λ c. c ∷ []) h
mark_written b false true e f g = let h : 125 ≡ b = grind (arith, nat_tests) in ap (λ c. c ∷ []) h
mark_written b false false e f g = let h : is_special b ≡ false = grind (arith, nat_tests) in ap (λ t. if t then 92 ∷ b ∷ [] else b ∷ []) h

-- what the marks were written as
one_mark : (b : ℕ) (bs : List ℕ) (ms : List Mark) → (b == 92) ≡ false → ((rest : List Mark) → marks bs ≡ Some rest → bs ≡ flat_map written rest) → marks (b ∷ bs) ≡ Some ms → b ∷ bs ≡ flat_map written ms
one_mark b bs ms g more e =
    let (m, i, (rest, h, k)) = first_given (Some (mark b)) (marks bs) ms (sym (marks-cons b bs g) ∙ e) in
    ap (λ (t : List ℕ). b ∷ t) (more rest h)
    ∙ ap (λ (t : List ℕ). t ++ flat_map written rest) (sym (mark_written b (b == 123) (b == 125) refl refl g))
    ∙ ap (flat_map written) (ap (λ n. n ∷ rest) (same_Some (mark b) m i) ∙ k)

escaped_mark : (b c : ℕ) (bs : List ℕ) (ms : List Mark) (s : Bool) → is_special c ≡ s → (b == 92) ≡ true → ((rest : List Mark) → marks bs ≡ Some rest → bs ≡ flat_map written rest)
    → (if s then with_first (Some (Plain c)) (marks bs) else None) ≡ Some ms → b ∷ c ∷ bs ≡ flat_map written ms
escaped_mark b c bs ms false s g more e = absurd (none-some ms e)
escaped_mark b c bs ms true s g more e =
    let (m, i, (rest, h, k)) = first_given (Some (Plain c)) (marks bs) ms e in
    let back : b ≡ 92 = grind (arith, nat_tests) in
    ap (λ n. n ∷ c ∷ bs) back
    ∙ ap (λ (t : List ℕ). 92 ∷ c ∷ t) (more rest h)
    ∙ ap (λ t. (if t then 92 ∷ c ∷ [] else c ∷ []) ++ flat_map written rest) (sym s)
    ∙ ap (flat_map written) (ap (λ n. n ∷ rest) (same_Some (Plain c) m i) ∙ k)

two_marks : (b c : ℕ) (bs : List ℕ) (ms : List Mark) (x : Bool) → (b == 92) ≡ x → ((rest : List Mark) → marks bs ≡ Some rest → bs ≡ flat_map written rest) → ((rest : List Mark) → marks (c ∷ bs) ≡ Some rest → c ∷ bs ≡ flat_map written rest)
    → marks (b ∷ c ∷ bs) ≡ Some ms → b ∷ c ∷ bs ≡ flat_map written ms
two_marks b c bs ms true g more one e =
    escaped_mark b c bs ms (is_special c) refl g more (sym (ap (λ t. if t then escape c (marks bs) else with_first (Some (mark b)) (marks (c ∷ bs))) g) ∙ e)
two_marks b c bs ms false g more one e = one_mark b (c ∷ bs) ms g one e

last_mark : (b : ℕ) (ms : List Mark) (x : Bool) → (b == 92) ≡ x → marks (b ∷ []) ≡ Some ms → b ∷ [] ≡ flat_map written ms
last_mark b ms true g e = absurd (none-some ms (sym (ap (λ t. if t then None else Some (mark b ∷ [])) g) ∙ e))
last_mark b ms false g e = one_mark b [] ms g (λ rest h. ap (flat_map written) (same_Some [] rest h)) e

written-marks : (bs : List ℕ) (ms : List Mark) → marks bs ≡ Some ms → bs ≡ flat_map written ms
written-marks [] ms e = ap (flat_map written) (same_Some [] ms e)
written-marks (b ∷ []) ms e = last_mark b ms (b == 92) refl e
written-marks (b ∷ c ∷ bs) ms e = two_marks b c bs ms (b == 92) refl (written-marks bs) (written-marks (c ∷ bs)) e

-- the marks of the parts
abbrev marks_of : List Part → List Mark
marks_of [] = []
marks_of (Fixed text ∷ ps) = map Plain text ++ marks_of ps
marks_of (Hole name ∷ ps) = Open ∷ (map Plain name ++ Close ∷ marks_of ps)

written_plain : (t : List ℕ) (ms : List Mark) → flat_map written (map Plain t ++ ms) ≡ flat_map escaped t ++ flat_map written ms
written_plain [] ms = refl
written_plain (b ∷ t) ms = ap (λ (l : List ℕ). escaped b ++ l) (written_plain t ms) ∙ sym (append_assoc (escaped b) (flat_map escaped t) (flat_map written ms))

written_parts : (ps : List Part) → flat_map written (marks_of ps) ≡ template_text ps
written_parts [] = refl
written_parts (Fixed t ∷ ps) = written_plain t (marks_of ps) ∙ ap (λ (l : List ℕ). flat_map escaped t ++ l) (written_parts ps)
written_parts (Hole n ∷ ps) =
    ap (λ (l : List ℕ). 123 ∷ l) (written_plain n (Close ∷ marks_of ps) ∙ ap (λ (l : List ℕ). flat_map escaped n ++ 125 ∷ l) (written_parts ps) ∙ sym (append_assoc (flat_map escaped n) (125 ∷ []) (template_text ps)))

outside_plain : (t : List ℕ) (ms : List Mark) → outside (map Plain t ++ ms) ≡ option_map (glue t) (outside ms)
outside_plain [] ms = sym (option_map_id (outside ms))
outside_plain (b ∷ t) ms = ap (option_map (onto_fixed b)) (outside_plain t ms) ∙ by_parts (outside ms)
  where
    by_parts : (o : Option (List Part)) → option_map (onto_fixed b) (option_map (glue t) o) ≡ option_map (glue (b ∷ t)) o
    by_parts None = refl
    by_parts (Some ps) = refl

inside_plain : (n name : List ℕ) (ms : List Mark) → inside name (map Plain n ++ ms) ≡ inside (name ++ n) ms
inside_plain [] name ms = ap (λ (l : List ℕ). inside l ms) (sym (append-nil name))
inside_plain (b ∷ n) name ms = inside_plain n (name ++ b ∷ []) ms ∙ ap (λ (l : List ℕ). inside l ms) (append_assoc name (b ∷ []) n)

glue_last : (t : List ℕ) → t ≢ [] → glue t [] ≡ Fixed t ∷ []
glue_last [] n = absurd (n refl)
glue_last (b ∷ t) n = glue_end (b ∷ t)

glue_before : (t name : List ℕ) (ps : List Part) → t ≢ [] → glue t (Hole name ∷ ps) ≡ Fixed t ∷ Hole name ∷ ps
glue_before [] name ps n = absurd (n refl)
glue_before (b ∷ t) name ps n = glue_hole (b ∷ t) name ps

hole_some : (name : List ℕ) (ps : List Part) → name ≢ [] → hole name (Some ps) ≡ Some (Hole name ∷ ps)
hole_some [] ps n = absurd (n refl)
hole_some (b ∷ name) ps n = refl

outside-marks : (ps : List Part) → IsNormal ps → outside (marks_of ps) ≡ Some ps
outside-marks [] h = refl
outside-marks (Fixed t ∷ []) h = outside_plain t [] ∙ ap Some (glue_last t h.0)
outside-marks (Fixed t ∷ Fixed u ∷ ps) h = absurd h
outside-marks (Fixed t ∷ Hole n ∷ ps) h =
    outside_plain t (marks_of (Hole n ∷ ps)) ∙ ap (option_map (glue t)) (outside-marks (Hole n ∷ ps) h.1) ∙ ap Some (glue_before t n ps h.0)
outside-marks (Hole n ∷ ps) h = inside_plain n [] (Close ∷ marks_of ps) ∙ ap (hole n) (outside-marks ps h.1) ∙ hole_some n ps h.0

onto_marks : (b : ℕ) (ps : List Part) → marks_of (onto_fixed b ps) ≡ Plain b ∷ marks_of ps
onto_marks b [] = refl
onto_marks b (Fixed t ∷ ps) = refl
onto_marks b (Hole n ∷ ps) = refl

onto_normal : (b : ℕ) (ps : List Part) → IsNormal ps → IsNormal (onto_fixed b ps)
onto_normal b [] h = (λ e. cc e, tt)
onto_normal b (Fixed t ∷ []) h = (λ e. cc e, tt)
onto_normal b (Fixed t ∷ Fixed u ∷ ps) h = absurd h
onto_normal b (Fixed t ∷ Hole n ∷ ps) h = (λ e. cc e, h.1)
onto_normal b (Hole n ∷ ps) h = (λ e. cc e, h)

hole_is : (name : List ℕ) (o : Option (List Part)) (ps : List Part) → hole name o ≡ Some ps → (qs : List Part) × (o ≡ Some qs) × (Hole name ∷ qs ≡ ps) × (name ≢ [])
hole_is [] o ps e = absurd (none-some ps e)
hole_is (b ∷ name) o ps e =
    let (qs, h, k) = map_given (λ parts. Hole (b ∷ name) ∷ parts) o ps e in
    (qs, h, k, λ n. cc n)

-- what an open brace begins
record Opened (name : List ℕ) (ms : List Mark) (ps : List Part) : Type 0 where
  more : List ℕ
  rest : List Part
  parts : Hole (name ++ more) ∷ rest ≡ ps
  marked : ms ≡ map Plain more ++ Close ∷ marks_of rest
  some : (name ++ more) ≢ []
  normal : IsNormal rest

mutual
  outside_is : (ms : List Mark) (ps : List Part) → outside ms ≡ Some ps → (ms ≡ marks_of ps) × IsNormal ps
  outside_is [] ps e = let k = same_Some [] ps e in (ap marks_of k, subst IsNormal k tt)
  outside_is (Plain b ∷ ms) ps e =
      let (qs, h, k) = map_given (onto_fixed b) (outside ms) ps e in
      let more = outside_is ms qs h in
      (ap (λ ns. Plain b ∷ ns) more.0 ∙ sym (onto_marks b qs) ∙ ap marks_of k, subst IsNormal k (onto_normal b qs more.1))
  outside_is (Open ∷ ms) ps e =
      let o = inside_is [] ms ps e in
      (ap (λ ns. Open ∷ ns) o.marked ∙ ap marks_of o.parts, subst IsNormal o.parts (o.some, o.normal))
  outside_is (Close ∷ ms) ps e = absurd (none-some ps e)

  inside_is : (name : List ℕ) (ms : List Mark) (ps : List Part) → inside name ms ≡ Some ps → Opened name ms ps
  inside_is name [] ps e = absurd (none-some ps e)
  inside_is name (Plain b ∷ ms) ps e =
      let o = inside_is (name ++ b ∷ []) ms ps e in
      record {
        more = b ∷ o.more;
        rest = o.rest;
        parts = ap (λ n. Hole n ∷ o.rest) (sym (append_assoc name (b ∷ []) o.more)) ∙ o.parts;
        marked = ap (λ ns. Plain b ∷ ns) o.marked;
        some = λ n. o.some (append_assoc name (b ∷ []) o.more ∙ n);
        normal = o.normal;
      }
  inside_is name (Open ∷ ms) ps e = absurd (none-some ps e)
  inside_is name (Close ∷ ms) ps e =
      let (qs, h, k, n) = hole_is name (outside ms) ps e in
      let more = outside_is ms qs h in
      record {
        more = [];
        rest = qs;
        parts = ap (λ l. Hole l ∷ qs) (append-nil name) ∙ k;
        marked = ap (λ ns. Close ∷ ns) more.0;
        some = λ z. n (sym (append-nil name) ∙ z);
        normal = more.1;
      }

-- what the function reads is written as the text, and normal
pub template_reads : (text : List ℕ) (ps : List Part) → template_of text ≡ Some ps → Reads text ps
template_reads text ps e =
    option_and_then_some outside (marks text) ps e (λ ms h k.
    let is = outside_is ms ps k in
    record { written = written-marks text ms h ∙ ap (flat_map written) is.0 ∙ written_parts ps; normal = is.1 })

-- the text of a normal template is read as that template
pub reads_template : (text : List ℕ) (ps : List Part) → Reads text ps → template_of text ≡ Some ps
reads_template text ps r =
    ap template_of (r.written ∙ sym (written_parts ps)) ∙ ap (option_and_then outside) (marks-written (marks_of ps)) ∙ outside-marks ps r.normal

named_by : (o : Option (List Part)) (ps : List Part) → if_named o ≡ Some ps → (o ≡ Some ps) × (is_all_named ps ≡ true)
named_by None ps e = absurd (none-some ps e)
named_by (Some qs) ps e = let h = cond_some (is_all_named qs) qs ps e in (ap Some h.1, ap is_all_named (sym h.1) ∙ h.0)

pub read_is : (text : List ℕ) (ps : List Part) → template_read text ≡ Some ps → IsTemplateOf text ps
read_is text ps e = let h = named_by (template_of text) ps e in record { reads = template_reads text ps h.0; named = h.1 }

pub read_only : (text : List ℕ) (ps : List Part) → template_read text ≡ Some ps → (other : List Part) → Reads text other → other ≡ ps
read_only text ps e other r = same_Some other ps (sym (reads_template text other r) ∙ (named_by (template_of text) ps e).0)

pub read_bad : (text : List ℕ) → template_read text ≡ None → IsNoTemplate text
read_bad text e ps r = (none_if (is_all_named ps) ps None (ap if_named (sym (reads_template text ps r)) ∙ e)).0
