-- The texts of terms: no two terms have one text, and none ends within another.
use Rattle.std.proofs.Common.{nat_lt, ◌≡◌, ◌≢◌, ◌<◌, ◌++◌, ◌==◌, ℕ, List, [], ◌∷◌, Bool, true, false, if◌then◌else◌, nat_le, sym, ap, ◌∙◌, refl, arith, append_assoc, ◌⊎◌, inl, inr, not, Option, Some, None}
use Rattle.std.specs.Prelude.{flat_map, chars, IsUtf8, codes, encode_utf8}
use Rattle.std.specs.List.{list_all}
use Rattle.std.proofs.lemmas.Bool.Decides.{nat_tests}
use Rattle.std.proofs.lemmas.Str.{encode_same, encode_ascii, encodes-chars, scalars-chars}
use Rattle.std.proofs.lemmas.List.Folds.{list_all-append}
use Rattle.std.proofs.lemmas.List.{append_cancel_right}
use Rattle.std.proofs.Math.Utf8.{encode, encodes, scalar, scalars}
use Rattle.vkg_lists.proofs.Runs.{run_same, stops}
use Rattle.vkg_terms.specs.Iri.{is_iri_character}
use Rattle.vkg_terms.specs.NQuads.{Quad, term_text, line, graph_text, escaped, quoted, bracketed, annotation_text}
use Rattle.vkg_terms.specs.Writable.{HoldsText, IsWritable, IsWritableAnnotation, IsWritableIfAny, IsWritableQuad, is_visible, is_inline}
use Rattle.vkg_terms.specs.declared.term.Term.{Term}
use Rattle.vkg_terms.specs.declared.term.Term.TheVariants.{Iri, Blank, Lit}
use Rattle.vkg_terms.specs.declared.term.Annotation.{Annotation}
use Rattle.vkg_terms.specs.declared.term.Annotation.TheVariants.{Plain, Lang, Typed}
use Rattle.vkg_lists.proofs.Bools.{and_true, and_parts}
use Rattle.vkg_lists.proofs.Heads.{head_same, tail_same}
use Rattle.vkg_lists.proofs.Positions.{all_weaken}
use Rattle.vkg_lists.proofs.Walks.{list_all-flat_map}
use Rattle.vkg_terms.proofs.Octets.{encode_all, scalar_below}

-- the character that an escape stands for
abbrev pub unescaped : ℕ → ℕ
unescaped e = if e == 110 then 10 else if e == 114 then 13 else if e == 116 then 9 else e

-- how a character is written: by a backslash (92) and a letter, or as it is
abbrev pub Written : ℕ → List ℕ → Type 0
Written c text = ((e : ℕ) × (text ≡ 92 ∷ e ∷ []) × (unescaped e ≡ c) × (is_inline e ≡ true) × (e < 128)) ⊎ ((c ≢ 34) × (c ≢ 92) × (is_inline c ≡ true) × (text ≡ encode c))

written_by : (c : ℕ) (quote back feed return tab : Bool) → (c == 34) ≡ quote → (c == 92) ≡ back → (c == 10) ≡ feed → (c == 13) ≡ return → (c == 9) ≡ tab
    → Written c (if quote then codes "\\\"" else if back then codes "\\\\" else if feed then codes "\\n" else if return then codes "\\r" else if tab then codes "\\t" else encode_utf8 c)
written_by c true back feed return tab q b f r t = inl (34, refl, grind (arith, nat_tests), refl, omega arith)
written_by c false true feed return tab q b f r t = inl (92, refl, grind (arith, nat_tests), refl, omega arith)
written_by c false false true return tab q b f r t = inl (110, refl, grind (arith, nat_tests), refl, omega arith)
written_by c false false false true tab q b f r t = inl (114, refl, grind (arith, nat_tests), refl, omega arith)
written_by c false false false false true q b f r t = inl (116, refl, grind (arith, nat_tests), refl, omega arith)
written_by c false false false false false q b f r t = inr (grind (arith, nat_tests), grind (arith, nat_tests), grind (arith, nat_tests), refl)

pub written : (c : ℕ) → Written c (escaped c)
written c = written_by c _ _ _ _ _ refl refl refl refl refl

-- an ASCII octet is the character that it writes
pub octet : (c b : ℕ) (rest more : List ℕ) → b < 128 → encode c ++ rest ≡ b ∷ more → (c ≡ b) × (rest ≡ more)
octet c b rest more h e = encode_same c b rest more (e ∙ ap (λ (l : List ℕ). l ++ more) (sym (encode_ascii b h)))

written_same : (c d : ℕ) (v w x y : List ℕ) → Written c v → Written d w → v ++ x ≡ w ++ y → (c ≡ d) × (x ≡ y)
written_same c d v w x y (inl (e, p, q, _, _)) (inl (f, r, t, _, _)) same =
    let joined : 92 ∷ e ∷ x ≡ 92 ∷ f ∷ y = sym (ap (λ (l : List ℕ). l ++ x) p) ∙ same ∙ ap (λ (l : List ℕ). l ++ y) r in
    let letter = tail_same _ _ _ _ joined in
    (sym q ∙ ap unescaped (head_same _ _ _ _ letter) ∙ t, tail_same _ _ _ _ letter)
written_same c d v w x y (inl (e, p, q, _, _)) (inr (quote, back, inline, r)) same =
    absurd (back ((octet d 92 y (e ∷ x) (omega arith) (sym (sym (ap (λ (l : List ℕ). l ++ x) p) ∙ same ∙ ap (λ (l : List ℕ). l ++ y) r))).0))
written_same c d v w x y (inr (quote, back, inline, r)) (inl (e, p, q, _, _)) same =
    absurd (back ((octet c 92 x (e ∷ y) (omega arith) (sym (sym (ap (λ (l : List ℕ). l ++ y) p) ∙ sym same ∙ ap (λ (l : List ℕ). l ++ x) r))).0))
written_same c d v w x y (inr (_, _, _, p)) (inr (_, _, _, r)) same =
    encode_same c d x y (sym (ap (λ (l : List ℕ). l ++ x) p) ∙ same ∙ ap (λ (l : List ℕ). l ++ y) r)

escaped_same : (c d : ℕ) (x y : List ℕ) → escaped c ++ x ≡ escaped d ++ y → (c ≡ d) × (x ≡ y)
escaped_same c d x y same = written_same c d (escaped c) (escaped d) x y (written c) (written d) same

pub written_quote : (c : ℕ) (v x y : List ℕ) → Written c v → v ++ x ≡ 34 ∷ y → ⊥
written_quote c v x y (inl (e, p, q, _, _)) same =
    let joined : 92 ∷ e ∷ x ≡ 34 ∷ y = sym (ap (λ (l : List ℕ). l ++ x) p) ∙ same in
    let bad = head_same _ _ _ _ joined in
    omega (arith, bad)
written_quote c v x y (inr (quote, _, _, p)) same = quote ((octet c 34 x y (omega arith) (sym (sym same ∙ ap (λ (l : List ℕ). l ++ x) p))).0)

pub not_quote : (c : ℕ) (x y : List ℕ) → escaped c ++ x ≡ 34 ∷ y → ⊥
not_quote c x y same = written_quote c (escaped c) x y (written c) same

body_same : (cs ds x y : List ℕ) → flat_map escaped cs ++ 34 ∷ x ≡ flat_map escaped ds ++ 34 ∷ y → (cs ≡ ds) × (x ≡ y)
body_same [] [] x y same = (refl, tail_same _ _ _ _ same)
body_same [] (d ∷ ds) x y same = absurd (not_quote d _ _ (sym (append_assoc (escaped d) (flat_map escaped ds) (34 ∷ y)) ∙ sym same))
body_same (c ∷ cs) [] x y same = absurd (not_quote c _ _ (sym (append_assoc (escaped c) (flat_map escaped cs) (34 ∷ x)) ∙ same))
body_same (c ∷ cs) (d ∷ ds) x y same =
    let one = escaped_same c d (flat_map escaped cs ++ 34 ∷ x) (flat_map escaped ds ++ 34 ∷ y)
    (sym (append_assoc (escaped c) (flat_map escaped cs) (34 ∷ x)) ∙ same ∙ append_assoc (escaped d) (flat_map escaped ds) (34 ∷ y)) in
    let more = body_same cs ds x y one.1 in
    (ap (λ z. z ∷ cs) one.0 ∙ ap (λ zs. d ∷ zs) more.0, more.1)

pub chars_same : (a b : List ℕ) → IsUtf8 a → IsUtf8 b → chars a ≡ chars b → a ≡ b
chars_same a b u v e = sym (encodes-chars a u) ∙ ap encodes e ∙ encodes-chars b v

-- a quoted text ends at its own closing quote
quoted_same : (a b x y : List ℕ) → IsUtf8 a → IsUtf8 b → quoted a ++ x ≡ quoted b ++ y → (a ≡ b) × (x ≡ y)
quoted_same a b x y u v same =
    let opened = tail_same _ _ _ _ (sym (shape a x) ∙ same ∙ shape b y) in
    let inner = body_same (chars a) (chars b) x y opened in
    (chars_same a b u v inner.0, inner.1)
  where
    shape : (a x : List ℕ) → quoted a ++ x ≡ 34 ∷ (flat_map escaped (chars a) ++ 34 ∷ x)
    shape a x = ap (λ (l : List ℕ). 34 ∷ l) (append_assoc (flat_map escaped (chars a)) (34 ∷ []) x)

annotation_same : (a b : Annotation) → annotation_text a ≡ annotation_text b → a ≡ b
annotation_same Plain Plain e = refl
annotation_same Plain (Lang tag) e = cc e
annotation_same Plain (Typed datatype) e = cc e
annotation_same (Lang tag) Plain e = cc e
annotation_same (Lang tag) (Lang other) e = ap Lang (tail_same _ _ _ _ e)
annotation_same (Lang tag) (Typed datatype) e = let bad = head_same _ _ _ _ e in absurd (omega (arith, bad))
annotation_same (Typed datatype) Plain e = cc e
annotation_same (Typed datatype) (Lang tag) e = let bad = head_same _ _ _ _ e in absurd (omega (arith, bad))
annotation_same (Typed datatype) (Typed other) e =
    ap Typed (append_cancel_right datatype other (62 ∷ []) (tail_same _ _ _ _ (tail_same _ _ _ _ (tail_same _ _ _ _ e))))

-- no two terms have one text
pub term_text_same : (s t : Term) → HoldsText s → HoldsText t → term_text s ≡ term_text t → s ≡ t
term_text_same (Iri a) (Iri b) u v e = ap Iri (append_cancel_right a b (62 ∷ []) (tail_same _ _ _ _ e))
term_text_same (Iri a) (Blank b) u v e = let bad = head_same _ _ _ _ e in absurd (omega (arith, bad))
term_text_same (Iri a) (Lit b n) u v e = let bad = head_same _ _ _ _ e in absurd (omega (arith, bad))
term_text_same (Blank a) (Iri b) u v e = let bad = head_same _ _ _ _ e in absurd (omega (arith, bad))
term_text_same (Blank a) (Blank b) u v e = ap Blank (tail_same _ _ _ _ (tail_same _ _ _ _ e))
term_text_same (Blank a) (Lit b n) u v e = let bad = head_same _ _ _ _ e in absurd (omega (arith, bad))
term_text_same (Lit a m) (Iri b) u v e = let bad = head_same _ _ _ _ e in absurd (omega (arith, bad))
term_text_same (Lit a m) (Blank b) u v e = let bad = head_same _ _ _ _ e in absurd (omega (arith, bad))
term_text_same (Lit a m) (Lit b n) u v e =
    let parts = quoted_same a b (annotation_text m) (annotation_text n) u v e in
    ap (λ (x : List ℕ). Lit x m) parts.0 ∙ ap (Lit b) (annotation_same m n parts.1)

-- a text ends here, or goes on with a blank or a control character
abbrev pub ends : List ℕ → Bool
ends [] = true
ends (b ∷ bs) = nat_le b 32

-- up to the first octet that a test bars
pub until : (p : ℕ → Bool) (k : ℕ) (a b x y : List ℕ) → p k ≡ false → list_all p a ≡ true → list_all p b ≡ true → a ++ k ∷ x ≡ b ++ k ∷ y → (a ≡ b) × (x ≡ y)
until p k a b x y bar h g e = let r = run_same p a b (k ∷ x) (k ∷ y) h g (ap not bar) (ap not bar) e in (r.0, tail_same _ _ _ _ r.1)

not_both : (b : ℕ) → nat_lt 32 b ≡ true → nat_le b 32 ≡ true → ⊥
not_both b h g = grind (arith, nat_tests)

not_visible : (x : List ℕ) → ends x ≡ true → stops is_visible x ≡ true
not_visible [] u = refl
not_visible (b ∷ bs) u = grind (arith, nat_tests)

visible_same : (a b x y : List ℕ) → list_all is_visible a ≡ true → list_all is_visible b ≡ true → ends x ≡ true → ends y ≡ true → a ++ x ≡ b ++ y → (a ≡ b) × (x ≡ y)
visible_same a b x y h g u v e = run_same is_visible a b x y h g (not_visible x u) (not_visible y v) e

-- an IRI ends at its own bracket
bracketed_same : (a b x y : List ℕ) → list_all is_iri_character a ≡ true → list_all is_iri_character b ≡ true → bracketed a ++ x ≡ bracketed b ++ y → (a ≡ b) × (x ≡ y)
bracketed_same a b x y h g e =
    until is_iri_character 62 a b x y refl h g (tail_same _ _ _ _ (sym (shape a x) ∙ e ∙ shape b y))
  where
    shape : (a x : List ℕ) → bracketed a ++ x ≡ 60 ∷ (a ++ 62 ∷ x)
    shape a x = ap (λ (l : List ℕ). 60 ∷ l) (append_assoc a (62 ∷ []) x)

no_sign : (b : ℕ) (x y : List ℕ) → 32 < b → ends x ≡ true → x ≡ b ∷ y → ⊥
no_sign b [] y h u e = cc e
no_sign b (c ∷ x) y h u e = not_both c (let s = head_same _ _ _ _ e in grind (arith, nat_tests)) u

annotation_prefix : (m n : Annotation) (x y : List ℕ) → IsWritableAnnotation m → IsWritableAnnotation n → ends x ≡ true → ends y ≡ true → annotation_text m ++ x ≡ annotation_text n ++ y → (m ≡ n) × (x ≡ y)
annotation_prefix Plain Plain x y h g u v e = (refl, e)
annotation_prefix Plain (Lang tag) x y h g u v e = absurd (no_sign 64 x _ (omega arith) u e)
annotation_prefix Plain (Typed datatype) x y h g u v e = absurd (no_sign 94 x _ (omega arith) u e)
annotation_prefix (Lang tag) Plain x y h g u v e = absurd (no_sign 64 y _ (omega arith) v (sym e))
annotation_prefix (Lang tag) (Lang other) x y h g u v e =
    let same = visible_same tag other x y h g u v (tail_same _ _ _ _ e) in
    (ap Lang same.0, same.1)
annotation_prefix (Lang tag) (Typed datatype) x y h g u v e = let bad = head_same _ _ _ _ e in absurd (omega (arith, bad))
annotation_prefix (Typed datatype) Plain x y h g u v e = absurd (no_sign 94 y _ (omega arith) v (sym e))
annotation_prefix (Typed datatype) (Lang tag) x y h g u v e = let bad = head_same _ _ _ _ e in absurd (omega (arith, bad))
annotation_prefix (Typed datatype) (Typed other) x y h g u v e =
    let same = bracketed_same datatype other x y h g (tail_same _ _ _ _ (tail_same _ _ _ _ e)) in
    (ap Typed same.0, same.1)

-- no text of a writable term is the beginning of another's, up to a blank or the end
pub term_text_prefix : (s t : Term) (x y : List ℕ) → IsWritable s → IsWritable t → ends x ≡ true → ends y ≡ true → term_text s ++ x ≡ term_text t ++ y → (s ≡ t) × (x ≡ y)
term_text_prefix (Iri a) (Iri b) x y h g u v e = let same = bracketed_same a b x y h g e in (ap Iri same.0, same.1)
term_text_prefix (Iri a) (Blank b) x y h g u v e = let bad = head_same _ _ _ _ e in absurd (omega (arith, bad))
term_text_prefix (Iri a) (Lit b n) x y h g u v e = let bad = head_same _ _ _ _ e in absurd (omega (arith, bad))
term_text_prefix (Blank a) (Iri b) x y h g u v e = let bad = head_same _ _ _ _ e in absurd (omega (arith, bad))
term_text_prefix (Blank a) (Blank b) x y h g u v e =
    let same = visible_same a b x y h g u v (tail_same _ _ _ _ (tail_same _ _ _ _ e)) in
    (ap Blank same.0, same.1)
term_text_prefix (Blank a) (Lit b n) x y h g u v e = let bad = head_same _ _ _ _ e in absurd (omega (arith, bad))
term_text_prefix (Lit a m) (Iri b) x y h g u v e = let bad = head_same _ _ _ _ e in absurd (omega (arith, bad))
term_text_prefix (Lit a m) (Blank b) x y h g u v e = let bad = head_same _ _ _ _ e in absurd (omega (arith, bad))
term_text_prefix (Lit a m) (Lit b n) x y h g u v e =
    let parts = quoted_same a b (annotation_text m ++ x) (annotation_text n ++ y) h.0 g.0
    (sym (append_assoc (quoted a) (annotation_text m) x) ∙ e ∙ append_assoc (quoted b) (annotation_text n) y) in
    let rest = annotation_prefix m n x y h.1 g.1 u v parts.1 in
    (ap (λ (z : List ℕ). Lit z m) parts.0 ∙ ap (Lit b) rest.0, rest.1)

pub line_shape : (q : Quad) → line q ≡ term_text q.subject ++ (32 ∷ (term_text q.predicate ++ (32 ∷ (term_text q.object ++ (graph_text q.graph ++ codes " .")))))
line_shape q = shape (term_text q.subject) (term_text q.predicate) (term_text q.object) (graph_text q.graph) (codes " .")
  where
    shape : (s p o g d : List ℕ) → ((((s ++ codes " ") ++ p) ++ codes " ") ++ o) ++ g ++ d ≡ s ++ (32 ∷ (p ++ (32 ∷ (o ++ (g ++ d)))))
    shape s p o g d = simp append_assoc

-- no term's text begins with a full stop
no_stop : (t : Term) (x y : List ℕ) → 46 ∷ x ≡ term_text t ++ y → ⊥
no_stop (Iri a) x y e = let bad = head_same _ _ _ _ e in omega (arith, bad)
no_stop (Blank a) x y e = let bad = head_same _ _ _ _ e in omega (arith, bad)
no_stop (Lit a m) x y e = let bad = head_same _ _ _ _ e in omega (arith, bad)

graph_same : (g h : Option Term) → IsWritableIfAny g → IsWritableIfAny h → graph_text g ++ codes " ." ≡ graph_text h ++ codes " ." → g ≡ h
graph_same None None u v e = refl
graph_same None (Some t) u v e = absurd (no_stop t [] (codes " .") (tail_same _ _ _ _ e))
graph_same (Some t) None u v e = absurd (no_stop t [] (codes " .") (sym (tail_same _ _ _ _ e)))
graph_same (Some s) (Some t) u v e = ap Some (term_text_prefix s t (codes " .") (codes " .") u v refl refl (tail_same _ _ _ _ e)).0

graph_ends : (g : Option Term) → ends (graph_text g ++ codes " .") ≡ true
graph_ends None = refl
graph_ends (Some t) = refl

-- no two quads have one line
pub line_same : (p q : Quad) → IsWritableQuad p → IsWritableQuad q → line p ≡ line q → p ≡ q
line_same p q u v e =
    let subject = term_text_prefix p.subject q.subject _ _ u.subject v.subject refl refl (sym (line_shape p) ∙ e ∙ line_shape q) in
    let predicate = term_text_prefix p.predicate q.predicate _ _ u.predicate v.predicate refl refl (tail_same _ _ _ _ subject.1) in
    let object = term_text_prefix p.object q.object _ _ u.object v.object (graph_ends p.graph) (graph_ends q.graph) (tail_same _ _ _ _ predicate.1) in
    let graph = graph_same p.graph q.graph u.graph v.graph object.1 in
    λ i. record { subject = subject.0 i; predicate = predicate.0 i; object = object.0 i; graph = graph i }

inline_written : (c : ℕ) (text : List ℕ) → c < 1114112 → Written c text → list_all is_inline text ≡ true
inline_written c text h (inl (e, p, _, inline, _)) = ap (list_all is_inline) p ∙ and_true _ _ inline refl
inline_written c text h (inr (quote, back, inline, p)) =
    ap (list_all is_inline) p ∙ encode_all is_inline c h (λ b low _. grind (arith, nat_tests)) (λ _. inline)

inline_body : (cs : List ℕ) → scalars cs ≡ true → list_all is_inline (flat_map escaped cs) ≡ true
inline_body cs e =
    list_all-flat_map is_inline escaped cs
    ∙ all_weaken scalar (λ c. list_all is_inline (escaped c)) cs (λ c s. inline_written c (escaped c) (scalar_below c s) (written c)) e

inline_append : (a b : List ℕ) → list_all is_inline a ≡ true → list_all is_inline b ≡ true → list_all is_inline (a ++ b) ≡ true
inline_append a b h g = list_all-append is_inline a b ∙ and_true _ _ h g

inline_visible : (b : ℕ) → is_visible b ≡ true → is_inline b ≡ true
inline_visible b h = grind (arith, nat_tests)

inline_iri : (b : ℕ) → is_iri_character b ≡ true → is_inline b ≡ true
inline_iri b h = inline_visible b (let low = (and_parts (not (nat_le b 32)) _ h).0 in grind (arith, nat_tests))

inline_bracketed : (iri : List ℕ) → list_all is_iri_character iri ≡ true → list_all is_inline (bracketed iri) ≡ true
inline_bracketed iri h = inline_append iri (codes ">") (all_weaken is_iri_character is_inline iri inline_iri h) refl

inline_annotation : (a : Annotation) → IsWritableAnnotation a → list_all is_inline (annotation_text a) ≡ true
inline_annotation Plain h = refl
inline_annotation (Lang tag) h = all_weaken is_visible is_inline tag inline_visible h
inline_annotation (Typed datatype) h = inline_bracketed datatype h

-- the text of a writable term stands in one line, and in one field of a line
pub term_text_inline : (t : Term) → IsWritable t → list_all is_inline (term_text t) ≡ true
term_text_inline (Iri iri) h = inline_bracketed iri h
term_text_inline (Blank label) h = all_weaken is_visible is_inline label inline_visible h
term_text_inline (Lit text annotation) h =
    inline_append (quoted text) (annotation_text annotation)
    (inline_append (flat_map escaped (chars text)) (codes "\"") (inline_body (chars text) (scalars-chars text h.0)) refl)
    (inline_annotation annotation h.1)

inline_graph : (g : Option Term) → IsWritableIfAny g → list_all is_inline (graph_text g) ≡ true
inline_graph None h = refl
inline_graph (Some t) h = term_text_inline t h

-- a quad's line is one line
pub line_inline : (q : Quad) → IsWritableQuad q → list_all is_inline (line q) ≡ true
line_inline q w =
    let s = term_text q.subject in
    let p = term_text q.predicate in
    let o = term_text q.object in
    let space = codes " " in
    let first = inline_append s space (term_text_inline q.subject w.subject) refl in
    let second = inline_append (s ++ space ++ p) space (inline_append (s ++ space) p first (term_text_inline q.predicate w.predicate)) refl in
    let third = inline_append (s ++ space ++ p ++ space) o second (term_text_inline q.object w.object) in
    inline_append (s ++ space ++ p ++ space ++ o ++ graph_text q.graph) (codes " .") (inline_append (s ++ space ++ p ++ space ++ o) (graph_text q.graph) third (inline_graph q.graph w.graph)) refl
