-- The fields of a text are text.
use Rattle.std.proofs.Common.{◌≡◌, ◌<◌, ◌≤◌, ◌+◌, ◌++◌, ◌&&◌, ◌==◌, ℕ, zero, suc, List, [], ◌∷◌, Bool, true, false, Option, Some, None, if◌then◌else◌, length, nat_lt, sym, ap, subst, ◌∙◌, refl, arith, ne_eqb, IsUtf8, append_assoc, le-ltb, eqb-true}
use Rattle.std.specs.Prelude.{IfSome}
use Rattle.std.specs.List.{AllByRecursion}
use Rattle.std.proofs.lemmas.Str.{IsUtf8-append, IsUtf8-encode, IsUtf8-nil, encode_ascii, encode_same, len_utf8_bounds, length-encode}
use native.Mathlib.Decide.{dec_lt}
use Rattle.std.proofs.Math.Utf8.{encode, encodes, scalars, scalar}
use Rattle.std.proofs.lemmas.Bool.{cond_both}
use Rattle.csv.specs.Machine.{Read, Runs, ends_at_end, field_after, fields_after, is_end, next_record, step}
use Rattle.csv.specs.Reading.{default_config, is_bom, records, records_from, records_next, strip_bom}
use Rattle.csv.specs.Records.{AllText}
use Rattle.csv.specs.declared.parser.Action.{Action}
use Rattle.csv.specs.declared.parser.Action.TheVariants as act
use Rattle.csv.specs.declared.parser.State.{State}
use Rattle.csv.specs.declared.parser.State.TheVariants as st
use Rattle.csv.proofs.RecordFacts.{text-more}
use Rattle.csv.proofs.ReadFacts.{run-copies}
use Rattle.vkg_lists.proofs.Bools.{and_parts}
use Rattle.vkg_tables.specs.Texts.{AreTexts}

-- each byte lies past ASCII
abbrev High : List ℕ → Type 0
High bs = AllByRecursion (λ b. 128 ≤ b) bs

High-encode : (c : ℕ) → 128 ≤ c → High (encode c)
unfolding encode
High-encode c h =
    cond_both (nat_lt c 128) _ _ High (λ t. cc (sym t ∙ le-ltb c 128 h))
    (λ _. cond_both (nat_lt c 2048) _ _ High (λ _. (omega arith, (omega arith, tt)))
    (λ _. cond_both (nat_lt c 65536) _ _ High (λ _. (omega arith, (omega arith, (omega arith, tt)))) (λ _. (omega arith, (omega arith, (omega arith, (omega arith, tt)))))))

-- the state after a byte past ASCII
abbrev high_state : State → State
high_state st.StartRecord = st.InField
high_state st.StartField = st.InField
high_state st.InField = st.InField
high_state st.InQuoted = st.InQuoted
high_state st.InEscape = st.InQuoted
high_state st.AfterQuote = st.InField
high_state st.InComment = st.InComment
high_state st.AfterCr = st.InField

abbrev high_action : State → Action
high_action st.InComment = act.Skip
high_action _ = act.Copy

step-high : (s : State) (b : ℕ) → 128 ≤ b → step default_config s b ≡ (high_state s, high_action s)
step-high s b h =
    let comma : (b == 44) ≡ false = ne_eqb b 44 (λ e. absurd (omega (arith, e, h))) in
    let quote : (b == 34) ≡ false = ne_eqb b 34 (λ e. absurd (omega (arith, e, h))) in
    let cr : (b == 13) ≡ false = ne_eqb b 13 (λ e. absurd (omega (arith, e, h))) in
    let lf : (b == 10) ≡ false = ne_eqb b 10 (λ e. absurd (omega (arith, e, h))) in
    elim s as (λ s. step default_config s b ≡ (high_state s, high_action s)) [
      | st.StartRecord ↦ rw (comma, quote, cr, lf) refl
      | st.StartField ↦ rw (comma, quote, cr, lf) refl
      | st.InField ↦ rw (comma, cr, lf) refl
      | st.InQuoted ↦ rw quote refl
      | st.InEscape ↦ refl
      | st.AfterQuote ↦ rw (comma, quote, cr, lf) refl
      | st.InComment ↦ rw lf refl
      | st.AfterCr ↦ rw (comma, quote, cr, lf) refl
    ]

Runs-high : (s : State) → high_state s ≡ s → high_action s ≡ act.Copy → (bs : List ℕ) → High bs → Runs default_config s bs
unfolding Runs
Runs-high s e a [] h = tt
Runs-high s e a (b ∷ bs) h = (step-high s b h.0 ∙ (λ i. (e i, a i)), Runs-high s e a bs h.1)

-- the bytes before the rest leave a state and a field that is text
abbrev Fed : List (List ℕ) → List ℕ → Option Read → Type 0
Fed fields rest o = (s : State) × (field : List ℕ) × IsUtf8 field × (o ≡ next_record default_config s fields field rest)

skips-high : (bs : List ℕ) → High bs → (fields : List (List ℕ)) (field rest : List ℕ)
    → next_record default_config st.InComment fields field (bs ++ rest) ≡ next_record default_config st.InComment fields field rest
unfolding next_record
skips-high [] h fields field rest = refl
skips-high (b ∷ bs) h fields field rest = rw (step-high st.InComment b h.0) (skips-high bs h.1 fields field rest)

copies-high : (s s2 : State) → high_state s ≡ s2 → high_action s ≡ act.Copy → high_state s2 ≡ s2 → high_action s2 ≡ act.Copy
    → (b : ℕ) (bs : List ℕ) → 128 ≤ b → High bs → IsUtf8 (b ∷ bs) → (fields : List (List ℕ)) (field rest : List ℕ) → IsUtf8 field
    → Fed fields rest (next_record default_config s fields field (b ∷ (bs ++ rest)))
unfolding next_record
copies-high s s2 e a e2 a2 b bs hb hbs u fields field rest uf =
    let first : step default_config s b ≡ (s2, act.Copy) = step-high s b hb ∙ (λ i. (e i, a i)) in
    let all : next_record default_config s fields field (b ∷ (bs ++ rest)) ≡ next_record default_config s2 fields (field ++ (b ∷ bs)) rest =
    rw first (run-copies default_config s2 fields (field ++ (b ∷ [])) bs rest (Runs-high s2 e2 a2 bs hbs)
    ∙ ap (λ (f : List ℕ). next_record default_config s2 fields f rest) (append_assoc field (b ∷ []) bs)) in
    (s2, field ++ (b ∷ bs), IsUtf8-append field (b ∷ bs) uf u, all)

char-high : (s : State) (bs : List ℕ) → High bs → IsUtf8 bs → 0 < length bs → (fields : List (List ℕ)) (field rest : List ℕ) → IsUtf8 field
    → Fed fields rest (next_record default_config s fields field (bs ++ rest))
char-high s [] h u n fields field rest uf = absurd (omega (arith, n))
char-high st.StartRecord (b ∷ bs) h u n fields field rest uf = copies-high st.StartRecord st.InField refl refl refl refl b bs h.0 h.1 u fields field rest uf
char-high st.StartField (b ∷ bs) h u n fields field rest uf = copies-high st.StartField st.InField refl refl refl refl b bs h.0 h.1 u fields field rest uf
char-high st.InField (b ∷ bs) h u n fields field rest uf = copies-high st.InField st.InField refl refl refl refl b bs h.0 h.1 u fields field rest uf
char-high st.InQuoted (b ∷ bs) h u n fields field rest uf = copies-high st.InQuoted st.InQuoted refl refl refl refl b bs h.0 h.1 u fields field rest uf
char-high st.InEscape (b ∷ bs) h u n fields field rest uf = copies-high st.InEscape st.InQuoted refl refl refl refl b bs h.0 h.1 u fields field rest uf
char-high st.AfterQuote (b ∷ bs) h u n fields field rest uf = copies-high st.AfterQuote st.InField refl refl refl refl b bs h.0 h.1 u fields field rest uf
char-high st.InComment (b ∷ bs) h u n fields field rest uf = (st.InComment, field, uf, skips-high (b ∷ bs) h fields field rest)
char-high st.AfterCr (b ∷ bs) h u n fields field rest uf = copies-high st.AfterCr st.InField refl refl refl refl b bs h.0 h.1 u fields field rest uf

-- a read gave text, and left text
abbrev Textual : Option Read → Type 0
Textual o = IfSome o (λ p. AllText p.0 × IsUtf8 p.2)

fields-text : (a : Action) (fields : List (List ℕ)) (field : List ℕ) → AllText fields → IsUtf8 field → AllText (fields_after a fields field)
fields-text act.EndField fields field t u = text-more fields field t u
fields-text act.Skip fields field t u = t
fields-text act.Copy fields field t u = t
fields-text act.EndRecord fields field t u = text-more fields field t u

field-text : (a : Action) (c : ℕ) (field : List ℕ) → IsUtf8 (c ∷ []) → IsUtf8 field → IsUtf8 (field_after a c field)
field-text act.EndField c field uc u = IsUtf8-nil
field-text act.Skip c field uc u = u
field-text act.Copy c field uc u = IsUtf8-append field (c ∷ []) u uc
field-text act.EndRecord c field uc u = IsUtf8-nil

text-next : (cs : List ℕ) → scalars cs ≡ true → (s : State) (fields : List (List ℕ)) (field : List ℕ) → AllText fields → IsUtf8 field
    → Textual (next_record default_config s fields field (encodes cs))
unfolding next_record
text-next [] e s fields field t u = cond_both (ends_at_end s) _ None Textual (λ _. (text-more fields field t u, IsUtf8-nil)) (λ _. tt)
text-next (c ∷ cs) e s fields field t u =
    let parts = and_parts (scalar c) (scalars cs) e in
    let uc = IsUtf8-encode c parts.0 in
    elim (dec_lt c 128) [
      | yes low ↦
          let one = encode_ascii c low in
          let a = step default_config s c in
          rw one (cond_both (is_end a.1) (Some (fields_after a.1 fields field, a.0, encodes cs)) (next_record default_config a.0 (fields_after a.1 fields field) (field_after a.1 c field) (encodes cs)) Textual
          (λ _. (fields-text a.1 fields field t u, (cs, (parts.1, refl))))
          (λ _. text-next cs parts.1 a.0 (fields_after a.1 fields field) (field_after a.1 c field) (fields-text a.1 fields field t u) (field-text a.1 c field (subst IsUtf8 one uc) u)))
      | no high ↦
          let long : 0 < length (encode c) = omega (arith, length-encode c, (len_utf8_bounds c).0) in
          let fed = char-high s (encode c) (High-encode c (omega arith)) uc long fields field (encodes cs) u in
          subst Textual (sym fed.3) (text-next cs parts.1 fed.0 fields fed.1 t fed.2)
    ]

after : (more : State → List ℕ → List (List (List ℕ))) → ((s : State) (xs : List ℕ) → IsUtf8 xs → AreTexts (more s xs))
    → (o : Option Read) → Textual o → AreTexts (records_next more o)
after more h None t = tt
after more h (Some p) t = (t.0, h p.1 p.2 t.1)

texts-from : (n : ℕ) (s : State) (xs : List ℕ) → IsUtf8 xs → AreTexts (records_from default_config n s xs)
unfolding records_from AllText
texts-from zero s xs u = tt
texts-from (suc n) s xs u =
    let first : Textual (next_record default_config s [] [] xs) = subst (λ t. Textual (next_record default_config s [] [] t)) u.1.1 (text-next u.0 u.1.0 s [] [] tt IsUtf8-nil) in
    after (records_from default_config n) (λ s2 xs2 u2. texts-from n s2 xs2 u2) (next_record default_config s [] [] xs) first

pub AreTexts-records : (xs : List ℕ) → IsUtf8 xs → AreTexts (records default_config xs)
AreTexts-records xs u = texts-from (length xs + 1) st.StartRecord xs u

-- a text without its byte order mark is text
mark : encode 0xFEFF ≡ 0xEF ∷ 0xBB ∷ 0xBF ∷ []
unfolding encode
mark = refl

stripped : (cs : List ℕ) → scalars cs ≡ true → (a b c : ℕ) (rest : List ℕ) → encodes cs ≡ a ∷ b ∷ c ∷ rest → (m : Bool) → is_bom a b c ≡ m → IsUtf8 (if m then rest else a ∷ b ∷ c ∷ rest)
stripped cs e a b c rest is false m = (cs, (e, is))
stripped [] e a b c rest is true m = cc is
stripped (d ∷ cs) e a b c rest is true m =
    let two = and_parts (a == 0xEF && b == 0xBB) (c == 0xBF) m in
    let one = and_parts (a == 0xEF) (b == 0xBB) two.0 in
    let ea : a ≡ 0xEF = eqb-true a 0xEF one.0 in
    let eb : b ≡ 0xBB = eqb-true b 0xBB one.1 in
    let ec : c ≡ 0xBF = eqb-true c 0xBF two.1 in
    let joined : encode d ++ encodes cs ≡ encode 0xFEFF ++ rest = rw mark (is ∙ (λ i. ea i ∷ eb i ∷ ec i ∷ rest)) in
    let same = encode_same d 0xFEFF (encodes cs) rest joined in
    (cs, ((and_parts (scalar d) (scalars cs) e).1, same.1))

pub IsUtf8-strip_bom : (xs : List ℕ) → IsUtf8 xs → IsUtf8 (strip_bom xs)
unfolding strip_bom
IsUtf8-strip_bom [] u = u
IsUtf8-strip_bom (a ∷ []) u = u
IsUtf8-strip_bom (a ∷ b ∷ []) u = u
IsUtf8-strip_bom (a ∷ b ∷ c ∷ rest) u = stripped u.0 u.1.0 a b c rest u.1.1 (is_bom a b c) refl
