-- How the characters of a literal are written, and what a reader makes of them.
use Rattle.std.proofs.Common.{◌≡◌, ◌≢◌, ◌<◌, ◌++◌, ℕ, List, [], ◌∷◌, length, length-append, sym, ap, ◌∙◌, arith, append_assoc, subst, inl, inr}
use Rattle.std.specs.Prelude.{flat_map, chars, IsUtf8}
use Rattle.std.proofs.lemmas.Bool.Decides.{nat_tests}
use Rattle.std.proofs.lemmas.List.{append-nil}
use Rattle.std.proofs.lemmas.Str.{encode_ascii, encode_same, length-encode, len_utf8_bounds, encodes-chars}
use Rattle.std.proofs.Math.Utf8.{encode, encodes}
use Rattle.vkg_terms.specs.NQuads.{escaped}
use Rattle.vkg_terms.proofs.TextLemmas.{Written, not_quote, octet, unescaped, written}
use Rattle.vkg_lists.proofs.Heads.{head_same, tail_same}

joined : (v w x y : List ℕ) → v ≡ w → x ≡ v ++ y → x ≡ w ++ y
joined v w x y p e = e ∙ ap (λ (l : List ℕ). l ++ y) p

-- a character that is no backslash stands for itself
by_itself : (c d : ℕ) (v rest more : List ℕ) → Written c v → d ≢ 92 → encode d ++ more ≡ v ++ rest → (d ≡ c) × (more ≡ rest)
by_itself c d v rest more (inl (e, p, m, inline, low)) back same = absurd (back (octet d 92 more (e ∷ rest) (omega arith) (joined v (92 ∷ e ∷ []) _ rest p same)).0)
by_itself c d v rest more (inr (quote, back, inline, p)) _ same = encode_same d c more rest (joined v (encode c) _ rest p same)

pub character_as_is : (c d : ℕ) (text rest more : List ℕ) → text ≡ encode d ++ more → d ≢ 92 → text ≡ escaped c ++ rest → (d ≡ c) × (more ≡ rest)
character_as_is c d text rest more is back e = by_itself c d (escaped c) rest more (written c) back (sym is ∙ e)

by_escape : (c letter : ℕ) (v : List ℕ) → Written c v → v ≡ 92 ∷ letter ∷ [] → unescaped letter ≡ c
by_escape c letter v (inl (e, p, m, inline, low)) is = subst (λ d. unescaped d ≡ c) (head_same _ _ _ _ (tail_same _ _ _ _ (sym p ∙ is))) m
by_escape c letter v (inr (quote, back, inline, p)) is = absurd (back (octet c 92 [] (letter ∷ []) (omega arith) (append-nil (encode c) ∙ sym p ∙ is)).0)

pub meant_is : (c letter : ℕ) → escaped c ≡ 92 ∷ letter ∷ [] → unescaped letter ≡ c
meant_is c letter is = by_escape c letter (escaped c) (written c) is

-- what a letter stands for, by its number
pub means_letter : (n e c : ℕ) → e ≡ n → unescaped e ≡ c → unescaped n ≡ c
means_letter n e c h m = ap unescaped (sym h) ∙ m

pub means_itself : (e c : ℕ) → e ≢ 110 → e ≢ 114 → e ≢ 116 → unescaped e ≡ c → e ≡ c
means_itself e c feed return tab m = grind (arith, nat_tests)

-- behind a backslash stands the letter of an escape
by_letter : (c d : ℕ) (v rest more after : List ℕ) → Written c v → encode 92 ++ more ≡ v ++ rest → more ≡ encode d ++ after → (v ≡ 92 ∷ d ∷ []) × (after ≡ rest)
by_letter c d v rest more after (inl (e, p, m, inline, low)) same next =
    let letter = octet 92 92 more (e ∷ rest) (omega arith) (joined v (92 ∷ e ∷ []) _ rest p same) in
    let parts = octet d e after rest low (sym next ∙ letter.1) in
    (p ∙ ap (λ n. 92 ∷ n ∷ []) (sym parts.0), parts.1)
by_letter c d v rest more after (inr (quote, back, inline, p)) same next = absurd (back (sym (encode_same 92 c more rest (joined v (encode c) _ rest p same)).0))

pub character_escaped : (c d : ℕ) (text rest more after : List ℕ) → text ≡ encode 92 ++ more → more ≡ encode d ++ after → text ≡ escaped c ++ rest → (escaped c ≡ 92 ∷ d ∷ []) × (after ≡ rest)
character_escaped c d text rest more after is next e = by_letter c d (escaped c) rest more after (written c) (sym is ∙ e) next

by_no_letter : (c : ℕ) (v rest more : List ℕ) → Written c v → encode 92 ++ more ≡ v ++ rest → length more ≡ 0 → ⊥
by_no_letter c v rest more (inl (e, p, m, inline, low)) same none =
    let letter = ap length (octet 92 92 more (e ∷ rest) (omega arith) (joined v (92 ∷ e ∷ []) _ rest p same)).1 in
    omega arith
by_no_letter c v rest more (inr (quote, back, inline, p)) same none = back (sym (encode_same 92 c more rest (joined v (encode c) _ rest p same)).0)

-- a backslash is not the last character of a text that goes on with a character
pub letter_lacks : (c : ℕ) (text rest more : List ℕ) → text ≡ encode 92 ++ more → length more ≡ 0 → text ≡ escaped c ++ rest → ⊥
letter_lacks c text rest more is none e = by_no_letter c (escaped c) rest more (written c) (sym is ∙ e) none

-- a text that goes on with a character begins with no quote
pub no_character : (c : ℕ) (text rest more : List ℕ) → text ≡ encode 34 ++ more → text ≡ escaped c ++ rest → ⊥
no_character c text rest more is e = not_quote c rest more (sym e ∙ is ∙ ap (λ (l : List ℕ). l ++ more) (encode_ascii 34 (omega arith)))

by_some : (c : ℕ) (v : List ℕ) → Written c v → 0 < length v
by_some c v (inl (e, p, m, inline, low)) = let n = ap length p in omega arith
by_some c v (inr (quote, back, inline, p)) = let n = ap length p ∙ length-encode c in omega (arith, len_utf8_bounds c)

pub never_empty : (c : ℕ) (text rest : List ℕ) → length text ≡ 0 → text ≡ escaped c ++ rest → ⊥
never_empty c text rest none e =
    let n = ap length e ∙ length-append (escaped c) rest in
    omega (arith, by_some c (escaped c) (written c))

-- a text that begins with a quote begins with the character
pub at_quote : (d : ℕ) (text rest more : List ℕ) → text ≡ encode d ++ more → text ≡ 34 ∷ rest → d ≡ 34
at_quote d text rest more is e = (octet d 34 more rest (omega arith) (sym is ∙ e)).0

-- so much of a literal has been read: where it is a form and its closing quote, the characters that are left make up the form
abbrev pub HasRead : List ℕ → List ℕ → List ℕ → Type 0
HasRead text done left = (form rest : List ℕ) → IsUtf8 form → text ≡ flat_map escaped (chars form) ++ 34 ∷ rest
    → (more : List ℕ) × (done ++ encodes more ≡ form) × (left ≡ flat_map escaped more ++ 34 ∷ rest)

pub read_none : (text done : List ℕ) → done ≡ [] → HasRead text done text
read_none text done none form rest u e = (chars form, ap (λ (l : List ℕ). l ++ encodes (chars form)) none ∙ encodes-chars form u, e)

abbrev pub GoesOn : List ℕ → ℕ → List ℕ → Type 0
GoesOn left c behind = (d : ℕ) (rest : List ℕ) → left ≡ escaped d ++ rest → (c ≡ d) × (behind ≡ rest)

step : (done left form behind rest : List ℕ) (c : ℕ) (more : List ℕ) → GoesOn left c behind → ((rest : List ℕ) → left ≡ 34 ∷ rest → ⊥) → done ++ encodes more ≡ form → left ≡ flat_map escaped more ++ 34 ∷ rest
    → (later : List ℕ) × ((done ++ encode c) ++ encodes later ≡ form) × (behind ≡ flat_map escaped later ++ 34 ∷ rest)
step done left form behind rest c [] next unclosed whole is = absurd (unclosed rest is)
step done left form behind rest c (d ∷ ds) next unclosed whole is =
    let parts = next d (flat_map escaped ds ++ 34 ∷ rest) (is ∙ append_assoc (escaped d) (flat_map escaped ds) (34 ∷ rest)) in
    (ds, append_assoc done (encode c) (encodes ds) ∙ ap (λ n. done ++ (encode n ++ encodes ds)) parts.0 ∙ whole, parts.1)

pub read_more : (text done left behind now : List ℕ) (c : ℕ) → HasRead text done left → GoesOn left c behind → ((rest : List ℕ) → left ≡ 34 ∷ rest → ⊥) → now ≡ done ++ encode c → HasRead text now behind
read_more text done left behind now c h next unclosed is form rest u e =
    let have = h form rest u e in
    let more = step done left form behind rest c have.0 next unclosed have.1 have.2 in
    (more.0, ap (λ (l : List ℕ). l ++ encodes more.0) is ∙ more.1, more.2)

stop : (done left form rest : List ℕ) (more : List ℕ) → ((d : ℕ) (rest : List ℕ) → left ≡ escaped d ++ rest → ⊥) → done ++ encodes more ≡ form → left ≡ flat_map escaped more ++ 34 ∷ rest → (done ≡ form) × (left ≡ 34 ∷ rest)
stop done left form rest [] none whole is = (sym (append-nil done) ∙ whole, is)
stop done left form rest (d ∷ ds) none whole is =
    absurd (none d (flat_map escaped ds ++ 34 ∷ rest) (is ∙ append_assoc (escaped d) (flat_map escaped ds) (34 ∷ rest)))

pub read_all : (text done left : List ℕ) → HasRead text done left → ((d : ℕ) (rest : List ℕ) → left ≡ escaped d ++ rest → ⊥) → (form rest : List ℕ) → IsUtf8 form → text ≡ flat_map escaped (chars form) ++ 34 ∷ rest → (done ≡ form) × (left ≡ 34 ∷ rest)
read_all text done left h none form rest u e =
    let have = h form rest u e in
    stop done left form rest have.0 none have.1 have.2
