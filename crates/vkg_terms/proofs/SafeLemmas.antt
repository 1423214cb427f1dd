-- The IRI-safe form: its escapes give the text back, and it holds only iunreserved characters and `%`.
use Rattle.std.proofs.Common.{◌≡◌, ◌≢◌, ◌<◌, ◌≤◌, ◌++◌, ◌&&◌, ◌||◌, ◌==◌, ◌/◌, ◌%◌, ℕ, List, [], ◌∷◌, Bool, true, false, if◌then◌else◌, nat_lt, sym, ap, ◌∙◌, refl, arith, append_assoc, ltb-true, not}
use Rattle.std.specs.Prelude.{flat_map, chars, IsUtf8}
use Rattle.std.specs.List.{list_all}
use Rattle.std.proofs.lemmas.Str.{encodes-chars, scalars-chars, chars-append, chars-encodes, chars-IsAscii, IsUtf8-from_ascii, IsUtf8-encode, chars-nil}
use Rattle.std.proofs.lemmas.Bool.{agree_below_at}
use Rattle.std.proofs.lemmas.Bool.Decides.{nat_tests}
use Rattle.std.proofs.lemmas.List.{append-nil}
use Rattle.std.proofs.lemmas.List.Folds.{list_all-append}
use Rattle.std.proofs.Math.Utf8.{encode, encodes, scalar, scalars}
use Rattle.percent_encoding.specs.Percent.{percent_decode, percent_encode_byte}
use Rattle.percent_encoding.proofs.PercentLemmas.{percent_decode-nil, percent_decode-percent_encode_byte, percent_decode_not_percent}
use Rattle.vkg_lists.proofs.Bools.{and_true, and_parts, implied}
use Rattle.vkg_lists.proofs.Positions.{all_weaken}
use Rattle.vkg_lists.proofs.Walks.{list_all-flat_map}
use Rattle.vkg_terms.proofs.Octets.{ascii_small, encode_all, scalar_below}
use Rattle.vkg_terms.specs.Safe.{safe, safe_character, percent, is_unreserved, is_safe_character}

-- the escape of an octet is that of the kit
pub percent_kit : (b : ℕ) → b < 256 → percent b ≡ percent_encode_byte b
unfolding percent_encode_byte
percent_kit b h = let e : b / 16 % 16 ≡ b / 16 = omega arith in rw e refl

-- no octet of a character that stays is `%`
other : ℕ → Bool
other b = not (b == 37)

other_high : (b : ℕ) → 128 ≤ b → other b ≡ true
unfolding other
other_high b h = grind (arith, nat_tests)

other_kept : (c : ℕ) → scalar c ≡ true → is_unreserved c ≡ true → list_all other (encode c) ≡ true
unfolding other
other_kept c e u = encode_all other c (scalar_below c e) (λ b h _. other_high b h) (λ l. implied _ _ (agree_below_at (λ n. not (is_unreserved n) || not (n == 37)) (λ n. true) 128 c refl l) u)

other_percent : (b : ℕ) → other b ≡ true → b ≢ 37
unfolding other
other_percent b e = grind (arith, nat_tests)

pub octets : (c : ℕ) → scalar c ≡ true → list_all (λ b. nat_lt b 256) (encode c) ≡ true
octets c e = encode_all (λ b. nat_lt b 256) c (scalar_below c e) (λ b _ l. grind (arith, nat_tests)) (λ l. grind (arith, nat_tests))

decode-kept : (bs rest : List ℕ) → list_all other bs ≡ true → percent_decode (bs ++ rest) ≡ bs ++ percent_decode rest
decode-kept [] rest h = refl
decode-kept (b ∷ bs) rest h =
    let parts = and_parts (other b) (list_all other bs) h in
    percent_decode_not_percent b (bs ++ rest) (other_percent b parts.0) ∙ ap (λ (t : List ℕ). b ∷ t) (decode-kept bs rest parts.1)

decode-escaped : (bs rest : List ℕ) → list_all (λ b. nat_lt b 256) bs ≡ true → percent_decode (flat_map percent bs ++ rest) ≡ bs ++ percent_decode rest
decode-escaped [] rest h = refl
decode-escaped (b ∷ bs) rest h =
    let parts = and_parts (nat_lt b 256) (list_all (λ b. nat_lt b 256) bs) h in
    let octet : b < 256 = ltb-true b 256 parts.0 in
    ap (λ (t : List ℕ). percent_decode ((t ++ flat_map percent bs) ++ rest)) (percent_kit b octet)
    ∙ ap percent_decode (append_assoc (percent_encode_byte b) (flat_map percent bs) rest)
    ∙ percent_decode-percent_encode_byte b (flat_map percent bs ++ rest) octet
    ∙ ap (λ (t : List ℕ). b ∷ t) (decode-escaped bs rest parts.1)

decode-char : (c : ℕ) (rest : List ℕ) → scalar c ≡ true → (kept : Bool) → is_unreserved c ≡ kept
    → percent_decode ((if kept then encode c else flat_map percent (encode c)) ++ rest) ≡ encode c ++ percent_decode rest
decode-char c rest e true k = decode-kept (encode c) rest (other_kept c e k)
decode-char c rest e false k = decode-escaped (encode c) rest (octets c e)

decode-characters : (cs : List ℕ) → scalars cs ≡ true → percent_decode (flat_map safe_character cs) ≡ encodes cs
decode-characters [] e = percent_decode-nil
decode-characters (c ∷ cs) e =
    let parts = and_parts (scalar c) (scalars cs) e in
    decode-char c (flat_map safe_character cs) parts.0 (is_unreserved c) refl ∙ ap (λ (t : List ℕ). encode c ++ t) (decode-characters cs parts.1)

-- the escapes of a safe text give the text back
pub decode-safe : (text : List ℕ) → IsUtf8 text → percent_decode (safe text) ≡ text
decode-safe text u = decode-characters (chars text) (scalars-chars text u) ∙ encodes-chars text u

-- no two texts have one IRI-safe form
pub safe_same : (a b : List ℕ) → IsUtf8 a → IsUtf8 b → safe a ≡ safe b → a ≡ b
safe_same a b u v e = sym (decode-safe a u) ∙ ap percent_decode e ∙ decode-safe b v

abbrev pub plain : ℕ → Bool
plain x = is_safe_character x && nat_lt x 128

-- an octet's escape holds only ASCII that is iunreserved or `%`
pub plain_percent : (b : ℕ) → b < 256 → list_all plain (percent b) ≡ true
plain_percent b h = agree_below_at (λ n. list_all plain (percent n)) (λ n. true) 256 b refl h

plain_percents : (bs : List ℕ) → list_all (λ b. nat_lt b 256) bs ≡ true → list_all plain (flat_map percent bs) ≡ true
plain_percents bs e =
    list_all-flat_map plain percent bs
    ∙ all_weaken (λ b. nat_lt b 256) (λ b. list_all plain (percent b)) bs (λ b h. plain_percent b (ltb-true b 256 h)) e

plain_ascii : (xs : List ℕ) → list_all plain xs ≡ true → IsUtf8 xs × (list_all is_safe_character (chars xs) ≡ true)
plain_ascii xs e =
    let ascii = ascii_small xs (all_weaken plain (λ b. nat_lt b 128) xs (λ b h. (and_parts (is_safe_character b) (nat_lt b 128) h).1) e) in
    let safes = all_weaken plain is_safe_character xs (λ b h. (and_parts (is_safe_character b) (nat_lt b 128) h).0) e in
    (IsUtf8-from_ascii xs ascii, ap (list_all is_safe_character) (chars-IsAscii xs ascii) ∙ safes)

stays : (c : ℕ) → is_unreserved c ≡ true → is_safe_character c ≡ true
stays c k = ap (λ b. b || c == 37) k

-- a character's IRI-safe form is a text of such characters
plain_character : (c : ℕ) → scalar c ≡ true → (kept : Bool) → is_unreserved c ≡ kept
    → IsUtf8 (if kept then encode c else flat_map percent (encode c)) × (list_all is_safe_character (chars (if kept then encode c else flat_map percent (encode c))) ≡ true)
plain_character c e true k = (
  IsUtf8-encode c e,
  ap (list_all is_safe_character) (ap chars (sym (append-nil (encode c))) ∙ chars-encodes (c ∷ []) (and_true _ _ e refl)) ∙ and_true _ _ (stays c k) refl,
)
plain_character c e false k = plain_ascii _ (plain_percents (encode c) (octets c e))

plain_characters : (cs : List ℕ) → scalars cs ≡ true → list_all is_safe_character (chars (flat_map safe_character cs)) ≡ true
plain_characters [] e = rw chars-nil refl
plain_characters (c ∷ cs) e =
    let parts = and_parts (scalar c) (scalars cs) e in
    let one = plain_character c parts.0 (is_unreserved c) refl in
    ap (list_all is_safe_character) (chars-append (safe_character c) (flat_map safe_character cs) one.0)
    ∙ list_all-append is_safe_character (chars (safe_character c)) (chars (flat_map safe_character cs))
    ∙ and_true _ _ one.1 (plain_characters cs parts.1)

-- the IRI-safe form holds only iunreserved characters and `%`
pub safe_plain : (text : List ℕ) → IsUtf8 text → list_all is_safe_character (chars (safe text)) ≡ true
safe_plain text u = plain_characters (chars text) (scalars-chars text u)
