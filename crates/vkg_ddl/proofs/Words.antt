-- What a token says is UTF-8.
use Rattle.std.proofs.Common.{◌≡◌, ℕ, ◌+◌, ◌-◌, ◌<◌, ◌≤◌, Bool, true, false, cond, not, ◌&&◌, ◌==◌, List, [], ◌∷◌, ◌++◌, length, get_or, drop, refl, sym, ap, ◌∙◌, subst, arith, length-drop, add-zero}
use Rattle.std.specs.Prelude.{IsUtf8, chars, nat_le, if◌then◌else◌, slice_range}
use Rattle.std.specs.List.{list_all}
use Rattle.std.specs.Str.{IsCharBoundary}
use Rattle.std.proofs.lemmas.Bool.Decides.{nat_tests}
use Rattle.std.proofs.lemmas.List.{get_or-take, get_or-drop, length-take-le}
use Rattle.std.proofs.lemmas.Str.{IsUtf8-nil, IsUtf8-append, IsUtf8-encode, IsUtf8-between, IsCharBoundary-before_ascii, IsCharBoundary-after_ascii, encodes-chars, scalars-chars}
use Rattle.std.proofs.Math.Utf8.{encode, encodes, scalar, scalars}
use Rattle.std.proofs.Math.Bool.{and-false, and-true}
use Rattle.vkg_lists.proofs.Bools.{and_parts, not_true}
use Rattle.vkg_terms.proofs.Octets.{encode_all, scalar_below}
use Rattle.vkg_tokens.specs.declared.cutting.Token.{Token}
use Rattle.vkg_tokens.specs.declared.ddl_kinds.TheConstants.{DELIMITED}
use Rattle.vkg_ddl.specs.Names.{HasAsciiEnds, undoubled_from, undoubled, within, name_bytes}
use Rattle.vkg_ddl.proofs.Naming.{first_byte}

-- where no quote stands, nothing is left out
plain : (xs ys : List ℕ) (after : Bool) → list_all (λ b. not (b == 34)) xs ≡ true → (later : Bool) × (undoubled_from after (xs ++ ys) ≡ xs ++ undoubled_from later ys)
plain [] ys after e = (after, refl)
plain (x ∷ xs) ys after e =
    let h = and_parts (not (x == 34)) (list_all (λ b. not (b == 34)) xs) e in
    let other : (x == 34) ≡ false = not_true (x == 34) h.0 in
    let more = plain xs ys (x == 34) h.1 in
    (more.0, first_byte after x (xs ++ ys) false (ap (λ b. after && b) other ∙ and-false after) ∙ ap (λ zs. x ∷ zs) more.1)

module _ (c : ℕ) (cs : List ℕ) (after : Bool) (char : scalar c ≡ true) (more : (later : Bool) → IsUtf8 (undoubled_from later (encodes cs))) where
  at_quote : (b : Bool) → IsUtf8 (cond b (undoubled_from false (encodes cs)) (34 ∷ undoubled_from true (encodes cs)))
  unfolding encode
  at_quote true = more false
  at_quote false = IsUtf8-append (34 ∷ []) (undoubled_from true (encodes cs)) (IsUtf8-encode 34 refl) (more true)

  by_quote : (b : Bool) → (c == 34) ≡ b → IsUtf8 (undoubled_from after (encode c ++ encodes cs))
  unfolding encode
  by_quote true f =
      let is : 34 ≡ c = grind (arith, nat_tests) in
      subst (λ d. IsUtf8 (undoubled_from after (encode d ++ encodes cs))) is (subst IsUtf8 (sym (first_byte after 34 (encodes cs) after (and-true after))) (at_quote after))
  by_quote false f =
      let p = plain (encode c) (encodes cs) after (encode_all (λ b. not (b == 34)) c (scalar_below c char) (λ b l k. grind (arith, nat_tests)) (λ l. ap not f)) in
      subst IsUtf8 (sym p.1) (IsUtf8-append (encode c) (undoubled_from p.0 (encodes cs)) (IsUtf8-encode c char) (more p.0))

undoubled_chars : (cs : List ℕ) (after : Bool) → scalars cs ≡ true → IsUtf8 (undoubled_from after (encodes cs))
unfolding undoubled_from
undoubled_chars [] after e = IsUtf8-nil
undoubled_chars (c ∷ cs) after e =
    let h = and_parts (scalar c) (scalars cs) e in
    by_quote c cs after h.0 (λ later. undoubled_chars cs later h.1) (c == 34) refl

undoubled_utf8 : (bs : List ℕ) → IsUtf8 bs → IsUtf8 (undoubled bs)
undoubled_utf8 bs u = subst (λ xs. IsUtf8 (undoubled_from false xs)) (encodes-chars bs u) (undoubled_chars (chars bs) false (scalars-chars bs u))

-- between ends of which both are ASCII stands UTF-8, with them and without them
between_ends : (bs : List ℕ) (i j : ℕ) → IsUtf8 bs → i < j → j ≤ length bs → get_or bs i 0 < 128 → get_or bs (j - 1) 0 < 128 → IsUtf8 (slice_range bs i j)
between_ends bs i j u s l first last =
    let end : j - 1 + 1 ≡ j = omega arith in
    IsUtf8-between bs i j u (omega (arith, s)) (IsCharBoundary-before_ascii bs i (omega (arith, s, l)) first) (subst (IsCharBoundary bs) end (IsCharBoundary-after_ascii bs (j - 1) u (omega (arith, s, l)) last))

within_ends : (bs : List ℕ) → IsUtf8 bs → 2 ≤ length bs → get_or bs 0 0 < 128 → get_or bs (length bs - 1) 0 < 128 → IsUtf8 (within bs)
within_ends bs u s first last = IsUtf8-between bs 1 (length bs - 1) u (omega (arith, s)) (IsCharBoundary-after_ascii bs 0 u (omega (arith, s)) first) (IsCharBoundary-before_ascii bs (length bs - 1) (omega (arith, s)) last)

said_utf8 : (kind : ℕ) (bs : List ℕ) → IsUtf8 bs → get_or bs 0 0 < 128 → get_or bs (length bs - 1) 0 < 128 → IsUtf8 (if (kind == DELIMITED) && nat_le 2 (length bs) then undoubled (within bs) else bs)
said_utf8 kind bs u first last = by_test ((kind == DELIMITED) && nat_le 2 (length bs)) refl
  where
    by_test : (b : Bool) → ((kind == DELIMITED) && nat_le 2 (length bs)) ≡ b → IsUtf8 (if b then undoubled (within bs) else bs)
    by_test true e = let two = (and_parts (kind == DELIMITED) (nat_le 2 (length bs)) e).1 in undoubled_utf8 (within bs) (within_ends bs u (grind (arith, nat_tests)) first last)
    by_test false e = u

-- what a token says, where it begins and ends with ASCII bytes
pub word_utf8 : (text : List ℕ) (t : Token) → IsUtf8 text → t.start < t.end → t.end ≤ length text → HasAsciiEnds text t → IsUtf8 (name_bytes text t)
word_utf8 text t u s l h =
    let n : ℕ = t.end - t.start in
    let size : length (slice_range text t.start t.end) ≡ n = length-take-le n (drop t.start text) (omega (arith, length-drop t.start text, l)) in
    let first : get_or (slice_range text t.start t.end) 0 0 ≡ get_or text t.start 0 = get_or-take n (drop t.start text) 0 0 (omega (arith, s)) ∙ get_or-drop t.start text 0 0 ∙ ap (λ k. get_or text k 0) (add-zero t.start) in
    let end : t.start + (n - 1) ≡ t.end - 1 = omega (arith, s) in
    let last : get_or (slice_range text t.start t.end) (length (slice_range text t.start t.end) - 1) 0 ≡ get_or text (t.end - 1) 0 = ap (λ k. get_or (slice_range text t.start t.end) (k - 1) 0) size ∙ get_or-take n (drop t.start text) (n - 1) 0 (omega (arith, s)) ∙ get_or-drop t.start text (n - 1) 0 ∙ ap (λ k. get_or text k 0) end in
    said_utf8 t.kind (slice_range text t.start t.end) (between_ends text t.start t.end u s l h.0 h.1) (subst (λ v. v < 128) (sym first) h.0) (subst (λ v. v < 128) (sym last) h.1)
