-- Two texts as N-Quads are ordered as their marks are at the first place at which they differ.
use Rattle.std.proofs.Common.{◌≡◌, ℕ, suc, ◌+◌, ◌*◌, ◌<◌, ◌≤◌, ◌⊎◌, inl, inr, Bool, true, false, ◌==◌, nat_lt, List, [], ◌∷◌, ◌++◌, length, Option, Some, None, refl, sym, ap, ◌∙◌, arith, append_assoc, append-nil, if◌then◌else◌, eqb-true, Ordering, Less, Equal, Greater, nat_cmp}
use Rattle.std.specs.Prelude.{IsUtf8, chars, codes, flat_map, slice_get}
use Rattle.std.specs.Ordering.{ordering_then}
use Rattle.std.specs.Cmp.{nat_cmp_is}
use Rattle.std.specs.List.{list_all}
use Rattle.std.proofs.lemmas.Bool.{cases_order, cases_Bool, eq-eqb, ne_eqb}
use Rattle.std.proofs.lemmas.Bool.Decides.{nat_tests}
use Rattle.std.proofs.lemmas.Grind.{flat_map-append}
use Rattle.std.proofs.lemmas.Str.{encode_ascii, encodes-chars, scalars-chars}
use Rattle.std.proofs.Math.Utf8.{encode, encodes, scalar, scalars}
use Rattle.vkg_lists.specs.Texts.{bytes_cmp}
use Rattle.vkg_lists.proofs.Bools.{and_parts}
use Rattle.vkg_terms.specs.NQuads.{escaped, quoted}
use Rattle.vkg_terms.proofs.Octets.{encode_all, scalar_below}
use Rattle.vkg_terms.proofs.TextLemmas.{unescaped}
use Rattle.vkg_order.specs.Marks.{bracketed_mark, bracketed_order, common_length, quoted_mark, quoted_order}

-- ---- numbers

below_is : (x y : ℕ) → x < y → nat_cmp x y ≡ Less
below_is x y h = sym (nat_cmp_is x y Less h)

same_is : (x y : ℕ) → x ≡ y → nat_cmp x y ≡ Equal
same_is x y h = sym (nat_cmp_is x y Equal h)

above_is : (x y : ℕ) → y < x → nat_cmp x y ≡ Greater
above_is x y h = sym (nat_cmp_is x y Greater h)

-- where two numbers differ, nothing behind them counts
decided : (x y : ℕ) (o p : Ordering) → (x ≡ y → ⊥) → ordering_then (nat_cmp x y) o ≡ ordering_then (nat_cmp x y) p
decided x y o p n = elim (cases_order x y) [
  | inl e ↦ absurd (n e)
  | inr (inl l) ↦ rw (below_is x y l) refl
  | inr (inr g) ↦ rw (above_is x y g) refl
]

alone : (x y : ℕ) (o : Ordering) → (x ≡ y → ⊥) → ordering_then (nat_cmp x y) o ≡ nat_cmp x y
alone x y o n = elim (cases_order x y) [
  | inl e ↦ absurd (n e)
  | inr (inl l) ↦ rw (below_is x y l) refl
  | inr (inr g) ↦ rw (above_is x y g) refl
]

alike : (x y k l : ℕ) → (x ≡ y → ⊥) → (x < y → k < l) → (y < x → l < k) → nat_cmp x y ≡ nat_cmp k l
alike x y k l n up down = elim (cases_order x y) [
  | inl e ↦ absurd (n e)
  | inr (inl h) ↦ below_is x y h ∙ sym (below_is k l (up h))
  | inr (inr g) ↦ above_is x y g ∙ sym (above_is k l (down g))
]

suc-cmp : (x y : ℕ) → nat_cmp (suc x) (suc y) ≡ nat_cmp x y
suc-cmp x y = elim (cases_order x y) [
  | inl e ↦ same_is (suc x) (suc y) (omega arith) ∙ sym (same_is x y e)
  | inr (inl h) ↦ below_is (suc x) (suc y) (omega arith) ∙ sym (below_is x y h)
  | inr (inr g) ↦ above_is (suc x) (suc y) (omega arith) ∙ sym (above_is x y g)
]

-- ---- octets as they are escaped

abbrev escaped_octet : ℕ → List ℕ
escaped_octet b =
    if b == 34 then codes "\\\""
    else if b == 92 then codes "\\\\"
    else if b == 10 then codes "\\n"
    else if b == 13 then codes "\\r"
    else if b == 9 then codes "\\t"
    else b ∷ []

high_octet : (b : ℕ) → 128 ≤ b → escaped_octet b ≡ b ∷ []
high_octet b h =
    rw (ne_eqb b 34 (λ e. omega (arith, e, h)), ne_eqb b 92 (λ e. omega (arith, e, h)), ne_eqb b 10 (λ e. omega (arith, e, h)), ne_eqb b 13 (λ e. omega (arith, e, h)), ne_eqb b 9 (λ e. omega (arith, e, h))) refl

high_octets : (bs : List ℕ) → list_all (λ b. nat_lt 127 b) bs ≡ true → flat_map escaped_octet bs ≡ bs
high_octets [] h = refl
high_octets (b ∷ bs) h =
    let p = and_parts (nat_lt 127 b) (list_all (λ b. nat_lt 127 b) bs) h in
    let l : 128 ≤ b = grind (arith, nat_tests) in
    ap (λ l. l ++ flat_map escaped_octet bs) (high_octet b l) ∙ ap (λ l. b ∷ l) (high_octets bs p.1)

low_character : (c : ℕ) → c < 128 → flat_map escaped_octet (encode c) ≡ escaped c
low_character c h =
    ap (flat_map escaped_octet) (encode_ascii c h) ∙ append-nil (escaped_octet c)
    ∙ ap (λ (l : List ℕ). if c == 34 then codes "\\\"" else if c == 92 then codes "\\\\" else if c == 10 then codes "\\n" else if c == 13 then codes "\\r" else if c == 9 then codes "\\t" else l) (sym (encode_ascii c h))

high_character : (c : ℕ) → 128 ≤ c → scalar c ≡ true → flat_map escaped_octet (encode c) ≡ escaped c
high_character c h s =
    high_octets (encode c) (encode_all (λ b. nat_lt 127 b) c (scalar_below c s) (λ b l m. grind (arith, nat_tests)) (λ l. absurd (omega arith)))
    ∙ sym (rw (ne_eqb c 34 (λ e. omega (arith, e, h)), ne_eqb c 92 (λ e. omega (arith, e, h)), ne_eqb c 10 (λ e. omega (arith, e, h)), ne_eqb c 13 (λ e. omega (arith, e, h)), ne_eqb c 9 (λ e. omega (arith, e, h))) refl)

character : (c : ℕ) → scalar c ≡ true → flat_map escaped_octet (encode c) ≡ escaped c
character c s = elim (cases_Bool (nat_lt c 128)) [
  | inl e ↦ low_character c (let l : c < 128 = grind (arith, nat_tests) in l)
  | inr e ↦ high_character c (let l : 128 ≤ c = grind (arith, nat_tests) in l) s
]

characters : (cs : List ℕ) → scalars cs ≡ true → flat_map escaped_octet (encodes cs) ≡ flat_map escaped cs
characters [] s = refl
characters (c ∷ cs) s =
    let p = and_parts (scalar c) (scalars cs) s in
    flat_map-append escaped_octet (encode c) (encodes cs) ∙ (λ i. character c p.0 i ++ characters cs p.1 i)

quoted-is : (text more : List ℕ) → IsUtf8 text → quoted text ++ more ≡ 34 ∷ (flat_map escaped_octet text ++ 34 ∷ more)
quoted-is text more u =
    ap (λ (l : List ℕ). 34 ∷ l) (append_assoc (flat_map escaped (chars text)) (34 ∷ []) more
    ∙ ap (λ (l : List ℕ). l ++ 34 ∷ more) (sym (characters (chars text) (scalars-chars text u)) ∙ ap (flat_map escaped_octet) (encodes-chars text u)))

-- ---- pieces and their marks

abbrev plain : ℕ → Option ℕ
plain c = if c == 34 then None else Some c

-- how an octet, or the end, is written and marked: by a backslash (92) and a letter, or as it is
abbrev Piece : Option ℕ → List ℕ → ℕ → Type 0
Piece o w k =
    ((e : ℕ) × (w ≡ 92 ∷ e ∷ []) × (k ≡ 23552 + e) × (e < 256) × (o ≡ Some (unescaped e)))
    ⊎ ((c : ℕ) × (w ≡ c ∷ []) × (k ≡ c * 256) × (c ≡ 92 → ⊥) × (o ≡ plain c))

end_piece : Piece None (34 ∷ []) (quoted_mark None)
end_piece = inr (34, refl, refl, (λ e. omega (arith, e)), refl)

piece_by : (b : ℕ) (q k n r t : Bool) → (b == 34) ≡ q → (b == 92) ≡ k → (b == 10) ≡ n → (b == 13) ≡ r → (b == 9) ≡ t
    → Piece (Some b) (if q then codes "\\\"" else if k then codes "\\\\" else if n then codes "\\n" else if r then codes "\\r" else if t then codes "\\t" else b ∷ [])
    (if q then 92 * 256 + 34 else if k then 92 * 256 + 92 else if n then 92 * 256 + 110 else if r then 92 * 256 + 114 else if t then 92 * 256 + 116 else b * 256)
piece_by b true k n r t eq ek en er et = inl (34, refl, refl, omega arith, ap Some (eqb-true b 34 eq))
piece_by b false true n r t eq ek en er et = inl (92, refl, refl, omega arith, ap Some (eqb-true b 92 ek))
piece_by b false false true r t eq ek en er et = inl (110, refl, refl, omega arith, ap Some (eqb-true b 10 en))
piece_by b false false false true t eq ek en er et = inl (114, refl, refl, omega arith, ap Some (eqb-true b 13 er))
piece_by b false false false false true eq ek en er et = inl (116, refl, refl, omega arith, ap Some (eqb-true b 9 et))
piece_by b false false false false false eq ek en er et = inr (b, refl, refl, (λ e. let f = eq-eqb b 92 e in cc), rw eq refl)

octet_piece : (b : ℕ) → Piece (Some b) (escaped_octet b) (quoted_mark (Some b))
octet_piece b = piece_by b _ _ _ _ _ refl refl refl refl refl

heads : (c d k l : ℕ) (s t : List ℕ) (o : Ordering) → (c ≡ d → ⊥) → (c < d → k < l) → (d < c → l < k) → bytes_cmp (c ∷ s) (d ∷ t) ≡ ordering_then (nat_cmp k l) o
heads c d k l s t o n up down =
    alone c d (bytes_cmp s t) n ∙ alike c d k l n up down ∙ sym (alone k l o differ)
  where
    differ : k ≡ l → ⊥
    differ e = elim (cases_order c d) [
      | inl f ↦ n f
      | inr (inl h) ↦ let u = up h in omega (arith, u, e)
      | inr (inr g) ↦ let v = down g in omega (arith, v, e)
    ]

-- of two pieces that are not one, the marks decide
pieces : (o p : Option ℕ) (v w s t : List ℕ) (k l : ℕ) (r : Ordering) → Piece o v k → Piece p w l → (o ≡ p → ⊥) → bytes_cmp (v ++ s) (w ++ t) ≡ ordering_then (nat_cmp k l) r
pieces o p v w s t k l r (inl (e, a, b, h, f)) (inl (d, a', b', h', f')) n =
    (λ i. bytes_cmp (a i ++ s) (a' i ++ t))
    ∙ heads e d k l s t r (λ q. n (f ∙ ap (λ x. Some (unescaped x)) q ∙ sym f')) (λ x. omega (arith, x, b, b')) (λ x. omega (arith, x, b, b'))
pieces o p v w s t k l r (inl (e, a, b, h, f)) (inr (d, a', b', h', f')) n =
    (λ i. bytes_cmp (a i ++ s) (a' i ++ t))
    ∙ heads 92 d k l (e ∷ s) t r (λ q. h' (sym q)) (λ x. omega (arith, x, b, b', h)) (λ x. omega (arith, x, b, b', h))
pieces o p v w s t k l r (inr (c, a, b, h, f)) (inl (d, a', b', h', f')) n =
    (λ i. bytes_cmp (a i ++ s) (a' i ++ t))
    ∙ heads c 92 k l s (d ∷ t) r h (λ x. omega (arith, x, b, b', h')) (λ x. omega (arith, x, b, b', h'))
pieces o p v w s t k l r (inr (c, a, b, h, f)) (inr (d, a', b', h', f')) n =
    (λ i. bytes_cmp (a i ++ s) (a' i ++ t))
    ∙ heads c d k l s t r (λ q. n (f ∙ ap plain q ∙ sym f')) (λ x. omega (arith, x, b, b')) (λ x. omega (arith, x, b, b'))

-- what two texts begin with in common does not count
common : (v s t : List ℕ) → bytes_cmp (v ++ s) (v ++ t) ≡ bytes_cmp s t
common [] s t = refl
common (x ∷ v) s t = ap (λ o. ordering_then o (bytes_cmp (v ++ s) (v ++ t))) (same_is x x refl) ∙ common v s t

marks : (a b u v : List ℕ) → bytes_cmp (flat_map escaped_octet a ++ 34 ∷ u) (flat_map escaped_octet b ++ 34 ∷ v) ≡ ordering_then (quoted_order a b) (bytes_cmp u v)
marks [] [] u v = refl
marks [] (y ∷ b) u v =
    ap (bytes_cmp (34 ∷ u)) (append_assoc (escaped_octet y) (flat_map escaped_octet b) (34 ∷ v))
    ∙ pieces None (Some y) (34 ∷ []) (escaped_octet y) u _ (quoted_mark None) (quoted_mark (Some y)) (bytes_cmp u v) end_piece (octet_piece y) (λ e. cc)
marks (x ∷ a) [] u v =
    ap (λ l. bytes_cmp l (34 ∷ v)) (append_assoc (escaped_octet x) (flat_map escaped_octet a) (34 ∷ u))
    ∙ pieces (Some x) None (escaped_octet x) (34 ∷ []) _ v (quoted_mark (Some x)) (quoted_mark None) (bytes_cmp u v) (octet_piece x) end_piece (λ e. cc)
marks (x ∷ a) (y ∷ b) u v =
    (λ i. bytes_cmp (append_assoc (escaped_octet x) (flat_map escaped_octet a) (34 ∷ u) i) (append_assoc (escaped_octet y) (flat_map escaped_octet b) (34 ∷ v) i))
    ∙ by (marks a b u v) (x == y) refl
  where
    by : bytes_cmp (flat_map escaped_octet a ++ 34 ∷ u) (flat_map escaped_octet b ++ 34 ∷ v) ≡ ordering_then (quoted_order a b) (bytes_cmp u v) → (c : Bool) → (x == y) ≡ c → bytes_cmp (escaped_octet x ++ (flat_map escaped_octet a ++ 34 ∷ u)) (escaped_octet y ++ (flat_map escaped_octet b ++ 34 ∷ v)) ≡ ordering_then (quoted_order (x ∷ a) (y ∷ b)) (bytes_cmp u v)
    by rest true e =
        ap (λ z. bytes_cmp (escaped_octet x ++ (flat_map escaped_octet a ++ 34 ∷ u)) (escaped_octet z ++ (flat_map escaped_octet b ++ 34 ∷ v))) (sym (eqb-true x y e))
        ∙ common (escaped_octet x) _ _ ∙ rest ∙ rw e refl
    by rest false e =
        pieces (Some x) (Some y) (escaped_octet x) (escaped_octet y) _ _ (quoted_mark (Some x)) (quoted_mark (Some y)) (bytes_cmp u v) (octet_piece x) (octet_piece y)
        (λ s. let f : x ≡ y = cc in let g = eq-eqb x y f in cc)
        ∙ rw e refl

pub quoted-order : (a b u v : List ℕ) → IsUtf8 a → IsUtf8 b → bytes_cmp (quoted a ++ u) (quoted b ++ v) ≡ ordering_then (quoted_order a b) (bytes_cmp u v)
quoted-order a b u v h k = (λ i. bytes_cmp (quoted-is a u h i) (quoted-is b v k i)) ∙ marks a b u v

-- ---- IRIs in brackets

pub bracketed-order : (a b : List ℕ) → bytes_cmp (a ++ 62 ∷ []) (b ++ 62 ∷ []) ≡ bracketed_order a b
bracketed-order [] [] = refl
bracketed-order [] (y ∷ []) = ap (ordering_then (nat_cmp 62 y)) (sym (below_is 0 1 (omega arith)))
bracketed-order [] (y ∷ z ∷ b) = ap (ordering_then (nat_cmp 62 y)) (sym (below_is 0 (length (y ∷ z ∷ b)) (omega arith)))
bracketed-order (x ∷ []) [] = ap (ordering_then (nat_cmp x 62)) (sym (above_is 1 0 (omega arith)))
bracketed-order (x ∷ w ∷ a) [] = ap (ordering_then (nat_cmp x 62)) (sym (above_is (length (x ∷ w ∷ a)) 0 (omega arith)))
bracketed-order (x ∷ a) (y ∷ b) = by (bracketed-order a b) (x == y) refl
  where
    by : bytes_cmp (a ++ 62 ∷ []) (b ++ 62 ∷ []) ≡ bracketed_order a b → (c : Bool) → (x == y) ≡ c → bytes_cmp (x ∷ (a ++ 62 ∷ [])) (y ∷ (b ++ 62 ∷ [])) ≡ bracketed_order (x ∷ a) (y ∷ b)
    by rest true e =
        ap (λ o. ordering_then o (bytes_cmp (a ++ 62 ∷ []) (b ++ 62 ∷ []))) (same_is x y (eqb-true x y e)) ∙ rest
        ∙ rw e (ap (ordering_then (nat_cmp (bracketed_mark (slice_get a (common_length a b))) (bracketed_mark (slice_get b (common_length a b))))) (sym (suc-cmp (length a) (length b))))
    by rest false e =
        let z : common_length (x ∷ a) (y ∷ b) ≡ 0 = rw e refl in
        decided x y (bytes_cmp (a ++ 62 ∷ []) (b ++ 62 ∷ [])) (nat_cmp (length (x ∷ a)) (length (y ∷ b))) (λ s. let g = eq-eqb x y s in cc)
        ∙ sym (ap (λ n. ordering_then (nat_cmp (bracketed_mark (slice_get (x ∷ a) n)) (bracketed_mark (slice_get (y ∷ b) n))) (nat_cmp (length (x ∷ a)) (length (y ∷ b)))) z)
