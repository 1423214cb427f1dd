-- A delimited identifier is read an octet at a time.
use Rattle.std.proofs.Common.{◌≡◌, ◌≢◌, ◌==◌, ◌&&◌, ◌∷◌, ◌++◌, ◌↔◌, [], List, ℕ, IsTrue, sym, ap, ◌∙◌, refl, Bool, true, false, true≢false, eqb-true, arith, if◌then◌else◌}
use Rattle.std.specs.List.{flat_map}
use Rattle.std.proofs.lemmas.Bool.{eqb-false}
use Rattle.std.proofs.lemmas.Bool.Decides.{nat_tests}
use Rattle.vkg_lists.proofs.Bools.{and_parts}
use Rattle.vkg_terms.specs.Name.{closes, doubled, is_name, quoted, IsDelimited}

plain_first : (some : Bool) (b : ℕ) (more : List ℕ) → b ≢ 34 → closes some (b ∷ more) ≡ closes true more
plain_first some b [] n = let e : (b == 34) ≡ false = grind (arith, nat_tests) in ap (λ t. t && some) e
plain_first some b (c ∷ more) n = let e : (b == 34) ≡ false = grind (arith, nat_tests) in ap (λ t. if t then (c == 34) && closes true more else closes true (c ∷ more)) e

pub plain_step : (some : Bool) (rest : List ℕ) (b : ℕ) (more : List ℕ) (all : Bool) → rest ≡ b ∷ more → b ≢ 34 → closes some rest ≡ all → closes true more ≡ all
plain_step some rest b more all e n h = sym (plain_first some b more n) ∙ ap (closes some) (sym e) ∙ h

pub quote_step : (some : Bool) (rest : List ℕ) (b : ℕ) (more : List ℕ) (c : ℕ) (after : List ℕ) (all : Bool) → rest ≡ b ∷ more → more ≡ c ∷ after → b ≡ 34 → c ≡ 34 → closes some rest ≡ all → closes true after ≡ all
quote_step some rest b more c after all e f q r h =
    let doubled : closes some (34 ∷ 34 ∷ after) ≡ closes true after = refl in
    sym doubled ∙ ap (closes some) (sym (e ∙ ap (λ (l : List ℕ). b ∷ l) f ∙ ap (λ n. n ∷ c ∷ after) q ∙ ap (λ n. 34 ∷ n ∷ after) r)) ∙ h

-- ---- what closes is a delimited identifier, and no other text

plain_quoted : (b : ℕ) (name : List ℕ) → (b == 34) ≡ false → quoted (b ∷ name) ≡ b ∷ quoted name
plain_quoted b name e = ap (λ t. ((if t then 34 ∷ 34 ∷ [] else b ∷ []) ++ flat_map doubled name) ++ 34 ∷ []) e

-- behind some of the name, or all of it
abbrev IsRest : Bool → List ℕ → Type 0
IsRest some text = (name : List ℕ) × (text ≡ quoted name) × (some ≡ false → name ≢ [])

rest_more : (some : Bool) (b c : ℕ) (text : List ℕ) (t : Bool) → (b == 34) ≡ t → (closes true text ≡ true → IsRest true text) → (closes true (c ∷ text) ≡ true → IsRest true (c ∷ text))
    → (if t then (c == 34) && closes true text else closes true (c ∷ text)) ≡ true → IsRest some (b ∷ c ∷ text)
rest_more some b c text true e after here h =
    let parts = and_parts (c == 34) (closes true text) h in
    let rest = after parts.1 in
    (34 ∷ rest.0, (λ i. eqb-true b 34 e i ∷ eqb-true c 34 parts.0 i ∷ rest.1 i), λ f none. cc none)
rest_more some b c text false e after here h =
    let rest = here h in
    (b ∷ rest.0, ap (λ (l : List ℕ). b ∷ l) rest.1 ∙ sym (plain_quoted b rest.0 e), λ f none. cc none)

closed_rest : (some : Bool) (text : List ℕ) → closes some text ≡ true → IsRest some text
closed_rest some [] e = cc
closed_rest some (b ∷ []) e =
    let parts = and_parts (b == 34) some e in
    ([], ap (λ c. c ∷ []) (eqb-true b 34 parts.0), λ f. absurd (true≢false (sym parts.1 ∙ f)))
closed_rest some (b ∷ c ∷ text) e = rest_more some b c text (b == 34) refl (closed_rest true text) (closed_rest true (c ∷ text)) e

quoted_more : (some : Bool) (b : ℕ) (name : List ℕ) (t : Bool) → (b == 34) ≡ t → closes true (quoted name) ≡ true → closes some (quoted (b ∷ name)) ≡ true
quoted_more some b name true e h = ap (λ c. closes some (quoted (c ∷ name))) (eqb-true b 34 e) ∙ h
quoted_more some b name false e h = ap (closes some) (plain_quoted b name e) ∙ plain_first some b (quoted name) (eqb-false b 34 e) ∙ h

quoted_closes : (some : Bool) (name : List ℕ) → (some ≡ false → name ≢ []) → closes some (quoted name) ≡ true
quoted_closes true [] h = refl
quoted_closes false [] h = absurd (h refl refl)
quoted_closes some (b ∷ name) h = quoted_more some b name (b == 34) refl (quoted_closes true name (λ f. absurd (true≢false f)))

pub delimited_exactly : (text rest : List ℕ) (b : Bool) → b ≡ is_name text → text ≡ 34 ∷ rest → IsTrue b ↔ IsDelimited rest
delimited_exactly text rest b e begins =
    let closed : b ≡ closes false rest = e ∙ ap is_name begins in (
      (λ h. let made = closed_rest false rest (sym closed ∙ h) in (made.0, made.2 refl, made.1)),
      (λ d. closed ∙ ap (closes false) d.2 ∙ quoted_closes false d.0 (λ f. d.1)),
    )
