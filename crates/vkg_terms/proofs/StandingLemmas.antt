-- What is found a character at a time is a template's standing.
use Rattle.std.proofs.Common.{◌≡◌, refl, sym, ◌∙◌, ap, ℕ, suc, List, [], ◌∷◌, ◌++◌, map, length, drop, Bool, true, false, not, cond, Option, Some, None, ◌&&◌, ◌+◌, inl, inr, arith}
use Rattle.std.specs.Prelude.{fold, filter_map, take_while, take, if◌then◌else◌, ◌==◌, is_none}
use Rattle.std.specs.List.{list_any, list_all, prefix_len}
use Rattle.std.proofs.lemmas.Bool.Decides.{eqb_tells}
use Rattle.std.proofs.lemmas.List.Folds.{fold_stays}
use Rattle.std.proofs.lemmas.List.Sums.{fold-append}
use Rattle.std.specs.Char.{is_ascii_alphabetic}
use Rattle.std.specs.Cmp.{first_so, second_so}
use Rattle.vkg_terms.specs.Iri.{is_scheme, is_scheme_character}
use Rattle.vkg_terms.specs.TemplateParts.{places, may_be_scheme, standing_at, standing}
use Rattle.vkg_terms.specs.declared.template.Part.{Part}
use Rattle.vkg_terms.specs.declared.template.Part.TheVariants as part
use Rattle.vkg_terms.specs.declared.template.Standing.{Standing}
use Rattle.vkg_terms.specs.declared.template.Standing.TheVariants as stands
use Rattle.vkg_terms.specs.declared.template_standing.Front.{Front}
use Rattle.vkg_terms.specs.declared.template_standing.Front.TheVariants.{Empty, Scheme, NoScheme, Hole, Absolute, Relative, Doubtful}
use Rattle.vkg_terms.specs.Standing.{at_colon, with_character, going, after_character, after_hole, after_part, decided}

-- a place of a template, a character or a hole
abbrev after_place : Front → Option ℕ → Front
after_place front None = after_hole front
after_place front (Some c) = after_character front c

over_text : (front : Front) (text : List ℕ) (rest : List (Option ℕ)) → fold after_place front (map Some text ++ rest) ≡ fold after_place (fold after_character front text) rest
over_text front [] rest = refl
over_text front (c ∷ cs) rest = over_text (after_character front c) cs rest

over_parts : (front : Front) (parts : List Part) → fold after_part front parts ≡ fold after_place front (places parts)
over_parts front [] = refl
over_parts front (part.Fixed text ∷ parts) = over_parts (fold after_character front text) parts ∙ sym (over_text front text (places parts))
over_parts front (part.Hole name ∷ parts) = over_parts (after_hole front) parts

-- ---- the places up to the first that may not stand in a scheme

-- that place, if there is one
abbrev Stops : List (Option ℕ) → Type 0
Stops [] = Unit {0}
Stops (p ∷ ps) = may_be_scheme p ≡ false

record Cut (ps : List (Option ℕ)) : Type 0 where
  front : List (Option ℕ)
  back : List (Option ℕ)
  is_front : take_while may_be_scheme ps ≡ front
  is_back : drop (length (take_while may_be_scheme ps)) ps ≡ back
  whole : ps ≡ front ++ back
  passes : list_all may_be_scheme front ≡ true
  stops : Stops back

cut : (ps : List (Option ℕ)) → Cut ps
cut [] = record { front = []; back = []; is_front = refl; is_back = refl; whole = refl; passes = refl; stops = tt }
cut (p ∷ ps) = split (cut ps) (may_be_scheme p) refl
  where
    split : Cut ps → (b : Bool) → may_be_scheme p ≡ b → Cut (p ∷ ps)
    split r false e =
        let n : prefix_len may_be_scheme (p ∷ ps) ≡ 0 = ap (λ b. cond b (1 + prefix_len may_be_scheme ps) 0) e in
        let f : take_while may_be_scheme (p ∷ ps) ≡ [] = ap (λ n. take n (p ∷ ps)) n in
        record { front = []; back = p ∷ ps; is_front = f; is_back = ap (λ xs. drop (length xs) (p ∷ ps)) f; whole = refl; passes = refl; stops = e }
    split r true e =
        let one : 1 + prefix_len may_be_scheme ps ≡ suc (prefix_len may_be_scheme ps) = omega arith in
        let n : prefix_len may_be_scheme (p ∷ ps) ≡ suc (prefix_len may_be_scheme ps) = ap (λ b. cond b (1 + prefix_len may_be_scheme ps) 0) e ∙ one in
        let f : take_while may_be_scheme (p ∷ ps) ≡ p ∷ take_while may_be_scheme ps = ap (λ n. take n (p ∷ ps)) n in
        record {
          front = p ∷ r.front;
          back = r.back;
          is_front = f ∙ ap (λ xs. p ∷ xs) r.is_front;
          is_back = ap (λ xs. drop (length xs) (p ∷ ps)) f ∙ r.is_back;
          whole = ap (λ xs. p ∷ xs) r.whole;
          passes = ap (λ b. b && list_all may_be_scheme r.front) e ∙ r.passes;
          stops = r.stops;
        }

-- ---- the front of a template: what all may stand in a scheme

-- a colon may not stand in a scheme
no_colon : (c : ℕ) → is_scheme_character c ≡ true → (c == 58) ≡ false
no_colon c e = elim (eqb_tells c 58) [
  | inl h ↦ let f : is_scheme_character 58 ≡ true = ap is_scheme_character (sym h.1) ∙ e in cc
  | inr h ↦ h.0
]

keeps : (front : Front) (c : ℕ) → is_scheme_character c ≡ true → going front c ≡ with_character front c
keeps front c e =
    ap (λ b. if b then at_colon front else if not (is_scheme_character c) then Relative else with_character front c) (no_colon c e)
    ∙ ap (λ b. if not b then Relative else with_character front c) e

stays_hole : (ps : List (Option ℕ)) → list_all may_be_scheme ps ≡ true → fold after_place Hole ps ≡ Hole
stays_hole [] e = refl
stays_hole (None ∷ ps) e = stays_hole ps e
stays_hole (Some c ∷ ps) e =
    ap (λ f. fold after_place f ps) (keeps Hole c (first_so (is_scheme_character c) (list_all may_be_scheme ps) e))
    ∙ stays_hole ps (second_so (is_scheme_character c) (list_all may_be_scheme ps) e)

stays_scheme : (ps : List (Option ℕ)) → list_all may_be_scheme ps ≡ true → fold after_place Scheme ps ≡ (if list_any is_none ps then Hole else Scheme)
stays_scheme [] e = refl
stays_scheme (None ∷ ps) e = stays_hole ps e
stays_scheme (Some c ∷ ps) e =
    ap (λ f. fold after_place f ps) (keeps Scheme c (first_so (is_scheme_character c) (list_all may_be_scheme ps) e))
    ∙ stays_scheme ps (second_so (is_scheme_character c) (list_all may_be_scheme ps) e)

stays_no_scheme : (ps : List (Option ℕ)) → list_all may_be_scheme ps ≡ true → fold after_place NoScheme ps ≡ (if list_any is_none ps then Hole else NoScheme)
stays_no_scheme [] e = refl
stays_no_scheme (None ∷ ps) e = stays_hole ps e
stays_no_scheme (Some c ∷ ps) e =
    ap (λ f. fold after_place f ps) (keeps NoScheme c (first_so (is_scheme_character c) (list_all may_be_scheme ps) e))
    ∙ stays_no_scheme ps (second_so (is_scheme_character c) (list_all may_be_scheme ps) e)

-- without a hole all characters may stand in a scheme
all_characters : (ps : List (Option ℕ)) → list_any is_none ps ≡ false → list_all may_be_scheme ps ≡ true → list_all is_scheme_character (filter_map (λ x. x) ps) ≡ true
all_characters [] h e = refl
all_characters (None ∷ ps) h e = cc
all_characters (Some c ∷ ps) h e =
    ap (λ b. b && list_all is_scheme_character (filter_map (λ x. x) ps)) (first_so (is_scheme_character c) (list_all may_be_scheme ps) e)
    ∙ all_characters ps h (second_so (is_scheme_character c) (list_all may_be_scheme ps) e)

abbrev front_of_characters : List ℕ → Front
front_of_characters [] = Empty
front_of_characters (c ∷ cs) = if is_ascii_alphabetic c then Scheme else NoScheme

abbrev front_made : Bool → List ℕ → Front
front_made hole cs = if hole then Hole else front_of_characters cs

front_goes : (ps : List (Option ℕ)) → list_all may_be_scheme ps ≡ true → fold after_place Empty ps ≡ front_made (list_any is_none ps) (filter_map (λ x. x) ps)
front_goes [] e = refl
front_goes (None ∷ ps) e = stays_hole ps e
front_goes (Some c ∷ ps) e =
    ap (λ f. fold after_place f ps) (keeps Empty c (first_so (is_scheme_character c) (list_all may_be_scheme ps) e))
    ∙ by_letter (is_ascii_alphabetic c)
  where
    by_letter : (b : Bool) → fold after_place (if b then Scheme else NoScheme) ps ≡ (if list_any is_none ps then Hole else if b then Scheme else NoScheme)
    by_letter true = stays_scheme ps (second_so (is_scheme_character c) (list_all may_be_scheme ps) e)
    by_letter false = stays_no_scheme ps (second_so (is_scheme_character c) (list_all may_be_scheme ps) e)

-- ---- what ends the front decides

stays_absolute : (ps : List (Option ℕ)) → fold after_place Absolute ps ≡ Absolute
stays_absolute ps = fold_stays after_place Absolute (λ p. elim p as (λ q. after_place Absolute q ≡ Absolute) [ None ↦ refl | Some c ↦ refl ]) ps

stays_relative : (ps : List (Option ℕ)) → fold after_place Relative ps ≡ Relative
stays_relative ps = fold_stays after_place Relative (λ p. elim p as (λ q. after_place Relative q ≡ Relative) [ None ↦ refl | Some c ↦ refl ]) ps

stays_doubtful : (ps : List (Option ℕ)) → fold after_place Doubtful ps ≡ Doubtful
stays_doubtful ps = fold_stays after_place Doubtful (λ p. elim p as (λ q. after_place Doubtful q ≡ Doubtful) [ None ↦ refl | Some c ↦ refl ]) ps

-- the standing that a colon, or another character, gives to a front
abbrev stands_by : Bool → Bool → List ℕ → Standing
stands_by colon hole cs = if not colon then stands.Relative else if hole then stands.Doubtful else if is_scheme cs then stands.Absolute else stands.Relative

at_last : (colon hole : Bool) (cs : List ℕ) (ps : List (Option ℕ)) → (hole ≡ false → list_all is_scheme_character cs ≡ true) → decided (fold after_place (if colon then at_colon (front_made hole cs) else Relative) ps) ≡ stands_by colon hole cs
at_last false hole cs ps h = ap decided (stays_relative ps)
at_last true true cs ps h = ap decided (stays_doubtful ps)
at_last true false [] ps h = ap decided (stays_relative ps)
at_last true false (d ∷ ds) ps h = by_letter (is_ascii_alphabetic d)
  where
    rest : list_all is_scheme_character ds ≡ true
    rest = second_so (is_scheme_character d) (list_all is_scheme_character ds) (h refl)

    by_letter : (b : Bool) → decided (fold after_place (at_colon (if b then Scheme else NoScheme)) ps) ≡ (if b && list_all is_scheme_character ds then stands.Absolute else stands.Relative)
    by_letter false = ap decided (stays_relative ps)
    by_letter true = ap decided (stays_absolute ps) ∙ ap (λ b. if b then stands.Absolute else stands.Relative) (sym rest)

going_made : (hole : Bool) (cs : List ℕ) (c : ℕ) → is_scheme_character c ≡ false → after_character (front_made hole cs) c ≡ (if c == 58 then at_colon (front_made hole cs) else Relative)
going_made true cs c e = ap (λ b. if c == 58 then at_colon Hole else if not b then Relative else Hole) e
going_made false [] c e = ap (λ b. if c == 58 then at_colon Empty else if not b then Relative else with_character Empty c) e
going_made false (d ∷ ds) c e = by_letter (is_ascii_alphabetic d)
  where
    by_letter : (b : Bool) → after_character (if b then Scheme else NoScheme) c ≡ (if c == 58 then at_colon (if b then Scheme else NoScheme) else Relative)
    by_letter true = ap (λ b. if c == 58 then at_colon Scheme else if not b then Relative else Scheme) e
    by_letter false = ap (λ b. if c == 58 then at_colon NoScheme else if not b then Relative else NoScheme) e

undecided : (hole : Bool) (cs : List ℕ) → decided (front_made hole cs) ≡ stands.Relative
undecided true cs = refl
undecided false [] = refl
undecided false (d ∷ ds) = by_letter (is_ascii_alphabetic d)
  where
    by_letter : (b : Bool) → decided (if b then Scheme else NoScheme) ≡ stands.Relative
    by_letter true = refl
    by_letter false = refl

decides : (front back : List (Option ℕ)) → list_all may_be_scheme front ≡ true → Stops back → decided (fold after_place (fold after_place Empty front) back) ≡ standing_at front back
decides front [] e stops = ap decided (front_goes front e) ∙ undecided (list_any is_none front) (filter_map (λ x. x) front)
decides front (None ∷ ps) e stops = cc
decides front (Some c ∷ ps) e stops =
    let hole = list_any is_none front in
    let cs = filter_map (λ x. x) front in
    ap (λ f. decided (fold after_place (after_character f c) ps)) (front_goes front e)
    ∙ (ap (λ f. decided (fold after_place f ps)) (going_made hole cs c stops)
    ∙ at_last (c == 58) hole cs ps (λ h. all_characters front h e))

-- the standing, a character at a time
pub standing_folds : (parts : List Part) → decided (fold after_part Empty parts) ≡ standing parts
standing_folds parts =
    let r = cut (places parts) in
    ap decided (over_parts Empty parts)
    ∙ (ap (λ ps. decided (fold after_place Empty ps)) r.whole
    ∙ (ap decided (fold-append after_place Empty r.front r.back)
    ∙ (decides r.front r.back r.passes r.stops
    ∙ (ap (λ f. standing_at f r.back) (sym r.is_front)
    ∙ ap (λ b. standing_at (take_while may_be_scheme (places parts)) b) (sym r.is_back)))))
