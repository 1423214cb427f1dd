-- What std finds in a text is a part of it by definition.
use Rattle.std.proofs.Common.{◌≡◌, ◌∙◌, ℕ, Bool, true, false, ◌||◌, List, [], ◌∷◌, ◌++◌, drop, length, nat_eq, refl, sym, ap, true≢false, ⊎_elim}
use Rattle.std.specs.Bool.{MatchBool}
use Rattle.std.specs.List.{starts_with}
use Rattle.std.specs.Str.Iter.{HasSubslice}
use Rattle.std.specs.Str.Pattern.{FindsText, HasMatch}
use Rattle.std.specs.Prelude.{None}
use Rattle.std.proofs.lemmas.Bool.{cases_Bool, or_cases, or_left, or_right}
use Rattle.std.proofs.lemmas.Bool.Decides.{Decides-eqb}
use Rattle.std.proofs.lemmas.Slice.Eq.{starts_is}
use Rattle.std.proofs.lemmas.Str.Pattern.{contains_text}
use Rattle.vkg_values.specs.Strings.{has_part}

at_front : (text part rest : List ℕ) → text ≡ part ++ rest → starts_with nat_eq text part ≡ true
at_front text part rest e = (starts_is Decides-eqb text part _ refl).1 rest e

front_of : (text part : List ℕ) → starts_with nat_eq text part ≡ true → text ≡ part ++ drop (length part) text
front_of text part e = (starts_is Decides-eqb text part _ refl).0 e

tail_of : (b c : ℕ) (bs cs : List ℕ) → b ∷ bs ≡ c ∷ cs → bs ≡ cs
tail_of b c bs cs e = cc

part_found : (text part before rest : List ℕ) → text ≡ before ++ (part ++ rest) → has_part text part ≡ true
part_found [] part [] rest e = at_front [] part rest e
part_found (b ∷ bs) part [] rest e = or_left (starts_with nat_eq (b ∷ bs) part) (has_part bs part) (at_front (b ∷ bs) part rest e)
part_found [] part (c ∷ cs) rest e = absurd (cc)
part_found (b ∷ bs) part (c ∷ cs) rest e = or_right (starts_with nat_eq (b ∷ bs) part) (has_part bs part) (part_found bs part cs rest (tail_of b c bs (cs ++ (part ++ rest)) e))

part_stands : (text part : List ℕ) → has_part text part ≡ true → HasSubslice text part
part_stands [] part e = ([], drop (length part) [], front_of [] part e)
part_stands (b ∷ bs) part e =
    ⊎_elim (λ h. ([], drop (length part) (b ∷ bs), front_of (b ∷ bs) part h))
    (λ h. let s = part_stands bs part h in (b ∷ s.0, s.1, ap (λ xs. b ∷ xs) s.2))
    (or_cases (starts_with nat_eq (b ∷ bs) part) (has_part bs part) e)

pub contains_part : (found : Bool) (part text : List ℕ) → MatchBool found (HasMatch (FindsText part) text) (FindsText part text None) → found ≡ has_part text part
contains_part true part text h = let s = (contains_text true part text h).0 refl in sym (part_found text part s.0 s.1 s.2)
contains_part false part text h =
    ⊎_elim (λ e. absurd (true≢false (sym ((contains_text false part text h).1 (part_stands text part e))))) (λ e. sym e)
    (cases_Bool (has_part text part))
