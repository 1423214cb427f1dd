-- The steps of a keeper, over the entries that it holds and the place of one more.
use Rattle.std.proofs.Common.{◌≡◌, ℕ, suc, ◌+◌, ◌<◌, ◌≤◌, Bool, true, false, List, [], ◌∷◌, ◌++◌, length, take, drop, Option, Some, None, refl, sym, ap, subst, ◌∙◌, arith, is_lt}
use Rattle.std.specs.Prelude.{IfSome, is_some}
use Rattle.std.specs.List.{AllByRecursion, Contains, position, position_or_len, remove}
use Rattle.std.specs.List.Sorted.{IsPartitionPoint}
use Rattle.std.specs.Str.{bytes_eq}
use Rattle.std.proofs.lemmas.List.{length-take-le, take-append-drop}
use Rattle.std.proofs.lemmas.List.Prefix.{front_rest}
use Rattle.vkg_lists.proofs.Each.{recursion_fails}
use Rattle.vkg_lists.proofs.Members.{each_from_recursion, recursion_from_each}
use Rattle.vkg_lists.proofs.Positions.{any_at, first_found, first_later, get_member, place_some, place_within}
use Rattle.vkg_lists.proofs.Texts.{bytes_test}
use Rattle.vkg_order.specs.declared.modifiers.Direction.{Direction}
use Rattle.vkg_order.specs.declared.modifiers.Modifiers.{Modifiers}
use Rattle.vkg_order.specs.Entries.{Entry, entry_cmp}
use Rattle.vkg_order.specs.Kept.{IsReady, StandFor, has_room, once_behind, repeat_place, within_slice, without_line}
use Rattle.vkg_order.specs.Listed.{IsWithin}
use Rattle.vkg_order.proofs.Steps.{Stepped, all-back, all-front, step-no_room, step-repeat, step-within}

-- ---- the entry of a line

abbrev pub has_line : List ℕ → Entry → Bool
has_line line e = bytes_eq e.line line

pub line-found : (line : List ℕ) (es : List Entry) → is_some (position (has_line line) es) ≡ true → (f : Entry) × Contains es f × (f.line ≡ line)
line-found line es h =
    let r = first_found (has_line line) es (any_at (has_line line) es ∙ h) in
    (r.0, get_member es (position_or_len (has_line line) es) r.0 r.1.at, (bytes_test.decides r.0.line line).0 r.1.passes)

pub line-lacks : (line : List ℕ) (es : List Entry) → is_some (position (has_line line) es) ≡ false → (f : Entry) → Contains es f → bytes_eq f.line line ≡ false
line-lacks line es h = each_from_recursion (λ f. bytes_eq f.line line ≡ false) es (recursion_fails (has_line line) es (any_at (has_line line) es ∙ h))

without-first : (line : List ℕ) (es : List Entry) → position_or_len (has_line line) es < length es → without_line line es ≡ remove es (position_or_len (has_line line) es)
without-first line [] h = absurd (omega arith)
without-first line (e ∷ es) h = by (without-first line es) (bytes_eq e.line line) refl
  where
    by : (position_or_len (has_line line) es < length es → without_line line es ≡ remove es (position_or_len (has_line line) es)) → (b : Bool) → bytes_eq e.line line ≡ b → without_line line (e ∷ es) ≡ remove (e ∷ es) (position_or_len (has_line line) (e ∷ es))
    by rest true q = rw q refl
    by rest false q =
        let l = first_later (has_line line) e es q in
        let u : without_line line (e ∷ es) ≡ e ∷ without_line line es = rw q refl in
        u ∙ ap (λ l. e ∷ l) (rest (omega (arith, l, h))) ∙ sym (ap (remove (e ∷ es)) l)

without-none : (line : List ℕ) (es : List Entry) → ((f : Entry) → Contains es f → bytes_eq f.line line ≡ false) → without_line line es ≡ es
without-none line es n = by es (recursion_from_each (λ f. bytes_eq f.line line ≡ false) es n)
  where
    by : (es : List Entry) → AllByRecursion (λ f. bytes_eq f.line line ≡ false) es → without_line line es ≡ es
    by [] h = refl
    by (e ∷ es) h = rw h.0 (ap (λ l. e ∷ l) (by es h.1))

remove-behind : (front : List Entry) (e : Entry) (rest : List Entry) (k n : ℕ) → n ≡ length front + suc k → remove (front ++ e ∷ rest) n ≡ front ++ e ∷ remove rest k
remove-behind [] e rest k n h = ap (remove (e ∷ rest)) (let q : n ≡ suc k = omega (arith, h) in q)
remove-behind (f ∷ front) e rest k n h =
    ap (remove (f ∷ (front ++ e ∷ rest))) (let q : n ≡ suc (length front + suc k) = omega (arith, h) in q) ∙ ap (λ l. f ∷ l) (remove-behind front e rest k (length front + suc k) refl)

pub repeat-here : (held front : List Entry) (e : Entry) (rest : List Entry) (place : ℕ) → held ≡ front ++ e ∷ rest → length front ≡ place → repeat_place (drop place held) ≡ position (has_line e.line) rest
repeat-here held front e rest place h l = ap repeat_place (ap (λ n. drop n held) (sym l) ∙ front_rest held front (e ∷ rest) h)

pub repeat-found : (held front : List Entry) (e : Entry) (rest : List Entry) (place behind : ℕ) → held ≡ front ++ e ∷ rest → length front ≡ place → position (has_line e.line) rest ≡ Some behind
    → remove held (place + 1 + behind) ≡ front ++ e ∷ without_line e.line rest
repeat-found held front e rest place behind h l q =
    let k = place_some (has_line e.line) rest behind q in
    ap (λ es. remove es (place + 1 + behind)) h ∙ remove-behind front e rest behind (place + 1 + behind) (omega (arith, l))
    ∙ ap (λ es. front ++ e ∷ es) (ap (remove rest) k ∙ sym (without-first e.line rest (let w = place_within (has_line e.line) rest behind q in omega (arith, w, k))))

pub repeat-none : (held front : List Entry) (e : Entry) (rest : List Entry) → held ≡ front ++ e ∷ rest → position (has_line e.line) rest ≡ None → held ≡ front ++ e ∷ without_line e.line rest
repeat-none held front e rest h q = h ∙ ap (λ es. front ++ e ∷ es) (sym (without-none e.line rest (line-lacks e.line rest (ap is_some q))))

pub repeat-within : (line : List ℕ) (e : Entry) (es held : List Entry) (r : Option ℕ) → held ≡ e ∷ es → r ≡ position (has_line line) es → IfSome r (λ k. k + 1 < length held)
repeat-within line e es held None h q = tt
repeat-within line e es held (Some k) h q = let w = place_within (has_line line) es k (sym q) in omega (arith, w, ap length h)

-- ---- one entry more

abbrev Parts : List Direction → Entry → List Entry → ℕ → Type 0
Parts directions x es n = IsPartitionPoint (λ e. is_lt (entry_cmp directions e x) ≡ true) (λ e. is_lt (entry_cmp directions e x) ≡ false) es n

pub parts-moved : (ds directions : List Direction) (x : Entry) (es held : List Entry) (n : ℕ) → ds ≡ directions → es ≡ held → Parts ds x es n → Parts directions x held n
parts-moved ds directions x es held n d e p = subst (λ l. Parts directions x l n) e (subst (λ l. Parts l x es n) d p)

module _ (m : Modifiers) (x : Entry) (held : List Entry) (place : ℕ) (fits : place ≤ length held)
    (parts : IsPartitionPoint (λ e. is_lt (entry_cmp m.directions e x) ≡ true) (λ e. is_lt (entry_cmp m.directions e x) ≡ false) held place)
    (r : IsReady m held) where
  abbrev front : List Entry
  front = take place held

  abbrev back : List Entry
  back = drop place held

  joined : front ++ back ≡ held
  joined = take-append-drop place held

  ready : IsReady m (front ++ back)
  ready = subst (IsReady m) (sym joined) r

  below : AllByRecursion (λ e. is_lt (entry_cmp m.directions e x) ≡ true) front
  below = all-front (λ e. is_lt (entry_cmp m.directions e x) ≡ true) held place fits parts.0

  above : AllByRecursion (λ e. is_lt (entry_cmp m.directions e x) ≡ false) back
  above = all-back (λ e. is_lt (entry_cmp m.directions e x) ≡ false) held place fits parts.1

  pub enter-no_room : has_room m.slice place ≡ false → StandFor m held (held ++ x ∷ [])
  enter-no_room h = subst (λ l. StandFor m l (l ++ x ∷ [])) joined (step-no_room m x front back below above ready (ap (has_room m.slice) (length-take-le place held fits) ∙ h))

  pub enter-repeat : m.distinct ≡ true → is_some (position (has_line x.line) front) ≡ true → StandFor m held (held ++ x ∷ [])
  enter-repeat d h = let f = line-found x.line front h in subst (λ l. StandFor m l (l ++ x ∷ [])) joined (step-repeat m x front back below above ready d f.0 f.1 f.2)

  module _ (new : m.distinct ≡ true → is_some (position (has_line x.line) front) ≡ false) (w : IsWithin m.slice (length held)) where
    lacks : m.distinct ≡ true → (f : Entry) → Contains front f → bytes_eq f.line x.line ≡ false
    lacks d = line-lacks x.line front (new d)

    stepped : Stepped m x front back below above ready lacks (within_slice m.slice (front ++ x ∷ once_behind m.distinct x.line back))
    stepped = step-within m x front back below above ready lacks (subst (λ l. IsWithin m.slice (length l)) (sym joined) w)

    pub enter-stands : StandFor m (within_slice m.slice (front ++ x ∷ once_behind m.distinct x.line back)) (held ++ x ∷ [])
    enter-stands = subst (λ l. StandFor m (within_slice m.slice (front ++ x ∷ once_behind m.distinct x.line back)) (l ++ x ∷ [])) joined stepped.stands

    pub enter-ready : IsReady m (within_slice m.slice (front ++ x ∷ once_behind m.distinct x.line back))
    enter-ready = stepped.ready

    pub enter-within : IsWithin m.slice (length (within_slice m.slice (front ++ x ∷ once_behind m.distinct x.line back)))
    enter-within = stepped.within
