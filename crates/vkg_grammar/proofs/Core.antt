-- Lemmas on derivations that know nothing of the code.
use Rattle.std.proofs.Common.{◌≡◌, ℕ, ◌<◌, inl, inr, List, [], ◌∷◌, ◌++◌, length, Option, Some, None, refl, ap, sym, ◌∙◌, subst, append_assoc, append-nil}
use Rattle.std.specs.List.{Contains}
use Rattle.vkg_lists.proofs.Heads.{head_same, tail_same}
use Rattle.vkg_lists.proofs.Members.{Contains-here, Contains-there}
use Rattle.vkg_grammar.specs.declared.note.Act.TheVariants.{Leaf}
use Rattle.vkg_grammar.specs.declared.note.Note.{Note}
use Rattle.vkg_grammar.specs.declared.rule.Rule.{Rule}
use Rattle.vkg_grammar.specs.Machine.{Sees, at_end_of, at_token, Ahead}
use Rattle.vkg_grammar.specs.Grammar.{noted, at_parts, at_first, at_second, Choice, shape_of, Derives, done, read, parts, first, second, MayBeEmpty, MayBegin, IsWay, the_parts, the_first, the_second, MayFollow, Starts, IsLL1}
use Rattle.vkg_grammar.specs.Tables.{HasText}

pub record Split (g : List Rule) (xs s ts : List ℕ) (ws : List Note) : Type 0 where
  pub front : List ℕ
  pub back : List ℕ
  pub front_ways : List Note
  pub back_ways : List Note
  pub tokens : ts ≡ front ++ back
  pub ways : ws ≡ front_ways ++ back_ways
  pub of_front : Derives g xs front front_ways
  pub of_back : Derives g s back back_ways

pub moved : {g : List Rule} {y z ts : List ℕ} {ws : List Note} → y ≡ z → Derives g y ts ws → Derives g z ts ws
moved {g = g} {ts = ts} {ws = ws} e d = subst (λ y. Derives g y ts ws) e d

pub split : {g : List Rule} {z ts : List ℕ} {ws : List Note} (xs s : List ℕ) → z ≡ xs ++ s → Derives g z ts ws → Split g xs s ts ws
split {g = g} {ts = ts} {ws = ws} [] s e d = record { front = []; back = ts; front_ways = []; back_ways = ws; tokens = refl; ways = refl; of_front = done; of_back = subst (λ y. Derives g y ts ws) e d }
split (x ∷ xs) s e done = absurd (cc)
split {g = g} (x ∷ xs) s e (read {n = n} {k = k} q d) =
    let r : Split g xs s _ _ = split xs s (tail_same _ _ _ _ e) d in
    record { front = k ∷ r.front; back = r.back; front_ways = noted n Leaf ∷ r.front_ways; back_ways = r.back_ways; tokens = ap (λ t. k ∷ t) r.tokens; ways = ap (λ t. noted n Leaf ∷ t) r.ways; of_front = moved (ap (λ m. m ∷ xs) (head_same _ _ _ _ e)) (read q r.of_front); of_back = r.of_back }
split {g = g} (x ∷ xs) s e (parts {n = n} {xs = zs} q d) =
    let r : Split g (zs ++ xs) s _ _ = split (zs ++ xs) s (ap (λ t. zs ++ t) (tail_same _ _ _ _ e) ∙ sym (append_assoc zs xs s)) d in
    record { front = r.front; back = r.back; front_ways = noted n (at_parts zs) ∷ r.front_ways; back_ways = r.back_ways; tokens = r.tokens; ways = ap (λ t. noted n (at_parts zs) ∷ t) r.ways; of_front = moved (ap (λ m. m ∷ xs) (head_same _ _ _ _ e)) (parts q r.of_front); of_back = r.of_back }
split {g = g} (x ∷ xs) s e (first {n = n} {xs = zs} {ys = us} q d) =
    let r : Split g (zs ++ xs) s _ _ = split (zs ++ xs) s (ap (λ t. zs ++ t) (tail_same _ _ _ _ e) ∙ sym (append_assoc zs xs s)) d in
    record { front = r.front; back = r.back; front_ways = noted n (at_first zs) ∷ r.front_ways; back_ways = r.back_ways; tokens = r.tokens; ways = ap (λ t. noted n (at_first zs) ∷ t) r.ways; of_front = moved (ap (λ m. m ∷ xs) (head_same _ _ _ _ e)) (first q r.of_front); of_back = r.of_back }
split {g = g} (x ∷ xs) s e (second {n = n} {xs = us} {ys = zs} q d) =
    let r : Split g (zs ++ xs) s _ _ = split (zs ++ xs) s (ap (λ t. zs ++ t) (tail_same _ _ _ _ e) ∙ sym (append_assoc zs xs s)) d in
    record { front = r.front; back = r.back; front_ways = noted n (at_second zs) ∷ r.front_ways; back_ways = r.back_ways; tokens = r.tokens; ways = ap (λ t. noted n (at_second zs) ∷ t) r.ways; of_front = moved (ap (λ m. m ∷ xs) (head_same _ _ _ _ e)) (second q r.of_front); of_back = r.of_back }

pub spelled : {g : List Rule} {s ts us : List ℕ} {ws : List Note} → ts ≡ us → Derives g s ts ws → Derives g s us ws
spelled {g = g} {s = s} {ws = ws} e d = subst (λ y. Derives g s y ws) e d

pub join : {g : List Rule} {xs s us vs : List ℕ} {wu wv : List Note} → Derives g xs us wu → Derives g s vs wv → Derives g (xs ++ s) (us ++ vs) (wu ++ wv)
join done e = e
join (read q d) e = read q (join d e)
join {s = s} (parts {xs = zs} {s = t} q d) e = parts q (moved (append_assoc zs t s) (join d e))
join {s = s} (first {xs = zs} {s = t} q d) e = first q (moved (append_assoc zs t s) (join d e))
join {s = s} (second {ys = zs} {s = t} q d) e = second q (moved (append_assoc zs t s) (join d e))

pub ahead_empty : {g : List Rule} {xs : List ℕ} → Ahead g xs None → MayBeEmpty g xs
ahead_empty {g = g} {xs = xs} a = of_end a.sees a.derives where
  of_end : {ts : List ℕ} {ws : List Note} → Sees None ts → Derives g xs ts ws → MayBeEmpty g xs
  of_end {ws = ws} at_end_of d = (ws, d)

pub ahead_begin : {g : List Rule} {xs : List ℕ} {k : ℕ} → Ahead g xs (Some k) → MayBegin g xs k
ahead_begin {g = g} {xs = xs} {k = k} a = of_token a.sees a.derives where
  of_token : {k' : ℕ} {ts : List ℕ} {ws : List Note} → Sees (Some k') ts → Derives g xs ts ws → MayBegin g xs k'
  of_token {ws = ws} (at_token {ts = us}) d = (us, ws, d)

-- The other way cannot be taken where this one begins as the next token says.
-- xs is the way that is taken, ys the other
pub record Apart (g : List Rule) (n : ℕ) (xs ys : List ℕ) : Type 0 where
  pub empty : MayBeEmpty g xs → MayBeEmpty g ys → ⊥
  pub begins : (k : ℕ) → Starts g n xs k → Starts g n ys k → ⊥

pub apart : {g : List Rule} {n : ℕ} {xs ys : List ℕ} → IsLL1 g → n < length g → shape_of g n ≡ Choice xs ys → Apart g n xs ys
apart {n = n} {xs = xs} {ys = ys} ll h q = record { empty = ll.one_empty n xs ys h q; begins = λ k. ll.one_begins n xs ys k h q }

pub apart_other : {g : List Rule} {n : ℕ} {xs ys : List ℕ} → Apart g n xs ys → Apart g n ys xs
apart_other a = record { empty = λ p q. a.empty q p; begins = λ k p q. a.begins k q p }

-- What the way and the rest of the stack derive, if it begins as seen, starts the way.
pub starts_seen : {g : List Rule} {n : ℕ} {s ts : List ℕ} {ws : List Note} {k : ℕ} (ys : List ℕ) → ((k : ℕ) → MayBegin g s k → MayFollow g n k) → Derives g (ys ++ s) (k ∷ ts) ws → Starts g n ys k
starts_seen {g = g} {n = n} {s = s} {ts = ts} {ws = ws} {k = k} ys f d =
    let r : Split g ys s (k ∷ ts) ws = split ys s refl d in by_front r.front r.tokens r.of_front r.of_back
  where
    by_front : (u : List ℕ) {v : List ℕ} {wu wv : List Note} → k ∷ ts ≡ u ++ v → Derives g ys u wu → Derives g s v wv → Starts g n ys k
    by_front [] {wu = wu} {wv = wv} e d' b = inr ((wu, d'), f k (ts, wv, spelled (sym e) b))
    by_front (x ∷ u) {wu = wu} e d' b = inl (u, wu, subst (λ y. Derives g ys (y ∷ u) wu) (sym (head_same _ _ _ _ e)) d')

pub empty_parts : {g : List Rule} {ws : List Note} (xs s : List ℕ) → Derives g (xs ++ s) [] ws → MayBeEmpty g xs × MayBeEmpty g s
empty_parts {g = g} {ws = ws} xs s d =
    let r : Split g xs s [] ws = split xs s refl d in by_front r.front r.back r.tokens r.of_front r.of_back
  where
    by_front : (u v : List ℕ) {wu wv : List Note} → [] ≡ u ++ v → Derives g xs u wu → Derives g s v wv → MayBeEmpty g xs × MayBeEmpty g s
    by_front [] v {wu = wu} {wv = wv} e a b = ((wu, a), (wv, spelled (sym e) b))
    by_front (x ∷ u) v e a b = absurd (cc)

-- Where xs begins as the next token says, the other way does not lead to such a text.
pub forced : {g : List Rule} {n : ℕ} {xs ys s : List ℕ} {c : Option ℕ} {ts : List ℕ} {ws : List Note} → Apart g n xs ys → ((k : ℕ) → MayBegin g s k → MayFollow g n k) → Ahead g xs c → Sees c ts → Derives g (ys ++ s) ts ws → ⊥
forced {ys = ys} {s = s} a f h at_end_of d = a.empty (ahead_empty h) (empty_parts ys s d).0
forced {ys = ys} a f h (at_token {k = k}) d = a.begins k (inl (ahead_begin h)) (starts_seen ys f d)

-- Where xs may be empty and no way begins with the next token, the other way does not lead to a text that begins with it.
pub forced_empty : {g : List Rule} {n : ℕ} {xs ys s : List ℕ} {k : ℕ} {ts : List ℕ} {ws : List Note} → Apart g n xs ys → ((k : ℕ) → MayBegin g s k → MayFollow g n k) → MayBeEmpty g xs → (MayBegin g ys k → ⊥) → Derives g (ys ++ s) (k ∷ ts) ws → ⊥
forced_empty {ys = ys} a f e never d = elim (starts_seen ys f d) [ inl b ↦ never b | inr p ↦ a.empty e p.0 ]

-- symbols that derive some list each derive one together
pub text_each : {g : List Rule} (xs : List ℕ) → ((x : ℕ) → Contains xs x → HasText g x) → (ts : List ℕ) × (ws : List Note) × Derives g xs ts ws
text_each [] h = ([], [], done)
text_each {g = g} (x ∷ xs) h =
    let one : HasText g x = h x (Contains-here x xs) in
    let more : (ts : List ℕ) × (ws : List Note) × Derives g xs ts ws = text_each xs (λ y c. h y (Contains-there x xs y c)) in
    (one.0 ++ more.0, one.1 ++ more.1, join one.2 more.2)

-- a symbol derives what a way of it derives
pub text_of_way : {g : List Rule} {n : ℕ} {xs : List ℕ} → IsWay g n xs → (ts : List ℕ) × (ws : List Note) × Derives g xs ts ws → HasText g n
text_of_way {n = n} {xs = xs} (the_parts e) d = (d.0, noted n (at_parts xs) ∷ d.1, parts e (moved (sym (append-nil xs)) d.2))
text_of_way {n = n} {xs = xs} (the_first e) d = (d.0, noted n (at_first xs) ∷ d.1, first e (moved (sym (append-nil xs)) d.2))
text_of_way {n = n} {xs = xs} (the_second e) d = (d.0, noted n (at_second xs) ∷ d.1, second e (moved (sym (append-nil xs)) d.2))
