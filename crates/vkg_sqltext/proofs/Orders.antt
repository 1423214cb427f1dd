-- No two orders share a text.
use Rattle.std.proofs.Common.{◌≡◌, ◌∙◌, ℕ, ◌<◌, ◌^◌, ◌==◌, suc, Bool, true, false, if◌then◌else◌, List, [], ◌∷◌, ◌++◌, Option, Some, None, refl, sym, ap, arith, append_assoc, append-nil, eqb-true}
use Rattle.std.specs.Prelude.{IfSome, codes, decimal}
use Rattle.std.specs.Char.{is_ascii_digit}
use Rattle.std.proofs.lemmas.Fmt.{decimal_injective}
use Rattle.std.proofs.lemmas.List.{append_cancel_left}
use Rattle.vkg_lists.proofs.Runs.{stops, run_same}
use Rattle.vkg_lists.proofs.Heads.{head_same, tail_same}
use Rattle.vkg_order.specs.declared.modifiers.Direction.{Direction}
use Rattle.vkg_order.specs.declared.modifiers.Direction.TheVariants.{Ascending, Descending}
use Rattle.vkg_order.specs.declared.modifiers.Modifiers.{Modifiers}
use Rattle.vkg_sqltext.specs.Laws.{HaveOwnOrders, HoldsKeys, HoldsOrder}
use Rattle.vkg_sqltext.specs.OrderText.{direction_text, key_text, keys_text, limit_text, more_keys_text, offset_text, order_text}
use Rattle.vkg_sqltext.specs.Text.{sql_text}
use Rattle.vkg_sqltext.proofs.Cutting.{decimal_digits}
use Rattle.vkg_sqltext.proofs.Plans.{Closes, closes_end, closes_word, own_rests}

-- ---- what stands behind the keys

data IsSlice : List ℕ → Type 0 where
  none : IsSlice []
  limited : (x : List ℕ) → IsSlice (32 ∷ 76 ∷ x)
  moved : (x : List ℕ) → IsSlice (32 ∷ 79 ∷ 70 ∷ x)

no_key : {x : List ℕ} (y : List ℕ) → IsSlice x → x ≡ 32 ∷ 79 ∷ 82 ∷ y → ⊥
no_key y none e = absurd (cc)
no_key y (limited x) e = absurd (let bad = head_same 76 79 x (82 ∷ y) (tail_same 32 32 (76 ∷ x) (79 ∷ 82 ∷ y) e) in omega (arith, bad))
no_key y (moved x) e = absurd (let bad = head_same 70 82 x y (tail_same 79 79 (70 ∷ x) (82 ∷ y) (tail_same 32 32 (79 ∷ 70 ∷ x) (79 ∷ 82 ∷ y) e)) in omega (arith, bad))

no_comma : {x : List ℕ} (y : List ℕ) → IsSlice x → x ≡ 44 ∷ y → ⊥
no_comma y none e = absurd (cc)
no_comma y (limited x) e = absurd (let bad = head_same 32 44 (76 ∷ x) y e in omega (arith, bad))
no_comma y (moved x) e = absurd (let bad = head_same 32 44 (79 ∷ 70 ∷ x) y e in omega (arith, bad))

-- ---- keys

-- a number, by what stands behind it
number_one : (m n : ℕ) (x y : List ℕ) → m < 2 ^ 64 → n < 2 ^ 64 → stops is_ascii_digit x ≡ true → stops is_ascii_digit y ≡ true → decimal m ++ x ≡ decimal n ++ y → (m ≡ n) × (x ≡ y)
number_one m n x y h k s t e =
    let r = run_same is_ascii_digit (decimal m) (decimal n) x y (decimal_digits m h) (decimal_digits n k) s t e in
    (decimal_injective m n h k r.0, r.1)

direction_one : (d f : Direction) (x y : List ℕ) → direction_text d ++ x ≡ direction_text f ++ y → (d ≡ f) × (x ≡ y)
direction_one Ascending Ascending x y e = (refl, append_cancel_left (codes " ASC") x y e)
direction_one Descending Descending x y e = (refl, append_cancel_left (codes " DESC") x y e)
direction_one Ascending Descending x y e = absurd (let bad = head_same 65 68 _ _ (tail_same 32 32 _ _ e) in omega (arith, bad))
direction_one Descending Ascending x y e = absurd (let bad = head_same 68 65 _ _ (tail_same 32 32 _ _ e) in omega (arith, bad))

direction_stops : (d : Direction) (x : List ℕ) → stops is_ascii_digit (direction_text d ++ x) ≡ true
direction_stops Ascending x = refl
direction_stops Descending x = refl

key_is : (at : ℕ) (d : Direction) (x : List ℕ) → key_text at d ++ x ≡ 99 ∷ (decimal (suc at) ++ (direction_text d ++ x))
key_is at d x = ap (λ l. 99 ∷ l) (append_assoc (decimal (suc at)) (direction_text d) x)

key_one : (at by : ℕ) (d f : Direction) (x y : List ℕ) → suc at < 2 ^ 64 → suc by < 2 ^ 64 → key_text at d ++ x ≡ key_text by f ++ y → (d ≡ f) × (x ≡ y)
key_one at by d f x y h k e =
    let r = number_one (suc at) (suc by) (direction_text d ++ x) (direction_text f ++ y) h k (direction_stops d x) (direction_stops f y) (tail_same 99 99 _ _ (sym (key_is at d x) ∙ e ∙ key_is by f y)) in
    direction_one d f x y r.1

more_one : (at by : ℕ) (ds fs : List Direction) (x y : List ℕ) → HoldsKeys at ds → HoldsKeys by fs → IsSlice x → IsSlice y → more_keys_text at ds ++ x ≡ more_keys_text by fs ++ y → (ds ≡ fs) × (x ≡ y)
more_one at by [] [] x y h k s t e = (refl, e)
more_one at by [] (f ∷ fs) x y h k s t e = absurd (no_comma _ s e)
more_one at by (d ∷ ds) [] x y h k s t e = absurd (no_comma _ t (sym e))
more_one at by (d ∷ ds) (f ∷ fs) x y h k s t e =
    let opened : (key_text at d ++ more_keys_text (suc at) ds) ++ x ≡ (key_text by f ++ more_keys_text (suc by) fs) ++ y = append_cancel_left (codes ", ") _ _ e in
    let r = key_one at by d f (more_keys_text (suc at) ds ++ x) (more_keys_text (suc by) fs ++ y) h.0 k.0 (sym (append_assoc (key_text at d) (more_keys_text (suc at) ds) x) ∙ opened ∙ append_assoc (key_text by f) (more_keys_text (suc by) fs) y) in
    let more = more_one (suc at) (suc by) ds fs x y h.1 k.1 s t r.1 in
    ((λ i. r.0 i ∷ more.0 i), more.1)

keys_one : (at by : ℕ) (ds fs : List Direction) (x y : List ℕ) → HoldsKeys at ds → HoldsKeys by fs → IsSlice x → IsSlice y → keys_text at ds ++ x ≡ keys_text by fs ++ y → (ds ≡ fs) × (x ≡ y)
keys_one at by [] [] x y h k s t e = (refl, e)
keys_one at by [] (f ∷ fs) x y h k s t e = absurd (no_key _ s e)
keys_one at by (d ∷ ds) [] x y h k s t e = absurd (no_key _ t (sym e))
keys_one at by (d ∷ ds) (f ∷ fs) x y h k s t e =
    let opened : (key_text at d ++ more_keys_text (suc at) ds) ++ x ≡ (key_text by f ++ more_keys_text (suc by) fs) ++ y = append_cancel_left (codes " ORDER BY ") _ _ e in
    let r = key_one at by d f (more_keys_text (suc at) ds ++ x) (more_keys_text (suc by) fs ++ y) h.0 k.0 (sym (append_assoc (key_text at d) (more_keys_text (suc at) ds) x) ∙ opened ∙ append_assoc (key_text by f) (more_keys_text (suc by) fs) y) in
    let more = more_one (suc at) (suc by) ds fs x y h.1 k.1 s t r.1 in
    ((λ i. r.0 i ∷ more.0 i), more.1)

-- ---- the slice

abbrev slice_text : Option ℕ → ℕ → List ℕ
slice_text limit offset = limit_text limit ++ offset_text offset

offset_one : (m n : ℕ) → m < 2 ^ 64 → n < 2 ^ 64 → offset_text m ≡ offset_text n → m ≡ n
offset_one m n h k e = by (m == 0) (n == 0) refl refl e
  where
    by : (a b : Bool) → (m == 0) ≡ a → (n == 0) ≡ b → (if a then [] else codes " OFFSET " ++ decimal m) ≡ (if b then [] else codes " OFFSET " ++ decimal n) → m ≡ n
    by true true s t e = eqb-true m 0 s ∙ sym (eqb-true n 0 t)
    by true false s t e = absurd (cc)
    by false true s t e = absurd (cc)
    by false false s t e = decimal_injective m n h k (append_cancel_left (codes " OFFSET ") (decimal m) (decimal n) e)

offset_stops : (n : ℕ) → stops is_ascii_digit (offset_text n) ≡ true
offset_stops n = by (n == 0)
  where
    by : (b : Bool) → stops is_ascii_digit (if b then [] else codes " OFFSET " ++ decimal n) ≡ true
    by true = refl
    by false = refl

no_limit : (n : ℕ) (x : List ℕ) → offset_text n ≡ 32 ∷ 76 ∷ x → ⊥
no_limit n x e = by (n == 0) e
  where
    by : (b : Bool) → (if b then [] else codes " OFFSET " ++ decimal n) ≡ 32 ∷ 76 ∷ x → ⊥
    by true e = absurd (cc)
    by false e = absurd (let bad = head_same 79 76 _ _ (tail_same 32 32 _ _ e) in omega (arith, bad))

slice_one : (l k : Option ℕ) (m n : ℕ) → IfSome l (λ i. i < 2 ^ 64) → IfSome k (λ i. i < 2 ^ 64) → m < 2 ^ 64 → n < 2 ^ 64 → slice_text l m ≡ slice_text k n → (l ≡ k) × (m ≡ n)
slice_one None None m n f g h w e = (refl, offset_one m n h w e)
slice_one None (Some j) m n f g h w e = absurd (no_limit m _ e)
slice_one (Some i) None m n f g h w e = absurd (no_limit n _ (sym e))
slice_one (Some i) (Some j) m n f g h w e =
    let r = number_one i j (offset_text m) (offset_text n) f g (offset_stops m) (offset_stops n) (append_cancel_left (codes " LIMIT ") _ _ e) in
    (ap Some r.0, offset_one m n h w r.1)

is_slice : (l : Option ℕ) (n : ℕ) → IsSlice (slice_text l n)
is_slice (Some i) n = limited _
is_slice None n = by (n == 0)
  where
    by : (b : Bool) → IsSlice (if b then [] else codes " OFFSET " ++ decimal n)
    by true = none
    by false = moved _

-- ---- orders

order_is : (at : ℕ) (m : Modifiers) → order_text at m ≡ keys_text at m.directions ++ slice_text m.slice.limit m.slice.offset
order_is at m = append_assoc (keys_text at m.directions) (limit_text m.slice.limit) (offset_text m.slice.offset)

slice_closes : {x : List ℕ} → IsSlice x → Closes x
slice_closes none = closes_end
slice_closes (limited x) = closes_word 76 x (λ e. omega (arith, e))
slice_closes (moved x) = closes_word 79 (70 ∷ x) (λ e. omega (arith, e))

keys_close : (at : ℕ) (ds : List Direction) (x : List ℕ) → IsSlice x → Closes (keys_text at ds ++ x)
keys_close at [] x s = slice_closes s
keys_close at (d ∷ ds) x s = closes_word 79 _ (λ e. omega (arith, e))

pub own_orders : HaveOwnOrders
own_orders schema names p q h k w z at by m n f g e =
    let joined = ap (λ l. sql_text schema p ++ l) (sym (order_is at m)) ∙ e ∙ ap (λ l. sql_text schema q ++ l) (order_is by n) in
    let r = own_rests schema names p q h k w z (keys_text at m.directions ++ slice_text m.slice.limit m.slice.offset) (keys_text by n.directions ++ slice_text n.slice.limit n.slice.offset)
    (keys_close at m.directions _ (is_slice m.slice.limit m.slice.offset)) (keys_close by n.directions _ (is_slice n.slice.limit n.slice.offset)) joined in
    let keys = keys_one at by m.directions n.directions (slice_text m.slice.limit m.slice.offset) (slice_text n.slice.limit n.slice.offset) f.keys g.keys (is_slice m.slice.limit m.slice.offset) (is_slice n.slice.limit n.slice.offset) r.1 in
    let slice = slice_one m.slice.limit n.slice.limit m.slice.offset n.slice.offset f.limit g.limit f.offset g.offset keys.1 in
    (r.0, keys.0, λ i. record { offset = slice.1 i; limit = slice.0 i })
