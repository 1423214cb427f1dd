-- What the routine with two buffers makes of a path is what its segments make.
use Rattle.std.proofs.Common.{◌≡◌, ◌==◌, ◌++◌, ◌∷◌, [], List, ℕ, zero, suc, ◌+◌, ◌-◌, ◌<◌, ◌≤◌, sym, ap, subst, ◌∙◌, refl, Bool, true, false, not, cond, length, take, get_or, codes, arith, length-append, le_refl, get_or-append-add, take_at, bytes_eq, append-nil}
use Rattle.std.specs.Prelude.{nat_eq, if◌then◌else◌}
use Rattle.std.specs.List.{AllByRecursion, before_first, before_last, concat, onto_first, starts_with, suffix_len}
use Rattle.std.proofs.lemmas.Bool.{and_left, and_parts, both_ways, eqb-false, eqb-true, ne_eqb, or_from}
use Rattle.std.proofs.lemmas.List.Folds.{concat-append}
use Rattle.std.proofs.lemmas.List.Splits.{length-slice_split}
use Rattle.std.proofs.lemmas.List.Sums.{suffix_len_is}
use Rattle.std.proofs.lemmas.Slice.Eq.{bytes_eq-Decides}
use Rattle.vkg_lists.specs.Lists.{without_last}
use Rattle.vkg_lists.proofs.Heads.{without_last-push}
use Rattle.vkg_lists.proofs.Positions.{first_later}
use Rattle.vkg_terms.specs.Resolve.{from_slash, is_dot, is_dots, kept, remove_dots, segments, without_dots}
use Rattle.vkg_laws.specs.RemoveDots.{Buffers, before_last_segment, remove_dot_segments, turn, turns}

-- no slash is in it
abbrev IsSegment : List ℕ → Type 0
IsSegment s = AllByRecursion (λ b. (b == 47) ≡ false) s

abbrev held : List ℕ → List ℕ → Buffers
held input output = record { input = input; output = output }

-- ---- a path is its segments

-- each segment with a slash before it
abbrev slashed : List (List ℕ) → List ℕ
slashed [] = []
slashed (s ∷ ss) = 47 ∷ (s ++ slashed ss)

abbrev joined : List (List ℕ) → List ℕ
joined [] = []
joined (s ∷ ss) = s ++ slashed ss

joined_by : (x : ℕ) (parts : List (List ℕ)) (b : Bool) → (x == 47) ≡ b → 0 < length parts → joined (cond b ([] ∷ parts) (onto_first x parts)) ≡ x ∷ joined parts
joined_by x [] b e l = absurd (omega arith)
joined_by x (p ∷ ps) true e l = ap (λ c. c ∷ (p ++ slashed ps)) (sym (eqb-true x 47 e))
joined_by x (p ∷ ps) false e l = refl

joined_segments : (path : List ℕ) → joined (segments path) ≡ path
joined_segments [] = refl
joined_segments (x ∷ xs) = joined_by x (segments xs) (x == 47) refl (omega (arith, length-slice_split (λ b. b == 47) xs)) ∙ ap (λ (l : List ℕ). x ∷ l) (joined_segments xs)

all_by : (x : ℕ) (parts : List (List ℕ)) (b : Bool) → (x == 47) ≡ b → AllByRecursion IsSegment parts → AllByRecursion IsSegment (cond b ([] ∷ parts) (onto_first x parts))
all_by x parts true e h = (tt, h)
all_by x [] false e h = ((e, tt), tt)
all_by x (p ∷ ps) false e h = ((e, h.0), h.1)

all_segments : (path : List ℕ) → AllByRecursion IsSegment (segments path)
all_segments [] = (tt, tt)
all_segments (x ∷ xs) = all_by x (segments xs) (x == 47) refl (all_segments xs)

-- ---- where a text is cut

-- up to the next slash, and from it on
front_cut : (s : List ℕ) (ss : List (List ℕ)) → IsSegment s → before_first (λ b. b == 47) (s ++ slashed ss) ≡ s
front_cut [] [] h = refl
front_cut [] (t ∷ ss) h = refl
front_cut (a ∷ s) ss h = ap (λ n. take n (a ∷ (s ++ slashed ss))) (first_later (λ b. b == 47) a (s ++ slashed ss) h.0) ∙ ap (λ (l : List ℕ). a ∷ l) (front_cut s ss h.1)

back_cut : (s : List ℕ) (ss : List (List ℕ)) → IsSegment s → from_slash (s ++ slashed ss) ≡ slashed ss
back_cut [] [] h = refl
back_cut [] (t ∷ ss) h = refl
back_cut (a ∷ s) ss h = ap (λ b. if b then a ∷ (s ++ slashed ss) else from_slash (s ++ slashed ss)) h.0 ∙ back_cut s ss h.1

in_segment : (s : List ℕ) (k : ℕ) → IsSegment s → k < length s → (get_or s k 0 == 47) ≡ false
in_segment [] k h l = absurd (omega arith)
in_segment (a ∷ s) zero h l = h.0
in_segment (a ∷ s) (suc k) h l = in_segment s k h.1 (omega arith)

behind_slash : (front s : List ℕ) (k j : ℕ) → IsSegment s → k ≡ length front + suc j → j < length s → (get_or (front ++ 47 ∷ s) k 0 == 47) ≡ false
behind_slash front s k j h e l =
    ap (λ n. get_or (front ++ 47 ∷ s) n 0 == 47) e ∙ ap (λ n. n == 47) (get_or-append-add front (47 ∷ s) (suc j) 0) ∙ in_segment s j h l

-- the last segment goes with its slash
last_cut : (front s : List ℕ) → IsSegment s → before_last (λ b. b == 47) (front ++ 47 ∷ s) ≡ front
last_cut front s h =
    let long : length (front ++ 47 ∷ s) ≡ length front + suc (length s) = length-append front (47 ∷ s) in
    let start : length front + 1 - 1 ≡ length front + 0 = omega arith in
    let count : suffix_len (λ b. not (b == 47)) (front ++ 47 ∷ s) ≡ length (front ++ 47 ∷ s) - (length front + 1) =
    suffix_len_is (λ b. not (b == 47)) (front ++ 47 ∷ s) (length front + 1) 0 (omega arith) (λ k low l. ap not (behind_slash front s k (k - (length front + 1)) h (omega arith) (omega arith))) (λ _. ap (λ n. not (get_or (front ++ 47 ∷ s) n 0 == 47)) start ∙ ap (λ n. not (n == 47)) (get_or-append-add front (47 ∷ s) 0 0)) in
    let place : length (front ++ 47 ∷ s) - suffix_len (λ b. not (b == 47)) (front ++ 47 ∷ s) - 1 ≡ length front = omega arith in
    ap (λ n. take n (front ++ 47 ∷ s)) place ∙ take_at front (47 ∷ s) (length front) refl

-- without a slash nothing is left
only_cut : (s : List ℕ) → IsSegment s → before_last (λ b. b == 47) s ≡ []
only_cut s h =
    let count : suffix_len (λ b. not (b == 47)) s ≡ length s - 0 = suffix_len_is (λ b. not (b == 47)) s 0 0 (omega arith) (λ k low l. ap not (in_segment s k h l)) (λ l. absurd (omega arith)) in
    let place : length s - suffix_len (λ b. not (b == 47)) s - 1 ≡ 0 = omega arith in
    ap (λ n. take n s) place

-- ---- the rules' tests on a segment that stays

-- the text begins with w and a slash only where its first segment is w
begins_same : (w s : List ℕ) (ss : List (List ℕ)) → IsSegment w → IsSegment s → starts_with nat_eq (s ++ slashed ss) (w ++ codes "/") ≡ true → s ≡ w
begins_same [] [] ss g h e = refl
begins_same [] (a ∷ s) ss g h e = absurd (eqb-false a 47 h.0 (sym (eqb-true 47 a (and_parts _ _ e).0)))
begins_same (v ∷ w) [] [] g h e = cc
begins_same (v ∷ w) [] (t ∷ ss) g h e = absurd (both_ways (v == 47) g.0 (and_parts _ _ e).0)
begins_same (v ∷ w) (a ∷ s) ss g h e = λ i. sym (eqb-true v a (and_parts _ _ e).0) i ∷ begins_same w s ss g.1 h.1 (and_parts _ _ e).1 i

-- and is w only where that segment is
whole_same : (w s : List ℕ) (ss : List (List ℕ)) → IsSegment w → bytes_eq (s ++ slashed ss) w ≡ true → s ≡ w
whole_same [] [] ss g e = refl
whole_same [] (a ∷ s) ss g e = cc
whole_same (v ∷ w) [] [] g e = cc
whole_same (v ∷ w) [] (t ∷ ss) g e = absurd (eqb-false v 47 g.0 (sym (eqb-true 47 v (and_parts _ _ e).0)))
whole_same (v ∷ w) (a ∷ s) ss g e = λ i. eqb-true a v (and_parts _ _ e).0 i ∷ whole_same w s ss g.1 (and_parts _ _ e).1 i

differs : (b : Bool) (s w : List ℕ) → bytes_eq s w ≡ false → (b ≡ true → s ≡ w) → b ≡ false
differs true s w n f = absurd (both_ways (bytes_eq s w) n ((bytes_eq-Decides s w).1 (f refl)))
differs false s w n f = refl

passed : (t : Bool) (x y z : Buffers) → t ≡ false → y ≡ z → (if t then x else y) ≡ z
passed t x y z e f = ap (λ b. if b then x else y) e ∙ f

-- rule E, on a segment with a slash before it
plain_turn : (s : List ℕ) (ss : List (List ℕ)) (out : List ℕ) → IsSegment s → is_dot s ≡ false → is_dots s ≡ false → turn (held (47 ∷ (s ++ slashed ss)) out) ≡ held (slashed ss) (out ++ 47 ∷ s)
plain_turn s ss out h p q =
    passed _ _ _ _ (differs _ s (codes ".") p (begins_same (codes ".") s ss (refl, tt) h))
    (passed _ _ _ _ (differs _ s (codes ".") p (whole_same (codes ".") s ss (refl, tt)))
    (passed _ _ _ _ (differs _ s (codes "..") q (begins_same (codes "..") s ss (refl, (refl, tt)) h))
    (passed _ _ _ _ (differs _ s (codes "..") q (whole_same (codes "..") s ss (refl, (refl, tt))))
    (λ i. held (back_cut s ss h i) (out ++ 47 ∷ front_cut s ss h i)))))

-- and on a first one without
first_turn : (a : ℕ) (s : List ℕ) (ss : List (List ℕ)) (out : List ℕ) → IsSegment (a ∷ s) → is_dot (a ∷ s) ≡ false → is_dots (a ∷ s) ≡ false → turn (held (a ∷ (s ++ slashed ss)) out) ≡ held (slashed ss) (out ++ a ∷ s)
first_turn a s ss out h p q =
    let other : (47 == a) ≡ false = ne_eqb 47 a (λ e. eqb-false a 47 h.0 (sym e)) in
    passed _ _ _ _ (differs _ (a ∷ s) (codes "..") q (begins_same (codes "..") (a ∷ s) ss (refl, (refl, tt)) h))
    (passed _ _ _ _ (differs _ (a ∷ s) (codes ".") p (begins_same (codes ".") (a ∷ s) ss (refl, tt) h))
    (passed _ _ _ _ (and_left (47 == a) _ other)
    (passed _ _ _ _ (and_left (a == 47) _ h.0)
    (passed _ _ _ _ (and_left (47 == a) _ other)
    (passed _ _ _ _ (and_left (a == 47) _ h.0)
    (passed _ _ _ _ (or_from _ _ (differs _ (a ∷ s) (codes ".") p (whole_same (codes ".") (a ∷ s) ss (refl, tt))) (differs _ (a ∷ s) (codes "..") q (whole_same (codes "..") (a ∷ s) ss (refl, (refl, tt)))))
    (λ i. held (back_cut s ss h.1 i) (out ++ a ∷ front_cut s ss h.1 i))))))))

-- ---- the loop

-- from these buffers it ends with this output
abbrev Ends : List ℕ → List ℕ → List ℕ → Type 0
Ends input output all = (n : ℕ) → length input ≤ n → turns n (held input output) ≡ held [] all

ended : (out : List ℕ) (n : ℕ) → 0 ≤ n → turns n (held [] out) ≡ held [] out
ended out zero l = refl
ended out (suc n) l = refl

step : (i o j p all : List ℕ) → turn (held i o) ≡ held j p → length j < length i → Ends j p all → (n : ℕ) → length i ≤ n → turns n (held i o) ≡ held [] all
step [] o j p all e l h n k = absurd (omega arith)
step (c ∷ i) o j p all e l h zero k = absurd (omega arith)
step (c ∷ i) o j p all e l h (suc n) k = ap (turns n) e ∙ h n (omega arith)

moved : (i o p all whole : List ℕ) → o ≡ p → all ≡ whole → Ends i o all → Ends i p whole
moved i o p all whole e f h = λ n k. ap (λ l. turns n (held i l)) (sym e) ∙ h n k ∙ ap (held []) f

concat_push : (ps : List (List ℕ)) (q : List ℕ) → concat (ps ++ q ∷ []) ≡ concat ps ++ q
concat_push ps q = concat-append ps (q ∷ []) ∙ ap (λ (l : List ℕ). concat ps ++ l) (append-nil q)

-- the pieces of the output, the last of them first
abbrev laid : List (List ℕ) → List (List ℕ)
laid [] = []
laid (q ∷ qs) = laid qs ++ q ∷ []

-- each is a segment with the slash before it, if any
abbrev IsLaid : List (List ℕ) → Type 0
IsLaid [] = Unit {0}
IsLaid (q ∷ qs) = (before_last_segment (concat (laid qs ++ q ∷ [])) ≡ concat (laid qs)) × IsLaid qs

abbrev behind : List (List ℕ) → List (List ℕ)
behind [] = []
behind (q ∷ qs) = qs

behind_pieces : (qs : List (List ℕ)) → laid (behind qs) ≡ without_last (laid qs)
behind_pieces [] = refl
behind_pieces (q ∷ qs) = sym (without_last-push (laid qs) q)

behind_text : (qs : List (List ℕ)) → IsLaid qs → concat (laid (behind qs)) ≡ before_last_segment (concat (laid qs))
behind_text [] h = refl
behind_text (q ∷ qs) h = sym h.0

behind_laid : (qs : List (List ℕ)) → IsLaid qs → IsLaid (behind qs)
behind_laid [] h = tt
behind_laid (q ∷ qs) h = h.1

-- from these pieces, the loop makes of these segments what `kept` makes
abbrev Runs : List (List ℕ) → List (List ℕ) → Type 0
Runs qs ss = Ends (slashed ss) (concat (laid qs)) (concat (kept (laid qs) ss))

slash_ends : (ps : List (List ℕ)) → Ends (codes "/") (concat ps) (concat (ps ++ codes "/" ∷ []))
slash_ends ps = moved (codes "/") (concat ps) (concat ps) (concat ps ++ codes "/") (concat (ps ++ codes "/" ∷ [])) refl (sym (concat_push ps (codes "/"))) (step (codes "/") (concat ps) [] (concat ps ++ codes "/") (concat ps ++ codes "/") refl (omega arith) (ended (concat ps ++ codes "/")))

dot_runs : (ss qs : List (List ℕ)) → IsLaid qs → ((rs : List (List ℕ)) → IsLaid rs → Runs rs ss) → Runs qs (codes "." ∷ ss)
dot_runs [] qs h more = step (codes "/.") (concat (laid qs)) (codes "/") (concat (laid qs)) (concat (laid qs ++ codes "/" ∷ [])) refl (omega arith) (slash_ends (laid qs))
dot_runs (t ∷ ss) qs h more = step (slashed (codes "." ∷ t ∷ ss)) (concat (laid qs)) (slashed (t ∷ ss)) (concat (laid qs)) (concat (kept (laid qs) (t ∷ ss))) refl (omega arith) (more qs h)

dots_runs : (ss qs : List (List ℕ)) → IsLaid qs → ((rs : List (List ℕ)) → IsLaid rs → Runs rs ss) → Runs qs (codes ".." ∷ ss)
dots_runs [] qs h more =
    step (codes "/..") (concat (laid qs)) (codes "/") (before_last_segment (concat (laid qs))) (concat (without_last (laid qs) ++ codes "/" ∷ [])) refl (omega arith)
    (moved (codes "/") _ _ _ _ (behind_text qs h) (ap (λ l. concat (l ++ codes "/" ∷ [])) (behind_pieces qs)) (slash_ends (laid (behind qs))))
dots_runs (t ∷ ss) qs h more =
    step (slashed (codes ".." ∷ t ∷ ss)) (concat (laid qs)) (slashed (t ∷ ss)) (before_last_segment (concat (laid qs))) (concat (kept (without_last (laid qs)) (t ∷ ss))) refl (omega arith)
    (moved (slashed (t ∷ ss)) _ _ _ _ (behind_text qs h) (ap (λ l. concat (kept l (t ∷ ss))) (behind_pieces qs)) (more (behind qs) (behind_laid qs h)))

by_tests : (a b : Bool) (x y z : List (List ℕ)) → a ≡ false → b ≡ false → z ≡ (if a then x else if b then y else z)
by_tests a b x y z e f = sym (ap (λ t. if t then x else if b then y else z) e ∙ ap (λ t. if t then y else z) f)

plain_kept : (done ss : List (List ℕ)) (s : List ℕ) → is_dot s ≡ false → is_dots s ≡ false → kept (done ++ (47 ∷ s) ∷ []) ss ≡ kept done (s ∷ ss)
plain_kept done [] s e f = by_tests (is_dot s) (is_dots s) (done ++ codes "/" ∷ []) (without_last done ++ codes "/" ∷ []) (done ++ (47 ∷ s) ∷ []) e f
plain_kept done (t ∷ ss) s e f = by_tests (is_dot s) (is_dots s) (kept done (t ∷ ss)) (kept (without_last done) (t ∷ ss)) (kept (done ++ (47 ∷ s) ∷ []) (t ∷ ss)) e f

shorter : (s more : List ℕ) → length more < length (47 ∷ (s ++ more))
shorter s more = omega (arith, length-append s more)

plain_runs : (s : List ℕ) (ss qs : List (List ℕ)) → IsSegment s → is_dot s ≡ false → is_dots s ≡ false → IsLaid qs → ((rs : List (List ℕ)) → IsLaid rs → Runs rs ss) → Runs qs (s ∷ ss)
plain_runs s ss qs g p q h more =
    step (slashed (s ∷ ss)) (concat (laid qs)) (slashed ss) (concat (laid qs) ++ 47 ∷ s) (concat (kept (laid qs) (s ∷ ss))) (plain_turn s ss (concat (laid qs)) g p q) (shorter s (slashed ss))
    (moved (slashed ss) _ _ _ _ (concat_push (laid qs) (47 ∷ s)) (ap concat (plain_kept (laid qs) ss s p q))
    (more ((47 ∷ s) ∷ qs) (ap before_last_segment (concat_push (laid qs) (47 ∷ s)) ∙ last_cut (concat (laid qs)) s g, h)))

runs_by : (s : List ℕ) (ss qs : List (List ℕ)) (a b : Bool) → is_dot s ≡ a → is_dots s ≡ b → IsSegment s → IsLaid qs → ((rs : List (List ℕ)) → IsLaid rs → Runs rs ss) → Runs qs (s ∷ ss)
runs_by s ss qs true b p q g h more = subst (λ (x : List ℕ). Runs qs (x ∷ ss)) (sym ((bytes_eq-Decides s (codes ".")).0 p)) (dot_runs ss qs h more)
runs_by s ss qs false true p q g h more = subst (λ (x : List ℕ). Runs qs (x ∷ ss)) (sym ((bytes_eq-Decides s (codes "..")).0 q)) (dots_runs ss qs h more)
runs_by s ss qs false false p q g h more = plain_runs s ss qs g p q h more

runs : (ss qs : List (List ℕ)) → AllByRecursion IsSegment ss → IsLaid qs → Runs qs ss
runs [] qs a h = ended (concat (laid qs))
runs (s ∷ ss) qs a h = runs_by s ss qs (is_dot s) (is_dots s) refl refl a.0 h (λ rs k. runs ss rs a.1 k)

-- ---- before the first segment that stays

-- the loop makes of these segments what `without_dots` makes
abbrev Starts : List (List ℕ) → Type 0
Starts ss = Ends (joined ss) [] (concat (without_dots ss))

dot_starts : (ss : List (List ℕ)) → Starts ss → Starts (codes "." ∷ ss)
dot_starts [] more = step (codes ".") [] [] [] [] refl (omega arith) (ended [])
dot_starts (t ∷ ss) more = step (joined (codes "." ∷ t ∷ ss)) [] (joined (t ∷ ss)) [] (concat (without_dots (t ∷ ss))) refl (omega arith) more

dots_starts : (ss : List (List ℕ)) → Starts ss → Starts (codes ".." ∷ ss)
dots_starts [] more = step (codes "..") [] [] [] [] refl (omega arith) (ended [])
dots_starts (t ∷ ss) more = step (joined (codes ".." ∷ t ∷ ss)) [] (joined (t ∷ ss)) [] (concat (without_dots (t ∷ ss))) refl (omega arith) more

plain_starts : (s : List ℕ) (ss : List (List ℕ)) → IsSegment s → is_dot s ≡ false → is_dots s ≡ false → AllByRecursion IsSegment ss → Starts (s ∷ ss)
plain_starts [] ss g p q a = runs ss ([] ∷ []) a (refl, tt)
plain_starts (c ∷ s) ss g p q a =
    let first : kept ((c ∷ s) ∷ []) ss ≡ without_dots ((c ∷ s) ∷ ss) = sym (ap (λ b. if b then without_dots ss else kept ((c ∷ s) ∷ []) ss) (or_from (is_dot (c ∷ s)) (is_dots (c ∷ s)) p q)) in
    step (joined ((c ∷ s) ∷ ss)) [] (slashed ss) (c ∷ s) (concat (without_dots ((c ∷ s) ∷ ss))) (first_turn c s ss [] g p q) (omega (arith, length-append s (slashed ss)))
    (moved (slashed ss) _ _ _ _ (append-nil (c ∷ s)) (ap concat first)
    (runs ss ((c ∷ s) ∷ []) a (ap before_last_segment (append-nil (c ∷ s)) ∙ only_cut (c ∷ s) g, tt)))

starts_by : (s : List ℕ) (ss : List (List ℕ)) (a b : Bool) → is_dot s ≡ a → is_dots s ≡ b → IsSegment s → AllByRecursion IsSegment ss → Starts ss → Starts (s ∷ ss)
starts_by s ss true b p q g a more = subst (λ (x : List ℕ). Starts (x ∷ ss)) (sym ((bytes_eq-Decides s (codes ".")).0 p)) (dot_starts ss more)
starts_by s ss false true p q g a more = subst (λ (x : List ℕ). Starts (x ∷ ss)) (sym ((bytes_eq-Decides s (codes "..")).0 q)) (dots_starts ss more)
starts_by s ss false false p q g a more = plain_starts s ss g p q a

starts : (ss : List (List ℕ)) → AllByRecursion IsSegment ss → Starts ss
starts [] a = ended []
starts (s ∷ ss) a = starts_by s ss (is_dot s) (is_dots s) refl refl a.0 a.1 (starts ss a.1)

-- the routine ends, and with the path that `remove_dots` gives
pub dot_segments_removed : (path : List ℕ) → remove_dot_segments path ≡ held [] (remove_dots path)
dot_segments_removed path = subst (λ (l : List ℕ). Ends l [] (remove_dots path)) (joined_segments path) (starts (segments path) (all_segments path)) (length path) (le_refl (length path))
