-- Where a search may stop that reads a prefix, and what it has seen for later ones.
use Rattle.std.proofs.Common.{◌≡◌, ℕ, ◌+◌, ◌<◌, ◌≤◌, ◌-◌, Bool, true, false, cond, not, ◌&&◌, ◌||◌, List, length, get_or, take, drop, Option, Some, None, zero, suc, refl, ap, sym, ◌∙◌, subst, true≢false, ⊎_elim, length-drop, arith}
use Rattle.std.specs.Prelude.{fold, nat_lt}
use Rattle.std.proofs.Math.Nat.{eq-or-lt_of_le}
use Rattle.std.proofs.Math.Bool.{or_comm}
use Rattle.std.proofs.Math.Seq.{take-add}
use Rattle.std.proofs.lemmas.List.{get_or-drop, drop-drop}
use Rattle.std.proofs.lemmas.List.Sums.{fold-append}
use Rattle.std.proofs.lemmas.Bool.{cond_both}
use Rattle.vkg_lists.proofs.Bools.{and_parts, implied}
use Rattle.vkg_tokens.specs.declared.lang.Lang.{Lang}
use Rattle.vkg_tokens.specs.declared.lang.State.{State}
use Rattle.vkg_tokens.specs.declared.lang.State.TheVariants.{OfDdl, OfScan}
use Rattle.vkg_tokens.specs.declared.scan.Scan.TheVariants.{Between, Within}
use Rattle.vkg_tokens.specs.declared.lexeme.Lexeme.TheVariants.{Start, OfName, OfNumber, OfString, OfIri, OfSign, OfTag, OfVariable}
use Rattle.vkg_tokens.specs.declared.names.Name.{Name}
use Rattle.vkg_tokens.specs.declared.names.Name.TheVariants as name
use Rattle.vkg_tokens.specs.Ddl.{is_word_part}
use Rattle.vkg_tokens.specs.Lang.{start, stepped, state_after, token_class, or_shorter, longest_to, longest}
use Rattle.vkg_tokens.specs.Prefixes.{a_prefix, is_prefix, EndsNoName, IsBarren, end_of}
use Rattle.vkg_tokens.proofs.Longest.{class_is, longest_of_quiet}

-- the search goes on from where it was
state_from : (lang : Lang) (text : List ℕ) (p n m : ℕ) (o : Option State) → p ≤ length text → m ≡ p + n → state_after lang (take p text) ≡ o → state_after lang (take m text) ≡ fold stepped o (take n (drop p text))
state_from lang text p n m o h e q =
    ap (fold stepped (Some (start lang))) (ap (λ j. take j text) e ∙ take-add p n text) ∙ fold-append stepped (Some (start lang)) (take p text) (take n (drop p text))
    ∙ ap (λ s. fold stepped s (take n (drop p text))) q

-- no token behind a prefix where no name ends
none_behind : (lang : Lang) (text : List ℕ) (p m : ℕ) → p ≤ m → m ≤ length text → state_after lang (take p text) ≡ Some a_prefix → EndsNoName lang (drop p text) → token_class lang (take m text) ≡ None
none_behind lang text p m a b q h =
    let size : length (drop p text) ≡ length text - p = length-drop p text in
    class_is lang text m _ (state_from lang text p (m - p) m (Some a_prefix) (omega arith) (omega arith) q) ∙ h (m - p) (omega arith)

-- behind a letter in a barren stretch nothing longer comes
pub stop_here : (lang : Lang) (text : List ℕ) (i : ℕ) → i < length text → state_after lang (take (suc i) text) ≡ Some a_prefix → EndsNoName lang (drop (suc i) text) → longest_to lang text i ≡ longest lang text
stop_here lang text i b q h = longest_of_quiet lang text i b (λ m a c. none_behind lang text (suc i) m (omega arith) c q h)

-- one place of the next lemma, by whether a token ends there
last : (lang : Lang) (text : List ℕ) (n m : ℕ) (o : Option (ℕ × ℕ)) (c : Option ℕ) → token_class lang (take (suc n) text) ≡ c → longest_to lang text (suc n) ≡ o
    → (longest_to lang text n ≡ o → m ≤ n → token_class lang (take m text) ≡ None) → end_of o < m → m ≤ suc n → token_class lang (take m text) ≡ None
last lang text n m o None q e before a b =
    ⊎_elim (λ (z : m ≡ suc n). ap (λ j. token_class lang (take j text)) z ∙ q)
    (λ (z : m < suc n). before (sym (ap (λ c. or_shorter c (suc n) (longest_to lang text n)) q) ∙ e) (omega arith))
    (eq-or-lt_of_le b)
last lang text n m o (Some class) q e before a b =
    let is : Some (class, suc n) ≡ o = sym (ap (λ c. or_shorter c (suc n) (longest_to lang text n)) q) ∙ e in
    let size : suc n ≡ end_of o = ap end_of is in
    absurd (omega arith)

-- no longer text is a token than the longest
above : (lang : Lang) (text : List ℕ) (n : ℕ) (o : Option (ℕ × ℕ)) → longest_to lang text n ≡ o → (m : ℕ) → end_of o < m → m ≤ n → token_class lang (take m text) ≡ None
above lang text zero o e m a b = absurd (omega arith)
above lang text (suc n) o e m a b = last lang text n m o (token_class lang (take (suc n) text)) refl e (λ f c. above lang text n o f m a c) a b

-- each letter, digit or `_` between these places led to a prefix
abbrev pub LeadsToPrefix : Lang → List ℕ → ℕ → ℕ → Type 0
LeadsToPrefix lang text from to = (k : ℕ) → from ≤ k → k < to → is_word_part (get_or text k 0) ≡ true → state_after lang (take (suc k) text) ≡ Some a_prefix

-- behind these no name ends, since the whole text has no longer token
learned : (lang : Lang) (text : List ℕ) (best : Option (ℕ × ℕ)) (i : ℕ) → best ≡ longest lang text → i ≤ length text → LeadsToPrefix lang text (end_of best) i → IsBarren lang text (end_of best) i
learned lang text best i e b leads k a c w n d =
    let size : length (drop (suc k) text) ≡ length text - suc k = length-drop (suc k) text in
    sym (class_is lang text (suc k + n) _ (state_from lang text (suc k) n (suc k + n) (Some a_prefix) (omega arith) refl (leads k a c w)))
    ∙ above lang text (length text) best (sym e) (suc k + n) (omega arith) (omega arith)

-- of fewer places it holds too
pub known_still : (lang : Lang) (text : List ℕ) (from to : ℕ) → IsBarren lang text 0 to → IsBarren lang text from to
known_still lang text from to h k a b w = h k (omega arith) b w

-- after a search: what was known, and where it was sure, what it read
pub known_more : (lang : Lang) (text : List ℕ) (best : Option (ℕ × ℕ)) (known i : ℕ) (sure : Bool) → best ≡ longest lang text → i ≤ length text → IsBarren lang text 0 known
    → (sure ≡ true → LeadsToPrefix lang text (end_of best) i) → IsBarren lang text (end_of best) (cond (sure && nat_lt known i) i known)
known_more lang text best known i true e b h leads = cond_both (nat_lt known i) i known (IsBarren lang text (end_of best)) (λ _. learned lang text best i e b (leads refl)) (λ _. known_still lang text (end_of best) known h)
known_more lang text best known i false e b h leads = known_still lang text (end_of best) known h

prefix_name : (n : Name) → is_prefix (OfScan (Between (OfName n))) ≡ true → OfScan (Between (OfName n)) ≡ a_prefix
prefix_name name.Word h = absurd (true≢false (sym h))
prefix_name name.Prefix h = refl
prefix_name name.PrefixDot h = absurd (true≢false (sym h))
prefix_name name.Colon h = absurd (true≢false (sym h))
prefix_name name.Local h = absurd (true≢false (sym h))
prefix_name name.LocalDot h = absurd (true≢false (sym h))
prefix_name name.Percent h = absurd (true≢false (sym h))
prefix_name name.PercentDigit h = absurd (true≢false (sym h))
prefix_name name.Backslash h = absurd (true≢false (sym h))
prefix_name name.LowLine h = absurd (true≢false (sym h))
prefix_name name.LowWord h = absurd (true≢false (sym h))
prefix_name name.BlankColon h = absurd (true≢false (sym h))
prefix_name name.Blank h = absurd (true≢false (sym h))
prefix_name name.BlankDot h = absurd (true≢false (sym h))

is_a_prefix : (s : State) → is_prefix s ≡ true → s ≡ a_prefix
is_a_prefix (OfDdl s) h = absurd (true≢false (sym h))
is_a_prefix (OfScan (Within l left bits)) h = absurd (true≢false (sym h))
is_a_prefix (OfScan (Between Start)) h = absurd (true≢false (sym h))
is_a_prefix (OfScan (Between (OfName n))) h = prefix_name n h
is_a_prefix (OfScan (Between (OfNumber x))) h = absurd (true≢false (sym h))
is_a_prefix (OfScan (Between (OfString x))) h = absurd (true≢false (sym h))
is_a_prefix (OfScan (Between (OfIri x))) h = absurd (true≢false (sym h))
is_a_prefix (OfScan (Between (OfSign x))) h = absurd (true≢false (sym h))
is_a_prefix (OfScan (Between (OfTag x))) h = absurd (true≢false (sym h))
is_a_prefix (OfScan (Between (OfVariable x))) h = absurd (true≢false (sym h))

-- the search stops only behind such a letter
pub is_there : (s : State) (b : ℕ) → (is_word_part b && is_prefix s) ≡ true → (is_word_part b ≡ true) × (s ≡ a_prefix)
is_there s b h = let p : (is_word_part b ≡ true) × (is_prefix s ≡ true) = and_parts (is_word_part b) (is_prefix s) h in (p.0, is_a_prefix s p.1)

-- one byte more that is no token's end
pub leads_more : (lang : Lang) (text : List ℕ) (from i : ℕ) (sure sure' : Bool) (next : State) → (sure ≡ true → LeadsToPrefix lang text from i) → state_after lang (take (suc i) text) ≡ Some next
    → sure' ≡ (sure && (is_prefix next || not (is_word_part (get_or text i 0)))) → sure' ≡ true → LeadsToPrefix lang text from (i + 1)
leads_more lang text from i sure sure' next old q e t k a c w =
    let p : (sure ≡ true) × ((is_prefix next || not (is_word_part (get_or text i 0))) ≡ true) = and_parts sure (is_prefix next || not (is_word_part (get_or text i 0))) (sym e ∙ t) in
    let word : Bool = is_word_part (get_or text i 0) in
    let below : k ≤ i = omega arith in
    ⊎_elim (λ (z : k ≡ i). ap (λ j. state_after lang (take (suc j) text)) z ∙ q ∙ ap Some (is_a_prefix next (implied word (is_prefix next) (or_comm (not word) (is_prefix next) ∙ p.1) (ap (λ j. is_word_part (get_or text j 0)) (sym z) ∙ w))))
    (λ (z : k < i). old p.0 k a z w)
    (eq-or-lt_of_le below)

moved : (lang : Lang) (text : List ℕ) (n to : ℕ) → IsBarren lang text n to → IsBarren lang (drop n text) 0 (to - n)
moved lang text n to h k a b w =
    let z : n + suc k ≡ suc (n + k) = omega arith in
    subst (EndsNoName lang) (sym (drop-drop (suc k) n text ∙ ap (λ j. drop j text) z)) (h (n + k) (omega arith) (omega arith) (ap is_word_part (sym (get_or-drop n text k 0)) ∙ w))

-- what is known of the rest, behind the bytes that were taken of it
pub past : (lang : Lang) (text rest : List ℕ) (at n to to' : ℕ) → rest ≡ drop at text → IsBarren lang rest n to → to' ≡ to - n → IsBarren lang (drop (at + n) text) 0 to'
past lang text rest at n to to' is h e =
    subst (IsBarren lang (drop (at + n) text) 0) (sym e) (subst (λ t. IsBarren lang t 0 (to - n)) (ap (drop n) is ∙ drop-drop n at text) (moved lang rest n to h))
