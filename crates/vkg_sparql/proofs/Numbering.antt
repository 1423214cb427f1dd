-- Each variable and each blank node of a query has a number, that of its key among the keys.
use Rattle.std.proofs.Common.{◌≡◌, ◌∙◌, ℕ, ◌+◌, ◌||◌, ◌==◌, Bool, true, false, if◌then◌else◌, zero, suc, List, [], ◌∷◌, ◌++◌, fold, length, Option, Some, None, option_map, unwrap_or, refl, sym, ap, length-append}
use Rattle.std.specs.Prelude.{slice_get}
use Rattle.std.specs.List.{list_any}
use Rattle.std.specs.Str.{bytes_eq}
use Rattle.std.proofs.lemmas.List.Folds.{fold_along, list_any-append}
use Rattle.std.proofs.lemmas.Slice.Eq.{bytes_eq-Decides}
use Rattle.std.proofs.Math.Bool.{or-true}
use Rattle.vkg_lists.proofs.Positions.{first_found}
use Rattle.vkg_sparql.specs.declared.lexeme.Lexeme.{Lexeme}
use Rattle.vkg_sparql.specs.declared.names.Named.{Named}
use Rattle.vkg_sparql.specs.Lexemes.{key_of, name_of, named_of, number_in, with_key, with_new_key}

-- whether a key is a variable's: its first byte is `?` (63)
abbrev pub is_variable_key : List ℕ → Bool
is_variable_key [] = false
is_variable_key (b ∷ bs) = b == 63

-- the key with this number is a variable's, or is none
abbrev pub Marked : List (List ℕ) → ℕ → Bool → Type 0
Marked keys n b = option_map is_variable_key (slice_get keys n) ≡ Some b

-- ---- where a key stands

pub number_at : (key : List ℕ) (keys : List (List ℕ)) → list_any (bytes_eq key) keys ≡ true → slice_get keys (number_in keys (Some key)) ≡ Some key
number_at key keys h =
    let s = first_found (bytes_eq key) keys h in
    ap (λ o. slice_get keys (unwrap_or o 0)) s.1.place ∙ s.1.at ∙ ap Some (sym ((bytes_eq-Decides key s.0).0 s.1.passes))

-- ---- the keys of tokens

abbrev Known : List ℕ → Named → Type 0
Known key named = list_any (bytes_eq key) named.keys ≡ true

abbrev step : Named → Lexeme → Named
step named x = with_key named (key_of x) x

module _ (key : List ℕ) where
  kept_if : (b : Bool) (named : Named) (k : List ℕ) (x : Lexeme) → Known key named → Known key (if b then named else with_new_key named k x)
  kept_if true named k x h = h
  kept_if false named k x h = list_any-append (bytes_eq key) named.keys (k ∷ []) ∙ ap (λ b. b || list_any (bytes_eq key) (k ∷ [])) h

  kept : (o : Option (List ℕ)) (named : Named) (x : Lexeme) → Known key named → Known key (with_key named o x)
  kept None named x h = h
  kept (Some k) named x h = kept_if (list_any (bytes_eq k) named.keys) named k x h

  added : (keys : List (List ℕ)) → list_any (bytes_eq key) (keys ++ key ∷ []) ≡ true
  added keys = list_any-append (bytes_eq key) keys (key ∷ []) ∙ ap (λ b. list_any (bytes_eq key) keys || (b || false)) ((bytes_eq-Decides key key).1 refl) ∙ or-true (list_any (bytes_eq key) keys)

  known_if : (b : Bool) (named : Named) (x : Lexeme) → list_any (bytes_eq key) named.keys ≡ b → Known key (if b then named else with_new_key named key x)
  known_if true named x e = e
  known_if false named x e = added named.keys

  known : (o : Option (List ℕ)) (named : Named) (x : Lexeme) → o ≡ Some key → Known key (with_key named o x)
  known o named x e = rw e (known_if (list_any (bytes_eq key) named.keys) named x refl)

  -- a token's key is among those of the tokens
  known_on : (xs : List Lexeme) (named : Named) (i : ℕ) (x : Lexeme) → slice_get xs i ≡ Some x → key_of x ≡ Some key → Known key (fold step named xs)
  known_on [] named zero x e k = absurd (cc)
  known_on [] named (suc i) x e k = absurd (cc)
  known_on (y ∷ xs) named zero x e k =
      let same : y ≡ x = cc in
      fold_along step {C = Unit {0}} (λ c _. c) (λ b c. Known key b) (λ b c z. kept (key_of z) b z) (step named y) tt xs (known (key_of y) named y (ap key_of same ∙ k))
  known_on (y ∷ xs) named (suc i) x e k = known_on xs (step named y) i x e k

pub numbered : (xs : List Lexeme) (i : ℕ) (x : Lexeme) (key : List ℕ) → slice_get xs i ≡ Some x → key_of x ≡ Some key → slice_get (named_of xs).keys (number_in (named_of xs).keys (key_of x)) ≡ Some key
numbered xs i x key e k = ap (λ o. slice_get (named_of xs).keys (number_in (named_of xs).keys o)) k ∙ number_at key (named_of xs).keys (known_on key xs _ i x e k)

-- ---- as many names as keys

abbrev IsEven : Named → Type 0
IsEven named = length named.keys ≡ length named.names

even_if : (b : Bool) (named : Named) (k : List ℕ) (x : Lexeme) → IsEven named → IsEven (if b then named else with_new_key named k x)
even_if true named k x h = h
even_if false named k x h = length-append named.keys (k ∷ []) ∙ ap (λ n. n + 1) h ∙ sym (length-append named.names (name_of x.word ∷ []))

even_step : (o : Option (List ℕ)) (named : Named) (x : Lexeme) → IsEven named → IsEven (with_key named o x)
even_step None named x h = h
even_step (Some k) named x h = even_if (list_any (bytes_eq k) named.keys) named k x h

pub as_many : (xs : List Lexeme) → length (named_of xs).keys ≡ length (named_of xs).names
as_many xs = fold_along step {C = Unit {0}} (λ c _. c) (λ b c. IsEven b) (λ b c x. even_step (key_of x) b x) _ tt xs refl
