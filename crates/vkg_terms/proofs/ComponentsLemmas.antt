-- The components of a text, one after another.
use Rattle.std.proofs.Common.{◌≡◌, ◌==◌, List, ℕ, sym, ap, ◌∙◌}
use Rattle.std.specs.List.{before_first}
use Rattle.vkg_terms.specs.Resolve.{Parts, split, scheme_of, after_scheme, authority_of, path_of, after, hierarchy}
use Rattle.vkg_terms.proofs.Cuts.{before_either}

pub parts_same : (p q : Parts) → p.scheme ≡ q.scheme → p.authority ≡ q.authority → p.path ≡ q.path → p.query ≡ q.query → p.fragment ≡ q.fragment → p ≡ q
parts_same p q s a h y f = λ i. record { scheme = s i; authority = a i; path = h i; query = y i; fragment = f i }

-- the text cut from the left: scheme, then fragment from the right, query, authority
pub split_steps : (text rest front hier : List ℕ) (p : Parts) → p.scheme ≡ scheme_of text → rest ≡ after_scheme text
    → front ≡ before_first (λ b. b == 35) rest → p.fragment ≡ after 35 rest
    → hier ≡ before_first (λ b. b == 63) front → p.query ≡ after 63 front
    → p.authority ≡ authority_of hier → p.path ≡ path_of hier → p ≡ split text
split_steps text rest front hier p s r f g h q a t =
    let front_is : front ≡ before_first (λ b. b == 35) (after_scheme text) = f ∙ ap (before_first (λ b. b == 35)) r in
    let hier_is : hier ≡ hierarchy text = h ∙ ap (before_first (λ b. b == 63)) front_is ∙ sym (before_either (after_scheme text)) in
    parts_same p (split text) s (a ∙ ap authority_of hier_is) (t ∙ ap path_of hier_is) (q ∙ ap (after 63) front_is) (g ∙ ap (after 35) r)
