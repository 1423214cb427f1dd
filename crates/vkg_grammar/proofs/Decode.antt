-- The steps of a tree decode to it.
use Rattle.std.proofs.Common.{◌≡◌, ℕ, ◌+◌, ◌-◌, ◌<◌, ◌≤◌, List, ◌∷◌, ◌++◌, drop, length, get_or, refl, ap, sym, ◌∙◌, arith, append_assoc}
use Rattle.std.proofs.lemmas.List.{drop_more, get_or-map, length-map}
use Rattle.vkg_grammar.specs.declared.note.Note.{Note}
use Rattle.vkg_grammar.specs.Trees.{Tree, leaf, nothing, pair, first, second, size, IsFrom}
use Rattle.vkg_grammar.specs.declared.note.Act.{Act as Step}
use Rattle.vkg_grammar.specs.declared.note.Act.TheVariants as step
use Rattle.vkg_grammar.specs.Decoding.{acts_of, token_before, decoded, stepped, steps_of}

-- the steps of a tree before others
pub decodes : (n at : ℕ) (t : Tree) (q : List Step) → IsFrom at t → (decoded n q).token ≡ at + size t → ((decoded n (steps_of t ++ q)).token ≡ at) × ((decoded n (steps_of t ++ q)).trees ≡ t ∷ (decoded n q).trees)
decodes n at (leaf i) q h e = let k : (decoded n q).token ≡ at + 1 = e in (omega arith, ap (λ j. leaf j ∷ (decoded n q).trees) (omega (arith, h)))
decodes n at nothing q h e = (e ∙ omega arith, refl)
decodes n at (first a) q h e = let r = decodes n at a q h e in (r.0, ap (λ f. stepped step.First 0 f) r.1)
decodes n at (second a) q h e = let r = decodes n at a q h e in (r.0, ap (λ f. stepped step.Second 0 f) r.1)
decodes n at (pair a b) q h e =
    let s = decodes n (at + size a) b q h.1 (e ∙ omega arith) in
    let r = decodes n at a (steps_of b ++ q) h.0 s.0 in
    let same : (steps_of a ++ steps_of b) ++ q ≡ steps_of a ++ (steps_of b ++ q) = append_assoc (steps_of a) (steps_of b) q in (
      ap (λ y. (decoded n y).token) same ∙ r.0,
      ap (λ y. stepped step.Pair 0 (decoded n y).trees) same ∙ ap (λ f. stepped step.Pair 0 f) (r.1 ∙ ap (λ f. a ∷ f) s.1),
    )

-- the goal of the loop of `build`, over plain variables: one more note from the right
pub one_back : (count : ℕ) (notes : List Note) (at : ℕ) (e : Note) {token token' : ℕ} {f f' : List Tree} → 0 < at → at ≤ length notes → token ≡ (decoded count (drop at (acts_of notes))).token → f ≡ (decoded count (drop at (acts_of notes))).trees → token' ≡ token_before (get_or notes (at - 1) e).act token → f' ≡ stepped (get_or notes (at - 1) e).act token' f → (token' ≡ (decoded count (drop (at - 1) (acts_of notes))).token) × (f' ≡ (decoded count (drop (at - 1) (acts_of notes))).trees)
one_back count notes at e {token = token} {token' = token'} {f = f} {f' = f'} pos inside is_token is_trees next_token next_trees =
    let acts : List Step = acts_of notes in
    let act : Step = (get_or notes (at - 1) e).act in
    let below : at - 1 < length notes = omega arith in
    let known : at - 1 < length acts = omega (arith, below, length-map notes (λ n. n.act)) in
    let here : get_or acts (at - 1) e.act ≡ act = get_or-map (λ n. n.act) notes (at - 1) e e.act below in
    let again : at - 1 + 1 ≡ at = omega arith in
    let parted : drop (at - 1) acts ≡ act ∷ drop at acts = drop_more acts (at - 1) e.act known ∙ ap (λ x. x ∷ drop (at - 1 + 1) acts) here ∙ ap (λ m. act ∷ drop m acts) again in
    let same_token : token' ≡ token_before act (decoded count (drop at acts)).token = next_token ∙ ap (λ n. token_before act n) is_token in (
      same_token ∙ sym (ap (λ q. (decoded count q).token) parted),
      next_trees ∙ ap (λ ts. stepped act token' ts) is_trees ∙ ap (λ n. stepped act n (decoded count (drop at acts)).trees) same_token ∙ sym (ap (λ q. (decoded count q).trees) parted),
    )
