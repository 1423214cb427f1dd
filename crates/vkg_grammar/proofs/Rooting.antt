-- The goals of `parse_tree`, over plain variables.
use Rattle.std.proofs.Common.{◌≡◌, ℕ, ◌<◌, List, [], ◌∷◌, length, reverse, map, get_or, ap, sym, ◌∙◌, subst, arith}
use Rattle.std.proofs.lemmas.List.{length-map, length-reverse}
use Rattle.vkg_tokens.specs.declared.cutting.Token.{Token}
use Rattle.vkg_grammar.specs.declared.forest.Node.{Node}
use Rattle.vkg_grammar.specs.declared.note.Note.{Note}
use Rattle.vkg_grammar.specs.declared.rule.Rule.{Rule}
use Rattle.vkg_grammar.specs.Decoding.{acts_of, decoded, tops_of, AreNodesOf}
use Rattle.vkg_grammar.specs.Kinds.{kinds_of}
use Rattle.vkg_grammar.specs.OneTree.{IsTheTree}
use Rattle.vkg_grammar.specs.Parsing.{IsTheText}
use Rattle.vkg_grammar.specs.Trees.{Tree, tree_at}
use Rattle.vkg_grammar.proofs.Same.{the_tree}

-- one tree on the stack is its first
pub root_of : (ns : List Node) (s : List ℕ) (t : Tree) → tops_of ns s ≡ t ∷ [] → AreNodesOf (length ns) s → (0 < length s) × ((d : ℕ) → d ≡ get_or s 0 d → (tree_at ns d ≡ t) × (d < length ns))
root_of ns [] t e b = absurd (cc)
root_of ns (x ∷ []) t e b = (omega arith, λ d h. let same : d ≡ x = h in (ap (tree_at ns) same ∙ (let f : tree_at ns x ∷ [] ≡ t ∷ [] = e in cc), subst (λ y. y < length ns) (sym same) (b 0 (omega arith))))
root_of ns (x ∷ y ∷ s) t e b = absurd (let two : length (reverse (map (tree_at ns) (x ∷ y ∷ s))) ≡ length (map (tree_at ns) (x ∷ y ∷ s)) = length-reverse (map (tree_at ns) (x ∷ y ∷ s)) in let one : length (reverse (map (tree_at ns) (x ∷ y ∷ s))) ≡ 1 = ap length e in omega (arith, two, one))

-- what is built of the notes of a text is its tree
pub root_of_text : {g : List Rule} (tokens : List Token) {ws ws' : List Note} (ns : List Node) (s : List ℕ) → IsTheText g (kinds_of tokens) ws → ws' ≡ ws → tops_of ns s ≡ (decoded (length tokens) (acts_of ws')).trees → AreNodesOf (length ns) s → (0 < length s) × ((d : ℕ) → d ≡ get_or s 0 d → IsTheTree g (kinds_of tokens) (tree_at ns d) × (d < length ns))
root_of_text {g = g} tokens {ws = ws} {ws' = ws'} ns s w same tops below =
    let t = the_tree w in
    let count = ap (λ m. (decoded m (acts_of ws)).trees) (sym (length-map tokens (λ t. t.kind))) in
    let r = root_of ns s t.0 (tops ∙ ap (λ a. (decoded (length tokens) (acts_of a)).trees) same ∙ count ∙ t.2) below in
    (r.0, λ d h. (subst (λ u. IsTheTree g (kinds_of tokens) u) (sym (r.1 d h).0) t.1, (r.1 d h).1))
