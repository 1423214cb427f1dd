-- One more tree on the stack.
use Rattle.std.proofs.Common.{◌≡◌, ℕ, ◌<◌, List, [], ◌∷◌, ◌++◌, length, map, reverse, get_or, ap, sym, ◌∙◌, subst, arith}
use Rattle.std.proofs.lemmas.List.{get_or_default, reverse-append, get_or_append_left}
use Rattle.std.proofs.Math.Seq.{get_or-append_seam}
use Rattle.std.proofs.lemmas.List.{map-append}
use Rattle.vkg_lists.proofs.Members.{map_agree_on}
use Rattle.vkg_grammar.specs.declared.forest.Node.{Node}
use Rattle.vkg_grammar.specs.Trees.{Tree, nothing, tree_at, trees_of}
use Rattle.vkg_grammar.proofs.Forests.{count}
use Rattle.vkg_grammar.specs.Decoding.{AreNodesOf, tops_of}

pub added : (ns ms : List Node) (s : List ℕ) (t : Tree) → trees_of ms ≡ trees_of ns ++ t ∷ [] → AreNodesOf (length ns) s → tops_of ms (s ++ length ns ∷ []) ≡ t ∷ tops_of ns s
added ns ms s t e b =
    let here : tree_at ms (length ns) ≡ t = ap (λ ts. get_or ts (length ns) nothing) e ∙ ap (λ m. get_or (trees_of ns ++ t ∷ []) m nothing) (sym (count ns)) ∙ get_or-append_seam (trees_of ns) t [] nothing in
    let kept : (i : ℕ) → i < length ns → tree_at ms i ≡ tree_at ns i = λ i h. ap (λ ts. get_or ts i nothing) e ∙ get_or_append_left (trees_of ns) (t ∷ []) nothing i (omega (arith, count ns)) in
    let rest : map (tree_at ms) s ≡ map (tree_at ns) s = map_agree_on (tree_at ms) (tree_at ns) s (λ x c. kept x (subst (λ i. i < length ns) (get_or_default s c.0 0 x c.1 ∙ c.2) (b c.0 c.1))) in
    ap reverse (map-append (tree_at ms) s (length ns ∷ [])) ∙ reverse-append (map (tree_at ms) s) (tree_at ms (length ns) ∷ []) ∙ ap (λ y. y ∷ reverse (map (tree_at ms) s)) here ∙ ap (λ r. t ∷ reverse r) rest
