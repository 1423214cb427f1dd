-- The trees of a forest.
use Rattle.std.proofs.Common.{◌≡◌, ℕ, ◌<◌, ◌+◌, List, [], ◌∷◌, ◌++◌, length, get_or, refl, ap, sym, ◌∙◌, subst, arith, zero, suc}
use Rattle.std.proofs.lemmas.List.{get_or_append_left, length_push}
use Rattle.std.proofs.Math.Seq.{get_or-append_seam}
use Rattle.vkg_grammar.specs.declared.forest.Node.{Node}
use Rattle.vkg_grammar.specs.declared.forest.Node.TheVariants.{Leaf, Nothing, Pair, First, Second}
use Rattle.vkg_grammar.specs.Trees.{Tree, nothing, pair, first, second, grown, trees_on, trees_of, tree_at, HasPartsBelow}

-- more nodes leave the trees before them
kept : (ts : List Tree) (ns : List Node) (i : ℕ) → i < length ts → get_or (trees_on ts ns) i nothing ≡ get_or ts i nothing
kept ts [] i h = refl
kept ts (n ∷ ns) i h = kept (ts ++ grown ts n ∷ []) ns i (omega (arith, length_push ts (grown ts n))) ∙ get_or_append_left ts (grown ts n ∷ []) nothing i h

same_grown : (ts us : List Tree) (m : ℕ) (n : Node) → ((i : ℕ) → i < m → get_or ts i nothing ≡ get_or us i nothing) → HasPartsBelow m n → grown ts n ≡ grown us n
same_grown ts us m (Leaf i) e b = refl
same_grown ts us m Nothing e b = refl
same_grown ts us m (Pair x y) e b = ap (λ z. pair z (get_or ts y nothing)) (e x (omega (arith, b.0))) ∙ ap (λ z. pair (get_or us x nothing) z) (e y (omega (arith, b.1)))
same_grown ts us m (First x) e b = ap (λ z. first z) (e x (omega (arith, b.0)))
same_grown ts us m (Second x) e b = ap (λ z. second z) (e x (omega (arith, b.0)))

made_on : (ts : List Tree) (ns : List Node) (j : ℕ) → j < length ns → HasPartsBelow (length ts + j) (get_or ns j Nothing) → get_or (trees_on ts ns) (length ts + j) nothing ≡ grown (trees_on ts ns) (get_or ns j Nothing)
made_on ts [] j h b = absurd (omega arith)
made_on ts (n ∷ ns) zero h b =
    let us : List Tree = ts ++ grown ts n ∷ [] in
    let here : get_or (trees_on us ns) (length ts) nothing ≡ get_or us (length ts) nothing = kept us ns (length ts) (omega (arith, length_push ts (grown ts n))) in
    let below : (i : ℕ) → i < length ts → get_or ts i nothing ≡ get_or (trees_on us ns) i nothing = λ i k. sym (kept ts (n ∷ ns) i k) in
    let same : length ts + 0 ≡ length ts = omega arith in
    ap (λ m. get_or (trees_on us ns) m nothing) same ∙ here ∙ get_or-append_seam ts (grown ts n) [] nothing ∙ same_grown ts (trees_on us ns) (length ts) n below (subst (λ m. HasPartsBelow m n) same b)
made_on ts (n ∷ ns) (suc j) h b =
    let us : List Tree = ts ++ grown ts n ∷ [] in
    let same : length us + j ≡ length ts + suc j = omega (arith, length_push ts (grown ts n)) in
    let deep : get_or (trees_on us ns) (length us + j) nothing ≡ grown (trees_on us ns) (get_or ns j Nothing) = made_on us ns j (omega arith) (subst (λ m. HasPartsBelow m (get_or ns j Nothing)) (sym same) b) in
    subst (λ m. get_or (trees_on us ns) m nothing ≡ grown (trees_on us ns) (get_or ns j Nothing)) same deep

pub made : (ns : List Node) (i : ℕ) → i < length ns → HasPartsBelow i (get_or ns i Nothing) → tree_at ns i ≡ grown (trees_of ns) (get_or ns i Nothing)
unfolding trees_of
made ns i h b = subst (λ m. get_or (trees_on [] ns) m nothing ≡ grown (trees_on [] ns) (get_or ns i Nothing)) (omega arith) (made_on [] ns i h (subst (λ m. HasPartsBelow m (get_or ns i Nothing)) (omega arith) b))

on_more : (ts : List Tree) (ns : List Node) (n : Node) → trees_on ts (ns ++ n ∷ []) ≡ trees_on ts ns ++ grown (trees_on ts ns) n ∷ []
on_more ts [] n = refl
on_more ts (m ∷ ns) n = on_more (ts ++ grown ts m ∷ []) ns n

pub one_more_tree : (ns : List Node) (n : Node) → trees_of (ns ++ n ∷ []) ≡ trees_of ns ++ grown (trees_of ns) n ∷ []
unfolding trees_of
one_more_tree ns n = on_more [] ns n

count_on : (ts : List Tree) (ns : List Node) → length (trees_on ts ns) ≡ length ts + length ns
count_on ts [] = omega arith
count_on ts (n ∷ ns) = omega (arith, count_on (ts ++ grown ts n ∷ []) ns, length_push ts (grown ts n))

pub count : (ns : List Node) → length (trees_of ns) ≡ length ns
unfolding trees_of
count ns = omega (arith, count_on [] ns)
