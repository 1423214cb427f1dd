-- The target graphs, where there is a graph map.
use Rattle.std.proofs.Common.{◌≡◌, ◌+◌, ◌<◌, ◌∙◌, List, [], ◌∷◌, ◌++◌, map, length, Option, Some, arith}
use Rattle.std.proofs.lemmas.List.{map-append}
use Rattle.vkg_lists.proofs.Walks.{map-map}
use Rattle.vkg_maps.specs.declared.term_map.TermMap.{TermMap}
use Rattle.vkg_maps.specs.QuadRules.{targets}

pub targets_are : {A : Type 0} (f : Option TermMap → A) (xs ys : List TermMap) → 0 < length xs + length ys → map f (targets (xs ++ ys)) ≡ map (λ g. f (Some g)) xs ++ map (λ g. f (Some g)) ys
targets_are f [] [] h = absurd (let n : ⊥ = omega (arith, h) in n)
targets_are f [] (y ∷ ys) h = map-map f Some (y ∷ ys)
targets_are f (x ∷ xs) ys h = map-map f Some ((x ∷ xs) ++ ys) ∙ map-append (λ g. f (Some g)) (x ∷ xs) ys
