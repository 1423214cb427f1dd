-- The algebra of a query names nothing that the query does not name.
use Rattle.std.proofs.Common.{◌≡◌, ◌∙◌, ℕ, List, [], ◌∷◌, ◌++◌, Option, Some, None, fold, flat_map, length, map, ⊎_elim, subst, sym, ap, append_assoc}
use Rattle.std.specs.List.{Contains}
use Rattle.std.proofs.lemmas.List.Concat.{flat_map-append}
use Rattle.std.proofs.lemmas.List.Elements.{Contains-append_left, Contains-append_right, Contains-append_cases}
use Rattle.vkg_lists.proofs.Members.{Contains-none, Contains-here, Contains-there, Contains-cons_cases}
use Rattle.vkg_sparql.specs.declared.pattern.Node.{Node}
use Rattle.vkg_sparql.specs.declared.pattern.Node.TheVariants as node
use Rattle.vkg_sparql.specs.declared.pattern.TriplePattern.{TriplePattern}
use Rattle.vkg_sparql.specs.Query.{Condition, And, Part, Triples, Graph, Groups, Minus, Values, Bind, Group, End, Then, Unions, Last, Union, Query}
use Rattle.vkg_sparql.specs.Query as query
use Rattle.vkg_sparql.specs.Lawful.{form_nodes, IsLawful, IsLawfulQuery, condition_nodes, group_nodes, keys_nodes, name_node, part_nodes, pattern_nodes, patterns_nodes, query_nodes, rows_nodes, selected_nodes, unions_nodes}
use Rattle.vkg_algebra.specs.Algebra.{Algebra, Bgp, Join, LeftJoin, Table, Extend}
use Rattle.vkg_algebra.specs.Algebra as algebra
use Rattle.vkg_algebra.specs.Lawful.{IsLawfulAlgebra, algebra_nodes, condition_nodes_if_any}
use Rattle.vkg_algebra.specs.Translation.{Element, Block, Test, Optionally, Inner, Without, Bound, algebra_of, before, condition_of, element, elements, filtered, group_algebra, grown, joined, optional, pattern_of, patterns_of, simplified, tests_of, united}

-- each node of the one list is one of the other
pub record Within (xs ys : List Node) : Type 0 where
  pub each : (x : Node) → Contains xs x → Contains ys x

itself : (xs : List Node) → Within xs xs
itself xs = record { each = λ x h. h }

nothing : (xs : List Node) → Within [] xs
nothing xs = record { each = λ x h. absurd (Contains-none x h) }

then : {xs ys zs : List Node} → Within xs ys → Within ys zs → Within xs zs
then f g = record { each = λ x h. g.each x (f.each x h) }

left : (xs ys : List Node) → Within xs (xs ++ ys)
left xs ys = record { each = λ x h. Contains-append_left xs ys x h }

right : (xs ys : List Node) → Within ys (xs ++ ys)
right xs ys = record { each = λ x h. Contains-append_right xs ys x h }

both : {xs ys zs : List Node} → Within xs zs → Within ys zs → Within (xs ++ ys) zs
both {xs} {ys} f g = record { each = λ x h. ⊎_elim (f.each x) (g.each x) (Contains-append_cases xs ys x h) }

-- side by side
beside : {xs ys us vs : List Node} → Within xs us → Within ys vs → Within (xs ++ ys) (us ++ vs)
beside {xs} {ys} {us} {vs} f g = both (then f (left us vs)) (then g (right us vs))

after : (x : Node) {xs ys : List Node} → Within xs ys → Within (x ∷ xs) (x ∷ ys)
after x {xs} {ys} f = record { each = λ y h. ⊎_elim (λ e. subst (λ z. Contains (x ∷ ys) z) e (Contains-here x ys)) (λ c. Contains-there x ys y (f.each y c)) (Contains-cons_cases x xs y h) }

along : {xs ys zs : List Node} → ys ≡ zs → Within xs ys → Within xs zs
along {xs} e f = subst (λ l. Within xs l) e f

from : {xs ys zs : List Node} → xs ≡ ys → Within ys zs → Within xs zs
from {xs} {ys} {zs} e f = subst (λ l. Within l zs) (sym e) f

-- nodes among lawful ones are lawful
pub lawful_part : (n : ℕ) (xs ys : List Node) → ((x : Node) → Contains xs x → Contains ys x) → IsLawful n ys → IsLawful n xs
lawful_part n xs ys f h = record { within = λ x c. h.within x (f x c); apart = λ v c e. h.apart v (f (node.Variable v) c) (f (node.Label v) e) }

-- ---- simplification

within_joined : (a b : Algebra) → Within (algebra_nodes (joined a b)) (algebra_nodes a ++ algebra_nodes b)
within_joined (Bgp []) b = right [] (algebra_nodes b)
within_joined (Bgp (p ∷ ps)) (Bgp []) = left (algebra_nodes (Bgp (p ∷ ps))) []
within_joined (Join c d) (Bgp []) = left (algebra_nodes (Join c d)) []
within_joined (LeftJoin c d f) (Bgp []) = left (algebra_nodes (LeftJoin c d f)) []
within_joined (algebra.Union c d) (Bgp []) = left (algebra_nodes (algebra.Union c d)) []
within_joined (algebra.Filter f c) (Bgp []) = left (algebra_nodes (algebra.Filter f c)) []
within_joined (algebra.Graph name c) (Bgp []) = left (algebra_nodes (algebra.Graph name c)) []
within_joined (algebra.Minus c d) (Bgp []) = left (algebra_nodes (algebra.Minus c d)) []
within_joined (Table vs rows) (Bgp []) = left (algebra_nodes (Table vs rows)) []
within_joined (Extend c v f) (Bgp []) = left (algebra_nodes (Extend c v f)) []
within_joined a b = itself (algebra_nodes a ++ algebra_nodes b)

within_simplified : (a : Algebra) → Within (algebra_nodes (simplified a)) (algebra_nodes a)
within_simplified (Bgp ps) = itself (patterns_nodes ps)
within_simplified (Join a b) = then (within_joined (simplified a) (simplified b)) (beside (within_simplified a) (within_simplified b))
within_simplified (LeftJoin a b c) = beside (beside (within_simplified a) (within_simplified b)) (itself (condition_nodes_if_any c))
within_simplified (algebra.Union a b) = beside (within_simplified a) (within_simplified b)
within_simplified (algebra.Filter c a) = beside (itself (condition_nodes c)) (within_simplified a)
within_simplified (algebra.Graph name a) = after (name_node name) (within_simplified a)
within_simplified (algebra.Minus a b) = beside (within_simplified a) (within_simplified b)
within_simplified (Table vs rows) = itself (algebra_nodes (Table vs rows))
within_simplified (Extend a v c) = beside (within_simplified a) (itself (node.Variable v ∷ condition_nodes c))

-- ---- a group

abbrev element_nodes : Element → List Node
element_nodes (Block ps) = patterns_nodes ps
element_nodes (Test c) = condition_nodes c
element_nodes (Optionally a) = algebra_nodes a
element_nodes (Inner a) = algebra_nodes a
element_nodes (Without a) = algebra_nodes a
element_nodes (Bound c v) = node.Variable v ∷ condition_nodes c

abbrev elements_nodes : List Element → List Node
elements_nodes es = flat_map element_nodes es

abbrev conditions_nodes : List Condition → List Node
conditions_nodes cs = flat_map condition_nodes cs

within_and : (cs : List Condition) (c : Condition) → Within (condition_nodes (fold And c cs)) (condition_nodes c ++ conditions_nodes cs)
within_and [] c = left (condition_nodes c) []
within_and (d ∷ cs) c = along (append_assoc (condition_nodes c) (condition_nodes d) (conditions_nodes cs)) (within_and cs (And c d))

within_condition : (cs : List Condition) → Within (condition_nodes_if_any (condition_of cs)) (conditions_nodes cs)
within_condition [] = nothing []
within_condition (c ∷ cs) = within_and cs c

within_tests : (es : List Element) → Within (conditions_nodes (tests_of es)) (elements_nodes es)
within_tests [] = nothing []
within_tests (Test c ∷ es) = beside (itself (condition_nodes c)) (within_tests es)
within_tests (Block ps ∷ es) = then (within_tests es) (right (patterns_nodes ps) (elements_nodes es))
within_tests (Optionally a ∷ es) = then (within_tests es) (right (algebra_nodes a) (elements_nodes es))
within_tests (Inner a ∷ es) = then (within_tests es) (right (algebra_nodes a) (elements_nodes es))
within_tests (Without a ∷ es) = then (within_tests es) (right (algebra_nodes a) (elements_nodes es))
within_tests (Bound c v ∷ es) = then (within_tests es) (right (node.Variable v ∷ condition_nodes c) (elements_nodes es))

within_before : (ps : List TriplePattern) (es : List Element) → Within (elements_nodes (before ps es)) (patterns_nodes ps ++ elements_nodes es)
within_before ps [] = itself (patterns_nodes ps ++ [])
within_before ps (Block qs ∷ es) = from (ap (λ l. l ++ elements_nodes es) (flat_map-append pattern_nodes ps qs) ∙ append_assoc (patterns_nodes ps) (patterns_nodes qs) (elements_nodes es)) (itself (patterns_nodes ps ++ (patterns_nodes qs ++ elements_nodes es)))
within_before ps (Test c ∷ es) = itself (patterns_nodes ps ++ elements_nodes (Test c ∷ es))
within_before ps (Optionally a ∷ es) = itself (patterns_nodes ps ++ elements_nodes (Optionally a ∷ es))
within_before ps (Inner a ∷ es) = itself (patterns_nodes ps ++ elements_nodes (Inner a ∷ es))
within_before ps (Without a ∷ es) = itself (patterns_nodes ps ++ elements_nodes (Without a ∷ es))
within_before ps (Bound c v ∷ es) = itself (patterns_nodes ps ++ elements_nodes (Bound c v ∷ es))

within_patterns : (es : List Element) → Within (elements_nodes (patterns_of es)) (elements_nodes es)
within_patterns [] = nothing []
within_patterns (Test c ∷ es) = then (within_patterns es) (right (condition_nodes c) (elements_nodes es))
within_patterns (Block ps ∷ es) = then (within_before ps (patterns_of es)) (beside (itself (patterns_nodes ps)) (within_patterns es))
within_patterns (Optionally a ∷ es) = beside (itself (algebra_nodes a)) (within_patterns es)
within_patterns (Inner a ∷ es) = beside (itself (algebra_nodes a)) (within_patterns es)
within_patterns (Without a ∷ es) = beside (itself (algebra_nodes a)) (within_patterns es)
within_patterns (Bound c v ∷ es) = beside (itself (node.Variable v ∷ condition_nodes c)) (within_patterns es)

within_optional : (g a : Algebra) → Within (algebra_nodes (optional g a)) (algebra_nodes g ++ algebra_nodes a)
within_optional g (algebra.Filter f a) = both (beside (itself (algebra_nodes g)) (right (condition_nodes f) (algebra_nodes a))) (then (left (condition_nodes f) (algebra_nodes a)) (right (algebra_nodes g) (condition_nodes f ++ algebra_nodes a)))
within_optional g a = both (itself (algebra_nodes g ++ algebra_nodes a)) (nothing (algebra_nodes g ++ algebra_nodes a))

within_grown : (g : Algebra) (e : Element) → Within (algebra_nodes (grown g e)) (algebra_nodes g ++ element_nodes e)
within_grown g (Block ps) = itself (algebra_nodes g ++ patterns_nodes ps)
within_grown g (Test c) = left (algebra_nodes g) (condition_nodes c)
within_grown g (Optionally a) = within_optional g a
within_grown g (Inner a) = itself (algebra_nodes g ++ algebra_nodes a)
within_grown g (Without a) = itself (algebra_nodes g ++ algebra_nodes a)
within_grown g (Bound c v) = itself (algebra_nodes g ++ node.Variable v ∷ condition_nodes c)

within_fold : (es : List Element) (g : Algebra) → Within (algebra_nodes (fold grown g es)) (algebra_nodes g ++ elements_nodes es)
within_fold [] g = left (algebra_nodes g) []
within_fold (e ∷ es) g = along (append_assoc (algebra_nodes g) (element_nodes e) (elements_nodes es)) (then (within_fold es (grown g e)) (beside (within_grown g e) (itself (elements_nodes es))))

within_filtered : (c : Option Condition) (a : Algebra) → Within (algebra_nodes (filtered c a)) (condition_nodes_if_any c ++ algebra_nodes a)
within_filtered None a = itself (algebra_nodes a)
within_filtered (Some c) a = itself (condition_nodes c ++ algebra_nodes a)

within_group : (es : List Element) → Within (algebra_nodes (group_algebra es)) (elements_nodes es)
within_group es = then (within_filtered (condition_of (tests_of es)) (pattern_of es)) (both (then (within_condition (tests_of es)) (within_tests es)) (then (within_fold (patterns_of es) (Bgp [])) (within_patterns es)))

mutual
  within_part : (p : Part) → Within (element_nodes (element p)) (part_nodes p)
  within_part (Triples ps) = itself (patterns_nodes ps)
  within_part (query.Filter c) = itself (condition_nodes c)
  within_part (query.Optional g) = then (within_group (elements g)) (within_elements g)
  within_part (Graph name g) = after (name_node name) (then (within_group (elements g)) (within_elements g))
  within_part (Groups g more) = then (within_united more (group_algebra (elements g))) (beside (then (within_group (elements g)) (within_elements g)) (itself (unions_nodes more)))
  within_part (Minus g) = then (within_group (elements g)) (within_elements g)
  within_part (Values vs rows) = itself (map node.Variable vs ++ rows_nodes rows)
  within_part (Bind c v) = itself (node.Variable v ∷ condition_nodes c)

  within_elements : (g : Group) → Within (elements_nodes (elements g)) (group_nodes g)
  within_elements End = nothing []
  within_elements (Then p g) = beside (within_part p) (within_elements g)

  within_united : (more : Unions) (a : Algebra) → Within (algebra_nodes (united a more)) (algebra_nodes a ++ unions_nodes more)
  within_united Last a = left (algebra_nodes a) []
  within_united (Union g more) a = along (append_assoc (algebra_nodes a) (group_nodes g) (unions_nodes more)) (then (within_united more (algebra.Union a (group_algebra (elements g)))) (beside (beside (itself (algebra_nodes a)) (then (within_group (elements g)) (within_elements g))) (itself (unions_nodes more))))

within_query : (q : Query) → Within (algebra_nodes (algebra_of q)) (query_nodes q)
within_query q = then (within_simplified (group_algebra (elements q.group))) (then (within_group (elements q.group)) (then (within_elements q.group) (then (left (group_nodes q.group) (keys_nodes q.keys)) (then (right (selected_nodes q.selected) (group_nodes q.group ++ keys_nodes q.keys)) (right (form_nodes q.form) (selected_nodes q.selected ++ (group_nodes q.group ++ keys_nodes q.keys)))))))

-- the algebra of a lawful query is lawful
pub lawful_algebra : (q : Query) → IsLawfulQuery q → IsLawfulAlgebra (length q.names) (algebra_of q)
lawful_algebra q h = lawful_part (length q.names) (algebra_nodes (algebra_of q)) (query_nodes q) (within_query q).each h
