-- No two plans over one schema share a text.
use Rattle.std.proofs.Common.{◌≡◌, ◌∙◌, ℕ, ◌==◌, true, if◌then◌else◌, suc, List, [], ◌∷◌, ◌++◌, flat_map, map, refl, sym, ap, arith, append_assoc, append-nil, lit<}
use Rattle.std.specs.Prelude.{IsTrue, chars, codes, decimal}
use Rattle.std.specs.List.{list_all}
use Rattle.std.specs.Str.{bytes_eq}
use Rattle.std.proofs.lemmas.List.{append_cancel_left}
use Rattle.vkg_lists.proofs.Runs.{stops, run_same}
use Rattle.vkg_lists.proofs.Heads.{head_same, tail_same}
use Rattle.vkg_cells.specs.declared.cell.SqlType.{SqlType}
use Rattle.vkg_cells.specs.declared.cell.SqlType.TheVariants as kind
use Rattle.vkg_schema.specs.Names.{HasOwnNames, table_name}
use Rattle.vkg_expr.specs.Expr.{Expr, exprs}
use Rattle.vkg_plan.specs.Kinds.{Tables, is_well_typed}
use Rattle.vkg_plan.specs.Plan.{Plan, Plans, Unit as Once, Empty, Scan, Select, Project, Join, Left, AntiJoin, UnionAll, Distinct, Nil, More}
use Rattle.vkg_sqltext.specs.Laws.{HaveOwnTexts, HoldsPlan}
use Rattle.vkg_sqltext.specs.Text.{column_text, commas, doubled, expr_text, in_brackets, kind_text, outputs, outputs_text, separated, sources, sql_text, sql_texts}
use Rattle.vkg_sqltext.proofs.Cutting.{decimal_opens, within_same}
use Rattle.vkg_sqltext.proofs.Heads.{Begins, Ends, SoundExprs, at_bracket, at_end, at_space, begins, class, expr_one, ends_stop, is_letter, kind_same, not_begun}
use Rattle.vkg_sqltext.proofs.Sound.{SoundPlan, SoundPlans, sound_plan}

-- what may stand behind a plan: a bracket, or a word that does not begin with U, as UNION does
pub data Closes : List ℕ → Type 0 where
  closes_end : Closes []
  closes_bracket : (x : List ℕ) → Closes (41 ∷ x)
  closes_word : (c : ℕ) (x : List ℕ) → (c ≡ 85 → ⊥) → Closes (32 ∷ c ∷ x)

closes_ends : {x : List ℕ} → Closes x → Ends x
closes_ends closes_end = at_end
closes_ends (closes_bracket x) = at_bracket x
closes_ends (closes_word c x h) = at_space (c ∷ x)

not_union : {x : List ℕ} (y : List ℕ) → Closes x → x ≡ 32 ∷ 85 ∷ y → ⊥
not_union y closes_end e = absurd (cc)
not_union y (closes_bracket x) e = absurd (let bad = head_same 41 32 x (85 ∷ y) e in omega (arith, bad))
not_union y (closes_word c x h) e = h (head_same c 85 x y (tail_same 32 32 (c ∷ x) (85 ∷ y) e))

-- what stands behind a text in brackets
bracketed : (t r x : List ℕ) → ((t ++ 41 ∷ []) ++ r) ++ x ≡ t ++ 41 ∷ (r ++ x)
bracketed t r x = append_assoc (t ++ 41 ∷ []) r x ∙ append_assoc t (41 ∷ []) (r ++ x)

-- what stands behind a text and its name
under : (t a c f x : List ℕ) → (((t ++ a) ++ c) ++ f) ++ x ≡ t ++ ((a ++ c) ++ (f ++ x))
under t a c f x = append_assoc ((t ++ a) ++ c) f x ∙ ap (λ l. l ++ (f ++ x)) (append_assoc t a c) ∙ append_assoc t (a ++ c) (f ++ x)

-- the same of a text in brackets
member : (t a c f x : List ℕ) → ((((t ++ 41 ∷ []) ++ a) ++ c) ++ f) ++ x ≡ t ++ 41 ∷ ((a ++ c) ++ (f ++ x))
member t a c f x = under (t ++ 41 ∷ []) a c f x ∙ append_assoc t (41 ∷ []) ((a ++ c) ++ (f ++ x))

closed : (t w c x : List ℕ) → (((t ++ 41 ∷ []) ++ w) ++ c) ++ x ≡ t ++ 41 ∷ (w ++ (c ++ x))
closed t w c x = append_assoc ((t ++ 41 ∷ []) ++ w) c x ∙ bracketed t w (c ++ x)

-- ---- kinds

kind_first : (k : SqlType) (z x : List ℕ) → 41 ∷ x ≡ kind_text k ++ z → ⊥
kind_first kind.Int z x e = absurd (let bad = head_same 41 73 _ _ e in omega (arith, bad))
kind_first kind.Dec z x e = absurd (let bad = head_same 41 68 _ _ e in omega (arith, bad))
kind_first kind.Bool z x e = absurd (let bad = head_same 41 66 _ _ e in omega (arith, bad))
kind_first kind.Text z x e = absurd (let bad = head_same 41 84 _ _ e in omega (arith, bad))
kind_first kind.Date z x e = absurd (let bad = head_same 41 68 _ _ e in omega (arith, bad))
kind_first kind.Stamp z x e = absurd (let bad = head_same 41 83 _ _ e in omega (arith, bad))
kind_first kind.Bin z x e = absurd (let bad = head_same 41 66 _ _ e in omega (arith, bad))
kind_first kind.Time z x e = absurd (let bad = head_same 41 84 _ _ e in omega (arith, bad))
kind_first kind.Term z x e = absurd (let bad = head_same 41 84 _ _ e in omega (arith, bad))

abbrev more_kinds : List SqlType → List ℕ
more_kinds ks = flat_map (λ u. codes ", " ++ u) (map kind_text ks)

kinds_stop : (ks : List SqlType) (x : List ℕ) → stops is_letter (more_kinds ks ++ 41 ∷ x) ≡ true
kinds_stop [] x = refl
kinds_stop (k ∷ ks) x = refl

more_kinds_one : (ks ls : List SqlType) (x y : List ℕ) → more_kinds ks ++ 41 ∷ x ≡ more_kinds ls ++ 41 ∷ y → (ks ≡ ls) × (x ≡ y)
more_kinds_one [] [] x y e = (refl, tail_same 41 41 x y e)
more_kinds_one [] (l ∷ ls) x y e = absurd (let bad = head_same 41 44 _ _ e in omega (arith, bad))
more_kinds_one (k ∷ ks) [] x y e = absurd (let bad = head_same 44 41 _ _ e in omega (arith, bad))
more_kinds_one (k ∷ ks) (l ∷ ls) x y e =
    let joined : (kind_text k ++ more_kinds ks) ++ 41 ∷ x ≡ (kind_text l ++ more_kinds ls) ++ 41 ∷ y = tail_same 32 32 _ _ (tail_same 44 44 _ _ e) in
    let r = kind_same k l (more_kinds ks ++ 41 ∷ x) (more_kinds ls ++ 41 ∷ y) (kinds_stop ks x) (kinds_stop ls y) (sym (append_assoc (kind_text k) (more_kinds ks) (41 ∷ x)) ∙ joined ∙ append_assoc (kind_text l) (more_kinds ls) (41 ∷ y)) in
    let more = more_kinds_one ks ls x y r.1 in
    ((λ i. r.0 i ∷ more.0 i), more.1)

kinds_one : (ks ls : List SqlType) (x y : List ℕ) → commas (map kind_text ks) ++ 41 ∷ x ≡ commas (map kind_text ls) ++ 41 ∷ y → (ks ≡ ls) × (x ≡ y)
kinds_one [] [] x y e = (refl, tail_same 41 41 x y e)
kinds_one [] (l ∷ ls) x y e = absurd (kind_first l (more_kinds ls ++ 41 ∷ y) x (e ∙ append_assoc (kind_text l) (more_kinds ls) (41 ∷ y)))
kinds_one (k ∷ ks) [] x y e = absurd (kind_first k (more_kinds ks ++ 41 ∷ x) y (sym e ∙ append_assoc (kind_text k) (more_kinds ks) (41 ∷ x)))
kinds_one (k ∷ ks) (l ∷ ls) x y e =
    let r = kind_same k l (more_kinds ks ++ 41 ∷ x) (more_kinds ls ++ 41 ∷ y) (kinds_stop ks x) (kinds_stop ls y) (sym (append_assoc (kind_text k) (more_kinds ks) (41 ∷ x)) ∙ e ∙ append_assoc (kind_text l) (more_kinds ls) (41 ∷ y)) in
    let more = more_kinds_one ks ls x y r.1 in
    ((λ i. r.0 i ∷ more.0 i), more.1)

-- ---- the expressions of a Project

abbrev named : ℕ → List ℕ
named n = codes " AS " ++ column_text n

abbrev more_outputs : ℕ → List Expr → List ℕ
more_outputs n es = flat_map (λ u. codes ", " ++ u) (outputs n es)

more_outputs_one : (n : ℕ) (es fs : List Expr) (x y : List ℕ) → SoundExprs (exprs es) → SoundExprs (exprs fs) → more_outputs n es ++ 32 ∷ x ≡ more_outputs n fs ++ 32 ∷ y → (es ≡ fs) × (x ≡ y)
more_outputs_one n [] [] x y s t e = (refl, tail_same 32 32 x y e)
more_outputs_one n [] (f ∷ fs) x y s t e = absurd (let bad = head_same 32 44 _ _ e in omega (arith, bad))
more_outputs_one n (d ∷ es) [] x y s t e = absurd (let bad = head_same 44 32 _ _ e in omega (arith, bad))
more_outputs_one n (d ∷ es) (f ∷ fs) x y s t e =
    let joined : (((expr_text d ++ codes " AS ") ++ column_text n) ++ more_outputs (suc n) es) ++ 32 ∷ x ≡ (((expr_text f ++ codes " AS ") ++ column_text n) ++ more_outputs (suc n) fs) ++ 32 ∷ y = tail_same 32 32 _ _ (tail_same 44 44 _ _ e) in
    let r = expr_one d f (named n ++ (more_outputs (suc n) es ++ 32 ∷ x)) (named n ++ (more_outputs (suc n) fs ++ 32 ∷ y)) s.0 t.0 (at_space _) (at_space _)
    (sym (under (expr_text d) (codes " AS ") (column_text n) (more_outputs (suc n) es) (32 ∷ x)) ∙ joined ∙ under (expr_text f) (codes " AS ") (column_text n) (more_outputs (suc n) fs) (32 ∷ y)) in
    let more = more_outputs_one (suc n) es fs x y s.1 t.1 (append_cancel_left (named n) _ _ r.1) in
    ((λ i. r.0 i ∷ more.0 i), more.1)

outputs_one : (es fs : List Expr) (x y : List ℕ) → SoundExprs (exprs es) → SoundExprs (exprs fs) → outputs_text es ++ 32 ∷ x ≡ outputs_text fs ++ 32 ∷ y → (es ≡ fs) × (x ≡ y)
outputs_one [] [] x y s t e = (refl, tail_same 32 32 x y (append_cancel_left (codes "()") (32 ∷ x) (32 ∷ y) e))
outputs_one [] (f ∷ fs) x y s t e =
    absurd (not_begun 40 refl (λ bad. absurd (omega (arith, bad))) f (named 0 ++ (more_outputs 1 fs ++ 32 ∷ y)) (41 ∷ 32 ∷ x) (e ∙ under (expr_text f) (codes " AS ") (column_text 0) (more_outputs 1 fs) (32 ∷ y)))
outputs_one (d ∷ es) [] x y s t e =
    absurd (not_begun 40 refl (λ bad. absurd (omega (arith, bad))) d (named 0 ++ (more_outputs 1 es ++ 32 ∷ x)) (41 ∷ 32 ∷ y) (sym e ∙ under (expr_text d) (codes " AS ") (column_text 0) (more_outputs 1 es) (32 ∷ x)))
outputs_one (d ∷ es) (f ∷ fs) x y s t e =
    let r = expr_one d f (named 0 ++ (more_outputs 1 es ++ 32 ∷ x)) (named 0 ++ (more_outputs 1 fs ++ 32 ∷ y)) s.0 t.0 (at_space _) (at_space _)
    (sym (under (expr_text d) (codes " AS ") (column_text 0) (more_outputs 1 es) (32 ∷ x)) ∙ e ∙ under (expr_text f) (codes " AS ") (column_text 0) (more_outputs 1 fs) (32 ∷ y)) in
    let more = more_outputs_one 1 es fs x y s.1 t.1 (append_cancel_left (named 0) _ _ r.1) in
    ((λ i. r.0 i ∷ more.0 i), more.1)

-- no Project selects what begins with `*` or DISTINCT
outputs_no_star : (es : List Expr) (x y : List ℕ) → 42 ∷ x ≡ outputs_text es ++ 32 ∷ y → ⊥
outputs_no_star [] x y e = absurd (let bad = head_same 42 40 _ _ e in omega (arith, bad))
outputs_no_star (f ∷ fs) x y e = not_begun 42 refl (λ bad. absurd (omega (arith, bad))) f (named 0 ++ (more_outputs 1 fs ++ 32 ∷ y)) x (e ∙ under (expr_text f) (codes " AS ") (column_text 0) (more_outputs 1 fs) (32 ∷ y))

outputs_no_word : (es : List Expr) (x y : List ℕ) → SoundExprs (exprs es) → codes "DISTINCT" ++ 32 ∷ x ≡ outputs_text es ++ 32 ∷ y → ⊥
outputs_no_word [] x y s e = absurd (let bad = head_same 68 40 _ _ e in omega (arith, bad))
outputs_no_word (f ∷ fs) x y s e =
    let b : Begins f = begins f s.0 in
    let z : List ℕ = named 0 ++ (more_outputs 1 fs ++ 32 ∷ y) in
    let joined : codes "DISTINCT" ++ 32 ∷ x ≡ b.front ++ (b.behind ++ z) = e ∙ under (expr_text f) (codes " AS ") (column_text 0) (more_outputs 1 fs) (32 ∷ y) ∙ ap (λ l. l ++ z) b.is ∙ append_assoc b.front b.behind z in
    let r = run_same is_letter (codes "DISTINCT") b.front (32 ∷ x) (b.behind ++ z) refl b.letters refl (b.ends z (at_space _)) joined in
    b.known (sym (ap class r.0))

-- ---- plans

module _ (schema : Tables) (names : HasOwnNames schema) where
  abbrev text : Plan → List ℕ
  text p = sql_text schema p

  abbrev PlanIsOne : Plan → Type 0
  PlanIsOne p = (q : Plan) (x y : List ℕ) → SoundPlan schema p → SoundPlan schema q → Closes x → Closes y → text p ++ x ≡ text q ++ y → (p ≡ q) × (x ≡ y)

  abbrev PlansAreOne : Plans → Type 0
  PlansAreOne Nil = Unit {0}
  PlansAreOne (More p ps) = PlanIsOne p × PlansAreOne ps

  abbrev PartsAreOne : Plan → Type 0
  PartsAreOne (Select c p) = PlanIsOne p
  PartsAreOne (Project es p) = PlanIsOne p
  PartsAreOne (Join ps c) = PlansAreOne ps
  PartsAreOne (Left p q c) = PlanIsOne p × PlanIsOne q
  PartsAreOne (AntiJoin p q c) = PlanIsOne p × PlanIsOne q
  PartsAreOne (UnionAll ps) = PlansAreOne ps
  PartsAreOne (Distinct p) = PlanIsOne p
  PartsAreOne p = Unit {0}

  abbrev plan_word : Plan → List ℕ
  plan_word Once = codes "VALUES"
  plan_word (Empty ks) = codes "EMPTY"
  plan_word (Scan table) = codes "TABLE"
  plan_word (UnionAll ps) = []
  plan_word p = codes "SELECT"

  abbrev plan_rest : Plan → List ℕ
  plan_rest Once = codes " ()"
  plan_rest (Empty ks) = codes " (" ++ commas (map kind_text ks) ++ codes ")"
  plan_rest (Scan table) = codes " \"" ++ flat_map (doubled 34) (chars (table_name schema table)) ++ codes "\""
  plan_rest (Select c p) = codes " * FROM " ++ in_brackets (text p) ++ codes " AS t WHERE " ++ expr_text c
  plan_rest (Project es p) = codes " " ++ outputs_text es ++ codes " FROM " ++ in_brackets (text p) ++ codes " AS t"
  plan_rest (Join ps c) = codes " * FROM " ++ separated (codes " CROSS JOIN ") (sources 1 (sql_texts schema ps)) ++ codes " WHERE " ++ expr_text c
  plan_rest (Left p q c) = codes " * FROM " ++ separated (codes " LEFT JOIN ") (sources 1 (text p ∷ text q ∷ [])) ++ codes " ON " ++ expr_text c
  plan_rest (AntiJoin p q c) = codes " * FROM " ++ separated (codes " ANTI JOIN ") (sources 1 (text p ∷ text q ∷ [])) ++ codes " ON " ++ expr_text c
  plan_rest (UnionAll ps) = separated (codes " UNION ALL ") (map in_brackets (sql_texts schema ps))
  plan_rest (Distinct p) = codes " DISTINCT * FROM " ++ in_brackets (text p) ++ codes " AS t"

  plan_text_is : (p : Plan) → text p ≡ plan_word p ++ plan_rest p
  plan_text_is Once = refl
  plan_text_is p = refl

  abbrev plan_number : Plan → ℕ
  plan_number Once = 0
  plan_number (Empty ks) = 1
  plan_number (Scan table) = 2
  plan_number (UnionAll ps) = 4
  plan_number p = 3

  abbrev plan_class : List ℕ → ℕ
  plan_class w =
      if bytes_eq w (codes "VALUES") then 0
      else if bytes_eq w (codes "EMPTY") then 1
      else if bytes_eq w (codes "TABLE") then 2
      else if bytes_eq w (codes "SELECT") then 3
      else 4

  plan_told : (p : Plan) → plan_class (plan_word p) ≡ plan_number p
  plan_told Once = refl
  plan_told p = refl

  plan_letters : (p : Plan) → list_all is_letter (plan_word p) ≡ true
  plan_letters Once = refl
  plan_letters p = refl

  plan_stops : (p : Plan) (x : List ℕ) → Closes x → stops is_letter (plan_rest p ++ x) ≡ true
  plan_stops (Join Nil c) x u = refl
  plan_stops (Join (More p ps) c) x u = refl
  plan_stops (UnionAll Nil) x u = ends_stop is_letter refl refl refl (closes_ends u)
  plan_stops (UnionAll (More p ps)) x u = refl
  plan_stops p x u = refl

  -- a plan in brackets
  within : (p q : Plan) (x y : List ℕ) → PlanIsOne p → SoundPlan schema p → SoundPlan schema q → text p ++ 41 ∷ x ≡ text q ++ 41 ∷ y → (p ≡ q) × (x ≡ y)
  within p q x y a s t e =
      let r = a q (41 ∷ x) (41 ∷ y) s t (closes_bracket x) (closes_bracket y) e in
      (r.0, tail_same 41 41 x y r.1)

  abbrev joins : ℕ → Plans → List ℕ
  joins n ps = flat_map (λ u. codes " CROSS JOIN " ++ u) (sources n (sql_texts schema ps))

  abbrev unions : Plans → List ℕ
  unions ps = flat_map (λ u. codes " UNION ALL " ++ u) (map in_brackets (sql_texts schema ps))

  abbrev called : ℕ → List ℕ
  called n = codes " AS t" ++ decimal n

  joins_one : (n : ℕ) (ps qs : Plans) (x y : List ℕ) → PlansAreOne ps → SoundPlans schema ps → SoundPlans schema qs → joins n ps ++ 32 ∷ 87 ∷ x ≡ joins n qs ++ 32 ∷ 87 ∷ y → (ps ≡ qs) × (x ≡ y)
  joins_one n Nil Nil x y a s t e = (refl, tail_same 87 87 x y (tail_same 32 32 (87 ∷ x) (87 ∷ y) e))
  joins_one n Nil (More q qs) x y a s t e = absurd (let bad = head_same 87 67 _ _ (tail_same 32 32 _ _ e) in omega (arith, bad))
  joins_one n (More p ps) Nil x y a s t e = absurd (let bad = head_same 67 87 _ _ (tail_same 32 32 _ _ e) in omega (arith, bad))
  joins_one n (More p ps) (More q qs) x y a s t e =
      let joined = append_cancel_left (codes " CROSS JOIN (") _ _ e in
      let r = within p q (called n ++ (joins (suc n) ps ++ 32 ∷ 87 ∷ x)) (called n ++ (joins (suc n) qs ++ 32 ∷ 87 ∷ y)) a.0 s.0 t.0
      (sym (member (text p) (codes " AS t") (decimal n) (joins (suc n) ps) (32 ∷ 87 ∷ x)) ∙ joined ∙ member (text q) (codes " AS t") (decimal n) (joins (suc n) qs) (32 ∷ 87 ∷ y)) in
      let more = joins_one (suc n) ps qs x y a.1 s.1 t.1 (append_cancel_left (called n) _ _ r.1) in
      ((λ i. More (r.0 i) (more.0 i)), more.1)

  unions_one : (ps qs : Plans) (x y : List ℕ) → PlansAreOne ps → SoundPlans schema ps → SoundPlans schema qs → Closes x → Closes y → unions ps ++ x ≡ unions qs ++ y → (ps ≡ qs) × (x ≡ y)
  unions_one Nil Nil x y a s t u v e = (refl, e)
  unions_one Nil (More q qs) x y a s t u v e = absurd (not_union _ u e)
  unions_one (More p ps) Nil x y a s t u v e = absurd (not_union _ v (sym e))
  unions_one (More p ps) (More q qs) x y a s t u v e =
      let joined = append_cancel_left (codes " UNION ALL (") _ _ e in
      let r = within p q (unions ps ++ x) (unions qs ++ y) a.0 s.0 t.0 (sym (bracketed (text p) (unions ps) x) ∙ joined ∙ bracketed (text q) (unions qs) y) in
      let more = unions_one ps qs x y a.1 s.1 t.1 u v r.1 in
      ((λ i. More (r.0 i) (more.0 i)), more.1)

  -- ---- what stands behind `SELECT * FROM (p)`

  abbrev where_tail : Expr → List ℕ → List ℕ
  where_tail c x = codes " AS t WHERE " ++ (expr_text c ++ x)

  abbrev join_tail : Plans → Expr → List ℕ → List ℕ
  join_tail ps c x = called 1 ++ (joins 2 ps ++ (codes " WHERE " ++ (expr_text c ++ x)))

  abbrev left_tail : Plan → Expr → List ℕ → List ℕ
  left_tail q c x = called 1 ++ (codes " LEFT JOIN (" ++ (text q ++ 41 ∷ (called 2 ++ (codes " ON " ++ (expr_text c ++ x)))))

  abbrev anti_tail : Plan → Expr → List ℕ → List ℕ
  anti_tail q c x = called 1 ++ (codes " ANTI JOIN (" ++ (text q ++ 41 ∷ (called 2 ++ (codes " ON " ++ (expr_text c ++ x)))))

  abbrev starred : Plan → List ℕ → List ℕ
  starred p tail = codes " * FROM (" ++ (text p ++ 41 ∷ tail)

  select_is : (c : Expr) (p : Plan) (x : List ℕ) → plan_rest (Select c p) ++ x ≡ starred p (where_tail c x)
  select_is c p x = ap (λ l. codes " * FROM (" ++ l) (closed (text p) (codes " AS t WHERE ") (expr_text c) x)

  -- the first member of a join, those behind it, a word, and the condition
  joined_is : (t f w c x : List ℕ) → ((((((t ++ 41 ∷ []) ++ codes " AS t") ++ decimal 1) ++ f) ++ w) ++ c) ++ x ≡ t ++ 41 ∷ (called 1 ++ (f ++ (w ++ (c ++ x))))
  joined_is t f w c x =
      let front : List ℕ = (((t ++ 41 ∷ []) ++ codes " AS t") ++ decimal 1) ++ f in
      append_assoc (front ++ w) c x ∙ append_assoc front w (c ++ x) ∙ member t (codes " AS t") (decimal 1) f (w ++ (c ++ x))

  join_is : (p : Plan) (ps : Plans) (c : Expr) (x : List ℕ) → plan_rest (Join (More p ps) c) ++ x ≡ starred p (join_tail ps c x)
  join_is p ps c x = ap (λ l. codes " * FROM (" ++ l) (joined_is (text p) (joins 2 ps) (codes " WHERE ") (expr_text c) x)

  left_is : (p q : Plan) (c : Expr) (x : List ℕ) → plan_rest (Left p q c) ++ x ≡ starred p (left_tail q c x)
  left_is p q c x =
      let side : List ℕ = ((text q ++ 41 ∷ []) ++ codes " AS t") ++ decimal 2 in
      let on : List ℕ = codes " ON " ++ (expr_text c ++ x) in
      ap (λ l. codes " * FROM (" ++ l)
      (joined_is (text p) ((codes " LEFT JOIN (" ++ side) ++ []) (codes " ON ") (expr_text c) x
      ∙ ap (λ l. text p ++ 41 ∷ (called 1 ++ (codes " LEFT JOIN (" ++ l))) (member (text q) (codes " AS t") (decimal 2) [] on))

  anti_is : (p q : Plan) (c : Expr) (x : List ℕ) → plan_rest (AntiJoin p q c) ++ x ≡ starred p (anti_tail q c x)
  anti_is p q c x =
      let side : List ℕ = ((text q ++ 41 ∷ []) ++ codes " AS t") ++ decimal 2 in
      let on : List ℕ = codes " ON " ++ (expr_text c ++ x) in
      ap (λ l. codes " * FROM (" ++ l)
      (joined_is (text p) ((codes " ANTI JOIN (" ++ side) ++ []) (codes " ON ") (expr_text c) x
      ∙ ap (λ l. text p ++ 41 ∷ (called 1 ++ (codes " ANTI JOIN (" ++ l))) (member (text q) (codes " AS t") (decimal 2) [] on))

  star_one : (p q : Plan) (x y : List ℕ) → PlanIsOne p → SoundPlan schema p → SoundPlan schema q → starred p x ≡ starred q y → (p ≡ q) × (x ≡ y)
  star_one p q x y a s t e = within p q x y a s t (append_cancel_left (codes " * FROM (") _ _ e)

  where_no_join : (c : Expr) (x y : List ℕ) → where_tail c x ≡ called 1 ++ y → ⊥
  where_no_join c x y e =
      let opened : codes " WHERE " ++ (expr_text c ++ x) ≡ decimal 1 ++ y = append_cancel_left (codes " AS t") _ _ e in
      decimal_opens 1 32 _ y (lit< tt) refl opened

  join_no_left : (ps : Plans) (c d : Expr) (q : Plan) (x y : List ℕ) → join_tail ps c x ≡ left_tail q d y → ⊥
  join_no_left Nil c d q x y e = absurd (let bad = head_same 87 76 _ _ (tail_same 32 32 _ _ (append_cancel_left (called 1) _ _ e)) in omega (arith, bad))
  join_no_left (More p ps) c d q x y e = absurd (let bad = head_same 67 76 _ _ (tail_same 32 32 _ _ (append_cancel_left (called 1) _ _ e)) in omega (arith, bad))

  join_no_anti : (ps : Plans) (c d : Expr) (q : Plan) (x y : List ℕ) → join_tail ps c x ≡ anti_tail q d y → ⊥
  join_no_anti Nil c d q x y e = absurd (let bad = head_same 87 65 _ _ (tail_same 32 32 _ _ (append_cancel_left (called 1) _ _ e)) in omega (arith, bad))
  join_no_anti (More p ps) c d q x y e = absurd (let bad = head_same 67 65 _ _ (tail_same 32 32 _ _ (append_cancel_left (called 1) _ _ e)) in omega (arith, bad))

  left_no_anti : (r o : Plan) (c d : Expr) (x y : List ℕ) → left_tail r c x ≡ anti_tail o d y → ⊥
  left_no_anti r o c d x y e = absurd (let bad = head_same 76 65 _ _ (tail_same 32 32 _ _ (append_cancel_left (called 1) _ _ e)) in omega (arith, bad))

  -- ---- what stands behind SELECT of a Project

  abbrev from_tail : Plan → List ℕ → List ℕ
  from_tail p x = codes "FROM (" ++ (text p ++ 41 ∷ (codes " AS t" ++ x))

  project_is : (es : List Expr) (p : Plan) (x : List ℕ) → plan_rest (Project es p) ++ x ≡ 32 ∷ (outputs_text es ++ 32 ∷ from_tail p x)
  project_is es p x =
      let out : List ℕ = outputs_text es in
      let front : List ℕ = out ++ codes " FROM " in
      ap (λ l. 32 ∷ l)
      (append_assoc (front ++ in_brackets (text p)) (codes " AS t") x ∙ append_assoc front (in_brackets (text p)) (codes " AS t" ++ x) ∙ append_assoc out (codes " FROM ") (in_brackets (text p) ++ (codes " AS t" ++ x))
      ∙ ap (λ l. out ++ (codes " FROM (" ++ l)) (append_assoc (text p) (41 ∷ []) (codes " AS t" ++ x)))

  star_no_project : (es : List Expr) (p : Plan) (x y : List ℕ) → 32 ∷ 42 ∷ x ≡ plan_rest (Project es p) ++ y → ⊥
  star_no_project es p x y e = outputs_no_star es x (from_tail p y) (tail_same 32 32 _ _ (e ∙ project_is es p y))

  distinct_no_project : (es : List Expr) (p : Plan) (x y : List ℕ) → SoundExprs (exprs es) → codes " DISTINCT " ++ x ≡ plan_rest (Project es p) ++ y → ⊥
  distinct_no_project es p x y s e = outputs_no_word es x (from_tail p y) s (tail_same 32 32 _ _ (e ∙ project_is es p y))

  star_no_distinct : (x y : List ℕ) → 32 ∷ 42 ∷ x ≡ 32 ∷ 68 ∷ y → ⊥
  star_no_distinct x y e = absurd (let bad = head_same 42 68 x y (tail_same 32 32 (42 ∷ x) (68 ∷ y) e) in omega (arith, bad))

  -- ---- behind the word

  rest_one : (p q : Plan) (x y : List ℕ) → PartsAreOne p → SoundPlan schema p → SoundPlan schema q → Closes x → Closes y → plan_number p ≡ plan_number q → plan_rest p ++ x ≡ plan_rest q ++ y → (p ≡ q) × (x ≡ y)
  rest_one (Join Nil c) q x y a s t u v n e = absurd (s)
  rest_one p (Join Nil c) x y a s t u v n e = absurd (t)
  rest_one (UnionAll Nil) q x y a s t u v n e = absurd (s)
  rest_one p (UnionAll Nil) x y a s t u v n e = absurd (t)
  rest_one Once Once x y a s t u v n e = (refl, append_cancel_left (codes " ()") x y e)
  rest_one (Empty ks) (Empty ls) x y a s t u v n e =
      let opened : (commas (map kind_text ks) ++ codes ")") ++ x ≡ (commas (map kind_text ls) ++ codes ")") ++ y = append_cancel_left (codes " (") _ _ e in
      let r = kinds_one ks ls x y (sym (append_assoc (commas (map kind_text ks)) (codes ")") x) ∙ opened ∙ append_assoc (commas (map kind_text ls)) (codes ")") y) in
      (ap Empty r.0, r.1)
  rest_one (Scan i) (Scan j) x y a s t u v n e =
      let r = within_same 34 (omega arith) (table_name schema i) (table_name schema j) x y (names.utf8 i) (names.utf8 j) (ends_stop (λ b. b == 34) refl refl refl (closes_ends u)) (ends_stop (λ b. b == 34) refl refl refl (closes_ends v)) (append_cancel_left (codes " \"") _ _ e) in
      (ap Scan (names.apart i j s t r.0), r.1)
  rest_one (Select c p) (Select d q) x y a s t u v n e =
      let r = star_one p q (where_tail c x) (where_tail d y) a s.1 t.1 (sym (select_is c p x) ∙ e ∙ select_is d q y) in
      let w = expr_one c d x y s.0 t.0 (closes_ends u) (closes_ends v) (append_cancel_left (codes " AS t WHERE ") _ _ r.1) in
      ((λ i. Select (w.0 i) (r.0 i)), w.1)
  rest_one (Select c p) (Join (More q qs) d) x y a s t u v n e =
      absurd (where_no_join c x _ (star_one p q (where_tail c x) (join_tail qs d y) a s.1 t.0 (sym (select_is c p x) ∙ e ∙ join_is q qs d y)).1)
  rest_one (Select c p) (Left q r d) x y a s t u v n e =
      absurd (where_no_join c x _ (star_one p q (where_tail c x) (left_tail r d y) a s.1 t.0 (sym (select_is c p x) ∙ e ∙ left_is q r d y)).1)
  rest_one (Select c p) (AntiJoin q r d) x y a s t u v n e =
      absurd (where_no_join c x _ (star_one p q (where_tail c x) (anti_tail r d y) a s.1 t.0 (sym (select_is c p x) ∙ e ∙ anti_is q r d y)).1)
  rest_one (Join (More p ps) c) (Select d q) x y a s t u v n e =
      absurd (where_no_join d y _ (sym (star_one p q (join_tail ps c x) (where_tail d y) a.0 s.0 t.1 (sym (join_is p ps c x) ∙ e ∙ select_is d q y)).1))
  rest_one (Join (More p ps) c) (Join (More q qs) d) x y a s t u v n e =
      let r = star_one p q (join_tail ps c x) (join_tail qs d y) a.0 s.0 t.0 (sym (join_is p ps c x) ∙ e ∙ join_is q qs d y) in
      let more = joins_one 2 ps qs _ _ a.1 s.1 t.1 (append_cancel_left (called 1) _ _ r.1) in
      let w = expr_one c d x y s.2 t.2 (closes_ends u) (closes_ends v) (append_cancel_left (codes "HERE ") _ _ more.1) in
      ((λ i. Join (More (r.0 i) (more.0 i)) (w.0 i)), w.1)
  rest_one (Join (More p ps) c) (Left q r d) x y a s t u v n e =
      absurd (join_no_left ps c d r x y (star_one p q (join_tail ps c x) (left_tail r d y) a.0 s.0 t.0 (sym (join_is p ps c x) ∙ e ∙ left_is q r d y)).1)
  rest_one (Join (More p ps) c) (AntiJoin q r d) x y a s t u v n e =
      absurd (join_no_anti ps c d r x y (star_one p q (join_tail ps c x) (anti_tail r d y) a.0 s.0 t.0 (sym (join_is p ps c x) ∙ e ∙ anti_is q r d y)).1)
  rest_one (Left p r c) (Select d q) x y a s t u v n e =
      absurd (where_no_join d y _ (sym (star_one p q (left_tail r c x) (where_tail d y) a.0 s.0 t.1 (sym (left_is p r c x) ∙ e ∙ select_is d q y)).1))
  rest_one (Left p r c) (Join (More q qs) d) x y a s t u v n e =
      absurd (join_no_left qs d c r y x (sym (star_one p q (left_tail r c x) (join_tail qs d y) a.0 s.0 t.0 (sym (left_is p r c x) ∙ e ∙ join_is q qs d y)).1))
  rest_one (Left p r c) (Left q o d) x y a s t u v n e =
      let first = star_one p q (left_tail r c x) (left_tail o d y) a.0 s.0 t.0 (sym (left_is p r c x) ∙ e ∙ left_is q o d y) in
      let second = within r o _ _ a.1 s.1 t.1 (append_cancel_left (codes " LEFT JOIN (") _ _ (append_cancel_left (called 1) _ _ first.1)) in
      let w = expr_one c d x y s.2 t.2 (closes_ends u) (closes_ends v) (append_cancel_left (codes " ON ") _ _ (append_cancel_left (called 2) _ _ second.1)) in
      ((λ i. Left (first.0 i) (second.0 i) (w.0 i)), w.1)
  rest_one (AntiJoin p r c) (Select d q) x y a s t u v n e =
      absurd (where_no_join d y _ (sym (star_one p q (anti_tail r c x) (where_tail d y) a.0 s.0 t.1 (sym (anti_is p r c x) ∙ e ∙ select_is d q y)).1))
  rest_one (AntiJoin p r c) (Join (More q qs) d) x y a s t u v n e =
      absurd (join_no_anti qs d c r y x (sym (star_one p q (anti_tail r c x) (join_tail qs d y) a.0 s.0 t.0 (sym (anti_is p r c x) ∙ e ∙ join_is q qs d y)).1))
  rest_one (AntiJoin p r c) (AntiJoin q o d) x y a s t u v n e =
      let first = star_one p q (anti_tail r c x) (anti_tail o d y) a.0 s.0 t.0 (sym (anti_is p r c x) ∙ e ∙ anti_is q o d y) in
      let second = within r o _ _ a.1 s.1 t.1 (append_cancel_left (codes " ANTI JOIN (") _ _ (append_cancel_left (called 1) _ _ first.1)) in
      let w = expr_one c d x y s.2 t.2 (closes_ends u) (closes_ends v) (append_cancel_left (codes " ON ") _ _ (append_cancel_left (called 2) _ _ second.1)) in
      ((λ i. AntiJoin (first.0 i) (second.0 i) (w.0 i)), w.1)
  rest_one (Left p r c) (AntiJoin q o d) x y a s t u v n e =
      absurd (left_no_anti r o c d x y (star_one p q (left_tail r c x) (anti_tail o d y) a.0 s.0 t.0 (sym (left_is p r c x) ∙ e ∙ anti_is q o d y)).1)
  rest_one (AntiJoin p r c) (Left q o d) x y a s t u v n e =
      absurd (left_no_anti o r d c y x (sym (star_one p q (anti_tail r c x) (left_tail o d y) a.0 s.0 t.0 (sym (anti_is p r c x) ∙ e ∙ left_is q o d y)).1))
  rest_one (Distinct p) (Distinct q) x y a s t u v n e =
      let joined = append_cancel_left (codes " DISTINCT * FROM (") _ _ e in
      let r = within p q (codes " AS t" ++ x) (codes " AS t" ++ y) a s t (sym (bracketed (text p) (codes " AS t") x) ∙ joined ∙ bracketed (text q) (codes " AS t") y) in
      (ap Distinct r.0, append_cancel_left (codes " AS t") x y r.1)
  rest_one (Project es p) (Project fs q) x y a s t u v n e =
      let outs = outputs_one es fs (from_tail p x) (from_tail q y) s.0 t.0 (tail_same 32 32 _ _ (sym (project_is es p x) ∙ e ∙ project_is fs q y)) in
      let r = within p q (codes " AS t" ++ x) (codes " AS t" ++ y) a s.1 t.1 (append_cancel_left (codes "FROM (") _ _ outs.1) in
      ((λ i. Project (outs.0 i) (r.0 i)), append_cancel_left (codes " AS t") x y r.1)
  rest_one (Select c p) (Distinct q) x y a s t u v n e = absurd (star_no_distinct _ _ e)
  rest_one (Join (More p ps) c) (Distinct q) x y a s t u v n e = absurd (star_no_distinct _ _ e)
  rest_one (Left p r c) (Distinct q) x y a s t u v n e = absurd (star_no_distinct _ _ e)
  rest_one (AntiJoin p r c) (Distinct q) x y a s t u v n e = absurd (star_no_distinct _ _ e)
  rest_one (Distinct p) (Select d q) x y a s t u v n e = absurd (star_no_distinct _ _ (sym e))
  rest_one (Distinct p) (Join (More q qs) d) x y a s t u v n e = absurd (star_no_distinct _ _ (sym e))
  rest_one (Distinct p) (Left q o d) x y a s t u v n e = absurd (star_no_distinct _ _ (sym e))
  rest_one (Distinct p) (AntiJoin q o d) x y a s t u v n e = absurd (star_no_distinct _ _ (sym e))
  rest_one (Select c p) (Project fs q) x y a s t u v n e = absurd (star_no_project fs q _ y e)
  rest_one (Join (More p ps) c) (Project fs q) x y a s t u v n e = absurd (star_no_project fs q _ y e)
  rest_one (Left p r c) (Project fs q) x y a s t u v n e = absurd (star_no_project fs q _ y e)
  rest_one (AntiJoin p r c) (Project fs q) x y a s t u v n e = absurd (star_no_project fs q _ y e)
  rest_one (Project es p) (Select d q) x y a s t u v n e = absurd (star_no_project es p _ x (sym e))
  rest_one (Project es p) (Join (More q qs) d) x y a s t u v n e = absurd (star_no_project es p _ x (sym e))
  rest_one (Project es p) (Left q o d) x y a s t u v n e = absurd (star_no_project es p _ x (sym e))
  rest_one (Project es p) (AntiJoin q o d) x y a s t u v n e = absurd (star_no_project es p _ x (sym e))
  rest_one (Distinct p) (Project fs q) x y a s t u v n e = absurd (distinct_no_project fs q _ y t.0 e)
  rest_one (Project es p) (Distinct q) x y a s t u v n e = absurd (distinct_no_project es p _ x s.0 (sym e))
  rest_one (UnionAll (More p ps)) (UnionAll (More q qs)) x y a s t u v n e =
      let r = within p q (unions ps ++ x) (unions qs ++ y) a.0 s.0 t.0 (sym (bracketed (text p) (unions ps) x) ∙ tail_same 40 40 _ _ e ∙ bracketed (text q) (unions qs) y) in
      let more = unions_one ps qs x y a.1 s.1 t.1 u v r.1 in
      ((λ i. UnionAll (More (r.0 i) (more.0 i))), more.1)
  rest_one p q x y a s t u v n e = absurd (omega (arith, n))

  from_parts : (p : Plan) → PartsAreOne p → PlanIsOne p
  from_parts p a q x y s t u v e =
      let joined : plan_word p ++ (plan_rest p ++ x) ≡ plan_word q ++ (plan_rest q ++ y) =
      sym (append_assoc (plan_word p) (plan_rest p) x) ∙ ap (λ l. l ++ x) (sym (plan_text_is p)) ∙ e ∙ ap (λ l. l ++ y) (plan_text_is q) ∙ append_assoc (plan_word q) (plan_rest q) y in
      let r = run_same is_letter (plan_word p) (plan_word q) (plan_rest p ++ x) (plan_rest q ++ y) (plan_letters p) (plan_letters q) (plan_stops p x u) (plan_stops q y v) joined in
      rest_one p q x y a s t u v (sym (plan_told p) ∙ ap plan_class r.0 ∙ plan_told q) r.1

  mutual
    plan_one : (p : Plan) → PlanIsOne p
    plan_one Once = from_parts Once tt
    plan_one (Empty ks) = from_parts (Empty ks) tt
    plan_one (Scan table) = from_parts (Scan table) tt
    plan_one (Select c p) = from_parts (Select c p) (plan_one p)
    plan_one (Project es p) = from_parts (Project es p) (plan_one p)
    plan_one (Join ps c) = from_parts (Join ps c) (plans_one ps)
    plan_one (Left p q c) = from_parts (Left p q c) (plan_one p, plan_one q)
    plan_one (AntiJoin p q c) = from_parts (AntiJoin p q c) (plan_one p, plan_one q)
    plan_one (UnionAll ps) = from_parts (UnionAll ps) (plans_one ps)
    plan_one (Distinct p) = from_parts (Distinct p) (plan_one p)

    plans_one : (ps : Plans) → PlansAreOne ps
    plans_one Nil = tt
    plans_one (More p ps) = (plan_one p, plans_one ps)

pub own_texts : HaveOwnTexts
own_texts schema names p q h k w z e =
    (plan_one schema names p q [] [] (sound_plan schema p h w) (sound_plan schema q k z) closes_end closes_end (append-nil (sql_text schema p) ∙ e ∙ sym (append-nil (sql_text schema q)))).0

-- and so it is with what stands behind them
pub own_rests : (schema : Tables) → HasOwnNames schema → (p q : Plan) → IsTrue (is_well_typed schema p) → IsTrue (is_well_typed schema q) → HoldsPlan p → HoldsPlan q → (x y : List ℕ) → Closes x → Closes y
    → sql_text schema p ++ x ≡ sql_text schema q ++ y → (p ≡ q) × (x ≡ y)
own_rests schema names p q h k w z x y u v e = plan_one schema names p q x y (sound_plan schema p h w) (sound_plan schema q k z) u v e
