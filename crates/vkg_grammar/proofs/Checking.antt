-- The tables tell whether a grammar is LL(1).
use Rattle.std.proofs.Common.{◌≡◌, ℕ, ◌+◌, ◌<◌, ◌≤◌, inl, inr, List, [], ◌∷◌, length, Some, None, refl, subst, arith}
use Rattle.std.proofs.lemmas.Bool.{cases_lt}
use Rattle.vkg_lists.specs.Lists.{AllBelow}
use Rattle.vkg_grammar.specs.declared.rule.Rule.{Rule}
use Rattle.vkg_grammar.specs.Grammar.{Shape, One, Parts, Choice, shape_of, MayBeEmpty, Starts, the_first, the_second, IsLL1, IsGrammar, IsProductive}
use Rattle.vkg_grammar.specs.Rank.{column, rank_in, Begins, IsTable}
use Rattle.vkg_grammar.specs.Machine.{at_token, at_end_of}
use Rattle.vkg_grammar.specs.Tables.{StartsBy, WaysApart, ShapeApart, IsFollowTable}
use Rattle.vkg_grammar.proofs.Core.{ahead_empty, ahead_begin}
use Rattle.vkg_grammar.proofs.Heights.{ahead_begins, begins_ahead}
use Rattle.vkg_grammar.proofs.Rounds.{out_of_range, never_past}

module _ (g : List Rule) (t follow : List ℕ) (w : ℕ) (wf : IsGrammar g) (prod : IsProductive g) (table : IsTable g (rank_in t w)) (follows : IsFollowTable g w follow) where
  empty_by : (xs : List ℕ) → AllBelow (length g) xs → MayBeEmpty g xs → Begins (rank_in t w) None xs
  empty_by xs b e = begins_ahead g (rank_in t w) wf table b (record { tokens = []; ways = e.0; sees = at_end_of; derives = e.1 })

  by_empty : (xs : List ℕ) → AllBelow (length g) xs → Begins (rank_in t w) None xs → MayBeEmpty g xs
  by_empty xs b s = ahead_empty (ahead_begins g (rank_in t w) xs wf prod table b s)

  starts_by : (n k : ℕ) (xs : List ℕ) → n < length g → AllBelow (length g) xs → Starts g n xs k → StartsBy (rank_in t w) follow w n k xs
  starts_by n k xs h b (inl m) = inl (begins_ahead g (rank_in t w) wf table b (record { tokens = k ∷ m.0; ways = m.1; sees = at_token; derives = m.2 }))
  starts_by n k xs h b (inr p) = inr (empty_by xs b p.0, (follows n k h).1 p.1)

  by_starts : (n k : ℕ) (xs : List ℕ) → n < length g → AllBelow (length g) xs → StartsBy (rank_in t w) follow w n k xs → Starts g n xs k
  by_starts n k xs h b (inl s) = inl (ahead_begin (ahead_begins g (rank_in t w) xs wf prod table b s))
  by_starts n k xs h b (inr (s, p)) = inr (by_empty xs b s, (follows n k h).0 p)

  starts_inside : (n k : ℕ) (xs : List ℕ) → 0 < w → StartsBy (rank_in t w) follow w n k xs → k + 1 < w
  starts_inside n k xs pos s = elim (cases_lt (column (Some k)) w) [ inl h ↦ h | inr out ↦ absurd (past out s) ]
    where
      past : w ≤ k + 1 → StartsBy (rank_in t w) follow w n k xs → ⊥
      past out (inl b) = never_past w (Some k) t xs out pos b
      past out (inr (b, p)) = let z : rank_in follow w n (Some k) ≡ 0 = out_of_range follow w n (Some k) out in omega arith

  pub apart_ll1 : 0 < w → ((n : ℕ) → n < length g → ShapeApart (rank_in t w) follow w n (shape_of g n)) → IsLL1 g
  apart_ll1 pos a = record {
    productive = prod;
    one_empty = λ n xs ys h e p q. (at n xs ys h e).0 (empty_by xs (wf.closed n xs h (the_first e)) p) (empty_by ys (wf.closed n ys h (the_second e)) q);
    one_begins = λ n xs ys k h e p q.
        let s : StartsBy (rank_in t w) follow w n k xs = starts_by n k xs h (wf.closed n xs h (the_first e)) p in
        (at n xs ys h e).1 k (starts_inside n k xs pos s) s (starts_by n k ys h (wf.closed n ys h (the_second e)) q);
  }
    where
      at : (n : ℕ) (xs ys : List ℕ) → n < length g → shape_of g n ≡ Choice xs ys → WaysApart (rank_in t w) follow w n xs ys
      at n xs ys h e = let s : ShapeApart (rank_in t w) follow w n (Choice xs ys) = subst (ShapeApart (rank_in t w) follow w n) e (a n h) in s

  pub ll1_apart : IsLL1 g → (n : ℕ) → n < length g → ShapeApart (rank_in t w) follow w n (shape_of g n)
  ll1_apart ll n h = of_shape (shape_of g n) refl
    where
      of_shape : (sh : Shape) → shape_of g n ≡ sh → ShapeApart (rank_in t w) follow w n sh
      of_shape (One k) e = tt
      of_shape (Parts xs) e = tt
      of_shape (Choice xs ys) e = (
        (λ p q. ll.one_empty n xs ys h e (by_empty xs (wf.closed n xs h (the_first e)) p) (by_empty ys (wf.closed n ys h (the_second e)) q)),
        (λ k inside p q. ll.one_begins n xs ys k h e (by_starts n k xs h (wf.closed n xs h (the_first e)) p) (by_starts n k ys h (wf.closed n ys h (the_second e)) q)),
      )
