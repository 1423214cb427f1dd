-- Why a text is no query, and when it is one.
use Rattle.std.proofs.Common.{◌≡◌, ℕ, List, None, Some, Ok, Err, drop, length, ap, refl, sym, ◌∙◌, subst}
use Rattle.std.specs.Prelude.{IsUtf8}
use Rattle.vkg_grammar.specs.Form.{IsTooDeep, IsShallow}
use Rattle.vkg_grammar.specs.Kinds.{kinds_of, start_at}
use Rattle.vkg_grammar.specs.OneTree.{IsTheTree}
use Rattle.vkg_grammar.specs.Parsing.{IsFirstDead, IsCutOff}
use Rattle.vkg_grammar.specs.Trees.{Tree}
use Rattle.vkg_tokens.specs.declared.cutting.Token.{Token}
use Rattle.vkg_sparql.specs.declared.environment.Environment.{Environment}
use Rattle.vkg_sparql.specs.declared.fault.QueryError.{QueryError}
use Rattle.vkg_sparql.specs.declared.fault.QueryError.TheVariants.{Fault}
use Rattle.vkg_sparql.specs.declared.fault.QueryFault.{QueryFault}
use Rattle.vkg_sparql.specs.declared.grammar_table.TheConstants.{SPARQL}
use Rattle.vkg_sparql.specs.declared.lexeme.Lexeme.{Lexeme}
use Rattle.vkg_sparql.specs.declared.names.Named.{Named}
use Rattle.vkg_sparql.specs.declared.query.Query.{Query}
use Rattle.vkg_sparql.specs.Environment.{environment_of, body_start}
use Rattle.vkg_sparql.specs.Lexemes.{lexemes_of, named_of}
use Rattle.vkg_sparql.specs.Reading.{sparql, sparql_tokens, kind_at, dead_check, fault, fault_of, query_of, parts, read, Says, IsQueryText, IsFaultOf, TextFails, lexical, too_deep, dead, cut_off, checked}
use Rattle.vkg_turtle.proofs.Lexical.{first_of_text}

module _ (text base : List ℕ) (u : IsUtf8 text) where
  -- the error is the one that is made of the fault
  named : (e : QueryError) (f : QueryFault) → e ≡ Fault f → IsFaultOf text base f → TextFails text base e
  named e f n h = subst (TextFails text base) (sym n) h

  pub no_token_named : (e : QueryError) (at : ℕ) → e ≡ Fault (fault 1 at) → sparql_tokens text ≡ Err at → TextFails text base e
  no_token_named e at n h = named e (fault 1 at) n (lexical (first_of_text at u h))

  module _ (ts : List Token) (cut : sparql_tokens text ≡ Ok ts) where
    pub too_deep_named : (e : QueryError) (i at : ℕ) → e ≡ Fault (fault 3 at) → IsTooDeep sparql (kinds_of ts) i → at ≡ start_at ts i → TextFails text base e
    too_deep_named e i at n d p = named e (fault 3 at) n (too_deep u (record { tokens = ts; bracket = i; cut = cut; deep = d; place = p }))

    pub dead_named : (e : QueryError) (i : ℕ) → e ≡ Fault (fault (dead_check (kind_at ts i)) (start_at ts i)) → IsShallow sparql (kinds_of ts) → IsFirstDead SPARQL (kinds_of ts) i → TextFails text base e
    dead_named e i n s d = named e (fault (dead_check (kind_at ts i)) (start_at ts i)) n (dead u (record { tokens = ts; token = i; cut = cut; shallow = s; dead = d; named = refl }))

    pub ended_named : (e : QueryError) (at : ℕ) → e ≡ Fault (fault 2 at) → IsShallow sparql (kinds_of ts) → IsCutOff SPARQL (kinds_of ts) → at ≡ length text → TextFails text base e
    ended_named e at n s d p = named e (fault 2 at) n (cut_off u (record { tokens = ts; cut = cut; shallow = s; short = d }) p)

    module _ (t : Tree) (s : IsShallow sparql (kinds_of ts)) (h : IsTheTree SPARQL (kinds_of ts) t) {xs body : List Lexeme} {e : Environment} {ns : Named} {start size : ℕ} (x : xs ≡ lexemes_of text ts) (ev : e ≡ environment_of xs base t) (st : start ≡ body_start t) (b : body ≡ drop start xs) (n : ns ≡ named_of body) (z : size ≡ length text) where
      says : Says text base (read text ts base t)
      says = record { tokens = ts; tree = t; cut = cut; shallow = s; the_tree = h; said = refl }

      same : parts size xs e body ns t ≡ read text ts base t
      same = rw (n, b, st, ev, x, z)

      pub checked_named : (f : QueryFault) → fault_of (parts size xs e body ns t) ≡ Some f → IsFaultOf text base f
      checked_named f h = checked (read text ts base t) u says (ap fault_of (sym same) ∙ h)

      pub is_query : (q : Query) → fault_of (parts size xs e body ns t) ≡ None → q ≡ query_of (parts size xs e body ns t) → IsQueryText text base q
      is_query q h k = record { said = read text ts base t; utf8 = u; says = says; fine = ap fault_of (sym same) ∙ h; is = k ∙ ap query_of same }
