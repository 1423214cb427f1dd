-- A text with a derivation and without a failing check has no fault, and is one schema.
use Rattle.std.proofs.Common.{◌≡◌, ◌∙◌, ℕ, List, [], ◌∷◌, None, Ok, sym, ap, subst}
use Rattle.std.specs.Prelude.{IsUtf8}
use Rattle.std.proofs.lemmas.Option.{none-some}
use Rattle.vkg_lists.proofs.Results.{ok_err}
use Rattle.vkg_grammar.specs.declared.note.Note.{Note}
use Rattle.vkg_grammar.specs.Grammar.{Derives}
use Rattle.vkg_grammar.specs.Kinds.{kinds_of}
use Rattle.vkg_grammar.proofs.Outcomes.{derived_no_text, same_tokens}
use Rattle.vkg_tokens.specs.declared.cutting.Token.{Token}
use Rattle.vkg_tokens.specs.declared.lang.Lang.TheVariants.{Ddl}
use Rattle.vkg_tokens.specs.Cut.{tokens_of}
use Rattle.vkg_ddl.specs.declared.grammar_table.TheConstants.{DDL}
use Rattle.vkg_ddl.specs.declared.written.WrittenTable.{WrittenTable}
use Rattle.vkg_ddl.specs.FirstFault.{first_fault}
use Rattle.vkg_ddl.specs.Names.{names_of}
use Rattle.vkg_ddl.specs.Reading.{Says, IsNoText, written_of}
use Rattle.vkg_schema.specs.declared.reading.SchemaFault.{SchemaFault}
use Rattle.vkg_schema.specs.declared.table.Table.{Table}
use Rattle.vkg_schema.specs.Reading.{IsFaultOf, IsSchemaText, no_utf8, no_token, no_text, no_schema}
use Rattle.vkg_schema.specs.Resolve.{schema_of}

module _ (text : List ℕ) (utf8 : IsUtf8 text) (tokens : List Token) (cut : tokens_of Ddl text ≡ Ok tokens) (ws : List Note) (derived : Derives DDL (0 ∷ []) (kinds_of tokens) ws) where
  derived_by : (ts : List Token) → ts ≡ tokens → Derives DDL (0 ∷ []) (kinds_of ts) ws
  derived_by ts e = subst (λ us. Derives DDL (0 ∷ []) (kinds_of us) ws) (sym e) derived

  no_place : (at : ℕ) → IsNoText text at → ⊥
  no_place at n = derived_no_text DDL text cut n.cut derived n.place

  pub said : (w : List WrittenTable) → Says text w → w ≡ written_of ws (names_of text tokens) []
  said w s =
      let same = same_tokens s.cut cut in
      s.said ∙ (λ i. written_of (sym (s.derived.only ws (derived_by s.tokens same)) i) (names_of text (same i)) [])

  pub no_fault : first_fault (written_of ws (names_of text tokens) []) ≡ None → (f : SchemaFault) → IsFaultOf text f → ⊥
  no_fault fine f (no_utf8 h e) = h utf8
  no_fault fine f (no_token u e) = ok_err tokens _ (sym cut ∙ e)
  no_fault fine f (no_text u n) = no_place _ n
  no_fault fine f (no_schema w u s e) = none-some _ (sym fine ∙ ap first_fault (sym (said w s)) ∙ e)

  pub one_schema : (tables : List Table) → IsSchemaText text tables → tables ≡ schema_of (written_of ws (names_of text tokens) [])
  one_schema tables s = s.resolved ∙ ap schema_of (said s.written s.says)
