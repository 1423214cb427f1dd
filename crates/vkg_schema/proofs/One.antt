-- There is one answer.
use Rattle.std.proofs.Common.{◌≡◌, ℕ, List, [], ◌∷◌, Option, Some, None, ap, sym, ◌∙◌, subst}
use Rattle.vkg_grammar.specs.Grammar.{Derives}
use Rattle.vkg_grammar.proofs.Outcomes.{same_tokens, same_place, not_tokens, derived_no_text, no_text_once}
use Rattle.vkg_ddl.specs.declared.grammar_table.TheConstants.{DDL}
use Rattle.vkg_ddl.specs.declared.written.WrittenTable.{WrittenTable}
use Rattle.vkg_ddl.specs.FirstFault.{first_fault}
use Rattle.vkg_ddl.specs.Names.{names_of}
use Rattle.vkg_grammar.specs.Kinds.{kinds_of}
use Rattle.vkg_ddl.specs.Reading.{Says, IsNoText, written_of}
use Rattle.vkg_schema.specs.declared.reading.SchemaFault.{SchemaFault}
use Rattle.vkg_schema.specs.declared.table.Table.{Table}
use Rattle.vkg_tokens.specs.Mark.{without_mark}
use Rattle.vkg_schema.specs.Reading.{IsSchemaText, IsFaultOf, fault, no_utf8, no_token, no_text, no_schema, IsDetermined}
use Rattle.vkg_schema.specs.Resolve.{schema_of}

one_text : {text : List ℕ} {d e : List WrittenTable} → Says text d → Says text e → d ≡ e
one_text {text = text} a b =
    let t : b.tokens ≡ a.tokens = same_tokens b.cut a.cut in
    let n : b.notes ≡ a.notes = a.derived.only b.notes (subst (λ ts. Derives DDL (0 ∷ []) (kinds_of ts) b.notes) t b.derived.derives) in
    a.said ∙ (λ i. written_of (sym n i) (names_of text (sym t i)) []) ∙ sym b.said

no_said : {text : List ℕ} {d : List WrittenTable} {at : ℕ} → Says text d → IsNoText text at → ⊥
no_said {text = text} a b = derived_no_text DDL text a.cut b.cut a.derived.derives b.place

one_no_text : {text : List ℕ} {a b : ℕ} → IsNoText text a → IsNoText text b → a ≡ b
one_no_text {text = text} x y = no_text_once DDL text x.cut y.cut x.place y.place

one_check : {o : Option (ℕ × ℕ)} {c d : ℕ} {a b : ℕ} → o ≡ Some (c, a) → o ≡ Some (d, b) → fault c a ≡ fault d b
one_check {c = c} {d = d} {a = a} {b = b} e f = let same : ◌≡◌ {A = ℕ × ℕ} (c, a) (d, b) = cc in ap (λ p. fault p.0 p.1) same

one_value : (text : List ℕ) (tables others : List Table) → IsSchemaText text tables → IsSchemaText text others → tables ≡ others
one_value text tables others a b = a.resolved ∙ ap schema_of (one_text a.says b.says) ∙ sym b.resolved

not_both : (text : List ℕ) (tables : List Table) (f : SchemaFault) → IsSchemaText text tables → IsFaultOf text f → ⊥
not_both text tables f a (no_utf8 n e) = n a.utf8
not_both text tables f a (no_token u e) = not_tokens a.says.cut e
not_both text tables f a (no_text u n) = no_said a.says n
not_both text tables f a (no_schema {check = check} {at = at} written u d e) = absurd (let g : ◌≡◌ {A = Option (ℕ × ℕ)} None (Some (check, at)) = sym a.fine ∙ ap first_fault (one_text a.says d) ∙ e in cc)

one_fault : (text : List ℕ) (f g : SchemaFault) → IsFaultOf text f → IsFaultOf text g → f ≡ g
one_fault text f g (no_utf8 n e) (no_utf8 m d) = ap (fault 15) (e ∙ sym d)
one_fault text f g (no_utf8 n e) (no_token u d) = absurd (n u)
one_fault text f g (no_utf8 n e) (no_text u d) = absurd (n u)
one_fault text f g (no_utf8 n e) (no_schema w u d q) = absurd (n u)
one_fault text f g (no_token u e) (no_utf8 m d) = absurd (m u)
one_fault text f g (no_token u e) (no_token v d) = ap (fault 1) (same_place e d)
one_fault text f g (no_token u e) (no_text v d) = absurd (not_tokens d.cut e)
one_fault text f g (no_token u e) (no_schema w v d q) = absurd (not_tokens d.cut e)
one_fault text f g (no_text u e) (no_utf8 m d) = absurd (m u)
one_fault text f g (no_text u e) (no_token v d) = absurd (not_tokens e.cut d)
one_fault text f g (no_text u e) (no_text v d) = ap (fault 2) (one_no_text e d)
one_fault text f g (no_text u e) (no_schema w v d q) = absurd (no_said d e)
one_fault text f g (no_schema x u e p) (no_utf8 m d) = absurd (m u)
one_fault text f g (no_schema x u e p) (no_token v d) = absurd (not_tokens e.cut d)
one_fault text f g (no_schema x u e p) (no_text v d) = absurd (no_said e d)
one_fault text f g (no_schema x u e p) (no_schema w v d q) = one_check p (ap first_fault (one_text e d) ∙ q)

pub determined : IsDetermined
determined = record {
  one_value = λ bytes. one_value (without_mark bytes);
  one_fault = λ bytes. one_fault (without_mark bytes);
  not_both = λ bytes. not_both (without_mark bytes);
}
