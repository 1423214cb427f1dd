-- The report on a company is one list of lines.
use Rattle.std.proofs.Common.{◌≡◌, ◌∙◌, ◌-◌, ℕ, List, [], ◌∷◌, codes, length, sym, ap}
use Rattle.vkg_terms.specs.NQuads.{Quad}
use Rattle.vkg_quads.specs.Dump.{dump}
use Rattle.vkg_sparql.specs.declared.query.Query.{Query}
use Rattle.vkg_sparql.specs.Reading.{IsQuery}
use Rattle.vkg_sparql.specs.Seen.{query_seen}
use Rattle.vkg_algebra.specs.Answer.{answer}
use Rattle.vkg_schema.specs.Company.{base}
use Rattle.vkg_gen.specs.Report.{CountsSolutions, IsDetermined, company_dataset, counted_line}
use Rattle.vkg_gen.proofs.ThreeQueries.{depts_same, distinct_same, names_same}

same_count : (text : List ℕ) (quads : List Quad) (m n : ℕ) → ((q r : Query) → IsQuery text base q → IsQuery text base r → q ≡ r) → CountsSolutions text quads m → CountsSolutions text quads n → m ≡ n
same_count text quads m n same a b = a.counted ∙ ap (λ q. length (answer (query_seen q) quads) - 1) (same a.query b.query a.read b.read) ∙ sym b.counted

pub one_report : IsDetermined
one_report n lines others a b =
    let names = same_count _ (company_dataset n) a.names b.names names_same a.names_are b.names_are in
    let distinct = same_count _ (company_dataset n) a.distinct b.distinct distinct_same a.distinct_are b.distinct_are in
    let depts = same_count _ (company_dataset n) a.depts b.depts depts_same a.depts_are b.depts_are in
    a.lines_are
    ∙ (λ i. counted_line (codes "quads") (length (dump (company_dataset n)))
    ∷ counted_line (codes "names") (names i)
    ∷ counted_line (codes "distinct") (distinct i)
    ∷ counted_line (codes "depts") (depts i) ∷ [])
    ∙ sym b.lines_are
