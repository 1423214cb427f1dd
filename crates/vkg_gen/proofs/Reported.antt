-- What was counted, as the report on the company.
use Rattle.std.proofs.Common.{◌≡◌, ◌∙◌, ◌++◌, ℕ, List, [], ◌∷◌, codes, length, ap, subst}
use Rattle.vkg_maps.specs.declared.mapping.Mapping.{Mapping}
use Rattle.vkg_maps.specs.Dataset.{dataset}
use Rattle.vkg_quads.specs.Dump.{dump}
use Rattle.vkg_tables.specs.Seen.{Seen}
use Rattle.vkg_company.specs.Company.{company_of}
use Rattle.vkg_gen.specs.Report.{CountsSolutions, IsReport, company_dataset, company_mapping, counted_line, depts_text, distinct_text, names_text}

pub reported : (n : ℕ) (db : Seen) (mapping : Mapping) (quads names distinct depts : ℕ) (none one two three four : List (List ℕ))
    → db ≡ company_of n → mapping ≡ company_mapping → quads ≡ length (dump (dataset mapping db.tables))
    → CountsSolutions names_text (dataset mapping db.tables) names
    → CountsSolutions distinct_text (dataset mapping db.tables) distinct
    → CountsSolutions depts_text (dataset mapping db.tables) depts
    → none ≡ [] → one ≡ none ++ counted_line (codes "quads") quads ∷ [] → two ≡ one ++ counted_line (codes "names") names ∷ []
    → three ≡ two ++ counted_line (codes "distinct") distinct ∷ [] → four ≡ three ++ counted_line (codes "depts") depts ∷ []
    → IsReport n four
reported n db mapping quads names distinct depts none one two three four is maps counted a b c e0 e1 e2 e3 e4 =
    let same : dataset mapping db.tables ≡ company_dataset n = (λ i. dataset (maps i) ((is i).tables)) in
    let all : quads ≡ length (dump (company_dataset n)) = counted ∙ ap (λ q. length (dump q)) same in
    let first : one ≡ counted_line (codes "quads") quads ∷ [] = e1 ∙ ap (λ l. l ++ counted_line (codes "quads") quads ∷ []) e0 in
    let second = e2 ∙ ap (λ l. l ++ counted_line (codes "names") names ∷ []) first in
    let third = e3 ∙ ap (λ l. l ++ counted_line (codes "distinct") distinct ∷ []) second in
    let fourth = e4 ∙ ap (λ l. l ++ counted_line (codes "depts") depts ∷ []) third in
    record {
      names = names;
      distinct = distinct;
      depts = depts;
      names_are = subst (λ q. CountsSolutions names_text q names) same a;
      distinct_are = subst (λ q. CountsSolutions distinct_text q distinct) same b;
      depts_are = subst (λ q. CountsSolutions depts_text q depts) same c;
      lines_are = fourth ∙ (λ i. counted_line (codes "quads") (all i)
          ∷ counted_line (codes "names") names
          ∷ counted_line (codes "distinct") distinct
          ∷ counted_line (codes "depts") depts ∷ []);
    }
