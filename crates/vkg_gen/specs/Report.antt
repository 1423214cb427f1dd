-- What `gen` writes of the generated company: the quads of its dump, and the solutions of three queries.
use Rattle.std.specs.Prelude.{◌≡◌, ℕ, ◌-◌, List, [], ◌∷◌, ◌++◌, codes, decimal, length}
use Rattle.vkg_terms.specs.NQuads.{Quad}
use Rattle.vkg_maps.specs.declared.mapping.Mapping.{Mapping}
use Rattle.vkg_maps.specs.Dataset.{dataset}
use Rattle.vkg_direct.specs.DirectMapping.{direct}
use Rattle.vkg_quads.specs.Dump.{dump}
use Rattle.vkg_sparql.specs.declared.query.Query.{Query}
use Rattle.vkg_sparql.specs.Reading.{IsQuery}
use Rattle.vkg_sparql.specs.Seen.{query_seen}
use Rattle.vkg_algebra.specs.Answer.{answer}
use Rattle.vkg_schema.specs.Company.{base, company}
use Rattle.vkg_company.specs.Company.{company_rows}

-- the names of all employees
abbrev pub names_text : List ℕ
names_text = codes "SELECT ?n { ?e <http://e/emp#name> ?n }"

-- their names, each once
abbrev pub distinct_text : List ℕ
distinct_text = codes "SELECT DISTINCT ?n { ?e <http://e/emp#name> ?n }"

-- their names, each with the department where there is one
abbrev pub depts_text : List ℕ
depts_text = codes "SELECT ?n ?d { ?e <http://e/emp#name> ?n OPTIONAL { ?e <http://e/emp#ref-dept> ?d } }"

-- A Direct Mapping of Relational Data to RDF, of the company
abbrev pub company_mapping : Mapping
company_mapping = direct company base

abbrev pub company_dataset : ℕ → List Quad
company_dataset n = dataset company_mapping (company_rows n)

-- so many solutions has the query that the text is: the lines of its answer but for the header
pub record CountsSolutions (text : List ℕ) (quads : List Quad) (count : ℕ) : Type 0 where
  pub query : Query
  pub read : IsQuery text base query
  pub counted : count ≡ length (answer (query_seen query) quads) - 1

-- a word and a number
abbrev pub counted_line : List ℕ → ℕ → List ℕ
counted_line word count = word ++ codes " " ++ decimal count

-- the four lines on the company of n employees
pub record IsReport (n : ℕ) (lines : List (List ℕ)) : Type 0 where
  pub names : ℕ
  pub distinct : ℕ
  pub depts : ℕ
  pub names_are : CountsSolutions names_text (company_dataset n) names
  pub distinct_are : CountsSolutions distinct_text (company_dataset n) distinct
  pub depts_are : CountsSolutions depts_text (company_dataset n) depts
  pub lines_are : lines ≡ counted_line (codes "quads") (length (dump (company_dataset n)))
      ∷ counted_line (codes "names") names
      ∷ counted_line (codes "distinct") distinct
      ∷ counted_line (codes "depts") depts ∷ []

-- there is one report on a company
abbrev pub IsDetermined : Type 0
IsDetermined = (n : ℕ) (lines others : List (List ℕ)) → IsReport n lines → IsReport n others → lines ≡ others
