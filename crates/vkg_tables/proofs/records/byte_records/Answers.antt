use Rattle.std.proofs.Common.{Bor, List, ℕ, ◌∙◌, sym, refl, inl, inr, map, Some, Option, true, false, ◌≡◌, ◌∷◌, []}
use Rattle.std.proofs.lemmas.List.{map-append}
use Rattle.csv.specs.Reading.{ExplainsRead, NotLengths, Reached, default_config, error_kind, is_flexible, strip_bom}
use Rattle.csv.specs.declared.ErrorKind.{ErrorKind}
use Rattle.csv.specs.declared.ErrorKind.TheVariants as kind
use Rattle.csv.specs.declared.Reader.{Reader}
use Rattle.csv.specs.Records.{fields_of}
use Rattle.csv.specs.declared.parser.State.TheVariants as st
use Rattle.csv.proofs.ReadFacts.{rows-end, rows-more}
use Rattle.vkg_tables.proofs.RecordsLemmas.{records-AreRecords}
use Rattle.vkg_tables.proofs.records.byte_records.Goals as goal

pub loop-row-init : goal.loop-row-init
unfolding Reached
loop-row-init c =
    let fr = c.from_reader-rdr.ensures in
    let e = c.has_headers.ensures in
    let x = c.flexible.ensures in
    let start = c.into_iter-row-iterator.ensures.into_iter_gives ∙ refl in
    let rdr = c.into_byte_records-row-items.ensures.rdr in
    let left = c.into_byte_records-row-items.ensures.left in
    rw (start, rdr, c.new-rows.ensures.items) (
      rw (x, e) at fr.trim ∙ c.new.ensures.trim,
      inr (inr (rw (x, e) at fr.has_headers, fr.headers)),
      left,
      rw (x, e) at fr.config ∙ c.new.ensures.config,
      rw x at fr.flexible,
      strip_bom c.args.text.now,
      fr.source,
      (sym fr.state, refl),
    )

pub loop-row-preserved : goal.loop-row-preserved
loop-row-preserved c =
    let inv = c.loop-row.invariant in
    let s = rw (c.in-Some.is, c.in-Ok.is) at ((c.next.ensures.steps inv.2 inv.0).0 inv.1) in
    let f = rw (c.in-Some.is, c.in-Ok.is) at (c.next.ensures.steps inv.2 inv.0).3 in
    let items = rw c.if-is_err.ensures.negation at c.push.ensures.items in
    let m = rows-more (λ (s : Bor (List ℕ)). Some s.now) c.loop-row.row-iterator.rdr c.next.new.self.rdr (fields_of c.in-Ok.row) default_config st.StartRecord (strip_bom c.args.text.now) inv.5 (map fields_of c.loop-row.rows.items) inv.3 inv.6 inv.7 s.0 in
    (s.0.3 ∙ inv.0, inl s.1, s.2, s.0.2 ∙ inv.3, f ∙ inv.4, m.0, m.1, rw (items, map-append fields_of c.loop-row.rows.items (c.in-Ok.row ∷ [])) m.2)

pub returns : goal.returns
returns c =
    let inv = c.loop-row.invariant in
    let s = rw c.in-None.is at ((c.next.ensures.steps inv.2 inv.0).0 inv.1) in
    records-AreRecords default_config (strip_bom c.args.text.now) _ (c.loop-row.row-iterator.rdr.state, inv.5, inv.7, rows-end (λ (s : Bor (List ℕ)). Some s.now) c.loop-row.row-iterator.rdr c.next.new.self.rdr [] default_config inv.5 inv.3 inv.6 s)

-- a reader that takes records of every length fails for no length
not-lengths : {R : Type 0} (rem : R → Option (List ℕ)) (a b : Reader R) (k : ErrorKind) → is_flexible a ≡ true → ExplainsRead rem a b false k → NotLengths k
not-lengths rem a b (kind.Io e) flexible h = tt
not-lengths rem a b kind.OutOfMemory flexible h = tt
not-lengths rem a b (kind.UnequalLengths pos expected len) flexible h = cc (sym flexible ∙ h.0)
not-lengths rem a b (kind.Utf8 pos err) flexible h = tt
not-lengths rem a b (kind.Serialize why) flexible h = tt
not-lengths rem a b (kind.Deserialize pos err) flexible h = tt

pub want_of_memory-requires : goal.want_of_memory-requires
want_of_memory-requires c =
    let inv = c.loop-row.invariant in
    let s = rw (c.in-Some.is, c.in-Err.is) at ((c.next.ensures.steps inv.2 inv.0).0 inv.1) in
    not-lengths (λ (s : Bor (List ℕ)). Some s.now) c.loop-row.row-iterator.rdr c.next.new.self.rdr (error_kind c.in-Err.error) inv.4 s
