-- What follows from the answer, status by status.
use Rattle.std.proofs.Common.{◌≡◌, ◌⊎◌, ◌≤◌, ◌+◌, ◌-◌, ◌^◌, min, inl, inr, ℕ, List, refl, sym, ◌∙◌, ap, arith, subst, Err, Some}
use Rattle.std.specs.Prelude.{Result}
use Rattle.std.proofs.Math.Nat.{min-le_left, min-le_right, le-min}
use Rattle.vkg_lists.proofs.Results.{ok_same, ok_err}
use Rattle.vkg_base.specs.Outside.{Files, Rose, SinkState, StoreState, Took}
use Rattle.vkg_base.specs.Written.{written}
use Rattle.vkg_base.specs.declared.status.Status.{Status}
use Rattle.vkg_base.specs.declared.status.Status.TheVariants.{Done, Usage as BadWords, BadSchema, BadTable, BadMapping, BadData, BadQuery, ReadFault, WriteFault, Memory}
use Rattle.vkg_cli.specs.declared.stops.Fault.{Fault}
use Rattle.vkg_cli.specs.declared.stops.Fault.TheVariants.{Schema, Table, Keyless, Mapping, Data, Query}
use Rattle.vkg_cli.specs.declared.stops.Stop.{Stop}
use Rattle.vkg_cli.specs.declared.stops.Stop.TheVariants as stop
use Rattle.vkg_cli.specs.declared.stops.Usage.{Usage}
use Rattle.vkg_cli.specs.FaultLine.{status_of}
use Rattle.vkg_cli.specs.Words.{Asked, Command, DumpWords, SqlWords, dump, gen, help, query, refused, run, sql}
use Rattle.vkg_cli.specs.Work.{MayStop}
use Rattle.vkg_cli.specs.Answer.{Ends, HasFault, HasText, IsAnswer, IsDone, IsRefused, IsShort, Reports, Tells, World, WritesReport}
use Rattle.vkg_cli.specs.Clauses.{AsksByWords, AsksInOrder, HasNoneFallen, HasNotFallen, HelpIsGiven, IsComplete, IsDoneOnly, IsMemoryTold, IsNoOther, IsNoOtherText, IsReadFaultOnly, IsRefusedExactly, IsReported, IsUntouched, IsUsageExactly, IsWriteFaultOnly, KeepsFiles, Writes}
use Rattle.vkg_cli.proofs.Whole.{determined_work}

-- a count that is the same, or rose, did not fall
same_count : (before last now : ℕ) → now ≡ before → min before last ≤ now
same_count before last now e = let l = min-le_left before last in omega (arith, l, e)

risen_count : (before last now : ℕ) → min (before + 1) last ≤ now → min before last ≤ now
risen_count before last now rose =
    let l = min-le_left before last in
    let up : min before last ≤ before + 1 = omega (arith, l) in
    let least : min before last ≤ min (before + 1) last = le-min up (min-le_right before last) in
    omega (arith, least, rose)

not_fallen : (old new : SinkState) (line : List ℕ) → Tells old new line → HasNotFallen old.faults new.faults
not_fallen old new line (inl took) = same_count old.faults (2 ^ 64 - 1) new.faults took.faults
not_fallen old new line (inr broke) = risen_count old.faults (2 ^ 64 - 1) new.faults broke.faults

abbrev Lines : Type 0
Lines = List (List ℕ)

one_fault : (fault other : Fault) → (let one : Result Lines Stop = Err (stop.Refused fault) in one ≡ Err (stop.Refused other)) → fault ≡ other
one_fault fault other e = cc

module _ (command : Command) (files : Files) where
  text_or_fault : (lines : Lines) (fault : Fault) → HasText command files lines → HasFault command files fault → ⊥
  text_or_fault lines fault text has = ok_err lines (stop.Refused fault) ((determined_work command files).one_outcome text.0 has.0 _ _ text.1 has.1)

  first_fault : (fault other : Fault) → HasFault command files fault → HasFault command files other → fault ≡ other
  first_fault fault other has also = one_fault fault other ((determined_work command files).one_outcome has.0 also.0 _ _ has.1 also.1)

  same_text : (lines others : Lines) → HasText command files lines → HasText command files others → lines ≡ others
  same_text lines others text also = ok_same lines others ((determined_work command files).one_outcome text.0 also.0 _ _ text.1 also.1)

module _ (command : Command) (old new : World) where
  writes : IsDone command old new → Writes command old new
  writes is = record { lines = is.lines; text_of = is.text_of; taken = is.taken; store = is.store; err = is.err }

  untouched_by : (status : Status) → Ends command old new status → IsUntouched old new status
  untouched_by Done ends a b = absurd (a refl)
  untouched_by BadWords ends a b = absurd ends
  untouched_by BadSchema ends a b = ends.out
  untouched_by BadTable ends a b = ends.out
  untouched_by BadMapping ends a b = ends.out
  untouched_by BadData ends a b = ends.out
  untouched_by BadQuery ends a b = ends.out
  untouched_by ReadFault ends a b = ends.out
  untouched_by WriteFault ends a b = absurd (b refl)
  untouched_by Memory ends a b = ends.out

  module _ (files : Files) (told : old.store.files ≡ Some files) where
    module _ (fault : Fault) (has : HasFault command files fault) where
      -- a refusal, where a fault is known
      of_fault : (status : Status) → IsRefused command old new status → (status ≡ status_of fault) ⊎ ((status ≡ ReadFault) × Rose old.store.faults new.store.faults) ⊎ (status ≡ Memory)
      of_fault status ends = inl (ends.status_is ∙ ap status_of (first_fault command files ends.fault fault (ends.defined files told) has))

      refused_by : (status : Status) → Ends command old new status → (status ≡ status_of fault) ⊎ ((status ≡ ReadFault) × Rose old.store.faults new.store.faults) ⊎ (status ≡ Memory)
      refused_by Done ends = absurd (text_or_fault command files ends.lines fault (ends.defined files told) has)
      refused_by BadWords ends = absurd ends
      refused_by BadSchema ends = of_fault BadSchema ends
      refused_by BadTable ends = of_fault BadTable ends
      refused_by BadMapping ends = of_fault BadMapping ends
      refused_by BadData ends = of_fault BadData ends
      refused_by BadQuery ends = of_fault BadQuery ends
      refused_by ReadFault ends = inr (inl (refl, ends.rose))
      refused_by WriteFault ends = absurd (text_or_fault command files ends.lines fault (ends.defined files told) has)
      refused_by Memory ends = inr (inr refl)

    module _ (none : (fault : Fault) → ¬ (HasFault command files fault)) (read : ¬ (Rose old.store.faults new.store.faults)) (write : ¬ (Rose old.out.faults new.out.faults)) where
      complete_by : (status : Status) → Ends command old new status → ((status ≡ Done) × Writes command old new) ⊎ (status ≡ Memory)
      complete_by Done ends = inl (refl, writes ends)
      complete_by BadWords ends = absurd ends
      complete_by BadSchema ends = absurd (none ends.fault (ends.defined files told))
      complete_by BadTable ends = absurd (none ends.fault (ends.defined files told))
      complete_by BadMapping ends = absurd (none ends.fault (ends.defined files told))
      complete_by BadData ends = absurd (none ends.fault (ends.defined files told))
      complete_by BadQuery ends = absurd (none ends.fault (ends.defined files told))
      complete_by ReadFault ends = absurd (read ends.rose)
      complete_by WriteFault ends = absurd (write ends.taken.faults)
      complete_by Memory ends = inr refl

    module _ (lines : Lines) (text : HasText command files lines) (read : ¬ (Rose old.store.faults new.store.faults)) (write : ¬ (Rose old.out.faults new.out.faults)) where
      written_by : (status : Status) → Ends command old new status → ((status ≡ Done) × Took old.out new.out (written lines)) ⊎ (status ≡ Memory)
      written_by Done ends = inl (refl, subst (λ l. Took old.out new.out (written l)) (same_text command files ends.lines lines (ends.defined files told) text) ends.taken)
      written_by BadWords ends = absurd ends
      written_by BadSchema ends = absurd (text_or_fault command files lines ends.fault text (ends.defined files told))
      written_by BadTable ends = absurd (text_or_fault command files lines ends.fault text (ends.defined files told))
      written_by BadMapping ends = absurd (text_or_fault command files lines ends.fault text (ends.defined files told))
      written_by BadData ends = absurd (text_or_fault command files lines ends.fault text (ends.defined files told))
      written_by BadQuery ends = absurd (text_or_fault command files lines ends.fault text (ends.defined files told))
      written_by ReadFault ends = absurd (read ends.rose)
      written_by WriteFault ends = absurd (write ends.taken.faults)
      written_by Memory ends = inr refl

same_command : (command other : Command) → run command ≡ run other → command ≡ other
same_command command other e = cc

no_command_help : (command : Command) → run command ≡ help → ⊥
no_command_help command e = cc

no_command_refused : (command : Command) (usage : Usage) → run command ≡ refused usage → ⊥
no_command_refused command usage e = cc

no_refused_help : (usage : Usage) → refused usage ≡ help → ⊥
no_refused_help usage e = cc

no_command_gen : (command : Command) (n : ℕ) → run command ≡ gen n → ⊥
no_command_gen command n e = cc e

no_refused_gen : (usage : Usage) (n : ℕ) → refused usage ≡ gen n → ⊥
no_refused_gen usage n e = cc e

no_gen_help : (n : ℕ) → gen n ≡ help → ⊥
no_gen_help n e = cc e

same_gen : (n m : ℕ) → gen n ≡ gen m → n ≡ m
same_gen n m e = cc e

not_twice : {A : Type 0} (status one other : Status) → status ≡ one → status ≡ other → (one ≡ other → A) → A
not_twice status one other a b absurdly = absurdly (sym a ∙ b)

done_written : Done ≡ WriteFault → ⊥
done_written e = cc

module _ (old new : World) where
  -- `dump` told no fault of a query
  no_query : (words : DumpWords) → IsRefused (dump words) old new BadQuery → ⊥
  no_query words is = by is.fault is.status_is is.may
    where
      by : (fault : Fault) → BadQuery ≡ status_of fault → MayStop (dump words) (stop.Refused fault) → ⊥
      by (Schema check at) e may = cc e
      by (Table check table row column) e may = cc e
      by (Keyless table) e may = cc e
      by (Mapping check at) e may = cc e
      by (Data check map row term) e may = cc e
      by (Query check at) e may = cc may

  -- and `sql` none of a table
  no_table : (words : SqlWords) → IsRefused (sql words) old new BadTable → ⊥
  no_table words is = by is.fault is.status_is is.may
    where
      by : (fault : Fault) → BadTable ≡ status_of fault → MayStop (sql words) (stop.Refused fault) → ⊥
      by (Schema check at) e may = cc e
      by (Table check table row column) e may = cc may
      by (Keyless table) e may = cc e
      by (Mapping check at) e may = cc e
      by (Data check map row term) e may = cc e
      by (Query check at) e may = cc e

  no_data : (words : SqlWords) → IsRefused (sql words) old new BadData → ⊥
  no_data words is = by is.fault is.status_is is.may
    where
      by : (fault : Fault) → BadData ≡ status_of fault → MayStop (sql words) (stop.Refused fault) → ⊥
      by (Schema check at) e may = cc e
      by (Table check table row column) e may = cc e
      by (Keyless table) e may = cc e
      by (Mapping check at) e may = cc e
      by (Data check map row term) e may = cc may
      by (Query check at) e may = cc e

module _ (old new : World) (status : Status) where
  -- `gen` ends with no other status
  gen_ends : (n : ℕ) (other : Status) → Reports n old new status → status ≡ other → ¬ (other ≡ Done) → ¬ (other ≡ WriteFault) → ¬ (other ≡ Memory) → ⊥
  gen_ends n other (same, inl (is, whole)) e a b c = a (sym e ∙ is)
  gen_ends n other (same, inr (inl (is, broken))) e a b c = b (sym e ∙ is)
  gen_ends n other (same, inr (inr (is, short))) e a b c = c (sym e ∙ is)

  pub done_only : (asked : Asked) → IsAnswer asked old new status → IsDoneOnly asked old new status
  done_only help (same, inl (is, took, quiet)) done = inl (refl, took, same, quiet)
  done_only help (same, inr (is, broke, told)) done = absurd (not_twice status Done WriteFault done is done_written)
  done_only (refused usage) (same, inl (is, why)) done = absurd (not_twice status Done BadWords done is (λ e. cc e))
  done_only (refused usage) (same, inr (is, why)) done = absurd (not_twice status Done Memory done is (λ e. cc e))
  done_only (run command) is done = inr (inl (command, refl, writes command old new (subst (Ends command old new) done is.ends)))
  done_only (gen n) (same, inl (is, whole)) done = inr (inr (n, refl, same, whole))
  done_only (gen n) (same, inr (inl (is, broken))) done = absurd (not_twice status Done WriteFault done is done_written)
  done_only (gen n) (same, inr (inr (is, short))) done = absurd (not_twice status Done Memory done is (λ e. cc e))

  pub usage_exactly : (asked : Asked) → IsAnswer asked old new status → IsUsageExactly asked old new status
  usage_exactly help (same, inl (is, took, quiet)) = (λ bad. absurd (not_twice status BadWords Done bad is (λ e. cc e)), λ usage e. absurd (no_refused_help usage (sym e)))
  usage_exactly help (same, inr (is, broke, told)) = (λ bad. absurd (not_twice status BadWords WriteFault bad is (λ e. cc e)), λ usage e. absurd (no_refused_help usage (sym e)))
  usage_exactly (refused usage) (same, inl (is, why)) = (λ bad. (usage, refl, why.told), λ other e. inl is)
  usage_exactly (refused usage) (same, inr (is, why)) = (λ bad. absurd (not_twice status BadWords Memory bad is (λ e. cc e)), λ other e. inr is)
  usage_exactly (run command) is = (λ bad. absurd (subst (Ends command old new) bad is.ends), λ usage e. absurd (no_command_refused command usage e))
  usage_exactly (gen n) is = (λ bad. absurd (gen_ends n BadWords is bad (λ e. cc e) (λ e. cc e) (λ e. cc e)), λ usage e. absurd (no_refused_gen usage n (sym e)))

  pub no_other : (asked : Asked) → IsAnswer asked old new status → IsNoOther asked status
  no_other help is = tt
  no_other (refused usage) is = tt
  no_other (run (dump words)) is = λ bad. no_query old new words (subst (Ends (dump words) old new) bad is.ends)
  no_other (run (query words)) is = tt
  no_other (gen n) (same, inl (is, whole)) = inl is
  no_other (gen n) (same, inr (inl (is, broken))) = inr (inl is)
  no_other (gen n) (same, inr (inr (is, short))) = inr (inr is)
  no_other (run (sql words)) is = (λ bad. no_table old new words (subst (Ends (sql words) old new) bad is.ends), λ bad. no_data old new words (subst (Ends (sql words) old new) bad is.ends))

  pub memory_told : (asked : Asked) → IsAnswer asked old new status → IsMemoryTold old new status
  memory_told help (same, inl (is, took, quiet)) short = absurd (not_twice status Memory Done short is (λ e. cc e))
  memory_told help (same, inr (is, broke, told)) short = absurd (not_twice status Memory WriteFault short is (λ e. cc e))
  memory_told (refused usage) (same, inl (is, why)) short = absurd (not_twice status Memory BadWords short is (λ e. cc e))
  memory_told (refused usage) (same, inr (is, why)) short = why.told
  memory_told (gen n) (same, inl (is, whole)) short = absurd (not_twice status Memory Done short is (λ e. cc e))
  memory_told (gen n) (same, inr (inl (is, broken))) short = absurd (not_twice status Memory WriteFault short is (λ e. cc e))
  memory_told (gen n) (same, inr (inr (is, why))) short = why.told
  memory_told (run command) is short = let ends = subst (Ends command old new) short is.ends in ends.told

  pub read_only : (asked : Asked) → IsAnswer asked old new status → IsReadFaultOnly old new status
  read_only help (same, inl (is, took, quiet)) unread = absurd (not_twice status ReadFault Done unread is (λ e. cc e))
  read_only help (same, inr (is, broke, told)) unread = absurd (not_twice status ReadFault WriteFault unread is (λ e. cc e))
  read_only (refused usage) (same, inl (is, why)) unread = absurd (not_twice status ReadFault BadWords unread is (λ e. cc e))
  read_only (refused usage) (same, inr (is, why)) unread = absurd (not_twice status ReadFault Memory unread is (λ e. cc e))
  read_only (gen n) is unread = absurd (gen_ends n ReadFault is unread (λ e. cc e) (λ e. cc e) (λ e. cc e))
  read_only (run command) is unread = let ends = subst (Ends command old new) unread is.ends in (ends.rose, ends.told)

  pub write_only : (asked : Asked) → IsAnswer asked old new status → IsWriteFaultOnly asked old new status
  write_only help (same, inl (is, took, quiet)) unwritten = absurd (not_twice status Done WriteFault is unwritten done_written)
  write_only help (same, inr (is, broke, told)) unwritten = inl (refl, broke, told)
  write_only (refused usage) (same, inl (is, why)) unwritten = absurd (not_twice status WriteFault BadWords unwritten is (λ e. cc e))
  write_only (refused usage) (same, inr (is, why)) unwritten = absurd (not_twice status WriteFault Memory unwritten is (λ e. cc e))
  write_only (run command) is unwritten = inr (inl (command, refl, subst (Ends command old new) unwritten is.ends))
  write_only (gen n) (same, inl (is, whole)) unwritten = absurd (not_twice status Done WriteFault is unwritten done_written)
  write_only (gen n) (same, inr (inl (is, broken))) unwritten = inr (inr (n, refl, broken))
  write_only (gen n) (same, inr (inr (is, short))) unwritten = absurd (not_twice status WriteFault Memory unwritten is (λ e. cc e))

  pub untouched : (asked : Asked) → IsAnswer asked old new status → IsUntouched old new status
  untouched help (same, inl (is, took, quiet)) a b = absurd (a is)
  untouched help (same, inr (is, broke, told)) a b = absurd (b is)
  untouched (refused usage) (same, inl (is, why)) a b = why.out
  untouched (refused usage) (same, inr (is, why)) a b = why.out
  untouched (gen n) (same, inl (is, whole)) a b = absurd (a is)
  untouched (gen n) (same, inr (inl (is, broken))) a b = absurd (b is)
  untouched (gen n) (same, inr (inr (is, short))) a b = short.out
  untouched (run command) is a b = untouched_by command old new status is.ends a b

  pub help_given : (asked : Asked) → IsAnswer asked old new status → HelpIsGiven asked status
  help_given help (same, inl (is, took, quiet)) e = inl is
  help_given help (same, inr (is, broke, told)) e = inr is
  help_given (refused usage) is e = absurd (no_refused_help usage e)
  help_given (run command) is e = absurd (no_command_help command e)
  help_given (gen n) is e = absurd (no_gen_help n e)

  pub reported : (asked : Asked) → IsAnswer asked old new status → IsReported asked old new status
  reported help is n e quiet = absurd (no_gen_help n (sym e))
  reported (refused usage) is n e quiet = absurd (no_refused_gen usage n e)
  reported (run command) is n e quiet = absurd (no_command_gen command n e)
  reported (gen m) (same, inl (is, whole)) n e quiet = inl (is, subst (λ k. WritesReport k old new) (same_gen m n e) whole)
  reported (gen m) (same, inr (inl (is, broken))) n e quiet = absurd (quiet broken.taken.faults)
  reported (gen m) (same, inr (inr (is, short))) n e quiet = inr is

  pub complete : (asked : Asked) → IsAnswer asked old new status → IsComplete asked old new status
  unfolding IsComplete
  complete help is command e files told none read write = absurd (no_command_help command (sym e))
  complete (refused usage) is command e files told none read write = absurd (no_command_refused command usage (sym e))
  complete (gen n) is command e files told none read write = absurd (no_command_gen command n (sym e))
  complete (run asked) is command e files told none read write =
      subst (λ o. ((status ≡ Done) × Writes o old new) ⊎ (status ≡ Memory)) (same_command asked command e)
      (complete_by asked old new files told (subst (λ o. (fault : Fault) → ¬ (HasFault o files fault)) (sym (same_command asked command e)) none) read write status is.ends)

  pub no_other_text : (asked : Asked) → IsAnswer asked old new status → IsNoOtherText asked old new status
  unfolding IsNoOtherText
  no_other_text help is command e files told lines text read write = absurd (no_command_help command (sym e))
  no_other_text (refused usage) is command e files told lines text read write = absurd (no_command_refused command usage (sym e))
  no_other_text (gen n) is command e files told lines text read write = absurd (no_command_gen command n (sym e))
  no_other_text (run asked) is command e files told lines text read write =
      let same = same_command asked command e in
      written_by asked old new files told lines (subst (λ o. HasText o files lines) (sym same) text) read write status is.ends

  pub by_words : (asked : Asked) → IsAnswer asked old new status → AsksByWords asked old new
  unfolding AsksByWords
  by_words help is = ap (λ (s : StoreState). s.asked) is.0
  by_words (refused usage) is = ap (λ (s : StoreState). s.asked) is.0
  by_words (gen n) is = ap (λ (s : StoreState). s.asked) is.0
  by_words (run command) is = is.first

  pub keeps_files : (asked : Asked) → IsAnswer asked old new status → KeepsFiles old new
  keeps_files help is = ap (λ (s : StoreState). s.files) is.0
  keeps_files (refused usage) is = ap (λ (s : StoreState). s.files) is.0
  keeps_files (gen n) is = ap (λ (s : StoreState). s.files) is.0
  keeps_files (run command) is = is.files

  -- where memory was short, no count fell
  kept : IsShort old new → (old.store.faults ≤ new.store.faults) × (old.out.faults ≤ new.out.faults) × HasNotFallen old.err.faults new.err.faults
  kept short = let same = ap (λ (s : SinkState). s.faults) short.out in (short.store, omega (arith, same), not_fallen old.err new.err _ short.told)

  pub none_fallen : (asked : Asked) → IsAnswer asked old new status → HasNoneFallen old new status
  none_fallen help (same, inl (is, took, quiet)) short = absurd (not_twice status Memory Done short is (λ e. cc e))
  none_fallen help (same, inr (is, broke, told)) short = absurd (not_twice status Memory WriteFault short is (λ e. cc e))
  none_fallen (refused usage) (same, inl (is, why)) short = absurd (not_twice status Memory BadWords short is (λ e. cc e))
  none_fallen (refused usage) (same, inr (is, why)) short = kept why
  none_fallen (gen n) (same, inl (is, whole)) short = absurd (not_twice status Memory Done short is (λ e. cc e))
  none_fallen (gen n) (same, inr (inl (is, broken))) short = absurd (not_twice status Memory WriteFault short is (λ e. cc e))
  none_fallen (gen n) (same, inr (inr (is, why))) short = kept why
  none_fallen (run command) is short = kept (subst (Ends command old new) short is.ends)

  pub in_order : (asked : Asked) → IsAnswer asked old new status → AsksInOrder asked old new
  in_order help is = is.0
  in_order (refused usage) is = is.0
  in_order (run command) is = is.asked
  in_order (gen n) is = is.0

  -- how one of the statuses of faults follows from the answer
  refused_exactly : (bad : Status) → ((command : Command) → Ends command old new bad → IsRefused command old new bad) → ¬ (bad ≡ Done) → ¬ (bad ≡ WriteFault) → ¬ (bad ≡ BadWords) → ¬ (bad ≡ Memory)
      → (asked : Asked) → IsAnswer asked old new status → IsRefusedExactly bad asked old new status
  unfolding IsRefusedExactly
  refused_exactly bad by a b c d help (same, inl (is, took, quiet)) = (λ e. absurd (a (sym e ∙ is)), λ command e. absurd (no_command_help command (sym e)))
  refused_exactly bad by a b c d help (same, inr (is, broke, told)) = (λ e. absurd (b (sym e ∙ is)), λ command e. absurd (no_command_help command (sym e)))
  refused_exactly bad by a b c d (refused usage) (same, inl (is, why)) = (λ e. absurd (c (sym e ∙ is)), λ command e. absurd (no_command_refused command usage (sym e)))
  refused_exactly bad by a b c d (refused usage) (same, inr (is, why)) = (λ e. absurd (d (sym e ∙ is)), λ command e. absurd (no_command_refused command usage (sym e)))
  refused_exactly bad by a b c d (gen n) is = (λ e. absurd (gen_ends n bad is e a b d), λ command e. absurd (no_command_gen command n (sym e)))
  refused_exactly bad by a b c d (run asked) is = (
    λ e. (asked, refl, by asked (subst (Ends asked old new) e is.ends)),
    λ command e files told fault has same.
        subst (λ s. (status ≡ s) ⊎ ((status ≡ ReadFault) × Rose old.store.faults new.store.faults) ⊎ (status ≡ Memory)) same
        (refused_by asked old new files told fault (subst (λ o. HasFault o files fault) (sym (same_command asked command e)) has) status is.ends),
  )

  pub bad_schema : (asked : Asked) → IsAnswer asked old new status → IsRefusedExactly BadSchema asked old new status
  bad_schema asked is = refused_exactly BadSchema (λ command ends. ends) (λ e. cc e) (λ e. cc e) (λ e. cc e) (λ e. cc e) asked is

  pub bad_table : (asked : Asked) → IsAnswer asked old new status → IsRefusedExactly BadTable asked old new status
  bad_table asked is = refused_exactly BadTable (λ command ends. ends) (λ e. cc e) (λ e. cc e) (λ e. cc e) (λ e. cc e) asked is

  pub bad_mapping : (asked : Asked) → IsAnswer asked old new status → IsRefusedExactly BadMapping asked old new status
  bad_mapping asked is = refused_exactly BadMapping (λ command ends. ends) (λ e. cc e) (λ e. cc e) (λ e. cc e) (λ e. cc e) asked is

  pub bad_data : (asked : Asked) → IsAnswer asked old new status → IsRefusedExactly BadData asked old new status
  bad_data asked is = refused_exactly BadData (λ command ends. ends) (λ e. cc e) (λ e. cc e) (λ e. cc e) (λ e. cc e) asked is

  pub bad_query : (asked : Asked) → IsAnswer asked old new status → IsRefusedExactly BadQuery asked old new status
  bad_query asked is = refused_exactly BadQuery (λ command ends. ends) (λ e. cc e) (λ e. cc e) (λ e. cc e) (λ e. cc e) asked is
