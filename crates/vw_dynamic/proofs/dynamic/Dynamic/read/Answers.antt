use Rattle.std.proofs.Common.{◌≡◌, ◌++◌, ◌+◌, ◌^◌, [], ◌∷◌, ℕ, List, IfOk, length, get_or, take, drop, Option, Some, None, unwrap_or, refl, sym, ap, subst, ◌∙◌, arith, true, false, ◌==◌, ◌-◌, suc}
use Rattle.std.proofs.lemmas.Result.{err_from_is_err_and, on_ok_weaker, MatchResult-weaker}
use Rattle.std.proofs.lemmas.Bool.Decides.{nat_tests}
use Rattle.std.proofs.lemmas.List.{take_all}
use Rattle.vw_bits.specs.HeaderRules.{header_fault}
use Rattle.vw_bits.specs.Headers.{segments_of, dynamics_of}
use Rattle.vw_bits.specs.Rules.{lowest_broken, AllHold}
use Rattle.vw_bits.specs.declared.records.Segment.{Segment}
use Rattle.vw_bits.specs.declared.records.DynHeader.{DynHeader}
use Rattle.vw_bits.specs.Bounds.{AreBounded}
use Rattle.vw_bits.proofs.BoundLemmas.{AreBounded-from_rules, length-from_rules, AreBounded-widen}
use Rattle.vw_bits.proofs.FaultLemmas.{names_front, names_behind, holds_append}
use Rattle.vw_bits.proofs.RuleLemmas.{lowest-shift}
use Rattle.vw_dynamic.specs.Faults.{fault_in, Names}
use Rattle.vw_dynamic.specs.Entries.{section_entries}
use Rattle.vw_dynamic.specs.Directory.{value_of, directory_of, relocation_offsets}
use Rattle.vw_dynamic.specs.Relas.{relas_of}
use Rattle.vw_dynamic.specs.Names.{distinct}
use Rattle.vw_dynamic.specs.Targets.{imports_of, relocations_of}
use Rattle.vw_dynamic.specs.Dynamic.{section_rules, rules_behind, entries_of, dynamic_rules, dynamic_fault, file_imports, file_relocations, imports_in, relocations_in}
use Rattle.vw_dynamic.specs.declared.entries.Entry.{Entry}
use Rattle.vw_dynamic.specs.declared.dynamic.Relocation.{Relocation}
use Rattle.vw_dynamic.specs.declared.faults.DynError.{DynError}
use Rattle.vw_dynamic.proofs.dynamic.Dynamic.read.Goals as goal

none_fault : (bytes : List ℕ) → dynamics_of bytes ≡ [] → dynamic_fault bytes ≡ None
unfolding dynamic_fault dynamic_rules
none_fault bytes none = rw none refl

none_relocations : (bytes : List ℕ) → dynamics_of bytes ≡ [] → file_relocations bytes ≡ []
unfolding file_relocations entries_of directory_of value_of relas_of relocation_offsets relocations_of
none_relocations bytes none = rw none refl

none_imports : (bytes : List ℕ) → dynamics_of bytes ≡ [] → file_imports bytes ≡ []
unfolding file_imports entries_of directory_of value_of relas_of relocation_offsets imports_of distinct
none_imports bytes none = rw none refl

empty : (ds : List DynHeader) → (length ds == 0) ≡ true → ds ≡ []
empty [] is = refl
empty (d ∷ ds) is = absurd (grind (arith, nat_tests, is))

abbrev blank : DynHeader
blank = record { vaddr = 0; filesz = 0; header_at = 0 }

-- the first header and those behind it
abbrev first : List DynHeader → DynHeader
first ds = get_or ds 0 blank

abbrev behind : List DynHeader → List DynHeader
behind ds = take (length ds - 1) (drop 1 ds)

head_rest : (ds : List DynHeader) → (length ds == 0) ≡ false → ds ≡ first ds ∷ behind ds
head_rest [] is = cc
head_rest (d ∷ ds) is = ap (λ (rest : List DynHeader). d ∷ rest) (sym (take_all (suc (length ds) - 1) ds (omega arith)))

inside_of : (bytes : List ℕ) (segments : List Segment) → header_fault bytes ≡ None → segments ≡ segments_of bytes → AreBounded (length bytes) segments
inside_of bytes segments headers are = let P : List Segment → Type 0 = λ s. AreBounded (length bytes) s in subst P (sym are) (AreBounded-from_rules bytes headers)

-- a file with a dynamic section
module _ (bytes : List ℕ) (segments : List Segment) (ds : List DynHeader) (are : segments ≡ segments_of bytes) (headers : ds ≡ dynamics_of bytes) (some : (length ds == 0) ≡ false) where
  split : dynamics_of bytes ≡ first ds ∷ behind ds
  split = sym headers ∙ head_rest ds some

  fault_is : dynamic_fault bytes ≡ lowest_broken 15 (section_rules bytes segments (first ds) (behind ds) ++ rules_behind bytes segments (unwrap_or (section_entries bytes segments (first ds)) []))
  unfolding dynamic_fault dynamic_rules
  fault_is = rw (← are, split) refl

  in_section : (e : DynError) → Names (lowest_broken 15 (section_rules bytes segments (first ds) (behind ds))) e → Names (dynamic_fault bytes) e
  in_section e names = rw fault_is (names_front 15 (section_rules bytes segments (first ds) (behind ds)) _ (fault_in e) names)

  module _ (entries : List Entry) (read : section_entries bytes segments (first ds) ≡ Some entries) where
    entries_are : entries_of bytes (segments_of bytes) (dynamics_of bytes) ≡ entries
    unfolding entries_of
    entries_are = rw (split, ← are, read) refl

    imports_are : imports_in bytes segments (directory_of entries) ≡ file_imports bytes
    unfolding file_imports
    imports_are = rw (entries_are, ← are) refl

    relocations_are : relocations_in bytes segments (directory_of entries) ≡ file_relocations bytes
    unfolding file_relocations
    relocations_are = rw (entries_are, ← are) refl

    module _ (sections : AllHold (section_rules bytes segments (first ds) (behind ds))) where
      behind_is : dynamic_fault bytes ≡ lowest_broken 15 (section_rules bytes segments (first ds) (behind ds) ++ rules_behind bytes segments entries)
      behind_is = fault_is ∙ ap (λ (es : Option (List Entry)). lowest_broken 15 (section_rules bytes segments (first ds) (behind ds) ++ rules_behind bytes segments (unwrap_or es []))) read

      sections_count : 15 + length (section_rules bytes segments (first ds) (behind ds)) ≡ 18
      unfolding section_rules
      sections_count = refl

      in_entries : (e : DynError) → Names (lowest_broken 18 (rules_behind bytes segments entries)) e → Names (dynamic_fault bytes) e
      in_entries e names = rw behind_is (names_behind 15 18 (section_rules bytes segments (first ds) (behind ds)) _ (fault_in e) sections sections_count names)

      none_broken : AllHold (rules_behind bytes segments entries) → dynamic_fault bytes ≡ None
      none_broken hold =
          behind_is ∙ holds_append 15 18 (section_rules bytes segments (first ds) (behind ds)) _ sections sections_count (lowest-shift 1 18 (rules_behind bytes segments entries) hold)

pub returns-then-is_empty-clause-ok : goal.returns-then-is_empty-clause-ok
returns-then-is_empty-clause-ok c = none_fault _ (sym c.requires.dynamics ∙ empty _ (sym c.is_empty.ensures ∙ c.if-is_empty.true))

pub returns-then-is_empty-clause-relocations : goal.returns-then-is_empty-clause-relocations
returns-then-is_empty-clause-relocations c = c.new.ensures ∙ sym (none_relocations _ (sym c.requires.dynamics ∙ empty _ (sym c.is_empty.ensures ∙ c.if-is_empty.true)))

pub returns-then-is_empty-clause-imports : goal.returns-then-is_empty-clause-imports
returns-then-is_empty-clause-imports c = c.new-then-is_empty.ensures ∙ sym (none_imports _ (sym c.requires.dynamics ∙ empty _ (sym c.is_empty.ensures ∙ c.if-is_empty.true)))

pub read_section-requires-clause-inside : goal.read_section-requires-clause-inside
read_section-requires-clause-inside c = inside_of _ _ c.requires.headers c.requires.segments

pub read_section-requires-clause-small : goal.read_section-requires-clause-small
read_section-requires-clause-small c =
    let few = length-from_rules c.args.bytes.now c.requires.headers in
    AreBounded-widen (length c.args.bytes.now) (2 ^ 64) _ (omega (arith, few)) (inside_of _ _ c.requires.headers c.requires.segments)

pub returns-in_err-entries-clause-fault : goal.returns-in_err-entries-clause-fault
returns-in_err-entries-clause-fault c =
    let p = err_from_is_err_and c.from_residual.result c.from_residual.ensures.1 in
    rw (p.1, p.2) (in_section c.args.bytes.now c.args.segments.now c.args.dynamics.now c.requires.segments c.requires.dynamics (sym c.is_empty.ensures ∙ c.if-is_empty.false) _ c.in_err-entries.ensures.fault)

pub read_tables-requires-clause-inside : goal.read_tables-requires-clause-inside
read_tables-requires-clause-inside c = inside_of _ _ c.requires.headers c.requires.segments

pub read_tables-requires-clause-few : goal.read_tables-requires-clause-few
read_tables-requires-clause-few c =
    let few = length-from_rules c.args.bytes.now c.requires.headers in
    omega (arith, few)

pub returns-clause-ok : goal.returns-clause-ok
returns-clause-ok c =
    let read : section_entries c.args.bytes.now c.args.segments.now (first c.args.dynamics.now) ≡ Some c.as_slice.result.now = c.in_ok-entries.ensures.ok ∙ ap Some (sym c.as_slice.ensures.value) in
    on_ok_weaker c.read_tables.result (none_broken c.args.bytes.now c.args.segments.now c.args.dynamics.now c.requires.segments c.requires.dynamics (sym c.is_empty.ensures ∙ c.if-is_empty.false) _ read c.in_ok-entries.ensures.rules) c.read_tables.ensures.ok

pub returns-clause-fault : goal.returns-clause-fault
returns-clause-fault c =
    let read : section_entries c.args.bytes.now c.args.segments.now (first c.args.dynamics.now) ≡ Some c.as_slice.result.now = c.in_ok-entries.ensures.ok ∙ ap Some (sym c.as_slice.ensures.value) in
    MatchResult-weaker c.read_tables.result c.read_tables.ensures.fault (λ _ holds. holds) (in_entries c.args.bytes.now c.args.segments.now c.args.dynamics.now c.requires.segments c.requires.dynamics (sym c.is_empty.ensures ∙ c.if-is_empty.false) _ read c.in_ok-entries.ensures.rules)

pub returns-clause-relocations : goal.returns-clause-relocations
returns-clause-relocations c =
    let read : section_entries c.args.bytes.now c.args.segments.now (first c.args.dynamics.now) ≡ Some c.as_slice.result.now = c.in_ok-entries.ensures.ok ∙ ap Some (sym c.as_slice.ensures.value) in
    let P : List Relocation → Type 0 = λ relocations. IfOk c.read_tables.result (λ dynamic. dynamic.relocations ≡ relocations) in
    subst P (relocations_are c.args.bytes.now c.args.segments.now c.args.dynamics.now c.requires.segments c.requires.dynamics (sym c.is_empty.ensures ∙ c.if-is_empty.false) _ read) c.read_tables.ensures.relocations

pub returns-clause-imports : goal.returns-clause-imports
returns-clause-imports c =
    let read : section_entries c.args.bytes.now c.args.segments.now (first c.args.dynamics.now) ≡ Some c.as_slice.result.now = c.in_ok-entries.ensures.ok ∙ ap Some (sym c.as_slice.ensures.value) in
    let P : List (List ℕ) → Type 0 = λ names. IfOk c.read_tables.result (λ dynamic. dynamic.imports ≡ names) in
    subst P (imports_are c.args.bytes.now c.args.segments.now c.args.dynamics.now c.requires.segments c.requires.dynamics (sym c.is_empty.ensures ∙ c.if-is_empty.false) _ read) c.read_tables.ensures.imports
