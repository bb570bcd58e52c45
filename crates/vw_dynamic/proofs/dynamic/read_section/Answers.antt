use Rattle.std.proofs.Common.{◌≡◌, ℕ, List, Some, None, refl, sym, ap, ◌∙◌, rules}
use Rattle.vw_bits.specs.Rules.{lowest_broken, AllHold}
use Rattle.vw_bits.specs.declared.records.Segment.{Segment}
use Rattle.vw_bits.specs.declared.records.DynHeader.{DynHeader}
use Rattle.vw_dynamic.specs.declared.entries.Entry.{Entry}
use Rattle.vw_dynamic.specs.declared.faults.DynError.TheVariants.{Fault}
use Rattle.vw_dynamic.specs.Faults.{Names}
use Rattle.vw_dynamic.specs.Entries.{section_offset, section_entries, ended_entries, entry_list, second_header}
use Rattle.vw_dynamic.specs.Dynamic.{section_rules}
use Rattle.vw_bits.proofs.BoundLemmas.{file_offset-inside}
use Rattle.vw_bits.proofs.FaultLemmas.{names_here, names_next}
use Rattle.vw_dynamic.proofs.dynamic.read_section.Goals as goal

module _ (bytes : List ℕ) (segments : List Segment) (header : DynHeader) (more : List DynHeader) where
  nowhere : second_header more ≡ None → section_offset segments header ≡ None → Names (lowest_broken 15 (section_rules bytes segments header more)) (Fault 16 header.header_at)
  unfolding section_rules
  nowhere one none = rw (one, none) refl

  entries_are : (start : ℕ) → section_offset segments header ≡ Some start → section_entries bytes segments header ≡ ended_entries bytes start header.filesz
  unfolding section_entries
  entries_are start at = rw at refl

  unended : (start : ℕ) → second_header more ≡ None → section_offset segments header ≡ Some start → ended_entries bytes start header.filesz ≡ None → Names (lowest_broken 15 (section_rules bytes segments header more)) (Fault 17 header.header_at)
  unfolding section_rules
  unended start one at none =
      let entries : section_entries bytes segments header ≡ None = entries_are start at ∙ none in
      rw (one, at, entries) refl

  whole : (start : ℕ) (entries : List Entry) → second_header more ≡ None → section_offset segments header ≡ Some start → ended_entries bytes start header.filesz ≡ Some entries → AllHold (section_rules bytes segments header more)
  unfolding section_rules
  whole start entries one at some =
      let are : section_entries bytes segments header ≡ Some entries = entries_are start at ∙ some in
      rw (one, at, are) refl

pub returns-in_err-refuse-clause-fault : goal.returns-in_err-refuse-clause-fault
unfolding section_rules
returns-in_err-refuse-clause-fault c = search (rules, names_here, names_next) depth 20

pub returns-in-None-clause-fault : goal.returns-in-None-clause-fault
returns-in-None-clause-fault c =
    nowhere c.args.bytes.now c.args.segments.now c.args.header.now c.args.more.now (sym c.first_header.ensures ∙ c.in_ok-refuse.ensures.holds) (sym c.in-None.ensures)

pub read_entries-requires : goal.read_entries-requires
read_entries-requires c = file_offset-inside _ _ _ _ _ c.requires.inside (sym c.in-Some.ensures)

pub returns-in-Some-2-clause-ok : goal.returns-in-Some-2-clause-ok
returns-in-Some-2-clause-ok c =
    let read : entry_list c.in_ok-entries.field-0 ≡ ended_entries c.args.bytes.now c.in-Some.start c.args.header.now.filesz = search rules in
    let some : ended_entries c.args.bytes.now c.in-Some.start c.args.header.now.filesz ≡ Some c.in-Some-2.entries.items = sym read ∙ ap entry_list c.in-Some-2.is in
    entries_are c.args.bytes.now c.args.segments.now c.args.header.now c.args.more.now c.in-Some.start (sym c.in-Some.ensures) ∙ some

pub returns-in-Some-2-clause-rules : goal.returns-in-Some-2-clause-rules
returns-in-Some-2-clause-rules c =
    let read : entry_list c.in_ok-entries.field-0 ≡ ended_entries c.args.bytes.now c.in-Some.start c.args.header.now.filesz = search rules in
    let some : ended_entries c.args.bytes.now c.in-Some.start c.args.header.now.filesz ≡ Some c.in-Some-2.entries.items = sym read ∙ ap entry_list c.in-Some-2.is in
    whole c.args.bytes.now c.args.segments.now c.args.header.now c.args.more.now c.in-Some.start _ (sym c.first_header.ensures ∙ c.in_ok-refuse.ensures.holds) (sym c.in-Some.ensures) some

pub returns-in-None-2-clause-fault : goal.returns-in-None-2-clause-fault
returns-in-None-2-clause-fault c =
    let read : entry_list c.in_ok-entries.field-0 ≡ ended_entries c.args.bytes.now c.in-Some.start c.args.header.now.filesz = search rules in
    let none : ended_entries c.args.bytes.now c.in-Some.start c.args.header.now.filesz ≡ None = sym read ∙ ap entry_list c.in-None-2.is in
    unended c.args.bytes.now c.args.segments.now c.args.header.now c.args.more.now c.in-Some.start (sym c.first_header.ensures ∙ c.in_ok-refuse.ensures.holds) (sym c.in-Some.ensures) none
