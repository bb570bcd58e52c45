use Rattle.std.proofs.Common.{◌≡◌, ◌+◌, ◌++◌, ℕ, subst, rules, List, length, Option, None, refl, sym, ◌∙◌}
use Rattle.std.proofs.lemmas.Result.{err_from_is_err_and}
use Rattle.vw_bits.specs.Headers.{segments_of}
use Rattle.vw_bits.specs.Rules.{lowest_broken, AllHold}
use Rattle.vw_bits.specs.HeaderRules.{header_fault, header_rules, segment_rules, section_table_rule, symbol_section_rule}
use Rattle.vw_bits.proofs.RuleLemmas.{lowest-shift, program_headers-inside, SectionsInside-from_rule}
use Rattle.vw_bits.specs.declared.records.Segment.{Segment}
use Rattle.vw_elf.specs.Faults.{fault_in, Names, Tells}
use Rattle.vw_elf.specs.declared.faults.ElfError.{ElfError}
use Rattle.vw_bits.proofs.FaultLemmas.{names_here, names_next, names_front, names_behind, holds_next, holds_append}
use Rattle.vw_elf.proofs.elf.Elf.read.Goals as goal

abbrev segments_checked : List ℕ → List (Option ℕ)
segments_checked bytes = segment_rules (length bytes) (segments_of bytes)

-- a fault of rules 1 to 9, of 10 to 12, of 13 and of 14
in_header : (bytes : List ℕ) (e : ElfError) → Names (lowest_broken 1 (header_rules bytes)) e → Names (header_fault bytes) e
unfolding header_fault
in_header bytes e names = names_front 1 (header_rules bytes ++ segments_checked bytes) _ (fault_in e) (names_front 1 (header_rules bytes) _ (fault_in e) names)

in_segments : (bytes : List ℕ) (e : ElfError) → AllHold (header_rules bytes) → Names (lowest_broken 10 (segments_checked bytes)) e → Names (header_fault bytes) e
unfolding header_fault header_rules
in_segments bytes e header names = names_front 1 (header_rules bytes ++ segments_checked bytes) _ (fault_in e) (names_behind 1 10 (header_rules bytes) (segments_checked bytes) (fault_in e) header refl names)

both_hold : (bytes : List ℕ) → AllHold (header_rules bytes) → AllHold (segments_checked bytes) → AllHold (header_rules bytes ++ segments_checked bytes)
unfolding header_rules
both_hold bytes header segments = holds_append 1 10 (header_rules bytes) (segments_checked bytes) header refl (lowest-shift 1 10 (segments_checked bytes) segments)

count : (bytes : List ℕ) → 1 + length (header_rules bytes ++ segments_checked bytes) ≡ 13
unfolding header_rules segment_rules
count bytes = refl

in_section_table : (bytes : List ℕ) (e : ElfError) → AllHold (header_rules bytes) → AllHold (segments_checked bytes) → Tells 13 (section_table_rule bytes) e → Names (header_fault bytes) e
unfolding header_fault
in_section_table bytes e header segments tells = names_behind 1 13 _ _ (fault_in e) (both_hold bytes header segments) (count bytes) (names_here 13 _ _ _ (fault_in e) refl tells)

in_symbol_section : (bytes : List ℕ) (e : ElfError) → AllHold (header_rules bytes) → AllHold (segments_checked bytes) → section_table_rule bytes ≡ None → Tells 14 (symbol_section_rule bytes) e → Names (header_fault bytes) e
unfolding header_fault
in_symbol_section bytes e header segments table tells = names_behind 1 13 _ _ (fault_in e) (both_hold bytes header segments) (count bytes) (names_next 13 _ _ _ (fault_in e) refl table (names_here 14 _ _ _ (fault_in e) refl tells))

none_broken : (bytes : List ℕ) → AllHold (header_rules bytes) → AllHold (segments_checked bytes) → section_table_rule bytes ≡ None → symbol_section_rule bytes ≡ None → header_fault bytes ≡ None
unfolding header_fault
none_broken bytes header segments table symbols = holds_append 1 13 _ _ (both_hold bytes header segments) (count bytes) (holds_next 13 _ _ _ refl table (holds_next 14 _ _ _ refl symbols refl))

pub returns-in_err-header-clause-fault : goal.returns-in_err-header-clause-fault
returns-in_err-header-clause-fault c =
    let p = err_from_is_err_and c.from_residual.result c.from_residual.ensures.1 in
    rw (p.1, p.2) (in_header _ _ c.in_err-header.ensures.fault)

pub read_program_headers-requires-clause-table : goal.read_program_headers-requires-clause-table
read_program_headers-requires-clause-table c = program_headers-inside _ c.in_ok-header.ensures.ok

pub returns-in_err-check_segments-clause-fault : goal.returns-in_err-check_segments-clause-fault
returns-in_err-check_segments-clause-fault c =
    let p = err_from_is_err_and c.from_residual-in_err-check_segments.result c.from_residual-in_err-check_segments.ensures.1 in
    let are : c.as_slice.result.now ≡ segments_of c.args.bytes.now = search rules in
    let P : List Segment → Type 0 = λ s. Names (lowest_broken 10 (segment_rules (length c.args.bytes.now) s)) c.in_err-check_segments.field-0.0 in
    rw (p.1, p.2) (in_segments _ _ c.in_ok-header.ensures.ok (subst P are c.in_err-check_segments.ensures.fault))

pub returns-in_err-refuse-clause-fault : goal.returns-in_err-refuse-clause-fault
returns-in_err-refuse-clause-fault c =
    let p = err_from_is_err_and c.from_residual-in_err-refuse.result c.from_residual-in_err-refuse.ensures.1 in
    let are : c.as_slice.result.now ≡ segments_of c.args.bytes.now = search rules in
    let P : List Segment → Type 0 = λ s. AllHold (segment_rules (length c.args.bytes.now) s) in
    let segments : AllHold (segments_checked c.args.bytes.now) = subst P are c.in_ok-check_segments.ensures.ok in
    let Q : Option ℕ → Type 0 = λ found. Tells 13 found c.in_err-refuse.field-0.0 in
    rw (p.1, p.2) (in_section_table _ _ c.in_ok-header.ensures.ok segments (subst Q c.broken_section_table.ensures c.in_err-refuse.ensures.broken))

pub broken_symbol_section-requires-clause-table : goal.broken_symbol_section-requires-clause-table
broken_symbol_section-requires-clause-table c = SectionsInside-from_rule _ (sym c.broken_section_table.ensures ∙ c.in_ok-refuse.ensures.holds)

pub returns-in_err-refuse-2-clause-fault : goal.returns-in_err-refuse-2-clause-fault
returns-in_err-refuse-2-clause-fault c =
    let p = err_from_is_err_and c.from_residual-in_err-refuse-2.result c.from_residual-in_err-refuse-2.ensures.1 in
    let are : c.as_slice.result.now ≡ segments_of c.args.bytes.now = search rules in
    let P : List Segment → Type 0 = λ s. AllHold (segment_rules (length c.args.bytes.now) s) in
    let segments : AllHold (segments_checked c.args.bytes.now) = subst P are c.in_ok-check_segments.ensures.ok in
    let Q : Option ℕ → Type 0 = λ found. Tells 14 found c.in_err-refuse-2.field-0.0 in
    rw (p.1, p.2) (in_symbol_section _ _ c.in_ok-header.ensures.ok segments (sym c.broken_section_table.ensures ∙ c.in_ok-refuse.ensures.holds) (subst Q c.broken_symbol_section.ensures c.in_err-refuse-2.ensures.broken))

pub read_symbol_sections-requires-clause-table : goal.read_symbol_sections-requires-clause-table
read_symbol_sections-requires-clause-table c = SectionsInside-from_rule _ (sym c.broken_section_table.ensures ∙ c.in_ok-refuse.ensures.holds)

pub returns-clause-ok : goal.returns-clause-ok
returns-clause-ok c =
    let are : c.as_slice.result.now ≡ segments_of c.args.bytes.now = search rules in
    let P : List Segment → Type 0 = λ s. AllHold (segment_rules (length c.args.bytes.now) s) in
    let segments : AllHold (segments_checked c.args.bytes.now) = subst P are c.in_ok-check_segments.ensures.ok in
    none_broken _ c.in_ok-header.ensures.ok segments (sym c.broken_section_table.ensures ∙ c.in_ok-refuse.ensures.holds) (sym c.broken_symbol_section.ensures ∙ c.in_ok-refuse-2.ensures.holds)
