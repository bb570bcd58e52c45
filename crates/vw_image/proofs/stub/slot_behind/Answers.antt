use Rattle.std.proofs.Common.{◌≡◌, ℕ, ◌+◌, ◌<◌, ◌≤◌, ◌^◌, ◌%◌, length, true, sym, ap, ◌∙◌, rules, arith}
use Rattle.vw_bits.specs.Places.{in_memory}
use Rattle.vw_bits.specs.declared.records.Segment.{Segment}
use Rattle.vw_bits.specs.Bounds.{IsBounded}
use Rattle.vw_bits.proofs.ListLemmas.{find-holds}
use Rattle.vw_bits.proofs.BoundLemmas.{among}
use Rattle.vw_image.proofs.Stubs.{holds, held_by, front_held, back_held, no_segment, other_bytes, these_bytes}
use Rattle.vw_image.proofs.stub.slot_behind.Goals as goal

ends : (len a n : ℕ) (s : Segment) → IsBounded len s → in_memory a (n + 4) s ≡ true → a + n + 4 ≤ 2 ^ 31
ends len a n s bounded held =
    let p : (s.vaddr ≤ a) × (a < s.vaddr + s.memsz) × (a + (n + 4) ≤ s.vaddr + s.memsz) = among s.vaddr s.memsz a (n + 4) held in
    let below : s.vaddr + s.memsz ≤ 2 ^ 31 = bounded.below in
    omega arith

pub returns-in_err-segment : goal.returns-in_err-segment
returns-in_err-segment c = c.from_residual.ensures ∙ no_segment c.args.bytes.now c.args.segments.now c.args.address c.args.opcode.now c.in_err-segment.ensures

pub spells-requires-clause-bounded : goal.spells-requires-clause-bounded
spells-requires-clause-bounded c = find-holds (IsBounded (length c.args.bytes.now)) (holds c.args.address (length c.args.opcode.now + 4)) c.args.segments.now c.in_ok-segment.segment.now c.requires.bounded (sym c.in_ok-segment.ensures)

pub spells-requires-clause-held : goal.spells-requires-clause-held
spells-requires-clause-held c =
    front_held c.args.address (length c.args.opcode.now) 4 c.in_ok-segment.segment.now (held_by c.args.segments.now c.args.address (length c.args.opcode.now + 4) c.in_ok-segment.segment.now c.in_ok-segment.ensures)

pub returns-then-not-spells : goal.returns-then-not-spells
returns-then-not-spells c = other_bytes c.args.bytes.now c.args.segments.now c.args.address c.args.opcode.now c.in_ok-segment.segment.now c.requires.apart c.in_ok-segment.ensures c.if-not-spells.ensures

pub overflow_add-address : goal.overflow_add-address
overflow_add-address c =
    let s = c.in_ok-segment.segment.now in
    let n = length c.args.opcode.now in
    let bounded : IsBounded (length c.args.bytes.now) s = find-holds (IsBounded (length c.args.bytes.now)) (holds c.args.address (n + 4)) c.args.segments.now s c.requires.bounded (sym c.in_ok-segment.ensures) in
    let end : c.args.address + n + 4 ≤ 2 ^ 31 = ends (length c.args.bytes.now) c.args.address n s bounded (held_by c.args.segments.now c.args.address (n + 4) s c.in_ok-segment.ensures) in
    search rules

pub number_in-displacement-requires-clause-bounded : goal.number_in-displacement-requires-clause-bounded
number_in-displacement-requires-clause-bounded c = find-holds (IsBounded (length c.args.bytes.now)) (holds c.args.address (length c.args.opcode.now + 4)) c.args.segments.now c.in_ok-segment.segment.now c.requires.bounded (sym c.in_ok-segment.ensures)

pub number_in-displacement-requires-clause-held : goal.number_in-displacement-requires-clause-held
number_in-displacement-requires-clause-held c =
    back_held c.args.address (length c.args.opcode.now) 4 c.in_ok-segment.segment.now (omega arith) (held_by c.args.segments.now c.args.address (length c.args.opcode.now + 4) c.in_ok-segment.segment.now c.in_ok-segment.ensures)

pub overflow_add-next : goal.overflow_add-next
overflow_add-next c =
    let s = c.in_ok-segment.segment.now in
    let n = length c.args.opcode.now in
    let bounded : IsBounded (length c.args.bytes.now) s = find-holds (IsBounded (length c.args.bytes.now)) (holds c.args.address (n + 4)) c.args.segments.now s c.requires.bounded (sym c.in_ok-segment.ensures) in
    let end : c.args.address + n + 4 ≤ 2 ^ 31 = ends (length c.args.bytes.now) c.args.address n s bounded (held_by c.args.segments.now c.args.address (n + 4) s c.in_ok-segment.ensures) in
    search rules

pub overflow_add-next-2 : goal.overflow_add-next-2
overflow_add-next-2 c =
    let s = c.in_ok-segment.segment.now in
    let n = length c.args.opcode.now in
    let bounded : IsBounded (length c.args.bytes.now) s = find-holds (IsBounded (length c.args.bytes.now)) (holds c.args.address (n + 4)) c.args.segments.now s c.requires.bounded (sym c.in_ok-segment.ensures) in
    let end : c.args.address + n + 4 ≤ 2 ^ 31 = ends (length c.args.bytes.now) c.args.address n s bounded (held_by c.args.segments.now c.args.address (n + 4) s c.in_ok-segment.ensures) in
    search rules

pub returns : goal.returns
returns c =
    these_bytes c.args.bytes.now c.args.segments.now c.args.address c.args.opcode.now c.in_ok-segment.segment.now c.requires.apart c.in_ok-segment.ensures
    c.number_in-displacement.result c.sum.result c.if-not-spells.ensures c.number_in-displacement.ensures
    (c.sum.ensures ∙ ap (λ (d : ℕ). (c.args.address + length c.args.opcode.now + 4 + d) % 2 ^ 64) c.sign_extend.ensures)
