use Rattle.std.proofs.Common.{◌≡◌, ℕ, ◌==◌, ◌+◌, ◌*◌, Bool, refl, sym, ◌∙◌, arith}
use Rattle.vw_bits.specs.Headers.{p_type, e_phoff, segment_at, dyn_header_at, program_headers, segments_of, dynamics_of}
use Rattle.vw_bits.proofs.Tables.{table-none}
use Rattle.vw_elf.proofs.KeptLemmas.{kept_some, kept_none}
use Rattle.vw_elf.proofs.segments.read_program_headers.Goals as goal
use Rattle.vw_elf.proofs.segments.read_program_headers.Goals.{in-Some+in_ok-push, in_default, in-Some-dyn_header_at+in_ok-push-2, in_default-dyn_header_at}

pub loop-index-init : goal.loop-index-init
loop-index-init c = record { segments = rw table-none c.new-segments.ensures; dynamics = rw table-none c.new-dynamics.ensures }

pub loop-index-preserved : goal.loop-index-preserved
loop-index-preserved c =
    let bytes = c.args.bytes.now in
    let at = c.args.header.now.e_phoff + 56 * c.loop-index.index in
    let place : at ≡ e_phoff bytes + 56 * c.loop-index.index = rw c.requires.header.phoff refl in
    let is_segment : ℕ → Bool = λ at. p_type bytes at == 1 in
    let is_dynamic : ℕ → Bool = λ at. p_type bytes at == 2 in
    record {
      segments =
          elim c.match-segment_at.branch [
            | in-Some+in_ok-push w ↦
                kept_some (segment_at bytes) is_segment _ 56 _ at w.in-Some.segment _ _ place c.loop-index.invariant.segments w.in-Some.ensures (w.segments-is ∙ w.in_ok-push.ensures.ok)
            | in_default w ↦
                rw w.segments-is (kept_none (segment_at bytes) is_segment _ 56 _ at _ place c.loop-index.invariant.segments (sym w.in_default.is ∙ c.segment_at.ensures))
          ];
      dynamics =
          elim c.match-dyn_header_at.branch [
            | in-Some-dyn_header_at+in_ok-push-2 w ↦
                kept_some (dyn_header_at bytes) is_dynamic _ 56 _ at w.in-Some-dyn_header_at.dynamic _ _ place c.loop-index.invariant.dynamics w.in-Some-dyn_header_at.ensures (w.dynamics-is ∙ w.in_ok-push-2.ensures.ok)
            | in_default-dyn_header_at w ↦
                rw w.dynamics-is (kept_none (dyn_header_at bytes) is_dynamic _ 56 _ at _ place c.loop-index.invariant.dynamics (sym w.in_default-dyn_header_at.is ∙ c.dyn_header_at.ensures))
          ];
    }

pub returns-clause-segments : goal.returns-clause-segments
unfolding segments_of program_headers
returns-clause-segments c =
    let all : c.loop-index.index ≡ c.args.header.now.e_phnum = omega arith in
    rw (← c.requires.header.phnum, ← all) c.loop-index.invariant.segments

pub returns-clause-dynamics : goal.returns-clause-dynamics
unfolding dynamics_of program_headers
returns-clause-dynamics c =
    let all : c.loop-index.index ≡ c.args.header.now.e_phnum = omega arith in
    rw (← c.requires.header.phnum, ← all) c.loop-index.invariant.dynamics
