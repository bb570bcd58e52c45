use Rattle.std.proofs.Common.{◌≡◌, ◌==◌, map}
use Rattle.std.specs.List.{filter}
use Rattle.vw_bits.specs.Headers.{table, p_type, e_phoff, segment_at, dyn_header_at}
use Rattle.vw_elf.proofs.segments.read_program_headers.Given as goal

abbrev pub invariant-loop-index : goal.invariant-loop-index
invariant-loop-index l = record {
  segments : l.segments ≡ map (segment_at l.bytes) (filter (λ header. p_type l.bytes header == 1) (table (e_phoff l.bytes) 56 l.index));
  dynamics : l.dynamics ≡ map (dyn_header_at l.bytes) (filter (λ header. p_type l.bytes header == 2) (table (e_phoff l.bytes) 56 l.index));
}
