use Rattle.std.proofs.Common.{◌≡◌, ◌<◌, ◌&&◌, ℕ, false, None, length, take, get_or}
use Rattle.std.specs.List.{find}
use Rattle.vw_bits.specs.Rules.{with_earlier}
use Rattle.vw_dynamic.specs.Entries.{is_single, stands_in}
use Rattle.vw_dynamic.proofs.entries.first_repeated.Given as goal

abbrev pub invariant-loop-entry : goal.invariant-loop-entry
invariant-loop-entry l = record {
  size : length l.seen ≡ 25;
  tags : (t : ℕ) → t < 24 → get_or l.seen t false ≡ stands_in t (take l.entry-index l.entries);
  none : find (λ p. is_single p.1.tag && stands_in p.1.tag p.0) (with_earlier (take l.entry-index l.entries)) ≡ None;
}
