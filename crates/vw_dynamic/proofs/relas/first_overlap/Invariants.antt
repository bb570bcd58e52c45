use Rattle.std.proofs.Common.{◌≡◌, ◌&&◌, not, take, None}
use Rattle.std.specs.List.{find, list_any}
use Rattle.std.specs.BTreeMap.{get}
use Rattle.std.specs.Ordering.{nat_cmp}
use Rattle.vw_bits.specs.Rules.{with_earlier}
use Rattle.vw_dynamic.specs.Relas.{is_none_kind, share_byte}
use Rattle.vw_dynamic.proofs.OverlapLemmas.{IsIndex, places_of}
use Rattle.vw_dynamic.proofs.relas.first_overlap.Given as goal

abbrev pub invariant-loop-rela : goal.invariant-loop-rela
invariant-loop-rela l = record {
  index : IsIndex (get nat_cmp l.places) (places_of (take l.rela-index l.relas));
  none : find (λ p. not (is_none_kind p.1) && list_any (λ e. not (is_none_kind e) && share_byte e.place p.1.place) p.0) (with_earlier (take l.rela-index l.relas)) ≡ None;
}
