use Rattle.std.proofs.Common.{◌≡◌, ℕ, ◌+◌, ◌*◌, ◌/◌, ◌<◌, true, false, List, map, Some, None, refl, sym, ap, ◌∙◌, arith}
use Rattle.std.specs.List.{list_any}
use Rattle.std.proofs.lemmas.List.{map-append}
use Rattle.std.proofs.lemmas.List.Folds.{list_any-append}
use Rattle.std.proofs.lemmas.Bool.Decides.{nat_tests}
use Rattle.vw_bits.specs.Headers.{table}
use Rattle.vw_bits.proofs.Tables.{table-none, table-more}
use Rattle.vw_dynamic.specs.Entries.{entry_at, is_null, whole_entries, ended_entries}
use Rattle.vw_dynamic.specs.declared.entries.Entry.{Entry}
use Rattle.vw_bits.proofs.ListLemmas.{before_first-here, before_first-none}
use Rattle.vw_bits.proofs.Tables.{table-at}
use Rattle.vw_dynamic.proofs.entries.read_entries.Goals as goal

null : (e : Entry) → e.tag ≡ 0 → is_null e ≡ true
null e is = grind (arith, nat_tests)

not_null : (e : Entry) → (e.tag ≡ 0 → ⊥) → is_null e ≡ false
not_null e is = grind (arith, nat_tests)

ended : (bytes : List ℕ) (start size index : ℕ) → index < size / 16 → list_any is_null (map (entry_at bytes) (table start 16 index)) ≡ false → is_null (entry_at bytes (start + 16 * index)) ≡ true → ended_entries bytes start size ≡ Some (map (entry_at bytes) (table start 16 index))
unfolding ended_entries whole_entries
ended bytes start size index inside before here =
    let split = table-at start 16 index (size / 16) inside in
    rw (split.1, map-append) (before_first-here is_null (map (entry_at bytes) (table start 16 index)) (entry_at bytes (start + 16 * index)) _ before here)

pub loop-index-init : goal.loop-index-init
loop-index-init c = record { read = rw table-none c.new-entries.ensures.items; before = rw table-none refl }

pub returns-then-entry-eq-DT_NULL : goal.returns-then-entry-eq-DT_NULL
returns-then-entry-eq-DT_NULL c =
    let here : is_null (entry_at c.args.bytes.now (c.args.start + 16 * c.loop-index.index)) ≡ true = rw (← c.entry_at-entry.ensures) (null c.entry_at-entry.result c.if-entry-eq-DT_NULL.true) in
    ap (λ (xs : List Entry). Some xs) c.loop-index.invariant.read ∙ sym (ended _ _ _ _ c.loop-index-test.true c.loop-index.invariant.before here)

pub loop-index-preserved : goal.loop-index-preserved
loop-index-preserved c = record {
  read = rw (table-more, map-append, ← c.loop-index.invariant.read, ← c.entry_at-entry.ensures) c.in_ok-push.ensures.items;
  before =
      let here : is_null (entry_at c.args.bytes.now (c.args.start + 16 * c.loop-index.index)) ≡ false = rw (← c.entry_at-entry.ensures) (not_null c.entry_at-entry.result c.if-entry-eq-DT_NULL.false) in
      rw (table-more, map-append, list_any-append, c.loop-index.invariant.before, here) refl;
}

none_ends : (bytes : List ℕ) (start size index : ℕ) → index ≡ size / 16 → list_any is_null (map (entry_at bytes) (table start 16 index)) ≡ false → ended_entries bytes start size ≡ None
unfolding ended_entries whole_entries
none_ends bytes start size index all before =
    let whole = rw all at before in
    before_first-none is_null (map (entry_at bytes) (table start 16 (size / 16))) whole

pub returns : goal.returns
returns c =
    let all : c.loop-index.index ≡ c.args.size / 16 = omega arith in
    sym (none_ends _ _ _ _ all c.loop-index.invariant.before)
