use Rattle.std.proofs.Common.{◌≡◌, ℕ, ◌++◌, Bool, List, map, sym, ◌∙◌, arith}
use Rattle.std.specs.List.{filter}
use Rattle.vw_bits.specs.Headers.{table}
use Rattle.vw_layout.specs.declared.symbols.SymbolEntry.{SymbolEntry}
use Rattle.std.proofs.lemmas.List.{append-nil}
use Rattle.vw_bits.proofs.Tables.{table-none}
use Rattle.vw_layout.specs.Symbols.{entry_at, has_role, section_symbols}
use Rattle.vw_layout.proofs.SymbolLemmas.{read_push, read_skip}
use Rattle.vw_layout.proofs.symbols.append_section.Goals as goal
use Rattle.vw_layout.proofs.symbols.append_section.Goals.{then-has_role+in_ok-push, else-has_role}

pub loop-index-init : goal.loop-index-init
loop-index-init c = rw (table-none, append-nil)

pub loop-index-preserved : goal.loop-index-preserved
loop-index-preserved c =
    let f = entry_at c.args.bytes.now c.args.section.now in
    let p = has_role c.args.bytes.now c.args.role in
    elim c.if-has_role.branch [
      | then-has_role+in_ok-push w ↦
          rw w.symbols-is (read_push f p c.args.section.now.offset 24 c.loop-index.index _ _ _ _ c.entry_at-entry.ensures c.loop-index.invariant (sym c.has_role.ensures ∙ w.if-has_role.true) w.in_ok-push.ensures.items)
      | else-has_role w ↦
          rw w.symbols-is (read_skip f p c.args.section.now.offset 24 c.loop-index.index _ _ _ c.entry_at-entry.ensures c.loop-index.invariant (sym c.has_role.ensures ∙ w.if-has_role.false))
    ]

at_end : (f : ℕ → SymbolEntry) (p : SymbolEntry → Bool) (at n count : ℕ) (before kept : List SymbolEntry) → n ≡ count → kept ≡ before ++ filter p (map f (table at 24 n)) → kept ≡ before ++ filter p (map f (table at 24 count))
at_end f p at n count before kept all so_far = rw (← all) so_far

pub returns : goal.returns
unfolding section_symbols
returns c =
    let all : c.loop-index.index ≡ c.args.section.now.count = omega arith in
    at_end _ _ _ _ _ _ _ all c.loop-index.invariant
