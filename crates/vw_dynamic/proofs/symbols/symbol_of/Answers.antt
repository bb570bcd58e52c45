use Rattle.std.proofs.Common.{◌≡◌, ℕ, ◌+◌, ◌*◌, ◌≤◌, ◌==◌, List, Option, Some, None, option_map, refl, sym, ap, ◌∙◌, arith, false}
use Rattle.std.proofs.lemmas.Bool.Decides.{nat_tests}
use Rattle.vw_bits.specs.Symbols.{symbol_at}
use Rattle.vw_bits.specs.declared.records.Segment.{Segment}
use Rattle.vw_bits.specs.declared.records.Symbol.{Symbol}
use Rattle.vw_bits.specs.Bounds.{AreBounded}
use Rattle.vw_dynamic.specs.Targets.{symbol_of, symbol_offset}
use Rattle.vw_bits.proofs.BoundLemmas.{file_offset-inside}
use Rattle.vw_dynamic.proofs.symbols.symbol_of.Goals as goal

some_case : (bytes : List ℕ) (segments : List Segment) (symtab : Option ℕ) (index : ℕ) → (index ≡ 0 → ⊥) → symbol_of bytes segments symtab index ≡ option_map (symbol_at bytes) (symbol_offset segments symtab index)
unfolding symbol_of
some_case bytes segments symtab index some =
    let test : (index == 0) ≡ false = grind (arith, nat_tests) in
    rw test refl

inside : (len : ℕ) (segments : List Segment) (symtab : Option ℕ) (index at : ℕ) → AreBounded len segments → symbol_offset segments symtab index ≡ Some at → at + 24 ≤ len
inside len segments None index at bounded is = cc
inside len segments (Some first) index at bounded is = file_offset-inside len segments (first + 24 * index) 24 at bounded is

pub returns-then-index-eq0 : goal.returns-then-index-eq0
unfolding symbol_of
returns-then-index-eq0 c = rw c.if-index-eq0.true refl

pub returns-in_err-at : goal.returns-in_err-at
returns-in_err-at c = c.from_residual.ensures ∙ sym (some_case _ _ _ _ c.if-index-eq0.false ∙ ap (option_map (symbol_at c.args.bytes.now)) (sym c.in_err-at.ensures))

pub read-requires : goal.read-requires
read-requires c = inside _ _ _ _ _ c.requires.inside (sym c.in_ok-at.ensures)

pub returns : goal.returns
returns c = ap (λ (s : Symbol). Some s) c.read.ensures ∙ sym (some_case _ _ _ _ c.if-index-eq0.false ∙ ap (option_map (symbol_at c.args.bytes.now)) (sym c.in_ok-at.ensures))
