use Rattle.std.proofs.Common.{◌≡◌, ◌<◌, ◌+◌, ◌*◌, Bool, true, false, not, ◌&&◌, refl, sym, ◌∙◌, arith}
use Rattle.vw_bits.specs.Headers.{e_shoff, e_shnum, section_headers}
use Rattle.vw_bits.specs.HeaderRules.{is_symbol_section, symbol_section_fits, symbol_section_rule}
use Rattle.vw_bits.proofs.Tables.{table-none}
use Rattle.vw_bits.proofs.RuleLemmas.{find_none_at, has_strings-link, has_strings-from_fits}
use Rattle.vw_elf.specs.SymbolSections.{symbol_section_at, symbol_sections}
use Rattle.vw_elf.proofs.KeptLemmas.{kept_some, kept_none}
use Rattle.vw_elf.proofs.sections.read_symbol_sections.Goals as goal
use Rattle.vw_elf.proofs.sections.read_symbol_sections.Goals.{in-Some+in_ok-push, in_default}

fits_from_test : (kind fits : Bool) → kind ≡ true → (kind && not fits) ≡ false → fits ≡ true
fits_from_test true true is none = refl
fits_from_test true false is none = cc
fits_from_test false fits is none = cc

pub loop-index-init : goal.loop-index-init
loop-index-init c = rw table-none c.new-sections.ensures

pub symbol_section_at-requires-clause-link : goal.symbol_section_at-requires-clause-link
unfolding symbol_section_rule section_headers
symbol_section_at-requires-clause-link c kind =
    let bytes = c.args.bytes.now in
    let at = c.args.header.now.e_shoff + 64 * c.loop-index.index in
    let inside : c.loop-index.index < e_shnum bytes = rw (← c.requires.header.shnum) c.loop-index-test.true in
    let passes : (is_symbol_section bytes at && not (symbol_section_fits bytes at)) ≡ false =
    rw c.requires.header.shoff (find_none_at _ (e_shoff bytes) 64 _ _ c.requires.whole inside) in
    has_strings-link bytes at (has_strings-from_fits bytes at (fits_from_test _ _ kind passes))

pub loop-index-preserved : goal.loop-index-preserved
loop-index-preserved c =
    let bytes = c.args.bytes.now in
    let at = c.args.header.now.e_shoff + 64 * c.loop-index.index in
    let place : at ≡ e_shoff bytes + 64 * c.loop-index.index = rw c.requires.header.shoff refl in
    elim c.match-symbol_section_at.branch [
      | in-Some+in_ok-push w ↦
          kept_some (symbol_section_at bytes) (is_symbol_section bytes) _ 64 _ at w.in-Some.section _ _ place c.loop-index.invariant w.in-Some.ensures (w.sections-is ∙ w.in_ok-push.ensures.ok)
      | in_default w ↦
          rw w.sections-is (kept_none (symbol_section_at bytes) (is_symbol_section bytes) _ 64 _ at _ place c.loop-index.invariant (sym w.in_default.is ∙ c.symbol_section_at.ensures))
    ]

pub returns : goal.returns
unfolding symbol_sections section_headers
returns c =
    let all : c.loop-index.index ≡ c.args.header.now.e_shnum = omega arith in
    rw (← c.requires.header.shnum, ← all) c.loop-index.invariant
