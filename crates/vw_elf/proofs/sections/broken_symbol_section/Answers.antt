use Rattle.std.proofs.Common.{◌≡◌, ◌<◌, ◌+◌, ◌*◌, refl, sym, ◌∙◌, arith}
use Rattle.vw_bits.specs.Headers.{e_shoff, e_shnum, section_headers}
use Rattle.vw_bits.specs.HeaderRules.{symbol_section_rule}
use Rattle.vw_bits.proofs.Tables.{table-none, find_table_more, find_table_here}
use Rattle.vw_elf.proofs.sections.broken_symbol_section.Goals as goal

pub loop-index-init : goal.loop-index-init
loop-index-init c = rw table-none refl

pub returns-then-is_broken : goal.returns-then-is_broken
unfolding symbol_section_rule section_headers
returns-then-is_broken c =
    let at = c.args.header.now.e_shoff + 64 * c.loop-index.index in
    let place : at ≡ e_shoff c.args.bytes.now + 64 * c.loop-index.index = rw c.requires.header.shoff refl in
    let inside : c.loop-index.index < e_shnum c.args.bytes.now = rw (← c.requires.header.shnum) c.loop-index-test.true in
    sym (find_table_here _ _ 64 c.loop-index.index _ at inside place c.loop-index.invariant (sym c.is_broken.ensures ∙ c.if-is_broken.true))

pub loop-index-preserved : goal.loop-index-preserved
loop-index-preserved c =
    let at = c.args.header.now.e_shoff + 64 * c.loop-index.index in
    let place : at ≡ e_shoff c.args.bytes.now + 64 * c.loop-index.index = rw c.requires.header.shoff refl in
    find_table_more _ _ 64 c.loop-index.index at place c.loop-index.invariant (sym c.is_broken.ensures ∙ c.if-is_broken.false)

pub returns : goal.returns
unfolding symbol_section_rule section_headers
returns c =
    let all : c.loop-index.index ≡ c.args.header.now.e_shnum = omega arith in
    rw (← c.requires.header.shnum, ← all) (sym c.loop-index.invariant)
