use Rattle.std.proofs.Common.{◌≡◌, ℕ, ◌+◌, ◌-◌, ◌<◌, ◌≤◌, Bool, true, false, List, length, get_or, take, None, refl, sym, ap, ◌∙◌, arith}
use Rattle.std.specs.List.{find, list_any}
use Rattle.std.proofs.lemmas.List.{take_all, get_or_default}
use Rattle.vw_bits.specs.Rules.{with_earlier}
use Rattle.vw_bits.proofs.Tables.{find_earlier_more, find_earlier_here}
use Rattle.vw_layout.specs.Functions.{share_byte, first_overlap}
use Rattle.vw_layout.specs.declared.symbols.SymbolEntry.{SymbolEntry}
use Rattle.vw_layout.proofs.OverlapLemmas.{shares_last, shares_none, ends_more}
use Rattle.vw_layout.proofs.functions.first_overlap.Goals as goal

abbrev blank : SymbolEntry
blank = record { symbol = record { name = 0; info = 0; shndx = 0; value = 0; size = 0; at = 0 }; strings_at = 0; strings_size = 0 }

abbrev overlapping : List SymbolEntry × SymbolEntry → Bool
overlapping p = list_any (λ lower. share_byte lower p.1) p.0

pub returns-then-start-end : goal.returns-then-start-end
unfolding first_overlap
returns-then-start-end c =
    let xs = c.args.functions.now in
    let i = c.loop-function.function-index in
    let below : (get_or xs i blank).symbol.value < c.loop-function.end = c.if-start-end.true in
    let some : 0 < c.loop-function.end = omega (arith, below) in
    let last = c.loop-function.invariant.last blank some in
    let here : overlapping (take i xs, get_or xs i blank) ≡ true = shares_last xs i c.loop-function.end blank c.requires.rises c.loop-function-test.true last.0 last.1 below in
    let found = find_earlier_here overlapping xs i blank c.loop-function-test.true c.loop-function.invariant.none here in
    rw found refl

pub loop-function-preserved : goal.loop-function-preserved
loop-function-preserved c =
    let xs = c.args.functions.now in
    let i = c.loop-function.function-index in
    let inside = c.loop-function-test.true in
    let behind : c.loop-function.end ≤ (get_or xs i blank).symbol.value = c.if-start-end.false in
    let none : overlapping (take i xs, get_or xs i blank) ≡ false = shares_none (take i xs) c.loop-function.end (get_or xs i blank) c.loop-function.invariant.ends behind in
    record {
      ends = ends_more xs i c.loop-function.end blank inside c.loop-function.invariant.ends behind;
      last = λ d some. (omega arith, same xs i d inside);
      none = find_earlier_more overlapping xs i blank inside c.loop-function.invariant.none none;
    }
  where
    same : (xs : List SymbolEntry) (i : ℕ) (d : SymbolEntry) → i < length xs → (get_or xs i blank).symbol.value + (get_or xs i blank).symbol.size ≡ (get_or xs ((i + 1) - 1) d).symbol.value + (get_or xs ((i + 1) - 1) d).symbol.size
    same xs i d inside =
        let e : (i + 1) - 1 ≡ i = omega arith in
        rw (e, get_or_default xs i blank d inside) refl

pub returns : goal.returns
unfolding first_overlap
returns c =
    let xs = c.args.functions.now in
    let none : find overlapping (with_earlier xs) ≡ None = ap (λ (ys : List SymbolEntry). find overlapping (with_earlier ys)) (sym (take_all c.loop-function.function-index xs c.loop-function-test.false)) ∙ c.loop-function.invariant.none in
    rw none refl
