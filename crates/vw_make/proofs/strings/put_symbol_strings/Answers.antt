use Rattle.std.proofs.Common.{◌≡◌, ◌∙◌, true, false, not, ℕ, List, Option, length, ap, sym, eqb}
use Rattle.vw_make.specs.Layout.{has_table}
use Rattle.vw_make.proofs.Steps.{names_with, names_without}
use Rattle.vw_make.proofs.strings.put_symbol_strings.Goals as goal

pub returns-then-is_empty : goal.returns-then-is_empty
returns-then-is_empty c =
    let none : has_table c.args.plan.now.parts.now ≡ false = sym (ap not (c.if-is_empty.ensures ∙ ap (λ (tables : List (List (ℕ × Option ℕ))). eqb (length tables) 0) c.as_slice-tables.ensures)) in
    rw (c.in_ok-put_function_names.ensures, c.in_ok-put.ensures, c.as_slice.ensures) (names_without c.args.plan.now.parts.now c.args.out.now.items none)

pub returns : goal.returns
returns c =
    let some : has_table c.args.plan.now.parts.now ≡ true = sym (ap not (c.if-is_empty.ensures ∙ ap (λ (tables : List (List (ℕ × Option ℕ))). eqb (length tables) 0) c.as_slice-tables.ensures)) in
    rw (c.in_ok-put_string.ensures, c.in_ok-put_function_names.ensures, c.in_ok-put.ensures, c.as_slice.ensures) (names_with c.args.plan.now.parts.now c.args.out.now.items some)
