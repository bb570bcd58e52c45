use Rattle.std.proofs.Common.{◌≡◌, ℕ, arith, ap, sym, ◌∙◌, nat_eq}
use Rattle.std.proofs.lemmas.Nat.Bits.{bit_at_above}
use Rattle.std.specs.Int.{bit_at}
use Rattle.std.proofs.lemmas.Bool.{le-ltb}
use Rattle.vw_domain.proofs.edge_tags.is_in.Goals as goal

pub returns-else-table-lt64 : goal.returns-else-table-lt64
returns-else-table-lt64 c =
    let none : bit_at c.args.tables c.args.table ≡ 0 = bit_at_above c.args.tables 64 c.args.table (omega arith) c.if-table-lt64.false in
    le-ltb c.args.table 64 c.if-table-lt64.false ∙ sym (ap (λ (n : ℕ). nat_eq n 1) none)
