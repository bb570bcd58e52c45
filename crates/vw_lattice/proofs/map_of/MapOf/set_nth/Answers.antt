use Rattle.std.proofs.Common.{◌≡◌, ◌<◌, ℕ, zero, suc, List, [], ◌∷◌, length, get_or, set, ap, ◌∙◌, arith}
use Rattle.std.specs.Prelude.{ℤ}
use Rattle.vw_lattice.specs.Entries.{with_value}
use Rattle.vw_lattice.specs.EntryOrder.{ascending_set}
use Rattle.vw_lattice.proofs.map_of.MapOf.set_nth.Goals as goal

set_is : {V : Type 0} (entries : List (ℤ × V)) (i : ℕ) (key : ℤ) (d : ℤ × V) (value : V) → i < length entries → key ≡ (get_or entries i d).0 → set entries i (key, value) ≡ with_value entries i value
set_is [] i key d value within same = absurd (omega arith)
set_is {V} (entry ∷ rest) zero key d value within same = ap (λ (k : ℤ). (k, value) ∷ rest) same
set_is {V} (entry ∷ rest) (suc i) key d value within same =
    ap (λ (es : List (ℤ × V)). entry ∷ es) (set_is rest i key d value (omega arith) same)

pub invariant_of-self : goal.invariant_of-self
invariant_of-self g c =
    let size : length c.self.inside.entries.items ≡ length c.args.self.now = ap length c.self.view_is in
    ascending_set c.self.inside.entries.items c.args.i c.index_mut.result.now (c.index_mut.result.now.0, c.args.value) (omega arith) (ap (λ (e : ℤ × g.row.V.Denot). e.0) c.index_mut.ensures.value) c.self.invariant

pub returns : goal.returns
returns g c =
    let size : length c.self.inside.entries.items ≡ length c.args.self.now = ap length c.self.view_is in
    set_is c.self.inside.entries.items c.args.i c.index_mut.result.now.0 c.index_mut.result.now c.args.value (omega arith) (ap (λ (e : ℤ × g.row.V.Denot). e.0) c.index_mut.ensures.value)
    ∙ ap (λ (es : List (ℤ × g.row.V.Denot)). with_value es c.args.i c.args.value) c.self.view_is
