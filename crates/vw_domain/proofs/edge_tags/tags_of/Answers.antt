use Rattle.std.proofs.Common.{◌-◌, ◌^◌, Bool, refl, sym, ap, subst, ◌∙◌, arith}
use Rattle.std.proofs.lemmas.Bool.{lt-ltb, le-ltb}
use Rattle.std.specs.Prelude.{◌&&◌, replicate}
use Rattle.vw_domain.specs.declared.edge_tags.Tags.{Tags}
use Rattle.vw_domain.specs.declared.parts.Parts.{Parts}
use Rattle.vw_domain.specs.declared.refines.Comparison.{Comparison}
use Rattle.vw_domain.specs.Refines.{is_told_by, AreTags}
use Rattle.vw_domain.proofs.TagSets.{none_told}
use Rattle.vw_domain.proofs.edge_tags.tags_of.Goals as goal

pub returns-in-Below : goal.returns-in-Below
returns-in-Below c =
    let s : Parts = c.args.parts.now in
    let tags : Tags = record { tag = c.in-Below.k; tables = replicate 16 0 } in
    subst (λ (x : Comparison). AreTags s x tags) (sym c.in-Below.is) (record { tag = refl; told = λ r t. none_told r t })

pub returns-then-k-lt-EMPTY : goal.returns-then-k-lt-EMPTY
returns-then-k-lt-EMPTY c =
    let s : Parts = c.args.parts.now in
    let tags : Tags = record { tag = c.in-Equal.k; tables = c.told_tables-tables.result } in
    subst (λ (x : Comparison). AreTags s x tags) (sym c.in-Equal.is)
    (record { tag = refl; told = λ r t. c.told_tables-tables.ensures r t ∙ sym (ap (λ (b : Bool). b && is_told_by s r t) (lt-ltb c.in-Equal.k (2 ^ 32 - 1) (omega arith))) })

pub returns-else-k-lt-EMPTY : goal.returns-else-k-lt-EMPTY
returns-else-k-lt-EMPTY c =
    let s : Parts = c.args.parts.now in
    let tags : Tags = record { tag = c.in-Equal.k; tables = replicate 16 0 } in
    subst (λ (x : Comparison). AreTags s x tags) (sym c.in-Equal.is)
    (record { tag = refl; told = λ r t. none_told r t ∙ sym (ap (λ (b : Bool). b && is_told_by s r t) (le-ltb c.in-Equal.k (2 ^ 32 - 1) (omega arith))) })
