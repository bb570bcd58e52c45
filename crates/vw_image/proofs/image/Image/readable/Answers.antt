use Rattle.std.proofs.Common.{◌≡◌, ℕ, ◌&&◌, Bool, true, false, not, List, Option, Some, None, is_some, option_copied, Bor, refl, sym, ap, ◌∙◌}
use Rattle.std.specs.List.{find, list_any}
use Rattle.vw_bits.specs.Headers.{is_readable}
use Rattle.vw_bits.specs.Places.{in_memory}
use Rattle.vw_bits.specs.declared.records.Segment.{Segment}
use Rattle.vw_image.specs.Image.{Contents, touches}
use Rattle.vw_image.specs.Index.{bound_ones}
use Rattle.vw_image.specs.Words.{in_readable, readable}
use Rattle.vw_bits.proofs.ListLemmas.{find-any}
use Rattle.vw_image.proofs.Relocations.{touches-any}
use Rattle.vw_image.proofs.image.Image.readable.Goals as goal

copied_some : (found : Option (Bor Segment)) → is_some (option_copied found) ≡ is_some found
copied_some None = refl
copied_some (Some s) = refl

inside : (a n : ℕ) (segments lent : List Segment) (found : Option (Bor Segment)) → lent ≡ segments → option_copied found ≡ find (λ s. is_readable s && in_memory a n s) lent → is_some found ≡ in_readable segments a n
inside a n segments lent found same is =
    sym (copied_some found) ∙ ap is_some is ∙ find-any (λ s. is_readable s && in_memory a n s) lent ∙ ap (λ (ss : List Segment). in_readable ss a n) same

apart : (image : Contents) (a n : ℕ) → false ≡ in_readable image.segments a n → false ≡ readable image a n
unfolding readable
apart image a n out = rw (← out) refl

within : (image : Contents) (a n : ℕ) (touched : Bool) → true ≡ in_readable image.segments a n → touched ≡ list_any (touches a n) (bound_ones image.relocations) → not touched ≡ readable image a n
unfolding readable
within image a n touched there is = rw (← there, ← is) refl

pub returns-then-is_some : goal.returns-then-is_some
returns-then-is_some c =
    let image : Contents = record { bytes = c.self.inside.bytes; segments = c.self.inside.segments; relocations = c.self.inside.dynamic.relocations; imports = c.self.inside.dynamic.imports } in
    let there : true ≡ in_readable image.segments c.args.a c.args.n = c.if-is_some.ensures ∙ inside c.args.a c.args.n image.segments c.as_slice.result.now c.readable_segment.result c.as_slice.ensures c.readable_segment.ensures in
    within image c.args.a c.args.n c.touches.result there
    (touches-any c.self.inside.bindings (bound_ones image.relocations) c.args.a c.args.n c.touches.result c.self.invariant.2 c.touches.ensures.found c.touches.ensures.none)
    ∙ ap (λ (i : Contents). readable i c.args.a c.args.n) c.self.view_is

pub returns-else-is_some : goal.returns-else-is_some
returns-else-is_some c =
    let image : Contents = record { bytes = c.self.inside.bytes; segments = c.self.inside.segments; relocations = c.self.inside.dynamic.relocations; imports = c.self.inside.dynamic.imports } in
    let out : false ≡ in_readable image.segments c.args.a c.args.n = c.if-is_some.ensures ∙ inside c.args.a c.args.n image.segments c.as_slice.result.now c.readable_segment.result c.as_slice.ensures c.readable_segment.ensures in
    c.if-is_some.false ∙ apart image c.args.a c.args.n out ∙ ap (λ (i : Contents). readable i c.args.a c.args.n) c.self.view_is
