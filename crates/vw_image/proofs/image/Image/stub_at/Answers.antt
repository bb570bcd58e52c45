use Rattle.std.proofs.Common.{sym, ap, ◌∙◌}
use Rattle.vw_image.specs.declared.word.Word.{Word}
use Rattle.vw_image.specs.Image.{Contents}
use Rattle.vw_image.specs.Words.{word_at}
use Rattle.vw_image.specs.Stubs.{stub_to, stub_at}
use Rattle.vw_image.proofs.Rules.{image-bounded, image-apart}
use Rattle.vw_image.proofs.Stubs.{no_stub, stub_through}
use Rattle.vw_image.proofs.image.Image.stub_at.Goals as goal

pub slot_at-requires-clause-bounded : goal.slot_at-requires-clause-bounded
slot_at-requires-clause-bounded c = rw (c.as_slice.ensures, c.as_slice-2.ensures) (image-bounded _ c.self.invariant.0)

pub slot_at-requires-clause-apart : goal.slot_at-requires-clause-apart
slot_at-requires-clause-apart c = rw c.as_slice-2.ensures (image-apart _ c.self.invariant.0)

pub returns-in_err-slot-clause-value : goal.returns-in_err-slot-clause-value
returns-in_err-slot-clause-value c =
    let image : Contents = record { bytes = c.self.inside.bytes; segments = c.self.inside.segments; relocations = c.self.inside.dynamic.relocations; imports = c.self.inside.dynamic.imports } in
    let none = rw (c.as_slice.ensures, c.as_slice-2.ensures) at c.in_err-slot.ensures in
    c.from_residual.ensures ∙ no_stub image c.args.a none ∙ ap (λ (i : Contents). stub_at i c.args.a) c.self.view_is

pub returns-clause-value : goal.returns-clause-value
returns-clause-value c =
    let image : Contents = record { bytes = c.self.inside.bytes; segments = c.self.inside.segments; relocations = c.self.inside.dynamic.relocations; imports = c.self.inside.dynamic.imports } in
    let some = rw (c.as_slice.ensures, c.as_slice-2.ensures) at c.in_ok-slot.ensures in
    c.stub_to.ensures ∙ ap (λ (w : Word). stub_to c.in_ok-slot.slot w) c.word_at.ensures.value
    ∙ ap (λ (i : Contents). stub_to c.in_ok-slot.slot (word_at i c.in_ok-slot.slot 8)) (sym c.self.view_is)
    ∙ stub_through image c.args.a c.in_ok-slot.slot some ∙ ap (λ (i : Contents). stub_at i c.args.a) c.self.view_is
