use Rattle.std.proofs.Common.{◌≡◌, length, Some, None, sym, ap, ◌∙◌, subst}
use Rattle.std.specs.List.{list_any}
use Rattle.vw_image.specs.declared.word.Word.{Word}
use Rattle.vw_image.specs.Image.{Contents, touches}
use Rattle.vw_image.specs.Index.{kind_at}
use Rattle.vw_image.specs.Words.{word_at, word_of_kind}
use Rattle.vw_image.specs.Laws.{IsNumbered}
use Rattle.vw_image.proofs.Relocations.{touches-any}
use Rattle.vw_image.proofs.Rules.{image-bounded, image-apart}
use Rattle.vw_image.proofs.Words.{exact, exact-some, exact-none, exact-other, word_at-exact, word_at-mixed, word_at-plain, word_at-outside, word_of_kind-numbered}
use Rattle.vw_image.proofs.image.Image.word_at.Goals as goal
use Rattle.vw_image.proofs.image.Image.word_at.Goals.{then-size-eq8+in_default, else-size-eq8}

pub returns-in-Some-clause-value : goal.returns-in-Some-clause-value
returns-in-Some-clause-value c =
    let image : Contents = record { bytes = c.self.inside.bytes; segments = c.self.inside.segments; relocations = c.self.inside.dynamic.relocations; imports = c.self.inside.dynamic.imports } in
    let found : kind_at image.relocations c.args.a ≡ Some c.in-Some.kind.now = sym (c.self.invariant.1 c.args.a) ∙ sym c.in-Some.ensures.value in
    c.word_of_kind.ensures ∙ word_at-exact image c.args.a c.args.size c.in-Some.kind.now (exact-some image c.args.a c.args.size c.in-Some.kind.now c.if-size-eq8.true found)
    ∙ ap (λ (i : Contents). word_at i c.args.a c.args.size) c.self.view_is

pub returns-in-Some-clause-numbered : goal.returns-in-Some-clause-numbered
returns-in-Some-clause-numbered c =
    let image : Contents = record { bytes = c.self.inside.bytes; segments = c.self.inside.segments; relocations = c.self.inside.dynamic.relocations; imports = c.self.inside.dynamic.imports } in
    let found : kind_at image.relocations c.args.a ≡ Some c.in-Some.kind.now = sym (c.self.invariant.1 c.args.a) ∙ sym c.in-Some.ensures.value in
    subst (λ (w : Word). IsNumbered (length c.args.self.now.imports) w) (sym c.word_of_kind.ensures)
    (subst (λ (i : Contents). IsNumbered (length i.imports) (word_of_kind c.in-Some.kind.now)) c.self.view_is (word_of_kind-numbered image c.args.a c.in-Some.kind.now c.self.invariant.0 found))

pub returns-then-touches-clause-value : goal.returns-then-touches-clause-value
returns-then-touches-clause-value c =
    let image : Contents = record { bytes = c.self.inside.bytes; segments = c.self.inside.segments; relocations = c.self.inside.dynamic.relocations; imports = c.self.inside.dynamic.imports } in
    let none : exact image c.args.a c.args.size ≡ None = elim c.if-size-eq8.branch [
      | then-size-eq8+in_default w ↦ exact-none image c.args.a c.args.size (sym (c.self.invariant.1 c.args.a) ∙ sym w.in_default.ensures.value)
      | else-size-eq8 w ↦ exact-other image c.args.a c.args.size w.if-size-eq8.false
    ] in
    let touched : c.touches.result ≡ list_any (touches c.args.a c.args.size) image.relocations = touches-any c.self.inside.places image.relocations c.args.a c.args.size c.touches.result c.self.invariant.1 c.touches.ensures.found c.touches.ensures.none in
    word_at-mixed image c.args.a c.args.size none (sym touched ∙ c.if-touches.true) ∙ ap (λ (i : Contents). word_at i c.args.a c.args.size) c.self.view_is

pub readable_number-requires-clause-bounded : goal.readable_number-requires-clause-bounded
readable_number-requires-clause-bounded c = rw (c.as_slice.ensures, c.as_slice-2.ensures) (image-bounded _ c.self.invariant.0)

pub readable_number-requires-clause-apart : goal.readable_number-requires-clause-apart
readable_number-requires-clause-apart c = rw c.as_slice-2.ensures (image-apart _ c.self.invariant.0)

pub returns-in-Some-readable_number-clause-value : goal.returns-in-Some-readable_number-clause-value
returns-in-Some-readable_number-clause-value c =
    let image : Contents = record { bytes = c.self.inside.bytes; segments = c.self.inside.segments; relocations = c.self.inside.dynamic.relocations; imports = c.self.inside.dynamic.imports } in
    let none : exact image c.args.a c.args.size ≡ None = elim c.if-size-eq8.branch [
      | then-size-eq8+in_default w ↦ exact-none image c.args.a c.args.size (sym (c.self.invariant.1 c.args.a) ∙ sym w.in_default.ensures.value)
      | else-size-eq8 w ↦ exact-other image c.args.a c.args.size w.if-size-eq8.false
    ] in
    let touched : c.touches.result ≡ list_any (touches c.args.a c.args.size) image.relocations = touches-any c.self.inside.places image.relocations c.args.a c.args.size c.touches.result c.self.invariant.1 c.touches.ensures.found c.touches.ensures.none in
    let is = rw (c.as_slice.ensures, c.as_slice-2.ensures) at c.in-Some-readable_number.ensures in
    word_at-plain image c.args.a c.args.size c.in-Some-readable_number.number none (sym touched ∙ c.if-touches.false) is ∙ ap (λ (i : Contents). word_at i c.args.a c.args.size) c.self.view_is

pub returns-in-None-clause-value : goal.returns-in-None-clause-value
returns-in-None-clause-value c =
    let image : Contents = record { bytes = c.self.inside.bytes; segments = c.self.inside.segments; relocations = c.self.inside.dynamic.relocations; imports = c.self.inside.dynamic.imports } in
    let none : exact image c.args.a c.args.size ≡ None = elim c.if-size-eq8.branch [
      | then-size-eq8+in_default w ↦ exact-none image c.args.a c.args.size (sym (c.self.invariant.1 c.args.a) ∙ sym w.in_default.ensures.value)
      | else-size-eq8 w ↦ exact-other image c.args.a c.args.size w.if-size-eq8.false
    ] in
    let touched : c.touches.result ≡ list_any (touches c.args.a c.args.size) image.relocations = touches-any c.self.inside.places image.relocations c.args.a c.args.size c.touches.result c.self.invariant.1 c.touches.ensures.found c.touches.ensures.none in
    let is = rw (c.as_slice.ensures, c.as_slice-2.ensures) at c.in-None.ensures in
    word_at-outside image c.args.a c.args.size none (sym touched ∙ c.if-touches.false) is ∙ ap (λ (i : Contents). word_at i c.args.a c.args.size) c.self.view_is
