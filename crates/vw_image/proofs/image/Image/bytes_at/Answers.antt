use Rattle.std.proofs.Common.{◌≡◌, ℕ, List, take, drop, Option, option_map, ap, ◌∙◌}
use Rattle.vw_bits.specs.Places.{file_offset}
use Rattle.vw_image.specs.Image.{Contents}
use Rattle.vw_image.specs.Words.{bytes_at}
use Rattle.vw_image.proofs.Rules.{image-bounded}
use Rattle.vw_image.proofs.image.Image.bytes_at.Goals as goal

lent : (image : Contents) (a n : ℕ) (found : Option (List ℕ)) → found ≡ option_map (λ at. take n (drop at image.bytes)) (file_offset image.segments a n) → found ≡ bytes_at image a n
unfolding bytes_at
lent image a n found is = is

pub file_bytes-requires : goal.file_bytes-requires
file_bytes-requires c = rw (c.as_slice.ensures, c.as_slice-2.ensures) (image-bounded _ c.self.invariant.0)

pub returns : goal.returns
returns c =
    let image : Contents = record { bytes = c.self.inside.bytes; segments = c.self.inside.segments; relocations = c.self.inside.dynamic.relocations; imports = c.self.inside.dynamic.imports } in
    let is = rw (c.as_slice.ensures, c.as_slice-2.ensures) at c.file_bytes.ensures in
    lent image c.args.a c.args.n _ is ∙ ap (λ (i : Contents). bytes_at i c.args.a c.args.n) c.self.view_is
