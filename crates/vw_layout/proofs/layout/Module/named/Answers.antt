use Rattle.std.proofs.Common.{◌<◌, ◌^◌, sym, ◌∙◌, arith}
use Rattle.std.specs.Str.{bytes_eq}
use Rattle.vw_layout.proofs.ModuleLemmas.{place_fits}
use Rattle.vw_layout.proofs.layout.Module.named.Goals as goal

pub overflow_cast-result : goal.overflow_cast-result
overflow_cast-result c =
    let low : c.in-Some.place < 2 ^ 32 = place_fits c.args.self.now.image.bytes c.as_slice.result.now (λ f. bytes_eq f.name c.args.name.now) c.in-Some.place c.requires.rules (c.as_slice.ensures ∙ c.requires.functions) (sym c.position_named.ensures ∙ c.in-Some.is) in
    omega (arith, low)
