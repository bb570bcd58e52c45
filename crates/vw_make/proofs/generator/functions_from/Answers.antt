use Rattle.std.proofs.Common.{◌≡◌, ◌∙◌, ℕ, ◌+◌, ◌/◌, ◌^◌, List, [], ◌∷◌, ◌++◌, map, sym, ap, add-one, arith}
use Rattle.std.specs.List.{range_with_len}
use Rattle.std.proofs.lemmas.List.FromFn.{map-range_with_len_more}
use Rattle.vw_bits.specs.Words.{next_draw}
use Rattle.vw_make.specs.declared.parts.Func.{Func}
use Rattle.vw_make.specs.Generator.{drawn, guest, guest_of}
use Rattle.vw_make.proofs.generator.functions_from.Goals as goal

pub loop-index-preserved : goal.loop-index-preserved
loop-index-preserved c =
    let i = c.loop-index.index in
    let number = c.args.number in
    let draw : c.draw-x.result ≡ drawn number (i + 1) = rw add-one (c.draw-x.ensures ∙ ap (λ (x : ℕ). next_draw x) c.loop-index.invariant.x) in
    record {
      x = draw;
      list =
          c.in_ok-push.ensures.ok
          ∙ (ap (λ (list : List Func). list ++ (c.in_ok-func.func ∷ [])) c.loop-index.invariant.list
          ∙ (ap (λ (func : Func). map (guest_of number) (range_with_len 0 i) ++ (func ∷ [])) (c.in_ok-func.ensures ∙ ap (λ (x : ℕ). guest i (x / 2 ^ 33)) draw)
          ∙ sym (map-range_with_len_more (guest_of number) 0 i i (omega arith))));
    }
