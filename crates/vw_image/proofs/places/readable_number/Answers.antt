use Rattle.std.proofs.Common.{◌≡◌, ℕ, ◌&&◌, Bool, true, false, cond, List, length, Some, None, is_some, refl, sym, ap, ◌∙◌}
use Rattle.std.specs.List.{find}
use Rattle.vw_bits.specs.Fields.{load}
use Rattle.vw_bits.specs.Headers.{is_readable}
use Rattle.vw_bits.specs.Places.{in_memory}
use Rattle.vw_bits.specs.declared.records.Segment.{Segment}
use Rattle.vw_bits.specs.Bounds.{IsBounded}
use Rattle.vw_image.specs.Bounds.{AllApart}
use Rattle.vw_image.specs.Image.{segment_byte, memory_byte}
use Rattle.vw_image.specs.Words.{in_readable}
use Rattle.vw_bits.proofs.ListLemmas.{find-any, find-holds, find-passes, and_right}
use Rattle.vw_image.proofs.Segments.{load-in}
use Rattle.vw_image.proofs.places.readable_number.Goals as goal

abbrev holds : ℕ → ℕ → Segment → Bool
holds a n s = is_readable s && in_memory a n s

nothing : (segments : List Segment) (a n number : ℕ) → None ≡ find (holds a n) segments → None ≡ cond (in_readable segments a n) (Some number) None
nothing segments a n number none =
    let out : in_readable segments a n ≡ false = sym (find-any (holds a n) segments) ∙ ap is_some (sym none) in
    rw out refl

there : (bytes : List ℕ) (segments : List Segment) (a n number : ℕ) (s : Segment) → AllApart segments → Some s ≡ find (holds a n) segments → number ≡ load (segment_byte bytes s) a n → Some number ≡ cond (in_readable segments a n) (Some (load (memory_byte bytes segments) a n)) None
there bytes segments a n number s apart found is =
    let inside : in_readable segments a n ≡ true = sym (find-any (holds a n) segments) ∙ ap is_some (sym found) in
    let held : in_memory a n s ≡ true = and_right (is_readable s) (in_memory a n s) (find-passes (holds a n) segments s (sym found)) in
    rw inside (ap Some (is ∙ load-in bytes (holds a n) segments s a n apart (sym found) held))

pub returns-in_err-segment : goal.returns-in_err-segment
returns-in_err-segment c = c.from_residual.ensures ∙ nothing c.args.segments.now c.args.address c.args.size _ c.in_err-segment.ensures

pub number_in-requires-clause-bounded : goal.number_in-requires-clause-bounded
number_in-requires-clause-bounded c = find-holds (IsBounded (length c.args.bytes.now)) (holds c.args.address c.args.size) c.args.segments.now c.in_ok-segment.segment.now c.requires.bounded (sym c.in_ok-segment.ensures)

pub number_in-requires-clause-held : goal.number_in-requires-clause-held
number_in-requires-clause-held c = and_right (is_readable c.in_ok-segment.segment.now) _ (find-passes (holds c.args.address c.args.size) c.args.segments.now c.in_ok-segment.segment.now (sym c.in_ok-segment.ensures))

pub returns : goal.returns
returns c = there c.args.bytes.now c.args.segments.now c.args.address c.args.size c.number_in.result c.in_ok-segment.segment.now c.requires.apart c.in_ok-segment.ensures c.number_in.ensures
