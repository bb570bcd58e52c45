-- The frames of a machine and the activations that they stand for.
use Rattle.std.proofs.Common.{◌≡◌, ℕ, ◌+◌, ◌-◌, ◌<◌, List, [], ◌∷◌, ◌++◌, length, take, map, reverse, Some, sym, ◌∙◌, ap, arith}
use Rattle.std.specs.Prelude.{slice_get}
use Rattle.std.proofs.lemmas.List.{take_more, take_all, map-append, reverse-append}
use Rattle.std.proofs.lemmas.Option.{slice_get_within, get_or_from_slice_get}
use Rattle.vw_machine.specs.declared.machine.Frame.{Frame}
use Rattle.vw_machine.specs.Kept.{activation_of, activations_of}

-- the last frame is behind the others
pub last_split : {X : Type 0} (xs : List X) (x : X) → slice_get xs (length xs - 1) ≡ Some x → xs ≡ take (length xs - 1) xs ++ x ∷ []
last_split {X} xs x is =
    let inside : length xs - 1 < length xs = slice_get_within xs (length xs - 1) x is in
    let whole : length xs - 1 + 1 ≡ length xs = omega arith in
    let more = take_more xs (length xs - 1) x inside in
    sym (take_all (length xs) xs (omega arith))
    ∙ (ap (λ (n : ℕ). take n xs) (sym whole) ∙ (more ∙ ap (λ (y : X). take (length xs - 1) xs ++ y ∷ []) (get_or_from_slice_get xs (length xs - 1) x x is)))

pub activations_of-push : (frames : List Frame) (frame : Frame) → activations_of (frames ++ frame ∷ []) ≡ activation_of frame ∷ activations_of frames
activations_of-push frames frame = ap reverse (map-append activation_of frames (frame ∷ [])) ∙ reverse-append (map activation_of frames) (activation_of frame ∷ [])

-- the activation that was entered last is that of the last frame
pub top_of : (frames : List Frame) (frame : Frame) → slice_get frames (length frames - 1) ≡ Some frame → activations_of frames ≡ activation_of frame ∷ activations_of (take (length frames - 1) frames)
top_of frames frame is = ap activations_of (last_split frames frame is) ∙ activations_of-push (take (length frames - 1) frames) frame
