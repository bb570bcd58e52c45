-- No entry is at or above 2^64.
use Rattle.std.proofs.Common.{◌≡◌, ℕ, ◌+◌, ◌*◌, ◌≤◌, ◌^◌, ◌&&◌, Bool, true, false, cond, List, [], ◌∷◌, length, None, nat_le, nat_lt, refl, sym, subst, arith}
use Rattle.std.specs.List.{list_any}
use Rattle.std.proofs.lemmas.Bool.Decides.{nat_tests}
use Rattle.vw_bits.specs.Headers.{is_readable, segments_of}
use Rattle.vw_bits.specs.HeaderRules.{header_fault}
use Rattle.vw_bits.specs.Places.{is_among, in_memory}
use Rattle.vw_bits.specs.declared.records.Segment.{Segment}
use Rattle.vw_bits.specs.Bounds.{AreBounded}
use Rattle.vw_image.specs.Image.{Contents, IsImage, image_of, touches}
use Rattle.vw_image.specs.Words.{word_at, in_readable}
use Rattle.vw_image.specs.declared.word.Word.TheVariants.{Plain, Mixed, Outside}
use Rattle.vw_switch.specs.Targets.{leads_to, target}

neither : (b : Bool) → (b && false) ≡ false
neither true = refl
neither false = refl

middle : (b d : Bool) → (b && false && d) ≡ false
middle true d = refl
middle false d = refl

beyond : (start size a : ℕ) → start + size ≤ 2 ^ 31 → 2 ^ 64 ≤ a → is_among start size a 4 ≡ false
beyond start size a below far =
    let test : nat_lt a (start + size) ≡ false = grind (arith, nat_tests) in
    rw test (middle (nat_le start a) (nat_le (a + 4) (start + size)))

-- a word there is in the memory of no segment
unread : (len a : ℕ) (segments : List Segment) → AreBounded len segments → 2 ^ 64 ≤ a → in_readable segments a 4 ≡ false
unread len a [] bounded far = refl
unread len a (s ∷ more) bounded far =
    let here : in_memory a 4 s ≡ false = beyond s.vaddr s.memsz a bounded.0.below far in
    rw (here, neither (is_readable s)) (unread len a more bounded.1 far)

segments_bounded : (image : Contents) → IsImage image → ((bytes : List ℕ) → header_fault bytes ≡ None → AreBounded (length bytes) (segments_of bytes)) → AreBounded (length image.bytes) image.segments
unfolding image_of
segments_bounded image is law = subst (λ (i : Contents). AreBounded (length image.bytes) i.segments) (sym is.whole) (law image.bytes is.headers)

leads_nowhere : (base entry size n : ℕ) (touched inside : Bool) → inside ≡ false → None ≡ leads_to base entry size (cond touched Mixed (cond inside (Plain n) Outside))
leads_nowhere base entry size n true inside out = refl
leads_nowhere base entry size n false true out = cc
leads_nowhere base entry size n false false out = refl

pub far_target : (image : Contents) (base i entry size : ℕ) → IsImage image → ((bytes : List ℕ) → header_fault bytes ≡ None → AreBounded (length bytes) (segments_of bytes)) → 2 ^ 64 ≤ base + 4 * i → None ≡ target image base i entry size
unfolding target word_at
far_target image base i entry size is law far =
    leads_nowhere base entry size _ (list_any (touches (base + 4 * i) 4) image.relocations) _ (unread (length image.bytes) (base + 4 * i) image.segments (segments_bounded image is law) far)
