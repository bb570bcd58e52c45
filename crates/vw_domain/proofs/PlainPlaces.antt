-- In a plain place the edge of a comparison changes nothing.
use Rattle.std.proofs.Common.{◌≡◌, ℕ, List, refl, ap, ◌∙◌, Bool, true, false}
use Rattle.std.proofs.lemmas.Bool.{and_parts, not-true}
use Rattle.std.specs.Prelude.{Option, not, ◌&&◌}
use Rattle.vw_values.specs.declared.value.Value.{Value}
use Rattle.vw_values.specs.declared.value.Value.TheVariants.{Any, Num, Const, Below, Low, Both, HeapBase, HeapAddr, Globals, Entry, Image, Index16, EntryPtr, EntryTyped, TagOf, TableFn, JumpOff, JumpDest}
use Rattle.vw_domain.specs.declared.edge_tags.Tags.{Tags}
use Rattle.vw_domain.specs.Changes.{mark, is_other, refined_by}
use Rattle.vw_domain.specs.Refines.{left_value, may_pass, is_compared, is_tagged, passes}
use Rattle.vw_domain.specs.Plain.{is_entry, is_plain}

no_entry : (v : Value) (k : ℕ) (tagged : ℕ → Bool) → is_entry v ≡ false → (mark k tagged v ≡ v) × (is_other k tagged v ≡ false)
no_entry Any k tagged other = (refl, refl)
no_entry Num k tagged other = (refl, refl)
no_entry (Const c) k tagged other = (refl, refl)
no_entry (Below j) k tagged other = (refl, refl)
no_entry (Low j) k tagged other = (refl, refl)
no_entry (Both j) k tagged other = (refl, refl)
no_entry HeapBase k tagged other = (refl, refl)
no_entry HeapAddr k tagged other = (refl, refl)
no_entry Globals k tagged other = (refl, refl)
no_entry (Entry r) k tagged other = (refl, refl)
no_entry (Image a) k tagged other = (refl, refl)
no_entry (Index16 j m) k tagged other = absurd (cc)
no_entry (EntryPtr t) k tagged other = absurd (cc)
no_entry (EntryTyped t g) k tagged other = absurd (cc)
no_entry (TagOf t via) k tagged other = (refl, refl)
no_entry (TableFn t g) k tagged other = (refl, refl)
no_entry (JumpOff a j) k tagged other = (refl, refl)
no_entry (JumpDest a j) k tagged other = (refl, refl)

module _ (classes : List (ℕ × ℕ)) (f : Value → Option Value) (tags : Tags) (a : ℕ) (v : Value) (plain : is_plain classes a v ≡ true) where
  pub plain_value : left_value classes f tags a v ≡ v
  plain_value =
      let parts = and_parts (not (is_entry v)) (not (is_compared classes a)) plain in
      ap (λ (c : Bool). mark tags.tag (is_tagged tags.tables classes a) (refined_by c f v)) (not-true (is_compared classes a) parts.1)
      ∙ (no_entry v tags.tag (is_tagged tags.tables classes a) (not-true (is_entry v) parts.0)).0

  pub plain_passes : may_pass classes f tags a v ≡ true
  plain_passes =
      let parts = and_parts (not (is_entry v)) (not (is_compared classes a)) plain in
      ap (λ (c : Bool). passes c (f v) && not (is_other tags.tag (is_tagged tags.tables classes a) v)) (not-true (is_compared classes a) parts.1)
      ∙ ap not (no_entry v tags.tag (is_tagged tags.tables classes a) (not-true (is_entry v) parts.0)).1
