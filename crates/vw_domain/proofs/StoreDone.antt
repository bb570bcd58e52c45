-- Bytes of the frame are written, by what stands there afterwards.
use Rattle.std.proofs.Common.{◌≡◌, ℕ, ◌^◌, ◌<◌, ◌⊎◌, List, sym, ap, subst, ◌∙◌, arith, Some, None, inl, inr, is_some}
use Rattle.std.proofs.lemmas.Int.{ints}
use Rattle.std.specs.Prelude.{ℤ, pos, ◌+ℤ◌, Option, ◌||◌, ◌&&◌, int_lt, if◌then◌else◌}
use Rattle.vw_lattice.specs.Entries.{value_at, HasKey}
use Rattle.vw_locals.specs.Ranges.{IsRanges, is_written, is_between}
use Rattle.vw_values.specs.declared.value.Value.{Value}
use Rattle.vw_values.specs.declared.value.Value.TheVariants.{Any}
use Rattle.vw_values.specs.Values.{IsValue, IsAmong}
use Rattle.vw_domain.specs.declared.stores.Content.{Content}
use Rattle.vw_domain.specs.declared.stores.Content.TheVariants.{Nothing, Copy, Wide, Narrow}
use Rattle.vw_domain.specs.declared.parts.Parts.{Parts}
use Rattle.vw_domain.specs.declared.registers.Register.{Register}
use Rattle.vw_domain.specs.Registers.{register_at, IsWithin}
use Rattle.vw_domain.specs.State.{IsState, Fits, wide_key, narrow_key}
use Rattle.vw_domain.specs.Abstract.{abstract_of, slot_key, slot_size}
use Rattle.vw_domain.specs.Changes.{store_frame}
use Rattle.vw_domain.specs.Stores.{is_overlapped, IsContent, IsContentAmong, content_size, content_source, content_value, LosesSlots, PutsSlot, PutsContent, StoresBytes}
use Rattle.vw_domain.proofs.StorePuts.{narrow_gone, wide_gone, bare_form, bare_state, bare_fits, put_fits, lone_form, lone_state, copy_form, copy_state, wide_fits, narrow_fits}

-- what is shown of the parts afterwards
pub record IsStored (s t : Parts) (c : ℤ) (n : ℕ) (content : Content) : Type 0 where
  pub state : IsState t
  pub form : (u : Value) → abstract_of t ≡ store_frame (abstract_of s) c n (content_size content) (content_source content) (content_value u content)
  pub fits : (b : List ℕ) → Fits b s → IsContentAmong b content → Fits b t

odd : (o d : ℤ) → narrow_key o ≡ wide_key d → ⊥
odd o d same = omega (arith, ints)

one_wide : (o d : ℤ) → wide_key o ≡ wide_key d → o ≡ d
one_wide o d same = omega (arith, ints)

one_narrow : (o d : ℤ) → narrow_key o ≡ narrow_key d → o ≡ d
one_narrow o d same = omega (arith, ints)

no_key : (x : Option Value) (v : Value) → x ≡ None → x ≡ Some v → ⊥
no_key x v none found =
    let both : None ≡ Some v = sym none ∙ found in
    cc

module _ (s l f : Parts) (c : ℤ) (n : ℕ) (is_c : IsWithin (2 ^ 32) c) (some : 0 < n) (is_s : IsState s) (loses : LosesSlots (is_overlapped c n) s l)
    (w : List (ℤ × ℤ)) (ranges : IsRanges w) (written : (x : ℤ) → is_written w x ≡ ((is_between c (c +ℤ pos n) x && int_lt x (pos 0)) || is_written f.written x)) where
  abbrev t : Parts
  t = record f { written = w }

  module _ (v : Value) (source : Option ℕ) (puts : PutsSlot (wide_key c) v source l f) where
    no_narrow : value_at f.slots (narrow_key c) ≡ None
    no_narrow = puts.others (narrow_key c) (λ same. odd c c same) ∙ narrow_gone s l c n is_c some is_s loses

    wide_apart : (o : ℤ) → (wide_key o ≡ wide_key c) ⊎ (narrow_key o ≡ wide_key c) → HasKey f.slots (wide_key o) → HasKey f.slots (narrow_key o) → ⊥
    wide_apart o (inl same) wide narrow = no_key (value_at f.slots (narrow_key c)) narrow.0 no_narrow (ap (λ (x : ℤ). value_at f.slots (narrow_key x)) (sym (one_wide o c same)) ∙ narrow.1)
    wide_apart o (inr same) wide narrow = odd o c same

    wide_key_now : slot_key f.slots c ≡ wide_key c
    wide_key_now = ap (λ (x : Option Value). if is_some x then narrow_key c else wide_key c) no_narrow

    wide_size_now : slot_size f.slots c ≡ 8
    wide_size_now = ap (λ (x : Option Value). if is_some x then 4 else (if is_some (value_at f.slots (wide_key c)) then 8 else 0)) no_narrow ∙ ap (λ (x : Option Value). if is_some x then 8 else 0) puts.here

    wide_written : (x : ℤ) → is_written w x ≡ ((is_between c (c +ℤ pos n) x && int_lt x (pos 0)) || is_written s.written x)
    wide_written x = written x ∙ ap (λ (y : List (ℤ × ℤ)). (is_between c (c +ℤ pos n) x && int_lt x (pos 0)) || is_written y x) (puts.written ∙ loses.written)

  module _ (v : Value) (puts : PutsSlot (narrow_key c) v None l f) where
    no_wide : value_at f.slots (wide_key c) ≡ None
    no_wide = puts.others (wide_key c) (λ same. odd c c (sym same)) ∙ wide_gone s l c n is_c some is_s loses

    narrow_apart : (o : ℤ) → (wide_key o ≡ narrow_key c) ⊎ (narrow_key o ≡ narrow_key c) → HasKey f.slots (wide_key o) → HasKey f.slots (narrow_key o) → ⊥
    narrow_apart o (inl same) wide narrow = odd c o (sym same)
    narrow_apart o (inr same) wide narrow = no_key (value_at f.slots (wide_key c)) wide.0 no_wide (ap (λ (x : ℤ). value_at f.slots (wide_key x)) (sym (one_narrow o c same)) ∙ wide.1)

    narrow_key_now : slot_key f.slots c ≡ narrow_key c
    narrow_key_now = ap (λ (x : Option Value). if is_some x then narrow_key c else wide_key c) puts.here

    narrow_size_now : slot_size f.slots c ≡ 4
    narrow_size_now = ap (λ (x : Option Value). if is_some x then 4 else (if is_some (value_at f.slots (wide_key c)) then 8 else 0)) puts.here

    narrow_written : (x : ℤ) → is_written w x ≡ ((is_between c (c +ℤ pos n) x && int_lt x (pos 0)) || is_written s.written x)
    narrow_written x = written x ∙ ap (λ (y : List (ℤ × ℤ)). (is_between c (c +ℤ pos n) x && int_lt x (pos 0)) || is_written y x) (puts.written ∙ loses.written)

  nothing_put : f ≡ l → IsStored s t c n Nothing
  nothing_put is =
      let now : (x : ℤ) → is_written w x ≡ ((is_between c (c +ℤ pos n) x && int_lt x (pos 0)) || is_written s.written x) = λ x.
      written x ∙ ap (λ (y : List (ℤ × ℤ)). (is_between c (c +ℤ pos n) x && int_lt x (pos 0)) || is_written y x) (ap (λ (p : Parts). p.written) is ∙ loses.written) in
      subst (λ (p : Parts). IsStored s (record p { written = w }) c n Nothing) (sym is) (record {
        state = bare_state s l c n is_c some is_s loses w ranges now;
        form = λ u. bare_form s l c n is_c some is_s loses w ranges now;
        fits = λ b fits among. bare_fits s l c n is_c some is_s loses w ranges now b fits;
      })

  pub content_put : (content : Content) → IsContent content → PutsContent c content l f → IsStored s t c n content
  content_put Nothing is puts = nothing_put puts
  content_put (Wide v) is puts =
      let at = wide_fits s l c n is_c some is_s loses v is in
      let apart = wide_apart v None puts in
      let key = wide_key_now v None puts in
      let size = wide_size_now v None puts in
      let now = wide_written v None puts in
      let division = puts.division loses.division in
      record {
        state = lone_state s l c n is_c some is_s loses f (wide_key c) v None at puts apart w ranges now 8 key size division puts.classes;
        form = λ u. lone_form s l c n is_c some is_s loses f (wide_key c) v None at puts apart w ranges now 8 key size division puts.classes;
        fits = λ b fits among. put_fits s l c n is_c some is_s loses f (wide_key c) v None at puts apart w ranges now 8 key size division b fits among;
      }
  content_put (Narrow v) is puts =
      let at = narrow_fits s l c n is_c some is_s loses v is.0 is.1 in
      let apart = narrow_apart v puts in
      let key = narrow_key_now v puts in
      let size = narrow_size_now v puts in
      let now = narrow_written v puts in
      let division = puts.division loses.division in
      record {
        state = lone_state s l c n is_c some is_s loses f (narrow_key c) v None at puts apart w ranges now 4 key size division puts.classes;
        form = λ u. lone_form s l c n is_c some is_s loses f (narrow_key c) v None at puts apart w ranges now 4 key size division puts.classes;
        fits = λ b fits among. put_fits s l c n is_c some is_s loses f (narrow_key c) v None at puts apart w ranges now 4 key size division b fits among;
      }
  content_put (Copy r) is puts =
      let v : Value = (register_at l.registers r).value in
      let is_v : v ≡ (register_at s.registers r).value = ap (λ (row : List Register). (register_at row r).value) loses.registers in
      let at = wide_fits s l c n is_c some is_s loses v (subst (λ (x : Value). IsValue x) (sym is_v) (is_s.registers.registers r).value) in
      let apart = wide_apart v (Some r) puts in
      let key = wide_key_now v (Some r) puts in
      let size = wide_size_now v (Some r) puts in
      let now = wide_written v (Some r) puts in
      let division = puts.division loses.division in
      record {
        state = copy_state s l c n is_c some is_s loses f (wide_key c) v (Some r) at puts apart w ranges now 8 key size division r is puts.classes is_v Any;
        form = λ u. copy_form s l c n is_c some is_s loses f (wide_key c) v (Some r) at puts apart w ranges now 8 key size division r is puts.classes is_v u;
        fits = λ b fits among. put_fits s l c n is_c some is_s loses f (wide_key c) v (Some r) at puts apart w ranges now 8 key size division b fits
            (subst (λ (x : Value). IsAmong b x) (sym is_v) (fits.registers r));
      }

pub store_done : (s t : Parts) (c : ℤ) (n : ℕ) (content : Content) → IsWithin (2 ^ 32) c → 0 < n → IsState s → IsContent content → StoresBytes c n content s t → IsStored s t c n content
store_done s t c n content is_c some is_s is stores =
    subst (λ (p : Parts). IsStored s p c n content) (sym stores.adds.others)
    (content_put s stores.left stores.filled c n is_c some is_s stores.loses t.written stores.adds.ranges stores.adds.written content is stores.puts)
