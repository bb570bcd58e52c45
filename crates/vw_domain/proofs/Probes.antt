-- A probe's depth rises with what is known of rax and rsp.
use Rattle.std.proofs.Common.{◌≡◌, ℕ, ◌+◌, ◌^◌, ◌≤◌, refl, sym, subst, arith, max}
use Rattle.std.specs.Prelude.{Bool, true, false, if◌then◌else◌, nat_le, pos, negsuc, ◌+ℤ◌, ℤ}
use Rattle.vw_names.specs.declared.spot.Spot.{Spot as Place}
use Rattle.vw_names.specs.declared.spot.Spot.TheVariants.{Reg as Register}
use Rattle.vw_stack.specs.Stack.{offset_below}
use Rattle.vw_stack.specs.declared.offset.Offset.{Offset}
use Rattle.vw_stack.specs.declared.offset.Offset.TheVariants.{Known, Unknown}
use Rattle.vw_values.specs.declared.value.Value.{Value}
use Rattle.vw_values.specs.declared.value.Value.TheVariants.{Const}
use Rattle.vw_domain.specs.Abstract.{Abstract}
use Rattle.vw_domain.specs.Changes.{is_register}
use Rattle.vw_domain.specs.Calls.{reach, deeper_by, deeper, after_probe}
use Rattle.vw_domain.proofs.Orders.{Under, same, Lower}
use Rattle.vw_domain.proofs.Calls.{call_mono}
use Rattle.std.proofs.lemmas.Int.{ints}
use Rattle.vw_insn.specs.Words.{Flags as StatusFlags}
use Rattle.vw_domain.specs.Stands.{Machine}
use Rattle.vw_domain.proofs.Standing.{Standing}

deeper_most : (n : ℕ) (c : Offset) (p : ℕ) → p ≤ deeper_by n c p
deeper_most n Unknown p = omega arith
deeper_most n (Known c) p = by_test (nat_le n (2 ^ 31))
  where
    by_test : (b : Bool) → p ≤ (if b then max p (reach n c) else p)
    by_test true = omega arith
    by_test false = omega arith

kept_depth : (v : Value) (c : Offset) (p : ℕ) → p ≤ deeper v c p
kept_depth (Const n) c p = deeper_most n c p
kept_depth v c p = omega arith

by_rises : (n : ℕ) (c c' : Offset) (p p' : ℕ) → offset_below c c' → p' ≤ p → deeper_by n c' p' ≤ deeper_by n c p
by_rises n c Unknown p p' f h = let most = deeper_most n c p in omega arith
by_rises n Unknown (Known c') p p' f h = absurd f
by_rises n (Known c) (Known c') p p' f h =
    let P : ℤ → Type 0 = λ z. deeper_by n (Known c') p' ≤ deeper_by n (Known z) p in
    subst P (sym f) (by_test (nat_le n (2 ^ 31)))
  where
    by_test : (b : Bool) → (if b then max p' (reach n c') else p') ≤ (if b then max p (reach n c') else p)
    by_test true = omega arith
    by_test false = omega arith

deeper_rises : (v v' : Value) (c c' : Offset) (p p' : ℕ) → Under v v' → offset_below c c' → p' ≤ p → deeper v' c' p' ≤ deeper v c p
deeper_rises v (Const n) c c' p p' same f h = by_rises n c c' p p' f h
deeper_rises v v' c c' p p' u f h = let most = kept_depth v c p in omega arith

pub probe_mono : (s t : Abstract) → Lower s t → ((p : Place) → s.same p p ≡ true) → Lower (after_probe s) (after_probe t)
probe_mono s t h itself =
    let calls = call_mono s t h itself is_register (s.offsets 4) (t.offsets 4) (h.offsets 4) in
    record {
      offsets = calls.offsets;
      values = calls.values;
      sizes = calls.sizes;
      same = calls.same;
      fact = calls.fact;
      probed = deeper_rises _ _ _ _ s.probed t.probed (h.values (Register 0)) (h.offsets 4) h.probed;
      written = calls.written;
    }

-- ---- (A)

-- what a probe tells of the depth, where as many bytes lie above the stack's start
pub probed_depth : (start entry rsp n : ℕ) (v : Value) (c : ℤ) (p : ℕ) → start ≤ entry → start + p ≤ entry → pos rsp ≡ pos entry +ℤ c → start + n ≤ rsp → ((k : ℕ) → v ≡ Const k → n ≡ k)
    → start + deeper v (Known c) p ≤ entry
probed_depth start entry rsp n (Const k) c p low depth at room is = by_test (nat_le k (2 ^ 31))
  where
    same : n ≡ k
    same = is k refl

    reaches : (c : ℤ) → pos rsp ≡ pos entry +ℤ c → start + reach k c ≤ entry
    reaches (pos d) at = omega (arith, ints, same, room, low)
    reaches (negsuc d) at = omega (arith, ints, same, room)

    by_test : (b : Bool) → start + (if b then max p (reach k c) else p) ≤ entry
    by_test true = let r = reaches c at in omega arith
    by_test false = depth
probed_depth start entry rsp n v c p low depth at room is = depth

pub deeper_stands : (top : Machine) (st : Abstract) (p : ℕ) (held : ℕ → ℕ) (flags : StatusFlags) (bytes : ℕ → ℕ) (compared : ℕ) → top.stack_start + p ≤ top.entry_rsp
    → Standing st top held flags bytes compared → Standing (record st { probed = p }) top held flags bytes compared
deeper_stands top st p held flags bytes compared depth h =
    record {
      low_end = h.low_end;
      high_end = h.high_end;
      depth = depth;
      offsets = h.offsets;
      values = h.values;
      classes = h.classes;
      inside = h.inside;
      written = h.written;
      word = h.word;
      facts = h.facts;
      kinds = h.kinds;
    }
