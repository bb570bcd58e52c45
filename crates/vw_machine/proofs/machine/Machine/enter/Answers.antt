use Rattle.std.proofs.Common.{◌≡◌, inl, inr, ◌<◌, ◌+◌, ◌-◌, ◌/◌, ◌%◌, ◌^◌, ℕ, Bool, true, false, List, [], ◌∷◌, ◌++◌, None, refl, sym, ◌∙◌, ap, subst, arith}
use Rattle.std.specs.Prelude.{nat_lt}
use Rattle.std.proofs.Math.Path.{fun_ext}
use Rattle.std.proofs.lemmas.Bool.{cases_lt}
use Rattle.std.proofs.lemmas.Bool.Decides.{eqb_tells}
use Rattle.vw_bits.specs.Fields.{load}
use Rattle.vw_insn.specs.Words.{Registers}
use Rattle.vw_machine.specs.Entered.{IsAlone, HoldsAlone}
use Rattle.vw_machine.specs.State.{Activation}
use Rattle.vw_machine.specs.Kept.{byte_in, activations_of, is_marked}
use Rattle.std.specs.BTreeMap.{BTreeMap, IsEmpty, get}
use Rattle.std.specs.Ordering.{nat_cmp}
use Rattle.std.proofs.lemmas.Grind.{common_steps}
use Rattle.vw_machine.specs.declared.machine.Frame.{Frame}
use Rattle.vw_image.proofs.Numbers.{load-bytes}
use Rattle.vw_machine.proofs.Regions.{heap_ends, stack_ends}
use Rattle.vw_machine.proofs.machine.Machine.enter.Goals as goal

word_of : (rsp rdi : ℕ) (registers : Registers) → rsp < 2 ^ 64 → rdi < 2 ^ 64 → IsAlone rsp rdi registers → (r : ℕ) → registers r < 2 ^ 64
word_of rsp rdi registers one two alone r =
    elim (eqb_tells r 4) [
      | inl four ↦ let e : registers r ≡ rsp = ap registers four.1 ∙ alone.at_rsp in omega arith
      | inr other ↦ elim (eqb_tells r 7) [
        | inl seven ↦ let e : registers r ≡ rdi = ap registers seven.1 ∙ alone.at_rdi in omega arith
        | inr none ↦ let e = alone.others r other.1 none.1 in omega arith
      ]
    ]

byte_of : (at word : ℕ) (bytes : ℕ → ℕ) → HoldsAlone at word bytes → (q : ℕ) → bytes q < 256
byte_of at word bytes alone q =
    elim (cases_lt q at) [
      | inl below ↦ let e = alone.elsewhere q (inl below) in omega arith
      | inr above ↦ elim (cases_lt q (at + 8)) [
        | inl inside ↦ let e = alone.there q above inside in omega arith
        | inr behind ↦ let e = alone.elsewhere q (inr behind) in omega arith
      ]
    ]

word_there : (at word : ℕ) (bytes : ℕ → ℕ) → word < 2 ^ 64 → HoldsAlone at word bytes → load bytes at 8 ≡ word
word_there at word bytes fits alone =
    let whole : load bytes at 8 ≡ word % 256 ^ 8 = load-bytes bytes at 8 word (λ k few. let back : at + k - at ≡ k = omega arith in alone.there (at + k) (omega arith) (omega arith) ∙ ap (λ (j : ℕ). word / 256 ^ j % 256) back) in
    omega arith

unmarked : (kept : BTreeMap ℕ Bool) → IsEmpty kept → is_marked kept ≡ λ q. false
unmarked kept none = fun_ext (λ q. nothing kept none q (nat_lt q (2 ^ 64)) refl)
  where
    nothing : (kept : BTreeMap ℕ Bool) → IsEmpty kept → (q : ℕ) (b : Bool) → nat_lt q (2 ^ 64) ≡ b → is_marked kept q ≡ false
    nothing kept none q true e = let g : get nat_cmp kept q ≡ None = grind (arith, common_steps) in rw (e, g) refl
    nothing kept none q false e = rw e refl

one_activation : (frames : List Frame) (entry rsp back : ℕ) (kept : BTreeMap ℕ Bool) → IsEmpty kept → frames ≡ record { entry = entry; rsp0 = rsp; back = back; written = kept } ∷ []
    → activations_of frames ≡ record { entry = entry; rsp0 = rsp; back = back; written = λ q. false } ∷ []
one_activation frames entry rsp back kept none is = rw (is, unmarked kept none) refl

abbrev entered_at : ℕ → ℕ → ℕ → List Activation
entered_at entry back rsp = record { entry = entry; rsp0 = rsp; back = back; written = λ q. false } ∷ []

abbrev frame_at : ℕ → ℕ → ℕ → BTreeMap ℕ Bool → List Frame
frame_at entry rsp back kept = record { entry = entry; rsp0 = rsp; back = back; written = kept } ∷ []

pub returns : goal.returns
returns c f there =
    let w = c.args.world.now in
    let rsp = c.args.rsp in
    let bytes = c.in_ok-bytes.ensures in
    let alone = c.registers_with-registers.ensures in
    let heap = heap_ends c.requires.placed in
    let stack = stack_ends c.requires.placed in
    let low = c.requires.room.low in
    let high = c.requires.room.high in
    let at_rsp = alone.at_rsp in
    record {
      initial = record {
        rip = c.entry_of-entry.ensures f there;
        rdi = alone.at_rdi;
        rsp_low = omega arith;
        rsp_high = omega arith;
        return = subst (λ (a : ℕ). load (byte_in c.in_ok-bytes.bytes) a 8 ≡ w.host_return) (sym at_rsp) (word_there rsp w.host_return (byte_in c.in_ok-bytes.bytes) (omega (arith, c.requires.placed.hosts_outside.0.0)) bytes);
        active =
            one_activation c.push.new.self.items c.entry_of-entry.result rsp w.host_return c.new.result c.new.ensures.empty (c.in_ok-push.ensures.items ∙ ap (λ (xs : List Frame). xs ++ frame_at c.entry_of-entry.result rsp w.host_return c.new.result) c.new-active.ensures.items)
            ∙ ap (entered_at c.entry_of-entry.result w.host_return) (sym at_rsp);
        words = word_of rsp w.heap _ (omega arith) (omega arith) alone;
        bytes = byte_of rsp w.host_return _ bytes;
      };
      registers = alone;
      flags = refl;
      bytes = bytes;
    }
