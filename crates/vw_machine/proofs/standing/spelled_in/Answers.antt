use Rattle.std.proofs.Common.{◌≡◌, ◌≤◌, ◌<◌, ◌+◌, ◌-◌, ℕ, List, Option, Some, None, take, length, sym, ◌∙◌, ap, subst, arith}
use Rattle.std.specs.Prelude.{Contains}
use Rattle.vw_insn.specs.declared.instruction.Insn.{Insn}
use Rattle.vw_rows.specs.Spelling.{Spells}
use Rattle.vw_image.specs.Image.{IsImage}
use Rattle.vw_image.specs.Words.{bytes_at}
use Rattle.vw_layout.specs.declared.functions.Function.{Function}
use Rattle.vw_layout.specs.declared.layout.Module.{Module as Declared}
use Rattle.vw_layout.specs.Layout.{IsWhole}
use Rattle.vw_machine.specs.declared.world.World.{World}
use Rattle.vw_machine.specs.Module.{view_of, bytes_from}
use Rattle.vw_machine.specs.Kept.{activation_of}
use Rattle.vw_machine.specs.Standing.{IsSpelledAt}
use Rattle.vw_machine.proofs.FunctionLemmas.{Ascending, one_function}
use Rattle.vw_machine.proofs.CodeLemmas.{Laws, ByteLaws, function_ends, is_lent, code_holds}
use Rattle.vw_machine.proofs.standing.spelled_in.Goals as goal

pub overflow_add-function : goal.overflow_add-function
overflow_add-function c =
    let m = c.args.module.now in
    let w = c.args.world.now in
    let f = c.args.function.now in
    let laws : Laws = record { code = c.functions_are_code.ensures; bounded = c.segments_are_bounded.ensures } in
    let ends = function_ends laws m c.requires.whole c.segments.ensures.whole f c.requires.listed w c.requires.placed in
    let inside = c.requires.inside in
    omega arith

-- the bytes that are lent are those behind the point of the function in an instance
code_there :
    (laws : Laws) (bytes : ByteLaws) (m : Declared) → IsWhole m → IsImage m.image → (f : Function)
    → Contains m.functions f → (w : World) (entry point : ℕ) → entry ≡ w.load + f.entry
    → point < f.size → (code : List ℕ)
    → bytes_at m.image (f.entry + point) (f.size - point) ≡ Some code
    → (length code ≡ f.size - point)
    × ((n : ℕ) → n ≤ f.size - point
    → bytes_from ((view_of m).byte w) (entry + point - w.load) n ≡ take n code)
code_there laws bytes m whole image f listed w entry point entered inside code is =
    let holds = code_holds laws m whole image f listed bytes w point inside code is in
    let from : entry + point - w.load ≡ f.entry + point = omega arith in
    (holds.0, λ n fits. ap (λ (a : ℕ). bytes_from ((view_of m).byte w) a n) from ∙ holds.1 n fits)

pub returns-in-Some-decode : goal.returns-in-Some-decode
returns-in-Some-decode c =
    let f = c.args.function.now in
    let point = c.args.point in
    let inside = c.requires.inside in
    let entered = c.requires.entered in
    let laws : Laws = record { code = c.functions_are_code.ensures; bounded = c.segments_are_bounded.ensures } in
    let bytes : ByteLaws = record { settled = c.code_is_settled.ensures; lent = c.file_bytes_are_memory.ensures } in
    let there = code_there laws bytes c.args.module.now c.requires.whole c.segments.ensures.whole f c.requires.listed c.args.world.now _ point entered inside c.in-Some.code.now (sym c.in-Some.ensures) in
    let len = c.in-Some-decode.len in
    let within : len ≤ length c.in-Some.code.now = c.in-Some-decode.ensures.within in
    let long = there.0 in (
      record {
        function = f;
        of_top = (c.requires.listed, entered);
        begins = (omega arith, omega arith);
        ends = (omega arith, omega arith);
        spelled = subst (λ (b : List ℕ). Spells b c.in-Some-decode.insn) (sym (there.1 len (omega arith))) c.in-Some-decode.ensures.found;
      },
      c.in-Some-decode.ensures.listed,
    )

pub returns-in-None-decode : goal.returns-in-None-decode
returns-in-None-decode c =
    let m = c.args.module.now in
    let f = c.args.function.now in
    let point = c.args.point in
    let inside = c.requires.inside in
    let entered = c.requires.entered in
    let laws : Laws = record { code = c.functions_are_code.ensures; bounded = c.segments_are_bounded.ensures } in
    let bytes : ByteLaws = record { settled = c.code_is_settled.ensures; lent = c.file_bytes_are_memory.ensures } in
    let there = code_there laws bytes m c.requires.whole c.segments.ensures.whole f c.requires.listed c.args.world.now _ point entered inside c.in-Some.code.now (sym c.in-Some.ensures) in
    let long = there.0 in
    let ascending : Ascending m.functions = rw c.requires.whole.functions (λ j k g h. c.functions_ascend.ensures.ascend m.image.bytes j k g h c.requires.whole.rules) in (
      record { function = f; of_top = (c.requires.listed, entered); inside = (omega arith, omega arith) },
      λ (i : Insn) (n : ℕ) (s : IsSpelledAt (view_of m) c.args.world.now (activation_of c.args.top.now) (c.args.top.now.entry + point) i n).
          let at = s.of_top.1 in
          let same = one_function m.functions ascending s.function f s.of_top.0 c.requires.listed (omega arith) in
          let sizes : s.function.size ≡ f.size = ap (λ (g : Function). g.size) same in
          let entries : s.function.entry ≡ f.entry = ap (λ (g : Function). g.entry) same in
          let ends = s.ends.1 in
          let spelled = there.1 n (omega arith) in
          let found = c.decode.ensures.only n i (omega arith) (subst (λ (b : List ℕ). Spells b i) spelled s.spelled) in
          let none = c.in-None-decode.is in
          let both : ◌≡◌ {A = Option (Insn × ℕ)} None (Some (i, n)) = sym none ∙ found in
          cc,
    )

pub returns-in-None : goal.returns-in-None
returns-in-None c =
    let m = c.args.module.now in
    let laws : Laws = record { code = c.functions_are_code.ensures; bounded = c.segments_are_bounded.ensures } in
    let bytes : ByteLaws = record { settled = c.code_is_settled.ensures; lent = c.file_bytes_are_memory.ensures } in
    absurd (is_lent laws m c.requires.whole c.segments.ensures.whole c.args.function.now c.requires.listed bytes c.args.world.now c.args.point c.requires.inside (sym c.in-None.ensures))
