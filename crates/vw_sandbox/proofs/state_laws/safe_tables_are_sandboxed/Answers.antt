use Rattle.std.specs.Prelude.{Contains}
use Rattle.std.proofs.Common.{◌+◌, ◌^◌, ◌≤◌, refl, arith}
use Rattle.vw_image.specs.Image.{image_of}
use Rattle.vw_layout.specs.Layout.{IsWhole, declared_functions}
use Rattle.vw_layout.specs.declared.functions.Function.{Function}
use Rattle.vw_layout.specs.declared.layout.Module.{Module as Declared}
use Rattle.vw_state.specs.Context.{code_of, context_of}
use Rattle.vw_machine.specs.Module.{declared_module, module_of, view_of}
use Rattle.vw_sandbox.specs.MapOf.{map_of}
use Rattle.vw_sandbox.specs.Gathered.{FileLaws}
use Rattle.vw_sandbox.proofs.Modules.{HoldsCode, are_bytes, holds_code, ends_low}
use Rattle.vw_sandbox.proofs.StateTables.{bounds_of, forms_of, StateLaws, IsAlone, abstracts_are_safe, map_is}
use Rattle.vw_sandbox.proofs.Witnesses.{one_by_entry}
use Rattle.vw_sandbox.proofs.state_laws.safe_tables_are_sandboxed.Goals as goal

pub returns : goal.returns
unfolding image_of module_of
returns c file tables is bytes safe =
    let m : Declared = declared_module file in
    let whole : IsWhole m = record { rules = is; functions = refl; tables = refl; image = refl } in
    let code : FileLaws = c.file_laws.ensures in
    let states : StateLaws = record {
      posts = c.edges_are_post.ensures.are;
      sites = c.functions_have_sites.ensures;
      displaced = c.statements_have_displacements.ensures;
      listed = c.spelled_is_listed.ensures;
      checks = c.checks_are_conditions.ensures.instructions;
      forms = c.states_have_forms.ensures.forms;
      built = c.states_have_forms.ensures.built;
      order = c.forms_tell_states.ensures.order;
      entry = c.entry_is_state.ensures;
      lists = c.state_forms_are_kept.ensures.lists;
      ends = c.state_forms_are_kept.ensures.ends;
      calls = c.state_forms_are_kept.ensures.calls;
      probes = c.state_forms_are_kept.ensures.probes;
      edges = c.state_forms_are_kept.ensures.edges;
      decided = c.edges_are_decided.ensures;
      some = c.call_targets_stand.ensures.some;
      probe = c.call_targets_stand.ensures.probe;
      stub = c.call_targets_stand.ensures.stub;
      only = c.read_is_spelling.ensures.only;
      none = c.read_is_spelling.ensures.none;
    } in
    let alone : (f : Function) → Contains m.functions f → IsAlone m.functions f =
    λ f listed g among same. one_by_entry (declared_functions file) (λ j k h i. c.functions_ascend.ensures.ascend file j k h i is) f g listed among same in
    let held : (f : Function) → Contains m.functions f → HoldsCode (view_of m) f (code_of (context_of m f)) = λ f listed. holds_code code file is f listed in
    let ends : (f : Function) → Contains m.functions f → f.entry + f.size ≤ 2 ^ 64 = λ f listed. (let low = ends_low code file is f listed in omega (arith, low)) in
    c.safe_states_are_sandboxed.ensures file (bounds_of m) (forms_of tables.functions) (map_of m tables) is bytes
    (abstracts_are_safe states m tables whole bytes safe alone (λ f listed. are_bytes code file is f listed bytes) held ends)
    (map_is states m tables whole bytes safe alone (λ f listed. are_bytes code file is f listed bytes) held ends)
