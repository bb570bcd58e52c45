use Rattle.vw_sandbox.specs.Gathered.{ModuleLaws}
use Rattle.vw_sandbox.proofs.DomainLaws.{DomainLaws}
use Rattle.vw_sandbox.proofs.Modules.{is_image}
use Rattle.vw_sandbox.proofs.Sites.{SiteLaws}
use Rattle.vw_sandbox.proofs.Stating.{StatementLaws}
use Rattle.vw_sandbox.proofs.TableRules.{lowers_stand, tables_sandbox}
use Rattle.vw_sandbox.proofs.table_laws.safe_states_are_sandboxed.Goals as goal

pub returns : goal.returns
returns c file bounds tables map is bytes safe is_map =
    let rules : ModuleLaws = c.module_laws.ensures in
    let statements : StatementLaws = record { form = c.lists_are_in_form.ensures; run = c.effect_is_a_run.ensures; words = c.words_stay.ensures } in
    let domain : DomainLaws = record {
      stand = c.statements_are_sound.ensures.stand;
      accesses = c.statements_are_sound.ensures.accesses;
      forms = c.statements_are_sound.ensures.forms;
      lists = c.statement_lists_are_sound.ensures.forms;
      ends = c.instruction_ends_are_sound.ensures.stand;
      end_forms = c.instruction_ends_are_sound.ensures.forms;
      lower = lowers_stand c.laws_of_values.ensures;
      branches = c.branches_are_sound.ensures.stand;
      calls = c.calls_are_sound.ensures.stand;
      call_forms = c.calls_are_sound.ensures.forms;
      probes = c.calls_are_sound.ensures.probes_stand;
    } in
    let sites : SiteLaws = record {
      images = is_image;
      spelled = c.words_spell.ensures;
      bounded = c.segments_are_bounded.ensures;
      few = c.tables_are_few.ensures.tables;
      data_of = c.tables_are_data.ensures;
      tags = c.entries_are_words.ensures.tag;
      pointers = c.entries_are_words.ensures.pointer;
      ranges = c.entries_can_be_called.ensures.tag;
      called = c.entries_can_be_called.ensures.pointer;
    } in
    tables_sandbox rules statements domain sites c.read_is_spelling.ensures.only c.read_is_spelling.ensures.none file is bytes bounds tables map safe is_map
