use Rattle.vw_sandbox.proofs.Modules.{is_image}
use Rattle.vw_sandbox.proofs.gathered.module_laws.Goals as goal

pub returns : goal.returns
returns c =
    record {
      laws = c.file_laws.ensures;
      images = is_image;
      spelled = c.words_spell.ensures;
      numbered = c.words_are_numbered.ensures;
      probe = c.call_targets_stand.ensures.probe;
      some = c.call_targets_stand.ensures.some;
      stub = c.call_targets_stand.ensures.stub;
      pointer = c.entries_can_be_called.ensures.pointer;
      entries = c.entries_can_be_called.ensures.numbered;
      alone = λ m w laid rip active one other a b. c.one_thing_stands.ensures m w rip active one other laid a b;
    }
