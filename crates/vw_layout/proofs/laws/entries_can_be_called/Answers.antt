use Rattle.vw_layout.proofs.EntryLemmas.{tag_range, callable_pointer, numbered_pointer}
use Rattle.vw_layout.proofs.laws.entries_can_be_called.Goals as goal

pub returns-clause-tag : goal.returns-clause-tag
returns-clause-tag c = tag_range

pub returns-clause-pointer : goal.returns-clause-pointer
returns-clause-pointer c = callable_pointer

pub returns-clause-numbered : goal.returns-clause-numbered
returns-clause-numbered c = numbered_pointer c.words_are_numbered.ensures
