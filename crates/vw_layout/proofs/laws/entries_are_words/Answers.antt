use Rattle.vw_layout.proofs.EntryLemmas.{tag_word, pointer_word}
use Rattle.vw_layout.proofs.laws.entries_are_words.Goals as goal

pub returns-clause-tag : goal.returns-clause-tag
returns-clause-tag c = tag_word

pub returns-clause-pointer : goal.returns-clause-pointer
returns-clause-pointer c = pointer_word
