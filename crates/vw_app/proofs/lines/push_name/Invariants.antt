use Rattle.std.proofs.Common.{◌≡◌, ◌++◌, take}
use Rattle.vw_app.specs.Lines.{name_text}
use Rattle.vw_app.proofs.lines.push_name.Given as goal

abbrev pub invariant-loop-byte : goal.invariant-loop-byte
invariant-loop-byte l = l.text ≡ l.initial.text ++ name_text (take l.byte-index l.name)
