use Rattle.std.proofs.Common.{◌≡◌, ℕ, take}
use Rattle.vw_make.specs.Bytes.{with_fields, zeros}
use Rattle.vw_make.proofs.tables.put_content.Given as goal

abbrev pub invariant-loop-bind : goal.invariant-loop-bind
invariant-loop-bind l = l.content.items ≡ with_fields (λ (bind : ℕ × ℕ). zeros 8) 8 (take l.bind-index l.binds) l.fn.parts.content
