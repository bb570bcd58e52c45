use Rattle.std.proofs.Common.{ℕ, List, ◌++◌, take}
use Rattle.vw_encode.specs.search.Buffer.{Holds}
use Rattle.vw_encode.proofs.buffer.push_all.Given as goal

abbrev pub invariant-loop-byte : goal.invariant-loop-byte
invariant-loop-byte l = (xs : List ℕ) → Holds l.initial.all xs → Holds l.all (xs ++ take l.byte-index l.bytes)
