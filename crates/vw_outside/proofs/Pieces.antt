-- Bytes that are written or read piece by piece.
use Rattle.std.proofs.Common.{◌≡◌, ℕ, ◌+◌, ◌-◌, ◌≤◌, List, ◌++◌, length, take, drop, sym, ◌∙◌, ap, arith, is_some, append_assoc, length-drop}
use Rattle.std.specs.Prelude.{Option, Some, None}
use Rattle.std.proofs.lemmas.List.{take_all}
use Rattle.std.proofs.Math.Seq.{take-add}
use Rattle.vw_outside.specs.Sink.{Appended}

-- what a loop of writes keeps: the first `done` bytes of `piece` were appended
pub record WrittenSoFar (old new : Option (List ℕ)) (faults_old faults_new : ℕ) (piece : List ℕ) (done : ℕ) : Type 0 where
  pub within : done ≤ length piece
  pub told : is_some new ≡ is_some old
  pub appended : Appended old new (take done piece)
  pub count : faults_old ≤ faults_new

appended_more_told : (bytes : List ℕ) (mid new : Option (List ℕ)) (piece : List ℕ) (done count : ℕ) → mid ≡ Some (bytes ++ take done piece) → Appended mid new (take count (drop done piece)) → new ≡ Some (bytes ++ take (done + count) piece)
appended_more_told bytes mid new piece done count e a =
    let told : Appended (Some (bytes ++ take done piece)) new (take count (drop done piece)) = rw e at a in
    told ∙ ap Some (append_assoc bytes (take done piece) (take count (drop done piece)) ∙ ap (λ (t : List ℕ). bytes ++ t) (sym (take-add done count piece)))

appended_more_of : (old mid new : Option (List ℕ)) (piece : List ℕ) (done count : ℕ) → Appended old mid (take done piece) → Appended mid new (take count (drop done piece)) → Appended old new (take (done + count) piece)
appended_more_of None mid new piece done count e a = tt
appended_more_of (Some bytes) mid new piece done count e a = appended_more_told bytes mid new piece done count e a

-- the front of the rest of a piece was appended after the first `done` bytes
pub appended_more : (old mid new : Option (List ℕ)) (piece : List ℕ) (done count : ℕ) → Appended old mid (take done piece) → Appended mid new (take count (take (length piece - done) (drop done piece))) → Appended old new (take (done + count) piece)
appended_more old mid new piece done count e a =
    let whole : take (length piece - done) (drop done piece) ≡ drop done piece = take_all (length piece - done) (drop done piece) (omega (arith, length-drop done piece)) in
    appended_more_of old mid new piece done count e (rw whole at a)
