use Rattle.std.proofs.Common.{◌≡◌, ℕ, ◌+◌, ◌*◌, ◌++◌, ◌==◌, [], ◌∷◌, Bool, true, false, not, List, map, refl, sym, ap, ◌∙◌, append_assoc, arith, Vec, Global}
use Rattle.std.specs.List.{filter, list_any}
use Rattle.std.proofs.lemmas.List.{append-nil}
use Rattle.vw_bits.specs.Headers.{table}
use Rattle.vw_bits.proofs.Tables.{table-none, kept_more}
use Rattle.vw_dynamic.specs.Relas.{rela_at}
use Rattle.vw_dynamic.specs.declared.relas.RelaEntry.{RelaEntry}
use Rattle.vw_dynamic.proofs.relas.append_others.Goals as goal
use Rattle.vw_dynamic.proofs.relas.append_others.Goals.{then-not-begins_entry+in_ok-push, else-not-begins_entry}

pushed : {X : Type 0} (f : ℕ → X) (p : ℕ → Bool) (at size n x : ℕ) (front kept longer : List X) → x ≡ at + size * n → kept ≡ front ++ map f (filter p (table at size n)) → p x ≡ true → longer ≡ kept ++ f x ∷ [] → longer ≡ front ++ map f (filter p (table at size (n + 1)))
pushed f p at size n x front kept longer is before here grown =
    rw (kept_more f p at size n x is, here, ← append_assoc, ← before) grown

skipped : {X : Type 0} (f : ℕ → X) (p : ℕ → Bool) (at size n x : ℕ) (front kept : List X) → x ≡ at + size * n → kept ≡ front ++ map f (filter p (table at size n)) → p x ≡ false → kept ≡ front ++ map f (filter p (table at size (n + 1)))
skipped f p at size n x front kept is before here =
    rw (kept_more f p at size n x is, here, append-nil) before

pub loop-index-init : goal.loop-index-init
loop-index-init c = rw table-none (sym (append-nil _))

pub loop-index-preserved : goal.loop-index-preserved
loop-index-preserved c =
    let bytes = c.args.bytes.now in
    let at = c.args.second.offset + 24 * c.loop-index.index in
    let test : ℕ → Bool = λ at. not (list_any (λ other. other == at) (table c.args.first.offset 24 c.args.first.count)) in
    elim c.if-not-begins_entry.branch [
      | then-not-begins_entry+in_ok-push w ↦
          pushed (rela_at bytes) test _ 24 _ at _ _ _ refl c.loop-index.invariant (ap not (sym c.begins_entry.ensures ∙ w.if-not-begins_entry.true)) (ap (λ (v : Vec RelaEntry Global). v.items) w.relas-is ∙ w.in_ok-push.ensures.items ∙ ap (λ (item : RelaEntry). c.loop-index.relas.items ++ item ∷ []) w.rela_at.ensures)
      | else-not-begins_entry w ↦
          ap (λ (v : Vec RelaEntry Global). v.items) w.relas-is ∙ skipped (rela_at bytes) test _ 24 _ at _ _ refl c.loop-index.invariant (ap not (sym c.begins_entry.ensures ∙ w.if-not-begins_entry.false))
    ]

pub returns : goal.returns
returns c =
    let all : c.loop-index.index ≡ c.args.second.count = omega arith in
    rw (← all) c.loop-index.invariant
