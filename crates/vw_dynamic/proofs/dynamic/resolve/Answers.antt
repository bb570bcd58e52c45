use Rattle.std.proofs.Common.{◌≡◌, ◌≤◌, ◌<◌, ◌+◌, ◌++◌, [], ◌∷◌, ℕ, zero, suc, List, Option, Some, None, Bool, not, cond, true, false, length, length-append, take, get_or, refl, sym, ap, subst, ◌∙◌, arith, rules}
use Rattle.std.specs.List.{filter_map, find, list_any}
use Rattle.std.specs.Str.{bytes_eq}
use Rattle.std.proofs.lemmas.Result.{err_from_is_err_and}
use Rattle.std.proofs.lemmas.List.{map-append, append-nil, take_more, take_all}
use Rattle.std.proofs.lemmas.List.Elements.{filter-append, filter_map-append}
use Rattle.std.proofs.lemmas.List.Sums.{fold-append}
use Rattle.std.proofs.lemmas.Bool.Decides.{nat_tests}
use Rattle.vw_bits.specs.Rules.{unless}
use Rattle.vw_bits.specs.declared.records.Segment.{Segment}
use Rattle.vw_dynamic.specs.Faults.{Tells}
use Rattle.vw_dynamic.specs.Names.{distinct}
use Rattle.vw_dynamic.specs.Relas.{is_known, is_none_kind, rela_offset}
use Rattle.vw_dynamic.specs.Targets.{is_symbolic, is_unresolved, import_of, imports_of, kind_of, relocation_of, relocations_of}
use Rattle.vw_dynamic.specs.declared.faults.DynError.{DynError}
use Rattle.vw_dynamic.specs.declared.faults.DynError.TheVariants.{Fault, Memory}
use Rattle.vw_dynamic.specs.declared.relas.RelaEntry.{RelaEntry}
use Rattle.vw_dynamic.specs.declared.dynamic.Relocation.{Relocation}
use Rattle.vw_dynamic.specs.declared.dynamic.RelKind.{RelKind}
use Rattle.vw_bits.proofs.ListLemmas.{find_here, find_more}
use Rattle.vw_dynamic.proofs.ImportLemmas.{with_import, AreThere, there-more, kept, kept_stay}
use Rattle.vw_dynamic.proofs.dynamic.resolve.Goals as goal
use Rattle.vw_dynamic.proofs.dynamic.resolve.Goals.{then-rela-ne-R_NONE+in_ok-kind+in_ok-map_err, else-rela-ne-R_NONE}

abbrev blank : RelaEntry
blank = record { at = 0; place = 0; symbol = 0; kind = 0; addend = 0 }

-- ---- items of which none passes

not_here : {X : Type 0} (x : X) (rest : Option X) (passes : Bool) → cond passes (Some x) rest ≡ None → (passes ≡ false) × (rest ≡ None)
not_here x rest true none = cc
not_here x rest false none = (refl, none)

none_at : {X : Type 0} (p : X → Bool) (xs : List X) (i : ℕ) (d : X) → find p xs ≡ None → i < length xs → p (get_or xs i d) ≡ false
none_at p [] i d none inside = absurd (omega arith)
none_at p (x ∷ xs) zero d none inside = (not_here x (find p xs) (p x) none).0
none_at p (x ∷ xs) (suc i) d none inside = none_at p xs i d (not_here x (find p xs) (p x) none).1 (omega arith)

not_false : (b : Bool) → not b ≡ false → b ≡ true
not_false true is = refl
not_false false is = cc

-- ---- names and relocations, when one relocation more is looked at

one_longer : (names : List (List ℕ)) (name : List ℕ) (found : Bool) → length (cond found names (names ++ name ∷ [])) ≤ length names + 1
one_longer names name true = omega arith
one_longer names name false = omega (arith, length-append {A = List ℕ})

few_more : (names : List (List ℕ)) (name : Option (List ℕ)) → length (with_import names name) ≤ length names + 1
few_more names None = omega arith
few_more names (Some name) = one_longer names name (list_any (bytes_eq name) names)

names_more : (f : RelaEntry → Option (List ℕ)) (before : List RelaEntry) (r : RelaEntry) (old : List (List ℕ)) (name : Option (List ℕ)) → f r ≡ name → old ≡ distinct (filter_map f before) → with_import old name ≡ distinct (filter_map f (before ++ r ∷ []))
unfolding distinct
names_more f before r old None is same = rw (filter_map-append, is, append-nil) same
names_more f before r old (Some name) is same = rw (filter_map-append, is, fold-append, ← same) refl

module _ (bytes : List ℕ) (segments : List Segment) (strings : List ℕ) (symtab : Option ℕ) where
  abbrev f : RelaEntry → Option (List ℕ)
  f r = import_of bytes segments strings symtab r

  abbrev u : RelaEntry → Bool
  u r = is_unresolved bytes segments strings symtab r

  kept_more : (names : List (List ℕ)) (before : List RelaEntry) (r : RelaEntry) → (r.kind ≡ 0 → ⊥) → kept bytes segments strings symtab names (before ++ r ∷ []) ≡ kept bytes segments strings symtab names before ++ relocation_of bytes segments strings symtab names r ∷ []
  kept_more names before r some =
      let test : is_none_kind r ≡ false = grind (arith, nat_tests) in
      rw (filter-append, test, map-append) refl

  kept_none : (names : List (List ℕ)) (before : List RelaEntry) (r : RelaEntry) → r.kind ≡ 0 → kept bytes segments strings symtab names (before ++ r ∷ []) ≡ kept bytes segments strings symtab names before
  kept_none names before r none =
      let test : is_none_kind r ≡ true = grind (arith, nat_tests) in
      rw (filter-append, test, append-nil) refl

  none_names : (r : RelaEntry) → r.kind ≡ 0 → f r ≡ None
  unfolding import_of
  none_names r none =
      let test : is_symbolic r ≡ false = grind (arith, nat_tests) in
      rw test refl

  none_resolved : (r : RelaEntry) → r.kind ≡ 0 → u r ≡ false
  none_resolved r none =
      let test : is_symbolic r ≡ false = grind (arith, nat_tests) in
      rw test refl

  fault_here : (xs : List RelaEntry) (i : ℕ) (e : DynError) (broken : Bool) → i < length xs → find u (take i xs) ≡ None → u (get_or xs i blank) ≡ broken → Tells 26 (unless (not broken) (get_or xs i blank).at) e → Tells 26 (rela_offset (find u xs)) e
  fault_here xs i (Memory _) broken inside before here tells = tt
  fault_here xs i (Fault rule offset) false inside before here tells = absurd cc
  fault_here xs i (Fault rule offset) true inside before here tells =
      let found : find u xs ≡ Some (get_or xs i blank) = find_here u xs i blank inside before here in
      (tells.0, rw found tells.1)

pub loop-rela-init : goal.loop-rela-init
unfolding distinct
loop-rela-init c = record { resolved = refl; names = c.new-imports.ensures; few = rw c.new-imports.ensures (omega arith); there = tt; kinds = c.new-relocations.ensures }

pub kind_of-requires-clause-known : goal.kind_of-requires-clause-known
kind_of-requires-clause-known c =
    not_false _ (none_at (λ r. not (is_known r)) c.args.relas.now c.loop-rela.rela-index blank c.requires.known c.loop-rela-test.true)

pub returns-in_err-kind-clause-fault : goal.returns-in_err-kind-clause-fault
returns-in_err-kind-clause-fault c =
    let xs = c.args.relas.now in
    let i = c.loop-rela.rela-index in
    let p = err_from_is_err_and c.from_residual.result c.from_residual.ensures.1 in
    rw (p.1, p.2) (fault_here c.args.bytes.now c.args.segments.now c.args.strings.now c.args.symtab xs i _ (is_unresolved c.args.bytes.now c.args.segments.now c.args.strings.now c.args.symtab (get_or xs i blank)) c.loop-rela-test.true c.loop-rela.invariant.resolved refl c.in_err-kind.ensures.fault)

pub loop-rela-preserved : goal.loop-rela-preserved
loop-rela-preserved c =
    let xs = c.args.relas.now in
    let i = c.loop-rela.rela-index in
    let r = get_or xs i blank in
    let names = c.loop-rela.imports in
    let bytes = c.args.bytes.now in
    let segments = c.args.segments.now in
    let strings = c.args.strings.now in
    let symtab = c.args.symtab in
    let of : RelaEntry → Option (List ℕ) = import_of bytes segments strings symtab in
    let step : take (i + 1) xs ≡ take i xs ++ r ∷ [] = take_more xs i blank c.loop-rela-test.true in
    let held = c.loop-rela.invariant in
    elim c.if-rela-ne-R_NONE.branch [
      | then-rela-ne-R_NONE+in_ok-kind+in_ok-map_err w ↦
          let kind : w.in_ok-kind.kind ≡ kind_of bytes segments strings symtab w.kind_of.new.imports r = w.in_ok-kind.ensures.kind in
          let grown : w.kind_of.new.imports ≡ with_import names (of r) = w.in_ok-kind.ensures.imports in
          let item : RelKind → Relocation = λ k. record { place = r.place; kind = k; at = r.at } in
          let pushed : w.push.new.self ≡ c.loop-rela.relocations ++ item w.in_ok-kind.kind ∷ [] = search rules in
          let before : c.loop-rela.relocations ≡ kept bytes segments strings symtab (with_import names (of r)) (take i xs) = held.kinds ∙ kept_stay bytes segments strings symtab names (of r) (take i xs) held.there in
          record {
            resolved = find_more (is_unresolved bytes segments strings symtab) xs i blank c.loop-rela-test.true held.resolved w.in_ok-kind.ensures.ok;
            names = rw (w.imports-is, grown, step) (names_more of (take i xs) r names (of r) refl held.names);
            few = rw (w.imports-is, grown) (omega (arith, few_more names (of r), held.few));
            there = rw (w.imports-is, grown, step) (there-more of names (take i xs) r held.there);
            kinds = rw (w.relocations-is, w.imports-is, pushed, kind, grown, step, before) (sym (kept_more bytes segments strings symtab (with_import names (of r)) (take i xs) r w.if-rela-ne-R_NONE.true));
          }
      | else-rela-ne-R_NONE w ↦
          let none : r.kind ≡ 0 = w.if-rela-ne-R_NONE.false in
          let nameless : of r ≡ None = none_names bytes segments strings symtab r none in
          let P : Option (List ℕ) → Type 0 = λ n. AreThere of (with_import names n) (take i xs ++ r ∷ []) in
          record {
            resolved = find_more (is_unresolved bytes segments strings symtab) xs i blank c.loop-rela-test.true held.resolved (none_resolved bytes segments strings symtab r none);
            names = rw (w.imports-is, step) (names_more of (take i xs) r names None nameless held.names);
            few = rw w.imports-is (omega (arith, held.few));
            there = rw (w.imports-is, step) (subst P nameless (there-more of names (take i xs) r held.there));
            kinds = rw (w.relocations-is, w.imports-is, step) (held.kinds ∙ sym (kept_none bytes segments strings symtab names (take i xs) r none));
          }
    ]

pub returns-clause-imports : goal.returns-clause-imports
unfolding imports_of
returns-clause-imports c =
    c.loop-rela.invariant.names ∙ ap (λ (relas : List RelaEntry). distinct (filter_map (import_of c.args.bytes.now c.args.segments.now c.args.strings.now c.args.symtab) relas)) (take_all c.loop-rela.rela-index c.args.relas.now c.loop-rela-test.false)

pub returns-clause-relocations : goal.returns-clause-relocations
unfolding relocations_of imports_of
returns-clause-relocations c =
    let bytes = c.args.bytes.now in
    let segments = c.args.segments.now in
    let strings = c.args.strings.now in
    let symtab = c.args.symtab in
    let all = take_all c.loop-rela.rela-index c.args.relas.now c.loop-rela-test.false in
    let names : c.loop-rela.imports ≡ imports_of bytes segments strings symtab c.args.relas.now = c.loop-rela.invariant.names ∙ ap (λ (relas : List RelaEntry). distinct (filter_map (import_of bytes segments strings symtab) relas)) all in
    c.loop-rela.invariant.kinds ∙ ap (kept bytes segments strings symtab c.loop-rela.imports) all ∙ ap (λ (n : List (List ℕ)). kept bytes segments strings symtab n c.args.relas.now) names
