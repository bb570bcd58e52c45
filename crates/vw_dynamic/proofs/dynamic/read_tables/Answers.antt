use Rattle.std.proofs.Common.{◌≡◌, ◌∷◌, [], ◌+◌, ◌≤◌, ◌^◌, ℕ, List, IfOk, length, Option, Some, None, refl, ap, subst, ◌∙◌, arith, rules}
use Rattle.std.specs.List.{find}
use Rattle.std.proofs.lemmas.Result.{err_from_is_err_and, on_ok_weaker, MatchResult-weaker}
use Rattle.vw_bits.specs.Bounds.{AreBounded}
use Rattle.vw_bits.specs.Rules.{lowest_broken, AllHold}
use Rattle.vw_bits.specs.declared.records.Segment.{Segment}
use Rattle.vw_bits.proofs.BoundLemmas.{AreBounded-widen}
use Rattle.vw_bits.proofs.FaultLemmas.{names_here, names_front, names_behind, holds_next, holds_append}
use Rattle.vw_bits.proofs.RuleLemmas.{lowest-shift, lowest-each}
use Rattle.vw_dynamic.specs.Faults.{fault_in, Names, Tells}
use Rattle.vw_dynamic.specs.Directory.{directory_of}
use Rattle.vw_dynamic.specs.Relas.{relas_of, rela_offset}
use Rattle.vw_dynamic.specs.Targets.{strings_of, is_unresolved, imports_of, relocations_of}
use Rattle.vw_dynamic.specs.Dynamic.{entry_rules, place_rules, rela_rules, rules_behind, imports_in, relocations_in}
use Rattle.vw_dynamic.specs.declared.entries.Entry.{Entry}
use Rattle.vw_dynamic.specs.declared.directory.Directory.{Directory}
use Rattle.vw_dynamic.specs.declared.relas.RelaEntry.{RelaEntry}
use Rattle.vw_dynamic.specs.declared.dynamic.Relocation.{Relocation}
use Rattle.vw_dynamic.specs.declared.faults.DynError.{DynError}
use Rattle.vw_dynamic.proofs.BoundLemmas.{relas-few}
use Rattle.vw_dynamic.proofs.dynamic.read_tables.Goals as goal

unfound : (found : Option RelaEntry) → rela_offset found ≡ None → found ≡ None
unfound None none = refl
unfound (Some r) none = cc

small_of : (bytes : List ℕ) (segments : List Segment) → length bytes ≤ 2 ^ 32 → AreBounded (length bytes) segments → AreBounded (2 ^ 64) segments
small_of bytes segments few inside = AreBounded-widen (length bytes) (2 ^ 64) segments (omega (arith, few)) inside

-- the directory, the strings and the relocations of these entries
module _ (bytes : List ℕ) (segments : List Segment) (entries : List Entry) (d : Directory) (strings : List ℕ) (relas : List RelaEntry) (is : d ≡ directory_of entries) (text : strings ≡ strings_of bytes segments d) (read : relas ≡ relas_of bytes segments d) where
  abbrev last : Option ℕ
  last = rela_offset (find (is_unresolved bytes segments strings d.symtab) relas)

  rules_along : rela_rules bytes segments strings d.symtab relas ≡ rela_rules bytes segments (strings_of bytes segments (directory_of entries)) (directory_of entries).symtab (relas_of bytes segments (directory_of entries))
  rules_along =
      ap (λ (s : List ℕ). rela_rules bytes segments s d.symtab relas) text
      ∙ ap (λ (r : List RelaEntry). rela_rules bytes segments (strings_of bytes segments d) d.symtab r) read
      ∙ ap (λ (x : Directory). rela_rules bytes segments (strings_of bytes segments x) x.symtab (relas_of bytes segments x)) is

  imports_along : imports_of bytes segments strings d.symtab relas ≡ imports_in bytes segments (directory_of entries)
  imports_along =
      ap (λ (s : List ℕ). imports_of bytes segments s d.symtab relas) text
      ∙ ap (λ (r : List RelaEntry). imports_of bytes segments (strings_of bytes segments d) d.symtab r) read
      ∙ ap (λ (x : Directory). imports_in bytes segments x) is

  relocations_along : relocations_of bytes segments strings d.symtab (imports_of bytes segments strings d.symtab relas) relas ≡ relocations_in bytes segments (directory_of entries)
  relocations_along =
      ap (λ (s : List ℕ). relocations_of bytes segments s d.symtab (imports_of bytes segments s d.symtab relas) relas) text
      ∙ ap (λ (r : List RelaEntry). relocations_of bytes segments (strings_of bytes segments d) d.symtab (imports_of bytes segments (strings_of bytes segments d) d.symtab r) r) read
      ∙ ap (λ (x : Directory). relocations_in bytes segments x) is

  module _ (hold : AllHold (entry_rules segments entries)) where
    entries_count : 18 + length (entry_rules segments entries) ≡ 23
    unfolding entry_rules
    entries_count = refl

    in_relas : (e : DynError) → Names (lowest_broken 23 (rela_rules bytes segments strings d.symtab relas)) e → Names (lowest_broken 18 (rules_behind bytes segments entries)) e
    in_relas e names =
        let P : List (Option ℕ) → Type 0 = λ rules. Names (lowest_broken 23 rules) e in
        names_behind 18 23 (entry_rules segments entries) _ (fault_in e) hold entries_count (subst P rules_along names)

    in_places : (e : DynError) → Names (lowest_broken 23 (place_rules segments relas)) e → Names (lowest_broken 18 (rules_behind bytes segments entries)) e
    unfolding rela_rules
    in_places e names = in_relas e (names_front 23 (place_rules segments relas) (last ∷ []) (fault_in e) names)

    module _ (places : AllHold (place_rules segments relas)) where
      in_last : (e : DynError) → Tells 26 last e → Names (lowest_broken 18 (rules_behind bytes segments entries)) e
      unfolding rela_rules
      in_last e tells = in_relas e (names_behind 23 26 (place_rules segments relas) (last ∷ []) (fault_in e) places refl (names_here 26 last last [] (fault_in e) refl tells))

      none_broken : find (is_unresolved bytes segments strings d.symtab) relas ≡ None → AllHold (rules_behind bytes segments entries)
      unfolding rela_rules
      none_broken none =
          let rest : lowest_broken 26 (last ∷ []) ≡ None = holds_next 26 last last [] refl (ap rela_offset none) refl in
          let all : lowest_broken 23 (rela_rules bytes segments strings d.symtab relas) ≡ None = holds_append 23 26 (place_rules segments relas) (last ∷ []) places refl rest in
          let P : List (Option ℕ) → Type 0 = λ rules. lowest_broken 23 rules ≡ None in
          lowest-shift 18 1 (rules_behind bytes segments entries) (holds_append 18 23 (entry_rules segments entries) _ hold entries_count (subst P rules_along all))

pub returns-in_err-directory-clause-fault : goal.returns-in_err-directory-clause-fault
returns-in_err-directory-clause-fault c =
    let p = err_from_is_err_and c.from_residual.result c.from_residual.ensures.1 in
    rw (p.1, p.2) (names_front 18 (entry_rules c.args.segments.now c.args.entries.now) _ (fault_in c.in_err-directory.field-0.0) c.in_err-directory.ensures.fault)

pub check_entries-requires : goal.check_entries-requires
check_entries-requires c = small_of _ _ c.requires.few c.requires.inside

pub strings_of-strings-requires-clause-small : goal.strings_of-strings-requires-clause-small
strings_of-strings-requires-clause-small c = small_of _ _ c.requires.few c.requires.inside

pub read_relas-requires-clause-small : goal.read_relas-requires-clause-small
read_relas-requires-clause-small c = small_of _ _ c.requires.few c.requires.inside

pub returns-in_err-check_relas-clause-fault : goal.returns-in_err-check_relas-clause-fault
returns-in_err-check_relas-clause-fault c =
    let read : c.in_ok-found.found.items ≡ relas_of c.args.bytes.now c.args.segments.now c.in_ok-directory.directory = search rules in
    let p = err_from_is_err_and c.from_residual-in_err-check_relas.result c.from_residual-in_err-check_relas.ensures.1 in
    rw (p.1, p.2) (in_places c.args.bytes.now c.args.segments.now c.args.entries.now c.in_ok-directory.directory _ _ c.in_ok-directory.ensures.ok c.strings_of-strings.ensures (c.as_slice-relas.ensures.value ∙ read) c.in_ok-directory.ensures.rules _ c.in_err-check_relas.ensures.fault)

pub resolve-requires-clause-small : goal.resolve-requires-clause-small
resolve-requires-clause-small c = small_of _ _ c.requires.few c.requires.inside

pub resolve-requires-clause-few : goal.resolve-requires-clause-few
resolve-requires-clause-few c =
    let read : c.in_ok-found.found.items ≡ relas_of c.args.bytes.now c.args.segments.now c.in_ok-directory.directory = search rules in
    let count : length c.as_slice-relas.result.now ≡ length (relas_of c.args.bytes.now c.args.segments.now c.in_ok-directory.directory) = ap length (c.as_slice-relas.ensures.value ∙ read) in
    let few = relas-few c.args.bytes.now c.args.segments.now c.in_ok-directory.directory c.requires.inside in
    omega (arith, few, count)

pub resolve-requires-clause-known : goal.resolve-requires-clause-known
resolve-requires-clause-known c =
    unfound _ (lowest-each 1 (place_rules c.args.segments.now c.as_slice-relas.result.now) c.in_ok-check_relas.ensures.rules 0)

pub returns-clause-ok : goal.returns-clause-ok
returns-clause-ok c =
    let read : c.in_ok-found.found.items ≡ relas_of c.args.bytes.now c.args.segments.now c.in_ok-directory.directory = search rules in
    on_ok_weaker c.resolve.result (none_broken c.args.bytes.now c.args.segments.now c.args.entries.now c.in_ok-directory.directory _ _ c.in_ok-directory.ensures.ok c.strings_of-strings.ensures (c.as_slice-relas.ensures.value ∙ read) c.in_ok-directory.ensures.rules c.in_ok-check_relas.ensures.rules) c.resolve.ensures.ok

pub returns-clause-fault : goal.returns-clause-fault
returns-clause-fault c =
    let read : c.in_ok-found.found.items ≡ relas_of c.args.bytes.now c.args.segments.now c.in_ok-directory.directory = search rules in
    MatchResult-weaker c.resolve.result c.resolve.ensures.fault (λ _ holds. holds) (in_last c.args.bytes.now c.args.segments.now c.args.entries.now c.in_ok-directory.directory _ _ c.in_ok-directory.ensures.ok c.strings_of-strings.ensures (c.as_slice-relas.ensures.value ∙ read) c.in_ok-directory.ensures.rules c.in_ok-check_relas.ensures.rules)

pub returns-clause-relocations : goal.returns-clause-relocations
returns-clause-relocations c =
    let read : c.in_ok-found.found.items ≡ relas_of c.args.bytes.now c.args.segments.now c.in_ok-directory.directory = search rules in
    let P : List Relocation → Type 0 = λ relocations. IfOk c.resolve.result (λ dynamic. dynamic.relocations ≡ relocations) in
    subst P (relocations_along c.args.bytes.now c.args.segments.now c.args.entries.now c.in_ok-directory.directory _ _ c.in_ok-directory.ensures.ok c.strings_of-strings.ensures (c.as_slice-relas.ensures.value ∙ read)) c.resolve.ensures.relocations

pub returns-clause-imports : goal.returns-clause-imports
returns-clause-imports c =
    let read : c.in_ok-found.found.items ≡ relas_of c.args.bytes.now c.args.segments.now c.in_ok-directory.directory = search rules in
    let P : List (List ℕ) → Type 0 = λ names. IfOk c.resolve.result (λ dynamic. dynamic.imports ≡ names) in
    subst P (imports_along c.args.bytes.now c.args.segments.now c.args.entries.now c.in_ok-directory.directory _ _ c.in_ok-directory.ensures.ok c.strings_of-strings.ensures (c.as_slice-relas.ensures.value ∙ read)) c.resolve.ensures.imports
