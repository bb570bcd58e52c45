-- What rule 36 gives of the imports: their names differ, each is the name of a bound import, so that there are at
-- most 65,536.
use Rattle.std.proofs.Common.{◌≡◌, ℕ, ◌≤◌, ◌<◌, ◌==◌, Bool, true, false, not, cond, nat_lt, List, [], ◌∷◌, ◌++◌, length, get_or, map, filter, All, AllPairs, fold, Option, Some, None, IfSome, option_map, unwrap_or, refl, sym, ap, ◌∙◌, arith, ⊎_elim, subst}
use Rattle.std.proofs.lemmas.Option.{slice_get_within, get_or_from_slice_get}
use Rattle.std.specs.List.{slice_get, find, filter_map, cons_option, list_any, position, position_or_len}
use Rattle.std.specs.Option.{option_map_or}
use Rattle.std.specs.Str.{bytes_eq}
use Rattle.std.proofs.lemmas.Bool.{false≢true, cases_lt}
use Rattle.std.proofs.lemmas.Bool.Decides.{nat_tests}
use Rattle.std.proofs.lemmas.List.Elements.{All-nil, All-cons, All-head, All-tail, All-push, All-get_or}
use Rattle.std.proofs.lemmas.List.Folds.{list_any_at}
use Rattle.std.proofs.lemmas.List.Quantifiers.{all_pairs_push}
use Rattle.std.proofs.lemmas.List.Sums.{position_or_len_is}
use Rattle.std.proofs.lemmas.Slice.Eq.{bytes_eq-Decides}
use Rattle.vw_bits.specs.declared.records.Segment.{Segment}
use Rattle.vw_bits.proofs.RuleLemmas.{lowest-each}
use Rattle.vw_dynamic.specs.Names.{with_name, distinct}
use Rattle.vw_dynamic.specs.Relas.{is_none_kind}
use Rattle.vw_dynamic.specs.Targets.{is_symbolic, import_of, imports_of, kind_of, relocation_of, relocations_of}
use Rattle.vw_dynamic.specs.Dynamic.{file_imports, file_relocations}
use Rattle.vw_dynamic.specs.declared.relas.RelaEntry.{RelaEntry}
use Rattle.vw_dynamic.specs.declared.dynamic.Relocation.{Relocation}
use Rattle.vw_dynamic.specs.declared.dynamic.RelKind.{RelKind}
use Rattle.vw_dynamic.specs.declared.dynamic.RelKind.TheVariants.{Bound}
use Rattle.vw_layout.specs.Functions.{function_rules}
use Rattle.vw_layout.specs.Tables.{table_rules}
use Rattle.vw_layout.specs.Layout.{is_late, import_rule, layout_fault, layout_rules, IsModule}
use Rattle.vw_layout.proofs.ShortLemmas.{find_none-All}
use Rattle.vw_layout.proofs.CodeLemmas.{layout_holds}

-- lists

All-option : {Y : Type 0} (P : Y → Type 0) (o : Option Y) (ys : List Y) → IfSome o P → All P ys → All P (cons_option o ys)
All-option P None ys holds all = all
All-option P (Some y) ys holds all = All-cons P y ys holds all

All-given : {X Y : Type 0} (g : X → Option Y) (P : Y → Type 0) (xs : List X) → All (λ x. IfSome (g x) P) xs → All P (filter_map g xs)
All-given g P [] all = All-nil P
All-given g P (x ∷ xs) all =
    All-option P (g x) (filter_map g xs) (All-head (λ x. IfSome (g x) P) x xs all) (All-given g P xs (All-tail (λ x. IfSome (g x) P) x xs all))

fails_at : {X : Type 0} (p : X → Bool) (xs : List X) (k : ℕ) (d : X) → list_any p xs ≡ false → k < length xs → p (get_or xs k d) ≡ false
fails_at p xs k d none inside = unpassed (p (get_or xs k d)) (λ passes. false≢true (sym none ∙ list_any_at p xs k d inside passes))
  where
    unpassed : (passes : Bool) → (passes ≡ true → ⊥) → passes ≡ false
    unpassed true never = absurd (never refl)
    unpassed false never = refl

unfound_place : {X : Type 0} (f : X → ℕ) (found : Option X) → option_map f found ≡ None → found ≡ None
unfound_place f None none = refl
unfound_place f (Some x) none = cc

-- names, each once

-- no name is one of those before it
abbrev Differ : List (List ℕ) → Type 0
Differ names = AllPairs (λ a b. bytes_eq b a ≡ false) names

differ_more : (names : List (List ℕ)) (name : List ℕ) (there : Bool) → list_any (bytes_eq name) names ≡ there → Differ names → Differ (cond there names (names ++ name ∷ []))
differ_more names name true is differ = differ
differ_more names name false is differ =
    all_pairs_push (λ a b. bytes_eq b a ≡ false) names name differ (λ k d inside. fails_at (bytes_eq name) names k d is inside)

differ_all : (names more : List (List ℕ)) → Differ names → Differ (fold with_name names more)
differ_all names [] differ = differ
differ_all names (name ∷ more) differ =
    differ_all (with_name names name) more (differ_more names name (list_any (bytes_eq name) names) refl differ)

differ_distinct : (names : List (List ℕ)) → Differ (distinct names)
unfolding distinct
differ_distinct names = differ_all [] names (λ j k d before inside. absurd (omega arith))

All-more : (P : List ℕ → Type 0) (names : List (List ℕ)) (name : List ℕ) (there : Bool) → All P names → P name → All P (cond there names (names ++ name ∷ []))
All-more P names name true all here = all
All-more P names name false all here = All-push P names name all here

All-once : (P : List ℕ → Type 0) (names more : List (List ℕ)) → All P names → All P more → All P (fold with_name names more)
All-once P names [] all rest = all
All-once P names (name ∷ more) all rest =
    All-once P (with_name names name) more (All-more P names name (list_any (bytes_eq name) names) all (All-head P name more rest)) (All-tail P name more rest)

All-distinct : (P : List ℕ → Type 0) (names : List (List ℕ)) → All P names → All P (distinct names)
unfolding distinct
All-distinct P names all = All-once P [] names (All-nil P) all

-- the number of a name is its place
own_number : (names : List (List ℕ)) (k : ℕ) → Differ names → k < length names → position (bytes_eq (get_or names k [])) names ≡ Some k
own_number names k differ inside =
    let name = get_or names k [] in
    let at : position_or_len (bytes_eq name) names ≡ k =
    position_or_len_is (bytes_eq name) names k [] (omega (arith, inside)) (λ j before. differ j k [] before inside) (λ _. (bytes_eq-Decides name name).1 refl) in
    let test : nat_lt k (length names) ≡ true = grind (arith, nat_tests, inside) in
    rw (at, test) refl

-- a name's number is below a bound
abbrev IsBelow : ℕ → List (List ℕ) → List ℕ → Type 0
IsBelow most names name = unwrap_or (position (bytes_eq name) names) 0 < most

few_below : (most : ℕ) (names : List (List ℕ)) → Differ names → All (IsBelow most names) names → length names ≤ most
few_below most names differ below =
    ⊎_elim
    (λ inside.
    let number : unwrap_or (position (bytes_eq (get_or names most [])) names) 0 ≡ most = ap (λ (n : Option ℕ). unwrap_or n 0) (own_number names most differ inside) in
    let low : unwrap_or (position (bytes_eq (get_or names most [])) names) 0 < most = All-get_or (IsBelow most names) names most [] inside below in
    absurd (omega (arith, number, low)))
    (λ few. few)
    (cases_lt most (length names))

-- relocations

symbolic_kinds : (r : RelaEntry) → is_symbolic r ≡ true → ((r.kind == 8) ≡ false) × ((r.kind == 0) ≡ false)
symbolic_kinds r is = (grind (arith, nat_tests, is), grind (arith, nat_tests, is))

module _ (bytes : List ℕ) (segments : List Segment) (strings : List ℕ) (symtab : Option ℕ) (imports : List (List ℕ)) where
  abbrev of : RelaEntry → Option (List ℕ)
  of = import_of bytes segments strings symtab

  abbrev made : RelaEntry → Relocation
  made = relocation_of bytes segments strings symtab imports

  abbrev IsEarly : Relocation → Type 0
  IsEarly m = is_late m.kind ≡ false

  unnamed : (r : RelaEntry) → is_symbolic r ≡ false → of r ≡ None
  unfolding import_of
  unnamed r is = rw is refl

  below_of : (found : Option (List ℕ)) (base : RelKind) → is_late (option_map_or (λ name. Bound (unwrap_or (position (bytes_eq name) imports) 0)) found base) ≡ false → IfSome found (IsBelow 65536 imports)
  below_of None base early = tt
  below_of (Some name) base early = grind (arith, nat_tests, early)

  named_below : (r : RelaEntry) → (r.kind == 8) ≡ false → is_late (kind_of bytes segments strings symtab imports r) ≡ false → IfSome (of r) (IsBelow 65536 imports)
  unfolding kind_of
  named_below r not early = below_of (of r) _ (rw not at early)

  rest_early : (r : RelaEntry) (rest : List RelaEntry) (kept : Bool) → All IsEarly (map made (cond kept (r ∷ rest) rest)) → All IsEarly (map made rest)
  rest_early r rest true all = All-tail IsEarly (made r) (map made rest) all
  rest_early r rest false all = all

  this_below : (r : RelaEntry) (rest : List RelaEntry) (symbolic : Bool) → is_symbolic r ≡ symbolic → All IsEarly (map made (cond (not (is_none_kind r)) (r ∷ rest) rest)) → IfSome (of r) (IsBelow 65536 imports)
  this_below r rest true is all =
      let kinds = symbolic_kinds r is in
      named_below r kinds.0 (All-head IsEarly (made r) (map made rest) (rw kinds.1 at all))
  this_below r rest false is all = rw (unnamed r is) tt

  each_below : (relas : List RelaEntry) → All IsEarly (map made (filter (λ r. not (is_none_kind r)) relas)) → All (λ r. IfSome (of r) (IsBelow 65536 imports)) relas
  each_below [] all = All-nil (λ r. IfSome (of r) (IsBelow 65536 imports))
  each_below (r ∷ relas) all =
      let rest = filter (λ r. not (is_none_kind r)) relas in
      All-cons (λ r. IfSome (of r) (IsBelow 65536 imports)) r relas (this_below r rest (is_symbolic r) refl all) (each_below relas (rest_early r rest (not (is_none_kind r)) all))

few_of : (bytes : List ℕ) (segments : List Segment) (strings : List ℕ) (symtab : Option ℕ) (relas : List RelaEntry) → import_rule (relocations_of bytes segments strings symtab (imports_of bytes segments strings symtab relas) relas) ≡ None → length (imports_of bytes segments strings symtab relas) ≤ 65536
unfolding imports_of relocations_of
few_of bytes segments strings symtab relas holds =
    let names = filter_map (import_of bytes segments strings symtab) relas in
    let imports = distinct names in
    let kept = filter (λ r. not (is_none_kind r)) relas in
    let relocations = map (relocation_of bytes segments strings symtab imports) kept in
    let unfound : find (λ r. is_late r.kind) relocations ≡ None = unfound_place (λ (r : Relocation). r.at) (find (λ r. is_late r.kind) relocations) holds in
    let early = find_none-All (λ r. is_late r.kind) relocations unfound in
    let each = each_below bytes segments strings symtab imports relas early in
    let below : All (IsBelow 65536 imports) names = All-given (import_of bytes segments strings symtab) (IsBelow 65536 imports) relas each in
    few_below 65536 imports (differ_distinct names) (All-distinct (IsBelow 65536 imports) names below)

rule_36 : (file : List ℕ) → IsModule file → import_rule (file_relocations file) ≡ None
unfolding layout_fault function_rules table_rules
rule_36 file is = lowest-each 27 (layout_rules file) (layout_holds file is) 9

pub few_imports : (file : List ℕ) → IsModule file → length (file_imports file) ≤ 65536
unfolding file_imports file_relocations
few_imports file is = few_of _ _ _ _ _ (rule_36 file is)

-- the names of a file's imports differ
differ_imports : (bytes : List ℕ) (segments : List Segment) (strings : List ℕ) (symtab : Option ℕ) (relas : List RelaEntry) → Differ (imports_of bytes segments strings symtab relas)
unfolding imports_of
differ_imports bytes segments strings symtab relas = differ_distinct (filter_map (import_of bytes segments strings symtab) relas)

differ_file : (file : List ℕ) → Differ (file_imports file)
unfolding file_imports
differ_file file = differ_imports _ _ _ _ _

number_of_name : (names : List (List ℕ)) (k : ℕ) (name : List ℕ) → Differ names → slice_get names k ≡ Some name → position (bytes_eq name) names ≡ Some k
number_of_name names k name differ at =
    let here : get_or names k [] ≡ name = get_or_from_slice_get names k name [] at in
    let P : List ℕ → Type 0 = λ n. position (bytes_eq n) names ≡ Some k in
    subst P here (own_number names k differ (slice_get_within names k name at))

pub one_number : (file : List ℕ) (j k : ℕ) (name : List ℕ) → slice_get (file_imports file) j ≡ Some name → slice_get (file_imports file) k ≡ Some name → j ≡ k
one_number file j k name at_j at_k =
    let first = number_of_name (file_imports file) j name (differ_file file) at_j in
    let second = number_of_name (file_imports file) k name (differ_file file) at_k in
    cc
