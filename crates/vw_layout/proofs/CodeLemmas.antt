-- What rules 27 and 28 give of the declared functions.
use Rattle.std.proofs.Common.{◌≡◌, ℕ, suc, ◌&&◌, ◌||◌, ◌==◌, Bool, true, false, not, cond, nat_le, List, [], ◌∷◌, get_or, map, All, Option, Some, None, IfSome, refl, subst, arith}
use Rattle.std.specs.Prelude.{Contains}
use Rattle.std.specs.List.{find, filter, filter_map, cons_option, list_any}
use Rattle.std.specs.Option.{option_or}
use Rattle.std.proofs.lemmas.Bool.{false≢true}
use Rattle.std.proofs.lemmas.Bool.Decides.{nat_tests}
use Rattle.std.proofs.lemmas.List.Elements.{All-nil, All-cons, All-head, All-tail}
use Rattle.vw_bits.specs.Headers.{segments_of, is_readable, is_executable}
use Rattle.vw_bits.specs.HeaderRules.{header_fault}
use Rattle.vw_bits.specs.Places.{in_file_part}
use Rattle.vw_bits.specs.Symbols.{is_defined, symbol_type}
use Rattle.vw_bits.proofs.RuleLemmas.{lowest-each}
use Rattle.vw_elf.specs.SymbolSections.{symbol_sections}
use Rattle.vw_dynamic.specs.Dynamic.{dynamic_fault}
use Rattle.vw_layout.specs.Symbols.{is_function, symbols_for, symbols_of}
use Rattle.vw_layout.specs.Functions.{symbol_offset, is_code, is_misplaced, first_at, by_address, addresses_of, function_rules, function_of, functions_of}
use Rattle.vw_layout.specs.Layout.{module_fault, layout_fault, layout_rules, IsModule, declared_functions, function_symbols}
use Rattle.vw_layout.specs.Laws.{IsCode}
use Rattle.vw_layout.specs.declared.symbols.SymbolEntry.{SymbolEntry}
use Rattle.vw_layout.specs.declared.functions.Function.{Function}
use Rattle.vw_layout.proofs.ShortLemmas.{find_none-All, unfound}

-- lists

first_of : {X : Type 0} (P : X → Type 0) (x : X) (passes : Bool) (rest : Option X) → P x → IfSome rest P → IfSome (cond passes (Some x) rest) P
first_of P x true rest here later = here
first_of P x false rest here later = later

found_holds : {X : Type 0} (p : X → Bool) (P : X → Type 0) (xs : List X) → All P xs → IfSome (find p xs) P
found_holds p P [] all = tt
found_holds p P (x ∷ xs) all = first_of P x (p x) (find p xs) (All-head P x xs all) (found_holds p P xs (All-tail P x xs all))

All-map : {X Y : Type 0} (f : X → Y) (P : Y → Type 0) (xs : List X) → All (λ x. P (f x)) xs → All P (map f xs)
All-map f P [] all = All-nil P
All-map f P (x ∷ xs) all = All-cons P (f x) (map f xs) (All-head (λ x. P (f x)) x xs all) (All-map f P xs (All-tail (λ x. P (f x)) x xs all))

All-cons_option : {Y : Type 0} (P : Y → Type 0) (o : Option Y) (ys : List Y) → IfSome o P → All P ys → All P (cons_option o ys)
All-cons_option P None ys holds all = all
All-cons_option P (Some y) ys holds all = All-cons P y ys holds all

All-filter_map : {X Y : Type 0} (g : X → Option Y) (P : Y → Type 0) (xs : List X) → ((x : X) → IfSome (g x) P) → All P (filter_map g xs)
All-filter_map g P [] each = All-nil P
All-filter_map g P (x ∷ xs) each = All-cons_option P (g x) (filter_map g xs) (each x) (All-filter_map g P xs each)

All-kept : {X : Type 0} (p : X → Bool) (x : X) (xs : List X) (passes : Bool) → p x ≡ passes → All (λ x. p x ≡ true) xs → All (λ x. p x ≡ true) (cond passes (x ∷ xs) xs)
All-kept p x xs true passes all = All-cons (λ x. p x ≡ true) x xs passes all
All-kept p x xs false passes all = all

All-filter : {X : Type 0} (p : X → Bool) (xs : List X) → All (λ x. p x ≡ true) (filter p xs)
All-filter p [] = All-nil (λ x. p x ≡ true)
All-filter p (x ∷ xs) = All-kept p x (filter p xs) (p x) refl (All-filter p xs)

abbrev pub OnePasses : {X : Type 0} → (X → Bool) → List X → Type 0
OnePasses {X} p xs = (x : X) × Contains xs x × (p x ≡ true)

one_of : {X : Type 0} (p : X → Bool) (x : X) (xs : List X) (passes : Bool) → p x ≡ passes → (passes || list_any p xs) ≡ true → (list_any p xs ≡ true → OnePasses p xs) → OnePasses p (x ∷ xs)
one_of p x xs true passes h later = (x, (0, omega arith, refl), passes)
one_of p x xs false passes h later = let found = later h in (found.0, (suc found.1.0, omega (arith, found.1.1), found.1.2), found.2)

pub one_passes : {X : Type 0} (p : X → Bool) (xs : List X) → list_any p xs ≡ true → OnePasses p xs
one_passes p [] some = absurd (false≢true some)
one_passes p (x ∷ xs) some = one_of p x xs (p x) refl some (one_passes p xs)

pub at_place : {X : Type 0} (P : X → Type 0) (xs : List X) (x : X) → All P xs → Contains xs x → P x
at_place P xs x all (k, inside, is) = subst P is (all k x inside)

-- rules

both_none : {A : Type 0} (a b : Option A) → option_or a b ≡ None → (a ≡ None) × (b ≡ None)
both_none None b none = (refl, none)
both_none (Some x) b none = cc

pub layout_holds : (file : List ℕ) → IsModule file → layout_fault file ≡ None
unfolding module_fault
layout_holds file is = (both_none (dynamic_fault file) (layout_fault file) (both_none (header_fault file) (option_or (dynamic_fault file) (layout_fault file)) is).1).1

rule_28 : (file : List ℕ) → IsModule file → symbol_offset (find (is_misplaced (segments_of file)) (function_symbols file)) ≡ None
unfolding layout_fault function_rules
rule_28 file is = lowest-each 27 (layout_rules file) (layout_holds file is) 1

-- what is known of a function symbol
abbrev IsGood : List ℕ → SymbolEntry → Type 0
IsGood file s = (is_function s ≡ true) × (is_misplaced (segments_of file) s ≡ false)

All-both : {X : Type 0} (P Q : X → Type 0) (xs : List X) → All P xs → All Q xs → All (λ x. P x × Q x) xs
All-both P Q xs one two k d inside = (one k d inside, two k d inside)

functions_of_role : (file : List ℕ) → All (λ s. is_function s ≡ true) (function_symbols file)
unfolding symbols_for
functions_of_role file = All-filter is_function (symbols_of file (symbol_sections file))

good_symbols : (file : List ℕ) → IsModule file → All (IsGood file) (function_symbols file)
good_symbols file is =
    All-both (λ s. is_function s ≡ true) (λ s. is_misplaced (segments_of file) s ≡ false) (function_symbols file) (functions_of_role file)
    (find_none-All (is_misplaced (segments_of file)) (function_symbols file) (unfound (find (is_misplaced (segments_of file)) (function_symbols file)) (rule_28 file is)))

good_functions : (file : List ℕ) → IsModule file → All (IsGood file) (by_address (function_symbols file))
unfolding by_address
good_functions file is =
    All-filter_map (first_at (function_symbols file)) (IsGood file) (addresses_of (function_symbols file))
    (λ a. found_holds (λ s. s.symbol.value == a) (IsGood file) (function_symbols file) (good_symbols file is))

three : (a b c : Bool) → a && b && c ≡ true → (a ≡ true) × (b ≡ true) × (c ≡ true)
three true true true h = (refl, refl, refl)
three true true false h = cc
three true false c h = cc
three false b c h = cc

not_misplaced : (small placed : Bool) → not (small && placed) ≡ false → (small ≡ true) × (placed ≡ true)
not_misplaced true true none = (refl, refl)
not_misplaced true false none = cc
not_misplaced false placed none = cc

code_of_symbol : (file : List ℕ) (s : SymbolEntry) → IsGood file s → IsCode file (function_of file s)
code_of_symbol file s good =
    let sized : nat_le 1 s.symbol.size ≡ true = (three (is_defined s.symbol) (symbol_type s.symbol == 2) (nat_le 1 s.symbol.size) good.0).2 in
    let both = not_misplaced (nat_le s.symbol.size 1048576) (list_any (λ segment. is_code segment s) (segments_of file)) good.1 in
    let small : nat_le s.symbol.size 1048576 ≡ true = both.0 in
    let segment = one_passes (λ segment. is_code segment s) (segments_of file) both.1 in
    let code = three (is_readable segment.0) (is_executable segment.0) (in_file_part s.symbol.value s.symbol.size segment.0) segment.2 in
    record {
      some = grind (arith, nat_tests, sized);
      short = grind (arith, nat_tests, small);
      segment = segment.0;
      listed = segment.1;
      is_read = code.0;
      is_executed = code.1;
      inside = code.2;
    }

pub code_of_module : (file : List ℕ) (f : Function) → IsModule file → Contains (declared_functions file) f → IsCode file f
unfolding functions_of
code_of_module file f is listed =
    at_place (IsCode file) (declared_functions file) f
    (All-map (function_of file) (IsCode file) (by_address (function_symbols file)) (λ k d inside. code_of_symbol file (get_or (by_address (function_symbols file)) k d) (good_functions file is k d inside)))
    listed
