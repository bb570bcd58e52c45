-- The parts of a generated module meet the bounds of a module.
use Rattle.std.proofs.Common.{◌≡◌, ℕ, ◌+◌, ◌-◌, ◌*◌, ◌%◌, ◌<◌, ◌≤◌, min, List, [], ◌∷◌, Option, Some, length, map, codes, refl, sym, subst, inl, lit<, lit≤, length-append, arith}
use Rattle.std.specs.Fmt.{decimal}
use Rattle.std.specs.List.{All, AllPairs, Contains, range_with_len, sum_by}
use Rattle.std.specs.Option.{is_some}
use Rattle.std.proofs.Math.Nat.{mod-lt}
use Rattle.std.proofs.lemmas.Nat.{div-add-mod'}
use Rattle.std.proofs.lemmas.Fmt.{length-decimal-le}
use Rattle.std.proofs.lemmas.List.{length-map}
use Rattle.std.proofs.lemmas.List.Elements.{All-nil, All-cons, All-map}
use Rattle.std.proofs.lemmas.List.FromFn.{get_or-map-range_with_len, length-map-range_with_len}
use Rattle.std.proofs.lemmas.List.Kept.{AllPairs-cons}
use Rattle.std.proofs.lemmas.List.Sums.{count_by-le-length, sum_by-le}
use Rattle.vw_make.specs.declared.kinds.Kind.{Kind}
use Rattle.vw_make.specs.declared.kinds.Kind.TheVariants.{HeapLoad, StoreLoop, Switch, Spill, HostCall, DirectCall, TableCall, ProbedFrame}
use Rattle.vw_make.specs.declared.parts.Parts.{Parts}
use Rattle.vw_make.specs.declared.parts.Func.{Func}
use Rattle.vw_make.specs.declared.parts.Target.{Target}
use Rattle.vw_make.specs.declared.parts.Target.TheVariants.{Function, Stub, Tables}
use Rattle.vw_make.specs.declared.sizes.Sizes.{Sizes}
use Rattle.vw_make.specs.Bounds.{AreApart, EntryFits, FixFits, FuncFits, TableFits, BindFits, HasAtMost, MeetsBounds}
use Rattle.vw_make.specs.Bytes.{rounded_up}
use Rattle.vw_make.specs.Generator.{kind_of, code_of, fixes_of, draw_of, guest_of, table_of, generated_parts}
use Rattle.vw_make.specs.Layout.{function_space, function_names, strings_size, sizes_of, layout_from}

-- a list of what is made for each index holds what each index gives
each_made : {X : Type 0} (P : X → Type 0) (f : ℕ → X) (n : ℕ) → ((k : ℕ) → k < n → P (f k)) → All P (map f (range_with_len 0 n))
each_made P f n each k d inside =
    let here : k < n = omega (arith, length-map-range_with_len f 0 n) in
    subst P (sym (get_or-map-range_with_len f 0 n k k d here (omega arith))) (each k here)

-- the code of each kind is short
short : (kind : Kind) (r : ℕ) → length (code_of kind r) ≤ 43
short HeapLoad r = lit≤ tt
short StoreLoop r = lit≤ tt
short Switch r = lit≤ tt
short Spill r = lit≤ tt
short HostCall r = lit≤ tt
short DirectCall r = lit≤ tt
short TableCall r = lit≤ tt
short ProbedFrame r = lit≤ tt

-- a function of each kind
abbrev of_kind : List ℕ → Kind → ℕ → ℕ → Func
of_kind name kind i r = record { name = name; code = code_of kind r; fixes = fixes_of kind i }

no_pairs : AllPairs (AreApart {X = Target} 4) []
no_pairs i j d below inside = absurd (omega arith)

no_binds : AllPairs (AreApart {X = ℕ} 8) []
no_binds i j d below inside = absurd (omega arith)

pair_of_one : (fix : ℕ × Target) → AllPairs (AreApart 4) (fix ∷ [])
pair_of_one fix = AllPairs-cons (AreApart 4) fix [] (All-nil (AreApart 4 fix)) no_pairs

-- a kind without a fix, and one with one
without_fix : (parts : Parts) (f : Func) → length f.name ≤ 1024 → length f.code ≤ 43 → f.fixes ≡ [] → FuncFits parts f
without_fix parts f named coded none =
    record {
      name = named;
      code = omega arith;
      fixes = subst (λ (fixes : List (ℕ × Target)). All (FixFits parts f) fixes) (sym none) (All-nil (FixFits parts f));
      apart = subst (λ (fixes : List (ℕ × Target)). AllPairs (AreApart 4) fixes) (sym none) no_pairs;
    }

with_fix : (parts : Parts) (f : Func) (fix : ℕ × Target) → length f.name ≤ 1024 → length f.code ≤ 43 → f.fixes ≡ fix ∷ [] → FixFits parts f fix → FuncFits parts f
with_fix parts f fix named coded one fits =
    record {
      name = named;
      code = omega arith;
      fixes = subst (λ (fixes : List (ℕ × Target)). All (FixFits parts f) fixes) (sym one) (All-cons (FixFits parts f) fix [] fits (All-nil (FixFits parts f)));
      apart = subst (λ (fixes : List (ℕ × Target)). AllPairs (AreApart 4) fixes) (sym one) (pair_of_one fix);
    }

kind_fits : (parts : Parts) (name : List ℕ) (kind : Kind) (i r : ℕ) → length name ≤ 1024 → i < length parts.functions → length parts.imports ≡ 2 → length parts.tables ≡ 1 → FuncFits parts (of_kind name kind i r)
kind_fits parts name HeapLoad i r named here imports tables = without_fix parts (of_kind name HeapLoad i r) named (short HeapLoad r) refl
kind_fits parts name StoreLoop i r named here imports tables = without_fix parts (of_kind name StoreLoop i r) named (short StoreLoop r) refl
kind_fits parts name Switch i r named here imports tables = without_fix parts (of_kind name Switch i r) named (short Switch r) refl
kind_fits parts name Spill i r named here imports tables = without_fix parts (of_kind name Spill i r) named (short Spill r) refl
kind_fits parts name HostCall i r named here imports tables =
    with_fix parts (of_kind name HostCall i r) (5, Stub 1) named (short HostCall r) refl (record { inside = lit≤ tt; target = omega arith })
kind_fits parts name DirectCall i r named here imports tables =
    with_fix parts (of_kind name DirectCall i r) (5, Function (i - 5)) named (short DirectCall r) refl (record { inside = lit≤ tt; target = omega arith })
kind_fits parts name ProbedFrame i r named here imports tables =
    with_fix parts (of_kind name ProbedFrame i r) (6, Stub 0) named (short ProbedFrame r) refl (record { inside = lit≤ tt; target = omega arith })
kind_fits parts name TableCall i r named here imports tables =
    let f = of_kind name TableCall i r in
    let second : FixFits parts f (21, Tables 0) = record { inside = lit≤ tt; target = omega arith } in
    let first : FixFits parts f (3, Tables 8) = record { inside = lit≤ tt; target = omega arith } in
    record {
      name = named;
      code = lit≤ tt;
      fixes = All-cons (FixFits parts f) (3, Tables 8) ((21, Tables 0) ∷ []) first (All-cons (FixFits parts f) (21, Tables 0) [] second (All-nil (FixFits parts f)));
      apart =
          AllPairs-cons (AreApart 4) (3, Tables 8) ((21, Tables 0) ∷ [])
          (All-cons (AreApart 4 (3, Tables 8)) (21, Tables 0) [] (inl (lit≤ tt)) (All-nil (AreApart 4 (3, Tables 8)))) (pair_of_one (21, Tables 0));
    }

-- names of functions with at most five digits
name_short : (number i : ℕ) → i < 65536 → length (guest_of number i).name ≤ 16
name_short number i small =
    let digits = length-decimal-le 5 i (lit< tt) (omega arith) (omega arith) in omega (arith, digits, length-append (codes "guest_func_") (decimal i))

guest_fits : (functions number i : ℕ) → functions ≤ 65536 → i < functions → FuncFits (generated_parts functions number) (guest_of number i)
unfolding generated_parts
guest_fits functions number i few here =
    let named = name_short number i (omega arith) in
    let count = length-map-range_with_len (guest_of number) 0 functions in
    kind_fits (generated_parts functions number) (guest_of number i).name (kind_of i) i (draw_of number i) (omega arith) (omega arith) refl refl

entry_fits : (functions number j : ℕ) → j < min functions 1024 → EntryFits (generated_parts functions number) (j % 8, Some j)
unfolding generated_parts
entry_fits functions number j here = omega (arith, length-map-range_with_len (guest_of number) 0 functions)

table_short : (functions : ℕ) → length (table_of functions) ≤ 1024
table_short functions = omega (arith, length-map-range_with_len {X = ℕ × Option ℕ} (λ (j : ℕ). (j % 8, Some j)) 0 (min functions 1024))

imports_fit : All (λ (name : List ℕ). length name ≤ 1024) (codes "lucet_probestack" ∷ codes "host_call" ∷ [])
imports_fit =
    All-cons (λ (name : List ℕ). length name ≤ 1024) (codes "lucet_probestack") (codes "host_call" ∷ []) (lit≤ tt)
    (All-cons (λ (name : List ℕ). length name ≤ 1024) (codes "host_call") [] (lit≤ tt) (All-nil (λ (name : List ℕ). length name ≤ 1024)))

abbrev import_names : List (List ℕ)
import_names = codes "lucet_probestack" ∷ codes "host_call" ∷ []

imports_few : HasAtMost 65536 import_names
imports_few =
    record {
      different = import_names;
      few = lit≤ tt;
      each =
          All-cons (Contains import_names) (codes "lucet_probestack") (codes "host_call" ∷ []) (0, lit< tt, refl)
          (All-cons (Contains import_names) (codes "host_call") [] (1, lit< tt, refl) (All-nil (Contains import_names)));
    }

-- sizes

rounded_up_lt : (align n : ℕ) → 1 ≤ align → rounded_up align n < n + align
unfolding rounded_up
rounded_up_lt align n some = let pos : 0 < align = omega arith in omega (arith, div-add-mod' (n + (align - 1)) align, mod-lt (n + (align - 1)) pos)

record AreModest (size : Sizes) : Type 0 where
  imports : size.imports ≡ 2
  dynamic_strings : size.dynamic_strings ≤ 1048576
  relocations : size.relocations ≤ 1048576
  functions : size.functions ≤ 4194304
  tables : size.tables ≡ 1
  entries : size.entries ≤ 1024
  content : size.content ≡ 0
  symbols : size.symbols ≤ 2097152
  strings : size.strings ≤ 2097152

modest_fits : (size : Sizes) → AreModest size → (layout_from size).sections + 192 ≤ 67108864
unfolding layout_from
modest_fits size modest =
    let relocations = rounded_up_lt 8 (232 + 24 * (1 + size.imports) + size.dynamic_strings) (lit≤ tt) in
    let text = rounded_up_lt 16 ((layout_from size).relocations + size.relocations) (lit≤ tt) in
    let slots = rounded_up_lt 4096 (layout_from size).text_end (lit≤ tt) in
    let sections = rounded_up_lt 8 ((layout_from size).strings + size.strings) (lit≤ tt) in
    omega arith

name_and_zero : (functions number i : ℕ) → functions ≤ 65536 → i < functions → length (guest_of number i).name + 1 ≤ 17
name_and_zero functions number i few here = omega (arith, name_short number i (omega arith))

guest_space : (number i : ℕ) → function_space (guest_of number i) ≤ 59
guest_space number i = omega (arith, rounded_up_lt 16 (length (guest_of number i).code) (lit≤ tt), short (kind_of i) (draw_of number i))

spaces_small : (functions number : ℕ) → functions ≤ 65536 → sum_by function_space (map (guest_of number) (range_with_len 0 functions)) ≤ functions * 59
spaces_small functions number few =
    subst (λ (count : ℕ). sum_by function_space (map (guest_of number) (range_with_len 0 functions)) ≤ count * 59) (length-map-range_with_len (guest_of number) 0 functions)
    (sum_by-le function_space 59 (map (guest_of number) (range_with_len 0 functions)) (each_made (λ (f : Func). function_space f ≤ 59) (guest_of number) functions (λ k here. guest_space number k)))

names_small : (functions number : ℕ) → functions ≤ 65536 → strings_size (function_names (map (guest_of number) (range_with_len 0 functions))) ≤ 1 + functions * 17
names_small functions number few =
    let all = map (guest_of number) (range_with_len 0 functions) in
    let each = each_made (λ (f : Func). length f.name + 1 ≤ 17) (guest_of number) functions (λ k here. name_and_zero functions number k few here) in
    let sum = sum_by-le (λ (name : List ℕ). length name + 1) 17 (function_names all) (All-map (λ (name : List ℕ). length name + 1 ≤ 17) (λ (f : Func). f.name) all each) in
    omega (arith, sum, length-map all (λ (f : Func). f.name), length-map-range_with_len (guest_of number) 0 functions)

generated_modest : (functions number : ℕ) → functions ≤ 65536 → AreModest (sizes_of (generated_parts functions number))
unfolding sizes_of generated_parts rounded_up
generated_modest functions number few =
    let count = length-map-range_with_len (guest_of number) 0 functions in
    let spaces = spaces_small functions number few in
    let names = names_small functions number few in
    let entries = table_short functions in
    let filled = count_by-le-length (λ (entry : ℕ × Option ℕ). is_some entry.1) (table_of functions) in
    record {
      imports = refl;
      dynamic_strings = lit≤ tt;
      relocations = omega arith;
      functions = omega arith;
      tables = refl;
      entries = omega arith;
      content = refl;
      symbols = omega arith;
      strings = omega arith;
    }

pub generated_meets : (functions number : ℕ) → functions ≤ 65536 → MeetsBounds (generated_parts functions number)
unfolding generated_parts
generated_meets functions number few =
    let parts = generated_parts functions number in
    record {
      few_functions = omega (arith, length-map-range_with_len (guest_of number) 0 functions);
      functions = each_made (FuncFits parts) (guest_of number) functions (λ k here. guest_fits functions number k few here);
      few_imports = imports_few;
      imports = imports_fit;
      few_tables = lit≤ tt;
      tables =
          All-cons (TableFits parts) (table_of functions) []
          (record {
            few = omega (arith, table_short functions);
            each = each_made {X = ℕ × Option ℕ} (EntryFits parts) (λ (j : ℕ). (j % 8, Some j)) (min functions 1024) (λ j here. entry_fits functions number j here);
          })
          (All-nil (TableFits parts));
      binds = All-nil (BindFits parts);
      apart = no_binds;
      size = modest_fits (sizes_of parts) (generated_modest functions number few);
    }
