-- What is known of sizes and places: each part ends before the next begins, and all is small.
use Rattle.std.proofs.Common.{◌≡◌, ◌∙◌, ℕ, ◌+◌, ◌-◌, ◌*◌, ◌^◌, ◌<◌, ◌≤◌, List, [], Option, length, take, get_or, map, refl, sym, ap, subst, lit≤, arith}
use Rattle.std.specs.List.{sum_by}
use Rattle.std.proofs.Math.Nat.{mod-lt, le-add_right, lt_of_le_of_lt}
use Rattle.std.proofs.lemmas.Nat.{div-add-mod'}
use Rattle.std.proofs.lemmas.List.Sums.{sum_by-take-le, sum_by_more, sum_by_more_le, sum_by_push}
use Rattle.std.proofs.lemmas.List.{get_or_read, get_or-map, length-map, map_more, take-map}
use Rattle.vw_make.specs.declared.parts.Parts.{Parts}
use Rattle.vw_make.specs.declared.parts.Func.{Func}
use Rattle.vw_make.specs.declared.plan.Plan.{Plan}
use Rattle.vw_make.specs.declared.sizes.Sizes.{Sizes}
use Rattle.vw_make.specs.declared.layout.Layout.{Layout}
use Rattle.vw_make.specs.Bounds.{MeetsBounds}
use Rattle.vw_make.specs.Bytes.{rounded_up}
use Rattle.vw_make.specs.Layout.{strings_size, function_names, table_at, function_space, relocation_count, symbol_count, symbol_strings_size, sizes_of, layout_from, layout_of, function_at}
use Rattle.vw_make.specs.Module.{file_of, module_bytes}
use Rattle.vw_make.specs.Plan.{IsPlan}
use Rattle.vw_make.specs.Small.{AreSmall}

pub rounded_up_ge : (align n : ℕ) → 1 ≤ align → n ≤ rounded_up align n
unfolding rounded_up
rounded_up_ge align n some = let pos : 0 < align = omega arith in omega (arith, div-add-mod' (n + (align - 1)) align, mod-lt (n + (align - 1)) pos)

pub record AreOrdered (size : Sizes) (layout : Layout) : Type 0 where
  pub relocations : 232 + 24 * (1 + size.imports) + size.dynamic_strings ≤ layout.relocations
  pub text : layout.relocations + size.relocations ≤ layout.text
  pub stubs : layout.stubs ≡ layout.text + size.functions
  pub text_end : layout.text_end ≡ layout.stubs + 16 * size.imports
  pub slots : layout.text_end ≤ layout.slots
  pub lucet_tables : layout.lucet_tables ≡ layout.slots + 8 * size.imports
  pub tables : layout.tables ≡ layout.lucet_tables + 16 * size.tables
  pub content : layout.content ≡ layout.tables + 16 * size.entries
  pub dynamic : layout.dynamic ≡ layout.content + size.content
  pub symbols : layout.symbols ≡ layout.dynamic + 128
  pub strings : layout.strings ≡ layout.symbols + size.symbols
  pub sections : layout.strings + size.strings ≤ layout.sections

pub are_ordered : (size : Sizes) → AreOrdered size (layout_from size)
unfolding layout_from
are_ordered size =
    record {
      relocations = rounded_up_ge 8 _ (lit≤ tt);
      text = rounded_up_ge 16 _ (lit≤ tt);
      stubs = refl;
      text_end = refl;
      slots = rounded_up_ge 4096 _ (lit≤ tt);
      lucet_tables = refl;
      tables = refl;
      content = refl;
      dynamic = refl;
      symbols = refl;
      strings = refl;
      sections = rounded_up_ge 8 _ (lit≤ tt);
    }

-- sizes by the parts
pub record AreSizesOf (parts : Parts) (size : Sizes) : Type 0 where
  pub imports : size.imports ≡ length parts.imports
  pub dynamic_strings : size.dynamic_strings ≡ strings_size parts.imports
  pub relocations : size.relocations ≡ 24 * relocation_count parts
  pub functions : size.functions ≡ sum_by function_space parts.functions
  pub tables : size.tables ≡ length parts.tables
  pub entries : size.entries ≡ sum_by length parts.tables
  pub content : size.content ≡ rounded_up 8 (length parts.content)
  pub symbols : size.symbols ≡ 24 * symbol_count parts
  pub strings : size.strings ≡ symbol_strings_size parts

pub are_sizes : (parts : Parts) → AreSizesOf parts (sizes_of parts)
unfolding sizes_of
are_sizes parts =
    record {
      imports = refl;
      dynamic_strings = refl;
      relocations = refl;
      functions = refl;
      tables = refl;
      entries = refl;
      content = refl;
      symbols = refl;
      strings = refl;
    }

small_of : (size : Sizes) (layout : Layout) → AreOrdered size layout → layout.sections + 192 ≤ 67108864 → AreSmall size
small_of size layout ordered fits =
    let end : layout.sections < 2 ^ 32 = omega arith in
    record {
      imports = omega arith;
      dynamic_strings = omega arith;
      relocations = omega arith;
      functions = omega arith;
      tables = omega arith;
      entries = omega arith;
      content = omega arith;
      symbols = omega arith;
      strings = omega arith;
    }

pub are_small : {parts : Parts} → MeetsBounds parts → AreSmall (sizes_of parts)
are_small {parts} bounds = small_of (sizes_of parts) (layout_of parts) (are_ordered (sizes_of parts)) bounds.size

-- all places lie below the end of the file
pub record AreLow (layout : Layout) : Type 0 where
  pub text : layout.text ≤ 67108864
  pub stubs : layout.stubs ≤ 67108864
  pub text_end : layout.text_end ≤ 67108864
  pub slots : layout.slots ≤ 67108864
  pub lucet_tables : layout.lucet_tables ≤ 67108864
  pub tables : layout.tables ≤ 67108864
  pub content : layout.content ≤ 67108864
  pub dynamic : layout.dynamic ≤ 67108864

are_low : (size : Sizes) (layout : Layout) → AreOrdered size layout → layout.sections + 192 ≤ 67108864 → AreLow layout
are_low size layout ordered fits =
    record {
      text = omega arith;
      stubs = omega arith;
      text_end = omega arith;
      slots = omega arith;
      lucet_tables = omega arith;
      tables = omega arith;
      content = omega arith;
      dynamic = omega arith;
    }

-- what is known of a plan's sizes and places
pub record PlanFacts (plan : Plan) : Type 0 where
  pub ordered : AreOrdered plan.sizes plan.layout
  pub sizes : AreSizesOf plan.parts.now plan.sizes
  pub content : length plan.parts.now.content ≤ plan.sizes.content
  pub names : strings_size (function_names plan.parts.now.functions) ≤ plan.sizes.strings
  pub fits : plan.layout.sections + 192 ≤ 67108864
  pub low : AreLow plan.layout

pub plan_facts : {plan : Plan} → IsPlan plan → PlanFacts plan
plan_facts {plan} is =
    let sizes : AreSizesOf plan.parts.now plan.sizes = subst (λ (s : Sizes). AreSizesOf plan.parts.now s) (sym is.sizes) (are_sizes plan.parts.now) in
    let placed : plan.layout ≡ layout_from plan.sizes = is.layout ∙ ap layout_from (sym is.sizes) in
    let ordered : AreOrdered plan.sizes plan.layout = subst (λ (l : Layout). AreOrdered plan.sizes l) (sym placed) (are_ordered plan.sizes) in
    let fits : plan.layout.sections + 192 ≤ 67108864 = subst (λ (l : Layout). l.sections + 192 ≤ 67108864) (sym is.layout) is.bounds.size in
    record {
      ordered = ordered;
      sizes = sizes;
      content = omega (arith, rounded_up_ge 8 (length plan.parts.now.content) (lit≤ tt), sizes.content);
      names = subst (λ (n : ℕ). strings_size (function_names plan.parts.now.functions) ≤ n) (sym sizes.strings) (le-add_right _ _);
      fits = fits;
      low = are_low plan.sizes plan.layout ordered fits;
    }

-- sizes that are summed up
pub record SmallParts (parts : Parts) : Type 0 where
  pub imports : length parts.imports < 2 ^ 32
  pub dynamic_strings : strings_size parts.imports < 2 ^ 32
  pub relocations : 24 * relocation_count parts < 2 ^ 32
  pub functions : sum_by function_space parts.functions < 2 ^ 32
  pub entries : sum_by length parts.tables < 2 ^ 32
  pub content : length parts.content < 2 ^ 32
  pub symbols : 24 * symbol_count parts < 2 ^ 32
  pub strings : symbol_strings_size parts < 2 ^ 32
  pub names : strings_size (function_names parts.functions) < 2 ^ 32

pub small_parts : {parts : Parts} → MeetsBounds parts → SmallParts parts
unfolding sizes_of
small_parts {parts} bounds =
    let small = are_small bounds in
    record {
      imports = small.imports;
      dynamic_strings = small.dynamic_strings;
      relocations = small.relocations;
      functions = small.functions;
      entries = small.entries;
      content = lt_of_le_of_lt (rounded_up_ge 8 (length parts.content) (lit≤ tt)) small.content;
      symbols = small.symbols;
      strings = small.strings;
      names = lt_of_le_of_lt (le-add_right _ _) small.strings;
    }

pub text_fits : {parts : Parts} → MeetsBounds parts → (layout_from (sizes_of parts)).text + sum_by function_space parts.functions < 2 ^ 40
text_fits {parts} bounds =
    let ordered = are_ordered (sizes_of parts) in
    let sizes = are_sizes parts in
    let end : (layout_from (sizes_of parts)).sections + 192 ≤ 67108864 = bounds.size in
    omega arith

-- an item of a list that is another
pub item_here : {X : Type 0} (P : X → Type 0) (xs ys : List X) → xs ≡ ys → ((k : ℕ) (d : X) → k < length ys → P (get_or ys k d)) → (k : ℕ) (d : X) → k < length xs → P (get_or xs k d)
item_here {X} P xs ys same all k d inside =
    let there : k < length ys = omega (arith, ap length same) in
    subst (λ (zs : List X). P (get_or zs k d)) (sym same) (all k d there)

-- names of functions, one by one
pub function_names_more : (fs : List Func) (i : ℕ) (f : Func) → i < length fs → f ≡ get_or fs i f → strings_size (function_names (take (i + 1) fs)) ≡ strings_size (function_names (take i fs)) + (length f.name + 1)
function_names_more fs i f inside here =
    let more = map_more (λ (g : Func). g.name) fs i f inside in
    let pushed = sum_by_push (λ (name : List ℕ). length name + 1) (map (λ (g : Func). g.name) (take i fs)) (get_or fs i f).name in
    omega (arith, ap (λ (names : List (List ℕ)). sum_by (λ (name : List ℕ). length name + 1) names) more, pushed, ap (λ (g : Func). length g.name) here)

pub function_names_le : (fs : List Func) (i : ℕ) (f : Func) → i < length fs → f ≡ get_or fs i f → strings_size (function_names (take i fs)) + (length f.name + 1) ≤ strings_size (function_names fs)
function_names_le fs i f inside here =
    let there : i < length (map (λ (g : Func). g.name) fs) = omega (arith, length-map fs (λ (g : Func). g.name)) in
    let le = sum_by_more_le (λ (name : List ℕ). length name + 1) (map (λ (g : Func). g.name) fs) i [] there in
    let taken = ap (λ (names : List (List ℕ)). sum_by (λ (name : List ℕ). length name + 1) names) (take-map (λ (g : Func). g.name) i fs) in
    let item = ap (λ (name : List ℕ). length name) (get_or-map (λ (g : Func). g.name) fs i f [] inside) in
    omega (arith, le, taken, item, ap (λ (g : Func). length g.name) here)

pub name_at_is : (fs : List Func) (i : ℕ) → strings_size (take i (function_names fs)) ≡ strings_size (function_names (take i fs))
name_at_is fs i = ap (λ (names : List (List ℕ)). strings_size names) (take-map (λ (g : Func). g.name) i fs)

-- the address of a function
pub place_of : {plan : Plan} → IsPlan plan → (functions : List Func) → functions ≡ plan.parts.now.functions → (i : ℕ) → i < length functions → (value : ℕ) → value ≡ get_or plan.functions.items i value → value ≡ function_at functions plan.layout i
place_of {plan} is functions same i inside value here =
    let there : i < length plan.parts.now.functions = omega (arith, ap length same) in
    let listed : i < length plan.functions.items = omega (arith, is.count) in
    get_or_read plan.functions.items i value listed here 0
    ∙ (is.functions i there ∙ ap (λ (fs : List Func). function_at fs plan.layout i) (sym same))

-- a function lies in the text
pub function_fits : {plan : Plan} → IsPlan plan → (functions : List Func) → functions ≡ plan.parts.now.functions → (i : ℕ) → function_at functions plan.layout i ≤ plan.layout.stubs
function_fits {plan} is functions same i =
    let facts = plan_facts is in
    omega (arith, sum_by-take-le function_space functions i, ap (λ (fs : List Func). sum_by function_space fs) same, facts.sizes.functions, facts.ordered.stubs)

-- a table lies in front of the data
pub table_fits : {plan : Plan} → IsPlan plan → (tables : List (List (ℕ × Option ℕ))) → tables ≡ plan.parts.now.tables → (i : ℕ) → i < length tables → (entries : List (ℕ × Option ℕ)) → entries ≡ get_or tables i entries
    → table_at tables plan.layout i + 16 * length entries ≤ plan.layout.content
table_fits {plan} is tables same i inside entries here =
    let facts = plan_facts is in
    omega (arith, sum_by_more_le length tables i entries inside, ap (λ (all : List (List (ℕ × Option ℕ))). sum_by length all) same, ap (λ (e : List (ℕ × Option ℕ)). length e) here, facts.sizes.entries, facts.ordered.content)

pub table_more : (tables : List (List (ℕ × Option ℕ))) (layout : Layout) (i : ℕ) → i < length tables → (entries : List (ℕ × Option ℕ)) → entries ≡ get_or tables i entries
    → table_at tables layout (i + 1) ≡ table_at tables layout i + 16 * length entries
table_more tables layout i inside entries here =
    omega (arith, sum_by_more length tables i entries inside, ap (λ (e : List (ℕ × Option ℕ)). length e) here)

-- the file, by the places that were worked out
pub file_is : {plan : Plan} → IsPlan plan → (parts : Parts) → plan.parts.now ≡ parts → file_of plan.parts.now plan.sizes plan.layout ≡ module_bytes parts
unfolding module_bytes
file_is {plan} is parts same =
    ap (λ (s : Sizes). file_of plan.parts.now s plan.layout) is.sizes
    ∙ (ap (λ (l : Layout). file_of plan.parts.now (sizes_of plan.parts.now) l) is.layout ∙ ap (λ (p : Parts). file_of p (sizes_of p) (layout_of p)) same)
