use Rattle.std.proofs.Common.{◌≡◌, ◌≢◌, ◌==◌, ◌&&◌, ◌||◌, ℕ, List, Option, Some, None, is_some, Bool, not, cond, true, false, refl, sym, ap, ◌∙◌, arith, rules}
use Rattle.std.specs.List.{position}
use Rattle.std.specs.Option.{option_copied, option_map_or}
use Rattle.std.specs.Str.{bytes_eq}
use Rattle.std.proofs.lemmas.Bool.Decides.{nat_tests}
use Rattle.vw_bits.specs.Rules.{unless}
use Rattle.vw_bits.specs.Symbols.{symbol_type, is_defined, is_import}
use Rattle.vw_bits.specs.declared.records.Segment.{Segment}
use Rattle.vw_bits.specs.declared.records.Symbol.{Symbol}
use Rattle.vw_dynamic.specs.Faults.{Tells}
use Rattle.vw_dynamic.specs.Names.{with_name}
use Rattle.vw_dynamic.specs.Relas.{is_known}
use Rattle.vw_dynamic.specs.Targets.{adds_addend, is_symbolic, import_of, is_unresolved, symbol_of, name_at, resolves_to, defined_word, kind_of}
use Rattle.vw_dynamic.specs.declared.faults.DynError.{DynError}
use Rattle.vw_dynamic.specs.declared.faults.DynError.TheVariants.{Fault}
use Rattle.vw_dynamic.specs.declared.relas.RelaEntry.{RelaEntry}
use Rattle.vw_dynamic.specs.declared.dynamic.RelKind.TheVariants.{Based, Bound}
use Rattle.vw_dynamic.proofs.dynamic.kind_of.Goals as goal

-- ---- what is given where a test passes

given : {X : Type 0} (indirect test : Bool) (o : Option X) (x : X) → cond (not indirect && test) o None ≡ Some x → ((not indirect && test) ≡ true) × (o ≡ Some x)
given true test o x is = cc
given false true o x is = (refl, is)
given false false o x is = cc

named : {X : Type 0} (indirect test : Bool) (o : Option X) (x : X) → cond (not indirect && test) o None ≡ Some x → (not indirect && (test && is_some o)) ≡ true
named true test o x is = cc
named false true o x is = rw is refl
named false false o x is = cc

nameless : {X : Type 0} (indirect test : Bool) (o : Option X) → cond (not indirect && test) o None ≡ None → (not indirect && (test && is_some o)) ≡ false
nameless true test o is = refl
nameless false true o is = rw is refl
nameless false false o is = refl

undefined : {X : Type 0} (indirect test : Bool) (x : X) → cond (not indirect && test) (Some x) None ≡ None → (not indirect && test) ≡ false
undefined true test x is = refl
undefined false true x is = cc
undefined false false x is = refl

tells : (broken : Bool) (at : ℕ) (e : DynError) → broken ≡ true → e ≡ Fault 26 at → Tells 26 (unless (not broken) at) e
tells broken at e is fault = rw (is, fault) (refl, refl)

abbrev is_indirect : Symbol → Bool
is_indirect s = symbol_type s == 10

abbrev is_plain : RelaEntry → Bool
is_plain r = not (adds_addend r) || r.addend == 0

module _ (bytes : List ℕ) (segments : List Segment) (strings : List ℕ) (symtab : Option ℕ) (r : RelaEntry) where
  relative : (imports : List (List ℕ)) → r.kind ≡ 8 → Based r.addend ≡ kind_of bytes segments strings symtab imports r
  unfolding kind_of
  relative imports is =
      let test : (r.kind == 8) ≡ true = grind (arith, nat_tests) in
      rw test refl

  plain_names : (imports : List (List ℕ)) → r.kind ≡ 8 → imports ≡ option_map_or (with_name imports) (import_of bytes segments strings symtab r) imports
  unfolding import_of
  plain_names imports is =
      let test : is_symbolic r ≡ false = grind (arith, nat_tests) in
      rw test refl

  module _ (known : is_known r ≡ true) (some : r.kind ≢ 0) (not_relative : r.kind ≡ 8 → ⊥) (s : Symbol) (is : symbol_of bytes segments symtab r.symbol ≡ Some s) where
    symbolic : is_symbolic r ≡ true
    symbolic = grind (arith, nat_tests)

    unresolved : (resolves : Bool) → resolves_to strings r s ≡ resolves → is_unresolved bytes segments strings symtab r ≡ not resolves
    unresolved resolves to = rw (symbolic, is, to) refl

    module _ (import : is_import s ≡ true) where
      bound : (name : List ℕ) → cond (not (symbol_type s == 10) && (not (adds_addend r) || r.addend == 0)) (name_at strings s.name) None ≡ Some name → (is_unresolved bytes segments strings symtab r ≡ false) × (import_of bytes segments strings symtab r ≡ Some name)
      unfolding resolves_to import_of
      bound name has =
          let there : name_at strings s.name ≡ Some name = (given (is_indirect s) (is_plain r) (name_at strings s.name) name has).1 in
          let resolves : resolves_to strings r s ≡ true = rw import (named (is_indirect s) (is_plain r) (name_at strings s.name) name has) in
          (unresolved true resolves, rw (symbolic, is, import) there)

      unbound : cond (not (symbol_type s == 10) && (not (adds_addend r) || r.addend == 0)) (name_at strings s.name) None ≡ None → is_unresolved bytes segments strings symtab r ≡ true
      unfolding resolves_to
      unbound none =
          let resolves : resolves_to strings r s ≡ false = rw import (nameless (is_indirect s) (is_plain r) (name_at strings s.name) none) in
          unresolved false resolves

    module _ (no_import : is_import s ≡ false) where
      defined : (word : ℕ) → cond (not (symbol_type s == 10) && is_defined s) (Some (defined_word r s)) None ≡ Some word → (is_unresolved bytes segments strings symtab r ≡ false) × (import_of bytes segments strings symtab r ≡ None) × (defined_word r s ≡ word)
      unfolding resolves_to import_of
      defined word has =
          let resolves : resolves_to strings r s ≡ true = rw no_import (given (is_indirect s) (is_defined s) (Some (defined_word r s)) word has).0 in
          let same : Some (defined_word r s) ≡ Some word = (given (is_indirect s) (is_defined s) (Some (defined_word r s)) word has).1 in
          (unresolved true resolves, rw (symbolic, is, no_import) refl, cc)

      none : cond (not (symbol_type s == 10) && is_defined s) (Some (defined_word r s)) None ≡ None → is_unresolved bytes segments strings symtab r ≡ true
      unfolding resolves_to
      none absent =
          let resolves : resolves_to strings r s ≡ false = rw no_import (undefined (is_indirect s) (is_defined s) (defined_word r s) absent) in
          unresolved false resolves

    bound_kind : (imports : List (List ℕ)) (name : List ℕ) (number : ℕ) → import_of bytes segments strings symtab r ≡ Some name → position (bytes_eq name) imports ≡ Some number → Bound number ≡ kind_of bytes segments strings symtab imports r
    unfolding kind_of
    bound_kind imports name number of at =
        let test : (r.kind == 8) ≡ false = grind (arith, nat_tests) in
        rw (test, of, at) refl

    defined_kind : (imports : List (List ℕ)) → import_of bytes segments strings symtab r ≡ None → Based (defined_word r s) ≡ kind_of bytes segments strings symtab imports r
    unfolding kind_of
    defined_kind imports of =
        let test : (r.kind == 8) ≡ false = grind (arith, nat_tests) in
        rw (test, of, is) refl

pub returns-then-rela-eq-R_RELATIVE-clause-imports : goal.returns-then-rela-eq-R_RELATIVE-clause-imports
returns-then-rela-eq-R_RELATIVE-clause-imports c =
    plain_names c.args.bytes.now c.args.segments.now c.args.strings.now c.args.symtab c.args.rela.now c.args.imports.now c.if-rela-eq-R_RELATIVE.true

pub returns-then-rela-eq-R_RELATIVE-clause-kind : goal.returns-then-rela-eq-R_RELATIVE-clause-kind
returns-then-rela-eq-R_RELATIVE-clause-kind c =
    relative c.args.bytes.now c.args.segments.now c.args.strings.now c.args.symtab c.args.rela.now c.args.imports.now c.if-rela-eq-R_RELATIVE.true

pub returns-in_default-bound_name-clause-fault : goal.returns-in_default-bound_name-clause-fault
returns-in_default-bound_name-clause-fault c =
    let broken = unbound c.args.bytes.now c.args.segments.now c.args.strings.now c.args.symtab c.args.rela.now c.requires.known c.requires.some c.if-rela-eq-R_RELATIVE.false c.in-Some.symbol (sym c.in-Some.ensures) (sym c.is_import.ensures ∙ c.if-is_import.true) (sym c.bound_name.ensures ∙ ap option_copied c.in_default-bound_name.is) in
    tells _ _ _ broken c.unresolved-in_default-bound_name.ensures

pub returns-then-is_import-clause-ok : goal.returns-then-is_import-clause-ok
returns-then-is_import-clause-ok c =
    (bound c.args.bytes.now c.args.segments.now c.args.strings.now c.args.symtab c.args.rela.now c.requires.known c.requires.some c.if-rela-eq-R_RELATIVE.false c.in-Some.symbol (sym c.in-Some.ensures) (sym c.is_import.ensures ∙ c.if-is_import.true) c.in-Some-bound_name.name.now (sym c.bound_name.ensures ∙ ap option_copied c.in-Some-bound_name.is)).0

pub returns-then-is_import-clause-imports : goal.returns-then-is_import-clause-imports
returns-then-is_import-clause-imports c =
    let on = (bound c.args.bytes.now c.args.segments.now c.args.strings.now c.args.symtab c.args.rela.now c.requires.known c.requires.some c.if-rela-eq-R_RELATIVE.false c.in-Some.symbol (sym c.in-Some.ensures) (sym c.is_import.ensures ∙ c.if-is_import.true) c.in-Some-bound_name.name.now (sym c.bound_name.ensures ∙ ap option_copied c.in-Some-bound_name.is)).1 in
    let added : c.add.new.self ≡ with_name c.args.imports.now c.in-Some-bound_name.name.now = search rules in
    rw on added

pub returns-then-is_import-clause-kind : goal.returns-then-is_import-clause-kind
returns-then-is_import-clause-kind c =
    let on = (bound c.args.bytes.now c.args.segments.now c.args.strings.now c.args.symtab c.args.rela.now c.requires.known c.requires.some c.if-rela-eq-R_RELATIVE.false c.in-Some.symbol (sym c.in-Some.ensures) (sym c.is_import.ensures ∙ c.if-is_import.true) c.in-Some-bound_name.name.now (sym c.bound_name.ensures ∙ ap option_copied c.in-Some-bound_name.is)).1 in
    let at : position (bytes_eq c.in-Some-bound_name.name.now) c.add.new.self ≡ Some c.in_ok-number.number = search rules in
    bound_kind c.args.bytes.now c.args.segments.now c.args.strings.now c.args.symtab c.args.rela.now c.requires.known c.requires.some c.if-rela-eq-R_RELATIVE.false c.in-Some.symbol (sym c.in-Some.ensures) c.add.new.self c.in-Some-bound_name.name.now c.in_ok-number.number on at

pub returns-in_default-defined_word-clause-fault : goal.returns-in_default-defined_word-clause-fault
returns-in_default-defined_word-clause-fault c =
    let broken = none c.args.bytes.now c.args.segments.now c.args.strings.now c.args.symtab c.args.rela.now c.requires.known c.requires.some c.if-rela-eq-R_RELATIVE.false c.in-Some.symbol (sym c.in-Some.ensures) (sym c.is_import.ensures ∙ c.if-is_import.false) (sym c.defined_word.ensures ∙ c.in_default-defined_word.is) in
    tells _ _ _ broken c.unresolved-in_default-defined_word.ensures

pub returns-clause-ok : goal.returns-clause-ok
returns-clause-ok c =
    (defined c.args.bytes.now c.args.segments.now c.args.strings.now c.args.symtab c.args.rela.now c.requires.known c.requires.some c.if-rela-eq-R_RELATIVE.false c.in-Some.symbol (sym c.in-Some.ensures) (sym c.is_import.ensures ∙ c.if-is_import.false) c.in-Some-defined_word.word (sym c.defined_word.ensures ∙ c.in-Some-defined_word.is)).0

pub returns-clause-imports : goal.returns-clause-imports
returns-clause-imports c =
    let of = (defined c.args.bytes.now c.args.segments.now c.args.strings.now c.args.symtab c.args.rela.now c.requires.known c.requires.some c.if-rela-eq-R_RELATIVE.false c.in-Some.symbol (sym c.in-Some.ensures) (sym c.is_import.ensures ∙ c.if-is_import.false) c.in-Some-defined_word.word (sym c.defined_word.ensures ∙ c.in-Some-defined_word.is)).1 in
    rw of refl

pub returns-clause-kind : goal.returns-clause-kind
returns-clause-kind c =
    let has = defined c.args.bytes.now c.args.segments.now c.args.strings.now c.args.symtab c.args.rela.now c.requires.known c.requires.some c.if-rela-eq-R_RELATIVE.false c.in-Some.symbol (sym c.in-Some.ensures) (sym c.is_import.ensures ∙ c.if-is_import.false) c.in-Some-defined_word.word (sym c.defined_word.ensures ∙ c.in-Some-defined_word.is) in
    ap Based (sym has.2) ∙ defined_kind c.args.bytes.now c.args.segments.now c.args.strings.now c.args.symtab c.args.rela.now c.requires.known c.requires.some c.if-rela-eq-R_RELATIVE.false c.in-Some.symbol (sym c.in-Some.ensures) c.args.imports.now has.1
