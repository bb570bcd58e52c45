-- The parts of the written modules of the tests meet the bounds.
use Rattle.std.proofs.Common.{ℕ, zero, suc, inl, ◌≤◌, List, [], ◌∷◌, Option, Some, None, length, refl, lit<, lit≤, arith}
use Rattle.std.specs.List.{All, Contains}
use Rattle.vw_make.specs.declared.parts.Parts.{Parts}
use Rattle.vw_make.specs.declared.parts.Func.{Func}
use Rattle.vw_make.specs.declared.parts.Target.TheVariants as target
use Rattle.vw_make.specs.Bounds.{AreApart, EntryFits, FixFits, FuncFits, TableFits, BindFits, HasAtMost, MeetsBounds}
use Rattle.vw_make.specs.Bytes.{rounded_up}
use Rattle.vw_make.specs.Layout.{sizes_of, layout_from, file_size}
use Rattle.vw_make.proofs.Sample.{all_none, all_one, all_two, pairs_none, pairs_one, pairs_two, imports, few}

all_three : {X : Type 0} (P : X → Type 0) (a b c : X) → P a → P b → P c → All P (a ∷ b ∷ c ∷ [])
all_three P a b c p q r zero d inside = p
all_three P a b c p q r (suc zero) d inside = q
all_three P a b c p q r (suc (suc zero)) d inside = r
all_three P a b c p q r (suc (suc (suc k))) d inside = absurd (omega arith)

abbrev first : Func
first = record { name = 102 ∷ []; code = 0x8B ∷ 0x87 ∷ 0 ∷ 0 ∷ 0 ∷ 0 ∷ 0xC3 ∷ []; fixes = [] }

abbrev second : Func
second = record { name = 103 ∷ 103 ∷ []; code = 0x8B ∷ 0x47 ∷ 8 ∷ 0xC3 ∷ []; fixes = [] }

abbrev third : Func
third = record { name = 104 ∷ []; code = 0x0F ∷ 0x0B ∷ []; fixes = [] }

abbrev two_entries : List (ℕ × Option ℕ)
two_entries = (5, Some 1) ∷ (9, None) ∷ []

abbrev one_entry : List (ℕ × Option ℕ)
one_entry = (7, Some 0) ∷ []

abbrev pub sample : Parts
sample =
    record {
      functions = first ∷ second ∷ third ∷ [];
      imports = imports;
      tables = two_entries ∷ one_entry ∷ [];
      content = 1 ∷ 2 ∷ 3 ∷ 4 ∷ 5 ∷ 6 ∷ 7 ∷ 8 ∷ [];
      binds = (0, 1) ∷ [];
    }

first_fits : FuncFits sample first
first_fits = record { name = lit≤ tt; code = lit≤ tt; fixes = all_none (FixFits sample first); apart = pairs_none (AreApart 4) }

second_fits : FuncFits sample second
second_fits = record { name = lit≤ tt; code = lit≤ tt; fixes = all_none (FixFits sample second); apart = pairs_none (AreApart 4) }

third_fits : FuncFits sample third
third_fits = record { name = lit≤ tt; code = lit≤ tt; fixes = all_none (FixFits sample third); apart = pairs_none (AreApart 4) }

size : file_size sample ≤ 67108864
unfolding sizes_of layout_from rounded_up
size = lit≤ tt

pub sample_meets : MeetsBounds sample
sample_meets =
    record {
      few_functions = lit≤ tt;
      functions = all_three (FuncFits sample) first second third first_fits second_fits third_fits;
      few_imports = few;
      imports = all_two (λ (name : List ℕ). length name ≤ 1024) (97 ∷ []) (98 ∷ 99 ∷ []) (lit≤ tt) (lit≤ tt);
      few_tables = lit≤ tt;
      tables =
          all_two (TableFits sample) two_entries one_entry
          (record { few = lit≤ tt; each = all_two (EntryFits sample) (5, Some 1) (9, None) (lit< tt) tt })
          (record { few = lit≤ tt; each = all_one (EntryFits sample) (7, Some 0) (lit< tt) });
      binds = all_one (BindFits sample) (0, 1) (record { inside = lit≤ tt; import = lit< tt });
      apart = pairs_one (AreApart 8) (0, 1);
      size = size;
    }

-- ---- a call through a table, and a switch

abbrev caller : Func
caller =
    record {
      name = 102 ∷ [];
      code = 0x48 ∷ 0x8B ∷ 0x0D ∷ 0 ∷ 0 ∷ 0 ∷ 0 ∷ 0x89 ∷ 0xF0 ∷ 0x48 ∷ 0x39 ∷ 0xC8 ∷ 0x73 ∷ 0x1B ∷ 0x48 ∷ 0xC1 ∷ 0xE0 ∷ 0x04 ∷ 0x48 ∷ 0x8B ∷ 0x0D ∷ 0 ∷ 0 ∷ 0 ∷ 0 ∷ 0x48 ∷ 0x01 ∷ 0xC8 ∷ 0x48 ∷ 0x8B ∷ 0x10 ∷ 0x48 ∷ 0x83 ∷ 0xFA ∷ 0x05 ∷ 0x75 ∷ 0x04 ∷ 0xFF ∷ 0x50 ∷ 0x08 ∷ 0xC3 ∷ 0x0F ∷ 0x0B ∷ [];
      fixes = (3, target.Tables 8) ∷ (21, target.Tables 0) ∷ [];
    }

abbrev switcher : Func
switcher =
    record {
      name = 103 ∷ [];
      code = 0x83 ∷ 0xFE ∷ 0x02 ∷ 0x73 ∷ 0x12 ∷ 0x89 ∷ 0xF0 ∷ 0x48 ∷ 0x8D ∷ 0x0D ∷ 0 ∷ 0 ∷ 0 ∷ 0 ∷ 0x48 ∷ 0x63 ∷ 0x04 ∷ 0x81 ∷ 0x48 ∷ 0x01 ∷ 0xC8 ∷ 0xFF ∷ 0xE0 ∷ 0xC3 ∷ [];
      fixes = (10, target.Data 0) ∷ [];
    }

abbrev tagged_entries : List (ℕ × Option ℕ)
tagged_entries = (5, Some 0) ∷ (0, None) ∷ []

abbrev one_import : List (List ℕ)
one_import = (97 ∷ []) ∷ []

abbrev pub calling : Parts
calling =
    record {
      functions = caller ∷ switcher ∷ [];
      imports = one_import;
      tables = tagged_entries ∷ [];
      content = 0 ∷ 0 ∷ 0 ∷ 0 ∷ 0 ∷ 0 ∷ 0 ∷ 0 ∷ [];
      binds = (0, 0) ∷ [];
    }

caller_fits : FuncFits calling caller
caller_fits =
    record {
      name = lit≤ tt;
      code = lit≤ tt;
      fixes = all_two (FixFits calling caller) (3, target.Tables 8) (21, target.Tables 0) (record { inside = lit≤ tt; target = lit< tt }) (record { inside = lit≤ tt; target = lit< tt });
      apart = pairs_two (AreApart 4) (3, target.Tables 8) (21, target.Tables 0) (inl (lit≤ tt));
    }

switcher_fits : FuncFits calling switcher
switcher_fits =
    record {
      name = lit≤ tt;
      code = lit≤ tt;
      fixes = all_one (FixFits calling switcher) (10, target.Data 0) (record { inside = lit≤ tt; target = lit< tt });
      apart = pairs_one (AreApart 4) (10, target.Data 0);
    }

few_import : HasAtMost 65536 one_import
few_import = record { different = one_import; few = lit≤ tt; each = all_one (Contains one_import) (97 ∷ []) (0, lit< tt, refl) }

calling_size : file_size calling ≤ 67108864
unfolding sizes_of layout_from rounded_up
calling_size = lit≤ tt

pub calling_meets : MeetsBounds calling
calling_meets =
    record {
      few_functions = lit≤ tt;
      functions = all_two (FuncFits calling) caller switcher caller_fits switcher_fits;
      few_imports = few_import;
      imports = all_one (λ (name : List ℕ). length name ≤ 1024) (97 ∷ []) (lit≤ tt);
      few_tables = lit≤ tt;
      tables = all_one (TableFits calling) tagged_entries (record { few = lit≤ tt; each = all_two (EntryFits calling) (5, Some 0) (0, None) (lit< tt) tt });
      binds = all_one (BindFits calling) (0, 0) (record { inside = lit≤ tt; import = lit< tt });
      apart = pairs_one (AreApart 8) (0, 0);
      size = calling_size;
    }
