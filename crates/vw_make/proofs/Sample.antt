-- The parts of the test meet the bounds.
use Rattle.std.proofs.Common.{ℕ, zero, suc, ◌≤◌, List, [], ◌∷◌, Option, Some, None, length, inl, refl, lit<, lit≤, arith}
use Rattle.std.specs.List.{All, AllPairs, Contains}
use Rattle.vw_make.specs.declared.parts.Parts.{Parts}
use Rattle.vw_make.specs.declared.parts.Func.{Func}
use Rattle.vw_make.specs.declared.parts.Target.TheVariants.{Stub, Tables}
use Rattle.vw_make.specs.Bounds.{AreApart, EntryFits, FixFits, FuncFits, TableFits, BindFits, HasAtMost, MeetsBounds}
use Rattle.vw_make.specs.Bytes.{rounded_up}
use Rattle.vw_make.specs.Layout.{sizes_of, layout_from, file_size}

pub all_none : {X : Type 0} (P : X → Type 0) → All P []
all_none P k d inside = absurd (omega arith)

pub all_one : {X : Type 0} (P : X → Type 0) (a : X) → P a → All P (a ∷ [])
all_one P a p zero d inside = p
all_one P a p (suc k) d inside = absurd (omega arith)

pub all_two : {X : Type 0} (P : X → Type 0) (a b : X) → P a → P b → All P (a ∷ b ∷ [])
all_two P a b p q zero d inside = p
all_two P a b p q (suc zero) d inside = q
all_two P a b p q (suc (suc k)) d inside = absurd (omega arith)

pub pairs_none : {X : Type 0} (R : X → X → Type 0) → AllPairs R []
pairs_none R i j d below inside = absurd (omega arith)

pub pairs_one : {X : Type 0} (R : X → X → Type 0) (a : X) → AllPairs R (a ∷ [])
pairs_one R a i j d below inside = absurd (omega arith)

pub pairs_two : {X : Type 0} (R : X → X → Type 0) (a b : X) → R a b → AllPairs R (a ∷ b ∷ [])
pairs_two R a b r i zero d below inside = absurd (omega arith)
pairs_two R a b r zero (suc zero) d below inside = r
pairs_two R a b r (suc i) (suc zero) d below inside = absurd (omega arith)
pairs_two R a b r i (suc (suc j)) d below inside = absurd (omega arith)

abbrev pub first : Func
first = record { name = 102 ∷ []; code = 0xE8 ∷ 0 ∷ 0 ∷ 0 ∷ 0 ∷ 0x8B ∷ 5 ∷ 0 ∷ 0 ∷ 0 ∷ 0 ∷ 0xC3 ∷ []; fixes = (1, Stub 1) ∷ (7, Tables 8) ∷ [] }

abbrev pub second : Func
second = record { name = 103 ∷ 103 ∷ []; code = 0xC3 ∷ []; fixes = [] }

abbrev pub imports : List (List ℕ)
imports = (97 ∷ []) ∷ (98 ∷ 99 ∷ []) ∷ []

abbrev pub entries : List (ℕ × Option ℕ)
entries = (5, Some 1) ∷ (9, None) ∷ []

abbrev pub sample : Parts
sample =
    record {
      functions = first ∷ second ∷ [];
      imports = imports;
      tables = entries ∷ [];
      content = 1 ∷ 2 ∷ 3 ∷ 4 ∷ 5 ∷ 6 ∷ 7 ∷ 8 ∷ 9 ∷ 10 ∷ [];
      binds = (1, 1) ∷ [];
    }

first_fits : FuncFits sample first
first_fits =
    record {
      name = lit≤ tt;
      code = lit≤ tt;
      fixes = all_two (FixFits sample first) (1, Stub 1) (7, Tables 8) (record { inside = lit≤ tt; target = lit< tt }) (record { inside = lit≤ tt; target = lit< tt });
      apart = pairs_two (AreApart 4) (1, Stub 1) (7, Tables 8) (inl (lit≤ tt));
    }

second_fits : FuncFits sample second
second_fits = record { name = lit≤ tt; code = lit≤ tt; fixes = all_none (FixFits sample second); apart = pairs_none (AreApart 4) }

pub few : HasAtMost 65536 imports
few = record { different = imports; few = lit≤ tt; each = all_two (Contains imports) (97 ∷ []) (98 ∷ 99 ∷ []) (0, lit< tt, refl) (1, lit< tt, refl) }

size : file_size sample ≤ 67108864
unfolding sizes_of layout_from rounded_up
size = lit≤ tt

pub sample_meets : MeetsBounds sample
sample_meets =
    record {
      few_functions = lit≤ tt;
      functions = all_two (FuncFits sample) first second first_fits second_fits;
      few_imports = few;
      imports = all_two (λ (name : List ℕ). length name ≤ 1024) (97 ∷ []) (98 ∷ 99 ∷ []) (lit≤ tt) (lit≤ tt);
      few_tables = lit≤ tt;
      tables = all_one (TableFits sample) entries (record { few = lit≤ tt; each = all_two (EntryFits sample) (5, Some 1) (9, None) (lit< tt) tt });
      binds = all_one (BindFits sample) (1, 1) (record { inside = lit≤ tt; import = lit< tt });
      apart = pairs_one (AreApart 8) (1, 1);
      size = size;
    }
