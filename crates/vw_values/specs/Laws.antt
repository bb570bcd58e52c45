-- What holds of all values: what they stand for, how operations rise with them, and which bounds the results name.
use Rattle.std.specs.Prelude.{◌≡◌, ℕ, ◌+◌, ◌*◌, ◌%◌, ◌^◌, ◌<◌, ◌≤◌, Bool, List, length, Option, Some, None, bit_and}
use Rattle.vw_insn.specs.declared.registers.Width.{Width}
use Rattle.vw_insn.specs.declared.registers.Width.TheVariants.{W32, W64}
use Rattle.vw_insn.specs.Words.{low}
use Rattle.vw_insn.specs.Arithmetic.{extended, wrapped_sum, wrapped_difference}
use Rattle.vw_insn.specs.Listed.{IsWide, IsNarrow}
use Rattle.vw_lattice.specs.Order.{IsJoin}
use Rattle.vw_values.specs.declared.value.Value.{Value}
use Rattle.vw_values.specs.declared.value.Value.TheVariants.{Num, Below, Low, Both, Index16, EntryTyped, TagOf}
use Rattle.vw_values.specs.declared.value.Via.TheVariants.{At, Idx}
use Rattle.vw_values.specs.Bounds.{IsBounds, first_from}
use Rattle.vw_values.specs.Values.{IsValue, IsValid, IsNumber, value_below}
use Rattle.vw_values.specs.Joins.{join}
use Rattle.vw_values.specs.Rank.{value_rank}
use Rattle.vw_values.specs.Sums.{add, subtract}
use Rattle.vw_values.specs.Narrowing.{narrow32, narrow}
use Rattle.vw_values.specs.Masks.{and}
use Rattle.vw_values.specs.Scales.{scale, shl4}
use Rattle.vw_values.specs.Refinements.{below, equal, cut}
use Rattle.vw_values.specs.Stands.{Instance, Stands, AgreeFor, table_list, HasRoom, EndsBelowTop}

-- ---- values

-- a greater value stands for more numbers
abbrev pub GreaterStandsForMore : Type 0
GreaterStandsForMore =
    (s : Instance) (registers : ℕ → ℕ) (x y : Value) (m : ℕ)
    → IsValue x → IsValue y → value_below x y → Stands s registers x m → Stands s registers y m

-- where an entry's tag is known that was read at the address in a register, the entry at that address has this tag
abbrev pub TagsTypeAddresses : Type 0
TagsTypeAddresses =
    (s : Instance) (registers : ℕ → ℕ) (t r tag m : ℕ)
    → Stands s registers (TagOf t (At r)) tag → m ≡ registers r → Stands s registers (EntryTyped t tag) m

-- where it was read at the offset in a register, the entry at the index of that offset has this tag; the table has to
-- end well below the last address
abbrev pub TagsMarkIndices : Type 0
TagsMarkIndices =
    (s : Instance) (registers : ℕ → ℕ) (t r tag k m : ℕ) (mark : Option (ℕ × ℕ))
    → EndsBelowTop s t → k ≤ 65536
    → Stands s registers (TagOf t (Idx r)) tag → m ≡ registers r
    → Stands s registers (Index16 k mark) m → Stands s registers (Index16 k (Some (t, tag))) m

-- a value that names no register that changed still stands for the number
abbrev pub StandsAcrossRegisters : Type 0
StandsAcrossRegisters =
    (s : Instance) (registers others : ℕ → ℕ) (x : Value) (m : ℕ)
    → AgreeFor x registers others → Stands s registers x m → Stands s others x m

-- values in their ranges are ordered, whatever bounds they name
abbrev pub OrderIsReflexive : Type 0
OrderIsReflexive = (x : Value) → IsValue x → value_below x x

abbrev pub OrderIsAntisymmetric : Type 0
OrderIsAntisymmetric = (x y : Value) → IsValue x → IsValue y → value_below x y → value_below y x → x ≡ y

abbrev pub OrderIsTransitive : Type 0
OrderIsTransitive =
    (x y z : Value) → IsValue x → IsValue y → IsValue z
    → value_below x y → value_below y z → value_below x z

-- the join of values in their ranges is the least valid value above both, whatever bounds they name
abbrev pub JoinsAreLeast : Type 0
JoinsAreLeast =
    (b : List ℕ) (x y : Value)
    → IsBounds b → IsValue x → IsValue y → IsJoin value_below (IsValid b) x y (join b x y)

-- joins rise with what is joined
abbrev pub JoinsRise : Type 0
JoinsRise =
    (b : List ℕ) (x x' y y' : Value)
    → IsBounds b → IsValue x → IsValue x' → IsValue y → IsValue y'
    → value_below x x' → value_below y y' → value_below (join b x y) (join b x' y')

-- so do least values above two, whatever list the bounds are
abbrev pub LeastBoundsRise : Type 0
LeastBoundsRise =
    (b : List ℕ) (x x' y y' low high : Value)
    → IsValue x → IsValue x' → IsValue y → IsValue y'
    → IsJoin value_below (IsValid b) x y low → IsJoin value_below (IsValid b) x' y' high
    → value_below x x' → value_below y y' → value_below low high

-- the join of two numbers is a number
abbrev pub NumbersJoin : Type 0
NumbersJoin =
    (b : List ℕ) (x y : Value)
    → IsBounds b → IsValue x → IsValue y → IsNumber x → IsNumber y → IsNumber (join b x y)

-- a value rises at most eight times more often than there are bounds
abbrev pub RanksAreSmall : Type 0
RanksAreSmall = (b : List ℕ) (v : Value) → value_rank b v ≤ length b + 8

-- ---- sums and differences

abbrev pub SumsAreValid : Type 0
SumsAreValid =
    (b : List ℕ) (tables : List (ℕ × ℕ)) (x y : Value)
    → IsBounds b → length tables ≤ 64 → IsValid b x → IsValid b y → IsValid b (add x y tables)

abbrev pub SumsRise : Type 0
SumsRise =
    (tables : List (ℕ × ℕ)) (x x' y y' : Value)
    → length tables ≤ 64 → IsValue x → IsValue x' → IsValue y → IsValue y'
    → value_below x x' → value_below y y' → value_below (add x y tables) (add x' y' tables)

abbrev pub SumsStand : Type 0
SumsStand =
    (s : Instance) (registers : ℕ → ℕ) (x y : Value) (m n : ℕ)
    → HasRoom s → Stands s registers x m → Stands s registers y n
    → Stands s registers (add x y (table_list s)) (wrapped_sum m n)

abbrev pub DifferencesAreValid : Type 0
DifferencesAreValid =
    (b : List ℕ) (tables : List (ℕ × ℕ)) (x y : Value)
    → IsBounds b → length tables ≤ 64 → IsValid b x → IsValid b (subtract x y tables)

abbrev pub DifferencesRise : Type 0
DifferencesRise =
    (tables : List (ℕ × ℕ)) (x x' y y' : Value)
    → length tables ≤ 64 → IsValue x → IsValue x' → IsValue y → IsValue y'
    → value_below x x' → value_below y y' → value_below (subtract x y tables) (subtract x' y' tables)

abbrev pub DifferencesStand : Type 0
DifferencesStand =
    (s : Instance) (registers : ℕ → ℕ) (x y : Value) (m n : ℕ)
    → HasRoom s → IsValue y → Stands s registers x m → Stands s registers y n
    → Stands s registers (subtract x y (table_list s)) (wrapped_difference m n)

-- ---- low bits

abbrev pub LowsAreValid : Type 0
LowsAreValid = (b : List ℕ) (x : Value) → IsBounds b → IsValid b x → IsValid b (narrow32 x)

abbrev pub LowsRise : Type 0
LowsRise = (x y : Value) → IsValue x → IsValue y → value_below x y → value_below (narrow32 x) (narrow32 y)

abbrev pub LowsStand : Type 0
LowsStand =
    (s : Instance) (registers : ℕ → ℕ) (x : Value) (m : ℕ)
    → Stands s registers x m → Stands s registers (narrow32 x) (m % 2 ^ 32)

abbrev pub NarrowsAreValid : Type 0
NarrowsAreValid =
    (b : List ℕ) (x : Value) (from to : Width) (signed : Bool)
    → IsBounds b → IsValid b x → IsValid b (narrow x from to signed)

abbrev pub NarrowsRise : Type 0
NarrowsRise =
    (x y : Value) (from to : Width) (signed : Bool)
    → IsValue x → IsValue y → value_below x y → value_below (narrow x from to signed) (narrow y from to signed)

abbrev pub NarrowsStand : Type 0
NarrowsStand =
    (s : Instance) (registers : ℕ → ℕ) (x : Value) (from to : Width) (signed : Bool) (m : ℕ)
    → IsNarrow from → IsWide to → Stands s registers x m
    → Stands s registers (narrow x from to signed) (extended signed from to (low from m))

-- ---- and, multiples

abbrev pub AndsAreValid : Type 0
AndsAreValid =
    (b : List ℕ) (x y : Value) (w : Width) → IsBounds b → IsValid b x → IsValid b y → IsValid b (and x y w b)

-- a bound of a Const is the least listed one, so the greater values have to name listed bounds
abbrev pub AndsRise : Type 0
AndsRise =
    (b : List ℕ) (x x' y y' : Value) (w : Width)
    → IsBounds b → IsValue x → IsValid b x' → IsValue y → IsValid b y'
    → value_below x x' → value_below y y' → value_below (and x y w b) (and x' y' w b)

abbrev pub AndsStand : Type 0
AndsStand =
    (s : Instance) (registers : ℕ → ℕ) (b : List ℕ) (x y : Value) (w : Width) (m n : ℕ)
    → IsBounds b → IsWide w → Stands s registers x m → Stands s registers y n
    → Stands s registers (and x y w b) (bit_and (low w m) (low w n))

abbrev pub ScalesAreValid : Type 0
ScalesAreValid = (b : List ℕ) (x : Value) (n : ℕ) → IsBounds b → IsValid b x → IsValid b (scale x n)

abbrev pub ScalesRise : Type 0
ScalesRise = (x y : Value) (n : ℕ) → IsValue x → IsValue y → value_below x y → value_below (scale x n) (scale y n)

abbrev pub ScalesStand : Type 0
ScalesStand =
    (s : Instance) (registers : ℕ → ℕ) (x : Value) (n m : ℕ)
    → m < 2 ^ 64 → Stands s registers x m → Stands s registers (scale x n) (n * m % 2 ^ 64)

abbrev pub ShiftsAreValid : Type 0
ShiftsAreValid = (b : List ℕ) (x : Value) → IsBounds b → IsValid b x → IsValid b (shl4 x b)

-- as for AndsRise
abbrev pub ShiftsRise : Type 0
ShiftsRise =
    (b : List ℕ) (x y : Value)
    → IsBounds b → IsValue x → IsValid b y → value_below x y → value_below (shl4 x b) (shl4 y b)

abbrev pub ShiftsStand : Type 0
ShiftsStand =
    (s : Instance) (registers : ℕ → ℕ) (b : List ℕ) (x : Value) (m : ℕ)
    → IsBounds b → Stands s registers x m → Stands s registers (shl4 x b) (16 * m % 2 ^ 64)

-- ---- refinements

-- the refined value, where there is one
abbrev pub IsValidWhere : List ℕ → Option Value → Type 0
IsValidWhere b None = Unit {0}
IsValidWhere b (Some v) = IsValid b v

-- of two values in order the lower is refined to a lower value, or to none
abbrev pub IsLower : Option Value → Option Value → Type 0
IsLower None high = Unit {0}
IsLower (Some low) None = ⊥
IsLower (Some low) (Some high) = value_below low high

-- the refined value is there and stands for the number
abbrev pub StandsWhere : Instance → (ℕ → ℕ) → Option Value → ℕ → Type 0
StandsWhere s registers None m = ⊥
StandsWhere s registers (Some v) m = Stands s registers v m

-- the greatest value in its range that is below both; what is below a number is a number
pub record IsGreatest (v w meet : Value) : Type 0 where
  pub in_range : IsValue meet
  pub left : value_below meet v
  pub right : value_below meet w
  pub greatest : (z : Value) → IsValue z → value_below z v → value_below z w → value_below z meet

-- the numbers but a Const
abbrev pub IsOpen : Value → Type 0
IsOpen Num = Unit {0}
IsOpen (Below k) = Unit {0}
IsOpen (Low k) = Unit {0}
IsOpen (Both k) = Unit {0}
IsOpen _ = ⊥

-- x < k at 64 bits leaves the greatest number under the value and under Below u, where u is the least bound that is
-- not below k
abbrev pub WholeCutIsGreatest : Type 0
WholeCutIsGreatest =
    (b : List ℕ) (k u : ℕ) (v : Value)
    → IsBounds b → first_from k b ≡ Some u → IsOpen v → IsValue v → IsGreatest v (Below u) (cut W64 (Some u) v)

-- and at 32 bits under Low u, where u is below 2 ^ 32
abbrev pub HalfCutIsGreatest : Type 0
HalfCutIsGreatest =
    (b : List ℕ) (k u : ℕ) (v : Value)
    → IsBounds b → first_from k b ≡ Some u → u < 2 ^ 32 → IsOpen v → IsValue v
    → IsGreatest v (Low u) (cut W32 (Some u) v)

abbrev pub BelowIsValid : Type 0
BelowIsValid =
    (b : List ℕ) (x : Value) (w : Width) (k : ℕ) → IsBounds b → IsWide w → IsValid b x → IsValidWhere b (below x w k b)

abbrev pub BelowRises : Type 0
BelowRises =
    (b : List ℕ) (x y : Value) (w : Width) (k : ℕ)
    → IsBounds b → IsWide w → IsValue x → IsValue y → value_below x y → IsLower (below x w k b) (below y w k b)

abbrev pub BelowStands : Type 0
BelowStands =
    (s : Instance) (registers : ℕ → ℕ) (b : List ℕ) (x : Value) (w : Width) (k m : ℕ)
    → IsBounds b → IsWide w → IsValue x → m < 2 ^ 64 → low w m < k
    → Stands s registers x m → StandsWhere s registers (below x w k b) m

abbrev pub EqualIsValid : Type 0
EqualIsValid =
    (b : List ℕ) (x : Value) (w : Width) (k : ℕ)
    → IsBounds b → IsWide w → k < 2 ^ 64 → IsValid b x → IsValidWhere b (equal x w k b)

abbrev pub EqualRises : Type 0
EqualRises =
    (b : List ℕ) (x y : Value) (w : Width) (k : ℕ)
    → IsBounds b → IsWide w → k < 2 ^ 64 → IsValue x → IsValue y → value_below x y
    → IsLower (equal x w k b) (equal y w k b)

abbrev pub EqualStands : Type 0
EqualStands =
    (s : Instance) (registers : ℕ → ℕ) (b : List ℕ) (x : Value) (w : Width) (k m : ℕ)
    → IsBounds b → IsWide w → IsValue x → m < 2 ^ 64 → low w m ≡ k
    → Stands s registers x m → StandsWhere s registers (equal x w k b) m
