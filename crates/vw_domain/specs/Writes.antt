-- What the writes of a state do to its parts.
use Rattle.std.specs.Prelude.{◌≡◌, ◌≢◌, ℕ, ◌==◌, ℤ, Bool, true, not, List, Option, Some, None, length}
use Rattle.std.specs.Option.{option_map}
use Rattle.vw_lattice.specs.Entries.{IsAscending, value_at}
use Rattle.vw_names.specs.declared.spot.Spot.{Spot}
use Rattle.vw_names.specs.declared.spot.Spot.TheVariants.{Reg}
use Rattle.vw_names.specs.Division.{IsDivision, Leaves, Follows}
use Rattle.vw_values.specs.declared.value.Value.{Value}
use Rattle.vw_domain.specs.declared.gone.Gone.{Gone}
use Rattle.vw_domain.specs.declared.gone.Gone.TheVariants.{Register, Unsaved, Temporary}
use Rattle.vw_domain.specs.declared.parts.Parts.{Parts}
use Rattle.vw_domain.specs.declared.registers.Register as row
use Rattle.vw_domain.specs.Registers.{register_at}
use Rattle.vw_domain.specs.Abstract.{is_there, class_number}
use Rattle.vw_domain.specs.Changes.{forget, is_kept, is_register}

-- the register is written
abbrev pub is_gone : Gone → ℕ → Bool
is_gone (Register d) r = r == d
is_gone Unsaved r = not (is_kept r)
is_gone Temporary r = not (is_register r)

abbrev pub forgotten_register : Gone → row.Register → row.Register
forgotten_register gone r = record r { value = forget (is_gone gone) r.value }

-- of each register's value is left what it still says
pub record ForgetsRow (gone : Gone) (old new : List row.Register) : Type 0 where
  pub seventeen : length new ≡ 17
  pub registers : (r : ℕ) → register_at new r ≡ forgotten_register gone (register_at old r)

-- and of each slot's value
pub record ForgetsSlots (gone : Gone) (old new : List (ℤ × Value)) : Type 0 where
  pub ascending : IsAscending new
  pub values : (key : ℤ) → value_at new key ≡ option_map (forget (is_gone gone)) (value_at old key)

-- place e is put into the class of place a; where both are one place it stays in its class
pub record FollowsPlace (s : Parts) (e a : Spot) (classes : List (ℕ × ℕ)) : Type 0 where
  pub there : is_there s a ≡ true
  pub self : a ≡ e → classes ≡ s.classes
  pub other : a ≢ e → Follows (class_number s e) (class_number s a) s.classes classes

-- place e leaves its class, for that of the place from which its number comes if there is one
abbrev pub MovesPlace : Parts → Spot → Option Spot → List (ℕ × ℕ) → Type 0
MovesPlace s e None classes = Leaves (class_number s e) s.classes classes
MovesPlace s e (Some a) classes = FollowsPlace s e a classes

-- register d is written, and this is known of it then
pub record WritesRegister (d : ℕ) (source : Option Spot) (known : row.Register) (old new : Parts) : Type 0 where
  pub seventeen : length new.registers ≡ 17
  pub register : register_at new.registers d ≡ forgotten_register (Register d) known
  pub others : (r : ℕ) → r ≢ d → register_at new.registers r ≡ forgotten_register (Register d) (register_at old.registers r)
  pub slots : ForgetsSlots (Register d) old.slots new.slots
  pub classes : MovesPlace old (Reg d) source new.classes
  pub division : IsDivision new.classes
  pub probed : new.probed ≡ old.probed
  pub written : new.written ≡ old.written
  pub fact : new.fact ≡ old.fact
