-- The laws for every statement but Flow.
use Rattle.std.proofs.Common.{ℕ, ◌≤◌, ◌⊎◌, inl, inr, ⊎_elim, arith}
use Rattle.std.specs.Prelude.{true, false, ℤ}
use Rattle.vw_insn.specs.declared.operands.Mem.{Mem}
use Rattle.vw_stmt.specs.declared.statement.Stmt.{Stmt}
use Rattle.vw_stmt.specs.declared.statement.Stmt.TheVariants as stmt
use Rattle.vw_stmt.specs.Environment.{Environment, Pick}
use Rattle.vw_stmt.specs.Does.{performs}
use Rattle.vw_stmt.specs.Lifted.{IsLifted}
use Rattle.vw_stmt.specs.Laws.{HasWords, AreBytes}
use Rattle.vw_domain.proofs.ValueLaws.{ValueLaws}
use Rattle.vw_domain.proofs.Standing.{Standing}
use Rattle.vw_domain.specs.Statements.{apply}
use Rattle.vw_domain.specs.Soundness.{IsMemory, activation_after, HitsGuard, store}
use Rattle.vw_domain.specs.Checks.{Passes}
use Rattle.vw_domain.proofs.Statements.{set, copy, narrow, open_, and_, shl, sum, lea, choose, set_mono, copy_mono, narrow_mono, open_mono, and_mono, shl_mono, sum_mono, lea_mono, choose_mono}
use Rattle.vw_domain.proofs.Branches.{flags_stand, flags_mono}
use Rattle.vw_domain.proofs.Memory.{load_stands, store_stands, touch_stands}
use Rattle.vw_domain.proofs.MemoryOrder.{load_mono, store_mono, touch_mono}
use Rattle.vw_domain.proofs.AddressOrder.{address_closer, Closer}
use Rattle.vw_domain.proofs.Checks.{read_passes, write_passes}
use Rattle.vw_names.specs.declared.spot.Spot.TheVariants.{Slot}
use Rattle.vw_domain.specs.Abstract.{Abstract}
use Rattle.vw_domain.specs.Changes.{write}
use Rattle.vw_domain.specs.Sites.{Site, IsSite}
use Rattle.vw_domain.specs.Stands.{Machine}
use Rattle.vw_domain.specs.Soundness.{IsPlaced, held_of}
use Rattle.vw_domain.specs.FormRanges.{IsForm, SlotFits}
use Rattle.vw_domain.proofs.Orders.{Lower}
use Rattle.vw_domain.specs.Addresses.{address_of}

-- ---- (A)

module _ (top : Machine) (site : Site) (next : ℕ) (laid : IsPlaced top site next) (laws : ValueLaws) (bounds : IsSite site)
    (loads : (ℕ → ℕ) → ℕ → ℕ → ℕ) (memory : IsMemory top site loads) (pick : Pick)
    (st : Abstract) (e : Environment) (compared : ℕ) (words : HasWords e) (are_bytes : AreBytes e.bytes) (valid : IsForm site.bounds st)
    (h : Standing st top (held_of e) e.flags e.bytes compared) where
  abbrev Left : Stmt → Type 0
  Left s =
      let e' = performs loads (store top) next s pick e in
      HitsGuard top next e s ⊎ ((x : ℕ) × Standing (apply site s st) (activation_after next e top s) (held_of e') e'.flags e'.bytes x)

  small : (o : ℤ) → st.sizes o ≤ 8
  small o = by_fit (valid.slots o)
    where
      by_fit : SlotFits (st.sizes o) (st.values (Slot o)) → st.sizes o ≤ 8
      by_fit (inl k) = let z = k.0 in omega arith
      by_fit (inr (inl k)) = omega arith
      by_fit (inr (inr k)) = let z = k.0 in omega arith

  pub stmt_stands : (s : Stmt) → IsLifted s → Passes site st s → Left s
  stmt_stands (stmt.Set dst c) i m = inr (compared, set top site next laid laws bounds loads (store top) pick st e compared words valid h dst c)
  stmt_stands (stmt.Copy dst src) i m = inr (compared, copy top site next laid laws bounds loads (store top) pick st e compared words valid h dst src)
  stmt_stands (stmt.Narrow dst src from to sg) i m = inr (compared, narrow top site next laid laws bounds loads (store top) pick st e compared words valid h dst src from to sg i.0 i.1)
  stmt_stands (stmt.Sum dst a b minus) i m = inr (compared, sum top site next laid laws bounds loads (store top) pick st e compared words valid h dst a b minus)
  stmt_stands (stmt.Lea dst mem) i m = inr (compared, lea top site next laid laws bounds loads (store top) pick st e compared words valid h dst mem i)
  stmt_stands (stmt.And dst width a b) i m = inr (compared, and_ top site next laid laws bounds loads (store top) pick st e compared words valid h dst width a b i)
  stmt_stands (stmt.Shl dst) i m = inr (compared, shl top site next laid laws bounds loads (store top) pick st e compared words valid h dst)
  stmt_stands (stmt.Open dst width) i m = inr (compared, open_ top site next laid laws bounds loads (store top) pick st e compared words valid h dst width)
  stmt_stands (stmt.Choose dst width a b) i m = inr (compared, choose top site next laid laws bounds loads (store top) pick st e compared words valid h dst width a b)
  stmt_stands (stmt.Load dst size to sg mem) i m =
      inr (compared, load_stands top site next laid laws bounds loads memory pick st e compared words valid are_bytes h dst size to sg mem i.0 i.1 m)
  stmt_stands (stmt.Store mem size src) i m =
      ⊎_elim (λ (g : HitsGuard top next e (stmt.Store mem size src)). inl g)
      (λ (k : (let e' = performs loads (store top) next (stmt.Store mem size src) pick e in Standing (apply site (stmt.Store mem size src) st) (activation_after next e top (stmt.Store mem size src)) (held_of e') e'.flags e'.bytes compared)). inr (compared, k))
      (store_stands top site next laid laws bounds loads pick st e compared words valid small h mem size src i.0 i.1 m)
  stmt_stands (stmt.Touch mem size true) i m =
      ⊎_elim (λ (g : HitsGuard top next e (stmt.Touch mem size true)). inl g)
      (λ (k : (let e' = performs loads (store top) next (stmt.Touch mem size true) pick e in Standing (apply site (stmt.Touch mem size true) st) (activation_after next e top (stmt.Touch mem size true)) (held_of e') e'.flags e'.bytes compared)). inr (compared, k))
      (touch_stands top site next laid laws bounds loads pick st e compared words valid small h mem size i.0 i.1 m)
  stmt_stands (stmt.Touch mem size false) i m = inr (compared, h)
  stmt_stands (stmt.Flags fact) i m = inr (flags_stand top site next laid laws bounds loads (store top) pick st e compared words valid h fact i)
  stmt_stands (stmt.Flow f) i m = inr (compared, h)

-- ---- (B)

module _ (site : Site) (laws : ValueLaws) (bounds : IsSite site) (s t : Abstract) (below : Lower s t) (vs : IsForm site.bounds s) (vt : IsForm site.bounds t) where
  pub stmt_mono : (x : Stmt) → IsLifted x → Lower (apply site x s) (apply site x t)
  stmt_mono (stmt.Set dst c) i = set_mono site laws bounds s t below vs vt dst c
  stmt_mono (stmt.Copy dst src) i = copy_mono site laws bounds s t below vs vt dst src
  stmt_mono (stmt.Narrow dst src from to sg) i = narrow_mono site laws bounds s t below vs vt dst src from to sg
  stmt_mono (stmt.Sum dst a b minus) i = sum_mono site laws bounds s t below vs vt dst a b minus
  stmt_mono (stmt.Lea dst mem) i = lea_mono site laws bounds s t below vs vt dst mem
  stmt_mono (stmt.And dst width a b) i = and_mono site laws bounds s t below vs vt dst width a b
  stmt_mono (stmt.Shl dst) i = shl_mono site laws bounds s t below vs vt dst
  stmt_mono (stmt.Open dst width) i = open_mono site laws bounds s t below vs vt dst width
  stmt_mono (stmt.Choose dst width a b) i = choose_mono site laws bounds s t below vs vt dst width a b
  stmt_mono (stmt.Load dst size to sg mem) i = load_mono site laws bounds s t below vs vt dst size to sg mem i.0
  stmt_mono (stmt.Store mem size src) i = store_mono site laws bounds s t below vs vt mem size src
  stmt_mono (stmt.Touch mem size write) i = touch_mono site laws bounds s t below vs vt mem size write
  stmt_mono (stmt.Flags fact) i = flags_mono site laws bounds s t below vs vt fact
  stmt_mono (stmt.Flow f) i = below

  closer : (mem : Mem) → Closer (address_of site s mem) (address_of site t mem)
  closer mem = address_closer site laws bounds s t below vs vt mem.base mem.index mem.disp

  -- the checks of accesses
  pub stmt_passes : (x : Stmt) → Passes site t x → Passes site s x
  stmt_passes (stmt.Load dst size to sg mem) m = read_passes site s t below _ _ size (closer mem) m
  stmt_passes (stmt.Store mem size src) m = write_passes site s t below _ _ size (closer mem) m
  stmt_passes (stmt.Touch mem size true) m = write_passes site s t below _ _ size (closer mem) m
  stmt_passes (stmt.Touch mem size false) m = read_passes site s t below _ _ size (closer mem) m
  stmt_passes x m = tt
