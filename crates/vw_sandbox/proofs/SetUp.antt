-- What the proof over runs takes of a module and an instance.
use Rattle.std.proofs.Common.{◌≡◌, ◌≢◌, ℕ, ◌+◌, ◌≤◌, ◌<◌, ◌⊎◌, ◌==◌, Bool, true, false, inl, inr, List, [], ◌∷◌, zero, suc, Some, None, Option, refl, sym, ap, ◌∙◌, arith}
use Rattle.std.specs.Prelude.{Contains, slice_get}
use Rattle.std.proofs.lemmas.Bool.{eqb-true, eqb-false}
use Rattle.std.proofs.lemmas.Option.{slice_get_within, get_or_from_slice_get}
use Rattle.vw_image.specs.declared.stub.Stub.{Stub}
use Rattle.vw_image.specs.declared.stub.StubTo.TheVariants.{Import}
use Rattle.vw_layout.specs.declared.functions.Function.{Function}
use Rattle.vw_layout.specs.declared.tables.TableInfo.{TableInfo}
use Rattle.vw_layout.specs.declared.tables.TableEntry.{TableEntry}
use Rattle.vw_layout.specs.Tables.{is_empty_tag}
use Rattle.vw_machine.specs.declared.world.World.{World}
use Rattle.vw_machine.specs.World.{Range, IsLaidOut, IsHostAddress, IsIn, loaded_range}
use Rattle.vw_machine.specs.Module.{ModuleView}
use Rattle.vw_machine.specs.Standing.{IsHostAt}
use Rattle.vw_machine.specs.Step.{slot_word}
use Rattle.vw_machine.specs.Permitted.{is_pointer}
use Rattle.vw_sandbox.specs.Claims.{IsProbeStub}
use Rattle.vw_machine.proofs.Regions.{all_of}
use Rattle.vw_sandbox.proofs.Instances.{host_elsewhere}
use Rattle.vw_sandbox.specs.Gathered.{StandsAlone}

-- n places from this one on lie in the memory of a segment
pub record IsInImage (m : ModuleView) (place n : ℕ) : Type 0 where
  pub part : Range
  pub of_image : Contains m.image part
  pub low : part.from ≤ place
  pub high : place + n ≤ part.to

-- a function or a stub begins there, and no stub of the probe
abbrev pub IsCallable : ModuleView → World → ℕ → Type 0
IsCallable m w to =
    (place : ℕ) × (to ≡ w.load + place) × (¬ IsProbeStub m w to)
    × (((f : Function) × Contains m.functions f × (f.entry ≡ place)) ⊎ ((stub : Stub) × (m.stub place ≡ Some stub)))

pub record IsSetUp (m : ModuleView) (w : World) : Type 0 where
  pub laid : IsLaidOut m.image m.imports w
  pub alone : StandsAlone m w
  -- functions and stubs lie in the image
  pub code : (f : Function) → Contains m.functions f → IsInImage m f.entry f.size
  pub stub : (place : ℕ) (stub : Stub) → m.stub place ≡ Some stub → IsInImage m place 1
  -- the word in a stub's slot is the address of an import's function or of a declared one
  pub slot :
      (place : ℕ) (stub : Stub) → m.stub place ≡ Some stub
      → ((number : ℕ) × (stub.to ≡ Import number) × (slice_get w.hosts number ≡ Some (slot_word m w stub.slot)))
      ⊎ ((f : Function) × Contains m.functions f × (slot_word m w stub.slot ≡ w.load + f.entry) × ((number : ℕ) → stub.to ≢ Import number))
  -- the pointer of a table's entry that is not empty can be called, and is not the probe's
  pub pointer :
      (table : TableInfo) (entry : TableEntry) (to : ℕ) → Contains m.tables table → Contains table.entries entry → is_empty_tag entry.tag ≡ false → is_pointer w entry.pointer to ≡ true
      → IsHostAt m w to ⊎ IsCallable m w to

-- ---- lists

pub contains_of_get : {A : Type 0} (xs : List A) (k : ℕ) (x : A) → slice_get xs k ≡ Some x → Contains xs x
contains_of_get {A} [] k x is = absurd (let none : ◌≡◌ {A = Option A} None (Some x) = is in cc)
contains_of_get (y ∷ ys) zero x is = (0, omega arith, (let same : Some y ≡ Some x = is in cc))
contains_of_get (y ∷ ys) (suc k) x is = let later = contains_of_get ys k x is in (suc later.0, omega (arith, later.1), later.2)

-- a declared function begins at the place, or none does
pub function_or_none : (functions : List Function) (place : ℕ) → ((f : Function) × Contains functions f × (f.entry ≡ place)) ⊎ ((f : Function) → Contains functions f → f.entry ≢ place)
function_or_none [] place = inr (λ f here. absurd (omega (arith, here.1)))
function_or_none (g ∷ gs) place = by_first (g.entry == place) refl (function_or_none gs place)
  where
    none_here : (g.entry == place) ≡ false → ((f : Function) → Contains gs f → f.entry ≢ place) → (f : Function) → Contains (g ∷ gs) f → f.entry ≢ place
    none_here other later f (zero, inside, is) same = eqb-false g.entry place other (ap (λ (h : Function). h.entry) is ∙ same)
    none_here other later f (suc k, inside, is) same = later f (k, omega arith, is) same

    by_first : (b : Bool) → (g.entry == place) ≡ b → ((f : Function) × Contains gs f × (f.entry ≡ place)) ⊎ ((f : Function) → Contains gs f → f.entry ≢ place)
        → ((f : Function) × Contains (g ∷ gs) f × (f.entry ≡ place)) ⊎ ((f : Function) → Contains (g ∷ gs) f → f.entry ≢ place)
    by_first true is later = inl (g, (0, omega arith, refl), eqb-true g.entry place is)
    by_first false other (inl found) = inl (found.0, (suc found.1.0, omega (arith, found.1.1), found.1.2), found.2)
    by_first false other (inr none) = inr (none_here other none)

-- ---- addresses of the host

module _ {m : ModuleView} {w : World} (setup : IsSetUp m w) where
  pub image_not_home : (place n k : ℕ) → IsInImage m place n → k < n → w.load + place + k ≢ w.host_return
  image_not_home place n k part inside =
      let low = part.low in
      let high = part.high in
      host_elsewhere setup.laid part.part part.of_image (w.load + place + k) (omega arith) (omega arith)

  pub code_not_home : (f : Function) (point rip : ℕ) → Contains m.functions f → point < f.size → rip ≡ w.load + f.entry + point → rip ≢ w.host_return
  code_not_home f point rip listed inside at same = image_not_home f.entry f.size point (setup.code f listed) inside (sym at ∙ same)

  -- an import's function lies elsewhere than the image
  pub host_not_image : (number a place n k : ℕ) → slice_get w.hosts number ≡ Some a → IsInImage m place n → k < n → a ≢ w.load + place + k
  host_not_image number a place n k is part inside same =
      let host : IsHostAddress w m.image a = all_of (IsHostAddress w m.image) w.hosts setup.laid.hosts_outside.1 a (contains_of_get w.hosts number a is) in
      let low = part.low in
      let high = part.high in
      all_of (λ (p : Range). ¬ IsIn a (loaded_range w p)) m.image host.1 part.part part.of_image (omega arith, omega arith)

  -- and is not the host's return address
  pub host_not_home : (number a : ℕ) → slice_get w.hosts number ≡ Some a → a ≢ w.host_return
  host_not_home number a is same =
      let inside = slice_get_within w.hosts number a is in
      let at = get_or_from_slice_get w.hosts number a 0 is in
      setup.laid.hosts_distinct 0 (suc number) 0 (omega arith) (omega arith) (sym (at ∙ same))
