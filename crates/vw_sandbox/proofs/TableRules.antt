-- Safe tables of the module of a file keep the sandbox.
use Rattle.std.proofs.Common.{◌≡◌, ℕ, zero, suc, ◌+◌, ◌-◌, ◌^◌, ◌<◌, ◌≤◌, List, [], ◌∷◌, slice_index, arith, lit<}
use Rattle.std.specs.Prelude.{Contains, Some, None}
use Rattle.std.specs.List.{AllByRecursion}
use Rattle.vw_bits.specs.HeaderRules.{header_fault}
use Rattle.vw_rows.specs.Numbers.{IsBytes}
use Rattle.vw_image.specs.declared.stub.Stub.{Stub}
use Rattle.vw_image.specs.Image.{image_of}
use Rattle.vw_layout.specs.declared.functions.Function.{Function}
use Rattle.vw_layout.specs.Layout.{IsModule, declared_functions}
use Rattle.vw_domain.specs.ValueLaws.{ValueLaws}
use Rattle.vw_domain.proofs.Lower.{lower_stands}
use Rattle.vw_domain.proofs.Orders.{lower_of}
use Rattle.vw_domain.proofs.Standing.{Standing, stands_of}
use Rattle.vw_machine.specs.declared.world.World.{World}
use Rattle.vw_machine.specs.World.{Range, IsLaidOut, IsHostAddress}
use Rattle.vw_machine.specs.Module.{declared_module, module_of}
use Rattle.vw_sandbox.specs.Maps.{Map, IsSandboxedBy}
use Rattle.vw_sandbox.specs.Tables.{Tables, Bounds, AreSafe, IsMapOf}
use Rattle.vw_sandbox.proofs.DomainLaws.{DomainLaws, LowersStandForLess}
use Rattle.vw_sandbox.proofs.Instances.{image_low}
use Rattle.vw_sandbox.proofs.Kept.{sandboxed_by}
use Rattle.vw_sandbox.proofs.Modules.{headers_hold}
use Rattle.vw_sandbox.specs.Gathered.{ModuleLaws}
use Rattle.vw_sandbox.proofs.Rules.{set_up, functions_have_bytes}
use Rattle.vw_sandbox.proofs.Sites.{SiteLaws}
use Rattle.vw_sandbox.proofs.Stating.{StatementLaws, module_bytes, stated_kept}
use Rattle.vw_sandbox.proofs.StubEntries.{no_stub_there}
use Rattle.vw_sandbox.proofs.StubReads.{ReadsOnly, ReadsNone}
use Rattle.vw_sandbox.proofs.TableSteps.{Asserts, tables_stated}

-- A form whose written bytes are in the frame, below one in its ranges, stands for less: the order asks no more of it.
pub lowers_stand : ValueLaws → LowersStandForLess
lowers_stand laws site m next s t compared placed is writes form frame below h =
    stands_of t m m.registers m.flags m.byte compared
    (lower_stands m site next placed laws is s t m.registers m.flags m.byte compared (lower_of s t below) form standing)
  where
    standing : Standing s m m.registers m.flags m.byte compared
    standing = record {
      low_end = h.start;
      high_end = h.end;
      depth = h.depth;
      offsets = h.offsets;
      values = h.values;
      classes = h.classes;
      inside = frame;
      written = λ c e. (writes c e, h.written c e);
      word = h.word;
      facts = h.fact;
      kinds = h.kinds;
    }

hosts_low : (w : World) (image : List Range) (hosts : List ℕ) → AllByRecursion (IsHostAddress w image) hosts → (number : ℕ) → slice_index hosts number < 2 ^ 64
hosts_low w image [] all number = lit< tt
hosts_low w image (host ∷ hosts) all zero = let low = all.0.0 in omega arith
hosts_low w image (host ∷ hosts) all (suc number) = hosts_low w image hosts all.1 number

file_bytes : (file : List ℕ) → IsBytes file → (a : ℕ) → slice_index (image_of file).bytes a < 256
unfolding image_of
file_bytes file are = are

module _ (rules : ModuleLaws) (statements : StatementLaws) (domain : DomainLaws) (sites : SiteLaws) (only : ReadsOnly) (none : ReadsNone) (file : List ℕ) (is : IsModule file) (bytes : IsBytes file) (bounds : Bounds) (tables : Tables) (map : Map)
    (safe : AreSafe (declared_module file) bounds tables) (is_map : IsMapOf (declared_module file) bounds tables map) where
  headers : header_fault file ≡ None
  headers = (headers_hold file is).0

  pub tables_sandbox : IsSandboxedBy (module_of file) map
  unfolding module_of
  tables_sandbox =
      sandboxed_by (module_of file) map (Asserts domain statements.words sites statements.form file is headers (file_bytes file bytes) bounds tables map) (set_up rules file is)
      (λ w laid.
      stated_kept (module_of file) w laid (module_bytes file bytes w) statements map (Asserts domain statements.words sites statements.form file is headers (file_bytes file bytes) bounds tables map w)
      (tables_stated domain statements.words sites statements.form file is headers (file_bytes file bytes) bounds tables map safe is_map w laid (hosts_low w (module_of file).image w.hosts laid.hosts_outside.1) (module_bytes file bytes w) (ends w laid) (low w laid) (no_stub w)))
    where
      ends : (w : World) → IsLaidOut (module_of file).image (module_of file).imports w → (f : Function) → Contains (module_of file).functions f → w.load + f.entry + f.size ≤ 2 ^ 47
      ends w laid f listed =
          let part = (set_up rules file is w laid).code f listed in
          let some = functions_have_bytes rules file is f listed in
          let last : w.load + f.entry + f.size - 1 < 2 ^ 47 = image_low laid part.part part.of_image (w.load + f.entry + f.size - 1) (omega (arith, part.low)) (omega (arith, part.high)) in
          omega arith

      low : (w : World) → IsLaidOut (module_of file).image (module_of file).imports w → (place : ℕ) (stub : Stub) → (module_of file).stub place ≡ Some stub → w.load + place < 2 ^ 47
      low w laid place stub at =
          let part = (set_up rules file is w laid).stub place stub at in
          image_low laid part.part part.of_image (w.load + place) (omega (arith, part.low)) (omega (arith, part.high))

      no_stub : (w : World) (g : Function) → Contains (module_of file).functions g → (stub : Stub) → (module_of file).stub g.entry ≡ Some stub → ⊥
      no_stub w g listed stub at =
          no_stub_there only none (declared_module file) bounds tables safe w (module_bytes file bytes w) (rules.laws.settled (image_of file) (rules.images file is)) g listed stub
          (rules.stub (image_of file) (declared_functions file) g.entry stub at).0
