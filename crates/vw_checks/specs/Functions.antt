-- The functions of a module.
use Rattle.std.specs.Prelude.{◌≡◌}
use Rattle.vw_layout.specs.declared.layout.Module.{Module}
use Rattle.vw_state.specs.Context.{Context}

-- the function is in the module's image and has its declared functions
pub record IsFunctionOf (m : Module) (f : Context) : Type 0 where
  pub image : f.image ≡ m.image
  pub functions : f.functions ≡ m.functions
