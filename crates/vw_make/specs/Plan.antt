-- Places that were worked out for the parts of a module.
use Rattle.std.specs.Prelude.{◌≡◌, ℕ, ◌<◌, length, slice_index}
use Rattle.vw_make.specs.declared.plan.Plan.{Plan}
use Rattle.vw_make.specs.Bounds.{MeetsBounds}
use Rattle.vw_make.specs.Layout.{sizes_of, layout_of, function_at}

pub record IsPlan (plan : Plan) : Type 0 where
  pub bounds : MeetsBounds plan.parts.now
  pub sizes : plan.sizes ≡ sizes_of plan.parts.now
  pub layout : plan.layout ≡ layout_of plan.parts.now
  pub count : length plan.functions.items ≡ length plan.parts.now.functions
  pub functions : (number : ℕ) → number < length plan.parts.now.functions → slice_index plan.functions.items number ≡ function_at plan.parts.now.functions plan.layout number
