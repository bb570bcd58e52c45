-- Orders of what is known of the stack. Lower says more (Cousot and Cousot, Abstract interpretation,
-- 1977: an element stands for the states that its greater elements stand for as well).
use Rattle.std.specs.Prelude.{◌≡◌, ◌≤◌, ℕ, ⊤}
use Rattle.vw_stack.specs.declared.offset.Offset.{Offset}
use Rattle.vw_stack.specs.declared.offset.Offset.TheVariants.{Known, Unknown}
use Rattle.vw_stack.specs.declared.depth.Depth.{Depth}

-- a known offset is below itself and below Unknown, and Unknown below itself alone
abbrev pub offset_below : Offset → Offset → Type 0
offset_below low Unknown = ⊤
offset_below Unknown (Known high) = ⊥
offset_below (Known low) (Known high) = low ≡ high

-- a known offset can still rise once
abbrev pub offset_rank : Offset → ℕ
offset_rank (Known _) = 1
offset_rank Unknown = 0

-- a greater depth says more, and is lower
abbrev pub depth_below : Depth → Depth → Type 0
depth_below low high = high.0 ≤ low.0

-- a depth can still rise once for each of its bytes
abbrev pub depth_rank : Depth → ℕ
depth_rank depth = depth.0
