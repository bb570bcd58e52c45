use Rattle.vw_sandbox.proofs.laws.transfers_keep_to_points.Goals as goal

pub returns : goal.returns
returns c m w map top rip to elsewhere keeps = elsewhere keeps.function keeps.point keeps.of_top keeps.has_state keeps.at
