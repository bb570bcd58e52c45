use Rattle.vw_effect.proofs.effects.after.Goals as goal

pub returns-in-Xmm : goal.returns-in-Xmm
returns-in-Xmm c = rw c.in-Xmm.is c.xmm.ensures
