use Rattle.std.proofs.Common.{◌∙◌}
use Rattle.vw_names.proofs.Lookups.{refined_differs}
use Rattle.vw_names.proofs.classes.ClassesLattice.join.Goals as goal

pub returns-clause-changed : goal.returns-clause-changed
returns-clause-changed c = refined_differs c.is_coarser.result c.args.self.now c.args.other.now c.in_ok-common.common.items c.deref.result.now c.deref-2.result.now c.deref-3.result.now c.deref-4.result.now (c.deref.ensures.value ∙ c.other.view_is) (c.deref-2.ensures.value ∙ c.self.view_is) (c.deref-3.ensures.value ∙ c.self.view_is) (c.deref-4.ensures.value ∙ c.other.view_is) c.is_coarser.ensures c.if-is_coarser.false c.in_ok-common.ensures.refines
