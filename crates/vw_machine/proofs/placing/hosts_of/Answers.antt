use Rattle.std.proofs.Common.{ℕ, ◌+◌, ◌*◌, List, [], ◌∷◌, ◌++◌, sym, ◌∙◌, ap}
use Rattle.vw_machine.specs.World.{usual_hosts}
use Rattle.vw_machine.proofs.WorldLemmas.{hosts_more}
use Rattle.vw_machine.proofs.placing.hosts_of.Goals as goal

pub loop-number-init : goal.loop-number-init
unfolding usual_hosts
loop-number-init c = c.new-hosts.ensures

pub loop-number-preserved : goal.loop-number-preserved
loop-number-preserved c =
    c.in_ok-push.ensures.ok
    ∙ ap (λ (l : List ℕ). l ++ (0x600000000000 + 16 * c.loop-number.number) ∷ []) c.loop-number.invariant
    ∙ sym (hosts_more c.loop-number.number)
