use Rattle.std.proofs.Common.{◌≡◌, ℕ, List, length, sym, ◌∙◌, ap, subst, arith}
use Rattle.vw_dynamic.specs.Dynamic.{file_imports}
use Rattle.vw_machine.specs.declared.world.World.{World}
use Rattle.vw_machine.specs.World.{IsLaidOut, usual_hosts, usual_instance}
use Rattle.vw_machine.specs.Module.{view_of}
use Rattle.vw_machine.proofs.WorldLemmas.{laid_out, image_ends, imports_are}
use Rattle.vw_machine.proofs.world.World.usual.Goals as goal

pub hosts_of-requires : goal.hosts_of-requires
hosts_of-requires c =
    let m = c.args.module.now in
    let few = c.imports_are_few.ensures m.image.bytes c.requires.rules in
    let same : length m.image.imports ≡ length (file_imports m.image.bytes) = ap length (imports_are m c.requires) in
    let counted : c.len.result ≡ length m.image.imports = c.len.ensures ∙ ap length c.imports.ensures.lent in
    omega arith

pub returns-clause-addresses : goal.returns-clause-addresses
unfolding usual_instance
returns-clause-addresses c =
    let m = c.args.module.now in
    let counted : c.len.result ≡ length m.image.imports = c.len.ensures ∙ ap length c.imports.ensures.lent in
    let hosts : c.in_ok-hosts.hosts ≡ usual_hosts (length m.image.imports) = c.in_ok-hosts.ensures ∙ ap usual_hosts counted in
    ap (λ (l : List ℕ). record (usual_instance 0) { hosts = l }) hosts

pub returns-clause-placed : goal.returns-clause-placed
unfolding usual_instance
returns-clause-placed c =
    let m = c.args.module.now in
    let few = c.imports_are_few.ensures m.image.bytes c.requires.rules in
    let same : length m.image.imports ≡ length (file_imports m.image.bytes) = ap length (imports_are m c.requires) in
    let counted : c.len.result ≡ length m.image.imports = c.len.ensures ∙ ap length c.imports.ensures.lent in
    let hosts : c.in_ok-hosts.hosts ≡ usual_hosts (length m.image.imports) = c.in_ok-hosts.ensures ∙ ap usual_hosts counted in
    let laid = laid_out (view_of m) (record { ends = image_ends c.segments_are_bounded.ensures m c.requires c.segments.ensures.whole; imports = omega arith }) in
    subst (λ (l : List ℕ). IsLaidOut (view_of m).image (view_of m).imports (let w : World = record (usual_instance 0) { hosts = l } in w)) (sym hosts) laid
