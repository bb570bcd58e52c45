use Rattle.vw_state.proofs.Begins.{edges_post, only_edges}
use Rattle.vw_state.proofs.laws.edges_are_post.Goals as goal

pub returns-clause-are : goal.returns-clause-are
returns-clause-are c =
    let law = c.read_is_spelling.ensures in
    λ f targets at state bytes. edges_post law.none law.found law.size law.only f at bytes targets state

pub returns-clause-only : goal.returns-clause-only
returns-clause-only c =
    let law = c.read_is_spelling.ensures in
    λ f targets at state edges bytes post. only_edges law.none law.found law.size law.only f at bytes targets state edges post
