-- Each round's table is lower than every solution at which no check of the graph fails; the pairs grow; the last round and
-- its table are one, whoever counts.
use Rattle.std.proofs.Common.{◌≡◌, ◌⊎◌, inl, inr, ℕ, ◌+◌, ◌≤◌, List, [], length, Some, sym, ap, subst, arith}
use Rattle.std.specs.Prelude.{Contains}
use Rattle.std.specs.List.{All}
use Rattle.std.proofs.lemmas.Bool.{cases_lt}
use Rattle.std.proofs.lemmas.List.Elements.{All-nil}
use Rattle.vw_insn.specs.declared.instruction.Insn.{Insn}
use Rattle.vw_stmt.specs.declared.operands.Var.{Var}
use Rattle.vw_stmt.specs.declared.statement.Flow.TheVariants as flow
use Rattle.vw_lift.specs.Lifted.{flow_of}
use Rattle.vw_solver.specs.Seed.{AreDistinct}
use Rattle.vw_domain.specs.declared.parts.Parts.{Parts}
use Rattle.vw_domain.specs.Abstract.{Abstract}
use Rattle.vw_domain.specs.State.{IsValidState}
use Rattle.vw_state.specs.declared.tables.PointState.{PointState}
use Rattle.vw_state.specs.Checks.{PassesGraph}
use Rattle.vw_state.specs.Code.{BeginsAt}
use Rattle.vw_state.specs.Context.{Context, code_of}
use Rattle.vw_state.specs.Post.{destinations, form_behind, insn_edges, PostBy, nothing, begins, seconds}
use Rattle.vw_state.specs.Rounds.{JumpsTo, AreJumps, IsRound, first_round, next_round, Stops, IsStable, IsLeast}
use Rattle.vw_state.specs.RoundLaws.{RoundLaws}
use Rattle.vw_state.specs.Solution.{Lands, SolvesBy, Solves, SolvesWith, IsLower, IsLeastWith}
use Rattle.vw_state.specs.Tables.{state_of}
use Rattle.vw_state.proofs.Alike.{lower_both}
use Rattle.vw_state.proofs.RoundEdges.{fewer_edges}
use Rattle.vw_state.proofs.RoundLists.{contains_none, seconds_has, seconds_from, distinct_fewer}

module _ (f : Context) where
  -- at each jump through a register of the table the targets of `less` are among those of `more`
  abbrev HasFewer : (ℕ → Var → Abstract → List ℕ) → (ℕ → Var → Abstract → List ℕ) → List PointState → Type 0
  HasFewer more less table =
      (at : ℕ) (state : Parts) (i : Insn) (len : ℕ) (src : Var) → state_of table at ≡ Some state → BeginsAt (code_of f) at i len → flow_of i ≡ flow.JumpReg src
      → (to : ℕ) → Contains (less at src (form_behind f (at + len) i state)) to → Contains (more at src (form_behind f (at + len) i state)) to

  fewer_closed : (more less : ℕ → Var → Abstract → List ℕ) (table : List PointState) → HasFewer more less table
      → ((at : ℕ) (state : Parts) → state_of table at ≡ Some state → (edges : List (ℕ × Parts)) → PostBy f (more at) at state edges → All (Lands f table) edges)
      → (at : ℕ) (state : Parts) → state_of table at ≡ Some state → (edges : List (ℕ × Parts)) → PostBy f (less at) at state edges → All (Lands f table) edges
  fewer_closed more less table fewer closed at state there edges (nothing none) = All-nil (Lands f table)
  fewer_closed more less table fewer closed at state there edges (begins i len stands) =
      let next : ℕ = at + len in
      fewer_edges (Lands f table) f (more at) (less at) next (form_behind f next i state) (flow_of i)
      (λ src jumps to c. fewer at state i len src there stands jumps to c)
      (closed at state there (insn_edges f (more at) next state i) (begins i len stands))

  -- a solution stays one with fewer targets
  fewer_solves : (more less : ℕ → Var → Abstract → List ℕ) (table : List PointState) → HasFewer more less table
      → SolvesBy f (λ at. PostBy f (more at) at) table → SolvesBy f (λ at. PostBy f (less at) at) table
  fewer_solves more less table fewer solution =
      record { rises = solution.rises; begins = solution.begins; closed = fewer_closed more less table fewer solution.closed }

  -- the pairs are among others
  abbrev pub AreAmong : List (ℕ × ℕ) → List (ℕ × ℕ) → Type 0
  AreAmong less more = (at to : ℕ) → Contains less (at, to) → Contains more (at, to)

  -- each pair is a jump of the table
  abbrev pub AreOf : List PointState → List (ℕ × ℕ) → Type 0
  AreOf table pairs = (at to : ℕ) → Contains pairs (at, to) → JumpsTo f table at to

  -- a solution with more pairs is one with fewer
  pub still_solves : (less more : List (ℕ × ℕ)) (table : List PointState) → AreAmong less more → SolvesWith f more table → SolvesWith f less table
  still_solves less more table within solution =
      fewer_solves (λ at src st. seconds at more) (λ at src st. seconds at less) table
      (λ at state i len src there stands jumps to c. seconds_has at to more (within at to (seconds_from at to less c)))
      solution

  pub round_least : (number : ℕ) (pairs : List (ℕ × ℕ)) (table : List PointState) → IsRound f number pairs table → IsLeastWith f pairs table
  round_least number pairs table (first_round t least) = least
  round_least number pairs table (next_round before less more old new at to round passes are distinct is fresh least) = least

  -- where the rounds are stable, the table solves the function's equations
  pub stable_solves : (number : ℕ) (pairs : List (ℕ × ℕ)) (table : List PointState) → IsRound f number pairs table → IsStable f pairs table → Solves f table
  stable_solves number pairs table round stable =
      fewer_solves (λ at src st. seconds at pairs) (λ at. destinations f) table
      (λ at state i len src there stands jumps to c.
      seconds_has at to pairs (stable.stays.all at to (record { state = state; there = there; instruction = i; len = len; stands = stands; src = src; jumps = jumps; goes = c })))
      (round_least number pairs table round).solution

  -- one of the function's equations is one with pairs that are jumps of its
  goes_too : (table : List PointState) (at to : ℕ) (state : Parts) (i : Insn) (len : ℕ) (src : Var) (jump : JumpsTo f table at to) → jump.state ≡ state → jump.instruction ≡ i → jump.len ≡ len → jump.src ≡ src
      → Contains (destinations f src (form_behind f (at + len) i state)) to
  goes_too table at to state i len src jump states instructions lens sources =
      let A : Parts → Type 0 = λ s. Contains (destinations f src (form_behind f (at + len) i s)) to in
      let B : Insn → Type 0 = λ j. Contains (destinations f src (form_behind f (at + len) j jump.state)) to in
      let C : ℕ → Type 0 = λ n. Contains (destinations f src (form_behind f (at + n) jump.instruction jump.state)) to in
      let D : Var → Type 0 = λ v. Contains (destinations f v (form_behind f (at + jump.len) jump.instruction jump.state)) to in
      subst A states (subst B instructions (subst C lens (subst D sources jump.goes)))

  one_state : (table : List PointState) (at : ℕ) (s t : Parts) → state_of table at ≡ Some s → state_of table at ≡ Some t → s ≡ t
  one_state table at s t is_s is_t = cc

  one_source : (i j : Insn) (v w : Var) → i ≡ j → flow_of i ≡ flow.JumpReg v → flow_of j ≡ flow.JumpReg w → v ≡ w
  one_source i j v w same is_v is_w = let flows : flow_of i ≡ flow_of j = ap (λ (k : Insn). flow_of k) same in cc

  module _ (laws : RoundLaws f) where
    pairs_solve : (pairs : List (ℕ × ℕ)) (table : List PointState) → AreOf table pairs → Solves f table → SolvesWith f pairs table
    pairs_solve pairs table among solution =
        fewer_solves (λ at. destinations f) (λ at src st. seconds at pairs) table
        (λ at state i len src there stands jumps to c.
        let jump = among at to (seconds_from at to pairs c) in
        let one = laws.alone at jump.instruction i jump.len len jump.stands stands in
        goes_too table at to state i len src jump (one_state table at jump.state state jump.there there) one.0 one.1 (one_source jump.instruction i jump.src src one.0 jump.jumps jumps))
        solution

    -- ---- least tables

    least_valid : (pairs : List (ℕ × ℕ)) (table : List PointState) → IsLeastWith f pairs table → (at : ℕ) (state : Parts) → state_of table at ≡ Some state → IsValidState f.bounds state
    least_valid pairs table least at state there =
        let lands = least.least table least.solution at state there in
        subst (λ (s : Parts). IsValidState f.bounds s) (one_state table at lands.cover state lands.there there) lands.fits

    -- the jumps of a lower table are jumps of one at which no check of the graph fails
    greater_has : (pairs : List (ℕ × ℕ)) (low high : List PointState) → IsLeastWith f pairs low → IsLower f low high → PassesGraph f high → (at to : ℕ) → JumpsTo f low at to → JumpsTo f high at to
    greater_has pairs low high least lower passes at to jump =
        let lands = lower at jump.state jump.there in
        record {
          state = lands.cover;
          there = lands.there;
          instruction = jump.instruction;
          len = jump.len;
          stands = jump.stands;
          src = jump.src;
          jumps = jump.jumps;
          goes = laws.jumps at to jump.state lands.cover jump.instruction jump.len jump.src (least_valid pairs low least at jump.state jump.there) lands.fits lands.is_below jump.stands jump.jumps (passes at lands.cover lands.there) jump.goes;
        }

    -- ---- lower than what passes

    record IsUnder (pairs : List (ℕ × ℕ)) (table other : List PointState) : Type 0 where
      jumps : AreOf other pairs
      lower : IsLower f table other

    round_under : (number : ℕ) (pairs : List (ℕ × ℕ)) (table other : List PointState) → IsRound f number pairs table → Solves f other → PassesGraph f other → IsUnder pairs table other
    round_under number pairs table other (first_round t least) solution passes =
        let none : AreOf other [] = λ at to c. absurd (contains_none (at, to) c) in
        record { jumps = none; lower = least.least other (pairs_solve [] other none solution) }
    round_under number pairs table other (next_round before less more old new x y round passed are distinct is fresh least) solution passes =
        let lower = (round_under before less old other round solution passes).lower in
        let all : AreOf other more = λ at to c. greater_has less old other (round_least before less old round) lower passes at to (are.only at to c) in
        record { jumps = all; lower = least.least other (pairs_solve more other all solution) }

    pub round_lower : (number : ℕ) (pairs : List (ℕ × ℕ)) (table other : List PointState) → IsRound f number pairs table → Solves f other → PassesGraph f other → IsLower f table other
    round_lower number pairs table other round solution passes = (round_under number pairs table other round solution passes).lower

    -- ---- the pairs grow

    pub pairs_stay : (number : ℕ) (pairs : List (ℕ × ℕ)) (table : List PointState) → IsRound f number pairs table → PassesGraph f table → AreOf table pairs
    pairs_stay number pairs table (first_round t least) passes at to c = absurd (contains_none (at, to) c)
    pairs_stay number pairs table (next_round before less more old new x y round passed are distinct is fresh least) passes at to c =
        let grow : AreAmong less more = λ a b has. are.all a b (pairs_stay before less old round passed a b has) in
        let first = round_least before less old round in
        greater_has less old table first (first.least table (still_solves less more table grow least.solution)) passes at to (are.only at to c)

    distinct_pairs : (number : ℕ) (pairs : List (ℕ × ℕ)) (table : List PointState) → IsRound f number pairs table → AreDistinct pairs
    distinct_pairs number pairs table (first_round t least) = tt
    distinct_pairs number pairs table (next_round before less more old new at to round passes are distinct is fresh least) = distinct

    pub few_rounds : (number : ℕ) (pairs : List (ℕ × ℕ)) (table : List PointState) → IsRound f number pairs table → number ≤ 1 + length pairs
    few_rounds number pairs table (first_round t least) = omega arith
    few_rounds number pairs table (next_round before less more old new at to round passes are distinct is fresh least) =
        let longer = distinct_fewer less more (at, to) (distinct_pairs before less old round) (λ pair c. are.all pair.0 pair.1 (pairs_stay before less old round passes pair.0 pair.1 c)) is fresh in
        omega (arith, longer, few_rounds before less old round)

    -- ---- rounds of one number

    some_round : (number : ℕ) (pairs : List (ℕ × ℕ)) (table : List PointState) → IsRound f number pairs table → 1 ≤ number
    some_round number pairs table (first_round t least) = omega arith
    some_round number pairs table (next_round before less more old new at to round passes are distinct is fresh least) = omega arith

    record IsWithin (pairs more : List (ℕ × ℕ)) (table new : List PointState) : Type 0 where
      jumps : AreAmong pairs more
      lower : IsLower f table new

    within_other : (number other : ℕ) (pairs more : List (ℕ × ℕ)) (table new : List PointState) → number ≡ other → IsRound f number pairs table → IsRound f other more new → IsWithin pairs more table new
    within_other number other pairs more table new same (first_round t least) round =
        let none : AreAmong [] more = λ at to c. absurd (contains_none (at, to) c) in
        record { jumps = none; lower = least.least new (still_solves [] more new none (round_least other more new round).solution) }
    within_other number other pairs more table new same (next_round n less pairs' old table' x y round passed are distinct is fresh least) (first_round t other_least) =
        absurd (omega (arith, same, some_round n less old round))
    within_other number other pairs more table new same (next_round n less pairs' old table' x y round passed are distinct is fresh least) (next_round m less_too more' old_too new' x' y' round_too passed_too are_too distinct_too is_too fresh_too least_too) =
        let lower = (within_other n m less less_too old old_too (omega (arith, same)) round round_too).lower in
        let all : AreAmong pairs more = λ at to c. are_too.all at to (greater_has less old old_too (round_least n less old round) lower passed_too at to (are.only at to c)) in
        record { jumps = all; lower = least.least new (still_solves pairs more new all least_too.solution) }

    one_table : (number other : ℕ) (pairs more : List (ℕ × ℕ)) (table new : List PointState) → number ≡ other → IsRound f number pairs table → IsRound f other more new → table ≡ new
    one_table number other pairs more table new same round round_too =
        lower_both f table new (within_other number other pairs more table new same round round_too).lower (within_other other number more pairs new table (sym same) round_too round).lower
        (round_least number pairs table round).solution.rises (round_least other more new round_too).solution.rises

    -- ---- the last round

    -- behind a round at which the rounds end there is none
    no_next : (number : ℕ) (pairs more : List (ℕ × ℕ)) (table : List PointState) (at to : ℕ) → Stops f table ⊎ IsStable f pairs table → PassesGraph f table → AreJumps f table more → Contains more (at, to) → (Contains pairs (at, to) → ⊥) → ⊥
    no_next number pairs more table at to (inl stop) passes are is fresh = passes stop.at stop.stops.state stop.stops.there stop.check stop.stops.fails
    no_next number pairs more table at to (inr stable) passes are is fresh = fresh (stable.stays.all at to (are.only at to is))

    at_most_last : (number : ℕ) (pairs : List (ℕ × ℕ)) (table : List PointState) → IsRound f number pairs table → Stops f table ⊎ IsStable f pairs table
        → (other : ℕ) (more : List (ℕ × ℕ)) (new : List PointState) → IsRound f other more new → other ≤ number
    at_most_last number pairs table last ends other more new (first_round t least) = some_round number pairs table last
    at_most_last number pairs table last ends other more new (next_round n less more' old new' at to round passed are distinct is fresh least) =
        let before = at_most_last number pairs table last ends n less old round in
        elim (cases_lt n number) [
          | inl under ↦ omega (arith, under)
          | inr over ↦
              let same : n ≡ number = omega (arith, before, over) in
              let tables = one_table n number less pairs old table same round last in
              let into = (within_other number n pairs less table old (sym same) last round).jumps in
              let Q : List PointState → Type 0 = λ t. PassesGraph f t in
              let J : List PointState → Type 0 = λ t. AreJumps f t more in
              absurd (no_next number pairs more table at to ends (subst Q tables passed) (subst J tables are) is (λ c. fresh (into at to c)))
        ]

    pub one_least : (table other : List PointState) → IsLeast f table → IsLeast f other → table ≡ other
    one_least table other least least_too =
        let first = least.last in
        let second = least_too.last in
        let low = at_most_last second.number least_too.pairs other second.round second.ends first.number least.pairs table first.round in
        let high = at_most_last first.number least.pairs table first.round first.ends second.number least_too.pairs other second.round in
        one_table first.number second.number least.pairs least_too.pairs table other (omega (arith, low, high)) first.round second.round
