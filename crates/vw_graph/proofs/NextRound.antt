-- From round to round: what a round's table of states tells, and how the next round begins.
use Rattle.std.proofs.Common.{◌≡◌, ℕ, suc, ◌+◌, ◌-◌, ◌*◌, ◌<◌, ◌≤◌, List, [], length, Option, Some, None, refl, sym, subst, ◌∙◌, arith, inl, inr, All}
use Rattle.std.specs.List.{Contains}
use Rattle.std.proofs.Math.Nat.{mul-le-mul_right}
use Rattle.std.proofs.lemmas.Bool.{cases_lt}
use Rattle.std.proofs.lemmas.List.Elements.{All-contains}
use Rattle.vw_rows.specs.Numbers.{IsBytes}
use Rattle.vw_solver.specs.Solution.{state_at}
use Rattle.vw_solver.proofs.Search.{state_within}
use Rattle.vw_domain.specs.declared.parts.Parts.{Parts}
use Rattle.vw_domain.specs.Addresses.{value_of}
use Rattle.vw_domain.specs.FormLaws.{EntryIsState}
use Rattle.vw_domain.specs.Operands.{index_of}
use Rattle.vw_domain.specs.State.{Fits, entry_state}
use Rattle.vw_state.specs.declared.jumps.JumpTable.{JumpTable}
use Rattle.vw_state.specs.declared.tables.PointState.{PointState}
use Rattle.vw_state.specs.Checks.{PassesGraph, StopsAt}
use Rattle.vw_state.specs.Context.{Context, code_of}
use Rattle.vw_state.specs.Laws.{HasSites, EdgesRise, EdgesAreValid, tick_limit}
use Rattle.vw_state.specs.Post.{jump_table, table_targets, form_behind, seconds, edges_with}
use Rattle.vw_state.specs.Rounds.{JumpsTo, AreJumps, AreDistinct, IsRound, first_round, next_round, IsStable}
use Rattle.vw_state.specs.Solution.{Lands, SolvesWith, IsLeastWith}
use Rattle.vw_state.specs.Tables.{AllFit}
use Rattle.vw_graph.specs.declared.all_rounds.Rounds.TheVariants.{Stable, Stopped}
use Rattle.vw_graph.specs.search.Course.{IsSolvedWith, IsSeedWith, IsInRound, IsNextRound}
use Rattle.vw_graph.specs.search.Jumps.{slot_at, pairs_of, AreSame, JumpsBy, AreSlots, LeadsTo, AreNew}
use Rattle.vw_graph.specs.Rounds.{IsRounds, IsBegun, first_begins, next_begins, WithinRounds}
use Rattle.vw_graph.specs.search.Solved.{gather, NoneStops, StopsFirst}
use Rattle.vw_graph.specs.search.Walks.{AllFitIn}
use Rattle.vw_graph.proofs.Distinct.{distinct, are_distinct, distinct_has, distinct_from}
use Rattle.vw_graph.proofs.EdgesMore.{with_more}
use Rattle.vw_graph.proofs.Gathered.{gathered, gather_all}
use Rattle.vw_graph.proofs.Leads.{leads_inside}
use Rattle.vw_graph.proofs.Least.{Are, Only, is_least}
use Rattle.vw_graph.proofs.Members.{contains_none, distinct_fewer, all_from_contains}
use Rattle.vw_graph.proofs.PairsOf.{leads_from_pair, pair_from_leads}
use Rattle.vw_graph.proofs.Restart.{restart}

-- a round's table tells of each of its jumps, where no check stops it
abbrev pub Stay : Type 0
Stay = (f : Context) (number : ℕ) (pairs : List (ℕ × ℕ)) (table : List PointState) (at to : ℕ) → IsBytes (code_of f) → HasSites f → IsRound f number pairs table → PassesGraph f table → Contains pairs (at, to) → JumpsTo f table at to

-- there are at most as many rounds before one as it has jumps
abbrev pub Few : Type 0
Few = (f : Context) (number : ℕ) (pairs : List (ℕ × ℕ)) (table : List PointState) → IsBytes (code_of f) → HasSites f → IsRound f number pairs table → number ≤ 1 + length pairs

-- ---- the same pairs

module _ (are : Are) (only : Only) (f : Context) (bytes : IsBytes (code_of f)) where
  same_solve : (pairs others : List (ℕ × ℕ)) → AreSame pairs others → (table : List PointState) → SolvesWith f others table → SolvesWith f pairs table
  same_solve pairs others same table solution = record {
    rises = solution.rises;
    begins = solution.begins;
    closed = λ at state there edges post.
        let each : (e : ℕ × Parts) → Contains (edges_with f pairs at state) e → Lands f table e = λ e c.
        All-contains (Lands f table) (edges_with f others at state) e
        (solution.closed at state there (edges_with f others at state) (are f (λ src st. seconds at others) at state bytes))
        (with_more f pairs others at (same.into at) state e c)
        in
        subst (λ (es : List (ℕ × Parts)). All (Lands f table) es) (sym (only f (λ src st. seconds at pairs) at state edges bytes post)) (all_from_contains (Lands f table) (edges_with f pairs at state) each);
  }

  pub same_least : (pairs others : List (ℕ × ℕ)) → AreSame pairs others → (table : List PointState) → IsLeastWith f others table → IsLeastWith f pairs table
  same_least pairs others same table least = record {
    solution = same_solve pairs others same table least.solution;
    least = λ other solution. least.least other (same_solve others pairs (record { into = same.back; back = same.into }) other solution);
  }

  module _ (entry : EntryIsState) (rise : EdgesRise f) (valid : EdgesAreValid f) where
    pub solved_least : (pairs others : List (ℕ × ℕ)) → AreSame pairs others → (table : List (Option Parts)) → IsSolvedWith f others table → IsLeastWith f pairs (gather 0 table)
    solved_least pairs others same table solved =
        same_least pairs others same (gather 0 table) (is_least are only entry f bytes rise valid others (f.size + 1) refl table solved.least solved.stands)

    -- the first round
    pub first_in_round : (table : List (Option Parts)) (old new : ℕ) → IsSolvedWith f [] table → new ≤ old + tick_limit f → IsInRound f [] table old new
    first_in_round table old new solved ticks =
        let nothing : AreSame [] [] = record { into = λ at to c. c; back = λ at to c. c } in
        record {
          solved = solved;
          number = 1;
          pairs = [];
          round = first_round (gather 0 table) (solved_least [] [] nothing table solved);
          same = nothing;
          counted = omega (arith, ticks);
        }

-- ---- of every round

pub round_distinct : (f : Context) (number : ℕ) (pairs : List (ℕ × ℕ)) (table : List PointState) → IsRound f number pairs table → AreDistinct pairs
round_distinct f number pairs table (first_round t least) = tt
round_distinct f number pairs table (next_round n less more before t at to round passes are apart there fresh least) = apart

pub round_begun : (f : Context) (number : ℕ) (pairs : List (ℕ × ℕ)) (table : List PointState) → IsRound f number pairs table → IsBegun f pairs
round_begun f number pairs table (first_round t least) = first_begins
round_begun f number pairs table (next_round n less more before t at to round passes are apart there fresh least) = next_begins n less more before at to round passes are apart there fresh

-- so many rounds are within the bound
within_rounds : (f : Context) (pairs : List (ℕ × ℕ)) (number old new : ℕ) → IsBegun f pairs → number ≤ 1 + length pairs → new ≤ old + number * tick_limit f → WithinRounds f (new - old)
within_rounds f pairs number old new begun few counted =
    let more : number * tick_limit f ≤ (1 + length pairs) * tick_limit f = mul-le-mul_right (tick_limit f) few in
    record { pairs = pairs; begun = begun; within = omega (arith, more, counted) }

some_table : (f : Context) (slot : Option JumpTable) (to : ℕ) → LeadsTo f slot to → (table : JumpTable) × (slot ≡ Some table)
some_table f None to leads = absurd (contains_none to leads)
some_table f (Some table) to leads = (table, refl)

-- ---- the states of a round

pub solved_fit : (f : Context) (pairs : List (ℕ × ℕ)) (table : List (Option Parts)) → IsSolvedWith f pairs table → AllFitIn f.bounds table
solved_fit f pairs table solved = λ at state there. (solved.least.solution.valid at state there).fits

pub all_fit : (f : Context) (pairs : List (ℕ × ℕ)) (table : List (Option Parts)) → IsSolvedWith f pairs table → (states : List PointState) → states ≡ gather 0 table → AllFit f.bounds states
all_fit f pairs table solved states gathers =
    subst (λ (t : List PointState). AllFit f.bounds t) (sym gathers) (gather_all (Fits f.bounds) 0 table (λ at s there. (solved.least.solution.valid at s there).fits))

module _ (stay : Stay) (few : Few) (f : Context) (bytes : IsBytes (code_of f)) (sites : HasSites f) (slots : List (Option JumpTable)) (table : List (Option Parts)) (old new : ℕ) (now : IsInRound f slots table old new) where
  -- the steps up to a round are within the bound
  pub within_now : WithinRounds f (new - old)
  within_now = within_rounds f now.pairs now.number old new (round_begun f now.number now.pairs (gather 0 table) now.round) (few f now.number now.pairs (gather 0 table) bytes sites now.round) now.counted

  -- the rounds stop
  pub stopped : (states : List PointState) → states ≡ gather 0 table → (entry : ℕ) → entry ≡ f.entry → (at check : ℕ) → StopsFirst f table at check → IsRounds f (Stopped (record { entry = entry; states = states }) at check)
  stopped states gathers entry entry_is at check stops = record {
    entry_is = entry_is;
    number = now.number;
    pairs = now.pairs;
    round = subst (λ (t : List PointState). IsRound f now.number now.pairs t) (sym gathers) now.round;
    ends = subst (λ (t : List PointState). StopsAt f t at check) (sym gathers) (record {
      state = stops.state;
      there = gathered table at ∙ stops.there;
      fails = stops.fails;
      lowest = λ other s e. stops.lowest other s (sym (gathered table other) ∙ e);
    });
  }

  module _ (none : NoneStops f table) (further : List (Option JumpTable)) (are : AreSlots f table further (f.size + 1)) where
    passes : PassesGraph f (gather 0 table)
    passes at state e = none at state (sym (gathered table at) ∙ e)

    jump_of : (at to : ℕ) → Contains (pairs_of f further) (at, to) → JumpsTo f (gather 0 table) at to
    jump_of at to c =
        let leads = leads_from_pair f further at to c in
        let some = some_table f (slot_at further at) to leads in
        let told = (are.only at some.0 some.1).1 in
        let by = told.2.by in
        let D : Option JumpTable → Type 0 = λ slot. Contains (table_targets f slot) to in
        record {
          state = told.0;
          there = gathered table at ∙ told.1;
          instruction = told.2.instruction;
          len = told.2.len;
          stands = told.2.stands;
          src = by.src;
          jumps = by.jumps;
          goes = subst D (some.1 ∙ sym by.tells) leads;
        }

    pair_of : (at to : ℕ) → JumpsTo f (gather 0 table) at to → Contains (pairs_of f further) (at, to)
    pair_of at to jump =
        let told : Option JumpTable = jump_table (value_of (form_behind f (at + jump.len) jump.instruction jump.state) (index_of jump.src)) in
        let some = some_table f told to jump.goes in
        let there : state_at table at ≡ Some jump.state = sym (gathered table at) ∙ jump.there in
        let inside : at < f.size + 1 = omega (arith, now.solved.least.solution.size, state_within table at jump.state there) in
        let by : JumpsBy f at jump.state some.0 = record {
          instruction = jump.instruction;
          len = jump.len;
          stands = jump.stands;
          by = record { src = jump.src; jumps = jump.jumps; tells = some.1 };
        } in
        let slot = are.all at jump.state some.0 inside there by in
        let D : Option JumpTable → Type 0 = λ o. Contains (table_targets f o) to in
        pair_from_leads f further at to (subst D (some.1 ∙ sym slot) jump.goes)

    stays : (at to : ℕ) → Contains now.pairs (at, to) → JumpsTo f (gather 0 table) at to
    stays at to c = stay f now.number now.pairs (gather 0 table) at to bytes sites now.round passes c

    grows : (at to : ℕ) → Contains (pairs_of f slots) (at, to) → Contains (pairs_of f further) (at, to)
    grows at to c = pair_of at to (stays at to (now.same.back at to c))

    no_further : (at to : ℕ) → ((to : ℕ) → LeadsTo f (slot_at further at) to → LeadsTo f (slot_at slots at) to) → Contains (pairs_of f further) (at, to) → Contains (pairs_of f slots) (at, to)
    no_further at to each c = pair_from_leads f slots at to (each to (leads_from_pair f further at to c))

    below_end : (at to : ℕ) → Contains (pairs_of f further) (at, to) → at < f.size + 1
    below_end at to c = let some = some_table f (slot_at further at) to (leads_from_pair f further at to c) in (are.only at some.0 some.1).0

    -- the rounds are stable
    pub stable : AreNew f slots further (f.size + 1) [] → (states : List PointState) → states ≡ gather 0 table → (entry : ℕ) → entry ≡ f.entry → IsRounds f (Stable (record { entry = entry; states = states }))
    stable nothing states gathers entry entry_is =
        let back : (at to : ℕ) → JumpsTo f (gather 0 table) at to → Contains now.pairs (at, to) = λ at to jump.
        let pair = pair_of at to jump in
        elim (nothing.others at (below_end at to pair)) [
          | inl waits ↦ absurd (contains_none at waits)
          | inr each ↦ now.same.back at to (no_further at to each pair)
        ]
        in
        record {
          entry_is = entry_is;
          number = now.number;
          pairs = now.pairs;
          round = subst (λ (t : List PointState). IsRound f now.number now.pairs t) (sym gathers) now.round;
          ends = subst (λ (t : List PointState). IsStable f now.pairs t) (sym gathers) (record { passes = passes; stays = record { only = stays; all = back } });
        }

    -- the pairs of the next round, each once
    abbrev more : List (ℕ × ℕ)
    more = distinct (pairs_of f further)

    more_jumps : AreJumps f (gather 0 table) more
    more_jumps = record {
      only = λ at to c. jump_of at to (distinct_from (pairs_of f further) (at, to) c);
      all = λ at to jump. distinct_has (pairs_of f further) (at, to) (pair_of at to jump);
    }

    more_same : AreSame more (pairs_of f further)
    more_same = record { into = λ at to c. distinct_from (pairs_of f further) (at, to) c; back = λ at to c. distinct_has (pairs_of f further) (at, to) c }

    module _ (waiting : List ℕ) (are_new : AreNew f slots further (f.size + 1) waiting) where
      -- the table of a round is a seed of the next one
      pub next_seed : EntryIsState → IsSeedWith f (pairs_of f further) table waiting
      next_seed entry =
          restart _ _ (λ at state. edges_with f (pairs_of f slots) at state) (λ at state. edges_with f (pairs_of f further) at state) (f.size + 1) 0 entry_state
          (λ at state e c. with_more f (pairs_of f slots) (pairs_of f further) at (grows at) state e c) table waiting (entry f.bounds) now.solved are_new.distinct
          (λ at waits.
          let leads = (are_new.new at waits).1 in
          let some = some_table f (slot_at further at) leads.to leads.leads in
          let told = (are.only at some.0 some.1).1 in
          (told.0, told.1))
          (λ at. elim (cases_lt at (f.size + 1)) [
            | inl inside ↦ elim (are_new.others at inside) [
              | inl waits ↦ inl waits
              | inr each ↦ inr (λ state e c. with_more f (pairs_of f further) (pairs_of f slots) at (λ to pair. no_further at to each pair) state e c)
            ]
            | inr past ↦ inr (λ state e c. with_more f (pairs_of f further) (pairs_of f slots) at (λ to pair. let inside = below_end at to pair in absurd (omega (arith, inside, past))) state e c)
          ])

      module _ (first : ℕ) (waits : Contains waiting first) where
        abbrev to : ℕ
        to = (are_new.new first waits).1.to

        pair_there : Contains (pairs_of f further) (first, to)
        pair_there = pair_from_leads f further first to (are_new.new first waits).1.leads

        pair_new : Contains (pairs_of f slots) (first, to) → ⊥
        pair_new c = (are_new.new first waits).1.new (leads_from_pair f slots first to c)

        fresh : Contains now.pairs (first, to) → ⊥
        fresh c = pair_new (now.same.into first to c)

        there : Contains more (first, to)
        there = distinct_has (pairs_of f further) (first, to) pair_there

        longer : length now.pairs < length more
        longer = distinct_fewer now.pairs more (first, to) (round_distinct f now.number now.pairs (gather 0 table) now.round) (λ p c. distinct_has (pairs_of f further) p (pair_of p.0 p.1 (stays p.0 p.1 c))) there fresh

        -- the steps of the next round are within the bound, whether it comes to its end or not
        pub within_next : (then : ℕ) → then ≤ new + tick_limit f → WithinRounds f (then - old)
        within_next then ticks =
            let rounds = few f now.number now.pairs (gather 0 table) bytes sites now.round in
            let begun : IsBegun f more = next_begins now.number now.pairs more (gather 0 table) first to now.round passes more_jumps (are_distinct (pairs_of f further)) there fresh in
            let counted : then ≤ old + (now.number + 1) * tick_limit f = omega (arith, ticks, now.counted) in
            within_rounds f more (now.number + 1) old then begun (omega (arith, rounds, longer)) counted

        -- the next round
        pub next : Are → Only → EntryIsState → EdgesRise f → EdgesAreValid f → (risen : List (Option Parts)) → IsSolvedWith f (pairs_of f further) risen → (then : ℕ) → then ≤ new + tick_limit f → IsNextRound f slots old then further risen
        next are_edges only entry rise valid risen solved then ticks = record {
          in_round = record {
            solved = solved;
            number = suc now.number;
            pairs = more;
            round = next_round now.number now.pairs more (gather 0 table) (gather 0 risen) first to now.round passes more_jumps (are_distinct (pairs_of f further)) there fresh (solved_least are_edges only f bytes entry rise valid more (pairs_of f further) more_same risen solved);
            same = more_same;
            counted = omega (arith, ticks, now.counted);
          };
          grows = grows;
          at = first;
          to = to;
          there = pair_there;
          new_pair = pair_new;
          inside = λ at to c.
              let less = leads_inside f (slot_at further at) to (leads_from_pair f further at to c) in (below_end at to c, omega (arith, less));
        }
