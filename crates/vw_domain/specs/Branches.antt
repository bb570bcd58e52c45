-- The edges of a conditional branch: what the condition tells of the number that was compared.
use Rattle.std.specs.Prelude.{ℕ, ◌+◌, ◌-◌, ◌^◌, pos, ◌-ℤ◌, Bool, true, false, ◌&&◌, ◌||◌, not, nat_lt, is_some, List, ◌∷◌, ◌++◌, Option, Some, None}
use Rattle.std.specs.List.{list_all}
use Rattle.vw_insn.specs.declared.registers.Width.{Width}
use Rattle.vw_insn.specs.declared.operations.Cond.{Cond}
use Rattle.vw_insn.specs.declared.operations.Cond.TheVariants.{O, No, B, Ae, E, Ne, Be, A, S, Ns, P, Np, L, Ge, Le, G}
use Rattle.vw_names.specs.declared.spot.Spot.{Spot}
use Rattle.vw_names.specs.declared.spot.Spot.TheVariants.{Reg, Flags, Slot}
use Rattle.vw_values.specs.declared.value.Value.{Value}
use Rattle.vw_values.specs.Refinements.{below, equal}
use Rattle.vw_domain.specs.declared.parts.Fact.{Fact}
use Rattle.vw_domain.specs.declared.parts.Fact.TheVariants as fact
use Rattle.vw_domain.specs.Abstract.{Abstract}
use Rattle.vw_domain.specs.Changes.{refine, HasEdge, retag, is_other, HasTagEdge, tagged_by}
use Rattle.vw_domain.specs.Sites.{Site}
use Rattle.vw_domain.specs.Stands.{width_of}
use Rattle.vw_domain.specs.StateOf.{row_of}

-- what an edge tells of the compared number: it is below k, or it is k
pub data Rule : Type 0 where
  IsLess : (k : ℕ) → Rule
  Is : (k : ℕ) → Rule

-- by the condition, and whether the branch is taken (SDM volume 2, "Jcc"); k is the number compared with
abbrev pub rule_of : Cond → Bool → ℕ → Option Rule
rule_of B true k = Some (IsLess k)
rule_of B false k = None
rule_of Ae true k = None
rule_of Ae false k = Some (IsLess k)
rule_of Be true k = Some (IsLess (k + 1))
rule_of Be false k = None
rule_of A true k = None
rule_of A false k = Some (IsLess (k + 1))
rule_of E true k = Some (Is k)
rule_of E false k = None
rule_of Ne true k = None
rule_of Ne false k = Some (Is k)
rule_of O taken k = None
rule_of No taken k = None
rule_of S taken k = None
rule_of Ns taken k = None
rule_of P taken k = None
rule_of Np taken k = None
rule_of L taken k = None
rule_of Ge taken k = None
rule_of Le taken k = None
rule_of G taken k = None

-- what a rule at a width leaves of a value
abbrev pub refiner : Site → Width → Rule → Value → Option Value
refiner site w (IsLess k) v = below v w k site.bounds
refiner site w (Is k) v = equal v w k site.bounds

abbrev pub with_width : Width → Option Rule → Option (Width × Rule)
with_width w None = None
with_width w (Some r) = Some (w, r)

-- the rule of an edge by the fact of the state before
abbrev pub rule_at : Cond → Bool → Fact → Option (Width × Rule)
rule_at cond taken fact.Unknown = None
rule_at cond taken (fact.Compare w k) = with_width (width_of w) (rule_of cond taken k)

-- which places the compared number tells the tag of; an empty entry has a tag of 2 ^ 64 - 1
abbrev pub tags_by : Abstract → Rule → List Spot → Spot → ℕ → Bool
tags_by st (IsLess k) places p t = false
tags_by st (Is k) places p t = nat_lt k (2 ^ 32 - 1) && tagged_by st places p t

abbrev pub rule_number : Rule → ℕ
rule_number (IsLess k) = k
rule_number (Is k) = k

-- control may go along the edge; `places` are at least those that are there
abbrev pub MayGo : Site → List Spot → Abstract → Option (Width × Rule) → Type 0
MayGo site places st None = Unit {0}
MayGo site places st (Some r) = HasEdge st (refiner site r.0 r.1) × HasTagEdge st (rule_number r.1) (tags_by st r.1 places)

-- every place that a state can name: the registers, the flags, and the slots at offsets from -2^32 to 2^32. Proofs reason
-- about this list, and nothing computes it.
unfoldable pub frame_places : List Spot
frame_places = row_of Reg 17 0 ++ Flags ∷ row_of (λ n. Slot (pos n -ℤ pos (2 ^ 32))) (2 ^ 33 + 1) 0

-- the same, decided at these places: each one in the class of the flags has a refinement, and none tells another tag
abbrev pub may_go : Site → List Spot → Abstract → Option (Width × Rule) → Bool
may_go site places st None = true
may_go site places st (Some r) =
    list_all (λ p. not (st.same Flags p) || is_some (refiner site r.0 r.1 (st.values p))) places
    && list_all (λ p. not (is_other (rule_number r.1) (tags_by st r.1 places p) (st.values p))) places

-- the state that it carries
abbrev pub edge_state : Site → List Spot → Abstract → Option (Width × Rule) → Abstract
edge_state site places st None = st
edge_state site places st (Some r) = retag (refine st (refiner site r.0 r.1)) (rule_number r.1) (tags_by st r.1 places)
