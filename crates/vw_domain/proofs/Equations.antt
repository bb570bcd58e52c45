-- The laws of the equations.
use Rattle.std.proofs.Common.{sym, subst, ◌≡◌, ℕ, ◌-◌, ◌^◌, inl, inr, ⊎_elim, List, []}
use Rattle.std.specs.Prelude.{None, Bool, true, false, nat_lt, ◌&&◌}
use Rattle.std.proofs.lemmas.Bool.{false≢true}
use Rattle.vw_stmt.specs.Environment.{Environment}
use Rattle.vw_stmt.specs.Does.{performs}
use Rattle.vw_names.specs.declared.spot.Spot.{Spot}
use Rattle.vw_stack.specs.declared.offset.Offset.TheVariants as offset
use Rattle.vw_domain.specs.Abstract.{Abstract}
use Rattle.vw_domain.specs.Changes.{is_kept}
use Rattle.vw_domain.specs.Sites.{Site, Other}
use Rattle.vw_domain.specs.Statements.{apply, finish}
use Rattle.vw_domain.specs.Branches.{Rule, IsLess, Is, tags_by}
use Rattle.vw_domain.specs.Soundness.{store, activation_after, HitsGuard, held_of}
use Rattle.vw_domain.specs.EquationLaws
use Rattle.vw_domain.proofs.ValueLaws.{ValueLaws}
use Rattle.vw_domain.proofs.WriteLaws.{write_below}
use Rattle.vw_values.specs.declared.value.Value.TheVariants.{Any}
use Rattle.vw_domain.proofs.Orders.{to_any, Lower, lower_of, is_below_of, under_of}
use Rattle.vw_domain.proofs.Standing.{Standing, standing_of, stands_of}
use Rattle.vw_domain.proofs.Every.{stmt_stands, stmt_mono, stmt_passes}
use Rattle.vw_domain.proofs.EveryValid.{stmt_valid}
use Rattle.vw_domain.proofs.Lists.{list_valid, list_mono, list_passes, finish_valid, finish_stands}
use Rattle.vw_domain.proofs.Lower.{lower_stands}
use Rattle.vw_domain.proofs.Edges.{takes, edge_mono}
use Rattle.vw_domain.proofs.Tags.{more_by}
use Rattle.vw_domain.proofs.Calls.{call_mono, call_stands}
use Rattle.vw_domain.proofs.Probes.{probe_mono}
use Rattle.vw_domain.proofs.Valid.{call_valid}
use Rattle.vw_domain.proofs.Permits.{accesses_permitted as permitted, any_pick}
use Rattle.vw_domain.proofs.Checks.{return_passes, push_passes, base_passes, function_passes}
use Rattle.vw_names.specs.declared.spot.Spot.TheVariants.{Reg}
use Rattle.vw_stack.specs.declared.offset.Offset.{Offset}
use Rattle.vw_values.specs.declared.value.Value.{Value}
use Rattle.vw_values.specs.declared.value.Value.TheVariants.{Const}
use Rattle.vw_values.specs.Stands.{Stands}
use Rattle.vw_domain.specs.Addresses.{value_of}
use Rattle.vw_domain.specs.Calls.{deeper}
use Rattle.vw_domain.specs.Stands.{Machine, StandsWith}
use Rattle.vw_domain.specs.Changes.{call, is_register}
use Rattle.vw_domain.proofs.Probes.{deeper_stands, probed_depth}

module _ (laws : ValueLaws) where
  pub statements_stand : EquationLaws.StatementsStand
  statements_stand m site next loads st e compared pick s laid is memory form words are_bytes frame h lifted passes =
      ⊎_elim
      (λ (g : HitsGuard m next e s). inl g)
      (λ (k : (x : ℕ) × Standing (apply site s st) (activation_after next e m s) (held_of after_e) after_e.flags after_e.bytes x).
      inr (k.1.inside, (k.0, stands_of (apply site s st) (activation_after next e m s) (held_of after_e) after_e.flags after_e.bytes k.0 k.1)))
      (stmt_stands m site next laid laws is loads memory pick st e compared words are_bytes form before s lifted passes)
    where
      after_e : Environment
      after_e = performs loads (store m) next s pick e

      before : Standing st m (held_of e) e.flags e.bytes compared
      before = standing_of site.bounds st m (held_of e) e.flags e.bytes compared form frame h

  pub accesses_permitted : EquationLaws.AccessesArePermitted
  accesses_permitted m site next st e compared s laid image is form words frame h lifted no_flow passes =
      permitted m site next laid laws is image (λ bytes a n. 0) any_pick st e compared words form (standing_of site.bounds st m (held_of e) e.flags e.bytes compared form frame h) s lifted no_flow passes

  pub statements_rise : EquationLaws.StatementsRise
  statements_rise site s t x is vs vt lifted below = is_below_of _ _ (stmt_mono site laws is s t (lower_of s t below) vs vt x lifted)

  pub statements_keep_forms : EquationLaws.StatementsKeepForms
  statements_keep_forms site st x is form lifted = stmt_valid site laws is st form x lifted

  pub checks_rise : EquationLaws.ChecksRise
  checks_rise site s t x is vs vt below passes = stmt_passes site laws is s t (lower_of s t below) vs vt x passes

  pub lists_rise : EquationLaws.ListsRise
  lists_rise site s t stmts is vs vt lifted below = is_below_of _ _ (list_mono site laws is stmts lifted s t (lower_of s t below) vs vt)

  pub lists_keep_forms : EquationLaws.ListsKeepForms
  lists_keep_forms site st stmts is form lifted = list_valid site laws is stmts lifted st form

  pub list_checks_rise : EquationLaws.ListChecksRise
  list_checks_rise site s t stmts is vs vt lifted below passes = list_passes site laws is stmts lifted s t (lower_of s t below) vs vt passes

  pub ends_keep_forms : EquationLaws.EndsKeepForms
  ends_keep_forms site st is form = finish_valid site laws is st form

  pub lower_forms : EquationLaws.LowerFormsStandForLess
  lower_forms site m next s t compared laid is vs vt frame below h =
      stands_of t m m.registers m.flags m.byte compared
      (lower_stands m site next laid laws is s t m.registers m.flags m.byte compared (lower_of s t below) vt (standing_of site.bounds s m m.registers m.flags m.byte compared vs frame h))

  pub branches_stand : EquationLaws.BranchesStand
  branches_stand site m next st compared places cond taken laid is tables form frame h c =
      let got = takes m site next laid laws is tables st m.registers m.flags m.byte compared form (standing_of site.bounds st m m.registers m.flags m.byte compared form frame h) places cond taken c in
      (got.0, stands_of _ m m.registers m.flags m.byte compared got.1)

  more_tags : (s t : Abstract) → Lower s t → (places : List Spot) (rule : Rule) (p : Spot) (n : ℕ) → tags_by t rule places p n ≡ true → tags_by s rule places p n ≡ true
  more_tags s t below places (IsLess k) p n e = absurd (false≢true e)
  more_tags s t below places (Is k) p n e = by_test (nat_lt k (2 ^ 32 - 1)) (more_by s t below places p n) e
    where
      by_test : (b : Bool) {x y : Bool} → (x ≡ true → y ≡ true) → (b && x) ≡ true → (b && y) ≡ true
      by_test true f e = f e
      by_test false f e = absurd (false≢true e)

  pub branches_rise : EquationLaws.BranchesRise
  branches_rise site s t places cond taken is vs vt below go =
      let lower = lower_of s t below in
      let got = edge_mono site laws is s t lower vs vt places places (more_tags s t lower places) cond taken go in
      (got.0, is_below_of _ _ got.1)

-- a site that tells nothing
nowhere : Site
nowhere = record { next = 0; bounds = []; tables = []; word_at = λ a n. Other; is_readable = λ a. false }

pub ends_stand : EquationLaws.EndsStand
ends_stand bounds m st e compared x form frame h = stands_of (finish st) m _ _ _ compared (finish_stands m nowhere st e compared x (standing_of bounds st m (held_of e) e.flags e.bytes compared form frame h))

pub ends_rise : EquationLaws.EndsRise
ends_rise bounds s t vs below = is_below_of _ _ (write_below s t 16 None None Any Any offset.Unknown offset.Unknown (lower_of s t below) vs.itself to_any tt)

pub calls_stand : EquationLaws.CallsStand
calls_stand bounds m st compared kept c rsp form frame h at below low registers flags byte is_written same_registers same_bytes more push inside =
    stands_of _ (record m { is_written = is_written }) registers flags byte compared
    (call_stands m nowhere st m.registers m.flags m.byte compared (standing_of bounds st m m.registers m.flags m.byte compared form frame h) kept c rsp at below registers flags byte is_written same_registers same_bytes more push inside low)

pub probes_stand : EquationLaws.ProbesStand
probes_stand bounds m st compared c rsp form frame h known at below low room registers flags byte is_written same_registers same_bytes more push inside =
    subst After (sym known) (stands_of (record (call st is_register (offset.Known c)) { probed = deeper (value_of st 0) (offset.Known c) st.probed }) after registers flags byte compared deep)
  where
    after : Machine
    after = record m { is_written = is_written }

    After : Offset → Type 0
    After o = StandsWith (record (call st is_register o) { probed = deeper (value_of st 0) o st.probed }) (record m { registers = registers; flags = flags; byte = byte; is_written = is_written }) compared

    before : Standing st m m.registers m.flags m.byte compared
    before = standing_of bounds st m m.registers m.flags m.byte compared form frame h

    called : Standing (call st is_register (offset.Known c)) after registers flags byte compared
    called = call_stands m nowhere st m.registers m.flags m.byte compared before is_register c rsp at below registers flags byte is_written same_registers same_bytes more push inside low

    rax : (k : ℕ) → value_of st 0 ≡ Const k → m.registers 0 ≡ k
    rax k e = let P : Value → Type 0 = λ v. Stands m.instance m.registers v (m.registers 0) in subst P e (before.values (Reg 0))

    deep : Standing (record (call st is_register (offset.Known c)) { probed = deeper (value_of st 0) (offset.Known c) st.probed }) after registers flags byte compared
    deep = deeper_stands after (call st is_register (offset.Known c)) (deeper (value_of st 0) (offset.Known c) st.probed) registers flags byte compared
        (probed_depth m.stack_start m.entry_rsp rsp (m.registers 0) (value_of st 0) c st.probed before.low_end before.depth at room rax) called

pub calls_keep_forms : EquationLaws.CallsKeepForms
calls_keep_forms bounds st kept form = call_valid bounds st kept (st.offsets 4) form

pub calls_rise : EquationLaws.CallsRise
calls_rise bounds s t vs below = let lower = lower_of s t below in is_below_of _ _ (call_mono s t lower vs.itself is_kept (s.offsets 4) (t.offsets 4) (lower.offsets 4))

pub probes_rise : EquationLaws.ProbesRise
probes_rise bounds s t vs below = is_below_of _ _ (probe_mono s t (lower_of s t below) vs.itself)

pub transfer_checks_rise : EquationLaws.TransferChecksRise
transfer_checks_rise site s t below = let lower = lower_of s t below in ((λ h. return_passes site s t lower h), (λ h. push_passes site s t lower h), (λ h. base_passes site s t lower h))

pub value_checks_rise : EquationLaws.ValueChecksRise
value_checks_rise v w below h = function_passes v w (under_of v w below) h
