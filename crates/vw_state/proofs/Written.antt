-- What statements put into registers is in its ranges: the forms that the laws of the equations tell of say so, where the
-- number is put into either of two registers, since a value that a register tells is forgotten in one of these alone.
use Rattle.std.proofs.Common.{◌≡◌, ℕ, ◌≤◌, ◌==◌, List, length, refl, subst, arith}
use Rattle.std.specs.Prelude.{zero, suc, ℤ, pos, negsuc, Bool, true, false, if◌then◌else◌, Option, Some, None}
use Rattle.std.proofs.lemmas.Bool.{eqb-true}
use Rattle.vw_insn.specs.declared.registers.Reg.{Reg as GeneralRegister}
use Rattle.vw_insn.specs.declared.registers.Reg.TheVariants.{Rax}
use Rattle.vw_insn.specs.declared.registers.Width.{Width}
use Rattle.vw_insn.specs.declared.registers.Width.TheVariants.{W8, W16, W32, W64}
use Rattle.vw_insn.specs.declared.operands.Base.{Base}
use Rattle.vw_insn.specs.declared.operands.Base.TheVariants as base
use Rattle.vw_insn.specs.declared.operands.Mem.{Mem}
use Rattle.vw_stmt.specs.declared.operands.Var.{Var}
use Rattle.vw_stmt.specs.declared.operands.Var.TheVariants as var
use Rattle.vw_stmt.specs.declared.statement.Stmt.{Stmt}
use Rattle.vw_stmt.specs.Lifted.{IsLifted}
use Rattle.vw_names.specs.declared.spot.Spot.TheVariants.{Reg}
use Rattle.vw_values.specs.Bounds.{IsBounds}
use Rattle.vw_values.specs.Stands.{register_of}
use Rattle.vw_values.specs.Values.{IsValue, IsAmong}
use Rattle.vw_values.specs.declared.value.Value.{Value}
use Rattle.vw_values.specs.declared.value.Value.TheVariants.{Any, TagOf}
use Rattle.vw_domain.specs.declared.registers.Register.{Register}
use Rattle.vw_domain.specs.Abstract.{Abstract}
use Rattle.vw_domain.specs.Changes.{forget, write}
use Rattle.vw_domain.specs.FormLaws.{HoldsBounds, StatementsKeepStateForms, HasDisplacement}
use Rattle.vw_domain.specs.FormRanges.{IsStateForm}
use Rattle.vw_domain.specs.Operands.{index_of}
use Rattle.vw_domain.specs.Registers.{OffsetFits, IsRegister}
use Rattle.vw_domain.specs.Sites.{Site as EquationSite, IsSite, Other}
use Rattle.vw_domain.specs.Statements.{apply, sum_value, plus_disp, lea_by, lea_value, chosen_value}
use Rattle.vw_state.specs.declared.site.Site.{Site}
use Rattle.vw_state.specs.Context.{equation_site}

-- no value is forgotten in both registers
pub unforgotten : (P : Value → Type 0) (v : Value) → P (forget (λ r. r == 16) v) → P (forget (λ r. r == 0) v) → P v
unforgotten P (TagOf t via) k l = by_tests (register_of via == 16) (register_of via == 0) refl refl k l
  where
    by_tests : (x y : Bool) → (register_of via == 16) ≡ x → (register_of via == 0) ≡ y → P (if x then Any else TagOf t via) → P (if y then Any else TagOf t via) → P (TagOf t via)
    by_tests false y d e k l = k
    by_tests true false d e k l = l
    by_tests true true d e k l =
        let sixteen : register_of via ≡ 16 = eqb-true (register_of via) 16 d in
        let zero : register_of via ≡ 0 = eqb-true (register_of via) 0 e in
        absurd (omega arith)
unforgotten P v k l = k

-- The site without the words of its image.
abbrev pub calm : Site → ℕ → EquationSite
calm site next = record (equation_site site next) { word_at = λ a n. Other }

pub calm_is_site : (site : Site) (next : ℕ) → IsBounds site.bounds.now → length site.tables.now ≤ 64 → IsSite (calm site next)
calm_is_site site next bounds few = record {
  bounds = bounds;
  few = few;
  half = λ a x e. cc;
  whole = λ a x e. cc;
  based = λ a b e. cc;
}

pub written_known : (b : List ℕ) (st : Abstract) (known : Register) → IsStateForm b (write st 16 None known.value known.offset) → IsStateForm b (write st 0 None known.value known.offset)
    → IsRegister known × IsAmong b known.value
written_known b st known k l = (
  record {
    value = unforgotten IsValue known.value (k.form.values (Reg 16)) (l.form.values (Reg 0));
    offset = unforgotten (OffsetFits known.offset) known.value (k.form.offsets 16) (l.form.offsets 0);
  },
  unforgotten (IsAmong b) known.value (k.form.among (Reg 16)) (l.form.among (Reg 0)),
)

-- `x` is the statement by its register
pub statement_known : (site : Site) (next : ℕ) (members : List ℕ) (st : Abstract) (x : Var → Stmt) (known : Register) → StatementsKeepStateForms → IsBounds site.bounds.now → HoldsBounds members site.bounds.now → length site.tables.now ≤ 64 → IsStateForm members st
    → ((d : Var) → IsLifted (x d)) → ((d : Var) → HasDisplacement (x d)) → ((d : Var) → apply (calm site next) (x d) st ≡ write st (index_of d) None known.value known.offset)
    → IsRegister known × IsAmong members known.value
statement_known site next members st x known kept bounds holds few form lifted disp is =
    written_known members st known (of var.Tmp) (of (var.Reg Rax))
  where
    of : (d : Var) → IsStateForm members (write st (index_of d) None known.value known.offset)
    of d = subst (IsStateForm members) (is d) (kept (calm site next) members st (x d) (calm_is_site site next bounds few) holds form (lifted d) (disp d))

-- ---- what is put does not depend on the words of the image

pub sum_calm : (site : Site) (next : ℕ) (minus : Bool) (x y : Value) → sum_value (equation_site site next) minus x y ≡ sum_value (calm site next) minus x y
sum_calm site next true x y = refl
sum_calm site next false x y = refl

plus_calm : (site : Site) (next : ℕ) (v : Value) (d : ℤ) → plus_disp (equation_site site next) v d ≡ plus_disp (calm site next) v d
plus_calm site next v (pos zero) = refl
plus_calm site next v (pos (suc n)) = refl
plus_calm site next v (negsuc n) = refl

lea_by_calm : (site : Site) (next : ℕ) (st : Abstract) (d : ℤ) (b : Base) (i : Option (GeneralRegister × ℕ)) → lea_by (equation_site site next) st d b i ≡ lea_by (calm site next) st d b i
lea_by_calm site next st d base.Rip i = refl
lea_by_calm site next st d base.None None = refl
lea_by_calm site next st d base.None (Some i) = plus_calm site next _ d
lea_by_calm site next st d (base.Reg r) None = plus_calm site next _ d
lea_by_calm site next st d (base.Reg r) (Some i) = plus_calm site next _ d

pub lea_calm : (site : Site) (next : ℕ) (st : Abstract) (mem : Mem) → lea_value (equation_site site next) st mem ≡ lea_value (calm site next) st mem
lea_calm site next st mem = lea_by_calm site next st mem.disp mem.base mem.index

pub chosen_calm : (site : Site) (next : ℕ) (w : Width) (x y : Value) → chosen_value (equation_site site next) w x y ≡ chosen_value (calm site next) w x y
chosen_calm site next W8 x y = refl
chosen_calm site next W16 x y = refl
chosen_calm site next W32 x y = refl
chosen_calm site next W64 x y = refl
