-- Instructions at a point of code, and the edges that leave it.
use Rattle.std.proofs.Common.{◌≡◌, ◌↔◌, ℕ, ◌+◌, ◌≤◌, List, [], length, take, drop, Option, Some, None, refl, sym, ◌∙◌, ap, arith}
use Rattle.std.proofs.lemmas.List.{length-drop, get_or-drop}
use Rattle.vw_insn.specs.declared.instruction.Insn.{Insn}
use Rattle.vw_stmt.specs.declared.operands.Var.{Var}
use Rattle.vw_rows.specs.Numbers.{IsBytes}
use Rattle.vw_rows.specs.Spelling.{Spells}
use Rattle.vw_decode.specs.Lexing.{Found, insn_found, length_found, read}
use Rattle.vw_domain.specs.declared.parts.Parts.{Parts}
use Rattle.vw_domain.specs.Abstract.{Abstract}
use Rattle.vw_state.specs.Code.{BeginsAt, NothingAt}
use Rattle.vw_state.specs.Context.{Context, code_of}
use Rattle.vw_state.specs.Post.{insn_edges, edges_read, edges_by, PostBy, nothing, begins}

pub IsBytes-drop : (n : ℕ) (bytes : List ℕ) → IsBytes bytes → IsBytes (drop n bytes)
IsBytes-drop n bytes h i = rw (get_or-drop n bytes i 0) (h (n + i))

-- what is read at a point begins there, by what reading answers
module _ (no_front : (bytes : List ℕ) → IsBytes bytes → (read bytes ≡ None) ↔ ((n : ℕ) (insn : Insn) → Spells (take n bytes) insn → ⊥))
    (spelled : (bytes : List ℕ) (f : Found) → IsBytes bytes → read bytes ≡ Some f → Spells (take (length_found bytes f) bytes) (insn_found f))
    (size : (bytes : List ℕ) (f : Found) → read bytes ≡ Some f → (1 ≤ length_found bytes f) × (length_found bytes f ≤ 15))
    (only : (bytes : List ℕ) (f : Found) (n : ℕ) (insn : Insn) → read bytes ≡ Some f → n ≤ length bytes → Spells (take n bytes) insn → (insn_found f ≡ insn) × (length_found bytes f ≡ n))
    (f : Context) (at : ℕ) (bytes : IsBytes (code_of f)) where
  abbrev code : List ℕ
  code = code_of f

  abbrev read_len : Found → ℕ
  read_len found = length_found (drop at code) found

  read_begins : (found : Found) → read (drop at code) ≡ Some found → BeginsAt code at (insn_found found) (read_len found)
  read_begins found e =
      let some = size (drop at code) found e in
      record {
        inside = omega (arith, some.0, length-drop at code);
        spelled = spelled (drop at code) found (IsBytes-drop at code bytes) e;
      }

  nothing_read : read (drop at code) ≡ None → NothingAt code at
  nothing_read e i len b = (no_front (drop at code) (IsBytes-drop at code bytes)).0 e len i b.spelled

  -- one instruction begins there
  pub begins_alone : (i j : Insn) (len other : ℕ) → BeginsAt code at i len → BeginsAt code at j other → (i ≡ j) × (len ≡ other)
  begins_alone i j len other b d = from (read (drop at code)) refl
    where
      read_as : (found : Found) → read (drop at code) ≡ Some found → (k : Insn) (n : ℕ) → BeginsAt code at k n → (insn_found found ≡ k) × (read_len found ≡ n)
      read_as found e k n begun = only (drop at code) found n k e (omega (arith, begun.inside, length-drop at code)) begun.spelled

      from : (found : Option Found) → read (drop at code) ≡ found → (i ≡ j) × (len ≡ other)
      from None e = absurd (nothing_read e i len b)
      from (Some found) e =
          let first = read_as found e i len b in
          let second = read_as found e j other d in
          (sym first.0 ∙ second.0, sym first.1 ∙ second.1)

  module _ (targets : Var → Abstract → List ℕ) (state : Parts) where
    is_post : (found : Option Found) → read (drop at code) ≡ found → PostBy f targets at state (edges_read f targets at state found)
    is_post None e = nothing (nothing_read e)
    is_post (Some found) e = begins (insn_found found) (read_len found) (read_begins found e)

    none_post : (found : Option Found) → read (drop at code) ≡ found → NothingAt code at → [] ≡ edges_read f targets at state found
    none_post None e none = refl
    none_post (Some found) e none = absurd (none (insn_found found) (read_len found) (read_begins found e))

    begun_post : (found : Option Found) → read (drop at code) ≡ found → (i : Insn) (len : ℕ) → BeginsAt code at i len → insn_edges f targets (at + len) state i ≡ edges_read f targets at state found
    begun_post None e i len b = absurd (nothing_read e i len b)
    begun_post (Some found) e i len b =
        let one = only (drop at code) found len i e (omega (arith, b.inside, length-drop at code)) b.spelled in
        ap (λ (n : ℕ). insn_edges f targets (at + n) state i) (sym one.1) ∙ ap (λ (j : Insn). insn_edges f targets (at + read_len found) state j) (sym one.0)

    pub edges_post : PostBy f targets at state (edges_by f targets at state)
    unfolding edges_by
    edges_post = is_post (read (drop at code)) refl

    none_edges : NothingAt code at → [] ≡ edges_by f targets at state
    unfolding edges_by
    none_edges none = none_post (read (drop at code)) refl none

    begun_edges : (i : Insn) (len : ℕ) → BeginsAt code at i len → insn_edges f targets (at + len) state i ≡ edges_by f targets at state
    unfolding edges_by
    begun_edges i len b = begun_post (read (drop at code)) refl i len b

    pub only_edges : (edges : List (ℕ × Parts)) → PostBy f targets at state edges → edges ≡ edges_by f targets at state
    only_edges edges (nothing none) = none_edges none
    only_edges edges (begins i len b) = begun_edges i len b
