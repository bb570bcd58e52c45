-- What is read is a spelling, and a spelling is read, whatever follows it.
use Rattle.std.proofs.Common.{◌≡◌, ℕ, ◌+◌, ◌-◌, ◌≤◌, ◌==◌, Bool, true, false, List, [], ◌++◌, length, take, drop, Option, Some, None, refl, sym, ◌∙◌, ap, append_assoc, arith}
use Rattle.std.proofs.lemmas.List.{take_at, take-append-drop, length-append, length-drop}
use Rattle.vw_insn.specs.declared.registers.Width.{Width}
use Rattle.vw_insn.specs.declared.instruction.Insn.{Insn}
use Rattle.vw_rows.specs.declared.patterns.Prefix.{Prefix}
use Rattle.vw_rows.specs.declared.patterns.Map.{Map}
use Rattle.vw_rows.specs.declared.patterns.Key.{Key}
use Rattle.vw_rows.specs.declared.forms.Row.{Row}
use Rattle.vw_rows.specs.Rows.{rows}
use Rattle.vw_rows.specs.Lookup.{IsIn, key, matches}
use Rattle.vw_rows.specs.Numbers.{IsBytes}
use Rattle.vw_rows.specs.Parts.{Modrm, Parts, prefix_bytes, rex_bytes, opcode_bytes, modrm_bytes, bytes_of, mode, reg}
use Rattle.vw_rows.specs.Layout.{digit_of, is_register_form, has_modrm, IsModrm, IsLaid}
use Rattle.vw_rows.specs.Meaning.{insn_of}
use Rattle.vw_rows.specs.Spelling.{Spells}
use Rattle.vw_rows.proofs.Bytes.{IsBytes-take}
use Rattle.vw_rows.proofs.Lengths.{spelled_length}
use Rattle.vw_rows.proofs.Uniqueness.{find_is, find_row}
use Rattle.vw_decode.specs.Lexing.{◌>>=◌, next_of, row_at, Head, head_at, Found, tail_at, read}
use Rattle.vw_decode.proofs.Binds.{bind_some, some, some_is}
use Rattle.vw_decode.proofs.RowFacts.{found_with_any, opcode_free}
use Rattle.vw_decode.proofs.Heads.{head_takes, head_again}
use Rattle.vw_decode.proofs.Tails.{Modded, parts_of, tail_takes, tail_again}

-- the key by the next byte, and the key by the parts
abbrev next_key : Prefix → Map → ℕ → List ℕ → Key
next_key p m o bytes = key p m o (reg (next_of bytes)) (mode (next_of bytes) == 3)

to_parts : (row : Row) → IsIn row rows → (is : Bool) → has_modrm row.operands ≡ is → (p : Prefix) (m : Map) (o : ℕ) (bytes rest : List ℕ) (modrm : Option Modrm) → Modded is bytes modrm rest → matches row (next_key p m o bytes) ≡ true → matches row (key p m o (digit_of modrm) (is_register_form modrm)) ≡ true
to_parts row there true has p m o bytes rest modrm modded hit = rw (modded.digit refl, modded.form refl) hit
to_parts row there false has p m o bytes rest modrm modded hit = found_with_any row there has p m o (reg (next_of bytes)) (digit_of modrm) (mode (next_of bytes) == 3) (is_register_form modrm) hit

to_next : (row : Row) → IsIn row rows → (is : Bool) → has_modrm row.operands ≡ is → (p : Prefix) (m : Map) (o : ℕ) (rest : List ℕ) (modrm : Option Modrm) → IsModrm is modrm → matches row (key p m o (digit_of modrm) (is_register_form modrm)) ≡ true → matches row (next_key p m o (modrm_bytes modrm ++ rest)) ≡ true
to_next row there true has p m o rest None laid hit = absurd laid
to_next row there true has p m o rest (Some modrm) laid hit = hit
to_next row there false has p m o rest modrm laid hit = found_with_any row there has p m o (digit_of modrm) (reg (next_of (modrm_bytes modrm ++ rest))) (is_register_form modrm) (mode (next_of (modrm_bytes modrm ++ rest)) == 3) hit

-- ---- what is read is there

pub record IsRead (bytes : List ℕ) (f : Found) : Type 0 where
  pub there : bytes ≡ bytes_of f.parts ++ f.rest
  pub laid : IsLaid f.parts f.row f.width

grouped : (p r o m i rest : List ℕ) → p ++ (r ++ (o ++ (m ++ (i ++ rest)))) ≡ (p ++ (r ++ (o ++ (m ++ i)))) ++ rest
grouped p r o m i rest = simp append_assoc

laid_as : (p q : Parts) (r s : Row) (w : Width) → q ≡ p → s ≡ r → IsLaid p r w → IsLaid q s w
laid_as p q r s w e d h = rw (e, d) h

read_of : (bytes : List ℕ) (h : Head) (row : Row) (f : Found) → head_at bytes ≡ Some h → row_at h.prefix h.map h.opcode h.rest ≡ Some row → tail_at h row ≡ Some f → IsRead bytes f
read_of bytes h row f a b c =
    let head = head_takes bytes h a in
    let found = find_is (next_key h.prefix h.map h.opcode h.rest) row b in
    let t = tail_takes h row f c in
    let parts = parts_of h t.modrm t.imm in
    let there : bytes ≡ bytes_of parts ++ f.rest =
    head.0 ∙ (ap (λ (s : List ℕ). prefix_bytes h.prefix ++ (rex_bytes h.rex ++ (opcode_bytes h.map h.opcode ++ s))) (t.modded.there ∙ ap (λ (s : List ℕ). modrm_bytes t.modrm ++ s) t.there)
    ∙ grouped (prefix_bytes h.prefix) (rex_bytes h.rex) (opcode_bytes h.map h.opcode) (modrm_bytes t.modrm) t.imm f.rest) in
    let laid : IsLaid parts row f.width = record {
      listed = found.0;
      found = to_parts row found.0 (has_modrm row.operands) refl h.prefix h.map h.opcode h.rest t.behind t.modrm t.modded found.1;
      rex = head.1;
      width = t.width;
      modrm = t.modded.laid;
      imm = t.len;
      fixed = t.fixed;
    } in
    record {
      there = there ∙ ap (λ (p : Parts). bytes_of p ++ f.rest) (sym t.parts);
      laid = laid_as parts f.parts row f.row f.width t.parts t.row_is laid;
    }

pub read_takes : (bytes : List ℕ) (f : Found) → read bytes ≡ Some f → IsRead bytes f
unfolding read
read_takes bytes f e =
    let a = bind_some (head_at bytes) (λ h. row_at h.prefix h.map h.opcode h.rest >>= λ row. tail_at h row) f e in
    let h = a.0 in
    let b = bind_some (row_at h.prefix h.map h.opcode h.rest) (λ row. tail_at h row) f a.2 in
    read_of bytes h b.0 f a.1 b.1 b.2

-- ---- what is there is read

pub read_again : (p : Parts) (row : Row) (w : Width) (rest : List ℕ) → IsLaid p row w → read (bytes_of p ++ rest) ≡ Some (record { row = row; width = w; parts = p; rest = rest })
unfolding read
read_again p row w rest laid =
    let behind = modrm_bytes p.modrm ++ (p.imm ++ rest) in
    let h : Head = record { prefix = p.prefix; rex = p.rex; map = p.map; opcode = p.opcode; rest = behind } in
    let regrouped : bytes_of p ++ rest ≡ prefix_bytes p.prefix ++ (rex_bytes p.rex ++ (opcode_bytes p.map p.opcode ++ behind)) = sym (grouped (prefix_bytes p.prefix) (rex_bytes p.rex) (opcode_bytes p.map p.opcode) (modrm_bytes p.modrm) p.imm rest) in
    let free = opcode_free row laid.listed p.prefix p.map p.opcode (digit_of p.modrm) (is_register_form p.modrm) laid.found in
    let one : head_at (bytes_of p ++ rest) ≡ Some h = ap head_at regrouped ∙ head_again h laid.rex free in
    let hit = to_next row laid.listed (has_modrm row.operands) refl p.prefix p.map p.opcode (p.imm ++ rest) p.modrm laid.modrm laid.found in
    let two : row_at p.prefix p.map p.opcode behind ≡ Some row = find_row (next_key p.prefix p.map p.opcode behind) row laid.listed hit in
    let three : tail_at h row ≡ Some (record { row = row; width = w; parts = p; rest = rest }) = tail_again h row w p.modrm p.imm rest laid.width laid.modrm laid.imm laid.fixed refl in
    rw (one, two, three) refl

-- ---- what the decoder answers

pub rest_within : (bytes : List ℕ) (f : Found) → read bytes ≡ Some f → length f.rest ≤ length bytes
rest_within bytes f e =
    let r = read_takes bytes f e in
    omega (arith, ap length r.there, length-append (bytes_of f.parts) f.rest)

-- the bytes in front of the rest
front_is : (bytes front rest : List ℕ) → bytes ≡ front ++ rest → take (length bytes - length rest) bytes ≡ front
front_is bytes front rest e =
    let len : length front ≡ length bytes - length rest = omega (arith, ap length e, length-append front rest) in
    ap (λ (t : List ℕ). take (length bytes - length rest) t) e ∙ take_at front rest (length bytes - length rest) len

pub read_spells : (bytes : List ℕ) (f : Found) (insn : Insn) → IsBytes bytes → read bytes ≡ Some f → insn ≡ insn_of f.row f.width f.parts → Spells (take (length bytes - length f.rest) bytes) insn
read_spells bytes f insn fits e is =
    let r = read_takes bytes f e in
    record {
      parts = f.parts;
      row = f.row;
      width = f.width;
      laid = r.laid;
      meant = sym is;
      spelled = front_is bytes (bytes_of f.parts) f.rest r.there;
      are_bytes = IsBytes-take (length bytes - length f.rest) bytes fits;
    }

-- where no front is a spelling, nothing is read
pub none_read : (bytes : List ℕ) → IsBytes bytes → ((n : ℕ) (insn : Insn) → Spells (take n bytes) insn → ⊥) → read bytes ≡ None
none_read bytes fits none = decide (read bytes) refl
  where
    decide : (found : Option Found) → read bytes ≡ found → read bytes ≡ None
    decide None e = e
    decide (Some f) e = absurd (none (length bytes - length f.rest) (insn_of f.row f.width f.parts) (read_spells bytes f (insn_of f.row f.width f.parts) fits e refl))

-- what a spelling is read as
abbrev pub as_read : (bytes : List ℕ) (n : ℕ) (insn : Insn) → Spells (take n bytes) insn → Found
as_read bytes n insn s = record { row = s.row; width = s.width; parts = s.parts; rest = drop n bytes }

pub spelled_read : (bytes : List ℕ) (n : ℕ) (insn : Insn) (s : Spells (take n bytes) insn) → read bytes ≡ Some (as_read bytes n insn s)
spelled_read bytes n insn s =
    let whole : bytes ≡ bytes_of s.parts ++ drop n bytes = sym (take-append-drop n bytes) ∙ ap (λ (t : List ℕ). t ++ drop n bytes) s.spelled in
    ap read whole ∙ read_again s.parts s.row s.width (drop n bytes) s.laid

-- nothing is read, and so nothing is spelled
pub none_spelled : (bytes : List ℕ) (n : ℕ) (insn : Insn) → read bytes ≡ None → Spells (take n bytes) insn → ⊥
none_spelled bytes n insn e s = let is = spelled_read bytes n insn s in cc

pub one_answer : (bytes : List ℕ) (f : Found) (n : ℕ) (insn : Insn) → read bytes ≡ Some f → n ≤ length bytes → Spells (take n bytes) insn → (insn_of f.row f.width f.parts ≡ insn) × (length bytes - length f.rest ≡ n)
one_answer bytes f n insn e le s =
    let is : f ≡ as_read bytes n insn s = some_is f (as_read bytes n insn s) (sym e ∙ spelled_read bytes n insn s) in
    let meant : insn_of f.row f.width f.parts ≡ insn = ap (λ (x : Found). insn_of x.row x.width x.parts) is ∙ s.meant in
    let rest : length f.rest ≡ length (drop n bytes) = ap (λ (x : Found). length x.rest) is in
    (meant, omega (arith, rest, length-drop n bytes))

-- no spelling begins another
pub no_spelling_begins : (a b x y : List ℕ) (i j : Insn) → Spells a i → Spells b j → a ++ x ≡ b ++ y → (a ≡ b) × (i ≡ j)
no_spelling_begins a b x y i j s t e =
    let one : read (a ++ x) ≡ Some (record { row = s.row; width = s.width; parts = s.parts; rest = x }) = ap (λ (u : List ℕ). read (u ++ x)) s.spelled ∙ read_again s.parts s.row s.width x s.laid in
    let two : read (b ++ y) ≡ Some (record { row = t.row; width = t.width; parts = t.parts; rest = y }) = ap (λ (u : List ℕ). read (u ++ y)) t.spelled ∙ read_again t.parts t.row t.width y t.laid in
    let f : Found = record { row = s.row; width = s.width; parts = s.parts; rest = x } in
    let g : Found = record { row = t.row; width = t.width; parts = t.parts; rest = y } in
    let same : f ≡ g = some_is f g (sym one ∙ (ap read e ∙ two)) in
    (s.spelled ∙ (ap (λ (v : Found). bytes_of v.parts) same ∙ sym t.spelled), sym s.meant ∙ (ap (λ (v : Found). insn_of v.row v.width v.parts) same ∙ t.meant))

-- no bytes are a spelling by two rows
pub one_row : (bytes : List ℕ) (i j : Insn) (s : Spells bytes i) (t : Spells bytes j) → s.row ≡ t.row
one_row bytes i j s t =
    let one : read (bytes ++ []) ≡ Some (record { row = s.row; width = s.width; parts = s.parts; rest = [] }) = ap (λ (u : List ℕ). read (u ++ [])) s.spelled ∙ read_again s.parts s.row s.width [] s.laid in
    let two : read (bytes ++ []) ≡ Some (record { row = t.row; width = t.width; parts = t.parts; rest = [] }) = ap (λ (u : List ℕ). read (u ++ [])) t.spelled ∙ read_again t.parts t.row t.width [] t.laid in
    let f : Found = record { row = s.row; width = s.width; parts = s.parts; rest = [] } in
    let g : Found = record { row = t.row; width = t.width; parts = t.parts; rest = [] } in
    ap (λ (v : Found). v.row) (some_is f g (sym one ∙ two))

pub same_answer : (i j : Insn) (m n : ℕ) → i ≡ j → m ≡ n → some {A = Insn × ℕ} (i, m) ≡ some {A = Insn × ℕ} (j, n)
same_answer i j m n e d = rw (e, d) refl

-- ---- how long it is

pub read_length : (bytes : List ℕ) (f : Found) → read bytes ≡ Some f → (1 ≤ length bytes - length f.rest) × (length bytes - length f.rest ≤ 15)
read_length bytes f e =
    let r = read_takes bytes f e in
    let l = spelled_length f.parts f.row f.width r.laid in
    let whole : length bytes ≡ length (bytes_of f.parts) + length f.rest = ap length r.there ∙ length-append (bytes_of f.parts) f.rest in
    (omega arith, omega arith)
