-- What an instruction on XMM registers is called and does with its operands, one line for each (SDM volume 2,
-- chapters 3 to 5).
use Rattle.std.specs.Prelude.{ℕ, Bool, true, false, List, codes}
use Rattle.vw_insn.specs.declared.xmm.XmmRow.{XmmRow}
use Rattle.vw_insn.specs.declared.xmm.XmmRow.TheVariants.{MovupsLoad, MovupdLoad, MovssLoad, MovsdLoad, MovupsStore, MovupdStore, MovssStore, MovsdStore, MovapsLoad, MovapdLoad, MovapsStore, MovapdStore, MovdqaLoad, MovdquLoad, MovdqaStore, MovdquStore, MovdLoad, MovdStore, MovqLoad, MovqStore, Sqrtps, Sqrtpd, Sqrtss, Sqrtsd, Addps, Addpd, Addss, Addsd, Mulps, Mulpd, Mulss, Mulsd, Subps, Subpd, Subss, Subsd, Minps, Minpd, Minss, Minsd, Divps, Divpd, Divss, Divsd, Maxps, Maxpd, Maxss, Maxsd, Andps, Andpd, Andnps, Andnpd, Orps, Orpd, Xorps, Xorpd, Cvtps2pd, Cvtpd2ps, Cvtss2sd, Cvtsd2ss, Cvtdq2ps, Cvtps2dq, Cvttps2dq, Cvtsi2ss, Cvtsi2sd, Cvttss2si, Cvttsd2si, Cvtss2si, Cvtsd2si, Ucomiss, Ucomisd, Comiss, Comisd, Pxor, Roundss, Roundsd}
use Rattle.vw_insn.specs.declared.xmm.XmmRole.{XmmRole}
use Rattle.vw_insn.specs.declared.xmm.XmmRole.TheVariants as role
use Rattle.vw_insn.specs.declared.xmm.XmmSize.{XmmSize}
use Rattle.vw_insn.specs.declared.xmm.XmmSize.TheVariants as size

-- the mnemonic, which operand is the destination and which are general registers, and how many bytes the second operand
-- has where it is memory
abbrev pub xmm_traits : XmmRow → List ℕ × XmmRole × XmmSize
xmm_traits MovupsLoad = (codes "movups", role.Load, size.Bytes16)
xmm_traits MovupdLoad = (codes "movupd", role.Load, size.Bytes16)
xmm_traits MovssLoad = (codes "movss", role.Load, size.Bytes4)
xmm_traits MovsdLoad = (codes "movsd", role.Load, size.Bytes8)
xmm_traits MovupsStore = (codes "movups", role.Store, size.Bytes16)
xmm_traits MovupdStore = (codes "movupd", role.Store, size.Bytes16)
xmm_traits MovssStore = (codes "movss", role.Store, size.Bytes4)
xmm_traits MovsdStore = (codes "movsd", role.Store, size.Bytes8)
xmm_traits MovapsLoad = (codes "movaps", role.Load, size.Bytes16)
xmm_traits MovapdLoad = (codes "movapd", role.Load, size.Bytes16)
xmm_traits MovapsStore = (codes "movaps", role.Store, size.Bytes16)
xmm_traits MovapdStore = (codes "movapd", role.Store, size.Bytes16)
xmm_traits MovdqaLoad = (codes "movdqa", role.Load, size.Bytes16)
xmm_traits MovdquLoad = (codes "movdqu", role.Load, size.Bytes16)
xmm_traits MovdqaStore = (codes "movdqa", role.Store, size.Bytes16)
xmm_traits MovdquStore = (codes "movdqu", role.Store, size.Bytes16)
xmm_traits MovdLoad = (codes "movd", role.MoveFromGeneral, size.ByWide)
xmm_traits MovdStore = (codes "movd", role.MoveToGeneral, size.ByWide)
xmm_traits MovqLoad = (codes "movq", role.Load, size.Bytes8)
xmm_traits MovqStore = (codes "movq", role.Store, size.Bytes8)
xmm_traits Sqrtps = (codes "sqrtps", role.Load, size.Bytes16)
xmm_traits Sqrtpd = (codes "sqrtpd", role.Load, size.Bytes16)
xmm_traits Sqrtss = (codes "sqrtss", role.Load, size.Bytes4)
xmm_traits Sqrtsd = (codes "sqrtsd", role.Load, size.Bytes8)
xmm_traits Addps = (codes "addps", role.Load, size.Bytes16)
xmm_traits Addpd = (codes "addpd", role.Load, size.Bytes16)
xmm_traits Addss = (codes "addss", role.Load, size.Bytes4)
xmm_traits Addsd = (codes "addsd", role.Load, size.Bytes8)
xmm_traits Mulps = (codes "mulps", role.Load, size.Bytes16)
xmm_traits Mulpd = (codes "mulpd", role.Load, size.Bytes16)
xmm_traits Mulss = (codes "mulss", role.Load, size.Bytes4)
xmm_traits Mulsd = (codes "mulsd", role.Load, size.Bytes8)
xmm_traits Subps = (codes "subps", role.Load, size.Bytes16)
xmm_traits Subpd = (codes "subpd", role.Load, size.Bytes16)
xmm_traits Subss = (codes "subss", role.Load, size.Bytes4)
xmm_traits Subsd = (codes "subsd", role.Load, size.Bytes8)
xmm_traits Minps = (codes "minps", role.Load, size.Bytes16)
xmm_traits Minpd = (codes "minpd", role.Load, size.Bytes16)
xmm_traits Minss = (codes "minss", role.Load, size.Bytes4)
xmm_traits Minsd = (codes "minsd", role.Load, size.Bytes8)
xmm_traits Divps = (codes "divps", role.Load, size.Bytes16)
xmm_traits Divpd = (codes "divpd", role.Load, size.Bytes16)
xmm_traits Divss = (codes "divss", role.Load, size.Bytes4)
xmm_traits Divsd = (codes "divsd", role.Load, size.Bytes8)
xmm_traits Maxps = (codes "maxps", role.Load, size.Bytes16)
xmm_traits Maxpd = (codes "maxpd", role.Load, size.Bytes16)
xmm_traits Maxss = (codes "maxss", role.Load, size.Bytes4)
xmm_traits Maxsd = (codes "maxsd", role.Load, size.Bytes8)
xmm_traits Andps = (codes "andps", role.Load, size.Bytes16)
xmm_traits Andpd = (codes "andpd", role.Load, size.Bytes16)
xmm_traits Andnps = (codes "andnps", role.Load, size.Bytes16)
xmm_traits Andnpd = (codes "andnpd", role.Load, size.Bytes16)
xmm_traits Orps = (codes "orps", role.Load, size.Bytes16)
xmm_traits Orpd = (codes "orpd", role.Load, size.Bytes16)
xmm_traits Xorps = (codes "xorps", role.Load, size.Bytes16)
xmm_traits Xorpd = (codes "xorpd", role.Load, size.Bytes16)
xmm_traits Cvtps2pd = (codes "cvtps2pd", role.Load, size.Bytes8)
xmm_traits Cvtpd2ps = (codes "cvtpd2ps", role.Load, size.Bytes16)
xmm_traits Cvtss2sd = (codes "cvtss2sd", role.Load, size.Bytes4)
xmm_traits Cvtsd2ss = (codes "cvtsd2ss", role.Load, size.Bytes8)
xmm_traits Cvtdq2ps = (codes "cvtdq2ps", role.Load, size.Bytes16)
xmm_traits Cvtps2dq = (codes "cvtps2dq", role.Load, size.Bytes16)
xmm_traits Cvttps2dq = (codes "cvttps2dq", role.Load, size.Bytes16)
xmm_traits Cvtsi2ss = (codes "cvtsi2ss", role.FromGeneral, size.ByWide)
xmm_traits Cvtsi2sd = (codes "cvtsi2sd", role.FromGeneral, size.ByWide)
xmm_traits Cvttss2si = (codes "cvttss2si", role.ToGeneral, size.Bytes4)
xmm_traits Cvttsd2si = (codes "cvttsd2si", role.ToGeneral, size.Bytes8)
xmm_traits Cvtss2si = (codes "cvtss2si", role.ToGeneral, size.Bytes4)
xmm_traits Cvtsd2si = (codes "cvtsd2si", role.ToGeneral, size.Bytes8)
xmm_traits Ucomiss = (codes "ucomiss", role.Compare, size.Bytes4)
xmm_traits Ucomisd = (codes "ucomisd", role.Compare, size.Bytes8)
xmm_traits Comiss = (codes "comiss", role.Compare, size.Bytes4)
xmm_traits Comisd = (codes "comisd", role.Compare, size.Bytes8)
xmm_traits Pxor = (codes "pxor", role.Load, size.Bytes16)
xmm_traits Roundss = (codes "roundss", role.Rounding, size.Bytes4)
xmm_traits Roundsd = (codes "roundsd", role.Rounding, size.Bytes8)

-- which operand is the destination and which are general registers
abbrev pub xmm_role : XmmRow → XmmRole
xmm_role row = (xmm_traits row).1

-- a move of 64 bits of a general register is movq
abbrev pub move_text : XmmRole → Bool → List ℕ → List ℕ
move_text role.MoveFromGeneral true name = codes "movq"
move_text role.MoveToGeneral true name = codes "movq"
move_text _ wide name = name

-- the mnemonic
abbrev pub xmm_text : XmmRow → Bool → List ℕ
xmm_text row wide = move_text (xmm_role row) wide (xmm_traits row).0

-- four bytes, or eight where the instruction is wide, which is that REX.W is set (SDM volume 2, 2.2.1.2)
abbrev pub size_by_wide : Bool → ℕ
size_by_wide true = 8
size_by_wide false = 4

abbrev pub bytes_of : XmmSize → Bool → ℕ
bytes_of size.Bytes4 wide = 4
bytes_of size.Bytes8 wide = 8
bytes_of size.Bytes16 wide = 16
bytes_of size.ByWide wide = size_by_wide wide

-- how many bytes the second operand has where it is memory
abbrev pub xmm_size : XmmRow → Bool → ℕ
xmm_size row wide = bytes_of (xmm_traits row).2 wide

abbrev pub is_store : XmmRole → Bool
is_store role.Store = true
is_store role.MoveToGeneral = true
is_store _ = false

-- whether the second operand is written; all other instructions read it
abbrev pub is_xmm_store : XmmRow → Bool
is_xmm_store row = is_store (xmm_role row)
