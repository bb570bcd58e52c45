-- The parts of an instruction, without where their bytes lie in memory.
use Rattle.std.specs.Prelude.{Option, None, Some}
use Rattle.vw_rows.specs.declared.parts.Modrm as code_modrm
use Rattle.vw_rows.specs.declared.parts.Parts as code_parts
use Rattle.vw_rows.specs.Parts.{Modrm, Parts}

abbrev pub modrm_view : code_modrm.Modrm → Modrm
modrm_view m = record { byte = m.byte; sib = m.sib; disp = m.disp.now }

abbrev pub optional_view : Option code_modrm.Modrm → Option Modrm
optional_view None = None
optional_view (Some m) = Some (modrm_view m)

abbrev pub parts_view : code_parts.Parts → Parts
parts_view p = record {
  prefix = p.prefix;
  rex = p.rex;
  map = p.map;
  opcode = p.opcode;
  modrm = optional_view p.modrm;
  imm = p.imm.now;
}
