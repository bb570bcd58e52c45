-- The fields of a file's header that the readers behind it take (System V gABI, "ELF Header").
use Rattle.std.specs.Prelude.{◌≡◌, ℕ, List}
use Rattle.vw_bits.specs.Headers.{e_phoff, e_phnum, e_shoff, e_shentsize, e_shnum}
use Rattle.vw_bits.specs.declared.headers.FileHeader.{FileHeader}

-- where the header tables of the file are, and how many items they have
pub record IsHeaderOf (bytes : List ℕ) (h : FileHeader) : Type 0 where
  pub phoff : h.e_phoff ≡ e_phoff bytes
  pub phnum : h.e_phnum ≡ e_phnum bytes
  pub shoff : h.e_shoff ≡ e_shoff bytes
  pub shentsize : h.e_shentsize ≡ e_shentsize bytes
  pub shnum : h.e_shnum ≡ e_shnum bytes
