-- Sizes with which no sum of them passes 64 bits.
use Rattle.std.specs.Prelude.{◌^◌, ◌<◌}
use Rattle.vw_make.specs.declared.sizes.Sizes.{Sizes}

pub record AreSmall (size : Sizes) : Type 0 where
  pub imports : size.imports < 2 ^ 32
  pub dynamic_strings : size.dynamic_strings < 2 ^ 32
  pub relocations : size.relocations < 2 ^ 32
  pub functions : size.functions < 2 ^ 32
  pub tables : size.tables < 2 ^ 32
  pub entries : size.entries < 2 ^ 32
  pub content : size.content < 2 ^ 32
  pub symbols : size.symbols < 2 ^ 32
  pub strings : size.strings < 2 ^ 32
