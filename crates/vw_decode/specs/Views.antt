-- What was read, without where its bytes lie in memory.
use Rattle.vw_rows.specs.Views.{parts_view}
use Rattle.vw_decode.specs.declared.head.Head as code_head
use Rattle.vw_decode.specs.declared.tail.Found as code_found
use Rattle.vw_decode.specs.Lexing.{Head, Found}

abbrev pub head_view : code_head.Head → Head
head_view h = record { prefix = h.prefix; rex = h.rex; map = h.map; opcode = h.opcode; rest = h.rest.now }

abbrev pub found_view : code_found.Found → Found
found_view f = record { row = f.row; width = f.width; parts = parts_view f.parts; rest = f.rest.now }
