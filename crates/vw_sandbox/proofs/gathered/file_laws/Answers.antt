use Rattle.vw_sandbox.proofs.gathered.file_laws.Goals as goal

pub returns : goal.returns
returns c =
    record {
      code = c.functions_are_code.ensures;
      settled = c.code_is_settled.ensures;
      lent = c.file_bytes_are_memory.ensures;
      bounded = c.segments_are_bounded.ensures;
      sized = c.code_has_its_size.ensures;
    }
