-- What proofs carry from statement to statement: the state stands, and the activation wrote only its frame.
use Rattle.std.proofs.Common.{◌≡◌, List, ℕ, ◌+◌, ◌^◌, ◌<◌, ◌≤◌}
use Rattle.std.specs.Prelude.{true, ℤ, pos, ◌<ℤ◌}
use Rattle.vw_insn.specs.Words.{Flags as StatusFlags}
use Rattle.vw_names.specs.declared.spot.Spot.{Spot as Place}
use Rattle.vw_values.specs.Stands.{Stands}
use Rattle.vw_domain.specs.Abstract.{Abstract}
use Rattle.vw_domain.specs.Stands.{Machine, StandsWith, WritesItsFrame, content, at_offset, OffsetStands, FactStands, Apart}
use Rattle.vw_domain.specs.FormRanges.{IsForm}

pub record Standing (st : Abstract) (top : Machine) (held : ℕ → ℕ) (flags : StatusFlags) (bytes : ℕ → ℕ) (compared : ℕ) : Type 0 where
  pub low_end : top.stack_start ≤ top.entry_rsp
  pub high_end : top.entry_rsp + 4104 ≤ top.stack_end
  pub depth : top.stack_start + st.probed ≤ top.entry_rsp
  pub offsets : (r : ℕ) → OffsetStands top.entry_rsp (st.offsets r) (held r)
  pub values : (p : Place) → Stands top.instance held (st.values p) (content top.entry_rsp st.sizes held bytes compared p)
  pub classes : (p q : Place) → st.same p q ≡ true → content top.entry_rsp st.sizes held bytes compared p ≡ content top.entry_rsp st.sizes held bytes compared q
  pub inside : (a : ℕ) → top.is_written a ≡ true → (top.stack_start ≤ a) × (a < top.entry_rsp)
  pub written : (c : ℤ) → st.written c ≡ true → (c <ℤ pos 0) × (top.is_written (at_offset top.entry_rsp c) ≡ true)
  pub word : compared < 2 ^ 64
  pub facts : FactStands st.fact compared flags
  pub kinds : Apart st.values st.same

-- the machine with these registers, flags and bytes
abbrev pub machine : Machine → (ℕ → ℕ) → StatusFlags → (ℕ → ℕ) → Machine
machine top held flags bytes = record top { registers = held; flags = flags; byte = bytes }

pub standing_of : (bounds : List ℕ) (st : Abstract) (top : Machine) (held : ℕ → ℕ) (flags : StatusFlags) (bytes : ℕ → ℕ) (compared : ℕ)
    → IsForm bounds st → WritesItsFrame top → StandsWith st (machine top held flags bytes) compared → Standing st top held flags bytes compared
standing_of bounds st top held flags bytes compared form frame h =
    record {
      low_end = h.start;
      high_end = h.end;
      depth = h.depth;
      offsets = h.offsets;
      values = h.values;
      classes = h.classes;
      inside = frame;
      written = λ c e. (form.written c e, h.written c e);
      word = h.word;
      facts = h.fact;
      kinds = h.kinds;
    }

pub stands_of : (st : Abstract) (top : Machine) (held : ℕ → ℕ) (flags : StatusFlags) (bytes : ℕ → ℕ) (compared : ℕ)
    → Standing st top held flags bytes compared → StandsWith st (machine top held flags bytes) compared
stands_of st top held flags bytes compared h =
    record {
      start = h.low_end;
      end = h.high_end;
      depth = h.depth;
      offsets = h.offsets;
      written = λ c e. (h.written c e).1;
      values = h.values;
      classes = h.classes;
      word = h.word;
      fact = h.facts;
      kinds = h.kinds;
    }
