-- The checks of accesses, by number: 3, depth; 4, address; 5, read only; and 6, local. Each fails where its condition does not
-- hold of what the state knows.
use Rattle.std.specs.Prelude.{◌≡◌, ◌⊎◌, ℕ, pos, ◌-ℤ◌, Bool, true, false}
use Rattle.vw_stack.specs.declared.offset.Offset.{Offset}
use Rattle.vw_stack.specs.declared.offset.Offset.TheVariants as offset
use Rattle.vw_domain.specs.Abstract.{Abstract}
use Rattle.vw_domain.specs.Addresses.{Address, Frame}
use Rattle.vw_domain.specs.Checks.{BeginsInStack, ReadsInside, WritesInside, WritesOwn, ReadsKnown}
use Rattle.vw_domain.specs.Sites.{Site}

-- A read of n bytes. Check 4: not all are in the heap, its word of the globals' address, the globals, readable bytes of the
-- image, or an entry of a table, or nothing is known of the address. Check 6: they are of the frame, and neither all
-- written nor all among the caller's next to the return address.
abbrev pub ReadFails : Site → Abstract → Address → ℕ → ℕ → Type 0
ReadFails site st a n number =
    ((number ≡ 4) × (ReadsInside site a n → ⊥)) ⊎ ((number ≡ 6) × (ReadsKnown st a n → ⊥))

-- A write of n bytes. Check 3: it is of the frame and begins below the probed part of the stack and the guard. Check 4: it
-- is not all in the heap or the globals, or nothing is known of the address. Check 5: it is of the frame and ends above
-- it, or it is of the image or a table.
abbrev pub WriteFails : Abstract → Address → ℕ → ℕ → Type 0
WriteFails st a n number =
    ((number ≡ 3) × (BeginsInStack st a → ⊥)) ⊎ ((number ≡ 4) × (WritesInside a n → ⊥)) ⊎ ((number ≡ 5) × (WritesOwn a n → ⊥))

-- an access for an XMM register, which writes or reads
abbrev pub TouchFails : Site → Abstract → Bool → Address → ℕ → ℕ → Type 0
TouchFails site st true a n number = WriteFails st a n number
TouchFails site st false a n number = ReadFails site st a n number

-- The push of a call, which writes 8 bytes below rsp: it is a write of the frame, and check 3 fails too where the offset
-- of rsp is not known.
abbrev pub PushFailsAt : Abstract → Offset → ℕ → Type 0
PushFailsAt st offset.Unknown number = number ≡ 3
PushFailsAt st (offset.Known c) number = WriteFails st (Frame (c -ℤ pos 8)) 8 number

abbrev pub PushFails : Abstract → ℕ → Type 0
PushFails st number = PushFailsAt st (st.offsets 4) number
