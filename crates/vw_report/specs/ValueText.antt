-- How values and places are printed. A text is the list of its bytes, all of them ASCII. Numbers are in decimal without
-- leading zeros, words in sixteen hexadecimal digits in lower case.
use Rattle.std.specs.Prelude.{ℕ, suc, ◌==◌, ℤ, pos, negsuc, if◌then◌else◌, Option, None, Some, List, [], ◌++◌, codes}
use Rattle.std.specs.Fmt.{decimal}
use Rattle.vw_bits.specs.Numerals.{hex_text}
use Rattle.vw_names.specs.declared.spot.Spot.{Spot}
use Rattle.vw_names.specs.declared.spot.Spot.TheVariants as spot
use Rattle.vw_values.specs.declared.value.Via.{Via}
use Rattle.vw_values.specs.declared.value.Via.TheVariants.{At, Idx}
use Rattle.vw_values.specs.declared.value.Value.{Value}
use Rattle.vw_values.specs.declared.value.Value.TheVariants.{Any, Num, Const, Below, Low, Both, HeapBase, HeapAddr, Globals, Entry, Image, Index16, EntryPtr, EntryTyped, TagOf, TableFn, JumpOff, JumpDest}

-- a number with its sign, which is there for 0 too
abbrev pub signed_text : ℤ → List ℕ
signed_text (pos n) = codes "+" ++ decimal n
signed_text (negsuc n) = codes "-" ++ decimal (suc n)

-- a word or an address
abbrev pub word_text : ℕ → List ℕ
word_text n = hex_text n 16

-- the name of register 0 to 15 (SDM volume 1, 3.4.1)
abbrev pub register_text : ℕ → List ℕ
register_text r =
    if r == 0 then codes "rax"
    else (if r == 1 then codes "rcx"
    else (if r == 2 then codes "rdx"
    else (if r == 3 then codes "rbx"
    else (if r == 4 then codes "rsp"
    else (if r == 5 then codes "rbp"
    else (if r == 6 then codes "rsi"
    else (if r == 7 then codes "rdi"
    else (if r == 8 then codes "r8"
    else (if r == 9 then codes "r9"
    else (if r == 10 then codes "r10"
    else (if r == 11 then codes "r11"
    else (if r == 12 then codes "r12"
    else (if r == 13 then codes "r13"
    else (if r == 14 then codes "r14" else codes "r15"))))))))))))))

-- whether the register holds the entry's address or the distance from the table's address, and the register
abbrev pub via_text : Via → List ℕ
via_text (At r) = codes "at:" ++ register_text r
via_text (Idx r) = codes "idx:" ++ register_text r

-- a table's number and a tag
abbrev pub tagged_text : ℕ → ℕ → List ℕ
tagged_text table tag = decimal table ++ (codes ":" ++ decimal tag)

-- the mark of an index, where it has one
abbrev pub mark_text : Option (ℕ × ℕ) → List ℕ
mark_text None = []
mark_text (Some mark) = codes ":" ++ tagged_text mark.0 mark.1

-- an address and how many entries follow it
abbrev pub jump_text : ℕ → ℕ → List ℕ
jump_text a k = word_text a ++ (codes ":" ++ decimal k)

abbrev pub value_text : Value → List ℕ
value_text Any = codes "any"
value_text Num = codes "num"
value_text (Const c) = codes "const:" ++ word_text c
value_text (Below k) = codes "below:" ++ decimal k
value_text (Low k) = codes "low:" ++ decimal k
value_text (Both k) = codes "both:" ++ decimal k
value_text HeapBase = codes "heapbase"
value_text HeapAddr = codes "heapaddr"
value_text Globals = codes "globals"
value_text (Entry r) = codes "entry:" ++ register_text r
value_text (Image a) = codes "image:" ++ word_text a
value_text (Index16 k mark) = codes "index:" ++ (decimal k ++ mark_text mark)
value_text (EntryPtr t) = codes "entryptr:" ++ decimal t
value_text (EntryTyped t g) = codes "entrytyped:" ++ tagged_text t g
value_text (TagOf t via) = codes "tag:" ++ (decimal t ++ (codes ":" ++ via_text via))
value_text (TableFn t g) = codes "tablefn:" ++ tagged_text t g
value_text (JumpOff a k) = codes "jumpoff:" ++ jump_text a k
value_text (JumpDest a k) = codes "jumpdest:" ++ jump_text a k

-- a register, the flags, or the slot at an offset
abbrev pub place_text : Spot → List ℕ
place_text (spot.Reg r) = register_text r
place_text spot.Flags = codes "flags"
place_text (spot.Slot o) = codes "s" ++ signed_text o
