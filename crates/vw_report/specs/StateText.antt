-- How the parts of a state are printed: its fields, each with one space before it.
use Rattle.std.specs.Prelude.{ℕ, ℤ, map, Option, None, Some, List, [], ◌∷◌, ◌++◌, codes}
use Rattle.std.specs.List.{flat_map}
use Rattle.std.specs.Fmt.{decimal}
use Rattle.vw_names.specs.declared.spot.Spot.{Spot}
use Rattle.vw_values.specs.declared.value.Value.{Value}
use Rattle.vw_values.specs.declared.value.Value.TheVariants.{Any}
use Rattle.vw_domain.specs.declared.parts.Fact.{Fact}
use Rattle.vw_domain.specs.declared.parts.Fact.TheVariants as fact
use Rattle.vw_domain.specs.declared.state_parts.Slot.{Slot}
use Rattle.vw_domain.specs.declared.state_parts.StateParts.{StateParts}
use Rattle.vw_report.specs.ValueText.{signed_text, register_text, value_text, place_text}

-- the registers of the processor, by their numbers
abbrev pub registers : List ℕ
registers = 0 ∷ 1 ∷ 2 ∷ 3 ∷ 4 ∷ 5 ∷ 6 ∷ 7 ∷ 8 ∷ 9 ∷ 10 ∷ 11 ∷ 12 ∷ 13 ∷ 14 ∷ 15 ∷ []

-- what stands before the offset, or the value, of a register: a letter and its name
abbrev pub register_mark : ℕ → ℕ → List ℕ
register_mark letter r = 32 ∷ letter ∷ (register_text r ++ codes "=")

-- what is known, behind its mark
abbrev pub known_text : {A : Type 0} → (A → List ℕ) → List ℕ → Option A → List ℕ
known_text text mark None = []
known_text text mark (Some x) = mark ++ text x

-- what is known of each register
abbrev pub registers_text : {A : Type 0} → (A → List ℕ) → List (List ℕ) → List (Option A) → List ℕ
registers_text text [] known = []
registers_text text (mark ∷ marks) [] = []
registers_text text (mark ∷ marks) (x ∷ known) = known_text text mark x ++ registers_text text marks known

-- the known offsets, behind the letter o
abbrev pub offsets_text : List (Option ℤ) → List ℕ
offsets_text offsets = registers_text signed_text (map (register_mark 111) registers) offsets

-- a value other than any
abbrev pub known_value : Value → Option Value
known_value Any = None
known_value v = Some v

-- the values other than any, behind the letter v
abbrev pub values_text : List Value → List ℕ
values_text values = registers_text value_text (map (register_mark 118) registers) (map known_value values)

-- a slot: its offset, its size and its value
abbrev pub slot_text : Slot → List ℕ
slot_text slot = signed_text slot.offset ++ ((codes "/" ++ (decimal slot.size ++ codes "=")) ++ value_text slot.value)

abbrev pub slots_text : List Slot → List ℕ
slots_text slots = flat_map (λ slot. codes " s" ++ slot_text slot) slots

-- the places of a class in their order
abbrev pub class_text : List Spot → List ℕ
class_text [] = []
class_text (first ∷ others) = place_text first ++ flat_map (λ place. codes "=" ++ place_text place) others

abbrev pub classes_text : List (List Spot) → List ℕ
classes_text classes = flat_map (λ class. codes " e" ++ class_text class) classes

-- the width of the comparison and the number compared with
abbrev pub fact_text : Fact → List ℕ
fact_text fact.Unknown = []
fact_text (fact.Compare w k) = codes " f" ++ ((decimal w ++ codes ":") ++ decimal k)

-- a range of written bytes: its first offset and its last
abbrev pub range_text : ℤ × ℤ → List ℕ
range_text range = signed_text range.0 ++ (codes ":" ++ signed_text range.1)

abbrev pub written_text : List (ℤ × ℤ) → List ℕ
written_text ranges = flat_map (λ range. codes " w" ++ range_text range) ranges

unfoldable pub state_text : StateParts → List ℕ
state_text p =
    codes " p" ++ (decimal p.probed ++ (offsets_text p.offsets ++ (values_text p.values ++ (slots_text p.slots ++ (classes_text p.classes
    ++ (fact_text p.fact ++ written_text p.written))))))
