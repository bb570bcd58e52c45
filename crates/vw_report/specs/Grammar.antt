-- The grammar of a report's lines: each item with its text and with what is read of it.
use Rattle.std.specs.Prelude.{◌≡◌, ℕ, zero, suc, ◌^◌, ◌<◌, ◌≤◌, ◌==◌, nat_lt, nat_le, Bool, true, false, ◌&&◌, ◌||◌, if◌then◌else◌, List, [], ◌∷◌, ◌++◌, map, codes, Option, Some, None, ℤ, pos, negsuc}
use Rattle.std.specs.Fmt.{decimal}
use Rattle.vw_names.specs.declared.spot.Spot.{Spot}
use Rattle.vw_names.specs.declared.spot.Spot.TheVariants as spots
use Rattle.vw_values.specs.declared.value.Via.{Via}
use Rattle.vw_values.specs.declared.value.Via.TheVariants.{At, Idx}
use Rattle.vw_values.specs.declared.value.Value.{Value}
use Rattle.vw_values.specs.declared.value.Value.TheVariants.{Any, Num, Const, Below, Low, Both, HeapBase, HeapAddr, Globals, Entry, Image, Index16, EntryPtr, EntryTyped, TagOf, TableFn, JumpOff, JumpDest}
use Rattle.vw_domain.specs.declared.state_parts.Slot.{Slot}
use Rattle.vw_domain.specs.declared.state_parts.StateParts.{StateParts}
use Rattle.vw_domain.specs.declared.parts.Fact.{Fact}
use Rattle.vw_domain.specs.declared.parts.Fact.TheVariants.{Unknown, Compare}
use Rattle.vw_report.specs.declared.kinds.Kind.{Kind}
use Rattle.vw_report.specs.declared.kinds.Kind.TheVariants as kinds
use Rattle.vw_report.specs.ValueText.{signed_text, register_text, via_text, value_text, place_text}
use Rattle.vw_report.specs.StateText.{registers, register_mark, known_value, class_text, fact_text}
use Rattle.vw_report.specs.Lines.{ListedPoint}
use Rattle.vw_report.specs.Items.{Item, ◌>>=◌, Anything, marked, closed, pair, seen, tested, printed, first_word, choice, nothing, either, maybe, many, fields}
use Rattle.vw_report.specs.NumberItems.{number, digits_of_hex}

-- ---- what stands after a field: a newline, or a space and one of these letters
abbrev pub is_among : ℕ → List ℕ → Bool
is_among c [] = false
is_among c (d ∷ ds) = c == d || is_among c ds

abbrev pub follows : List ℕ → List ℕ → Bool
follows letters [] = false
follows letters (b ∷ []) = b == 10
follows letters (b ∷ c ∷ rest) = b == 10 || (b == 32 && is_among c letters)

abbrev pub Follows : List ℕ → List ℕ → Type 0
Follows letters rest = follows letters rest ≡ true

-- what may end a number: a space, an equals sign, a slash, a colon or a newline
abbrev pub is_stop : ℕ → Bool
is_stop b = b == 32 || (b == 61 || (b == 47 || (b == 58 || b == 10)))

abbrev pub Stops : List ℕ → Type 0
Stops [] = ⊥
Stops (b ∷ rest) = is_stop b ≡ true

-- what may end a value: a space or a newline
abbrev pub is_break : ℕ → Bool
is_break b = b == 32 || b == 10

abbrev pub Breaks : List ℕ → Type 0
Breaks [] = ⊥
Breaks (b ∷ rest) = is_break b ≡ true

-- ---- numbers with a sign, of at most 2 ^ 32
unfoldable pub magnitude : Item ℕ
magnitude = tested (λ n. nat_le n (2 ^ 32)) number

abbrev pub IsOffset : ℤ → Type 0
IsOffset (pos n) = n ≤ 2 ^ 32
IsOffset (negsuc n) = suc n ≤ 2 ^ 32

abbrev pub plus : ℕ × List ℕ → Option (ℤ × List ℕ)
plus x = Some (pos x.0, x.1)

-- there is no -0
abbrev pub minus_at : ℕ → List ℕ → Option (ℤ × List ℕ)
minus_at zero rest = None
minus_at (suc n) rest = Some (negsuc n, rest)

abbrev pub minus : ℕ × List ℕ → Option (ℤ × List ℕ)
minus x = minus_at x.0 x.1

abbrev pub read_signed : List ℕ → Option (ℤ × List ℕ)
read_signed [] = None
read_signed (b ∷ bs) = if b == 43 then magnitude.read bs >>= plus else (if b == 45 then magnitude.read bs >>= minus else None)

unfoldable pub signed : Item ℤ
signed = record { Is = IsOffset; text = signed_text; Ends = Stops; read = read_signed }

-- ---- registers
unfoldable pub register : Item ℕ
register = record { Is = λ r. r < 16; text = register_text; Ends = Anything; read = first_word registers register_text }

-- ---- values
abbrev pub kind_name : Kind → List ℕ
kind_name kinds.Any = codes "any"
kind_name kinds.Num = codes "num"
kind_name kinds.Const = codes "const:"
kind_name kinds.Below = codes "below:"
kind_name kinds.Low = codes "low:"
kind_name kinds.Both = codes "both:"
kind_name kinds.HeapBase = codes "heapbase"
kind_name kinds.HeapAddr = codes "heapaddr"
kind_name kinds.Globals = codes "globals"
kind_name kinds.Entry = codes "entry:"
kind_name kinds.Image = codes "image:"
kind_name kinds.Index16 = codes "index:"
kind_name kinds.EntryPtr = codes "entryptr:"
kind_name kinds.EntryTyped = codes "entrytyped:"
kind_name kinds.TagOf = codes "tag:"
kind_name kinds.TableFn = codes "tablefn:"
kind_name kinds.JumpOff = codes "jumpoff:"
kind_name kinds.JumpDest = codes "jumpdest:"

abbrev pub kind_of : Value → Kind
kind_of Any = kinds.Any
kind_of Num = kinds.Num
kind_of (Const c) = kinds.Const
kind_of (Below k) = kinds.Below
kind_of (Low k) = kinds.Low
kind_of (Both k) = kinds.Both
kind_of HeapBase = kinds.HeapBase
kind_of HeapAddr = kinds.HeapAddr
kind_of Globals = kinds.Globals
kind_of (Entry r) = kinds.Entry
kind_of (Image a) = kinds.Image
kind_of (Index16 k mark) = kinds.Index16
kind_of (EntryPtr t) = kinds.EntryPtr
kind_of (EntryTyped t g) = kinds.EntryTyped
kind_of (TagOf t via) = kinds.TagOf
kind_of (TableFn t g) = kinds.TableFn
kind_of (JumpOff a k) = kinds.JumpOff
kind_of (JumpDest a k) = kinds.JumpDest

abbrev pub all_kinds : List Kind
all_kinds = kinds.Any ∷ kinds.Num ∷ kinds.Const ∷ kinds.Below ∷ kinds.Low ∷ kinds.Both ∷ kinds.HeapBase ∷ kinds.HeapAddr ∷ kinds.Globals ∷ kinds.Entry ∷ kinds.Image ∷ kinds.Index16 ∷ kinds.EntryPtr ∷ kinds.EntryTyped ∷ kinds.TagOf ∷ kinds.TableFn ∷ kinds.JumpOff ∷ kinds.JumpDest ∷ []

-- the numbers in a value
abbrev pub first : Value → ℕ
first (Const c) = c
first (Below k) = k
first (Low k) = k
first (Both k) = k
first (Entry r) = r
first (Image a) = a
first (EntryPtr t) = t
first _ = 0

abbrev pub two : Value → ℕ × ℕ
two (EntryTyped t g) = (t, g)
two (TableFn t g) = (t, g)
two (JumpOff a k) = (a, k)
two (JumpDest a k) = (a, k)
two _ = (0, 0)

abbrev pub index_parts : Value → ℕ × Option (ℕ × ℕ)
index_parts (Index16 k mark) = (k, mark)
index_parts _ = (0, None)

abbrev pub tag_parts : Value → ℕ × Via
tag_parts (TagOf t via) = (t, via)
tag_parts _ = (0, At 0)

abbrev pub IsKind : Kind → Value → Type 0
IsKind k v = kind_of v ≡ k

unfoldable pub table : Item ℕ
table = tested (λ n. nat_lt n (2 ^ 32)) number

unfoldable pub hex16 : Item ℕ
hex16 = digits_of_hex 16

unfoldable pub hex8 : Item ℕ
hex8 = digits_of_hex 8

abbrev pub is_at : Via → Bool
is_at (At r) = true
is_at (Idx r) = false

abbrev pub via_register : Via → ℕ
via_register (At r) = r
via_register (Idx r) = r

abbrev pub via_name : Bool → List ℕ
via_name true = codes "at:"
via_name false = codes "idx:"

abbrev pub via_args : Bool → Item Via
via_args true = seen At via_register (λ v. is_at v ≡ true) register
via_args false = seen Idx via_register (λ v. is_at v ≡ false) register

unfoldable pub via : Item Via
via = printed via_text (choice (true ∷ false ∷ []) via_name is_at via_args Anything)

abbrev pub colon : List ℕ
colon = codes ":"

unfoldable pub mark : Item (ℕ × ℕ)
mark = pair colon table number

abbrev pub value_args : Kind → Item Value
value_args kinds.Any = nothing Any
value_args kinds.Num = nothing Num
value_args kinds.Const = seen Const first (IsKind kinds.Const) hex16
value_args kinds.Below = seen Below first (IsKind kinds.Below) number
value_args kinds.Low = seen Low first (IsKind kinds.Low) number
value_args kinds.Both = seen Both first (IsKind kinds.Both) number
value_args kinds.HeapBase = nothing HeapBase
value_args kinds.HeapAddr = nothing HeapAddr
value_args kinds.Globals = nothing Globals
value_args kinds.Entry = seen Entry first (IsKind kinds.Entry) register
value_args kinds.Image = seen Image first (IsKind kinds.Image) hex16
value_args kinds.Index16 = seen (λ x. Index16 x.0 x.1) index_parts (IsKind kinds.Index16) (pair [] number (maybe colon mark Breaks))
value_args kinds.EntryPtr = seen EntryPtr first (IsKind kinds.EntryPtr) table
value_args kinds.EntryTyped = seen (λ x. EntryTyped x.0 x.1) two (IsKind kinds.EntryTyped) (pair colon table number)
value_args kinds.TagOf = seen (λ x. TagOf x.0 x.1) tag_parts (IsKind kinds.TagOf) (pair colon table via)
value_args kinds.TableFn = seen (λ x. TableFn x.0 x.1) two (IsKind kinds.TableFn) (pair colon table number)
value_args kinds.JumpOff = seen (λ x. JumpOff x.0 x.1) two (IsKind kinds.JumpOff) (pair colon hex16 number)
value_args kinds.JumpDest = seen (λ x. JumpDest x.0 x.1) two (IsKind kinds.JumpDest) (pair colon hex16 number)

unfoldable pub value : Item Value
value = printed value_text (choice all_kinds kind_name kind_of value_args Breaks)

-- ---- places
pub data SpotKind : Type 0 where
  InFlags : SpotKind
  InFrame : SpotKind
  InRegister : SpotKind

abbrev pub spot_name : SpotKind → List ℕ
spot_name InFlags = codes "flags"
spot_name InFrame = codes "s"
spot_name InRegister = []

abbrev pub spot_kind : Spot → SpotKind
spot_kind (spots.Reg r) = InRegister
spot_kind spots.Flags = InFlags
spot_kind (spots.Slot o) = InFrame

abbrev pub spot_register : Spot → ℕ
spot_register (spots.Reg r) = r
spot_register _ = 0

abbrev pub spot_offset : Spot → ℤ
spot_offset (spots.Slot o) = o
spot_offset _ = pos 0

abbrev pub spot_args : SpotKind → Item Spot
spot_args InFlags = nothing spots.Flags
spot_args InFrame = seen spots.Slot spot_offset (λ x. spot_kind x ≡ InFrame) signed
spot_args InRegister = seen spots.Reg spot_register (λ x. spot_kind x ≡ InRegister) register

unfoldable pub place : Item Spot
place = printed place_text (choice (InFlags ∷ InFrame ∷ InRegister ∷ []) spot_name spot_kind spot_args Stops)

abbrev pub equals : List ℕ
equals = codes "="

-- a class: its places, with an equals sign between
abbrev pub class_of : Spot × List Spot → List Spot
class_of x = x.0 ∷ x.1

abbrev pub class_parts : List Spot → Spot × List Spot
class_parts [] = (spots.Flags, [])
class_parts (x ∷ xs) = (x, xs)

abbrev pub HasSpot : List Spot → Type 0
HasSpot [] = ⊥
HasSpot (x ∷ xs) = Unit {0}

unfoldable pub further : Item (List Spot)
further = many equals place Breaks

unfoldable pub class : Item (List Spot)
class = printed class_text (seen class_of class_parts HasSpot (pair [] place further))

-- ---- slots
unfoldable pub size : Item ℕ
size = printed (λ n. codes "/" ++ (decimal n ++ codes "=")) (either (λ n. n == 4) (codes "/4=") (codes "/8=") 4 8)

abbrev pub Always : {A : Type 0} → A → Type 0
Always a = Unit {0}

abbrev pub slot_of : ℤ × (ℕ × Value) → Slot
slot_of x = record { offset = x.0; size = x.1.0; value = x.1.1 }

abbrev pub slot_parts : Slot → ℤ × (ℕ × Value)
slot_parts s = (s.offset, (s.size, s.value))

unfoldable pub slot : Item Slot
slot = seen slot_of slot_parts Always (pair [] signed (pair [] size value))

-- ---- facts and ranges
unfoldable pub width : Item ℕ
width = printed (λ n. decimal n ++ codes ":") (either (λ n. n == 32) (codes "32:") (codes "64:") 32 64)

abbrev pub fact_of : Option (ℕ × ℕ) → Fact
fact_of None = Unknown
fact_of (Some x) = Compare x.0 x.1

abbrev pub fact_parts : Fact → Option (ℕ × ℕ)
fact_parts Unknown = None
fact_parts (Compare w k) = Some (w, k)

unfoldable pub compared : Item (ℕ × ℕ)
compared = pair [] width number

unfoldable pub fact : Item Fact
fact = printed fact_text (seen fact_of fact_parts Always (maybe (codes " f") compared (Follows (codes "w"))))

unfoldable pub range : Item (ℤ × ℤ)
range = pair colon signed signed

-- ---- a state's fields
unfoldable pub written : Item (List (ℤ × ℤ))
written = many (codes " w") range (Follows [])

unfoldable pub classes : Item (List (List Spot))
classes = many (codes " e") class (Follows (codes "fw"))

unfoldable pub slots : Item (List Slot)
slots = many (codes " s") slot (Follows (codes "efw"))

abbrev pub is_known : Value → Bool
is_known Any = false
is_known _ = true

abbrev pub or_any : Option Value → Value
or_any None = Any
or_any (Some v) = v

-- a register whose field is not there has any value
abbrev pub value_or_any : Option (Option Value × List ℕ) → Option (Value × List ℕ)
value_or_any None = None
value_or_any (Some x) = Some (or_any x.0, x.1)

unfoldable pub shown_value : Item Value
shown_value = tested is_known value

unfoldable pub values : Item (List Value)
values = seen (map or_any) (map known_value) Always (fields (map (register_mark 118) registers) shown_value (Follows (codes "sefw")))

unfoldable pub offsets : Item (List (Option ℤ))
offsets = fields (map (register_mark 111) registers) signed (Follows (codes "vsefw"))

-- ---- a point's line
unfoldable pub after_slots : Item (List (List Spot) × (Fact × List (ℤ × ℤ)))
after_slots = pair [] classes (pair [] fact written)

unfoldable pub after_probed : Item (List (Option ℤ) × (List Value × (List Slot × (List (List Spot) × (Fact × List (ℤ × ℤ))))))
after_probed = pair [] offsets (pair [] values (pair [] slots after_slots))

abbrev pub parts_of : ℕ × (List (Option ℤ) × (List Value × (List Slot × (List (List Spot) × (Fact × List (ℤ × ℤ)))))) → StateParts
parts_of x = record { probed = x.0; offsets = x.1.0; values = x.1.1.0; slots = x.1.1.1.0; classes = x.1.1.1.1.0; fact = x.1.1.1.1.1.0; written = x.1.1.1.1.1.1 }

abbrev pub of_parts : StateParts → ℕ × (List (Option ℤ) × (List Value × (List Slot × (List (List Spot) × (Fact × List (ℤ × ℤ))))))
of_parts s = (s.probed, (s.offsets, (s.values, (s.slots, (s.classes, (s.fact, s.written))))))

unfoldable pub parts : Item StateParts
parts = seen parts_of of_parts Always (pair [] number after_probed)

abbrev pub newline : List ℕ
newline = 10 ∷ []

abbrev pub point_of : ℕ × StateParts → ListedPoint
point_of x = record { at = x.0; parts = x.1 }

abbrev pub of_point : ListedPoint → ℕ × StateParts
of_point x = (x.at, x.parts)

unfoldable pub point : Item ListedPoint
point = seen point_of of_point Always (marked (codes "at ") (pair (codes " p") hex8 parts))

unfoldable pub point_item : Item ListedPoint
point_item = closed newline point

unfoldable pub entry : Item ℕ
entry = marked (codes "function ") hex16

unfoldable pub entry_item : Item ℕ
entry_item = closed newline entry
