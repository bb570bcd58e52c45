-- A grammar is made of items. An item is a kind of thing with a text: which things it describes, the one text of each, what
-- may stand behind it, and what is read off the front of bytes.
use Rattle.std.specs.Prelude.{◌≡◌, ℕ, zero, suc, length, ◌==◌, Bool, if◌then◌else◌, IsTrue, List, [], ◌∷◌, ◌++◌, Option, Some, None, Result, Ok, Err}
use Rattle.vw_report.specs.declared.fail.Fail.{Fail}
use Rattle.vw_report.specs.declared.fail.Fail.TheVariants.{Memory, Bad}
use Rattle.std.specs.List.{flat_map}
use Rattle.vw_report.specs.StateText.{known_text, registers_text}

infixl 10 ◌>>=◌
abbrev pub ◌>>=◌ : {A B : Type 0} → Option A → (A → Option B) → Option B
None >>= f = None
(Some x) >>= f = f x

pub record Item (A : Type 0) : Type 1 where
  pub Is : A → Type 0
  pub text : A → List ℕ
  -- what may stand after it
  pub Ends : List ℕ → Type 0
  pub read : List ℕ → Option (A × List ℕ)

abbrev pub Anything : List ℕ → Type 0
Anything rest = Unit {0}

-- what stands after the literal, where the bytes begin with it
abbrev pub after : List ℕ → List ℕ → Option (List ℕ)
after [] bytes = Some bytes
after (c ∷ cs) [] = None
after (c ∷ cs) (b ∷ bs) = if b == c then after cs bs else None

-- a literal before an item
abbrev pub marked : {A : Type 0} → List ℕ → Item A → Item A
marked s i = record { Is = i.Is; text = λ a. s ++ i.text a; Ends = i.Ends; read = λ bytes. after s bytes >>= i.read }

abbrev pub read_closed : {A : Type 0} → List ℕ → A × List ℕ → Option (A × List ℕ)
read_closed s x = after s x.1 >>= λ rest. Some (x.0, rest)

-- a literal after an item
abbrev pub closed : {A : Type 0} → List ℕ → Item A → Item A
closed s i = record { Is = i.Is; text = λ a. i.text a ++ s; Ends = Anything; read = λ bytes. i.read bytes >>= read_closed s }

abbrev pub read_second : {A B : Type 0} → List ℕ → Item B → A × List ℕ → Option ((A × B) × List ℕ)
read_second s j x = after s x.1 >>= λ rest. j.read rest >>= λ y. Some ((x.0, y.0), y.1)

-- two items with a literal between them
abbrev pub pair : {A B : Type 0} → List ℕ → Item A → Item B → Item (A × B)
pair s i j = record { Is = λ x. i.Is x.0 × j.Is x.1; text = λ x. i.text x.0 ++ (s ++ j.text x.1); Ends = j.Ends; read = λ bytes. i.read bytes >>= read_second s j }

-- an item seen as another type
abbrev pub seen : {A B : Type 0} → (A → B) → (B → A) → (B → Type 0) → Item A → Item B
seen to from When i = record { Is = λ b. When b × i.Is (from b); text = λ b. i.text (from b); Ends = i.Ends; read = λ bytes. i.read bytes >>= λ x. Some (to x.0, x.1) }

abbrev pub read_tested : {A : Type 0} → (A → Bool) → A × List ℕ → Option (A × List ℕ)
read_tested test x = if test x.0 then Some x else None

-- an item that passes a test
abbrev pub tested : {A : Type 0} → (A → Bool) → Item A → Item A
tested test i = record { Is = λ a. i.Is a × IsTrue (test a); text = i.text; Ends = i.Ends; read = λ bytes. i.read bytes >>= read_tested test }

-- the same with its text said in other words
abbrev pub printed : {A : Type 0} → (A → List ℕ) → Item A → Item A
printed text i = record { Is = i.Is; text = text; Ends = i.Ends; read = i.read }

abbrev pub or_word : {K : Type 0} → K → Option (K × List ℕ) → Option (List ℕ) → Option (K × List ℕ)
or_word k others None = others
or_word k others (Some rest) = Some (k, rest)

-- one of some words
abbrev pub first_word : {K : Type 0} → List K → (K → List ℕ) → List ℕ → Option (K × List ℕ)
first_word [] name bytes = None
first_word (k ∷ ks) name bytes = or_word k (first_word ks name bytes) (after (name k) bytes)

abbrev pub read_as : {K A : Type 0} → (K → Item A) → K × List ℕ → Option (A × List ℕ)
read_as args x = (args x.0).read x.1

-- a word that says which item comes
abbrev pub choice : {K A : Type 0} → List K → (K → List ℕ) → (A → K) → (K → Item A) → (List ℕ → Type 0) → Item A
choice ks name kind args ends = record { Is = λ a. (args (kind a)).Is a; text = λ a. name (kind a) ++ (args (kind a)).text a; Ends = ends; read = λ bytes. first_word ks name bytes >>= read_as args }

-- no text
abbrev pub nothing : {A : Type 0} → A → Item A
nothing a = record { Is = λ b. a ≡ b; text = λ b. []; Ends = Anything; read = λ bytes. Some (a, bytes) }

-- one of two words for two values
abbrev pub read_either : {A : Type 0} → List ℕ → List ℕ → A → A → List ℕ → Option (A × List ℕ)
read_either s t m n bytes = or_word m (after t bytes >>= λ rest. Some (n, rest)) (after s bytes)

abbrev pub either : {A : Type 0} → (A → Bool) → List ℕ → List ℕ → A → A → Item A
either is_first s t m n = record { Is = λ x. x ≡ (if is_first x then m else n); text = λ x. if is_first x then s else t; Ends = Anything; read = read_either s t m n }

-- an item or nothing
abbrev pub IsMaybe : {A : Type 0} → Item A → Option A → Type 0
IsMaybe i None = Unit {0}
IsMaybe i (Some a) = i.Is a

abbrev pub maybe_at : {A : Type 0} → Item A → List ℕ → Option (List ℕ) → Option (Option A × List ℕ)
maybe_at i bytes None = Some (None, bytes)
maybe_at i bytes (Some rest) = i.read rest >>= λ x. Some (Some x.0, x.1)

abbrev pub read_maybe : {A : Type 0} → List ℕ → Item A → List ℕ → Option (Option A × List ℕ)
read_maybe s i bytes = maybe_at i bytes (after s bytes)

abbrev pub maybe : {A : Type 0} → List ℕ → Item A → (List ℕ → Type 0) → Item (Option A)
maybe s i ends = record { Is = IsMaybe i; text = known_text i.text s; Ends = ends; read = read_maybe s i }

-- any number of items, each with the literal before it
abbrev pub AllAre : {A : Type 0} → Item A → List A → Type 0
AllAre i [] = Unit {0}
AllAre i (a ∷ others) = i.Is a × AllAre i others

abbrev pub with_first : {A : Type 0} → A → Option (List A × List ℕ) → Option (List A × List ℕ)
with_first a None = None
with_first a (Some y) = Some (a ∷ y.0, y.1)

abbrev pub many_at : {A : Type 0} → Item A → (List ℕ → Option (List A × List ℕ)) → List ℕ → Option (List ℕ) → Option (List A × List ℕ)
many_at i again bytes None = Some ([], bytes)
many_at i again bytes (Some rest) = i.read rest >>= λ x. with_first x.0 (again x.1)

abbrev pub read_many : {A : Type 0} → ℕ → List ℕ → Item A → List ℕ → Option (List A × List ℕ)
read_many zero s i bytes = Some ([], bytes)
read_many (suc n) s i bytes = many_at i (read_many n s i) bytes (after s bytes)

abbrev pub many : {A : Type 0} → List ℕ → Item A → (List ℕ → Type 0) → Item (List A)
many s i ends = record { Is = AllAre i; text = flat_map (λ a. s ++ i.text a); Ends = ends; read = λ bytes. read_many (length bytes) s i bytes }

-- an item or nothing for each of these literals
abbrev pub AreFields : {A : Type 0} → List (List ℕ) → Item A → List (Option A) → Type 0
AreFields [] i [] = Unit {0}
AreFields [] i (x ∷ xs) = ⊥
AreFields (m ∷ ms) i [] = ⊥
AreFields (m ∷ ms) i (x ∷ xs) = IsMaybe i x × AreFields ms i xs

abbrev pub read_fields : {A : Type 0} → List (List ℕ) → Item A → List ℕ → Option (List (Option A) × List ℕ)
read_fields [] i bytes = Some ([], bytes)
read_fields (m ∷ ms) i bytes = read_maybe m i bytes >>= λ x. with_first x.0 (read_fields ms i x.1)

abbrev pub fields : {A : Type 0} → List (List ℕ) → Item A → (List ℕ → Type 0) → Item (List (Option A))
fields ms i ends = record { Is = AreFields ms i; text = registers_text i.text ms; Ends = ends; read = read_fields ms i }

-- what a reader of the code answers is what the item reads
abbrev pub Reads : {X Y : Type 0} → (X → Y) → Option X → Option Y → Type 0
Reads view None read = read ≡ None
Reads view (Some x) read = read ≡ Some (view x)

abbrev pub Fails : {Y : Type 0} → Fail → Option Y → Type 0
Fails (Memory refused) read = Unit {0}
Fails Bad read = read ≡ None

-- the same for a reader that may run out of memory
abbrev pub Gives : {X Y : Type 0} → (X → Y) → Result X Fail → Option Y → Type 0
Gives view (Ok x) read = read ≡ Some (view x)
Gives view (Err e) read = Fails e read
