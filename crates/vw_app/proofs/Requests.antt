-- Words that name numbers behind a first word.
use Rattle.std.proofs.Common.{◌≡◌, ℕ, ◌^◌, ◌<◌, ◌≤◌, List, [], ◌∷◌, length, map, get_or, Option, Some, None, IfSome, refl, ◌∙◌, ap, arith}
use Rattle.std.specs.Fmt.{decimal}
use Rattle.vw_app.specs.Answer.{AsksNumbers}

three_items : {A : Type 0} (xs : List A) (a b c : A) → length xs ≡ 3 → a ≡ get_or xs 0 a → b ≡ get_or xs 1 b → c ≡ get_or xs 2 c → xs ≡ a ∷ b ∷ c ∷ []
three_items [] a b c three p q r = absurd (omega arith)
three_items (x ∷ []) a b c three p q r = absurd (omega arith)
three_items (x ∷ y ∷ []) a b c three p q r = absurd (omega arith)
three_items (x ∷ y ∷ z ∷ []) a b c three p q r = cc
three_items (x ∷ y ∷ z ∷ w ∷ more) a b c three p q r = absurd (omega arith)

-- a number of functions and a number, by their digits
abbrev pub AreNumbers : List ℕ → List ℕ → ℕ × ℕ → Type 0
AreNumbers functions number n = (functions ≡ decimal n.0) × (1 ≤ n.0) × (n.0 ≤ 65536) × (number ≡ decimal n.1) × (n.1 < 2 ^ 64)

module _ {A : Type 0} (bytes : A → List ℕ) (words : List A) (first : List ℕ) where
  -- three words, of which the first is this one
  pub numbers_asked : (a b c : A) (found : Option (ℕ × ℕ)) → length words ≡ 3 → a ≡ get_or words 0 a → b ≡ get_or words 1 b → c ≡ get_or words 2 c → bytes a ≡ first
      → IfSome found (λ n. AreNumbers (bytes b) (bytes c) n) → IfSome found (λ n. AsksNumbers first (map bytes words) n.0 n.1)
  numbers_asked a b c None three p q r one are = tt
  numbers_asked a b c (Some n) three p q r one are =
      let words_are : map bytes words ≡ bytes a ∷ bytes b ∷ bytes c ∷ [] = ap (λ (xs : List A). map bytes xs) (three_items words a b c three p q r) in
      (words_are ∙ rw (one, are.0, are.3) refl, are.1, are.2, are.4)

  -- the first word is another
  pub another_word : (a : A) (functions number : ℕ) → a ≡ get_or words 0 a → 1 ≤ length words → (bytes a ≡ first → ⊥) → AsksNumbers first (map bytes words) functions number → ⊥
  another_word a functions number p some differs asks = differs (first_is words p some (ap (λ (l : List (List ℕ)). get_or l 0 []) asks.0))
    where
      first_is : (xs : List A) → a ≡ get_or xs 0 a → 1 ≤ length xs → get_or (map bytes xs) 0 [] ≡ first → bytes a ≡ first
      first_is [] p some is = absurd (omega arith)
      first_is (x ∷ xs) p some is = ap bytes p ∙ is
