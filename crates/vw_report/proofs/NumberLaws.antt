-- What is read of numbers is their text, and the text of a number is read again.
use Rattle.std.proofs.Common.{◌≡◌, ℕ, zero, suc, ◌+◌, ◌-◌, ◌*◌, ◌/◌, ◌%◌, ◌^◌, ◌<◌, ◌≤◌, Bool, true, false, cond, eqb, List, [], ◌∷◌, ◌++◌, length, Some, None, refl, sym, ap, subst, ◌∙◌, append_assoc, pow-suc, arith}
use Rattle.std.specs.Prelude.{◌==◌, nat_eq, nat_lt, nat_le, ◌&&◌}
use Rattle.std.specs.Fmt.{decimal}
use Rattle.std.proofs.lemmas.Fmt.{decimal_digit, decimal_step, decimal_by_steps}
use Rattle.std.proofs.lemmas.Bool.{eqb-true}
use Rattle.std.proofs.lemmas.Bool.Decides.{nat_tests}
use Rattle.std.proofs.lemmas.List.{append-nil}
use Rattle.vw_report.specs.NumberItems.{NoDigit, digits_of_hex, glyph, hex, is_digit, more_digits, nibble, number, read_hex, read_number}
use Rattle.vw_report.specs.Grammar.{hex8}
use Rattle.vw_report.proofs.HexText.{hex_text_is}
use Rattle.vw_report.proofs.ItemLaws.{IsPlain, Laws, plain_append, bind_some, guard_some, some_is}

-- a digit's number
digit_is : (b : ℕ) → is_digit b ≡ true → (48 ≤ b) × (b < 58)
digit_is b h = (grind (arith, nat_tests), grind (arith, nat_tests))

digit_test : (d : ℕ) → d < 10 → is_digit (48 + d) ≡ true
digit_test d h = grind (arith, nat_tests)

lt_test : (a b : ℕ) → a < b → nat_lt a b ≡ true
lt_test a b h = grind (arith, nat_tests)

test_lt : (a b : ℕ) → nat_lt a b ≡ true → a < b
test_lt a b h = grind (arith, nat_tests)

not_zero : (b : ℕ) → (b == 48) ≡ false → b ≡ 48 → ⊥
not_zero b h e = grind (arith, nat_tests)

is_zero : (b : ℕ) → (b == 48) ≡ true → b ≡ 48
is_zero b h = grind (arith, nat_tests)

-- one more digit
step_text : (n d : ℕ) → 0 < n → d < 10 → n * 10 + d < 2 ^ 64 → decimal (n * 10 + d) ≡ decimal n ++ ((48 + d) ∷ [])
step_text n d pos lt small =
    let q : (n * 10 + d) / 10 ≡ n = omega arith in
    let r : (n * 10 + d) % 10 ≡ d = omega arith in
    decimal_step (n * 10 + d) (omega arith) small ∙ ap (λ x. decimal x ++ ((48 + (n * 10 + d) % 10) ∷ [])) q ∙ ap (λ x. decimal n ++ ((48 + x) ∷ [])) r

more_takes : (bytes : List ℕ) (n m : ℕ) (rest : List ℕ) → 0 < n → n < 2 ^ 64 → more_digits n bytes ≡ Some (m, rest) → (m < 2 ^ 64) × (decimal n ++ bytes ≡ decimal m ++ rest)
more_takes [] n m rest pos small e =
    let x-is : (n, []) ≡ (m, rest) = some_is _ _ e in
    subst (λ (y : ℕ × List ℕ). (y.0 < 2 ^ 64) × (decimal n ++ [] ≡ decimal y.0 ++ y.1)) x-is (small, refl)
more_takes (b ∷ bs) n m rest pos small e = go (is_digit b) refl (more_takes bs) e
  where
    digit : is_digit b ≡ true → ((n : ℕ) (m : ℕ) (rest : List ℕ) → 0 < n → n < 2 ^ 64 → more_digits n bs ≡ Some (m, rest) → (m < 2 ^ 64) × (decimal n ++ bs ≡ decimal m ++ rest))
        → cond (nat_lt (n * 10 + (b - 48)) (2 ^ 64)) (more_digits (n * 10 + (b - 48)) bs) None ≡ Some (m, rest) → (m < 2 ^ 64) × (decimal n ++ (b ∷ bs) ≡ decimal m ++ rest)
    digit h again f =
        let g = guard_some (nat_lt (n * 10 + (b - 48)) (2 ^ 64)) (more_digits (n * 10 + (b - 48)) bs) None (m, rest) f in
        let lt : n * 10 + (b - 48) < 2 ^ 64 = test_lt _ _ g.0 in
        let range = digit_is b h in
        let t = again (n * 10 + (b - 48)) m rest (omega arith) lt g.1 in
        let same : 48 + (b - 48) ≡ b = omega arith in (
          t.0,
          sym (append_assoc (decimal n) (b ∷ []) bs) ∙ ap (λ x. (decimal n ++ (x ∷ [])) ++ bs) (sym same)
              ∙ ap (λ x. x ++ bs) (sym (step_text n (b - 48) pos (omega arith) lt)) ∙ t.1,
        )

    go : (c : Bool) → is_digit b ≡ c → ((n : ℕ) (m : ℕ) (rest : List ℕ) → 0 < n → n < 2 ^ 64 → more_digits n bs ≡ Some (m, rest) → (m < 2 ^ 64) × (decimal n ++ bs ≡ decimal m ++ rest))
        → cond c (cond (nat_lt (n * 10 + (b - 48)) (2 ^ 64)) (more_digits (n * 10 + (b - 48)) bs) None) (Some (n, b ∷ bs)) ≡ Some (m, rest)
        → (m < 2 ^ 64) × (decimal n ++ (b ∷ bs) ≡ decimal m ++ rest)
    go true h again f = digit h again f
    go false h again f =
        let x-is : (n, b ∷ bs) ≡ (m, rest) = some_is _ _ f in
        subst (λ (y : ℕ × List ℕ). (y.0 < 2 ^ 64) × (decimal n ++ (b ∷ bs) ≡ decimal y.0 ++ y.1)) x-is (small, refl)

number_takes : (bytes : List ℕ) (n : ℕ) (rest : List ℕ) → read_number bytes ≡ Some (n, rest) → (n < 2 ^ 64) × (bytes ≡ decimal n ++ rest)
number_takes [] n rest e = absurd cc
number_takes (b ∷ bs) n rest e =
    let g = guard_some (is_digit b) (cond (b == 48) (Some (0, bs)) (more_digits (b - 48) bs)) None (n, rest) e in
    go (b == 48) refl g.0 g.1
  where
    go : (c : Bool) → (b == 48) ≡ c → is_digit b ≡ true → cond c (Some (0, bs)) (more_digits (b - 48) bs) ≡ Some (n, rest) → (n < 2 ^ 64) × (b ∷ bs ≡ decimal n ++ rest)
    go true h d f =
        let x-is : (0, bs) ≡ (n, rest) = some_is _ _ f in
        let e : b ≡ 48 = is_zero b h in
        subst (λ (y : ℕ × List ℕ). (y.0 < 2 ^ 64) × (b ∷ bs ≡ decimal y.0 ++ y.1)) x-is (omega arith, ap (λ x. x ∷ bs) e ∙ ap (λ x. x ++ bs) (sym (decimal_digit 0 (omega arith))))
    go false h d f =
        let range = digit_is b d in
        let ne : b ≡ 48 → ⊥ = not_zero b h in
        let pos : 0 < b - 48 = omega arith in
        let t = more_takes bs (b - 48) n rest pos (omega arith) f in
        let same : 48 + (b - 48) ≡ b = omega arith in
        (t.0, ap (λ x. x ∷ bs) (sym same) ∙ ap (λ x. x ++ bs) (sym (decimal_digit (b - 48) (omega arith))) ∙ t.1)

-- the text of a number, and what is read of it
more_step : (n d : ℕ) (bs : List ℕ) → d < 10 → n * 10 + d < 2 ^ 64 → more_digits n ((48 + d) ∷ bs) ≡ more_digits (n * 10 + d) bs
more_step n d bs lt small =
    let a : is_digit (48 + d) ≡ true = digit_test d lt in
    let same : (48 + d) - 48 ≡ d = omega arith in
    rw (a, same, lt_test (n * 10 + d) (2 ^ 64) small) refl

GoesOn : ℕ → List ℕ → Type 0
GoesOn n ds = 0 < n → n < 2 ^ 64 → (rest : List ℕ) → read_number (ds ++ rest) ≡ more_digits n rest

first_digit : (n : ℕ) → n < 10 → 0 < n → (rest : List ℕ) → read_number ((48 + n) ∷ rest) ≡ more_digits n rest
first_digit n lt pos rest =
    let a : is_digit (48 + n) ≡ true = digit_test n lt in
    let b : (48 + n == 48) ≡ false = grind (arith, nat_tests) in
    let same : (48 + n) - 48 ≡ n = omega arith in
    rw (a, b, same) refl

goes_on : (n : ℕ) → n < 2 ^ 64 → GoesOn n (decimal n)
unfolding GoesOn
goes_on n h = decimal_by_steps GoesOn
    (λ k lt pos small rest. first_digit k lt pos rest)
    (λ k ds le before pos small rest.
    let q : k / 10 * 10 + k % 10 ≡ k = omega arith in
    rw (append_assoc ds ((48 + k % 10) ∷ []) rest) (before (omega arith) (omega arith) ((48 + k % 10) ∷ rest)
    ∙ more_step (k / 10) (k % 10) rest (omega arith) (omega arith) ∙ ap (λ x. more_digits x rest) q))
    n h

stops : (n : ℕ) (rest : List ℕ) → NoDigit rest → more_digits n rest ≡ Some (n, rest)
stops n [] h = refl
stops n (b ∷ bs) h = rw h refl

number_again : (n : ℕ) (rest : List ℕ) → n < 2 ^ 64 → NoDigit rest → read_number (decimal n ++ rest) ≡ Some (n, rest)
number_again zero rest h ends = rw (decimal_digit 0 (omega arith)) refl
number_again (suc n) rest h ends =
    let on : (0 < suc n → suc n < 2 ^ 64 → (rest : List ℕ) → read_number (decimal (suc n) ++ rest) ≡ more_digits (suc n) rest) = unfold GoesOn in goes_on (suc n) h in
    on (omega arith) h rest ∙ stops (suc n) rest ends

digit_plain : (d : ℕ) → nat_eq (48 + d) 10 ≡ false
digit_plain d = grind (arith, nat_tests)

number_plain : (n : ℕ) → n < 2 ^ 64 → IsPlain (decimal n)
number_plain n h = decimal_by_steps (λ k ds. IsPlain ds) (λ k lt. (digit_plain k, tt)) (λ k ds le p. plain_append ds _ p (digit_plain (k % 10), tt)) n h

pub number_laws : Laws number
unfolding number
number_laws = record { takes = number_takes; again = λ n rest h ends. number_again n rest h ends; plain = number_plain }

-- bytes that are a number's digits, with nothing behind them
pub whole_number : (bytes : List ℕ) (n : ℕ) (rest : List ℕ) → number.read bytes ≡ Some (n, rest) → eqb (length rest) 0 ≡ true → bytes ≡ decimal n
unfolding number
whole_number bytes n [] e empty = (number_takes bytes n [] e).1 ∙ append-nil (decimal n)
whole_number bytes n (b ∷ rest) e empty = absurd (let none : length (b ∷ rest) ≡ 0 = eqb-true (length (b ∷ rest)) 0 empty in omega (arith, none))

pub number_whole : (bytes : List ℕ) (n : ℕ) → n < 2 ^ 64 → bytes ≡ decimal n → number.read bytes ≡ Some (n, [])
unfolding number
number_whole bytes n small is = ap read_number (is ∙ sym (append-nil (decimal n))) ∙ number_again n [] small tt

read_once : (bytes : List ℕ) (m n : ℕ) (rest : List ℕ) → number.read bytes ≡ Some (m, rest) → n < 2 ^ 64 → bytes ≡ decimal n → ◌≡◌ {A = ℕ × List ℕ} (m, rest) (n, [])
read_once bytes m n rest e small is = some_is _ _ (sym e ∙ number_whole bytes n small is)

pub same_number : (bytes : List ℕ) (m n : ℕ) (rest : List ℕ) → number.read bytes ≡ Some (m, rest) → n < 2 ^ 64 → bytes ≡ decimal n → Some m ≡ Some n
same_number bytes m n rest e small is = ap (λ (x : ℕ × List ℕ). Some x.0) (read_once bytes m n rest e small is)

pub none_left : (bytes : List ℕ) (m n : ℕ) (rest : List ℕ) → number.read bytes ≡ Some (m, rest) → n < 2 ^ 64 → bytes ≡ decimal n → eqb (length rest) 0 ≡ false → ⊥
none_left bytes m n rest e small is more =
    let none : eqb (length rest) 0 ≡ true = ap (λ (x : ℕ × List ℕ). eqb (length x.1) 0) (read_once bytes m n rest e small is) in
    absurd (let both : true ≡ false = sym none ∙ more in cc)

-- ---- hexadecimal

nibble_is : (b d : ℕ) → nibble b ≡ Some d → (d < 16) × (glyph d ≡ b)
nibble_is b d e = go (is_digit b) refl e
  where
    letter : (c : Bool) → (nat_le 97 b && nat_lt b 103) ≡ c → cond c (Some (b - 87)) None ≡ Some d → (d < 16) × (glyph d ≡ b)
    letter true h f =
        let x-is : b - 87 ≡ d = some_is _ _ f in
        let low : 97 ≤ b = grind (arith, nat_tests) in
        let high : b < 103 = grind (arith, nat_tests) in
        let no : nat_lt d 10 ≡ false = grind (arith, nat_tests) in
        (omega arith, rw no (omega arith))
    letter false h f = absurd cc

    go : (c : Bool) → is_digit b ≡ c → cond c (Some (b - 48)) (cond (nat_le 97 b && nat_lt b 103) (Some (b - 87)) None) ≡ Some d → (d < 16) × (glyph d ≡ b)
    go true h f =
        let x-is : b - 48 ≡ d = some_is _ _ f in
        let range = digit_is b h in
        let yes : nat_lt d 10 ≡ true = lt_test d 10 (omega arith) in
        (omega arith, rw yes (omega arith))
    go false h f = letter (nat_le 97 b && nat_lt b 103) refl f

low_glyph : (d : ℕ) → d < 10 → glyph d ≡ 48 + d
low_glyph d h = rw (lt_test d 10 h) refl

high_glyph : (d : ℕ) → 10 ≤ d → glyph d ≡ 87 + d
high_glyph d h = let no : nat_lt d 10 ≡ false = grind (arith, nat_tests) in rw no refl

is_nibble : (d : ℕ) → d < 16 → nibble (glyph d) ≡ Some d
is_nibble d h = go (nat_lt d 10) refl
  where
    go : (c : Bool) → nat_lt d 10 ≡ c → nibble (glyph d) ≡ Some d
    go true t =
        let lt : d < 10 = test_lt d 10 t in
        let a : is_digit (48 + d) ≡ true = digit_test d lt in
        let same : (48 + d) - 48 ≡ d = omega arith in
        ap nibble (low_glyph d lt) ∙ rw (a, same) refl
    go false t =
        let le : 10 ≤ d = grind (arith, nat_tests) in
        let a : is_digit (87 + d) ≡ false = grind (arith, nat_tests) in
        let b : (nat_le 97 (87 + d) && nat_lt (87 + d) 103) ≡ true = grind (arith, nat_tests) in
        let same : (87 + d) - 87 ≡ d = omega arith in
        ap nibble (high_glyph d le) ∙ rw (a, b, same) refl

more_room : (j n d : ℕ) → n < 16 ^ j → d < 16 → n * 16 + d < 16 ^ suc j
more_room j n d h l = rw pow-suc (omega arith)

less_room : (k n : ℕ) → n < 16 ^ suc k → n / 16 < 16 ^ k
less_room k n h = let e : n < 16 ^ k * 16 = rw pow-suc at h in omega arith

hex_step : (k n d : ℕ) → d < 16 → hex (suc k) (n * 16 + d) ≡ hex k n ++ (glyph d ∷ [])
hex_step k n d h =
    let q : (n * 16 + d) / 16 ≡ n = omega arith in
    let r : (n * 16 + d) % 16 ≡ d = omega arith in
    ap (λ x. hex k x ++ (glyph ((n * 16 + d) % 16) ∷ [])) q ∙ ap (λ x. hex k n ++ (glyph x ∷ [])) r

-- j digits are read, and k are still to come
hex_takes : (k j n m : ℕ) (bytes rest : List ℕ) → n < 16 ^ j → read_hex k n bytes ≡ Some (m, rest) → (m < 16 ^ (j + k)) × (hex j n ++ bytes ≡ hex (j + k) m ++ rest)
hex_takes zero j n m bytes rest lt e =
    let x-is : (n, bytes) ≡ (m, rest) = some_is _ _ e in
    let same : j + 0 ≡ j = omega arith in
    subst (λ (y : ℕ × List ℕ). (y.0 < 16 ^ (j + 0)) × (hex j n ++ bytes ≡ hex (j + 0) y.0 ++ y.1)) x-is (rw same lt, rw same refl)
hex_takes (suc k) j n m [] rest lt e = absurd cc
hex_takes (suc k) j n m (b ∷ bs) rest lt e =
    let c = bind_some (nibble b) (λ d. read_hex k (n * 16 + d) bs) (m, rest) e in
    let d = nibble_is b c.0 c.1 in
    let up : n * 16 + c.0 < 16 ^ suc j = more_room j n c.0 lt d.0 in
    let t = hex_takes k (suc j) (n * 16 + c.0) m bs rest up c.2 in
    let same : suc j + k ≡ j + suc k = omega arith in
    subst (λ x. (m < 16 ^ x) × (hex j n ++ (b ∷ bs) ≡ hex x m ++ rest)) same
    (t.0, sym (append_assoc (hex j n) (b ∷ []) bs) ∙ ap (λ x. (hex j n ++ (x ∷ [])) ++ bs) (sym d.1) ∙ ap (λ x. x ++ bs) (sym (hex_step j n c.0 d.0)) ∙ t.1)

hex_then : (k n m : ℕ) (bytes rest : List ℕ) → read_hex k n bytes ≡ Some (m, rest) → read_hex (suc k) n bytes ≡ read_hex 1 m rest
hex_then zero n m bytes rest e =
    let x-is : (n, bytes) ≡ (m, rest) = some_is _ _ e in
    ap (λ (y : ℕ × List ℕ). read_hex 1 y.0 y.1) x-is
hex_then (suc k) n m [] rest e = absurd cc
hex_then (suc k) n m (b ∷ bs) rest e =
    let c = bind_some (nibble b) (λ d. read_hex k (n * 16 + d) bs) (m, rest) e in
    rw c.1 (hex_then k (n * 16 + c.0) m bs rest c.2)

hex_again : (k n : ℕ) (rest : List ℕ) → n < 16 ^ k → read_hex k 0 (hex k n ++ rest) ≡ Some (n, rest)
hex_again zero n rest h = let z : n ≡ 0 = omega arith in rw z refl
hex_again (suc k) n rest h =
    let front : n / 16 < 16 ^ k = less_room k n h in
    let before = hex_again k (n / 16) (glyph (n % 16) ∷ rest) front in
    let again : read_hex (suc k) 0 (hex k (n / 16) ++ (glyph (n % 16) ∷ rest)) ≡ read_hex 1 (n / 16) (glyph (n % 16) ∷ rest) = hex_then k 0 (n / 16) _ _ before in
    let g : nibble (glyph (n % 16)) ≡ Some (n % 16) = is_nibble (n % 16) (omega arith) in
    let whole : n / 16 * 16 + n % 16 ≡ n = omega arith in
    rw (append_assoc (hex k (n / 16)) (glyph (n % 16) ∷ []) rest) (again ∙ rw (g, whole) refl)

glyph_plain : (d : ℕ) → nat_eq (glyph d) 10 ≡ false
glyph_plain d = go (nat_lt d 10) refl
  where
    go : (c : Bool) → nat_lt d 10 ≡ c → nat_eq (cond c (48 + d) (87 + d)) 10 ≡ false
    go true h = grind (arith, nat_tests)
    go false h = grind (arith, nat_tests)

hex_plain : (k n : ℕ) → IsPlain (hex k n)
hex_plain zero n = tt
hex_plain (suc k) n = plain_append (hex k (n / 16)) _ (hex_plain k (n / 16)) (glyph_plain (n % 16), tt)

pub hex_laws : (k : ℕ) → 0 < k → k ≤ 64 → Laws (digits_of_hex k)
unfolding digits_of_hex
hex_laws k some fuel = record {
  takes = λ bytes n rest e.
      let t = hex_takes k 0 0 n bytes rest (omega arith) e in
      let same : 0 + k ≡ k = omega arith in
      let low : n < 16 ^ k = rw same at t.0 in
      let whole : bytes ≡ hex k n ++ rest = rw same at t.1 in
      (low, whole ∙ ap (λ (xs : List ℕ). xs ++ rest) (sym (hex_text_is k n some fuel low)));
  again = λ n rest h ends. rw (hex_text_is k n some fuel h) (hex_again k n rest h);
  plain = λ n h. rw (hex_text_is k n some fuel h) (hex_plain k n);
}

pub hex8_small : (bytes : List ℕ) (n : ℕ) (rest : List ℕ) → hex8.read bytes ≡ Some (n, rest) → n < 4294967296
unfolding hex8
hex8_small bytes n rest e = let h : n < 16 ^ 8 = is_hex 8 n ((hex_laws 8 (omega arith) (omega arith)).takes bytes n rest e).0 in omega arith
  where
    is_hex : (k n : ℕ) → (digits_of_hex k).Is n → n < 16 ^ k
    is_hex k n h = unfold digits_of_hex in h
