-- The laws of values.
use Rattle.std.proofs.Common.{◌^◌, lit<, ◌≡◌, ℕ, zero, suc, ◌<◌, ◌≤◌, Bool, true, false, cond, List, [], ◌∷◌, ◌++◌, Option, Some, None, refl, sym, ap, subst, ◌∙◌, arith}
use Rattle.std.specs.Prelude.{◌==◌, nat_lt, nat_le, ℤ, pos, negsuc}
use Rattle.std.specs.Fmt.{decimal}
use Rattle.std.proofs.lemmas.Bool.Decides.{nat_tests}
use Rattle.vw_report.specs.ValueText.{register_text, signed_text, value_text, via_text}
use Rattle.vw_report.specs.StateText.{registers}
use Rattle.vw_report.specs.Items.{Anything, after, choice, first_word, maybe, or_word, pair, ◌>>=◌}
use Rattle.vw_report.specs.NumberItems.{digits_of_hex, is_digit, number}
use Rattle.vw_report.specs.Grammar.{Breaks, IsKind, IsOffset, Stops, all_kinds, colon, first, hex16, hex8, index_parts, is_at, is_break, is_stop, kind_name, kind_of, magnitude, mark, minus, minus_at, plus, read_signed, register, signed, table, tag_parts, two, value, value_args, via, via_args, via_name, via_register}
use Rattle.vw_values.specs.declared.value.Via.{Via}
use Rattle.vw_values.specs.declared.value.Via.TheVariants.{At, Idx}
use Rattle.vw_values.specs.declared.value.Value.{Value}
use Rattle.vw_values.specs.declared.value.Value.TheVariants.{Any, Num, Const, Below, Low, Both, HeapBase, HeapAddr, Globals, Entry, Image, Index16, EntryPtr, EntryTyped, TagOf, TableFn, JumpOff, JumpDest}
use Rattle.vw_report.specs.declared.kinds.Kind.{Kind}
use Rattle.vw_report.specs.declared.kinds.Kind.TheVariants as kinds
use Rattle.vw_report.proofs.ItemLaws.{IsPlain, Laws, bind_some, some_is, first_word_takes, printed_laws, tested_laws, seen_laws, pair_laws}
use Rattle.vw_report.proofs.ListLaws.{choice_laws, nothing_laws, maybe_laws}
use Rattle.vw_report.proofs.NumberLaws.{number_laws, hex_laws}

-- ---- what may follow
stop_digit : (b : ℕ) → is_stop b ≡ true → is_digit b ≡ false
stop_digit b h = grind (arith, nat_tests)

break_stop : (b : ℕ) → is_break b ≡ true → is_stop b ≡ true
break_stop b h = grind (arith, nat_tests)

pub stops_digits : (rest : List ℕ) → Stops rest → number.Ends rest
unfolding number
stops_digits [] h = tt
stops_digits (b ∷ rest) h = stop_digit b h

pub breaks_stop : (rest : List ℕ) → Breaks rest → Stops rest
breaks_stop [] h = h
breaks_stop (b ∷ rest) h = break_stop b h

break_colon : (b : ℕ) → is_break b ≡ true → (b == 58) ≡ false
break_colon b h = grind (arith, nat_tests)

breaks_colon : (rest : List ℕ) → Breaks rest → after colon rest ≡ None
breaks_colon [] h = absurd h
breaks_colon (b ∷ rest) h = rw (break_colon b h) refl

colon_ends : (rest : List ℕ) → number.Ends (colon ++ rest)
unfolding number
colon_ends rest = refl

-- ---- signed
le_test : (n k : ℕ) → n ≤ k → nat_le n k ≡ true
le_test n k h = grind (arith, nat_tests)

test_le : (n k : ℕ) → nat_le n k ≡ true → n ≤ k
test_le n k h = grind (arith, nat_tests)

pub magnitude_laws : Laws magnitude
unfolding magnitude
magnitude_laws = tested_laws (λ n. nat_le n (2 ^ 32)) number number_laws

magnitude_is : (n : ℕ) → n ≤ 2 ^ 32 → magnitude.Is n
unfolding magnitude number
magnitude_is n h = (omega arith, le_test n (2 ^ 32) h)

is_magnitude : (n : ℕ) → magnitude.Is n → n ≤ 2 ^ 32
unfolding magnitude number
is_magnitude n h = test_le n (2 ^ 32) h.1

magnitude_ends : (rest : List ℕ) → Stops rest → magnitude.Ends rest
unfolding magnitude
magnitude_ends rest h = stops_digits rest h

magnitude_text : (n : ℕ) → magnitude.text n ≡ decimal n
unfolding magnitude number
magnitude_text n = refl

magnitude_takes : (bytes : List ℕ) (n : ℕ) (rest : List ℕ) → magnitude.read bytes ≡ Some (n, rest) → (n ≤ 2 ^ 32) × (bytes ≡ decimal n ++ rest)
magnitude_takes bytes n rest e = let t = magnitude_laws.takes bytes n rest e in (is_magnitude n t.0, t.1 ∙ ap (λ (xs : List ℕ). xs ++ rest) (magnitude_text n))

magnitude_again : (n : ℕ) (rest : List ℕ) → n ≤ 2 ^ 32 → Stops rest → magnitude.read (decimal n ++ rest) ≡ Some (n, rest)
magnitude_again n rest h ends = ap (λ (xs : List ℕ). magnitude.read (xs ++ rest)) (sym (magnitude_text n)) ∙ magnitude_laws.again n rest (magnitude_is n h) (magnitude_ends rest ends)

magnitude_plain : (n : ℕ) → n ≤ 2 ^ 32 → IsPlain (decimal n)
magnitude_plain n h = subst IsPlain (magnitude_text n) (magnitude_laws.plain n (magnitude_is n h))

minus_takes : (n : ℕ) (r : List ℕ) (z : ℤ) (rest : List ℕ) → n ≤ 2 ^ 32 → minus_at n r ≡ Some (z, rest) → IsOffset z × (45 ∷ (decimal n ++ r) ≡ signed_text z ++ rest)
minus_takes zero r z rest h e = absurd cc
minus_takes (suc n) r z rest h e =
    let x-is : (negsuc n, r) ≡ (z, rest) = some_is _ _ e in
    subst (λ (y : ℤ × List ℕ). IsOffset y.0 × (45 ∷ (decimal (suc n) ++ r) ≡ signed_text y.0 ++ y.1)) x-is (h, refl)

eq_is : (b c : ℕ) → (b == c) ≡ true → b ≡ c
eq_is b c h = grind arith

signed_takes : (bytes : List ℕ) (z : ℤ) (rest : List ℕ) → read_signed bytes ≡ Some (z, rest) → IsOffset z × (bytes ≡ signed_text z ++ rest)
signed_takes [] z rest e = absurd cc
signed_takes (b ∷ bs) z rest e = go (b == 43) (b == 45) refl refl e
  where
    go : (p q : Bool) → (b == 43) ≡ p → (b == 45) ≡ q → cond p (magnitude.read bs >>= plus) (cond q (magnitude.read bs >>= minus) None) ≡ Some (z, rest) → IsOffset z × (b ∷ bs ≡ signed_text z ++ rest)
    go true q h k f =
        let c = bind_some (magnitude.read bs) plus (z, rest) f in
        let t = magnitude_takes bs c.0.0 c.0.1 c.1 in
        let x-is : (pos c.0.0, c.0.1) ≡ (z, rest) = some_is _ _ c.2 in
        let b-is : b ≡ 43 = eq_is b 43 h in
        subst (λ (y : ℤ × List ℕ). IsOffset y.0 × (b ∷ bs ≡ signed_text y.0 ++ y.1)) x-is (t.0, rw b-is (ap (λ x. 43 ∷ x) t.1))
    go false true h k f =
        let c = bind_some (magnitude.read bs) minus (z, rest) f in
        let t = magnitude_takes bs c.0.0 c.0.1 c.1 in
        let b-is : b ≡ 45 = eq_is b 45 k in
        let u = minus_takes c.0.0 c.0.1 z rest t.0 c.2 in
        (u.0, rw b-is (ap (λ x. 45 ∷ x) t.1 ∙ u.1))
    go false false h k f = absurd cc

signed_again : (z : ℤ) (rest : List ℕ) → IsOffset z → Stops rest → read_signed (signed_text z ++ rest) ≡ Some (z, rest)
signed_again (pos n) rest h ends = rw (magnitude_again n rest h ends) refl
signed_again (negsuc n) rest h ends = rw (magnitude_again (suc n) rest h ends) refl

signed_plain : (z : ℤ) → IsOffset z → IsPlain (signed_text z)
signed_plain (pos n) h = (refl, magnitude_plain n h)
signed_plain (negsuc n) h = (refl, magnitude_plain (suc n) h)

pub signed_laws : Laws signed
unfolding signed
signed_laws = record { takes = signed_takes; again = signed_again; plain = signed_plain }

-- ---- registers
register_again : (r : ℕ) (rest : List ℕ) → r < 16 → first_word registers register_text (register_text r ++ rest) ≡ Some (r, rest)
register_again zero rest h = refl
register_again (suc zero) rest h = refl
register_again (suc (suc zero)) rest h = refl
register_again (suc (suc (suc zero))) rest h = refl
register_again (suc (suc (suc (suc zero)))) rest h = refl
register_again (suc (suc (suc (suc (suc zero))))) rest h = refl
register_again (suc (suc (suc (suc (suc (suc zero)))))) rest h = refl
register_again (suc (suc (suc (suc (suc (suc (suc zero))))))) rest h = refl
register_again (suc (suc (suc (suc (suc (suc (suc (suc zero)))))))) rest h = refl
register_again (suc (suc (suc (suc (suc (suc (suc (suc (suc zero))))))))) rest h = refl
register_again (suc (suc (suc (suc (suc (suc (suc (suc (suc (suc zero)))))))))) rest h = refl
register_again (suc (suc (suc (suc (suc (suc (suc (suc (suc (suc (suc zero))))))))))) rest h = refl
register_again (suc (suc (suc (suc (suc (suc (suc (suc (suc (suc (suc (suc zero)))))))))))) rest h = refl
register_again (suc (suc (suc (suc (suc (suc (suc (suc (suc (suc (suc (suc (suc zero))))))))))))) rest h = refl
register_again (suc (suc (suc (suc (suc (suc (suc (suc (suc (suc (suc (suc (suc (suc zero)))))))))))))) rest h = refl
register_again (suc (suc (suc (suc (suc (suc (suc (suc (suc (suc (suc (suc (suc (suc (suc zero))))))))))))))) rest h = refl
register_again (suc (suc (suc (suc (suc (suc (suc (suc (suc (suc (suc (suc (suc (suc (suc (suc r)))))))))))))))) rest h = absurd (omega arith)

abbrev AllOf : (ℕ → Type 0) → List ℕ → Type 0
AllOf P [] = Unit {0}
AllOf P (k ∷ ks) = P k × AllOf P ks

among : (ks : List ℕ) (P : ℕ → Type 0) → AllOf P ks → (bytes : List ℕ) (k : ℕ) (rest : List ℕ) → first_word ks register_text bytes ≡ Some (k, rest) → P k
among [] P h bytes k rest e = absurd cc
among (j ∷ ks) P h bytes k rest e = go (after (register_text j) bytes) (among ks P h.1 bytes k rest) e
  where
    go : (o : Option (List ℕ)) → (first_word ks register_text bytes ≡ Some (k, rest) → P k) → or_word j (first_word ks register_text bytes) o ≡ Some (k, rest) → P k
    go None again f = again f
    go (Some r) again f =
        let x-is : (j, r) ≡ (k, rest) = some_is _ _ f in
        subst (λ (y : ℕ × List ℕ). P y.0) x-is h.0

register_small : (r : ℕ) (bytes rest : List ℕ) → first_word registers register_text bytes ≡ Some (r, rest) → r < 16
register_small r bytes rest e = small_word registers (λ k. k < 16) (lit< tt, (lit< tt, (lit< tt, (lit< tt, (lit< tt, (lit< tt, (lit< tt, (lit< tt, (lit< tt, (lit< tt, (lit< tt, (lit< tt, (lit< tt, (lit< tt, (lit< tt, (lit< tt, tt)))))))))))))))) bytes r rest e
  where
    small_word : (ks : List ℕ) (P : ℕ → Type 0) → AllOf P ks → (bytes : List ℕ) (k : ℕ) (rest : List ℕ) → first_word ks register_text bytes ≡ Some (k, rest) → P k
    small_word ks P h bytes k rest e = among ks P h bytes k rest e

register_plain : (r : ℕ) → r < 16 → IsPlain (register_text r)
register_plain zero low = (refl, (refl, (refl, tt)))
register_plain (suc zero) low = (refl, (refl, (refl, tt)))
register_plain (suc (suc zero)) low = (refl, (refl, (refl, tt)))
register_plain (suc (suc (suc zero))) low = (refl, (refl, (refl, tt)))
register_plain (suc (suc (suc (suc zero)))) low = (refl, (refl, (refl, tt)))
register_plain (suc (suc (suc (suc (suc zero))))) low = (refl, (refl, (refl, tt)))
register_plain (suc (suc (suc (suc (suc (suc zero)))))) low = (refl, (refl, (refl, tt)))
register_plain (suc (suc (suc (suc (suc (suc (suc zero))))))) low = (refl, (refl, (refl, tt)))
register_plain (suc (suc (suc (suc (suc (suc (suc (suc zero)))))))) low = (refl, (refl, tt))
register_plain (suc (suc (suc (suc (suc (suc (suc (suc (suc zero))))))))) low = (refl, (refl, tt))
register_plain (suc (suc (suc (suc (suc (suc (suc (suc (suc (suc zero)))))))))) low = (refl, (refl, (refl, tt)))
register_plain (suc (suc (suc (suc (suc (suc (suc (suc (suc (suc (suc zero))))))))))) low = (refl, (refl, (refl, tt)))
register_plain (suc (suc (suc (suc (suc (suc (suc (suc (suc (suc (suc (suc zero)))))))))))) low = (refl, (refl, (refl, tt)))
register_plain (suc (suc (suc (suc (suc (suc (suc (suc (suc (suc (suc (suc (suc zero))))))))))))) low = (refl, (refl, (refl, tt)))
register_plain (suc (suc (suc (suc (suc (suc (suc (suc (suc (suc (suc (suc (suc (suc zero)))))))))))))) low = (refl, (refl, (refl, tt)))
register_plain (suc (suc (suc (suc (suc (suc (suc (suc (suc (suc (suc (suc (suc (suc (suc zero))))))))))))))) low = (refl, (refl, (refl, tt)))
register_plain (suc (suc (suc (suc (suc (suc (suc (suc (suc (suc (suc (suc (suc (suc (suc (suc r)))))))))))))))) low = absurd (omega arith)

pub register_laws : Laws register
unfolding register
register_laws = record {
  takes = λ bytes r rest e. (register_small r bytes rest e, first_word_takes registers register_text bytes r rest e);
  again = λ r rest h ends. register_again r rest h;
  plain = register_plain;
}

-- ---- what a value is made of
pub table_laws : Laws table
unfolding table
table_laws = tested_laws (λ n. nat_lt n (2 ^ 32)) number number_laws

table_ends : (rest : List ℕ) → table.Ends (colon ++ rest)
unfolding table
table_ends rest = colon_ends rest

pub hex16_laws : Laws hex16
unfolding hex16
hex16_laws = hex_laws 16 (omega arith) (omega arith)

pub hex8_laws : Laws hex8
unfolding hex8
hex8_laws = hex_laws 8 (omega arith) (omega arith)

hex16_ends : (rest : List ℕ) → hex16.Ends rest
unfolding hex16 digits_of_hex
hex16_ends rest = tt

register_ends : (rest : List ℕ) → register.Ends rest
unfolding register
register_ends rest = tt

at_back : (v : Via) → is_at v ≡ true → At (via_register v) ≡ v
at_back (At r) h = refl
at_back (Idx r) h = absurd cc

idx_back : (v : Via) → is_at v ≡ false → Idx (via_register v) ≡ v
idx_back (At r) h = absurd cc
idx_back (Idx r) h = refl

via_words : (b : Bool) (rest : List ℕ) → first_word (true ∷ false ∷ []) via_name (via_name b ++ rest) ≡ Some (b, rest)
via_words true rest = refl
via_words false rest = refl

via_args_laws : (b : Bool) → Laws (via_args b)
via_args_laws true = seen_laws At via_register (λ v. is_at v ≡ true) register at_back (λ r h. refl) (λ r h. refl) register_laws
via_args_laws false = seen_laws Idx via_register (λ v. is_at v ≡ false) register idx_back (λ r h. refl) (λ r h. refl) register_laws

via_kinds : (b : Bool) (v : Via) → (via_args b).Is v → is_at v ≡ b
via_kinds true v h = h.0
via_kinds false v h = h.0

via_stop : (b : Bool) (rest : List ℕ) → Anything rest → (via_args b).Ends rest
via_stop true rest h = register_ends rest
via_stop false rest h = register_ends rest

via_plain : (b : Bool) → IsPlain (via_name b)
via_plain true = (refl, (refl, (refl, tt)))
via_plain false = (refl, (refl, (refl, (refl, tt))))

via_printed : (v : Via) → (choice (true ∷ false ∷ []) via_name is_at via_args Anything).Is v → (choice (true ∷ false ∷ []) via_name is_at via_args Anything).text v ≡ via_text v
unfolding register
via_printed (At r) h = refl
via_printed (Idx r) h = refl

pub via_laws : Laws via
unfolding via
via_laws = printed_laws via_text (choice (true ∷ false ∷ []) via_name is_at via_args Anything) via_printed
    (choice_laws (true ∷ false ∷ []) via_name is_at via_args Anything (λ v rest h. via_words (is_at v) _) via_kinds via_stop via_plain via_args_laws)

via_ends : (rest : List ℕ) → via.Ends rest
unfolding via
via_ends rest = tt

colon_plain : IsPlain colon
colon_plain = (refl, tt)

pub mark_laws : Laws mark
unfolding mark
mark_laws = pair_laws colon table number colon_plain (λ b rest h ends. table_ends _) table_laws number_laws

mark_ends : (rest : List ℕ) → Breaks rest → mark.Ends rest
unfolding mark
mark_ends rest h = stops_digits rest (breaks_stop rest h)

marks_laws : Laws (maybe colon mark Breaks)
marks_laws = maybe_laws colon mark Breaks colon_plain breaks_colon mark_ends mark_laws

number_mark : (m : Option (ℕ × ℕ)) (rest : List ℕ) → Breaks rest → number.Ends ((maybe colon mark Breaks).text m ++ rest)
number_mark None rest h = stops_digits rest (breaks_stop rest h)
number_mark (Some m) rest h = colon_ends _

table_breaks : (rest : List ℕ) → Breaks rest → table.Ends rest
unfolding table
table_breaks rest h = stops_digits rest (breaks_stop rest h)

-- ---- values
Const_back : (v : Value) → IsKind kinds.Const v → Const (first v) ≡ v
Const_back (Const c) h = refl
Const_back _ h = absurd cc

Below_back : (v : Value) → IsKind kinds.Below v → Below (first v) ≡ v
Below_back (Below k) h = refl
Below_back _ h = absurd cc

Low_back : (v : Value) → IsKind kinds.Low v → Low (first v) ≡ v
Low_back (Low k) h = refl
Low_back _ h = absurd cc

Both_back : (v : Value) → IsKind kinds.Both v → Both (first v) ≡ v
Both_back (Both k) h = refl
Both_back _ h = absurd cc

Entry_back : (v : Value) → IsKind kinds.Entry v → Entry (first v) ≡ v
Entry_back (Entry r) h = refl
Entry_back _ h = absurd cc

Image_back : (v : Value) → IsKind kinds.Image v → Image (first v) ≡ v
Image_back (Image a) h = refl
Image_back _ h = absurd cc

Index16_back : (v : Value) → IsKind kinds.Index16 v → Index16 (index_parts v).0 (index_parts v).1 ≡ v
Index16_back (Index16 k mark) h = refl
Index16_back _ h = absurd cc

EntryPtr_back : (v : Value) → IsKind kinds.EntryPtr v → EntryPtr (first v) ≡ v
EntryPtr_back (EntryPtr t) h = refl
EntryPtr_back _ h = absurd cc

EntryTyped_back : (v : Value) → IsKind kinds.EntryTyped v → EntryTyped (two v).0 (two v).1 ≡ v
EntryTyped_back (EntryTyped t g) h = refl
EntryTyped_back _ h = absurd cc

TagOf_back : (v : Value) → IsKind kinds.TagOf v → TagOf (tag_parts v).0 (tag_parts v).1 ≡ v
TagOf_back (TagOf t via) h = refl
TagOf_back _ h = absurd cc

TableFn_back : (v : Value) → IsKind kinds.TableFn v → TableFn (two v).0 (two v).1 ≡ v
TableFn_back (TableFn t g) h = refl
TableFn_back _ h = absurd cc

JumpOff_back : (v : Value) → IsKind kinds.JumpOff v → JumpOff (two v).0 (two v).1 ≡ v
JumpOff_back (JumpOff a k) h = refl
JumpOff_back _ h = absurd cc

JumpDest_back : (v : Value) → IsKind kinds.JumpDest v → JumpDest (two v).0 (two v).1 ≡ v
JumpDest_back (JumpDest a k) h = refl
JumpDest_back _ h = absurd cc

value_args_laws : (k : Kind) → Laws (value_args k)
value_args_laws kinds.Any = nothing_laws Any
value_args_laws kinds.Num = nothing_laws Num
value_args_laws kinds.Const = seen_laws Const first (IsKind kinds.Const) hex16 Const_back (λ a h. refl) (λ a h. refl) hex16_laws
value_args_laws kinds.Below = seen_laws Below first (IsKind kinds.Below) number Below_back (λ a h. refl) (λ a h. refl) number_laws
value_args_laws kinds.Low = seen_laws Low first (IsKind kinds.Low) number Low_back (λ a h. refl) (λ a h. refl) number_laws
value_args_laws kinds.Both = seen_laws Both first (IsKind kinds.Both) number Both_back (λ a h. refl) (λ a h. refl) number_laws
value_args_laws kinds.HeapBase = nothing_laws HeapBase
value_args_laws kinds.HeapAddr = nothing_laws HeapAddr
value_args_laws kinds.Globals = nothing_laws Globals
value_args_laws kinds.Entry = seen_laws Entry first (IsKind kinds.Entry) register Entry_back (λ a h. refl) (λ a h. refl) register_laws
value_args_laws kinds.Image = seen_laws Image first (IsKind kinds.Image) hex16 Image_back (λ a h. refl) (λ a h. refl) hex16_laws
value_args_laws kinds.Index16 = seen_laws (λ x. Index16 x.0 x.1) index_parts (IsKind kinds.Index16) (pair [] number (maybe colon mark Breaks)) Index16_back (λ a h. refl) (λ a h. refl) (pair_laws [] number (maybe colon mark Breaks) tt (λ m rest h ends. number_mark m rest ends) number_laws marks_laws)
value_args_laws kinds.EntryPtr = seen_laws EntryPtr first (IsKind kinds.EntryPtr) table EntryPtr_back (λ a h. refl) (λ a h. refl) table_laws
value_args_laws kinds.EntryTyped = seen_laws (λ x. EntryTyped x.0 x.1) two (IsKind kinds.EntryTyped) (pair colon table number) EntryTyped_back (λ a h. refl) (λ a h. refl) (pair_laws colon table number colon_plain (λ b rest h ends. table_ends _) table_laws number_laws)
value_args_laws kinds.TagOf = seen_laws (λ x. TagOf x.0 x.1) tag_parts (IsKind kinds.TagOf) (pair colon table via) TagOf_back (λ a h. refl) (λ a h. refl) (pair_laws colon table via colon_plain (λ b rest h ends. table_ends _) table_laws via_laws)
value_args_laws kinds.TableFn = seen_laws (λ x. TableFn x.0 x.1) two (IsKind kinds.TableFn) (pair colon table number) TableFn_back (λ a h. refl) (λ a h. refl) (pair_laws colon table number colon_plain (λ b rest h ends. table_ends _) table_laws number_laws)
value_args_laws kinds.JumpOff = seen_laws (λ x. JumpOff x.0 x.1) two (IsKind kinds.JumpOff) (pair colon hex16 number) JumpOff_back (λ a h. refl) (λ a h. refl) (pair_laws colon hex16 number colon_plain (λ b rest h ends. hex16_ends _) hex16_laws number_laws)
value_args_laws kinds.JumpDest = seen_laws (λ x. JumpDest x.0 x.1) two (IsKind kinds.JumpDest) (pair colon hex16 number) JumpDest_back (λ a h. refl) (λ a h. refl) (pair_laws colon hex16 number colon_plain (λ b rest h ends. hex16_ends _) hex16_laws number_laws)

value_kinds : (k : Kind) (v : Value) → (value_args k).Is v → kind_of v ≡ k
value_kinds kinds.Any v h = ap kind_of (sym h)
value_kinds kinds.Num v h = ap kind_of (sym h)
value_kinds kinds.Const v h = h.0
value_kinds kinds.Below v h = h.0
value_kinds kinds.Low v h = h.0
value_kinds kinds.Both v h = h.0
value_kinds kinds.HeapBase v h = ap kind_of (sym h)
value_kinds kinds.HeapAddr v h = ap kind_of (sym h)
value_kinds kinds.Globals v h = ap kind_of (sym h)
value_kinds kinds.Entry v h = h.0
value_kinds kinds.Image v h = h.0
value_kinds kinds.Index16 v h = h.0
value_kinds kinds.EntryPtr v h = h.0
value_kinds kinds.EntryTyped v h = h.0
value_kinds kinds.TagOf v h = h.0
value_kinds kinds.TableFn v h = h.0
value_kinds kinds.JumpOff v h = h.0
value_kinds kinds.JumpDest v h = h.0

value_stop : (k : Kind) (rest : List ℕ) → Breaks rest → (value_args k).Ends rest
value_stop kinds.Any rest h = tt
value_stop kinds.Num rest h = tt
value_stop kinds.Const rest h = hex16_ends rest
value_stop kinds.Below rest h = stops_digits rest (breaks_stop rest h)
value_stop kinds.Low rest h = stops_digits rest (breaks_stop rest h)
value_stop kinds.Both rest h = stops_digits rest (breaks_stop rest h)
value_stop kinds.HeapBase rest h = tt
value_stop kinds.HeapAddr rest h = tt
value_stop kinds.Globals rest h = tt
value_stop kinds.Entry rest h = register_ends rest
value_stop kinds.Image rest h = hex16_ends rest
value_stop kinds.Index16 rest h = h
value_stop kinds.EntryPtr rest h = table_breaks rest h
value_stop kinds.EntryTyped rest h = stops_digits rest (breaks_stop rest h)
value_stop kinds.TagOf rest h = via_ends rest
value_stop kinds.TableFn rest h = stops_digits rest (breaks_stop rest h)
value_stop kinds.JumpOff rest h = stops_digits rest (breaks_stop rest h)
value_stop kinds.JumpDest rest h = stops_digits rest (breaks_stop rest h)

value_words : (k : Kind) (rest : List ℕ) → first_word all_kinds kind_name (kind_name k ++ rest) ≡ Some (k, rest)
value_words kinds.Any rest = refl
value_words kinds.Num rest = refl
value_words kinds.Const rest = refl
value_words kinds.Below rest = refl
value_words kinds.Low rest = refl
value_words kinds.Both rest = refl
value_words kinds.HeapBase rest = refl
value_words kinds.HeapAddr rest = refl
value_words kinds.Globals rest = refl
value_words kinds.Entry rest = refl
value_words kinds.Image rest = refl
value_words kinds.Index16 rest = refl
value_words kinds.EntryPtr rest = refl
value_words kinds.EntryTyped rest = refl
value_words kinds.TagOf rest = refl
value_words kinds.TableFn rest = refl
value_words kinds.JumpOff rest = refl
value_words kinds.JumpDest rest = refl

value_plain : (k : Kind) → IsPlain (kind_name k)
value_plain kinds.Any = (refl, (refl, (refl, tt)))
value_plain kinds.Num = (refl, (refl, (refl, tt)))
value_plain kinds.Const = (refl, (refl, (refl, (refl, (refl, (refl, tt))))))
value_plain kinds.Below = (refl, (refl, (refl, (refl, (refl, (refl, tt))))))
value_plain kinds.Low = (refl, (refl, (refl, (refl, tt))))
value_plain kinds.Both = (refl, (refl, (refl, (refl, (refl, tt)))))
value_plain kinds.HeapBase = (refl, (refl, (refl, (refl, (refl, (refl, (refl, (refl, tt))))))))
value_plain kinds.HeapAddr = (refl, (refl, (refl, (refl, (refl, (refl, (refl, (refl, tt))))))))
value_plain kinds.Globals = (refl, (refl, (refl, (refl, (refl, (refl, (refl, tt)))))))
value_plain kinds.Entry = (refl, (refl, (refl, (refl, (refl, (refl, tt))))))
value_plain kinds.Image = (refl, (refl, (refl, (refl, (refl, (refl, tt))))))
value_plain kinds.Index16 = (refl, (refl, (refl, (refl, (refl, (refl, tt))))))
value_plain kinds.EntryPtr = (refl, (refl, (refl, (refl, (refl, (refl, (refl, (refl, (refl, tt)))))))))
value_plain kinds.EntryTyped = (refl, (refl, (refl, (refl, (refl, (refl, (refl, (refl, (refl, (refl, (refl, tt)))))))))))
value_plain kinds.TagOf = (refl, (refl, (refl, (refl, tt))))
value_plain kinds.TableFn = (refl, (refl, (refl, (refl, (refl, (refl, (refl, (refl, tt))))))))
value_plain kinds.JumpOff = (refl, (refl, (refl, (refl, (refl, (refl, (refl, (refl, tt))))))))
value_plain kinds.JumpDest = (refl, (refl, (refl, (refl, (refl, (refl, (refl, (refl, (refl, tt)))))))))

value_printed : (v : Value) → (choice all_kinds kind_name kind_of value_args Breaks).Is v → (choice all_kinds kind_name kind_of value_args Breaks).text v ≡ value_text v
unfolding register via mark table hex16 digits_of_hex number
value_printed Any h = refl
value_printed Num h = refl
value_printed (Const c) h = refl
value_printed (Below k) h = refl
value_printed (Low k) h = refl
value_printed (Both k) h = refl
value_printed HeapBase h = refl
value_printed HeapAddr h = refl
value_printed Globals h = refl
value_printed (Entry r) h = refl
value_printed (Image a) h = refl
value_printed (Index16 k None) h = refl
value_printed (Index16 k (Some m)) h = refl
value_printed (EntryPtr t) h = refl
value_printed (EntryTyped t g) h = refl
value_printed (TagOf t v) h = refl
value_printed (TableFn t g) h = refl
value_printed (JumpOff a k) h = refl
value_printed (JumpDest a k) h = refl

pub value_laws : Laws value
unfolding value
value_laws = printed_laws value_text (choice all_kinds kind_name kind_of value_args Breaks) value_printed
    (choice_laws all_kinds kind_name kind_of value_args Breaks (λ v rest h. value_words (kind_of v) _) value_kinds value_stop value_plain value_args_laws)
