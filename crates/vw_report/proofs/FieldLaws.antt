-- The laws of places, slots and the other fields, and of a point's line.
use Rattle.std.proofs.Common.{◌≡◌, ℕ, zero, suc, ◌<◌, Bool, true, false, cond, List, [], ◌∷◌, ◌++◌, map, Option, Some, None, refl, sym, ap, append_assoc, arith}
use Rattle.std.specs.Prelude.{codes, ◌==◌, ◌&&◌, ◌||◌, ℤ}
use Rattle.std.specs.List.{flat_map}
use Rattle.std.specs.Fmt.{decimal, digits}
use Rattle.std.proofs.lemmas.Bool.Decides.{nat_tests}
use Rattle.vw_report.specs.ValueText.{place_text, register_text}
use Rattle.vw_report.specs.StateText.{class_text, fact_text, known_text, known_value, register_mark, registers, registers_text, state_text}
use Rattle.vw_report.specs.Lines.{ListedPoint, entry_line, point_line}
use Rattle.vw_report.specs.Items.{AreFields, IsMaybe, Item, after, choice, either, fields, first_word, many, marked, maybe, pair, seen}
use Rattle.vw_report.specs.NumberItems.{digits_of_hex, number}
use Rattle.vw_report.specs.Grammar.{Always, Breaks, Follows, HasSpot, InFlags, InFrame, InRegister, SpotKind, Stops, after_probed, after_slots, class, class_of, class_parts, classes, colon, compared, entry, entry_item, equals, fact, fact_of, fact_parts, further, hex16, hex8, is_among, is_break, is_known, newline, of_parts, of_point, offsets, or_any, parts, parts_of, place, point, point_item, point_of, range, register, shown_value, signed, size, slot, slot_of, slot_parts, slots, spot_args, spot_kind, spot_name, spot_offset, spot_register, value, values, width, written}
use Rattle.vw_names.specs.declared.spot.Spot.{Spot}
use Rattle.vw_names.specs.declared.spot.Spot.TheVariants as spots
use Rattle.vw_domain.specs.declared.state_parts.Slot.{Slot}
use Rattle.vw_domain.specs.declared.parts.Fact.{Fact}
use Rattle.vw_domain.specs.declared.parts.Fact.TheVariants.{Unknown, Compare}
use Rattle.vw_values.specs.declared.value.Value.{Value}
use Rattle.vw_values.specs.declared.value.Value.TheVariants.{Any}
use Rattle.vw_report.proofs.ItemLaws.{IsPlain, Laws, printed_laws, tested_laws, seen_laws, pair_laws, marked_laws, LineLaws, line_laws}
use Rattle.vw_report.proofs.ListLaws.{choice_laws, nothing_laws, maybe_laws, either_laws, many_laws, fields_laws, AreApart, AllStop, AllPlain, NoneBegins}
use Rattle.vw_report.proofs.NumberLaws.{number_laws}
use Rattle.vw_report.proofs.ValueLaws.{signed_laws, register_laws, value_laws, hex16_laws, hex8_laws, stops_digits, breaks_stop}

-- ---- what follows
follow_break : (letters rest : List ℕ) → Follows letters rest → Breaks rest
follow_break letters [] h = absurd cc
follow_break letters (b ∷ []) h = ten b h
  where
    ten : (b : ℕ) → (b == 10) ≡ true → is_break b ≡ true
    ten b h = grind (arith, nat_tests)
follow_break letters (b ∷ c ∷ rest) h = either_is b (is_among c letters) h
  where
    either_is : (b : ℕ) (q : Bool) → (b == 10 || (b == 32 && q)) ≡ true → is_break b ≡ true
    either_is b q h = grind (arith, nat_tests)

-- more letters let more follow
abbrev AreAmong : List ℕ → List ℕ → Type 0
AreAmong [] letters = Unit {0}
AreAmong (c ∷ cs) letters = (is_among c letters ≡ true) × AreAmong cs letters

among_more : (c : ℕ) (few many : List ℕ) → AreAmong few many → is_among c few ≡ true → is_among c many ≡ true
among_more c [] many h e = absurd cc
among_more c (d ∷ few) many h e = go (c == d) refl (among_more c few many h.1) e
  where
    go : (q : Bool) → (c == d) ≡ q → (is_among c few ≡ true → is_among c many ≡ true) → (q || is_among c few) ≡ true → is_among c many ≡ true
    go true p again e = let s : c ≡ d = grind arith in rw s h.0
    go false p again e = again e

follow_more : (few many rest : List ℕ) → AreAmong few many → Follows few rest → Follows many rest
follow_more few many [] a h = absurd cc
follow_more few many (b ∷ []) a h = h
follow_more few many (b ∷ c ∷ rest) a h = go b (is_among c few) (is_among c many) (among_more c few many a) h
  where
    go : (b : ℕ) (p q : Bool) → (p ≡ true → q ≡ true) → (b == 10 || (b == 32 && p)) ≡ true → (b == 10 || (b == 32 && q)) ≡ true
    go b true q f h = rw (f refl) h
    go b false true f h = grind (arith, nat_tests)
    go b false false f h = h

-- a letter that is not among these does not follow
no_letter : (c : ℕ) (s letters rest : List ℕ) → is_among c letters ≡ false → Follows letters rest → after (32 ∷ c ∷ s) rest ≡ None
no_letter c s letters [] a h = absurd cc
no_letter c s letters (b ∷ []) a h = go b h
  where
    go : (b : ℕ) → (b == 10) ≡ true → after (32 ∷ c ∷ s) (b ∷ []) ≡ None
    go b h = let n : (b == 32) ≡ false = grind (arith, nat_tests) in rw n refl
no_letter c s letters (b ∷ d ∷ rest) a h = go (b == 32) (d == c) refl refl
  where
    go : (p q : Bool) → (b == 32) ≡ p → (d == c) ≡ q → cond p (cond q (after s rest) None) None ≡ None
    go false q e f = refl
    go true false e f = refl
    go true true e f =
        let b-is : b ≡ 32 = grind arith in
        let d-is : d ≡ c = grind arith in
        let k : (32 == 10 || (32 == 32 && is_among c letters)) ≡ true = rw (b-is, d-is) at h in
        absurd (let no : is_among c letters ≡ true = k in cc)

-- ---- places
flags_back : (x : Spot) → spot_kind x ≡ InFrame → spots.Slot (spot_offset x) ≡ x
flags_back (spots.Reg r) h = absurd cc
flags_back spots.Flags h = absurd cc
flags_back (spots.Slot o) h = refl

register_back : (x : Spot) → spot_kind x ≡ InRegister → spots.Reg (spot_register x) ≡ x
register_back (spots.Reg r) h = refl
register_back spots.Flags h = absurd cc
register_back (spots.Slot o) h = absurd cc

spot_args_laws : (k : SpotKind) → Laws (spot_args k)
spot_args_laws InFlags = nothing_laws spots.Flags
spot_args_laws InFrame = seen_laws spots.Slot spot_offset (λ x. spot_kind x ≡ InFrame) signed flags_back (λ o h. refl) (λ o h. refl) signed_laws
spot_args_laws InRegister = seen_laws spots.Reg spot_register (λ x. spot_kind x ≡ InRegister) register register_back (λ o h. refl) (λ o h. refl) register_laws

abbrev spot_kinds : List SpotKind
spot_kinds = InFlags ∷ InFrame ∷ InRegister ∷ []

register_word : (r : ℕ) (rest : List ℕ) → r < 16 → first_word spot_kinds spot_name (register_text r ++ rest) ≡ Some (InRegister, register_text r ++ rest)
register_word zero rest h = refl
register_word (suc zero) rest h = refl
register_word (suc (suc zero)) rest h = refl
register_word (suc (suc (suc zero))) rest h = refl
register_word (suc (suc (suc (suc zero)))) rest h = refl
register_word (suc (suc (suc (suc (suc zero))))) rest h = refl
register_word (suc (suc (suc (suc (suc (suc zero)))))) rest h = refl
register_word (suc (suc (suc (suc (suc (suc (suc zero))))))) rest h = refl
register_word (suc (suc (suc (suc (suc (suc (suc (suc zero)))))))) rest h = refl
register_word (suc (suc (suc (suc (suc (suc (suc (suc (suc zero))))))))) rest h = refl
register_word (suc (suc (suc (suc (suc (suc (suc (suc (suc (suc zero)))))))))) rest h = refl
register_word (suc (suc (suc (suc (suc (suc (suc (suc (suc (suc (suc zero))))))))))) rest h = refl
register_word (suc (suc (suc (suc (suc (suc (suc (suc (suc (suc (suc (suc zero)))))))))))) rest h = refl
register_word (suc (suc (suc (suc (suc (suc (suc (suc (suc (suc (suc (suc (suc zero))))))))))))) rest h = refl
register_word (suc (suc (suc (suc (suc (suc (suc (suc (suc (suc (suc (suc (suc (suc zero)))))))))))))) rest h = refl
register_word (suc (suc (suc (suc (suc (suc (suc (suc (suc (suc (suc (suc (suc (suc (suc zero))))))))))))))) rest h = refl
register_word (suc (suc (suc (suc (suc (suc (suc (suc (suc (suc (suc (suc (suc (suc (suc (suc r)))))))))))))))) rest h = absurd (omega arith)

spot_words : (x : Spot) (rest : List ℕ) → (spot_args (spot_kind x)).Is x → first_word spot_kinds spot_name (spot_name (spot_kind x) ++ ((spot_args (spot_kind x)).text x ++ rest)) ≡ Some (spot_kind x, (spot_args (spot_kind x)).text x ++ rest)
unfolding register
spot_words (spots.Reg r) rest h = register_word r rest h.1
spot_words spots.Flags rest h = refl
spot_words (spots.Slot o) rest h = refl

spot_kinds_tell : (k : SpotKind) (x : Spot) → (spot_args k).Is x → spot_kind x ≡ k
spot_kinds_tell InFlags x h = ap spot_kind (sym h)
spot_kinds_tell InFrame x h = h.0
spot_kinds_tell InRegister x h = h.0

spot_stop : (k : SpotKind) (rest : List ℕ) → Stops rest → (spot_args k).Ends rest
unfolding signed register
spot_stop InFlags rest h = tt
spot_stop InFrame rest h = h
spot_stop InRegister rest h = tt

spot_plain : (k : SpotKind) → IsPlain (spot_name k)
spot_plain InFlags = (refl, (refl, (refl, (refl, (refl, tt)))))
spot_plain InFrame = (refl, tt)
spot_plain InRegister = tt

place_printed : (x : Spot) → (choice spot_kinds spot_name spot_kind spot_args Stops).Is x → (choice spot_kinds spot_name spot_kind spot_args Stops).text x ≡ place_text x
unfolding register signed
place_printed (spots.Reg r) h = refl
place_printed spots.Flags h = refl
place_printed (spots.Slot o) h = refl

pub place_laws : Laws place
unfolding place
place_laws = printed_laws place_text (choice spot_kinds spot_name spot_kind spot_args Stops) place_printed
    (choice_laws spot_kinds spot_name spot_kind spot_args Stops spot_words spot_kinds_tell spot_stop spot_plain spot_args_laws)

place_ends : (rest : List ℕ) → Stops rest → place.Ends rest
unfolding place
place_ends rest h = h

break_equals : (rest : List ℕ) → Breaks rest → after equals rest ≡ None
break_equals [] h = absurd h
break_equals (b ∷ rest) h = rw (no b h) refl
  where
    no : (b : ℕ) → is_break b ≡ true → (b == 61) ≡ false
    no b h = grind (arith, nat_tests)

further_laws : Laws further
unfolding further
further_laws = many_laws 61 [] place Breaks (refl, tt) (λ rest. place_ends _ refl) break_equals (λ rest h. place_ends rest (breaks_stop rest h)) place_laws

further_stops : (xs : List Spot) (rest : List ℕ) → Breaks rest → Stops (further.text xs ++ rest)
unfolding further
further_stops [] rest h = breaks_stop rest h
further_stops (x ∷ xs) rest h = refl

further_ends : (rest : List ℕ) → further.Ends rest → Breaks rest
unfolding further
further_ends rest h = h

ends_further : (rest : List ℕ) → Breaks rest → further.Ends rest
unfolding further
ends_further rest h = h

class_back : (xs : List Spot) → HasSpot xs → class_of (class_parts xs) ≡ xs
class_back [] h = absurd h
class_back (x ∷ xs) h = refl

class_printed : (xs : List Spot) → (seen class_of class_parts HasSpot (pair [] place further)).Is xs → (seen class_of class_parts HasSpot (pair [] place further)).text xs ≡ class_text xs
unfolding place further
class_printed [] h = absurd h.0
class_printed (x ∷ xs) h = refl

pub class_laws : Laws class
unfolding class
class_laws = printed_laws class_text (seen class_of class_parts HasSpot (pair [] place further)) class_printed
    (seen_laws class_of class_parts HasSpot (pair [] place further) class_back (λ x h. refl) (λ x h. tt)
    (pair_laws [] place further tt (λ xs rest h ends. place_ends _ (further_stops xs rest (further_ends rest ends))) place_laws further_laws))

class_ends : (rest : List ℕ) → Breaks rest → class.Ends rest
unfolding class
class_ends rest h = ends_further rest h

-- ---- slots
is_same : (n m : ℕ) → (n == m) ≡ true → n ≡ m
is_same n m h = grind (arith, nat_tests)

abbrev sizes : Item ℕ
sizes = either (λ n. n == 4) (codes "/4=") (codes "/8=") 4 8

size_printed : (n : ℕ) → sizes.Is n → sizes.text n ≡ codes "/" ++ (decimal n ++ codes "=")
unfolding digits
size_printed n h = go (n == 4) refl h
  where
    go : (b : Bool) → (n == 4) ≡ b → n ≡ cond b 4 8 → cond b (codes "/4=") (codes "/8=") ≡ codes "/" ++ (decimal n ++ codes "=")
    go true t is = ap (λ (m : ℕ). codes "/" ++ (decimal m ++ codes "=")) (sym is)
    go false t is = ap (λ (m : ℕ). codes "/" ++ (decimal m ++ codes "=")) (sym is)

pub size_laws : Laws size
unfolding size
size_laws = printed_laws (λ n. codes "/" ++ (decimal n ++ codes "=")) sizes size_printed
    (either_laws (λ n. n == 4) (codes "/4=") (codes "/8=") 4 8 (refl, (refl, (refl, tt))) (refl, (refl, (refl, tt))) refl refl (λ rest. refl))

size_stops : (n : ℕ) (rest : List ℕ) → Stops (size.text n ++ rest)
unfolding size
size_stops n rest = refl

size_ends : (rest : List ℕ) → size.Ends rest
unfolding size
size_ends rest = tt

signed_ends : (rest : List ℕ) → Stops rest → signed.Ends rest
unfolding signed
signed_ends rest h = h

value_ends : (rest : List ℕ) → Breaks rest → value.Ends rest
unfolding value
value_ends rest h = h

pub slot_laws : Laws slot
unfolding slot
slot_laws = seen_laws slot_of slot_parts Always (pair [] signed (pair [] size value)) (λ s h. refl) (λ x h. refl) (λ x h. tt)
    (pair_laws [] signed (pair [] size value) tt (λ x rest h ends. signed_ends _ (rw append_assoc (size_stops x.0 _))) signed_laws
    (pair_laws [] size value tt (λ x rest h ends. size_ends _) size_laws value_laws))

slot_ends : (rest : List ℕ) → Breaks rest → slot.Ends rest
unfolding slot
slot_ends rest h = value_ends rest h

-- ---- facts and ranges
abbrev widths : Item ℕ
widths = either (λ n. n == 32) (codes "32:") (codes "64:") 32 64

width_printed : (n : ℕ) → widths.Is n → widths.text n ≡ decimal n ++ codes ":"
unfolding digits
width_printed n h = go (n == 32) refl h
  where
    go : (b : Bool) → (n == 32) ≡ b → n ≡ cond b 32 64 → cond b (codes "32:") (codes "64:") ≡ decimal n ++ codes ":"
    go true t is = ap (λ (m : ℕ). decimal m ++ codes ":") (sym is)
    go false t is = ap (λ (m : ℕ). decimal m ++ codes ":") (sym is)

pub width_laws : Laws width
unfolding width
width_laws = printed_laws (λ n. decimal n ++ codes ":") widths width_printed
    (either_laws (λ n. n == 32) (codes "32:") (codes "64:") 32 64 (refl, (refl, (refl, tt))) (refl, (refl, (refl, tt))) refl refl (λ rest. refl))

width_ends : (rest : List ℕ) → width.Ends rest
unfolding width
width_ends rest = tt

compared_laws : Laws compared
unfolding compared
compared_laws = pair_laws [] width number tt (λ x rest h ends. width_ends _) width_laws number_laws

compared_ends : (rest : List ℕ) → Breaks rest → compared.Ends rest
unfolding compared
compared_ends rest h = stops_digits rest (breaks_stop rest h)

fact_back : (f : Fact) → Always f → fact_of (fact_parts f) ≡ f
fact_back Unknown h = refl
fact_back (Compare w k) h = refl

fact_forth : (x : Option (ℕ × ℕ)) → IsMaybe compared x → fact_parts (fact_of x) ≡ x
fact_forth None h = refl
fact_forth (Some x) h = refl

abbrev facts : Item Fact
facts = seen fact_of fact_parts Always (maybe (codes " f") compared (Follows (codes "w")))

fact_printed : (f : Fact) → facts.Is f → facts.text f ≡ fact_text f
unfolding compared width number
fact_printed Unknown h = refl
fact_printed (Compare w k) h = refl

pub fact_laws : Laws fact
unfolding fact
fact_laws = printed_laws fact_text facts fact_printed
    (seen_laws fact_of fact_parts Always (maybe (codes " f") compared (Follows (codes "w"))) fact_back fact_forth (λ x h. tt)
    (maybe_laws (codes " f") compared (Follows (codes "w")) (refl, (refl, tt)) (λ rest h. no_letter 102 [] (codes "w") rest refl h) (λ rest h. compared_ends rest (follow_break (codes "w") rest h)) compared_laws))

pub range_laws : Laws range
unfolding range
range_laws = pair_laws colon signed signed (refl, tt) (λ b rest h ends. signed_ends _ refl) signed_laws signed_laws

range_ends : (rest : List ℕ) → Breaks rest → range.Ends rest
unfolding range
range_ends rest h = signed_ends rest (breaks_stop rest h)

pub written_laws : Laws written
unfolding written
written_laws = many_laws 32 (119 ∷ []) range (Follows []) (refl, (refl, tt)) (λ rest. range_ends _ refl) (λ rest h. no_letter 119 [] [] rest refl h) (λ rest h. range_ends rest (follow_break [] rest h)) range_laws

pub classes_laws : Laws classes
unfolding classes
classes_laws = many_laws 32 (101 ∷ []) class (Follows (codes "fw")) (refl, (refl, tt)) (λ rest. class_ends _ refl) (λ rest h. no_letter 101 [] (codes "fw") rest refl h) (λ rest h. class_ends rest (follow_break (codes "fw") rest h)) class_laws

pub slots_laws : Laws slots
unfolding slots
slots_laws = many_laws 32 (115 ∷ []) slot (Follows (codes "efw")) (refl, (refl, tt)) (λ rest. slot_ends _ refl) (λ rest h. no_letter 115 [] (codes "efw") rest refl h) (λ rest h. slot_ends rest (follow_break (codes "efw") rest h)) slot_laws

-- ---- fields of registers
none_begins : (letter : ℕ) (rs letters rest : List ℕ) → is_among letter letters ≡ false → Follows letters rest → NoneBegins (map (register_mark letter) rs) rest
none_begins letter [] letters rest a h = tt
none_begins letter (r ∷ rs) letters rest a h = (no_letter letter (register_text r ++ equals) letters rest a h, none_begins letter rs letters rest a h)

offset_apart : AreApart (map (register_mark 111) registers)
offset_apart = ((refl, (refl, (refl, (refl, (refl, (refl, (refl, (refl, (refl, (refl, (refl, (refl, (refl, (refl, (refl, tt))))))))))))))), ((refl, (refl, (refl, (refl, (refl, (refl, (refl, (refl, (refl, (refl, (refl, (refl, (refl, (refl, tt)))))))))))))), ((refl, (refl, (refl, (refl, (refl, (refl, (refl, (refl, (refl, (refl, (refl, (refl, (refl, tt))))))))))))), ((refl, (refl, (refl, (refl, (refl, (refl, (refl, (refl, (refl, (refl, (refl, (refl, tt)))))))))))), ((refl, (refl, (refl, (refl, (refl, (refl, (refl, (refl, (refl, (refl, (refl, tt))))))))))), ((refl, (refl, (refl, (refl, (refl, (refl, (refl, (refl, (refl, (refl, tt)))))))))), ((refl, (refl, (refl, (refl, (refl, (refl, (refl, (refl, (refl, tt))))))))), ((refl, (refl, (refl, (refl, (refl, (refl, (refl, (refl, tt)))))))), ((refl, (refl, (refl, (refl, (refl, (refl, (refl, tt))))))), ((refl, (refl, (refl, (refl, (refl, (refl, tt)))))), ((refl, (refl, (refl, (refl, (refl, tt))))), ((refl, (refl, (refl, (refl, tt)))), ((refl, (refl, (refl, tt))), ((refl, (refl, tt)), ((refl, tt), (tt, tt))))))))))))))))

value_apart : AreApart (map (register_mark 118) registers)
value_apart = ((refl, (refl, (refl, (refl, (refl, (refl, (refl, (refl, (refl, (refl, (refl, (refl, (refl, (refl, (refl, tt))))))))))))))), ((refl, (refl, (refl, (refl, (refl, (refl, (refl, (refl, (refl, (refl, (refl, (refl, (refl, (refl, tt)))))))))))))), ((refl, (refl, (refl, (refl, (refl, (refl, (refl, (refl, (refl, (refl, (refl, (refl, (refl, tt))))))))))))), ((refl, (refl, (refl, (refl, (refl, (refl, (refl, (refl, (refl, (refl, (refl, (refl, tt)))))))))))), ((refl, (refl, (refl, (refl, (refl, (refl, (refl, (refl, (refl, (refl, (refl, tt))))))))))), ((refl, (refl, (refl, (refl, (refl, (refl, (refl, (refl, (refl, (refl, tt)))))))))), ((refl, (refl, (refl, (refl, (refl, (refl, (refl, (refl, (refl, tt))))))))), ((refl, (refl, (refl, (refl, (refl, (refl, (refl, (refl, tt)))))))), ((refl, (refl, (refl, (refl, (refl, (refl, (refl, tt))))))), ((refl, (refl, (refl, (refl, (refl, (refl, tt)))))), ((refl, (refl, (refl, (refl, (refl, tt))))), ((refl, (refl, (refl, (refl, tt)))), ((refl, (refl, (refl, tt))), ((refl, (refl, tt)), ((refl, tt), (tt, tt))))))))))))))))

offset_plain : AllPlain (map (register_mark 111) registers)
offset_plain = ((refl, (refl, (refl, (refl, (refl, (refl, tt)))))), ((refl, (refl, (refl, (refl, (refl, (refl, tt)))))), ((refl, (refl, (refl, (refl, (refl, (refl, tt)))))), ((refl, (refl, (refl, (refl, (refl, (refl, tt)))))), ((refl, (refl, (refl, (refl, (refl, (refl, tt)))))), ((refl, (refl, (refl, (refl, (refl, (refl, tt)))))), ((refl, (refl, (refl, (refl, (refl, (refl, tt)))))), ((refl, (refl, (refl, (refl, (refl, (refl, tt)))))), ((refl, (refl, (refl, (refl, (refl, tt))))), ((refl, (refl, (refl, (refl, (refl, tt))))), ((refl, (refl, (refl, (refl, (refl, (refl, tt)))))), ((refl, (refl, (refl, (refl, (refl, (refl, tt)))))), ((refl, (refl, (refl, (refl, (refl, (refl, tt)))))), ((refl, (refl, (refl, (refl, (refl, (refl, tt)))))), ((refl, (refl, (refl, (refl, (refl, (refl, tt)))))), ((refl, (refl, (refl, (refl, (refl, (refl, tt)))))), tt))))))))))))))))

value_plain : AllPlain (map (register_mark 118) registers)
value_plain = ((refl, (refl, (refl, (refl, (refl, (refl, tt)))))), ((refl, (refl, (refl, (refl, (refl, (refl, tt)))))), ((refl, (refl, (refl, (refl, (refl, (refl, tt)))))), ((refl, (refl, (refl, (refl, (refl, (refl, tt)))))), ((refl, (refl, (refl, (refl, (refl, (refl, tt)))))), ((refl, (refl, (refl, (refl, (refl, (refl, tt)))))), ((refl, (refl, (refl, (refl, (refl, (refl, tt)))))), ((refl, (refl, (refl, (refl, (refl, (refl, tt)))))), ((refl, (refl, (refl, (refl, (refl, tt))))), ((refl, (refl, (refl, (refl, (refl, tt))))), ((refl, (refl, (refl, (refl, (refl, (refl, tt)))))), ((refl, (refl, (refl, (refl, (refl, (refl, tt)))))), ((refl, (refl, (refl, (refl, (refl, (refl, tt)))))), ((refl, (refl, (refl, (refl, (refl, (refl, tt)))))), ((refl, (refl, (refl, (refl, (refl, (refl, tt)))))), ((refl, (refl, (refl, (refl, (refl, (refl, tt)))))), tt))))))))))))))))

known_laws : Laws shown_value
unfolding shown_value
known_laws = tested_laws is_known value value_laws

known_ends : (rest : List ℕ) → Breaks rest → shown_value.Ends rest
unfolding shown_value
known_ends rest h = value_ends rest h

known_stop : (rs : List ℕ) → AllStop shown_value (map (register_mark 118) rs)
known_stop [] = tt
known_stop (r ∷ rs) = (λ rest. known_ends _ refl, known_stop rs)

signed_stop : (rs : List ℕ) → AllStop signed (map (register_mark 111) rs)
signed_stop [] = tt
signed_stop (r ∷ rs) = (λ rest. signed_ends _ refl, signed_stop rs)

known_back : (v : Value) → or_any (known_value v) ≡ v
known_back Any = refl
known_back _ = refl

known_forth : (v : Value) → is_known v ≡ true → known_value v ≡ Some v
known_forth Any h = absurd cc
known_forth _ h = refl

known_test : (v : Value) → shown_value.Is v → is_known v ≡ true
unfolding shown_value
known_test v h = h.1

values_back : (vs : List Value) → map or_any (map known_value vs) ≡ vs
values_back [] = refl
values_back (v ∷ vs) = let a = known_back v in let b = values_back vs in cc

values_forth : (ms : List (List ℕ)) (xs : List (Option Value)) → AreFields ms shown_value xs → map known_value (map or_any xs) ≡ xs
values_forth ms [] h = refl
values_forth [] (x ∷ xs) h = absurd h
values_forth (m ∷ ms) (None ∷ xs) h = ap (λ (ys : List (Option Value)). None ∷ ys) (values_forth ms xs h.1)
values_forth (m ∷ ms) (Some v ∷ xs) h = let a = known_forth v (known_test v h.0) in let b = values_forth ms xs h.1 in cc

pub offsets_laws : Laws offsets
unfolding offsets
offsets_laws = fields_laws (map (register_mark 111) registers) signed (Follows (codes "vsefw")) offset_plain offset_apart (signed_stop registers)
    (λ rest h. none_begins 111 registers (codes "vsefw") rest refl h) (λ rest h. signed_ends rest (breaks_stop rest (follow_break (codes "vsefw") rest h))) signed_laws

pub values_laws : Laws values
unfolding values
values_laws = seen_laws (map or_any) (map known_value) Always (fields (map (register_mark 118) registers) shown_value (Follows (codes "sefw"))) (λ vs h. values_back vs) (λ xs h. values_forth (map (register_mark 118) registers) xs h) (λ xs h. tt)
    (fields_laws (map (register_mark 118) registers) shown_value (Follows (codes "sefw")) value_plain value_apart (known_stop registers)
    (λ rest h. none_begins 118 registers (codes "sefw") rest refl h) (λ rest h. known_ends rest (follow_break (codes "sefw") rest h)) known_laws)

-- ---- one field after the other
many_follow : {A : Type 0} (c : ℕ) (i : Item A) (few many : List ℕ) → AreAmong few many → is_among c many ≡ true → (xs : List A) (rest : List ℕ) → Follows few rest → Follows many (flat_map (λ y. (32 ∷ c ∷ []) ++ i.text y) xs ++ rest)
many_follow c i few many a b [] rest h = follow_more few many rest a h
many_follow c i few many a b (x ∷ xs) rest h = b

maybe_follow : {A : Type 0} (c : ℕ) (i : Item A) (few many : List ℕ) → AreAmong few many → is_among c many ≡ true → (x : Option A) (rest : List ℕ) → Follows few rest → Follows many (known_text i.text (32 ∷ c ∷ []) x ++ rest)
maybe_follow c i few many a b None rest h = follow_more few many rest a h
maybe_follow c i few many a b (Some x) rest h = b

fields_follow : {A : Type 0} (c : ℕ) (rs : List ℕ) (i : Item A) (few many : List ℕ) → AreAmong few many → is_among c many ≡ true → (xs : List (Option A)) (rest : List ℕ) → Follows few rest → Follows many (registers_text i.text (map (register_mark c) rs) xs ++ rest)
fields_follow c [] i few many a b xs rest h = follow_more few many rest a h
fields_follow c (r ∷ rs) i few many a b [] rest h = follow_more few many rest a h
fields_follow c (r ∷ rs) i few many a b (None ∷ xs) rest h = fields_follow c rs i few many a b xs rest h
fields_follow c (r ∷ rs) i few many a b (Some x ∷ xs) rest h = b

fact_follow : (f : Fact) (rest : List ℕ) → written.Ends rest → (xs : List (_ × _)) → Follows (119 ∷ []) (written.text xs ++ rest)
unfolding written
fact_follow f rest h xs = many_follow 119 range [] (119 ∷ []) tt refl xs rest h

written_last : Laws (pair [] fact written)
unfolding fact
written_last = pair_laws [] fact written tt (λ xs rest h ends. fact_follow Unknown rest ends xs) fact_laws written_laws

fact_first : (f : Fact) (rest : List ℕ) → Follows (codes "w") rest → Follows (codes "fw") (fact.text f ++ rest)
unfolding fact
fact_first Unknown rest h = follow_more (codes "w") (codes "fw") rest (refl, tt) h
fact_first (Compare w k) rest h = refl

after_slots_laws : Laws after_slots
unfolding after_slots classes
after_slots_laws = pair_laws [] classes (pair [] fact written) tt (λ x rest h ends. rw append_assoc (fact_first x.0 _ (fact_follow Unknown rest ends x.1))) classes_laws written_last

classes_first : (xs : List (List Spot)) (rest : List ℕ) → Follows (codes "fw") rest → Follows (codes "efw") (classes.text xs ++ rest)
unfolding classes
classes_first xs rest h = many_follow 101 class (codes "fw") (codes "efw") (refl, (refl, tt)) refl xs rest h

slots_first : (xs : List Slot) (rest : List ℕ) → Follows (codes "efw") rest → Follows (codes "sefw") (slots.text xs ++ rest)
unfolding slots
slots_first xs rest h = many_follow 115 slot (codes "efw") (codes "sefw") (refl, (refl, (refl, tt))) refl xs rest h

values_first : (xs : List Value) (rest : List ℕ) → Follows (codes "sefw") rest → Follows (codes "vsefw") (values.text xs ++ rest)
unfolding values
values_first xs rest h = fields_follow 118 registers shown_value (codes "sefw") (codes "vsefw") (refl, (refl, (refl, (refl, tt)))) refl (map known_value xs) rest h

offsets_first : (xs : List (Option ℤ)) (rest : List ℕ) → Follows (codes "vsefw") rest → Follows (codes "ovsefw") (offsets.text xs ++ rest)
unfolding offsets
offsets_first xs rest h = fields_follow 111 registers signed (codes "vsefw") (codes "ovsefw") (refl, (refl, (refl, (refl, (refl, tt))))) refl xs rest h

after_slots_first : (x : _ × (Fact × _)) (rest : List ℕ) → written.Ends rest → Follows (codes "efw") (after_slots.text x ++ rest)
unfolding after_slots
after_slots_first x rest ends = rw (append_assoc (classes.text x.0) (fact.text x.1.0 ++ written.text x.1.1) rest, append_assoc (fact.text x.1.0) (written.text x.1.1) rest) (classes_first x.0 _ (fact_first x.1.0 _ (fact_follow Unknown rest ends x.1.1)))

after_slots_ends : (rest : List ℕ) → after_slots.Ends rest → written.Ends rest
unfolding after_slots
after_slots_ends rest h = h

slots_on : Laws (pair [] slots after_slots)
unfolding slots
slots_on = pair_laws [] slots after_slots tt (λ x rest h ends. after_slots_first x rest (after_slots_ends rest ends)) slots_laws after_slots_laws

values_on : Laws (pair [] values (pair [] slots after_slots))
unfolding values
values_on = pair_laws [] values (pair [] slots after_slots) tt (λ x rest h ends. rw append_assoc (slots_first x.0 _ (after_slots_first x.1 rest (after_slots_ends rest ends)))) values_laws slots_on

after_probed_laws : Laws after_probed
unfolding after_probed offsets
after_probed_laws = pair_laws [] offsets (pair [] values (pair [] slots after_slots)) tt
    (λ x rest h ends. rw (append_assoc (values.text x.0) (slots.text x.1.0 ++ after_slots.text x.1.1) rest, append_assoc (slots.text x.1.0) (after_slots.text x.1.1) rest) (values_first x.0 _ (slots_first x.1.0 _ (after_slots_first x.1.1 rest (after_slots_ends rest ends))))) offsets_laws values_on

number_ends : (rest : List ℕ) → Breaks rest → number.Ends rest
number_ends rest h = stops_digits rest (breaks_stop rest h)

after_probed_first : (x : List (Option ℤ) × (List Value × (List Slot × (List (List Spot) × (Fact × List (ℤ × ℤ)))))) (rest : List ℕ) → written.Ends rest → Follows (codes "ovsefw") (after_probed.text x ++ rest)
unfolding after_probed
after_probed_first x rest ends = rw (append_assoc (offsets.text x.0) (values.text x.1.0 ++ (slots.text x.1.1.0 ++ after_slots.text x.1.1.1)) rest, append_assoc (values.text x.1.0) (slots.text x.1.1.0 ++ after_slots.text x.1.1.1) rest, append_assoc (slots.text x.1.1.0) (after_slots.text x.1.1.1) rest)
    (offsets_first x.0 _ (values_first x.1.0 _ (slots_first x.1.1.0 _ (after_slots_first x.1.1.1 rest ends))))

after_probed_ends : (rest : List ℕ) → after_probed.Ends rest → written.Ends rest
unfolding after_probed
after_probed_ends rest h = after_slots_ends rest h

pub parts_laws : Laws parts
unfolding parts
parts_laws = seen_laws parts_of of_parts Always (pair [] number after_probed) (λ s h. refl) (λ x h. refl) (λ x h. tt)
    (pair_laws [] number after_probed tt (λ x rest h ends. number_ends _ (follow_break (codes "ovsefw") _ (after_probed_first x rest (after_probed_ends rest ends)))) number_laws after_probed_laws)

parts_close : (rest : List ℕ) → parts.Ends (newline ++ rest)
unfolding parts after_probed after_slots written
parts_close [] = refl
parts_close (b ∷ rest) = refl

hex8_ends : (rest : List ℕ) → hex8.Ends rest
unfolding hex8 digits_of_hex
hex8_ends rest = tt

pub point_laws : Laws point
unfolding point
point_laws = seen_laws point_of of_point Always (marked (codes "at ") (pair (codes " p") hex8 parts)) (λ s h. refl) (λ x h. refl) (λ x h. tt)
    (marked_laws (codes "at ") (pair (codes " p") hex8 parts) (refl, (refl, (refl, tt))) (pair_laws (codes " p") hex8 parts (refl, (refl, tt)) (λ x rest h ends. hex8_ends _) hex8_laws parts_laws))

point_close : (rest : List ℕ) → point.Ends (newline ++ rest)
unfolding point
point_close rest = parts_close rest

pub point_item_laws : LineLaws point_item
unfolding point_item
point_item_laws = line_laws point point_close point_laws

pub entry_laws : Laws entry
unfolding entry
entry_laws = marked_laws (codes "function ") hex16 (refl, (refl, (refl, (refl, (refl, (refl, (refl, (refl, (refl, tt))))))))) hex16_laws

entry_close : (rest : List ℕ) → entry.Ends (newline ++ rest)
unfolding entry hex16 digits_of_hex
entry_close rest = tt

pub entry_item_laws : LineLaws entry_item
unfolding entry_item
entry_item_laws = line_laws entry entry_close entry_laws

-- ---- the lines are those of a report

pub point_item_text : (p : ListedPoint) → point_item.text p ≡ point_line p
unfolding point_item point parts after_probed after_slots offsets values slots classes fact written signed shown_value value slot size class range number hex8 digits_of_hex state_text
point_item_text p = refl

pub entry_item_text : (e : ℕ) → entry_item.text e ≡ entry_line e
unfolding entry_item entry hex16 digits_of_hex
entry_item_text e = refl
