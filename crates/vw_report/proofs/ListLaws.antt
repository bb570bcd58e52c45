-- The laws of choices and lists of items.
use Rattle.std.proofs.Common.{◌≡◌, ℕ, zero, suc, ◌<◌, ◌≤◌, Bool, true, false, cond, List, [], ◌∷◌, ◌++◌, length, length-append, Option, Some, None, refl, sym, ap, subst, ◌∙◌, append_assoc, arith}
use Rattle.std.specs.Prelude.{◌==◌}
use Rattle.std.specs.List.{flat_map}
use Rattle.vw_report.specs.StateText.{known_text, registers_text}
use Rattle.vw_report.specs.Items.{AllAre, AreFields, IsMaybe, Item, after, choice, either, fields, first_word, many, many_at, maybe, maybe_at, nothing, or_word, read_as, read_either, read_fields, read_many, read_maybe, with_first, ◌>>=◌}
use Rattle.vw_report.proofs.ItemLaws.{IsPlain, Laws, plain_append, bind_some, some_is, after_takes, after_again, first_word_takes}

pub choice_laws : {K A : Type 0} (ks : List K) (name : K → List ℕ) (kind : A → K) (args : K → Item A) (ends : List ℕ → Type 0)
    → ((a : A) (rest : List ℕ) → (args (kind a)).Is a → first_word ks name (name (kind a) ++ ((args (kind a)).text a ++ rest)) ≡ Some (kind a, (args (kind a)).text a ++ rest))
    → ((k : K) (a : A) → (args k).Is a → kind a ≡ k)
    → ((k : K) (rest : List ℕ) → ends rest → (args k).Ends rest)
    → ((k : K) → IsPlain (name k))
    → ((k : K) → Laws (args k)) → Laws (choice ks name kind args ends)
choice_laws {K} {A} ks name kind args ends words kinds stop p l = record {
  takes = λ bytes a rest e.
      let b = bind_some (first_word ks name bytes) (read_as args) (a, rest) e in
      let t = (l b.0.0).takes b.0.1 a rest b.2 in
      let k-is = kinds b.0.0 a t.0 in
      let w = first_word_takes ks name bytes b.0.0 b.0.1 b.1 in
      subst (λ (k : K). (args k).Is a × (bytes ≡ (name k ++ (args k).text a) ++ rest)) (sym k-is)
      (t.0, w ∙ ap (λ x. name b.0.0 ++ x) t.1 ∙ sym (append_assoc (name b.0.0) ((args b.0.0).text a) rest));
  again = λ a rest h ends. rw (append_assoc (name (kind a)) ((args (kind a)).text a) rest, words a rest h) ((l (kind a)).again a rest h (stop (kind a) rest ends));
  plain = λ a h. plain_append (name (kind a)) _ (p (kind a)) ((l (kind a)).plain a h);
}

pub nothing_laws : {A : Type 0} (a : A) → Laws (nothing a)
nothing_laws {A} a = record {
  takes = λ bytes b rest e.
      let x-is : (a, bytes) ≡ (b, rest) = some_is _ _ e in
      (ap (λ (y : A × List ℕ). y.0) x-is, ap (λ (y : A × List ℕ). y.1) x-is);
  again = λ b rest h ends. ap (λ x. Some (x, rest)) h;
  plain = λ b h. tt;
}

-- what stands after a literal is shorter
pub after_shorter : (c : ℕ) (s bytes rest : List ℕ) → after (c ∷ s) bytes ≡ Some rest → length rest < length bytes
after_shorter c s bytes rest e = let h = after_takes (c ∷ s) bytes rest e in omega (arith, ap length h, length-append s rest)

either_second : {A : Type 0} (s t : List ℕ) (m n : A) (bytes r : List ℕ) → after s bytes ≡ None → after t bytes ≡ Some r → read_either s t m n bytes ≡ Some (n, r)
either_second s t m n bytes r p q = rw (p, q) refl

pub either_laws : {A : Type 0} (is_first : A → Bool) (s t : List ℕ) (m n : A) → IsPlain s → IsPlain t → is_first m ≡ true → is_first n ≡ false
    → ((rest : List ℕ) → after s (t ++ rest) ≡ None) → Laws (either is_first s t m n)
either_laws {A} is_first s t m n p q im in' apart = record {
  takes = λ bytes a rest e. go bytes a rest (after s bytes) refl e;
  again = λ a rest h ends. two a rest (is_first a) refl h;
  plain = λ a h. elim (is_first a) as (λ b. IsPlain (cond b s t)) [ true ↦ p | false ↦ q ];
}
  where
    one : (bytes : List ℕ) (x : A) (r : List ℕ) (w : List ℕ) → bytes ≡ w ++ r → (x ≡ cond (is_first x) m n) → cond (is_first x) s t ≡ w → (x ≡ cond (is_first x) m n) × (bytes ≡ cond (is_first x) s t ++ r)
    one bytes x r w h i e = (i, rw e h)

    go : (bytes : List ℕ) (a : A) (rest : List ℕ) (o : Option (List ℕ)) → after s bytes ≡ o → or_word m (after t bytes >>= λ r. Some (n, r)) o ≡ Some (a, rest)
        → (a ≡ cond (is_first a) m n) × (bytes ≡ cond (is_first a) s t ++ rest)
    go bytes a rest (Some r) h e =
        let x-is : (m, r) ≡ (a, rest) = some_is _ _ e in
        subst (λ (y : A × List ℕ). (y.0 ≡ cond (is_first y.0) m n) × (bytes ≡ cond (is_first y.0) s t ++ y.1)) x-is (one bytes m r s (after_takes s bytes r h) (rw im refl) (rw im refl))
    go bytes a rest None h e =
        let b = bind_some (after t bytes) (λ r. Some (n, r)) (a, rest) e in
        let x-is : (n, b.0) ≡ (a, rest) = some_is _ _ b.2 in
        subst (λ (y : A × List ℕ). (y.0 ≡ cond (is_first y.0) m n) × (bytes ≡ cond (is_first y.0) s t ++ y.1)) x-is (one bytes n b.0 t (after_takes t bytes b.0 b.1) (rw in' refl) (rw in' refl))

    two : (a : A) (rest : List ℕ) (b : Bool) → is_first a ≡ b → a ≡ cond (is_first a) m n → read_either s t m n (cond (is_first a) s t ++ rest) ≡ Some (a, rest)
    two a rest true f h = let e : a ≡ m = rw f at h in rw (f, after_again s rest, e) refl
    two a rest false f h = let e : a ≡ n = rw f at h in rw (f, e) (either_second s t m n (t ++ rest) rest (apart rest) (after_again t rest))

-- ---- an item or nothing

pub maybe_takes : {A : Type 0} (s : List ℕ) (i : Item A) → Laws i → (bytes : List ℕ) (x : Option A) (rest : List ℕ) → read_maybe s i bytes ≡ Some (x, rest) → IsMaybe i x × (bytes ≡ known_text i.text s x ++ rest)
maybe_takes {A} s i l bytes x rest e = go (after s bytes) refl e
  where
    go : (o : Option (List ℕ)) → after s bytes ≡ o → maybe_at i bytes o ≡ Some (x, rest)
        → IsMaybe i x × (bytes ≡ known_text i.text s x ++ rest)
    go None h f =
        let none : Option A = None in
        let x-is : (none, bytes) ≡ (x, rest) = some_is _ _ f in
        subst (λ (y : Option A × List ℕ). IsMaybe i y.0 × (bytes ≡ known_text i.text s y.0 ++ y.1)) x-is (tt, refl)
    go (Some r) h f =
        let b = bind_some (i.read r) (λ y. Some (Some y.0, y.1)) (x, rest) f in
        let t = l.takes r b.0.0 b.0.1 b.1 in
        let some : Option A = Some b.0.0 in
        let x-is : (some, b.0.1) ≡ (x, rest) = some_is _ _ b.2 in
        subst (λ (y : Option A × List ℕ). IsMaybe i y.0 × (bytes ≡ known_text i.text s y.0 ++ y.1)) x-is
        (t.0, after_takes s bytes r h ∙ ap (λ z. s ++ z) t.1 ∙ sym (append_assoc s (i.text b.0.0) b.0.1))

pub maybe_none : {A : Type 0} (s : List ℕ) (i : Item A) (bytes : List ℕ) → after s bytes ≡ None → read_maybe s i bytes ≡ Some (None, bytes)
maybe_none s i bytes h = rw h refl

pub maybe_again : {A : Type 0} (s : List ℕ) (i : Item A) → Laws i → (x : Option A) (rest : List ℕ) → IsMaybe i x → (x ≡ None → after s rest ≡ None) → i.Ends rest → read_maybe s i (known_text i.text s x ++ rest) ≡ Some (x, rest)
maybe_again s i l None rest h none ends = maybe_none s i rest (none refl)
maybe_again s i l (Some a) rest h none ends = rw (append_assoc s (i.text a) rest, after_again s (i.text a ++ rest), l.again a rest h ends) refl

pub maybe_plain : {A : Type 0} (s : List ℕ) (i : Item A) → IsPlain s → Laws i → (x : Option A) → IsMaybe i x → IsPlain (known_text i.text s x)
maybe_plain s i p l None h = tt
maybe_plain s i p l (Some a) h = plain_append s (i.text a) p (l.plain a h)

pub maybe_laws : {A : Type 0} (s : List ℕ) (i : Item A) (ends : List ℕ → Type 0) → IsPlain s → ((rest : List ℕ) → ends rest → after s rest ≡ None) → ((rest : List ℕ) → ends rest → i.Ends rest) → Laws i → Laws (maybe s i ends)
maybe_laws s i ends p none stop l = record {
  takes = maybe_takes s i l;
  again = λ x rest h e. maybe_again s i l x rest h (λ _. none rest e) (stop rest e);
  plain = maybe_plain s i p l;
}

-- ---- any number

with_some : {A : Type 0} (a : A) (r : Option (List A × List ℕ)) (y : List A × List ℕ) → with_first a r ≡ Some y → (z : List A × List ℕ) × (r ≡ Some z) × ((a ∷ z.0, z.1) ≡ y)
with_some a None y e = absurd cc
with_some a (Some z) y e = (z, refl, some_is _ _ e)

pub many_takes : {A : Type 0} (c : ℕ) (s : List ℕ) (i : Item A) → Laws i → (n : ℕ) (bytes : List ℕ) (xs : List A) (rest : List ℕ) → read_many n (c ∷ s) i bytes ≡ Some (xs, rest) → AllAre i xs × (bytes ≡ flat_map (λ y. (c ∷ s) ++ i.text y) xs ++ rest)
many_takes {A} c s i l zero bytes xs rest e =
    let none : List A = [] in
    let x-is : (none, bytes) ≡ (xs, rest) = some_is _ _ e in
    subst (λ (y : List A × List ℕ). AllAre i y.0 × (bytes ≡ flat_map (λ y. (c ∷ s) ++ i.text y) y.0 ++ y.1)) x-is (tt, refl)
many_takes {A} c s i l (suc n) bytes xs rest e = go (after (c ∷ s) bytes) refl (many_takes c s i l n) e
  where
    go : (o : Option (List ℕ)) → after (c ∷ s) bytes ≡ o
        → ((bytes : List ℕ) (xs : List A) (rest : List ℕ) → read_many n (c ∷ s) i bytes ≡ Some (xs, rest) → AllAre i xs × (bytes ≡ flat_map (λ y. (c ∷ s) ++ i.text y) xs ++ rest))
        → many_at i (read_many n (c ∷ s) i) bytes o ≡ Some (xs, rest)
        → AllAre i xs × (bytes ≡ flat_map (λ y. (c ∷ s) ++ i.text y) xs ++ rest)
    go None h again f =
        let none : List A = [] in
        let x-is : (none, bytes) ≡ (xs, rest) = some_is _ _ f in
        subst (λ (y : List A × List ℕ). AllAre i y.0 × (bytes ≡ flat_map (λ y. (c ∷ s) ++ i.text y) y.0 ++ y.1)) x-is (tt, refl)
    go (Some r) h again f =
        let b = bind_some (i.read r) (λ x. with_first x.0 (read_many n (c ∷ s) i x.1)) (xs, rest) f in
        let t = l.takes r b.0.0 b.0.1 b.1 in
        let d = with_some b.0.0 (read_many n (c ∷ s) i b.0.1) (xs, rest) b.2 in
        let u = again b.0.1 d.0.0 d.0.1 d.1 in
        let whole : bytes ≡ ((c ∷ s) ++ i.text b.0.0) ++ flat_map (λ y. (c ∷ s) ++ i.text y) d.0.0 ++ d.0.1 =
        after_takes (c ∷ s) bytes r h ∙ ap (λ z. (c ∷ s) ++ z) (t.1 ∙ ap (λ z. i.text b.0.0 ++ z) u.1) ∙ simp append_assoc in
        subst (λ (y : List A × List ℕ). AllAre i y.0 × (bytes ≡ flat_map (λ y. (c ∷ s) ++ i.text y) y.0 ++ y.1)) d.2 ((t.0, u.0), whole)

pub many_more : {A : Type 0} (s : List ℕ) (i : Item A) (n : ℕ) (bytes r : List ℕ) (a : A) (t : List ℕ) → after s bytes ≡ Some r → i.read r ≡ Some (a, t) → read_many (suc n) s i bytes ≡ with_first a (read_many n s i t)
many_more s i n bytes r a t h k = rw (h, k) refl

pub many_again : {A : Type 0} (c : ℕ) (s : List ℕ) (i : Item A) → Laws i → ((rest : List ℕ) → i.Ends (c ∷ (s ++ rest))) → (n : ℕ) (xs : List A) (rest : List ℕ) → AllAre i xs → after (c ∷ s) rest ≡ None → i.Ends rest
    → length (flat_map (λ y. (c ∷ s) ++ i.text y) xs ++ rest) ≤ n → read_many n (c ∷ s) i (flat_map (λ y. (c ∷ s) ++ i.text y) xs ++ rest) ≡ Some (xs, rest)
many_again c s i l stop zero [] rest h none ends le = refl
many_again c s i l stop (suc n) [] rest h none ends le = rw none refl
many_again c s i l stop zero (a ∷ xs) rest h none ends le = absurd (omega arith)
many_again {A} c s i l stop (suc n) (a ∷ xs) rest h none ends le =
    let tail : List ℕ = flat_map (λ y. (c ∷ s) ++ i.text y) xs ++ rest in
    let parts : (((c ∷ s) ++ i.text a) ++ flat_map (λ y. (c ∷ s) ++ i.text y) xs) ++ rest ≡ (c ∷ s) ++ (i.text a ++ tail) = simp append_assoc in
    let small : length tail ≤ n = omega (arith, ap length parts, length-append s (i.text a ++ tail), length-append (i.text a) tail) in
    let before = many_again c s i l stop n xs rest h.1 none ends small in
    let e : i.Ends tail = ends_here i stop xs rest ends in
    ap (λ (b : List ℕ). read_many (suc n) (c ∷ s) i b) parts ∙ many_more (c ∷ s) i n ((c ∷ s) ++ (i.text a ++ tail)) (i.text a ++ tail) a tail (after_again (c ∷ s) (i.text a ++ tail)) (l.again a tail h.0 e) ∙ ap (with_first a) before
  where
    ends_here : (i : Item A) → ((rest : List ℕ) → i.Ends (c ∷ (s ++ rest))) → (xs : List A) (rest : List ℕ) → i.Ends rest → i.Ends (flat_map (λ y. (c ∷ s) ++ i.text y) xs ++ rest)
    ends_here i stop [] rest ends = ends
    ends_here i stop (x ∷ xs) rest ends = rw (append_assoc s (i.text x) (flat_map (λ y. (c ∷ s) ++ i.text y) xs), append_assoc s (i.text x ++ flat_map (λ y. (c ∷ s) ++ i.text y) xs) rest) (stop _)

many_plain : {A : Type 0} (s : List ℕ) (i : Item A) → IsPlain s → Laws i → (xs : List A) → AllAre i xs → IsPlain (flat_map (λ y. s ++ i.text y) xs)
many_plain s i p l [] h = tt
many_plain s i p l (x ∷ xs) h = plain_append (s ++ i.text x) _ (plain_append s (i.text x) p (l.plain x h.0)) (many_plain s i p l xs h.1)

pub many_laws : {A : Type 0} (c : ℕ) (s : List ℕ) (i : Item A) (ends : List ℕ → Type 0) → IsPlain (c ∷ s) → ((rest : List ℕ) → i.Ends (c ∷ (s ++ rest)))
    → ((rest : List ℕ) → ends rest → after (c ∷ s) rest ≡ None) → ((rest : List ℕ) → ends rest → i.Ends rest) → Laws i → Laws (many (c ∷ s) i ends)
many_laws c s i ends p stop none end l = record {
  takes = λ bytes xs rest e. many_takes c s i l (length bytes) bytes xs rest e;
  again = λ xs rest h e. many_again c s i l stop (length (flat_map (λ y. (c ∷ s) ++ i.text y) xs ++ rest)) xs rest h (none rest e) (end rest e) (omega arith);
  plain = many_plain (c ∷ s) i p l;
}

-- ---- fields

-- neither literal begins the other
abbrev pub apart : List ℕ → List ℕ → Bool
apart [] t = false
apart (c ∷ s) [] = false
apart (c ∷ s) (d ∷ t) = cond (d == c) (apart s t) true

pub after_apart : (s t rest : List ℕ) → apart s t ≡ true → after s (t ++ rest) ≡ None
after_apart [] t rest h = absurd cc
after_apart (c ∷ s) [] rest h = absurd cc
after_apart (c ∷ s) (d ∷ t) rest h = elim (d == c) as (λ b. cond b (apart s t) true ≡ true → cond b (after s (t ++ rest)) None ≡ None) [ true ↦ λ g. after_apart s t rest g | false ↦ λ g. refl ] h

abbrev pub ApartFrom : List ℕ → List (List ℕ) → Type 0
ApartFrom m [] = Unit {0}
ApartFrom m (n ∷ ns) = (apart m n ≡ true) × ApartFrom m ns

abbrev pub AreApart : List (List ℕ) → Type 0
AreApart [] = Unit {0}
AreApart (m ∷ ms) = ApartFrom m ms × AreApart ms

abbrev pub NoneBegins : List (List ℕ) → List ℕ → Type 0
NoneBegins [] rest = Unit {0}
NoneBegins (m ∷ ms) rest = (after m rest ≡ None) × NoneBegins ms rest

abbrev pub AllPlain : List (List ℕ) → Type 0
AllPlain [] = Unit {0}
AllPlain (m ∷ ms) = IsPlain m × AllPlain ms

abbrev pub AllStop : {A : Type 0} → Item A → List (List ℕ) → Type 0
AllStop i [] = Unit {0}
AllStop i (m ∷ ms) = ((rest : List ℕ) → i.Ends (m ++ rest)) × AllStop i ms

fields_takes : {A : Type 0} (ms : List (List ℕ)) (i : Item A) → Laws i → (bytes : List ℕ) (xs : List (Option A)) (rest : List ℕ) → read_fields ms i bytes ≡ Some (xs, rest) → AreFields ms i xs × (bytes ≡ registers_text i.text ms xs ++ rest)
fields_takes {A} [] i l bytes xs rest e =
    let none : List (Option A) = [] in
    let x-is : (none, bytes) ≡ (xs, rest) = some_is _ _ e in
    subst (λ (y : List (Option A) × List ℕ). AreFields [] i y.0 × (bytes ≡ y.1)) x-is (tt, refl)
fields_takes {A} (m ∷ ms) i l bytes xs rest e =
    let b = bind_some (read_maybe m i bytes) (λ x. with_first x.0 (read_fields ms i x.1)) (xs, rest) e in
    let t = maybe_takes m i l bytes b.0.0 b.0.1 b.1 in
    let d = with_some b.0.0 (read_fields ms i b.0.1) (xs, rest) b.2 in
    let u = fields_takes ms i l b.0.1 d.0.0 d.0.1 d.1 in
    subst (λ (y : List (Option A) × List ℕ). AreFields (m ∷ ms) i y.0 × (bytes ≡ registers_text i.text (m ∷ ms) y.0 ++ y.1)) d.2
    ((t.0, u.0), t.1 ∙ ap (λ z. known_text i.text m b.0.0 ++ z) u.1 ∙ sym (append_assoc (known_text i.text m b.0.0) (registers_text i.text ms d.0.0) d.0.1))

none_after : {A : Type 0} (m : List ℕ) (ms : List (List ℕ)) (i : Item A) (xs : List (Option A)) (rest : List ℕ) → ApartFrom m ms → after m rest ≡ None → after m (registers_text i.text ms xs ++ rest) ≡ None
none_after m [] i xs rest h none = none
none_after m (n ∷ ms) i [] rest h none = none
none_after m (n ∷ ms) i (None ∷ xs) rest h none = none_after m ms i xs rest h.1 none
none_after m (n ∷ ms) i (Some a ∷ xs) rest h none =
    rw (append_assoc n (i.text a) (registers_text i.text ms xs), append_assoc n (i.text a ++ registers_text i.text ms xs) rest) (after_apart m n _ h.0)

ends_after : {A : Type 0} (ms : List (List ℕ)) (i : Item A) (xs : List (Option A)) (rest : List ℕ) → AllStop i ms → i.Ends rest → i.Ends (registers_text i.text ms xs ++ rest)
ends_after [] i xs rest h ends = ends
ends_after (n ∷ ms) i [] rest h ends = ends
ends_after (n ∷ ms) i (None ∷ xs) rest h ends = ends_after ms i xs rest h.1 ends
ends_after (n ∷ ms) i (Some a ∷ xs) rest h ends =
    rw (append_assoc n (i.text a) (registers_text i.text ms xs), append_assoc n (i.text a ++ registers_text i.text ms xs) rest) (h.0 _)

fields_again : {A : Type 0} (ms : List (List ℕ)) (i : Item A) → Laws i → AreApart ms → AllStop i ms → (xs : List (Option A)) (rest : List ℕ) → AreFields ms i xs → NoneBegins ms rest → i.Ends rest → read_fields ms i (registers_text i.text ms xs ++ rest) ≡ Some (xs, rest)
fields_again [] i l ap' st [] rest h none ends = refl
fields_again [] i l ap' st (x ∷ xs) rest h none ends = absurd h
fields_again (m ∷ ms) i l ap' st [] rest h none ends = absurd h
fields_again (m ∷ ms) i l ap' st (x ∷ xs) rest h none ends =
    rw (
      append_assoc (known_text i.text m x) (registers_text i.text ms xs) rest,
      maybe_again m i l x (registers_text i.text ms xs ++ rest) h.0 (λ _. none_after m ms i xs rest ap'.0 none.0) (ends_after ms i xs rest st.1 ends),
      fields_again ms i l ap'.1 st.1 xs rest h.1 none.1 ends,
    ) refl

fields_plain : {A : Type 0} (ms : List (List ℕ)) (i : Item A) → AllPlain ms → Laws i → (xs : List (Option A)) → AreFields ms i xs → IsPlain (registers_text i.text ms xs)
fields_plain [] i p l xs h = tt
fields_plain (m ∷ ms) i p l [] h = tt
fields_plain (m ∷ ms) i p l (x ∷ xs) h = plain_append (known_text i.text m x) _ (maybe_plain m i p.0 l x h.0) (fields_plain ms i p.1 l xs h.1)

pub fields_laws : {A : Type 0} (ms : List (List ℕ)) (i : Item A) (ends : List ℕ → Type 0) → AllPlain ms → AreApart ms → AllStop i ms
    → ((rest : List ℕ) → ends rest → NoneBegins ms rest) → ((rest : List ℕ) → ends rest → i.Ends rest) → Laws i → Laws (fields ms i ends)
fields_laws ms i ends p apart-all stops none end l = record {
  takes = fields_takes ms i l;
  again = λ xs rest h e. fields_again ms i l apart-all stops xs rest h (none rest e) (end rest e);
  plain = fields_plain ms i p l;
}
