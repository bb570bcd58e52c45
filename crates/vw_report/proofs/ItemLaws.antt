-- What is read is in the grammar, and what is in the grammar is read again: kept by each way to build an item.
use Rattle.std.proofs.Common.{◌≡◌, ℕ, Bool, true, false, cond, List, [], ◌∷◌, ◌++◌, Option, Some, None, refl, sym, ap, subst, ◌∙◌, append_assoc, arith}
use Rattle.std.specs.Prelude.{IsTrue, ◌==◌}
use Rattle.std.proofs.Common.{eq-eqb}
use Rattle.vw_report.specs.Items.{Item, after, closed, first_word, marked, or_word, pair, printed, read_closed, read_second, read_tested, seen, tested, ◌>>=◌}
pub use Rattle.vw_report.specs.Reports.{IsPlain}

pub record Laws {A : Type 0} (i : Item A) : Type 0 where
  pub takes : (bytes : List ℕ) (a : A) (rest : List ℕ) → i.read bytes ≡ Some (a, rest) → i.Is a × (bytes ≡ i.text a ++ rest)
  pub again : (a : A) (rest : List ℕ) → i.Is a → i.Ends rest → i.read (i.text a ++ rest) ≡ Some (a, rest)
  pub plain : (a : A) → i.Is a → IsPlain (i.text a)

pub plain_append : (xs ys : List ℕ) → IsPlain xs → IsPlain ys → IsPlain (xs ++ ys)
plain_append [] ys p q = q
plain_append (x ∷ xs) ys p q = (p.0, plain_append xs ys p.1 q)

pub bind_some : {A B : Type 0} (r : Option A) (f : A → Option B) (y : B) → (r >>= f) ≡ Some y → (x : A) × (r ≡ Some x) × (f x ≡ Some y)
bind_some None f y e = absurd cc
bind_some (Some x) f y e = (x, refl, e)

pub guard_some : {A : Type 0} (b : Bool) (x y : Option A) (z : A) → cond b x None ≡ Some z → (b ≡ true) × (x ≡ Some z)
guard_some true x y z e = (refl, e)
guard_some false x y z e = absurd cc

abbrev found : {A : Type 0} → A → Option A
found x = Some x

pub some_is : {A : Type 0} (x y : A) → found x ≡ found y → x ≡ y
some_is x y e = cc

-- ---- literals

eq_is : (b c : ℕ) → (b == c) ≡ true → b ≡ c
eq_is b c h = grind arith

self_eq : (c : ℕ) → (c == c) ≡ true
self_eq c = eq-eqb c c refl

pub after_takes : (s bytes rest : List ℕ) → after s bytes ≡ Some rest → bytes ≡ s ++ rest
after_takes [] bytes rest e = some_is _ _ e
after_takes (c ∷ cs) [] rest e = absurd cc
after_takes (c ∷ cs) (b ∷ bs) rest e =
    let g = guard_some (b == c) (after cs bs) None rest e in
    let h : b ≡ c = eq_is b c g.0 in
    rw h (ap (λ (t : List ℕ). c ∷ t) (after_takes cs bs rest g.1))

pub after_again : (s rest : List ℕ) → after s (s ++ rest) ≡ Some rest
after_again [] rest = refl
after_again (c ∷ cs) rest = rw (self_eq c) (after_again cs rest)

pub marked_laws : {A : Type 0} (s : List ℕ) (i : Item A) → IsPlain s → Laws i → Laws (marked s i)
marked_laws s i p l = record {
  takes = λ bytes a rest e.
      let b = bind_some (after s bytes) i.read (a, rest) e in
      let t = l.takes b.0 a rest b.2 in
      (t.0, after_takes s bytes b.0 b.1 ∙ ap (λ (x : List ℕ). s ++ x) t.1 ∙ sym (append_assoc s (i.text a) rest));
  again = λ a rest h ends. rw (append_assoc s (i.text a) rest, after_again s (i.text a ++ rest)) (l.again a rest h ends);
  plain = λ a h. plain_append s (i.text a) p (l.plain a h);
}

closed_takes : {A : Type 0} (s : List ℕ) (i : Item A) → Laws i → (bytes : List ℕ) (a : A) (rest : List ℕ) → (closed s i).read bytes ≡ Some (a, rest) → i.Is a × (bytes ≡ (i.text a ++ s) ++ rest)
closed_takes s i l bytes a rest e =
    let b = bind_some (i.read bytes) (read_closed s) (a, rest) e in
    let c = bind_some (after s b.0.1) (λ rest. Some (b.0.0, rest)) (a, rest) b.2 in
    let x-is : (b.0.0, c.0) ≡ (a, rest) = some_is _ _ c.2 in
    let a-is : b.0.0 ≡ a = ap (λ (y : _ × List ℕ). y.0) x-is in
    let t = l.takes bytes b.0.0 b.0.1 b.1 in (
      subst i.Is a-is t.0,
      t.1 ∙ ap (λ x. i.text b.0.0 ++ x) (after_takes s b.0.1 c.0 c.1) ∙ sym (append_assoc (i.text b.0.0) s c.0) ∙ ap (λ (y : _ × List ℕ). (i.text y.0 ++ s) ++ y.1) x-is,
    )

-- a line: no newline but at its end, and it can be read whatever follows
pub record LineLaws {A : Type 0} (i : Item A) : Type 0 where
  pub takes : (bytes : List ℕ) (a : A) (rest : List ℕ) → i.read bytes ≡ Some (a, rest) → i.Is a × (bytes ≡ i.text a ++ rest)
  pub again : (a : A) (rest : List ℕ) → i.Is a → i.read (i.text a ++ rest) ≡ Some (a, rest)
  pub line : (a : A) → i.Is a → (body : List ℕ) × IsPlain body × (i.text a ≡ body ++ 10 ∷ [])

pub line_laws : {A : Type 0} (i : Item A) → ((rest : List ℕ) → i.Ends (10 ∷ [] ++ rest)) → Laws i → LineLaws (closed (10 ∷ []) i)
line_laws i stop l = record {
  takes = closed_takes (10 ∷ []) i l;
  again = λ a rest h. rw (append_assoc (i.text a) (10 ∷ []) rest, l.again a (10 ∷ [] ++ rest) h (stop rest)) refl;
  line = λ a h. (i.text a, l.plain a h, refl);
}

pub pair_laws : {A B : Type 0} (s : List ℕ) (i : Item A) (j : Item B) → IsPlain s
    → ((b : B) (rest : List ℕ) → j.Is b → j.Ends rest → i.Ends (s ++ (j.text b ++ rest))) → Laws i → Laws j → Laws (pair s i j)
pair_laws {A} {B} s i j p stop l m = record {
  takes = λ bytes a rest e.
      let b = bind_some (i.read bytes) (read_second s j) (a, rest) e in
      let c = bind_some (after s b.0.1) (λ r. j.read r >>= λ y. Some ((b.0.0, y.0), y.1)) (a, rest) b.2 in
      let d = bind_some (j.read c.0) (λ y. Some ((b.0.0, y.0), y.1)) (a, rest) c.2 in
      let x-is : ((b.0.0, d.0.0), d.0.1) ≡ (a, rest) = some_is _ _ d.2 in
      let t = l.takes bytes b.0.0 b.0.1 b.1 in
      let u = m.takes c.0 d.0.0 d.0.1 d.1 in
      let whole : bytes ≡ (i.text b.0.0 ++ (s ++ j.text d.0.0)) ++ d.0.1 =
      t.1 ∙ ap (λ x. i.text b.0.0 ++ x) (after_takes s b.0.1 c.0 c.1 ∙ ap (λ x. s ++ x) u.1) ∙ simp append_assoc in
      subst (λ (y : (A × B) × List ℕ). (i.Is y.0.0 × j.Is y.0.1) × (bytes ≡ (i.text y.0.0 ++ (s ++ j.text y.0.1)) ++ y.1)) x-is ((t.0, u.0), whole);
  again = λ a rest h ends.
      rw (
        append_assoc (i.text a.0) (s ++ j.text a.1) rest,
        append_assoc s (j.text a.1) rest,
        l.again a.0 (s ++ (j.text a.1 ++ rest)) h.0 (stop a.1 rest h.1 ends),
        after_again s (j.text a.1 ++ rest),
        m.again a.1 rest h.1 ends,
      ) refl;
  plain = λ a h. plain_append (i.text a.0) (s ++ j.text a.1) (l.plain a.0 h.0) (plain_append s (j.text a.1) p (m.plain a.1 h.1));
}

pub seen_laws : {A B : Type 0} (to : A → B) (from : B → A) (When : B → Type 0) (i : Item A)
    → ((b : B) → When b → to (from b) ≡ b) → ((a : A) → i.Is a → from (to a) ≡ a) → ((a : A) → i.Is a → When (to a)) → Laws i → Laws (seen to from When i)
seen_laws {A} {B} to from When i back forth when l = record {
  takes = λ bytes b rest e.
      let c = bind_some (i.read bytes) (λ x. Some (to x.0, x.1)) (b, rest) e in
      let x-is : (to c.0.0, c.0.1) ≡ (b, rest) = some_is _ _ c.2 in
      let t = l.takes bytes c.0.0 c.0.1 c.1 in
      let f = forth c.0.0 t.0 in
      subst (λ (y : B × List ℕ). (When y.0 × i.Is (from y.0)) × (bytes ≡ i.text (from y.0) ++ y.1)) x-is
      ((when c.0.0 t.0, subst i.Is (sym f) t.0), t.1 ∙ ap (λ a. i.text a ++ c.0.1) (sym f));
  again = λ b rest h ends. rw (l.again (from b) rest h.1 ends, back b h.0) refl;
  plain = λ b h. l.plain (from b) h.1;
}

pub tested_laws : {A : Type 0} (test : A → Bool) (i : Item A) → Laws i → Laws (tested test i)
tested_laws {A} test i l = record {
  takes = λ bytes a rest e.
      let c = bind_some (i.read bytes) (read_tested test) (a, rest) e in
      let g = guard_some (test c.0.0) (Some c.0) None (a, rest) c.2 in
      let x-is : c.0 ≡ (a, rest) = some_is _ _ g.1 in
      let t = l.takes bytes c.0.0 c.0.1 c.1 in
      subst (λ (y : A × List ℕ). (i.Is y.0 × IsTrue (test y.0)) × (bytes ≡ i.text y.0 ++ y.1)) x-is ((t.0, g.0), t.1);
  again = λ a rest h ends. rw (l.again a rest h.0 ends, h.1) refl;
  plain = λ a h. l.plain a h.0;
}

-- an item with its text in other words
pub printed_laws : {A : Type 0} (text : A → List ℕ) (i : Item A) → ((a : A) → i.Is a → i.text a ≡ text a) → Laws i → Laws (printed text i)
printed_laws text i same l = record {
  takes = λ bytes a rest e. let t = l.takes bytes a rest e in (t.0, t.1 ∙ ap (λ (xs : List ℕ). xs ++ rest) (same a t.0));
  again = λ a rest h ends. rw (sym (same a h)) (l.again a rest h ends);
  plain = λ a h. rw (sym (same a h)) (l.plain a h);
}

pub first_word_takes : {K : Type 0} (ks : List K) (name : K → List ℕ) (bytes : List ℕ) (k : K) (rest : List ℕ) → first_word ks name bytes ≡ Some (k, rest) → bytes ≡ name k ++ rest
first_word_takes [] name bytes k rest e = absurd cc
first_word_takes {K} (j ∷ ks) name bytes k rest e = go (after (name j) bytes) refl (first_word_takes ks name bytes k rest) e
  where
    go : (o : Option (List ℕ)) → after (name j) bytes ≡ o → (first_word ks name bytes ≡ Some (k, rest) → bytes ≡ name k ++ rest)
        → or_word j (first_word ks name bytes) o ≡ Some (k, rest) → bytes ≡ name k ++ rest
    go None h again f = again f
    go (Some r) h again f =
        let x-is : (j, r) ≡ (k, rest) = some_is _ _ f in
        subst (λ (y : K × List ℕ). bytes ≡ name y.0 ++ y.1) x-is (after_takes (name j) bytes r h)
