-- Texts one behind the other, as they are told by a relation.
use Rattle.std.proofs.Common.{◌≡◌, ℕ, suc, ◌+◌, ◌<◌, ◌≤◌, List, [], ◌∷◌, ◌++◌, length, take, get_or, Some, Result, Ok, Err, OnOk, append_assoc, refl, sym, ◌∙◌, ap, subst}
use Rattle.std.specs.List.{slice_get}
use Rattle.std.proofs.lemmas.List.{append-nil, take_all, take_more}
use Rattle.vw_app.specs.Listing.{AreTexts, none, one, Appends}

-- a text that is known has grown by a piece
pub appends : (Holds : List ℕ → Type 0) (old new piece : List ℕ) → Holds piece → new ≡ old ++ piece → Appends Holds old new
appends Holds old new piece holds is = record { piece = piece; holds = holds; is = is }

pub OnOk-map : {T E : Type 0} {P Q : Type 0} (r : Result T E) → (P → Q) → OnOk r P → OnOk r Q
OnOk-map (Ok x) f holds = f holds
OnOk-map (Err e) f holds = tt

-- a text has grown from nothing
pub grown : (Holds : List ℕ → Type 0) (start text : List ℕ) → start ≡ [] → Appends Holds start text → Holds text
grown Holds start text empty a = subst Holds (sym (a.is ∙ ap (λ (t : List ℕ). t ++ a.piece) empty)) a.holds

module _ {X : Type 0} (IsText : X → List ℕ → Type 0) where
  -- one text more
  pub texts_more : (xs : List X) (text : List ℕ) (x : X) (piece : List ℕ) → AreTexts IsText xs text → IsText x piece → AreTexts IsText (xs ++ x ∷ []) (text ++ piece)
  texts_more xs text x piece none is = subst (λ (t : List ℕ). AreTexts IsText (x ∷ []) t) (append-nil piece) (one x [] piece [] is none)
  texts_more xs text x piece (one y ys first more holds rest) is =
      subst (λ (t : List ℕ). AreTexts IsText (y ∷ (ys ++ x ∷ [])) t) (sym (append_assoc first more piece)) (one y (ys ++ x ∷ []) first (more ++ piece) holds (texts_more ys more x piece rest is))

  -- a loop that appends a text for each item
  pub grows_none : (xs : List X) (text : List ℕ) → Appends (AreTexts IsText (take 0 xs)) text text
  grows_none xs text = record { piece = []; holds = none; is = sym (append-nil text) }

  pub grows_more : (xs : List X) (i : ℕ) (x : X) (start old new : List ℕ) → i < length xs → get_or xs i x ≡ x → Appends (AreTexts IsText (take i xs)) start old → Appends (IsText x) old new → Appends (AreTexts IsText (take (i + 1) xs)) start new
  grows_more xs i x start old new inside is before after =
      record {
        piece = before.piece ++ after.piece;
        holds = subst (λ (ys : List X). AreTexts IsText ys (before.piece ++ after.piece)) (sym (take_more xs i x inside ∙ ap (λ (y : X). take i xs ++ y ∷ []) is)) (texts_more (take i xs) before.piece x after.piece before.holds after.holds);
        is = after.is ∙ (ap (λ (t : List ℕ). t ++ after.piece) before.is ∙ append_assoc start before.piece after.piece);
      }

  pub grows_all : (xs : List X) (i : ℕ) (start new : List ℕ) → length xs ≤ i → Appends (AreTexts IsText (take i xs)) start new → Appends (AreTexts IsText xs) start new
  grows_all xs i start new all a = rw (take_all i xs all) at a

  -- where each text is the only one, so are they together
  abbrev pub EachOnce : List X → Type 0
  EachOnce xs = (k : ℕ) (x : X) → slice_get xs k ≡ Some x → (a b : List ℕ) → IsText x a → IsText x b → a ≡ b

  pub texts_once : (xs : List X) (a b : List ℕ) → EachOnce xs → AreTexts IsText xs a → AreTexts IsText xs b → a ≡ b
  texts_once xs a b each none none = refl
  texts_once xs a b each (one x rest text more is are) (one y also text' more' is' are') =
      let first : text ≡ text' = each 0 x refl text text' is is' in
      let others : more ≡ more' = texts_once rest more more' (λ k z at. each (suc k) z at) are are' in
      rw (first, others) refl
