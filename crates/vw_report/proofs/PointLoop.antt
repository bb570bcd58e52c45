-- Points one after the other.
use Rattle.std.proofs.Common.{◌≡◌, ℕ, suc, ◌+◌, ◌<◌, ◌≤◌, List, [], ◌∷◌, ◌++◌, length, length-append, Some, None, refl, sym, ap, subst, ◌∙◌, append_assoc, add-one, arith}
use Rattle.std.proofs.lemmas.List.{append-nil}
use Rattle.vw_domain.specs.declared.state_parts.StateParts.{StateParts}
use Rattle.vw_domain.specs.PartRanges.{HasNoState}
use Rattle.vw_domain.specs.StateParts.{IsPointState}
use Rattle.vw_state.specs.declared.tables.PointState.{PointState}
use Rattle.vw_report.specs.declared.fail.Fail.{Fail}
use Rattle.vw_report.specs.declared.fail.Fail.TheVariants as fails
use Rattle.vw_report.specs.Lines.{ListedPoint}
use Rattle.vw_report.specs.Items.{Fails}
use Rattle.vw_report.specs.Grammar.{point_item}
use Rattle.vw_report.specs.Listings.{ArePointItems, ArePointStates, FailsAtPoint, HasNoPoint, IsPoint, NextPoint, PointsAre, PointsDone, PointsStop, ReadsPoint, points_low, points_text}
use Rattle.vw_report.proofs.ItemLaws.{some_is}
use Rattle.vw_report.proofs.FieldLaws.{point_item_laws}
use Rattle.vw_report.proofs.ListingLaws.{point_begins}
use Rattle.vw_report.proofs.Listed.{points_more}

-- ---- one point

pub bad_text : (bytes : List ℕ) → point_item.read bytes ≡ None → HasNoPoint bytes
bad_text bytes e = λ p more is text_is.
    let h : point_item.read bytes ≡ Some (p, more) = ap point_item.read text_is ∙ point_item_laws.again p more is.0 in
    absurd (let k : None ≡ Some (p, more) = sym e ∙ h in cc)

pub fails_at : (bytes : List ℕ) (fail : Fail) → Fails fail (point_item.read bytes) → FailsAtPoint bytes fail
fails_at bytes (fails.Memory refused) e = tt
fails_at bytes fails.Bad e = bad_text bytes e

read_as : (bytes : List ℕ) (l p : ListedPoint) (rest more : List ℕ) → point_item.read bytes ≡ Some (l, rest) → point_item.Is p → bytes ≡ point_item.text p ++ more → l ≡ p
read_as bytes l p rest more e is text_is =
    let k : (l, rest) ≡ (p, more) = some_is _ _ (sym e ∙ ap point_item.read text_is ∙ point_item_laws.again p more is) in
    ap (λ (x : ListedPoint × List ℕ). x.0) k

pub bad_parts : (bytes : List ℕ) (l : ListedPoint) (rest : List ℕ) → point_item.read bytes ≡ Some (l, rest) → HasNoState l.parts → HasNoPoint bytes
bad_parts bytes l rest e none = λ p more is text_is.
    let same : l ≡ p = read_as bytes l p rest more e is.0 text_is in
    let has = is.1 in
    let none_of_p : HasNoState p.parts = subst (λ (x : ListedPoint). HasNoState x.parts) same none in
    none_of_p has.state has.is.point has.is.parts

-- ---- many

are_more : (low : ℕ) (ls : List ListedPoint) (l : ListedPoint) → ArePointItems low ls → points_low low ls ≤ l.at → IsPoint l → ArePointItems low (ls ++ l ∷ [])
are_more low [] l a h i = (h, i, tt)
are_more low (k ∷ ls) l a h i = (a.0, a.1, are_more (suc k.at) ls l a.2 h i)

low_more : (low : ℕ) (ls : List ListedPoint) (l : ListedPoint) → points_low low (ls ++ l ∷ []) ≡ l.at + 1
low_more low [] l = sym (add-one l.at)
low_more low (k ∷ ls) l = low_more (suc k.at) ls l

text_more : (ls : List ListedPoint) (l : ListedPoint) → points_text (ls ++ l ∷ []) ≡ points_text ls ++ point_item.text l
text_more [] l = append-nil (point_item.text l)
text_more (k ∷ ls) l = ap (λ x. point_item.text k ++ x) (text_more ls l) ∙ sym (append_assoc (point_item.text k) (points_text ls) (point_item.text l))

states_more : (ps : List PointState) (p : PointState) → ArePointStates ps → IsPointState p.state → ArePointStates (ps ++ p ∷ [])
states_more [] p a i = (i, tt)
states_more (q ∷ ps) p a i = (a.0, states_more ps p a.1 i)

-- what the loop keeps
pub record Keeps (bytes : List ℕ) (points : List PointState) (rest : List ℕ) (low i : ℕ) : Type 0 where
  pub read : PointsAre bytes points rest
  pub low_is : low ≡ points_low 0 read.listed
  pub room : i + length rest ≤ length bytes

pub keeps_first : (bytes : List ℕ) → Keeps bytes [] bytes 0 0
keeps_first bytes = record { read = record { listed = []; same = tt; states = tt; are = tt; bytes_are = refl }; low_is = refl; room = omega arith }

abbrev listed_point : PointState → StateParts → ListedPoint
listed_point p parts = record { at = p.at; parts = parts }

pub keeps_more : (bytes : List ℕ) (ps : List PointState) (rest : List ℕ) (low i : ℕ) (p : PointState) (tail : List ℕ) → Keeps bytes ps rest low i → ReadsPoint rest p tail → low ≤ p.at
    → Keeps bytes (ps ++ p ∷ []) tail (p.at + 1) (i + 1)
keeps_more bytes ps rest low i p tail k d h =
    let l : ListedPoint = listed_point p d.parts in
    let old = k.read in
    let t = point_item_laws.takes rest l tail d.read in
    let b = point_begins l in
    let size : length rest ≡ suc (length b.0) + length tail = ap length t.1 ∙ length-append (point_item.text l) tail ∙ ap (λ x. length x + length tail) b.1 in
    let r = k.room in
    record {
      read = record {
        listed = old.listed ++ l ∷ [];
        same = points_more ps old.listed p l old.same (record { at = refl; parts = d.state.parts });
        states = states_more ps p old.states d.state.point;
        are = are_more 0 old.listed l old.are (subst (λ x. x ≤ p.at) k.low_is h) (t.0, record { state = p.state; is = d.state });
        bytes_are = old.bytes_are ∙ ap (λ x. points_text old.listed ++ x) t.1 ∙ sym (append_assoc (points_text old.listed) (point_item.text l) tail) ∙ ap (λ x. x ++ tail) (sym (text_more old.listed l));
      };
      low_is = sym (low_more 0 old.listed l);
      room = omega arith;
    }

no_next_bad : (ls : List ListedPoint) (rest : List ℕ) → HasNoPoint rest → NextPoint ls rest → ⊥
no_next_bad ls rest none n = none n.point n.more n.fits n.rest_is

no_next_low : (ls : List ListedPoint) (rest : List ℕ) (p : PointState) (tail : List ℕ) → ReadsPoint rest p tail → p.at < points_low 0 ls → NextPoint ls rest → ⊥
no_next_low ls rest p tail d h n =
    let same : listed_point p d.parts ≡ n.point = read_as rest (listed_point p d.parts) n.point tail n.more d.read n.fits.0 n.rest_is in
    let at : p.at ≡ n.point.at = ap (λ (x : ListedPoint). x.at) same in
    let le = n.low in
    omega arith

no_next_empty : (ls : List ListedPoint) (rest : List ℕ) → length rest < 1 → NextPoint ls rest → ⊥
no_next_empty ls rest h n =
    let b = point_begins n.point in
    let size : length rest ≡ suc (length b.0) + length n.more = ap length n.rest_is ∙ length-append (point_item.text n.point) n.more ∙ ap (λ x. length x + length n.more) b.1 in
    omega arith

pub done_bad : (bytes : List ℕ) (ps : List PointState) (rest : List ℕ) (low i : ℕ) → Keeps bytes ps rest low i → HasNoPoint rest → PointsDone bytes ps rest
done_bad bytes ps rest low i k none = record { read = k.read; stuck = no_next_bad k.read.listed rest none }

pub done_empty : (bytes : List ℕ) (ps : List PointState) (rest : List ℕ) (low i : ℕ) → Keeps bytes ps rest low i → length bytes ≤ i → PointsDone bytes ps rest
done_empty bytes ps rest low i k h = let r = k.room in record { read = k.read; stuck = no_next_empty k.read.listed rest (omega arith) }

pub stop_bad : (bytes : List ℕ) (ps : List PointState) (rest : List ℕ) (low i : ℕ) → Keeps bytes ps rest low i → HasNoPoint rest → ((tail : List ℕ) × (rest ≡ 97 ∷ tail)) → PointsStop bytes rest
stop_bad bytes ps rest low i k none b = record { listed = k.read.listed; are = k.read.are; bytes_are = k.read.bytes_are; begins = b; stuck = no_next_bad k.read.listed rest none }

pub stop_low : (bytes : List ℕ) (ps : List PointState) (rest : List ℕ) (low i : ℕ) (p : PointState) (tail : List ℕ) → Keeps bytes ps rest low i → ReadsPoint rest p tail → p.at < low → PointsStop bytes rest
stop_low bytes ps rest low i p tail k d h =
    let l : ListedPoint = listed_point p d.parts in
    let t = point_item_laws.takes rest l tail d.read in
    let b = point_begins l in
    record {
      listed = k.read.listed;
      are = k.read.are;
      bytes_are = k.read.bytes_are;
      begins = (b.0 ++ tail, t.1 ∙ ap (λ x. x ++ tail) b.1);
      stuck = no_next_low k.read.listed rest p tail d (subst (λ x. p.at < x) k.low_is h);
    }
