-- What the join of two maps, entry by entry, is among all maps.
use Rattle.std.proofs.Common.{◌≡◌, ◌↔◌, ℕ, ◌<◌, ◌≤◌, Bool, true, false, List, [], ◌∷◌, ◌++◌, length, get_or, take, drop, Option, Some, None, refl, sym, ap, subst, ◌∙◌, arith, inl, inr, ◌⊎◌}
use Rattle.std.specs.Prelude.{ℤ, ◌<ℤ◌, ◌||◌, Result, Ok, Err, IfOk, OnOk, OnErr}
use Rattle.std.specs.List.{All}
use Rattle.std.proofs.lemmas.List.{get_or_append_left, get_or_push, length_push, length-take, get_or-take, same_from_push, take-append-drop}
use Rattle.std.proofs.lemmas.List.Elements.{All-push}
use Rattle.std.proofs.lemmas.List.Quantifiers.{all_pairs_push}
use Rattle.vw_lattice.specs.Order.{IsJoin, IsLeast, TellsChange}
use Rattle.vw_lattice.specs.Entries.{IsAscending, value_at, map_below, IsValidMap, HasKey}
use Rattle.vw_lattice.specs.EntryOrder.{value_at_here, value_at_there, same_or_not, value_at_absent, apart_from_lt, value_at_append_found, value_at_append_absent}
use Rattle.vw_lattice.specs.Joined.{Joined, JoinsValue, JoinedFront, none, keep, omit}

found_or_not : {V : Type 0} (o : Option V) → ((v : V) × (o ≡ Some v)) ⊎ (o ≡ None)
found_or_not (Some v) = inl (v, refl)
found_or_not None = inr refl

ascending_front : {V : Type 0} (front : List (ℤ × V)) (last : ℤ × V) → IsAscending (front ++ last ∷ []) → IsAscending front
ascending_front {V} front last ascends = λ i j d before within.
    let i_in : i < length front = omega arith in
    rw (← get_or_append_left front (last ∷ []) d i i_in, ← get_or_append_left front (last ∷ []) d j within) (ascends i j d before (omega (arith, length_push front last)))

below_last : {V : Type 0} (front : List (ℤ × V)) (last : ℤ × V) → IsAscending (front ++ last ∷ []) → All (λ e. e.0 <ℤ last.0) front
below_last {V} front last ascends = λ k d within.
    let h = ascends k (length front) d within (omega (arith, length_push front last)) in
    rw (get_or_append_left front (last ∷ []) d k within, get_or_push front last d (length front) refl) at h

all_front : {X : Type 0} (P : X → Type 0) (front : List X) (last : X) → All P (front ++ last ∷ []) → All P front
all_front {X} P front last all = λ k d within.
    rw (get_or_append_left front (last ∷ []) d k within) at (all k d (omega (arith, length_push front last)))

all_last : {X : Type 0} (P : X → Type 0) (front : List X) (last : X) → All P (front ++ last ∷ []) → P last
all_last {X} P front last all =
    rw (get_or_push front last last (length front) refl) at (all (length front) last (omega (arith, length_push front last)))

absent_from_below : {V : Type 0} (entries : List (ℤ × V)) (key : ℤ) → All (λ e. e.0 <ℤ key) entries → value_at entries key ≡ None
absent_from_below entries key below = value_at_absent entries key (λ k d within. apart_from_lt (get_or entries k d).0 key (below k d within))

-- where the other value is below, the first stays as it is
pub stays : {V : Type 0} (below : V → V → Type 0) (is_valid is_formed : V → Type 0) (old other : V) → (is_valid old → below old old) → below other old → JoinsValue below is_valid is_formed old other old false
stays below is_valid is_formed old other reflexive under = record {
  kept = λ valid. valid;
  join = λ valid valid_other. record {
    valid = valid;
    above_left = reflexive valid;
    above_right = under;
    least = λ bound valid_bound over_old over_other. over_old;
  };
  told = refl;
  formed = λ formed formed_other. formed;
  least = λ formed formed_other bound valid_bound over_old over_other. over_old;
}

module _ {V : Type 0} (below : V → V → Type 0) (is_valid is_formed : V → Type 0) (look : ℤ → Option V) where
  keys_below : (old new : List (ℤ × V)) (changed : Bool) → Joined below is_valid is_formed look old new changed → (key : ℤ) → All (λ e. e.0 <ℤ key) old → All (λ e. e.0 <ℤ key) new
  keys_below old new changed none key all = all
  keys_below old new changed (keep olds news c entry other value raised front found joins) key all =
      let P : ℤ × V → Type 0 = λ e. e.0 <ℤ key in
      All-push P news (entry.0, value) (keys_below olds news c front key (all_front P olds entry all)) (all_last P olds entry all)
  keys_below old new changed (omit olds news c entry front gone) key all =
      let P : ℤ × V → Type 0 = λ e. e.0 <ℤ key in
      keys_below olds news c front key (all_front P olds entry all)

  pub joined_ascending : (old new : List (ℤ × V)) (changed : Bool) → Joined below is_valid is_formed look old new changed → IsAscending old → IsAscending new
  joined_ascending old new changed none ascends = ascends
  joined_ascending old new changed (keep olds news c entry other value raised front found joins) ascends =
      let R : ℤ × V → ℤ × V → Type 0 = λ e f. e.0 <ℤ f.0 in
      all_pairs_push R news (entry.0, value) (joined_ascending olds news c front (ascending_front olds entry ascends)) (λ k d within. keys_below olds news c front entry.0 (below_last olds entry ascends) k d within)
  joined_ascending old new changed (omit olds news c entry front gone) ascends = joined_ascending olds news c front (ascending_front olds entry ascends)

  joined_length : (old new : List (ℤ × V)) (changed : Bool) → Joined below is_valid is_formed look old new changed → length new ≤ length old
  joined_length old new changed none = omega arith
  joined_length old new changed (keep olds news c entry other value raised front found joins) =
      omega (arith, joined_length olds news c front, length_push olds entry, length_push news (entry.0, value))
  joined_length old new changed (omit olds news c entry front gone) =
      omega (arith, joined_length olds news c front, length_push olds entry)

  kept_told : (c raised : Bool) (olds news : List (ℤ × V)) (entry : ℤ × V) (value : V) → TellsChange c olds news → TellsChange raised entry.1 value → TellsChange (c || raised) (olds ++ entry ∷ []) (news ++ (entry.0, value) ∷ [])
  kept_told true raised olds news entry value front last = λ same. front (same_from_push news olds (entry.0, value) entry same).0
  kept_told false true olds news entry value front last = λ same. last (ap (λ (e : ℤ × V). e.1) (same_from_push news olds (entry.0, value) entry same).1)
  kept_told false false olds news entry value front last =
      let with_value : V → List (ℤ × V) = λ v. news ++ (entry.0, v) ∷ [] in
      let with_front : List (ℤ × V) → List (ℤ × V) = λ f. f ++ entry ∷ [] in
      ap with_value last ∙ ap with_front front

  pub joined_told : (old new : List (ℤ × V)) (changed : Bool) → Joined below is_valid is_formed look old new changed → TellsChange changed old new
  joined_told old new changed none = refl
  joined_told old new changed (keep olds news c entry other value raised front found joins) =
      kept_told c raised olds news entry value (joined_told olds news c front) joins.told
  joined_told old new changed (omit olds news c entry front gone) = λ same.
      omega (arith, joined_length olds news c front, length_push olds entry, ap length same)

  -- where a value of the join comes from
  pub record ComesFrom (old : List (ℤ × V)) (key : ℤ) (new : V) : Type 0 where
    pub mine : V
    pub theirs : V
    pub raised : Bool
    pub found : value_at old key ≡ Some mine
    pub looked : look key ≡ Some theirs
    pub joins : JoinsValue below is_valid is_formed mine theirs new raised

  comes_later : (olds : List (ℤ × V)) (entry : ℤ × V) (key : ℤ) (new : V) → ComesFrom olds key new → ComesFrom (olds ++ entry ∷ []) key new
  comes_later olds entry key new from = record {
    mine = from.mine;
    theirs = from.theirs;
    raised = from.raised;
    found = value_at_append_found olds (entry ∷ []) key from.mine from.found;
    looked = from.looked;
    joins = from.joins;
  }

  pub joined_from : (old new : List (ℤ × V)) (changed : Bool) → Joined below is_valid is_formed look old new changed → IsAscending old → (key : ℤ) (value : V) → value_at new key ≡ Some value → ComesFrom old key value
  joined_from old new changed none ascends key value present = absurd (cc)
  joined_from old new changed (keep olds news c entry other u raised front found joins) ascends key value present =
      elim (found_or_not (value_at news key)) [
        | inl earlier ↦
            let same : Some value ≡ Some earlier.0 = sym present ∙ value_at_append_found news ((entry.0, u) ∷ []) key earlier.0 earlier.1 in
            let is : earlier.0 ≡ value = cc in
            let C : V → Type 0 = λ v. ComesFrom (olds ++ entry ∷ []) key v in
            subst C is (comes_later olds entry key earlier.0 (joined_from olds news c front (ascending_front olds entry ascends) key earlier.0 earlier.1))
        | inr absent ↦
            let last : value_at ((entry.0, u) ∷ []) key ≡ Some value = sym (value_at_append_absent news ((entry.0, u) ∷ []) key absent) ∙ present in
            elim (same_or_not entry.0 key) [
              | inl same ↦
                  let here : Some u ≡ Some value = sym (value_at_here (entry.0, u) [] key same) ∙ last in
                  let is : u ≡ value = cc in
                  let C : V → Type 0 = λ v. ComesFrom (olds ++ entry ∷ []) key v in
                  let K : ℤ → Type 0 = λ k. ComesFrom (olds ++ entry ∷ []) k u in
                  subst C is (subst K same (record {
                    mine = entry.1;
                    theirs = other;
                    raised = raised;
                    found = value_at_append_absent olds (entry ∷ []) entry.0 (absent_from_below olds entry.0 (below_last olds entry ascends)) ∙ value_at_here entry [] entry.0 refl;
                    looked = found;
                    joins = joins;
                  }))
              | inr apart ↦
                  let there : None ≡ Some value = sym (value_at_there (entry.0, u) [] key apart) ∙ last in
                  absurd (cc)
            ]
      ]
  joined_from old new changed (omit olds news c entry front gone) ascends key value present =
      comes_later olds entry key value (joined_from olds news c front (ascending_front olds entry ascends) key value present)

  -- what becomes of a value whose key the other map has
  pub record GoesTo (new : List (ℤ × V)) (key : ℤ) (mine theirs : V) : Type 0 where
    pub value : V
    pub raised : Bool
    pub present : value_at new key ≡ Some value
    pub joins : JoinsValue below is_valid is_formed mine theirs value raised

  pub joined_to : (old new : List (ℤ × V)) (changed : Bool) → Joined below is_valid is_formed look old new changed → IsAscending old → (key : ℤ) (mine theirs : V) → value_at old key ≡ Some mine → look key ≡ Some theirs → GoesTo new key mine theirs
  joined_to old new changed none ascends key mine theirs present looked = absurd (cc)
  joined_to old new changed (keep olds news c entry other u raised front found joins) ascends key mine theirs present looked =
      elim (found_or_not (value_at olds key)) [
        | inl earlier ↦
            let same : Some mine ≡ Some earlier.0 = sym present ∙ value_at_append_found olds (entry ∷ []) key earlier.0 earlier.1 in
            let is : earlier.0 ≡ mine = cc in
            let found_mine : value_at olds key ≡ Some mine = earlier.1 ∙ ap (λ (v : V). Some v) is in
            let to = joined_to olds news c front (ascending_front olds entry ascends) key mine theirs found_mine looked in
            record { value = to.value; raised = to.raised; present = value_at_append_found news ((entry.0, u) ∷ []) key to.value to.present; joins = to.joins }
        | inr absent ↦
            let last : value_at (entry ∷ []) key ≡ Some mine = sym (value_at_append_absent olds (entry ∷ []) key absent) ∙ present in
            elim (same_or_not entry.0 key) [
              | inl same ↦
                  let here : Some entry.1 ≡ Some mine = sym (value_at_here entry [] key same) ∙ last in
                  let is_mine : entry.1 ≡ mine = cc in
                  let there : Some other ≡ Some theirs = sym found ∙ ap look same ∙ looked in
                  let is_theirs : other ≡ theirs = cc in
                  let M : V → Type 0 = λ v. JoinsValue below is_valid is_formed v theirs u raised in
                  let T : V → Type 0 = λ v. JoinsValue below is_valid is_formed entry.1 v u raised in
                  let front_below = keys_below olds news c front entry.0 (below_last olds entry ascends) in
                  let at_key : ℤ → Type 0 = λ k. value_at (news ++ (entry.0, u) ∷ []) k ≡ Some u in
                  record {
                    value = u;
                    raised = raised;
                    present = subst at_key same (value_at_append_absent news ((entry.0, u) ∷ []) entry.0 (absent_from_below news entry.0 front_below) ∙ value_at_here (entry.0, u) [] entry.0 refl);
                    joins = subst M is_mine (subst T is_theirs joins);
                  }
              | inr apart ↦
                  let there : None ≡ Some mine = sym (value_at_there entry [] key apart) ∙ last in
                  absurd (cc)
            ]
      ]
  joined_to old new changed (omit olds news c entry front gone) ascends key mine theirs present looked =
      elim (found_or_not (value_at olds key)) [
        | inl earlier ↦
            let same : Some mine ≡ Some earlier.0 = sym present ∙ value_at_append_found olds (entry ∷ []) key earlier.0 earlier.1 in
            let is : earlier.0 ≡ mine = cc in
            let found_mine : value_at olds key ≡ Some mine = earlier.1 ∙ ap (λ (v : V). Some v) is in
            joined_to olds news c front (ascending_front olds entry ascends) key mine theirs found_mine looked
        | inr absent ↦
            let last : value_at (entry ∷ []) key ≡ Some mine = sym (value_at_append_absent olds (entry ∷ []) key absent) ∙ present in
            elim (same_or_not entry.0 key) [
              | inl same ↦ let both : None ≡ Some theirs = sym gone ∙ ap look same ∙ looked in absurd (cc)
              | inr apart ↦
                  let there : None ≡ Some mine = sym (value_at_there entry [] key apart) ∙ last in
                  absurd (cc)
            ]
      ]

  -- what joining made of a valid map is valid, whatever the other map was
  pub joined_valid : (old new : List (ℤ × V)) (changed : Bool) → Joined below is_valid is_formed look old new changed → IsValidMap is_valid old → IsValidMap is_valid new
  joined_valid old new changed joined valid = record {
    ascending = joined_ascending old new changed joined valid.ascending;
    values = λ key value present.
        let from = joined_from old new changed joined valid.ascending key value present in
        from.joins.kept (valid.values key from.mine from.found);
  }

valid_take : {V : Type 0} (is_valid : V → Type 0) (count : ℕ) (entries : List (ℤ × V)) → IsValidMap is_valid entries → IsValidMap is_valid (take count entries)
valid_take {V} is_valid count entries valid = record {
  ascending = λ i j d before within.
      let j_in : j < count = omega (arith, length-take count entries) in
      let i_in : i < count = omega arith in
      rw (get_or-take count entries i d i_in, get_or-take count entries j d j_in) (valid.ascending i j d before (omega (arith, length-take count entries)));
  values = λ key value found. valid.values key value
      (ap (λ (es : List (ℤ × V)). value_at es key) (sym (take-append-drop count entries)) ∙ value_at_append_found (take count entries) (drop count entries) key value found);
}

-- joining a front of a valid map, and dropping the rest, leaves a valid map
pub front_valid : {V : Type 0} (below : V → V → Type 0) (is_valid is_formed : V → Type 0) (look : ℤ → Option V) (count : ℕ) (old new : List (ℤ × V)) (changed : Bool) → Joined below is_valid is_formed look (take count old) new changed → IsValidMap is_valid old → IsValidMap is_valid new
front_valid below is_valid is_formed look count old new changed joined valid = joined_valid below is_valid is_formed look (take count old) new changed joined (valid_take is_valid count old valid)

-- the join of two valid maps is their least valid upper bound
pub joined_is_join : {V : Type 0} (below : V → V → Type 0) (is_valid is_formed : V → Type 0) (old other new : List (ℤ × V)) (changed : Bool) → Joined below is_valid is_formed (value_at other) old new changed → IsValidMap is_valid old → IsValidMap is_valid other → IsJoin (map_below below) (IsValidMap is_valid) old other new
joined_is_join {V} below is_valid is_formed old other new changed joined valid_old valid_other =
    let look : ℤ → Option V = value_at other in
    record {
      valid = joined_valid below is_valid is_formed look old new changed joined valid_old;
      above_left = λ key value present.
          let from = joined_from below is_valid is_formed look old new changed joined valid_old.ascending key value present in
          let join = from.joins.join (valid_old.values key from.mine from.found) (valid_other.values key from.theirs from.looked) in
          (from.mine, from.found, join.above_left);
      above_right = λ key value present.
          let from = joined_from below is_valid is_formed look old new changed joined valid_old.ascending key value present in
          let join = from.joins.join (valid_old.values key from.mine from.found) (valid_other.values key from.theirs from.looked) in
          (from.theirs, from.looked, join.above_right);
      least = λ bound valid_bound over_old over_other. λ key value present.
          let mine = over_old key value present in
          let theirs = over_other key value present in
          let to = joined_to below is_valid is_formed look old new changed joined valid_old.ascending key mine.0 theirs.0 mine.1 theirs.1 in
          let join = to.joins.join (valid_old.values key mine.0 mine.1) (valid_other.values key theirs.0 theirs.1) in
          (to.value, to.present, join.least value (valid_bound.values key value present) mine.2 theirs.2);
    }

-- the join of two well-formed maps is well-formed
joined_formed : {V : Type 0} (below : V → V → Type 0) (is_valid is_formed : V → Type 0) (old other new : List (ℤ × V)) (changed : Bool) → Joined below is_valid is_formed (value_at other) old new changed → IsValidMap is_formed old → IsValidMap is_formed other → IsValidMap is_formed new
joined_formed {V} below is_valid is_formed old other new changed joined formed formed_other =
    let look : ℤ → Option V = value_at other in
    record {
      ascending = joined_ascending below is_valid is_formed look old new changed joined formed.ascending;
      values = λ key value present.
          let from = joined_from below is_valid is_formed look old new changed joined formed.ascending key value present in
          from.joins.formed (formed.values key from.mine from.found) (formed_other.values key from.theirs from.looked);
    }

-- and is below each valid map above both
joined_least : {V : Type 0} (below : V → V → Type 0) (is_valid is_formed : V → Type 0) (old other new : List (ℤ × V)) (changed : Bool) → Joined below is_valid is_formed (value_at other) old new changed → IsValidMap is_formed old → IsValidMap is_formed other → IsLeast (map_below below) (IsValidMap is_valid) old other new
joined_least {V} below is_valid is_formed old other new changed joined formed formed_other = λ bound valid_bound over_old over_other. λ key value present.
    let look : ℤ → Option V = value_at other in
    let mine = over_old key value present in
    let theirs = over_other key value present in
    let to = joined_to below is_valid is_formed look old new changed joined formed.ascending key mine.0 theirs.0 mine.1 theirs.1 in
    let least = to.joins.least (formed.values key mine.0 mine.1) (formed_other.values key theirs.0 theirs.1) in
    (to.value, to.present, least value (valid_bound.values key value present) mine.2 theirs.2)

ascending_take : {V : Type 0} (count : ℕ) (entries : List (ℤ × V)) → IsAscending entries → IsAscending (take count entries)
ascending_take {V} count entries ascends = λ i j d before within.
    let j_in : j < count = omega (arith, length-take count entries) in
    let i_in : i < count = omega arith in
    rw (get_or-take count entries i d i_in, get_or-take count entries j d j_in) (ascends i j d before (omega (arith, length-take count entries)))

-- ---- the same, of the answer of a join: Ok of whether it changed, or an error after a front

pub answer_ascending : {V E : Type 0} (below : V → V → Type 0) (is_valid is_formed : V → Type 0) (look : ℤ → Option V) (old new : List (ℤ × V)) (answer : Result Bool E) → IfOk answer (λ changed. Joined below is_valid is_formed look old new changed) → OnErr answer (JoinedFront below is_valid is_formed look old new) → IsAscending old → IsAscending new
answer_ascending below is_valid is_formed look old new (Ok changed) ok err ascends = joined_ascending below is_valid is_formed look old new changed ok ascends
answer_ascending below is_valid is_formed look old new (Err _) ok err ascends = joined_ascending below is_valid is_formed look (take err.count old) new err.changed err.joined (ascending_take err.count old ascends)

pub answer_kept : {V E : Type 0} (below : V → V → Type 0) (is_valid is_formed : V → Type 0) (look : ℤ → Option V) (old new whole : List (ℤ × V)) (answer : Result Bool E) → old ≡ whole → IfOk answer (λ changed. Joined below is_valid is_formed look old new changed) → OnErr answer (JoinedFront below is_valid is_formed look old new) → IsValidMap is_valid whole → IsValidMap is_valid new
answer_kept {V} below is_valid is_formed look old new whole (Ok changed) lists ok err valid =
    let J : List (ℤ × V) → Type 0 = λ os. Joined below is_valid is_formed look os new changed in
    joined_valid below is_valid is_formed look whole new changed (subst J lists ok) valid
answer_kept {V} below is_valid is_formed look old new whole (Err _) lists ok err valid =
    let J : List (ℤ × V) → Type 0 = λ os. JoinedFront below is_valid is_formed look os new in
    let front = subst J lists err in
    front_valid below is_valid is_formed look front.count whole new front.changed front.joined valid

pub answer_join : {V E : Type 0} (below : V → V → Type 0) (is_valid is_formed : V → Type 0) (old lent other new whole : List (ℤ × V)) (answer : Result Bool E) → old ≡ whole → lent ≡ other → IfOk answer (λ changed. Joined below is_valid is_formed (value_at lent) old new changed) → OnOk answer (IsValidMap is_valid whole → IsValidMap is_valid other → IsJoin (map_below below) (IsValidMap is_valid) whole other new)
answer_join {V} below is_valid is_formed old lent other new whole (Ok changed) lists lents ok = λ valid valid_other.
    let J : List (ℤ × V) → Type 0 = λ os. Joined below is_valid is_formed (value_at lent) os new changed in
    let K : List (ℤ × V) → Type 0 = λ ls. Joined below is_valid is_formed (value_at ls) whole new changed in
    joined_is_join below is_valid is_formed whole other new changed (subst K lents (subst J lists ok)) valid valid_other
answer_join below is_valid is_formed old lent other new whole (Err _) lists lents ok = tt

pub answer_told : {V E : Type 0} (below : V → V → Type 0) (is_valid is_formed : V → Type 0) (look : ℤ → Option V) (old new whole : List (ℤ × V)) (answer : Result Bool E) → old ≡ whole → IfOk answer (λ changed. Joined below is_valid is_formed look old new changed) → IfOk answer (λ changed. TellsChange changed whole new)
answer_told {V} below is_valid is_formed look old new whole (Ok changed) lists ok =
    let J : List (ℤ × V) → Type 0 = λ os. Joined below is_valid is_formed look os new changed in
    joined_told below is_valid is_formed look whole new changed (subst J lists ok)
answer_told below is_valid is_formed look old new whole (Err _) lists ok = tt

pub answer_formed : {V E : Type 0} (below : V → V → Type 0) (is_valid is_formed : V → Type 0) (old lent other new whole : List (ℤ × V)) (answer : Result Bool E) → old ≡ whole → lent ≡ other → IfOk answer (λ changed. Joined below is_valid is_formed (value_at lent) old new changed) → OnOk answer (IsValidMap is_formed whole → IsValidMap is_formed other → IsValidMap is_formed new)
answer_formed {V} below is_valid is_formed old lent other new whole (Ok changed) lists lents ok = λ formed formed_other.
    let A : List (ℤ × V) → Type 0 = λ es. IsValidMap is_formed es in
    joined_formed below is_valid is_formed old lent new changed ok (subst A (sym lists) formed) (subst A (sym lents) formed_other)
answer_formed below is_valid is_formed old lent other new whole (Err _) lists lents ok = tt

pub answer_least : {V E : Type 0} (below : V → V → Type 0) (is_valid is_formed : V → Type 0) (old lent other new whole : List (ℤ × V)) (answer : Result Bool E) → old ≡ whole → lent ≡ other → IfOk answer (λ changed. Joined below is_valid is_formed (value_at lent) old new changed) → OnOk answer (IsValidMap is_formed whole → IsValidMap is_formed other → IsLeast (map_below below) (IsValidMap is_valid) whole other new)
answer_least {V} below is_valid is_formed old lent other new whole (Ok changed) lists lents ok = λ formed formed_other.
    let A : List (ℤ × V) → Type 0 = λ es. IsValidMap is_formed es in
    let L : List (ℤ × V) → Type 0 = λ es. IsLeast (map_below below) (IsValidMap is_valid) es other new in
    let R : List (ℤ × V) → Type 0 = λ es. IsLeast (map_below below) (IsValidMap is_valid) old es new in
    subst L lists (subst R lents (joined_least below is_valid is_formed old lent new changed ok (subst A (sym lists) formed) (subst A (sym lents) formed_other)))
answer_least below is_valid is_formed old lent other new whole (Err _) lists lents ok = tt

-- the keys of a join are those of both
pub answer_keys : {V E : Type 0} (below : V → V → Type 0) (is_valid is_formed : V → Type 0) (old lent other new whole : List (ℤ × V)) (answer : Result Bool E) → old ≡ whole → lent ≡ other → IsAscending old → IfOk answer (λ changed. Joined below is_valid is_formed (value_at lent) old new changed) → OnOk answer ((key : ℤ) → HasKey new key ↔ (HasKey whole key × HasKey other key))
answer_keys {V} below is_valid is_formed old lent other new whole (Ok changed) lists lents ascends ok = λ key.
    let H : List (ℤ × V) → Type 0 = λ es. HasKey es key in (
      λ has.
          let from = joined_from below is_valid is_formed (value_at lent) old new changed ok ascends key has.0 has.1 in
          (subst H lists (from.mine, from.found), subst H lents (from.theirs, from.looked)),
      λ both.
          let mine = subst H (sym lists) both.0 in
          let theirs = subst H (sym lents) both.1 in
          let to = joined_to below is_valid is_formed (value_at lent) old new changed ok ascends key mine.0 theirs.0 mine.1 theirs.1 in
          (to.value, to.present),
    )
answer_keys below is_valid is_formed old lent other new whole (Err _) lists lents ascends ok = tt
