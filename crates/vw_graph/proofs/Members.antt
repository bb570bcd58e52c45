-- The items of lists, and of their images.
use Rattle.std.proofs.Common.{◌≡◌, List, [], ◌∷◌, map, subst, inl, inr, All}
use Rattle.std.specs.List.{Contains}
use Rattle.std.proofs.lemmas.List.Elements.{All-contains_itself, All-weaker}
pub use Rattle.vw_state.proofs.RoundLists.{contains_head, contains_tail, contains_none, contains_cases, seconds_has, seconds_from, distinct_fit, distinct_fewer}

pub all_from_contains : {X : Type 0} (P : X → Type 0) (xs : List X) → ((x : X) → Contains xs x → P x) → All P xs
all_from_contains {X} P xs each = let C : X → Type 0 = Contains xs in All-weaker C P each xs (All-contains_itself xs)

map_has : {X Y : Type 0} (g : X → Y) (xs : List X) (x : X) → Contains xs x → Contains (map g xs) (g x)
map_has g [] x c = absurd (contains_none x c)
map_has {X} {Y} g (y ∷ xs) x c = elim (contains_cases y x xs c) [
  | inl same ↦ let C : X → Type 0 = λ z. Contains (g y ∷ map g xs) (g z) in subst C same (contains_head (g y) (map g xs))
  | inr later ↦ contains_tail (g y) (g x) (map g xs) (map_has g xs x later)
]

map_from : {X Y : Type 0} (g : X → Y) (xs : List X) (y : Y) → Contains (map g xs) y → (x : X) × Contains xs x × (g x ≡ y)
map_from g [] y c = absurd (contains_none y c)
map_from g (x ∷ xs) y c = elim (contains_cases (g x) y (map g xs) c) [
  | inl same ↦ (x, contains_head x xs, same)
  | inr later ↦ let r = map_from g xs y later in (r.0, contains_tail x r.0 xs r.1, r.2)
]

-- the images of items that are among others are among the images of these
pub map_more : {X Y : Type 0} (g : X → Y) (xs ys : List X) → ((x : X) → Contains xs x → Contains ys x) → (y : Y) → Contains (map g xs) y → Contains (map g ys) y
map_more {X} {Y} g xs ys each y c =
    let r = map_from g xs y c in
    let C : Y → Type 0 = λ z. Contains (map g ys) z in
    subst C r.2 (map_has g ys r.0 (each r.0 r.1))
