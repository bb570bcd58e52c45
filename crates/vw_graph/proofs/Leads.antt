-- The points to which a table of jumps leads, entry by entry.
use Rattle.std.proofs.Common.{◌≡◌, ℕ, zero, suc, ◌+◌, ◌-◌, ◌*◌, ◌<◌, ◌≤◌, Bool, true, false, ℤ, pos, negsuc, ◌+ℤ◌, List, [], ◌∷◌, Option, Some, None, if◌then◌else◌, refl, sym, ap, subst, ◌∙◌, arith, inl, inr, ◌⊎◌}
use Rattle.std.specs.Prelude.{IfSome, MatchBool, slice_index_or}
use Rattle.std.specs.List.{Contains}
use Rattle.std.proofs.lemmas.Bool.{cases_eq}
use Rattle.std.proofs.lemmas.Bool.Decides.{nat_tests}
use Rattle.vw_bits.specs.Places.{is_among}
use Rattle.vw_image.specs.declared.word.Word.{Word}
use Rattle.vw_image.specs.declared.word.Word.TheVariants as word
use Rattle.vw_image.specs.Image.{Contents}
use Rattle.vw_image.specs.Words.{word_at}
use Rattle.vw_switch.specs.Targets.{signed, offset_in, leads_to, target}
use Rattle.vw_state.specs.declared.jumps.JumpTable.{JumpTable}
use Rattle.vw_state.specs.declared.site.Site.{Site}
use Rattle.vw_state.specs.Context.{Context, IsSite}
use Rattle.vw_state.specs.Post.{entry_target, with_target, targets_from}
use Rattle.vw_graph.specs.search.Jumps.{LeadsTo, AreMarked, LeadsBeyond, LeadsFurther, LeadsNoFurther}
use Rattle.vw_graph.proofs.Members.{contains_head, contains_tail, contains_none, contains_cases}

-- ---- one entry

among_inside : (entry size a to : ℕ) (b : Bool) → is_among entry size a 1 ≡ b → (if b then Some (a - entry) else None) ≡ Some to → to < size
among_inside entry size a to true is e = let same : a - entry ≡ to = cc in grind (arith, nat_tests, is, same)
among_inside entry size a to false is e = absurd cc

offset_inside : (entry size : ℕ) (address : ℤ) (to : ℕ) → offset_in entry size address ≡ Some to → to < size
offset_inside entry size (pos a) to e = among_inside entry size a to (is_among entry size a 1) refl e
offset_inside entry size (negsuc n) to e = absurd cc

word_inside : (base entry size : ℕ) (w : Word) (to : ℕ) → leads_to base entry size w ≡ Some to → to < size
word_inside base entry size (word.Plain n) to e = offset_inside entry size (pos base +ℤ signed n) to e
word_inside base entry size (word.Based a) to e = absurd cc
word_inside base entry size (word.Bound n) to e = absurd cc
word_inside base entry size word.Mixed to e = absurd cc
word_inside base entry size word.Outside to e = absurd cc

-- an entry leads to a byte of the function
pub target_inside : (image : Contents) (base i entry size to : ℕ) → target image base i entry size ≡ Some to → to < size
unfolding target
target_inside image base i entry size to e = word_inside base entry size (word_at image (base + 4 * i) 4) to e

-- the entry as a site of the function tells it
pub site_target : (f : Context) (site : Site) (table : JumpTable) (i : ℕ) → IsSite f site → target site.image.now table.base i site.entry site.size ≡ entry_target f table i
site_target f site table i is =
    ap (λ (image : Contents). target image table.base i site.entry site.size) (sym is.image)
    ∙ (ap (λ (entry : ℕ). target f.image table.base i entry site.size) (sym is.entry) ∙ ap (λ (size : ℕ). target f.image table.base i f.entry size) (sym is.size))

-- ---- all of them

with_has : (o : Option ℕ) (points : List ℕ) (to : ℕ) → (o ≡ Some to) ⊎ Contains points to → Contains (with_target o points) to
with_has None points to (inl e) = absurd cc
with_has None points to (inr c) = c
with_has (Some point) points to (inl e) = let same : point ≡ to = cc in let C : ℕ → Type 0 = λ n. Contains (point ∷ points) n in subst C same (contains_head point points)
with_has (Some point) points to (inr c) = contains_tail point to points c

with_from : (o : Option ℕ) (points : List ℕ) (to : ℕ) → Contains (with_target o points) to → (o ≡ Some to) ⊎ Contains points to
with_from None points to c = inr c
with_from (Some point) points to c = elim (contains_cases point to points c) [
  | inl same ↦ inl (ap (λ (n : ℕ). Some n) same)
  | inr later ↦ inr later
]

-- one of the first entries leads there
pub record LeadsBelow (f : Context) (table : JumpTable) (count to : ℕ) : Type 0 where
  pub entry : ℕ
  pub less : entry < count
  pub leads : entry_target f table entry ≡ Some to

targets_have : (f : Context) (table : JumpTable) (from count i to : ℕ) → from ≤ i → i < from + count → entry_target f table i ≡ Some to → Contains (targets_from f table from count) to
targets_have f table from zero i to le less e = absurd (omega (arith, le, less))
targets_have f table from (suc count) i to le less e = elim (cases_eq i from) [
  | inl same ↦ with_has (entry_target f table from) (targets_from f table (suc from) count) to (inl (ap (λ (n : ℕ). entry_target f table n) (sym same) ∙ e))
  | inr other ↦ with_has (entry_target f table from) (targets_from f table (suc from) count) to (inr (targets_have f table (suc from) count i to (omega (arith, le, other)) (omega (arith, less)) e))
]

targets_are : (f : Context) (table : JumpTable) (from count to : ℕ) → Contains (targets_from f table from count) to → LeadsBelow f table (from + count) to
targets_are f table from zero to c = absurd (contains_none to c)
targets_are f table from (suc count) to c = elim (with_from (entry_target f table from) (targets_from f table (suc from) count) to c) [
  | inl e ↦ record { entry = from; less = omega arith; leads = e }
  | inr later ↦ let r = targets_are f table (suc from) count to later in record { entry = r.entry; less = omega (arith, r.less); leads = r.leads }
]

pub leads_have : (f : Context) (table : JumpTable) (to : ℕ) → LeadsBelow f table table.count to → LeadsTo f (Some table) to
leads_have f table to below = targets_have f table 0 table.count below.entry to (omega arith) (omega (arith, below.less)) below.leads

pub leads_are : (f : Context) (table : JumpTable) (to : ℕ) → LeadsTo f (Some table) to → LeadsBelow f table table.count to
leads_are f table to c = let r = targets_are f table 0 table.count to c in record { entry = r.entry; less = omega (arith, r.less); leads = r.leads }

-- tables lead to bytes of the function
pub leads_inside : (f : Context) (slot : Option JumpTable) (to : ℕ) → LeadsTo f slot to → to < f.size
leads_inside f None to c = absurd (contains_none to c)
leads_inside f (Some table) to c = let r = leads_are f table to c in target_inside f.image table.base r.entry f.entry f.size to r.leads

-- ---- marks

abbrev pub mark_at : List ℕ → ℕ → ℕ
mark_at marks point = slice_index_or marks point 0

-- the points to which the first entries lead have the mark, and no others have got one
pub record AreMarkedBelow (f : Context) (table : JumpTable) (count mark : ℕ) (old new : List ℕ) : Type 0 where
  pub there : (to : ℕ) → LeadsBelow f table count to → mark_at new to ≡ mark
  pub others : (to : ℕ) → LeadsBelow f table count to ⊎ (mark_at new to ≡ mark_at old to)

pub none_marked : (f : Context) (table : JumpTable) (mark : ℕ) (marks : List ℕ) → AreMarkedBelow f table 0 mark marks marks
none_marked f table mark marks = record { there = λ to below. let less = below.less in absurd (omega (arith, less)); others = λ to. inr refl }

pub one_marked : (f : Context) (table : JumpTable) (i mark : ℕ) (old middle new : List ℕ) (to : Option ℕ) → AreMarkedBelow f table i mark old middle → to ≡ entry_target f table i → IfSome to (λ point. mark_at new point ≡ mark)
    → ((other : ℕ) → (to ≡ Some other) ⊎ (mark_at new other ≡ mark_at middle other)) → AreMarkedBelow f table (i + 1) mark old new
one_marked f table i mark old middle new to before is here others = record { there = there; others = rest }
  where
    marked : (point : ℕ) → to ≡ Some point → mark_at new point ≡ mark
    marked point e = let H : Option ℕ → Type 0 = λ o. IfSome o (λ p. mark_at new p ≡ mark) in subst H e here

    there : (point : ℕ) → LeadsBelow f table (i + 1) point → mark_at new point ≡ mark
    there point below = elim (cases_eq below.entry i) [
      | inl same ↦ marked point (is ∙ (ap (λ (n : ℕ). entry_target f table n) (sym same) ∙ below.leads))
      | inr other ↦ elim (others point) [
        | inl e ↦ marked point e
        | inr kept ↦ kept ∙ before.there point (record { entry = below.entry; less = omega (arith, below.less, other); leads = below.leads })
      ]
    ]

    rest : (point : ℕ) → LeadsBelow f table (i + 1) point ⊎ (mark_at new point ≡ mark_at old point)
    rest point = elim (others point) [
      | inl e ↦ inl (record { entry = i; less = omega arith; leads = sym is ∙ e })
      | inr kept ↦ elim (before.others point) [
        | inl below ↦ inl (record { entry = below.entry; less = omega (arith, below.less); leads = below.leads })
        | inr same ↦ inr (kept ∙ same)
      ]
    ]

pub all_marked : (f : Context) (table : JumpTable) (mark : ℕ) (old new : List ℕ) → AreMarkedBelow f table table.count mark old new → AreMarked f (Some table) mark old new
all_marked f table mark old new are = record {
  there = λ to leads. are.there to (leads_are f table to leads);
  others = λ to. elim (are.others to) [ inl below ↦ inl (leads_have f table to below) | inr same ↦ inr same ];
}

pub nothing_marked : (f : Context) (mark : ℕ) (marks : List ℕ) → AreMarked f None mark marks marks
nothing_marked f mark marks = record { there = λ to leads. absurd (contains_none to leads); others = λ to. inr refl }

-- no mark is above the one that was set last
pub marks_at_most : (f : Context) (slot : Option JumpTable) (mark : ℕ) (old new : List ℕ) → AreMarked f slot mark old new → ((point : ℕ) → mark_at old point < mark) → (point : ℕ) → mark_at new point ≤ mark
marks_at_most f slot mark old new are unused point = elim (are.others point) [
  | inl leads ↦ let is = are.there point leads in omega (arith, is)
  | inr same ↦ omega (arith, same, unused point)
]

-- what leads beyond the marked points leads further than the table that they are marked for
pub beyond_is_further : (f : Context) (slot now : Option JumpTable) (mark : ℕ) (old new : List ℕ) → AreMarked f slot mark old new → LeadsBeyond f now mark new → LeadsFurther f slot now
beyond_is_further f slot now mark old new are beyond = record { to = beyond.to; leads = beyond.leads; new = λ leads. beyond.unmarked (are.there beyond.to leads) }

pub within_is_no_further : (f : Context) (slot now : Option JumpTable) (mark : ℕ) (old new : List ℕ) → AreMarked f slot mark old new → ((point : ℕ) → mark_at old point < mark) → ((to : ℕ) → LeadsTo f now to → mark_at new to ≡ mark) → LeadsNoFurther f slot now
within_is_no_further f slot now mark old new are unused within = λ to leads. elim (are.others to) [
  | inl before ↦ before
  | inr same ↦ absurd (omega (arith, same, within to leads, unused to))
]

-- a table that leads beyond the marked points
pub further_by : (f : Context) (slot now : Option JumpTable) (mark : ℕ) (old new marks : List ℕ) (answer : Bool) → AreMarked f slot mark old new → ((point : ℕ) → mark_at old point < mark) → marks ≡ new
    → MatchBool answer (LeadsBeyond f now mark marks) ((to : ℕ) → LeadsTo f now to → mark_at marks to ≡ mark) → MatchBool answer (LeadsFurther f slot now) (LeadsNoFurther f slot now)
further_by f slot now mark old new marks true are unused same beyond = let L : List ℕ → Type 0 = λ ms. LeadsBeyond f now mark ms in beyond_is_further f slot now mark old new are (subst L same beyond)
further_by f slot now mark old new marks false are unused same within = let L : List ℕ → Type 0 = λ ms. (to : ℕ) → LeadsTo f now to → mark_at ms to ≡ mark in within_is_no_further f slot now mark old new are unused (subst L same within)

-- ---- sites

-- some function has the site
pub some_context : (site : Site) → (f : Context) × IsSite f site
some_context site = (
  record { image = site.image.now; tables = site.tables.now; functions = []; entry = site.entry; size = site.size; bounds = site.bounds.now },
  record { image = refl; tables = refl; entry = refl; size = refl; bounds = refl },
)

pub some_inside : (o : Option ℕ) (end : ℕ) → ((to : ℕ) → o ≡ Some to → to < end) → IfSome o (λ to. to < end)
some_inside None end each = tt
some_inside (Some to) end each = each to refl
