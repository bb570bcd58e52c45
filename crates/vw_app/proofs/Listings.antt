-- The listing of a module's code.
use Rattle.std.proofs.Common.{◌≡◌, ℕ, ◌+◌, ◌≤◌, List, ◌++◌, length, take, drop, refl, sym, ◌∙◌, ap, subst, arith}
use Rattle.std.proofs.lemmas.List.{length-drop, length-take-le, take-append-drop}
use Rattle.vw_insn.specs.declared.instruction.Insn.{Insn}
use Rattle.vw_rows.specs.Spelling.{Spells}
use Rattle.vw_layout.specs.declared.functions.Function.{Function}
use Rattle.vw_layout.specs.declared.layout.Module.{Module}
use Rattle.vw_graph.specs.declared.all_rounds.Rounds.{Rounds}
use Rattle.vw_graph.specs.Rounds.{IsRounds, last_table}
use Rattle.vw_state.specs.declared.tables.FunctionTable.{FunctionTable}
use Rattle.vw_state.specs.declared.tables.PointState.{PointState}
use Rattle.vw_state.specs.Code.{BeginsAt, StandsAlone, code_at}
use Rattle.vw_state.specs.Context.{Context, code_of, context_of}
use Rattle.vw_state.specs.Rounds.{IsLeast}
use Rattle.vw_app.specs.Listing.{AreTexts, Appends, IsPointLine, begins, nothing, IsFunctionListing, IsListing, instruction_line, name_line}
use Rattle.vw_app.proofs.Least.{OneLeastIn, least_of}
use Rattle.vw_app.proofs.Texts.{appends, texts_once}
use Rattle.vw_app.proofs.Pieces.{pieces2}

-- no spelling begins another
abbrev pub OneSpelling : Type 0
OneSpelling = (a b x y : List ℕ) (i j : Insn) → Spells a i → Spells b j → a ++ x ≡ b ++ y → (a ≡ b) × (i ≡ j)

module _ (law : OneSpelling) {code : List ℕ} {at : ℕ} where
  front_length : {i : Insn} {len : ℕ} → BeginsAt code at i len → length (take len (drop at code)) ≡ len
  front_length {i} {len} b = length-take-le len (drop at code) (omega (arith, b.inside, length-drop at code))

  begins_once : {i j : Insn} {len other : ℕ} → BeginsAt code at i len → BeginsAt code at j other → (i ≡ j) × (len ≡ other)
  begins_once {i} {j} {len} {other} b c =
      let rest = drop at code in
      let same = law (take len rest) (take other rest) (drop len rest) (drop other rest) i j b.spelled c.spelled (take-append-drop len rest ∙ sym (take-append-drop other rest)) in
      (same.1, sym (front_length b) ∙ (ap (λ (bytes : List ℕ). length bytes) same.0 ∙ front_length c))

  pub point_once : (a b : List ℕ) → IsPointLine code at a → IsPointLine code at b → a ≡ b
  point_once a b (begins i len stands) (begins j other also) =
      let same = begins_once stands also in
      ap (λ (insn : Insn). instruction_line at (take len (drop at code)) insn) same.0 ∙ ap (λ (n : ℕ). instruction_line at (take n (drop at code)) j) same.1
  point_once a b (begins i len stands) (nothing none) = absurd (none i len stands)
  point_once a b (nothing none) (begins i len stands) = absurd (none i len stands)
  point_once a b (nothing none) (nothing also) = refl

-- a function has one listing, where it has one least table
pub function_once : OneSpelling → (f : Context) (name a b : List ℕ) → ((table other : List PointState) → IsLeast f table → IsLeast f other → table ≡ other) → IsFunctionListing f name a → IsFunctionListing f name b → a ≡ b
function_once law f name a b one_least one two =
    let IsLine : PointState → List ℕ → Type 0 = λ p. IsPointLine (code_of f) p.at in
    let same : one.table ≡ two.table = one_least one.table two.table one.least two.least in
    let lines : AreTexts IsLine two.table one.points = subst (λ (t : List PointState). AreTexts IsLine t one.points) same one.lines in
    let points : one.points ≡ two.points = texts_once IsLine two.table one.points two.points (λ k p at x y. point_once law x y) lines two.lines in
    one.is ∙ (ap (λ (t : List ℕ). name_line name ++ t) points ∙ sym two.is)

-- and a module has one
pub listing_once : OneSpelling → (m : Module) (a b : List ℕ) → OneLeastIn m → IsListing m a → IsListing m b → a ≡ b
listing_once law m a b one_least listed also =
    texts_once (λ f. IsFunctionListing (context_of m f) f.name) m.functions a b (λ k f is x y. function_once law (context_of m f) f.name x y (one_least k f is)) listed also

-- the line of the one instruction that stands at a point
pub instruction_stands : (code : List ℕ) (at : ℕ) (i : Insn) (len : ℕ) (bytes old new : List ℕ) → StandsAlone code at i len → bytes ≡ take len (drop at code) → new ≡ old ++ instruction_line at bytes i → Appends (IsPointLine code at) old new
instruction_stands code at i len bytes old new alone same is =
    appends (IsPointLine code at) old new (instruction_line at (take len (drop at code)) i) (begins i len alone.begins) (is ∙ ap (λ (b : List ℕ). old ++ instruction_line at b i) same)

-- its bytes do not pass the end of the code
pub stands_inside : (code : List ℕ) (at : ℕ) (i : Insn) (len : ℕ) (bytes : List ℕ) → StandsAlone code at i len → bytes ≡ take len (drop at code) → at + length bytes ≤ length code
stands_inside code at i len bytes alone same =
    omega (arith, alone.begins.inside, ap (λ (b : List ℕ). length b) same, length-take-le len (drop at code) (omega (arith, alone.begins.inside, length-drop at code)))

module _ (m : Module) (read f : Function) (ends : Rounds) (table : FunctionTable) (code : List ℕ) (states : List PointState) (same : read ≡ f) (is_last : table ≡ last_table ends)
    (is_code : code ≡ code_at m.image read.entry read.size) (are_states : states ≡ table.states) (is_rounds : IsRounds (context_of m f) ends) where
  code_is : code ≡ code_of (context_of m f)
  code_is = is_code ∙ ap (λ (g : Function). code_at m.image g.entry g.size) same

  least : IsLeast (context_of m f) states
  least = subst (λ (ps : List PointState). IsLeast (context_of m f) ps) (sym (are_states ∙ ap (λ (t : FunctionTable). t.states) is_last)) (least_of (context_of m f) ends is_rounds)

  -- a function's name and the points of its least table, as they were appended
  pub function_listed : (name old named new : List ℕ) → name ≡ read.name → named ≡ old ++ name_line name → Appends (AreTexts (λ p. IsPointLine code p.at) states) named new → Appends (IsFunctionListing (context_of m f) f.name) old new
  function_listed name old named new is_name begun points =
      let lines = subst (λ (c : List ℕ). AreTexts (λ (p : PointState). IsPointLine c p.at) states points.piece) code_is points.holds in
      let named_so : name ≡ f.name = is_name ∙ ap (λ (g : Function). g.name) same in
      record {
        piece = name_line f.name ++ points.piece;
        holds = record { table = states; least = least; points = points.piece; lines = lines; is = refl };
        is = pieces2 old named new (name_line f.name) points.piece (begun ∙ ap (λ (n : List ℕ). old ++ name_line n) named_so) points.is;
      }
