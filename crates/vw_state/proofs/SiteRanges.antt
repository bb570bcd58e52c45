-- What the equations of a module's functions read of it is in its ranges.
use Rattle.std.proofs.Common.{◌≡◌, ℕ, zero, suc, ◌+◌, ◌-◌, ◌*◌, ◌^◌, ◌<◌, ◌≤◌, ◌==◌, Bool, true, false, if◌then◌else◌, List, length, map, slice_index, Option, Some, None, ap, subst, arith, lit<}
use Rattle.std.specs.Prelude.{Contains, nat_lt}
use Rattle.std.specs.List.{All, find, list_any}
use Rattle.std.specs.Option.{option_map_or}
use Rattle.std.proofs.Math.Nat.{mod-lt, pow-suc}
use Rattle.std.proofs.lemmas.List.{length-map}
use Rattle.std.proofs.lemmas.List.Elements.{All-map, All-weaker, All-contains_itself}
use Rattle.vw_bits.specs.Fields.{load}
use Rattle.vw_bits.specs.Places.{in_memory}
use Rattle.vw_bits.specs.declared.records.Segment.{Segment}
use Rattle.vw_dynamic.specs.declared.dynamic.RelKind.{RelKind}
use Rattle.vw_dynamic.specs.declared.dynamic.RelKind.TheVariants.{Based as BasedKind, Bound as BoundKind}
use Rattle.vw_image.specs.declared.word.Word.{Word}
use Rattle.vw_image.specs.declared.word.Word.TheVariants as word
use Rattle.vw_image.specs.Image.{Contents, segment_byte, memory_byte, touches}
use Rattle.vw_image.specs.Index.{kind_at}
use Rattle.vw_image.specs.Words.{in_readable, word_of_kind, unrelocated_word, word_at}
use Rattle.vw_layout.specs.declared.functions.Function.{Function}
use Rattle.vw_layout.specs.declared.layout.Module.{Module as Declared}
use Rattle.vw_layout.specs.declared.tables.TableInfo.{TableInfo}
use Rattle.vw_layout.specs.Layout.{IsModule, IsWhole, declared_tables}
use Rattle.vw_rows.specs.Numbers.{IsBytes}
use Rattle.vw_domain.specs.Sites.{Plain, Based}
use Rattle.vw_state.specs.Code.{code_at}
use Rattle.vw_state.specs.Context.{context_of, extent_of, lengths_of}
use Rattle.vw_state.specs.Laws.{HasSites}
use Rattle.vw_state.specs.Sites.{word_in}
use Rattle.vw_state.proofs.BoundLists.{are_bounds}

-- ---- words

load_fits : (byte : ℕ → ℕ) (a n : ℕ) → ((b : ℕ) → byte b < 256) → load byte a n < 256 ^ n
load_fits byte a zero fits = omega arith
load_fits byte a (suc n) fits =
    let rest = load_fits byte (a + 1) n fits in
    let here = fits a in
    let power : 256 ^ suc n ≡ 256 ^ n * 256 = pow-suc 256 n in
    omega arith

plain_is : {x y : ℕ} → word.Plain x ≡ word.Plain y → x ≡ y
plain_is e = cc

module _ (image : Contents) (are : IsBytes image.bytes) where
  of_segment : (a : ℕ) (s : Segment) (b : Bool) → (if b then slice_index image.bytes (s.offset + (a - s.vaddr)) else 0) < 256
  of_segment a s true = are (s.offset + (a - s.vaddr))
  of_segment a s false = lit< tt

  of_found : (a : ℕ) (found : Option Segment) → option_map_or (λ s. segment_byte image.bytes s a) found 0 < 256
  of_found a None = lit< tt
  of_found a (Some s) = of_segment a s (nat_lt (a - s.vaddr) s.filesz)

  memory_fits : (a : ℕ) → memory_byte image.bytes image.segments a < 256
  unfolding memory_byte
  memory_fits a = of_found a (find (in_memory a 1) image.segments)

  module _ (a n x : ℕ) where
    of_memory : (b c : Bool) → (if b then word.Mixed else (if c then word.Plain (load (memory_byte image.bytes image.segments) a n) else word.Outside)) ≡ word.Plain x → x < 256 ^ n
    of_memory true c e = absurd cc
    of_memory false true e = subst (λ y. y < 256 ^ n) (plain_is e) (load_fits (memory_byte image.bytes image.segments) a n memory_fits)
    of_memory false false e = absurd cc

    by_kind : (kind : Option RelKind) → option_map_or word_of_kind kind (unrelocated_word image a n) ≡ word.Plain x → x < 256 ^ n
    by_kind None e = of_memory (list_any (touches a n) image.relocations) (in_readable image.segments a n) e
    by_kind (Some (BasedKind addend)) e = absurd cc
    by_kind (Some (BoundKind number)) e = absurd cc

    word_fits : word_at image a n ≡ word.Plain x → x < 256 ^ n
    unfolding word_at
    word_fits e = by_kind (if n == 8 then kind_at image.relocations a else None) e

plain_in : (w : Word) (x : ℕ) → word_in w ≡ Plain x → w ≡ word.Plain x
plain_in (word.Plain y) x e = cc
plain_in (word.Based y) x e = absurd cc
plain_in (word.Bound y) x e = absurd cc
plain_in word.Mixed x e = absurd cc
plain_in word.Outside x e = absurd cc

based_is : {x y : ℕ} → Based x ≡ Based y → x ≡ y
based_is e = cc

based_in : (w : Word) (b : ℕ) → word_in w ≡ Based b → b < 2 ^ 64
based_in (word.Plain y) b e = absurd cc
based_in (word.Based y) b e = subst (λ n. n < 2 ^ 64) (based_is e) (mod-lt y (lit< tt))
based_in (word.Bound y) b e = absurd cc
based_in word.Mixed b e = absurd cc
based_in word.Outside b e = absurd cc

-- ---- tables

all_tables : (P : TableInfo → Type 0) (ts : List TableInfo) → ((t : TableInfo) → Contains ts t → P t) → All P ts
all_tables P ts each = All-weaker (Contains ts) P each ts (All-contains_itself ts)

-- the tables of a module have few entries
pub lengths_small : ((file : List ℕ) (t : TableInfo) → IsModule file → Contains (declared_tables file) t → length t.entries ≤ 65536)
    → (m : Declared) → IsWhole m → All (λ n. n ≤ 65536) (lengths_of m.tables)
lengths_small entries m whole =
    All-map (λ n. n ≤ 65536) (λ (t : TableInfo). length t.entries) m.tables
    (all_tables (λ t. length t.entries ≤ 65536) m.tables (λ t listed. entries m.image.bytes t whole.rules (subst (λ (ts : List TableInfo). Contains ts t) whole.tables listed)))

-- ---- sites

pub has_sites : ((file : List ℕ) → IsModule file → length (declared_tables file) ≤ 64)
    → ((file : List ℕ) (t : TableInfo) → IsModule file → Contains (declared_tables file) t → length t.entries ≤ 65536)
    → (m : Declared) (f : Function) → IsWhole m → IsBytes m.image.bytes → HasSites (context_of m f)
has_sites few entries m f whole bytes next = record {
  bounds = are_bounds (code_at m.image f.entry f.size) (lengths_of m.tables) (lengths_small entries m whole);
  few = count;
  half = λ a x e. omega (arith, word_fits m.image bytes a 4 x (plain_in (word_at m.image a 4) x e));
  whole = λ a x e. omega (arith, word_fits m.image bytes a 8 x (plain_in (word_at m.image a 8) x e));
  based = λ a b e. based_in (word_at m.image a 8) b e;
}
  where
    count : length (map extent_of m.tables) ≤ 64
    count =
        let most = few m.image.bytes whole.rules in
        let same = ap (λ (ts : List TableInfo). length ts) whole.tables in
        omega (arith, most, same, length-map m.tables extent_of)
