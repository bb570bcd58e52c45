-- A lower state stands for less.
use Rattle.std.proofs.Common.{◌≡◌, ℕ, ◌⊎◌, inl, inr, ⊎_elim, refl, sym, ap, ◌∙◌, subst, arith}
use Rattle.std.specs.Prelude.{Some, Bool, true, false, not, ℤ}
use Rattle.std.proofs.lemmas.Bool.{false≢true}
use Rattle.vw_insn.specs.Words.{Flags as StatusFlags}
use Rattle.vw_domain.proofs.ChangeLaws.{no_tag}
use Rattle.vw_domain.proofs.ValueLaws.{ValueLaws, under_stands}
use Rattle.vw_domain.proofs.Standing.{Standing}
use Rattle.vw_domain.proofs.Valid.{absent}
use Rattle.vw_domain.proofs.Orders.{typed, index16, index16_unmarked, fact_is}
use Rattle.vw_names.specs.declared.spot.Spot.{Spot as Place}
use Rattle.vw_names.specs.declared.spot.Spot.TheVariants.{Reg as Register, Flags as Compared, Slot}
use Rattle.vw_stack.specs.Stack.{offset_below}
use Rattle.vw_stack.specs.declared.offset.Offset.{Offset}
use Rattle.vw_stack.specs.declared.offset.Offset.TheVariants as offset
use Rattle.vw_values.specs.declared.value.Value.{Value}
use Rattle.vw_values.specs.declared.value.Value.TheVariants.{Any}
use Rattle.vw_values.specs.Stands.{Stands}
use Rattle.vw_bits.specs.Fields.{load}
use Rattle.vw_domain.specs.declared.parts.Fact.{Fact}
use Rattle.vw_domain.specs.declared.parts.Fact.TheVariants as fact
use Rattle.vw_domain.specs.State.{fact_below}
use Rattle.vw_domain.specs.Abstract.{Abstract}
use Rattle.vw_domain.specs.Sites.{Site, IsSite}
use Rattle.vw_domain.specs.Stands.{Machine, content, at_offset, OffsetStands, FactStands, is_entry, is_index, Tag, tag_register, clashes}
use Rattle.vw_domain.specs.Soundness.{IsPlaced}
use Rattle.vw_domain.specs.FormRanges.{IsForm}
use Rattle.vw_domain.proofs.Orders.{Under, same, Lower}

entry_under : (u v : Value) → Under u v → is_entry v ≡ true → is_entry u ≡ true
entry_under u v same e = e
entry_under u v typed e = refl
entry_under u v h e = absurd (false≢true e)

index_under : (u v : Value) → Under u v → is_index v ≡ true → is_index u ≡ true
index_under u v same e = e
index_under u v (index16 h) e = refl
index_under u v (index16_unmarked h) e = refl
index_under u v h e = absurd (false≢true e)

pub clash_under : (at : Bool) (u v : Value) → Under u v → clashes at v ≡ true → clashes at u ≡ true
clash_under true u v h e = index_under u v h e
clash_under false u v h e = entry_under u v h e

pub tag_under : (u v : Value) (g : Tag) → Under u v → tag_register v ≡ Some g → tag_register u ≡ Some g
tag_under u v g same n = n
tag_under u v g k n = absurd (no_tag n)

module _ (top : Machine) (site : Site) (next : ℕ) (laid : IsPlaced top site next) (laws : ValueLaws) (bounds : IsSite site)
    (s t : Abstract) (held : ℕ → ℕ) (flags : StatusFlags) (bytes : ℕ → ℕ) (compared : ℕ)
    (below : Lower s t) (vt : IsForm site.bounds t) (h : Standing s top held flags bytes compared) where
  abbrev in_s : Place → ℕ
  in_s p = content top.entry_rsp s.sizes held bytes compared p

  abbrev in_t : Place → ℕ
  in_t p = content top.entry_rsp t.sizes held bytes compared p

  -- a slot that is there is the same slot below
  alike : (p : Place) → (in_t p ≡ in_s p) ⊎ ((o : ℤ) × (p ≡ Slot o) × (t.sizes o ≡ 0))
  alike (Register r) = inl refl
  alike Compared = inl refl
  alike (Slot o) = ⊎_elim (λ (z : t.sizes o ≡ 0). inr (o, refl, z)) (λ (z : s.sizes o ≡ t.sizes o). inl (ap (λ n. load bytes (at_offset top.entry_rsp o) n) (sym z))) (below.sizes o)

  abbrev V : Value → ℕ → Type 0
  V v x = Stands top.instance held v x

  above : (p : Place) → V (t.values p) (in_s p)
  above p = under_stands top site held next laid laws bounds (s.values p) (t.values p) (in_s p) (vt.values p) (below.values p) (h.values p)

  value : (p : Place) → V (t.values p) (in_t p)
  value p = ⊎_elim
      (λ (a : in_t p ≡ in_s p). subst (V (t.values p)) (sym a) (above p))
      (λ (b : (o : ℤ) × (p ≡ Slot o) × (t.sizes o ≡ 0)). let P : Value → Type 0 = λ v. V v (in_t p) in let Q : Place → Type 0 = λ q. t.values q ≡ Any in subst P (sym (subst Q (sym b.1) (absent site.bounds t vt b.0 b.2))) tt)
      (alike p)

  class : (p q : Place) → t.same p q ≡ true → in_t p ≡ in_t q
  class p q e = ⊎_elim
      (λ (a : in_t p ≡ in_s p). ⊎_elim
      (λ (b : in_t q ≡ in_s q). a ∙ h.classes p q (below.same p q e) ∙ sym b)
      (λ (b : (o : ℤ) × (q ≡ Slot o) × (t.sizes o ≡ 0)). ap in_t (vt.alone_right p b.0 b.2 (subst (λ x. t.same p x ≡ true) b.1 e) ∙ sym b.1))
      (alike q))
      (λ (a : (o : ℤ) × (p ≡ Slot o) × (t.sizes o ≡ 0)). ap in_t (a.1 ∙ sym (vt.alone_left q a.0 a.2 (subst (λ x. t.same x q ≡ true) a.1 e))))
      (alike p)

  offset_at : (o o' : Offset) (x : ℕ) → offset_below o o' → OffsetStands top.entry_rsp o x → OffsetStands top.entry_rsp o' x
  offset_at o offset.Unknown x f k = tt
  offset_at offset.Unknown (offset.Known c) x f k = absurd f
  offset_at (offset.Known d) (offset.Known c) x f k = subst (λ z. OffsetStands top.entry_rsp (offset.Known z) x) f k

  fact_at : (f f' : Fact) → fact_below f f' → FactStands f compared flags → FactStands f' compared flags
  fact_at f fact.Unknown e k = tt
  fact_at f (fact.Compare w j) e k = subst (λ z. FactStands z compared flags) (fact_is f w j e) k

  pub lower_stands : Standing t top held flags bytes compared
  lower_stands =
      record {
        low_end = h.low_end;
        high_end = h.high_end;
        depth = omega (arith, h.depth, below.probed);
        offsets = λ r. offset_at _ _ (held r) (below.offsets r) (h.offsets r);
        values = value;
        classes = class;
        inside = h.inside;
        written = λ c e. h.written c (below.written c e);
        word = h.word;
        facts = fact_at _ _ below.fact h.facts;
        kinds = record {
          apart = λ at p q e a b. h.kinds.apart at p q (below.same p q e) (clash_under (not at) _ _ (below.values p) a) (clash_under at _ _ (below.values q) b);
          tags = λ p q g e a b. h.kinds.tags p q g (tag_under _ _ g (below.values p) e) (below.same (Register g.register) q a) (clash_under g.at _ _ (below.values q) b);
        };
      }
