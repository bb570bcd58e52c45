-- Cells of one simple value are in order, whatever the bounds.
use Rattle.std.proofs.Common.{◌≡◌, ◌∙◌, ℕ, List, Bool, true, refl, subst, ap}
use Rattle.std.specs.Prelude.{ℤ}
use Rattle.vw_stack.specs.declared.offset.Offset.{Offset}
use Rattle.vw_stack.specs.Stack.{offset_below}
use Rattle.vw_stack.specs.StackOrder.{offset_reflexive}
use Rattle.vw_values.specs.Values.{IsAmong, value_below}
use Rattle.vw_values.specs.declared.value.Value.{Value}
use Rattle.vw_values.specs.declared.value.Value.TheVariants.{Any, Num, HeapBase, HeapAddr, Globals, Entry}
use Rattle.vw_domain.specs.declared.cells.Kind.{Kind}
use Rattle.vw_domain.specs.declared.cells.Kind.TheVariants as kind
use Rattle.vw_domain.specs.declared.cells.Word.{Word}
use Rattle.vw_domain.specs.declared.registers.Register.{Register}
use Rattle.vw_domain.specs.Registers.{register_below}
use Rattle.vw_domain.specs.Cells.{is_simple, offset_by, register_of_word, value_by, AreOneSimple}

value_under : (k k' : Kind) (f s t r f' s' t' r' : ℕ) → is_simple k ≡ true → k ≡ k' → r ≡ r' → value_below (value_by k f s t r) (value_by k' f' s' t' r')
value_under kind.Any k' f s t r f' s' t' r' simple same register = subst (λ (q : Kind). value_below Any (value_by q f' s' t' r')) same tt
value_under kind.Num k' f s t r f' s' t' r' simple same register = subst (λ (q : Kind). value_below Num (value_by q f' s' t' r')) same tt
value_under kind.HeapBase k' f s t r f' s' t' r' simple same register = subst (λ (q : Kind). value_below HeapBase (value_by q f' s' t' r')) same refl
value_under kind.HeapAddr k' f s t r f' s' t' r' simple same register = subst (λ (q : Kind). value_below HeapAddr (value_by q f' s' t' r')) same tt
value_under kind.Globals k' f s t r f' s' t' r' simple same register = subst (λ (q : Kind). value_below Globals (value_by q f' s' t' r')) same refl
value_under kind.Entry k' f s t r f' s' t' r' simple same register = subst (λ (q : Kind). value_below (Entry r) (value_by q f' s' t' r')) same (ap Entry register)
value_under _ k' f s t r f' s' t' r' simple same register = absurd (cc)

value_among : (k : Kind) (f s t r : ℕ) (bounds : List ℕ) → is_simple k ≡ true → IsAmong bounds (value_by k f s t r)
value_among kind.Any f s t r bounds simple = tt
value_among kind.Num f s t r bounds simple = tt
value_among kind.HeapBase f s t r bounds simple = tt
value_among kind.HeapAddr f s t r bounds simple = tt
value_among kind.Globals f s t r bounds simple = tt
value_among kind.Entry f s t r bounds simple = tt
value_among _ f s t r bounds simple = absurd (cc)

offset_under : (known known' : Bool) (c c' : ℤ) → known ≡ known' → c ≡ c' → offset_below (offset_by known c) (offset_by known' c')
offset_under known known' c c' same equal =
    subst (λ (b : Bool). offset_below (offset_by known c) (offset_by b c')) same
    (subst (λ (z : ℤ). offset_below (offset_by known c) (offset_by known z)) equal (offset_reflexive (offset_by known c)))

-- what such a kind does not use tells no two registers apart
value_same : (k k' : Kind) (f s t r f' s' t' r' : ℕ) → is_simple k ≡ true → k ≡ k' → r ≡ r' → value_by k f s t r ≡ value_by k' f' s' t' r'
value_same kind.Any k' f s t r f' s' t' r' simple same register = ap (λ (q : Kind). value_by q f' s' t' r') same
value_same kind.Num k' f s t r f' s' t' r' simple same register = ap (λ (q : Kind). value_by q f' s' t' r') same
value_same kind.HeapBase k' f s t r f' s' t' r' simple same register = ap (λ (q : Kind). value_by q f' s' t' r') same
value_same kind.HeapAddr k' f s t r f' s' t' r' simple same register = ap (λ (q : Kind). value_by q f' s' t' r') same
value_same kind.Globals k' f s t r f' s' t' r' simple same register = ap (λ (q : Kind). value_by q f' s' t' r') same
value_same kind.Entry k' f s t r f' s' t' r' simple same register = ap Entry register ∙ ap (λ (q : Kind). value_by q f' s' t' r') same
value_same _ k' f s t r f' s' t' r' simple same register = absurd (cc)

register_same : (a b : Register) → a.offset ≡ b.offset → a.value ≡ b.value → a ≡ b
register_same a b offset value = ap (λ (o : Offset). record a { offset = o }) offset ∙ ap (λ (v : Value). record b { value = v }) value

pub simple_same : (a b : Word) → AreOneSimple a b → register_of_word a ≡ register_of_word b
simple_same a b are = register_same (register_of_word a) (register_of_word b)
    (ap (λ (known : Bool). offset_by known a.offset) are.known ∙ ap (λ (c : ℤ). offset_by b.is_known c) are.offset)
    (value_same a.kind b.kind a.first a.second a.table a.register b.first b.second b.table b.register are.simple are.kind are.register)

pub simple_below : (a b : Word) → AreOneSimple a b → register_below (register_of_word a) (register_of_word b)
simple_below a b are = record {
  offset = offset_under a.is_known b.is_known a.offset b.offset are.known are.offset;
  value = value_under a.kind b.kind a.first a.second a.table a.register b.first b.second b.table b.register are.simple are.kind are.register;
}

pub simple_among : (a b : Word) → AreOneSimple a b → (bounds : List ℕ) → IsAmong bounds (register_of_word b).value
simple_among a b are bounds = value_among b.kind b.first b.second b.table b.register bounds (subst (λ (k : Kind). is_simple k ≡ true) are.kind are.simple)
