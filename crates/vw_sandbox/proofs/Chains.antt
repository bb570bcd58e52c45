-- What keeps the chain of suspended activations.
use Rattle.std.proofs.Common.{◌≡◌, ℕ, ◌+◌, ◌-◌, ◌/◌, ◌%◌, ◌^◌, ◌<◌, ◌≤◌, inl, inr, Bool, true, false, ◌&&◌, ◌||◌, if◌then◌else◌, List, [], ◌∷◌, refl, sym, ◌∙◌, arith, lit<}
use Rattle.std.specs.List.{AllByRecursion}
use Rattle.std.proofs.lemmas.Bool.Decides.{nat_tests}
use Rattle.vw_bits.specs.Fields.{load}
use Rattle.vw_insn.specs.Words.{Registers}
use Rattle.vw_insn.specs.Effect.{Write}
use Rattle.vw_lift.specs.Simulation.{stored}
use Rattle.vw_layout.specs.declared.functions.Function.{Function}
use Rattle.vw_machine.specs.declared.world.World.{World}
use Rattle.vw_machine.specs.World.{Range, IsLaidOut}
use Rattle.vw_machine.specs.Laws.{IsFramed}
use Rattle.vw_machine.specs.Module.{ModuleView}
use Rattle.vw_machine.specs.State.{Bytes, Activation, is_in_stack, is_one_of, is_in_frame, store, mark, after_writes}
use Rattle.vw_machine.specs.Permitted.{MayWrite}
use Rattle.vw_sandbox.specs.Maps.{Map}
use Rattle.vw_sandbox.specs.Assertions.{Moment, SameFrom}
use Rattle.vw_sandbox.proofs.Instances.{heap_or_stack, load_same}
use Rattle.vw_sandbox.proofs.Suspended.{Chain, host, call}

-- ---- bytes

pub load_from : (old new : Bytes) (a n : ℕ) → SameFrom a old new → load new a n ≡ load old a n
load_from old new a n same = load_same old new a n (λ q low high. same q low)

-- a byte that a store leaves
byte_kept : (w : World) (bytes : Bytes) (a n v q : ℕ) → (w.stack_low ≤ q → q < w.stack_high → a ≤ q → q < a + n → ⊥) → store w bytes a n v q ≡ bytes q
byte_kept w bytes a n v q out = by_test (is_in_stack w q) (is_one_of a n q) refl refl
  where
    by_test : (s t : Bool) → is_in_stack w q ≡ s → is_one_of a n q ≡ t → (if s && t then v / 256 ^ (q - a) % 256 else bytes q) ≡ bytes q
    by_test true true e f =
        let low : w.stack_low ≤ q = grind (arith, nat_tests, e) in
        let high : q < w.stack_high = grind (arith, nat_tests, e) in
        let from : a ≤ q = grind (arith, nat_tests, f) in
        let to : q < a + n = grind (arith, nat_tests, f) in
        absurd (out low high from to)
    by_test true false e f = refl
    by_test false t e f = refl

module _ (m : ModuleView) (w : World) {image : List Range} {imports : ℕ} (laid : IsLaidOut image imports w) where
  -- no address is in the globals and in the stack
  globals_or_stack : (a : ℕ) → w.globals ≤ a → a < w.globals + 4096 → w.stack_low ≤ a → a < w.stack_high → ⊥
  globals_or_stack a one two three four =
      let globals : Range = record { from = w.globals; to = w.globals + 4096 } in
      laid.instance_apart 1 2 globals (lit< tt) (lit< tt) a (one, two) (omega arith, four)

  one_below : (top : Activation) (bytes : Bytes) (v : Write) → MayWrite m w top v.at v.size → SameFrom top.rsp0 bytes (store w bytes v.at v.size v.value)
  one_below top bytes v (inl h) q l = byte_kept w bytes v.at v.size v.value q (λ low high from to. heap_or_stack laid q (omega (arith, h.0)) (omega (arith, h.1)) low high)
  one_below top bytes v (inr (inl h)) q l = byte_kept w bytes v.at v.size v.value q (λ low high from to. globals_or_stack q (omega (arith, h.0)) (omega (arith, h.1)) low high)
  one_below top bytes v (inr (inr h)) q l = byte_kept w bytes v.at v.size v.value q (λ low high from to. omega (arith, h.1))

  -- permitted writes leave the stack from the return address up
  pub writes_below : (top : Activation) (bytes : Bytes) (ws : List Write) → AllByRecursion (λ v. MayWrite m w top v.at v.size) ws → SameFrom top.rsp0 bytes (stored (store w) bytes ws)
  writes_below top bytes [] h = λ q l. refl
  writes_below top bytes (v ∷ ws) h = λ q l. writes_below top (store w bytes v.at v.size v.value) ws h.1 q l ∙ one_below top bytes v h.0 q l

-- ---- marks

pub marked_rsp0 : (w : World) (top : Activation) (ws : List Write) → (after_writes w top ws).rsp0 ≡ top.rsp0
marked_rsp0 w top [] = refl
marked_rsp0 w top (v ∷ ws) = marked_rsp0 w (mark w top v.at v.size) ws

pub marked_entry : (w : World) (top : Activation) (ws : List Write) → (after_writes w top ws).entry ≡ top.entry
marked_entry w top [] = refl
marked_entry w top (v ∷ ws) = marked_entry w (mark w top v.at v.size) ws

pub marked_back : (w : World) (top : Activation) (ws : List Write) → (after_writes w top ws).back ≡ top.back
marked_back w top [] = refl
marked_back w top (v ∷ ws) = marked_back w (mark w top v.at v.size) ws

one_framed : (w : World) (top : Activation) (a n : ℕ) → IsFramed w top → IsFramed w (mark w top a n)
one_framed w top a n f = record { low = f.low; high = f.high; written = λ q. by_test q (is_in_frame w top q) (is_one_of a n q) refl }
  where
    by_test : (q : ℕ) (s t : Bool) → is_in_frame w top q ≡ s → ((s && t) || top.written q) ≡ true → (w.stack_low ≤ q) × (q < top.rsp0)
    by_test q true true e is = (grind (arith, nat_tests, e), grind (arith, nat_tests, e))
    by_test q true false e is = f.written q is
    by_test q false t e is = f.written q is

pub framed : (w : World) (top : Activation) (ws : List Write) → IsFramed w top → IsFramed w (after_writes w top ws)
framed w top [] f = f
framed w top (v ∷ ws) f = framed w (mark w top v.at v.size) ws (one_framed w top v.at v.size f)

-- ---- the chain

module _ (m : ModuleView) (w : World) (map : Map) (At : Function → ℕ → Registers → Activation → Moment → Type 0) (entered : Registers) where
  pub chain_kept : (old new : Bytes) {top : Activation} {rest : List Activation} {es : List Registers} → SameFrom top.rsp0 old new → Chain m w map At old entered (top ∷ rest) es → Chain m w map At new entered (top ∷ rest) es
  chain_kept old new same (host f) = host (record { rsp = f.rsp; back = f.back; return = load_from old new _ 8 same ∙ f.return })
  chain_kept old new same (call waits chain) =
      call
      (record {
        function = waits.function;
        of_caller_function = waits.of_caller_function;
        framed = waits.framed;
        point = waits.point;
        behind = waits.behind;
        low = waits.low;
        below = waits.below;
        return = load_from old new _ 8 same ∙ waits.return;
        resumes = λ later words rsp saved same'. waits.resumes later words rsp saved (λ q h. same' q h ∙ same q (omega arith));
      })
      (chain_kept old new (λ q h. same q (omega (arith, waits.below))) chain)

  -- where the top activation was entered and which bytes it has written is nothing to the chain
  chain_under : {top : Activation} {rest : List Activation} {es : List Registers} (bytes : Bytes) (entry : ℕ) (written : ℕ → Bool) → Chain m w map At bytes entered (top ∷ rest) es → Chain m w map At bytes entered (record top { entry = entry; written = written } ∷ rest) es
  chain_under bytes entry written (host f) = host (record { rsp = f.rsp; back = f.back; return = f.return })
  chain_under bytes entry written (call waits chain) =
      call
      (record {
        function = waits.function;
        of_caller_function = waits.of_caller_function;
        framed = waits.framed;
        point = waits.point;
        behind = waits.behind;
        low = waits.low;
        below = waits.below;
        return = waits.return;
        resumes = waits.resumes;
      })
      chain

  pub chain_marking : (bytes : Bytes) {rest : List Activation} {es : List Registers} (ws : List Write) (top : Activation) → Chain m w map At bytes entered (top ∷ rest) es → Chain m w map At bytes entered (after_writes w top ws ∷ rest) es
  chain_marking bytes [] top c = c
  chain_marking bytes (v ∷ ws) top c = chain_marking bytes ws (mark w top v.at v.size) (chain_under bytes top.entry (mark w top v.at v.size).written c)

  pub chain_entry : {top : Activation} {rest : List Activation} {es : List Registers} (bytes : Bytes) (entry : ℕ) → Chain m w map At bytes entered (top ∷ rest) es → Chain m w map At bytes entered (record top { entry = entry } ∷ rest) es
  chain_entry {top} bytes entry c = chain_under bytes entry top.written c

  -- a return address stands at rsp0
  pub back_at : {top : Activation} {rest : List Activation} {es : List Registers} (bytes : Bytes) → Chain m w map At bytes entered (top ∷ rest) es → load bytes top.rsp0 8 ≡ top.back
  back_at bytes (host f) = f.return ∙ sym f.back
  back_at bytes (call waits chain) = waits.return
