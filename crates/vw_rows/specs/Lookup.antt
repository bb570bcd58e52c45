use Rattle.std.specs.Prelude.{◌≡◌, ℕ, ◌/◌, ◌==◌, Bool, true, false, cond, not, ◌&&◌, ◌⊎◌, Option, None, Some, List, [], ◌∷◌}
use Rattle.vw_rows.specs.declared.patterns.Prefix.{Prefix}
use Rattle.vw_rows.specs.declared.patterns.Prefixes.{Prefixes}
use Rattle.vw_rows.specs.declared.patterns.Map.{Map}
use Rattle.vw_rows.specs.declared.patterns.Form.{Form}
use Rattle.vw_rows.specs.declared.patterns.Prefix.TheVariants.{Plain, P66, PF2, PF3}
use Rattle.vw_rows.specs.declared.patterns.Prefixes.TheVariants as pre
use Rattle.vw_rows.specs.declared.patterns.Map.TheVariants.{One, Two, Three}
use Rattle.vw_rows.specs.declared.patterns.Form.TheVariants.{Any, Memory, Register}
use Rattle.vw_rows.specs.declared.patterns.Pattern.{Pattern}
use Rattle.vw_rows.specs.declared.patterns.Key.{Key}
use Rattle.vw_rows.specs.declared.forms.Row.{Row}

-- a row stands in a list of rows
abbrev pub IsIn : Row → List Row → Type 0
IsIn r [] = ⊥
IsIn r (x ∷ xs) = (x ≡ r) ⊎ IsIn r xs

-- the prefix is one that the row takes
abbrev pub takes_prefix : Prefixes → Prefix → Bool
takes_prefix pre.Plain Plain = true
takes_prefix pre.PlainOr66 Plain = true
takes_prefix pre.PlainOr66 P66 = true
takes_prefix pre.P66 P66 = true
takes_prefix pre.PF2 PF2 = true
takes_prefix pre.PF3 PF3 = true
takes_prefix _ _ = false

abbrev pub same_map : Map → Map → Bool
same_map One One = true
same_map Two Two = true
same_map Three Three = true
same_map _ _ = false

-- the opcode, or with +r one of the eight that begin at it
abbrev pub has_opcode : Pattern → ℕ → Bool
has_opcode p o = cond p.plus (o / 8 == p.opcode / 8) (o == p.opcode)

abbrev pub has_digit : Option ℕ → ℕ → Bool
has_digit None d = true
has_digit (Some k) d = d == k

abbrev pub has_form : Form → Bool → Bool
has_form Any _ = true
has_form Memory register_form = not register_form
has_form Register register_form = register_form

-- the row is that of the key
abbrev pub matches : Row → Key → Bool
matches r k =
    has_opcode r.pattern k.opcode && (takes_prefix r.pattern.prefixes k.prefix && (same_map r.pattern.map k.map && (has_digit r.pattern.digit k.digit && has_form r.pattern.form k.register_form)))

abbrev pub key : Prefix → Map → ℕ → ℕ → Bool → Key
key p m o d f = record { prefix = p; map = m; opcode = o; digit = d; register_form = f }
