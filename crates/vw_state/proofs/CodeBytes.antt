-- The code of a function is of bytes, where the file is.
use Rattle.std.proofs.Common.{ℕ, zero, suc, List, [], ◌∷◌, take, drop, Option, Some, None, unwrap_or, option_map, lit<}
use Rattle.vw_bits.specs.Places.{file_offset}
use Rattle.vw_image.specs.Image.{Contents}
use Rattle.vw_image.specs.Words.{bytes_at}
use Rattle.vw_rows.specs.Numbers.{IsBytes}
use Rattle.vw_state.specs.Code.{code_at}
use Rattle.vw_state.proofs.Begins.{IsBytes-drop}

IsBytes-take : (n : ℕ) (bytes : List ℕ) → IsBytes bytes → IsBytes (take n bytes)
IsBytes-take zero bytes are i = lit< tt
IsBytes-take (suc n) [] are i = are i
IsBytes-take (suc n) (b ∷ bytes) are zero = are 0
IsBytes-take (suc n) (b ∷ bytes) are (suc i) = IsBytes-take n bytes (λ k. are (suc k)) i

lent_bytes : (bytes : List ℕ) (n : ℕ) (offset : Option ℕ) → IsBytes bytes → IsBytes (unwrap_or (option_map (λ at. take n (drop at bytes)) offset) [])
lent_bytes bytes n None are = λ i. lit< tt
lent_bytes bytes n (Some at) are = IsBytes-take n (drop at bytes) (IsBytes-drop at bytes are)

pub code_are_bytes : (image : Contents) (entry size : ℕ) → IsBytes image.bytes → IsBytes (code_at image entry size)
unfolding code_at bytes_at
code_are_bytes image entry size are = lent_bytes image.bytes size (file_offset image.segments entry size) are
