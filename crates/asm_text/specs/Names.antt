-- Meaning: names beside registers, and the labels of a listing: docs/ASSEMBLY.md, "Names".
use Rattle.std.specs.Prelude.{ℕ, List, [], ◌∷◌, Bool, false, ◌&&◌, ◌==◌, nat_le, if◌then◌else◌}
use Rattle.ebc_base.specs.Names.{is_name}
use Rattle.asm_text.specs.Numbers.{hex_text}

-- R0 to R7, which names a register where one can stand
abbrev pub is_register : List ℕ → Bool
is_register (r ∷ d ∷ []) = r == 82 && nat_le 48 d && nat_le d 55
is_register _ = false

-- a name that stands where a register can stand, and names none
abbrev pub is_place_name : List ℕ → Bool
is_place_name text = if is_register text then false else is_name text

-- the label of a place: L and the place in eight hexadecimal digits
abbrev pub label_text : ℕ → List ℕ
label_text place = 76 ∷ hex_text 8 place
