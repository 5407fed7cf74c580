-- For proofs: what the parts of a block own, and what they lend to a `&`.
use Rattle.std.specs.Prelude.{ℕ, ◌+◌, ◌^◌, List, [], ◌∷◌, length, Option, Some, None}
use base.Fraction.{full_share}
use base.Fml.{Lft, Fml, ftrue, ffalse, fsep, flt, froom}
use mir.Syntax.{Ty, ty_array, ty_int, w8}
use mir.Raw.{raw}
use denote.Builtin.{u8}
use denote.Memory.{part_at, shared_of}
use denote.Sharing.{nothing, said, beside}
use denote.RawPtr.{Ptr, block_ptr, null_ptr}

-- one byte, o bytes into the block b: its number, or room for one
abbrev pub slot : ℕ → ℕ → Option ℕ → Fml
slot b o (Some x) = part_at u8 full_share x b o
slot b o None = froom (raw (ty_int w8)) b o

-- bytes side by side from o bytes into the block b on
abbrev pub slots : ℕ → ℕ → List (Option ℕ) → Fml
slots b o [] = ftrue
slots b o (c ∷ cs) = fsep (slot b o c) (slots b (o + 1) cs)

-- a `&` to one byte, where it is written
abbrev pub slot_lent : ℕ → ℕ → Option ℕ → Lft → Fml
slot_lent b o (Some x) = shared_of u8 x b o
slot_lent b o None = nothing

-- a `&` to each byte that is written
abbrev pub slots_lent : ℕ → ℕ → List (Option ℕ) → Lft → Fml
slots_lent b o [] = nothing
slots_lent b o (c ∷ cs) = beside (slot_lent b o c) (slots_lent b (o + 1) cs)

-- the bytes are fewer than 2 ^ 63
abbrev pub few_bytes : List (Option ℕ) → Fml
few_bytes cs = flt (length cs) (2 ^ 63)

-- cells own the bytes of the block that begins at a pointer
abbrev pub cells_owns : Ptr → List (Option ℕ) → Fml
cells_owns (block_ptr b o) cs = fsep (few_bytes cs) (slots b o cs)
cells_owns null_ptr cs = ffalse

-- a `&` to cells is one to each byte of the block
abbrev pub cells_shares : Ptr → List (Option ℕ) → Lft → Fml
cells_shares (block_ptr b o) cs = beside (said (few_bytes cs)) (slots_lent b o cs)
cells_shares null_ptr cs = said ffalse

-- a deed owns the allocator's token for a block of n bytes
abbrev pub deed_owns : (Ty → Ptr → Fml) → Ptr → ℕ → Fml
deed_owns token p n = token (raw (ty_array (ty_int w8) n)) p
