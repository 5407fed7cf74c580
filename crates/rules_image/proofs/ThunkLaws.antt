-- The rule of thunk cells, from its parts.
use Rattle.std.proofs.Common.{◌≡◌, ℕ, ◌+◌, ◌≤◌, [], ◌∷◌, ap, arith}
use Rattle.std.specs.Int.{w32, from_le_bytes}
use Rattle.ebc_width.specs.Bytes.{little_endian}
use Rattle.note_types.specs.declared.notes.Notes.{Notes}
use Rattle.note_types.specs.declared.notes.Thunk.{Thunk}
use Rattle.pe_image.specs.declared.image.Image.{Image}
use Rattle.rules_image.specs.Images.{IsThunk}
use Rattle.rules_image.specs.Checks.{EntersItsFunction, IsThunkApart}

pub number_4 : (b : ℕ → ℕ) (p x0 x1 x2 x3 : ℕ) → x0 ≡ b p → x1 ≡ b (p + 1) → x2 ≡ b (p + 2) → x3 ≡ b (p + 3)
    → from_le_bytes w32 (x0 ∷ x1 ∷ x2 ∷ x3 ∷ []) ≡ little_endian b p 4
unfolding little_endian
number_4 b p x0 x1 x2 x3 e0 e1 e2 e3 =
    let a2 : b (p + 1 + 1) ≡ b (p + 2) = ap b (omega arith) in
    let a3 : b (p + 1 + 1 + 1) ≡ b (p + 3) = ap b (omega arith) in
    omega arith

module _ (image : Image) (notes : Notes) (k : ℕ) (x : Thunk) where
  pub thunk_of : x.place + 8 ≤ image.size → IsThunkApart notes k x.place → EntersItsFunction image notes x → IsThunk image notes k x
  thunk_of inside apart (f, there, enters) =
      record {
        free = record { inside = inside; functions = apart.functions };
        apart = λ j y past there. apart.thunks j y there (omega arith);
        unrelocated = enters.unrelocated;
        f = f;
        there = there;
        enter = enters.enter;
        offset = enters.offset;
        rest = enters.rest;
      }

  pub apart_of : IsThunk image notes k x → IsThunkApart notes k x.place
  apart_of h = record { functions = h.free.functions; thunks = λ j y there past. h.apart j y (omega arith) there }

  pub enters_of : IsThunk image notes k x → EntersItsFunction image notes x
  enters_of h = (h.f, h.there, record { enter = h.enter; offset = h.offset; unrelocated = h.unrelocated; rest = h.rest })
