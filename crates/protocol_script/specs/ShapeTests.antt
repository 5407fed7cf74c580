-- Meaning: whether a shape is well formed, as a test. docs/NOTES.md says which shapes are.
use Rattle.std.specs.Prelude.{ℕ, ◌^◌, Bool, true, ◌&&◌, ◌||◌, List, [], ◌∷◌, length, nat_le, nat_lt}
use Rattle.std.specs.List.{list_all}
use Rattle.note_types.specs.Shapes.{end_at, size_at, start_at}
use Rattle.note_types.specs.declared.shape.Field.{Field}
use Rattle.note_types.specs.declared.shape.Shape.{Shape}

-- two fields share no byte
abbrev pub is_apart : ℕ → Field → Field → Bool
is_apart w x y = nat_le (end_at w x) (start_at w y) || nat_le (end_at w y) (start_at w x)

-- no two fields share a byte
unfoldable pub all_apart : ℕ → List Field → Bool
all_apart w [] = true
all_apart w (x ∷ xs) = list_all (is_apart w x) xs && all_apart w xs

-- at a width the size is positive, and the fields lie inside it and are disjoint
unfoldable pub fits_at : ℕ → Shape → Bool
fits_at w s = nat_lt 0 (size_at w s) && (list_all (λ (x : Field). nat_le (end_at w x) (size_at w s)) s.fields && all_apart w s.fields)

-- a shape is well formed where it is so at both widths; its fields are fewer than 2^32
unfoldable pub is_shape : Shape → Bool
is_shape s = nat_lt (length s.fields) (2 ^ 32) && (fits_at 4 s && fits_at 8 s)
