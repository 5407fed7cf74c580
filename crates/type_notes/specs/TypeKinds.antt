-- Meaning: which types notes allow where: what a natural slot keeps, what passes the boundary to the firmware, what a call
-- hands over. docs/NOTES.md lists them.
use Rattle.std.specs.Prelude.{ℕ, List, [], ◌∷◌, ◌^◌, Bool, true, false, ◌&&◌, nat_lt, pos, negsuc, ℤ}
use Rattle.std.specs.List.{list_all}
use Rattle.note_texts.specs.declared.cell.FieldText.{FieldText}
use Rattle.note_texts.specs.declared.ty.TypeText.{TypeText}
use Rattle.note_texts.specs.declared.ty.TypeText.TheVariants as ty
use Rattle.note_texts.specs.declared.want.WantText.{WantText}
use Rattle.note_texts.specs.declared.want.WantText.TheVariants as want
use Rattle.type_notes.specs.Locals.{is_field}
use Rattle.note_types.specs.Types.{is_start}

-- whether a number is below 2^32
abbrev pub is_narrow : ℕ → Bool
is_narrow hi = nat_lt hi (2 ^ 32)

-- whether a number isn't negative
abbrev pub is_not_negative : ℤ → Bool
is_not_negative (pos n) = true
is_not_negative (negsuc n) = false

-- whether a move of natural size keeps the type; any counts as kept
abbrev pub is_kept : TypeText → Bool
is_kept (ty.Int lo hi div) = is_narrow hi
is_kept (ty.Lin n c) = is_not_negative c
is_kept (ty.Ptr s k n c null) = is_start n c
is_kept (ty.SignedStatus gs) = false
is_kept (ty.Saved i) = false
is_kept _ = true

-- the same of what a native method takes
abbrev pub is_kept_want : WantText → Bool
is_kept_want (want.Int lo hi) = is_narrow hi
is_kept_want _ = true

-- whether the firmware may hand the type to a function that it enters
abbrev pub is_handed_in : TypeText → Bool
is_handed_in ty.Any = true
is_handed_in (ty.Int lo hi div) = is_narrow hi
is_handed_in (ty.Ptr s k n c null) = is_start n c
is_handed_in ty.Handle = true
is_handed_in (ty.Status gs) = true
is_handed_in _ = false

-- whether a function that the firmware enters may give the type back
abbrev pub is_handed_back : TypeText → Bool
is_handed_back ty.Any = true
is_handed_back (ty.Int lo hi div) = is_narrow hi
is_handed_back (ty.Status gs) = true
is_handed_back _ = false

-- whether a status grants nothing
abbrev pub is_bare : List (List ℕ) → Bool
is_bare [] = true
is_bare (g ∷ gs) = false

-- whether a parameter may have the type: it says nothing of the caller's own frame
abbrev pub is_passed : TypeText → Bool
is_passed (ty.Local f) = false
is_passed (ty.Saved i) = false
is_passed (ty.Status gs) = is_bare gs
is_passed (ty.SignedStatus gs) = is_bare gs
is_passed _ = true

-- whether a result may have the type: it says nothing of a frame or of a thunk cell
abbrev pub is_returned : TypeText → Bool
is_returned (ty.Lent cell) = false
is_returned (ty.ThunkAt i) = false
is_returned t = is_passed t

-- whether the local fields that the type names are among these
abbrev pub has_fields : List FieldText → TypeText → Bool
has_fields fields (ty.Local f) = is_field fields f
has_fields fields (ty.Status gs) = list_all (is_field fields) gs
has_fields fields (ty.SignedStatus gs) = list_all (is_field fields) gs
has_fields fields _ = true

-- whether the thunk that the type names is one of so many
abbrev pub has_thunk : ℕ → TypeText → Bool
has_thunk thunks (ty.ThunkAt i) = nat_lt i thunks
has_thunk thunks _ = true
