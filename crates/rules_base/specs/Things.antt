-- Meaning: what starts at a place of the image, and what a relocated immediate is the address of. docs/RULES.md, "Moves",
-- has the words.
use Rattle.std.specs.Prelude.{ℕ, Bool, false, ◌&&◌, not, nat_eq, if◌then◌else◌, List, Option, Some, position, Err, ℤ, pos}
use Rattle.std.specs.List.{find}
use Rattle.std.specs.Ordering.{int_eq}
use Rattle.ebc_insn.specs.declared.Size.{Size}
use Rattle.ebc_insn.specs.declared.Size.TheVariants.{Qword}
use Rattle.note_types.specs.declared.notes.Notes.{Notes}
use Rattle.note_types.specs.declared.notes.Static.{Static}
use Rattle.note_types.specs.declared.notes.Thunk.{Thunk}
use Rattle.note_types.specs.declared.rule.RuleName.TheVariants as rule
use Rattle.note_types.specs.declared.types.Ty.{Ty}
use Rattle.note_types.specs.declared.types.Ty.TheVariants.{Ptr, ThunkAt}
use Rattle.rules_base.specs.Parts.{and_then}
use Rattle.std.specs.Option.{option_or}
use Rattle.ebc_base.specs.Steps.{or_else}
use Rattle.rules_base.specs.Outcomes.{OrRule}

-- ---- places of the image

abbrev pub is_static_at : ℤ → Static → Bool
is_static_at place s = int_eq (pos s.place) place

abbrev pub is_thunk_at : ℤ → Thunk → Bool
is_thunk_at place t = int_eq (pos t.place) place

-- the address of a static object
abbrev pub static_type : Static → Option Ty
static_type s = Some (Ptr s.shape s.count (pos 0) (pos 0) false)

-- the address of a thunk cell
abbrev pub thunk_type : ℕ → Option Ty
thunk_type i = Some (ThunkAt i)

-- the static object and the thunk cell that start at a place
unfoldable pub static_at : List Static → ℤ → Option Static
static_at statics place = find (is_static_at place) statics

unfoldable pub thunk_at : List Thunk → ℤ → Option ℕ
thunk_at thunks place = position (is_thunk_at place) thunks

-- what starts at a place: a static object or a thunk cell
unfoldable pub thing_at : Notes → ℤ → Option Ty
thing_at notes place = option_or (and_then (static_at notes.statics place) static_type) (and_then (thunk_at notes.thunk place) thunk_type)

-- ---- relocated immediates

-- the one move whose immediate may be relocated: MOVIqq to a register
abbrev pub takes_address : Size → ℕ → Bool → Bool
takes_address Qword bits indirect = nat_eq bits 64 && not indirect
takes_address _ bits indirect = false

-- a relocated immediate is the address of what starts at its place
abbrev pub relocated : Notes → Bool → ℕ → OrRule Ty
relocated notes takes place = if takes then or_else rule.Relocation (thing_at notes (pos place)) else Err rule.Relocation
