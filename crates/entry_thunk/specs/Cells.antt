-- For proofs: the cells below R0 of a function that is entered: its return cell, and its arguments above it. docs/HOST.md,
-- "The start".
use Rattle.std.specs.Prelude.{ℕ, ◌+◌, Bool, true, ◌&&◌, List, [], ◌∷◌, map, Option}
use Rattle.std.specs.Option.{option_and_then}
use Rattle.ebc_width.specs.Width.{cut_at}
use Rattle.ebc_width.specs.Ranges.{Range, holds}
use Rattle.object_memory.specs.Memory.{Memory, ranges, byte_at}
use Rattle.note_types.specs.Concrete.{Concrete, stored}
use Rattle.note_types.specs.declared.cell.SlotKind.{SlotKind}
use Rattle.note_types.specs.declared.notes.Param.{Param}
use Rattle.note_types.specs.declared.types.Ty.TheVariants as ty
use Rattle.host_model.specs.Placements.{slot_bytes, return_cell}
use Rattle.host_model.specs.HostSteps.{with_slots}

-- parameters of these kinds: their types don't count where a function is entered
abbrev pub params_of : List SlotKind → List Param
params_of kinds = map (λ (k : SlotKind). record { kind = k; ty = ty.Any }) kinds

-- a state with another memory
abbrev pub with_memory : Concrete → Memory → Concrete
with_memory s m = record s { objects = ranges m; byte = byte_at m }

-- the state once a return cell with the gate's address, and arguments above it, are stored from an address on: none unless all
-- these cells are mapped
unfoldable pub with_cells : ℕ → ℕ → List Param → List ℕ → Concrete → Option Concrete
with_cells w top params numbers s =
    option_and_then (λ low. option_and_then (λ high. with_slots w (top + return_cell) params numbers high)
    (stored low (cut_at w (top + 8)) 8 0))
    (stored s (cut_at w top) 8 s.gate)

-- whether slots of these kinds are mapped, from an address on
unfoldable pub slots_mapped : ℕ → List Range → ℕ → List SlotKind → Bool
slots_mapped w objects a [] = true
slots_mapped w objects a (k ∷ ks) = holds objects (cut_at w a) (slot_bytes w k) && slots_mapped w objects (a + slot_bytes w k) ks

-- whether a return cell and slots above it are
unfoldable pub cells_mapped : ℕ → List Range → ℕ → List SlotKind → Bool
cells_mapped w objects top kinds =
    holds objects (cut_at w top) 8 && (holds objects (cut_at w (top + 8)) 8 && slots_mapped w objects (top + return_cell) kinds)
