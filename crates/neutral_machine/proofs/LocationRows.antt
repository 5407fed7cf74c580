-- Rows of what accesses read of a function's parameters, of a status in a slot of either kind among them, computed by the
-- definitions. A slip in the table of accesses shows here at once.
use Rattle.neutral_machine.proofs.Common.{◌≡◌, false, [], ◌∷◌, Option, Some, None, refl, SlotKind, N, Q, Config, Access, Move, Signed}
use Rattle.neutral_machine.proofs.Common.{ParamAt, kept, located_on_stack, value_at, param_slots, neutral_start, kept_natural}
use Rattle.neutral_machine.proofs.Common.{sign_extended, Neutral, Error, SignedError, World, written_value}
use Rattle.ebc_insn.specs.declared.Size.TheVariants as sizes
use Rattle.note_types.specs.declared.types.Ty.TheVariants as ty
use Rattle.note_types.specs.declared.value.Value.TheVariants as value

-- ---- a program that is entered with a status

-- its one function takes a status in a slot of this kind
abbrev taking : SlotKind → World
taking kind = record {
  notes = record {
    version = 1;
    entry = 0;
    shape = [];
    statics = [];
    thunk = [];
    function = record {
      name = [];
      place = 0x1000;
      «end» = 0x1006;
      level = 0;
      need = record { n = 0; c = 0 };
      locals = None;
      params = record { kind = kind; ty = ty.Status 0 } ∷ [];
      result = ty.Status 0;
      enter = false;
    } ∷ [];
    point = [];
    signature = [];
    site = [];
    methods = [];
  };
  script = record { version = 1; args = value.StatusError 14 ∷ []; object = []; call = []; notify = [] };
  image_size = 0x1006;
}

-- inside it
abbrev inside : SlotKind → Config
inside kind = neutral_start (taking kind) (λ p. None)

-- what an access reads of its parameter
abbrev read_by : SlotKind → Access → Option Neutral
read_by kind a = value_at (taking kind) (inside kind) a (ParamAt 0)

-- the parameter stands above the return cell
there : located_on_stack (taking Q).notes (inside Q).frames (record { n = 0; c = 16 }) ≡ Some (ParamAt 0)
unfolding located_on_stack neutral_start param_slots
there = refl

-- ---- what reads it

-- MOVsn reads a status in a slot of natural size, and in one of 64 bits
signed_natural : read_by N Signed ≡ Some (Error 14)
unfolding value_at neutral_start param_slots written_value
signed_natural = refl

signed_wide : read_by Q Signed ≡ Some (Error 14)
unfolding value_at neutral_start param_slots written_value
signed_wide = refl

-- a move of the slot's own size does, and no other one
natural : read_by N (Move sizes.Natural) ≡ Some (Error 14)
unfolding value_at neutral_start param_slots written_value
natural = refl

wide : read_by Q (Move sizes.Qword) ≡ Some (Error 14)
unfolding value_at neutral_start param_slots written_value
wide = refl

natural_of_wide : read_by Q (Move sizes.Natural) ≡ None
unfolding value_at neutral_start param_slots written_value
natural_of_wide = refl

wide_of_natural : read_by N (Move sizes.Qword) ≡ None
unfolding value_at neutral_start param_slots written_value
wide_of_natural = refl

-- MOVsn keeps the status with its sign
sign_kept : sign_extended (kept (taking Q).notes [] Signed (Error 14)) ≡ SignedError 14
unfolding kept_natural sign_extended
sign_kept = refl
