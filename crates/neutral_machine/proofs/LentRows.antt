-- Rows of what the neutral machine sees of a native call that was lent a cell, computed by the definitions: it is stuck unless
-- the copied slot is the address of a local field that is such a cell.
use Rattle.neutral_machine.proofs.Common.{◌≡◌, false, true, List, [], ◌∷◌, Option, Some, None, refl, Cell, StackItem, LocalsOf, Function}
use Rattle.neutral_machine.proofs.Common.{Host, Config, GoesOn, field_at, all_lent, lent_there, writes_there, neutral_host_step}
use Rattle.neutral_machine.proofs.Common.{made_objects, placed_objects, Accepted, script_start, one_entry, Neutral, At, ObjectOf, LocalOf}
use Rattle.neutral_machine.proofs.Common.{null, number, World}
use Rattle.host_model.specs.HostPlans.{View}
use Rattle.neutral_machine.specs.{NeutralHost.host_view, NeutralRuns.bare_config}
use Rattle.neutral_machine.proofs.Driver.{driver, driver_with}
use Rattle.note_types.specs.declared.cell.Cell.TheVariants as cell
use Rattle.note_types.specs.declared.spot.Spot.TheVariants as spot

-- ---- the first call of the driver, which wants the cell of a pointer

-- the driver inside it, once the host has accepted it: with these items on the stack, and with these slots copied
abbrev calling : World → List StackItem → List Neutral → Config
calling world items slots = record (bare_config world (λ p. None)) {
  spot = spot.Place 0x1016;
  frames = Function (record { func = 0; ret = 0; saved = λ r. null; items = items })
      ∷ Host (record { func = 0; notified = false; saved = λ r. null; c = false; spot = spot.Gate; params = []; call = Accepted 0 0 slots })
      ∷ [];
  script = one_entry script_start;
}

-- locals of one field of this kind
abbrev locals_of : Cell → List StackItem
locals_of c = LocalsOf (record { name = []; n = 1; c = 0; fields = record { name = []; n = 0; c = 0; cell = c } ∷ [] }) ∷ []

-- the cell that is wanted
abbrev wanted : Cell
wanted = cell.Ptr 1 1 false

-- what the host sees of it
abbrev seen_of : World → List StackItem → List Neutral → Option View
seen_of world items slots = host_view world (calling world items slots) (spot.Place 0x1016)

-- ---- it goes on

lent : seen_of driver (locals_of wanted) (At (LocalOf 0 0) 0 0 ∷ []) ≡ Some (GoesOn 0 0 1 true)
unfolding host_view lent_there all_lent writes_there field_at made_objects placed_objects
lent = refl

-- a call that the script hasn't wants nothing
no_call : seen_of (driver_with []) [] [] ≡ Some (GoesOn 0 0 1 false)
unfolding host_view lent_there writes_there
no_call = refl

-- ---- it is stuck

-- the step, where the slots are these
abbrev step_of : List StackItem → List Neutral → Option Config
step_of items slots = neutral_host_step driver (calling driver items slots)

no_slot : step_of (locals_of wanted) [] ≡ None
unfolding neutral_host_step host_view lent_there all_lent
no_slot = refl

a_number : step_of (locals_of wanted) (number 5 ∷ []) ≡ None
unfolding neutral_host_step host_view lent_there all_lent
a_number = refl

-- the address of an object, whose cell at its start is a number
an_object : step_of (locals_of wanted) (At (ObjectOf 1) 0 0 ∷ []) ≡ None
unfolding neutral_host_step host_view lent_there all_lent
an_object = refl

past_its_start : step_of (locals_of wanted) (At (LocalOf 0 0) 0 1 ∷ []) ≡ None
unfolding neutral_host_step host_view lent_there all_lent
past_its_start = refl

no_field : step_of (locals_of wanted) (At (LocalOf 0 1) 0 0 ∷ []) ≡ None
unfolding neutral_host_step host_view lent_there all_lent
no_field = refl

no_locals : step_of [] (At (LocalOf 0 0) 0 0 ∷ []) ≡ None
unfolding neutral_host_step host_view lent_there all_lent
no_locals = refl

-- a pointer that may be null is another cell
another_kind : step_of (locals_of (cell.Ptr 1 1 true)) (At (LocalOf 0 0) 0 0 ∷ []) ≡ None
unfolding neutral_host_step host_view lent_there all_lent
another_kind = refl
