-- A small driver, the one of docs/NOTES.md with its script of docs/SCRIPTS.md, as closed terms that rows compute with. Names
-- don't matter here.
use Rattle.neutral_machine.proofs.Common.{ℕ, ◌-◌, ◌^◌, true, false, List, [], ◌∷◌, Some, None, pos, N, Notes, Notify, ScriptCall, given}
use Rattle.neutral_machine.proofs.Common.{World}
use Rattle.note_types.specs.declared.cell.Cell.TheVariants as cell
use Rattle.note_types.specs.declared.notes.Want.TheVariants as want
use Rattle.note_types.specs.declared.types.Ty.TheVariants as ty
use Rattle.note_types.specs.declared.value.Value.TheVariants as value

abbrev pub driver_notes : Notes
driver_notes = record {
  version = 1;
  entry = 0;
  shape = record {
    name = [];
    n = 2;
    c = 0;
    fields = record { name = []; n = 0; c = 0; cell = cell.Method 0 } ∷ record {
      name = [];
      n = 1;
      c = 0;
      cell = cell.Method 1;
    } ∷ [];
  }
      ∷ record {
        name = [];
        n = 2;
        c = 0;
        fields = record { name = []; n = 0; c = 0; cell = cell.I32 } ∷ record {
          name = [];
          n = 1;
          c = 0;
          cell = cell.Ptr 1 1 true;
        } ∷ [];
      }
      ∷ record { name = []; n = 1; c = 0; fields = record { name = []; n = 0; c = 0; cell = cell.Ptr 1 1 false } ∷ [] }
      ∷ [];
  statics = [];
  thunk = record { place = 0x2000; function = 1 } ∷ [];
  function = record {
    name = [];
    place = 0x1000;
    «end» = 0x1044;
    level = 1;
    need = record { n = 2; c = 0 };
    locals = Some 2;
    params = record { kind = N; ty = ty.Handle } ∷ record { kind = N; ty = ty.Ptr 0 1 (pos 0) (pos 0) false } ∷ [];
    result = ty.Status 0;
    enter = false;
  }
      ∷ record {
        name = [];
        place = 0x1044;
        «end» = 0x104A;
        level = 0;
        need = record { n = 0; c = 0 };
        locals = None;
        params = record { kind = N; ty = ty.Int 0 (2 ^ 32 - 1) 1 } ∷ [];
        result = ty.Status 0;
        enter = true;
      }
      ∷ [];
  point = [];
  signature =
      record { name = []; method = 0; params = record { kind = N; want = want.Out (cell.Ptr 1 1 false) } ∷ []; result = Some (ty.Status 0) }
      ∷ record { name = []; method = 1; params = record { kind = N; want = want.Entry } ∷ []; result = Some (ty.Status 0) }
      ∷ [];
  site = record { place = 0x1014; signature = 0 } ∷ record { place = 0x1032; signature = 1 } ∷ [];
  methods = [] ∷ [] ∷ [];
}

abbrev pub locate_call : ScriptCall
locate_call = record {
  signature = 0;
  args = given value.Out ∷ [];
  enter = [];
  make = [];
  out = record { argument = 0; value = value.Ptr 1 0 } ∷ [];
  write = [];
  result = value.StatusOk 0;
}

abbrev pub register_call : ScriptCall
register_call = record {
  signature = 1;
  args = given (value.Entry 1) ∷ [];
  enter = record { function = 1; values = value.Int 1 ∷ [] } ∷ record { function = 1; values = value.Int 2 ∷ [] } ∷ [];
  make = [];
  out = [];
  write = [];
  result = value.StatusOk 0;
}

-- the driver with a script of these calls and, under version 2, these notifications
abbrev pub driver_notified : (version : ℕ) → List ScriptCall → List Notify → World
driver_notified version calls notify = record {
  notes = driver_notes;
  script = record {
    version = version;
    args = value.Handle 0 ∷ value.Ptr 0 0 ∷ [];
    object = record {
      shape = 0;
      count = 1;
      cells = record { instance = 0; field = 0; value = value.Method 0 } ∷ record {
        instance = 0;
        field = 1;
        value = value.Method 1;
      } ∷ [];
    }
        ∷ record { shape = 1; count = 1; cells = [] }
        ∷ [];
    call = calls;
    notify = notify;
  };
  image_size = 0x2008;
}

abbrev pub driver_with : List ScriptCall → World
driver_with calls = driver_notified 1 calls []

abbrev pub driver : World
driver = driver_with (locate_call ∷ register_call ∷ [])
