-- Programs whose runs are computed, as closed terms: the driver of docs/NOTES.md and others that each show one thing. Names don't
-- matter here.
use Rattle.neutral_machine.proofs.Common.{ℕ, ◌-◌, ◌^◌, Bool, true, false, List, [], ◌∷◌, length, Some, None, pos, Cell, N, FnNote, Notes}
use Rattle.neutral_machine.proofs.Common.{Param, Script, ScriptCall, Shape, Ty, Image, lent, World}
use Rattle.neutral_machine.proofs.Driver.{driver, driver_notes}
use Rattle.note_types.specs.declared.cell.Cell.TheVariants as cell
use Rattle.note_types.specs.declared.notes.Want.TheVariants as want
use Rattle.note_types.specs.declared.types.Ty.TheVariants as ty
use Rattle.note_types.specs.declared.value.Value.TheVariants as value

-- ---- parts

-- a shape of one field
abbrev single : ℕ → ℕ → Cell → Shape
single n c x = record { name = []; n = n; c = c; fields = record { name = []; n = 0; c = 0; cell = x } ∷ [] }

abbrev natural : Ty → Param
natural t = record { kind = N; ty = t }

abbrev number_result : Ty
number_result = ty.Int 0 (2 ^ 32 - 1) 1

-- an image of code at 1000 and data at 2000, linked for base 10000
abbrev image_of : List ℕ → List ℕ → List ℕ → Image
image_of code data_bytes relocs = record {
  base = 0x10000;
  entry = 0x1000;
  size = 0x2010;
  subsystem = 11;
  sections = record { name = []; place = 0x1000; size = length code; flags = 0; bytes = code }
      ∷ record { name = []; place = 0x2000; size = length data_bytes; flags = 0; bytes = data_bytes }
      ∷ [];
  relocs = relocs;
}

-- ---- the driver

abbrev pub driver_image : Image
driver_image = record (image_of
    (0xB9 ∷ 0x07 ∷ 0xFA ∷ 0x0F ∷ 0x00 ∷ 0x00 ∷ 0x00 ∷ 0x05 ∷ 0x72 ∷ 0x84 ∷ 0x41 ∷ 0x10 ∷ 0x60 ∷ 0x00 ∷ 0x01 ∷ 0x90
    ∷ 0x20 ∷ 0x05 ∷ 0x35 ∷ 0x05 ∷ 0x03 ∷ 0x2C ∷ 0x60 ∷ 0x00 ∷ 0x01 ∷ 0x10 ∷ 0x25 ∷ 0x75 ∷ 0x6E ∷ 0x05 ∷ 0xFF ∷ 0xFF
    ∷ 0xC2 ∷ 0x0E ∷ 0x32 ∷ 0x85 ∷ 0x1F ∷ 0xD6 ∷ 0xB9 ∷ 0x05 ∷ 0xD4 ∷ 0x0F ∷ 0x00 ∷ 0x00 ∷ 0x35 ∷ 0x0D ∷ 0x72 ∷ 0x84
    ∷ 0x43 ∷ 0x10 ∷ 0x83 ∷ 0x2C ∷ 0x01 ∷ 0x00 ∷ 0x00 ∷ 0x10 ∷ 0x60 ∷ 0x00 ∷ 0x02 ∷ 0x10 ∷ 0x04 ∷ 0x00 ∷ 0x60 ∷ 0x00
    ∷ 0x01 ∷ 0x10 ∷ 0x04 ∷ 0x00 ∷ 0x77 ∷ 0x37 ∷ 0x00 ∷ 0x00 ∷ 0x04 ∷ 0x00 ∷ [])
    (0x40 ∷ 0xF0 ∷ 0xFF ∷ 0xFF ∷ 0x00 ∷ 0x00 ∷ 0x00 ∷ 0x00 ∷ []) []) { size = 0x2008 }

-- ---- a call that reads and writes

-- A function of a local number, which it writes, lends to a method, and gives back; the method makes an object and writes
-- another one.
abbrev lending_call : ScriptCall
lending_call = record {
  signature = 0;
  args = lent (value.Int 5) ∷ [];
  enter = [];
  make = record {
    shape = 1;
    count = 2;
    cells = record { instance = 1; field = 0; value = value.Int 9 } ∷ record {
      instance = 0;
      field = 1;
      value = value.Ptr 2 1;
    } ∷ [];
  } ∷ [];
  out = record { argument = 0; value = value.Int 77 } ∷ [];
  write = record { object = 1; instance = 0; field = 1; value = value.Ptr 2 1 } ∷ [];
  result = value.StatusOk 0;
}

abbrev pub lending_world : World
lending_world = record {
  notes = record driver_notes {
    shape = record {
      name = [];
      n = 2;
      c = 0;
      fields = record { name = []; n = 0; c = 0; cell = cell.Method 0 } ∷ record {
        name = [];
        n = 1;
        c = 0;
        cell = cell.Method 1;
      } ∷ [];
    }
        ∷ record {
          name = [];
          n = 2;
          c = 0;
          fields = record { name = []; n = 0; c = 0; cell = cell.I32 } ∷ record {
            name = [];
            n = 1;
            c = 0;
            cell = cell.Ptr 1 1 true;
          } ∷ [];
        }
        ∷ single 1 0 cell.I32
        ∷ [];
    thunk = [];
    function = record {
      name = [];
      place = 0x1000;
      «end» = 0x101E;
      level = 0;
      need = record { n = 2; c = 0 };
      locals = Some 2;
      params = natural ty.Handle ∷ natural (ty.Ptr 0 1 (pos 0) (pos 0) false) ∷ [];
      result = number_result;
      enter = false;
    }
        ∷ [];
    signature = record {
      name = [];
      method = 0;
      params = record { kind = N; want = want.Inout cell.I32 } ∷ [];
      result = Some (ty.Status 0);
    } ∷ [];
    site = record { place = 0x1010; signature = 0 } ∷ [];
  };
  script = record driver.script { call = lending_call ∷ [] };
  image_size = 0x2010;
}

abbrev pub lending_image : Image
lending_image = image_of
    (0x72 ∷ 0x84 ∷ 0x41 ∷ 0x10 ∷ 0x60 ∷ 0x00 ∷ 0x01 ∷ 0x90 ∷ 0x77 ∷ 0x28 ∷ 0x05 ∷ 0x00 ∷ 0x20 ∷ 0x05 ∷ 0x35 ∷ 0x05
    ∷ 0x03 ∷ 0x2C ∷ 0x60 ∷ 0x00 ∷ 0x01 ∷ 0x10 ∷ 0x1F ∷ 0x87 ∷ 0x60 ∷ 0x00 ∷ 0x01 ∷ 0x10 ∷ 0x04 ∷ 0x00 ∷ [])
    [] []

-- ---- plain code

-- one function without parameters from 1000 on, whose result may be anything
abbrev plain_function : ℕ → Ty → FnNote
plain_function stop result = record {
  name = [];
  place = 0x1000;
  «end» = stop;
  level = 0;
  need = record { n = 0; c = 0 };
  locals = None;
  params = [];
  result = result;
  enter = false;
}

abbrev plain_notes : ℕ → Ty → Notes
plain_notes stop result = record {
  version = 1;
  entry = 0;
  shape = [];
  statics = [];
  thunk = [];
  function = plain_function stop result ∷ [];
  point = [];
  signature = [];
  site = [];
  methods = [];
}

abbrev nothing : Script
nothing = record { version = 1; args = []; object = []; call = []; notify = [] }

abbrev pub plain_world : World
plain_world = record { notes = plain_notes 0x100C ty.Any; script = nothing; image_size = 0x2010 }

-- it divides 5 by 0
abbrev pub dividing_image : Image
dividing_image = image_of (0x77 ∷ 0x34 ∷ 0x05 ∷ 0x00 ∷ 0x77 ∷ 0x35 ∷ 0x00 ∷ 0x00 ∷ 0x50 ∷ 0x54 ∷ 0x04 ∷ 0x00 ∷ []) [] []

-- it compares one natural unit with 8, and goes back where they aren't equal
abbrev pub width_image : Image
width_image = image_of (0x78 ∷ 0x04 ∷ 0x01 ∷ 0x10 ∷ 0x6D ∷ 0x04 ∷ 0x08 ∷ 0x00 ∷ 0x82 ∷ 0xFE ∷ 0x04 ∷ 0x00 ∷ []) [] []

-- ---- static objects

-- a static number at 2000, which the code reads through a relocated address
abbrev pub static_world : World
static_world = record {
  notes = record (plain_notes 0x100E number_result) {
    shape = single 0 4 cell.I32 ∷ [];
    statics = record { place = 0x2000; shape = 0; count = 1 } ∷ [];
  };
  script = nothing;
  image_size = 0x2010;
}

abbrev pub static_image : Image
static_image = image_of
    (0xF7 ∷ 0x34 ∷ 0x00 ∷ 0x20 ∷ 0x01 ∷ 0x00 ∷ 0x00 ∷ 0x00 ∷ 0x00 ∷ 0x00 ∷ 0x1F ∷ 0xC7 ∷ 0x04 ∷ 0x00 ∷ [])
    (0x2A ∷ 0x01 ∷ 0x00 ∷ 0x00 ∷ []) (0x1002 ∷ [])

-- a static pointer of 64 bits at 2000, which holds the relocated address of a static number at 2008; the code reads both
abbrev pub pointer_world : World
pointer_world = record {
  notes = record (plain_notes 0x1010 number_result) {
    shape = single 0 8 (cell.P64 1 1 false) ∷ single 0 4 cell.I32 ∷ [];
    statics = record { place = 0x2000; shape = 0; count = 1 } ∷ record { place = 0x2008; shape = 1; count = 1 } ∷ [];
  };
  script = nothing;
  image_size = 0x2010;
}

abbrev pub pointer_image : Image
pointer_image = image_of
    (0xF7 ∷ 0x34 ∷ 0x00 ∷ 0x20 ∷ 0x01 ∷ 0x00 ∷ 0x00 ∷ 0x00 ∷ 0x00 ∷ 0x00 ∷ 0x20 ∷ 0xC4 ∷ 0x1F ∷ 0xC7 ∷ 0x04 ∷ 0x00 ∷ [])
    (0x08 ∷ 0x20 ∷ 0x01 ∷ 0x00 ∷ 0x00 ∷ 0x00 ∷ 0x00 ∷ 0x00 ∷ 0x39 ∷ 0x05 ∷ 0x00 ∷ 0x00 ∷ []) (0x1002 ∷ 0x2000 ∷ [])

-- ---- callbacks within callbacks

-- a function that calls a method, and another one that the method enters, which does the same
abbrev calling : ℕ → ℕ → Bool → FnNote
calling place stop enter = record {
  name = [];
  place = place;
  «end» = stop;
  level = 0;
  need = record { n = 0; c = 0 };
  locals = None;
  params = natural (ty.Ptr 0 1 (pos 0) (pos 0) false) ∷ [];
  result = ty.Status 0;
  enter = enter;
}

abbrev nest_call : ScriptCall
nest_call = record {
  signature = 0;
  args = [];
  enter = record { function = 1; values = value.Ptr 0 0 ∷ [] } ∷ [];
  make = [];
  out = [];
  write = [];
  result = value.StatusOk 0;
}

abbrev pub nest_world : World
nest_world = record {
  notes = record (plain_notes 0x1008 ty.Any) {
    shape = single 1 0 (cell.Method 0) ∷ [];
    function = calling 0x1000 0x1008 false ∷ calling 0x1008 0x1010 true ∷ [];
    signature = record { name = []; method = 0; params = []; result = Some (ty.Status 0) } ∷ [];
    site = record { place = 0x1004; signature = 0 } ∷ record { place = 0x100C; signature = 0 } ∷ [];
    methods = [] ∷ [];
  };
  script = record {
    version = 1;
    args = value.Ptr 0 0 ∷ [];
    object = record { shape = 0; count = 1; cells = record { instance = 0; field = 0; value = value.Method 0 } ∷ [] } ∷ [];
    call = nest_call ∷ nest_call ∷ nest_call ∷ nest_call ∷ nest_call ∷ nest_call ∷ nest_call ∷ nest_call ∷ nest_call ∷ nest_call ∷ [];
    notify = [];
  };
  image_size = 0x2010;
}

abbrev pub nest_image : Image
nest_image =
    image_of (0x72 ∷ 0x84 ∷ 0x40 ∷ 0x10 ∷ 0x03 ∷ 0x2C ∷ 0x04 ∷ 0x00 ∷ 0x72 ∷ 0x84 ∷ 0x40 ∷ 0x10 ∷ 0x03 ∷ 0x2C ∷ 0x04 ∷ 0x00 ∷ []) [] []
