-- A small program, a configuration of it, and the machine's states at both widths that stand for it: what the rows of
-- proofs/InsnRows are computed on.
use Rattle.neutral_machine.proofs.Common.{ℕ, ◌+◌, false, true, List, [], ◌∷◌, Some, None, put, Concrete, Q, Notes, Place, Gate, Config}
use Rattle.neutral_machine.proofs.Common.{Registers, StackItem, Frame, Function, Host, Pushed, with_value, with_cell, Placement}
use Rattle.neutral_machine.proofs.Common.{placed_ranges, NoCall, script_start, At, Num, Entry, Error, ObjectOf, ThunkOf, FieldOf}
use Rattle.neutral_machine.proofs.Common.{FieldOfLocals, number, null, error_at, World, Shape}
use Rattle.note_types.specs.declared.ending.Ending.TheVariants.{Running}
use Rattle.note_types.specs.declared.cell.Cell.TheVariants as cell
use Rattle.note_types.specs.declared.types.Ty.TheVariants as ty

-- ---- the program

-- a natural number and two of 32 bits; locals: a status and a number of 32 bits; a pointer of 64 bits to the first shape
abbrev pub block : Shape
block = record {
  name = [];
  n = 1;
  c = 8;
  fields = record { name = []; n = 0; c = 0; cell = cell.N } ∷ record {
    name = [];
    n = 1;
    c = 0;
    cell = cell.I32;
  } ∷ record { name = []; n = 1; c = 4; cell = cell.I32 } ∷ [];
}

abbrev pub own_locals : Shape
own_locals = record {
  name = [];
  n = 1;
  c = 4;
  fields = record { name = []; n = 0; c = 0; cell = cell.Stat } ∷ record {
    name = [];
    n = 1;
    c = 0;
    cell = cell.I32;
  } ∷ [];
}

abbrev pub link : Shape
link = record { name = []; n = 0; c = 8; fields = record { name = []; n = 0; c = 0; cell = cell.P64 0 1 false } ∷ [] }

abbrev pub row_notes : Notes
row_notes = record {
  version = 1;
  entry = 0;
  shape = block ∷ own_locals ∷ link ∷ [];
  statics = record { place = 0x40; shape = 0; count = 2 } ∷ record { place = 0x60; shape = 2; count = 1 } ∷ [];
  thunk = record { place = 0x68; function = 1 } ∷ [];
  function = record {
    name = [];
    place = 0;
    «end» = 0x20;
    level = 1;
    need = record { n = 1; c = 40 };
    locals = Some 1;
    params = [];
    result = ty.Any;
    enter = false;
  }
      ∷ record {
        name = [];
        place = 0x20;
        «end» = 0x30;
        level = 0;
        need = record { n = 0; c = 0 };
        locals = None;
        params = record { kind = Q; ty = ty.Any } ∷ [];
        result = ty.Any;
        enter = true;
      }
      ∷ [];
  point = [];
  signature = [];
  site = [];
  methods = [] ∷ [];
}

abbrev pub row_world : World
row_world = record {
  notes = row_notes;
  script = record { version = 1; args = []; object = []; call = []; notify = [] };
  image_size = 0x70;
}

abbrev pub row_placement : Placement
row_placement = record { native = 0x1000; stack = 0x10000; image = 0x20000; objects = [] }

-- ---- a configuration

-- R1 is the start of the first static object, R2 a natural unit and 4 bytes, R3 an error, R4 seven, R5 the start of the second
-- one, R6 the thunk of
-- function 1, R7 the thunk cell
abbrev pub row_registers : Registers
row_registers =
    with_value (with_value (with_value (with_value (with_value (with_value (with_value (λ r. null) 1 (At (ObjectOf 0) 0 0)) 2 (Num 1 4)) 3
    (Error 5)) 4 (number 7)) 5 (At (ObjectOf 1) 0 0)) 6 (Entry 1)) 7
    (At (ThunkOf 0) 0 0)

-- function 0 stands in the frame that the host entered, with a slot of 64 bits; of the static objects two fields, the one
-- instance's natural one and the other's second one, and the pointer are looked at
abbrev pub below : Frame
below = Host (record { func = 0; notified = false; saved = λ r. null; c = false; spot = Gate; params = []; call = NoCall })

abbrev pub config_with : List StackItem → Config
config_with items = record {
  registers = row_registers;
  c = false;
  spot = Place 4;
  cells = with_cell (with_cell (with_cell (with_cell (λ p. Some null) (FieldOf 0 0 0) (number 6)) (FieldOf 0 1 1) (number 11))
      (FieldOf 1 0 0) (At (ObjectOf 0) 0 0)) (FieldOfLocals 0 1) (number 21);
  made = 0;
  frames = Function (record { func = 0; ret = 0; saved = λ r. null; items = items }) ∷ below ∷ [];
  script = script_start;
  trace = [];
  ending = Running;
}

abbrev pub row_config : Config
row_config = config_with (Pushed Q (number 13) ∷ [])

-- ---- the machine

-- the first static object is at 0x20040, the second at 0x20060; the stack ends at 0x1021C where an address has 4 bytes, and at
-- 0x10240 where it has 8; below its end lie the return cell and k bytes of one item more, which hold x
abbrev pub machine_with : (w top k x : ℕ) → Concrete
machine_with w top k x = record {
  registers = top ∷ 0x20040 ∷ (w + 4) ∷ error_at w 5 ∷ 7 ∷ 0x20060 ∷ 0x1030 ∷ 0x20068 ∷ [];
  ip = 0x20004;
  flags = 0;
  gate = 0x1000;
  objects = placed_ranges w row_world row_placement 0;
  byte = put (put (put (put (put (λ x. 0) 0x20040 w 6) (0x20040 + (w + 8) + w) 4 11) 0x20060 8 0x20040) top k x) (top + k) 8 0x1000;
}

abbrev pub machine_at_4 : Concrete
machine_at_4 = machine_with 4 0x10204 8 13

abbrev pub machine_at_8 : Concrete
machine_at_8 = machine_with 8 0x10228 8 13
