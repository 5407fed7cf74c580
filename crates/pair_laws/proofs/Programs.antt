-- Two images whose runs as a pair are computed, as closed terms. Names don't matter here.
use Rattle.pair_laws.proofs.Common.{ℕ, true, false, List, [], ◌∷◌, length, Some, None, pos, World, Notes, Param, Thunk, Script, Ty, Both}
use Rattle.pair_laws.proofs.Common.{PairWorld, Image}
use Rattle.note_types.specs.declared.cell.SlotKind.TheVariants.{N}
use Rattle.note_types.specs.declared.cell.Cell.TheVariants as cell
use Rattle.note_types.specs.declared.notes.Want.TheVariants as want
use Rattle.note_types.specs.declared.types.Ty.TheVariants as ty
use Rattle.note_types.specs.declared.value.Value.TheVariants as value

-- ---- parts

-- an image of code at 1000 and data at 2000, linked for base 10000
abbrev image_of : List ℕ → List ℕ → Image
image_of code data_bytes = record {
  base = 0x10000;
  entry = 0x1000;
  size = 0x2008;
  subsystem = 11;
  sections = record { name = []; place = 0x1000; size = length code; flags = 0; bytes = code }
      ∷ record { name = []; place = 0x2000; size = length data_bytes; flags = 0; bytes = data_bytes }
      ∷ [];
  relocs = [];
}

abbrev natural : Ty → Param
natural t = record { kind = N; ty = t }

-- ---- image A: it calls the method of its parameter with 21, and gives what that gives

abbrev pub a_notes : Notes
a_notes = record {
  version = 1;
  entry = 0;
  shape = record { name = []; n = 1; c = 0; fields = record { name = []; n = 0; c = 0; cell = cell.Method 0 } ∷ [] } ∷ [];
  statics = [];
  thunk = [];
  function = record {
    name = [];
    place = 0x1000;
    «end» = 0x1012;
    level = 0;
    need = record { n = 1; c = 0 };
    locals = None;
    params = natural (ty.Ptr 0 1 (pos 0) (pos 0) false) ∷ [];
    result = ty.Int 0 2000 1;
    enter = false;
  } ∷ [];
  point = [];
  signature = record {
    name = [];
    method = 0;
    params = record { kind = N; want = want.Int 0 1000 } ∷ [];
    result = Some (ty.Int 0 2000 1);
  } ∷ [];
  site = record { place = 0x100A; signature = 0 } ∷ [];
  methods = [] ∷ [];
}

abbrev a_world : World
a_world = record {
  notes = a_notes;
  script = record {
    version = 1;
    args = value.Ptr 0 0 ∷ [];
    object = record { shape = 0; count = 1; cells = record { instance = 0; field = 0; value = value.Method 0 } ∷ [] } ∷ [];
    call = [];
    notify = [];
  };
  image_size = 0x2008;
}

abbrev a_image : Image
a_image = image_of
    (0x77 ∷ 0x34 ∷ 0x15 ∷ 0x00 ∷ 0x35 ∷ 0x04 ∷ 0x72 ∷ 0x85 ∷ 0x41 ∷ 0x10 ∷ 0x03 ∷ 0x2D ∷ 0x60 ∷ 0x00 ∷ 0x01 ∷ 0x10 ∷ 0x04 ∷ 0x00 ∷ [])
    []

-- ---- image B: it doubles a number, which is at most this; with these thunk cells, and these bytes of data

abbrev pub b_notes : List Thunk → ℕ → Notes
b_notes thunks most = record {
  version = 1;
  entry = 0;
  shape = [];
  statics = [];
  thunk = thunks;
  function = record {
    name = [];
    place = 0x1000;
    «end» = 0x1006;
    level = 0;
    need = record { n = 0; c = 0 };
    locals = None;
    params = [];
    result = ty.Status 0;
    enter = false;
  }
      ∷ record {
        name = [];
        place = 0x1006;
        «end» = 0x100E;
        level = 0;
        need = record { n = 0; c = 0 };
        locals = None;
        params = natural (ty.Int 0 most 1) ∷ [];
        result = ty.Int 0 2000 1;
        enter = true;
      }
      ∷ [];
  point = [];
  signature = [];
  site = [];
  methods = [];
}

abbrev no_calls : Script
no_calls = record { version = 1; args = []; object = []; call = []; notify = [] }

abbrev b_image : List ℕ → Image
b_image data_bytes = image_of
    (0x77 ∷ 0x37 ∷ 0x00 ∷ 0x00 ∷ 0x04 ∷ 0x00 ∷ 0x72 ∷ 0x87 ∷ 0x10 ∷ 0x00 ∷ 0x4C ∷ 0x77 ∷ 0x04 ∷ 0x00 ∷ []) data_bytes

-- ---- pairs

abbrev pub pair_with : List Thunk → PairWorld
pair_with thunks = record {
  a = a_world;
  b = record { notes = b_notes thunks 1000; script = no_calls; image_size = 0x2008 };
  binds = record { method = 0; function = 1 } ∷ [];
}

abbrev pub images_with : List ℕ → Both Image
images_with data_bytes = record { a = a_image; b = b_image data_bytes }
