-- A driver that stores the digit of how many bytes an address has into a text, and hands the text to a method. Its runs make the same
-- calls with the same replies, and don't hold the same in memory. It isn't typed: the rule `store` refuses it, as the row `run/text` of
-- crates/ebc_rows/stdin says. Computed at both widths.
use Rattle.twin_run.proofs.Common.{◌≡◌, ℕ, false, [], ◌∷◌, Option, Some, None, refl, sym, ap, ◌∙◌, arith, pos, Image, RunState, World}
use Rattle.twin_run.proofs.Common.{own_placement, run_of, Value}
use Rattle.neutral_machine.proofs.Computing.{runs_compute}
use Rattle.host_model.specs.{Runs.SameRun, ScriptValues.given}
use Rattle.note_types.specs.declared.cell.SlotKind.TheVariants.{N}
use Rattle.twin_run.specs.{Behaviour.cell_seen, Headline.SameCells, Met.CellsTellMore}
use Rattle.note_types.specs.declared.cell.Cell.TheVariants as cell
use Rattle.note_types.specs.declared.notes.Want.TheVariants as want
use Rattle.note_types.specs.declared.types.Ty.TheVariants as ty
use Rattle.note_types.specs.declared.value.Value.TheVariants as value

-- 1000 MOVnw R4, @R0(0,+16); MOVRELd R5, 2000; MOVInw R6, (+1,+0); MOVIqw R7, 48; ADD64 R6, R7; 1014 MOVww @R5, R6; PUSHn R5; PUSHn R4;
-- 101A CALL32EXa @R4; MOVqw R0, R0(+2,0); RET; and the text at 2000
abbrev text_image : Image
text_image = record {
  base = 0x10000;
  entry = 0x1000;
  size = 0x2010;
  subsystem = 11;
  sections = record {
    name = [];
    place = 0x1000;
    size = 34;
    flags = 0;
    bytes = 0x72 ∷ 0x84 ∷ 0x40 ∷ 0x10 ∷ 0xB9 ∷ 0x05 ∷ 0xF6 ∷ 0x0F ∷ 0x00 ∷ 0x00 ∷ 0x78 ∷ 0x06 ∷ 0x01 ∷ 0x10 ∷ 0x77 ∷ 0x37 ∷ 0x30 ∷ 0x00
        ∷ 0x4C ∷ 0x76 ∷ 0x1E ∷ 0x6D ∷ 0x35 ∷ 0x05 ∷ 0x35 ∷ 0x04 ∷ 0x03 ∷ 0x2C ∷ 0x60 ∷ 0x00 ∷ 0x02 ∷ 0x10 ∷ 0x04 ∷ 0x00 ∷ [];
  }
      ∷ record { name = []; place = 0x2000; size = 4; flags = 0; bytes = 0 ∷ 0 ∷ 0 ∷ 0 ∷ [] }
      ∷ [];
  relocs = [];
}

-- the console has the method, and the text two cells of 16 bits
abbrev text_world : World
text_world = record {
  notes = record {
    version = 1;
    entry = 0;
    shape = record { name = []; n = 1; c = 0; fields = record { name = []; n = 0; c = 0; cell = cell.Method 0 } ∷ [] }
        ∷ record {
          name = [];
          n = 0;
          c = 4;
          fields = record { name = []; n = 0; c = 0; cell = cell.I16 } ∷ record { name = []; n = 0; c = 2; cell = cell.I16 } ∷ [];
        }
        ∷ [];
    statics = record { place = 0x2000; shape = 1; count = 1 } ∷ [];
    thunk = [];
    function = record {
      name = [];
      place = 0x1000;
      «end» = 0x1022;
      level = 0;
      need = record { n = 2; c = 0 };
      locals = None;
      params = record { kind = N; ty = ty.Ptr 0 1 (pos 0) (pos 0) false } ∷ [];
      result = ty.Status 0;
      enter = false;
    } ∷ [];
    point = [];
    signature = record {
      name = [];
      method = 0;
      params = record { kind = N; want = want.Ptr } ∷ record { kind = N; want = want.Ptr } ∷ [];
      result = Some (ty.Status 0);
    } ∷ [];
    site = record { place = 0x101A; signature = 0 } ∷ [];
    methods = [] ∷ [];
  };
  script = record {
    version = 1;
    args = value.Ptr 1 0 ∷ [];
    object = record { shape = 0; count = 1; cells = record { instance = 0; field = 0; value = value.Method 0 } ∷ [] } ∷ [];
    call = record {
      signature = 0;
      args = given (value.Ptr 1 0) ∷ given (value.Ptr 0 0) ∷ [];
      enter = [];
      make = [];
      out = [];
      write = [];
      result = value.StatusOk 0;
    } ∷ [];
    notify = [];
  };
  image_size = 0x2010;
}

-- the run at a width once it has finished
abbrev finished : ℕ → RunState
finished w = run_of w text_world (own_placement w text_world) text_image 14

-- what is read of the text's first cell
abbrev digit : ℕ → Option Value
digit w = cell_seen w text_world (own_placement w text_world) (finished w) 0 0 0

digit_4 : digit 4 ≡ Some (value.Int 52)
unfolding runs_compute
digit_4 = refl

digit_8 : digit 8 ≡ Some (value.Int 56)
unfolding runs_compute
digit_8 = refl

-- the number in a reading
abbrev number_in : Option Value → ℕ
number_in (Some (value.Int n)) = n
number_in _ = 0

runs_same : SameRun text_world (own_placement 4 text_world) (finished 4) (own_placement 8 text_world) (finished 8)
unfolding runs_compute
runs_same = record { spot = refl; trace = refl; ending = refl }

cells_differ : ¬ SameCells text_world (own_placement 4 text_world) (finished 4) (own_placement 8 text_world) (finished 8)
cells_differ same =
    let e : 52 ≡ 56 = ap number_in (sym digit_4 ∙ same 0 0 0 ∙ digit_8) in
    omega (arith, e)

pub cells_tell_more : CellsTellMore
cells_tell_more = record {
  image = text_image;
  world = text_world;
  steps = 14;
  same = runs_same;
  differ = cells_differ;
}
