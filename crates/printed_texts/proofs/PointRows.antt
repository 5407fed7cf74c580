-- Worked rows of the definitions: a type of each kind, as it is printed under the driver's notes of docs/NOTES.md and read again; and
-- points and states.
use Rattle.std.proofs.Common.{◌≡◌, ℕ, ◌-◌, ◌^◌, pos, negsuc, List, [], ◌∷◌, ◌++◌, Some, None, codes, false, true, refl}
use Rattle.std.specs.Fmt.{digits}
use Rattle.ebc_base.specs.Names.{is_name}
use Rattle.note_types.specs.Known.{local_fields}
use Rattle.note_types.specs.Records.{function_at}
use Rattle.note_types.specs.declared.cell.Cell.TheVariants as cell
use Rattle.note_types.specs.declared.cell.SlotKind.TheVariants as kind
use Rattle.note_types.specs.declared.items.Item.{Item}
use Rattle.note_types.specs.declared.items.Item.TheVariants as items
use Rattle.note_types.specs.declared.notes.FnNote.{FnNote}
use Rattle.note_types.specs.declared.notes.Notes.{Notes}
use Rattle.note_types.specs.declared.notes.Point.{Point}
use Rattle.note_types.specs.declared.shape.Field.{Field}
use Rattle.note_types.specs.declared.shape.Shape.{Shape}
use Rattle.note_types.specs.declared.state.State.{State}
use Rattle.note_types.specs.declared.types.Ty.{Ty}
use Rattle.note_types.specs.declared.types.Ty.TheVariants as ty
use Rattle.note_texts.specs.CellTexts.{cell_of, counted_of, marked_cell, plain_cell}
use Rattle.note_texts.specs.Names.{names_of}
use Rattle.note_texts.specs.Numbers.{near_of, number_from, number_of}
use Rattle.note_texts.specs.Ranges.{pair_of, range_of}
use Rattle.note_texts.specs.Splits.{parts_at, split_at}
use Rattle.note_texts.specs.TypeTexts.{granting_type, int_of, marked_type, number_type, plain_type, pointer_of, scaled_of, type_of}
use Rattle.note_texts.specs.TypeTexts.{word_type}
use Rattle.printed_texts.specs.NamedTypes.{named_cell, named_type}
use Rattle.printed_texts.specs.PrintedStates.{fields_at, point_text, points_text, state_text, told_up_to}
use Rattle.printed_texts.specs.PrintedTypes.{cell_text, divisor_text, int_text, is_every_number, names_below, offset_text, type_text}

-- ---- the driver's notes, and a second local

abbrev pointer : List ℕ → Field
pointer name = record { name = name; n = 0; c = 0; cell = cell.Ptr 1 1 false }

abbrev shape : List ℕ → List Field → Shape
shape name fields = record { name = name; n = 2; c = 0; fields = fields }

abbrev locals : List Field
locals = pointer (codes "p") ∷ pointer (codes "q") ∷ []

abbrev main : FnNote
main = record {
  name = codes "main";
  place = 0x1000;
  end = 0x1044;
  level = 1;
  need = record { n = 2; c = 0 };
  locals = Some 2;
  params = [];
  result = ty.Status 0;
  enter = false;
}

abbrev notes : Notes
notes = record {
  version = 1;
  entry = 0;
  shape = shape (codes "Sys") [] ∷ shape (codes "Blk") [] ∷ shape (codes "L") locals ∷ [];
  statics = [];
  thunk = [];
  point = [];
  site = [];
  function = main ∷ [];
  signature = [];
  methods = codes "Locate" ∷ codes "Register" ∷ [];
}

-- ---- types

-- the text is printed of the type, and read as that type
abbrev Row : List ℕ → Ty → Type 0
Row text t = (type_text notes locals t ≡ text) × (type_of text ≡ Some (named_type notes locals t))

any : Row (codes "any") ty.Any
unfolding type_text named_type type_of parts_at word_type plain_type
any = (refl, refl)

all_numbers : Row (codes "int") (ty.Int 0 (2 ^ 64 - 1) 1)
unfolding type_text int_text is_every_number named_type type_of parts_at word_type plain_type
all_numbers = (refl, refl)

numbers : Row (codes "int:0..100") (ty.Int 0 100 1)
unfolding type_text int_text is_every_number divisor_text digits named_type type_of parts_at split_at marked_type number_type int_of
    range_of number_of number_from
numbers = (refl, refl)

divided_numbers : Row (codes "int:0..18446744073709551615/8") (ty.Int 0 (2 ^ 64 - 1) 8)
unfolding type_text int_text is_every_number divisor_text digits named_type type_of parts_at split_at marked_type number_type int_of
    range_of number_of number_from
divided_numbers = (refl, refl)

natural_units : Row (codes "lin:1,0") (ty.Lin (pos 1) (pos 0))
unfolding type_text digits named_type type_of parts_at split_at marked_type number_type pair_of near_of number_of number_from
natural_units = (refl, refl)

less_bytes : Row (codes "lin:3,-4") (ty.Lin (pos 3) (negsuc 3))
unfolding type_text digits named_type type_of parts_at split_at marked_type number_type pair_of near_of number_of number_from
less_bytes = (refl, refl)

scaled : Row (codes "scaled:1,4,9") (ty.Scaled 1 4 9)
unfolding type_text digits named_type type_of parts_at split_at marked_type number_type scaled_of number_of number_from
scaled = (refl, refl)

a_pointer : Row (codes "ptr:Blk") (ty.Ptr 1 1 (pos 0) (pos 0) false)
unfolding type_text offset_text digits named_type type_of parts_at split_at marked_type pointer_of counted_of is_name
a_pointer = (refl, refl)

a_far_pointer : Row (codes "ptr?:Sys*10+1,-8") (ty.Ptr 0 10 (pos 1) (negsuc 7) true)
unfolding type_text offset_text digits named_type type_of parts_at split_at marked_type pointer_of counted_of pair_of near_of number_of
    number_from is_name
a_far_pointer = (refl, refl)

a_local : Row (codes "local:q") (ty.Local 1)
unfolding type_text named_type type_of parts_at marked_type is_name
a_local = (refl, refl)

a_lent_number : Row (codes "lent:i32") (ty.Lent cell.I32)
unfolding type_text cell_text named_type named_cell type_of parts_at marked_type cell_of plain_cell
a_lent_number = (refl, refl)

a_lent_pointer : Row (codes "lent:p64?:Blk*2") (ty.Lent (cell.P64 1 2 true))
unfolding type_text cell_text digits named_type named_cell type_of parts_at marked_type cell_of marked_cell counted_of number_of
    number_from is_name
a_lent_pointer = (refl, refl)

a_lent_method : Row (codes "lent:method:Locate") (ty.Lent (cell.Method 0))
unfolding type_text cell_text named_type named_cell type_of parts_at marked_type cell_of marked_cell is_name
a_lent_method = (refl, refl)

a_status : Row (codes "status") (ty.Status 0)
unfolding type_text names_below named_type type_of parts_at word_type plain_type
a_status = (refl, refl)

a_granting_status : Row (codes "status!p!q") (ty.Status 3)
unfolding type_text names_below named_type type_of parts_at word_type granting_type names_of is_name
a_granting_status = (refl, refl)

a_signed_status : Row (codes "sstatus!q") (ty.SignedStatus 2)
unfolding type_text names_below named_type type_of parts_at word_type granting_type names_of is_name
a_signed_status = (refl, refl)

mask : Row (codes "mask") ty.Mask
unfolding type_text named_type type_of parts_at word_type plain_type
mask = (refl, refl)

handle : Row (codes "handle") ty.Handle
unfolding type_text named_type type_of parts_at word_type plain_type
handle = (refl, refl)

entry : Row (codes "entry") ty.Entry
unfolding type_text named_type type_of parts_at word_type plain_type
entry = (refl, refl)

a_method : Row (codes "method:Register") (ty.Method 1)
unfolding type_text named_type type_of parts_at marked_type is_name
a_method = (refl, refl)

a_thunk : Row (codes "thunk:12") (ty.ThunkAt 12)
unfolding type_text digits named_type type_of parts_at marked_type number_type number_of number_from
a_thunk = (refl, refl)

saved : Row (codes "saved:3") (ty.Saved 3)
unfolding type_text digits named_type type_of parts_at marked_type number_type number_of number_from
saved = (refl, refl)

-- ---- points

abbrev state : Ty → Ty → Ty → List Item → ℕ → ℕ → State
state r4 r5 r7 stack written made = record {
  regs = ty.Any ∷ ty.Saved 1 ∷ ty.Saved 2 ∷ ty.Saved 3 ∷ r4 ∷ r5 ∷ ty.Any ∷ r7 ∷ [];
  items = stack;
  written = written;
  made = made;
  fact = None;
}

abbrev point : ℕ → State → Point
point place s = record { place = place; state = s }

-- the driver's point
abbrev after_locate : Point
after_locate = point 0x103E (state ty.Any (ty.SignedStatus 1) (ty.Status 1) (items.Locals ∷ []) 0 1)

abbrev before_register : Point
before_register = point 0x1030 (state (ty.Ptr 1 1 (pos 0) (pos 0) false) ty.Any ty.Any (items.Slot kind.N ty.Entry ∷ items.Locals ∷ []) 3 1)

no_points : points_text notes [] ≡ []
no_points = refl

the_driver : points_text notes (after_locate ∷ [])
    ≡ codes "[[point]]\nplace = 4158\nregs = [\"R5 sstatus!p\", \"R7 status!p\"]\nstack = [\"locals\"]\nwritten = []\nmade = 1\n"
unfolding point_text fields_at function_at local_fields told_up_to type_text names_below digits
the_driver = refl

two_points : points_text notes (before_register ∷ after_locate ∷ [])
    ≡ codes "[[point]]\nplace = 4144\nregs = [\"R4 ptr:Blk\"]\nstack = [\"n entry\", \"locals\"]\nwritten = [\"p\", \"q\"]\nmade = 1\n"
    ++ codes "[[point]]\nplace = 4158\nregs = [\"R5 sstatus!p\", \"R7 status!p\"]\nstack = [\"locals\"]\nwritten = []\nmade = 1\n"
unfolding point_text fields_at function_at local_fields told_up_to type_text offset_text names_below digits
two_points = refl

-- ---- states

a_width_test : state_text notes 0x1004 (state (ty.Lin (pos 1) (pos 0)) ty.Any ty.Any [] 0 0)
    ≡ codes "regs R4 lin:1,0\nstack\nwritten\nmade 0\n"
unfolding fields_at function_at local_fields told_up_to type_text names_below digits
a_width_test = refl

a_full_state : state_text notes 0x1030 before_register.state
    ≡ codes "regs R4 ptr:Blk\nstack n entry, locals\nwritten p, q\nmade 1\n"
unfolding fields_at function_at local_fields told_up_to type_text offset_text names_below digits
a_full_state = refl

-- R1 to R3 are told where they hold something else than at the entry, R4 to R7 where anything is known of them
other_registers : state_text notes 0x1000 (record {
  regs = ty.Any ∷ ty.Any ∷ ty.Saved 1 ∷ ty.Saved 3 ∷ ty.Saved 2 ∷ ty.Any ∷ ty.Any ∷ ty.Any ∷ [];
  items = [];
  written = 0;
  made = 0;
  fact = None;
}) ≡ codes "regs R1 any, R2 saved:1, R4 saved:2\nstack\nwritten\nmade 0\n"
unfolding fields_at function_at local_fields told_up_to type_text names_below digits
other_registers = refl
