-- Drafts of binds, and what they stand for: a method `Double`, which takes a number up to 1000 and gives one up to 2000, and a function
-- `double` of such numbers.
use Rattle.std.specs.Prelude.{ℕ, true, false, List, [], ◌∷◌, ◌++◌, Some, None, Ok, Err, codes}
use Rattle.std.proofs.Common.{◌≡◌, refl}
use Rattle.bind_texts.specs.BindTexts.{binds_in}
use Rattle.bind_texts.specs.declared.draft.BindDraft.{BindDraft}
use Rattle.note_texts.specs.Keys.{item_path, row_prefix}
use Rattle.note_types.specs.BelowTests.{is_below, same_type}
use Rattle.note_types.specs.declared.cell.SlotKind.TheVariants.{N}
use Rattle.note_types.specs.declared.fault.TomlFault.TheVariants.{Name, Range, Twice}
use Rattle.note_types.specs.declared.notes.FnNote.{FnNote}
use Rattle.note_types.specs.declared.notes.Notes.{Notes}
use Rattle.note_types.specs.declared.notes.Want.TheVariants as want
use Rattle.note_types.specs.declared.types.Ty.TheVariants as ty
use Rattle.pair_model.specs.Binds.{bind_agrees}
use Rattle.protocol_script.specs.Numbers.{function_number, method_number}
use Rattle.script_draft.specs.Lists.{all_pass, each_of}

-- ---- the notes

abbrev nothing : Notes
nothing = record {
  version = 1;
  entry = 0;
  shape = [];
  statics = [];
  thunk = [];
  function = [];
  point = [];
  signature = [];
  site = [];
  methods = [];
}

abbrev a : Notes
a = record nothing {
  signature = record {
    name = codes "double";
    method = 0;
    params = record { kind = N; want = want.Int 0 1000 } ∷ [];
    result = Some (ty.Int 0 2000 1);
  } ∷ [];
  methods = codes "Double" ∷ [];
}

abbrev main : FnNote
main = record {
  name = codes "main";
  place = 0x1000;
  «end» = 0x1006;
  level = 0;
  need = record { n = 0; c = 0 };
  locals = None;
  params = [];
  result = ty.Status 0;
  enter = false;
}

-- which takes a number up to this
abbrev double : ℕ → FnNote
double most = record main {
  name = codes "double";
  place = 0x1006;
  «end» = 0x100E;
  params = record { kind = N; ty = ty.Int 0 most 1 } ∷ [];
  result = ty.Int 0 2000 1;
  enter = true;
}

abbrev b : ℕ → Notes
b most = record nothing { function = main ∷ double most ∷ [] }

-- ---- drafts

abbrev bind : List ℕ → List ℕ → BindDraft
bind method function = record { method = method; function = function }

abbrev doubled : BindDraft
doubled = bind (codes "Double") (codes "double")

given : binds_in a (b 1000) (doubled ∷ []) ≡ Ok (record { method = 0; function = 1 } ∷ [])
unfolding binds_in all_pass each_of bind_agrees is_below same_type method_number function_number
given = refl

-- two methods, of which the other has no signature, are bound to one function
both : binds_in (record a { methods = codes "Double" ∷ codes "Add" ∷ [] }) (b 1000) (doubled ∷ bind (codes "Add") (codes "double") ∷ [])
    ≡ Ok (record { method = 0; function = 1 } ∷ record { method = 1; function = 1 } ∷ [])
unfolding binds_in all_pass each_of bind_agrees is_below same_type method_number function_number
both = refl

none : binds_in a (b 1000) [] ≡ Ok []
unfolding binds_in all_pass each_of
none = refl

too_narrow : binds_in a (b 10) (doubled ∷ []) ≡ Err (Range (item_path (codes "bind") 0))
unfolding binds_in all_pass each_of bind_agrees is_below same_type method_number function_number
too_narrow = refl

-- a method again is told before a name that isn't there, and that before a bind that doesn't agree
twice : binds_in a (b 10) (doubled ∷ bind (codes "Double") (codes "dubel") ∷ [])
    ≡ Err (Twice (row_prefix (codes "bind") 1 ++ codes "method"))
unfolding binds_in all_pass each_of
twice = refl

no_function : binds_in a (b 10) (bind (codes "Double") (codes "dubel") ∷ []) ≡ Err (Name (row_prefix (codes "bind") 0 ++ codes "function"))
unfolding binds_in all_pass each_of method_number function_number
no_function = refl

no_method : binds_in a (b 10) (bind (codes "Halve") (codes "dubel") ∷ []) ≡ Err (Name (row_prefix (codes "bind") 0 ++ codes "method"))
unfolding binds_in all_pass each_of method_number function_number
no_method = refl

-- the entry function, and one that the firmware may not enter, though it takes and gives what the method does
entry_function : binds_in a (record (b 1000) { entry = 1 }) (doubled ∷ []) ≡ Err (Range (item_path (codes "bind") 0))
unfolding binds_in all_pass each_of bind_agrees is_below same_type method_number function_number
entry_function = refl

unmarked : binds_in a (record nothing { function = main ∷ record (double 1000) { enter = false } ∷ [] }) (doubled ∷ [])
    ≡ Err (Range (item_path (codes "bind") 0))
unfolding binds_in all_pass each_of bind_agrees is_below same_type method_number function_number
unmarked = refl
