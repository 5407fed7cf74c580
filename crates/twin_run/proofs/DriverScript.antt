-- The driver's script, with a notification: it is as the reader of scripts gives one.
use Rattle.twin_run.proofs.Common.{◌≡◌, ℕ, zero, suc, ◌+◌, ◌^◌, ◌<◌, ◌≤◌, true, List, [], ◌∷◌, length, take, Some, refl, sym, ap, ◌∙◌}
use Rattle.twin_run.proofs.Common.{subst, arith, inl, inr, codes, nat_lt, slice_get, sum_by, leb-true, ltb-true, true≢false, same_Some}
use Rattle.twin_run.proofs.Common.{none-some, Notes, Script, ScriptCall, ScriptObject, Field, made_objects, placed_objects, shape_of}
use Rattle.twin_run.proofs.Common.{IsScript, locate_call, register_call, each_item}
use Rattle.note_types.specs.declared.script.CellValue.{CellValue}
use Rattle.host_model.specs.Scripts.{HasNotifications, IsArgument, IsCallOf, IsCallbackOf, IsCellOf, IsNotifyOf, IsObjectOf, IsOutOf}
use Rattle.host_model.specs.{ScriptValues.fits, ScriptValues.fits_each, Scripts.IsWritten, Scripts.all_made, Scripts.callbacks_of}
use Rattle.host_model.specs.Scripts.{have_room, is_given, is_needed}
use Rattle.twin_run.proofs.{DriverImage.driver_shapes, DriverNotes.driver_named, DriverNotes.ticking}
use Rattle.note_types.specs.declared.cell.Cell.TheVariants as cell
use Rattle.note_types.specs.declared.value.Value.TheVariants as value

abbrev notes : Notes
notes = driver_named.notes

abbrev script : Script
script = driver_named.script

-- ---- objects

abbrev method : ℕ → CellValue
method m = record { instance = 0; field = m; value = value.Method m }

abbrev method_field : ℕ → List ℕ → Field
method_field m name = record { name = name; n = m; c = 0; cell = cell.Method m }

-- the system table, of the two methods
abbrev table : ScriptObject
table = record { shape = 0; count = 1; cells = method 0 ∷ method 1 ∷ [] }

-- a block, whose cells are left out
abbrev block : ScriptObject
block = record { shape = 1; count = 1; cells = [] }

table_given : (i f : ℕ) (x : Field) → i < 1 → slice_get (shape_of notes 0).fields f ≡ Some x → is_needed x.cell ≡ true
    → is_given table.cells i f ≡ true
table_given zero zero x l g n = refl
table_given zero (suc zero) x l g n = refl
table_given zero (suc (suc f)) x l g n = absurd (none-some x g)
table_given (suc i) f x l g n = absurd (omega (arith, l))

no_pointer : (c : CellValue) (m p i : ℕ) → c.value ≡ value.Method m → c.value ≡ value.Ptr p i → p ≤ 0
no_pointer c m p i e g = absurd (let s : value.Method m ≡ value.Ptr p i = sym e ∙ g in cc s)

table_is : IsObjectOf notes (all_made notes script) 0 table
unfolding fits
table_is = record {
  known = ltb-true 0 3 refl;
  shape = driver_shapes 0 (shape_of notes 0) refl;
  count = (leb-true 1 1 refl, ltb-true 1 (2 ^ 64) refl);
  cells = each_item (IsCellOf notes (all_made notes script) table) table.cells (
    record { instance = ltb-true 0 1 refl; field = method_field 0 (codes "loc"); there = refl; written = ltb-true 0 2 refl; value = refl },
    (
      record {
        instance = ltb-true 0 1 refl;
        field = method_field 1 (codes "reg");
        there = refl;
        written = ltb-true 1 2 refl;
        value = refl;
      },
      tt,
    ),
  );
  given = table_given;
  earlier = λ k c p i g e. each_item (λ (x : CellValue). x.value ≡ value.Ptr p i → p ≤ 0) table.cells
      (no_pointer (method 0) 0 p i refl, (no_pointer (method 1) 1 p i refl, tt)) k c g e;
}

block_given : (i f : ℕ) (x : Field) → i < 1 → slice_get (shape_of notes 1).fields f ≡ Some x → is_needed x.cell ≡ true
    → is_given block.cells i f ≡ true
block_given i zero x l g n = absurd (true≢false (sym n ∙ ap (λ (y : Field). is_needed y.cell) (sym (same_Some _ x g))))
block_given i (suc zero) x l g n = absurd (true≢false (sym n ∙ ap (λ (y : Field). is_needed y.cell) (sym (same_Some _ x g))))
block_given i (suc (suc f)) x l g n = absurd (none-some x g)

block_is : IsObjectOf notes (all_made notes script) 1 block
block_is = record {
  known = ltb-true 1 3 refl;
  shape = driver_shapes 1 (shape_of notes 1) refl;
  count = (leb-true 1 1 refl, ltb-true 1 (2 ^ 64) refl);
  cells = λ k c g. absurd (none-some c g);
  given = block_given;
  earlier = λ k c p i g e. absurd (none-some c g);
}

objects : (k : ℕ) (o : ScriptObject) → slice_get script.object k ≡ Some o
    → IsObjectOf notes (all_made notes script) (length notes.statics + k) o
objects zero o g = subst (IsObjectOf notes (all_made notes script) 0) (same_Some table o g) table_is
objects (suc zero) o g = subst (IsObjectOf notes (all_made notes script) 1) (same_Some block o g) block_is
objects (suc (suc k)) o g = absurd (none-some o g)

-- ---- calls

-- the first call makes nothing, enters nothing, and gives one pointer
located : IsCallOf notes script 0 locate_call
unfolding placed_objects
located = record {
  signature = ltb-true 0 2 refl;
  seen = each_item (IsArgument notes) locate_call.args (inr refl, tt);
  args = refl;
  enter = λ k b g. absurd (none-some b g);
  make = λ j o g. absurd (none-some o g);
  out = each_item (IsOutOf notes) locate_call.out (
    record {
      argument = ltb-true 0 (2 ^ 64) refl;
      written = (ltb-true 1 (2 ^ 64) refl, ltb-true 0 (2 ^ 64) refl);
    },
    tt,
  );
  write = λ k v g. absurd (none-some v g);
  result = ltb-true 0 (2 ^ 31) refl;
  few = ltb-true 0 16384 refl;
  room = refl;
  callbacks = leb-true (sum_by callbacks_of (locate_call ∷ [])) 16384 refl;
}

-- the second one enters a function twice, with a number each time
entered : (n : ℕ) → nat_lt n (2 ^ 64) ≡ true → IsCallbackOf notes (record { function = 1; values = value.Int n ∷ [] })
entered n e = record { function = ltb-true 1 2 refl; values = each_item (IsWritten notes) (value.Int n ∷ []) (ltb-true n (2 ^ 64) e, tt) }

registered : IsCallOf notes script 1 register_call
unfolding placed_objects
registered = record {
  signature = ltb-true 1 2 refl;
  seen = each_item (IsArgument notes) register_call.args (inl (ltb-true 1 2 refl), tt);
  args = refl;
  enter = each_item (IsCallbackOf notes) register_call.enter (entered 1 refl, (entered 2 refl, tt));
  make = λ j o g. absurd (none-some o g);
  out = λ k v g. absurd (none-some v g);
  write = λ k v g. absurd (none-some v g);
  result = ltb-true 0 (2 ^ 31) refl;
  few = ltb-true 1 16384 refl;
  room = refl;
  callbacks = leb-true (sum_by callbacks_of (locate_call ∷ register_call ∷ [])) 16384 refl;
}

calls : (i : ℕ) (c : ScriptCall) → slice_get script.call i ≡ Some c → IsCallOf notes script i c
calls zero c g = subst (IsCallOf notes script 0) (same_Some locate_call c g) located
calls (suc zero) c g = subst (IsCallOf notes script 1) (same_Some register_call c g) registered
calls (suc (suc i)) c g = absurd (none-some c g)

-- ---- notifications

notifications : HasNotifications notes script
notifications = record {
  each = each_item (IsNotifyOf notes) (ticking ∷ []) (
    record {
      at = leb-true 2 10000000 refl;
      function = ltb-true 1 2 refl;
      args = each_item (IsWritten notes) ticking.args (ltb-true 7 (2 ^ 64) refl, tt);
    },
    tt,
  );
  none = λ e. absurd (omega (arith, e));
  few = leb-true 1 16384 refl;
  ascend = λ k l. absurd (omega (arith, l));
}

-- ---- the whole

room : (k : ℕ) (o : ScriptObject) → slice_get script.object k ≡ Some o → have_room notes (take (k + 1) script.object) ≡ true
room zero o g = refl
room (suc zero) o g = refl
room (suc (suc k)) o g = absurd (none-some o g)

pub driver_script_meets : IsScript notes script
unfolding made_objects placed_objects fits fits_each
driver_script_meets = record {
  version = inr refl;
  written = each_item (IsWritten notes) script.args (ltb-true 0 1024 refl, ((ltb-true 0 (2 ^ 64) refl, ltb-true 0 (2 ^ 64) refl), tt));
  args = refl;
  objects = objects;
  calls = calls;
  room = room;
  notify = notifications;
}
