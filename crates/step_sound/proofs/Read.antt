-- A world that was read meets what the laws of a step ask of it.
use Rattle.step_sound.proofs.Common.{◌≡◌, ℕ, zero, suc, ◌+◌, ◌^◌, ◌≤◌, true, List, length, refl, sym, subst, arith, nat_le, sum_by}
use Rattle.step_sound.proofs.Common.{and_parts, leb-true, IsWidth, IsRunOf, Notes, Image, placed_objects, Placement, IsPlacement, room_of}
use Rattle.step_sound.proofs.Common.{World, within_some, static_cells, IsReadWorld, IsRunAt}
use Rattle.std.proofs.{Common.take, lemmas.List.append-nil, lemmas.List.nil_from_length}
use Rattle.host_laws.specs.StartGiven.{StartGiven}
use Rattle.host_laws.proofs.ScriptGives.{calls_are_given, objects_are_given, start_is_given}
use Rattle.note_types.specs.declared.script.{Script.Script, ScriptObject.ScriptObject}
use Rattle.host_model.specs.Scripts.{IsScript, have_room}
use Rattle.ebc_base.proofs.Lists.{take-all}

-- ---- what the objects of a script take

module _ (notes : Notes) (script : Script) (h : IsScript notes script) where
  -- objects that keep the limits
  few : (os : List ScriptObject) → have_room notes os ≡ true → sum_by (room_of notes) os ≤ 2 ^ 23
  few os e = leb-true (sum_by (room_of notes) os) (2 ^ 23) (and_parts (nat_le (sum_by (room_of notes) os) (2 ^ 23))
      (nat_le (length os) 4096) e).0

  -- those at the start: the limit is tried at the last one
  start_room : (n : ℕ) → length script.object ≡ n → sum_by (room_of notes) script.object ≤ 2 ^ 23
  start_room zero e = subst (λ os. sum_by (room_of notes) os ≤ 2 ^ 23) (sym (nil_from_length script.object e)) (leb-true 0 (2 ^ 23) refl)
  start_room (suc n) e =
      let s = within_some script.object n (omega (arith, e)) in
      let all : have_room notes (take (length script.object) script.object) ≡ true =
      subst (λ k. have_room notes (take k script.object) ≡ true) (let m : n + 1 ≡ length script.object = omega (arith, e) in m)
      (h.room n s.0 s.1) in
      few script.object (subst (λ os. have_room notes os ≡ true) (take-all script.object) all)

  -- and all: the limit is tried at the last call, or at the last object where there is no call
  room_after : (n : ℕ) → length script.call ≡ n → sum_by (room_of notes) (placed_objects script n) ≤ 2 ^ 23
  unfolding placed_objects
  room_after zero e = subst (λ os. sum_by (room_of notes) os ≤ 2 ^ 23) (sym (append-nil script.object))
      (start_room (length script.object) refl)
  room_after (suc n) e =
      let s = within_some script.call n (omega (arith, e)) in
      subst (λ k. sum_by (room_of notes) (placed_objects script k) ≤ 2 ^ 23) (let m : n + 1 ≡ suc n = omega arith in m)
      (few (placed_objects script (n + 1)) (h.calls n s.0 s.1).room)

  pub objects_have_room : sum_by (room_of notes) (placed_objects script (length script.call)) ≤ 2 ^ 23
  objects_have_room = room_after (length script.call) refl

-- ---- the premises

pub read_is_run : (image : Image) (world : World) → IsReadWorld image world → IsRunOf image world
read_is_run image world r = record {
  well_formed = r.well_formed;
  size = r.size;
  notes = r.notes;
  objects = λ k o e. let d = objects_are_given world.notes world.script r.script (length world.script.call) k o e in
      record { shape = d.0; count = d.1 };
  shapes = r.shapes;
  functions = r.functions;
  statics = r.statics;
  thunks = r.thunks;
}

-- under each valid placement it has what the law of a step asks of a run at a width
pub read_is_run_at : (w : ℕ) (image : Image) (world : World) (P : Placement) → IsWidth w → IsReadWorld image world → IsPlacement w world P
    → IsRunAt w image world P
read_is_run_at w image world P h r p = record {
  width = h;
  run = read_is_run image world r;
  bytes = r.bytes;
  placement = p;
  script = calls_are_given world.notes world.script r.script;
}

-- its start has what the law of a start asks
pub read_starts : (w : ℕ) (image : Image) (world : World) → IsReadWorld image world → StartGiven w world (static_cells world image)
read_starts w image world r = start_is_given w world (static_cells world image) r.notes r.script
