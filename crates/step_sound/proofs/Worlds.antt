-- What a world that was read gives to the laws: small objects, thunk cells that enter functions, and, with states that meet the typing
-- rules, what the laws of an instruction on types ask.
use Rattle.step_sound.proofs.Common.{sum_by, ◌≡◌, ℕ, zero, suc, ◌+◌, ◌-◌, ◌*◌, ◌<◌, ◌≤◌, ◌^◌, if◌then◌else◌, List, [], ◌∷◌, map, length}
use Rattle.step_sound.proofs.Common.{Option, Some, None, option_and_then, sym, ap, ◌∙◌, arith, ⊎_elim, slice_get, cases_lt, none-some}
use Rattle.step_sound.proofs.Common.{same_Some, slice_get-map, size_at, FnNote, Thunk, Image, TypedObject, made_objects, placed_objects}
use Rattle.step_sound.proofs.Common.{shape_of, static_object, script_object, object_bytes, room_of, World, slice_get-append_left}
use Rattle.step_sound.proofs.Common.{within_some, WorldFits, world_meets, States, StatesHold, IsReadWorld, WorldTyped, RunWorld}
use Rattle.std.proofs.lemmas.List.Sums.{sum_by-cons}
use Rattle.neutral_machine.specs.CellLaw.{AreSmall}
use Rattle.ebc_base.proofs.{Lists.slice_get-append_right, Given.some_of_map}
use Rattle.neutral_machine.proofs.{Cells.shape_fits, PlacedObjects.placed_in_all}
use Rattle.step_sound.specs.PlaceStates.{PlacesHold}
use Rattle.step_sound.proofs.{Read.read_is_run, Read.objects_have_room, Instructing.ThunksEnter, EvenPlaces.points_even}

-- one of the terms is at most the sum
term_below : {A : Type 0} (f : A → ℕ) (xs : List A) (k : ℕ) (x : A) → slice_get xs k ≡ Some x → f x ≤ sum_by f xs
term_below f [] k x e = absurd (none-some x e)
term_below f (y ∷ ys) zero x e = let c = sum_by-cons f y ys in let same : f y ≡ f x = ap f (same_Some y x e) in omega (arith, c, same)
term_below f (y ∷ ys) (suc k) x e = let c = sum_by-cons f y ys in let r = term_below f ys k x e in omega (arith, c, r)

module _ (image : Image) (world : World) (r : IsReadWorld image world) where
  fits : WorldFits world
  fits = world_meets image world (read_is_run image world r)

  -- the typed objects of a run are small at width 8
  pub small_at8 : (n k : ℕ) (o : TypedObject) → slice_get (made_objects world.notes world.script n) k ≡ Some o
      → object_bytes 8 world.notes o < 2 ^ 32
  unfolding made_objects
  small_at8 n k o e = ⊎_elim
      (λ l.
      let s = some_of_map static_object (slice_get world.notes.statics k) o
      (sym (slice_get-map static_object world.notes.statics k)
      ∙ sym (slice_get-append_left (map static_object world.notes.statics) (map script_object (placed_objects world.script n)) k l)
      ∙ e) in
      let room = fits.statics_inside k s.0 s.1 in
      let size = r.well_formed.size in
      let same = r.size in
      let bytes : object_bytes 8 world.notes o ≡ s.0.count * size_at 8 (shape_of world.notes s.0.shape) =
      ap (object_bytes 8 world.notes) (sym s.2) in
      omega (arith, room, size, same, bytes))
      (λ l.
      let j = k - length (map static_object world.notes.statics) in
      let s = some_of_map script_object (slice_get (placed_objects world.script n) j) o
      (sym (slice_get-map script_object (placed_objects world.script n) j)
      ∙ sym (slice_get-append_right (map static_object world.notes.statics) (map script_object (placed_objects world.script n)) k l)
      ∙ e) in
      let all = objects_have_room world.notes world.script r.script in
      let one = term_below (room_of world.notes) (placed_objects world.script (length world.script.call)) j s.0
      (placed_in_all world.script n j s.0 s.1) in
      let bytes : object_bytes 8 world.notes (script_object s.0) ≡ object_bytes 8 world.notes o = ap (object_bytes 8 world.notes) s.2 in
      omega (arith, all, one, bytes))
      (cases_lt k (length (map static_object world.notes.statics)))

  pub are_small : (n : ℕ) → AreSmall world.notes (made_objects world.notes world.script n)
  are_small n = record {
    wide = λ k o e. (shape_fits world n k o fits e).at4.positive;
    few = λ k o e.
        let s = small_at8 n k o e in
        let c = o.count in
        let S = shape_of world.notes o.shape in
        let e8 : o.count * (S.n * 8 + S.c) ≡ o.count * (S.n * 4 + S.c) + o.count * (S.n * 4) = omega arith in
        omega (arith, s, e8);
  }

  pub shapes_few : (n k : ℕ) (o : TypedObject) → slice_get (made_objects world.notes world.script n) k ≡ Some o → o.shape < 2 ^ 32
  shapes_few n k o e = let l = (fits.objects n k o e).0 in let m = r.notes.few.shapes in omega (arith, l, m)

  -- each thunk cell enters a function
  pub thunks_enter : ThunksEnter world.notes
  thunks_enter i l =
      let t = within_some world.notes.thunk i l in
      let h = r.thunks i t.0 t.1 in (
        t.0.function,
        ap (λ (o : Option Thunk). option_and_then (λ (x : Thunk). option_and_then
            (λ (g : FnNote). if g.enter then Some x.function else None) (slice_get world.notes.function x.function)) o) t.1
            ∙ ap (λ (o : Option FnNote). option_and_then (λ (g : FnNote). if g.enter then Some t.0.function else None) o) h.there
            ∙ ap (λ b. if b then Some t.0.function else None) h.enter,
      )

  -- what the laws of the host's steps ask
  pub run_world : (states : States) → StatesHold image world states → RunWorld world states
  run_world states h = record { notes = r.notes; script = r.script; small = are_small; shapes = shapes_few; starts = h.starts }

  -- what the law of an instruction asks
  pub world_typed : PlacesHold image world.notes → WorldTyped world
  world_typed places = record {
    fits = fits;
    notes = r.notes;
    points = points_even image world.notes r.notes r.functions places;
    small = small_at8;
    size = let s = r.well_formed.size in let e = r.size in omega (arith, s, e);
  }
