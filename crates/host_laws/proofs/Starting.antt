-- Where a run starts: the machine with the script's objects, before the entry function is entered, stands for the configuration
-- with them.
use Rattle.host_laws.proofs.Common.{◌≡◌, ℕ, zero, suc, ◌+◌, ◌-◌, ◌*◌, ◌%◌, ◌^◌, ◌<◌, ◌≤◌, ◌⊎◌, Bool, true, false, if◌then◌else◌, List, []}
use Rattle.host_laws.proofs.Common.{◌∷◌, ◌++◌, map, length, Some, None, refl, sym, ap, ◌∙◌, subst, subst₂, arith, inl, inr, ⊎_elim}
use Rattle.host_laws.proofs.Common.{slice_get, slice_index, option_map, zero-mod, lt-ltb, le-ltb, cases_lt, eq-eqb, append-nil, same_Some}
use Rattle.host_laws.proofs.Common.{none-some, IsWidth, little_endian, cell_size, covers, covers-inside, little_endian-agree, Concrete}
use Rattle.host_laws.proofs.Common.{field_at, filling, with_objects, after_stores, TypedObject, script_object, made_objects, placed_objects}
use Rattle.host_laws.proofs.Common.{static_object, image_range, Placement, object_at, object_bytes, IsPlacement, area_bytes, stack_bytes}
use Rattle.host_laws.proofs.Common.{stack_end, placed_ranges, RunState, Field, Config, addresses, memory_of, cell_field, CellShows}
use Rattle.host_laws.proofs.Common.{MachineStands, Stands, Neutral, CellPlace, FieldOf, FieldOfLocals, Cells, ShowsIn, null, World}
use Rattle.host_laws.proofs.Common.{WorldFits, in_object_at, ObjectCell, object_cell, object_place, slice_get-append_right, lies}
use Rattle.host_laws.proofs.Common.{objects_off, Lies, off_thunk, off_code, length-map, start_config}
use Rattle.host_model.specs.Start.{bare_machine, image_byte, start_machine, run_start}
use Rattle.host_model.specs.Progress.{script_start}
use Rattle.note_types.specs.declared.ending.Ending.TheVariants.{Running}
use Rattle.neutral_machine.specs.NeutralRuns.{start_cells, bare_config, neutral_start}
use Rattle.neutral_machine.specs.{NeutralHost.with_objects as neutral_objects, Stands.cell_address}
use Rattle.neutral_machine.proofs.Cells.{InObject}
use Rattle.host_laws.proofs.Growing.{ranges_of, all_zeroed, others_stay, inside_zero, zeroed_small, objects_placed, placed_are}
use Rattle.host_laws.proofs.{Accepting.of_object, Accepting.its_range, Accepting.read_zero, Entering.entered_stands, Things.base_is}
use Rattle.host_laws.proofs.Stores.{stores_stand}
use Rattle.host_laws.specs.StartGiven.{StaticsShow, StartGiven}
use Rattle.note_types.specs.declared.spot.Spot.TheVariants as spot

brought_none : (world : World) → placed_objects world.script 0 ≡ world.script.object
unfolding placed_objects
brought_none world = append-nil world.script.object

module _ (w : ℕ) (world : World) (P : Placement) (mapped : ℕ → ℕ) (statics : Cells) (h : IsWidth w) (ok : WorldFits world)
    (pl : IsPlacement w world P) where
  abbrev S : ℕ
  S = length world.notes.statics

  abbrev new : List TypedObject
  new = map script_object world.script.object

  -- the bytes where only the image is mapped
  abbrev loaded : ℕ → ℕ
  loaded = image_byte world P mapped

  started : ℕ → ℕ
  started = all_zeroed loaded (ranges_of w world.notes P S new)

  made_are : made_objects world.notes world.script 0 ≡ map static_object world.notes.statics ++ new
  unfolding made_objects placed_objects
  made_are = ap (λ y. map static_object world.notes.statics ++ map script_object y) (append-nil world.script.object)

  count : length (map static_object world.notes.statics) ≡ S
  count = length-map static_object world.notes.statics

  new_there : (i : ℕ) (o : TypedObject) → slice_get new i ≡ Some o → slice_get (made_objects world.notes world.script 0) (S + i) ≡ Some o
  new_there i o e =
      let n = count in
      ap (λ z. slice_get z (S + i)) made_are ∙ slice_get-append_right (map static_object world.notes.statics) new (S + i) (omega (arith, n))
      ∙ ap (slice_get new) (omega (arith, n)) ∙ e

  new_lies : (i : ℕ) (o : TypedObject) → slice_get new i ≡ Some o → Lies w world P 0 (S + i) o
  new_lies i o e = lies w world P h ok pl 0 (S + i) o (new_there i o e)

  kept_bytes : (from size : ℕ) → ((i : ℕ) (o : TypedObject) (e : slice_get new i ≡ Some o) → (from + size ≤ (new_lies i o e).base)
      ⊎ ((new_lies i o e).base + object_bytes w world.notes o ≤ from))
      → (x : ℕ) → from ≤ x → x < from + size → started x ≡ loaded x
  unfolding started
  kept_bytes from size off x l m = others_stay (ranges_of w world.notes P S new) loaded x (λ i r e.
      let q = of_object w world P S new i r e in
      let at = new_lies i q.object q.there in
      let base : r.base ≡ at.base = q.base ∙ base_is w world P h ok pl (S + i) at.base at.address in
      let size_is = q.size in
      ⊎_elim (λ y. inl (omega (arith, y, m, base))) (λ y. inr (omega (arith, y, l, base, size_is))) (off i q.object q.there))

  -- a byte of the image
  in_image : (p : ℕ) → p < world.image_size → loaded (P.image + p) ≡ mapped p
  in_image p l =
      ap (λ b. if b then mapped (P.image + p - P.image) else 0)
      (covers-inside (image_range world P) (P.image + p) 1 (omega arith) (omega (arith, l)))
      ∙ ap mapped (let e : P.image + p - P.image ≡ p = omega arith in e)

  start_cell : StaticsShow w world P mapped statics → (p : CellPlace) (z : Field) (v : Neutral)
      → cell_field world.notes (memory_of world (start_config world statics)) p ≡ Some z → (start_config world statics).cells p ≡ Some v
      → CellShows w (addresses w world.notes P []) started (cell_address w world P (start_config world statics) p z) (cell_size w z.cell) v
  unfolding neutral_objects field_at started made_objects placed_objects
  start_cell show (FieldOfLocals d f) z v g e = absurd (none-some v (sym (show.no_local d f) ∙ e))
  start_cell show (FieldOf k i f) z v g e =
      let cell = in_object_at world (start_config world statics) k i f z g in
      let at = object_cell w world P h ok pl 0 k i f z cell in
      ⊎_elim (λ l. old_cell l cell at) (λ l. new_cell l cell at) (cases_lt k S)
    where
      old_cell : k < S → (cell : InObject world 0 k i f z) → ObjectCell w world P h ok pl 0 k i f z cell
          → CellShows w (addresses w world.notes P []) (all_zeroed loaded (ranges_of w world.notes P S new))
          (cell_address w world P (start_config world statics) (FieldOf k i f) z) (cell_size w z.cell) v
      old_cell l cell at =
          let e' : statics (FieldOf k i f) ≡ Some v =
          sym (ap (λ b. if b then statics (FieldOf k i f) else option_map (λ (x : Field). null)
          (field_at world.notes (made_objects world.notes world.script 0) k i f)) (lt-ltb k S l)) ∙ e in
          let old = show.show k i f z v l e' g in
          let place : old.address ≡ object_place w world P h ok pl at = same_Some _ _ (sym old.there ∙ at.address_is) in
          let inside = at.inside in
          let off : (j : ℕ) (o : TypedObject) (q : slice_get new j ≡ Some o) → (old.address + cell_size w z.cell ≤ (new_lies j o q).base)
          ⊎ ((new_lies j o q).base + object_bytes w world.notes o ≤ old.address) = λ j o q.
          let d = objects_off w world P h ok pl 0 k (S + j) cell.object o at.lies (new_lies j o q) (λ y. omega (arith, y, l)) in
          ⊎_elim (λ y. inl (omega (arith, y, place, inside))) (λ y. inr (omega (arith, y, place))) d in
          record {
            address = old.address;
            there = old.there;
            shows = subst (ShowsIn w (addresses w world.notes P []) (cell_size w z.cell) v)
                (little_endian-agree loaded (all_zeroed loaded (ranges_of w world.notes P S new)) old.address (cell_size w z.cell)
                (λ x p q. sym (kept_bytes old.address (cell_size w z.cell) off x p q))) old.shows;
          }

      new_cell : S ≤ k → (cell : InObject world 0 k i f z) → ObjectCell w world P h ok pl 0 k i f z cell
          → CellShows w (addresses w world.notes P []) (all_zeroed loaded (ranges_of w world.notes P S new))
          (cell_address w world P (start_config world statics) (FieldOf k i f) z) (cell_size w z.cell) v
      new_cell l cell at =
          let n = count in
          let j = k - S in
          let there : slice_get new j ≡ Some cell.object =
          ap (slice_get new) (let q : k - S ≡ k - length (map static_object world.notes.statics) = omega (arith, n) in q)
          ∙ sym (slice_get-append_right (map static_object world.notes.statics) new k (omega (arith, n, l)))
          ∙ ap (λ y. slice_get y k) (sym made_are) ∙ cell.there in
          let r = its_range w world P S new j cell.object there in
          let base : object_at world.notes P (S + j) ≡ at.lies.base =
          ap (object_at world.notes P) (let q : S + (k - S) ≡ k = omega (arith, l) in q)
          ∙ base_is w world P h ok pl k at.lies.base at.lies.address in
          let x = object_place w world P h ok pl at in
          let inside = at.inside in
          let bytes = all_zeroed loaded (ranges_of w world.notes P S new) in
          let zero_bytes : little_endian bytes x (cell_size w z.cell) ≡ 0 =
          read_zero bytes x (cell_size w z.cell) (λ y p q. inside_zero (ranges_of w world.notes P S new) loaded y j
          (record { base = object_at world.notes P (S + j); size = object_bytes w world.notes cell.object }) r (omega (arith, p, base))
          (omega (arith, q, base, inside))) in
          let v_is : null ≡ v = same_Some null v (sym (ap (λ b. if b then statics (FieldOf k i f)
          else option_map (λ (q : Field). null) (field_at world.notes (made_objects world.notes world.script 0) k i f)) (le-ltb k S l)
          ∙ ap (option_map (λ (q : Field). null)) g) ∙ e) in
          record {
            address = x;
            there = at.address_is;
            shows = subst₂ (λ u m. ShowsIn w (addresses w world.notes P []) (cell_size w z.cell) u m) v_is (sym zero_bytes)
                (record { whole = 0; shows = omega arith; cut = sym (zero-mod (2 ^ (8 * cell_size w z.cell))) });
          }

  -- The machine with the script's objects stands for the configuration with them.
  pub start_stands : StaticsShow w world P mapped statics → ((q : ℕ) → mapped q < 256)
      → MachineStands w world P mapped None (start_config world statics)
      (with_objects w world.notes P S new (bare_machine w world P mapped))
  unfolding started bare_machine placed_ranges
  start_stands show small =
      subst (λ (t : Concrete). MachineStands w world P mapped None (start_config world statics) t)
      (sym (objects_placed w world.notes P S new (bare_machine w world P mapped)))
      (record {
        eight = refl;
        words = words;
        small = zeroed_small (ranges_of w world.notes P S new) loaded loaded_small;
        registers = λ r l m. zero_register r l m;
        locals = tt;
        top = omega arith;
        frames = tt;
        cells = start_cell show;
        thunks = λ i t g n. (
          (λ l. absurd (omega (arith, l))),
          (λ l j m.
              let inside = ok.thunks_inside i t g in
              kept_bytes (P.image + t.place) 8 (λ k o q. off_thunk w world P h ok pl 0 (S + k) i o t (new_lies k o q) g)
              (P.image + (t.place + j)) (omega arith) (omega (arith, m)) ∙ in_image (t.place + j) (omega (arith, m, inside))),
        );
        code = λ j f x g l m.
            let inside = ok.code_inside j f g in
            let e = inside.1 in
            kept_bytes (P.image + f.place) (f.end - f.place) (λ k o q. off_code w world P h ok pl 0 (S + k) j o f (new_lies k o q) g)
            (P.image + x) (omega (arith, l)) (omega (arith, l, m)) ∙ in_image x (omega (arith, m, e));
        objects = ap (λ y. record { base = P.native; size = area_bytes world.notes } ∷ record {
          base = P.stack;
          size = stack_bytes w world.notes;
        } ∷ record { base = P.image; size = world.image_size } ∷ y)
            (sym (placed_are w world P mapped h ok pl 0 ∙ ap (λ y. ranges_of w world.notes P S (map script_object y)) all_brought));
        flags = refl;
        gate = refl;
        spot = ap (λ b. if b then spot.Gate else if covers P.native 1 (image_range world P) then spot.Place (P.native - P.image)
            else spot.Wild P.native) (eq-eqb P.native P.native refl);
      })
    where
      loaded_small : (x : ℕ) → loaded x < 256
      loaded_small x = go (covers x 1 (image_range world P))
        where
          go : (b : Bool) → (if b then mapped (x - P.image) else 0) < 256
          go true = small (x - P.image)
          go false = omega arith

      all_brought : placed_objects world.script 0 ≡ world.script.object
      all_brought = brought_none world

      zeros : (r : ℕ) → slice_index (0 ∷ 0 ∷ 0 ∷ 0 ∷ 0 ∷ 0 ∷ 0 ∷ []) r ≡ 0
      zeros zero = refl
      zeros (suc zero) = refl
      zeros (suc (suc zero)) = refl
      zeros (suc (suc (suc zero))) = refl
      zeros (suc (suc (suc (suc zero)))) = refl
      zeros (suc (suc (suc (suc (suc zero))))) = refl
      zeros (suc (suc (suc (suc (suc (suc zero)))))) = refl
      zeros (suc (suc (suc (suc (suc (suc (suc r))))))) = refl

      words : (r : ℕ) → slice_index (stack_end w world.notes P % 2 ^ 64 ∷ 0 ∷ 0 ∷ 0 ∷ 0 ∷ 0 ∷ 0 ∷ 0 ∷ []) r < 2 ^ 64
      words zero = omega arith
      words (suc r) = subst (λ q. q < 2 ^ 64) (sym (zeros r)) (omega arith)

      zero_register : (r : ℕ) → 0 < r → r < 8 → slice_index (stack_end w world.notes P % 2 ^ 64 ∷ 0 ∷ 0 ∷ 0 ∷ 0 ∷ 0 ∷ 0 ∷ 0 ∷ []) r ≡
          (0 * w + 0) % 2 ^ 64
      zero_register zero l m = absurd (omega (arith, l))
      zero_register (suc r) l m = zeros r ∙ omega arith

  -- the configuration before the entry function is entered
  before : Config
  before = bare_config world statics

  -- The start: the run at its start stands for the configuration at its start.
  pub run_starts : StaticsShow w world P mapped statics → ((q : ℕ) → mapped q < 256) → StartGiven w world statics
      → Stands w world P mapped (neutral_start world statics) (run_start w world P mapped)
  unfolding before neutral_start start_cells run_start start_machine made_objects placed_objects
  run_starts show small given =
      let made = made_objects world.notes world.script 0 in
      let bare = with_objects w world.notes P S new (bare_machine w world P mapped) in
      let stores = filling world.notes S world.script.object in
      let filled : MachineStands w world P mapped None before (after_stores w world.notes P made [] stores bare) =
      stores_stand w world P mapped h ok pl stores (start_config world statics) bare None made [] [] refl (omega arith)
      (start_stands show small) tt given.cells in
      let r : RunState = record {
        machine = after_stores w world.notes P made [] stores bare;
        hosts = [];
        script = script_start;
        trace = [];
        ending = Running;
      } in
      let st : Stands w world P mapped before r = record { machine = filled; hosts = tt; script = refl; trace = refl; ending = refl } in
      let n = given.entry before refl in
      entered_stands w world P mapped h ok pl false before r world.notes.entry world.script.args n st
