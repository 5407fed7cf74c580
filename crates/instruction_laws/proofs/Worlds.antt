-- The world of a run whose image keeps the rules on shapes, functions, static objects and thunk cells.
use Rattle.instruction_laws.proofs.Common.{◌≡◌, ℕ, ◌+◌, ◌-◌, ◌*◌, ◌<◌, ◌≤◌, ◌⊎◌, map, length, Some, sym, ◌∙◌, subst, arith, inl, inr}
use Rattle.instruction_laws.proofs.Common.{⊎_elim, slice_get, cases_lt, slice_get-get_or, size_at, Static, Thunk, Image, World, TypedObject}
use Rattle.instruction_laws.proofs.Common.{IsRunOf, some_of_map}
use Rattle.std.proofs.Common.{◌≢◌}
use Rattle.std.proofs.lemmas.{Bool.cases_order, Option.slice_get-map}
use Rattle.note_types.specs.declared.notes.FnNote.{FnNote}
use Rattle.pe_image.specs.Images.{IsSection}
use Rattle.rules_image.specs.Images.{IsFunction, IsStatic, IsThunk, AreApart}
use Rattle.host_model.specs.Objects.{no_shape, shape_of, made_objects, placed_objects, static_object, script_object}
use Rattle.neutral_machine.proofs.PlacedObjects.{placed_in_all}
use Rattle.instruction_laws.specs.Premises.{WorldMeets}
use Rattle.ebc_base.proofs.Lists.{slice_get-append_left, slice_get-append_right}

module _ (image : Image) (world : World) (run : IsRunOf image world) where
  -- ---- typed objects

  abbrev IsObject : TypedObject → Type 0
  IsObject o = (o.shape < length world.notes.shape) × (1 ≤ o.count)

  object_static : (k : ℕ) (o : TypedObject) → slice_get (map static_object world.notes.statics) k ≡ Some o → IsObject o
  object_static k o g =
      let s = some_of_map static_object (slice_get world.notes.statics k) o (sym (slice_get-map static_object world.notes.statics k) ∙ g) in
      let n = run.notes.statics k s.0 s.1 in
      subst IsObject s.2 (n.shape, n.count.0)

  object_script : (n k : ℕ) (o : TypedObject) → slice_get (map script_object (placed_objects world.script n)) k ≡ Some o → IsObject o
  object_script n k o g =
      let s = some_of_map script_object (slice_get (placed_objects world.script n) k) o
      (sym (slice_get-map script_object (placed_objects world.script n) k) ∙ g) in
      let n = run.objects k s.0 (placed_in_all world.script n k s.0 s.1) in
      subst IsObject s.2 (n.shape, n.count)

  object_known : (n k : ℕ) (o : TypedObject) → slice_get (made_objects world.notes world.script n) k ≡ Some o → IsObject o
  unfolding made_objects
  object_known n k o g =
      ⊎_elim
      (λ l. object_static k o (sym (slice_get-append_left (map static_object world.notes.statics) _ k l) ∙ g))
      (λ l. object_script n (k - length (map static_object world.notes.statics)) o
      (sym (slice_get-append_right (map static_object world.notes.statics) _ k l) ∙ g))
      (cases_lt k (length (map static_object world.notes.statics)))

  -- ---- functions, static objects and thunk cells

  -- how many bytes a static object has at width 8
  abbrev bytes : Static → ℕ
  bytes s = s.count * size_at 8 (shape_of world.notes s.shape)

  static_rule : (k : ℕ) (s : Static) → slice_get world.notes.statics k ≡ Some s
      → IsStatic image world.notes k s (shape_of world.notes s.shape)
  static_rule k s g = run.statics k s (shape_of world.notes s.shape) g
      (slice_get-get_or world.notes.shape s.shape no_shape (run.notes.statics k s g).shape)

  thunk_rule : (k : ℕ) (t : Thunk) → slice_get world.notes.thunk k ≡ Some t → IsThunk image world.notes k t
  thunk_rule k t g = run.thunks k t g

  function_rule : (k : ℕ) (f : FnNote) → slice_get world.notes.function k ≡ Some f → IsFunction image world.notes k f
  function_rule k f g = run.functions k f g

  function_inside : (k : ℕ) (f : FnNote) → slice_get world.notes.function k ≡ Some f → f.end ≤ world.image_size
  function_inside k f g =
      let r = function_rule k f g in
      let has = r.inside.1 in
      let s : IsSection image.size r.inside.0 = subst (IsSection image.size) has.2 (run.well_formed.sections has.0 r.inside.0 has.1) in
      omega (arith, r.inside.2.1, s.bytes, s.within, run.size)

  statics_apart : (k j : ℕ) (s t : Static) → slice_get world.notes.statics k ≡ Some s → slice_get world.notes.statics j ≡ Some t → k ≢ j
      → AreApart s.place (bytes s) t.place (bytes t)
  statics_apart k j s t g h ne = ⊎_elim
      (λ e. absurd (ne e))
      (λ d. ⊎_elim
      (λ l. (static_rule k s g).apart.0 j t (shape_of world.notes t.shape) l h (known j t h))
      (λ l. ⊎_elim inr inl ((static_rule j t h).apart.0 k s (shape_of world.notes s.shape) l g (known k s g)))
      d)
      (cases_order k j)
    where
      known : (k : ℕ) (s : Static) → slice_get world.notes.statics k ≡ Some s
          → slice_get world.notes.shape s.shape ≡ Some (shape_of world.notes s.shape)
      known k s g = slice_get-get_or world.notes.shape s.shape no_shape (run.notes.statics k s g).shape

  thunks_apart : (i j : ℕ) (t u : Thunk) → slice_get world.notes.thunk i ≡ Some t → slice_get world.notes.thunk j ≡ Some u → i ≢ j
      → AreApart t.place 8 u.place 8
  thunks_apart i j t u g h ne = ⊎_elim
      (λ e. absurd (ne e))
      (λ d. ⊎_elim (λ l. (thunk_rule i t g).apart j u l h) (λ l. ⊎_elim inr inl ((thunk_rule j u h).apart i t l g)) d)
      (cases_order i j)

  -- a function's code and a free range
  off_code : (p n from to : ℕ) → from < to → (p + n ≤ from) ⊎ (from + (to - from) ≤ p) → (to ≤ p) ⊎ (p + n ≤ from)
  off_code p n from to l d = ⊎_elim inr (λ x. inl (omega (arith, x, l))) d

pub world_meets : WorldMeets
world_meets image world run = record {
  shapes = λ s x g. run.shapes s x g;
  objects = λ n k o g. object_known image world run n k o g;
  statics_inside = λ k s g. subst (λ z. s.place + s.count * size_at 8 (shape_of world.notes s.shape) ≤ z) (sym run.size)
      (static_rule image world run k s g).free.inside;
  statics_apart = λ k j s t g h ne. statics_apart image world run k j s t g h ne;
  thunks_inside = λ i t g. subst (λ z. t.place + 8 ≤ z) (sym run.size) (thunk_rule image world run i t g).free.inside;
  thunks_apart = λ i j t u g h ne. thunks_apart image world run i j t u g h ne;
  statics_thunks = λ k i s t g h. (static_rule image world run k s g).apart.1 i t h;
  code_inside = λ j f g. let r = function_rule image world run j f g in (r.range, function_inside image world run j f g, r.even.0);
  code_statics = λ j k f s g h. off_code image world run s.place _ f.place f.end (function_rule image world run j f g).range
      ((static_rule image world run k s h).free.functions j f g);
  code_thunks = λ j i f t g h. off_code image world run t.place 8 f.place f.end (function_rule image world run j f g).range
      ((thunk_rule image world run i t h).free.functions j f g);
}
