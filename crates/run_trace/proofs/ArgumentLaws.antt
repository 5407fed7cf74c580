-- The line of what an argument points to, and the lines of the arguments and events one after the other.
use Rattle.std.proofs.Common.{◌≡◌, ℕ, ◌+◌, ◌<◌, ◌≤◌, List, [], ◌∷◌, ◌++◌, length, get_or, take, Some, None, sym, ap, ◌∙◌, slice_get}
use Rattle.std.specs.Prelude.{slice_index_or}
use Rattle.std.specs.List.{flat_map, range_with_len}
use Rattle.std.specs.Option.{option_map_or}
use Rattle.std.proofs.lemmas.List.{append-nil, append_assoc, flat_map_more, take_all, take_more}
use Rattle.std.proofs.lemmas.Option.{same_Some, slice_get-get_or, slice_get_past}
use Rattle.note_types.specs.Concrete.{Concrete}
use Rattle.note_types.specs.declared.event.Event.{Event}
use Rattle.note_types.specs.declared.notes.Notes.{Notes}
use Rattle.note_types.specs.declared.script.Script.{Script}
use Rattle.note_types.specs.declared.seen.Seen.{Seen}
use Rattle.note_types.specs.declared.shape.Shape.{Shape}
use Rattle.host_model.specs.Objects.{made_objects}
use Rattle.host_model.specs.World.{World}
use Rattle.host_model.specs.declared.object.TypedObject.{TypedObject}
use Rattle.step_texts.specs.PointedTexts.{pointed_line}
use Rattle.step_texts.specs.declared.pointed.Cells.{Cells}
use Rattle.run_trace.specs.Pointed.{argument_line, arguments_lines, bytes_of, cells_of, event_lines, instance_line, object_line}
use Rattle.run_trace.specs.Pointed.{pointed_lines, shape_line, unseen}
use Rattle.run_trace.proofs.PointedObjects.{read-from}
use Rattle.run_trace.proofs.PointingLaws.{arguments-more}

no-line : (old line : List ℕ) → line ≡ [] → old ≡ old ++ line
no-line old line none = sym (append-nil old) ∙ ap (λ t. old ++ t) (sym none)

-- ---- an instance

module _ (w : ℕ) (world : World) (s : Concrete) (notes : Notes) (script : Script) (argument object instance : ℕ) (o : TypedObject)
    (its : world.notes ≡ notes) (scripted : world.script ≡ script)
    (found : Some o ≡ slice_get (made_objects notes script (length script.call)) object) where
  of-object : instance_line w world s argument object instance ≡ object_line w notes s argument object instance o
  of-object =
      (λ i. option_map_or (object_line w (its i) s argument object instance)
      (slice_get (made_objects (its i) (scripted i) (length (scripted i).call)) object) [])
      ∙ ap (λ t. option_map_or (object_line w notes s argument object instance) t []) (sym found)

  of-shape : (shape : Shape) → slice_get notes.shape o.shape ≡ Some shape
      → instance_line w world s argument object instance ≡ shape_line w notes s argument o.count object instance shape
  of-shape shape is = of-object ∙ ap (λ t. option_map_or (shape_line w notes s argument o.count object instance) t []) is

  -- where the object's shape isn't there nothing is told
  pub no-shape : (shapes : List Shape) (old : List ℕ) → shapes ≡ notes.shape → length shapes ≤ o.shape
      → old ≡ old ++ instance_line w world s argument object instance
  no-shape shapes old same past =
      no-line old (instance_line w world s argument object instance)
      (of-object ∙ ap (λ t. option_map_or (shape_line w notes s argument o.count object instance) t [])
      (ap (λ xs. slice_get xs o.shape) (sym same) ∙ slice_get_past shapes o.shape past))

  module _ (shapes : List Shape) (shape : Shape) (same : shapes ≡ notes.shape) (within : o.shape < length shapes)
      (is : shape ≡ get_or shapes o.shape shape) where
    there : slice_get notes.shape o.shape ≡ Some shape
    there = read-from shapes notes.shape o.shape shape same within is

    -- nor where no bytes of the instance are
    pub no-bytes : (old : List ℕ) → None ≡ bytes_of w notes s shape o.count object instance
        → old ≡ old ++ instance_line w world s argument object instance
    no-bytes old none =
        no-line old (instance_line w world s argument object instance)
        (of-shape shape there ∙ ap (λ b. option_map_or (pointed_line argument (cells_of shape)) b []) (sym none))

    -- else the bytes are
    pub bytes-told : (bytes : List ℕ) (cells : Cells) (old new : List ℕ) → Some bytes ≡ bytes_of w notes s shape o.count object instance
        → cells ≡ cells_of shape → new ≡ old ++ pointed_line argument cells bytes
        → new ≡ old ++ instance_line w world s argument object instance
    bytes-told bytes cells old new lie are put =
        put ∙ ap (λ t. old ++ t) (ap (λ c. pointed_line argument c bytes) are
        ∙ ap (λ b. option_map_or (pointed_line argument (cells_of shape)) b []) lie ∙ sym (of-shape shape there))

-- ---- one after the other

-- an argument that is there is the same whatever would stand for one that isn't
pub same-seen : (args : List Seen) (k : ℕ) (other : Seen) → k < length args → get_or args k other ≡ slice_index_or args k unseen
same-seen args k other less =
    same_Some (get_or args k other) (slice_index_or args k unseen)
    (sym (slice_get-get_or args k other less) ∙ slice_get-get_or args k unseen less)

-- an argument more
pub argument-more : (f : ℕ → Seen → List ℕ) (args : List Seen) (k : ℕ) (seen : Seen) (old before after : List ℕ)
    → seen ≡ slice_index_or args k unseen → before ≡ old ++ flat_map (λ j. f j (slice_index_or args j unseen)) (range_with_len 0 k)
    → after ≡ before ++ f k seen → after ≡ old ++ flat_map (λ j. f j (slice_index_or args j unseen)) (range_with_len 0 (k + 1))
argument-more f args k seen old before after is was now =
    let line : ℕ → List ℕ = λ j. f j (slice_index_or args j unseen) in
    now ∙ ap (λ t. t ++ f k seen) was ∙ append_assoc old (flat_map line (range_with_len 0 k)) (f k seen)
    ∙ ap (λ x. old ++ (flat_map line (range_with_len 0 k) ++ f k x)) is
    ∙ ap (λ t. old ++ t) (sym (arguments-more line k))

pub arguments-all : (w : ℕ) (world : World) (s : Concrete) (args : List Seen) (k : ℕ) (old new : List ℕ) → k ≡ length args
    → new ≡ old ++ flat_map (λ j. argument_line w world s j (slice_index_or args j unseen)) (range_with_len 0 k)
    → new ≡ old ++ arguments_lines w world s args
arguments-all w world s args k old new all is =
    is ∙ ap (λ n. old ++ flat_map (λ j. argument_line w world s j (slice_index_or args j unseen)) (range_with_len 0 n)) all

-- an event more
pub event-more : (f : Event → List ℕ) (events : List Event) (k : ℕ) (event : Event) (old before after : List ℕ) → k < length events
    → event ≡ get_or events k event → before ≡ old ++ flat_map f (take k events) → after ≡ before ++ f event
    → after ≡ old ++ flat_map f (take (k + 1) events)
event-more f events k event old before after less is was now =
    now ∙ ap (λ t. t ++ f event) was ∙ flat_map_more f old (take k events) event
    ∙ ap (λ x. old ++ flat_map f (take k events ++ x ∷ [])) is
    ∙ ap (λ xs. old ++ flat_map f xs) (sym (take_more events k event less))

pub events-all : (w : ℕ) (world : World) (s : Concrete) (events : List Event) (k : ℕ) (old new : List ℕ) → length events ≤ k
    → new ≡ old ++ flat_map (event_lines w world s) (take k events) → new ≡ old ++ pointed_lines w world s events
unfolding pointed_lines
events-all w world s events k old new past is = is ∙ ap (λ xs. old ++ flat_map (event_lines w world s) xs) (take_all k events past)
