-- The marks of a native call say nothing of the machine: a machine that stands for a configuration stands for it with other marks.
use Rattle.host_laws.proofs.Common.{◌≡◌, ℕ, suc, ◌+◌, ◌^◌, ◌≤◌, if◌then◌else◌, nat_eq, List, [], ◌∷◌, Option, Some, refl, sym, ap, ap₂, ◌∙◌}
use Rattle.host_laws.proofs.Common.{subst, slice_get, option_and_then, IsWidth, Concrete, Placement, return_cell, stack_end, NativeCall}
use Rattle.host_laws.proofs.Common.{Ending, cell_size, Event, Notes, Field, Shape, Frame, Function, Host, Config, depth, locals_at}
use Rattle.host_laws.proofs.Common.{with_call, addresses, local_address, total, height, minus, Neutral, Addresses, Anchor, ObjectOf}
use Rattle.host_laws.proofs.Common.{ThunkOf, LocalOf, CellPlace, FieldOf, FieldOfLocals, memory_of, cell_field, ItemsShow, ReturnShows}
use Rattle.host_laws.proofs.Common.{FramesShow, CellShows, MachineStands, World, Extends, shows_more, shows_in_more, frames_more}
use Rattle.neutral_machine.specs.{Config.locals_among, Layout.local_among, Stands.return_address, Stands.cell_address, Stands.OwnLocalsAll}

module _ (call : NativeCall Neutral) where
  depth_marked : (fs : List Frame) → depth (with_call call fs) ≡ depth fs
  depth_marked [] = refl
  depth_marked (Function f ∷ fs) = ap suc (depth_marked fs)
  depth_marked (Host h ∷ fs) = refl

  pub total_marked : (w : ℕ) (fs : List Frame) → total w (with_call call fs) ≡ total w fs
  total_marked w [] = refl
  total_marked w (Function f ∷ fs) = ap (λ t. height w f.items + (return_cell + t)) (total_marked w fs)
  total_marked w (Host h ∷ fs) = refl

  locals_marked : (fs : List Frame) (d : ℕ) → locals_at (with_call call fs) d ≡ locals_at fs d
  locals_marked [] d = refl
  locals_marked (Function f ∷ fs) d = ap₂ (λ n (x : Option Shape). if nat_eq d n then locals_among f.items else x) (depth_marked fs)
      (locals_marked fs d)
  locals_marked (Host h ∷ fs) d = refl

  address_marked : (w end : ℕ) (fs : List Frame) (d f : ℕ) → local_address w end (with_call call fs) d f ≡ local_address w end fs d f
  address_marked w end [] d f = refl
  address_marked w end (Function g ∷ fs) d f =
      ap₂ (λ n t. if nat_eq d n then local_among w end (return_cell + t) g.items f else local_address w end (with_call call fs) d f)
      (depth_marked fs) (total_marked w fs)
      ∙ ap (λ (x : Option ℕ). if nat_eq d (depth fs) then local_among w end (return_cell + total w fs) g.items f else x)
      (address_marked w end fs d f)
  address_marked w end (Host h ∷ fs) d f = refl

  own_marked : (notes : Notes) (fs : List Frame) → OwnLocalsAll notes fs → OwnLocalsAll notes (with_call call fs)
  own_marked notes [] o = tt
  own_marked notes (Function f ∷ fs) o = (o.0, own_marked notes fs o.1)
  own_marked notes (Host h ∷ fs) o = o

  back_marked : (P : Placement) (ret : ℕ) (fs : List Frame) → return_address P ret (with_call call fs) ≡ return_address P ret fs
  back_marked P ret [] = refl
  back_marked P ret (Function f ∷ fs) = refl
  back_marked P ret (Host h ∷ fs) = refl

  frames_marked : (w : ℕ) (A : Addresses) (b : ℕ → ℕ) (end : ℕ) (P : Placement) (fs : List Frame) → FramesShow w A b end P fs
      → FramesShow w A b end P (with_call call fs)
  frames_marked w A b end P [] s = tt
  frames_marked w A b end P (Function f ∷ fs) s = (
    subst (λ t. ItemsShow w A b end (return_cell + t) f.items) (sym (total_marked w fs)) s.0,
    subst (λ t. ReturnShows b t (return_address P f.ret (with_call call fs)))
        (ap (λ t. minus end (return_cell + t)) (sym (total_marked w fs)))
        (subst (ReturnShows b (minus end (return_cell + total w fs))) (sym (back_marked P f.ret fs)) s.1),
    frames_marked w A b end P fs s.2,
  )
  frames_marked w A b end P (Host h ∷ fs) s = s

  module _ (w : ℕ) (world : World) (P : Placement) (mapped : ℕ → ℕ) where
    -- everything is where it was
    pub extends_marked : (fs : List Frame) → Extends (addresses w world.notes P fs) (addresses w world.notes P (with_call call fs))
    extends_marked fs = record { anchor = anchor; handle = λ k p e. e; method = λ k p e. e; entry = λ k p e. e }
      where
        anchor : (a : Anchor) (p : ℕ) → (addresses w world.notes P fs).anchor a ≡ Some p
            → (addresses w world.notes P (with_call call fs)).anchor a ≡ Some p
        anchor (ObjectOf k) p e = e
        anchor (ThunkOf i) p e = e
        anchor (LocalOf d f) p e = address_marked w (stack_end w world.notes P) fs d f ∙ e

    field_marked : (a : Config) (p : CellPlace) → cell_field world.notes
        (memory_of world (record a { frames = with_call call a.frames })) p ≡ cell_field world.notes (memory_of world a) p
    field_marked a (FieldOf k i f) = refl
    field_marked a (FieldOfLocals d f) = ap (option_and_then (λ (s : Shape). slice_get s.fields f)) (locals_marked a.frames d)

    place_marked : (a : Config) (p : CellPlace) (z : Field) → cell_address w world P
        (record a { frames = with_call call a.frames }) p z ≡ cell_address w world P a p z
    place_marked a (FieldOf k i f) z = refl
    place_marked a (FieldOfLocals d f) z = address_marked w (stack_end w world.notes P) a.frames d f

    pub machine_marked : (h : IsWidth w) (small : stack_end w world.notes P ≤ 2 ^ 64) (but : Option ℕ) (a : Config) (s : Concrete)
        → MachineStands w world P mapped but a s → MachineStands w world P mapped but (record a { frames = with_call call a.frames }) s
    machine_marked h small but a s st =
        let e = extends_marked a.frames in
        record {
          eight = st.eight;
          words = st.words;
          small = st.small;
          registers = λ r l m. shows_more w _ _ (a.registers r) _ e (st.registers r l m);
          locals = own_marked world.notes a.frames st.locals;
          top = st.top ∙ ap (minus (stack_end w world.notes P)) (sym (total_marked w a.frames));
          frames = frames_marked w _ s.byte (stack_end w world.notes P) P a.frames
              (frames_more w (stack_end w world.notes P) h small _ _ P s.byte a.frames e st.frames);
          cells = λ p z v g c.
              let old = st.cells p z v (sym (field_marked a p) ∙ g) c in
              record { address = old.address; there = place_marked a p z ∙ old.there; shows = shows_in_more w _ _ _ v _ e old.shows };
          thunks = st.thunks;
          code = st.code;
          objects = st.objects;
          flags = st.flags;
          gate = st.gate;
          spot = st.spot;
        }

module _ (w : ℕ) (world : World) (P : Placement) (mapped : ℕ → ℕ) where
  -- nor do the events and the ending
  pub machine_told : (but : Option ℕ) (a : Config) (s : Concrete) (t : List Event) (e : Ending) → MachineStands w world P mapped but a s
      → MachineStands w world P mapped but (record a { trace = t; ending = e }) s
  machine_told but a s t e st =
      record {
        eight = st.eight;
        words = st.words;
        small = st.small;
        registers = st.registers;
        locals = st.locals;
        top = st.top;
        frames = st.frames;
        cells = st.cells;
        thunks = st.thunks;
        code = st.code;
        objects = st.objects;
        flags = st.flags;
        gate = st.gate;
        spot = st.spot;
      }

  -- nor does how far the run is in its script, but for the calls accepted
  pub machine_counted : (but : Option ℕ) (a : Config) (s : Concrete) (n i t : ℕ) → MachineStands w world P mapped but a s
      → MachineStands w world P mapped but (record a { script = record a.script { notifications = n; instructions = i; thunks = t } }) s
  machine_counted but a s n i t st =
      record {
        eight = st.eight;
        words = st.words;
        small = st.small;
        registers = st.registers;
        locals = st.locals;
        top = st.top;
        frames = st.frames;
        cells = cells;
        thunks = st.thunks;
        code = st.code;
        objects = st.objects;
        flags = st.flags;
        gate = st.gate;
        spot = st.spot;
      }
    where
      cells : (p : CellPlace) (z : Field) (v : Neutral) → cell_field world.notes (memory_of world a) p ≡ Some z → a.cells p ≡ Some v
          → CellShows w (addresses w world.notes P a.frames) s.byte
          (cell_address w world P (record a { script = record a.script { notifications = n; instructions = i; thunks = t } }) p z)
          (cell_size w z.cell) v
      cells (FieldOf k j f) z v g c = st.cells (FieldOf k j f) z v g c
      cells (FieldOfLocals d f) z v g c = st.cells (FieldOfLocals d f) z v g c
