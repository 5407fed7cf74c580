-- What the host sees of a configuration it sees of each run that stands for it.
use Rattle.host_laws.proofs.Common.{◌≡◌, ℕ, ◌+◌, ◌-◌, ◌*◌, ◌<◌, ◌≤◌, Bool, true, false, if◌then◌else◌, nat_le, nat_eq, List, [], ◌∷◌, Some}
use Rattle.host_laws.proofs.Common.{None, refl, sym, ap, ap₂, ◌∙◌, subst, arith, slice_get, AllZip, option_map_or, option_and_then}
use Rattle.host_laws.proofs.Common.{same_Some, none-some, IsWidth, cut_at, little_endian, cell_size, Concrete, register, covers, holds}
use Rattle.host_laws.proofs.Common.{field_at, signature_params, spot_of, cell_address, TypedObject, made_objects, placed_objects, World}
use Rattle.host_laws.proofs.Common.{image_range, Placement, slot_bytes, stack_bytes, object_at, return_cell, IsPlacement, placed_ranges}
use Rattle.host_laws.proofs.Common.{stack_end, before_all, SavedFrame, RunState, Cell, Notes, WantParam, Field, Shape, StackItem}
use Rattle.host_laws.proofs.Common.{FunctionFrame, Frame, Function, Host, Config, hosts, addresses, height, total, minus, Neutral}
use Rattle.host_laws.proofs.Common.{Addresses, FieldOf, FieldOfLocals, Shows, ShowsIn, word, memory_of, cell_field, ItemsShow, FramesShow}
use Rattle.host_laws.proofs.Common.{HostsShow, Stands, WorldFits, slot_positive, bounded, in_object_at, object_cell, cell_lies, end_small}
use Rattle.host_laws.proofs.Common.{minus-is, stack_within, stack_holds, width_word}
use Rattle.std.proofs.lemmas.Bool.{and_from, le-leb}
use Rattle.note_types.proofs.SameLaws.{same_kind-equal}
use Rattle.note_types.specs.{BelowTests.same_kind, Concrete.loaded, Shapes.start_at}
use Rattle.host_model.specs.{Placements.shape_bytes, Readings.slots_from}
use Rattle.note_types.specs.declared.cell.SlotKind.TheVariants.{N, Q, D}
use Rattle.note_types.specs.declared.cell.SlotKind.{SlotKind}
use Rattle.neutral_machine.specs.NeutralReadings.{access_to, slot_given, neutral_slots}
use Rattle.neutral_machine.specs.{Config.Pushed, Config.LocalsOf, Config.top_function, Locations.access_bytes}
use Rattle.host_laws.proofs.{Seen.LocalsStand, Seen.HostsAlike, Seen.SeenAlike, ViewAlike.before_some, Things.named, Things.base_is}
use Rattle.neutral_machine.proofs.Values.{Bounded, ObjectsBelow, kept_natural_shows, kept_shows, whole_shows}
use Rattle.neutral_machine.proofs.{Agree.local_within, Bounds.objects_below, Locals.fits_at, Locals.locals_fit, Numbers.cut_same}
use Rattle.note_types.specs.declared.cell.Cell.TheVariants as cell
use Rattle.note_types.specs.declared.spot.Spot.TheVariants as spot

-- a cell is loaded by its bytes
access_is : (w : ℕ) (c : Cell) → access_bytes w (access_to c) ≡ cell_size w c
access_is w cell.I8 = refl
access_is w c = refl

-- what a slot gives back shows whole
slot_shows : (w : ℕ) (notes : Notes) (made : List TypedObject) (A : Addresses) (kind : SlotKind) (v : Neutral) (x : ℕ) → IsWidth w
    → Bounded w A → ObjectsBelow notes made A w
    → ShowsIn w A (slot_bytes w kind) v x → Shows w A (slot_given notes made kind v) x
slot_shows w notes made A N v x h b o s = kept_natural_shows w notes made A v x h b o s
slot_shows w notes made A Q v x h b o s = whole_shows w A v x h b s
slot_shows w notes made A D v x h b o s = tt

-- numbers of argument slots, and that values show as them
record SlotsAlike (w : ℕ) (A : Addresses) (s : Concrete) (r : ℕ) (ps : List WantParam) (vs : List Neutral) : Type 0 where
  numbers : List ℕ
  are : slots_from w s r ps ≡ Some numbers
  shows : AllZip (Shows w A) vs numbers

no_slots : (w : ℕ) (A : Addresses) (s : Concrete) (r : ℕ) (notes : Notes) (made : List TypedObject) (ps : List WantParam)
    (vs : List Neutral) → neutral_slots notes made ps [] ≡ Some vs → SlotsAlike w A s r ps vs
unfolding neutral_slots slots_from
no_slots w A s r notes made [] vs e = record {
  numbers = [];
  are = refl;
  shows = subst (λ y. AllZip (Shows w A) y []) (same_Some [] vs e) tt;
}
no_slots w A s r notes made (p ∷ ps) vs e = absurd (none-some vs e)

module _ (w : ℕ) (world : World) (P : Placement) (mapped : ℕ → ℕ) (h : IsWidth w) (ok : WorldFits world) (pl : IsPlacement w world P) where
  -- ---- argument slots

  slot_address : (r m k : ℕ) → 0 < k → k + m ≤ stack_bytes w world.notes → word r ≡ minus (stack_end w world.notes P) (k + m)
      → cut_at w r ≡ stack_end w world.notes P - (k + m)
  slot_address r m k p l e =
      let small = end_small w world P h ok pl in
      let s = stack_within w world P h ok pl in
      let low = minus-is (stack_end w world.notes P) (k + m) (omega (arith, p)) (omega (arith, l)) small in
      cut_same w r (stack_end w world.notes P - (k + m)) h (e ∙ low ∙ omega (arith, s.below, width_word w h, p, l))
      (omega (arith, s.below, p, l))

  slot_next : (r m k : ℕ) → k + m ≤ stack_bytes w world.notes → word r ≡ minus (stack_end w world.notes P) (k + m)
      → word (r + k) ≡ minus (stack_end w world.notes P) m
  slot_next r m k l e = let small = end_small w world P h ok pl in omega (arith, e, l, small)

  loads : (s : Concrete) (r z a : ℕ) → cut_at w r ≡ a → holds s.objects a z ≡ true
      → loaded s (cut_at w r) z ≡ Some (little_endian s.byte a z)
  unfolding loaded
  loads s r z a at held = ap (λ y. loaded s y z) at ∙ ap (λ y. if y then Some (little_endian s.byte a z) else None) held

  slots_alike : (n : ℕ) (made : List TypedObject) (A : Addresses) (s : Concrete) (under r : ℕ) (ps : List WantParam) (is : List StackItem)
      (vs : List Neutral) → s.objects ≡ placed_ranges w world P n → Bounded w A → ObjectsBelow world.notes made A w
      → height w is + under ≤ stack_bytes w world.notes → word r ≡ minus (stack_end w world.notes P) (height w is + under)
      → ItemsShow w A s.byte (stack_end w world.notes P) under is → neutral_slots world.notes made ps is ≡ Some vs
      → SlotsAlike w A s r ps vs
  unfolding neutral_slots slots_from
  slots_alike n made A s under r [] is vs ob b o l e sh q = record {
    numbers = [];
    are = refl;
    shows = subst (λ y. AllZip (Shows w A) y []) (same_Some [] vs q) tt;
  }
  slots_alike n made A s under r (p ∷ ps) [] vs ob b o l e sh q = absurd (none-some vs q)
  slots_alike n made A s under r (p ∷ ps) (LocalsOf t ∷ is) vs ob b o l e sh q = absurd (none-some vs q)
  slots_alike n made A s under r (p ∷ ps) (Pushed kind v ∷ is) vs ob b o l e sh q =
      let room : slot_bytes w kind + (height w is + under) ≤ stack_bytes w world.notes = omega (arith, l) in
      let top : word r ≡ minus (stack_end w world.notes P) (slot_bytes w kind + (height w is + under)) = e
      ∙ ap (minus (stack_end w world.notes P)) (omega arith) in
      go (same_kind kind p.kind) refl room top (λ us c. slots_alike n made A s under (r + slot_bytes w kind) ps is us ob b o
      (omega (arith, room)) (slot_next r (height w is + under) (slot_bytes w kind) room top) sh.1 c) q
    where
      go : (t : Bool) → same_kind kind p.kind ≡ t
          → slot_bytes w kind + (height w is + under) ≤ stack_bytes w world.notes
          → word r ≡ minus (stack_end w world.notes P) (slot_bytes w kind + (height w is + under))
          → ((us : List Neutral) → neutral_slots world.notes made ps is ≡ Some us → SlotsAlike w A s (r + slot_bytes w kind) ps us)
          → (if t then before_all (Some (slot_given world.notes made kind v)) (neutral_slots world.notes made ps is) else None) ≡ Some vs
          → SlotsAlike w A s r (p ∷ ps) vs
      go false t room top next c = absurd (none-some vs c)
      go true t room top next c =
          let z = slot_bytes w kind in
          let pos = slot_positive w kind h in
          let m = height w is + under in
          let at = slot_address r m z pos room top in
          let low = minus-is (stack_end w world.notes P) (z + m) (omega (arith, pos)) (omega (arith, room)) (end_small w world P h ok pl) in
          let x = little_endian s.byte (stack_end w world.notes P - (z + m)) z in
          let f = before_some (Some (slot_given world.notes made kind v)) (neutral_slots world.notes made ps is) vs c in
          let rest = next f.1 f.3 in
          let same : z ≡ slot_bytes w p.kind = ap (slot_bytes w) (same_kind-equal kind p.kind t) in
          let held : holds s.objects (stack_end w world.notes P - (z + m)) z ≡ true =
          ap (λ y. holds y (stack_end w world.notes P - (z + m)) z) ob
          ∙ stack_holds w world P h ok pl n (stack_end w world.notes P - (z + m)) z (omega (arith, room)) (omega (arith, room)) in
          let load : loaded s (cut_at w r) z ≡ Some x = loads s r z (stack_end w world.notes P - (z + m)) at held in
          let shown : Shows w A (slot_given world.notes made kind v) x =
          slot_shows w world.notes made A kind v x h b o (subst (λ y. ShowsIn w A z v (little_endian s.byte y z)) low sh.0) in
          record {
            numbers = x ∷ rest.numbers;
            are = ap (λ y. before_all (loaded s (cut_at w r) y) (slots_from w s (r + y) ps)) (sym same)
                ∙ ap₂ (λ y ys. before_all y ys) load rest.are;
            shows = subst (λ y. AllZip (Shows w A) y (x ∷ rest.numbers)) f.4
                (subst (λ y. Shows w A y x) (same_Some _ f.0 f.2) shown, rest.shows);
          }

  slots_by : (a : Config) (r : RunState) (ps : List WantParam) (vs : List Neutral) (fs : List Frame) → a.frames ≡ fs
      → total w a.frames ≤ stack_bytes w world.notes → Stands w world P mapped a r
      → neutral_slots world.notes (made_objects world.notes world.script a.script.entries) ps
      (option_map_or (λ (f : FunctionFrame). f.items) (top_function fs) []) ≡ Some vs
      → SlotsAlike w (addresses w world.notes P a.frames) r.machine (register r.machine 0) ps vs
  slots_by a r ps vs [] at room st e = no_slots w _ r.machine _ world.notes (made_objects world.notes world.script a.script.entries) ps vs e
  slots_by a r ps vs (Host x ∷ fs) at room st e = no_slots w _ r.machine _ world.notes
      (made_objects world.notes world.script a.script.entries) ps vs e
  slots_by a r ps vs (Function f ∷ fs) at room st e =
      let m = st.machine in
      let A = addresses w world.notes P a.frames in
      let sh : FramesShow w A r.machine.byte (stack_end w world.notes P) P (Function f ∷ fs) =
      subst (FramesShow w A r.machine.byte (stack_end w world.notes P) P) at m.frames in
      let t : total w a.frames ≡ height w f.items + (return_cell + total w fs) = ap (total w) at in
      let top : word (register r.machine 0) ≡ minus (stack_end w world.notes P) (height w f.items + (return_cell + total w fs)) =
      ap word m.top ∙ ap (λ y. word (minus (stack_end w world.notes P) y)) t ∙ omega arith in
      slots_alike a.script.entries (made_objects world.notes world.script a.script.entries) A r.machine (return_cell + total w fs)
      (register r.machine 0) ps f.items vs m.objects
      (bounded w world P h ok pl a.frames room m.locals) (objects_below w world P h ok pl a.script.entries a.frames)
      (omega (arith, room, t)) top sh.0 e

  -- ---- locals

  locals_stand : (a : Config) (r : RunState) → total w a.frames ≤ stack_bytes w world.notes → Stands w world P mapped a r
      → LocalsStand w world.notes P (made_objects world.notes world.script a.script.entries)
      (addresses w world.notes P a.frames) a.frames a.cells r.machine.byte
  locals_stand a r room st =
      let m = st.machine in
      let A = addresses w world.notes P a.frames in
      let b = bounded w world P h ok pl a.frames room m.locals in
      record {
        small = λ d f x e. let l = b.local d f x e in let s = width_word w h in omega (arith, l, s);
        inside = λ d f x s z there at e.
            let i = local_within w (stack_end w world.notes P) h (end_small w world P h ok pl) a.frames d s f x z
            (omega (arith, room)) e there (fits_at w s h (locals_fit world a.frames d s ok m.locals there)) at in
            and_from (nat_le P.stack x) (nat_le (x + cell_size w z.cell) (stack_end w world.notes P))
            (le-leb P.stack x (omega (arith, room, i.above))) (le-leb (x + cell_size w z.cell) (stack_end w world.notes P)
            (omega (arith, i.below)));
        shows = λ d f x s z u there at e c.
            let field : cell_field world.notes (memory_of world a) (FieldOfLocals d f) ≡ Some z =
            ap (option_and_then (λ (y : Shape). slice_get y.fields f)) there ∙ at in
            let g = m.cells (FieldOfLocals d f) z u field c in
            let same : g.address ≡ x = same_Some g.address x (sym g.there ∙ e) in
            kept_shows w world.notes (made_objects world.notes world.script a.script.entries) A (access_to z.cell) u
            (little_endian r.machine.byte x (cell_size w z.cell)) h b (objects_below w world P h ok pl a.script.entries a.frames)
            (subst (λ k. ShowsIn w A k u (little_endian r.machine.byte x (cell_size w z.cell))) (sym (access_is w z.cell))
            (subst (λ y. ShowsIn w A (cell_size w z.cell) u (little_endian r.machine.byte y (cell_size w z.cell))) same g.shows));
      }

  -- ---- cells of objects

  -- the address of a cell of an object, by either name
  pub cell_address_is : (a : Config) (k i f : ℕ) (x : Field) → field_at world.notes
      (made_objects world.notes world.script a.script.entries) k i f ≡ Some x → (base : ℕ)
      → (o : TypedObject) → slice_get (made_objects world.notes world.script a.script.entries) k ≡ Some o → object_at world.notes P k ≡ base
      → cell_address w world.notes P (made_objects world.notes world.script a.script.entries) k i x ≡ base +
      (i * shape_bytes w world.notes o.shape + start_at w x)
  cell_address_is a k i f x g base o there e =
      ap₂ (λ y q. y + i * option_map_or (λ (z : TypedObject). shape_bytes w world.notes z.shape) q 0 + start_at w x) e there ∙ omega arith

  cell_mapped : (a : Config) (r : RunState) → total w a.frames ≤ stack_bytes w world.notes → Stands w world P mapped a r
      → (k i f : ℕ) (x : Field)
      → field_at world.notes (made_objects world.notes world.script a.script.entries) k i f ≡ Some x
      → holds r.machine.objects (cell_address w world.notes P (made_objects world.notes world.script a.script.entries) k i x)
      (cell_size w x.cell) ≡ true
  unfolding field_at
  cell_mapped a r room st k i f x g =
      let m = st.machine in
      let lies = cell_lies w world P h ok pl a (FieldOf k i f) x room m.locals g in
      let c = in_object_at world a k i f x g in
      let o = object_cell w world P h ok pl a.script.entries k i f x c in
      let at = cell_address_is a k i f x g o.lies.base c.object c.there (base_is w world P h ok pl k o.lies.base o.lies.address) in
      let same : lies.address ≡ o.lies.base + (i * shape_bytes w world.notes c.object.shape + start_at w x) =
      same_Some _ _ (sym lies.there ∙ o.address_is) in
      ap (λ y. holds y (cell_address w world.notes P (made_objects world.notes world.script a.script.entries) k i x)
      (cell_size w x.cell)) m.objects
      ∙ ap (λ y. holds (placed_ranges w world P a.script.entries) y (cell_size w x.cell)) (at ∙ sym same) ∙ lies.held

  -- ---- frames of the host

  hosts_alike : (A : Addresses) (fs : List Frame) (ss : List SavedFrame) → HostsShow w world P A fs ss → HostsAlike w A (hosts fs) ss
  hosts_alike A [] [] s = tt
  hosts_alike A [] (x ∷ ss) s = absurd s
  hosts_alike A (Function f ∷ fs) ss s = hosts_alike A fs ss s
  hosts_alike A (Host k ∷ fs) [] s = absurd s
  hosts_alike A (Host k ∷ fs) (x ∷ ss) s = (s.0.func, s.0.notified, s.0.call, hosts_alike A fs ss s.1)

  -- ---- all of it

  pub spot_is : (a : Config) (r : RunState) → Stands w world P mapped a r → spot_of world P r.machine ≡ a.spot
  unfolding spot_of
  spot_is a r st =
      ap (λ g. if nat_eq r.machine.ip g then spot.Gate else if covers r.machine.ip 1 (image_range world P) then
      spot.Place (r.machine.ip - P.image) else spot.Wild r.machine.ip) st.machine.gate
      ∙ st.machine.spot

  pub seen_alike : (a : Config) (r : RunState) → total w a.frames ≤ stack_bytes w world.notes → Stands w world P mapped a r
      → SeenAlike w world P (addresses w world.notes P a.frames) a r
  unfolding made_objects placed_objects
  seen_alike a r room st = record {
    named = named w world P h ok pl a.script.entries a.frames;
    script = st.script;
    result = st.machine.registers 7 (omega arith) (omega arith);
    spot = spot_is a r st;
    hosts = hosts_alike (addresses w world.notes P a.frames) a.frames r.hosts st.hosts;
    locals = locals_stand a r room st;
    slots = λ g vs e. let q = slots_by a r (signature_params world.notes g) vs a.frames refl room st e in (q.numbers, q.are, q.shows);
    mapped = cell_mapped a r room st;
  }
