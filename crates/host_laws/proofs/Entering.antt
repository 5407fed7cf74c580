-- Entering a function: a run that stands for a configuration stands for it inside the function.
use Rattle.host_laws.proofs.Common.{◌≡◌, ℕ, suc, ◌+◌, ◌-◌, ◌*◌, ◌%◌, ◌^◌, ◌<◌, ◌≤◌, Bool, true, false, if◌then◌else◌, nat_eq, List, [], ◌∷◌}
use Rattle.host_laws.proofs.Common.{◌++◌, map, length, Option, Some, None, refl, sym, ap, ap₂, ◌∙◌, subst, subst₂, arith, inl, inr, ⊎_elim}
use Rattle.host_laws.proofs.Common.{slice_get, slice_set, mod-eq_of_lt, AllByRecursion, option_map_or, option_and_then, eqb-true, IsWidth}
use Rattle.host_laws.proofs.Common.{cut_at, little_endian, put, put-apart, put-below, little_endian-agree, little_endian-apart, Concrete}
use Rattle.host_laws.proofs.Common.{stored, register, holds, Enters, Notifies, function_params, written_number, performed, one_callback}
use Rattle.host_laws.proofs.Common.{NativeCall, NoCall, Asked, Accepted, ScriptPlace, TypedObject, made_objects, Placement, stack_bytes}
use Rattle.host_laws.proofs.Common.{slot_bytes, params_bytes, return_cell, IsPlacement, stack_end, placed_ranges, RunState, Event, FnNote}
use Rattle.host_laws.proofs.Common.{Notes, Param, Value, StackItem, FunctionFrame, HostFrame, Frame, Function, Host, Config, depth}
use Rattle.host_laws.proofs.Common.{locals_at, call_under_way, with_call, param_slots, addresses, height, local_address, total, minus}
use Rattle.host_laws.proofs.Common.{Neutral, Addresses, ShowsIn, Named, ItemsShow, ReturnShows, FramesShow, CallShows, MachineStands}
use Rattle.host_laws.proofs.Common.{Stands, World, WorldFits, value_as, IsValue, value_shows, shows_more, frames_agree, frames_more}
use Rattle.host_laws.proofs.Common.{read_put, shown_in, slot_positive, end_small, minus-is, stack_within, stack_holds, CanEnter, width_word}
use Rattle.host_model.specs.HostSteps.{objects_at, with_slots, inside, frame_for, entered, call_under_way as marks_under_way}
use Rattle.host_model.specs.HostSteps.{with_call as with_marks}
use Rattle.host_model.specs.Progress.{one_notification, one_callback as neutral_callback}
use Rattle.note_types.specs.declared.ending.Ending.TheVariants.{Raised}
use Rattle.neutral_machine.specs.NeutralHost.{objects_at as neutral_objects_at, entered as neutral_entered, performed as neutral_performed}
use Rattle.neutral_machine.proofs.Frames.{SameLocals, no_locals, no_address, same_extends, BelowTop, stack_stands}
use Rattle.neutral_machine.proofs.Spots.{place_spot, turned_stands}
use Rattle.host_laws.proofs.Marks.{total_marked, extends_marked, machine_counted, machine_marked, machine_told}
use Rattle.host_laws.proofs.Replies.{call_more, hosts_more, hosts_marked, marks_show}
use Rattle.host_laws.proofs.Things.{named as named_things}
use Rattle.note_types.specs.declared.exception.Exception.TheVariants as raises
use Rattle.note_types.specs.declared.spot.Spot.TheVariants as spot

-- the bytes once numbers are put in the slots of parameters from an address on
put_slots : ℕ → (ℕ → ℕ) → ℕ → List Param → List ℕ → ℕ → ℕ
put_slots w b a (p ∷ ps) (x ∷ xs) = put_slots w (put b a (slot_bytes w p.kind) x) (a + slot_bytes w p.kind) ps xs
put_slots w b a _ _ = b

slots_below : (w : ℕ) (b : ℕ → ℕ) (a : ℕ) (ps : List Param) (xs : List ℕ) (y : ℕ) → y < a → put_slots w b a ps xs y ≡ b y
unfolding put_slots
slots_below w b a [] xs y l = refl
slots_below w b a (p ∷ ps) [] y l = refl
slots_below w b a (p ∷ ps) (x ∷ xs) y l =
    slots_below w (put b a (slot_bytes w p.kind) x) (a + slot_bytes w p.kind) ps xs y (omega (arith, l))
    ∙ put-apart b a (slot_bytes w p.kind) x y (inl l)

slots_above : (w : ℕ) (b : ℕ → ℕ) (a : ℕ) (ps : List Param) (xs : List ℕ) (y : ℕ) → a + params_bytes w ps ≤ y
    → put_slots w b a ps xs y ≡ b y
unfolding put_slots
slots_above w b a [] xs y l = refl
slots_above w b a (p ∷ ps) [] y l = refl
slots_above w b a (p ∷ ps) (x ∷ xs) y l =
    slots_above w (put b a (slot_bytes w p.kind) x) (a + slot_bytes w p.kind) ps xs y (omega (arith, l))
    ∙ put-apart b a (slot_bytes w p.kind) x y (inr (omega (arith, l)))

slots_small : (w : ℕ) (b : ℕ → ℕ) (a : ℕ) (ps : List Param) (xs : List ℕ) → ((y : ℕ) → b y < 256) → (y : ℕ) → put_slots w b a ps xs y < 256
unfolding put_slots
slots_small w b a [] xs l y = l y
slots_small w b a (p ∷ ps) [] l y = l y
slots_small w b a (p ∷ ps) (x ∷ xs) l y = slots_small w (put b a (slot_bytes w p.kind) x) (a + slot_bytes w p.kind) ps xs
    (λ z. put-below b a (slot_bytes w p.kind) x z (l z)) y

-- ---- the slots show

pub heights : (w : ℕ) (notes : Notes) (made : List TypedObject) (ps : List Param) (vs : List Value) → length ps ≡ length vs
    → height w (param_slots notes made ps vs) ≡ params_bytes w ps
unfolding param_slots
heights w notes made [] [] e = refl
heights w notes made [] (v ∷ vs) e = absurd (omega (arith, e))
heights w notes made (p ∷ ps) [] e = absurd (omega (arith, e))
heights w notes made (p ∷ ps) (v ∷ vs) e = ap (λ n. slot_bytes w p.kind + n) (heights w notes made ps vs (omega (arith, e)))

module _ (w : ℕ) (world : World) (P : Placement) (mapped : ℕ → ℕ) (h : IsWidth w) (ok : WorldFits world) (pl : IsPlacement w world P) where
  abbrev End : ℕ
  End = stack_end w world.notes P

  -- numbers of written values, put in slots, show
  slots_show : (made : List TypedObject) (A : Addresses) → Named w world.notes P made A
      → (b : ℕ → ℕ) (a under : ℕ) (ps : List Param) (vs : List Value) → length ps ≡ length vs
      → AllByRecursion (IsValue world.notes) vs → params_bytes w ps + under ≤ stack_bytes w world.notes
      → a ≡ End - (params_bytes w ps + under)
      → ItemsShow w A (put_slots w b a ps (map (written_number w world.notes P made) vs)) End under (param_slots world.notes made ps vs)
  unfolding put_slots param_slots
  slots_show made A n b a under [] [] e f l at = tt
  slots_show made A n b a under [] (v ∷ vs) e f l at = absurd (omega (arith, e))
  slots_show made A n b a under (p ∷ ps) [] e f l at = absurd (omega (arith, e))
  slots_show made A n b a under (p ∷ ps) (v ∷ vs) e f l at =
      let k = slot_bytes w p.kind in
      let y = written_number w world.notes P made v in
      let c = put b a k y in
      let rest = map (written_number w world.notes P made) vs in
      let pos = slot_positive w p.kind h in
      let hs = heights w world.notes made ps vs (omega (arith, e)) in
      let es = end_small w world P h ok pl in
      let low : minus End (k + (height w (param_slots world.notes made ps vs) + under)) ≡ a =
      minus-is End _ (omega (arith, pos)) (omega (arith, l, hs)) es ∙ omega (arith, at, hs) in
      let kept : little_endian (put_slots w c (a + k) ps rest) a k ≡ little_endian c a k =
      little_endian-agree (put_slots w c (a + k) ps rest) c a k (λ x q r. slots_below w c (a + k) ps rest x r) in (
        subst (λ x. ShowsIn w A k (value_as world.notes made p.ty v) (little_endian (put_slots w c (a + k) ps rest) x k)) (sym low)
            (subst (ShowsIn w A k (value_as world.notes made p.ty v)) (sym (kept ∙ read_put b a k y))
            (shown_in w A k (value_as world.notes made p.ty v) y (value_shows w world.notes P made A n p.ty v f.0))),
        slots_show made A n c (a + k) under ps vs (omega (arith, e)) f.1 (omega (arith, l)) (omega (arith, at, l)),
      )

  -- ---- the machine's stores

  stored_is : (s : Concrete) (x k v : ℕ) → holds s.objects x k ≡ true → stored s x k v ≡ Some (record s { byte = put s.byte x k v })
  unfolding stored
  stored_is s x k v e = ap (λ b. if b then Some (record s { byte = put s.byte x k v }) else None) e

  -- slots that lie in the stack are stored
  slots_stored : (n : ℕ) (s : Concrete) (a : ℕ) (ps : List Param) (xs : List ℕ) → s.objects ≡ placed_ranges w world P n → P.stack ≤ a
      → a + params_bytes w ps ≤ End
      → with_slots w a ps xs s ≡ Some (record s { byte = put_slots w s.byte a ps xs })
  unfolding with_slots put_slots
  slots_stored n s a [] xs o l m = refl
  slots_stored n s a (p ∷ ps) [] o l m = refl
  slots_stored n s a (p ∷ ps) (x ∷ xs) o l m =
      let k = slot_bytes w p.kind in
      let pos = slot_positive w p.kind h in
      let sw = stack_within w world P h ok pl in
      let at : cut_at w a ≡ a = mod-eq_of_lt (omega (arith, m, pos, sw.below)) in
      let held : holds s.objects a k ≡ true = ap (λ y. holds y a k) o ∙ stack_holds w world P h ok pl n a k l (omega (arith, m)) in
      ap (λ y. option_and_then (with_slots w (a + k) ps xs) (stored s y k x)) at
      ∙ ap (option_and_then (with_slots w (a + k) ps xs)) (stored_is s a k x held)
      ∙ slots_stored n (record s { byte = put s.byte a k x }) (a + k) ps xs o (omega (arith, l)) (omega (arith, m))

  -- the bytes inside a function: a return cell with the gate's address, and the slots above it
  entry_bytes : (b : ℕ → ℕ) (top gate : ℕ) (ps : List Param) (xs : List ℕ) → ℕ → ℕ
  entry_bytes b top gate ps xs = put_slots w (put (put b top 8 gate) (top + 8) 8 0) (top + 16) ps xs

  -- the machine inside a function
  inside_is : (n : ℕ) (s : Concrete) (target top : ℕ) (ps : List Param) (xs : List ℕ) → s.objects ≡ placed_ranges w world P n
      → minus (register s 0) (return_cell + params_bytes w ps) ≡ top
      → P.stack ≤ top → top + 16 + params_bytes w ps ≤ End
      → inside w s target ps xs ≡ Some (record s {
        registers = slice_set s.registers 0 top;
        ip = target;
        flags = 0;
        byte = entry_bytes s.byte top s.gate ps xs;
      })
  unfolding inside entry_bytes
  inside_is n s target top ps xs o e l m =
      let sw = stack_within w world P h ok pl in
      let r : Concrete = record s { registers = slice_set s.registers 0 top; ip = target; flags = 0 } in
      let at : cut_at w top ≡ top = mod-eq_of_lt (omega (arith, m, sw.below)) in
      let at8 : cut_at w (top + 8) ≡ top + 8 = mod-eq_of_lt (omega (arith, m, sw.below)) in
      let low : holds s.objects top 8 ≡ true = ap (λ y. holds y top 8) o ∙ stack_holds w world P h ok pl n top 8 l (omega (arith, m)) in
      let high : holds s.objects (top + 8) 8 ≡ true = ap (λ y. holds y (top + 8) 8) o
      ∙ stack_holds w world P h ok pl n (top + 8) 8 (omega (arith, l)) (omega (arith, m)) in
      let one : Concrete = record r { byte = put s.byte top 8 s.gate } in
      let two : Concrete = record one { byte = put (put s.byte top 8 s.gate) (top + 8) 8 0 } in
      let then_slots : Concrete → Option Concrete = λ t. with_slots w (top + 16) ps xs t in
      ap (λ y. option_and_then (λ (u : Concrete). option_and_then (λ (t : Concrete). with_slots w (y + 16) ps xs t)
      (stored u (cut_at w (y + 8)) 8 0))
      (stored (record s { registers = slice_set s.registers 0 y; ip = target; flags = 0 }) (cut_at w y) 8 s.gate)) e
      ∙ ap (λ y. option_and_then (λ (u : Concrete). option_and_then then_slots (stored u (cut_at w (top + 8)) 8 0))
      (stored r y 8 s.gate)) at
      ∙ ap (option_and_then (λ (u : Concrete). option_and_then then_slots (stored u (cut_at w (top + 8)) 8 0)))
      (stored_is r top 8 s.gate low)
      ∙ ap (λ y. option_and_then then_slots (stored one y 8 0)) at8
      ∙ ap (option_and_then then_slots) (stored_is one (top + 8) 8 0 high)
      ∙ slots_stored n two (top + 16) ps xs o (omega (arith, l)) (omega (arith, m))

  -- ---- the configuration inside

  -- a function frame with no items, upon a host frame, has no locals
  inside_same : (g : FunctionFrame) (k : HostFrame) (fs : List Frame)
      → SameLocals w End fs (Function (record g { items = [] }) ∷ Host k ∷ fs)
  inside_same g k fs = record {
    locals = λ d. by_locals d (nat_eq d (depth fs)) refl;
    address = λ d f. by_address d f (nat_eq d (depth fs)) refl;
  }
    where
      by_locals : (d : ℕ) (t : Bool) → nat_eq d (depth fs) ≡ t → (if t then None else locals_at fs d) ≡ locals_at fs d
      by_locals d true e = sym (no_locals fs d (let q = eqb-true d (depth fs) e in omega (arith, q)))
      by_locals d false e = refl

      by_address : (d f : ℕ) (t : Bool) → nat_eq d (depth fs) ≡ t
          → (if t then None else local_address w End fs d f) ≡ local_address w End fs d f
      by_address d f true e = sym (no_address w End fs d f (let q = eqb-true d (depth fs) e in omega (arith, q)))
      by_address d f false e = refl

  -- the frames of a function that is entered, as a notification or not
  entered_frames : Bool → Config → ℕ → List StackItem → List Frame
  entered_frames notified a f slots =
      Function (record { func = f; ret = 0; saved = a.registers; items = [] }) ∷ Host
      (record { func = f; notified = notified; saved = a.registers; c = a.c; spot = a.spot; params = slots; call = NoCall }) ∷ a.frames

  enter_machine : (notified : Bool) (a : Config) (s : Concrete) (f : ℕ) (values : List Value) (made : List TypedObject)
      → Named w world.notes P made (addresses w world.notes P a.frames) → (e : CanEnter w world a f values)
      → MachineStands w world P mapped None a s
      → (t : Concrete) × (inside w s (P.image + e.note.place) e.note.params (map (written_number w world.notes P made) values) ≡ Some t)
      × MachineStands w world P mapped None (record a {
        c = false;
        spot = spot.Place e.note.place;
        frames = entered_frames notified a f (param_slots world.notes made e.note.params values);
      }) t
  unfolding entered_frames entry_bytes
  enter_machine notified a s f values made named e st =
      let ps = e.note.params in
      let xs = map (written_number w world.notes P made) values in
      let slots = param_slots world.notes made ps values in
      let hs = heights w world.notes made ps values e.as_many in
      let T = total w a.frames in
      let room = e.room in
      let es = end_small w world P h ok pl in
      let top = End - (return_cell + (params_bytes w ps + T)) in
      let gs = entered_frames notified a f slots in
      let inner : return_cell + (height w slots + T) ≡ return_cell + (params_bytes w ps + T) = ap (λ n. return_cell + (n + T)) hs in
      let all : total w gs ≡ return_cell + (params_bytes w ps + T) =
      (let z : 0 + (return_cell + (height w slots + T)) ≡ return_cell + (height w slots + T) = omega arith in z) ∙ inner in
      let under : minus End (return_cell + (params_bytes w ps + T)) ≡ End - (return_cell + (params_bytes w ps + T)) =
      minus-is End (return_cell + (params_bytes w ps + T)) (omega arith) (omega (arith, room)) es in
      let low : minus End (total w gs) ≡ top = ap (minus End) all ∙ under in
      let sw = stack_within w world P h ok pl in
      let ww = width_word w h in
      let above : 0 < P.stack = ⊎_elim (λ x. x) (λ e. absurd (omega (arith, e, room))) sw.above in
      let r0 : minus (register s 0) (return_cell + params_bytes w ps) ≡ top = let q = st.top in omega (arith, q, room, es, above) in
      let gate = st.gate in
      let b = entry_bytes s.byte top s.gate ps xs in
      let one = put s.byte top 8 s.gate in
      let two = put one (top + 8) 8 0 in
      let kept : BelowTop w world P mapped h ok pl a.frames s.byte b = λ q d. sym
      (⊎_elim (λ r. slots_above w two (top + 16) ps xs q (omega (arith, r, room)))
      (λ r. slots_below w two (top + 16) ps xs q (omega (arith, r, room))) d
      ∙ put-apart one (top + 8) 8 0 q (⊎_elim (λ r. inr (omega (arith, r, room))) (λ r. inl (omega (arith, r, room))) d)
      ∙ put-apart s.byte top 8 s.gate q (⊎_elim (λ r. inr (omega (arith, r, room))) (λ r. inl (omega (arith, r, room))) d)) in
      let same = inside_same (record { func = f; ret = 0; saved = a.registers; items = [] })
      (record { func = f; notified = notified; saved = a.registers; c = a.c; spot = a.spot; params = slots; call = NoCall }) a.frames in
      let ext = same_extends w world P mapped h ok pl a.frames gs same in
      let A = addresses w world.notes P gs in
      let named' : Named w world.notes P made A = record {
        width = named.width;
        native = named.native;
        area = named.area;
        handle = named.handle;
        method = named.method;
        entry = named.entry;
        handles = named.handles;
        methods = named.methods;
        entries = named.entries;
        objects = named.objects;
        sized = named.sized;
        within = named.within;
        apart = named.apart;
      } in
      let below : FramesShow w A b End P a.frames =
      frames_agree w End h es A P s.byte b a.frames (omega (arith, room)) (record { by = λ q l m. kept q (inl l) })
      (frames_more w End h es (addresses w world.notes P a.frames) A P s.byte a.frames ext st.frames) in
      let params : ItemsShow w A b End T slots = slots_show made A named' two (top + 16) T ps values e.as_many e.fit (omega (arith, room))
      (omega (arith, room)) in
      let back : little_endian b top 8 ≡ P.native =
      little_endian-agree b two top 8 (λ q l m. slots_below w two (top + 16) ps xs q (omega (arith, m)))
      ∙ little_endian-apart one (top + 8) 8 0 top 8 (inl (omega arith)) ∙ read_put s.byte top 8 s.gate ∙ ap (λ g. g % 2 ^ (8 * 8)) gate
      ∙ mod-eq_of_lt (let n = named.area in omega (arith, n, ww)) in
      let zeros : little_endian b (top + 8) 8 ≡ 0 =
      little_endian-agree b two (top + 8) 8 (λ q l m. slots_below w two (top + 16) ps xs q (omega (arith, m)))
      ∙ read_put one (top + 8) 8 0 in
      let at : minus End (return_cell + (height w slots + T)) ≡ top = ap (minus End) inner ∙ under in
      let returns : ReturnShows b (minus End (return_cell + (height w slots + T))) P.native =
      subst (λ y. ReturnShows b y P.native) (sym at) (record { address = back; zeros = zeros }) in
      let stands = stack_stands w world P mapped h ok pl None a s gs top b (omega (arith, room)) st same (tt, st.locals) (sym low) kept
      (slots_small w two (top + 16) ps xs (λ y. put-below one (top + 8) 8 0 y (put-below s.byte top 8 s.gate y (st.small y))))
      (tt, returns, (params, below)) in
      let place = (ok.code_inside f e.note e.there) in (
        record s { registers = slice_set s.registers 0 top; ip = P.image + e.note.place; flags = 0; byte = b },
        inside_is a.script.entries s (P.image + e.note.place) top ps xs st.objects r0 (omega (arith, room)) (omega (arith, room)),
        turned_stands w world P mapped None _ _ false (spot.Place e.note.place) 0 (P.image + e.note.place) refl
            (place_spot w world P h ok pl e.note.place (let p = place.0 in let q = place.1 in omega (arith, p, q))) stands,
      )

  -- ---- the enter step

  -- one more callback is entered
  callback_shows : (A : Addresses) (c : NativeCall Neutral) (d : NativeCall ℕ) → CallShows w A c d
      → CallShows w A (neutral_callback c) (one_callback d)
  callback_shows A NoCall NoCall s = tt
  callback_shows A (Asked p v) NoCall s = s
  callback_shows A (Accepted k n vs) (Accepted f m xs) s = (s.0, ap suc s.1, s.2)
  callback_shows A c t s = s

  -- a run inside a function whose note is this, with its frame of the host
  entered_by_note : (notified : Bool) (a : Config) (r : RunState) (f : ℕ) (values : List Value) (e : CanEnter w world a f values)
      → Stands w world P mapped a r
      → Stands w world P mapped
      (neutral_entered notified world a f (param_slots world.notes (neutral_objects_at world a) e.note.params values))
      (option_map_or (λ (s : Concrete). record r { machine = s; hosts = frame_for notified r.machine f ∷ r.hosts })
      (inside w r.machine (P.image + e.note.place) e.note.params
      (map (written_number w world.notes P (neutral_objects_at world a)) values)) (record r { ending = Raised raises.StackFault }))
  unfolding entered_frames
  entered_by_note notified a r f values e st =
      let made = neutral_objects_at world a in
      let m = enter_machine notified a r.machine f values made (named_things w world P h ok pl a.script.entries a.frames) e st.machine in
      let slots = param_slots world.notes made e.note.params values in
      let gs = entered_frames notified a f slots in
      let k : HostFrame = record {
        func = f;
        notified = notified;
        saved = a.registers;
        c = a.c;
        spot = a.spot;
        params = slots;
        call = NoCall;
      } in
      let ext = same_extends w world P mapped h ok pl a.frames gs
      (inside_same (record { func = f; ret = 0; saved = a.registers; items = [] }) k a.frames) in
      let place : option_map_or (λ (g : FnNote). g.place) (slice_get world.notes.function f) 0 ≡ e.note.place =
      ap (λ y. option_map_or (λ (g : FnNote). g.place) y 0) e.there in
      let inner : Stands w world P mapped (record a { c = false; spot = spot.Place e.note.place; frames = gs })
      (record r { machine = m.0; hosts = frame_for notified r.machine f ∷ r.hosts }) =
      record {
        machine = m.2;
        hosts = (
          record {
            func = refl;
            notified = refl;
            eight = st.machine.eight;
            registers = λ q l n. shows_more w (addresses w world.notes P a.frames) (addresses w world.notes P gs) (a.registers q) _ ext
                (st.machine.registers q l n);
            words = st.machine.words;
            top_is = st.machine.top;
            flags = st.machine.flags;
            spot = st.machine.spot;
            call = tt;
          },
          hosts_more w world P mapped h ok pl (addresses w world.notes P a.frames)
              (addresses w world.notes P gs) a.frames r.hosts ext st.hosts,
        );
        script = st.script;
        trace = st.trace;
        ending = st.ending;
      } in
      subst₂ (λ (y : Config) (z : RunState). Stands w world P mapped y z)
      (ap (λ p. record a { c = false; spot = spot.Place p; frames = gs }) (sym place))
      (ap (λ o. option_map_or (λ (s : Concrete). record r { machine = s; hosts = frame_for notified r.machine f ∷ r.hosts }) o
      (record r { ending = Raised raises.StackFault })) (sym m.1))
      inner

  -- a run inside a function, as the notes have it
  pub entered_stands : (notified : Bool) (a : Config) (r : RunState) (f : ℕ) (values : List Value) → CanEnter w world a f values
      → Stands w world P mapped a r
      → Stands w world P mapped
      (neutral_entered notified world a f (param_slots world.notes (neutral_objects_at world a) (function_params world.notes f) values))
      (entered notified w world P r f (map (written_number w world.notes P (objects_at world r)) values))
  entered_stands notified a r f values n st =
      let made = neutral_objects_at world a in
      let same : made ≡ objects_at world r =
      ap (λ (p : ScriptPlace). made_objects world.notes world.script p.entries) (sym st.script) in
      let params : function_params world.notes f ≡ n.note.params = ap (λ y. option_map_or (λ (g : FnNote). g.params) y []) n.there in
      let place : option_map_or (λ (g : FnNote). g.place) (slice_get world.notes.function f) 0 ≡ n.note.place =
      ap (λ y. option_map_or (λ (g : FnNote). g.place) y 0) n.there in
      subst₂ (λ (y : Config) (z : RunState). Stands w world P mapped y z)
      (ap (λ ps. neutral_entered notified world a f (param_slots world.notes made ps values)) (sym params))
      (ap (λ m. option_map_or (λ (t : Concrete). record r { machine = t; hosts = frame_for notified r.machine f ∷ r.hosts })
      (inside w r.machine (P.image + n.note.place) n.note.params (map (written_number w world.notes P m) values))
      (record r { ending = Raised raises.StackFault })) same
      ∙ ap₂ (λ q ps. option_map_or (λ (t : Concrete). record r { machine = t; hosts = frame_for notified r.machine f ∷ r.hosts })
      (inside w r.machine (P.image + q) ps (map (written_number w world.notes P (objects_at world r)) values))
      (record r { ending = Raised raises.StackFault })) (sym place) (sym params))
      (entered_by_note notified a r f values n st)

  -- the run with other marks and more events
  pub marked_stands : (a : Config) (r : RunState) (c : NativeCall Neutral) (d : NativeCall ℕ) (es : List Event)
      → CallShows w (addresses w world.notes P a.frames) c d → Stands w world P mapped a r
      → Stands w world P mapped (record a { frames = with_call c a.frames; trace = a.trace ++ es })
      (record r { hosts = with_marks d r.hosts; trace = r.trace ++ es })
  marked_stands a r c d es s st =
      let ext = extends_marked c w world P mapped a.frames in
      record {
        machine = machine_told w world P mapped None (record a { frames = with_call c a.frames }) r.machine (a.trace ++ es) a.ending
            (machine_marked c w world P mapped h (end_small w world P h ok pl) None a r.machine st.machine);
        hosts = hosts_marked w world P mapped h ok pl (addresses w world.notes P (with_call c a.frames)) c d a.frames r.hosts
            (call_more w world P mapped h ok pl (addresses w world.notes P a.frames) _ c d ext s)
            (hosts_more w world P mapped h ok pl (addresses w world.notes P a.frames) _ a.frames r.hosts ext st.hosts);
        script = st.script;
        trace = ap (λ t. t ++ es) st.trace;
        ending = st.ending;
      }

  -- a callback is entered
  pub enter_stands : (a : Config) (r : RunState) (e : Event) (entry f : ℕ) (values : List Value) → CanEnter w world a f values
      → Stands w world P mapped a r
      → Stands w world P mapped (neutral_performed world a (Enters e entry f values)) (performed w world P r (Enters e entry f values))
  unfolding neutral_performed performed
  enter_stands a r e entry f values n st =
      let A = addresses w world.notes P a.frames in
      let c = neutral_callback (call_under_way a.frames) in
      let d = one_callback (marks_under_way r.hosts) in
      let shows = callback_shows A (call_under_way a.frames) (marks_under_way r.hosts)
      (marks_show w world P mapped h ok pl A a.frames r.hosts st.hosts) in
      let b : Config = record a { frames = with_call c a.frames; trace = a.trace ++ e ∷ [] } in
      let s : RunState = record r { hosts = with_marks d r.hosts; trace = r.trace ++ e ∷ [] } in
      let marked = marked_stands a r c d (e ∷ []) shows st in
      let room = n.room in
      let total_is = total_marked c w a.frames in
      let n' : CanEnter w world b f values = record {
        note = n.note;
        there = n.there;
        as_many = n.as_many;
        fit = n.fit;
        room = omega (arith, room, total_is);
      } in
      entered_stands false b s f values n' marked

  -- ---- the notify step

  -- one more notification is counted, and told
  noted_stands : (a : Config) (r : RunState) (e : Event) → Stands w world P mapped a r
      → Stands w world P mapped (record a { script = one_notification a.script; trace = a.trace ++ e ∷ [] })
      (record r { script = one_notification r.script; trace = r.trace ++ e ∷ [] })
  noted_stands a r e st =
      record {
        machine = machine_told w world P mapped None (record a { script = one_notification a.script }) r.machine (a.trace ++ e ∷ [])
            a.ending (machine_counted w world P mapped None a r.machine (a.script.notifications + 1) a.script.instructions
            a.script.thunks st.machine);
        hosts = st.hosts;
        script = ap one_notification st.script;
        trace = ap (λ t. t ++ e ∷ []) st.trace;
        ending = st.ending;
      }

  -- a notification is entered
  pub notify_stands : (a : Config) (r : RunState) (e : Event) (f : ℕ) (values : List Value) → CanEnter w world a f values
      → Stands w world P mapped a r
      → Stands w world P mapped (neutral_performed world a (Notifies e f values)) (performed w world P r (Notifies e f values))
  unfolding neutral_performed performed
  notify_stands a r e f values n st =
      let b : Config = record a { script = one_notification a.script; trace = a.trace ++ e ∷ [] } in
      let s : RunState = record r { script = one_notification r.script; trace = r.trace ++ e ∷ [] } in
      let n' : CanEnter w world b f values = record { note = n.note; there = n.there; as_many = n.as_many; fit = n.fit; room = n.room } in
      entered_stands true b s f values n' (noted_stands a r e st)
