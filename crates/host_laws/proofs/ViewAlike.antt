-- What the host sees of a configuration it sees of each run that stands for it.
use Rattle.host_laws.proofs.Common.{◌≡◌, ◌≢◌, ℕ, suc, ◌+◌, ◌-◌, ◌*◌, Bool, true, false, ◌&&◌, if◌then◌else◌, nat_eq, List, [], ◌∷◌, length}
use Rattle.host_laws.proofs.Common.{Option, Some, None, is_some, refl, sym, ap, ap₂, ◌∙◌, subst, arith, slice_get, mod-eq_of_lt, AllZip}
use Rattle.host_laws.proofs.Common.{list_all, option_map, option_map_or, option_and_then, same_Some, and_parts, eqb-true, eq-eqb, cut_at}
use Rattle.host_laws.proofs.Common.{little_endian, cell_size, register, covers, holds, Asking, NoSite, Asks, View, Calls, GoesOn, field_at}
use Rattle.host_laws.proofs.Common.{signature_params, signature_method, site_of, return_view, spot_of, cell_address, host_view, slots_of}
use Rattle.host_laws.proofs.Common.{is_empty, ScriptPlace, NativeCall, NoCall, Asked, Accepted, TypedObject, made_objects, World}
use Rattle.host_laws.proofs.Common.{image_range, Placement, in_stack, before_all, SavedFrame, RunState, Cell, FnNote, WantParam, ScriptCall}
use Rattle.host_laws.proofs.Common.{WriteValue, Seen, Field, Shape, Spot, Value, HostFrame, Frame, Function, Host, Config, hosts, locals_at}
use Rattle.host_laws.proofs.Common.{objects_at, writes_there, lent_there, is_method, neutral_arguments, content_value, local_named, Neutral}
use Rattle.host_laws.proofs.Common.{At, LocalOf, CellPlace, FieldOfLocals, Addresses, Shows, IsPast, word, CallShows, if_some, some_of_map}
use Rattle.note_types.proofs.SameLaws.{same_cell-equal}
use Rattle.note_types.specs.BelowTests.{same_cell}
use Rattle.host_model.specs.HostSteps.{asking_at, asking_by, writes_mapped, write_mapped, result_of, return_seen, call_seen, call_under_way}
use Rattle.host_model.specs.Readings.{Role, GivenAs, OutCell, InoutCell, role_of, sort_of_cell, sort_of_type, reading_of, argument_read}
use Rattle.host_model.specs.Readings.{arguments_read}
use Rattle.host_model.specs.{HostPlans.due_view, Placements.method_at, ScriptValues.given, ScriptValues.lent, Values.Method}
use Rattle.neutral_machine.specs.NeutralHost.{host_view as neutral_view, slots_of as neutral_slots_of, asking_at as neutral_asking_at}
use Rattle.neutral_machine.specs.NeutralHost.{asking_by as neutral_asking_by, result_of as neutral_result_of}
use Rattle.neutral_machine.specs.NeutralHost.{return_seen as neutral_return_seen, call_seen as neutral_call_seen}
use Rattle.neutral_machine.specs.{Config.call_under_way as neutral_call, NeutralReadings.neutral_reading, NeutralReadings.neutral_argument}
use Rattle.host_laws.proofs.Seen.{HostsAlike, SeenAlike, ViewsAlike}
use Rattle.neutral_machine.proofs.ReadingAlike.{reads_alike, results_alike}
use Rattle.ebc_base.specs.Steps.{only_if}
use Rattle.note_types.specs.declared.spot.Spot.TheVariants as spot
use Rattle.note_types.specs.declared.types.Ty.TheVariants as ty
use Rattle.note_types.specs.declared.value.Value.TheVariants as value

-- ---- options and tests

pub and_then_some : {A B : Type 0} (f : A → Option B) (o : Option A) (y : B) → option_and_then f o ≡ Some y → (x : A) × (o ≡ Some x)
    × (f x ≡ Some y)
and_then_some f None y e = absurd (cc)
and_then_some f (Some x) y e = (x, refl, e)

-- the first and the rest of what is all there
pub before_some : {A : Type 0} (o : Option A) (q : Option (List A)) (ys : List A) → before_all o q ≡ Some ys → (x : A) × (xs : List A)
    × (o ≡ Some x) × (q ≡ Some xs) × (x ∷ xs ≡ ys)
before_some None q ys e = absurd (cc)
before_some (Some x) None ys e = absurd (cc)
before_some (Some x) (Some xs) ys e = (x, xs, refl, refl, same_Some (x ∷ xs) ys e)

-- ---- locals

-- the local field that a value is the address of
pub record NamesLocal (frames : List Frame) (c : Cell) (v : Neutral) (p : CellPlace) : Type 0 where
  pub d : ℕ
  pub f : ℕ
  pub shape : Shape
  pub field : Field
  pub is : v ≡ At (LocalOf d f) 0 0
  pub there : locals_at frames d ≡ Some shape
  pub at : slice_get shape.fields f ≡ Some field
  pub cell : field.cell ≡ c
  pub place : FieldOfLocals d f ≡ p

pub names_local : (frames : List Frame) (c : Cell) (v : Neutral) (p : CellPlace) → local_named frames c v ≡ Some p → NamesLocal frames c v p
names_local frames c (At (LocalOf d f) n m) p e =
    let q = and_then_some (λ (x : Field). only_if (nat_eq n 0 && (nat_eq m 0 && same_cell x.cell c)) (FieldOfLocals d f))
    (option_and_then (λ (s : Shape). slice_get s.fields f) (locals_at frames d)) p e in
    let h = and_then_some (λ (s : Shape). slice_get s.fields f) (locals_at frames d) q.0 q.1 in
    let t = if_some (nat_eq n 0 && (nat_eq m 0 && same_cell q.0.cell c)) (FieldOfLocals d f) p q.2 in
    let b = and_parts (nat_eq n 0) (nat_eq m 0 && same_cell q.0.cell c) t.0 in
    let g = and_parts (nat_eq m 0) (same_cell q.0.cell c) b.1 in
    record {
      d = d;
      f = f;
      shape = h.0;
      field = q.0;
      is = ap₂ (λ x y. At (LocalOf d f) x y) (eqb-true n 0 b.0) (eqb-true m 0 g.0);
      there = h.1;
      at = h.2;
      cell = same_cell-equal q.0.cell c g.1;
      place = t.1;
    }
names_local frames c v p e = absurd (cc)

module _ (w : ℕ) (world : World) (P : Placement) (A : Addresses) (a : Config) (r : RunState) (ok : SeenAlike w world P A a r) where
  made : List TypedObject
  made = objects_at world a

  -- ---- arguments

  -- its address
  local_address : (c : Cell) (v : Neutral) (p : CellPlace) (x : ℕ) (h : NamesLocal a.frames c v p) → Shows w A v x
      → A.anchor (LocalOf h.d h.f) ≡ Some x
  local_address c v p x h s =
      let past : IsPast (A.anchor (LocalOf h.d h.f)) (0 * w + 0) x = subst (λ u. Shows w A u x) h.is s in
      let e : past.from + (0 * w + 0) ≡ past.from = omega arith in
      past.there ∙ ap Some (sym (past.is ∙ ap word e ∙ mod-eq_of_lt (ok.locals.small h.d h.f past.from past.there)))

  -- it lies in the stack
  local_inside : (c : Cell) (v : Neutral) (p : CellPlace) (x : ℕ) (h : NamesLocal a.frames c v p) → Shows w A v x
      → in_stack w world.notes P c x ≡ true
  local_inside c v p x h s = ap (λ y. in_stack w world.notes P y x) (sym h.cell)
      ∙ ok.locals.inside h.d h.f x h.shape h.field h.there h.at (local_address c v p x h s)

  argument_alike : (role : Role) (v : Neutral) (x : ℕ) (t : Seen) → neutral_argument world.notes made a.frames a.cells role v ≡ Some t
      → Shows w A v x
      → argument_read w world.notes P made r.machine.byte role x ≡ t
  unfolding made neutral_argument argument_read
  argument_alike (GivenAs sort) v x t e s =
      let h = some_of_map given (neutral_reading world.notes made sort v) t e in
      ap given (reads_alike w world.notes P made A ok.named sort v x h.0 h.1 s) ∙ h.2
  argument_alike (OutCell c) v x t e s =
      let h = some_of_map (λ p. given value.Out) (local_named a.frames c v) t e in
      ap (λ b. given (if b then value.Out else value.Wild x)) (local_inside c v h.0 x (names_local a.frames c v h.0 h.1) s) ∙ h.2
  argument_alike (InoutCell c) v x t e s =
      let h = some_of_map lent (option_and_then (neutral_reading world.notes made (sort_of_cell c))
      (option_map (content_value world.notes made c) (option_and_then a.cells (local_named a.frames c v)))) t e in
      let q = and_then_some (neutral_reading world.notes made (sort_of_cell c))
      (option_map (content_value world.notes made c) (option_and_then a.cells (local_named a.frames c v))) h.0 h.1 in
      let m = some_of_map (content_value world.notes made c) (option_and_then a.cells (local_named a.frames c v)) q.0 q.1 in
      let g = and_then_some a.cells (local_named a.frames c v) m.0 m.1 in
      let l = names_local a.frames c v g.0 g.1 in
      let shown : Shows w A q.0 (little_endian r.machine.byte x (cell_size w c)) =
      subst (λ u. Shows w A u (little_endian r.machine.byte x (cell_size w c))) m.2
      (subst (λ y. Shows w A (content_value world.notes made y m.0) (little_endian r.machine.byte x (cell_size w y))) l.cell
      (ok.locals.shows l.d l.f x l.shape l.field m.0 l.there l.at (local_address c v g.0 x l s) (ap a.cells l.place ∙ g.2))) in
      ap (λ b. if b then lent (reading_of w world.notes P made (sort_of_cell c) (little_endian r.machine.byte x (cell_size w c)))
      else given (value.Wild x)) (local_inside c v g.0 x l s)
      ∙ ap lent (reads_alike w world.notes P made A ok.named (sort_of_cell c) q.0
      (little_endian r.machine.byte x (cell_size w c)) h.0 q.2 shown) ∙ h.2

  arguments_alike : (ps : List WantParam) (vs : List Neutral) (xs : List ℕ) (ts : List Seen)
      → neutral_arguments world.notes made a.frames a.cells ps vs ≡ Some ts → AllZip (Shows w A) vs xs
      → arguments_read w world.notes P made r.machine.byte ps xs ≡ ts
  unfolding made neutral_arguments arguments_read
  arguments_alike [] vs xs ts e s = same_Some [] ts e
  arguments_alike (p ∷ ps) [] [] ts e s = same_Some [] ts e
  arguments_alike (p ∷ ps) [] (x ∷ xs) ts e s = absurd s
  arguments_alike (p ∷ ps) (v ∷ vs) [] ts e s = absurd s
  arguments_alike (p ∷ ps) (v ∷ vs) (x ∷ xs) ts e s =
      let h = before_some (neutral_argument world.notes made a.frames a.cells (role_of p.want) v)
      (neutral_arguments world.notes made a.frames a.cells ps vs) ts e in
      ap₂ (λ y ys. y ∷ ys) (argument_alike (role_of p.want) v x h.0 h.2 s.0) (arguments_alike ps vs xs h.1 h.3 s.1) ∙ h.4

  -- ---- what a call asks for

  method_is : (m : ℕ) (v : Neutral) → is_method m v ≡ true → v ≡ Method m
  method_is m (Method k) e = ap Method (eqb-true k m e)
  method_is m v e = absurd (cc)

  -- the same objects are made
  made_is : made_objects world.notes world.script r.script.entries ≡ made
  unfolding made
  made_is = ap (λ (p : ScriptPlace). made_objects world.notes world.script p.entries) ok.script

  asking_alike_by : (g : ℕ) (v : Neutral) (x : ℕ) (q : Asking) → neutral_asking_by world a v g ≡ Some q → Shows w A v x
      → asking_by w world P r x g (slots_of w world r g) ≡ q
  unfolding made
  asking_alike_by g v x q e s = go (is_method (signature_method world.notes g) v) refl e
    where
      m : ℕ
      m = signature_method world.notes g

      go : (b : Bool) → is_method (signature_method world.notes g) v ≡ b
          → (if b then option_map (Asks g None) (option_and_then
          (neutral_arguments world.notes (objects_at world a) a.frames a.cells (signature_params world.notes g))
          (neutral_slots_of world a g)) else None) ≡ Some q
          → asking_by w world P r x g (slots_of w world r g) ≡ q
      go true hit e =
          let ps = signature_params world.notes g in
          let h = some_of_map (Asks g None) (option_and_then (neutral_arguments world.notes made a.frames a.cells ps)
          (neutral_slots_of world a g)) q e in
          let n = and_then_some (neutral_arguments world.notes made a.frames a.cells ps) (neutral_slots_of world a g) h.0 h.1 in
          let y = ok.slots g n.0 n.1 in
          let at : x ≡ method_at P (signature_method world.notes g) =
          (ok.named.method (signature_method world.notes g) x (subst (λ u. Shows w A u x) (method_is _ v hit) s)).1 in
          ap (asking_by w world P r x g) y.1
          ∙ ap (λ b. Asks g (if b then None else Some x) (arguments_read w world.notes P
          (made_objects world.notes world.script r.script.entries) r.machine.byte ps y.0)) (eq-eqb x _ at)
          ∙ ap (λ o. Asks g None (arguments_read w world.notes P o r.machine.byte ps y.0)) made_is
          ∙ ap (Asks g None) (arguments_alike ps n.0 y.0 h.0 n.2 y.2) ∙ h.2
      go false hit e = absurd (cc)

  asking_alike : (place : ℕ) (v : Neutral) (x : ℕ) (q : Asking) → neutral_asking_at world a place v ≡ Some q → Shows w A v x
      → asking_at w world P r place x ≡ q
  unfolding neutral_asking_at asking_at
  asking_alike place v x q e s = go (site_of world.notes place) e
    where
      go : (o : Option ℕ) → option_map_or (neutral_asking_by world a v) o (Some NoSite) ≡ Some q
          → option_map_or (λ g. asking_by w world P r x g (slots_of w world r g)) o NoSite ≡ q
      go None e = same_Some NoSite q e
      go (Some g) e = asking_alike_by g v x q e s

  -- ---- what a reply writes

  write_alike : (v : WriteValue) → write_mapped w world P r v ≡ is_some (field_at world.notes made v.object v.instance v.field)
  unfolding made
  write_alike v =
      ap (λ o. option_map_or (λ (x : Field). holds r.machine.objects (cell_address w world.notes P o v.object v.instance x)
      (cell_size w x.cell)) (field_at world.notes o v.object v.instance v.field) false) made_is
      ∙ go (field_at world.notes made v.object v.instance v.field) refl
    where
      go : (q : Option Field) → field_at world.notes made v.object v.instance v.field ≡ q
          → option_map_or (λ (x : Field). holds r.machine.objects (cell_address w world.notes P made v.object v.instance x)
          (cell_size w x.cell)) q false ≡ is_some q
      go None e = refl
      go (Some x) e = ok.mapped v.object v.instance v.field x e

  writes_alike : (vs : List WriteValue) → list_all (write_mapped w world P r) vs ≡ list_all
      (λ (v : WriteValue). is_some (field_at world.notes made v.object v.instance v.field)) vs
  writes_alike [] = refl
  writes_alike (v ∷ vs) = ap₂ (λ a b. a && b) (write_alike v) (writes_alike vs)

  mapped_alike : (entry : ℕ) → writes_mapped w world P r entry ≡ writes_there world a entry
  unfolding made writes_mapped writes_there
  mapped_alike entry = go (slice_get world.script.call entry)
    where
      go : (c : Option ScriptCall) → option_map_or (λ (c : ScriptCall). list_all (write_mapped w world P r) c.write) c false
          ≡ option_map_or (λ (c : ScriptCall). list_all (λ (v : WriteValue). is_some
          (field_at world.notes (objects_at world a) v.object v.instance v.field)) c.write) c false
      go None = refl
      go (Some c) = writes_alike c.write

  -- ---- what a function returns

  result_alike : (f : ℕ) (t : Value) → neutral_result_of world a f ≡ Some t → result_of w world P r f ≡ t
  unfolding made neutral_result_of result_of
  result_alike f t e =
      let sort = option_map_or (λ (g : FnNote). sort_of_type g.result) (slice_get world.notes.function f) (sort_of_type ty.Any) in
      ap (λ o. reading_of w world.notes P o sort (cut_at w (register r.machine 7))) made_is
      ∙ results_alike w world.notes P made A ok.named sort (a.registers 7) (register r.machine 7) t e ok.result

  -- as many frames of the host
  count_alike : (hs : List HostFrame) (ss : List SavedFrame) → HostsAlike w A hs ss → length ss ≡ length hs
  count_alike [] [] h = refl
  count_alike [] (s ∷ ss) h = absurd h
  count_alike (x ∷ hs) [] h = absurd h
  count_alike (x ∷ hs) (s ∷ ss) h = ap suc (count_alike hs ss h.3)

  last_alike : (hs : List HostFrame) (ss : List SavedFrame) → HostsAlike w A hs ss → is_empty ss ≡ is_empty hs
  last_alike [] [] h = refl
  last_alike [] (s ∷ ss) h = absurd h
  last_alike (x ∷ hs) [] h = absurd h
  last_alike (x ∷ hs) (s ∷ ss) h = refl

  return_alike : (fs : List Frame) (ss : List SavedFrame) (v : View) → HostsAlike w A (hosts fs) ss
      → neutral_return_seen world a fs ≡ Some v → return_seen w world P r ss ≡ Some v
  return_alike [] ss v h e = absurd (cc)
  return_alike (Function f ∷ fs) ss v h e = absurd (cc)
  return_alike (Host x ∷ fs) [] v h e = absurd h
  return_alike (Host x ∷ fs) (s ∷ ss) v h e =
      let q = some_of_map (return_view x.notified (is_empty (hosts fs)) x.func) (neutral_result_of world a x.func) v e in
      ap₂ (λ n f. Some (return_view n (is_empty ss) f (result_of w world P r f))) h.1 h.0
      ∙ ap (λ b. Some (return_view x.notified b x.func (result_of w world P r x.func))) (last_alike (hosts fs) ss h.3)
      ∙ ap (λ t. Some (return_view x.notified (is_empty (hosts fs)) x.func t)) (result_alike x.func q.0 q.1) ∙ ap Some q.2

  -- ---- the native call under way

  -- the marks of the top frame
  marks_alike : (fs : List Frame) (ss : List SavedFrame) → HostsAlike w A (hosts fs) ss
      → CallShows w A (neutral_call fs) (call_under_way ss)
  marks_alike [] [] h = tt
  marks_alike [] (s ∷ ss) h = absurd h
  marks_alike (Function f ∷ fs) ss h = marks_alike fs ss h
  marks_alike (Host x ∷ fs) [] h = absurd h
  marks_alike (Host x ∷ fs) (s ∷ ss) h = h.2

  call_alike : (c : NativeCall Neutral) (d : NativeCall ℕ) (v : View) → CallShows w A c d → neutral_call_seen world a c ≡ Some v
      → call_seen w world P r d ≡ Some v
  call_alike NoCall NoCall v h e =
      ap₂ (λ p n. due_view world p n) ok.script (count_alike (hosts a.frames) r.hosts ok.hosts) ∙ e
  call_alike (Asked p t) (Asked q x) v h e =
      let y = some_of_map (Calls p) (neutral_asking_at world a p t) v e in
      ap (λ n. Some (Calls n (asking_at w world P r n x))) (sym h.0) ∙ ap (λ b. Some (Calls p b)) (asking_alike p t x y.0 y.1 h.1)
      ∙ ap Some y.2
  call_alike (Accepted n k vs) (Accepted f m xs) v h e =
      ap₂ (λ x y. Some (GoesOn x y (length r.hosts) (writes_mapped w world P r x))) (sym h.0) (sym h.1)
      ∙ ap₂ (λ x y. Some (GoesOn n k x y)) (count_alike (hosts a.frames) r.hosts ok.hosts) (mapped_alike n)
      ∙ ap Some (if_some (lent_there world a.frames n vs) (GoesOn n k (length (hosts a.frames)) (writes_there world a n)) v e).1
  call_alike c z v h e = absurd h

  -- ---- the view

  -- the machine is at the gate just where the configuration is
  at_gate : spot_of world P r.machine ≡ spot.Gate → nat_eq r.machine.ip r.machine.gate ≡ true
  unfolding spot_of
  at_gate e = go (nat_eq r.machine.ip r.machine.gate) (covers r.machine.ip 1 (image_range world P)) e
    where
      go : (b c : Bool) → (if b then spot.Gate else if c then spot.Place (r.machine.ip - P.image) else spot.Wild r.machine.ip) ≡ spot.Gate
          → b ≡ true
      go true c e = refl
      go false true e = absurd (cc)
      go false false e = absurd (cc)

  off_gate : (s : Spot) → s ≢ spot.Gate → spot_of world P r.machine ≡ s → nat_eq r.machine.ip r.machine.gate ≡ false
  unfolding spot_of
  off_gate s n e = go (nat_eq r.machine.ip r.machine.gate) e
    where
      go : (b : Bool) → (if b then spot.Gate else if covers r.machine.ip 1 (image_range world P) then spot.Place (r.machine.ip - P.image)
          else spot.Wild r.machine.ip) ≡ s → b ≡ false
      go true e = absurd (n (sym e))
      go false e = refl

  away : (s : Spot) (v : View) → s ≢ spot.Gate → spot_of world P r.machine ≡ s → neutral_call_seen world a (neutral_call a.frames) ≡ Some v
      → host_view w world P r ≡ Some v
  unfolding host_view
  away s v n at e =
      ap (λ b. if b then return_seen w world P r r.hosts else call_seen w world P r (call_under_way r.hosts)) (off_gate s n at)
      ∙ call_alike (neutral_call a.frames) (call_under_way r.hosts) v (marks_alike a.frames r.hosts ok.hosts) e

  view_by : (s : Spot) (v : View) → spot_of world P r.machine ≡ s → neutral_view world a s ≡ Some v → host_view w world P r ≡ Some v
  unfolding host_view neutral_view
  view_by spot.Gate v at e =
      ap (λ b. if b then return_seen w world P r r.hosts else call_seen w world P r (call_under_way r.hosts)) (at_gate at)
      ∙ return_alike a.frames r.hosts v ok.hosts e
  view_by (spot.Place p) v at e = away (spot.Place p) v (λ y. absurd (cc)) at e
  view_by (spot.Wild x) v at e = away (spot.Wild x) v (λ y. absurd (cc)) at e

  pub views_alike : ViewsAlike w world P a r
  views_alike v e = view_by a.spot v ok.spot e
