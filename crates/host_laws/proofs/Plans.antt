-- What the host plans can be carried out alike: the conditions of each plan follow from what the host saw, from the conditions on
-- the script, and from the room for what it leaves.
use Rattle.host_laws.proofs.Common.{◌≡◌, ℕ, ◌+◌, ◌≤◌, Bool, true, false, ◌&&◌, if◌then◌else◌, nat_eq, nat_le, List, [], ◌∷◌, map, length}
use Rattle.host_laws.proofs.Common.{Option, Some, None, refl, sym, ap, ◌∙◌, subst, arith, slice_get, AllZip, AllByRecursion, list_all}
use Rattle.host_laws.proofs.Common.{flat_map, option_map, option_map_or, option_and_then, and_parts, eqb-true, none-some, Event, IsWidth}
use Rattle.host_laws.proofs.Common.{content_type, GoesOn, Asking, NoSite, Asks, Target, Store, InObject, InArgument, Plan, Enters, Replies}
use Rattle.host_laws.proofs.Common.{Ends, host_plan, filling, function_params, signature_params, signature_method, site_of, field_at}
use Rattle.host_laws.proofs.Common.{lent_at, IsDue, Notifies, TypedObject, script_object, made_objects, placed_objects, Placement}
use Rattle.host_laws.proofs.Common.{params_bytes, return_cell, stack_bytes, IsPlacement, World, Asked, copied, one_callback, RunState}
use Rattle.host_laws.proofs.Common.{fits_each, Cell, Ending, FnNote, Notes, WantParam, OutValue, ScriptCall, WriteValue, Seen, Field, Value}
use Rattle.host_laws.proofs.Common.{Config, hosts, call_under_way, with_call, target_place, objects_at, param_slots, lent_there}
use Rattle.host_laws.proofs.Common.{slots_asked, is_method, neutral_arguments, addresses, height, total, memory_of, cell_field, StoreGiven}
use Rattle.host_laws.proofs.Common.{CallGiven, ScriptGiven, Stands, Neutral, Addresses, FieldOf, Shows, WorldFits, IsValue, StoreNames}
use Rattle.host_laws.proofs.Common.{PlanFits, with_new, some_of_map, Param}
use Rattle.std.proofs.Common.{not}
use Rattle.std.specs.Option.{option_or}
use Rattle.host_model.specs.HostPlans.{call_plan, call_settled, call_event, asking_refused, entry_refused, asked_signature, asked_args}
use Rattle.host_model.specs.HostPlans.{objects_made_by, enter_plan, may_enter, callback_fits, reply_plan, reply_fits, reply_stores}
use Rattle.host_model.specs.HostPlans.{next_plan, signature_result, write_store, out_store, write_fits, notify_plan, notification_fits}
use Rattle.host_model.specs.HostSteps.{slots_of as numbers_of, slots_asked as numbers_asked, call_under_way as marks_under_way}
use Rattle.host_model.specs.ScriptValues.{fits, fits_result, given as given_value}
use Rattle.host_model.specs.Placements.{frame_limit}
use Rattle.note_types.specs.declared.{ending.Ending.TheVariants.Mismatch, ending.Ending.TheVariants.ScriptEnd, script.Callback.Callback}
use Rattle.note_types.specs.declared.script.Notify.{Notify}
use Rattle.neutral_machine.specs.NeutralHost.{performed, slots_of, asking_at as neutral_asking_at, asking_by as neutral_asking_by}
use Rattle.host_laws.specs.ScriptGiven.{TargetGiven}
use Rattle.host_laws.proofs.{ViewAlike.and_then_some, SeenStands.seen_alike, Entering.heights, LentCells.LentCells, LentCells.lent_cells}
use Rattle.host_laws.proofs.Marks.{total_marked}
use Rattle.ebc_base.proofs.Lists.{all_append}
use Rattle.note_types.specs.declared.event.Event.TheVariants as event
use Rattle.note_types.specs.declared.reason.Reason.TheVariants as reason

-- ---- lists

pub as_many : (made : List TypedObject) (ps : List Param) (vs : List Value) → fits_each made ps vs ≡ true → length ps ≡ length vs
unfolding fits_each
as_many made ps vs t = eqb-true (length ps) (length vs) (and_parts (nat_eq (length ps) (length vs)) _ t).0

-- ---- stores

module _ (world : World) (a : Config) where
  write_named : (v : WriteValue) → write_fits world.notes (made_objects world.notes world.script a.script.entries) v ≡ true
      → IsValue world.notes v.value
      → AllByRecursion (StoreNames world a (copied (call_under_way a.frames)))
      (write_store world.notes (made_objects world.notes world.script a.script.entries) v)
  unfolding field_at
  write_named v t l = go (field_at world.notes (made_objects world.notes world.script a.script.entries) v.object v.instance v.field) refl t
    where
      go : (q : Option Field)
          → field_at world.notes (made_objects world.notes world.script a.script.entries) v.object v.instance v.field ≡ q
          → option_map_or (λ (x : Field). fits (made_objects world.notes world.script a.script.entries)
          (content_type x.cell) v.value) q false ≡ true
          → AllByRecursion (StoreNames world a (copied (call_under_way a.frames)))
          (option_map_or (λ (x : Field). record {
            target = InObject v.object v.instance v.field;
            cell = x.cell;
            value = v.value;
          } ∷ []) q [])
      go None e t = tt
      go (Some x) e t = (
        record {
          place = FieldOf v.object v.instance v.field;
          there = refl;
          field = x;
          is_field = e;
          cell = refl;
          value = l;
        },
        tt,
      )

  writes_named : (vs : List WriteValue) → list_all (write_fits world.notes
      (made_objects world.notes world.script a.script.entries)) vs ≡ true
      → AllByRecursion (λ (v : WriteValue). IsValue world.notes v.value) vs
      → AllByRecursion (StoreNames world a (copied (call_under_way a.frames)))
      (flat_map (write_store world.notes (made_objects world.notes world.script a.script.entries)) vs)
  writes_named [] t l = tt
  writes_named (v ∷ vs) t l =
      let p = and_parts (write_fits world.notes (made_objects world.notes world.script a.script.entries) v)
      (list_all (write_fits world.notes (made_objects world.notes world.script a.script.entries)) vs) t in
      all_append (StoreNames world a (copied (call_under_way a.frames)))
      (write_store world.notes (made_objects world.notes world.script a.script.entries) v)
      (flat_map (write_store world.notes (made_objects world.notes world.script a.script.entries)) vs)
      (write_named v p.0 l.0) (writes_named vs p.1 l.1)

  out_named : (params : List WantParam) → LentCells world a (copied (call_under_way a.frames)) params → (o : OutValue)
      → IsValue world.notes o.value → AllByRecursion (StoreNames world a (copied (call_under_way a.frames))) (out_store params o)
  out_named params lent o l = go (lent_at params o.argument) refl
    where
      go : (q : Option Cell) → lent_at params o.argument ≡ q
          → AllByRecursion (StoreNames world a (copied (call_under_way a.frames)))
          (option_map_or (λ c. record { target = InArgument o.argument; cell = c; value = o.value } ∷ []) q [])
      go None e = tt
      go (Some c) e =
          let x = lent o.argument c e in
          (record { place = x.place; there = x.there; field = x.field; is_field = x.is_field; cell = x.cell; value = l }, tt)

  outs_named : (params : List WantParam) → LentCells world a (copied (call_under_way a.frames)) params → (os : List OutValue)
      → AllByRecursion (λ (o : OutValue). IsValue world.notes o.value) os
      → AllByRecursion (StoreNames world a (copied (call_under_way a.frames))) (flat_map (out_store params) os)
  outs_named params lent [] l = tt
  outs_named params lent (o ∷ os) l =
      all_append (StoreNames world a (copied (call_under_way a.frames))) (out_store params o) (flat_map (out_store params) os)
      (out_named params lent o l.0) (outs_named params lent os l.1)

  pub reply_named : (n : ℕ) (c : ScriptCall) → CallGiven world.notes world.script n c
      → LentCells world a (copied (call_under_way a.frames)) (signature_params world.notes c.signature)
      → list_all (write_fits world.notes (made_objects world.notes world.script a.script.entries)) c.write ≡ true
      → AllByRecursion (StoreNames world a (copied (call_under_way a.frames)))
      (reply_stores world.notes (made_objects world.notes world.script a.script.entries) (signature_params world.notes c.signature) c)
  unfolding reply_stores
  reply_named n c given lent t =
      all_append (StoreNames world a (copied (call_under_way a.frames)))
      (flat_map (write_store world.notes (made_objects world.notes world.script a.script.entries)) c.write)
      (flat_map (out_store (signature_params world.notes c.signature)) c.out)
      (writes_named c.write t given.writes) (outs_named (signature_params world.notes c.signature) lent c.out given.outs)

-- ---- entering

-- a function that may be entered is there
may_enter_there : (notes : Notes) (f : ℕ) → may_enter notes f ≡ true → (g : FnNote) × (slice_get notes.function f ≡ Some g)
may_enter_there notes f t = go (slice_get notes.function f) refl (and_parts (not (nat_eq f notes.entry)) _ t).1
  where
    go : (q : Option FnNote) → slice_get notes.function f ≡ q → option_map_or (λ (g : FnNote). g.enter) q false ≡ true → (g : FnNote)
        × (slice_get notes.function f ≡ Some g)
    go None e t = absurd (cc)
    go (Some g) e t = (g, e)

-- ---- accepting

pub none_left : (p : Option Ending) (q : Option Ending) → option_or p q ≡ None → (p ≡ None) × (q ≡ None)
none_left None q e = (refl, e)
none_left (Some x) q e = absurd (none-some x (sym e))

-- a call that no check refuses is one by its site, and the script has a call left
pub record Settled (asking : Asking) : Type 0 where
  pub signature : ℕ
  pub args : List Seen
  pub is : asking ≡ Asks signature None args

settled : (place : ℕ) (asking : Asking) → asking_refused place asking ≡ None → Settled asking
settled place (Asks g None args) e = record { signature = g; args = args; is = refl }
settled place c e = absurd (cc)

-- where the script's next call doesn't refuse it, there is one
pub left_over : (q : Option ScriptCall) (g : ℕ) (args : List Seen) → entry_refused q g args ≡ None → (c : ScriptCall) × (q ≡ Some c)
left_over None g args e = absurd (cc)
left_over (Some c) g args e = (c, refl)

module _ (w : ℕ) (world : World) (P : Placement) (mapped : ℕ → ℕ) (h : IsWidth w) (ok : WorldFits world) (pl : IsPlacement w world P) where
  at_new : (a : Config) (c : ScriptCall) (k i f : ℕ) (x : Field)
      → field_at world.notes (made_objects world.notes world.script (a.script.entries + 1)) k i f ≡ Some x
      → cell_field world.notes (memory_of world (with_new world a c)) (FieldOf k i f) ≡ Some x
  unfolding field_at made_objects placed_objects with_new
  at_new a c k i f x e = e

  -- stores in cells that are there once the call's objects are
  made_named : (a : Config) (c : ScriptCall) (vs : List Store) → AllByRecursion
      (StoreGiven world.notes (made_objects world.notes world.script (a.script.entries + 1))) vs
      → AllByRecursion (StoreNames world (with_new world a c) []) vs
  made_named a c [] f = tt
  made_named a c (v ∷ vs) f = (one v f.0, made_named a c vs f.1)
    where
      one : (v : Store) → StoreGiven world.notes (made_objects world.notes world.script (a.script.entries + 1)) v
          → StoreNames world (with_new world a c) [] v
      one v g = by v.target refl g.target
        where
          by : (t : Target) → v.target ≡ t → TargetGiven world.notes (made_objects world.notes world.script (a.script.entries + 1)) t v
              → StoreNames world (with_new world a c) [] v
          by (InObject k i f) e x = record {
            place = FieldOf k i f;
            there = ap (target_place []) e;
            field = x.0;
            is_field = at_new a c k i f x.0 x.1;
            cell = x.2;
            value = g.value;
          }
          by (InArgument j) e x = absurd x

  -- ---- a call that is asked for

  -- the slots that the call step copies show
  pub slots_shown : (a : Config) (r : RunState) → total w a.frames ≤ stack_bytes w world.notes → Stands w world P mapped a r
      → (place place' x : ℕ) (t : Neutral) (g : ℕ) (args : List Seen) → place ≡ place'
      → neutral_asking_at world a place t ≡ Some (Asks g None args)
      → AllZip (Shows w (addresses w world.notes P a.frames)) (slots_asked world a (Asked place t))
      (numbers_asked w world r (Asked place' x))
  unfolding neutral_asking_at
  slots_shown a r room st place place' x t g args same e =
      subst (λ p. AllZip (Shows w A) (slots_asked world a (Asked place t)) (numbers_asked w world r (Asked p x))) same
      (by (site_of world.notes place) e)
    where
      A : Addresses
      A = addresses w world.notes P a.frames

      by : (o : Option ℕ) → option_map_or (neutral_asking_by world a t) o (Some NoSite) ≡ Some (Asks g None args)
          → AllZip (Shows w (addresses w world.notes P a.frames)) (option_map_or (λ vs. vs) (option_and_then (slots_of world a) o) [])
          (option_map_or (λ xs. xs) (option_and_then (numbers_of w world r) o) [])
      by None e = tt
      by (Some f) e = asked (is_method (signature_method world.notes f) t) e
        where
          asked : (b : Bool) → (if b then option_map (Asks f None)
              (option_and_then (neutral_arguments world.notes (objects_at world a) a.frames a.cells (signature_params world.notes f))
              (slots_of world a f)) else None) ≡ Some (Asks g None args)
              → AllZip (Shows w (addresses w world.notes P a.frames)) (option_map_or (λ vs. vs) (slots_of world a f) [])
              (option_map_or (λ xs. xs) (numbers_of w world r f) [])
          asked false e = absurd (none-some (Asks g None args) e)
          asked true e =
              let q = some_of_map (Asks f None) (option_and_then
              (neutral_arguments world.notes (objects_at world a) a.frames a.cells (signature_params world.notes f))
              (slots_of world a f)) (Asks g None args) e in
              let n = and_then_some (neutral_arguments world.notes (objects_at world a) a.frames a.cells (signature_params world.notes f))
              (slots_of world a f) q.0 q.1 in
              let s = (seen_alike w world P mapped h ok pl a r room st).slots f n.0 n.1 in
              subst (λ o. AllZip (Shows w (addresses w world.notes P a.frames)) (option_map_or (λ vs. vs) o [])
              (option_map_or (λ xs. xs) (numbers_of w world r f) [])) (sym n.1)
              (subst (λ o. AllZip (Shows w (addresses w world.notes P a.frames)) n.0 (option_map_or (λ xs. xs) o [])) (sym s.1) s.2)

  pub call_fits : (a : Config) (r : RunState) (place : ℕ) (asking : Asking) → ScriptGiven world.notes world.script
      → ((g : ℕ) (args : List Seen) → asking ≡ Asks g None args
      → AllZip (Shows w (addresses w world.notes P a.frames)) (slots_asked world a (call_under_way a.frames))
      (numbers_asked w world r (marks_under_way r.hosts)))
      → PlanFits w world P a r (call_plan world a.script.entries place asking)
  unfolding call_plan
  call_fits a r place asking given shown =
      go (option_or (asking_refused place asking) (entry_refused (slice_get world.script.call a.script.entries) (asked_signature asking)
      (asked_args asking))) refl
    where
      go : (q : Option Ending) → option_or (asking_refused place asking)
          (entry_refused (slice_get world.script.call a.script.entries) (asked_signature asking) (asked_args asking)) ≡ q
          → PlanFits w world P a r (call_settled world a.script.entries (call_event place asking) q)
      go (Some ending) e = tt
      go None e =
          let n = none_left (asking_refused place asking) (entry_refused (slice_get world.script.call a.script.entries)
          (asked_signature asking) (asked_args asking)) e in
          let s = settled place asking n.0 in
          let c = left_over (slice_get world.script.call a.script.entries) (asked_signature asking) (asked_args asking) n.1 in
          let cg = given.calls a.script.entries c.0 c.1 in
          record {
            call = c.0;
            there = c.1;
            entry_is = refl;
            objects_are = ap (λ q. map script_object (objects_made_by q)) (sym c.1);
            names = made_named a c.0 (filling world.notes (length (made_objects world.notes world.script a.script.entries))
                (objects_made_by (slice_get world.script.call a.script.entries)))
                (subst (λ q. AllByRecursion (StoreGiven world.notes (made_objects world.notes world.script (a.script.entries + 1)))
                (filling world.notes (length (made_objects world.notes world.script a.script.entries)) (objects_made_by q)))
                (sym c.1) cg.made);
            shown = shown s.signature s.args s.is;
          }

  -- ---- a call that goes on

  -- the stack has room for a function that is entered, where the frames inside it fit
  room_inside : (a : Config) (e : Event) (entry f : ℕ) (values : List Value) (g : FnNote) → function_params world.notes f ≡ g.params
      → length g.params ≡ length values
      → total w (performed world a (Enters e entry f values)).frames ≤ stack_bytes w world.notes
      → return_cell + (params_bytes w g.params + total w a.frames) ≤ stack_bytes w world.notes
  unfolding performed
  room_inside a e entry f values g same many l =
      let made = made_objects world.notes world.script a.script.entries in
      let call = one_callback (call_under_way a.frames) in
      let slots : height w (param_slots world.notes made (function_params world.notes f) values) ≡ params_bytes w g.params =
      ap (λ ps. height w (param_slots world.notes made ps values)) same ∙ heights w world.notes made g.params values many in
      let inside : 0 + (return_cell + (height w (param_slots world.notes made (function_params world.notes f) values) + total w
      (with_call call a.frames))) ≤ stack_bytes w world.notes = l in
      let marked = total_marked call w a.frames in
      omega (arith, inside, slots, marked)

  enter_fits : (a : Config) (r : RunState) (n entry callbacks : ℕ) (c : ScriptCall) (b : Callback) → CallGiven world.notes world.script n c
      → slice_get c.enter callbacks ≡ Some b
      → total w (performed world a (enter_plan world.notes (made_objects world.notes world.script a.script.entries) entry callbacks
      (length (hosts a.frames)) b)).frames ≤ stack_bytes w world.notes
      → PlanFits w world P a r (enter_plan world.notes (made_objects world.notes world.script a.script.entries) entry callbacks
      (length (hosts a.frames)) b)
  unfolding enter_plan
  enter_fits a r n entry callbacks c b given there room = go (callback_fits world.notes
      (made_objects world.notes world.script a.script.entries) b) refl (nat_le frame_limit (length (hosts a.frames))) room
    where
      -- the plan, by whether the callback fits and whether it is too deep
      entering : (t d : Bool) → Plan
      entering t d = if not t then Ends [] (Mismatch (reason.Enter entry callbacks)) else if d then Ends [] (Mismatch reason.Depth)
          else Enters (event.Entered b.function (map given_value b.values)) entry b.function b.values

      go : (t : Bool) → callback_fits world.notes (made_objects world.notes world.script a.script.entries) b ≡ t → (d : Bool)
          → total w (performed world a (entering t d)).frames ≤ stack_bytes w world.notes → PlanFits w world P a r (entering t d)
      go false t d l = tt
      go true t true l = tt
      go true t false l =
          let q = and_parts (may_enter world.notes b.function) (fits_each (made_objects world.notes world.script a.script.entries)
          (function_params world.notes b.function) b.values) t in
          let f = may_enter_there world.notes b.function q.0 in
          let params : function_params world.notes b.function ≡ f.0.params = ap (λ o. option_map_or (λ (g : FnNote). g.params) o []) f.1 in
          let many = ap length (sym params) ∙ as_many (made_objects world.notes world.script a.script.entries)
          (function_params world.notes b.function) b.values q.1 in
          record {
            note = f.0;
            there = f.1;
            as_many = many;
            fit = given.callbacks callbacks b there;
            room = room_inside a (event.Entered b.function (map given_value b.values)) entry b.function b.values f.0 params many l;
          }

  reply_fits_plan : (a : Config) (r : RunState) (n entry : ℕ) (all : Bool) (c : ScriptCall) → CallGiven world.notes world.script n c
      → LentCells world a (copied (call_under_way a.frames)) (signature_params world.notes c.signature)
      → PlanFits w world P a r (reply_plan world.notes (made_objects world.notes world.script a.script.entries) entry all c)
  unfolding reply_plan reply_fits made_objects placed_objects
  reply_fits_plan a r n entry all c given lent = go (reply_fits world.notes (made_objects world.notes world.script a.script.entries) c
      && all) refl
    where
      go : (t : Bool) → (reply_fits world.notes (made_objects world.notes world.script a.script.entries) c && all) ≡ t
          → PlanFits w world P a r (if t then Replies (event.Replied entry c.result)
          (reply_stores world.notes (made_objects world.notes world.script a.script.entries)
          (signature_params world.notes c.signature) c) (signature_result world.notes c.signature) c.result
          else Ends [] (Mismatch (reason.Reply entry)))
      go false t = tt
      go true t =
          let p = and_parts (reply_fits world.notes (made_objects world.notes world.script a.script.entries) c) all t in
          let q = and_parts (fits_result (made_objects world.notes world.script a.script.entries)
          (signature_result world.notes c.signature) c.result) _ p.0 in
          let s = and_parts (list_all (write_fits world.notes (made_objects world.notes world.script a.script.entries)) c.write) _ q.1 in
          (reply_named world a n c given lent s.0, given.result)

  pub next_fits : (a : Config) (r : RunState) (entry callbacks : ℕ) (all : Bool) → ScriptGiven world.notes world.script
      → lent_there world a.frames entry (copied (call_under_way a.frames)) ≡ true
      → total w (performed world a (host_plan world a.script (GoesOn entry callbacks
      (length (hosts a.frames)) all))).frames ≤ stack_bytes w world.notes
      → PlanFits w world P a r (host_plan world a.script (GoesOn entry callbacks (length (hosts a.frames)) all))
  unfolding host_plan
  next_fits a r entry callbacks all given lent room = by_entry (slice_get world.script.call entry) refl room
    where
      made : List TypedObject
      made = made_objects world.notes world.script a.script.entries

      by_entry : (q : Option ScriptCall) → slice_get world.script.call entry ≡ q
          → total w (performed world a (option_map_or (next_plan world.notes made entry callbacks (length (hosts a.frames)) all) q
          (Ends [] ScriptEnd))).frames ≤ stack_bytes w world.notes
          → PlanFits w world P a r (option_map_or (next_plan world.notes made entry callbacks (length (hosts a.frames)) all) q
          (Ends [] ScriptEnd))
      by_entry None e l = tt
      by_entry (Some c) e l = by_callback (slice_get c.enter callbacks) refl l
        where
          by_callback : (q : Option Callback) → slice_get c.enter callbacks ≡ q
              → total w (performed world a (option_map_or (enter_plan world.notes made entry callbacks (length (hosts a.frames))) q
              (reply_plan world.notes made entry all c))).frames ≤ stack_bytes w world.notes
              → PlanFits w world P a r (option_map_or (enter_plan world.notes made entry callbacks (length (hosts a.frames))) q
              (reply_plan world.notes made entry all c))
          by_callback None g l = reply_fits_plan a r entry entry all c (given.calls entry c e)
              (lent_cells world a (copied (call_under_way a.frames)) entry c e lent)
          by_callback (Some b) g l = enter_fits a r entry entry callbacks c b (given.calls entry c e) g l

  -- ---- a notification that is due

  -- the stack has room for a function that is entered as a notification, where the frames inside it fit
  room_noted : (a : Config) (e : Event) (f : ℕ) (values : List Value) (g : FnNote) → function_params world.notes f ≡ g.params
      → length g.params ≡ length values → total w (performed world a (Notifies e f values)).frames ≤ stack_bytes w world.notes
      → return_cell + (params_bytes w g.params + total w a.frames) ≤ stack_bytes w world.notes
  unfolding performed
  room_noted a e f values g same many l =
      let made = made_objects world.notes world.script a.script.entries in
      let slots : height w (param_slots world.notes made (function_params world.notes f) values) ≡ params_bytes w g.params =
      ap (λ ps. height w (param_slots world.notes made ps values)) same ∙ heights w world.notes made g.params values many in
      let inside : 0 + (return_cell + (height w (param_slots world.notes made (function_params world.notes f) values)
      + total w a.frames)) ≤ stack_bytes w world.notes = l in
      omega (arith, inside, slots)

  -- the plan of a notification that is due fits, whatever it is
  notify_fits : (a : Config) (r : RunState) (n : Notify) → AllByRecursion (IsValue world.notes) n.args
      → total w (performed world a (notify_plan world (made_objects world.notes world.script a.script.entries) a.script
      (length (hosts a.frames)) n)).frames ≤ stack_bytes w world.notes
      → PlanFits w world P a r (notify_plan world (made_objects world.notes world.script a.script.entries) a.script
      (length (hosts a.frames)) n)
  unfolding notify_plan
  notify_fits a r n given room = go (notification_fits world made a.script n) refl (nat_le frame_limit (length (hosts a.frames))) room
    where
      made : List TypedObject
      made = made_objects world.notes world.script a.script.entries

      -- the plan, by whether the notification fits and whether it is too deep
      entering : (t d : Bool) → Plan
      entering t d =
          if not t then Ends [] (Mismatch (reason.Notify a.script.notifications))
          else if d then Ends [] (Mismatch reason.Depth)
          else Notifies (event.Notified n.function (map given_value n.args)) n.function n.args

      go : (t : Bool) → notification_fits world made a.script n ≡ t → (d : Bool)
          → total w (performed world a (entering t d)).frames ≤ stack_bytes w world.notes → PlanFits w world P a r (entering t d)
      go false t d l = tt
      go true t true l = tt
      go true t false l =
          let all_fit = fits_each made (function_params world.notes n.function) n.args in
          let served = nat_le (length world.notes.thunk) a.script.thunks in
          let q = and_parts (may_enter world.notes n.function) (all_fit && served) t in
          let f = may_enter_there world.notes n.function q.0 in
          let params : function_params world.notes n.function ≡ f.0.params = ap (λ o. option_map_or (λ (g : FnNote). g.params) o []) f.1 in
          let many = ap length (sym params)
          ∙ as_many made (function_params world.notes n.function) n.args (and_parts all_fit served q.1).0 in
          record {
            note = f.0;
            there = f.1;
            as_many = many;
            fit = given;
            room = room_noted a (event.Notified n.function (map given_value n.args)) n.function n.args f.0 params many l;
          }

  pub due_fits : (a : Config) (r : RunState) → ScriptGiven world.notes world.script
      → total w (performed world a (host_plan world a.script (IsDue (length (hosts a.frames))))).frames ≤ stack_bytes w world.notes
      → PlanFits w world P a r (host_plan world a.script (IsDue (length (hosts a.frames))))
  unfolding host_plan
  due_fits a r given room = by_notification (slice_get world.script.notify a.script.notifications) refl room
    where
      plan : Notify → Plan
      plan = notify_plan world (made_objects world.notes world.script a.script.entries) a.script (length (hosts a.frames))

      by_notification : (q : Option Notify) → slice_get world.script.notify a.script.notifications ≡ q
          → total w (performed world a (option_map_or plan q (Ends [] ScriptEnd))).frames ≤ stack_bytes w world.notes
          → PlanFits w world P a r (option_map_or plan q (Ends [] ScriptEnd))
      by_notification None e l = tt
      by_notification (Some n) e l = notify_fits a r n (given.notified a.script.notifications n e) l
