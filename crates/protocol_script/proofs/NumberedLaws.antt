-- A draft with the numbers of what it names: its values are such as texts may have, and each thing that it names is there.
use Rattle.protocol_script.proofs.Common.{◌≡◌, ℕ, suc, ◌+◌, ◌^◌, ◌<◌, ◌≤◌, Bool, List, [], ◌∷◌, ◌++◌, length, map, Option, Some, Ok, refl}
use Rattle.protocol_script.proofs.Common.{sym, ap, subst, ◌∙◌, slice_get, inl, inr, ltb-true, map-append, flat_map, position}
use Rattle.protocol_script.proofs.Common.{position_or_len, codes, nat_lt, option_and_then, row_prefix, Each, Notes, Static, CellValue}
use Rattle.protocol_script.proofs.Common.{Notify, Script, ScriptCall, ScriptObject, WriteValue, Seen, Field, Value, field_of, made_objects}
use Rattle.protocol_script.proofs.Common.{objects_of, placed_objects, script_object, shape_of, static_object, given, IsWritten, all_made}
use Rattle.protocol_script.proofs.Common.{TypedObject, within_some, all_of, each_of, CallDraft, ScriptDraft, ValueText, ok_step, same_Ok}
use Rattle.protocol_script.proofs.Common.{function_number, method_number, narrow, draft_shapes, resolved, resolved_argument, resolved_call}
use Rattle.protocol_script.proofs.Common.{resolved_calls, resolved_notifications, resolved_notify, resolved_object, resolved_objects}
use Rattle.protocol_script.proofs.Common.{resolved_value, each_none, each_more}
use Rattle.std.proofs.{Common.ap₂, lemmas.Option.cond_some, lemmas.Option.option_and_then_some}
use Rattle.note_texts.proofs.Tables.{map_some, moved}
use Rattle.note_types.specs.Limits.{IsVersion}
use Rattle.note_types.specs.declared.{fault.TomlFault.TheVariants.Name, script.Callback.Callback, script.OutValue.OutValue}
use Rattle.host_model.specs.{ScriptValues.lent, Scripts.IsArgument, Scripts.IsCallbackOf, Scripts.IsNotifyOf, Scripts.IsOutOf}
use Rattle.script_draft.specs.Records.{IsArgumentDraft, IsCallDraft, IsCallbackDraft, IsCellDraft, IsDraft, IsNotifyDraft, IsObjectDraft}
use Rattle.script_draft.specs.{Grammar.IsWritable, Records.IsOutDraft, Records.IsWriteDraft}
use Rattle.script_draft.specs.declared.{draft.NotifyDraft.NotifyDraft, draft.ObjectDraft.ObjectDraft, parts.CallbackText.CallbackText}
use Rattle.script_draft.specs.declared.parts.{CellValueText.CellValueText, OutText.OutText, WriteText.WriteText}
use Rattle.script_draft.specs.declared.value.ArgumentText.{ArgumentText}
use Rattle.script_draft.proofs.DraftLaws.{all_given, found}
use Rattle.protocol_script.specs.Resolved.{field_in, resolved_callback, resolved_cell, resolved_out, resolved_reply, resolved_write}
use Rattle.protocol_script.specs.{Numbers.field_number, Numbers.shape_number, Numbers.signature_number, Resolved.typed_shapes}
use Rattle.protocol_script.specs.declared.resolve.Reply.{Reply}
use Rattle.protocol_script.proofs.ObjectLaws.{map-flat_map, placed-all}
use Rattle.note_types.specs.declared.value.Value.TheVariants as value
use Rattle.script_draft.specs.declared.value.ArgumentText.TheVariants as argument
use Rattle.script_draft.specs.declared.value.ValueText.TheVariants as text

-- ---- numbers of names

position_within : {A : Type 0} (p : A → Bool) (xs : List A) (k : ℕ) → option_and_then narrow (position p xs) ≡ Some k → k < length xs
position_within p xs k h =
    option_and_then_some narrow (position p xs) k h (λ n at few.
    let a = cond_some (nat_lt (position_or_len p xs) (length xs)) (position_or_len p xs) n at in
    let b = cond_some (nat_lt n (2 ^ 32)) n k few in
    subst (λ z. z < length xs) (a.1 ∙ b.1) (ltb-true (position_or_len p xs) (length xs) a.0))

shape_within : (notes : Notes) (name : List ℕ) (k : ℕ) → shape_number notes name ≡ Some k → k < length notes.shape
unfolding shape_number
shape_within notes name k h = position_within _ notes.shape k h

function_within : (notes : Notes) (name : List ℕ) (k : ℕ) → function_number notes name ≡ Some k → k < length notes.function
unfolding function_number
function_within notes name k h = position_within _ notes.function k h

signature_within : (notes : Notes) (name : List ℕ) (k : ℕ) → signature_number notes name ≡ Some k → k < length notes.signature
unfolding signature_number
signature_within notes name k h = position_within _ notes.signature k h

method_within : (notes : Notes) (name : List ℕ) (k : ℕ) → method_number notes name ≡ Some k → k < length notes.methods
unfolding method_number
method_within notes name k h = position_within _ notes.methods k h

field_there : (fields : List Field) (name : List ℕ) (k : ℕ) → field_number fields name ≡ Some k → (x : Field)
    × (slice_get fields k ≡ Some x)
unfolding field_number
field_there fields name k h = within_some fields k (position_within _ fields k h)

-- ---- texts

value_written : (notes : Notes) (t : ValueText) (v : Value) → IsWritable t → resolved_value notes t ≡ Some v → IsWritten notes v
unfolding resolved_value
value_written notes (text.Int n) v h e = moved (IsWritten notes) (value.Int n) v e h
value_written notes (text.Size n c) v h e = moved (IsWritten notes) (value.Size n c) v e h
value_written notes (text.Ptr o i) v h e = moved (IsWritten notes) (value.Ptr o i) v e h
value_written notes text.Null v h e = moved (IsWritten notes) value.Null v e tt
value_written notes (text.StatusOk k) v h e = moved (IsWritten notes) (value.StatusOk k) v e h
value_written notes (text.StatusError k) v h e = moved (IsWritten notes) (value.StatusError k) v e h
value_written notes (text.Handle k) v h e = moved (IsWritten notes) (value.Handle k) v e h
value_written notes (text.Entry name) v h e = map_some _ _ v e (λ f at e. moved (IsWritten notes) (value.Entry f) v e
    (function_within notes name f at))
value_written notes (text.Method name) v h e = map_some _ _ v e
    (λ m at e. moved (IsWritten notes) (value.Method m) v e (method_within notes name m at))
value_written notes text.Any v h e = moved (IsWritten notes) value.Any v e tt

argument_written : (notes : Notes) (a : ArgumentText) (s : Seen) → IsArgumentDraft a → resolved_argument notes a ≡ Some s
    → IsArgument notes s
unfolding resolved_argument
argument_written notes argument.Out s h e = moved (IsArgument notes) (given value.Out) s e (inr refl)
argument_written notes (argument.Lent t) s h e = map_some _ _ s e
    (λ v at e. moved (IsArgument notes) (lent v) s e (inl (value_written notes t v h at)))
argument_written notes (argument.Given t) s h e = map_some _ _ s e
    (λ v at e. moved (IsArgument notes) (given v) s e (inl (value_written notes t v h at)))

cell_written : (notes : Notes) (fields : List Field) (c : CellValueText) (r : CellValue) → IsCellDraft c
    → resolved_cell notes fields c ≡ Some r → IsWritten notes r.value
unfolding resolved_cell
cell_written notes fields c r h e =
    option_and_then_some _ _ r e (λ f _ e.
    map_some _ _ r e (λ v at e.
    moved (λ (r : CellValue). IsWritten notes r.value) (record { instance = c.instance; field = f; value = v }) r e
    (value_written notes c.value v h.value at)))

callback_written : (notes : Notes) (b : CallbackText) (r : Callback) → IsCallbackDraft b → resolved_callback notes b ≡ Some r
    → IsCallbackOf notes r
unfolding resolved_callback
callback_written notes b r h e =
    option_and_then_some _ _ r e (λ f at e.
    map_some _ _ r e (λ vs all e.
    moved (IsCallbackOf notes) (record { function = f; values = vs }) r e
    (record {
      function = function_within notes b.function f at;
      values = all_given IsWritable (IsWritten notes) (resolved_value notes) b.values vs (value_written notes) h.values all;
    })))

out_written : (notes : Notes) (o : OutText) (r : OutValue) → IsOutDraft o → resolved_out notes o ≡ Some r → IsOutOf notes r
unfolding resolved_out
out_written notes o r h e =
    map_some _ _ r e (λ v at e.
    moved (IsOutOf notes) (record { argument = o.argument; value = v }) r e
    (record { argument = h.argument; written = value_written notes o.value v h.value at }))

-- A `write`, where the typed objects have these shapes: its value is one that a text may have, and its field is one of its
-- object's shape.
pub record IsNumberedWrite (notes : Notes) (shapes : List (Option ℕ)) (w : WriteValue) : Type 0 where
  pub written : IsWritten notes w.value
  pub field : (s : ℕ) → slice_get shapes w.object ≡ Some (Some s) → (x : Field) × (field_of notes s w.field ≡ Some x)

write_written : (notes : Notes) (shapes : List (Option ℕ)) (w : WriteText) (r : WriteValue) → IsWriteDraft w
    → resolved_write notes shapes w ≡ Some r → IsNumberedWrite notes shapes r
unfolding resolved_write
write_written notes shapes w r h e =
    option_and_then_some _ _ r e (λ f named e.
    map_some _ _ r e (λ v at e.
    moved (IsNumberedWrite notes shapes) (record { object = w.object; instance = w.instance; field = f; value = v }) r e
    (record {
      written = value_written notes w.value v h.value at;
      field = λ s there.
          let shape : option_and_then (λ (shape : Option ℕ). shape) (slice_get shapes w.object) ≡ Some s =
          ap (option_and_then (λ (shape : Option ℕ). shape)) there in
          let number : field_number (shape_of notes s).fields w.field ≡ Some f = sym (ap (λ z. field_in notes z w.field) shape) ∙ named in
          field_there (shape_of notes s).fields w.field f number;
    })))

-- ---- tables

-- an object with its numbers
pub record IsNumberedObject (notes : Notes) (o : ScriptObject) : Type 0 where
  pub shape : o.shape < length notes.shape
  pub count : (1 ≤ o.count) × (o.count < 2 ^ 64)
  pub cells : Each (λ (c : CellValue). IsWritten notes c.value) o.cells

-- what stands for a draft of an object
pub record IsObjectFor (notes : Notes) (o : ObjectDraft) (r : ScriptObject) : Type 0 where
  pub numbered : IsNumberedObject notes r
  pub shape : shape_number notes o.shape ≡ Some r.shape

object_for : (notes : Notes) (prefix : List ℕ) (o : ObjectDraft) (r : ScriptObject) → IsObjectDraft o
    → resolved_object notes prefix o ≡ Ok r → IsObjectFor notes o r
unfolding resolved_object
object_for notes prefix o r h e =
    ok_step _ _ r e (λ s one e.
    ok_step _ _ r e (λ cells two e.
    let at : shape_number notes o.shape ≡ Some s = found (Name (prefix ++ codes "shape")) (shape_number notes o.shape) s one in
    let fields = (shape_of notes s).fields in
    let all : all_of (resolved_cell notes fields) o.cells ≡ Some cells =
    found (Name (prefix ++ codes "cells")) (all_of (resolved_cell notes fields) o.cells) cells two in
    subst (IsObjectFor notes o) (same_Ok (record { shape = s; count = o.count; cells = cells }) r e)
    (record {
      numbered = record {
        shape = shape_within notes o.shape s at;
        count = h.count;
        cells = all_given IsCellDraft (λ (c : CellValue). IsWritten notes c.value) (resolved_cell notes fields) o.cells cells
            (cell_written notes fields) h.cells all;
      };
      shape = at;
    })))

-- the shapes of objects, each there
abbrev pub shapes_of : List ScriptObject → List (Option ℕ)
shapes_of objects = map (λ (o : ScriptObject). Some o.shape) objects

-- what stands for drafts of objects
pub record AreObjectsFor (notes : Notes) (os : List ObjectDraft) (rs : List ScriptObject) : Type 0 where
  pub numbered : Each (IsNumberedObject notes) rs
  pub shapes : draft_shapes notes os ≡ shapes_of rs

objects_from : (notes : Notes) (path : List ℕ) (i : ℕ) (os : List ObjectDraft) (rs : List ScriptObject) → Each IsObjectDraft os
    → each_of (λ i o. resolved_object notes (row_prefix path i) o) i os ≡ Ok rs → AreObjectsFor notes os rs
unfolding each_of
objects_from notes path i [] rs h e = subst (AreObjectsFor notes []) (same_Ok [] rs e)
    (record { numbered = each_none (IsNumberedObject notes); shapes = refl })
objects_from notes path i (o ∷ os) rs h e =
    ok_step _ _ rs e (λ r one e.
    ok_step _ _ rs e (λ more two e.
    let a = object_for notes (row_prefix path i) o r (h 0 o refl) one in
    let b = objects_from notes path (i + 1) os more (λ k x g. h (suc k) x g) two in
    subst (AreObjectsFor notes (o ∷ os)) (same_Ok (r ∷ more) rs e)
    (record {
      numbered = each_more (IsNumberedObject notes) r more a.numbered b.numbered;
      shapes = ap₂ (λ x xs. x ∷ xs) a.shape b.shapes;
    })))

objects_for : (notes : Notes) (path : List ℕ) (os : List ObjectDraft) (rs : List ScriptObject) → Each IsObjectDraft os
    → resolved_objects notes path os ≡ Ok rs → AreObjectsFor notes os rs
unfolding resolved_objects
objects_for notes path os rs h e = objects_from notes path 0 os rs h e

-- ---- calls

-- a reply with its numbers, where the typed objects have these shapes
pub record IsNumberedReply (notes : Notes) (shapes : List (Option ℕ)) (r : Reply) : Type 0 where
  pub out : Each (IsOutOf notes) r.out
  pub write : Each (IsNumberedWrite notes shapes) r.write
  pub result : IsWritten notes r.result

reply_for : (notes : Notes) (shapes : List (Option ℕ)) (prefix : List ℕ) (c : CallDraft) (r : Reply) → IsCallDraft c
    → resolved_reply notes shapes prefix c ≡ Ok r → IsNumberedReply notes shapes r
unfolding resolved_reply
reply_for notes shapes prefix c r h e =
    ok_step _ _ r e (λ outs one e.
    ok_step _ _ r e (λ writes two e.
    ok_step _ _ r e (λ result three e.
    subst (IsNumberedReply notes shapes) (same_Ok (record { out = outs; write = writes; result = result }) r e)
    (record {
      out = all_given IsOutDraft (IsOutOf notes) (resolved_out notes) c.out outs (out_written notes) h.out
          (found (Name (prefix ++ codes "out")) (all_of (resolved_out notes) c.out) outs one);
      write = all_given IsWriteDraft (IsNumberedWrite notes shapes) (resolved_write notes shapes) c.write writes
          (write_written notes shapes) h.write (found (Name (prefix ++ codes "write"))
          (all_of (resolved_write notes shapes) c.write) writes two);
      result = value_written notes c.result result h.result (found (Name (prefix ++ codes "result"))
          (resolved_value notes c.result) result three);
    }))))

-- a call with its numbers, where the typed objects have these shapes
pub record IsNumberedCall (notes : Notes) (shapes : List (Option ℕ)) (c : ScriptCall) : Type 0 where
  pub signature : c.signature < length notes.signature
  pub args : Each (IsArgument notes) c.args
  pub enter : Each (IsCallbackOf notes) c.enter
  pub make : Each (IsNumberedObject notes) c.make
  pub reply : IsNumberedReply notes shapes (record { out = c.out; write = c.write; result = c.result })

-- what stands for a draft of a call
pub record IsCallFor (notes : Notes) (shapes : List (Option ℕ)) (c : CallDraft) (r : ScriptCall) : Type 0 where
  pub numbered : IsNumberedCall notes shapes r
  pub makes : draft_shapes notes c.make ≡ shapes_of r.make

call_for : (notes : Notes) (shapes : List (Option ℕ)) (prefix : List ℕ) (c : CallDraft) (r : ScriptCall) → IsCallDraft c
    → resolved_call notes shapes prefix c ≡ Ok r → IsCallFor notes shapes c r
unfolding resolved_call
call_for notes shapes prefix c r h e =
    ok_step _ _ r e (λ signature one e.
    ok_step _ _ r e (λ args two e.
    ok_step _ _ r e (λ enter three e.
    ok_step _ _ r e (λ make four e.
    ok_step _ _ r e (λ reply five e.
    let made = objects_for notes (prefix ++ codes "make") c.make make h.make four in
    let replied = reply_for notes shapes prefix c reply h five in
    subst (IsCallFor notes shapes c) (same_Ok (record {
      signature = signature;
      args = args;
      enter = enter;
      make = make;
      out = reply.out;
      write = reply.write;
      result = reply.result;
    }) r e)
    (record {
      numbered = record {
        signature = signature_within notes c.signature signature
            (found (Name (prefix ++ codes "signature")) (signature_number notes c.signature) signature one);
        args = all_given IsArgumentDraft (IsArgument notes) (resolved_argument notes) c.args args (argument_written notes) h.args
            (found (Name (prefix ++ codes "args")) (all_of (resolved_argument notes) c.args) args two);
        enter = all_given IsCallbackDraft (IsCallbackOf notes) (resolved_callback notes) c.enter enter (callback_written notes) h.enter
            (found (Name (prefix ++ codes "enter")) (all_of (resolved_callback notes) c.enter) enter three);
        make = made.numbered;
        reply = record { out = replied.out; write = replied.write; result = replied.result };
      };
      makes = made.shapes;
    }))))))

-- what stands for drafts of calls
pub record AreCallsFor (notes : Notes) (shapes : List (Option ℕ)) (cs : List CallDraft) (rs : List ScriptCall) : Type 0 where
  pub numbered : Each (IsNumberedCall notes shapes) rs
  pub makes : flat_map (λ (c : CallDraft). draft_shapes notes c.make) cs ≡ flat_map (λ (c : ScriptCall). shapes_of c.make) rs

calls_from : (notes : Notes) (shapes : List (Option ℕ)) (i : ℕ) (cs : List CallDraft) (rs : List ScriptCall) → Each IsCallDraft cs
    → each_of (λ i c. resolved_call notes shapes (row_prefix (codes "call") i) c) i cs ≡ Ok rs → AreCallsFor notes shapes cs rs
unfolding each_of
calls_from notes shapes i [] rs h e = subst (AreCallsFor notes shapes []) (same_Ok [] rs e)
    (record { numbered = each_none (IsNumberedCall notes shapes); makes = refl })
calls_from notes shapes i (c ∷ cs) rs h e =
    ok_step _ _ rs e (λ r one e.
    ok_step _ _ rs e (λ more two e.
    let a = call_for notes shapes (row_prefix (codes "call") i) c r (h 0 c refl) one in
    let b = calls_from notes shapes (i + 1) cs more (λ k x g. h (suc k) x g) two in
    subst (AreCallsFor notes shapes (c ∷ cs)) (same_Ok (r ∷ more) rs e)
    (record {
      numbered = each_more (IsNumberedCall notes shapes) r more a.numbered b.numbered;
      makes = ap₂ (λ x xs. x ++ xs) a.makes b.makes;
    })))

calls_for : (notes : Notes) (shapes : List (Option ℕ)) (cs : List CallDraft) (rs : List ScriptCall) → Each IsCallDraft cs
    → resolved_calls notes shapes cs ≡ Ok rs → AreCallsFor notes shapes cs rs
unfolding resolved_calls
calls_for notes shapes cs rs h e = calls_from notes shapes 0 cs rs h e

-- ---- the whole

-- the shapes of typed objects, each there
abbrev pub made_shapes : List TypedObject → List (Option ℕ)
made_shapes made = map (λ (o : TypedObject). Some o.shape) made

-- a script with its numbers
pub record IsNumberedScript (notes : Notes) (s : Script) : Type 0 where
  pub version : IsVersion s.version
  pub args : Each (IsWritten notes) s.args
  pub object : Each (IsNumberedObject notes) s.object
  pub call : Each (IsNumberedCall notes (made_shapes (all_made notes s))) s.call
  pub notify : Each (IsNotifyOf notes) s.notify
  pub none : s.version ≡ 1 → s.notify ≡ []

-- ---- notifications

notify_for : (notes : Notes) (prefix : List ℕ) (n : NotifyDraft) (r : Notify) → IsNotifyDraft n → resolved_notify notes prefix n ≡ Ok r
    → IsNotifyOf notes r
unfolding resolved_notify
notify_for notes prefix n r h e =
    ok_step _ _ r e (λ function one e.
    ok_step _ _ r e (λ args two e.
    subst (IsNotifyOf notes) (same_Ok (record { at = n.at; function = function; args = args }) r e)
    (record {
      at = h.at;
      function = function_within notes n.function function
          (found (Name (prefix ++ codes "function")) (function_number notes n.function) function one);
      args = all_given IsWritable (IsWritten notes) (resolved_value notes) n.args args (value_written notes) h.args
          (found (Name (prefix ++ codes "args")) (all_of (resolved_value notes) n.args) args two);
    })))

notifications_from : (notes : Notes) (i : ℕ) (ns : List NotifyDraft) (rs : List Notify) → Each IsNotifyDraft ns
    → each_of (λ i n. resolved_notify notes (row_prefix (codes "notify") i) n) i ns ≡ Ok rs → Each (IsNotifyOf notes) rs
unfolding each_of
notifications_from notes i [] rs h e = subst (Each (IsNotifyOf notes)) (same_Ok [] rs e) (each_none (IsNotifyOf notes))
notifications_from notes i (n ∷ ns) rs h e =
    ok_step _ _ rs e (λ r one e.
    ok_step _ _ rs e (λ more two e.
    subst (Each (IsNotifyOf notes)) (same_Ok (r ∷ more) rs e)
    (each_more (IsNotifyOf notes) r more (notify_for notes (row_prefix (codes "notify") i) n r (h 0 n refl) one)
    (notifications_from notes (i + 1) ns more (λ k x g. h (suc k) x g) two))))

notifications_for : (notes : Notes) (ns : List NotifyDraft) (rs : List Notify) → Each IsNotifyDraft ns
    → resolved_notifications notes ns ≡ Ok rs → Each (IsNotifyOf notes) rs
unfolding resolved_notifications
notifications_for notes ns rs h e = notifications_from notes 0 ns rs h e

-- where none are read, none stand for them
notifications_none : (notes : Notes) (ns : List NotifyDraft) (rs : List Notify) → ns ≡ [] → resolved_notifications notes ns ≡ Ok rs
    → rs ≡ []
unfolding resolved_notifications each_of
notifications_none notes [] rs n e = sym (same_Ok [] rs e)
notifications_none notes (x ∷ ns) rs n e = cc n

map-map : {A B C : Type 0} (g : B → C) (f : A → B) (xs : List A) → map g (map f xs) ≡ map (λ x. g (f x)) xs
map-map g f [] = refl
map-map g f (x ∷ xs) = ap (λ z. g (f x) ∷ z) (map-map g f xs)

-- the shapes of the typed objects that a draft has are those of the script
shapes_are : (notes : Notes) (d : ScriptDraft) (s : Script) → draft_shapes notes d.object ≡ shapes_of s.object
    → flat_map (λ (c : CallDraft). draft_shapes notes c.make) d.call ≡ flat_map (λ (c : ScriptCall). shapes_of c.make) s.call
    → typed_shapes notes d ≡ made_shapes (all_made notes s)
unfolding typed_shapes made_objects
shapes_are notes d s objects calls =
    let shape : TypedObject → Option ℕ = λ o. Some o.shape in
    let placed = placed_objects s (length s.call) in
    let of_placed : made_shapes (map script_object placed) ≡ shapes_of s.object ++ flat_map (λ (c : ScriptCall). shapes_of c.make) s.call =
    map-map shape script_object placed
    ∙ (ap shapes_of (placed-all s)
    ∙ (map-append (λ (o : ScriptObject). Some o.shape) s.object (flat_map objects_of s.call)
    ∙ ap (λ z. shapes_of s.object ++ z) (map-flat_map (λ (o : ScriptObject). Some o.shape) objects_of s.call))) in
    let whole : made_shapes (all_made notes s) ≡ map (λ (o : Static). Some o.shape) notes.statics
    ++ (shapes_of s.object ++ flat_map (λ (c : ScriptCall). shapes_of c.make) s.call) =
    map-append shape (map static_object notes.statics) (map script_object placed)
    ∙ ap₂ (λ x y. x ++ y) (map-map shape static_object notes.statics) of_placed in
    ap₂ (λ x y. map (λ (o : Static). Some o.shape) notes.statics ++ (x ++ y)) objects calls ∙ sym whole

pub script_for : (notes : Notes) (d : ScriptDraft) (s : Script) → IsDraft d → resolved notes d ≡ Ok s → IsNumberedScript notes s
unfolding resolved
script_for notes d s h e =
    ok_step _ _ s e (λ args one e.
    ok_step _ _ s e (λ object two e.
    ok_step _ _ s e (λ call three e.
    ok_step _ _ s e (λ notify four e.
    let whole : Script = record { version = d.version; args = args; object = object; call = call; notify = notify } in
    let os = objects_for notes (codes "object") d.object object h.object two in
    let cs = calls_for notes (typed_shapes notes d) d.call call h.call three in
    let shapes : typed_shapes notes d ≡ made_shapes (all_made notes whole) = shapes_are notes d whole os.shapes cs.makes in
    subst (IsNumberedScript notes) (same_Ok whole s e)
    (record {
      version = h.version;
      args = all_given IsWritable (IsWritten notes) (resolved_value notes) d.args args (value_written notes) h.args
          (found (Name (codes "args")) (all_of (resolved_value notes) d.args) args one);
      object = os.numbered;
      call = subst (λ z. Each (IsNumberedCall notes z) call) shapes cs.numbered;
      notify = notifications_for notes d.notify notify h.notify four;
      none = λ one. notifications_none notes d.notify notify (h.none one) four;
    })))))
