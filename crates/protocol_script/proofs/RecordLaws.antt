-- A script that meets the conditions: what they say of each thing by itself.
use Rattle.protocol_script.proofs.Common.{◌≡◌, ℕ, ◌+◌, ◌≤◌, ◌<◌, zero, suc, List, [], ◌∷◌, length, take, Option, Some, None, Result, Ok}
use Rattle.protocol_script.proofs.Common.{Err, Bool, true, false, ◌&&◌, refl, sym, ap, subst, ◌∙◌, arith, slice_get, ⊎_elim, map, get_or}
use Rattle.protocol_script.proofs.Common.{cases_lt, and_parts, ltb-true, nat_tests, same_Some, slice_get-map, length-map, list_all, sum_by}
use Rattle.protocol_script.proofs.Common.{option_map_or, ◌||◌, nat_le, nat_lt, not, codes, ◌++◌, IfOk, within_some, row_prefix, NotesEnd}
use Rattle.protocol_script.proofs.Common.{TomlFault, Notes, CellValue, Notify, Script, ScriptCall, ScriptObject, WriteValue, Field, Value}
use Rattle.protocol_script.proofs.Common.{field_of, made_objects, shape_of, TypedObject, all_pass, call_args, call_passes, calls_pass}
use Rattle.protocol_script.proofs.Common.{notify_ascends, notify_at, table_passes, tables_pass, all_settled, is_filled, is_settled}
use Rattle.protocol_script.proofs.Common.{call_limit, calls_limit, object_limit, objects_limit, IsWritten, all_made, have_room, is_needed}
use Rattle.protocol_script.proofs.Common.{fits_at, is_shape, resolved, ScriptDraft, ok_step, same_Ok}
use Rattle.std.proofs.{Common.◌-◌, Common.nat_eq, Common.subst₂, lemmas.Bool.leb-true, lemmas.Bool.ne_eqb}
use Rattle.std.specs.{List.range_with_len, List.Sorted.IsStrictlyIncreasing, Option.option_map}
use Rattle.ebc_base.specs.Steps.{◌>>=◌, passes}
use Rattle.note_texts.specs.{Keys.document, Outcome.Gives}
use Rattle.note_types.specs.Cells.{content_type}
use Rattle.note_types.specs.declared.value.Value.TheVariants.{Ptr}
use Rattle.host_model.specs.{HostPlans.signature_params, ScriptValues.fits, Scripts.IsCallOf, Scripts.IsCellOf, Scripts.IsObjectOf}
use Rattle.host_model.specs.Scripts.{IsScript, IsWriteOf, callbacks_of, is_given}
use Rattle.protocol_script.specs.Conditions.{all_tables_pass, args_fit, conditions, has_args, is_there, is_later, notify_conditions}
use Rattle.protocol_script.specs.{Conditions.table_conditions, Conditions.table_meets, Conditions.waits_for, Contents.are_contents}
use Rattle.protocol_script.specs.{Contents.cell_fits, Contents.is_by, Limits.limits, Scripts.script_in, Scripts.script_of}
use Rattle.protocol_script.specs.declared.tables.TableCondition.TheVariants.{Instances, WellFormed, Contents, Pointers}
use Rattle.protocol_script.specs.declared.tables.TableCondition.{TableCondition}
use Rattle.script_draft.specs.{Drafts.draft_of, Once.once, Records.IsDraft}
use Rattle.script_draft.proofs.DraftLaws.{draft_is}
use Rattle.protocol_script.proofs.NumberedLaws.{IsNumberedCall, IsNumberedObject, IsNumberedScript, IsNumberedWrite, made_shapes}
use Rattle.protocol_script.proofs.{NumberedLaws.script_for, ShapeLaws.all-at, ShapeLaws.shape-of}

-- ---- steps

pub passed : (b : Bool) (e : TomlFault) → passes b e ≡ Ok tt → b ≡ true
passed true e h = refl
passed false e h = cc h

pub both-pass : (a b : Result (Unit {0}) TomlFault) → (a >>= λ _. b) ≡ Ok tt → (a ≡ Ok tt) × (b ≡ Ok tt)
both-pass (Ok u) b h = (refl, h)
both-pass (Err e) b h = cc h

pub pass-at : {A : Type 0} (check : ℕ → A → Result (Unit {0}) TomlFault) (i : ℕ) (xs : List A) (k : ℕ) (x : A) → all_pass check i xs ≡ Ok tt
    → slice_get xs k ≡ Some x → check (i + k) x ≡ Ok tt
unfolding all_pass
pass-at check i [] k x h at = cc at
pass-at check i (y ∷ ys) zero x h at =
    let same : y ≡ x = same_Some _ _ at in
    let here : check i y ≡ Ok tt = (both-pass (check i y) (all_pass check (i + 1) ys) h).0 in
    let n : i ≡ i + 0 = omega arith in
    subst (λ z. check z x ≡ Ok tt) n (subst (λ z. check i z ≡ Ok tt) same here)
pass-at check i (y ∷ ys) (suc k) x h at =
    let rest : check (i + 1 + k) x ≡ Ok tt = pass-at check (i + 1) ys k x (both-pass (check i y) (all_pass check (i + 1) ys) h).1 at in
    let n : i + 1 + k ≡ i + suc k = omega arith in
    subst (λ z. check z x ≡ Ok tt) n rest

-- ---- numbers

number-at : (p : ℕ → Bool) (n a i : ℕ) → list_all p (range_with_len a n) ≡ true → a ≤ i → i < a + n → p i ≡ true
number-at p zero a i h low high = absurd (omega (arith, low, high))
number-at p (suc n) a i h low high =
    let q = and_parts (p a) (list_all p (range_with_len (a + 1) n)) h in
    ⊎_elim
    (λ below. number-at p n (a + 1) i q.1 (omega (arith, below)) (omega (arith, high)))
    (λ above. let same : a ≡ i = omega (arith, low, above) in subst (λ z. p z ≡ true) same q.0)
    (cases_lt a i)

-- ---- tables of objects

table-at : (condition : TableCondition) (notes : Notes) (made : List TypedObject) (path : List ℕ) (first : ℕ) (objects : List ScriptObject)
    (k : ℕ) (o : ScriptObject)
    → tables_pass condition notes made path first objects ≡ Ok tt → slice_get objects k ≡ Some o
    → table_meets condition notes made (first + k) o ≡ true
unfolding tables_pass
table-at condition notes made path first objects k o h at =
    let here = pass-at (λ i x. table_passes condition notes made path (first + i) i x) 0 objects k o h at in
    let n : 0 + k ≡ k = omega arith in
    ap (λ z. table_meets condition notes made (first + z) o) (sym n) ∙ passed (table_meets condition notes made (first + (0 + k)) o) _ here

cell-field : (notes : Notes) (made : List TypedObject) (o : ScriptObject) (c : CellValue) (found : Option Field)
    → field_of notes o.shape c.field ≡ found → c.instance < o.count → IsWritten notes c.value
    → option_map_or (λ (x : Field). fits made (content_type x.cell) c.value) found false ≡ true → IsCellOf notes made o c
cell-field notes made o c None at within written h = cc h
cell-field notes made o c (Some x) at within written h = record { instance = within; field = x; there = at; written = written; value = h }

settled-given : (fields : List Field) (cells : List CellValue) (i f : ℕ) (x : Field) (found : Option Field) → slice_get fields f ≡ found
    → found ≡ Some x → is_needed x.cell ≡ true
    → (option_map_or (λ (v : Field). not (is_needed v.cell)) found true || is_given cells i f) ≡ true → is_given cells i f ≡ true
settled-given fields cells i f x None at is needed h = cc is
settled-given fields cells i f x (Some y) at is needed h =
    let same : y ≡ x = same_Some _ _ is in
    let e : is_needed y.cell ≡ true = ap (λ (v : Field). is_needed v.cell) same ∙ needed in
    rw e at h

pointer-by : (number p i : ℕ) (v : Value) → v ≡ Ptr p i → is_by number v ≡ true → p ≤ number
pointer-by number p i v is h =
    let e : is_by number (Ptr p i) ≡ true = subst (λ z. is_by number z ≡ true) is h in
    grind (arith, nat_tests, e)

object-of : (notes : Notes) (made : List TypedObject) (number : ℕ) (o : ScriptObject) → IsNumberedObject notes o
    → table_meets Instances notes made number o ≡ true → table_meets WellFormed notes made number o ≡ true
    → table_meets Contents notes made number o ≡ true → table_meets Pointers notes made number o ≡ true
    → IsObjectOf notes made number o
unfolding table_meets is_shape are_contents is_filled all_settled
object-of notes made number o numbered inside formed contents pointers =
    let parts = and_parts (list_all (cell_fits notes made o.shape) o.cells) _ contents in
    record {
      known = numbered.shape;
      count = numbered.count;
      shape = shape-of (shape_of notes o.shape) (and_parts _ (fits_at 4 (shape_of notes o.shape)
          && fits_at 8 (shape_of notes o.shape)) formed).1;
      cells = λ k c at.
          let within : nat_lt c.instance o.count ≡ true = all-at (λ (v : CellValue). nat_lt v.instance o.count) o.cells k c inside at in
          let fit : cell_fits notes made o.shape c ≡ true = all-at (cell_fits notes made o.shape) o.cells k c parts.0 at in
          cell-field notes made o c (field_of notes o.shape c.field) refl (grind (arith, nat_tests, within)) (numbered.cells k c at) fit;
      given = λ i f x within at needed.
          let fields = (shape_of notes o.shape).fields in
          let all : list_all (is_settled fields o.cells i) (range_with_len 0 (length fields)) ≡ true =
          number-at _ o.count 0 i parts.1 (omega arith) (omega (arith, within)) in
          let there : f < length fields = within_of fields f x at in
          settled-given fields o.cells i f x (slice_get fields f) refl at needed
          (number-at (is_settled fields o.cells i) (length fields) 0 f all (omega arith) (omega (arith, there)));
      earlier = λ k c p i at is. pointer-by number p i c.value is
          (all-at (λ (v : CellValue). is_by number v.value) o.cells k c pointers at);
    }
  where
    within_of : {A : Type 0} (xs : List A) (k : ℕ) (x : A) → slice_get xs k ≡ Some x → k < length xs
    within_of [] k x at = cc at
    within_of (y ∷ ys) zero x at = omega arith
    within_of (y ∷ ys) (suc k) x at = let h = within_of ys k x at in omega (arith, h)

-- ---- calls

write-found : (notes : Notes) (made : List TypedObject) (w : WriteValue) (found : Option TypedObject) → slice_get made w.object ≡ found
    → IsNumberedWrite notes (made_shapes made) w
    → option_map_or (λ (o : TypedObject). nat_lt w.instance o.count) found false ≡ true → IsWriteOf notes made w
write-found notes made w None at numbered h = cc h
write-found notes made w (Some o) at numbered h =
    let shape : slice_get (made_shapes made) w.object ≡ Some (Some o.shape) =
    slice_get-map (λ (o : TypedObject). Some o.shape) made w.object ∙ ap (option_map (λ (o : TypedObject). Some o.shape)) at in
    let field = numbered.field o.shape shape in
    record {
      object = o;
      there = at;
      instance = grind (arith, nat_tests, h);
      field = field.0;
      is_field = field.1;
      written = numbered.written;
    }

call-at : (condition : TableCondition) (notes : Notes) (script : Script) (made : List TypedObject) (i : ℕ) (c : ScriptCall)
    → calls_pass condition notes script made ≡ Ok tt → slice_get script.call i ≡ Some c
    → call_passes condition notes made (length (made_objects notes script i)) i c ≡ Ok tt
unfolding calls_pass
call-at condition notes script made i c h at =
    let here = pass-at (λ k x. call_passes condition notes made (length (made_objects notes script k)) k x) 0 script.call i c h at in
    let n : 0 + i ≡ i = omega arith in
    subst (λ z. call_passes condition notes made (length (made_objects notes script z)) z c ≡ Ok tt) n here

made-at : (condition : TableCondition) (notes : Notes) (script : Script) (made : List TypedObject) (i : ℕ) (c : ScriptCall) (j : ℕ)
    (o : ScriptObject)
    → calls_pass condition notes script made ≡ Ok tt → slice_get script.call i ≡ Some c → slice_get c.make j ≡ Some o
    → table_meets condition notes made (length (made_objects notes script i) + j) o ≡ true
unfolding call_passes
made-at condition notes script made i c j o h at at-make =
    table-at condition notes made (row_prefix (codes "call") i ++ codes "make") (length (made_objects notes script i)) c.make j o
    (both-pass _ _ (call-at condition notes script made i c h at)).0 at-make

writes-at : (notes : Notes) (script : Script) (made : List TypedObject) (i : ℕ) (c : ScriptCall)
    → calls_pass Instances notes script made ≡ Ok tt → slice_get script.call i ≡ Some c
    → list_all (λ (w : WriteValue). is_there made w.object w.instance) c.write ≡ true
unfolding call_passes
writes-at notes script made i c h at = passed _ _ (both-pass _ _ (call-at Instances notes script made i c h at)).1

-- ---- the whole

pub record MeetsAll (notes : Notes) (script : Script) (condition : TableCondition) : Type 0 where
  pub objects : tables_pass condition notes (all_made notes script) (codes "object") (length notes.statics) script.object ≡ Ok tt
  pub calls : calls_pass condition notes script (all_made notes script) ≡ Ok tt

meets-all : (notes : Notes) (script : Script) (condition : TableCondition)
    → all_tables_pass condition notes script (all_made notes script) ≡ Ok tt → MeetsAll notes script condition
unfolding all_tables_pass
meets-all notes script condition h = let p = both-pass _ _ h in record { objects = p.0; calls = p.1 }

pub record MeetsTables (notes : Notes) (script : Script) : Type 0 where
  pub instances : MeetsAll notes script Instances
  pub formed : MeetsAll notes script WellFormed
  pub contents : MeetsAll notes script Contents
  pub pointers : MeetsAll notes script Pointers

meets-tables : (notes : Notes) (script : Script) → table_conditions notes script (all_made notes script) ≡ Ok tt → MeetsTables notes script
unfolding table_conditions
meets-tables notes script h =
    let a = both-pass _ _ h in
    let b = both-pass _ _ a.1 in
    let d = both-pass _ _ b.1 in
    record {
      instances = meets-all notes script Instances a.0;
      formed = meets-all notes script WellFormed b.0;
      contents = meets-all notes script Contents d.0;
      pointers = meets-all notes script Pointers d.1;
    }

pub record MeetsLimits (notes : Notes) (script : Script) : Type 0 where
  pub objects : objects_limit notes script.object ≡ Ok tt
  pub calls : calls_limit notes script ≡ Ok tt

meets-limits : (notes : Notes) (script : Script) → limits notes script ≡ Ok tt → MeetsLimits notes script
unfolding limits
meets-limits notes script h = let p = both-pass _ _ h in record { objects = p.0; calls = p.1 }

room-at : (notes : Notes) (objects : List ScriptObject) (k : ℕ) (o : ScriptObject) → objects_limit notes objects ≡ Ok tt
    → slice_get objects k ≡ Some o → have_room notes (take (k + 1) objects) ≡ true
unfolding objects_limit
room-at notes objects k o h at =
    let here = pass-at (λ i (x : ScriptObject). object_limit notes objects i) 0 objects k o h at in
    let n : 0 + k ≡ k = omega arith in
    ap (λ z. have_room notes (take (z + 1) objects)) (sym n) ∙ passed (have_room notes (take (0 + k + 1) objects)) _ here

limit-at : (notes : Notes) (script : Script) (i : ℕ) (c : ScriptCall) → calls_limit notes script ≡ Ok tt → slice_get script.call i ≡ Some c
    → call_limit notes script i ≡ Ok tt
unfolding calls_limit
limit-at notes script i c h at =
    let here = pass-at (λ k (x : ScriptCall). call_limit notes script k) 0 script.call i c h at in
    let n : 0 + i ≡ i = omega arith in
    subst (λ z. call_limit notes script z ≡ Ok tt) n here

args-at : (notes : Notes) (script : Script) (i : ℕ) (c : ScriptCall) → all_pass (call_args notes) 0 script.call ≡ Ok tt
    → slice_get script.call i ≡ Some c → length c.args ≡ length (signature_params notes c.signature)
args-at notes script i c h at =
    let e : has_args notes c ≡ true = passed (has_args notes c) _ (pass-at (call_args notes) 0 script.call i c h at) in
    grind (arith, nat_tests, e)

call-of : (notes : Notes) (script : Script) (i : ℕ) (c : ScriptCall) → slice_get script.call i ≡ Some c
    → IsNumberedCall notes (made_shapes (all_made notes script)) c → all_pass (call_args notes) 0 script.call ≡ Ok tt
    → MeetsTables notes script → MeetsLimits notes script → IsCallOf notes script i c
unfolding call_limit
call-of notes script i c at numbered args tables few =
    let a = both-pass _ _ (limit-at notes script i c few.calls at) in
    let b = both-pass _ _ a.1 in
    let made = all_made notes script in
    let below : nat_lt i 16384 ≡ true = passed _ _ a.0 in
    let callbacks : nat_le (sum_by callbacks_of (take (i + 1) script.call)) 16384 ≡ true = passed _ _ b.1 in
    record {
      signature = numbered.signature;
      seen = numbered.args;
      enter = numbered.enter;
      out = numbered.reply.out;
      result = numbered.reply.result;
      args = args-at notes script i c args at;
      make = λ j o there.
          object-of notes made (length (made_objects notes script i) + j) o (numbered.make j o there)
          (made-at Instances notes script made i c j o tables.instances.calls at there)
          (made-at WellFormed notes script made i c j o tables.formed.calls at there)
          (made-at Contents notes script made i c j o tables.contents.calls at there)
          (made-at Pointers notes script made i c j o tables.pointers.calls at there);
      write = λ k w there.
          let e : is_there made w.object w.instance ≡ true = all-at (λ (v : WriteValue). is_there made v.object v.instance) c.write k w
          (writes-at notes script made i c tables.instances.calls at) there in
          write-found notes made w (slice_get made w.object) refl (numbered.reply.write k w there) e;
      few = grind (arith, nat_tests, below);
      room = passed _ _ b.0;
      callbacks = grind (arith, nat_tests, callbacks);
    }

-- each notification waits for more instructions than the one before
later-at : (ns : List Notify) (i : ℕ) (n : Notify) → notify_ascends ns ≡ Ok tt → slice_get ns i ≡ Some n → is_later ns i ≡ true
unfolding notify_ascends
later-at ns i n h at =
    let here = pass-at (λ k (x : Notify). notify_at ns k) 0 ns i n h at in
    let z : 0 + i ≡ i = omega arith in
    passed (is_later ns i) _ (subst (λ k. notify_at ns k ≡ Ok tt) z here)

waits-at : (ns : List Notify) (k : ℕ) → waits_for ns k ≡ get_or (map (λ (n : Notify). n.at) ns) k 0
waits-at [] k = refl
waits-at (n ∷ ns) zero = refl
waits-at (n ∷ ns) (suc k) = waits-at ns k

ascends-of : (ns : List Notify) → notify_ascends ns ≡ Ok tt → IsStrictlyIncreasing (map (λ (n : Notify). n.at) ns)
ascends-of ns h k l =
    let many : length (map (λ (n : Notify). n.at) ns) ≡ length ns = length-map ns (λ (n : Notify). n.at) in
    let n = within_some ns (k + 1) (omega (arith, l, many)) in
    let later : is_later ns (k + 1) ≡ true = later-at ns (k + 1) n.0 h n.1 in
    let first : nat_eq (k + 1) 0 ≡ false = ne_eqb (k + 1) 0 (λ z. omega (arith, z)) in
    let back : k + 1 - 1 ≡ k = omega arith in
    let waits : ℕ → Bool = λ j. nat_lt (waits_for ns j) (waits_for ns (k + 1)) in
    let less : waits k ≡ true = subst (λ j. waits j ≡ true) back (subst (λ b. (b || waits (k + 1 - 1)) ≡ true) first later) in
    subst₂ (λ x y. x < y) (waits-at ns k) (waits-at ns (k + 1)) (ltb-true (waits_for ns k) (waits_for ns (k + 1)) less)

notifications-of : (script : Script) → notify_conditions script ≡ Ok tt
    → (length script.notify ≤ 16384) × IsStrictlyIncreasing (map (λ (n : Notify). n.at) script.notify)
unfolding notify_conditions
notifications-of script h =
    let p = both-pass _ _ h in
    (leb-true (length script.notify) 16384 (passed (nat_le (length script.notify) 16384) _ p.0), ascends-of script.notify p.1)

pub script-of : (notes : Notes) (script : Script) → IsNumberedScript notes script → conditions notes script ≡ Ok tt → IsScript notes script
unfolding conditions args_fit
script-of notes script numbered h =
    let a = both-pass _ _ h in
    let b = both-pass _ _ a.1 in
    let d = both-pass _ _ b.1 in
    let tables = meets-tables notes script d.0 in
    let f = both-pass _ _ d.1 in
    let few = meets-limits notes script f.0 in
    let noted = notifications-of script f.1 in
    let made = all_made notes script in
    record {
      version = numbered.version;
      written = numbered.args;
      args = passed _ _ a.0;
      objects = λ k o at.
          object-of notes made (length notes.statics + k) o (numbered.object k o at)
          (table-at Instances notes made (codes "object") (length notes.statics) script.object k o tables.instances.objects at)
          (table-at WellFormed notes made (codes "object") (length notes.statics) script.object k o tables.formed.objects at)
          (table-at Contents notes made (codes "object") (length notes.statics) script.object k o tables.contents.objects at)
          (table-at Pointers notes made (codes "object") (length notes.statics) script.object k o tables.pointers.objects at);
      calls = λ i c at. call-of notes script i c at (numbered.call i c at) b.0 tables few;
      room = λ k o at. room-at notes script.object k o few.objects at;
      notify = record { each = numbered.notify; none = numbered.none; few = noted.0; ascend = noted.1 };
    }

-- the script that a draft stands for under notes meets the conditions on scripts
draft-is-script : (notes : Notes) (d : ScriptDraft) (script : Script) → IsDraft d → script_in notes d ≡ Ok script → IsScript notes script
unfolding script_in
draft-is-script notes d script is h =
    ok_step (resolved notes d) (λ s. conditions notes s >>= λ _. Ok s) script h (λ s one h.
    ok_step (conditions notes s) (λ _. Ok s) script h (λ v two e.
    subst (IsScript notes) (same_Ok s script e) (script-of notes s (script_for notes d s is one) two)))

-- so does one that a function gives that reads a draft
pub gives-script : (notes : Notes) (d : ScriptDraft) (result : Result Script NotesEnd) → IsDraft d → Gives result (script_in notes d)
    → IfOk result (IsScript notes)
gives-script notes d (Ok script) is e = draft-is-script notes d script is e
gives-script notes d (Err end) is e = tt

-- the script that a text stands for under notes meets the conditions on scripts
pub read-is-script : (notes : Notes) (text : List ℕ) (script : Script) → script_of notes text ≡ Ok script → IsScript notes script
unfolding script_of
read-is-script notes text script h =
    ok_step (document text) (λ table. draft_of table >>= λ d. once d >>= λ _. script_in notes d) script h (λ table one h.
    ok_step (draft_of table) (λ d. once d >>= λ _. script_in notes d) script h (λ d two h.
    ok_step (once d) (λ _. script_in notes d) script h (λ u three h. draft-is-script notes d script (draft_is table d two) h)))
