-- A draft that was read is within what texts may have.
use Rattle.script_draft.proofs.Common.{◌≡◌, ℕ, suc, ◌+◌, ◌-◌, ◌^◌, ◌<◌, ◌≤◌, List, [], ◌∷◌, ◌++◌, Option, Some, None, Result, Ok, Err, Bool}
use Rattle.script_draft.proofs.Common.{true, false, refl, sym, ap, ◌∙◌, subst, arith, nat_tests, option_and_then_some, same_Some, codes}
use Rattle.script_draft.proofs.Common.{decimal-number_of, name_of-sound, map_some, moved, NotesEnd, TomlFault, IsWritable, all_of, pieces}
use Rattle.script_draft.proofs.Common.{values_of, argument_of, value_of, CellValueText, ArgumentText, Out, Lent, Given, ValueText}
use Rattle.std.proofs.{Common.ℤ, Common.pos, Common.negsuc, Common.nat_eq, Common.if◌then◌else◌, lemmas.Bool.true≢false}
use Rattle.std.specs.Prelude.{IfOk}
use Rattle.toml.specs.Data.{Data, Items, Members, item, no_items}
use Rattle.ebc_base.specs.{Steps.◌>>=◌, Steps.or_else, Names.name_of}
use Rattle.note_texts.specs.{Grammar.IsName, Keys.field, Keys.natural_in, Keys.number_at, Keys.row_prefix, Keys.text_at, Keys.text_of}
use Rattle.note_texts.specs.{Keys.whole_number, Lists.count, Lists.each, Lists.row_of, Lists.rows_of, Lists.tables_at, Lists.texts_at}
use Rattle.note_texts.specs.{Lists.texts_of, Numbers.number_of, Outcome.Gives, Splits.parts_at, Splits.split_at}
use Rattle.note_draft.proofs.VersionLaws.{is_version}
use Rattle.note_types.specs.Records.{Each}
use Rattle.note_types.specs.declared.fault.TomlFault.TheVariants.{Range}
use Rattle.script_draft.specs.Records.{IsArgumentDraft, IsCallDraft, IsCallbackDraft, IsCellDraft, IsDraft, IsNotifyDraft, IsObjectDraft}
use Rattle.script_draft.specs.Drafts.{call_of, draft_of, most_items, notifications_of, notify_of}
use Rattle.script_draft.specs.{Drafts.object_draft, Drafts.reply_of, PartTexts.callback_of, PartTexts.cell_value_of, PartTexts.out_of}
use Rattle.script_draft.specs.{PartTexts.values_after, PartTexts.write_of, Records.IsOutDraft, Records.IsWriteDraft}
use Rattle.script_draft.specs.declared.draft.{CallDraft.CallDraft, NotifyDraft.NotifyDraft, ObjectDraft.ObjectDraft}
use Rattle.script_draft.specs.declared.{draft.ScriptDraft.ScriptDraft, parts.CallbackText.CallbackText, parts.OutText.OutText}
use Rattle.script_draft.specs.declared.{parts.WriteText.WriteText, reading.Reply.Reply}
use Rattle.script_draft.proofs.ValueLaws.{argument_sound, value_sound}
use Rattle.note_types.proofs.RecordLaws.{each_none, each_more}

-- ---- steps

-- what a step gave, and what the next one made of it
pub ok_step : {A B E P : Type 0} (a : Result A E) (f : A → Result B E) (y : B) → (a >>= f) ≡ Ok y → ((x : A) → a ≡ Ok x → f x ≡ Ok y → P)
    → P
ok_step (Ok x) f y h k = k x refl h
ok_step (Err e) f y h k = cc h

pub same_Ok : {A E : Type 0} (x y : A) → ◌≡◌ {A = Result A E} (Ok x) (Ok y) → x ≡ y
same_Ok x y h = cc h

pub found : {A E : Type 0} (e : E) (o : Option A) (x : A) → or_else e o ≡ Ok x → o ≡ Some x
found e None x h = cc h
found e (Some y) x h = cc h

-- ---- items

items_read : {A : Type 0} (P : A → Type 0) (read : ℕ → Data → Result A TomlFault) (i : ℕ) (ds : Items) (xs : List A)
    → ((j : ℕ) (d : Data) (x : A) → read j d ≡ Ok x → P x) → each read i ds ≡ Ok xs → Each P xs
unfolding each
items_read P read i no_items xs all h = subst (Each P) (same_Ok [] xs h) (each_none P)
items_read P read i (item d ds) xs all h =
    ok_step _ _ xs h (λ y first further.
    ok_step _ _ xs further (λ ys rest e.
    subst (Each P) (same_Ok (y ∷ ys) xs e) (each_more P y ys (all i d y first) (items_read P read (i + 1) ds ys all rest))))

pub all_given : {A B : Type 0} (P : A → Type 0) (Q : B → Type 0) (gives : A → Option B) (xs : List A) (ys : List B)
    → ((x : A) (y : B) → P x → gives x ≡ Some y → Q y) → Each P xs → all_of gives xs ≡ Some ys → Each Q ys
unfolding all_of
all_given P Q gives [] ys all h e = subst (Each Q) (same_Some [] ys e) (each_none Q)
all_given P Q gives (x ∷ xs) ys all h e =
    option_and_then_some _ (gives x) ys e (λ y first further.
    map_some _ (all_of gives xs) ys further (λ zs rest e.
    moved (Each Q) (y ∷ zs) ys e (each_more Q y zs (all x y (h 0 x refl) first)
    (all_given P Q gives xs zs all (λ k v g. h (suc k) v g) rest))))

-- ---- keys

whole_read : (path : List ℕ) (low high n : ℕ) (d : Data) → whole_number path low high d ≡ Ok n → (low ≤ n) × (n ≤ high)
whole_read path low high n d h = ok_step _ _ n h (λ z _ further. natural z further)
  where
    natural : (z : ℤ) → natural_in path low high z ≡ Ok n → (low ≤ n) × (n ≤ high)
    natural (pos m) e = grind (arith, nat_tests)
    natural (negsuc m) e = cc e

number_read : (prefix key : List ℕ) (low high n : ℕ) (table : Members) → number_at prefix key low high table ≡ Ok n → (low ≤ n) × (n ≤ high)
unfolding number_at
number_read prefix key low high n table h = ok_step _ _ n h (λ d _ further. whole_read (prefix ++ key) low high n d further)

text_read : {A : Type 0} (P : A → Type 0) (reads : List ℕ → Option A) (path : List ℕ) (d : Data) (x : A)
    → ((s : List ℕ) (y : A) → reads s ≡ Some y → P y) → text_of reads path d ≡ Ok x → P x
text_read P reads path d x all h = ok_step _ _ x h (λ s _ further. all s x (found (Range path) (reads s) x further))

key_read : {A : Type 0} (P : A → Type 0) (reads : List ℕ → Option A) (prefix key : List ℕ) (table : Members) (x : A)
    → ((s : List ℕ) (y : A) → reads s ≡ Some y → P y) → text_at reads prefix key table ≡ Ok x → P x
unfolding text_at
key_read P reads prefix key table x all h = ok_step _ _ x h (λ d _ further. text_read P reads (prefix ++ key) d x all further)

texts_read : {A : Type 0} (P : A → Type 0) (reads : List ℕ → Option A) (prefix key : List ℕ) (limit : ℕ) (table : Members) (xs : List A)
    → ((s : List ℕ) (y : A) → reads s ≡ Some y → P y) → texts_at reads prefix key limit table ≡ Ok xs → Each P xs
unfolding texts_at texts_of
texts_read P reads prefix key limit table xs all h =
    ok_step _ _ xs h (λ ds _ further. items_read P (λ i d. text_of reads (prefix ++ key) d) 0 ds xs
    (λ j d x e. text_read P reads (prefix ++ key) d x all e) further)

tables_read : {A : Type 0} (P : A → Type 0) (reads : List ℕ → Members → Result A TomlFault) (prefix key : List ℕ) (limit : ℕ)
    (table : Members) (xs : List A)
    → ((path : List ℕ) (ms : Members) (y : A) → reads path ms ≡ Ok y → P y) → tables_at reads prefix key limit table ≡ Ok xs → Each P xs
unfolding tables_at rows_of
tables_read P reads prefix key limit table xs all h =
    ok_step _ _ xs h (λ ds _ further. items_read P (row_of reads (prefix ++ key)) 0 ds xs (λ j d x e.
    ok_step _ _ x e (λ ms _ row. all (row_prefix (prefix ++ key) j) ms x row)) further)

-- ---- texts

name_is : (s name : List ℕ) → name_of s ≡ Some name → IsName name
name_is s name h = (name_of-sound s name h).1

value_is : (s : List ℕ) (v : ValueText) → value_of s ≡ Some v → IsWritable v
value_is s v h = (value_sound s v h).1

number_is : (s : List ℕ) (n : ℕ) → number_of s ≡ Some n → n < 2 ^ 64
number_is s n h = (decimal-number_of s n h).1

argument_is : (s : List ℕ) (a : ArgumentText) → argument_of s ≡ Some a → IsArgumentDraft a
argument_is s Out h = tt
argument_is s (Lent v) h = (argument_sound s (Lent v) h).1
argument_is s (Given v) h = (argument_sound s (Given v) h).1

cell_is : (s : List ℕ) (c : CellValueText) → cell_value_of s ≡ Some c → IsCellDraft c
unfolding cell_value_of
cell_is s c h =
    option_and_then_some _ (split_at 32 s) c h (λ (first : List ℕ × List ℕ) _ h.
    option_and_then_some _ (split_at 32 first.1) c h (λ (second : List ℕ × List ℕ) _ h.
    option_and_then_some _ (number_of first.0) c h (λ instance one h.
    option_and_then_some _ (name_of second.0) c h (λ name two h.
    option_and_then_some _ (value_of second.1) c h (λ v three e.
    moved IsCellDraft (record { instance = instance; field = name; value = v }) c e
    (record { instance = number_is first.0 instance one; field = name_is second.0 name two; value = value_is second.1 v three }))))))

values_is : (s : List ℕ) (vs : List ValueText) → values_of s ≡ Some vs → Each IsWritable vs
unfolding values_of
values_is s vs h = all_given (λ _. Unit {0}) IsWritable value_of (pieces s) vs (λ t v _ e. value_is t v e) (λ k t e. tt) h

after_is : (rest : Option (List ℕ)) (vs : List ValueText) → values_after rest ≡ Some vs → Each IsWritable vs
after_is None vs h = moved (Each IsWritable) [] vs h (each_none IsWritable)
after_is (Some s) vs h = values_is s vs h

callback_is : (s : List ℕ) (b : CallbackText) → callback_of s ≡ Some b → IsCallbackDraft b
unfolding callback_of
callback_is s b h =
    option_and_then_some _ _ b h (λ function one h.
    option_and_then_some _ _ b h (λ values two e.
    moved IsCallbackDraft (record { function = function; values = values }) b e
    (record { function = name_is (parts_at 32 s).0 function one; values = after_is (parts_at 32 s).1 values two })))

out_is : (s : List ℕ) (o : OutText) → out_of s ≡ Some o → IsOutDraft o
unfolding out_of
out_is s o h =
    option_and_then_some _ _ o h (λ (parts : List ℕ × List ℕ) _ h.
    option_and_then_some _ _ o h (λ argument one h.
    option_and_then_some _ _ o h (λ v two e.
    moved IsOutDraft (record { argument = argument; value = v }) o e
    (record { argument = number_is parts.0 argument one; value = value_is parts.1 v two }))))

write_is : (s : List ℕ) (w : WriteText) → write_of s ≡ Some w → IsWriteDraft w
unfolding write_of
write_is s w h =
    option_and_then_some _ _ w h (λ (parts : List ℕ × List ℕ) _ h.
    option_and_then_some _ _ w h (λ object one h.
    option_and_then_some _ _ w h (λ (c : CellValueText) two e.
    let d = cell_is parts.1 c two in
    moved IsWriteDraft (record { object = object; instance = c.instance; field = c.field; value = c.value }) w e
    (record { object = number_is parts.0 object one; instance = d.instance; field = d.field; value = d.value }))))

-- ---- tables

object_is : (prefix : List ℕ) (table : Members) (o : ObjectDraft) → object_draft prefix table ≡ Ok o → IsObjectDraft o
unfolding object_draft
object_is prefix table o h =
    ok_step _ _ o h (λ shape one h.
    ok_step _ _ o h (λ count two h.
    ok_step _ _ o h (λ cells three h.
    ok_step _ _ o h (λ _ _ e.
    let n = number_read prefix (codes "count") 1 (2 ^ 64 - 1) count table two in
    let high : count < 2 ^ 64 = let l = n.1 in omega arith in
    subst IsObjectDraft (same_Ok (record { shape = shape; count = count; cells = cells }) o e)
    (record {
      shape = key_read IsName name_of prefix (codes "shape") table shape name_is one;
      count = (n.0, high);
      cells = texts_read IsCellDraft cell_value_of prefix (codes "cells") most_items table cells cell_is three;
    })))))

pub record IsReply (r : Reply) : Type 0 where
  pub out : Each IsOutDraft r.out
  pub write : Each IsWriteDraft r.write
  pub result : IsWritable r.result

reply_is : (prefix : List ℕ) (table : Members) (r : Reply) → reply_of prefix table ≡ Ok r → IsReply r
unfolding reply_of
reply_is prefix table r h =
    ok_step _ _ r h (λ out one h.
    ok_step _ _ r h (λ write two h.
    ok_step _ _ r h (λ result three e.
    subst IsReply (same_Ok (record { out = out; write = write; result = result }) r e)
    (record {
      out = texts_read IsOutDraft out_of prefix (codes "out") most_items table out out_is one;
      write = texts_read IsWriteDraft write_of prefix (codes "write") most_items table write write_is two;
      result = key_read IsWritable value_of prefix (codes "result") table result value_is three;
    }))))

call_is : (prefix : List ℕ) (table : Members) (c : CallDraft) → call_of prefix table ≡ Ok c → IsCallDraft c
unfolding call_of
call_is prefix table c h =
    ok_step _ _ c h (λ signature one h.
    ok_step _ _ c h (λ args two h.
    ok_step _ _ c h (λ enter three h.
    ok_step _ _ c h (λ make four h.
    ok_step _ _ c h (λ reply five h.
    ok_step _ _ c h (λ _ _ e.
    let r = reply_is prefix table reply five in
    subst IsCallDraft (same_Ok (record {
      signature = signature;
      args = args;
      enter = enter;
      make = make;
      out = reply.out;
      write = reply.write;
      result = reply.result;
    }) c e)
    (record {
      signature = key_read IsName name_of prefix (codes "signature") table signature name_is one;
      args = texts_read IsArgumentDraft argument_of prefix (codes "args") most_items table args argument_is two;
      enter = texts_read IsCallbackDraft callback_of prefix (codes "enter") most_items table enter callback_is three;
      make = tables_read IsObjectDraft object_draft prefix (codes "make") most_items table make object_is four;
      out = r.out;
      write = r.write;
      result = r.result;
    })))))))

notify_is : (prefix : List ℕ) (table : Members) (n : NotifyDraft) → notify_of prefix table ≡ Ok n → IsNotifyDraft n
unfolding notify_of
notify_is prefix table n h =
    ok_step _ _ n h (λ at one h.
    ok_step _ _ n h (λ function two h.
    ok_step _ _ n h (λ args three h.
    ok_step _ _ n h (λ _ _ e.
    subst IsNotifyDraft (same_Ok (record { at = at; function = function; args = args }) n e)
    (record {
      at = (number_read prefix (codes "at") 0 10000000 at table one).1;
      function = key_read IsName name_of prefix (codes "function") table function name_is two;
      args = texts_read IsWritable value_of prefix (codes "args") most_items table args value_is three;
    })))))

-- the notifications of a script, of which version 1 has none
record HasDrafts (version : ℕ) (ns : List NotifyDraft) : Type 0 where
  pub each : Each IsNotifyDraft ns
  pub none : version ≡ 1 → ns ≡ []

notifications_are : (version : ℕ) (table : Members) (ns : List NotifyDraft) → notifications_of version table ≡ Ok ns → HasDrafts version ns
unfolding notifications_of
notifications_are version table ns h = by (nat_eq version 2) refl h
  where
    by : (b : Bool) → nat_eq version 2 ≡ b → (if b then tables_at notify_of [] (codes "notify") most_items table else Ok []) ≡ Ok ns
        → HasDrafts version ns
    by true two e = record {
      each = tables_read IsNotifyDraft notify_of [] (codes "notify") most_items table ns notify_is e;
      none = λ one. absurd (true≢false (sym two ∙ ap (λ n. nat_eq n 2) one));
    }
    by false other e = record {
      each = subst (Each IsNotifyDraft) (same_Ok [] ns e) (each_none IsNotifyDraft);
      none = λ one. sym (same_Ok [] ns e);
    }

pub draft_is : (table : Members) (d : ScriptDraft) → draft_of table ≡ Ok d → IsDraft d
unfolding draft_of
draft_is table d h =
    ok_step _ _ d h (λ version one h.
    ok_step _ _ d h (λ args two h.
    ok_step _ _ d h (λ object three h.
    ok_step _ _ d h (λ call four h.
    ok_step _ _ d h (λ notify five h.
    ok_step _ _ d h (λ _ _ e.
    let n = number_read [] (codes "version") 1 2 version table one in
    let noted = notifications_are version table notify five in
    subst IsDraft (same_Ok (record { version = version; args = args; object = object; call = call; notify = notify }) d e)
    (record {
      version = is_version version n.0 n.1;
      args = texts_read IsWritable value_of [] (codes "args") most_items table args value_is two;
      object = tables_read IsObjectDraft object_draft [] (codes "object") most_items table object object_is three;
      call = tables_read IsCallDraft call_of [] (codes "call") most_items table call call_is four;
      notify = noted.each;
      none = noted.none;
    })))))))

pub draft_meets : (table : Members) (r : Result ScriptDraft NotesEnd) → Gives r (draft_of table) → IfOk r IsDraft
draft_meets table (Ok d) h = draft_is table d h
draft_meets table (Err e) h = tt
