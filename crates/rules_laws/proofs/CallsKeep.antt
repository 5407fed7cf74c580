-- Calls, thunks and jumps keep the conditions on a state.
use Rattle.rules_laws.proofs.Common.{◌≡◌, ℕ, Bool, true, false, nat_eq, Option, None, Some, slice_get, if◌then◌else◌, refl, ℤ, IfSome, IfOk}
use Rattle.rules_laws.proofs.Common.{Ok, Err, Cond, Always, Set, Clear, Extra, Operand, type_of, FnNote, Notes, Signature, State, Ty, Here}
use Rattle.rules_laws.proofs.Common.{and_then, all_lent_out, break_row, call_fails, call_native_row, call_row, call_to, callee_at}
use Rattle.rules_laws.proofs.Common.{callee_method, called, is_next_thunk, may_return, native_call, native_called, return_row, signature_at}
use Rattle.rules_laws.proofs.Common.{with_thunk, jump8_row, jump_row, jump_to, jumps, point_at, relative, target_of, ends, falls, IsKnown}
use Rattle.rules_laws.proofs.Common.{IsState, IsNotes, AreStates, or_else, some_choice, some_any}
use Rattle.rules_flow.specs.{Calls.of_method, Calls.result_type, Calls.site_at, Found.number_from}
use Rattle.rules_laws.proofs.Options.{ok_also, ok_anything, ok_choice, ok_some, ok_then, some_then}
use Rattle.rules_laws.proofs.{LocalFields.AreLocal, LocalFields.all_lent_out-local, SumsKeep.any_known, FramesKeep.each_register}
use Rattle.rules_laws.proofs.{FramesKeep.fall_state, NarrowKeeps.narrow_keeps}
use Rattle.note_types.proofs.RecordLaws.{results_known, replies_known}
use Rattle.note_types.specs.declared.rule.RuleName.TheVariants as rule
use Rattle.note_types.specs.declared.types.Ty.TheVariants as ty

-- ---- calls

called_keeps : (notes : Notes) (f : FnNote) (s : State) (t : Ty) (written : ℕ) → IsState notes f s → IsKnown notes f t
    → IsState notes f (called s t written)
called_keeps notes f s t written h k = record {
  eight = refl;
  unused = h.unused;
  few = h.few;
  registers = each_register (IsKnown notes f) _ _ _ _ _ _ _ _ (any_known notes f) (h.registers 0) (h.registers 1) (h.registers 2)
      (h.registers 3)
      (any_known notes f) (any_known notes f) (any_known notes f) k;
  slots = h.slots;
  once = h.once;
  there = h.there;
  fact = λ x e. absurd cc;
}

some_known : (notes : Notes) (f : FnNote) (k : ℕ) → IsNotes notes → (o : Option FnNote) → slice_get notes.function k ≡ o
    → IfSome o (λ g. IsKnown notes f g.result)
some_known notes f k n None e = tt
some_known notes f k n (Some g) e = results_known notes k g f n e

callee_known : (notes : Notes) (f : FnNote) (place : ℤ) → IsNotes notes → IfSome (callee_at notes place) (λ g. IsKnown notes f g.result)
unfolding callee_at
callee_known notes f place n =
    some_then (λ _. Unit {0}) (λ g. IsKnown notes f g.result) (number_from (λ (g : FnNote). g.place) notes.function place) _
    (some_any (number_from (λ (g : FnNote). g.place) notes.function place))
    (λ k h. some_choice (λ g. IsKnown notes f g.result) (nat_eq k notes.entry) None (slice_get notes.function k) tt
    (some_known notes f k n (slice_get notes.function k) refl))

call_to-keeps : (notes : Notes) (f : FnNote) (s : State) (place : ℤ) → IsNotes notes → IsState notes f s
    → IfOk (call_to notes f s place) (AreStates notes f)
unfolding call_to
call_to-keeps notes f s place n h =
    ok_then (λ g. IsKnown notes f g.result) (AreStates notes f) (or_else rule.Target (callee_at notes place)) _
    (ok_some (λ g. IsKnown notes f g.result) rule.Target (callee_at notes place) (callee_known notes f place n))
    (λ g k. ok_also (AreStates notes f) (Ok (falls (called s g.result s.written))) (call_fails notes f s g)
    (fall_state notes f (called s g.result s.written) (called_keeps notes f s g.result s.written h k)))

pub call_row-keeps : (notes : Notes) (f : FnNote) (here : Here) (s : State) (far rel : Bool) (op : Operand) (extra : Extra) → IsNotes notes
    → IsState notes f s → IfOk (call_row notes f here s far rel op extra) (AreStates notes f)
unfolding call_row
call_row-keeps notes f here s far rel op extra n h =
    ok_then (λ _. Unit {0}) (AreStates notes f) (target_of here far rel op extra) (call_to notes f s)
    (ok_anything (target_of here far rel op extra)) (λ place k. call_to-keeps notes f s place n h)

-- ---- native calls

result_type-known : (notes : Notes) (f : FnNote) (o : Option Ty) (lent : ℕ) → ((t : Ty) → o ≡ Some t → IsKnown notes f t)
    → AreLocal notes f lent → IsKnown notes f (result_type o lent)
result_type-known notes f None lent h l = any_known notes f
result_type-known notes f (Some (ty.Status g)) lent h l = record { bounded = l.below; names = l.fields }
result_type-known notes f (Some t) lent h l = h t refl

native_call-keeps : (notes : Notes) (f : FnNote) (s : State) (g : Signature) → ((t : Ty) → g.result ≡ Some t → IsKnown notes f t)
    → IsState notes f s → IfOk (native_call notes f s g) (AreStates notes f)
unfolding native_call
native_call-keeps notes f s g k h =
    ok_also (AreStates notes f) (Ok (falls (native_called s g.result (all_lent_out g.params s.items)))) _
    (fall_state notes f (native_called s g.result (all_lent_out g.params s.items)) (called_keeps notes f s _ _ h
    (result_type-known notes f g.result (all_lent_out g.params s.items) k (all_lent_out-local notes f g.params s.items h.slots))))

-- what a signature says of its result is known
abbrev ReplyKnown : Notes → FnNote → Signature → Type 0
ReplyKnown notes f g = (t : Ty) → g.result ≡ Some t → IsKnown notes f t

reply_known : (notes : Notes) (f : FnNote) (k : ℕ) → IsNotes notes → (o : Option Signature) → slice_get notes.signature k ≡ o
    → IfSome o (ReplyKnown notes f)
reply_known notes f k n None e = tt
reply_known notes f k n (Some g) e = λ t i. replies_known notes k f g t n e i

method_known : (notes : Notes) (f : FnNote) (m : ℕ) (g : Signature) → ReplyKnown notes f g → (b : Bool)
    → IfSome (if b then Some g else None) (ReplyKnown notes f)
method_known notes f m g h true = h
method_known notes f m g h false = tt

signature_known : (notes : Notes) (f : FnNote) (place m : ℕ) → IsNotes notes → IfSome (signature_at notes place m) (ReplyKnown notes f)
unfolding signature_at
signature_known notes f place m n =
    some_then (ReplyKnown notes f) (ReplyKnown notes f) (and_then (site_at notes.site place) (λ x. slice_get notes.signature x.signature))
    (of_method m)
    (some_then (λ _. Unit {0}) (ReplyKnown notes f) (site_at notes.site place) _ (some_any (site_at notes.site place))
    (λ x h. reply_known notes f x.signature n (slice_get notes.signature x.signature) refl))
    (λ g h. method_known notes f m g h (nat_eq g.method m))

pub call_native_row-keeps : (notes : Notes) (f : FnNote) (here : Here) (s : State) (far rel : Bool) (op : Operand) (extra : Extra)
    → IsNotes notes → IsState notes f s → IfOk (call_native_row notes f here s far rel op extra) (AreStates notes f)
unfolding call_native_row
call_native_row-keeps notes f here s far rel op extra n h =
    ok_then (λ _. Unit {0}) (AreStates notes f) (callee_method notes f s far rel op extra) _
    (ok_anything (callee_method notes f s far rel op extra))
    (λ m k. ok_then (ReplyKnown notes f) (AreStates notes f) (or_else rule.Site (signature_at notes here.place m)) (native_call notes f s)
    (ok_some (ReplyKnown notes f) rule.Site (signature_at notes here.place m) (signature_known notes f here.place m n))
    (λ g i. native_call-keeps notes f s g i h))

-- ---- returns and thunks

pub return_row-keeps : (notes : Notes) (f : FnNote) (s : State) → IfOk (return_row f s) (AreStates notes f)
unfolding return_row
return_row-keeps notes f s = ok_choice (AreStates notes f) (may_return f s) (Ok ends) (Err rule.Return) (tt, tt) tt

thunk_keeps : (notes : Notes) (f : FnNote) (s : State) → IsState notes f s → IsState notes f (with_thunk s)
thunk_keeps notes f s h = record {
  eight = h.eight;
  unused = h.unused;
  few = h.few;
  registers = h.registers;
  slots = h.slots;
  once = h.once;
  there = h.there;
  fact = h.fact;
}

pub break_row-keeps : (notes : Notes) (f : FnNote) (s : State) (code : ℕ) → IsState notes f s
    → IfOk (break_row notes s code) (AreStates notes f)
unfolding break_row
break_row-keeps notes f s code h =
    ok_choice (AreStates notes f) (nat_eq code 5) _ (Err rule.Form)
    (ok_choice (AreStates notes f) (is_next_thunk notes s (type_of s 7)) (Ok (falls (with_thunk s))) (Err rule.Thunk)
    (fall_state notes f (with_thunk s) (thunk_keeps notes f s h)) tt) tt

-- ---- jumps

jumps_keep : (notes : Notes) (f : FnNote) (s : State) (place : ℕ) (cond : Cond) → IsState notes f s → AreStates notes f (jumps s place cond)
jumps_keep notes f s place Always h = (tt, h)
jumps_keep notes f s place Set h = (narrow_keeps notes f s false h, narrow_keeps notes f s true h)
jumps_keep notes f s place Clear h = (narrow_keeps notes f s true h, narrow_keeps notes f s false h)

jump_to-keeps : (notes : Notes) (f : FnNote) (s : State) (cond : Cond) (place : ℤ) → IsState notes f s
    → IfOk (jump_to notes f s cond place) (AreStates notes f)
jump_to-keeps notes f s cond place h =
    ok_then (λ _. Unit {0}) (AreStates notes f) (or_else rule.Target (point_at notes f place)) _
    (ok_anything (or_else rule.Target (point_at notes f place)))
    (λ p k. jumps_keep notes f s p cond h)

pub jump_row-keeps : (notes : Notes) (f : FnNote) (here : Here) (s : State) (cond : Cond) (far rel : Bool) (op : Operand) (extra : Extra)
    → IsState notes f s → IfOk (jump_row notes f here s cond far rel op extra) (AreStates notes f)
unfolding jump_row
jump_row-keeps notes f here s cond far rel op extra h =
    ok_then (λ _. Unit {0}) (AreStates notes f) (target_of here far rel op extra) (jump_to notes f s cond)
    (ok_anything (target_of here far rel op extra)) (λ place k. jump_to-keeps notes f s cond place h)

pub jump8_row-keeps : (notes : Notes) (f : FnNote) (here : Here) (s : State) (cond : Cond) (words : ℤ) → IsState notes f s
    → IfOk (jump8_row notes f here s cond words) (AreStates notes f)
unfolding jump8_row
jump8_row-keeps notes f here s cond words h =
    ok_then (λ _. Unit {0}) (AreStates notes f) (relative here _) (jump_to notes f s cond) (ok_anything (relative here _))
    (λ place k. jump_to-keeps notes f s cond place h)
