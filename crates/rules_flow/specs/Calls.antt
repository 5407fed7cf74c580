-- Meaning: Calls of functions and of native methods, returns, and thunks. docs/RULES.md, "Calls", has the words.
use Rattle.std.specs.Prelude.{ℕ, ◌+◌, Bool, false, not, ◌&&◌, nat_eq, nat_lt, if◌then◌else◌, Option, Some, None, List, [], ◌∷◌, length}
use Rattle.std.specs.Prelude.{slice_get, Ok, Err, ℤ, bit_or}
use Rattle.ebc_insn.specs.declared.Extra.{Extra}
use Rattle.ebc_insn.specs.declared.Extra.TheVariants.{Nothing}
use Rattle.ebc_insn.specs.declared.Operand.{Operand}
use Rattle.note_types.specs.BelowTests.{is_below}
use Rattle.note_types.specs.States.{type_of}
use Rattle.note_types.specs.declared.notes.FnNote.{FnNote}
use Rattle.note_types.specs.declared.notes.Notes.{Notes}
use Rattle.note_types.specs.declared.notes.Pair.{Pair}
use Rattle.note_types.specs.declared.notes.Signature.{Signature}
use Rattle.note_types.specs.declared.notes.Site.{Site}
use Rattle.note_types.specs.declared.rule.RuleName.TheVariants as rule
use Rattle.note_types.specs.declared.state.State.{State}
use Rattle.note_types.specs.declared.types.Ty.{Ty}
use Rattle.note_types.specs.declared.types.Ty.TheVariants as ty
use Rattle.rules_base.specs.declared.access.Access.TheVariants as access
use Rattle.rules_base.specs.declared.access.Loaded.{Loaded}
use Rattle.rules_base.specs.declared.here.Here.{Here}
use Rattle.rules_base.specs.Access.{load_at}
use Rattle.rules_base.specs.Operands.{extra_distance}
use Rattle.rules_base.specs.Outcomes.{also, both, needs, OrRule}
use Rattle.rules_base.specs.Parts.{and_then}
use Rattle.rules_base.specs.Places.{locals_size}
use Rattle.rules_flow.specs.declared.successors.Successors.{Successors}
use Rattle.rules_flow.specs.Arguments.{Condition, all_lent_out, arguments, native_arguments}
use Rattle.rules_flow.specs.Frames.{at, items_size}
use Rattle.rules_flow.specs.Jumps.{target_of}
use Rattle.rules_flow.specs.Successors.{ends, falls}
use Rattle.ebc_base.specs.Steps.{or_else, ◌>>=◌}
use Rattle.note_types.specs.Known.{local_fields}
use Rattle.rules_flow.specs.Found.{number_at, number_from}

-- the state after a call: R4 to R7 are the callee's, and nothing is known of the flag
abbrev pub called : State → Ty → ℕ → State
called s result written = record s {
  regs = type_of s 0 ∷ type_of s 1 ∷ type_of s 2 ∷ type_of s 3 ∷ ty.Any ∷ ty.Any ∷ ty.Any ∷ result ∷ [];
  written = written;
  fact = None;
}

-- all thunks are made
abbrev pub all_made : Notes → State → Bool
all_made notes s = nat_eq s.made (length notes.thunk)

-- ---- CALL

-- the function that begins at a place, other than the entry function
unfoldable pub callee_at : Notes → ℤ → Option FnNote
callee_at notes place =
    and_then (number_from (λ (g : FnNote). g.place) notes.function place)
    (λ g. if nat_eq g notes.entry then None else slice_get notes.function g)

-- what a call takes of the caller's need at a width: its items, the return cell of 16 bytes and what the callee needs
abbrev pub call_size : ℕ → Pair → Pair → ℕ
call_size w items need = at w items + 16 + at w need

abbrev pub fits_need : Pair → Pair → Pair → Bool
fits_need items need whole =
    not (nat_lt (at 4 whole) (call_size 4 items need)) && not (nat_lt (at 8 whole) (call_size 8 items need))

-- the callee is of a lower level, and what it needs fits the caller's need at both widths
unfoldable pub is_lower : Notes → FnNote → State → FnNote → Bool
is_lower notes f s g = nat_lt g.level f.level && fits_need (items_size (locals_size notes f) s.items) g.need f.need

-- the conditions on a call of a function, beside one another
abbrev pub call_fails : Notes → FnNote → State → FnNote → Condition
call_fails notes f s g =
    both (both (needs rule.Level (is_lower notes f s g)) (needs rule.Thunk (all_made notes s)))
    (arguments (local_fields notes f) s.written g.params s.items)

-- a call of the function that begins at a place
unfoldable pub call_to : Notes → FnNote → State → ℤ → OrRule Successors
call_to notes f s place = do
  g ← or_else rule.Target (callee_at notes place)
  also (Ok (falls (called s g.result s.written))) (call_fails notes f s g)

-- CALL of byte code
unfoldable pub call_row : Notes → FnNote → Here → State → Bool → Bool → Operand → Extra → OrRule Successors
call_row notes f here s far rel op extra = target_of here far rel op extra >>= call_to notes f s

-- ---- CALLEX

-- the method whose address a value is
abbrev pub method_of : Ty → OrRule ℕ
method_of (ty.Method m) = Ok m
method_of _ = Err rule.Form

-- what is loaded has to be made before it is looked at
abbrev pub loaded_method : Loaded → OrRule ℕ
loaded_method l = if l.made then method_of l.ty else Err rule.Thunk

-- a register with nothing beside it
abbrev pub direct_method : State → ℕ → Extra → OrRule ℕ
direct_method s r Nothing = method_of (type_of s r)
direct_method s r _ = Err rule.Form

-- the method that a native call calls: it is absolute, not far, and its operand isn't on R0
unfoldable pub callee_method : Notes → FnNote → State → Bool → Bool → Operand → Extra → OrRule ℕ
callee_method notes f s far rel op extra =
    if far then Err rule.Form
    else if rel then Err rule.Form
    else if nat_eq op.reg 0 then Err rule.Form
    else if op.indirect then load_at notes f s access.Natural op.reg (extra_distance extra) >>= loaded_method
    else direct_method s op.reg extra

-- the site at a place
unfoldable pub site_at : List Site → ℕ → Option Site
site_at sites place = and_then (number_at (λ (x : Site). x.place) sites place) (slice_get sites)

-- a signature of a method
abbrev pub of_method : ℕ → Signature → Option Signature
of_method m g = if nat_eq g.method m then Some g else None

-- the signature of a method by which the instruction at a place calls it
unfoldable pub signature_at : Notes → ℕ → ℕ → Option Signature
signature_at notes place m =
    and_then (and_then (site_at notes.site place) (λ x. slice_get notes.signature x.signature)) (of_method m)

-- the type of the result, which grants these local fields where it is a status
abbrev pub result_type : Option Ty → ℕ → Ty
result_type None lent = ty.Any
result_type (Some (ty.Status g)) lent = ty.Status lent
result_type (Some t) lent = t

-- the written fields, to which these are added where the result isn't a status
abbrev pub written_after : Option Ty → ℕ → ℕ → ℕ
written_after (Some (ty.Status g)) written lent = written
written_after _ written lent = bit_or written lent

-- the state after a call of a native method that was lent these local fields to be written
abbrev pub native_called : State → Option Ty → ℕ → State
native_called s result lent = called s (result_type result lent) (written_after result s.written lent)

-- a call by a signature
unfoldable pub native_call : Notes → FnNote → State → Signature → OrRule Successors
native_call notes f s g =
    also (Ok (falls (native_called s g.result (all_lent_out g.params s.items))))
    (both (needs rule.Thunk (all_made notes s)) (native_arguments (local_fields notes f) s.written g.params s.items))

-- CALLEX
unfoldable pub call_native_row : Notes → FnNote → Here → State → Bool → Bool → Operand → Extra → OrRule Successors
call_native_row notes f here s far rel op extra = do
  m ← callee_method notes f s far rel op extra
  g ← or_else rule.Site (signature_at notes here.place m)
  native_call notes f s g

-- ---- RET

-- the value is what a register was at the entry
abbrev pub is_entry_value : ℕ → Ty → Bool
is_entry_value r (ty.Saved i) = nat_eq i r
is_entry_value r _ = false

-- the register is what it was at the entry
abbrev pub is_saved : State → ℕ → Bool
is_saved s r = is_entry_value r (type_of s r)

-- the state of a function that may return
unfoldable pub may_return : FnNote → State → Bool
may_return f s =
    nat_eq (length s.items) 0 && (is_saved s 1 && (is_saved s 2 && (is_saved s 3 && is_below (type_of s 7) f.result)))

-- RET
unfoldable pub return_row : FnNote → State → OrRule Successors
return_row f s = if may_return f s then Ok ends else Err rule.Return

-- ---- BREAK

-- the value is the address of the thunk cell that is made next
abbrev pub is_next_thunk : Notes → State → Ty → Bool
is_next_thunk notes s (ty.ThunkAt i) = nat_eq i s.made && nat_lt i (length notes.thunk)
is_next_thunk notes s _ = false

abbrev pub with_thunk : State → State
with_thunk s = record s { made = s.made + 1 }

-- BREAK 5 makes the next thunk, the one whose cell R7 is the address of
unfoldable pub break_row : Notes → State → ℕ → OrRule Successors
break_row notes s code =
    if nat_eq code 5 then (if is_next_thunk notes s (type_of s 7) then Ok (falls (with_thunk s)) else Err rule.Thunk)
    else Err rule.Form
