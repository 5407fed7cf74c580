-- Events, spots and endings are one exactly where `==` says so.
use Rattle.twin_run.proofs.Common.{◌≡◌, Bool, true, false, nat_eq, Some, None, List, refl, ap, subst, and_parts, eqb-true, eq-eqb}
use Rattle.twin_run.proofs.Common.{false≢true, Ending, Event, Exception, Reason, Seen, Spot, Value}
use Rattle.std.proofs.{Common.Decides, lemmas.Bool.and_from, lemmas.Slice.Eq.slice_eq-Decides}
use Rattle.std.specs.Cmp.Lexicographic.{pointwise}
use Rattle.note_types.specs.contracts.ending.EndingPartialEq.TheImpl.{ghosts as endings}
use Rattle.note_types.specs.contracts.exception.ExceptionPartialEq.TheImpl.{ghosts as exceptions}
use Rattle.note_types.specs.contracts.reason.ReasonPartialEq.TheImpl.{ghosts as reasons}
use Rattle.note_types.specs.contracts.{event.EventPartialEq.TheImpl.ghosts as events, seen.SeenPartialEq.TheImpl.ghosts as seens}
use Rattle.note_types.specs.contracts.{spot.SpotPartialEq.TheImpl.ghosts as spots, value.ValuePartialEq.TheImpl.ghosts as values}
use Rattle.note_types.specs.declared.ending.Ending.TheVariants as ending
use Rattle.note_types.specs.declared.event.Event.TheVariants as event
use Rattle.note_types.specs.declared.exception.Exception.TheVariants as raises
use Rattle.note_types.specs.declared.reason.Reason.TheVariants as reason
use Rattle.note_types.specs.declared.spot.Spot.TheVariants as spot
use Rattle.note_types.specs.declared.value.Value.TheVariants as value

-- ---- values

pub value-equal : (a b : Value) → values.eq a b ≡ true → a ≡ b
value-equal (value.Int a) (value.Int b) h = ap value.Int (eqb-true a b h)
value-equal (value.Size a b) (value.Size x y) h =
    let p = and_parts _ _ h in λ i. value.Size (eqb-true a x p.0 i) (eqb-true b y p.1 i)
value-equal (value.Ptr a b) (value.Ptr x y) h =
    let p = and_parts _ _ h in λ i. value.Ptr (eqb-true a x p.0 i) (eqb-true b y p.1 i)
value-equal value.Null value.Null h = refl
value-equal (value.StatusOk a) (value.StatusOk b) h = ap value.StatusOk (eqb-true a b h)
value-equal (value.StatusError a) (value.StatusError b) h = ap value.StatusError (eqb-true a b h)
value-equal (value.Handle a) (value.Handle b) h = ap value.Handle (eqb-true a b h)
value-equal (value.Entry a) (value.Entry b) h = ap value.Entry (eqb-true a b h)
value-equal (value.Method a) (value.Method b) h = ap value.Method (eqb-true a b h)
value-equal value.Any value.Any h = refl
value-equal value.Out value.Out h = refl
value-equal (value.Wild a) (value.Wild b) h = ap value.Wild (eqb-true a b h)
value-equal _ _ h = absurd (false≢true h)

pub value-refl : (a : Value) → values.eq a a ≡ true
value-refl (value.Int a) = eq-eqb a a refl
value-refl (value.Size a b) = and_from _ _ (eq-eqb a a refl) (eq-eqb b b refl)
value-refl (value.Ptr a b) = and_from _ _ (eq-eqb a a refl) (eq-eqb b b refl)
value-refl value.Null = refl
value-refl (value.StatusOk a) = eq-eqb a a refl
value-refl (value.StatusError a) = eq-eqb a a refl
value-refl (value.Handle a) = eq-eqb a a refl
value-refl (value.Entry a) = eq-eqb a a refl
value-refl (value.Method a) = eq-eqb a a refl
value-refl value.Any = refl
value-refl value.Out = refl
value-refl (value.Wild a) = eq-eqb a a refl

-- ---- what a native call sees

same-flag : (a b : Bool) (v w : Value) → seens.eq (record { lent = a; value = v }) (record { lent = b; value = w }) ≡ true
    → (a ≡ b) × (values.eq v w ≡ true)
same-flag true true v w h = (refl, h)
same-flag true false v w h = absurd (false≢true h)
same-flag false true v w h = absurd (false≢true h)
same-flag false false v w h = (refl, h)

seen-equal : (a b : Seen) → seens.eq a b ≡ true → a ≡ b
seen-equal a b h =
    let p = same-flag a.lent b.lent a.value b.value h in
    λ i. record { lent = p.0 i; value = value-equal a.value b.value p.1 i }

flag-refl : (a : Bool) (v : Value) → seens.eq (record { lent = a; value = v }) (record { lent = a; value = v }) ≡ true
flag-refl true v = value-refl v
flag-refl false v = value-refl v

seen-refl : (a : Seen) → seens.eq a a ≡ true
seen-refl a = flag-refl a.lent a.value

Decides-seen : (a b : Seen) → Decides (seens.eq a b) (a ≡ b)
Decides-seen a b = let P : Seen → Type 0 = λ s. seens.eq a s ≡ true in (seen-equal a b, λ e. subst P e (seen-refl a))

args-equal : (x y : List Seen) → pointwise seens.eq x y ≡ true → x ≡ y
args-equal x y = (slice_eq-Decides Decides-seen x y (pointwise seens.eq x y) refl).0

args-refl : (x : List Seen) → pointwise seens.eq x x ≡ true
args-refl x = (slice_eq-Decides Decides-seen x x (pointwise seens.eq x x) refl).1 refl

-- ---- events

event-equal : (a b : Event) → events.eq a b ≡ true → a ≡ b
event-equal (event.Called k None x) (event.Called l None y) h =
    let p = and_parts _ _ h in λ i. event.Called (eqb-true k l p.0 i) None (args-equal x y p.1 i)
event-equal (event.Called k None x) (event.Called l (Some b) y) h = absurd (false≢true (and_parts (nat_eq k l) false h).1)
event-equal (event.Called k (Some a) x) (event.Called l None y) h = absurd (false≢true (and_parts (nat_eq k l) false h).1)
event-equal (event.Called k (Some a) x) (event.Called l (Some b) y) h =
    let p = and_parts _ _ h in let q = and_parts _ _ p.1 in
    λ i. event.Called (eqb-true k l p.0 i) (Some (eqb-true a b q.0 i)) (args-equal x y q.1 i)
event-equal (event.Entered f x) (event.Entered g y) h =
    let p = and_parts _ _ h in λ i. event.Entered (eqb-true f g p.0 i) (args-equal x y p.1 i)
event-equal (event.Returned f v) (event.Returned g w) h =
    let p = and_parts _ _ h in λ i. event.Returned (eqb-true f g p.0 i) (value-equal v w p.1 i)
event-equal (event.Replied f v) (event.Replied g w) h =
    let p = and_parts _ _ h in λ i. event.Replied (eqb-true f g p.0 i) (value-equal v w p.1 i)
event-equal (event.Notified f x) (event.Notified g y) h =
    let p = and_parts _ _ h in λ i. event.Notified (eqb-true f g p.0 i) (args-equal x y p.1 i)
event-equal (event.Resumed f v) (event.Resumed g w) h =
    let p = and_parts _ _ h in λ i. event.Resumed (eqb-true f g p.0 i) (value-equal v w p.1 i)
event-equal _ _ h = absurd (false≢true h)

event-refl : (a : Event) → events.eq a a ≡ true
event-refl (event.Called k None x) = and_from _ _ (eq-eqb k k refl) (args-refl x)
event-refl (event.Called k (Some a) x) = and_from _ _ (eq-eqb k k refl) (and_from _ _ (eq-eqb a a refl) (args-refl x))
event-refl (event.Entered f x) = and_from _ _ (eq-eqb f f refl) (args-refl x)
event-refl (event.Returned f v) = and_from _ _ (eq-eqb f f refl) (value-refl v)
event-refl (event.Replied f v) = and_from _ _ (eq-eqb f f refl) (value-refl v)
event-refl (event.Notified f x) = and_from _ _ (eq-eqb f f refl) (args-refl x)
event-refl (event.Resumed f v) = and_from _ _ (eq-eqb f f refl) (value-refl v)

pub Decides-event : (a b : Event) → Decides (events.eq a b) (a ≡ b)
Decides-event a b = let P : Event → Type 0 = λ e. events.eq a e ≡ true in (event-equal a b, λ e. subst P e (event-refl a))

-- ---- spots

spot-equal : (a b : Spot) → spots.eq a b ≡ true → a ≡ b
spot-equal (spot.Place a) (spot.Place b) h = ap spot.Place (eqb-true a b h)
spot-equal spot.Gate spot.Gate h = refl
spot-equal (spot.Wild a) (spot.Wild b) h = ap spot.Wild (eqb-true a b h)
spot-equal _ _ h = absurd (false≢true h)

spot-refl : (a : Spot) → spots.eq a a ≡ true
spot-refl (spot.Place a) = eq-eqb a a refl
spot-refl spot.Gate = refl
spot-refl (spot.Wild a) = eq-eqb a a refl

pub Decides-spot : (a b : Spot) → Decides (spots.eq a b) (a ≡ b)
Decides-spot a b = let P : Spot → Type 0 = λ s. spots.eq a s ≡ true in (spot-equal a b, λ e. subst P e (spot-refl a))

-- ---- endings

exception-equal : (a b : Exception) → exceptions.eq a b ≡ true → a ≡ b
exception-equal raises.DivideError raises.DivideError h = refl
exception-equal raises.Breakpoint raises.Breakpoint h = refl
exception-equal raises.InvalidOpcode raises.InvalidOpcode h = refl
exception-equal raises.StackFault raises.StackFault h = refl
exception-equal raises.AlignmentCheck raises.AlignmentCheck h = refl
exception-equal raises.InstructionEncoding raises.InstructionEncoding h = refl
exception-equal raises.BadBreak raises.BadBreak h = refl
exception-equal raises.MemoryFault raises.MemoryFault h = refl
exception-equal _ _ h = absurd (false≢true h)

exception-refl : (a : Exception) → exceptions.eq a a ≡ true
exception-refl raises.DivideError = refl
exception-refl raises.Breakpoint = refl
exception-refl raises.InvalidOpcode = refl
exception-refl raises.StackFault = refl
exception-refl raises.AlignmentCheck = refl
exception-refl raises.InstructionEncoding = refl
exception-refl raises.BadBreak = refl
exception-refl raises.MemoryFault = refl

reason-equal : (a b : Reason) → reasons.eq a b ≡ true → a ≡ b
reason-equal (reason.Site a) (reason.Site b) h = ap reason.Site (eqb-true a b h)
reason-equal (reason.Target a) (reason.Target b) h = ap reason.Target (eqb-true a b h)
reason-equal (reason.Signature a b) (reason.Signature x y) h =
    let p = and_parts _ _ h in λ i. reason.Signature (eqb-true a x p.0 i) (eqb-true b y p.1 i)
reason-equal (reason.Argument a s t) (reason.Argument x u v) h =
    let p = and_parts _ _ h in let q = and_parts _ _ p.1 in
    λ i. reason.Argument (eqb-true a x p.0 i) (seen-equal s u q.0 i) (seen-equal t v q.1 i)
reason-equal (reason.Reply a) (reason.Reply b) h = ap reason.Reply (eqb-true a b h)
reason-equal (reason.Enter a b) (reason.Enter x y) h =
    let p = and_parts _ _ h in λ i. reason.Enter (eqb-true a x p.0 i) (eqb-true b y p.1 i)
reason-equal reason.Depth reason.Depth h = refl
reason-equal (reason.Thunk a) (reason.Thunk b) h = ap reason.Thunk (eqb-true a b h)
reason-equal (reason.Notify a) (reason.Notify b) h = ap reason.Notify (eqb-true a b h)
reason-equal (reason.Bind a) (reason.Bind b) h = ap reason.Bind (eqb-true a b h)
reason-equal _ _ h = absurd (false≢true h)

reason-refl : (a : Reason) → reasons.eq a a ≡ true
reason-refl (reason.Site a) = eq-eqb a a refl
reason-refl (reason.Target a) = eq-eqb a a refl
reason-refl (reason.Signature a b) = and_from _ _ (eq-eqb a a refl) (eq-eqb b b refl)
reason-refl (reason.Argument a s t) = and_from _ _ (eq-eqb a a refl) (and_from _ _ (seen-refl s) (seen-refl t))
reason-refl (reason.Reply a) = eq-eqb a a refl
reason-refl (reason.Enter a b) = and_from _ _ (eq-eqb a a refl) (eq-eqb b b refl)
reason-refl reason.Depth = refl
reason-refl (reason.Thunk a) = eq-eqb a a refl
reason-refl (reason.Notify a) = eq-eqb a a refl
reason-refl (reason.Bind a) = eq-eqb a a refl

ending-equal : (a b : Ending) → endings.eq a b ≡ true → a ≡ b
ending-equal ending.Running ending.Running h = refl
ending-equal (ending.Finished v) (ending.Finished w) h = ap ending.Finished (value-equal v w h)
ending-equal (ending.Raised a) (ending.Raised b) h = ap ending.Raised (exception-equal a b h)
ending-equal (ending.Mismatch a) (ending.Mismatch b) h = ap ending.Mismatch (reason-equal a b h)
ending-equal ending.ScriptEnd ending.ScriptEnd h = refl
ending-equal _ _ h = absurd (false≢true h)

ending-refl : (a : Ending) → endings.eq a a ≡ true
ending-refl ending.Running = refl
ending-refl (ending.Finished v) = value-refl v
ending-refl (ending.Raised a) = exception-refl a
ending-refl (ending.Mismatch a) = reason-refl a
ending-refl ending.ScriptEnd = refl

pub Decides-ending : (a b : Ending) → Decides (endings.eq a b) (a ≡ b)
Decides-ending a b =
    let P : Ending → Type 0 = λ e. endings.eq a e ≡ true in (ending-equal a b, λ e. subst P e (ending-refl a))
