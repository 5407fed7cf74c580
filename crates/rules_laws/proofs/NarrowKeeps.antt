-- Narrowing keeps the conditions on a state.
use Rattle.rules_laws.proofs.Common.{◌≡◌, ℕ, ◌+◌, ◌-◌, ◌^◌, ◌<◌, ◌≤◌, Bool, ◌&&◌, min, nat_lt, nat_le, nat_eq, Option, None, Some}
use Rattle.rules_laws.proofs.Common.{if◌then◌else◌, arith, refl, ◌∙◌, and_parts, eqb-true, leb-true, CmpOp, type_of, FnNote, Notes, Fact}
use Rattle.rules_laws.proofs.Common.{State, Ty, Span, narrow, narrowed_if, IsKnown, IsState}
use Rattle.std.proofs.Common.{max}
use Rattle.ebc_insn.specs.declared.CmpOp.TheVariants.{Eq, Lte, Gte, Ulte, Ugte}
use Rattle.note_types.specs.BelowTests.{divides}
use Rattle.rules_flow.specs.Narrowing.{at_least, at_most, cut_to, exactly, int_of, is_plain, narrowed, narrowed_by, narrowed_span}
use Rattle.rules_flow.specs.Narrowing.{other_than, past, short_of}
use Rattle.rules_laws.proofs.{StatesKeep.set_long, StatesKeep.set_within, StatesKeep.unused_kept, SumsKeep.IsSpan, SumsKeep.if_known}
use Rattle.rules_laws.proofs.SumsKeep.{int_known}
use Rattle.note_types.specs.declared.types.Ty.TheVariants as ty

-- ---- numbers

int_of-known : (notes : Notes) (f : FnNote) (x : Span) → IsSpan x → IsKnown notes f (int_of x)
int_of-known notes f x h = int_known notes f x.lo x.hi x.div h.ends h.word h.div h.whole

cut_to-known : (notes : Notes) (f : FnNote) (x : Span) (lo hi : ℕ) → IsSpan x → hi < 2 ^ 64 → IsKnown notes f (cut_to x lo hi)
cut_to-known notes f x lo hi h w = if_known notes f (nat_le lo hi) _ _
    (λ e. int_known notes f lo hi x.div (leb-true lo hi e) w h.div h.whole) (int_of-known notes f x h)

at_most-known : (notes : Notes) (f : FnNote) (x : Span) (k : ℕ) → IsSpan x → IsKnown notes f (at_most x k)
at_most-known notes f x k h = let w = h.word in cut_to-known notes f x x.lo (min x.hi k) h (omega arith)

past_known : (notes : Notes) (f : FnNote) (x : Span) (k : ℕ) → IsSpan x → IsKnown notes f (past x k)
past_known notes f x k h = if_known notes f (nat_lt (k + 1) (2 ^ 64)) _ _ (λ e. cut_to-known notes f x (max x.lo (k + 1)) x.hi h h.word)
    (int_of-known notes f x h)

at_least-known : (notes : Notes) (f : FnNote) (x : Span) (k : ℕ) → IsSpan x → IsKnown notes f (at_least x k)
at_least-known notes f x k h = cut_to-known notes f x (max x.lo k) x.hi h h.word

short_of-known : (notes : Notes) (f : FnNote) (x : Span) (k : ℕ) → IsSpan x → IsKnown notes f (short_of x k)
short_of-known notes f x k h =
    let w = h.word in if_known notes f (nat_eq k 0) _ _ (λ e. int_of-known notes f x h)
    (cut_to-known notes f x x.lo (min x.hi (k - 1)) h (omega arith))

exactly_known : (notes : Notes) (f : FnNote) (x : Span) (k : ℕ) → IsSpan x → IsKnown notes f (exactly x k)
exactly_known notes f x k h =
    if_known notes f (nat_le x.lo k && (nat_le k x.hi && divides x.div k)) _ _
    (λ e. let p = and_parts (nat_le x.lo k) (nat_le k x.hi && divides x.div k) e in
    let q = and_parts (nat_le k x.hi) (divides x.div k) p.1 in let l = leb-true k x.hi q.0 in let w = h.word in
    int_known notes f k k x.div (omega arith) (omega arith) h.div h.whole)
    (int_of-known notes f x h)

other_than-known : (notes : Notes) (f : FnNote) (x : Span) (k : ℕ) → IsSpan x → IsKnown notes f (other_than x k)
other_than-known notes f x k h =
    if_known notes f (nat_eq x.lo k) _ _ (λ e. past_known notes f x k h)
    (if_known notes f (nat_eq x.hi k) _ _ (λ e. let q = eqb-true x.hi k e in let v = h.word in
    cut_to-known notes f x x.lo (k - 1) h (omega arith)) (int_of-known notes f x h))

choice_known : (notes : Notes) (f : FnNote) (b : Bool) (t u : Ty) → IsKnown notes f t → IsKnown notes f u
    → IsKnown notes f (if b then t else u)
choice_known notes f b t u h g = if_known notes f b t u (λ e. h) g

span_known : (notes : Notes) (f : FnNote) (op : CmpOp) (taken : Bool) (x : Span) (k : ℕ) → IsSpan x
    → IsKnown notes f (narrowed_span op taken x k)
span_known notes f Eq taken x k h = choice_known notes f taken _ _ (exactly_known notes f x k h) (other_than-known notes f x k h)
span_known notes f Ulte taken x k h = choice_known notes f taken _ _ (at_most-known notes f x k h) (past_known notes f x k h)
span_known notes f Ugte taken x k h = choice_known notes f taken _ _ (at_least-known notes f x k h) (short_of-known notes f x k h)
span_known notes f Lte taken x k h =
    choice_known notes f (is_plain x k) _ _ (choice_known notes f taken _ _ (at_most-known notes f x k h) (past_known notes f x k h))
    (int_of-known notes f x h)
span_known notes f Gte taken x k h =
    choice_known notes f (is_plain x k) _ _ (choice_known notes f taken _ _ (at_least-known notes f x k h) (short_of-known notes f x k h))
    (int_of-known notes f x h)

-- ---- types and states

narrowed_known : (notes : Notes) (f : FnNote) (op : CmpOp) (taken : Bool) (t : Ty) (k : ℕ) → IsKnown notes f t
    → IsKnown notes f (narrowed op taken t k)
narrowed_known notes f op taken (ty.Int lo hi div) k h =
    span_known notes f op taken (record { lo = lo; hi = hi; div = div }) k
    (record { ends = h.bounded.0; word = h.bounded.1; div = h.bounded.2; whole = h.bounded.3 })
narrowed_known notes f op taken (ty.Ptr s count n c null) k h = record { bounded = h.bounded; names = h.names }
narrowed_known notes f op taken t k h = h

narrowed_by-keeps : (notes : Notes) (f : FnNote) (s : State) (fact : Fact) (taken : Bool) → IsState notes f s → 1 ≤ fact.reg
    → IsState notes f (narrowed_by s fact taken)
narrowed_by-keeps notes f s fact taken h g = record {
  eight = set_long (nat_lt fact.reg 8) s.regs fact.reg _ ∙ h.eight;
  unused = unused_kept (nat_lt fact.reg 8) s.regs fact.reg _ g h.unused;
  registers = λ q. set_within (nat_lt fact.reg 8) s.regs fact.reg q _ (IsKnown notes f)
      (narrowed_known notes f fact.op taken (type_of s fact.reg) fact.k (h.registers fact.reg)) (h.registers q);
  slots = h.slots;
  few = h.few;
  once = h.once;
  there = h.there;
  fact = h.fact;
}

narrowed_if-keeps : (notes : Notes) (f : FnNote) (s : State) (o : Option Fact) (taken : Bool) → s.fact ≡ o → IsState notes f s
    → IsState notes f (narrowed_if s o taken)
narrowed_if-keeps notes f s None taken e h = h
narrowed_if-keeps notes f s (Some fact) taken e h = narrowed_by-keeps notes f s fact taken h (h.fact fact e).0

pub narrow_keeps : (notes : Notes) (f : FnNote) (s : State) (taken : Bool) → IsState notes f s → IsState notes f (narrow s taken)
unfolding narrow
narrow_keeps notes f s taken h = narrowed_if-keeps notes f s s.fact taken refl h
