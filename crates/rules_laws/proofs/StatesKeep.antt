-- Changes keep the conditions on a state.
use Rattle.rules_laws.proofs.Common.{◌≡◌, ℕ, zero, suc, ◌≤◌, Bool, true, false, nat_lt, nat_eq, List, [], ◌∷◌, Option, None, Some}
use Rattle.rules_laws.proofs.Common.{slice_index_or, if◌then◌else◌, length, refl, ◌∙◌, arith, FnNote, Notes, Fact, State, Ty, IfOk, Ok, Err}
use Rattle.rules_laws.proofs.Common.{Operand, Access, Destination, Register, Memory, Distance, Change, takes, target_at, destination, put}
use Rattle.rules_laws.proofs.Common.{changed, with_fact, with_store, with_type, IsKnown, IsState, IsFact}
use Rattle.std.proofs.Common.{slice_set}
use Rattle.rules_laws.proofs.Options.{ok_anything, ok_choice, ok_map}
use Rattle.rules_base.specs.declared.change.Change.TheVariants.{Written, Stored, Compared}
use Rattle.rules_base.specs.Change.{lose}
use Rattle.std.proofs.lemmas.List.{length-set}
use Rattle.note_types.specs.declared.types.Ty.TheVariants as ty
use Rattle.note_types.specs.declared.rule.RuleName.TheVariants as rule

-- what is known of a change
abbrev pub ChangeKnown : Notes → FnNote → Change → Type 0
ChangeKnown notes f (Written r t) = IsKnown notes f t × (1 ≤ r)
ChangeKnown notes f (Stored field) = Unit {0}
ChangeKnown notes f (Compared fact) = (x : Fact) → fact ≡ Some x → IsFact x

-- ---- registers

set_or : (xs : List Ty) (r q : ℕ) (t : Ty) (P : Ty → Type 0) → P t → P (slice_index_or xs q ty.Any)
    → P (slice_index_or (slice_set xs r t) q ty.Any)
set_or (x ∷ xs) zero zero t P h g = h
set_or (x ∷ xs) (suc r) (suc q) t P h g = set_or xs r q t P h g
set_or l r q t P h g = g

-- the same where the register may be past the last one
pub set_within : (b : Bool) (xs : List Ty) (r q : ℕ) (t : Ty) (P : Ty → Type 0) → P t → P (slice_index_or xs q ty.Any)
    → P (slice_index_or (if b then slice_set xs r t else xs) q ty.Any)
set_within true xs r q t P h g = set_or xs r q t P h g
set_within false xs r q t P h g = g

-- a list with another item is as long
pub set_long : (b : Bool) (xs : List Ty) (r : ℕ) (t : Ty) → length (if b then slice_set xs r t else xs) ≡ length xs
set_long true xs r t = length-set xs r t
set_long false xs r t = refl

first_kept : (xs : List Ty) (r : ℕ) (t : Ty) → 1 ≤ r → slice_index_or (slice_set xs r t) 0 ty.Any ≡ slice_index_or xs 0 ty.Any
first_kept [] r t h = refl
first_kept (x ∷ xs) zero t h = absurd (omega arith)
first_kept (x ∷ xs) (suc r) t h = refl

-- R0 stays without a type of its own where another register is written
pub unused_kept : (b : Bool) (xs : List Ty) (r : ℕ) (t : Ty) → 1 ≤ r → slice_index_or xs 0 ty.Any ≡ ty.Any
    → slice_index_or (if b then slice_set xs r t else xs) 0 ty.Any ≡ ty.Any
unused_kept true xs r t h e = first_kept xs r t h ∙ e
unused_kept false xs r t h e = e

-- ---- facts

lose_if : (b : Bool) (r : ℕ) (y x : Fact) → (if b then None else Some y) ≡ Some x → Some y ≡ Some x
lose_if true r y x e = absurd cc
lose_if false r y x e = e

lose_fact : (r : ℕ) (o : Option Fact) (x : Fact) → lose r o ≡ Some x → o ≡ Some x
lose_fact r None x e = e
lose_fact r (Some y) x e = lose_if (nat_eq y.reg r) r y x e

-- ---- changes

with_type-keeps : (notes : Notes) (f : FnNote) (s : State) (r : ℕ) (t : Ty) → IsState notes f s → IsKnown notes f t → 1 ≤ r
    → IsState notes f (with_type s r t)
unfolding with_type
with_type-keeps notes f s r t h k g = record {
  eight = set_long (nat_lt r 8) s.regs r t ∙ h.eight;
  unused = unused_kept (nat_lt r 8) s.regs r t g h.unused;
  registers = λ q. set_within (nat_lt r 8) s.regs r q t (IsKnown notes f) k (h.registers q);
  slots = h.slots;
  few = h.few;
  once = h.once;
  there = h.there;
  fact = λ x e. h.fact x (lose_fact r s.fact x e);
}

with_store-keeps : (notes : Notes) (f : FnNote) (s : State) (field : Option ℕ) → IsState notes f s → IsState notes f (with_store s field)
unfolding with_store
with_store-keeps notes f s None h = h
with_store-keeps notes f s (Some x) h = record {
  eight = h.eight;
  unused = h.unused;
  registers = h.registers;
  slots = h.slots;
  few = h.few;
  once = h.once;
  there = h.there;
  fact = h.fact;
}

with_fact-keeps : (notes : Notes) (f : FnNote) (s : State) (fact : Option Fact) → IsState notes f s
    → ((x : Fact) → fact ≡ Some x → IsFact x) → IsState notes f (with_fact s fact)
unfolding with_fact
with_fact-keeps notes f s fact h k = record {
  eight = h.eight;
  unused = h.unused;
  registers = h.registers;
  slots = h.slots;
  few = h.few;
  once = h.once;
  there = h.there;
  fact = k;
}

-- a state after a known change meets the conditions
pub changed_keeps : (notes : Notes) (f : FnNote) (s : State) (change : Change) → IsState notes f s → ChangeKnown notes f change
    → IsState notes f (changed s change)
unfolding changed
changed_keeps notes f s (Written r t) h k = with_type-keeps notes f s r t h k.0 k.1
changed_keeps notes f s (Stored field) h k = with_store-keeps notes f s field h
changed_keeps notes f s (Compared fact) h k = with_fact-keeps notes f s fact h k

-- ---- results

-- a register that a result may go to is there
abbrev pub DestinationKnown : Destination → Type 0
DestinationKnown (Register r) = 1 ≤ r
DestinationKnown (Memory target) = Unit {0}

register_known : (b : Bool) (r : ℕ) → nat_eq r 0 ≡ b → IfOk (if b then Err rule.Stack else Ok (Register r)) DestinationKnown
register_known true r e = tt
register_known false zero e = absurd cc
register_known false (suc r) e = omega arith

pub destination_known : (notes : Notes) (f : FnNote) (s : State) (a : Access) (op : Operand) (d : Distance)
    → IfOk (destination notes f s a op d) DestinationKnown
unfolding destination
destination_known notes f s a op d =
    ok_choice DestinationKnown op.indirect _ _ (ok_map (λ _. Unit {0}) DestinationKnown Memory (target_at notes f s a op.reg d)
    (ok_anything (target_at notes f s a op.reg d)) (λ x h. tt))
    (register_known (nat_eq op.reg 0) op.reg refl)

pub put_known : (notes : Notes) (f : FnNote) (to : Destination) (t : Ty) → DestinationKnown to → IsKnown notes f t
    → IfOk (put to t) (ChangeKnown notes f)
put_known notes f (Register r) t g h = (h, g)
put_known notes f (Memory target) t g h = ok_choice (ChangeKnown notes f) (takes target.cell t) _ _ tt tt
