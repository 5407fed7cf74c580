-- For proofs: how much a type or a state says, as a number: what is joined in and changes it makes the number less. So no
-- chain of weaker and weaker states is endless. docs/crates/note_infer.md has the words.
use Rattle.std.specs.Prelude.{ℕ, ◌+◌, ◌*◌, ◌-◌, ◌^◌, Bool, nat_eq, if◌then◌else◌, List, [], ◌∷◌, Option, Some, None}
use Rattle.std.specs.Int.RustNames.{count_ones}
use Rattle.note_types.specs.declared.items.Item.{Item}
use Rattle.note_types.specs.declared.items.Item.TheVariants.{Slot, Locals}
use Rattle.note_types.specs.declared.state.Fact.{Fact}
use Rattle.note_types.specs.declared.state.State.{State}
use Rattle.note_types.specs.declared.types.Ty.{Ty}
use Rattle.note_types.specs.declared.types.Ty.TheVariants as ty

-- 1 where two numbers differ
abbrev pub differs : ℕ → ℕ → ℕ
differs x y = if nat_eq x y then 0 else 1

-- how many of the ends to which an upper end can still rise: 3 where it is none of them
abbrev pub ends_above : ℕ → ℕ
ends_above hi = if nat_eq hi (2 ^ 64 - 1) then 0 else if nat_eq hi (2 ^ 32 - 1) then 1 else if nat_eq hi (2 ^ 31 - 1) then 2 else 3

-- 1 for what isn't null
abbrev pub not_null : Bool → ℕ
not_null null = if null then 0 else 1

-- how much a type says: from 0, for Any, to 9
abbrev pub rank_of : Ty → ℕ
rank_of ty.Any = 0
rank_of (ty.Int lo hi div) = 4 + differs lo 0 + ends_above hi + differs div 1
rank_of (ty.Ptr s k n c null) = 1 + differs k 1 + not_null null
rank_of (ty.Status g) = 1 + differs g 0
rank_of (ty.SignedStatus g) = 1 + differs g 0
rank_of (ty.Lin n c) = 1
rank_of (ty.Scaled n c hi) = 1
rank_of (ty.Local f) = 1
rank_of (ty.Lent cell) = 1
rank_of ty.Mask = 1
rank_of ty.Handle = 1
rank_of ty.Entry = 1
rank_of (ty.Method m) = 1
rank_of (ty.ThunkAt i) = 1
rank_of (ty.Saved r) = 1

-- ---- states

-- how much a register says, from 1 to 10
abbrev pub register_rank : Ty → ℕ
register_rank t = 1 + rank_of t

-- the same of an item of the stack
abbrev pub item_rank : Item → ℕ
item_rank (Slot kind t) = 1 + rank_of t
item_rank Locals = 1

-- the sum of a measure over a list
unfoldable pub summed : {A : Type 0} → (A → ℕ) → List A → ℕ
summed w [] = 0
summed w (x ∷ xs) = w x + summed w xs

abbrev pub fact_rank : Option Fact → ℕ
fact_rank None = 0
fact_rank (Some x) = 1

-- how much a state says: its registers, its items, each field that is written, and its fact
unfoldable pub state_rank : State → ℕ
state_rank s = summed register_rank s.regs + summed item_rank s.items + count_ones s.written + fact_rank s.fact

-- the most that a state of a function says: eight registers, 65 items, 64 fields and a fact
abbrev pub most_rank : ℕ
most_rank = 8 * 10 + 65 * 10 + 64 + 1

-- how much is known at a leader: where no state has come, more than any state says
abbrev pub leader_rank : Option State → ℕ
leader_rank None = most_rank + 1
leader_rank (Some s) = state_rank s
