-- For proofs: what a reader expects of a join.
use Rattle.std.specs.Prelude.{◌≡◌, ◌⊎◌, ◌<◌, Option, None, Some}
use Rattle.note_types.specs.Below.{Below}
use Rattle.note_types.specs.Known.{AreFields, IsKnown, IsState}
use Rattle.note_types.specs.States.{StateBelow}
use Rattle.note_types.specs.Types.{IsBounded}
use Rattle.note_types.specs.declared.notes.FnNote.{FnNote}
use Rattle.note_types.specs.declared.notes.Notes.{Notes}
use Rattle.note_types.specs.declared.types.Ty.{Ty}
use Rattle.note_types.specs.declared.state.State.{State}
use Rattle.note_infer.specs.Join.{join_types}
use Rattle.note_infer.specs.JoinStates.{join_states, without_fact}
use Rattle.note_infer.specs.Ranks.{rank_of, state_rank}

-- two types within their bounds are both below a third
abbrev pub AreBelow : Ty → Ty → Ty → Type 0
AreBelow a b t = IsBounded a → IsBounded b → Below a t × Below b t

-- a third type names nothing but what is there, where two types don't
abbrev pub KeepsKnown : Ty → Ty → Ty → Type 0
KeepsKnown a b t = (notes : Notes) (f : FnNote) → IsKnown notes f a → IsKnown notes f b → IsKnown notes f t

-- a type is the same as another one, or says less
abbrev pub Weakens : Ty → Ty → Type 0
Weakens a t = (t ≡ a) ⊎ (rank_of t < rank_of a)

-- ---- states

-- two states of a function are both below a third, which is a state of the function too
pub record JoinsStates (notes : Notes) (f : FnNote) (s t joined : State) : Type 0 where
  pub first : StateBelow s joined
  pub second : StateBelow t joined
  pub state : IsState notes f joined
  pub written : AreFields notes f s.written → AreFields notes f joined.written

abbrev pub AreBothBelow : State → State → State → Type 0
AreBothBelow s t joined = (notes : Notes) (f : FnNote) → IsState notes f s → IsState notes f t → JoinsStates notes f s t joined

-- a state is the same as another one, or says less
abbrev pub StateWeakens : State → State → Type 0
StateWeakens s joined = (joined ≡ s) ⊎ (state_rank joined < state_rank s)

-- a state with no fact and an equal one join to that state
abbrev pub KeepsEqual : State → State → Option State → Type 0
KeepsEqual s t joined = s ≡ t → s.fact ≡ None → joined ≡ Some s

-- ---- what is joined in again

-- a type takes what was joined in a second time without a change
abbrev pub TypesAgain : Type 0
TypesAgain = (t g : Ty) → IsBounded t → IsBounded g → join_types (join_types t g) g ≡ join_types t g

-- and still does where others were joined in since
abbrev pub TypesSettle : Type 0
TypesSettle =
    (t h g : Ty) → IsBounded t → IsBounded h → IsBounded g → join_types t g ≡ t → join_types (join_types t h) g ≡ join_types t h

-- the same of two states of a function
abbrev pub StatesAgain : Type 0
StatesAgain =
    (notes : Notes) (f : FnNote) (s t u : State) → IsState notes f s → IsState notes f t → join_states s t ≡ Some u
    → join_states u t ≡ Some u

-- and where others were joined in since
abbrev pub StatesSettle : Type 0
StatesSettle =
    (notes : Notes) (f : FnNote) (s h t u : State) → IsState notes f s → IsState notes f h → IsState notes f t → join_states s t ≡ Some s
    → join_states s h ≡ Some u → join_states u t ≡ Some u

-- the first state that comes is taken in again without a change
abbrev pub FirstAgain : Type 0
FirstAgain = (t : State) → join_states (without_fact t) t ≡ Some (without_fact t)
