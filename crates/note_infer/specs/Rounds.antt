-- Meaning: the rounds in which the states at the leaders are found. In a round each leader has the state of the round
-- before, or none yet. docs/crates/note_infer.md has the words.
use Rattle.std.specs.Prelude.{◌≡◌, ℕ, ◌<◌, ◌≤◌, zero, suc, nat_eq, if◌then◌else◌, List, [], ◌∷◌, ◌++◌, map, Option, Some, None}
use Rattle.std.specs.Prelude.{option_and_then, Ok, Err, slice_get}
use Rattle.std.specs.List.{Contains}
use Rattle.ebc_insn.specs.declared.Insn.{Insn}
use Rattle.note_types.specs.Notes.{entry_state}
use Rattle.note_types.specs.declared.notes.FnNote.{FnNote}
use Rattle.note_types.specs.declared.notes.Notes.{Notes}
use Rattle.note_types.specs.declared.notes.Point.{Point}
use Rattle.note_types.specs.declared.rule.RuleName.{RuleName}
use Rattle.note_types.specs.declared.rule.RuleName.TheVariants as rule
use Rattle.note_types.specs.declared.state.State.{State}
use Rattle.pe_image.specs.declared.image.Image.{Image}
use Rattle.rules_base.specs.FirstRule.{IsFirst}
use Rattle.rules_image.specs.Images.{EndHolds, IsDecoded, PointHolds, RelocationHolds}
use Rattle.rules_flow.specs.declared.successors.Successors.{Successors}
use Rattle.rules_image.specs.Images.{reloc_at}
use Rattle.width_checker.specs.Rows.{here_at, row_of}
use Rattle.width_checker.specs.Verdicts.{IsInsn}
use Rattle.note_infer.specs.JoinStates.{taken_in}

-- ---- leaders as points

-- notes with these points in place of their own
abbrev pub with_points : Notes → List Point → Notes
with_points notes points = record notes { point = points }

-- a point at a leader; what state it gives doesn't matter to the rules of an instruction
abbrev pub mark : Notes → ℕ → Point
mark notes leader = record { place = leader; state = entry_state notes notes.entry }

-- leaders count as points
abbrev pub marked : Notes → List ℕ → Notes
marked notes leaders = with_points notes (map (mark notes) leaders)

-- the state known at each leader, where there is one yet
abbrev pub States : Type 0
States = ℕ → Option State

-- a leader of a function
abbrev pub IsWithin : FnNote → ℕ → Type 0
IsWithin f place = (f.place ≤ place) × (place < f.end)

-- ---- the state before each instruction

-- where a state stands that doesn't fall from the instruction before: at a leader its state, and at the function's start,
-- where that is no leader, the entry state
pub data Begins (notes : Notes) (leaders : List ℕ) (states : States) (func : ℕ) (f : FnNote) (place : ℕ) (s : State) : Type 0 where
  at_leader : Contains leaders place → IsWithin f place → states place ≡ Some s → Begins notes leaders states func f place s
  at_entry : (Contains leaders place → ⊥) → place ≡ f.place → s ≡ entry_state notes func → Begins notes leaders states func f place s

-- what falls to a place that is no leader, from the instruction at one of these places
pub record FallsTo (image : Image) (notes : Notes) (leaders : List ℕ) (func : ℕ) (f : FnNote) (before : ℕ → State → Type 0) (place : ℕ)
    (s : State) : Type 0 where
  pub last : ℕ
  pub state : State
  pub has_state : before last state
  pub insn : Insn
  pub decode : IsDecoded image f last insn place
  pub within : place < f.end
  pub between : Contains leaders place → ⊥
  pub successors : Successors
  pub row : row_of (marked notes leaders) (here_at image func last place) state insn ≡ Ok successors
  pub falls : successors.fall ≡ Some s

-- the state before the instruction at a place, so many instructions after one of these beginnings
unfoldable pub Comes : Image → Notes → List ℕ → States → ℕ → FnNote → ℕ → ℕ → State → Type 0
Comes image notes leaders states func f zero place s = Begins notes leaders states func f place s
Comes image notes leaders states func f (suc n) place s = FallsTo image notes leaders func f (Comes image notes leaders states func f n)
    place s

-- the instruction at a place has this state in the round
abbrev pub HasState : Image → Notes → List ℕ → States → ℕ → FnNote → ℕ → State → Type 0
HasState image notes leaders states func f place s = (n : ℕ) × Comes image notes leaders states func f n place s

-- ---- what is given to a leader

-- the fall's state, where the next place is the leader
abbrev pub by_fall : ℕ → ℕ → Option State → List State
by_fall leader next None = []
by_fall leader next (Some s) = if nat_eq next leader then s ∷ [] else []

-- the jump's state, where it goes to the leader
abbrev pub by_jump : ℕ → Option (ℕ × State) → List State
by_jump leader None = []
by_jump leader (Some j) = if nat_eq j.0 leader then j.1 ∷ [] else []

-- what an instruction before `next` gives to a leader, a fall before a jump
abbrev pub given : ℕ → ℕ → Successors → List State
given leader next x = by_fall leader next x.fall ++ by_jump leader x.jump

-- the instruction at a place gives these states to a leader: none where it has no state
pub data GivenAt (image : Image) (notes : Notes) (leaders : List ℕ) (states : States) (func : ℕ) (f : FnNote) (leader place : ℕ)
    (ts : List State) : Type 0 where
  gives_none : ((s : State) → HasState image notes leaders states func f place s → ⊥) → ts ≡ []
      → GivenAt image notes leaders states func f leader place ts
  gives : (s : State) (i : Insn) (next : ℕ) (x : Successors) → HasState image notes leaders states func f place s
      → IsDecoded image f place i next
      → row_of (marked notes leaders) (here_at image func place next) s i ≡ Ok x → ts ≡ given leader next x
      → GivenAt image notes leaders states func f leader place ts

-- states joined in one after another; None where one clashes
unfoldable pub all_in : Option State → List State → Option (Option State)
all_in come [] = Some come
all_in come (t ∷ ts) = option_and_then (λ s. all_in (Some s) ts) (taken_in come t)

-- what the function's entry gives to a leader
abbrev pub by_entry : Notes → ℕ → FnNote → ℕ → List State
by_entry notes func f leader = if nat_eq f.place leader then entry_state notes func ∷ [] else []

-- what has come to a leader after another one is joined in
pub record TakesIn (before : Option State → Type 0) (given : List State → Type 0) (come : Option State) : Type 0 where
  pub had : Option State
  pub before_is : before had
  pub states : List State
  pub given_is : given states
  pub all : all_in had states ≡ Some come

-- What has come to a leader when all instructions before a place have given theirs, in ascending order: the state of the round
-- before, the entry state, then what they give.
unfoldable pub HasCome : Image → Notes → List ℕ → States → ℕ → FnNote → ℕ → ℕ → Option State → Type 0
HasCome image notes leaders states func f leader zero come = all_in (states leader) (by_entry notes func f leader) ≡ Some come
HasCome image notes leaders states func f leader (suc place) come =
    TakesIn (HasCome image notes leaders states func f leader place) (GivenAt image notes leaders states func f leader place) come

-- ---- what fails in a round

-- what the instruction gives to a leader clashes with what has come there
pub record Clashes (image : Image) (notes : Notes) (leaders : List ℕ) (states : States) (func : ℕ) (f : FnNote) (place next : ℕ)
    (x : Successors) : Type 0 where
  pub leader : ℕ
  pub there : Contains leaders leader
  pub within : IsWithin f leader
  pub had : Option State
  pub come : HasCome image notes leaders states func f leader place had
  pub clash : all_in had (given leader next x) ≡ None

-- the rules that fail in a round at an instruction that has a state
pub data FailsIn (image : Image) (notes : Notes) (leaders : List ℕ) (states : States) (func : ℕ) (f : FnNote) (place : ℕ) (s : State)
    (r : RuleName) : Type 0 where
  fails_decode : ¬ IsInsn image f place → r ≡ rule.Decode → FailsIn image notes leaders states func f place s r
  fails_point : (i : Insn) (next : ℕ) → IsDecoded image f place i next → ¬ PointHolds (marked notes leaders) place next → r ≡ rule.Point
      → FailsIn image notes leaders states func f place s r
  fails_relocation : (i : Insn) (next : ℕ) → IsDecoded image f place i next
      → ¬ RelocationHolds image notes place i next (reloc_at image next) → r ≡ rule.Relocation
      → FailsIn image notes leaders states func f place s r
  fails_row : (i : Insn) (next : ℕ) → IsDecoded image f place i next → PointHolds (marked notes leaders) place next
      → RelocationHolds image notes place i next (reloc_at image next)
      → row_of (marked notes leaders) (here_at image func place next) s i ≡ Err r → FailsIn image notes leaders states func f place s r
  fails_below : (i : Insn) (next : ℕ) (x : Successors) → IsDecoded image f place i next
      → row_of (marked notes leaders) (here_at image func place next) s i ≡ Ok x
      → Clashes image notes leaders states func f place next x → r ≡ rule.Below → FailsIn image notes leaders states func f place s r
  fails_end : (i : Insn) (next : ℕ) → IsDecoded image f place i next → ¬ EndHolds f i next → r ≡ rule.End
      → FailsIn image notes leaders states func f place s r

-- no instruction that has a state and that stands before a place, in whichever function, fails in the round
abbrev pub NoneFailsBefore : Image → Notes → List ℕ → States → ℕ → Type 0
NoneFailsBefore image notes leaders states place =
    (k : ℕ) (f : FnNote) → slice_get notes.function k ≡ Some f → (p : ℕ) (s : State) → p < place
    → HasState image notes leaders states k f p s → (r : RuleName) → FailsIn image notes leaders states k f p s r → ⊥

-- the round is stuck: at the least place at which an instruction fails, with the first rule that fails there and its state
pub record IsStuck (image : Image) (notes : Notes) (leaders : List ℕ) (states : States) (place : ℕ) (r : RuleName) (s : State) : Type 0
  where
    pub number : ℕ
    pub f : FnNote
    pub there : slice_get notes.function number ≡ Some f
    pub has_state : HasState image notes leaders states number f place s
    pub fails : IsFirst (FailsIn image notes leaders states number f place s) r
    pub before : NoneFailsBefore image notes leaders states place

-- ---- rounds

-- a round in which nothing fails leads from these states to those
pub record IsRound (image : Image) (notes : Notes) (leaders : List ℕ) (states next : States) : Type 0 where
  pub passes : (place : ℕ) → NoneFailsBefore image notes leaders states place
  pub comes : (k : ℕ) (f : FnNote) → slice_get notes.function k ≡ Some f → (leader : ℕ) → Contains leaders leader → IsWithin f leader
      → HasCome image notes leaders states k f leader f.end (next leader)

-- the states after so many rounds; before the first no leader has one
unfoldable pub AreAfter : Image → Notes → List ℕ → ℕ → States → Type 0
AreAfter image notes leaders zero states = (leader : ℕ) → states leader ≡ None
AreAfter image notes leaders (suc r) states = (before : States) × AreAfter image notes leaders r before
    × IsRound image notes leaders before states

-- a round changes nothing
abbrev pub AreSame : List ℕ → States → States → Type 0
AreSame leaders states next = (leader : ℕ) → Contains leaders leader → next leader ≡ states leader
