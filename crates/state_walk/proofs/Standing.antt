-- The walk through a function: what holds where it has come, and before the next instruction.
use Rattle.std.proofs.Common.{◌≡◌, ℕ, suc, ◌<◌, List, get_or, refl, sym, ap, subst, ◌∙◌}
use Rattle.std.specs.Prelude.{Option, None, Ok, Some, slice_get}
use Rattle.std.proofs.lemmas.Option.{get_or_from_slice_get, none-some, same_Some}
use Rattle.ebc_insn.specs.declared.Insn.{Insn}
use Rattle.note_types.specs.declared.notes.FnNote.{FnNote}
use Rattle.note_types.specs.declared.notes.Notes.{Notes}
use Rattle.note_types.specs.declared.state.State.{State}
use Rattle.pe_image.specs.declared.image.Image.{Image}
use Rattle.rules_base.specs.declared.here.Here.{Here}
use Rattle.rules_flow.specs.declared.successors.Successors.{Successors}
use Rattle.rules_image.specs.Images.{IsDecoded}
use Rattle.rules_image.proofs.Decoding.{decoded_once, spelled_at}
use Rattle.state_walk.specs.declared.preceding.Before.{Before}
use Rattle.state_walk.specs.Standing.{DecodesIfAny, HasDecoded, HasInsnOf, HasStateOf, HasSuccessors, IsBeforeInsn, IsWholeOf}
use Rattle.state_walk.specs.Standing.{LeadsToStates, StandsBefore}
use Rattle.width_checker.specs.Rows.{here_at, row_of}
use Rattle.width_checker.specs.StatesAt.{Comes, StateAt}
use Rattle.width_checker.specs.Typed.{MeetsRules}
use Rattle.width_checker.specs.Walks.{Arrives, ComesTo}
use Rattle.width_checker.proofs.Leading.{OnePoint, state_of}
use Rattle.width_checker.proofs.Walking.{state_there}

-- ---- the instruction

pub decodes_some : (image : Image) (f : FnNote) (place : ℕ) (i : Insn) (next : ℕ) → IsDecoded image f place i next
    → DecodesIfAny image f place (Some (i, next))
decodes_some image f place i next d j m e =
    let same : (i, next) ≡ (j, m) = same_Some (i, next) (j, m) e in
    subst (λ (p : Insn × ℕ). IsDecoded image f place p.0 p.1) same d

pub has_decoded_some : (image : Image) (f : FnNote) (place : ℕ) (i : Insn) (next : ℕ) → IsDecoded image f place i next
    → HasDecoded image f place (Some (i, next))
has_decoded_some image f place i next d j m e =
    let same = decoded_once image f place i j next m d e in
    ap (λ (x : Insn). Some (x, next)) same.0 ∙ ap (λ (n : ℕ). Some (j, n)) same.1

-- ---- the walk

-- what falls on from the instruction comes to the next place
pub falls_on : (image : Image) (notes : Notes) (func : ℕ) (f : FnNote) (b : Before) (x : Successors) (i : Insn) (next : ℕ)
    → StandsBefore image notes func f b → LeadsToStates notes b x → b.insn ≡ Some (i, next) → next < f.end
    → ComesTo image notes func f next x.fall
unfolding Comes
falls_on image notes func f b x i next s l e within =
    let same : (l.insn, l.next) ≡ (i, next) = same_Some (l.insn, l.next) (i, next) (sym l.insn_is ∙ e) in
    let last : l.next ≡ next = ap (λ (p : Insn × ℕ). p.1) same in
    let decode : IsDecoded image f b.place l.insn l.next = s.insn.insn l.insn l.next l.insn_is in
    let here : l.here ≡ here_at image func b.place l.next = s.insn.here l.here l.insn l.next l.here_is l.insn_is in
    let row : row_of notes (here_at image func b.place l.next) l.state l.insn ≡ Ok x =
    subst (λ (h : Here). row_of notes h l.state l.insn ≡ Ok x) here l.row in (
      suc s.comes.0,
      record {
        last = b.place;
        came = b.arrived;
        reached = s.comes.1;
        state = l.state;
        has_state = (s.state l.state).0 l.state_is;
        insn = l.insn;
        decode = subst (IsDecoded image f b.place l.insn) last decode;
        within = within;
        successors = x;
        row = subst (λ q. row_of notes (here_at image func b.place q) l.state l.insn ≡ Ok x) last row;
        falls = refl;
      },
    )

-- what stands at a place at which a state arrives
pub stands_at : (image : Image) (notes : Notes) (func : ℕ) (f : FnNote) (place : ℕ) (arrived : Option State) (b : Before)
    → IsBeforeInsn image func f place b → IsWholeOf image notes func f place b → b.arrived ≡ arrived → Arrives notes place arrived b.state
    → ComesTo image notes func f place arrived → StandsBefore image notes func f b
stands_at image notes func f place arrived b insn whole is arrives comes =
    let at : place ≡ b.place = sym insn.place_is in
    let came : arrived ≡ b.arrived = sym is in
    record {
      insn = subst (λ p. IsBeforeInsn image func f p b) at insn;
      whole = subst (λ p. IsWholeOf image notes func f p b) at whole;
      comes = subst (ComesTo image notes func f b.place) came (subst (λ p. ComesTo image notes func f p arrived) at comes);
      state = subst (λ o. Arrives notes b.place o b.state) came (subst (λ p. Arrives notes p arrived b.state) at arrives);
    }

-- so its state is the state there
pub has_state : (image : Image) (notes : Notes) (func : ℕ) (f : FnNote) (place : ℕ) (b : Before)
    → slice_get notes.function func ≡ Some f → StandsBefore image notes func f b → b.place ≡ place → HasStateOf image notes place b
has_state image notes func f place b there s at g t found is =
    let number : func ≡ b.func = sym s.insn.func_is in
    let here : slice_get notes.function b.func ≡ Some f = subst (λ k. slice_get notes.function k ≡ Some f) number there in
    let one : f ≡ g = same_Some f g (sym here ∙ found) in
    let state : StateAt image notes func f b.place t =
    state_there image notes func f b.place b.arrived b.state s.comes s.state t is in
    subst (λ p. StateAt image notes b.func g p t) at
    (subst (λ h. StateAt image notes b.func h b.place t) one (subst (λ k. StateAt image notes k f b.place t) number state))

pub has_insn : (image : Image) (notes : Notes) (func : ℕ) (f : FnNote) (place : ℕ) (b : Before)
    → slice_get notes.function func ≡ Some f → IsBeforeInsn image func f place b → HasInsnOf image notes place b
has_insn image notes func f place b there insn =
    let number : func ≡ b.func = sym insn.func_is in (
      f,
      subst (λ k. slice_get notes.function k ≡ Some f) number there,
      subst (λ k. IsBeforeInsn image k f place b) number insn,
    )

-- ---- an instruction that meets its rules

module _ (image : Image) (notes : Notes) (func : ℕ) (f : FnNote) (b : Before) (m : MeetsRules image notes func f b.place) where
  -- it is the one that stands there
  pub insn_there : IsWholeOf image notes func f b.place b → b.insn ≡ Some (m.insn, m.next)
  insn_there w = w.insn m.insn m.next m.decode

  pub next_there : IsWholeOf image notes func f b.place b → (i : Insn) (next : ℕ) → b.insn ≡ Some (i, next) → next ≡ m.next
  next_there w i next e =
      let same : (i, next) ≡ (m.insn, m.next) = same_Some (i, next) (m.insn, m.next) (sym e ∙ insn_there w) in
      ap (λ (p : Insn × ℕ). p.1) same

  pub none_missing : IsWholeOf image notes func f b.place b → b.insn ≡ None → ⊥
  none_missing w e = none-some (m.insn, m.next) (sym e ∙ insn_there w)

  -- its state is the one that stands there
  pub meets_state : OnePoint notes → StandsBefore image notes func f b → b.state ≡ Some m.state
  meets_state one s = (s.state m.state).1
      (state_of image notes func f one s.comes.0 b.place b.arrived s.comes.1 m.state m.has_state)

  -- so what it leads to is told
  pub leads_told : OnePoint notes → StandsBefore image notes func f b → (leads : Option Successors) → HasSuccessors notes b leads
      → leads ≡ Some m.successors
  leads_told one s leads has =
      has (here_at image func b.place m.next) m.insn m.next m.state m.successors
      (s.whole.here m.insn m.next (insn_there s.whole) m.relocation) (insn_there s.whole) (meets_state one s)
      (spelled_at image f b.place m.next m.insn m.decode).well_formed m.row

-- whatever its state is
pub with_state : (image : Image) (func : ℕ) (f : FnNote) (place : ℕ) (b : Before) (s : Option State) → IsBeforeInsn image func f place b
    → IsBeforeInsn image func f place (record b { state = s })
with_state image func f place b s i = record {
  func_is = i.func_is;
  place_is = i.place_is;
  from = i.from;
  within = i.within;
  insn = i.insn;
  here = i.here;
}

-- a thing of a list, by its number, is the one that was found
pub found : (xs : List FnNote) (k : ℕ) (f g : FnNote) → slice_get xs k ≡ Some g → f ≡ get_or xs k f → f ≡ g
found xs k f g there is = is ∙ get_or_from_slice_get xs k g f there
