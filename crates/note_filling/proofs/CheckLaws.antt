-- What a function tells that goes on from step to step.
use Rattle.note_filling.proofs.Common.{◌≡◌, refl, ap, ◌∙◌, inl, inr, Result, Ok, ◌>>=◌, NotesEnd, Fails, of_notes, FillEnd}
use Rattle.note_filling.specs.Views.{Refuses}
use Rattle.note_filling.specs.declared.end.Flaw.{Flaw as Fault}
use Rattle.note_types.specs.declared.fault.NotesEnd.TheVariants as notes
use Rattle.note_filling.specs.declared.end.FillEnd.TheVariants as ends

-- the first step ends all
pub fails_first : {A B : Type 0} (e : FillEnd) (first : Result A Fault) (more : A → Result B Fault) → Fails e first
    → Fails e (first >>= more)
fails_first ends.NoMemory first more fails = tt
fails_first (ends.Flaw f) first more fails = ap (λ r. r >>= more) fails

-- a later step ends all
pub fails_then : {A B : Type 0} (e : FillEnd) (first : Result A Fault) (x : A) (more : A → Result B Fault) → first ≡ Ok x → Fails e (more x)
    → Fails e (first >>= more)
fails_then ends.NoMemory first x more goes fails = tt
fails_then (ends.Flaw f) first x more goes fails = ap (λ r. r >>= more) goes ∙ fails

pub goes_then : {A B : Type 0} (first : Result A Fault) (x : A) (y : B) (more : A → Result B Fault) → first ≡ Ok x → more x ≡ Ok y
    → (first >>= more) ≡ Ok y
goes_then first x y more goes then = ap (λ r. r >>= more) goes ∙ then

-- a fault of a label is told
pub refuses_from : (e : FillEnd) (read : Result (Unit {0}) Fault) → Fails e read → Refuses e read
refuses_from ends.NoMemory read fails = tt
refuses_from (ends.Flaw f) read fails = inl fails

-- one that is no label's comes where no label has one
pub refuses_notes : (end : NotesEnd) (read : Result (Unit {0}) Fault) → read ≡ Ok tt → Refuses (of_notes end) read
refuses_notes notes.NoMemory read none = tt
refuses_notes (notes.Fault f) read none = inr (none, refl)
