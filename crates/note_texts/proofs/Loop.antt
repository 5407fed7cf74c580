-- Reading the items of an array one after the other, as a loop does.
use Rattle.std.proofs.Common.{◌≡◌, ℕ, ◌+◌, ◌≤◌, ◌<◌, List, [], ◌∷◌, ◌++◌, length, get_or, drop, Result, Ok, Err, refl, sym, ap, ◌∙◌}
use Rattle.std.proofs.Common.{append_assoc, arith}
use Rattle.std.proofs.lemmas.List.{append-nil}
use Rattle.std.proofs.lemmas.Grind.{common_steps}
use Rattle.toml.specs.declared.value.Value.{Value}
use Rattle.toml.specs.Data.{Data}
use Rattle.toml.specs.View.{view, items_view}
use Rattle.toml.proofs.Views.{items_view-drop}
use Rattle.note_types.specs.declared.fault.TomlFault.{TomlFault}
use Rattle.note_types.specs.declared.fault.NotesEnd.{NotesEnd}
use Rattle.note_types.specs.declared.fault.NotesEnd.TheVariants as ends
use Rattle.ebc_base.specs.Steps.{◌>>=◌}
use Rattle.note_texts.specs.Outcome.{Fails}
use Rattle.note_texts.specs.Lists.{each}

-- what was read before, and what is still read
abbrev pub with_front : {A : Type 0} → List A → Result (List A) TomlFault → Result (List A) TomlFault
with_front front read = read >>= λ xs. Ok (front ++ xs)

regroup : {A : Type 0} (front : List A) (x : A) (read : Result (List A) TomlFault)
    → with_front front (read >>= λ xs. Ok (x ∷ xs)) ≡ with_front (front ++ x ∷ []) read
regroup front x (Ok xs) = ap Ok (simp append_assoc)
regroup front x (Err f) = refl

none_before : {A : Type 0} (read : Result (List A) TomlFault) → with_front [] read ≡ read
none_before (Ok xs) = refl
none_before (Err f) = refl

pub from_start : {A : Type 0} (read : ℕ → Data → Result A TomlFault) (vs : List Value)
    → with_front [] (each read 0 (items_view vs)) ≡ each read 0 (items_view vs)
from_start read vs = none_before (each read 0 (items_view vs))

pub goes_on : {A : Type 0} (read : ℕ → Data → Result A TomlFault) (front : List A) (i : ℕ) (vs : List Value) (v : Value) (x : A)
    (total : Result (List A) TomlFault) → i < length vs → v ≡ get_or vs i v → read i (view v) ≡ Ok x
    → with_front front (each read i (items_view (drop i vs))) ≡ total
    → with_front (front ++ x ∷ []) (each read (i + 1) (items_view (drop (i + 1) vs))) ≡ total
unfolding each
goes_on read front i vs v x total lt same h so_far =
    let one : with_front front (each read i (items_view (drop i vs))) ≡ with_front (front ++ x ∷ [])
    (each read (i + 1) (items_view (drop (i + 1) vs)))
    = rw (items_view-drop vs i v lt, ← same, h) (regroup front x (each read (i + 1) (items_view (drop (i + 1) vs)))) in
    sym one ∙ so_far

pub stops : {A : Type 0} (e : NotesEnd) (read : ℕ → Data → Result A TomlFault) (front : List A) (i : ℕ) (vs : List Value) (v : Value)
    (total : Result (List A) TomlFault) → i < length vs → v ≡ get_or vs i v → Fails e (read i (view v))
    → with_front front (each read i (items_view (drop i vs))) ≡ total → Fails e total
unfolding each
stops ends.NoMemory read front i vs v total lt same h so_far = tt
stops (ends.Fault f) read front i vs v total lt same h so_far =
    let one : with_front front (each read i (items_view (drop i vs))) ≡ Err f = rw (items_view-drop vs i v lt, ← same, h) refl in
    sym so_far ∙ one

pub is_done : {A : Type 0} (read : ℕ → Data → Result A TomlFault) (front : List A) (i : ℕ) (vs : List Value)
    (total : Result (List A) TomlFault) → length vs ≤ i
    → with_front front (each read i (items_view (drop i vs))) ≡ total → total ≡ Ok front
unfolding each
is_done read front i vs total past so_far =
    let none : drop i vs ≡ [] = grind (arith, common_steps) in
    let one : with_front front (each read i (items_view (drop i vs))) ≡ Ok front = rw none (ap Ok (append-nil front)) in
    sym so_far ∙ one
