-- What draft of notes ascends by place, and the functions of its points.
use Rattle.std.proofs.Common.{◌≡◌, ℕ, List, Option, Some, None, Ok, Err, map, refl}
use Rattle.note_types.specs.declared.fault.TomlFault.TheVariants.{Range}
use Rattle.note_draft.specs.declared.draft.FunctionDraft.{FunctionDraft}
use Rattle.note_draft.specs.declared.draft.NotesDraft.{NotesDraft}
use Rattle.note_draft.specs.declared.draft.PointDraft.{PointDraft}
use Rattle.note_draft.specs.declared.finding.Finding.{Finding}
use Rattle.note_draft.specs.declared.finding.Key.{Key}
use Rattle.note_draft.specs.declared.finding.Key.TheVariants as key
use Rattle.note_draft.specs.declared.finding.Refusal.TheVariants as refusals
use Rattle.note_draft.specs.declared.finding.TableList.{TableList}
use Rattle.note_draft.specs.declared.finding.TableList.TheVariants as list
use Rattle.type_notes.specs.declared.owners.Owners.{Owners}
use Rattle.type_notes.specs.declared.owners.Owners.TheVariants.{All, Stray}
use Rattle.type_notes.specs.Conditions.{disordered, stray}
use Rattle.note_draft.specs.Findings.{at, path_of, refused, ◌otherwise◌}
use Rattle.type_notes.specs.Owners.{FindsOwners}
use Rattle.note_draft.specs.Repeats.{first_descent}

pub nothing-at : (list : TableList) (key : Key) (item : Option ℕ) → at list key item ≡ None → item ≡ None
unfolding at
nothing-at list key None nothing = refl
nothing-at list key (Some i) nothing = cc

pub neither : (a b : Option Finding) → (a otherwise b) ≡ None → (a ≡ None) × (b ≡ None)
neither None b nothing = (refl, nothing)
neither (Some f) b nothing = cc

pub functions-ascend : (d : NotesDraft) → disordered d ≡ None → first_descent (map (λ f. f.place) d.function) ≡ None
functions-ascend d nothing = nothing-at list.Function key.Place _ (neither _ _ nothing).0

pub points-ascend : (d : NotesDraft) → disordered d ≡ None → first_descent (map (λ p. p.place) d.point) ≡ None
points-ascend d nothing = nothing-at list.Point key.Place _ (neither _ _ (neither _ _ nothing).1).0

pub none-astray : (d : NotesDraft) (fs : List FunctionDraft) (ps : List PointDraft) (o : Owners) (owners : _) → fs ≡ d.function
    → ps ≡ d.point → FindsOwners fs ps o → o ≡ All owners → refused refusals.Range (stray d) ≡ Ok tt
unfolding at
none-astray d fs ps o owners functions points are all =
    let found = rw all at are in
    rw (← functions, ← points, found.0) refl

pub one-astray : (d : NotesDraft) (fs : List FunctionDraft) (ps : List PointDraft) (o : Owners) (item : ℕ) → fs ≡ d.function → ps ≡ d.point
    → FindsOwners fs ps o → o ≡ Stray item
    → refused refusals.Range (stray d) ≡ Err (Range (path_of (record { list = list.Point; item = item; key = key.Place })))
unfolding at
one-astray d fs ps o item functions points are astray =
    let found = rw astray at are in
    rw (← functions, ← points, found) refl
