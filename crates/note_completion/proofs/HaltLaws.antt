-- What steps tell of the first fault of a label, what they leave of a text, and what comes of it where they end the work.
use Rattle.std.proofs.Common.{◌≡◌, ap, sym, subst, inl, inr, String, Global, string_bytes}
use Rattle.std.specs.Prelude.{ℕ, List, Option, Result, Ok, Err, IfOk}
use Rattle.ebc_base.specs.Steps.{◌>>=◌}
use Rattle.label_places.specs.declared.label.Label.{Label}
use Rattle.note_filling.specs.Kept.{IsTextKept}
use Rattle.note_filling.specs.Rows.{text_labels}
use Rattle.note_filling.specs.Views.{Refuses, context_labels, context_names, context_place}
use Rattle.note_filling.specs.declared.context.Context.{Context}
use Rattle.note_filling.specs.declared.end.FillEnd.{FillEnd}
use Rattle.note_filling.specs.declared.end.FillEnd.TheVariants as fills
use Rattle.note_filling.specs.declared.end.Flaw.{Flaw}
use Rattle.note_texts.specs.Keys.{document}
use Rattle.note_texts.specs.Outcome.{Fails}
use Rattle.note_types.specs.declared.fault.NotesEnd.{NotesEnd}
use Rattle.note_types.specs.declared.fault.NotesEnd.TheVariants as notes
use Rattle.note_types.specs.declared.fault.TomlFault.{TomlFault}
use Rattle.pe_image.specs.declared.image.Image.{Image}
use Rattle.toml.specs.Data.{Data, Members}
use Rattle.note_completion.specs.Causes.{IsFilledText, without_label}
use Rattle.note_completion.specs.Completions.{Completes, IsComplete, TellsFirstFlaw, flaw_without_label, label_faults}
use Rattle.note_completion.specs.Halts.{GoesOnOrHalts, HaltsAfter, IsChecked, first_label_fault, halt_completion, halt_of_fill}
use Rattle.note_completion.specs.Halts.{halt_of_notes, task_place}
use Rattle.note_completion.specs.declared.halt.Halt.{Halt}
use Rattle.note_completion.specs.declared.halt.Halt.TheVariants as halts
use Rattle.note_completion.specs.declared.task.Task.{Task}

-- a text that isn't TOML has that as its first fault
pub faults_unread : (names : List (List ℕ)) (labels : List Label) (text : List ℕ) (f : TomlFault) → document text ≡ Err f
    → label_faults names labels text ≡ Err (without_label f)
unfolding label_faults
faults_unread names labels text f fails = ap (λ d. flaw_without_label d >>= text_labels names labels) fails

-- it is told as that
pub ends_unread : (end : NotesEnd) (names : List (List ℕ)) (labels : List Label) (text : List ℕ) → Fails end (document text)
    → HaltsAfter (halt_of_notes end) (label_faults names labels text)
ends_unread notes.NoMemory names labels text fails = tt
ends_unread (notes.Fault f) names labels text fails = inl (faults_unread names labels text f fails)

-- the first fault of a label of a document is that of its text
pub faults_in : (names : List (List ℕ)) (labels : List Label) (text : List ℕ) (ms : Members) → document text ≡ Ok ms
    → label_faults names labels text ≡ text_labels names labels ms
unfolding label_faults
faults_in names labels text ms read = ap (λ d. flaw_without_label d >>= text_labels names labels) read

pub ends_unfilled : (end : FillEnd) (read : Result (Unit {0}) Flaw) → Refuses end read → HaltsAfter (halt_of_fill end) read
ends_unfilled fills.NoMemory read refuses = tt
ends_unfilled (fills.Flaw f) read (inl fault) = inl fault
ends_unfilled (fills.Flaw f) read (inr none) = inr none.0

-- the first fault of a label of a task's text, over the labels of the task
pub faults_over : (t : Task) (context : Context) (ms : Members) → context.labels ≡ t.linked.labels
    → context.names.now ≡ t.linked.plan.now.objects → document t.text.now ≡ Ok ms
    → first_label_fault t ≡ text_labels (context_names context) (context_labels context) ms
faults_over t context ms labels names read = rw (labels, names) (faults_in _ _ _ ms read)

pub ends_over : (t : Task) (context : Context) (ms : Members) (end : FillEnd)
    → first_label_fault t ≡ text_labels (context_names context) (context_labels context) ms
    → Refuses end (text_labels (context_names context) (context_labels context) ms) → HaltsAfter (halt_of_fill end) (first_label_fault t)
ends_over t context ms end same refuses = ends_unfilled end (first_label_fault t) (subst (λ read. Refuses end read) (sym same) refuses)

-- where no label has a fault, any end will do
pub ends_any : (halt : Halt) (read : Result (Unit {0}) Flaw) → read ≡ Ok tt → HaltsAfter halt read
ends_any halts.NoMemory read none = tt
ends_any (halts.Fault f) read none = inr none
ends_any (halts.Refused place rule state) read none = none
ends_any halts.Large read none = none

pub tells_any : {X : Type 0} (result : Result X Halt) (read : Result (Unit {0}) Flaw) → read ≡ Ok tt → GoesOnOrHalts result read
tells_any (Ok x) read none = none
tells_any (Err halt) read none = ends_any halt read none

-- a text that is filled, printed and checked is complete notes
pub completed : (image : Image) (place : List ℕ → Option ℕ) (text printed : List ℕ) (points sites : List Data) (new : Members)
    → IsFilledText place text points sites new → document printed ≡ Ok new → IsChecked image printed → IsComplete image place text printed
completed image place text printed points sites new filled shown checked = record {
  notes = checked.notes;
  stands = checked.stands;
  typed = checked.typed;
  fits = checked.fits;
  old = filled.old;
  new = new;
  read = filled.read;
  shown = shown;
  points = points;
  sites = sites;
  kept = filled.kept;
}

-- what is told of an end are no notes, and a fault of a label where the text has one
pub told_completes : (halt : Halt) (image : Image) (place : List ℕ → Option ℕ) (text : List ℕ)
    → IfOk (halt_completion halt) (Completes image place text)
told_completes halts.NoMemory image place text = tt
told_completes (halts.Fault f) image place text = tt
told_completes (halts.Refused p rule state) image place text = tt
told_completes halts.Large image place text = tt

pub told_tells : (halt : Halt) (read : Result (Unit {0}) Flaw) → HaltsAfter halt read → IfOk (halt_completion halt) (TellsFirstFlaw read)
told_tells halts.NoMemory read ends = tt
told_tells (halts.Fault f) read ends = ends
told_tells (halts.Refused p rule state) read ends = ends
told_tells halts.Large read ends = ends
