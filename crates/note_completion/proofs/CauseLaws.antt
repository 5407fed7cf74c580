-- Why a text isn't made complete, by the step that ends the work.
use Rattle.std.proofs.Common.{◌≡◌, sym, subst, ◌∙◌, inl, inr}
use Rattle.std.specs.Prelude.{ℕ, List, Option, None, Result, Ok, Err, IfOk, IfErr}
use Rattle.note_filling.specs.Causes.{HasCause, HasFormFault, IsTooDeep}
use Rattle.note_filling.specs.Kept.{IsTextKept}
use Rattle.note_filling.specs.Originals.{AreOrders}
use Rattle.note_filling.specs.Rows.{text_labels}
use Rattle.note_filling.specs.Views.{context_labels, context_names, context_place}
use Rattle.note_filling.specs.declared.context.Context.{Context}
use Rattle.note_filling.specs.declared.end.FillEnd.{FillEnd}
use Rattle.note_filling.specs.declared.end.FillEnd.TheVariants as fills
use Rattle.note_filling.specs.declared.end.Flaw.{Flaw}
use Rattle.note_filling.specs.declared.filling.Filled.{Filled}
use Rattle.note_texts.specs.Keys.{document}
use Rattle.note_texts.specs.Outcome.{Fails}
use Rattle.note_types.specs.declared.fault.NotesEnd.{NotesEnd}
use Rattle.note_types.specs.declared.fault.NotesEnd.TheVariants as notes
use Rattle.note_types.specs.declared.fault.TomlFault.{TomlFault}
use Rattle.note_types.specs.declared.notes.Notes.{Notes}
use Rattle.note_types.specs.declared.rule.RuleName.{RuleName}
use Rattle.pe_image.specs.declared.image.Image.{Image}
use Rattle.toml.specs.Data.{Data, Members}
use Rattle.toml.specs.View.{table_view}
use Rattle.type_notes.specs.Notes.{notes_of}
use Rattle.note_completion.specs.Causes.{FailsUnder, FaultHasCause, HasFault, IsArrangedText, IsFilledText, IsNotesDraft, LargeHasCause}
use Rattle.note_completion.specs.Causes.{RefusedHasCause, by_calls, by_date, by_depth, by_form, by_leaders, by_length, by_notes}
use Rattle.note_completion.specs.Causes.{original_fault, without_label}
use Rattle.note_completion.specs.Halts.{EndsByRule, EndsChecked, EndsDepths, EndsPrinting, EndsRead, EndsUnder, IsCaused, IsDrafted}
use Rattle.note_completion.specs.Halts.{IsPrintedOf, IsRefusal, IsToldAs, first_label_fault, halt_completion, halt_of_fill, halt_of_notes}
use Rattle.note_completion.specs.Halts.{task_place}
use Rattle.note_completion.specs.declared.filling.Draft.{Draft}
use Rattle.note_completion.specs.declared.halt.Halt.{Halt}
use Rattle.note_completion.specs.declared.halt.Halt.TheVariants as halts
use Rattle.note_completion.specs.declared.task.Task.{Task}
use Rattle.note_completion.proofs.HaltLaws.{faults_over, faults_unread}

-- a text that isn't TOML
pub caused_unread : (t : Task) (end : NotesEnd) → Fails end (document t.text.now) → IsCaused t (halt_of_notes end)
caused_unread t notes.NoMemory fails = tt
caused_unread t (notes.Fault f) fails = inl (faults_unread _ _ t.text.now f fails)

-- a text that isn't filled, or whose forms aren't those of notes
caused_by_fill : (t : Task) (read : Result (Unit {0}) Flaw) (cause : TomlFault → Type 0) (end : FillEnd) → first_label_fault t ≡ read
    → ((flaw : Flaw) → flaw.label ≡ None → cause flaw.fault → HasFault t.linked.image.now (task_place t) t.text.now flaw)
    → HasCause read cause end → IsCaused t (halt_of_fill end)
caused_by_fill t read cause fills.NoMemory same has caused = tt
caused_by_fill t read cause (fills.Flaw f) same has (inl label) = inl (same ∙ label)
caused_by_fill t read cause (fills.Flaw f) same has (inr other) = inr (has f other.0 other.1)

pub caused_unfilled : (t : Task) (context : Context) (points sites : List Data) (old : Members) (end : FillEnd)
    → context.labels ≡ t.linked.labels → context.names.now ≡ t.linked.plan.now.objects → document t.text.now ≡ Ok old
    → HasCause (text_labels (context_names context) (context_labels context) old) (IsTooDeep (context_place context) points sites old) end
    → IsCaused t (halt_of_fill end)
caused_unfilled t context points sites old end labels names read caused =
    caused_by_fill t (text_labels (context_names context) (context_labels context) old)
    (IsTooDeep (context_place context) points sites old) end
    (faults_over t context old labels names read)
    (λ flaw none deep. by_depth points sites old read (rw (← labels, ← names) deep) none)
    caused

pub caused_unformed : (t : Task) (context : Context) (old : Members) (end : FillEnd) → context.labels ≡ t.linked.labels
    → context.names.now ≡ t.linked.plan.now.objects → document t.text.now ≡ Ok old
    → HasCause (text_labels (context_names context) (context_labels context) old) (HasFormFault (context_place context) old) end
    → IsCaused t (halt_of_fill end)
caused_unformed t context old end labels names read caused =
    caused_by_fill t (text_labels (context_names context) (context_labels context) old) (HasFormFault (context_place context) old) end
    (faults_over t context old labels names read)
    (λ flaw none fault. by_form old read (rw (← labels, ← names) fault) none)
    caused

-- a text that is filled over the labels of a task
pub arranged_over : (t : Task) (context : Context) (points sites : List Data) (function_order point_order site_order : List ℕ)
    (old new : Members) → context.labels ≡ t.linked.labels → context.names.now ≡ t.linked.plan.now.objects → document t.text.now ≡ Ok old
    → IsTextKept (context_place context) points sites old new
    → AreOrders (context_place context) points sites function_order point_order site_order old new
    → IsArrangedText (task_place t) t.text.now points sites function_order point_order site_order new
arranged_over t context points sites function_order point_order site_order old new labels names read kept orders = record {
  filled = record { old = old; read = read; kept = rw (← labels, ← names) kept };
  orders = rw (← labels, ← names) orders;
}

-- the text of a filled table
pub printed_of : (t : Task) (filled : Filled) (points sites : List Data) (printed : List ℕ)
    → IsArrangedText (task_place t) t.text.now points sites filled.functions.items filled.points.items filled.sites.items
    (table_view filled.table)
    → document printed ≡ Ok (table_view filled.table) → IsPrintedOf t filled printed
printed_of t filled points sites printed arranged shown =
    record { points = points; sites = sites; new = table_view filled.table; arranged = arranged; shown = shown }

-- a table that isn't printed
pub caused_printing : (t : Task) (points sites : List Data) (new : Members) (halt : Halt)
    → IsFilledText (task_place t) t.text.now points sites new → EndsPrinting new halt → IsCaused t halt
caused_printing t points sites new halts.NoMemory filled ends = tt
caused_printing t points sites new (halts.Fault flaw) filled ends = inr (by_date points sites new filled ends.0 ends.1)
caused_printing t points sites new (halts.Refused at rule state) filled ends = absurd ends
caused_printing t points sites new halts.Large filled ends = absurd ends

-- a printed text that stands for no notes
pub read_ends : (filled : Filled) (printed : List ℕ) (fault : TomlFault) (halt : Halt) → notes_of printed ≡ Err fault
    → IsToldAs (without_label (original_fault filled.functions.items filled.points.items filled.sites.items fault)) halt
    → EndsRead filled printed halt
read_ends filled printed fault halts.NoMemory read told = tt
read_ends filled printed fault (halts.Fault flaw) read told = (fault, (read, told))
read_ends filled printed fault (halts.Refused at rule state) read told = absurd told
read_ends filled printed fault halts.Large read told = absurd told

pub caused_read : (t : Task) (filled : Filled) (printed : List ℕ) (halt : Halt) → IsPrintedOf t filled printed
    → EndsRead filled printed halt → IsCaused t halt
caused_read t filled printed halts.NoMemory is ends = tt
caused_read t filled printed (halts.Fault flaw) is ends =
    inr (by_notes filled.functions.items filled.points.items filled.sites.items printed ends.0 is ends.1.0 ends.1.1)
caused_read t filled printed (halts.Refused at rule state) is ends = absurd ends
caused_read t filled printed halts.Large is ends = absurd ends

-- a printed text that isn't passed
pub checked_read : (image : Image) (filled : Filled) (printed : List ℕ) (halt : Halt) → EndsRead filled printed halt
    → EndsChecked image filled printed halt
checked_read image filled printed halts.NoMemory ends = tt
checked_read image filled printed (halts.Fault flaw) ends = ends
checked_read image filled printed (halts.Refused at rule state) ends = absurd ends
checked_read image filled printed halts.Large ends = absurd ends

pub checked_rules : (image : Image) (filled : Filled) (printed : List ℕ) (notes : Notes) (halt : Halt) → notes_of printed ≡ Ok notes
    → EndsByRule image notes halt → EndsChecked image filled printed halt
checked_rules image filled printed notes halts.NoMemory stands ends = tt
checked_rules image filled printed notes (halts.Fault flaw) stands ends = absurd ends
checked_rules image filled printed notes (halts.Refused at rule state) stands ends = (notes, (stands, ends))
checked_rules image filled printed notes halts.Large stands ends = absurd ends

pub caused_checked : (t : Task) (filled : Filled) (printed : List ℕ) (halt : Halt) → IsPrintedOf t filled printed
    → EndsChecked t.linked.image.now filled printed halt → IsCaused t halt
caused_checked t filled printed halts.NoMemory is ends = tt
caused_checked t filled printed (halts.Fault flaw) is ends =
    inr (by_notes filled.functions.items filled.points.items filled.sites.items printed ends.0 is ends.1.0 ends.1.1)
caused_checked t filled printed (halts.Refused at rule state) is ends = record {
  function_order = filled.functions.items;
  notes = ends.0;
  draft = record {
    point_order = filled.points.items;
    site_order = filled.sites.items;
    printed = printed;
    is_printed = is;
    stands = ends.1.0;
  };
  fails = ends.1.1;
}
caused_checked t filled printed halts.Large is ends =
    by_length filled.functions.items filled.points.items filled.sites.items printed is ends

-- a refusal by a rule that fails
pub refused_rule : (image : Image) (notes : Notes) (place : ℕ) (rule : RuleName) (halt : Halt) → IsRefusal place rule halt
    → FailsUnder image notes place rule → EndsByRule image notes halt
refused_rule image notes place rule halts.NoMemory is fails = absurd is
refused_rule image notes place rule (halts.Fault flaw) is fails = absurd is
refused_rule image notes place rule (halts.Refused at failing state) is fails = rw (is.0, is.1) fails
refused_rule image notes place rule halts.Large is fails = absurd is

-- a search under a draft
pub depths_rule : (image : Image) (d : Draft) (halt : Halt) → EndsByRule image d.notes halt → EndsDepths image d halt
depths_rule image d halts.NoMemory ends = tt
depths_rule image d (halts.Fault flaw) ends = absurd ends
depths_rule image d (halts.Refused at rule state) ends = ends
depths_rule image d halts.Large ends = absurd ends

pub caused_depths : {X : Type 0} (t : Task) (d : Draft) (result : Result X Halt) → IsDrafted t d
    → IfErr result (EndsDepths t.linked.image.now d) → IfErr result (IsCaused t)
caused_depths t d (Ok x) is ends = tt
caused_depths t d (Err halts.NoMemory) is ends = tt
caused_depths t d (Err (halts.Fault flaw)) is ends =
    inr (by_calls d.filled.functions.items d.notes ends.0 is ends.1.0 ends.1.1)
caused_depths t d (Err (halts.Refused at rule state)) is ends =
    record { function_order = d.filled.functions.items; notes = d.notes; draft = is; fails = ends }
caused_depths t d (Err halts.Large) is ends = absurd ends

pub caused_points : {X : Type 0} (t : Task) (d : Draft) (result : Result X Halt) → IsDrafted t d
    → IfErr result (EndsUnder t.linked.image.now d.notes) → IfErr result (IsCaused t)
caused_points t d (Ok x) is ends = tt
caused_points t d (Err halts.NoMemory) is ends = tt
caused_points t d (Err (halts.Fault flaw)) is ends = absurd ends
caused_points t d (Err (halts.Refused at rule state)) is ends =
    record { function_order = d.filled.functions.items; notes = d.notes; draft = is; fails = ends }
caused_points t d (Err halts.Large) is ends = by_leaders d.filled.functions.items d.notes is ends

-- what is told of an end has its cause
pub told_refused : (t : Task) (halt : Halt) → IsCaused t halt
    → IfOk (halt_completion halt) (RefusedHasCause t.linked.image.now (task_place t) t.text.now)
told_refused t halts.NoMemory caused = tt
told_refused t (halts.Fault flaw) caused = tt
told_refused t (halts.Refused at rule state) caused = caused
told_refused t halts.Large caused = tt

pub told_large : (t : Task) (halt : Halt) → IsCaused t halt
    → IfOk (halt_completion halt) (LargeHasCause t.linked.image.now (task_place t) t.text.now)
told_large t halts.NoMemory caused = tt
told_large t (halts.Fault flaw) caused = tt
told_large t (halts.Refused at rule state) caused = tt
told_large t halts.Large caused = caused

pub told_faulty : (t : Task) (halt : Halt) → IsCaused t halt
    → IfOk (halt_completion halt) (FaultHasCause t.linked.image.now (task_place t) (first_label_fault t) t.text.now)
told_faulty t halts.NoMemory caused = tt
told_faulty t (halts.Fault flaw) caused = caused
told_faulty t (halts.Refused at rule state) caused = tt
told_faulty t halts.Large caused = tt
