-- For proofs: what a step returns on the way to complete notes, and what it leaves of the text.
use Rattle.std.specs.Prelude.{◌≡◌, ◌⊎◌, ℕ, ◌<◌, ◌≤◌, false, List, length, Option, None, Result, Ok, Err}
use Rattle.ebc_base.specs.declared.memory.NoMemory.{NoMemory}
use Rattle.label_places.specs.Sought.{place_by}
use Rattle.note_filling.specs.declared.end.FillEnd.{FillEnd}
use Rattle.note_filling.specs.declared.end.FillEnd.TheVariants as fills
use Rattle.note_filling.specs.declared.end.Flaw.{Flaw}
use Rattle.note_filling.specs.declared.filling.Filled.{Filled}
use Rattle.note_types.specs.declared.fault.NotesEnd.{NotesEnd}
use Rattle.note_types.specs.declared.fault.NotesEnd.TheVariants as notes
use Rattle.note_types.specs.declared.fault.TomlFault.{TomlFault}
use Rattle.note_types.specs.declared.fault.TomlFault.TheVariants.{NotToml}
use Rattle.note_types.specs.declared.notes.Notes.{Notes}
use Rattle.note_types.specs.declared.rule.RuleName.{RuleName}
use Rattle.pe_image.specs.declared.image.Image.{Image}
use Rattle.stack_needs.specs.Calls.{IsRecursive}
use Rattle.toml.specs.Data.{Members, members_have_valid_dates}
use Rattle.type_notes.specs.Notes.{notes_of}
use Rattle.width_checker.specs.Typed.{Typed}
use Rattle.note_completion.specs.Causes.{FailsUnder, HasFault, HasManyLeaders, HasRefusal, IsLarge, IsNotesDraft, IsPrintedText, no_level}
use Rattle.note_completion.specs.Causes.{original_fault, without_label}
use Rattle.note_completion.specs.Completions.{label_faults}
use Rattle.note_completion.specs.declared.completion.Completion.{Completion}
use Rattle.note_completion.specs.declared.completion.Completion.TheVariants as completions
use Rattle.note_completion.specs.declared.filling.Draft.{Draft}
use Rattle.note_completion.specs.declared.halt.Halt.{Halt}
use Rattle.note_completion.specs.declared.halt.Halt.TheVariants as halts
use Rattle.note_completion.specs.declared.task.Task.{Task}

-- the place that a text names by the labels of a task, and the first fault of a label in its text
abbrev pub task_place : Task → List ℕ → Option ℕ
task_place t text = place_by t.linked.plan.now.objects t.linked.labels.now.labels text

abbrev pub first_label_fault : Task → Result (Unit {0}) Flaw
first_label_fault t = label_faults t.linked.plan.now.objects t.linked.labels.now.labels t.text.now

-- why a text isn't filled, or isn't notes, as why it isn't made complete
abbrev pub halt_of_fill : FillEnd → Halt
halt_of_fill (fills.Flaw flaw) = halts.Fault flaw
halt_of_fill fills.NoMemory = halts.NoMemory

abbrev pub halt_of_notes : NotesEnd → Halt
halt_of_notes (notes.Fault fault) = halts.Fault (record { fault = fault; label = None })
halt_of_notes notes.NoMemory = halts.NoMemory

-- what comes of a text that isn't made complete
abbrev pub halt_completion : Halt → Result Completion NoMemory
halt_completion (halts.Fault flaw) = Ok (completions.Fault flaw)
halt_completion (halts.Refused place rule state) = Ok (completions.Refused place rule state)
halt_completion halts.Large = Ok completions.Large
halt_completion halts.NoMemory = Err (record {})

-- a step that ends the work tells the first fault of a label, where the text has one, unless memory ran out
abbrev pub HaltsAfter : Halt → Result (Unit {0}) Flaw → Type 0
HaltsAfter halts.NoMemory read = Unit {0}
HaltsAfter (halts.Fault flaw) read = (read ≡ Err flaw) ⊎ (read ≡ Ok tt)
HaltsAfter halt read = read ≡ Ok tt

abbrev pub GoesOnOrHalts : {X : Type 0} → Result X Halt → Result (Unit {0}) Flaw → Type 0
GoesOnOrHalts (Ok x) read = read ≡ Ok tt
GoesOnOrHalts (Err halt) read = HaltsAfter halt read

-- A printed text stands for notes under which the image is typed, and has at most 1 MiB.
pub record IsChecked (image : Image) (printed : List ℕ) : Type 0 where
  pub notes : Notes
  pub stands : notes_of printed ≡ Ok notes
  pub typed : Typed image notes
  pub fits : length printed ≤ 1048576

-- ---- why a step ends the work

-- A draft of a task: notes that a filled text of it, printed, stands for.
abbrev pub IsDrafted : Task → Draft → Type 0
IsDrafted t d = IsNotesDraft (task_place t) t.text.now d.filled.functions.items d.notes

-- a text is a filled one of a task, printed
abbrev pub IsPrintedOf : Task → Filled → List ℕ → Type 0
IsPrintedOf t filled printed =
    IsPrintedText (task_place t) t.text.now filled.functions.items filled.points.items filled.sites.items printed

-- an end of the work has its cause in the task's text; want of memory has none
abbrev pub IsCaused : Task → Halt → Type 0
IsCaused t (halts.Refused at rule state) = HasRefusal t.linked.image.now (task_place t) t.text.now at rule
IsCaused t halts.Large = IsLarge t.linked.image.now (task_place t) t.text.now
IsCaused t (halts.Fault flaw) = (first_label_fault t ≡ Err flaw) ⊎ HasFault t.linked.image.now (task_place t) t.text.now flaw
IsCaused t halts.NoMemory = Unit {0}

-- an end is a refusal at a place by a rule
abbrev pub IsRefusal : ℕ → RuleName → Halt → Type 0
IsRefusal place rule (halts.Refused at failing state) = (at ≡ place) × (failing ≡ rule)
IsRefusal place rule halt = ⊥

-- a check of a rule under notes ends so: it fails
abbrev pub EndsByRule : Image → Notes → Halt → Type 0
EndsByRule image notes (halts.Refused at rule state) = FailsUnder image notes at rule
EndsByRule image notes halts.NoMemory = Unit {0}
EndsByRule image notes halt = ⊥

-- a search for points under notes ends so: a rule fails, or there are too many leaders
abbrev pub EndsUnder : Image → Notes → Halt → Type 0
EndsUnder image notes (halts.Refused at rule state) = FailsUnder image notes at rule
EndsUnder image notes halts.Large = HasManyLeaders image notes
EndsUnder image notes (halts.Fault flaw) = ⊥
EndsUnder image notes halts.NoMemory = Unit {0}

-- a search for levels and needs of a draft ends so: a rule fails under its notes, or calls lead back
abbrev pub EndsDepths : Image → Draft → Halt → Type 0
EndsDepths image d (halts.Refused at rule state) = FailsUnder image d.notes at rule
EndsDepths image d (halts.Fault flaw) =
    (k : ℕ) × (IsRecursive image d.notes k × (flaw ≡ no_level d.filled.functions.items d.notes k))
EndsDepths image d halts.Large = ⊥
EndsDepths image d halts.NoMemory = Unit {0}

-- an end tells a flaw, unless memory ran out
abbrev pub IsToldAs : Flaw → Halt → Type 0
IsToldAs flaw (halts.Fault told) = told ≡ flaw
IsToldAs flaw halts.NoMemory = Unit {0}
IsToldAs flaw halt = ⊥

-- what a printed text stands for is no notes: their fault by the path that its key had
abbrev pub IsUnread : Filled → List ℕ → Flaw → Type 0
IsUnread filled printed flaw =
    (fault : TomlFault) × ((notes_of printed ≡ Err fault)
    × (flaw ≡ without_label (original_fault filled.functions.items filled.points.items filled.sites.items fault)))

abbrev pub EndsRead : Filled → List ℕ → Halt → Type 0
EndsRead filled printed (halts.Fault flaw) = IsUnread filled printed flaw
EndsRead filled printed halts.NoMemory = Unit {0}
EndsRead filled printed halt = ⊥

-- a table isn't printed: a date in it is none that a text has
abbrev pub EndsPrinting : Members → Halt → Type 0
EndsPrinting table (halts.Fault flaw) = (members_have_valid_dates table ≡ false) × (flaw ≡ without_label NotToml)
EndsPrinting table halts.NoMemory = Unit {0}
EndsPrinting table halt = ⊥

-- the check of a printed text ends so: it is too long, stands for no notes, or a rule fails under them
abbrev pub EndsChecked : Image → Filled → List ℕ → Halt → Type 0
EndsChecked image filled printed (halts.Refused at rule state) =
    (notes : Notes) × ((notes_of printed ≡ Ok notes) × FailsUnder image notes at rule)
EndsChecked image filled printed halts.Large = 1048576 < length printed
EndsChecked image filled printed (halts.Fault flaw) = IsUnread filled printed flaw
EndsChecked image filled printed halts.NoMemory = Unit {0}
