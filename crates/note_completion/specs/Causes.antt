-- For proofs: why notes with labels aren't made complete: the notes under which a rule fails, what is too large, and each fault that is no
-- label's. docs/LABELS.md, "What is answered".
use Rattle.std.specs.Prelude.{◌≡◌, ◌⊎◌, ℕ, ◌<◌, false, List, ◌++◌, length, Option, Some, None, Result, Ok, Err, codes, slice_get}
use Rattle.std.specs.Prelude.{option_map, ⊤}
use Rattle.std.specs.Fmt.{decimal}
use Rattle.std.specs.Option.{unwrap_or}
use Rattle.note_filling.specs.Causes.{HasFormFault, IsTooDeep}
use Rattle.note_filling.specs.Kept.{IsTextKept}
use Rattle.note_filling.specs.Originals.{AreOrders, original_path}
use Rattle.note_filling.specs.declared.end.Flaw.{Flaw}
use Rattle.note_infer.specs.Inferred.{IsInferred}
use Rattle.note_infer.specs.declared.inferred.Inferred.TheVariants as inferred
use Rattle.note_texts.specs.Keys.{document}
use Rattle.note_types.specs.declared.fault.TomlFault.{TomlFault}
use Rattle.note_types.specs.declared.fault.TomlFault.TheVariants as faults
use Rattle.note_types.specs.declared.notes.FnNote.{FnNote}
use Rattle.note_types.specs.declared.notes.Notes.{Notes}
use Rattle.note_types.specs.declared.rule.RuleName.{RuleName}
use Rattle.note_types.specs.declared.rule.RuleName.TheVariants as rules
use Rattle.note_types.specs.declared.state.State.{State}
use Rattle.pe_image.specs.declared.image.Image.{Image}
use Rattle.rules_image.specs.Images.{FunctionHolds, IsFirstFailing}
use Rattle.stack_needs.specs.Calls.{IsRecursive}
use Rattle.stack_needs.specs.Ways.{IsUnevenIn}
use Rattle.toml.specs.Data.{Data, Members, members_have_valid_dates}
use Rattle.type_notes.specs.Notes.{notes_of}
use Rattle.width_checker.specs.Verdicts.{IsRefused}
use Rattle.note_completion.specs.declared.completion.Completion.{Completion}
use Rattle.note_completion.specs.declared.completion.Completion.TheVariants as completions

-- ---- drafts

-- A text is filled with more points and sites: a table has all that it says.
pub record IsFilledText (place : List ℕ → Option ℕ) (text : List ℕ) (points sites : List Data) (new : Members) : Type 0 where
  pub old : Members
  pub read : document text ≡ Ok old
  pub kept : IsTextKept place points sites old new

-- The same, where its functions, points and sites had these numbers.
pub record IsArrangedText (place : List ℕ → Option ℕ) (text : List ℕ) (points sites : List Data)
    (function_order point_order site_order : List ℕ) (new : Members) : Type 0 where
  pub filled : IsFilledText place text points sites new
  pub orders : AreOrders place points sites function_order point_order site_order filled.old new

-- A text is filled and printed, and its functions, points and sites had these numbers. All that it says stands there. What it leaves out
-- is any number, any points and any sites: which are found is no promise.
pub record IsPrintedText (place : List ℕ → Option ℕ) (text : List ℕ) (function_order point_order site_order : List ℕ)
    (printed : List ℕ) : Type 0 where
  pub points : List Data
  pub sites : List Data
  pub new : Members
  pub arranged : IsArrangedText place text points sites function_order point_order site_order new
  pub shown : document printed ≡ Ok new

-- Notes are a draft of a text: it is filled and printed, what is printed stands for them, and its functions had these numbers.
pub record IsNotesDraft (place : List ℕ → Option ℕ) (text : List ℕ) (function_order : List ℕ) (notes : Notes) : Type 0 where
  pub point_order : List ℕ
  pub site_order : List ℕ
  pub printed : List ℕ
  pub is_printed : IsPrintedText place text function_order point_order site_order printed
  pub stands : notes_of printed ≡ Ok notes

-- ---- refusals

-- The place is that of the first function of which the rule `function` doesn't hold.
pub record IsMisplaced (image : Image) (notes : Notes) (place : ℕ) : Type 0 where
  pub number : ℕ
  pub f : FnNote
  pub there : slice_get notes.function number ≡ Some f
  pub first : IsFirstFailing (FunctionHolds image notes) number
  pub at : place ≡ f.place

-- A rule fails at a place under notes: in the search for levels and needs `function` of a function, or `below` where two ways come with
-- different amounts on the stack; any rule where the search for points is stuck; or the one that the check of the image tells.
pub data FailsUnder (image : Image) (notes : Notes) (place : ℕ) (rule : RuleName) : Type 0 where
  by_function : IsMisplaced image notes place → rule ≡ rules.Function → FailsUnder image notes place rule
  by_stack : IsUnevenIn image notes place → rule ≡ rules.Below → FailsUnder image notes place rule
  by_points : (state : Option State) → IsInferred image notes (inferred.Stuck place rule state) → FailsUnder image notes place rule
  by_check : IsRefused image notes place rule → FailsUnder image notes place rule

-- A rule fails at a place under a draft of a text.
pub record HasRefusal (image : Image) (place : List ℕ → Option ℕ) (text : List ℕ) (at : ℕ) (rule : RuleName) : Type 0 where
  pub function_order : List ℕ
  pub notes : Notes
  pub draft : IsNotesDraft place text function_order notes
  pub fails : FailsUnder image notes at rule

-- ---- what is too large

-- there are more leaders than points may be in notes
abbrev pub HasManyLeaders : Image → Notes → Type 0
HasManyLeaders image notes = (leaders : ℕ) × IsInferred image notes (inferred.Many leaders)

-- The notes of a text are too large: a filled text is printed longer than 1 MiB, or there are too many leaders under a draft.
pub data IsLarge (image : Image) (place : List ℕ → Option ℕ) (text : List ℕ) : Type 0 where
  by_length : (function_order point_order site_order printed : List ℕ)
      → IsPrintedText place text function_order point_order site_order printed → 1048576 < length printed → IsLarge image place text
  by_leaders : (function_order : List ℕ) (notes : Notes) → IsNotesDraft place text function_order notes → HasManyLeaders image notes
      → IsLarge image place text

-- ---- faults that are no label's

-- a fault that is told without a label
abbrev pub without_label : TomlFault → Flaw
without_label fault = record { fault = fault; label = None }

-- a fault by the path that its key had before functions, points and sites were put in order, which had these numbers
abbrev pub original_fault : List ℕ → List ℕ → List ℕ → TomlFault → TomlFault
original_fault functions points sites faults.NotToml = faults.NotToml
original_fault functions points sites (faults.Missing path) = faults.Missing (original_path functions points sites path)
original_fault functions points sites (faults.Kind path) = faults.Kind (original_path functions points sites path)
original_fault functions points sites (faults.Name path) = faults.Name (original_path functions points sites path)
original_fault functions points sites (faults.Range path) = faults.Range (original_path functions points sites path)
original_fault functions points sites (faults.Twice path) = faults.Twice (original_path functions points sites path)

-- that a function has no level: by the number that it had in the text, and with its name
abbrev pub level_path : ℕ → List ℕ
level_path number = codes "function[" ++ (decimal number ++ codes "].level")

abbrev pub no_level : List ℕ → Notes → ℕ → Flaw
no_level function_order notes k = record {
  fault = faults.Missing (level_path (unwrap_or (slice_get function_order k) k));
  label = option_map (λ (f : FnNote). f.name) (slice_get notes.function k);
}

-- A text has a fault that is no label's: of forms, repeats or names in its own order; its values nest too deep, or have a date that no text
-- has; notes that are printed of it have it; or calls of a function lead back to it, and so no level fits.
pub data HasFault (image : Image) (place : List ℕ → Option ℕ) (text : List ℕ) (flaw : Flaw) : Type 0 where
  by_form : (old : Members) → document text ≡ Ok old → HasFormFault place old flaw.fault → flaw.label ≡ None
      → HasFault image place text flaw
  by_depth : (points sites : List Data) (old : Members) → document text ≡ Ok old → IsTooDeep place points sites old flaw.fault
      → flaw.label ≡ None → HasFault image place text flaw
  by_date : (points sites : List Data) (new : Members) → IsFilledText place text points sites new → members_have_valid_dates new ≡ false
      → flaw ≡ without_label faults.NotToml → HasFault image place text flaw
  by_notes : (function_order point_order site_order printed : List ℕ) (fault : TomlFault)
      → IsPrintedText place text function_order point_order site_order printed → notes_of printed ≡ Err fault
      → flaw ≡ without_label (original_fault function_order point_order site_order fault) → HasFault image place text flaw
  by_calls : (function_order : List ℕ) (notes : Notes) (k : ℕ) → IsNotesDraft place text function_order notes → IsRecursive image notes k
      → flaw ≡ no_level function_order notes k → HasFault image place text flaw

-- ---- what comes of a text

-- a refusal, `large` and a fault come of a text only by these causes; a fault that isn't of the others is the first one of a label, or that
-- the text isn't TOML
abbrev pub RefusedHasCause : Image → (List ℕ → Option ℕ) → List ℕ → Completion → Type 0
RefusedHasCause image place text (completions.Refused at rule state) = HasRefusal image place text at rule
RefusedHasCause image place text completion = ⊤

abbrev pub LargeHasCause : Image → (List ℕ → Option ℕ) → List ℕ → Completion → Type 0
LargeHasCause image place text completions.Large = IsLarge image place text
LargeHasCause image place text completion = ⊤

abbrev pub FaultHasCause : Image → (List ℕ → Option ℕ) → Result (Unit {0}) Flaw → List ℕ → Completion → Type 0
FaultHasCause image place labels text (completions.Fault flaw) = (labels ≡ Err flaw) ⊎ HasFault image place text flaw
FaultHasCause image place labels text completion = ⊤
