-- For proofs: how the lines begin that are said of an answer. docs/COMMANDS.md, "Standard error".
use Rattle.std.specs.Prelude.{◌≡◌, ℕ, ◌==◌, List, [], ◌++◌, codes, length, if◌then◌else◌}
use Rattle.cli_base.specs.declared.outcome.Outcome.{Outcome}
use Rattle.cli_base.specs.declared.outcome.Outcome.TheVariants.{BadWords, BadInput, Missing, ReadFault, Refused, NoMemory}
use Rattle.ebc_outside.specs.Files.{Files}
use Rattle.note_types.specs.declared.rule.RuleName.{RuleName}
use Rattle.note_types.specs.declared.rule.RuleName.TheVariants as rules
use Rattle.printed_texts.specs.Refusals.{rule_text}
use Rattle.explain_answers.specs.Words.{checks_code, names_objects, program_name, word_or_empty}
use Rattle.explain_answers.specs.declared.program.Program.{Program}
use Rattle.explain_answers.specs.declared.program.Program.TheVariants as programs
use Rattle.explain.specs.Places.{noted_place_text, notes_named, number_text}

-- a text that begins with another
pub record BeginsWith (head text : List ℕ) : Type 0 where
  pub rest : List ℕ
  pub joined : text ≡ head ++ rest

-- ---- files

-- the file that was asked for last, and else another name
abbrev pub asked_or : List ℕ → List ℕ → List ℕ
asked_or asked other = if length asked == 0 then other else asked

-- the file that isn't there: the one that a word names, or of words with a plan the one that was asked for last
abbrev pub missing_file : Program → List (List ℕ) → List ℕ → ℕ → List ℕ
missing_file program words asked number =
    if names_objects program words then asked_or asked (word_or_empty words number) else word_or_empty words number

-- the file that isn't of its form: the one that a word names, and nothing is said of words with a plan
abbrev pub bad_file : Program → List (List ℕ) → ℕ → List ℕ
bad_file program words number = if names_objects program words then [] else word_or_empty words number

-- a file or a program of which an error is told, with no place
abbrev pub error_head : List ℕ → List ℕ
error_head name = name ++ codes ": error"

-- ---- refusals

-- an image, a place as it is told, and a rule: `driver.efi: main+0x12: error: stack`; of `shape`, whose place is the number of a shape, no
-- place is told
abbrev pub place_told : RuleName → List ℕ → List ℕ
place_told rules.Shape place = []
place_told rule place = codes ": " ++ place

abbrev pub rule_head : List ℕ → List ℕ → RuleName → List ℕ
rule_head file at rule = file ++ (at ++ (codes ": error: " ++ rule_text rule))

abbrev pub image_head : List ℕ → List ℕ → RuleName → List ℕ
image_head file place rule = rule_head file (place_told rule place) rule

-- raw code, its offset and a rule: `form.bin:0x0: error: form`
abbrev pub code_head : List ℕ → ℕ → RuleName → List ℕ
code_head file place rule = rule_head file (codes ":" ++ number_text place) rule

-- Of `ebc` the file is CODE or IMAGE, and the notes are those that the file of NOTES stands for, if it was kept. The other programs give a
-- place by its number; `ebc_notes` refuses a text of notes.
abbrev pub refused_head : Program → List (List ℕ) → Files → ℕ → RuleName → List ℕ
refused_head programs.Ebc words files place rule =
    if checks_code programs.Ebc words then code_head (word_or_empty words 1) place rule
    else image_head (word_or_empty words 1) (noted_place_text (notes_named files (word_or_empty words 2)) place) rule
refused_head programs.EbcPlaces words files place rule = image_head (word_or_empty words 0) (number_text place) rule
refused_head programs.EbcNotes words files place rule = image_head (word_or_empty words 1) (number_text place) rule
refused_head programs.EbcLint words files place rule = image_head (word_or_empty words 0) (number_text place) rule

-- ---- answers

-- with what the first line begins: the file of the outcome or the program, and of a refusal the place and the rule
abbrev pub outcome_head : Program → List (List ℕ) → List ℕ → Files → Outcome → List ℕ
outcome_head program words asked files BadWords = error_head (program_name program)
outcome_head program words asked files NoMemory = error_head (program_name program)
outcome_head program words asked files ReadFault = error_head (asked_or asked (program_name program))
outcome_head program words asked files (Missing word) = error_head (missing_file program words asked word)
outcome_head program words asked files (BadInput word fault) = bad_file program words word
outcome_head program words asked files (Refused place rule) = refused_head program words files place rule
outcome_head program words asked files outcome = []
