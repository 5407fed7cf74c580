-- Meaning: the commands that words spell: docs/COMMANDS.md, "Commands". Words are seen as their bytes.
use Rattle.std.specs.Prelude.{ℕ, List, [], ◌∷◌, codes, bytes_eq, if◌then◌else◌, ◌&&◌, Option, Some, None}
use Rattle.ebc_cli.specs.declared.command.Command.{Command}
use Rattle.ebc_cli.specs.declared.command.Command.TheVariants.{Assemble, CheckCode, CheckImage, InferPoints, Link, ListImage, ListRom, Run}
use Rattle.ebc_cli.specs.declared.command.Command.TheVariants.{Pair, Sample, TakeRom, Twin, WrapRom}
use Rattle.ebc_cli.specs.declared.command.DriverFiles.{DriverFiles}
use Rattle.ebc_cli.specs.declared.width.Width.{Width}
use Rattle.ebc_cli.specs.Numbers.{identifier_of, is_count, is_decimal_number, width_of}

-- a word that isn't empty names a file
abbrev pub of_file : (List ℕ → Command) → List ℕ → Option Command
of_file make [] = None
of_file make (b ∷ bytes) = Some (make (b ∷ bytes))

-- two words, of which neither is empty, name two files
abbrev pub of_two_files : (List ℕ → List ℕ → Command) → List ℕ → List ℕ → Option Command
of_two_files make [] two = None
of_two_files make (b ∷ bytes) [] = None
of_two_files make (b ∷ bytes) (c ∷ others) = Some (make (b ∷ bytes) (c ∷ others))

-- three words, of which none is empty, name three files
abbrev pub of_three_files : {A : Type 0} → (List ℕ → List ℕ → List ℕ → A) → List ℕ → List ℕ → List ℕ → Option A
of_three_files make [] two three = None
of_three_files make (b ∷ bytes) [] three = None
of_three_files make (b ∷ bytes) (c ∷ others) [] = None
of_three_files make (b ∷ bytes) (c ∷ others) (d ∷ more) = Some (make (b ∷ bytes) (c ∷ others) (d ∷ more))

-- `run WIDTH IMAGE NOTES SCRIPT STEPS`: the number is kept as its digits, whatever its size
abbrev pub running_of : Option Width → List ℕ → List ℕ → List ℕ → List ℕ → Option Command
running_of None image notes script steps = None
running_of (Some width) image notes script steps =
    if is_decimal_number steps then of_three_files (λ image notes script. Run width image notes script steps) image notes script else None

-- `twin IMAGE NOTES SCRIPT STEPS`, and so here
abbrev pub twinning_of : List ℕ → List ℕ → List ℕ → List ℕ → Option Command
twinning_of image notes script steps =
    if is_decimal_number steps then of_three_files (λ image notes script. Twin image notes script steps) image notes script else None

-- `sample N`: the number, which isn't 0, is kept as its digits, whatever its size
abbrev pub sampling_of : List ℕ → Option Command
sampling_of functions = if is_count functions then Some (Sample functions) else None

-- `rom take ROM NUMBER IMAGE`: the number is kept as its digits, whatever its size
abbrev pub taking_of : List ℕ → List ℕ → List ℕ → Option Command
taking_of rom number image = if is_decimal_number number then of_two_files (λ rom image. TakeRom rom number image) rom image else None

-- `rom wrap VENDOR DEVICE IMAGE ROM`
abbrev pub wrapping_of : Option ℕ → Option ℕ → List ℕ → List ℕ → Option Command
wrapping_of (Some vendor) (Some device) image rom = of_two_files (WrapRom vendor device) image rom
wrapping_of vendor device image rom = None

-- the image, the notes and the script of a driver
unfoldable pub driver_of : List ℕ → List ℕ → List ℕ → Option DriverFiles
driver_of image notes script =
    of_three_files (λ image notes script. record { image = image; notes = notes; script = script }) image notes script

-- `pair IMAGE NOTES SCRIPT IMAGE2 NOTES2 SCRIPT2 BINDS STEPS`, and so is the number of steps here
abbrev pub pairing_of : Option DriverFiles → Option DriverFiles → List ℕ → List ℕ → Option Command
pairing_of (Some a) (Some b) binds steps = if is_decimal_number steps then of_file (λ binds. Pair a b binds steps) binds else None
pairing_of a b binds steps = None

-- the command of five words
unfoldable pub of_five_words : List ℕ → List ℕ → List ℕ → List ℕ → List ℕ → Option Command
of_five_words word one two three four =
    if bytes_eq word (codes "twin") then twinning_of one two three four
    else if bytes_eq word (codes "rom") && bytes_eq one (codes "take") then taking_of two three four
    else None

-- the command of six words
unfoldable pub of_six_words : List ℕ → List ℕ → List ℕ → List ℕ → List ℕ → List ℕ → Option Command
of_six_words word one two three four five =
    if bytes_eq word (codes "run") then running_of (width_of one) two three four five
    else if bytes_eq word (codes "rom") && bytes_eq one (codes "wrap")
    then wrapping_of (identifier_of two) (identifier_of three) four five
    else None

-- the command of nine words: its name, two drivers, of three words each, and two words more
abbrev pub of_nine_words : List ℕ → (a b : Option DriverFiles) → List (List ℕ) → Option Command
of_nine_words word a b (binds ∷ steps ∷ []) = if bytes_eq word (codes "pair") then pairing_of a b binds steps else None
of_nine_words word a b others = None

-- the command of the words, where they are one: its name, and then a word for each number and each file
abbrev pub command_of : List (List ℕ) → Option Command
command_of (word ∷ file ∷ []) =
    if bytes_eq word (codes "check") then of_file CheckCode file
    else if bytes_eq word (codes "list") then of_file ListImage file
    else if bytes_eq word (codes "sample") then sampling_of file
    else None
command_of (word ∷ one ∷ two ∷ []) =
    if bytes_eq word (codes "check") then of_two_files CheckImage one two
    else if bytes_eq word (codes "asm") then of_two_files Assemble one two
    else if bytes_eq word (codes "link") then of_two_files Link one two
    else if bytes_eq word (codes "infer") then of_two_files InferPoints one two
    else if bytes_eq word (codes "rom") && bytes_eq one (codes "list") then of_file ListRom two
    else None
command_of (word ∷ one ∷ two ∷ three ∷ four ∷ []) = of_five_words word one two three four
command_of (word ∷ one ∷ two ∷ three ∷ four ∷ five ∷ []) = of_six_words word one two three four five
command_of (word ∷ one ∷ two ∷ three ∷ four ∷ five ∷ six ∷ others) =
    of_nine_words word (driver_of one two three) (driver_of four five six) others
command_of words = None

-- the name under which a command writes a file, if it writes one
abbrev pub output_of : Option Command → Option (List ℕ)
output_of (Some (Assemble source object)) = Some object
output_of (Some (Link plan image)) = Some image
output_of (Some (WrapRom vendor device image rom)) = Some rom
output_of (Some (TakeRom rom number image)) = Some image
output_of command = None
