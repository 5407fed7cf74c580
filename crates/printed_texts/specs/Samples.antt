-- Meaning: the texts of samples, programs of so many functions that the program makes itself, the plan by which one is linked, and
-- the line that is printed of it. docs/COMMANDS.md, "Samples".
use Rattle.std.specs.Prelude.{ℕ, ◌+◌, ◌-◌, ◌*◌, List, [], ◌∷◌, ◌++◌, Option, Some, None, codes, nat_eq, sum, if◌then◌else◌}
use Rattle.std.specs.Fmt.{decimal}
use Rattle.std.specs.List.{flat_map, range_with_len}
use Rattle.ebc_link.specs.declared.plan.LinkPlan.{LinkPlan}
use Rattle.note_types.specs.declared.ending.Ending.{Ending}
use Rattle.note_types.specs.declared.ending.Ending.TheVariants.{Finished}
use Rattle.note_types.specs.declared.value.Value.{Value}
use Rattle.note_types.specs.declared.value.Value.TheVariants.{Handle, Int, StatusError, StatusOk}

-- ---- the source

-- the last function: it returns its number
abbrev pub last_function : ℕ → List ℕ
last_function k = codes "f" ++ (decimal k ++ (codes ":\nMOVIqw R7, " ++ (decimal k ++ codes "\nRET\n")))

-- each other function: it calls the next, and adds its own number to what that returns
abbrev pub calling_function : ℕ → ℕ → List ℕ
calling_function k next =
    codes "f" ++ (decimal k ++ (codes ":\nCALL32 f" ++ (decimal next ++ (codes "\nMOVIqw R4, " ++ (decimal k
    ++ codes "\nADD64 R7, R4\nRET\n")))))

-- the function with number k, of n
abbrev pub function_source : ℕ → ℕ → List ℕ
function_source n k = if nat_eq (k + 1) n then last_function k else calling_function k (k + 1)

-- the source of a sample of n functions, with the numbers from 0 to n - 1
abbrev pub source_text : ℕ → List ℕ
source_text n = codes ".global f0\n" ++ flat_map (function_source n) (range_with_len 0 n)

-- ---- the notes

-- where the code of function k begins: that of the image begins at 4096, and each function but the last has 14 bytes
abbrev pub sample_place : ℕ → ℕ
sample_place k = 4096 + 14 * k

-- where it ends, of n functions: the last has 6 bytes
abbrev pub sample_end : ℕ → ℕ → ℕ
sample_end n k = sample_place k + (if nat_eq (k + 1) n then 6 else 14)

-- how many calls deep it goes
abbrev pub level_of : ℕ → ℕ → ℕ
level_of n k = n - 1 - k

-- what it returns: the sum of the numbers from k to n - 1
abbrev pub sample_result : ℕ → ℕ → ℕ
sample_result n k = sum (range_with_len k (n - k))

-- the first lines of the table of function k: its name, and where its code begins and ends
unfoldable pub place_lines : ℕ → ℕ → ℕ → List ℕ
place_lines k place end =
    codes "[[function]]\nname = \"f" ++ (decimal k ++ (codes "\"\nplace = " ++ (decimal place ++ (codes "\nend = " ++ (decimal end
    ++ codes "\n")))))

-- the others: how many calls deep it goes, of which each takes 16 bytes of the stack, and what it returns
unfoldable pub call_lines : ℕ → ℕ → List ℕ
call_lines level value =
    codes "level = " ++ (decimal level ++ (codes "\nneed = [0, " ++ (decimal (16 * level) ++ (codes "]\nresult = \"int:"
    ++ (decimal value ++ (codes ".." ++ (decimal value ++ codes "\"\n")))))))

-- the table of function k, of n
abbrev pub function_notes : ℕ → ℕ → List ℕ
function_notes n k = place_lines k (sample_place k) (sample_end n k) ++ call_lines (level_of n k) (sample_result n k)

-- the notes of a sample of n functions
abbrev pub notes_text : ℕ → List ℕ
notes_text n = codes "version = 1\nentry = \"f0\"\n" ++ flat_map (function_notes n) (range_with_len 0 n)

-- ---- the script and the plan

-- the script of every sample: the entry takes no arguments, and nothing native is called
abbrev pub script_text : List ℕ
script_text = codes "version = 1\nargs = []\n"

-- the plan of every sample: its one object, entered at the first function
abbrev pub sample_plan : LinkPlan
sample_plan = record { objects = codes "sample" ∷ []; entry = codes "f0"; subsystem = 11; base = 65536 }

-- ---- the line

-- the number in a value, where it has one and no more
abbrev pub value_number : Value → Option ℕ
value_number (Int n) = Some n
value_number (StatusOk code) = Some code
value_number (StatusError code) = Some code
value_number (Handle k) = Some k
value_number v = None

-- the number in the value with which a run finished
abbrev pub ending_number : Ending → Option ℕ
ending_number (Finished v) = value_number v
ending_number ending = None

-- a number, or a dash where there is none
abbrev pub number_or_dash : Option ℕ → List ℕ
number_or_dash (Some n) = decimal n
number_or_dash None = codes "-"

-- the line of a sample of n functions: how many bytes of code it has, the number with which its run at 4 bytes an address finished
-- and the steps of that run, the line of its check without the line feed, and the last line of its run at both widths
abbrev pub sample_line : ℕ → ℕ → Option ℕ → ℕ → List ℕ → List ℕ → List ℕ
sample_line n code number steps verdict last =
    codes "sample " ++ (decimal n ++ (codes " code " ++ (decimal code ++ (codes " result " ++ (number_or_dash number
    ++ (codes " steps " ++ (decimal steps ++ (codes " " ++ (verdict ++ (codes " " ++ last))))))))))
