-- Worked rows of the definitions: samples of one and of three functions.
use Rattle.std.proofs.Common.{◌≡◌, ◌++◌, Some, None, codes, refl}
use Rattle.std.specs.Fmt.{digits}
use Rattle.note_types.specs.declared.ending.Ending.TheVariants as ending
use Rattle.note_types.specs.declared.exception.Exception.TheVariants as exception
use Rattle.note_types.specs.declared.value.Value.TheVariants as value
use Rattle.printed_texts.specs.Samples.{call_lines, ending_number, notes_text, place_lines, sample_line, script_text, source_text}

-- ---- one function

source_of_one : source_text 1
    ≡ codes ".global f0\nf0:\nMOVIqw R7, 0\nRET\n"
unfolding digits
source_of_one = refl

notes_of_one : notes_text 1
    ≡ codes "version = 1\nentry = \"f0\"\n"
    ++ codes "[[function]]\nname = \"f0\"\nplace = 4096\nend = 4102\nlevel = 0\nneed = [0, 0]\nresult = \"int:0..0\"\n"
unfolding digits place_lines call_lines
notes_of_one = refl

line_of_one : sample_line 1 6 (Some 0) 3 (codes "neutral") (codes "same\n")
    ≡ codes "sample 1 code 6 result 0 steps 3 neutral same\n"
unfolding digits
line_of_one = refl

-- ---- three functions

source_of_three : source_text 3
    ≡ codes ".global f0\nf0:\nCALL32 f1\nMOVIqw R4, 0\nADD64 R7, R4\nRET\n"
    ++ codes "f1:\nCALL32 f2\nMOVIqw R4, 1\nADD64 R7, R4\nRET\nf2:\nMOVIqw R7, 2\nRET\n"
unfolding digits
source_of_three = refl

notes_of_three : notes_text 3
    ≡ codes "version = 1\nentry = \"f0\"\n"
    ++ (codes "[[function]]\nname = \"f0\"\nplace = 4096\nend = 4110\nlevel = 2\nneed = [0, 32]\nresult = \"int:3..3\"\n"
    ++ (codes "[[function]]\nname = \"f1\"\nplace = 4110\nend = 4124\nlevel = 1\nneed = [0, 16]\nresult = \"int:3..3\"\n"
    ++ codes "[[function]]\nname = \"f2\"\nplace = 4124\nend = 4130\nlevel = 0\nneed = [0, 0]\nresult = \"int:2..2\"\n"))
unfolding digits place_lines call_lines
notes_of_three = refl

line_of_three : sample_line 3 34 (Some 3) 11 (codes "neutral") (codes "same\n")
    ≡ codes "sample 3 code 34 result 3 steps 11 neutral same\n"
unfolding digits
line_of_three = refl

-- ---- every sample

the_script : script_text
    ≡ codes "version = 1\nargs = []\n"
the_script = refl

-- ---- other lines

no_number : sample_line 2 20 (ending_number (ending.Raised exception.DivideError)) 5 (codes "refused 00001000 level") (codes "differ 5\n")
    ≡ codes "sample 2 code 20 result - steps 5 refused 00001000 level differ 5\n"
unfolding digits
no_number = refl

a_status : ending_number (ending.Finished (value.StatusError 14))
    ≡ Some 14
a_status = refl

a_size : ending_number (ending.Finished (value.Size 1 8))
    ≡ None
a_size = refl
