-- Meaning: the scripts, binds and numbers that a command reads beside what files of all commands hold, and how large they may be:
-- docs/COMMANDS.md, "The answer".
use Rattle.std.specs.Prelude.{ℕ, ◌-◌, List, Result}
use Rattle.bind_texts.specs.BindTexts.{binds_of}
use Rattle.ebc_base.specs.Steps.{or_else}
use Rattle.note_texts.specs.Numbers.{number_in}
use Rattle.note_types.specs.declared.notes.Notes.{Notes}
use Rattle.note_types.specs.declared.script.Script.{Script}
use Rattle.pair_model.specs.declared.bind.Bind.{Bind}
use Rattle.protocol_script.specs.Scripts.{script_of}
use Rattle.cli_base.specs.declared.reply.Reply.{Reply}
use Rattle.cli_base.specs.Inputs.{or_reply}
use Rattle.cli_base.specs.Readings.{large_reply}
use Rattle.file_inputs.specs.Inputs.{bad_notes_reply}

-- ---- limits

-- how many bytes a script may have: 1 MiB
abbrev pub script_limit : ℕ
script_limit = 1048576

-- how many bytes a text of binds may have: 1 MiB
abbrev pub binds_limit : ℕ
binds_limit = 1048576

-- the greatest number by which an image of an option ROM may be asked for
abbrev pub rom_number_limit : ℕ
rom_number_limit = 65535

-- how many steps a run may be asked for
abbrev pub step_limit : ℕ
step_limit = 10000000

-- how many steps the run of a pair may be asked for
abbrev pub pair_step_limit : ℕ
pair_step_limit = 100000

-- how many functions a sample may have
abbrev pub sample_limit : ℕ
sample_limit = 4096

-- ---- what is read

abbrev pub script_meaning : Notes → ℕ → List ℕ → List ℕ → Result Script Reply
script_meaning notes word name text = or_reply (bad_notes_reply word name) (script_of notes text)

abbrev pub binds_meaning : (a b : Notes) → ℕ → List ℕ → List ℕ → Result (List Bind) Reply
binds_meaning a b word name text = or_reply (bad_notes_reply word name) (binds_of a b text)

-- the number that a word spells, where it is within a limit, or the reply to a larger one
abbrev pub number_meaning : ℕ → ℕ → List ℕ → Result ℕ Reply
number_meaning limit word digits = or_else (large_reply word digits) (number_in 0 limit digits)
