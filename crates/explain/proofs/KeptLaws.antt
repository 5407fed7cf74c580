-- What is read of the notes of a kept file is what the file stands for.
use Rattle.std.proofs.Common.{◌≡◌, ℕ, Bool, true, false, List, [], ◌∷◌, length, nat_lt, Option, Some}
use Rattle.std.proofs.Common.{None, Result, Ok, Err, refl, if◌then◌else◌}
use Rattle.std.specs.FinMap.{get}
use Rattle.std.specs.Result.{result_ok}
use Rattle.cli_base.specs.Inputs.{or_reply}
use Rattle.cli_base.specs.Readings.{FileReading, done, file, go_on, large_reply, measured, told}
use Rattle.cli_base.specs.declared.reply.Reply.{Reply}
use Rattle.ebc_outside.specs.Files.{Files}
use Rattle.file_inputs.specs.Inputs.{bad_notes_reply, input_with_bytes, notes_limit, notes_meaning}
use Rattle.note_types.specs.declared.fault.TomlFault.{TomlFault}
use Rattle.note_types.specs.declared.notes.Notes.{Notes}
use Rattle.type_notes.specs.Notes.{notes_of}
use Rattle.explain.specs.Places.{notes_named, notes_within}

-- the reading of a text
abbrev reading_of : List ℕ → List ℕ → Result Notes TomlFault → FileReading (Notes × List ℕ)
reading_of name text meaning = go_on [] (or_reply (bad_notes_reply 2 name) meaning) (λ notes. done (notes, text))

text-read : (name text : List ℕ) (m : Result Notes TomlFault) (read : Notes × List ℕ)
    → (reading_of name text m).value ≡ Ok read → Some read.0 ≡ result_ok m
text-read name text (Ok notes) read e = cc
text-read name text (Err fault) read e = cc

text-unread : (name text : List ℕ) (m : Result Notes TomlFault) (reply : Reply)
    → (reading_of name text m).value ≡ Err reply → None ≡ result_ok m
text-unread name text (Ok notes) reply e = cc
text-unread name text (Err fault) reply e = cc

-- the reading of a text that may be too large
abbrev reading_within : List ℕ → Bool → List ℕ → FileReading (Notes × List ℕ)
reading_within name large text =
    go_on (name ∷ []) (if large then Err (large_reply 2 name) else Ok text) (λ text. reading_of name text (notes_of text))

within-read : (name text : List ℕ) (large : Bool) (read : Notes × List ℕ)
    → (reading_within name large text).value ≡ Ok read → Some read.0 ≡ (if large then None else result_ok (notes_of text))
within-read name text true read e = cc
within-read name text false read e = text-read name text (notes_of text) read e

within-unread : (name text : List ℕ) (large : Bool) (reply : Reply)
    → (reading_within name large text).value ≡ Err reply → None ≡ (if large then None else result_ok (notes_of text))
within-unread name text true reply e = refl
within-unread name text false reply e = text-unread name text (notes_of text) reply e

-- the reading of a file that may not be there
abbrev reading_found : List ℕ → Option (List ℕ) → FileReading (Notes × List ℕ)
reading_found name found =
    go_on (name ∷ []) (measured 2 name notes_limit found) (λ text. reading_of name text (notes_of text))

found-read : (name : List ℕ) (found : Option (List ℕ)) (read : Notes × List ℕ)
    → (reading_found name found).value ≡ Ok read → Some read.0 ≡ notes_within found
found-read name None read e = cc
found-read name (Some text) read e = within-read name text (nat_lt notes_limit (length text)) read e

found-unread : (name : List ℕ) (found : Option (List ℕ)) (reply : Reply)
    → (reading_found name found).value ≡ Err reply → None ≡ notes_within found
found-unread name None reply e = refl
found-unread name (Some text) reply e = within-unread name text (nat_lt notes_limit (length text)) reply e

-- of a file by its name
pub named-read : (files : Files) (name : List ℕ) (read : Notes × List ℕ)
    → (input_with_bytes notes_limit notes_meaning 2 name files).value ≡ Ok read → Some read.0 ≡ notes_named files name
unfolding input_with_bytes file
named-read files name read e = found-read name (get files name) read e

pub named-unread : (files : Files) (name : List ℕ) (reply : Reply)
    → (input_with_bytes notes_limit notes_meaning 2 name files).value ≡ Err reply → None ≡ notes_named files name
unfolding input_with_bytes file
named-unread files name reply e = found-unread name (get files name) reply e
