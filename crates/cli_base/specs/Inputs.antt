-- Meaning: the image that a file holds, or the reply to its first fault: docs/COMMANDS.md, "The answer".
use Rattle.std.specs.Prelude.{◌≡◌, ℕ, List, Result, Ok, Err}
use Rattle.std.specs.Fmt.{decimal}
use Rattle.pe_image.specs.declared.fault.ImageFault.{ImageFault}
use Rattle.pe_image.specs.declared.image.Image.{Image}
use Rattle.pe_image.specs.Images.{IsImage, image_of}
use Rattle.pe_image.specs.Mapped.{AreBytes}
use Rattle.cli_base.specs.declared.outcome.Outcome.TheVariants.{BadInput}
use Rattle.cli_base.specs.declared.reply.End.{End}
use Rattle.cli_base.specs.declared.reply.End.TheVariants as ends
use Rattle.cli_base.specs.declared.reply.Reply.{Reply}
use Rattle.cli_base.specs.Faults.{image_fault_number, image_fault_text}
use Rattle.cli_base.specs.Outputs.{prints}
use Rattle.cli_base.specs.Texts.{bad_line}

-- how many bytes the file of an image may have: 4 MiB
abbrev pub image_limit : ℕ
image_limit = 4194304

-- a file with a fault: its number, its name, and where in the file it stands
abbrev pub bad_reply : ℕ → List ℕ → ℕ → List ℕ → List ℕ → Reply
bad_reply word name number fault detail = prints (BadInput word number) (bad_line name fault detail)

-- a file that is no image; the fault is told by its offset
abbrev pub bad_image_reply : ℕ → List ℕ → ImageFault × ℕ → Reply
bad_image_reply word name (kind, offset) = bad_reply word name (image_fault_number kind) (image_fault_text kind) (decimal offset)

-- an image that was read is one, and each of its places has a byte
abbrev pub IsReadImage : Image → Type 0
IsReadImage image = IsImage image × AreBytes image

-- a value, or the reply to a fault
abbrev pub or_reply : {A E : Type 0} → (E → Reply) → Result A E → Result A Reply
or_reply reply (Ok x) = Ok x
or_reply reply (Err fault) = Err (reply fault)

abbrev pub image_meaning : ℕ → List ℕ → List ℕ → Result Image Reply
image_meaning word name bytes = or_reply (bad_image_reply word name) (image_of bytes)

-- what a function made of bytes is their meaning, unless memory ran out
abbrev pub Means : {A : Type 0} → Result A End → Result A Reply → Type 0
Means (Ok x) meaning = meaning ≡ Ok x
Means (Err (ends.Stop reply)) meaning = meaning ≡ Err reply
Means (Err ends.NoMemory) meaning = Unit {0}
Means (Err ends.ReadFault) meaning = ⊥
