-- Meaning: what a file is read as: the images of an option ROM, or its first fault. The standards are those that
-- specs/Images and specs/Conditions name.
use Rattle.std.specs.Prelude.{◌≡◌, ℕ, zero, suc, ◌+◌, Bool, not, List, [], ◌∷◌, ◌++◌, length, sum_by, All, Option, Some, None, Result, Ok}
use Rattle.std.specs.Prelude.{Err, bit_and, nat_eq, if◌then◌else◌}
use Rattle.ebc_base.specs.Steps.{◌>>=◌}
use Rattle.option_rom.specs.declared.fault.RomEnd.{RomEnd}
use Rattle.option_rom.specs.declared.fault.RomEnd.TheVariants as ends
use Rattle.option_rom.specs.declared.fault.RomFault.{RomFault}
use Rattle.option_rom.specs.declared.fault.RomFault.TheVariants as faults
use Rattle.option_rom.specs.declared.image.RomImage.{RomImage}
use Rattle.option_rom.specs.Conditions.{Fault, checked, size_at}
use Rattle.option_rom.specs.Fields.{indicator, structure}
use Rattle.option_rom.specs.Images.{FollowEachOther, IsMarkedLast, image_at, size_of}

-- ---- the images of a file

-- whether the image at an offset is marked as the last: bit 7 of its indicator
abbrev pub is_last : List ℕ → ℕ → Bool
is_last file at = not (nat_eq (bit_and (indicator file (structure file at)) 0x80) 0)

-- the offset of the image behind the one at an offset, where that isn't the last
unfoldable pub next_of : List ℕ → ℕ → Option ℕ
next_of file at = if is_last file at then None else Some (at + size_at file at)

-- these images, and those from an offset on: at most so many, behind which the file has ended
unfoldable pub images_from : ℕ → List ℕ → List RomImage → Option ℕ → Result (List RomImage) Fault
images_from most file images None = Ok images
images_from zero file images (Some at) = Err (faults.Short, at)
images_from (suc most) file images (Some at) = do
  _ ← checked file at
  images_from most file (images ++ image_at file at ∷ []) (next_of file at)

-- the images of an option ROM, or the first fault of the file: there are at most as many images as bytes
unfoldable pub rom_of : List ℕ → Result (List RomImage) Fault
rom_of file = images_from (length file + 1) file [] (Some 0)

-- ---- the first fault of a file

-- Images follow each other from the beginning of the file on, none of them is marked as the last, and behind them this is the
-- fault of the first condition that doesn't hold.
pub record FailsFirst (file : List ℕ) (fault : RomFault) (offset : ℕ) : Type 0 where
  pub before : List RomImage
  pub follow : FollowEachOther file before
  pub more : All (λ r. ¬ IsMarkedLast file r) before
  pub here : checked file (sum_by size_of before) ≡ Err (fault, offset)

-- ---- what a function tells

-- an end is this first fault, unless memory ran out
abbrev pub Fails : {X : Type 0} → RomEnd → Result X Fault → Type 0
Fails ends.NoMemory reading = Unit {0}
Fails (ends.Fault kind offset) reading = reading ≡ Err (kind, offset)

-- a function gives what reading gives, unless memory ran out
abbrev pub Gives : {X : Type 0} → Result X RomEnd → Result X Fault → Type 0
Gives (Ok x) reading = reading ≡ Ok x
Gives (Err e) reading = Fails e reading

-- a function goes on where a check passes, and ends by its fault, unless memory ran out
abbrev pub Checks : {X : Type 0} → Result X RomEnd → Result (Unit {0}) Fault → Type 0
Checks (Ok x) check = check ≡ Ok tt
Checks (Err e) check = Fails e check

-- an end tells the first fault of a file, unless memory ran out
abbrev pub TellsFirst : List ℕ → RomEnd → Type 0
TellsFirst file ends.NoMemory = Unit {0}
TellsFirst file (ends.Fault kind offset) = FailsFirst file kind offset
