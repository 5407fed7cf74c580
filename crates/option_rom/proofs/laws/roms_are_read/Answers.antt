use Rattle.option_rom.proofs.Walks.{fault-read, one_rom, read-fault, read-rom, rom-read}
use Rattle.option_rom.proofs.laws.roms_are_read.Goals as goal

pub returns-clause-read : goal.returns-clause-read
returns-clause-read c = λ file images. (read-rom file images, rom-read file images)

pub returns-clause-one : goal.returns-clause-one
returns-clause-one c = one_rom

pub returns-clause-first : goal.returns-clause-first
returns-clause-first c = λ file kind offset. (read-fault file kind offset, fault-read file kind offset)
