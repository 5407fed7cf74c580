use Rattle.option_rom.proofs.Common.{◌+◌, ◌-◌, length, option_map_or}
use Rattle.option_rom.proofs.Loops.{HasRead}
use Rattle.option_rom.proofs.reading.read_rom.Given as goal

abbrev pub invariant-loop-next : goal.invariant-loop-next
invariant-loop-next l = HasRead l.file l.images.items l.next

abbrev pub decreases-loop-next : goal.decreases-loop-next
decreases-loop-next l = option_map_or (λ at. length l.file + 1 - at) l.next 0
