use Rattle.option_rom.proofs.Common.{◌∙◌, [], ◌∷◌, ap, arith, length, wrapped, rom_of, bytes_taken}
use Rattle.option_rom.proofs.Wrapped.{rom-length, same-image, wrapped-read, wrapped-taken}
use Rattle.option_rom.proofs.writing.wrap.Goals as goal

pub returns-clause-size : goal.returns-clause-size
returns-clause-size c = ap length c.in_ok-rom_file.ensures ∙ rom-length c.args.vendor c.args.device c.args.subsystem c.args.image.now

pub returns-clause-listed : goal.returns-clause-listed
returns-clause-listed c =
    ap rom_of c.in_ok-rom_file.ensures
    ∙ wrapped-read c.args.vendor c.args.device c.args.subsystem c.args.image.now (omega (arith, c.ranges.subsystem.fits)) c.requires

pub returns-clause-taken : goal.returns-clause-taken
returns-clause-taken c =
    ap (λ rom. bytes_taken rom (wrapped c.args.subsystem (length c.args.image.now) ∷ []) 0) c.in_ok-rom_file.ensures
    ∙ wrapped-taken c.args.vendor c.args.device c.args.subsystem c.args.image.now

pub returns-clause-same : goal.returns-clause-same
returns-clause-same c = same-image c.args.image.now _
