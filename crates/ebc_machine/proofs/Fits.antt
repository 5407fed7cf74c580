-- What a well-formed instruction says of its operands, in the form in which the operands are read.
use Rattle.std.proofs.Common.{◌≡◌, ◌<◌, Bool, true, false, arith}
use Rattle.ebc_insn.specs.Spelling.{ExtraFits, TargetFits, target_bits}
use Rattle.ebc_insn.specs.declared.Operand.{Operand}
use Rattle.ebc_insn.specs.declared.Extra.{Extra}
use Rattle.ebc_insn.specs.declared.Extra.TheVariants.{Nothing, Imm, Idx}

pub target_register : (far : Bool) (o : Operand) (extra : Extra) → TargetFits far o extra → o.reg < 8
target_register false o extra fits = fits.0
target_register true o Nothing fits = absurd fits
target_register true o (Imm v) fits = let at : o.reg ≡ 0 = fits.0 in omega arith
target_register true o (Idx i) fits = absurd fits

pub target_extra : (far : Bool) (o : Operand) (extra : Extra) → TargetFits far o extra → ExtraFits (target_bits far) o extra
target_extra false o extra fits = fits.1
target_extra true o Nothing fits = tt
target_extra true o (Imm v) fits = (fits.1, fits.2)
target_extra true o (Idx i) fits = absurd fits
