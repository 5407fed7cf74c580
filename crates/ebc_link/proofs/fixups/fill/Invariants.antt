use Rattle.ebc_link.proofs.Common.{◌≡◌, drop, bytes_for, in_section, with_fixups}
use Rattle.ebc_link.proofs.fixups.fill.Given as goal

abbrev pub invariant-loop-fixup : goal.invariant-loop-fixup
invariant-loop-fixup l =
    with_fixups (bytes_for l.base l.places l.home) l.bytes (in_section l.section (drop l.fixup-index l.fixups))
    ≡ with_fixups (bytes_for l.base l.places l.home) l.fn.bytes (in_section l.section l.fixups)
