-- For proofs: how much lies on the stack below a function's entry, at both widths, whatever the types are. docs/LABELS.md, "What may be
-- left out".
use Rattle.std.specs.Prelude.{ℤ, pos, negsuc, ◌+ℤ◌, ◌-ℤ◌, ◌*ℤ◌, true, false, ◌&&◌, if◌then◌else◌}
use Rattle.std.specs.Int.{w64, saturate_signed}
use Rattle.ebc_insn.specs.declared.Insn.{Insn}
use Rattle.ebc_insn.specs.declared.Insn.TheVariants as insn
use Rattle.ebc_insn.specs.declared.Size.TheVariants.{Qword}
use Rattle.rules_base.specs.Operands.{index_distance}
use Rattle.rules_base.specs.declared.operand.Distance.{Distance}
use Rattle.width_checker.specs.Rows.{is_r0}
use Rattle.stack_needs.specs.declared.depth.Depth.{Depth}

-- nothing
abbrev pub no_depth : Depth
no_depth = record { at4 = pos 0; at8 = pos 0 }

-- so many bytes more at each width, as far as 64 bits go
abbrev pub with_more_bytes : Depth → ℤ → ℤ → Depth
with_more_bytes d at4 at8 = record { at4 = saturate_signed w64 (d.at4 +ℤ at4); at8 = saturate_signed w64 (d.at8 +ℤ at8) }

-- how many bytes a distance takes at a width
abbrev pub distance_at : ℤ → Distance → ℤ
distance_at width d = saturate_signed w64 (saturate_signed w64 (d.n *ℤ width) +ℤ d.c)

-- what is left where R0 moves up by a distance
abbrev pub without : Depth → Distance → Depth
without depth d = record {
  at4 = saturate_signed w64 (depth.at4 -ℤ distance_at (pos 4) d);
  at8 = saturate_signed w64 (depth.at8 -ℤ distance_at (pos 8) d);
}

-- how much lies there after an instruction: pushes, pops and moves from R0 to R0 change it
unfoldable pub after : Depth → Insn → Depth
after d (insn.PushNatural op extra) = with_more_bytes d (pos 4) (pos 8)
after d (insn.Push true op extra) = with_more_bytes d (pos 8) (pos 8)
after d (insn.Push false op extra) = with_more_bytes d (pos 4) (pos 4)
after d (insn.PopNatural op extra) = with_more_bytes d (negsuc 3) (negsuc 7)
after d (insn.Pop true op extra) = with_more_bytes d (negsuc 7) (negsuc 7)
after d (insn.Pop false op extra) = with_more_bytes d (negsuc 3) (negsuc 3)
after d (insn.Move Qword bits left right lidx ridx) = if is_r0 left && is_r0 right then without d (index_distance ridx) else d
after d i = d
