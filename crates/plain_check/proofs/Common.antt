-- The names that several proofs of this crate cite, passed on from one place. Declares nothing.
pub use Rattle.std.proofs.Common.{◌≡◌, ℕ, ◌+◌, ◌-◌, ◌<◌, ◌≤◌, zero, suc, Bool, true, false, ◌||◌, ◌&&◌, nat_eq, List, [], ◌∷◌, length, drop}
pub use Rattle.std.proofs.Common.{Result, Ok, Err, refl, sym, ap, ◌∙◌, subst, arith, inl, inr, nat_lt, length-drop, drop-drop, ◌%◌, not}
pub use Rattle.std.proofs.Common.{Option, Some, None, if◌then◌else◌, ◌≢◌, ◌↔◌, ℤ, pos, negsuc}
pub use Rattle.std.proofs.lemmas.Bool.{cases_Bool, and_parts, or_right, Decides.nat_tests}
pub use Rattle.natural_index.specs.declared.Index.{Index}
pub use Rattle.ebc_insn.specs.declared.{Extra.Extra, Extra.TheVariants.Nothing, Extra.TheVariants.Imm, Extra.TheVariants.Idx, Insn.Insn}
pub use Rattle.ebc_insn.specs.declared.{Insn.TheVariants.Jump8, Operand.Operand}
pub use Rattle.ebc_decode.specs.declared.DecodeFault.{DecodeFault}
pub use Rattle.ebc_decode.proofs.Laws.{read_length}
pub use Rattle.note_types.specs.declared.rule.RuleName.{RuleName, TheVariants.Decode, TheVariants.Form}
pub use Rattle.note_types.specs.declared.rule.RuleName.TheVariants.{Target, End}
pub use Rattle.plain_check.specs.PlainChecks.{Reached, starts, is_start, marked, instruction_rule, judged, is_plain, lands, falls_through}
pub use Rattle.plain_check.specs.{PlainChecks.passes, PlainChecks.jump_target, PlainRules.IsReached, PlainRules.Decodes, PlainRules.IsStart}
pub use Rattle.plain_check.specs.PlainRuns.{GoesOn, Returned, Stopped, plain_machine}
pub use Rattle.plain_check.specs.declared.verdict.Verdict.{Verdict, TheVariants.Neutral}
pub use Rattle.plain_check.specs.declared.verdict.Verdict.TheVariants.{Refused}
unfoldable pub use Rattle.ebc_decode.specs.Reading.{read, insn_at, size1_at, size2_at}
unfoldable pub use Rattle.machine_alu.specs.Alu.{computed, compared}
unfoldable pub use Rattle.note_types.specs.Concrete.{with_register, with_flags, at_ip}
unfoldable pub use Rattle.ebc_machine.specs.{Data.arith_row, Data.compare_row, Flow.jump8_row, Moves.move_imm_row, Operands.value}
unfoldable pub use Rattle.ebc_machine.specs.{Operands.written, Operands.sum_at, Results.goes, Step.executed}
unfoldable pub use Rattle.plain_check.specs.{PlainChecks.reached, PlainChecks.first_refusal, PlainChecks.plain_verdict, PlainRules.place_of}
unfoldable pub use Rattle.plain_check.specs.PlainRuns.{plain_run, plain_step}
