-- The names that several proofs of this crate cite, passed on from one place. Declares nothing.
pub use Rattle.std.specs.Fmt.{decimal}
pub use Rattle.std.proofs.Common.{◌≡◌, ◌≢◌, ℕ, List, [], ◌++◌, Option, Some, None, IfSome, IfOk, Result, Ok, inr, append-nil, sym, ◌∙◌, ◌<◌}
pub use Rattle.std.proofs.Common.{◌^◌, ◌-◌, ◌↔◌, refl, ap, subst, ◌≤◌, arith, ◌+◌}
pub use Rattle.std.proofs.{Common.drop, Common.length, Common.append_assoc, lemmas.Result.err_from_is_err_and}
pub use Rattle.ebc_outside.specs.Files.{Files}
pub use Rattle.pe_image.specs.declared.image.Image.{Image}
pub use Rattle.note_types.specs.Records.{IsNotes}
pub use Rattle.note_types.specs.declared.{notes.Notes.Notes, rule.RuleName.RuleName, script.Script.Script}
pub use Rattle.cli_base.specs.{Inputs.IsReadImage, Inputs.image_limit, Inputs.image_meaning, Outputs.printed, Outputs.text_of}
pub use Rattle.cli_base.specs.{Outputs.written_name, Outputs.prints, Readings.done, Readings.told, Readings.◌>>=◌}
pub use Rattle.cli_base.specs.declared.{outcome.Outcome.Outcome, outcome.Outcome.TheVariants.Done, reply.Reply.Reply}
pub use Rattle.note_texts.specs.Numbers.{number_in}
pub use Rattle.plain_check.specs.declared.verdict.Verdict.{Verdict, TheVariants.Neutral}
pub use Rattle.plain_check.specs.declared.verdict.Verdict.TheVariants.{Refused}
pub use Rattle.pair_model.specs.declared.bind.Bind.{Bind}
pub use Rattle.width_checker.specs.Typed.{Typed}
pub use Rattle.file_inputs.specs.Inputs.{notes_limit, notes_meaning}
pub use Rattle.file_inputs.proofs.ReadsLaws.{reads-ended, reads-refused, reads-then, reads-made, reads-told}
pub use Rattle.note_infer.specs.declared.inferred.Inferred.{Inferred, TheVariants.Points}
pub use Rattle.note_infer.specs.declared.inferred.Inferred.TheVariants.{Stuck, Many}
pub use Rattle.note_infer.proofs.OneAnswer.{inferred_once}
pub use Rattle.protocol_script.proofs.RecordLaws.{read-is-script}
pub use Rattle.ebc_cli.specs.Inputs.{pair_step_limit, step_limit, binds_limit, binds_meaning, script_limit, script_meaning, number_meaning}
pub use Rattle.ebc_cli.specs.Answers.{InfersPoints, PairsImages, TwinsImage, ChecksCode, ChecksImage}
pub use Rattle.ebc_cli.specs.{Commands.command_of, Commands.output_of, Inferrings.inferred_reply, Reads.IsDecided, Runnings.twin_outcome}
pub use Rattle.ebc_cli.specs.Works.{IsReplyOf, IsReplyTo, verdict_reply, plain_code_limit}
pub use Rattle.ebc_cli.specs.declared.{pairing.ReadDriver.ReadDriver, work.Work.Work}
unfoldable pub use Rattle.file_inputs.specs.Inputs.{image_with_notes, input}
unfoldable pub use Rattle.ebc_cli.specs.{Pairings.driver_files, Pairings.pair_files, Pairings.unnotified, RomTexts.rom_lines}
unfoldable pub use Rattle.ebc_cli.specs.{Runnings.run_files, Works.work_of, Works.pairing, Works.twinning}
