-- Answers to words whose work was done.
use Rattle.ebc_cli.proofs.Common.{◌≡◌, ◌≢◌, ℕ, List, Option, Some, None, inr, Files, Outcome, Reply, written_name, command_of, output_of}
use Rattle.cli_base.specs.{Outcomes.IsAnswer, Outcomes.IsWorkAnswer, Readings.MissingHasCause}
use Rattle.ebc_cli.specs.Reads.{AnswersWords}
use Rattle.cli_base.specs.declared.outcome.Outcome.TheVariants as outcomes

work-answer : (o : Outcome) → IsWorkAnswer o → IsAnswer o
work-answer outcomes.Done works = tt
work-answer (outcomes.Refused place rule) works = tt
work-answer (outcomes.Differ step) works = tt
work-answer outcomes.BadWords works = absurd works
work-answer (outcomes.BadInput word fault) works = absurd works
work-answer outcomes.ReadFault works = absurd works
work-answer outcomes.WriteFault works = absurd works
work-answer outcomes.NoMemory works = absurd works
work-answer (outcomes.TooLarge word) works = tt
work-answer (outcomes.Missing word) works = absurd works

work-cause : (files : Option Files) (before now : ℕ) (o : Outcome) → IsWorkAnswer o → MissingHasCause files before now o
work-cause (Some files) before now o works = tt
work-cause None before now outcomes.Done works = tt
work-cause None before now (outcomes.Refused place rule) works = tt
work-cause None before now (outcomes.Differ step) works = tt
work-cause None before now outcomes.BadWords works = tt
work-cause None before now (outcomes.BadInput word fault) works = tt
work-cause None before now outcomes.ReadFault works = tt
work-cause None before now outcomes.WriteFault works = tt
work-cause None before now outcomes.NoMemory works = tt
work-cause None before now (outcomes.TooLarge word) works = tt
work-cause None before now (outcomes.Missing word) works = absurd works

-- such an answer comes only of words that are a command, and writes the file that they name, if they name one
pub work-answers : (words : List (List ℕ)) (files : Option Files) (before now : ℕ) (reply : Reply) → IsWorkAnswer reply.outcome
    → command_of words ≢ None → written_name reply.output ≡ output_of (command_of words) → AnswersWords words files before now reply
work-answers words files before now reply works command output = record {
  answer = work-answer reply.outcome works;
  bad_words = (λ e. absurd (rw e at works), λ none. absurd (command none));
  missing = work-cause files before now reply.outcome works;
  output = inr output;
}
