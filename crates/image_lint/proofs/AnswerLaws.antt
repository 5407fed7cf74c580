-- From a reply that was decided and printed to the clauses of `lint`: each holds by what is known of the reply, and where the files
-- aren't told it says nothing.
use Rattle.std.proofs.Common.{◌≡◌, ℕ, Bool, false, refl, List, [], ◌++◌, Option, Some, None, IfSome, append-nil, sym, ap, ◌∙◌}
use Rattle.ebc_outside.specs.Files.{AppendsPart, Files}
use Rattle.cli_base.specs.declared.outcome.Outcome.{Outcome}
use Rattle.cli_base.specs.declared.outcome.Outcome.TheVariants as outcomes
use Rattle.cli_base.specs.declared.reply.Reply.{Reply}
use Rattle.cli_base.specs.Outcomes.{IsAnswer}
use Rattle.cli_base.specs.Outputs.{printed, text_of}
use Rattle.cli_base.specs.Readings.{AsksPart, FileReading}
use Rattle.note_types.specs.declared.notes.Notes.{Notes}
use Rattle.pe_image.specs.declared.image.Image.{Image}
use Rattle.image_lint.specs.declared.answer.Answer.{Answer}
use Rattle.image_lint.specs.Answers.{Answers, IsDecided, LeavesPart, warned_with, warns}

-- a reply that warns is done
warns_done : (outcome : Outcome) (text : List ℕ) → warned_with outcome (warns outcome text) ≡ warns outcome text
warns_done outcomes.Done text = refl
warns_done (outcomes.Refused place rule) text = refl
warns_done outcomes.BadWords text = refl
warns_done (outcomes.BadInput word fault) text = refl
warns_done outcomes.ReadFault text = refl
warns_done outcomes.WriteFault text = refl
warns_done outcomes.NoMemory text = refl
warns_done (outcomes.TooLarge word) text = refl
warns_done (outcomes.Differ step) text = refl
warns_done (outcomes.Missing word) text = refl

pub answers : (contents : Option Files) (run : Files → FileReading (Image × Notes)) (asked_before asked_now : List (List ℕ)) (reply : Reply)
    (answer : Answer) (before now : Option (List ℕ)) → IfSome contents (λ files. IsDecided asked_before asked_now (run files) reply)
    → (IsAnswer answer.outcome → answer.outcome ≡ reply.outcome)
    → answer.warned ≡ warned_with answer.outcome (warns reply.outcome (text_of reply.output))
    → (IsAnswer answer.outcome → now ≡ printed (text_of reply.output) before)
    → IfSome contents (λ files. IsAnswer answer.outcome → Answers (run files) answer before now)
answers None run asked_before asked_now reply answer before now decided same warned text = tt
answers (Some files) run asked_before asked_now reply answer before now decided same warned text = λ is. record {
  reply = reply;
  is_reply = decided.is_reply;
  same = same is;
  warned = warned ∙ (ap (λ o. warned_with o (warns reply.outcome (text_of reply.output))) (same is)
      ∙ warns_done reply.outcome (text_of reply.output));
  text = text is;
}

pub leaves-part : (contents : Option Files) (run : Files → FileReading (Image × Notes)) (asked_before asked_now : List (List ℕ))
    (reply : Reply) (outcome : Outcome) (before now : Option (List ℕ))
    → IfSome contents (λ files. IsDecided asked_before asked_now (run files) reply)
    → (outcome ≡ outcomes.WriteFault → AppendsPart (text_of reply.output) before now)
    → IfSome contents (λ files. outcome ≡ outcomes.WriteFault → LeavesPart (run files) before now)
leaves-part None run asked_before asked_now reply outcome before now decided part = tt
leaves-part (Some files) run asked_before asked_now reply outcome before now decided part =
    λ fault. record { reply = reply; is_reply = decided.is_reply; part = part fault }

-- all names were asked for once a reply was decided, and are the last where no other is asked for
pub all-asked : (A : Type 0) (contents : Option Files) (run : Files → FileReading (Image × Notes)) (before mid now : List (List ℕ))
    (reply : Reply)
    → IfSome contents (λ files. IsDecided before mid (run files) reply) → IfSome contents (λ files. now ≡ mid)
    → IfSome contents (λ files. A → now ≡ before ++ (run files).asked)
all-asked A None run before mid now reply decided kept = tt
all-asked A (Some files) run before mid now reply decided kept = λ a. kept ∙ decided.asked

-- then they are a first part of themselves
pub part-asked : (contents : Option Files) (run : Files → FileReading (Image × Notes)) (before mid now : List (List ℕ)) (reply : Reply)
    → IfSome contents (λ files. IsDecided before mid (run files) reply) → IfSome contents (λ files. now ≡ mid)
    → IfSome contents (λ files. AsksPart before (run files).asked now)
part-asked None run before mid now reply decided kept = tt
part-asked (Some files) run before mid now reply decided kept = record {
  first = (run files).asked;
  others = [];
  whole = sym (append-nil (run files).asked);
  asked = kept ∙ decided.asked;
}
