-- The clauses of `ebc` on where the work stops and how it completes, on answers with no text, and on what numbers and option ROMs are.
use Rattle.ebc_cli.proofs.Common.{◌≡◌, ◌≢◌, ◌↔◌, ℕ, ◌<◌, ◌≤◌, ◌^◌, List, [], Option, Some, None, IfSome, IfOk, Result, Ok, refl, sym, ap}
use Rattle.ebc_cli.proofs.Common.{◌∙◌, decimal, Files, Inferred, Points, Stuck, Many, number_in, Notes, Verdict, Neutral, Refused}
use Rattle.ebc_cli.proofs.Common.{inferred_once, Outcome, Reply, text_of, written_name, Work, command_of, output_of, inferred_reply}
use Rattle.ebc_cli.proofs.Common.{IsDecided, twin_outcome, IsReplyOf, IsReplyTo, verdict_reply, work_of}
use Rattle.std.proofs.Common.{◌⊎◌, Err}
use Rattle.option_rom.specs.{Images.IsRom, Roms.FailsFirst, Roms.rom_of}
use Rattle.option_rom.specs.declared.{fault.RomFault.RomFault, image.RomImage.RomImage}
use Rattle.option_rom.proofs.Walks.{fault-read, read-fault, read-rom, rom-read}
use Rattle.ebc_cli.specs.{Answers.HasNoText, Answers.IsOutcomeOfWork, Answers.IsStop, Answers.StopsWith, Reads.CanBeDone}
use Rattle.ebc_cli.proofs.AnswerLaws.{Answered, can-be-done, names-output, replied}
use Rattle.ebc_cli.proofs.NumberLemmas.{number-read, number-spelled}
use Rattle.cli_base.specs.declared.outcome.Outcome.TheVariants as outcomes
use Rattle.ebc_cli.specs.declared.work.Work.TheVariants as works

-- ---- the outcomes of work

outcome-of : (one two : Reply) → one ≡ two → one.outcome ≡ two.outcome
outcome-of one two same = ap (λ (r : Reply). r.outcome) same

verdict-ends : (verdict : Verdict) → IsStop (verdict_reply verdict).outcome → ⊥
verdict-ends Neutral stop = stop
verdict-ends (Refused place rule) stop = stop

twin-ends : (differ : Option ℕ) → IsStop (twin_outcome differ) → ⊥
twin-ends None stop = stop
twin-ends (Some step) stop = stop

-- an outcome that tells no stop is none of those that do
apart : (outcome told wanted : Outcome) → outcome ≡ told → (IsStop told → ⊥) → IsStop wanted → outcome ≡ wanted ↔ ⊥
apart outcome told wanted is ends stop = (λ e. let same : wanted ≡ told = sym e ∙ is in ends (rw same at stop), λ no. absurd no)

-- what `infer` tells is a stop exactly where there are too many leaders
found-many : (name : List ℕ) (notes : Notes) (answer : Inferred) (wanted : Outcome) → IsStop wanted
    → (inferred_reply name notes answer).outcome ≡ wanted → (leaders : ℕ) × (answer ≡ Many leaders) × (wanted ≡ outcomes.TooLarge 1)
found-many name notes (Points points) wanted stop e = absurd (let no : IsStop outcomes.Done = rw (sym e) at stop in no)
found-many name notes (Stuck place rule state) wanted stop e =
    absurd (let no : IsStop (outcomes.Refused place rule) = rw (sym e) at stop in no)
found-many name notes (Many leaders) wanted stop e = (leaders, refl, sym e)

stops : (v : Result Work Reply) (reply : Reply) (outcome wanted : Outcome) → IsReplyOf v reply → IfOk v CanBeDone → outcome ≡ reply.outcome
    → IsStop wanted → outcome ≡ wanted ↔ StopsWith v wanted
stops (Err stopped) reply outcome wanted told able same stop =
    let is : outcome ≡ stopped.outcome = same ∙ outcome-of reply stopped told in (λ e. sym e ∙ is, λ e. is ∙ sym e)
stops (Ok (works.CheckCode code)) reply outcome wanted told able same stop =
    apart outcome _ wanted (same ∙ outcome-of reply _ told.told) (verdict-ends told.verdict) stop
stops (Ok (works.CheckImage image notes)) reply outcome wanted told able same stop =
    apart outcome _ wanted (same ∙ outcome-of reply _ told.told) (verdict-ends told.verdict) stop
stops (Ok (works.ListImage image)) reply outcome wanted told able same stop =
    apart outcome outcomes.Done wanted (same ∙ outcome-of reply _ told) (λ no. no) stop
stops (Ok (works.WriteObject name object)) reply outcome wanted told able same stop =
    apart outcome outcomes.Done wanted (same ∙ outcome-of reply _ told) (λ no. no) stop
stops (Ok (works.WriteImage name image)) reply outcome wanted told able same stop =
    apart outcome outcomes.Done wanted (same ∙ outcome-of reply _ told) (λ no. no) stop
stops (Ok (works.Run width image notes script steps)) reply outcome wanted told able same stop =
    apart outcome outcomes.Done wanted (same ∙ outcome-of reply _ told.told) (λ no. no) stop
stops (Ok (works.Twin image notes script steps)) reply outcome wanted told able same stop =
    apart outcome _ wanted (same ∙ outcome-of reply _ told.told) (twin-ends told.report.differ) stop
stops (Ok (works.Pair a b binds steps)) reply outcome wanted told able same stop =
    apart outcome _ wanted (same ∙ outcome-of reply _ told.told) (twin-ends told.report.differ) stop
stops (Ok (works.Sample sample)) reply outcome wanted told able same stop =
    apart outcome outcomes.Done wanted (same ∙ outcome-of reply _ told.told) (λ no. no) stop
stops (Ok (works.WriteRom name vendor device subsystem image)) reply outcome wanted told able same stop =
    apart outcome outcomes.Done wanted (same ∙ outcome-of reply _ told) (λ no. no) stop
stops (Ok (works.ListRom images)) reply outcome wanted told able same stop =
    apart outcome outcomes.Done wanted (same ∙ outcome-of reply _ told) (λ no. no) stop
stops (Ok (works.WriteTaken name bytes)) reply outcome wanted told able same stop =
    apart outcome outcomes.Done wanted (same ∙ outcome-of reply _ told) (λ no. no) stop
stops (Ok (works.InferPoints name image notes)) reply outcome wanted told able same stop =
    let is : outcome ≡ (inferred_reply name notes told.answer).outcome = same ∙ outcome-of reply _ told.told in (
      λ e. let m = found-many name notes told.answer wanted stop (sym is ∙ e) in (m.0, rw m.1 at told.inferred, m.2),
      λ m. is ∙ ap (λ (x : Inferred). (inferred_reply name notes x).outcome)
          (sym (inferred_once image notes able.1 (Many m.0) told.answer m.1 told.inferred)) ∙ sym m.2,
    )

pub stops-exactly : {words : List (List ℕ)} {files : Files} {outcome : Outcome} {before now : Option (List ℕ)}
    → Answered words files outcome before now → (wanted : Outcome) → IsStop wanted
    → outcome ≡ wanted ↔ StopsWith (work_of words files).value wanted
stops-exactly {words = words} {files = files} {outcome = outcome} a wanted stop =
    stops (work_of words files).value a.reply outcome wanted a.answer a.able a.same stop

-- ---- and how it completes

done-is : (outcome : Outcome) (work : Work) → outcome ≡ outcomes.Done → IsOutcomeOfWork outcome work
done-is outcome work e = rw e tt

completes-by : (v : Result Work Reply) (reply : Reply) (outcome : Outcome) → IsReplyOf v reply → outcome ≡ reply.outcome
    → IfOk v (IsOutcomeOfWork outcome)
completes-by (Err stopped) reply outcome told same = tt
completes-by (Ok (works.CheckCode code)) reply outcome told same =
    rw (same ∙ outcome-of reply _ told.told) (by_verdict told.verdict)
  where
    by_verdict : (v : Verdict) → IsOutcomeOfWork (verdict_reply v).outcome (works.CheckCode code)
    by_verdict Neutral = tt
    by_verdict (Refused place rule) = tt
completes-by (Ok (works.CheckImage image notes)) reply outcome told same =
    rw (same ∙ outcome-of reply _ told.told) (by_verdict told.verdict)
  where
    by_verdict : (v : Verdict) → IsOutcomeOfWork (verdict_reply v).outcome (works.CheckImage image notes)
    by_verdict Neutral = tt
    by_verdict (Refused place rule) = tt
completes-by (Ok (works.ListImage image)) reply outcome told same = done-is outcome _ (same ∙ outcome-of reply _ told)
completes-by (Ok (works.WriteObject name object)) reply outcome told same = done-is outcome _ (same ∙ outcome-of reply _ told)
completes-by (Ok (works.WriteImage name image)) reply outcome told same = done-is outcome _ (same ∙ outcome-of reply _ told)
completes-by (Ok (works.Run width image notes script steps)) reply outcome told same =
    done-is outcome _ (same ∙ outcome-of reply _ told.told)
completes-by (Ok (works.Twin image notes script steps)) reply outcome told same =
    rw (same ∙ outcome-of reply _ told.told) (by_step told.report.differ)
  where
    by_step : (differ : Option ℕ) → IsOutcomeOfWork (twin_outcome differ) (works.Twin image notes script steps)
    by_step None = tt
    by_step (Some step) = tt
completes-by (Ok (works.Pair a b binds steps)) reply outcome told same =
    rw (same ∙ outcome-of reply _ told.told) (by_step told.report.differ)
  where
    by_step : (differ : Option ℕ) → IsOutcomeOfWork (twin_outcome differ) (works.Pair a b binds steps)
    by_step None = tt
    by_step (Some step) = tt
completes-by (Ok (works.Sample sample)) reply outcome told same = done-is outcome _ (same ∙ outcome-of reply _ told.told)
completes-by (Ok (works.WriteRom name vendor device subsystem image)) reply outcome told same =
    done-is outcome _ (same ∙ outcome-of reply _ told)
completes-by (Ok (works.ListRom images)) reply outcome told same = done-is outcome _ (same ∙ outcome-of reply _ told)
completes-by (Ok (works.WriteTaken name bytes)) reply outcome told same = done-is outcome _ (same ∙ outcome-of reply _ told)
completes-by (Ok (works.InferPoints name image notes)) reply outcome told same =
    rw (same ∙ outcome-of reply _ told.told) (by_answer told.answer)
  where
    by_answer : (x : Inferred) → IsOutcomeOfWork (inferred_reply name notes x).outcome (works.InferPoints name image notes)
    by_answer (Points points) = tt
    by_answer (Stuck place rule state) = tt
    by_answer (Many leaders) = tt

pub completes : {words : List (List ℕ)} {files : Files} {outcome : Outcome} {before now : Option (List ℕ)}
    → Answered words files outcome before now → IfOk (work_of words files).value (IsOutcomeOfWork outcome)
completes {words = words} {files = files} {outcome = outcome} a =
    completes-by (work_of words files).value a.reply outcome a.answer a.same

-- ---- answers with no text

silent : (work : Work) (reply : Reply) → HasNoText work → IsReplyTo work reply → CanBeDone work → text_of reply.output ≡ []
silent (works.ListImage image) reply empty told able = ap (λ (r : Reply). text_of r.output) told ∙ empty
silent (works.WriteObject name object) reply none told able = ap (λ (r : Reply). text_of r.output) told
silent (works.WriteImage name image) reply none told able = ap (λ (r : Reply). text_of r.output) told
silent (works.WriteRom name vendor device subsystem image) reply none told able = ap (λ (r : Reply). text_of r.output) told
silent (works.WriteTaken name bytes) reply none told able = ap (λ (r : Reply). text_of r.output) told
silent (works.InferPoints name image notes) reply none told able =
    ap (λ (r : Reply). text_of r.output) (told.told
    ∙ ap (inferred_reply name notes) (sym (inferred_once image notes able.1 (Points []) told.answer none told.inferred)))
silent (works.CheckCode code) reply none told able = absurd none
silent (works.CheckImage image notes) reply none told able = absurd none
silent (works.Run width image notes script steps) reply none told able = absurd none
silent (works.Twin image notes script steps) reply none told able = absurd none
silent (works.Pair a b binds steps) reply none told able = absurd none
silent (works.Sample sample) reply none told able = absurd none
silent (works.ListRom images) reply none told able = absurd none

pub unput : {S R : Type 0} (contents : Option Files) (words asked_before asked_now : List (List ℕ)) (reply : Reply) (outcome : Outcome)
    (old now : S)
    → IfSome contents (λ files. IsDecided asked_before asked_now (work_of words files) reply)
    → (written_name reply.output ≡ None) ⊎ (written_name reply.output ≡ output_of (command_of words))
    → (text_of reply.output ≡ [] → now ≡ old)
    → (text_of reply.output ≡ [] → outcome ≡ outcomes.WriteFault → (written_name reply.output ≢ None) × R)
    → IfSome contents (λ files. (work : Work) → (work_of words files).value ≡ Ok work → HasNoText work
    → (now ≡ old) × (outcome ≡ outcomes.WriteFault → (output_of (command_of words) ≢ None) × R))
unput None words asked_before asked_now reply outcome old now decided named kept told = tt
unput (Some files) words asked_before asked_now reply outcome old now decided named kept told = λ work is none.
    let v = (work_of words files).value in
    let empty = silent work reply none (replied v work reply is decided.answer) (can-be-done v work is decided.able) in (
      kept empty,
      λ fault. let of_file = told empty fault in (names-output (written_name reply.output) _ named of_file.0, of_file.1),
    )

-- ---- what numbers and option ROMs are read as

pub numbers-exactly : (limit n : ℕ) (digits : List ℕ) → limit < 2 ^ 64
    → number_in 0 limit digits ≡ Some n ↔ ((digits ≡ decimal n) × (n ≤ limit))
numbers-exactly limit n digits small = (number-read limit digits n, λ p. rw p.0 (number-spelled limit n small p.1))

pub roms-exactly : (bytes : List ℕ) → ((images : List RomImage) → rom_of bytes ≡ Ok images ↔ IsRom bytes images)
    × ((kind : RomFault) (offset : ℕ) → rom_of bytes ≡ Err (kind, offset) ↔ FailsFirst bytes kind offset)
roms-exactly bytes = (
  λ images. (read-rom bytes images, rom-read bytes images),
  λ kind offset. (read-fault bytes kind offset, fault-read bytes kind offset),
)
