-- From a reply that was decided and put or written to the clauses of `ebc`: each holds where it does by what is known of an answer, and
-- where the files aren't told, or there is no answer, it says nothing.
use Rattle.ebc_cli.proofs.Common.{◌≡◌, ◌≢◌, ℕ, List, [], ◌++◌, Option, Some, None, IfSome, IfOk, Result, Ok, inr, append-nil, sym, ◌∙◌}
use Rattle.ebc_cli.proofs.Common.{Files, Outcome, Reply, printed, text_of, written_name, Work, IsDecided, IsReplyOf, IsReplyTo, work_of}
use Rattle.std.proofs.Common.{◌⊎◌, option_map, IfNone, inl}
use Rattle.ebc_outside.specs.{Counts.Rose, Files.AppendsPart}
use Rattle.cli_base.specs.{Outcomes.IsAnswer, Outputs.SameBut, Outputs.files_left, Readings.AsksPart, Readings.MissingHasCause}
use Rattle.ebc_cli.specs.{Answers.Answers, Answers.LeavesPart, Reads.CanBeDone}
use Rattle.cli_base.specs.declared.outcome.Outcome.TheVariants as outcomes

-- ---- what is known of an answer

-- the outcome and what was printed are those of a reply to what came of the reading, and work that was read can be done
pub record Answered (words : List (List ℕ)) (files : Files) (outcome : Outcome) (before now : Option (List ℕ)) : Type 0 where
  pub reply : Reply
  pub answer : IsReplyOf (work_of words files).value reply
  pub able : IfOk (work_of words files).value CanBeDone
  pub same : outcome ≡ reply.outcome
  pub text : now ≡ printed (text_of reply.output) before

answered : (words asked_before asked_now : List (List ℕ)) (files : Files) (reply : Reply) (outcome : Outcome) (before now : Option (List ℕ))
    → IsDecided asked_before asked_now (work_of words files) reply → outcome ≡ reply.outcome → now ≡ printed (text_of reply.output) before
    → Answered words files outcome before now
answered words asked_before asked_now files reply outcome before now decided same text = record {
  reply = reply;
  answer = decided.answer;
  able = decided.able;
  same = same;
  text = text;
}

-- a clause on answers holds by it
pub told : {P : Files → Type 0} → (contents : Option Files) (words asked_before asked_now : List (List ℕ)) (reply : Reply)
    (outcome : Outcome) (before now : Option (List ℕ))
    → IfSome contents (λ files. IsDecided asked_before asked_now (work_of words files) reply)
    → (IsAnswer outcome → outcome ≡ reply.outcome) → (IsAnswer outcome → now ≡ printed (text_of reply.output) before)
    → ((files : Files) → Answered words files outcome before now → P files) → IfSome contents (λ files. IsAnswer outcome → P files)
told None words asked_before asked_now reply outcome before now decided same text law = tt
told (Some files) words asked_before asked_now reply outcome before now decided same text law =
    λ is. law files (answered words asked_before asked_now files reply outcome before now decided (same is) (text is))

-- and one on the outcome Done
pub done : {P : Files → Type 0} → (contents : Option Files) (words asked_before asked_now : List (List ℕ)) (reply : Reply)
    (outcome : Outcome) (before now : Option (List ℕ))
    → IfSome contents (λ files. IsDecided asked_before asked_now (work_of words files) reply)
    → (IsAnswer outcome → outcome ≡ reply.outcome) → (IsAnswer outcome → now ≡ printed (text_of reply.output) before)
    → ((files : Files) → Answered words files outcome before now → outcome ≡ outcomes.Done → P files)
    → IfSome contents (λ files. outcome ≡ outcomes.Done → P files)
done None words asked_before asked_now reply outcome before now decided same text law = tt
done (Some files) words asked_before asked_now reply outcome before now decided same text law =
    λ e. let is : IsAnswer outcome = rw e tt in
    law files (answered words asked_before asked_now files reply outcome before now decided (same is) (text is)) e

-- where it is known what came of the reading, so is what is replied, and that it can be done
pub replied : (v : Result Work Reply) (work : Work) (reply : Reply) → v ≡ Ok work → IsReplyOf v reply → IsReplyTo work reply
replied v work reply e told = rw e at told

pub can-be-done : (v : Result Work Reply) (work : Work) → v ≡ Ok work → IfOk v CanBeDone → CanBeDone work
can-be-done v work e able = rw e at able

-- ---- clauses on all commands alike

pub answers : (contents : Option Files) (words asked_before asked_now : List (List ℕ)) (reply : Reply) (outcome : Outcome)
    (before now : Option (List ℕ)) (left : Option Files)
    → IfSome contents (λ files. IsDecided asked_before asked_now (work_of words files) reply)
    → (IsAnswer outcome → outcome ≡ reply.outcome) → (IsAnswer outcome → now ≡ printed (text_of reply.output) before)
    → (IsAnswer outcome → left ≡ option_map (files_left reply.output) contents)
    → IfSome contents (λ files. IsAnswer outcome → Answers words files outcome before now left)
answers None words asked_before asked_now reply outcome before now left decided same text files_are = tt
answers (Some files) words asked_before asked_now reply outcome before now left decided same text files_are = λ is. record {
  reply = reply;
  answer = decided.answer;
  same = same is;
  text = text is;
  files_are = files_are is;
}

-- all names were asked for once a reply was decided, and are the last where no other is asked for
pub all-asked : (A : Type 0) (contents : Option Files) (words before mid now : List (List ℕ)) (reply : Reply)
    → IfSome contents (λ files. IsDecided before mid (work_of words files) reply) → IfSome contents (λ files. now ≡ mid)
    → IfSome contents (λ files. A → now ≡ before ++ (work_of words files).asked)
all-asked A None words before mid now reply decided kept = tt
all-asked A (Some files) words before mid now reply decided kept = λ a. kept ∙ decided.asked

-- then they are a first part of themselves
pub part-asked : (contents : Option Files) (words before mid now : List (List ℕ)) (reply : Reply)
    → IfSome contents (λ files. IsDecided before mid (work_of words files) reply) → IfSome contents (λ files. now ≡ mid)
    → IfSome contents (λ files. AsksPart before (work_of words files).asked now)
part-asked None words before mid now reply decided kept = tt
part-asked (Some files) words before mid now reply decided kept = record {
  first = (work_of words files).asked;
  others = [];
  whole = sym (append-nil (work_of words files).asked);
  asked = kept ∙ decided.asked;
}

-- why the outcome is Missing where the files aren't told
pub missing-cause : (contents : Option Files) (outcome told : Outcome) (before mid now : ℕ) → MissingHasCause contents before mid told
    → (IsAnswer outcome → outcome ≡ told) → now ≡ mid
    → IfNone contents ((word : ℕ) → outcome ≡ outcomes.Missing word → Rose before now)
missing-cause (Some files) outcome told before mid now cause same count = tt
missing-cause None outcome told before mid now cause same count = λ word e.
    let is : told ≡ outcomes.Missing word = sym (same (rw e tt)) ∙ e in
    let rose : Rose before mid = rw is at cause in rw count rose

pub leaves-part : (contents : Option Files) (words asked_before asked_now : List (List ℕ)) (reply : Reply) (outcome : Outcome)
    (before now : Option (List ℕ)) (left : Option Files)
    → IfSome contents (λ files. IsDecided asked_before asked_now (work_of words files) reply)
    → (outcome ≡ outcomes.WriteFault → AppendsPart (text_of reply.output) before now) → SameBut (written_name reply.output) contents left
    → IfSome contents (λ files. outcome ≡ outcomes.WriteFault → LeavesPart words files before now left)
leaves-part None words asked_before asked_now reply outcome before now left decided part others = tt
leaves-part (Some files) words asked_before asked_now reply outcome before now left decided part others =
    λ fault. record { reply = reply; answer = decided.answer; part = part fault; others = others }

-- no fault is counted but the one that is told: reading counted the one, and what was done with the reply the other
pub uncounted : (A B C : Type 0) (contents : Option Files) (r0 r1 r2 w0 w1 w2 : ℕ) → IfSome contents (λ _. ¬ C → r1 ≡ r0) → (C → ⊥)
    → r2 ≡ r1 → IfSome contents (λ _. B → w2 ≡ w1) → w1 ≡ w0 → IfSome contents (λ _. (A → r2 ≡ r0) × (B → w2 ≡ w0))
uncounted A B C None r0 r1 r2 w0 w1 w2 read none kept written same = tt
uncounted A B C (Some files) r0 r1 r2 w0 w1 w2 read none kept written same = (λ a. kept ∙ read none, λ b. written b ∙ same)

-- a reply that writes a file writes the one that the words name
pub names-output : (name wanted : Option (List ℕ)) → (name ≡ None) ⊎ (name ≡ wanted) → name ≢ None → wanted ≢ None
names-output name wanted (inl none) some = absurd (some none)
names-output name wanted (inr same) some = λ none. some (same ∙ none)
