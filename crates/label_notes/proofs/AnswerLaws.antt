-- From a reply that was decided and printed to the clauses of `notes`: each holds by what is known of the reply, and where the files
-- aren't told it says nothing.
use Rattle.std.proofs.Common.{◌≡◌, ℕ, List, [], ◌∷◌, ◌++◌, Option, Some, None, IfSome, append-nil, refl, sym, ap, subst, ◌∙◌}
use Rattle.std.proofs.Common.{arith, IsPermutation}
use Rattle.std.proofs.lemmas.List.Sorted.{length_permutation}
use Rattle.std.specs.List.{flat_map}
use Rattle.label_places.specs.Labels.{labels_of}
use Rattle.label_places.specs.declared.label.Label.{Label}
use Rattle.ebc_outside.specs.Files.{AppendsPart, Files}
use Rattle.cli_base.specs.declared.outcome.Outcome.{Outcome}
use Rattle.cli_base.specs.declared.outcome.Outcome.TheVariants as outcomes
use Rattle.cli_base.specs.declared.reply.Reply.{Reply}
use Rattle.cli_base.specs.Outcomes.{IsAnswer}
use Rattle.cli_base.specs.Outputs.{printed, text_of}
use Rattle.cli_base.specs.Readings.{AsksPart, FileReading}
use Rattle.label_notes.specs.declared.request.Request.{Request}
use Rattle.label_notes.specs.Answers.{Answers, AsksNoLabels, IsDecided, IsReplyOf, LeavesPart, ShowsLabels}
use Rattle.label_notes.specs.Maps.{IsMap, label_line}
use Rattle.label_notes.specs.Requests.{request_of}

pub answers : (contents : Option Files) (run : Files → FileReading Request) (asked_before asked_now : List (List ℕ)) (reply : Reply)
    (outcome : Outcome) (before now : Option (List ℕ)) → IfSome contents (λ files. IsDecided asked_before asked_now (run files) reply)
    → (IsAnswer outcome → outcome ≡ reply.outcome) → (IsAnswer outcome → now ≡ printed (text_of reply.output) before)
    → IfSome contents (λ files. IsAnswer outcome → Answers (run files) outcome before now)
answers None run asked_before asked_now reply outcome before now decided same text = tt
answers (Some files) run asked_before asked_now reply outcome before now decided same text =
    λ is. record { reply = reply; answer = decided.answer; same = same is; text = text is }

pub leaves-part : (contents : Option Files) (run : Files → FileReading Request) (asked_before asked_now : List (List ℕ)) (reply : Reply)
    (outcome : Outcome) (before now : Option (List ℕ)) → IfSome contents (λ files. IsDecided asked_before asked_now (run files) reply)
    → (outcome ≡ outcomes.WriteFault → AppendsPart (text_of reply.output) before now)
    → IfSome contents (λ files. outcome ≡ outcomes.WriteFault → LeavesPart (run files) before now)
leaves-part None run asked_before asked_now reply outcome before now decided part = tt
leaves-part (Some files) run asked_before asked_now reply outcome before now decided part =
    λ fault. record { reply = reply; answer = decided.answer; part = part fault }

-- all names were asked for once a reply was decided, and are the last where no other is asked for
pub all-asked : (A : Type 0) (contents : Option Files) (run : Files → FileReading Request) (before mid now : List (List ℕ)) (reply : Reply)
    → IfSome contents (λ files. IsDecided before mid (run files) reply) → IfSome contents (λ files. now ≡ mid)
    → IfSome contents (λ files. A → now ≡ before ++ (run files).asked)
all-asked A None run before mid now reply decided kept = tt
all-asked A (Some files) run before mid now reply decided kept = λ a. kept ∙ decided.asked

-- then they are a first part of themselves
pub part-asked : (contents : Option Files) (run : Files → FileReading Request) (before mid now : List (List ℕ)) (reply : Reply)
    → IfSome contents (λ files. IsDecided before mid (run files) reply) → IfSome contents (λ files. now ≡ mid)
    → IfSome contents (λ files. AsksPart before (run files).asked now)
part-asked None run before mid now reply decided kept = tt
part-asked (Some files) run before mid now reply decided kept = record {
  first = (run files).asked;
  others = [];
  whole = sym (append-nil (run files).asked);
  asked = kept ∙ decided.asked;
}

-- ---- a map of no labels

nil_order : (order : List Label) → IsPermutation [] order → order ≡ []
nil_order [] same = refl
nil_order (l ∷ ls) same = let n = length_permutation [] (l ∷ ls) same in absurd (omega (arith, n))

-- a map of no labels is no text
pub no-labels : (objects : List (List ℕ)) (text : List ℕ) → IsMap objects [] text → text ≡ []
no-labels objects text m = m.lines ∙ ap (flat_map (label_line objects m.shared)) (nil_order m.order m.in_order.same)

no_text : (words : List (List ℕ)) (files : Files) (reply : Reply) → AsksNoLabels words files
    → IsReplyOf (request_of words files).value reply → text_of reply.output ≡ []
no_text words files reply asks is =
    let t : ShowsLabels asks.plan.objects (labels_of asks.objects) reply = subst (λ v. IsReplyOf v reply) asks.asked is in
    ap (λ (x : Reply). text_of x.output) t.told
    ∙ no-labels asks.plan.objects t.text (subst (λ ls. IsMap asks.plan.objects ls t.text) asks.none t.map)

pub unput-then : {O : Type 0} (contents : Option Files) (words before mid : List (List ℕ)) (reply : Reply) (old new : O)
    → IfSome contents (λ files. IsDecided before mid (request_of words files) reply) → (text_of reply.output ≡ [] → new ≡ old)
    → IfSome contents (λ files. AsksNoLabels words files → new ≡ old)
unput-then None words before mid reply old new decided unput = tt
unput-then (Some files) words before mid reply old new decided unput = λ asks. unput (no_text words files reply asks decided.answer)

pub untold-then : (contents : Option Files) (words before mid : List (List ℕ)) (reply : Reply) (outcome : Outcome)
    → IfSome contents (λ files. IsDecided before mid (request_of words files) reply)
    → (text_of reply.output ≡ [] → outcome ≡ outcomes.WriteFault → ⊥)
    → IfSome contents (λ files. AsksNoLabels words files → outcome ≡ outcomes.WriteFault → ⊥)
untold-then None words before mid reply outcome decided untold = tt
untold-then (Some files) words before mid reply outcome decided untold =
    λ asks. untold (no_text words files reply asks decided.answer)
