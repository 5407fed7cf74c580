-- The clauses of `ebc` on `check`: a verdict is told exactly where it holds, and a neutral image or code is the same at both widths.
use Rattle.ebc_cli.proofs.Common.{◌≡◌, ◌↔◌, ℕ, ◌≤◌, List, Option, length, refl, sym, ap, ◌∙◌, arith, Files, Notes, RuleName, Image, Verdict}
use Rattle.ebc_cli.proofs.Common.{Neutral, Refused, read-is-script, Typed, Outcome, Reply, IsReadImage, printed, text_of, IsNotes}
use Rattle.ebc_cli.proofs.Common.{ChecksCode, ChecksImage, plain_code_limit, verdict_reply}
use Rattle.plain_check.specs.PlainRuns.{RunsAlike}
use Rattle.plain_check.proofs.{Rules.neutral-exactly, Runs.neutral-alike}
use Rattle.twin_run.proofs.Runs.{neutral_is_same}
use Rattle.width_checker.specs.Verdicts.{IsRefused}
use Rattle.ebc_cli.specs.{Answers.SameForScripts, Texts.neutral_line, Works.TellsVerdict}
use Rattle.printed_texts.specs.Refusals.{refused_line}
use Rattle.ebc_cli.proofs.{AnswerLaws.Answered, AnswerLaws.can-be-done, AnswerLaws.replied, WorkLemmas.code-work, WorkLemmas.image-work}
use Rattle.plain_check.specs.PlainRules as plain
use Rattle.cli_base.specs.declared.outcome.Outcome.TheVariants as outcomes

-- ---- verdicts

verdict-done : (verdict : Verdict) → (verdict_reply verdict).outcome ≡ outcomes.Done ↔ verdict ≡ Neutral
verdict-done Neutral = (λ e. refl, λ e. refl)
verdict-done (Refused place rule) = (λ e. cc, λ e. cc)

verdict-refused : (verdict : Verdict) (p : ℕ) (r : RuleName) → (verdict_reply verdict).outcome ≡ outcomes.Refused p r
    ↔ verdict ≡ Refused p r
verdict-refused Neutral p r = (λ e. cc, λ e. cc)
verdict-refused (Refused place rule) p r = (
  λ e. let there : place ≡ p = cc in let named : rule ≡ r = cc in
      rw (there, named) refl,
  λ e. let there : place ≡ p = cc in let named : rule ≡ r = cc in rw (there, named) refl,
)

-- the outcome is that of a verdict exactly where this holds, and then what was printed is its line
verdict-exactly : {A : Type 0} (verdict wanted : Verdict) (reply : Reply) (outcome : Outcome) (before now : Option (List ℕ))
    → reply ≡ verdict_reply verdict → (verdict_reply verdict).outcome ≡ (verdict_reply wanted).outcome ↔ verdict ≡ wanted
    → verdict ≡ wanted ↔ A → outcome ≡ reply.outcome → now ≡ printed (text_of reply.output) before
    → (outcome ≡ (verdict_reply wanted).outcome ↔ A)
    × (outcome ≡ (verdict_reply wanted).outcome → now ≡ printed (text_of (verdict_reply wanted).output) before)
verdict-exactly verdict wanted reply outcome before now told one holds same text =
    let is : outcome ≡ (verdict_reply verdict).outcome = same ∙ ap (λ (r : Reply). r.outcome) told in (
      (λ e. holds.0 (one.0 (sym is ∙ e)), λ a. is ∙ one.1 (holds.1 a)),
      λ e. text ∙ ap (λ (r : Reply). printed (text_of r.output) before) (told ∙ ap verdict_reply (one.0 (sym is ∙ e))),
    )

neutral : {Holds : Type 0} {Fails : ℕ → RuleName → Type 0} (reply : Reply) (outcome : Outcome) (before now : Option (List ℕ))
    → TellsVerdict Holds Fails reply → outcome ≡ reply.outcome → now ≡ printed (text_of reply.output) before
    → (outcome ≡ outcomes.Done ↔ Holds) × (outcome ≡ outcomes.Done → now ≡ printed neutral_line before)
neutral reply outcome before now t same text =
    verdict-exactly t.verdict Neutral reply outcome before now t.told (verdict-done t.verdict) t.neutral same text

refused : {Holds : Type 0} {Fails : ℕ → RuleName → Type 0} (reply : Reply) (outcome : Outcome) (before now : Option (List ℕ))
    (place : ℕ) (rule : RuleName)
    → TellsVerdict Holds Fails reply → outcome ≡ reply.outcome → now ≡ printed (text_of reply.output) before
    → (outcome ≡ outcomes.Refused place rule ↔ Fails place rule)
    × (outcome ≡ outcomes.Refused place rule → now ≡ printed (refused_line place rule) before)
refused reply outcome before now place rule t same text =
    verdict-exactly t.verdict (Refused place rule) reply outcome before now t.told (verdict-refused t.verdict place rule)
    (t.refused place rule) same text

-- ---- `check IMAGE NOTES`

pub image-neutral : {words : List (List ℕ)} {files : Files} {outcome : Outcome} {before now : Option (List ℕ)}
    → Answered words files outcome before now → (image : Image) (notes : Notes) → ChecksImage words files image notes
    → (outcome ≡ outcomes.Done ↔ Typed image notes) × (outcome ≡ outcomes.Done → now ≡ printed neutral_line before)
image-neutral {words = words} {files = files} a image notes c =
    neutral a.reply _ _ _ (replied _ _ a.reply (image-work words files image notes c) a.answer) a.same a.text

pub image-refused : {words : List (List ℕ)} {files : Files} {outcome : Outcome} {before now : Option (List ℕ)}
    → Answered words files outcome before now → (image : Image) (notes : Notes) (place : ℕ) (rule : RuleName)
    → ChecksImage words files image notes → (outcome ≡ outcomes.Refused place rule ↔ IsRefused image notes place rule)
    × (outcome ≡ outcomes.Refused place rule → now ≡ printed (refused_line place rule) before)
image-refused {words = words} {files = files} a image notes place rule c =
    refused a.reply _ _ _ place rule (replied _ _ a.reply (image-work words files image notes c) a.answer) a.same a.text

pub image-alike : {words : List (List ℕ)} {files : Files} {outcome : Outcome} {before now : Option (List ℕ)}
    → Answered words files outcome before now → outcome ≡ outcomes.Done → (image : Image) (notes : Notes)
    → ChecksImage words files image notes → SameForScripts image notes
image-alike {words = words} {files = files} a e image notes c = λ text script P Q k read p q.
    let able : IsReadImage image × IsNotes notes = can-be-done _ _ (image-work words files image notes c) a.able in
    neutral_is_same image notes able.0.0 able.0.1 able.1 ((image-neutral a image notes c).0.0 e) script P Q k
    (read-is-script notes text script read) p q

-- ---- `check CODE`

pub code-neutral : {words : List (List ℕ)} {files : Files} {outcome : Outcome} {before now : Option (List ℕ)}
    → Answered words files outcome before now → (code : List ℕ) → ChecksCode words files code
    → (outcome ≡ outcomes.Done ↔ plain.IsNeutral code) × (outcome ≡ outcomes.Done → now ≡ printed neutral_line before)
code-neutral {words = words} {files = files} a code c =
    neutral a.reply _ _ _ (replied _ _ a.reply (code-work words files code c) a.answer) a.same a.text

pub code-refused : {words : List (List ℕ)} {files : Files} {outcome : Outcome} {before now : Option (List ℕ)}
    → Answered words files outcome before now → (code : List ℕ) (place : ℕ) (rule : RuleName) → ChecksCode words files code
    → (outcome ≡ outcomes.Refused place rule ↔ plain.IsRefused code place rule)
    × (outcome ≡ outcomes.Refused place rule → now ≡ printed (refused_line place rule) before)
code-refused {words = words} {files = files} a code place rule c =
    refused a.reply _ _ _ place rule (replied _ _ a.reply (code-work words files code c) a.answer) a.same a.text

pub code-alike : {words : List (List ℕ)} {files : Files} {outcome : Outcome} {before now : Option (List ℕ)}
    → Answered words files outcome before now → outcome ≡ outcomes.Done → (code : List ℕ) → ChecksCode words files code → RunsAlike code
code-alike a e code c =
    let fits : length code ≤ plain_code_limit = c.code_file.fits in
    neutral-alike code (omega (arith, fits)) ((neutral-exactly code).1 ((code-neutral a code c).0.0 e))
