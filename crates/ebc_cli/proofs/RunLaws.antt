-- The clauses of `ebc` on `twin` and `pair`: how the runs end is told exactly, and those of typed images are the same.
use Rattle.ebc_cli.proofs.Common.{◌≡◌, ◌↔◌, ℕ, List, ◌++◌, Option, Some, None, append_assoc, refl, sym, ap, ◌∙◌, subst, Files, IsNotes}
use Rattle.ebc_cli.proofs.Common.{Notes, Script, Bind, Image, read-is-script, Typed, Outcome, Reply, IsReadImage, printed, text_of}
use Rattle.ebc_cli.proofs.Common.{ReadDriver, PairsImages, TwinsImage, twin_outcome}
use Rattle.std.proofs.Common.{codes}
use Rattle.host_model.specs.{Runs.world_of, Scripts.IsScript}
use Rattle.pair_host.specs.PairDiffers.{PairsDifferAt}
use Rattle.pair_host.proofs.PairDiffering.{one_pair_differs, typed_pairs_never_differ}
use Rattle.printed_texts.specs.RunTexts.{differ_line, twin_text}
use Rattle.twin_run.specs.Differs.{DifferAt}
use Rattle.twin_run.proofs.{Differing.one_differs, Runs.typed_never_differ}
use Rattle.pair_laws.proofs.Typed.{typed_pairs_are_same}
use Rattle.pair_laws.specs.TypedPairs.{IsTypedPair}
use Rattle.ebc_cli.specs.{Answers.EndsWith, Answers.SamePairForScripts, Pairings.TellsPair, Pairings.images_of, Pairings.pair_report_text}
use Rattle.ebc_cli.specs.{Pairings.pair_world_of, Pairings.with_script, Reads.IsReadPair, Runnings.TellsTwin, Runnings.report_text}
use Rattle.ebc_cli.proofs.{AnswerLaws.Answered, AnswerLaws.can-be-done, AnswerLaws.replied, WorkLemmas.pairing-work}
use Rattle.ebc_cli.proofs.WorkLemmas.{twinning-work}
use Rattle.cli_base.specs.declared.outcome.Outcome.TheVariants as outcomes

-- ---- outcomes and last lines

-- an outcome tells of one number of steps
outcome-one : (a b : Option ℕ) → twin_outcome a ≡ twin_outcome b → a ≡ b
outcome-one None None e = refl
outcome-one None (Some k) e = absurd cc
outcome-one (Some k) None e = absurd cc
outcome-one (Some k) (Some j) e = let same : k ≡ j = cc in ap Some same

-- where one number of steps alone is the least, the outcome tells it exactly
outcome-exactly : {Least : Option ℕ → Type 0} (told wanted : Option ℕ) (outcome : Outcome)
    → ((a b : Option ℕ) → Least a → Least b → a ≡ b) → Least told → outcome ≡ twin_outcome told
    → outcome ≡ twin_outcome wanted ↔ Least wanted
outcome-exactly {Least = Least} told wanted outcome one least is = (
  λ e. subst Least (outcome-one told wanted (sym is ∙ e)) least,
  λ other. is ∙ ap twin_outcome (one told wanted least other),
)

-- the text of two runs ends with the line that tells whether they are the same
twin-text-ends : (at4 at8 : List ℕ) (differ : Option ℕ)
    → twin_text at4 at8 differ ≡ (codes "width 32\n" ++ (at4 ++ (codes "width 64\n" ++ at8))) ++ differ_line differ
twin-text-ends at4 at8 differ =
    let line = differ_line differ in
    let last = codes "width 64\n" ++ at8 in
    sym (append_assoc (codes "width 32\n") (at4 ++ last) line
    ∙ ap (λ t. codes "width 32\n" ++ t) (append_assoc at4 last line ∙ ap (λ t. at4 ++ t) (append_assoc (codes "width 64\n") at8 line)))

ends-same : (at4 at8 : List ℕ) (differ : Option ℕ) (before now : Option (List ℕ)) → differ ≡ None
    → now ≡ printed (twin_text at4 at8 differ) before → EndsWith (differ_line None) before now
ends-same at4 at8 differ before now none text = (
  codes "width 32\n" ++ (at4 ++ (codes "width 64\n" ++ at8)),
  text ∙ ap (λ t. printed t before) (ap (twin_text at4 at8) none ∙ twin-text-ends at4 at8 None),
)

-- ---- `twin IMAGE NOTES SCRIPT STEPS`

pub twin-exactly : {words : List (List ℕ)} {files : Files} {outcome : Outcome} {before now : Option (List ℕ)}
    → Answered words files outcome before now → (image : Image) (notes : Notes) (script : Script) (steps : ℕ) (differ : Option ℕ)
    → TwinsImage words files image notes script steps
    → outcome ≡ twin_outcome differ ↔ DifferAt image (world_of image notes script) steps differ
twin-exactly {words = words} {files = files} {outcome = outcome} a image notes script steps differ x =
    let t : TellsTwin image notes script steps a.reply =
    replied _ _ a.reply (twinning-work words files image notes script steps x) a.answer in
    outcome-exactly t.report.differ differ outcome (one_differs image (world_of image notes script) steps) t.shown.differ
    (a.same ∙ ap (λ (r : Reply). r.outcome) t.told)

pub twin-same : {words : List (List ℕ)} {files : Files} {outcome : Outcome} {before now : Option (List ℕ)}
    → Answered words files outcome before now → (image : Image) (notes : Notes) (script : Script) (steps : ℕ)
    → TwinsImage words files image notes script steps → Typed image notes
    → (outcome ≡ outcomes.Done) × EndsWith (differ_line None) before now
twin-same {words = words} {files = files} {before = before} {now = now} a image notes script steps x typed =
    let work = twinning-work words files image notes script steps x in
    let t : TellsTwin image notes script steps a.reply = replied _ _ a.reply work a.answer in
    let able : IsReadImage image × IsNotes notes × IsScript notes script = can-be-done _ _ work a.able in
    let none : t.report.differ ≡ None = (typed_never_differ image (world_of image notes script) steps t.report.differ (record {
      well_formed = able.0.0;
      bytes = able.0.1;
      size = refl;
      notes = able.1;
      script = able.2;
      typed = typed;
    })).0 t.shown.differ in (
      a.same ∙ ap (λ (r : Reply). r.outcome) t.told ∙ ap twin_outcome none,
      ends-same (report_text notes t.report.at4) (report_text notes t.report.at8) t.report.differ before now none
          (a.text ∙ ap (λ (r : Reply). printed (text_of r.output) before) t.told),
    )

-- ---- `pair IMAGE NOTES SCRIPT IMAGE2 NOTES2 SCRIPT2 BINDS STEPS`

pub pair-exactly : {words : List (List ℕ)} {files : Files} {outcome : Outcome} {before now : Option (List ℕ)}
    → Answered words files outcome before now → (a b : ReadDriver) (binds : List Bind) (steps : ℕ) (differ : Option ℕ)
    → PairsImages words files a b binds steps
    → outcome ≡ twin_outcome differ ↔ PairsDifferAt (images_of a b) (pair_world_of a b binds) steps differ
pair-exactly {words = words} {files = files} {outcome = outcome} known a b binds steps differ x =
    let t : TellsPair a b binds steps known.reply = replied _ _ known.reply (pairing-work words files a b binds steps x) known.answer in
    outcome-exactly t.report.differ differ outcome (one_pair_differs (images_of a b) (pair_world_of a b binds) steps) t.shown.differ
    (known.same ∙ ap (λ (r : Reply). r.outcome) t.told)

-- two typed images that were read, and whose binds agree, are a typed pair, whatever their scripts are
typed-pair : (a b : ReadDriver) (binds : List Bind) (x y : Script) → IsReadPair a b binds → Typed a.image a.notes → Typed b.image b.notes
    → IsScript a.notes x → IsScript b.notes y
    → IsTypedPair (images_of a b) (pair_world_of (with_script a x) (with_script b y) binds)
typed-pair a b binds x y read a_typed b_typed a_script b_script = record {
  a = record {
    well_formed = read.a_read.image.0;
    bytes = read.a_read.image.1;
    size = refl;
    notes = read.a_read.notes;
    script = a_script;
    typed = a_typed;
  };
  b = record {
    well_formed = read.b_read.image.0;
    bytes = read.b_read.image.1;
    size = refl;
    notes = read.b_read.notes;
    script = b_script;
    typed = b_typed;
  };
  binds = read.agree;
}

pub pair-same : {words : List (List ℕ)} {files : Files} {outcome : Outcome} {before now : Option (List ℕ)}
    → Answered words files outcome before now → (a b : ReadDriver) (binds : List Bind) (steps : ℕ)
    → PairsImages words files a b binds steps → Typed a.image a.notes → Typed b.image b.notes
    → (outcome ≡ outcomes.Done) × EndsWith (differ_line None) before now
pair-same {words = words} {files = files} {before = before} {now = now} known a b binds steps x a_typed b_typed =
    let work = pairing-work words files a b binds steps x in
    let t : TellsPair a b binds steps known.reply = replied _ _ known.reply work known.answer in
    let read : IsReadPair a b binds = can-be-done _ _ work known.able in
    let none : t.report.differ ≡ None = typed_pairs_never_differ (images_of a b) (pair_world_of a b binds) steps t.report.differ
    (typed-pair a b binds a.script b.script read a_typed b_typed read.a_read.script read.b_read.script) t.shown.differ in (
      known.same ∙ ap (λ (r : Reply). r.outcome) t.told ∙ ap twin_outcome none,
      ends-same (pair_report_text a.notes b.notes t.report.at4) (pair_report_text a.notes b.notes t.report.at8) t.report.differ before now
          none (known.text ∙ ap (λ (r : Reply). printed (text_of r.output) before) t.told),
    )

pub pair-alike : {words : List (List ℕ)} {files : Files} {outcome : Outcome} {before now : Option (List ℕ)}
    → Answered words files outcome before now → (a b : ReadDriver) (binds : List Bind) (steps : ℕ)
    → PairsImages words files a b binds steps → Typed a.image a.notes → Typed b.image b.notes → SamePairForScripts a b binds
pair-alike {words = words} {files = files} known a b binds steps pairs a_typed b_typed = λ a_text b_text x y P Q k a_read b_read p q.
    let read : IsReadPair a b binds = can-be-done _ _ (pairing-work words files a b binds steps pairs) known.able in
    typed_pairs_are_same (images_of a b) (pair_world_of (with_script a x) (with_script b y) binds) P Q k
    (typed-pair a b binds x y read a_typed b_typed (read-is-script a.notes a_text x a_read) (read-is-script b.notes b_text y b_read)) p q
