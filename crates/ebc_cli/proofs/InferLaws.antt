-- The clauses of `ebc` on `infer`: what is found is told exactly, and the image is typed under the notes with found points.
use Rattle.ebc_cli.proofs.Common.{◌≡◌, ◌↔◌, ℕ, List, Option, refl, sym, ap, ◌∙◌, subst, Files, Inferred, Points, Stuck, Many, IsNotes}
use Rattle.ebc_cli.proofs.Common.{Notes, RuleName, Image, inferred_once, Typed, Outcome, Reply, IsReadImage, printed, text_of, InfersPoints}
use Rattle.ebc_cli.proofs.Common.{inferred_reply}
use Rattle.note_infer.specs.Inferred.{IsInferred, by_number, by_points, by_round, by_tables}
use Rattle.note_infer.specs.{Inferred.by_verdict, Rounds.with_points}
use Rattle.note_types.specs.declared.{notes.Point.Point, state.State.State}
use Rattle.printed_texts.specs.PrintedStates.{points_text}
use Rattle.ebc_cli.specs.Inferrings.{TellsInferred}
use Rattle.ebc_cli.proofs.{AnswerLaws.Answered, AnswerLaws.can-be-done, AnswerLaws.replied, WorkLemmas.infer-work}
use Rattle.cli_base.specs.declared.outcome.Outcome.TheVariants as outcomes

-- ---- which answer has which outcome

-- an answer that is done is points
done-points : (name : List ℕ) (notes : Notes) (answer : Inferred)
    → (inferred_reply name notes answer).outcome ≡ outcomes.Done → (points : List Point) × (answer ≡ Points points)
done-points name notes (Points points) e = (points, refl)
done-points name notes (Stuck place rule state) e = absurd cc
done-points name notes (Many leaders) e = absurd cc

-- an answer that is refused is stuck there
refused-stuck : (name : List ℕ) (notes : Notes) (answer : Inferred) (place : ℕ) (rule : RuleName)
    → (inferred_reply name notes answer).outcome ≡ outcomes.Refused place rule
    → (state : Option State) × (answer ≡ Stuck place rule state)
refused-stuck name notes (Points points) place rule e = absurd cc
refused-stuck name notes (Stuck at by state) place rule e =
    let there : at ≡ place = cc in let named : by ≡ rule = cc in (state, rw (there, named) refl)
refused-stuck name notes (Many leaders) place rule e = absurd cc

-- an image is typed under the notes with points that are found: their verdict is that
found-typed : (image : Image) (notes : Notes) (answer : Inferred) (points : List Point) → IsInferred image notes answer
    → answer ≡ Points points → Typed image (with_points notes points)
found-typed image notes answer points (by_tables p r h x e) is = absurd (let no = sym e ∙ is in cc)
found-typed image notes answer points (by_number leaders t all many e) is = absurd (let no = sym e ∙ is in cc)
found-typed image notes answer points (by_round leaders states p r s h x e) is = absurd (let no = sym e ∙ is in cc)
found-typed image notes answer points (by_verdict leaders states p r h v e) is = absurd (let no = sym e ∙ is in cc)
found-typed image notes answer points (by_points leaders states h v e) is =
    subst (λ found. Typed image (with_points notes found)) (points_one _ points (sym e ∙ is)) v
  where
    points_one : (a b : List Point) → Points a ≡ Points b → a ≡ b
    points_one a b h = cc

-- ---- the clauses

-- what was found, and the outcome that tells it
record IsFound (name : List ℕ) (image : Image) (notes : Notes) (outcome : Outcome) (before now : Option (List ℕ)) : Type 0 where
  pub answer : Inferred
  pub inferred : IsInferred image notes answer
  pub once : (other : Inferred) → IsInferred image notes other → other ≡ answer
  pub same : outcome ≡ (inferred_reply name notes answer).outcome
  pub text : now ≡ printed (text_of (inferred_reply name notes answer).output) before

found : {words : List (List ℕ)} {files : Files} {outcome : Outcome} {before now : Option (List ℕ)}
    → Answered words files outcome before now → (name : List ℕ) (image : Image) (notes : Notes)
    → InfersPoints words files name image notes → IsFound name image notes outcome before now
found {words = words} {files = files} {before = before} a name image notes x =
    let work = infer-work words files name image notes x in
    let t : TellsInferred name image notes a.reply = replied _ _ a.reply work a.answer in
    let able : IsReadImage image × IsNotes notes = can-be-done _ _ work a.able in
    record {
      answer = t.answer;
      inferred = t.inferred;
      once = λ other is. inferred_once image notes able.1 other t.answer is t.inferred;
      same = a.same ∙ ap (λ (r : Reply). r.outcome) t.told;
      text = a.text ∙ ap (λ (r : Reply). printed (text_of r.output) before) t.told;
    }

pub points-exactly : {words : List (List ℕ)} {files : Files} {outcome : Outcome} {before now : Option (List ℕ)}
    → Answered words files outcome before now → (name : List ℕ) (image : Image) (notes : Notes)
    → InfersPoints words files name image notes
    → outcome ≡ outcomes.Done ↔ ((points : List Point) × IsInferred image notes (Points points))
points-exactly a name image notes x =
    let f = found a name image notes x in (
      λ e. let p = done-points name notes f.answer (sym f.same ∙ e) in (p.0, rw p.1 at f.inferred),
      λ p. f.same ∙ ap (λ (answer : Inferred). (inferred_reply name notes answer).outcome) (sym (f.once (Points p.0) p.1)),
    )

pub points-typed : {words : List (List ℕ)} {files : Files} {outcome : Outcome} {before now : Option (List ℕ)}
    → Answered words files outcome before now → (name : List ℕ) (image : Image) (notes : Notes)
    → InfersPoints words files name image notes → outcome ≡ outcomes.Done
    → (points : List Point) × (now ≡ printed (points_text notes points) before) × Typed image (with_points notes points)
points-typed {before = before} a name image notes x e =
    let f = found a name image notes x in
    let p = done-points name notes f.answer (sym f.same ∙ e) in (
      p.0,
      f.text ∙ ap (λ (answer : Inferred). printed (text_of (inferred_reply name notes answer).output) before) p.1,
      found-typed image notes f.answer p.0 f.inferred p.1,
    )

pub stuck-exactly : {words : List (List ℕ)} {files : Files} {outcome : Outcome} {before now : Option (List ℕ)}
    → Answered words files outcome before now → (name : List ℕ) (image : Image) (notes : Notes) (place : ℕ) (rule : RuleName)
    → InfersPoints words files name image notes
    → outcome ≡ outcomes.Refused place rule ↔ ((state : Option State) × IsInferred image notes (Stuck place rule state))
stuck-exactly a name image notes place rule x =
    let f = found a name image notes x in (
      λ e. let p = refused-stuck name notes f.answer place rule (sym f.same ∙ e) in (p.0, rw p.1 at f.inferred),
      λ p. f.same ∙ ap (λ (answer : Inferred). (inferred_reply name notes answer).outcome) (sym (f.once (Stuck place rule p.0) p.1)),
    )
