-- What the check of bytes tells: one answer, exactly where it holds, and that all runs of an image that is neutral show one behaviour.
use Rattle.ebc_cli.proofs.Common.{◌≡◌, ◌↔◌, ℕ, List, Result, Ok, refl, sym, ap, ◌∙◌, subst, IsNotes, Notes, RuleName, Image, Typed, Verdict}
use Rattle.ebc_cli.proofs.Common.{IsReadImage, IfOk}
use Rattle.std.proofs.Common.{Err}
use Rattle.note_types.specs.declared.fault.TomlFault.{TomlFault}
use Rattle.pe_image.specs.Images.{image_of}
use Rattle.pe_image.specs.declared.fault.ImageFault.{ImageFault}
use Rattle.type_notes.specs.Notes.{notes_of}
use Rattle.twin_run.specs.Headline.{RunsAsOne}
use Rattle.twin_run.proofs.Runs.{neutral_as_one}
use Rattle.width_checker.specs.Verdicts.{IsRefused}
use Rattle.ebc_cli.specs.Checks.{AreRefused, AreTyped, HasNoNotes, IsToldAs, StandFor}
use Rattle.ebc_cli.specs.Reads.{TellsCheck, TellsUnder, checked_of}
use Rattle.ebc_cli.specs.declared.checking.Checked.{Checked}
use Rattle.ebc_cli.specs.declared.checking.Checked.TheVariants as checked
use Rattle.plain_check.specs.declared.verdict.Verdict.TheVariants as verdicts

-- ---- no image

-- what is read is not also a fault
read-no-fault : {A E : Type 0} {r : Result A E} {x : A} {e : E} → r ≡ Ok x → r ≡ Err e → ⊥
read-no-fault ok err = let no = sym ok ∙ err in cc

read-once : {A E : Type 0} {r : Result A E} {x y : A} → r ≡ Ok x → r ≡ Ok y → x ≡ y
read-once one two = let both = sym one ∙ two in cc

fault-once : {A E : Type 0} {r : Result A E} {x y : E} → r ≡ Err x → r ≡ Err y → x ≡ y
fault-once one two = let both = sym one ∙ two in cc

pub no-image : (bytes text : List ℕ) (kind : ImageFault) (offset : ℕ) → image_of bytes ≡ Err (kind, offset) → (wanted : Checked)
    → checked.NoImage kind offset ≡ wanted ↔ IsToldAs bytes text wanted
no-image bytes text kind offset is checked.Neutral = (λ e. absurd cc, λ t. absurd (read-no-fault t.stand.image_is is))
no-image bytes text kind offset is (checked.Refused place rule) = (λ e. absurd cc, λ t. absurd (read-no-fault t.stand.image_is is))
no-image bytes text kind offset is (checked.NoImage other at) = (
  λ e. let one : kind ≡ other = cc in let two : offset ≡ at = cc in is ∙ rw (one, two) refl,
  λ t. ap (λ (p : ImageFault × ℕ). checked.NoImage p.0 p.1) (fault-once is t),
)
no-image bytes text kind offset is (checked.NoNotes fault) = (λ e. absurd cc, λ t. absurd (read-no-fault t.image_is is))

-- ---- no notes

pub no-notes : (image : Image) (text : List ℕ) (fault : TomlFault) → notes_of text ≡ Err fault
    → TellsUnder image text (checked.NoNotes fault)
no-notes image text fault none bytes is checked.Neutral = (λ e. absurd cc, λ t. absurd (read-no-fault t.stand.notes_are none))
no-notes image text fault none bytes is (checked.Refused place rule) =
    (λ e. absurd cc, λ t. absurd (read-no-fault t.stand.notes_are none))
no-notes image text fault none bytes is (checked.NoImage kind offset) = (λ e. absurd cc, λ t. absurd (read-no-fault is t))
no-notes image text fault none bytes is (checked.NoNotes other) = (
  λ e. let same : fault ≡ other = cc in record { image = image; image_is = is; none = none ∙ ap Err same },
  λ t. ap checked.NoNotes (fault-once none t.none),
)

-- ---- a verdict

verdict-neutral : (v : Verdict) → checked_of v ≡ checked.Neutral ↔ v ≡ verdicts.Neutral
verdict-neutral verdicts.Neutral = (λ e. refl, λ e. refl)
verdict-neutral (verdicts.Refused place rule) = (λ e. absurd cc, λ e. absurd cc)

verdict-refused : (v : Verdict) (place : ℕ) (rule : RuleName)
    → checked_of v ≡ checked.Refused place rule ↔ v ≡ verdicts.Refused place rule
verdict-refused verdicts.Neutral place rule = (λ e. absurd cc, λ e. absurd cc)
verdict-refused (verdicts.Refused at by) place rule = (
  λ e. let there : at ≡ place = cc in let named : by ≡ rule = cc in rw (there, named) refl,
  λ e. let there : at ≡ place = cc in let named : by ≡ rule = cc in rw (there, named) refl,
)

no-verdict-image : (v : Verdict) (kind : ImageFault) (offset : ℕ) → checked_of v ≡ checked.NoImage kind offset → ⊥
no-verdict-image verdicts.Neutral kind offset e = cc
no-verdict-image (verdicts.Refused place rule) kind offset e = cc

no-verdict-notes : (v : Verdict) (fault : TomlFault) → checked_of v ≡ checked.NoNotes fault → ⊥
no-verdict-notes verdicts.Neutral fault e = cc
no-verdict-notes (verdicts.Refused place rule) fault e = cc

pub checked-under : (image : Image) (notes : Notes) (text : List ℕ) (x : Checked) → notes_of text ≡ Ok notes → TellsCheck image notes x
    → TellsUnder image text x
checked-under image notes text x are t bytes is checked.Neutral = (
  λ e. record {
    image = image;
    notes = notes;
    stand = record { image_is = is; notes_are = are };
    typed = t.neutral.0 ((verdict-neutral t.verdict).0 (sym t.told ∙ e));
  },
  λ w. let typed : Typed image notes = subst (λ n. Typed image n) (read-once w.stand.notes_are are)
      (subst (λ i. Typed i w.notes) (read-once w.stand.image_is is) w.typed) in
      t.told ∙ (verdict-neutral t.verdict).1 (t.neutral.1 typed),
)
checked-under image notes text x are t bytes is (checked.Refused place rule) = (
  λ e. record {
    image = image;
    notes = notes;
    stand = record { image_is = is; notes_are = are };
    refused = (t.refused place rule).0 ((verdict-refused t.verdict place rule).0 (sym t.told ∙ e));
  },
  λ w. let refused : IsRefused image notes place rule = subst (λ n. IsRefused image n place rule) (read-once w.stand.notes_are are)
      (subst (λ i. IsRefused i w.notes place rule) (read-once w.stand.image_is is) w.refused) in
      t.told ∙ (verdict-refused t.verdict place rule).1 ((t.refused place rule).1 refused),
)
checked-under image notes text x are t bytes is (checked.NoImage kind offset) =
    (λ e. absurd (no-verdict-image t.verdict kind offset (sym t.told ∙ e)), λ w. absurd (read-no-fault is w))
checked-under image notes text x are t bytes is (checked.NoNotes fault) =
    (λ e. absurd (no-verdict-notes t.verdict fault (sym t.told ∙ e)), λ w. absurd (read-no-fault are w.none))

-- ---- one behaviour

pub checked-as-one : (image : Image) (notes : Notes) (text : List ℕ) (x : Checked) → IsReadImage image → IsNotes notes
    → notes_of text ≡ Ok notes → TellsCheck image notes x → x ≡ checked.Neutral → (other : Notes) → notes_of text ≡ Ok other
    → RunsAsOne image other
checked-as-one image notes text x read valid are t e other is =
    subst (RunsAsOne image) (read-once are is)
    (neutral_as_one image notes read.0 read.1 valid (t.neutral.0 ((verdict-neutral t.verdict).0 (sym t.told ∙ e))))

pub bytes-as-one : (bytes text : List ℕ) (image : Image) (x : Checked) → image_of bytes ≡ Ok image
    → (x ≡ checked.Neutral → (notes : Notes) → notes_of text ≡ Ok notes → RunsAsOne image notes)
    → x ≡ checked.Neutral → (i : Image) (n : Notes) → StandFor bytes text i n → RunsAsOne i n
bytes-as-one bytes text image x is known e i n stand =
    subst (λ other. RunsAsOne other n) (read-once is stand.image_is) (known e n stand.notes_are)

-- what is so of each value is so of one that was made
pub if-ok : {X E : Type 0} {P Q : X → Type 0} (r : Result X E) → ((x : X) → P x → Q x) → IfOk r P → IfOk r Q
if-ok (Ok x) law known = law x known
if-ok (Err e) law known = tt
