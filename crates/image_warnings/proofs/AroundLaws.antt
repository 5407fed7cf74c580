-- What is around an instruction is one, and what the walk finds is it.
use Rattle.std.proofs.Common.{◌≡◌, ◌↔◌, ℕ, List, refl, sym, ap, subst, ◌∙◌}
use Rattle.std.specs.Prelude.{Bool, IsTrue, Option, None, Some, pos}
use Rattle.std.proofs.lemmas.Bool.Decides.{same_from_decides}
use Rattle.std.proofs.lemmas.Option.{none-some, same_Some}
use Rattle.ebc_insn.specs.declared.Insn.{Insn}
use Rattle.note_types.specs.declared.notes.FnNote.{FnNote}
use Rattle.note_types.specs.declared.notes.Notes.{Notes}
use Rattle.note_types.specs.declared.notes.Static.{Static}
use Rattle.note_types.specs.declared.state.State.{State}
use Rattle.pe_image.specs.declared.image.Image.{Image}
use Rattle.image_warnings.specs.Around.{IsAround, LoadsStored, StandsBehind, around_of}
use Rattle.image_warnings.specs.Effects.{stores_listed}
use Rattle.departures.specs.Fields.{loaded_field}
use Rattle.image_warnings.specs.ImageEffects.{AreEffects, Does}
use Rattle.image_warnings.specs.Marks.{IsUncut}
use Rattle.departures.specs.Texts.{hands_text, unended_texts}
use Rattle.departures.specs.declared.departure.Around.{Around}
use Rattle.image_warnings.specs.declared.effect.Effect.{Effect}
use Rattle.image_warnings.specs.declared.effect.Effect.TheVariants.{Store, Call}
use Rattle.departures.specs.declared.field.ObjectField.{ObjectField}
use Rattle.departures.specs.declared.above.Uncut.{Uncut}
use Rattle.image_warnings.proofs.EffectLaws.{has_contained}

-- ---- it is one

abbrev uncut_with : Bool → Bool → Bool → Bool → Uncut
uncut_with natural byte word dword = record { natural = natural; byte = byte; word = word; dword = dword }

one_uncut : (image : Image) (notes : Notes) (f : FnNote) (place : ℕ) (a b : Uncut) → IsUncut image notes f place a
    → IsUncut image notes f place b → a ≡ b
one_uncut image notes f place a b x y =
    ap (λ u. uncut_with u a.byte a.word a.dword) (same_from_decides a.natural b.natural x.natural y.natural)
    ∙ (ap (λ u. uncut_with b.natural u a.word a.dword) (same_from_decides a.byte b.byte x.byte y.byte)
    ∙ (ap (λ u. uncut_with b.natural b.byte u a.dword) (same_from_decides a.word b.word x.word y.word)
    ∙ ap (uncut_with b.natural b.byte b.word) (same_from_decides a.dword b.dword x.dword y.dword)))

one_behind : (image : Image) (f : FnNote) (next : ℕ) (a b : Option (Insn × ℕ)) → StandsBehind image f next a → StandsBehind image f next b
    → a ≡ b
one_behind image f next None None x y = refl
one_behind image f next None (Some p) x y = x.whole p.0 p.1 (y.decodes p.0 p.1 refl)
one_behind image f next (Some p) b x y = sym (y.whole p.0 p.1 (x.decodes p.0 p.1 refl))

abbrev around_with : Uncut → Bool → Bool → Bool → Option (Insn × ℕ) → Around
around_with uncut stored called unended behind =
    record { uncut = uncut; stored = stored; called = called; unended = unended; behind = behind }

pub one_around : (image : Image) (notes : Notes) (f : FnNote) (place : ℕ) (s : State) (i : Insn) (next : ℕ) (a b : Around)
    → IsAround image notes f place s i next a → IsAround image notes f place s i next b → a ≡ b
one_around image notes f place s i next a b x y =
    ap (λ u. around_with u a.stored a.called a.unended a.behind) (one_uncut image notes f place a.uncut b.uncut x.uncut y.uncut)
    ∙ (ap (λ u. around_with b.uncut u a.called a.unended a.behind) (same_from_decides a.stored b.stored x.stored y.stored)
    ∙ (ap (λ u. around_with b.uncut b.stored u a.unended a.behind) (same_from_decides a.called b.called x.called y.called)
    ∙ (ap (λ u. around_with b.uncut b.stored b.called u a.behind) (x.unended ∙ sym y.unended)
    ∙ ap (around_with b.uncut b.stored b.called b.unended) (one_behind image f next a.behind b.behind x.behind y.behind))))

-- ---- it is found

-- the test finds whether a load is of what is stored
stored_found : (image : Image) (notes : Notes) (f : FnNote) (s : State) (i : Insn) (effects : List Effect)
    → AreEffects image notes effects → (o : Option ObjectField) → loaded_field notes f s i ≡ o
    → IsTrue (stores_listed effects o) ↔ LoadsStored image notes f s i
stored_found image notes f s i effects all None e = (λ h. absurd cc, λ l. absurd (none-some l.field (sym e ∙ l.loads)))
stored_found image notes f s i effects all (Some x) e = (
  λ h. record { field = x; loads = e; stored = (all (Store x)).0 ((has_contained effects (Store x)).0 h) },
  λ l. let same : l.field ≡ x = same_Some l.field x (sym l.loads ∙ e) in
      (has_contained effects (Store x)).1 ((all (Store x)).1 (subst (λ y. Does image notes (Store y)) same l.stored)),
)

pub around_found : (image : Image) (notes : Notes) (f : FnNote) (place : ℕ) (s : State) (i : Insn) (next : ℕ) (effects : List Effect)
    (texts : List Static) (uncut : Uncut) (behind : Option (Insn × ℕ)) → AreEffects image notes effects
    → texts ≡ unended_texts image notes → IsUncut image notes f place uncut → StandsBehind image f next behind
    → IsAround image notes f place s i next (around_of effects texts uncut behind notes f place s i)
around_found image notes f place s i next effects texts uncut behind all are u b = record {
  uncut = u;
  stored = stored_found image notes f s i effects all (loaded_field notes f s i) refl;
  called = let c : Effect = Call (pos f.place) in
      (λ h. (all c).0 ((has_contained effects c).0 h), λ d. (has_contained effects c).1 ((all c).1 d));
  unended = ap (λ ts. hands_text ts notes place s) are;
  behind = b;
}
