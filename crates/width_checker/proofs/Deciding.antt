-- The verdict is one: an image isn't both typed and refused, nor refused twice.
use Rattle.width_checker.proofs.Common.{◌≡◌, ℕ, ◌+◌, ◌-◌, ◌<◌, ◌≤◌, ◌↔◌, zero, suc, length, get_or, refl, sym, ap, subst, ◌∙◌, ⊎_elim}
use Rattle.width_checker.proofs.Common.{arith, Some, slice_get, cases_lt, same_Some, FnNote, Notes, RuleName, Image, IsFirst, Neutral}
use Rattle.width_checker.proofs.Common.{Refused, Leads, Typed, FailsAt, RefusesInsn}
use Rattle.std.proofs.{Common.◌∷◌, lemmas.Option.slice_get_within, lemmas.Option.slice_get-get_or}
use Rattle.note_types.specs.declared.notes.{Static.Static, Thunk.Thunk}
use Rattle.rules_image.specs.{Images.FunctionHolds, Images.IsFirstFailing, Places.IsPlaceOf}
use Rattle.plain_check.specs.declared.verdict.Verdict.{Verdict}
use Rattle.width_checker.specs.Verdicts.{IsRefused, IsVerdict, by_function, by_insn, by_shape, by_static, by_thunk}
use Rattle.width_checker.proofs.{Failing.meets_all, Leading.OnePoint, Leading.start_first}
use Rattle.rules_base.proofs.FirstRule.{one_first}
use Rattle.note_types.specs.declared.rule.RuleName.TheVariants as rule

-- ---- the first thing of which a rule doesn't hold is one

one_failing : (P : ℕ → Type 0) (j k : ℕ) → IsFirstFailing P j → IsFirstFailing P k → j ≡ k
one_failing P j k a b =
    ⊎_elim (λ less. absurd (a.fails (b.before j less)))
    (λ from. ⊎_elim (λ less. absurd (b.fails (a.before k less))) (λ back. omega arith) (cases_lt k j))
    (cases_lt j k)

-- ---- functions lie one behind the other

abbrev AreFunctions : Image → Notes → Type 0
AreFunctions image notes = (k : ℕ) → FunctionHolds image notes k

behind : (image : Image) (notes : Notes) → AreFunctions image notes → (n j k : ℕ) (f g : FnNote) → j + suc n ≡ k
    → slice_get notes.function j ≡ Some f → slice_get notes.function k ≡ Some g → f.end ≤ g.place
behind image notes all zero j k f g e there here = (all k g here).past j f (omega arith) there
behind image notes all (suc n) j k f g e there here =
    let inside : j + suc n < length notes.function = let l = slice_get_within notes.function k g here in omega arith in
    let mid : FnNote = get_or notes.function (j + suc n) f in
    let there_mid : slice_get notes.function (j + suc n) ≡ Some mid = slice_get-get_or notes.function (j + suc n) f inside in
    let first = behind image notes all n j (j + suc n) f mid refl there there_mid in
    let range = (all (j + suc n) mid there_mid).range in
    let last = (all k g here).past (j + suc n) mid (omega arith) there_mid in
    omega arith

pub function_before : (image : Image) (notes : Notes) → AreFunctions image notes → (j k : ℕ) (f g : FnNote) → j < k
    → slice_get notes.function j ≡ Some f → slice_get notes.function k ≡ Some g → f.end ≤ g.place
function_before image notes all j k f g less there here = behind image notes all (k - (j + 1)) j k f g (omega arith) there here

-- a place of a function is before its end
pub place_within : (image : Image) (notes : Notes) → AreFunctions image notes → (k : ℕ) (f : FnNote) → slice_get notes.function k ≡ Some f
    → (n p : ℕ) → Leads image f n p → p < f.end
unfolding Leads
place_within image notes all k f there zero p a = let r = (all k f there).range in omega arith
place_within image notes all k f there (suc n) p a = a.within

-- a place belongs to one function
same_number : (image : Image) (notes : Notes) → AreFunctions image notes → (j k p : ℕ) (f g : FnNote) → slice_get notes.function j ≡ Some f
    → slice_get notes.function k ≡ Some g
    → IsPlaceOf image f p → IsPlaceOf image g p → j ≡ k
same_number image notes all j k p f g there here a b =
    let from_f = start_first image f a.0 p a.1 in
    let from_g = start_first image g b.0 p b.1 in
    let in_f = place_within image notes all j f there a.0 p a.1 in
    let in_g = place_within image notes all k g here b.0 p b.1 in
    ⊎_elim (λ less. absurd (let h = function_before image notes all j k f g less there here in omega arith))
    (λ from. ⊎_elim (λ less. absurd (let h = function_before image notes all k j g f less here there in omega arith)) (λ back. omega arith)
    (cases_lt k j))
    (cases_lt j k)

-- ---- the first instruction at which a rule fails is one

module _ (image : Image) (notes : Notes) (one : OnePoint notes) where
  not_before : (p q : ℕ) (r s : RuleName) → RefusesInsn image notes p r → RefusesInsn image notes q s → p < q → ⊥
  not_before p q r s a b less =
      meets_all image notes a.number a.f p one (b.before a.number a.f a.there p a.reached less) r a.fails.among

  same_place : (p q : ℕ) (r s : RuleName) → RefusesInsn image notes p r → RefusesInsn image notes q s → p ≡ q
  same_place p q r s a b =
      ⊎_elim (λ less. absurd (not_before p q r s a b less))
      (λ from. ⊎_elim (λ less. absurd (not_before q p s r b a less)) (λ back. omega arith) (cases_lt q p))
      (cases_lt p q)

  same_rule : (p : ℕ) (r s : RuleName) → RefusesInsn image notes p r → RefusesInsn image notes p s → r ≡ s
  same_rule p r s a b =
      let number : b.number ≡ a.number =
      same_number image notes a.tables.functions b.number a.number p b.f a.f b.there a.there b.reached a.reached in
      let there : slice_get notes.function a.number ≡ Some b.f = subst (λ k. slice_get notes.function k ≡ Some b.f) number b.there in
      let f : b.f ≡ a.f = same_Some b.f a.f (sym there ∙ a.there) in
      let fails : IsFirst (FailsAt image notes a.number a.f p) s =
      subst (λ g. IsFirst (FailsAt image notes a.number g p) s) f
      (subst (λ k. IsFirst (FailsAt image notes k b.f p) s) number b.fails) in
      one_first (FailsAt image notes a.number a.f p) r s a.fails fails

  -- ---- the verdict

  -- a typed image isn't refused
  pub not_both : Typed image notes → (p : ℕ) (r : RuleName) → IsRefused image notes p r → ⊥
  not_both t p r (by_shape x e) = x.first.fails (t.tables.shapes p)
  not_both t p r (by_function x e) = x.first.fails (t.tables.functions x.number)
  not_both t p r (by_static x e) = x.first.fails (t.tables.statics x.number)
  not_both t p r (by_thunk x e) = x.first.fails (t.tables.thunks x.number)
  not_both t p r (by_insn x) = meets_all image notes x.number x.f p one (t.code x.number x.f x.there p x.reached) r x.fails.among

  abbrev Same : ℕ → RuleName → ℕ → RuleName → Type 0
  Same p r q s = (p ≡ q) × (r ≡ s)

  -- a refused image is refused once
  pub refused_once : (p q : ℕ) (r s : RuleName) → IsRefused image notes p r → IsRefused image notes q s → (p ≡ q) × (r ≡ s)
  refused_once p q r s (by_shape x e) (by_shape y g) = (one_failing _ p q x.first y.first, e ∙ sym g)
  refused_once p q r s (by_shape x e) (by_function y g) = absurd (x.first.fails (y.shapes p))
  refused_once p q r s (by_shape x e) (by_static y g) = absurd (x.first.fails (y.shapes p))
  refused_once p q r s (by_shape x e) (by_thunk y g) = absurd (x.first.fails (y.shapes p))
  refused_once p q r s (by_shape x e) (by_insn y) = absurd (x.first.fails (y.tables.shapes p))
  refused_once p q r s (by_function x e) (by_shape y g) = absurd (y.first.fails (x.shapes q))
  refused_once p q r s (by_function x e) (by_function y g) =
      let k : x.number ≡ y.number = one_failing _ x.number y.number x.first y.first in
      let f : x.f ≡ y.f = same_Some x.f y.f (sym x.there ∙ (ap (slice_get notes.function) k ∙ y.there)) in
      (x.at ∙ ap (λ (z : FnNote). z.place) f ∙ sym y.at, e ∙ sym g)
  refused_once p q r s (by_function x e) (by_static y g) = absurd (x.first.fails (y.functions x.number))
  refused_once p q r s (by_function x e) (by_thunk y g) = absurd (x.first.fails (y.functions x.number))
  refused_once p q r s (by_function x e) (by_insn y) = absurd (x.first.fails (y.tables.functions x.number))
  refused_once p q r s (by_static x e) (by_shape y g) = absurd (y.first.fails (x.shapes q))
  refused_once p q r s (by_static x e) (by_function y g) = absurd (y.first.fails (x.functions y.number))
  refused_once p q r s (by_static x e) (by_static y g) =
      let k : x.number ≡ y.number = one_failing _ x.number y.number x.first y.first in
      let f : x.x ≡ y.x = same_Some x.x y.x (sym x.there ∙ (ap (slice_get notes.statics) k ∙ y.there)) in
      (x.at ∙ ap (λ (z : Static). z.place) f ∙ sym y.at, e ∙ sym g)
  refused_once p q r s (by_static x e) (by_thunk y g) = absurd (x.first.fails (y.statics x.number))
  refused_once p q r s (by_static x e) (by_insn y) = absurd (x.first.fails (y.tables.statics x.number))
  refused_once p q r s (by_thunk x e) (by_shape y g) = absurd (y.first.fails (x.shapes q))
  refused_once p q r s (by_thunk x e) (by_function y g) = absurd (y.first.fails (x.functions y.number))
  refused_once p q r s (by_thunk x e) (by_static y g) = absurd (y.first.fails (x.statics y.number))
  refused_once p q r s (by_thunk x e) (by_thunk y g) =
      let k : x.number ≡ y.number = one_failing _ x.number y.number x.first y.first in
      let f : x.x ≡ y.x = same_Some x.x y.x (sym x.there ∙ (ap (slice_get notes.thunk) k ∙ y.there)) in
      (x.at ∙ ap (λ (z : Thunk). z.place) f ∙ sym y.at, e ∙ sym g)
  refused_once p q r s (by_thunk x e) (by_insn y) = absurd (x.first.fails (y.tables.thunks x.number))
  refused_once p q r s (by_insn x) (by_shape y g) = absurd (y.first.fails (x.tables.shapes q))
  refused_once p q r s (by_insn x) (by_function y g) = absurd (y.first.fails (x.tables.functions y.number))
  refused_once p q r s (by_insn x) (by_static y g) = absurd (y.first.fails (x.tables.statics y.number))
  refused_once p q r s (by_insn x) (by_thunk y g) = absurd (y.first.fails (x.tables.thunks y.number))
  refused_once p q r s (by_insn x) (by_insn y) =
      let place : p ≡ q = same_place p q r s x y in
      (place, same_rule q r s (subst (λ k. RefusesInsn image notes k r) place x) y)

  -- so the verdict tells both
  pub neutral_exactly : (v : Verdict) → IsVerdict image notes v → (v ≡ Neutral) ↔ Typed image notes
  neutral_exactly Neutral h = (λ e. h, λ t. refl)
  neutral_exactly (Refused p r) h = (λ e. absurd cc, λ t. absurd (not_both t p r h))

  pub refused_exactly : (v : Verdict) → IsVerdict image notes v → (p : ℕ) (r : RuleName) → (v ≡ Refused p r) ↔ IsRefused image notes p r
  refused_exactly Neutral h p r = (λ e. absurd cc, λ x. absurd (not_both h p r x))
  refused_exactly (Refused q s) h p r = (
    λ e. subst (IsVerdict image notes) e h,
    λ x. let same = refused_once q p s r h x in ap (λ k. Refused k s) same.0 ∙ ap (λ z. Refused p z) same.1,
  )
