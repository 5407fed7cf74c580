-- The effects of a list, and the test that finds one.
use Rattle.std.proofs.Common.{◌≡◌, ℕ, List, [], ◌∷◌, ◌++◌, sym, ap, subst, ◌∙◌, inl, inr, ◌⊎◌, ◌↔◌, refl, ⊎_elim}
use Rattle.std.specs.Prelude.{Bool, true, false, ◌&&◌, ℤ, nat_eq, Option, None, Some, cond}
use Rattle.std.specs.List.{Contains}
use Rattle.std.specs.Ordering.{int_eq}
use Rattle.std.specs.Cmp.{booleans_Decides}
use Rattle.std.proofs.Math.Bool.{beq}
use Rattle.std.proofs.lemmas.Bool.{and_from, and_parts, eq-eqb, eqb-true}
use Rattle.std.proofs.lemmas.Bool.Decides.{Decides-int_eq}
use Rattle.std.proofs.lemmas.List.Elements.{Contains-append_left, Contains-push, Contains-push_cases}
use Rattle.std.proofs.lemmas.List.Folds.{list_any_at}
use Rattle.std.proofs.lemmas.Map.Views.{Contains-from_any}
use Rattle.std.proofs.lemmas.Option.{none-some, same_Some}
use Rattle.image_warnings.specs.Effects.{is_same, list_with, lists}
use Rattle.departures.specs.Fields.{is_same_field}
use Rattle.image_warnings.specs.declared.effect.Effect.{Effect}
use Rattle.image_warnings.specs.declared.effect.Effect.TheVariants.{Store, Call}
use Rattle.departures.specs.declared.field.ObjectField.{ObjectField}

abbrev field_of : ℕ → ℤ → ℤ → Bool → ObjectField
field_of shape n c natural = record { shape = shape; n = n; c = c; natural = natural }

same_field : (x y : ObjectField) → is_same_field x y ≡ true → x ≡ y
same_field x y e =
    let p = and_parts (nat_eq x.shape y.shape) (int_eq x.n y.n && (int_eq x.c y.c && beq x.natural y.natural)) e in
    let q = and_parts (int_eq x.n y.n) (int_eq x.c y.c && beq x.natural y.natural) p.1 in
    let r = and_parts (int_eq x.c y.c) (beq x.natural y.natural) q.1 in
    ap (λ k. field_of k x.n x.c x.natural) (eqb-true x.shape y.shape p.0)
    ∙ (ap (λ k. field_of y.shape k x.c x.natural) ((Decides-int_eq x.n y.n).0 q.0)
    ∙ (ap (λ k. field_of y.shape y.n k x.natural) ((Decides-int_eq x.c y.c).0 r.0)
    ∙ ap (field_of y.shape y.n y.c) ((booleans_Decides x.natural y.natural).0 r.1)))

field_itself : (x : ObjectField) → is_same_field x x ≡ true
field_itself x =
    and_from (nat_eq x.shape x.shape) (int_eq x.n x.n && (int_eq x.c x.c && beq x.natural x.natural)) (eq-eqb x.shape x.shape refl)
    (and_from (int_eq x.n x.n) (int_eq x.c x.c && beq x.natural x.natural) ((Decides-int_eq x.n x.n).1 refl)
    (and_from (int_eq x.c x.c) (beq x.natural x.natural) ((Decides-int_eq x.c x.c).1 refl)
    ((booleans_Decides x.natural x.natural).1 refl)))

same : (x y : Effect) → is_same x y ≡ true → x ≡ y
same (Store x) (Store y) e = ap (λ z. Store z) (same_field x y e)
same (Call x) (Call y) e = ap (λ z. Call z) ((Decides-int_eq x y).0 e)
same (Store x) (Call y) e = absurd cc
same (Call x) (Store y) e = absurd cc

itself : (x : Effect) → is_same x x ≡ true
itself (Store x) = field_itself x
itself (Call x) = (Decides-int_eq x x).1 refl

-- the list has exactly its elements
pub has_contained : (effects : List Effect) (x : Effect) → (lists effects x ≡ true) ↔ Contains effects x
unfolding lists
has_contained effects x = (
  λ e. Contains-from_any same x effects e,
  λ c. list_any_at (is_same x) effects c.0 x c.1 (subst (λ y. is_same x y ≡ true) (sym c.2) (itself x)),
)

-- with one more, it has what it had and that one
module _ (effects : List Effect) where
  pub with_old : (o : Option Effect) (x : Effect) → Contains effects x → Contains (list_with effects o) x
  with_old None x c = c
  with_old (Some y) x c = still (lists effects y)
    where
      still : (b : Bool) → Contains (cond b effects (effects ++ y ∷ [])) x
      still true = c
      still false = Contains-append_left effects (y ∷ []) x c

  pub with_new : (o : Option Effect) (x : Effect) → o ≡ Some x → Contains (list_with effects o) x
  with_new None x e = absurd (none-some x e)
  with_new (Some y) x e = subst (Contains (list_with effects (Some y))) (same_Some y x e) (there y (lists effects y) refl)
    where
      there : (y : Effect) (b : Bool) → lists effects y ≡ b → Contains (cond b effects (effects ++ y ∷ [])) y
      there y true h = (has_contained effects y).0 h
      there y false h = Contains-push effects y

  pub with_cases : (o : Option Effect) (x : Effect) → Contains (list_with effects o) x → Contains effects x ⊎ (o ≡ Some x)
  with_cases None x c = inl c
  with_cases (Some y) x c = cases (lists effects y) c
    where
      cases : (b : Bool) → Contains (cond b effects (effects ++ y ∷ [])) x → Contains effects x ⊎ (Some y ≡ Some x)
      cases true c = inl c
      cases false c = ⊎_elim inl (λ (e : y ≡ x). inr (ap (λ z. Some z) e)) (Contains-push_cases effects y x c)
