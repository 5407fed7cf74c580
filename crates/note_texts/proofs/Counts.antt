-- The items of a slice of values, counted and looked through.
use Rattle.std.proofs.Common.{◌≡◌, ℕ, ◌+◌, ◌<◌, ◌≤◌, List, [], ◌∷◌, length, None, inl, inr, refl, ap, ◌∙◌, arith}
use Rattle.std.specs.List.{list_any}
use Rattle.std.proofs.lemmas.Bool.{cases_Bool}
use Rattle.toml.specs.declared.value.Value.{Value}
use Rattle.toml.specs.View.{view, items_view}
use Rattle.note_texts.specs.Keys.{two_items}
use Rattle.note_texts.specs.Lists.{count, count_beside, is_text, has_text}

pub count_view : (vs : List Value) → count (items_view vs) ≡ length vs
count_view [] = refl
count_view (v ∷ vs) = ap (λ n. n + 1) (count_view vs) ∙ omega arith

pub has_text_view : (text : List ℕ) (vs : List Value) → has_text text (items_view vs) ≡ list_any (λ v. is_text text (view v)) vs
has_text_view text [] = refl
has_text_view text (v ∷ vs) = rw (has_text_view text vs)

pub two_items-fewer : (vs : List Value) → length vs < 2 → two_items (items_view vs) ≡ None
two_items-fewer [] few = refl
two_items-fewer (a ∷ []) few = refl
two_items-fewer (a ∷ b ∷ vs) few = absurd (omega arith)

pub two_items-more : (vs : List Value) → 2 < length vs → two_items (items_view vs) ≡ None
two_items-more [] many = absurd (omega arith)
two_items-more (a ∷ []) many = absurd (omega arith)
two_items-more (a ∷ b ∷ []) many = absurd (omega arith)
two_items-more (a ∷ b ∷ c ∷ vs) many = refl

-- at most one item doesn't count
pub count_beside-within : (beside : List ℕ) (vs : List Value) (limit : ℕ) → count_beside beside (items_view vs) ≤ limit
    → length vs ≤ limit + 1
count_beside-within beside vs limit within = elim (cases_Bool (has_text beside (items_view vs))) [
  | inl has ↦ let w = rw (has, count_view vs) at within in omega arith
  | inr not ↦ let w = rw (not, count_view vs) at within in omega arith
]
