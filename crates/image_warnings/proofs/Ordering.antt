-- The warnings of an instruction, and those of more places in their order.
use Rattle.std.proofs.Common.{◌≡◌, ℕ, zero, suc, ◌+◌, ◌*◌, ◌<◌, ◌≤◌, List, [], ◌∷◌, ◌++◌, get_or, refl, sym, ap, subst, ◌∙◌}
use Rattle.std.proofs.Common.{append_assoc, arith, ⊎_elim}
use Rattle.std.specs.Prelude.{Bool, true, false, ◌&&◌, Some, nat_le, slice_get}
use Rattle.std.proofs.lemmas.Bool.{and_parts, leb-true}
use Rattle.std.specs.List.{AllPairs, Contains}
use Rattle.std.proofs.lemmas.List.{append-nil}
use Rattle.std.proofs.lemmas.List.Elements.{Contains-append_cases, Contains-append_left, Contains-append_right, Contains-get_or}
use Rattle.std.proofs.lemmas.List.Elements.{Contains-push, Contains-push_cases}
use Rattle.std.proofs.lemmas.List.Quantifiers.{all_pairs_push}
use Rattle.std.proofs.lemmas.Option.{none-some, same_Some, slice_get_within}
use Rattle.image_warnings.specs.Warned.{Precedes, all_due, due, due_of, kinds_in_order, rank, turn}
use Rattle.departures.specs.declared.kind.Kind.{Kind}
use Rattle.departures.specs.declared.kind.Kind.TheVariants as kinds
use Rattle.image_warnings.specs.declared.warning.Warning.{Warning}

pub no_element : {X : Type 0} (x : X) → Contains [] x → ⊥
no_element x c = absurd (let h : c.0 < 0 = c.1 in omega arith)

-- each kind stands at its turn
has_turn : (kind : Kind) → slice_get kinds_in_order (turn kind) ≡ Some kind
has_turn kinds.Status = refl
has_turn kinds.Narrow = refl
has_turn kinds.Popn = refl
has_turn kinds.Divide = refl
has_turn kinds.Shift = refl
has_turn kinds.Compare = refl
has_turn kinds.Break = refl
has_turn kinds.Unwritten = refl
has_turn kinds.Far = refl
has_turn kinds.Odd = refl
has_turn kinds.Frame = refl
has_turn kinds.String = refl

-- ---- which warnings are due

module _ (place : ℕ) (departs : Kind → Bool) where
  -- a warning is one that is due
  abbrev pub IsDue : Warning → Type 0
  IsDue w = (w.place ≡ place) × (departs w.kind ≡ true)

  one_due : (kind : Kind) (b : Bool) → departs kind ≡ b → (w : Warning) → Contains (due place kind b) w → IsDue w
  one_due kind false e w c = absurd (no_element w c)
  one_due kind true e w c =
      let x : Warning = record { place = place; kind = kind } in
      ⊎_elim (λ none. absurd (no_element w none))
      (λ same. (ap (λ (v : Warning). v.place) (sym same), ap (λ (v : Warning). departs v.kind) (sym same) ∙ e))
      (Contains-push_cases [] x w c)

  pub due_sound : (list : List Kind) (w : Warning) → Contains (due_of place departs list) w → IsDue w
  unfolding due_of
  due_sound [] w c = absurd (no_element w c)
  due_sound (kind ∷ rest) w c =
      ⊎_elim (one_due kind (departs kind) refl w) (due_sound rest w)
      (Contains-append_cases (due place kind (departs kind)) (due_of place departs rest) w c)

  is_due : (kind : Kind) (b : Bool) → b ≡ true → Contains (due place kind b) (record { place = place; kind = kind })
  is_due kind false e = absurd (cc)
  is_due kind true e = Contains-push [] (record { place = place; kind = kind })

  -- what is due of one of the kinds is among what is due of all
  listed_due : (list : List Kind) (k : ℕ) (kind : Kind) → slice_get list k ≡ Some kind → departs kind ≡ true
      → Contains (due_of place departs list) (record { place = place; kind = kind })
  unfolding due_of
  listed_due [] k kind at e = absurd (none-some kind at)
  listed_due (first ∷ rest) zero kind at e =
      Contains-append_left (due place first (departs first)) (due_of place departs rest) (record { place = place; kind = kind })
      (subst (λ x. Contains (due place x (departs x)) (record { place = place; kind = kind })) (sym (same_Some first kind at))
      (is_due kind (departs kind) e))
  listed_due (first ∷ rest) (suc k) kind at e =
      Contains-append_right (due place first (departs first)) (due_of place departs rest) (record { place = place; kind = kind })
      (listed_due rest k kind at e)

  pub due_whole : (kind : Kind) → departs kind ≡ true → Contains (all_due place departs) (record { place = place; kind = kind })
  due_whole kind e = listed_due kinds_in_order (turn kind) kind (has_turn kind) e

-- ---- their order

-- warnings in their order, each before a rank
pub record Ordered (most : ℕ) (ws : List Warning) : Type 0 where
  pub pairs : AllPairs Precedes ws
  pub below : (w : Warning) → Contains ws w → rank w < most

pub turn_small : (kind : Kind) → turn kind < 12
turn_small kind = slice_get_within kinds_in_order (turn kind) kind (has_turn kind)

wider : (most more : ℕ) (ws : List Warning) → most ≤ more → Ordered most ws → Ordered more ws
wider most more ws le o = record { pairs = o.pairs; below = λ w c. let h : rank w < most = o.below w c in omega arith }

pushed : (most : ℕ) (ws : List Warning) (x : Warning) → most ≤ rank x → Ordered most ws → Ordered (rank x + 1) (ws ++ x ∷ [])
pushed most ws x le o = record {
  pairs = all_pairs_push Precedes ws x o.pairs
      (λ k d less. let h : rank (get_or ws k d) < most = o.below (get_or ws k d) (Contains-get_or ws k d less) in omega arith);
  below = λ w c. ⊎_elim (λ old. let h : rank w < most = o.below w old in omega arith)
      (λ same. let h : rank x ≡ rank w = ap rank same in omega arith) (Contains-push_cases ws x w c);
}

-- with the warning of a kind that has its turn now
with_due : (most place : ℕ) (kind : Kind) (b : Bool) (ws : List Warning) → most ≤ 12 * place + turn kind → Ordered most ws
    → Ordered (12 * place + turn kind + 1) (ws ++ due place kind b)
with_due most place kind true ws le o = pushed most ws (record { place = place; kind = kind }) le o
with_due most place kind false ws le o =
    subst (Ordered (12 * place + turn kind + 1)) (sym (append-nil ws)) (wider most (12 * place + turn kind + 1) ws (omega arith) o)

-- kinds have their turns from one on, in their order
rises : ℕ → List Kind → Bool
rises from [] = nat_le from 12
rises from (kind ∷ rest) = nat_le from (turn kind) && rises (turn kind + 1) rest

rises_in_order : rises 0 kinds_in_order ≡ true
unfolding rises
rises_in_order = refl

with_kinds : (place : ℕ) (departs : Kind → Bool) (list : List Kind) (from : ℕ) (ws : List Warning) → rises from list ≡ true
    → Ordered (12 * place + from) ws → Ordered (12 * place + 12) (ws ++ due_of place departs list)
unfolding rises due_of
with_kinds place departs [] from ws up o =
    let low : from ≤ 12 = leb-true from 12 up in
    subst (Ordered (12 * place + 12)) (sym (append-nil ws)) (wider (12 * place + from) (12 * place + 12) ws (omega arith) o)
with_kinds place departs (kind ∷ rest) from ws up o =
    let p = and_parts (nat_le from (turn kind)) (rises (turn kind + 1) rest) up in
    let low : from ≤ turn kind = leb-true from (turn kind) p.0 in
    let now : List Warning = due place kind (departs kind) in
    let one : Ordered (12 * place + turn kind + 1) (ws ++ now) =
    with_due (12 * place + from) place kind (departs kind) ws (omega arith) o in
    let later : Ordered (12 * place + (turn kind + 1)) (ws ++ now) =
    wider (12 * place + turn kind + 1) (12 * place + (turn kind + 1)) (ws ++ now) (omega arith) one in
    subst (Ordered (12 * place + 12)) (append_assoc ws now (due_of place departs rest))
    (with_kinds place departs rest (turn kind + 1) (ws ++ now) p.1 later)

pub with_all : (place : ℕ) (departs : Kind → Bool) (ws : List Warning) → Ordered (12 * place) ws
    → Ordered (12 * place + 12) (ws ++ all_due place departs)
with_all place departs ws o =
    with_kinds place departs kinds_in_order 0 ws rises_in_order (wider (12 * place) (12 * place + 0) ws (omega arith) o)
