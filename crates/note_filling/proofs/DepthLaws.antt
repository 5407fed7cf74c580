-- How deep items and members nest, one more of them.
use Rattle.note_filling.proofs.Common.{◌≡◌, ℕ, ◌<◌, ◌≤◌, Bool, true, false, List, [], ◌∷◌, ◌++◌, length, get_or, ap, arith, depth}
use Rattle.note_filling.proofs.Common.{items_depth, members_depth, items_view, members_view, view, Value, Entry}
use Rattle.std.proofs.{Common.◌↔◌, Common.⊎_elim, Common.zero, Common.suc, Common.IsTrue, lemmas.Bool.cases_lt}

pub items-deeper : (vs : List Value) (v : Value) (n : ℕ) → items_depth (items_view vs) ≤ n → depth (view v) ≤ n
    → items_depth (items_view (vs ++ v ∷ [])) ≤ n
items-deeper [] v n before here = omega arith
items-deeper (w ∷ vs) v n before here =
    let later = items-deeper vs v n (omega (arith, before)) here in omega (arith, before, later)

pub members-deeper : (es : List Entry) (e : Entry) (n : ℕ) → members_depth (members_view es) ≤ n → depth (view e.1) ≤ n
    → members_depth (members_view (es ++ e ∷ [])) ≤ n
members-deeper [] e n before here = omega arith
members-deeper (x ∷ es) e n before here =
    let later = members-deeper es e n (omega (arith, before)) here in omega (arith, before, later)

-- each of them nests no deeper than all together
pub item-deep : (vs : List Value) (i : ℕ) (v : Value) → i < length vs → v ≡ get_or vs i v → depth (view v) ≤ items_depth (items_view vs)
item-deep [] i v within is = absurd (omega arith)
item-deep (w ∷ vs) zero v within is = let same : depth (view v) ≡ depth (view w) = ap (λ x. depth (view x)) is in omega arith
item-deep (w ∷ vs) (suc i) v within is =
    let later : depth (view v) ≤ items_depth (items_view vs) = item-deep vs i v (omega arith) is in omega (arith, later)

pub member-deep : (done left : List Entry) (e : Entry) → depth (view e.1) ≤ members_depth (members_view (done ++ e ∷ left))
member-deep [] left e = omega arith
member-deep (x ∷ done) left e = let later = member-deep done left e in omega (arith, later)

-- where one of them nests deeper than a limit, so do all together
pub unfit : (r : Bool) (one all limit : ℕ) → (IsTrue r ↔ one ≤ limit) → r ≡ false → one ≤ all → IsTrue false ↔ (all ≤ limit)
unfit true one all limit fits none within = absurd cc
unfit false one all limit fits none within = (λ fit. absurd cc, λ whole. fits.1 (omega arith))

pub beyond_limit : (r : Bool) (all limit : ℕ) → (IsTrue r ↔ all ≤ limit) → r ≡ false → limit < all
beyond_limit true all limit fits none = absurd cc
beyond_limit false all limit fits none = ⊎_elim (λ deep. deep)
    (λ fit. let no : IsTrue false = fits.1 fit in absurd cc)
    (cases_lt limit all)
