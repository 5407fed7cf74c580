-- The points at the leaders, one leader after another.
use Rattle.note_infer.proofs.Common.{◌≡◌, ℕ, zero, suc, ◌+◌, ◌<◌, List, [], ◌∷◌, ◌++◌, length, take, get_or, refl, sym, ap, ◌∙◌, arith}
use Rattle.note_infer.proofs.Common.{None, Option, Some, slice_index, IsStrictlyIncreasing, Point, State, points_of, with_point, States}
use Rattle.note_infer.proofs.Common.{state_at}
use Rattle.std.proofs.lemmas.List.{take_more}
use Rattle.note_infer.proofs.StatesAt.{at_number}

with_more : (x : ℕ) (o : Option State) (ps qs : List Point) → with_point x o (ps ++ qs) ≡ with_point x o ps ++ qs
with_more x None ps qs = refl
with_more x (Some s) ps qs = refl

points_append : (states : States) (xs : List ℕ) (x : ℕ)
    → points_of states (xs ++ x ∷ []) ≡ points_of states xs ++ with_point x (states x) []
unfolding points_of
points_append states [] x = refl
points_append states (y ∷ ys) x =
    ap (with_point y (states y)) (points_append states ys x) ∙ with_more y (states y) (points_of states ys) (with_point x (states x) [])

default_free : (xs : List (Option State)) (k : ℕ) → k < length xs → (d e : Option State) → get_or xs k d ≡ get_or xs k e
default_free [] k h d e = absurd (omega arith)
default_free (x ∷ xs) zero h d e = refl
default_free (x ∷ xs) (suc k) h d e = default_free xs k (omega arith) d e

pub points_none : (states : States) → points_of states [] ≡ []
unfolding points_of
points_none states = refl

pub points_step : (leaders : List ℕ) (states : List (Option State)) (n : ℕ) (o : Option State) (ps qs : List Point)
    → IsStrictlyIncreasing leaders → length states ≡ length leaders → n < length leaders → o ≡ get_or states n o
    → ps ≡ points_of (state_at leaders states) (take n leaders) → qs ≡ ps ++ with_point (slice_index leaders n) o []
    → qs ≡ points_of (state_at leaders states) (take (n + 1) leaders)
points_step leaders states n o ps qs up long short at before step =
    let x : ℕ = slice_index leaders n in
    let there : state_at leaders states x ≡ o =
    at_number leaders states n x up short long refl ∙ default_free states n (omega arith) None o ∙ sym at in
    step
    ∙ ap (λ ys. ys ++ with_point x o []) before
    ∙ ap (λ p. points_of (state_at leaders states) (take n leaders) ++ with_point x p []) (sym there)
    ∙ sym (points_append (state_at leaders states) (take n leaders) x)
    ∙ ap (points_of (state_at leaders states)) (sym (take_more leaders n 0 short))
