-- The code of functions, one function after the other.
use Rattle.std.proofs.Common.{◌≡◌, ℕ, ◌+◌, ◌≤◌, ◌<◌, List, [], ◌∷◌, ◌++◌, length, get_or, take, Some, None, nat_lt, true, false, ap, sym}
use Rattle.std.proofs.Common.{subst, ◌∙◌, ⊎_elim, arith}
use Rattle.std.proofs.lemmas.Bool.{cases_lt, le-ltb, lt-ltb}
use Rattle.std.proofs.lemmas.List.{take_more}
use Rattle.std.proofs.lemmas.List.Sums.{sum_by-append}
use Rattle.std.specs.Prelude.{◌^◌, nat_eq, Bool, if◌then◌else◌}
use Rattle.note_types.specs.Limits.{code_limit}
use Rattle.note_draft.proofs.RepeatLaws.{find-least, find-none}
use Rattle.type_notes.specs.Conditions.{code_of, code_size, first_past}
use Rattle.note_draft.specs.declared.draft.FunctionDraft.{FunctionDraft}

-- the code of the first functions and of one more
pub code_more : (fs : List FunctionDraft) (i : ℕ) (f : FunctionDraft) → i < length fs → f ≡ get_or fs i f
    → code_of (take (i + 1) fs) ≡ code_of (take i fs) + code_size f
code_more fs i f within is =
    let e : code_of (take (i + 1) fs) ≡ code_of (take i fs ++ f ∷ []) =
    ap code_of (take_more fs i f within ∙ ap (λ g. take i fs ++ g ∷ []) (sym is)) in
    let s : code_of (take i fs ++ f ∷ []) ≡ code_of (take i fs) + code_of (f ∷ []) = sum_by-append code_size (take i fs) (f ∷ []) in
    let one : code_of (f ∷ []) ≡ code_size f = omega arith in
    omega arith

-- the code of none of the first functions with those before it passes the limit
abbrev pub WithinBelow : ℕ → List FunctionDraft → ℕ → Type 0
WithinBelow limit fs i = (k : ℕ) → k < i → nat_lt limit (code_of (take (k + 1) fs)) ≡ false

pub WithinBelow-more : (limit : ℕ) (fs : List FunctionDraft) (i : ℕ) → WithinBelow limit fs i → code_of (take (i + 1) fs) ≤ limit
    → WithinBelow limit fs (i + 1)
WithinBelow-more limit fs i before within = λ k h.
    ⊎_elim
    (λ below. before k below)
    (λ above. let same : i ≡ k = omega arith in subst (λ z. nat_lt limit (code_of (take (z + 1) fs)) ≡ false) same
    (le-ltb limit (code_of (take (i + 1) fs)) within))
    (cases_lt k i)

pub first_past-some : (limit : ℕ) (fs : List FunctionDraft) (i : ℕ) → i < length fs → WithinBelow limit fs i
    → limit < code_of (take (i + 1) fs) → first_past limit fs ≡ Some i
unfolding first_past
first_past-some limit fs i within before past = find-least (λ k. nat_lt limit (code_of (take (k + 1) fs))) (length fs) 0 i (omega arith)
    (omega arith) (lt-ltb limit (code_of (take (i + 1) fs)) past) (λ k _ h. before k h)

pub first_past-none : (limit : ℕ) (fs : List FunctionDraft) (i : ℕ) → length fs ≤ i → WithinBelow limit fs i → first_past limit fs ≡ None
unfolding first_past
first_past-none limit fs i covers before = find-none (λ k. nat_lt limit (code_of (take (k + 1) fs))) (length fs) 0
    (λ k _ h. before k (omega arith))

-- the limit is small, whatever the version
limit_by : (b c : Bool) → (if b then 262144 else if c then 1048576 else 0) < 2 ^ 32
limit_by true c = omega arith
limit_by false true = omega arith
limit_by false false = omega arith

pub code_limit-small : (version : ℕ) → code_limit version < 2 ^ 32
code_limit-small version = limit_by (nat_eq version 1) (nat_eq version 2)
