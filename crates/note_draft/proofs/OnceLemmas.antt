-- Names that were numbered, and the first repeat beside another one.
use Rattle.std.proofs.Common.{◌≡◌, ℕ, List, Option, Some, None, Bool, true, false, Ok, cond, refl}
use Rattle.std.specs.Prelude.{bytes_eq, nat_le}
use Rattle.note_draft.specs.declared.finding.Refusal.TheVariants.{Twice}
use Rattle.ebc_base.specs.Steps.{◌>>=◌}
use Rattle.note_draft.specs.declared.finding.Finding.{Finding}
use Rattle.note_draft.specs.declared.finding.Key.TheVariants as key
use Rattle.note_draft.specs.declared.finding.TableList.{TableList}
use Rattle.note_draft.specs.declared.repeats.Numbering.{Numbering}
use Rattle.note_draft.specs.declared.repeats.Numbering.TheVariants.{Table, Repeat}
use Rattle.note_draft.specs.Findings.{at, refused, sooner}
use Rattle.note_draft.specs.Once.{names_in, numbered}
use Rattle.note_draft.specs.Repeats.{Numbers, first_repeat}

-- where one of two things is found, what would come after both doesn't matter
either : {A : Type 0} (b : Bool) (f g : Finding) (x y : A) → (refused Twice (cond b (Some f) (Some g)) >>= λ _. Ok x) ≡
    (refused Twice (cond b (Some f) (Some g)) >>= λ _. Ok y)
either true f g x y = refl
either false f g x y = refl

found-first : {A : Type 0} (f : Finding) (other : Option Finding) (x y : A)
    → (refused Twice (sooner (Some f) other) >>= λ _. Ok x) ≡ (refused Twice (sooner (Some f) other) >>= λ _. Ok y)
unfolding sooner
found-first f None x y = refl
found-first f (Some g) x y = either (nat_le f.item g.item) f g x y

pub numbered-names : (list : TableList) (names : List (List ℕ)) (n : Numbering) (other : Option Finding) → Numbers names n
    → numbered list n other ≡ (refused Twice (sooner (at list key.Name (first_repeat bytes_eq names)) other) >>= λ _. Ok names)
unfolding at
numbered-names list names (Table table) other numbers = rw (numbers.0, numbers.1) refl
numbered-names list names (Repeat i) other some = rw some (found-first (record { list = list; item = i; key = key.Name }) other
    (names_in (Repeat i)) names)

-- nothing else found
pub sooner-none : (first : Option Finding) → sooner first None ≡ first
unfolding sooner
sooner-none None = refl
sooner-none (Some f) = refl
