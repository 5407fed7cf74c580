-- A text that goes on begins as before.
use Rattle.std.proofs.Common.{◌≡◌, ◌≢◌, ℕ, Bool, true, false, if◌then◌else◌, List, [], ◌∷◌, ◌++◌, Result}
use Rattle.std.proofs.Common.{Ok, Err, IfOk, OnOk, codes, refl, ap, sym}
use Rattle.std.proofs.Common.{◌∙◌, append_assoc}
use Rattle.std.specs.Str.{chars}
use Rattle.std.proofs.lemmas.List.{append-nil}
use Rattle.note_types.specs.declared.rule.RuleName.{RuleName}
use Rattle.note_types.specs.declared.rule.RuleName.TheVariants as rules
use Rattle.explain.specs.Heads.{BeginsWith, place_told}
use Rattle.explain.specs.Shown.{shown_chars}

pub begins-same : (a : List ℕ) → BeginsWith a a
begins-same a = record { rest = []; joined = sym (append-nil a) }

pub begins-more : (a b x : List ℕ) → b ≡ a ++ x → BeginsWith a b
begins-more a b x e = record { rest = x; joined = e }

pub begins-then : (a b c : List ℕ) → BeginsWith a b → BeginsWith b c → BeginsWith a c
begins-then a b c p q = record {
  rest = p.rest ++ q.rest;
  joined = q.joined ∙ (ap (λ t. t ++ q.rest) p.joined ∙ append_assoc a p.rest q.rest);
}

-- a text is as little empty as what it begins with
pub begins-some : (a b : List ℕ) → BeginsWith a b → a ≢ [] → b ≢ []
begins-some [] b p some = absurd (some refl)
begins-some (x ∷ a) b p some = λ e. let q = p.joined in cc

-- a line that is ended is no empty text
pub ended-some : (a : List ℕ) → (a ++ 10 ∷ []) ≢ []
ended-some [] = λ e. cc
ended-some (x ∷ a) = λ e. cc

-- where objects are named nothing is said of the name
pub begins-unnamed : (named : Bool) (word t : List ℕ) → named ≡ true → BeginsWith (shown_chars (if named then [] else word)) t
unfolding chars
begins-unnamed true word t e = record { rest = t; joined = refl }
begins-unnamed false word t e = cc

-- any text begins with nothing
pub begins-nothing : (t : List ℕ) → BeginsWith (shown_chars []) t
unfolding chars
begins-nothing t = record { rest = t; joined = refl }

-- what holds of each value holds of a result's
pub ok-always : {T E : Type 0} (r : Result T E) (P : T → Type 0) → ((x : T) → P x) → IfOk r P
ok-always (Ok x) P p = p x
ok-always (Err e) P p = tt

-- of another rule than `shape` a place is told
pub told-place : (rule : RuleName) (place : List ℕ) → (rule ≡ rules.Shape → ⊥) → place_told rule place ≡ codes ": " ++ place
told-place rules.Shape place other = absurd (other refl)
told-place rule place other = refl

-- what holds if a call succeeds makes another thing hold then
pub ok-then : {T E : Type 0} (r : Result T E) (P Q : Type 0) → (P → Q) → OnOk r P → OnOk r Q
ok-then (Ok x) P Q f p = f p
ok-then (Err e) P Q f p = tt
