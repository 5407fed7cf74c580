-- Meaning: Rows as relations: what the parts of a row give, and all the rules by which they fail. The rule that a row fails
-- by is the first of these. docs/RULES.md, "The first rule", has the words.
use Rattle.std.specs.Prelude.{◌≡◌, ◌⊎◌, ◌↔◌, ◌≤◌, Bool, true, false, Option, None, Some, Ok, Err}
use Rattle.note_types.specs.declared.rule.RuleName.{RuleName}
use Rattle.rules_base.specs.Outcomes.{number_of_rule, OrRule}

-- rule r is the first of these rules
pub record IsFirst (fails : RuleName → Type 0) (r : RuleName) : Type 0 where
  pub among : fails r
  pub first : (q : RuleName) → fails q → number_of_rule r ≤ number_of_rule q

-- ---- parts of a row

-- a part of a row: what it gives, and the rules by which it fails
pub record Part (A : Type 0) : Type 1 where
  pub gives : A → Type 0
  pub fails : RuleName → Type 0

-- a part of one thing, which gives a value or fails by one rule
abbrev pub alone : {A : Type 0} → OrRule A → Part A
alone g = record { gives = λ x. g ≡ Ok x; fails = λ r. g ≡ Err r }

-- two parts beside one another
abbrev pub together : {A B : Type 0} → Part A → Part B → Part (A × B)
together a b = record { gives = λ p. a.gives p.0 × b.gives p.1; fails = λ r. a.fails r ⊎ b.fails r }

-- a part with conditions beside it, which fail by these rules
abbrev pub under : {A : Type 0} → Part A → (RuleName → Type 0) → Part A
under a broken = record { gives = λ x. a.gives x × ((r : RuleName) → broken r → ⊥); fails = λ r. a.fails r ⊎ broken r }

-- a part that needs what another one gives
abbrev pub afterwards : {A B : Type 0} → Part A → (A → Part B) → Part B
afterwards {A} a f = record {
  gives = λ y. (x : A) × a.gives x × (f x).gives y;
  fails = λ r. a.fails r ⊎ ((x : A) × a.gives x × (f x).fails r);
}

-- what a part gives, seen as something else
abbrev pub seen : {A B : Type 0} → (A → B) → Part A → Part B
seen {A} f a = record { gives = λ y. (x : A) × a.gives x × (f x ≡ y); fails = a.fails }

-- a part of an instruction of which a condition has to hold first
abbrev pub only_where : {A : Type 0} → Bool → RuleName → Part A → Part A
only_where true r a = a
only_where false r a = alone (Err r)

-- the rule by which a condition fails where it doesn't hold
abbrev pub broken : RuleName → Bool → RuleName → Type 0
broken r holds q = (holds ≡ false) × (r ≡ q)

-- ---- what a result tells

-- a result tells what a part gives, or the first of the rules by which it fails
pub record Tells {A : Type 0} (result : OrRule A) (p : Part A) : Type 0 where
  pub given : (x : A) → (result ≡ Ok x) ↔ p.gives x
  pub first : (r : RuleName) → (result ≡ Err r) ↔ IsFirst p.fails r
  pub apart : (x : A) (r : RuleName) → p.gives x → p.fails r → ⊥

-- a condition tells whether it fails, and the first of the rules by which it does
pub record TellsRule (c : Option RuleName) (broken : RuleName → Type 0) : Type 0 where
  pub holds : (c ≡ None) ↔ ((r : RuleName) → broken r → ⊥)
  pub first : (r : RuleName) → (c ≡ Some r) ↔ IsFirst broken r
