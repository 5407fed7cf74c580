-- Meaning: what a part of a typing rule's row gives: a value, or the rule that fails. docs/RULES.md lists the rules in the
-- order in which they are tried.  A row is made of parts. Parts that stand beside one another are all tried, and where
-- several fail, the rule is the one that is tried first. A part that needs what another part gives (`◌>>=◌`) is tried only
-- where that one gives it. So the rule that a row fails by is the first of all those that fail there.
use Rattle.std.specs.Prelude.{ℕ, Bool, true, false, Option, Some, None, Result, Ok, Err, nat_le, if◌then◌else◌}
use Rattle.note_types.specs.declared.rule.RuleName.{RuleName}
use Rattle.note_types.specs.declared.rule.RuleName.TheVariants as rule

-- the number of a rule in the order in which they are tried
abbrev pub number_of_rule : RuleName → ℕ
number_of_rule rule.Shape = 1
number_of_rule rule.Function = 2
number_of_rule rule.Static = 3
number_of_rule rule.Decode = 4
number_of_rule rule.State = 5
number_of_rule rule.Point = 6
number_of_rule rule.Relocation = 7
number_of_rule rule.Form = 8
number_of_rule rule.Stack = 9
number_of_rule rule.Address = 10
number_of_rule rule.Null = 11
number_of_rule rule.Unwritten = 12
number_of_rule rule.Store = 13
number_of_rule rule.Compare = 14
number_of_rule rule.Divide = 15
number_of_rule rule.Target = 16
number_of_rule rule.Site = 17
number_of_rule rule.Level = 18
number_of_rule rule.Thunk = 19
number_of_rule rule.Arguments = 20
number_of_rule rule.Return = 21
number_of_rule rule.Below = 22
number_of_rule rule.End = 23

-- the one of two rules that is tried first
unfoldable pub sooner : RuleName → RuleName → RuleName
sooner r q = if nat_le (number_of_rule r) (number_of_rule q) then r else q

-- what a part gives: a value, or the rule that fails
abbrev pub OrRule : Type 0 → Type 0
OrRule A = Result A RuleName

-- two parts beside one another
abbrev pub beside : {A B : Type 0} → OrRule A → OrRule B → OrRule (A × B)
beside (Ok x) (Ok y) = Ok (x, y)
beside (Ok x) (Err q) = Err q
beside (Err r) (Ok y) = Err r
beside (Err r) (Err q) = Err (sooner r q)

-- a condition: the rule that fails where it doesn't hold
abbrev pub needs : RuleName → Bool → Option RuleName
needs r true = None
needs r false = Some r

-- two conditions beside one another
abbrev pub both : Option RuleName → Option RuleName → Option RuleName
both None q = q
both (Some r) None = Some r
both (Some r) (Some q) = Some (sooner r q)

-- a part with a condition beside it
abbrev pub also : {A : Type 0} → OrRule A → Option RuleName → OrRule A
also (Ok x) None = Ok x
also (Ok x) (Some q) = Err q
also (Err r) None = Err r
also (Err r) (Some q) = Err (sooner r q)

-- a value made of what a part gives
abbrev pub gives_map : {A B : Type 0} → (A → B) → OrRule A → OrRule B
gives_map f (Ok x) = Ok (f x)
gives_map f (Err r) = Err r
