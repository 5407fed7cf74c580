-- There is one first rule of several, since each rule has a number of its own.
use Rattle.std.proofs.Common.{◌≡◌, ℕ, nat_eq, if◌then◌else◌, refl, sym, ap, ◌∙◌, arith}
use Rattle.note_types.specs.declared.rule.RuleName.{RuleName}
use Rattle.rules_base.specs.Outcomes.{number_of_rule}
use Rattle.rules_base.specs.FirstRule.{IsFirst}
use Rattle.note_types.specs.declared.rule.RuleName.TheVariants as rule

-- the rule of a number
rule_of : ℕ → RuleName
rule_of n =
    if nat_eq n 1 then rule.Shape
    else if nat_eq n 2 then rule.Function
    else if nat_eq n 3 then rule.Static
    else if nat_eq n 4 then rule.Decode
    else if nat_eq n 5 then rule.State
    else if nat_eq n 6 then rule.Point
    else if nat_eq n 7 then rule.Relocation
    else if nat_eq n 8 then rule.Form
    else if nat_eq n 9 then rule.Stack
    else if nat_eq n 10 then rule.Address
    else if nat_eq n 11 then rule.Null
    else if nat_eq n 12 then rule.Unwritten
    else if nat_eq n 13 then rule.Store
    else if nat_eq n 14 then rule.Compare
    else if nat_eq n 15 then rule.Divide
    else if nat_eq n 16 then rule.Target
    else if nat_eq n 17 then rule.Site
    else if nat_eq n 18 then rule.Level
    else if nat_eq n 19 then rule.Thunk
    else if nat_eq n 20 then rule.Arguments
    else if nat_eq n 21 then rule.Return
    else if nat_eq n 22 then rule.Below
    else rule.End

of_its_number : (r : RuleName) → rule_of (number_of_rule r) ≡ r
unfolding rule_of
of_its_number rule.Shape = refl
of_its_number rule.Function = refl
of_its_number rule.Static = refl
of_its_number rule.Decode = refl
of_its_number rule.State = refl
of_its_number rule.Point = refl
of_its_number rule.Relocation = refl
of_its_number rule.Form = refl
of_its_number rule.Stack = refl
of_its_number rule.Address = refl
of_its_number rule.Null = refl
of_its_number rule.Unwritten = refl
of_its_number rule.Store = refl
of_its_number rule.Compare = refl
of_its_number rule.Divide = refl
of_its_number rule.Target = refl
of_its_number rule.Site = refl
of_its_number rule.Level = refl
of_its_number rule.Thunk = refl
of_its_number rule.Arguments = refl
of_its_number rule.Return = refl
of_its_number rule.Below = refl
of_its_number rule.End = refl

-- two rules of one number are one
number_again : (r q : RuleName) → number_of_rule r ≡ number_of_rule q → r ≡ q
number_again r q e = sym (of_its_number r) ∙ ap rule_of e ∙ of_its_number q

-- there is one first rule
pub one_first : (A : RuleName → Type 0) (r q : RuleName) → IsFirst A r → IsFirst A q → r ≡ q
one_first A r q a b = number_again r q (let l = a.first q b.among in let m = b.first r a.among in omega arith)
