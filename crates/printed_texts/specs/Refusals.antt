-- Meaning: what is printed of a refusal, the rule that fails at a place: docs/COMMANDS.md, "Printed lines".
use Rattle.std.specs.Prelude.{ℕ, List, ◌++◌, codes}
use Rattle.note_types.specs.declared.rule.RuleName.{RuleName}
use Rattle.note_types.specs.declared.rule.RuleName.TheVariants as rules
use Rattle.printed_texts.specs.RunTexts.{place_text}

-- a rule by its name
abbrev pub rule_text : RuleName → List ℕ
rule_text rules.Shape = codes "shape"
rule_text rules.Function = codes "function"
rule_text rules.Static = codes "static"
rule_text rules.Decode = codes "decode"
rule_text rules.State = codes "state"
rule_text rules.Point = codes "point"
rule_text rules.Relocation = codes "relocation"
rule_text rules.Form = codes "form"
rule_text rules.Stack = codes "stack"
rule_text rules.Address = codes "address"
rule_text rules.Null = codes "null"
rule_text rules.Unwritten = codes "unwritten"
rule_text rules.Store = codes "store"
rule_text rules.Compare = codes "compare"
rule_text rules.Divide = codes "divide"
rule_text rules.Target = codes "target"
rule_text rules.Site = codes "site"
rule_text rules.Level = codes "level"
rule_text rules.Thunk = codes "thunk"
rule_text rules.Arguments = codes "arguments"
rule_text rules.Return = codes "return"
rule_text rules.Below = codes "below"
rule_text rules.End = codes "end"

-- the line of a rule that fails at a place
abbrev pub refused_line : ℕ → RuleName → List ℕ
refused_line place rule = codes "refused " ++ (place_text place ++ (codes " " ++ (rule_text rule ++ codes "\n")))
