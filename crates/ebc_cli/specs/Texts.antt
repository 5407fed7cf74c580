-- Meaning: what the program prints: docs/COMMANDS.md, "Printed lines".
use Rattle.std.specs.Prelude.{ℕ, List, ◌++◌, codes}
use Rattle.plain_check.specs.declared.verdict.Verdict.{Verdict}
use Rattle.plain_check.specs.declared.verdict.Verdict.TheVariants.{Neutral, Refused}
use Rattle.printed_texts.specs.Refusals.{rule_text}
use Rattle.printed_texts.specs.RunTexts.{place_text}

abbrev pub neutral_line : List ℕ
neutral_line = codes "neutral\n"

-- the line of a verdict without the line feed
abbrev pub verdict_text : Verdict → List ℕ
verdict_text Neutral = codes "neutral"
verdict_text (Refused place rule) = codes "refused " ++ (place_text place ++ (codes " " ++ rule_text rule))

abbrev pub usage_line : List ℕ
usage_line =
    codes "usage: asm SRC OBJ | link PLAN IMAGE | check CODE | check IMAGE NOTES | list IMAGE"
    ++ (codes " | run WIDTH IMAGE NOTES SCRIPT STEPS | twin IMAGE NOTES SCRIPT STEPS | sample N"
    ++ (codes " | rom wrap VENDOR DEVICE IMAGE ROM | rom list ROM | rom take ROM NUMBER IMAGE | infer IMAGE NOTES"
    ++ codes " | pair IMAGE NOTES SCRIPT IMAGE2 NOTES2 SCRIPT2 BINDS STEPS\n"))
