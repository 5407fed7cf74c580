-- Meaning: the rules of plain code, said of each place by itself: docs/PLAIN.md, "The check".
use Rattle.std.specs.Prelude.{◌≡◌, ℕ, ◌+◌, ◌<◌, zero, suc, true, false, List, [], ◌∷◌, drop, length, Option, Some, None, Result, Ok, Err}
use Rattle.std.specs.Prelude.{pos}
use Rattle.std.specs.Option.{option_and_then}
use Rattle.ebc_insn.specs.declared.Insn.{Insn}
use Rattle.ebc_insn.specs.declared.Insn.TheVariants.{Jump8}
use Rattle.ebc_decode.specs.declared.DecodeFault.{DecodeFault}
use Rattle.ebc_decode.specs.Reading.{read}
use Rattle.note_types.specs.declared.rule.RuleName.{RuleName}
use Rattle.note_types.specs.declared.rule.RuleName.TheVariants.{Decode, Form, Target, End}
use Rattle.plain_check.specs.PlainChecks.{is_plain, jump_target, falls_through}

-- the place after an instruction
abbrev pub place_after : ℕ → Result (Insn × ℕ) DecodeFault → Option ℕ
place_after place (Ok (i, n)) = Some (place + n)
place_after place (Err fault) = None

-- the place after so many instructions from the start on, where all of them decode
unfoldable pub place_of : List ℕ → ℕ → Option ℕ
place_of code zero = Some 0
place_of code (suc count) = option_and_then (λ place. place_after place (read (drop place code))) (place_of code count)

-- Lengths lead to the place.
abbrev pub IsReached : List ℕ → ℕ → Type 0
IsReached code place = (count : ℕ) × (place_of code count ≡ Some place)

-- An instruction decodes at the place.
pub record Decodes (code : List ℕ) (place : ℕ) : Type 0 where
  pub insn : Insn
  pub size : ℕ
  pub reads : read (drop place code) ≡ Ok (insn, size)

-- Lengths lead to the place, and an instruction decodes there.
pub record IsStart (code : List ℕ) (place : ℕ) : Type 0 where
  pub reached : IsReached code place
  pub decodes : Decodes code place

-- A JMP8 names a start.
abbrev pub NamesStart : List ℕ → ℕ → Insn → Type 0
NamesStart code next (Jump8 cond words) = (place : ℕ) × (jump_target next words ≡ pos place) × IsStart code place
NamesStart code next i = Unit {0}

-- The instruction at the place meets every rule.
pub record MeetsPlainRules (code : List ℕ) (place : ℕ) : Type 0 where
  pub decode : Decodes code place
  pub form : is_plain decode.insn ≡ true
  pub target : NamesStart code (place + decode.size) decode.insn
  pub ending : place + decode.size ≡ length code → falls_through decode.insn ≡ false

-- Code is neutral where there is some, and every instruction that lengths lead to meets every rule.
pub record IsNeutral (code : List ℕ) : Type 0 where
  pub some : 0 < length code
  pub each : (place : ℕ) → IsReached code place → place < length code → MeetsPlainRules code place

-- ---- refusal

-- The instruction at the place is none of the forms of plain code.
pub record NoPlainForm (code : List ℕ) (place : ℕ) : Type 0 where
  pub decode : Decodes code place
  pub form : is_plain decode.insn ≡ false

-- The instruction at the place is of plain code, and is a JMP8 that names no start.
pub record NamesNoStart (code : List ℕ) (place : ℕ) : Type 0 where
  pub decode : Decodes code place
  pub form : is_plain decode.insn ≡ true
  pub target : ¬ NamesStart code (place + decode.size) decode.insn

-- The instruction at the place meets the rules on its form and its target, ends where the code ends, and may be passed.
pub record PassesEnd (code : List ℕ) (place : ℕ) : Type 0 where
  pub decode : Decodes code place
  pub form : is_plain decode.insn ≡ true
  pub target : NamesStart code (place + decode.size) decode.insn
  pub last : place + decode.size ≡ length code
  pub passed : falls_through decode.insn ≡ true

-- The rule is the first that fails at the place.
abbrev pub FailsFirst : List ℕ → ℕ → RuleName → Type 0
FailsFirst code place Decode = ¬ Decodes code place
FailsFirst code place Form = NoPlainForm code place
FailsFirst code place Target = NamesNoStart code place
FailsFirst code place End = PassesEnd code place
FailsFirst code place rule = ⊥

-- The place is the first that lengths lead to and at which a rule fails, and the rule is the first that fails there.
pub record IsRefusedAt (code : List ℕ) (place : ℕ) (rule : RuleName) : Type 0 where
  pub reached : IsReached code place
  pub inside : place < length code
  pub before : (p : ℕ) → IsReached code p → p < place → MeetsPlainRules code p
  pub fails : FailsFirst code place rule

-- Code is refused so: empty code at place 0 by its end, and other code at its first place at which a rule fails.
abbrev pub IsRefused : List ℕ → ℕ → RuleName → Type 0
IsRefused [] place rule = (place ≡ 0) × (rule ≡ End)
IsRefused (b ∷ bytes) place rule = IsRefusedAt (b ∷ bytes) place rule
