-- A label in place of an immediate may stand in a listing.
use Rattle.std.proofs.Common.{◌≡◌, ℕ, ◌-◌, ◌^◌, ◌<◌, Bool, true, false, List, [], ◌∷◌, Option, None, refl, ap, sym, subst, ◌∙◌, arith, Some}
use Rattle.std.specs.Prelude.{◌&&◌, ◌||◌, not, pos}
use Rattle.std.proofs.lemmas.Bool.Decides.{nat_tests}
use Rattle.ebc_insn.specs.declared.Insn.{Insn}
use Rattle.ebc_insn.specs.declared.Insn.TheVariants as insns
use Rattle.ebc_insn.specs.declared.Operand.{Operand}
use Rattle.ebc_insn.specs.declared.Extra.{Extra}
use Rattle.ebc_insn.specs.declared.Extra.TheVariants.{Idx, Imm, Nothing}
use Rattle.ebc_insn.specs.declared.Size.TheVariants as sizes
use Rattle.ebc_insn.specs.Spelling.{TargetFits, WellFormed}
use Rattle.asm_text.specs.Instructions.{TakesName}
use Rattle.asm_text.specs.declared.listing.Listed.TheVariants as listed
use Rattle.asm_text.specs.Names.{is_place_name, is_register, label_text}
use Rattle.asm_text.specs.Numbers.{hex_text}
use Rattle.asm_text.specs.Writing.{ListedFits}
use Rattle.asm_text.proofs.ListLaws.{label_is_name}
use Rattle.ebc_disasm.specs.Listings.{takes_label, without_immediate}
use Rattle.ebc_disasm.specs.Walks.{MayHave}

no_register : (t : List ℕ) → is_register (76 ∷ t) ≡ false
no_register [] = refl
no_register (d ∷ []) = refl
no_register (d ∷ e ∷ t) = refl

-- the label of a place is a name, and not that of a register
label_name : (place : ℕ) → is_place_name (label_text place) ≡ true
label_name place = rw (no_register (hex_text 8 place)) (label_is_name place)

-- an instruction that takes a label, without its immediate
pub record Blank (i : Insn) : Type 0 where
  pub fits : WellFormed i
  pub takes : TakesName i

zero_operand : (o : Operand) → o.reg ≡ 0 → o.indirect ≡ false → o ≡ record { reg = 0; indirect = false }
zero_operand o r i =
    let make : ℕ → Bool → Operand = λ n b. record { reg = n; indirect = b } in
    ap (λ n. make n o.indirect) r ∙ ap (λ b. make 0 b) i

target_fits : (far relative : Bool) (op : Operand) (extra : Extra) → TargetFits far op extra → (far && not relative) ≡ true →
    TargetFits far op (Imm (pos 0)) × (op ≡ record { reg = 0; indirect = false }) × ((far || relative) ≡ true)
target_fits true relative op Nothing fits is = absurd fits
target_fits true relative op (Imm v) fits is = ((fits.0, fits.1, omega arith), zero_operand op fits.0 fits.1, refl)
target_fits true relative op (Idx x) fits is = absurd fits
target_fits false relative op extra fits is = cc

blank : (i : Insn) → WellFormed i → takes_label i ≡ true → Blank (without_immediate i)
blank (insns.MoveImm sizes.Qword bits left lidx imm) fits is =
    let all : bits ≡ 64 = grind (arith, nat_tests) in
    let small : 0 < 2 ^ (bits - 1) = rw all (omega arith) in
    record { fits = (fits.0, fits.1, fits.2, fits.3, small); takes = (refl, all, refl) }
blank (insns.Jump cond far relative op extra) fits is = let t = target_fits far relative op extra fits is in
    record { fits = t.0; takes = (t.1, refl, t.2) }
blank (insns.Call far native relative op extra) fits is = let t = target_fits far relative op extra fits is in
    record { fits = t.0; takes = (t.1, refl, t.2) }
blank i fits is = cc

-- A label stands in place of the immediate.
pub label_fits :
    (i : Insn) (target : ℕ) → WellFormed i → takes_label i ≡ true → ListedFits (listed.Instruction (without_immediate i) (Some target))
label_fits i target fits is = let b = blank i fits is in (b.fits, (b.takes, label_name target))

-- a label that may stand there stands where one may
pub may_takes : (i : Insn) (label : Option ℕ) (target : ℕ) → label ≡ Some target → MayHave i (Some label) → takes_label i ≡ true
may_takes i None target e may = cc
may_takes i (Some t) target e may = may.0

-- the same of an instruction that was made without its immediate
pub made_fits :
    (i j : Insn) (target : ℕ) → WellFormed i → takes_label i ≡ true → j ≡ without_immediate i
    → ListedFits (listed.Instruction j (Some target))
made_fits i j target fits takes is =
    let P : Insn → Type 0 = λ k. ListedFits (listed.Instruction k (Some target)) in subst P (sym is) (label_fits i target fits takes)
