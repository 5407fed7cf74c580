-- The instructions on data tell what their rows give, and the first rule by which these fail.
use Rattle.rules_laws.proofs.Common.{◌≡◌, ℕ, Bool, Option, refl, sym, ap, ◌∙◌, Ok, Err, ℤ, is_none, Index, ArithOp, CmpOp, Extra, Insn}
use Rattle.rules_laws.proofs.Common.{Compare, Arith, Move, MoveSigned, MoveImm, Operand, Size, FnNote, Notes, RuleName, State, Here}
use Rattle.rules_laws.proofs.Common.{changed, Tells, gives_map, OrRule, form_access, divisor_known, after_data, arith_row, compare_row}
use Rattle.rules_laws.proofs.Common.{data_change, data_row, held, left_operand, move_imm_row, move_row, move_signed_row, DataFirst}
use Rattle.rules_laws.proofs.Common.{DataRelated}
use Rattle.rules_data.specs.Rule.{arith_part, change_part, compare_part, data_part, left_part, move_imm_part, move_part, move_signed_part}
use Rattle.rules_data.specs.Rule.{plain_part}
use Rattle.rules_data.specs.Data.{plain_row}
use Rattle.rules_laws.proofs.FirstRule.{tells_alone, tells_also, tells_beside, tells_needs, tells_seen, tells_then, tells_where}
use Rattle.note_types.specs.declared.rule.RuleName.TheVariants as rule

-- ---- rows

tells_left : (notes : Notes) (f : FnNote) (s : State) (wide : Bool) (op : Operand)
    → Tells (left_operand notes f s (form_access wide) op) (left_part notes f s wide op)
unfolding left_operand left_part
tells_left notes f s wide op = tells_seen held _ _ (tells_beside _ _ _ _ (tells_alone _) (tells_alone _))

tells_arith : (notes : Notes) (f : FnNote) (s : State) (op : ArithOp) (wide : Bool) (left right : Operand) (extra : Extra)
    → Tells (arith_row notes f s op wide left right extra) (arith_part notes f s op wide left right extra)
unfolding arith_row arith_part
tells_arith notes f s op wide left right extra =
    tells_then _ _ _ _ (tells_beside _ _ _ _ (tells_left notes f s wide left) (tells_alone _))
    (λ p. tells_also _ _ _ _ (tells_alone _) (tells_needs rule.Divide (divisor_known op p.1.ty)))

tells_compare : (notes : Notes) (f : FnNote) (s : State) (op : CmpOp) (wide : Bool) (left : ℕ) (right : Operand) (extra : Extra)
    → Tells (compare_row notes f s op wide left right extra) (compare_part notes f s op wide left right extra)
unfolding compare_row compare_part
tells_compare notes f s op wide left right extra = tells_then _ _ _ _ (tells_beside _ _ _ _ (tells_alone _) (tells_alone _))
    (λ p. tells_alone _)

tells_move : (notes : Notes) (f : FnNote) (s : State) (size : Size) (left right : Operand) (lidx ridx : Option Index)
    → Tells (move_row notes f s size left right lidx ridx) (move_part notes f s size left right lidx ridx)
unfolding move_row move_part
tells_move notes f s size left right lidx ridx =
    tells_then _ _ _ _ (tells_beside _ _ _ _ (tells_alone _) (tells_alone _))
    (λ p. tells_also _ _ _ _ (tells_alone _) (tells_needs rule.Thunk p.1.made))

tells_move_signed : (notes : Notes) (f : FnNote) (s : State) (left right : Operand) (lidx : Option Index) (extra : Extra)
    → Tells (move_signed_row notes f s left right lidx extra) (move_signed_part notes f s left right lidx extra)
unfolding move_signed_row move_signed_part
tells_move_signed notes f s left right lidx extra = tells_then _ _ _ _ (tells_beside _ _ _ _ (tells_alone _) (tells_alone _))
    (λ p. tells_alone _)

tells_move_imm : (notes : Notes) (f : FnNote) (here : Here) (s : State) (size : Size) (bits : ℕ) (left : Operand) (lidx : Option Index)
    (imm : ℤ) → Tells (move_imm_row notes f here s size bits left lidx imm) (move_imm_part notes f here s size bits left lidx imm)
unfolding move_imm_row move_imm_part
tells_move_imm notes f here s size bits left lidx imm = tells_then _ _ _ _ (tells_beside _ _ _ _ (tells_alone _) (tells_alone _))
    (λ p. tells_alone _)

-- ---- all instructions

tells_plain : (notes : Notes) (f : FnNote) (here : Here) (s : State) (i : Insn)
    → Tells (plain_row notes f here s i) (plain_part notes f here s i)
tells_plain notes f here s (Compare op wide left right extra) = tells_compare notes f s op wide left right extra
tells_plain notes f here s (Arith op wide left right extra) = tells_arith notes f s op wide left right extra
tells_plain notes f here s (Move size bits left right lidx ridx) = tells_move notes f s size left right lidx ridx
tells_plain notes f here s (MoveSigned bits left right lidx extra) = tells_move_signed notes f s left right lidx extra
tells_plain notes f here s i = tells_alone (plain_row notes f here s i)

tells_data : (notes : Notes) (f : FnNote) (here : Here) (s : State) (i : Insn)
    → Tells (data_row notes f here s i) (data_part notes f here s i)
tells_data notes f here s (MoveImm size bits left lidx imm) = tells_move_imm notes f here s size bits left lidx imm
tells_data notes f here s i = tells_where (is_none here.reloc) rule.Relocation (plain_row notes f here s i) (plain_part notes f here s i)
    (tells_plain notes f here s i)

pub tells_change : (notes : Notes) (here : Here) (s : State) (i : Insn) → Tells (data_change notes here s i) (change_part notes here s i)
unfolding data_change change_part
tells_change notes here s i = tells_then _ _ _ _ (tells_alone _) (λ f. tells_data notes f here s i)

-- ---- the call

unmapped : {A B : Type 0} (f : A → B) (g : OrRule A) (r : RuleName) → gives_map f g ≡ Err r → g ≡ Err r
unmapped f (Ok x) r e = absurd cc
unmapped f (Err q) r e = let i : q ≡ r = cc in ap Err i

mapped : {A B : Type 0} (f : A → B) (g : OrRule A) (r : RuleName) → g ≡ Err r → gives_map f g ≡ Err r
mapped f (Ok x) r e = absurd cc
mapped f (Err q) r e = let i : q ≡ r = cc in ap Err i

found : {A B : Type 0} (f : A → B) (g : OrRule A) (y : B) → gives_map f g ≡ Ok y → (x : A) × (g ≡ Ok x) × (y ≡ f x)
found f (Ok x) y e = (x, refl, let i : f x ≡ y = cc in sym i)
found f (Err q) y e = absurd cc

pub data_related : (notes : Notes) (here : Here) (s : State) (i : Insn) → DataRelated notes here s i (after_data notes here s i)
unfolding after_data
data_related notes here s i = λ next post. (
  λ h. (ap (gives_map (changed s)) (((tells_change notes here s i).given h.1).1 h.2) ∙ ap Ok (sym h.3), h.0),
  λ h. let c = found (changed s) (data_change notes here s i) post h.0 in (h.1, c.0, ((tells_change notes here s i).given c.0).0 c.1, c.2),
)

pub data_first : (notes : Notes) (here : Here) (s : State) (i : Insn) → DataFirst notes here s i (after_data notes here s i)
unfolding after_data
data_first notes here s i = λ r. (
  λ h. ((tells_change notes here s i).first r).0 (unmapped (changed s) (data_change notes here s i) r h),
  λ h. mapped (changed s) (data_change notes here s i) r (((tells_change notes here s i).first r).1 h),
)
