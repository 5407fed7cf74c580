-- The table of the rows on data.
use Rattle.typing_laws.proofs.Common.{◌≡◌, ℕ, ◌<◌, Bool, true, false, not, ◌&&◌, if◌then◌else◌, is_none, nat_eq, List, Option, Some, None}
use Rattle.typing_laws.proofs.Common.{Result, Ok, Err, slice_get, refl, sym, ap, ap₂, ◌∙◌, subst, arith, ⊎_elim, true≢false, none-some}
use Rattle.typing_laws.proofs.Common.{or_else, LeftFits, WellFormed, Insn, Operand, Size, Index, FnNote, Notes, RuleName, State, changed}
use Rattle.typing_laws.proofs.Common.{destination, index_distance, beside, gives_map, Change, Destination, Here, Distance, after_data}
use Rattle.typing_laws.proofs.Common.{data_row, move_access, move_value, indexed, plainly, NeutralEnd, Site, executed, is_stack_pointer}
use Rattle.typing_laws.proofs.Common.{FunctionFrame, Frame, Config, World, Accepts, StandsTyped, WorldTyped, here_of, TopFits, falls}
use Rattle.typing_laws.proofs.Common.{Successors, Outcome, Gives, Raises, Stuck}
use Rattle.rules_base.specs.declared.access.Access.{Access}
use Rattle.rules_data.specs.Data.{data_change}
use Rattle.typing_laws.specs.DataTyped.{FallsSound, OneDataRule}
use Rattle.typing_laws.proofs.DataRest.{move_imm_fits, move_index_fits, move_relative_fits, store_special_fits}
use Rattle.typing_laws.proofs.Formed.{beside_fits, left_beside, left_small, move_most, right_small, word_most}
use Rattle.typing_laws.proofs.{Rows.err_ok, Rows.either_ok, Rows.map_ok, Rows.unless_ok, ArithRow.GoesOn, ArithRow.arith_fits}
use Rattle.typing_laws.proofs.{ArithRow.beside_ok, CompareRow.compare_fits, CompareSigned.compare_imm_fits, CompareSigned.move_signed_fits}
use Rattle.typing_laws.proofs.{Context.TopSound, MoveRow.move_fits, Operands.then_ok}
use Rattle.ebc_base.specs.Steps as steps
use Rattle.rules_data.specs.Data as rules_data
use Rattle.neutral_machine.specs.Rows as rows

-- a row behind a test that fails whatever it answers
pub no_row : {A : Type 0} (b : Bool) (r q : RuleName) (k : A) → ◌≡◌ {A = Result A RuleName} (if b then Err r else Err q) (Ok k) → ⊥
no_row true r q k e = err_ok r k e
no_row false r q k e = err_ok q k e

-- a row behind a test
pub past_test : {A : Type 0} (b : Bool) (o : Result A RuleName) (q : RuleName) (k : A) → (if b then o else Err q) ≡ Ok k → o ≡ Ok k
past_test true o q k e = e
past_test false o q k e = absurd (err_ok q k e)

-- an index stands beside memory alone
no_index : (bits : ℕ) (o : Operand) (idx : Option Index) → LeftFits bits o idx → o.indirect ≡ false → idx ≡ None
no_index bits o None h e = refl
no_index bits o (Some i) h e = absurd (true≢false (sym h.0 ∙ e))

-- a value left somewhere isn't left in R0
not_stack : (notes : Notes) (f : FnNote) (s : State) (access : Access) (op : Operand) (d : Distance) (to : Destination)
    → destination notes f s access op d ≡ Ok to → is_stack_pointer (plainly op) ≡ false
unfolding destination
not_stack notes f s access op d to e = either_ok op.indirect _ _ to e (λ h _. ap (λ b. not b && nat_eq op.reg 0) h)
    (λ h e1. unless_ok (nat_eq op.reg 0) _ _ to e1 (λ q _. ap₂ (λ b c. not b && c) h q))

pub not_stack_move : (notes : Notes) (f : FnNote) (s : State) (size : Size) (left right : Operand) (lidx ridx : Option Index) (k : Change)
    → rules_data.move_row notes f s size left right lidx ridx ≡ Ok k → is_stack_pointer (plainly left) ≡ false
unfolding rules_data.move_row
not_stack_move notes f s size left right lidx ridx k e =
    then_ok (beside (destination notes f s (move_access size) left (index_distance lidx)) (move_value notes f s size right ridx)) _ k e
    (λ p e1 e2.
    beside_ok (destination notes f s (move_access size) left (index_distance lidx)) (move_value notes f s size right ridx) p e1
    (λ e3 e4. not_stack notes f s (move_access size) left (index_distance lidx) p.0 e3))

-- what the state after an instruction on data comes from
pub record ChangeFound (notes : Notes) (note : FnNote) (here : Here) (s : State) (i : Insn) (t : State) : Type 0 where
  pub change : Change
  pub row : data_row notes note here s i ≡ Ok change
  pub is : changed s change ≡ t

pub change_found : (notes : Notes) (note : FnNote) (here : Here) (s : State) (i : Insn) (t : State)
    → slice_get notes.function here.func ≡ Some note → after_data notes here s i ≡ Ok t → ChangeFound notes note here s i t
unfolding after_data data_change
change_found notes note here s i t h e = map_ok (changed s) (data_row notes note here s i) t
    (subst (λ o. gives_map (changed s) (steps.◌>>=◌ (or_else RuleName.Function o) (λ f. data_row notes f here s i)) ≡ Ok t) h e)
    (λ k q r. record { change = k; row = q; is = r })

module _ {world : World} {a : Config} {f : FunctionFrame} {fs : List Frame} {note : FnNote} {s : State}
    (st : TopSound world a f fs note s) where
  -- An instruction on data that its rule accepts goes on soundly.
  pub data_fits : (site : Site) (i : Insn) (k : Change) → WellFormed i → site.next < world.image_size
      → data_row world.notes note (here_of site f.func) s i ≡ Ok k
      → Accepts (GoesOn world site.next (changed s k)) (executed world a site i)
  unfolding executed
  data_fits site (Insn.Compare op wide left right extra) k w l e =
      compare_fits st op wide left right extra site.next k w.0
      (beside_fits 16 right extra (omega arith) w.1 w.2) l (past_test (is_none site.reloc) _ RuleName.Relocation k e)
  data_fits site (Insn.CompareImm op wide left idx long imm) k w l e =
      compare_imm_fits st op wide left idx imm site.next k w.0 (no_index 16 left idx w.1)
      (left_beside idx) (left_small 16 left idx (omega arith) w.1) l (past_test (is_none site.reloc) _ RuleName.Relocation k e)
  data_fits site (Insn.Arith op wide left right extra) k w l e =
      arith_fits st op wide left right extra site.next k w.0
      (beside_fits 16 right extra (omega arith) w.1 w.2) l (past_test (is_none site.reloc) _ RuleName.Relocation k e)
  data_fits site (Insn.Move size bits left right lidx ridx) k w l e =
      let q = past_test (is_none site.reloc) _ RuleName.Relocation k e in
      let most = move_most size bits w.0 in
      subst (λ b. Accepts (GoesOn world site.next (changed s k)) (if b then rows.stack_row world a site.next size right lidx ridx
      else rows.move_row world a site.next size (indexed left lidx) (indexed right ridx)))
      (sym (not_stack_move world.notes note s size left right lidx ridx k q))
      (move_fits st size left right lidx ridx site.next k w.1 w.2 (left_beside lidx)
      (left_small bits left lidx most w.3) (left_beside ridx) (right_small bits ridx most w.4) l q)
  data_fits site (Insn.MoveSigned bits left right lidx extra) k w l e =
      let most = word_most bits w.0 in
      move_signed_fits st left right lidx extra site.next k w.1 (left_beside lidx)
      (left_small bits left lidx most w.3) (beside_fits bits right extra most w.2 w.4) l
      (past_test (is_none site.reloc) _ RuleName.Relocation k e)
  data_fits site (Insn.MoveImm size bits left lidx imm) k w l e =
      move_imm_fits st (here_of site f.func) site size bits left lidx imm k refl w.1 w.2
      (left_beside lidx) (left_small 16 left lidx (omega arith) w.3) l e
  data_fits site (Insn.MoveImmNatural bits left lidx idx) k w l e =
      move_index_fits st left lidx idx site.next k w.1 (left_beside lidx) (left_small 16 left lidx (omega arith) w.2) l
      (past_test (is_none site.reloc) _ RuleName.Relocation k e)
  data_fits site (Insn.MoveRelative bits left lidx imm) k w l e =
      move_relative_fits st (here_of site f.func) left lidx imm site.next k refl w.1 l
      (past_test (is_none site.reloc) _ RuleName.Relocation k e)
  data_fits site (Insn.StoreSpecial to special) k w l e = store_special_fits st to special site.next k w.0 l
      (past_test (is_none site.reloc) _ RuleName.Relocation k e)
  data_fits site c k w l e = absurd (no_row (is_none site.reloc) RuleName.Form RuleName.Relocation k e)

-- what is known where an instruction stands
pub top_sound : (world : World) (a : Config) (f : FunctionFrame) (fs : List Frame) (note : FnNote) (here : Site) (s : State) (i : Insn)
    (x : Successors) → WorldTyped world → StandsTyped world a f fs note here s i x → TopSound world a f fs note s
top_sound world a f fs note here s i x ok h = record {
  frames = h.frames;
  top = subst (λ z. TopFits world a z s) h.frames h.sound.top;
  below = h.sound.below;
  there = h.there;
  state = h.state;
  typed = ok;
}

-- what an instruction on data leaves
falls_sound : (world : World) (here : Site) (z : State) (o : Outcome (NeutralEnd × Config))
    → Accepts (GoesOn world here.next z) o → Accepts (FallsSound world here z) o
falls_sound world here z Stuck h = h
falls_sound world here z (Raises e) h = h
falls_sound world here z (Gives (e, b)) h =
    (h.ends, h.spot, record { top = subst (λ fs. TopFits world b fs z) (sym h.after.frames) h.after.top; below = h.after.below })

-- An instruction on data that its rule accepts goes on soundly at the next place.
pub one_data_rule : OneDataRule
one_data_rule world a f fs note here s i t ok h e =
    let st = top_sound world a f fs note here s i (falls t) ok h in
    let c = change_found world.notes note (here_of here f.func) s i t h.there e in
    let inside : here.next < world.image_size = ⊎_elim (λ n. absurd (none-some t (sym n))) (λ n. n) h.inside in
    subst (λ z. Accepts (FallsSound world here z) (executed world a here i)) c.is
    (falls_sound world here (changed s c.change) (executed world a here i) (data_fits st here i c.change h.well_formed inside c.row))
