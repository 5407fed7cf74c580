-- Laws of entering and leaving: the machine inside a function, and the frame that keeps it as it was.
use Rattle.entry_thunk.proofs.Common.{◌≡◌, ℕ, ◌+◌, ◌-◌, ◌%◌, ◌^◌, ◌<◌, ◌≤◌, true, false, List, sym, ap, ap₂, ◌∙◌, arith, Memory, Concrete}
use Rattle.entry_thunk.proofs.Common.{params_bytes, inside, concrete_of, with_cells}
use Rattle.std.specs.Prelude.{slice_set, nat_le}
use Rattle.std.proofs.{lemmas.Bool.Decides.nat_tests, Math.Nat.mod-eq_of_lt}
use Rattle.note_types.specs.Concrete.{register}
use Rattle.note_types.specs.declared.notes.Param.{Param}
use Rattle.host_model.specs.{Values.minus, Progress.NoCall, HostSteps.frame_for}
use Rattle.ebc_machine.specs.declared.Machine.{Machine}
use Rattle.callex_thunk.specs.HostFrames.{saved_of, call_of}
use Rattle.entry_thunk.specs.Entering.{frame_of}

-- a state where control is in a function, with R0 at these cells
abbrev pub called_at : Concrete → (target top : ℕ) → Concrete
called_at s target top = record s { registers = slice_set s.registers 0 top; ip = target; flags = 0 }

-- the machine inside a function is the one with the function's cells stored
pub inside-cells : (w : ℕ) (s : Concrete) (target top n : ℕ) (ps : List Param) (numbers : List ℕ) → params_bytes w ps ≡ n → n ≤ 128
    → top ≡ (register s 0 + (2 ^ 64 - (16 + n))) % 2 ^ 64
    → inside w s target ps numbers ≡ with_cells w top ps numbers (called_at s target top)
unfolding inside with_cells
inside-cells w s target top n ps numbers bytes most is =
    let sum : 16 + params_bytes w ps ≡ 16 + n = ap (λ k. 16 + k) bytes in
    let small : (16 + n) % 2 ^ 64 ≡ 16 + n = omega arith in
    let at : minus (register s 0) (16 + params_bytes w ps) ≡ top = ap (minus (register s 0)) sum
    ∙ (ap (λ k. (register s 0 + (2 ^ 64 - k)) % 2 ^ 64) small ∙ sym is) in
    ap (λ k. with_cells w k ps numbers (called_at s target k)) at

-- the frame that keeps a machine is read as the one that keeps its state
pub saved-frame : (w : ℕ) (m : Machine w) (n : Memory) (func : ℕ) → func < 2 ^ 31
    → saved_of (frame_of m func) ≡ frame_for false (concrete_of m n) func
unfolding saved_of call_of frame_of
saved-frame w m n func less =
    let unmarked : nat_le (2 ^ 31) func ≡ false = grind (arith, nat_tests) in
    ap₂ (λ f b. record { func = f; notified = b; registers = m.regs; ip = m.ip; flags = m.flags; call = NoCall })
    (mod-eq_of_lt less) unmarked

-- and so is one of a notification
pub marked-frame : (w : ℕ) (m : Machine w) (n : Memory) (func : ℕ) → func < 2 ^ 31
    → saved_of (frame_of m (func + 2 ^ 31)) ≡ frame_for true (concrete_of m n) func
unfolding saved_of call_of frame_of
marked-frame w m n func less =
    let marked : nat_le (2 ^ 31) (func + 2 ^ 31) ≡ true = grind (arith, nat_tests) in
    let number : (func + 2 ^ 31) % 2 ^ 31 ≡ func = omega arith in
    ap₂ (λ f b. record { func = f; notified = b; registers = m.regs; ip = m.ip; flags = m.flags; call = NoCall }) number marked
