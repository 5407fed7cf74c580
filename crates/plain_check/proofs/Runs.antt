-- The runs of neutral code: the same at every width, and kept to the code.
use Rattle.plain_check.proofs.Common.{◌≡◌, ◌≢◌, ℕ, ◌+◌, ◌%◌, ◌<◌, ◌≤◌, zero, suc, Bool, true, false, ◌&&◌, not, nat_eq, List, [], ◌∷◌}
use Rattle.plain_check.proofs.Common.{length, drop, Option, Result, Ok, ℤ, pos, negsuc, refl, sym, ap, ◌∙◌, subst, arith, inl, inr}
use Rattle.plain_check.proofs.Common.{length-drop, cases_Bool, and_parts, nat_tests, Index, Operand, Extra, Nothing, Imm, Idx, Insn, Jump8}
use Rattle.plain_check.proofs.Common.{DecodeFault, read, read_length, computed, compared, with_register, with_flags, at_ip, goes, value}
use Rattle.plain_check.proofs.Common.{written, sum_at, arith_row, compare_row, move_imm_row, jump8_row, executed, Neutral, is_plain, starts}
use Rattle.plain_check.proofs.Common.{passes, lands, falls_through, jump_target, plain_verdict, IsStart, GoesOn, Returned, Stopped}
use Rattle.plain_check.proofs.Common.{plain_step, plain_run, plain_machine}
use Rattle.std.proofs.{Common.◌*◌, Common.◌^◌, Common.◌+ℤ◌, Common.◌*ℤ◌, lemmas.Int.ints, Math.IntN.neg_ℤ, Math.IntN.negsuc-*ℤ-pos}
use Rattle.std.proofs.Math.IntN.{pos-*ℤ-negsuc}
use Rattle.ebc_width.specs.Width.{wrap64}
use Rattle.ebc_insn.specs.declared.{Cond.Cond, Cond.TheVariants.Always, Cond.TheVariants.Set, Cond.TheVariants.Clear, Insn.TheVariants.Ret}
use Rattle.ebc_insn.specs.declared.Insn.TheVariants.{Compare, Arith, MoveImm}
use Rattle.machine_alu.specs.Alu.{outcome, low}
use Rattle.note_types.specs.Concrete.{Concrete, register}
use Rattle.ebc_machine.specs.{Operands.low_bytes, Data.with_c, Flow.is_taken}
use Rattle.plain_check.specs.PlainRuns.{Progress, PlainState, done_at, KeepsTo, KeepsToCode, RunsAlike}
use Rattle.plain_check.proofs.{Readings.is_index, Readings.misplaced, Readings.read-placed, Starts.Good, Starts.GoodStarts}
use Rattle.plain_check.proofs.{Starts.good-starts, Starts.head-started, Starts.no-rule, Rules.start-is, Rules.reached-started}
use Rattle.plain_check.proofs.Rules.{reached-even}
use Rattle.ebc_insn.specs.declared.Size.TheVariants as sizes
use Rattle.ebc_insn.specs.declared.CmpOp.TheVariants as cmps
use Rattle.ebc_insn.specs.declared.ArithOp.TheVariants as ops
use Rattle.ebc_machine.specs.declared.StepEnd.TheVariants as ends

-- ---- the rows of plain code

-- at every width the instruction is done, and leads to the place `to`
record LeadsOn (s : Concrete) (next : ℕ) (i : Insn) (to : ℕ) : Type 0 where
  after : Concrete
  row : (w : ℕ) → executed w s next i ≡ Ok (ends.Next, after)
  there : after.ip ≡ to

went : (s : Concrete) (to : ℕ) → (at_ip s to).ip ≡ to
unfolding at_ip
went s to = refl

direct : (b : Bool) → not b ≡ true → b ≡ false
direct true e = cc
direct false e = refl

move-leads : (s : Concrete) (next : ℕ) (bits : ℕ) (left : Operand) (lidx : Option Index) (imm : ℤ) → left.indirect ≡ false
    → LeadsOn s next (MoveImm sizes.Qword bits left lidx imm) next
unfolding executed move_imm_row written goes
move-leads s next bits left lidx imm register =
    let done : Concrete = with_register s left.reg (low_bytes 8 (wrap64 imm)) in
    record { after = at_ip done next; row = λ w. rw register refl; there = went done next }

-- ADD64 of what two registers hold, with what stands beside the second
abbrev added : Concrete → Operand → Operand → ℕ → Concrete
added s left right offset = with_register s left.reg (outcome 64 ops.Add (low 64 (sum_at s left.reg 0))
    (low 64 (sum_at s right.reg offset)))

arith-leads : (s : Concrete) (next : ℕ) (left right : Operand) (extra : Extra) → left.indirect ≡ false → right.indirect ≡ false
    → is_index extra ≡ false → LeadsOn s next (Arith ops.Add true left right extra) next
unfolding executed arith_row value written goes computed
arith-leads s next left right Nothing one two plain =
    let done : Concrete = added s left right 0 in
    record { after = at_ip done next; row = λ w. rw (one, two) refl; there = went done next }
arith-leads s next left right (Imm v) one two plain =
    let done : Concrete = added s left right (wrap64 v) in
    record { after = at_ip done next; row = λ w. rw (one, two) refl; there = went done next }
arith-leads s next left right (Idx index) one two plain = cc

-- CMP64eq of a register with another and what stands beside it
abbrev compared_to : Concrete → ℕ → Operand → ℕ → Concrete
compared_to s left right offset = with_flags s (with_c s.flags (compared cmps.Eq true (register s left) (sum_at s right.reg offset)))

compare-leads : (s : Concrete) (next : ℕ) (left : ℕ) (right : Operand) (extra : Extra) → right.indirect ≡ false → is_index extra ≡ false
    → LeadsOn s next (Compare cmps.Eq true left right extra) next
unfolding executed compare_row value goes
compare-leads s next left right Nothing two plain =
    let done : Concrete = compared_to s left right 0 in
    record { after = at_ip done next; row = λ w. rw two refl; there = went done next }
compare-leads s next left right (Imm v) two plain =
    let done : Concrete = compared_to s left right (wrap64 v) in
    record { after = at_ip done next; row = λ w. rw two refl; there = went done next }
compare-leads s next left right (Idx index) two plain = cc

-- a product of a number below 0 by 2
twice : (k : ℕ) → negsuc k *ℤ pos 2 ≡ negsuc (2 * k + 1)
twice k = negsuc-*ℤ-pos k 2 ∙ ap (λ n. neg_ℤ (pos n)) {x = suc k * 2} {y = suc (2 * k + 1)} (omega arith)

twice-left : (k : ℕ) → pos 2 *ℤ negsuc k ≡ negsuc (2 * k + 1)
twice-left k = pos-*ℤ-negsuc 2 k ∙ ap (λ n. neg_ℤ (pos n)) {x = 2 * suc k} {y = suc (2 * k + 1)} (omega arith)

-- the place that a JMP8 names, as the machine finds it
target : (next place : ℕ) (words : ℤ) → place < 2 ^ 63 → jump_target next words ≡ pos place
    → (next + wrap64 (words *ℤ pos 2)) % 2 ^ 64 ≡ place
target next place (pos k) small e = omega (arith, ints)
target next place (negsuc k) small e =
    let named : pos next +ℤ negsuc (2 * k + 1) ≡ pos place = ap (λ z. pos next +ℤ z) (sym (twice-left k)) ∙ e in
    rw (twice k) (omega (arith, ints, named))

jump-leads : (s : Concrete) (next to : ℕ) (cond : Cond) (words : ℤ) → to < 2 ^ 63 → to % 2 ≡ 0 → jump_target next words ≡ pos to
    → is_taken cond s.flags ≡ true → LeadsOn s next (Jump8 cond words) to
unfolding executed jump8_row goes
jump-leads s next to cond words small even named taken =
    let there = target next to words small named in
    let whole : nat_eq (to % 2) 0 ≡ true = grind (arith, nat_tests) in
    record { after = at_ip s to; row = λ w. rw (taken, there, whole) refl; there = went s to }

untaken-leads : (s : Concrete) (next : ℕ) (cond : Cond) (words : ℤ) → is_taken cond s.flags ≡ false → LeadsOn s next (Jump8 cond words) next
unfolding executed jump8_row goes
untaken-leads s next cond words untaken = record { after = at_ip s next; row = λ w. rw untaken refl; there = went s next }

-- a jump that may not be taken may be passed
passed : (cond : Cond) (words : ℤ) (flags : ℕ) → is_taken cond flags ≡ false → falls_through (Jump8 cond words) ≡ true
passed Always words flags e = cc
passed Set words flags e = refl
passed Clear words flags e = refl

-- ---- one step

-- code at whose starts no rule fails
record Checked (code : List ℕ) : Type 0 where
  small : length code < 2 ^ 32
  good : (p : ℕ) → starts code p ≡ true → Good code (starts code) (starts code) p
  begins : starts code 0 ≡ true

-- what has been read at a start, and what follows it
record Met (code : List ℕ) (next : ℕ) (i : Insn) : Type 0 where
  within : next ≤ length code
  plain : is_plain i ≡ true
  landed : lands (starts code) next i ≡ true
  not_last : (nat_eq next (length code) && falls_through i) ≡ false
  follows : next < length code → starts code next ≡ true
  placed : misplaced i ≡ false

-- an instruction that control may pass is followed by a start
followed : (code : List ℕ) (next : ℕ) (i : Insn) → Met code next i → falls_through i ≡ true → starts code next ≡ true
followed code next i met falls = elim (cases_Bool (nat_eq next (length code))) [
  | inl last ↦ absurd (both last falls met.not_last)
  | inr more ↦ met.follows (let apart : next ≢ length code = grind (arith, nat_tests) in omega (arith, met.within))
] where
  both : {a b : Bool} → a ≡ true → b ≡ true → (a && b) ≡ false → ⊥
  both {a} {b} p q r = let e : (a && b) ≡ true = rw (p, q) refl in cc

-- at every width the same is done with what was read, and the run keeps to the code
record Steps (code : List ℕ) (s : Concrete) (found : Result (Insn × ℕ) DecodeFault) : Type 0 where
  after : PlainState
  each : (w : ℕ) → done_at w s found ≡ after
  keeps : KeepsToCode code after

-- an instruction that leads to a start
abbrev Reaches : List ℕ → Concrete → ℕ → Insn → Type 0
Reaches code s next i = (to : ℕ) × LeadsOn s next i to × (starts code to ≡ true)

at-start : (code : List ℕ) (s : Concrete) (to : ℕ) → s.ip ≡ to → starts code to ≡ true → IsStart code s.ip
at-start code s to there started = start-is code s.ip (rw there started)

no-index : (register : Bool) (x : Bool) → register ≡ false → (not register && x) ≡ false → x ≡ false
no-index true x e f = cc
no-index false x e f = f

start-small : (code : List ℕ) (p : ℕ) → Checked code → starts code p ≡ true → p < 2 ^ 63
start-small code p checked started =
    let g = checked.good p started in
    let sizes = read_length (drop p code) g.insn g.size g.reads in
    omega (arith, sizes.0, sizes.1, length-drop p code, checked.small)

start-even : (code : List ℕ) (p : ℕ) → starts code p ≡ true → p % 2 ≡ 0
start-even code p started = let reached = (start-is code p started).reached in reached-even code reached.0 p reached.1

named-place : (st : ℕ → Bool) (address : ℤ) → passes st address ≡ true → (place : ℕ) × (address ≡ pos place) × (st place ≡ true)
named-place st (pos place) e = (place, refl, e)
named-place st (negsuc n) e = cc

jump-reaches : (code : List ℕ) (s : Concrete) (next : ℕ) (cond : Cond) (words : ℤ) → Checked code → Met code next (Jump8 cond words)
    → (taken : Bool) → is_taken cond s.flags ≡ taken → Reaches code s next (Jump8 cond words)
jump-reaches code s next cond words checked met true taken =
    let t = named-place (starts code) (jump_target next words) met.landed in
    (t.0, jump-leads s next t.0 cond words (start-small code t.0 checked t.2) (start-even code t.0 t.2) t.1 taken, t.2)
jump-reaches code s next cond words checked met false untaken =
    (next, untaken-leads s next cond words untaken, followed code next (Jump8 cond words) met (passed cond words s.flags untaken))

-- what isn't a RET leads to a start
reaches : (code : List ℕ) (s : Concrete) (next : ℕ) (i : Insn) → Checked code → Met code next i → i ≢ Ret → Reaches code s next i
reaches code s next Ret checked met other = absurd (other refl)
reaches code s next (Jump8 cond words) checked met other = jump-reaches code s next cond words checked met (is_taken cond s.flags) refl
reaches code s next (MoveImm sizes.Qword bits left lidx imm) checked met other =
    let facts = and_parts (nat_eq bits 16) (not left.indirect) met.plain in (
      next,
      move-leads s next bits left lidx imm (direct left.indirect facts.1),
      followed code next (MoveImm sizes.Qword bits left lidx imm) met refl,
    )
reaches code s next (Arith ops.Add true left right extra) checked met other =
    let facts = and_parts (not left.indirect) (not right.indirect) met.plain in
    let two = direct right.indirect facts.1 in (
      next,
      arith-leads s next left right extra (direct left.indirect facts.0) two (no-index right.indirect (is_index extra) two met.placed),
      followed code next (Arith ops.Add true left right extra) met refl,
    )
reaches code s next (Compare cmps.Eq true left right extra) checked met other =
    let two = direct right.indirect met.plain in (
      next,
      compare-leads s next left right extra two (no-index right.indirect (is_index extra) two met.placed),
      followed code next (Compare cmps.Eq true left right extra) met refl,
    )
reaches code s next i checked met other = let plain = met.plain in cc

-- an instruction that goes on
other-steps : (code : List ℕ) (s : Concrete) (i : Insn) (n : ℕ) → (s.ip + n) % 2 ^ 64 ≡ s.ip + n → i ≢ Ret → Reaches code s (s.ip + n) i
    → Steps code s (Ok (i, n))
other-steps code s Ret n whole other leads = absurd (other refl)
other-steps code s i n whole other leads = record {
  after = record { progress = GoesOn; machine = leads.1.after };
  each = λ w. rw (whole, leads.1.row w) refl;
  keeps = at-start code leads.1.after leads.0 leads.1.there leads.2;
}

insn-steps : (code : List ℕ) (s : Concrete) (i : Insn) (n : ℕ) → Checked code → read (drop s.ip code) ≡ Ok (i, n) → Met code (s.ip + n) i
    → Steps code s (Ok (i, n))
insn-steps code s Ret n checked reads met = record {
  after = record { progress = Returned; machine = s };
  each = λ w. refl;
  keeps = (n, reads);
}
insn-steps code s i n checked reads met =
    let other : i ≢ Ret = λ e. cc in
    other-steps code s i n (omega (arith, met.within, checked.small)) other (reaches code s (s.ip + n) i checked met other)

start-steps : (code : List ℕ) (s : Concrete) → Checked code → starts code s.ip ≡ true → Steps code s (read (drop s.ip code))
start-steps code s checked started =
    let g = checked.good s.ip started in
    let sizes = read_length (drop s.ip code) g.insn g.size g.reads in
    let facts = no-rule (is_plain g.insn) (lands (starts code) (s.ip + g.size) g.insn) _ g.rule in
    rw g.reads (insn-steps code s g.insn g.size checked g.reads (record {
      within = omega (arith, sizes.0, sizes.1, length-drop s.ip code);
      plain = facts.0;
      landed = facts.1;
      not_last = facts.2;
      follows = g.next;
      placed = read-placed (drop s.ip code) g.insn g.size g.reads;
    }))

-- ---- the run

-- after so many steps the state is the same at every width, and keeps to the code
record Stands (code : List ℕ) (steps : ℕ) : Type 0 where
  state : PlainState
  each : (w : ℕ) → plain_run w code steps ≡ state
  keeps : KeepsToCode code state

is-started : (code : List ℕ) (p : ℕ) → IsStart code p → starts code p ≡ true
is-started code p start = reached-started code start.reached.0 p start.reached.1 start.decodes

next-state : (code : List ℕ) (steps : ℕ) → Checked code → (progress : Progress) (s : Concrete) → KeepsTo code s.ip progress
    → (each : (w : ℕ) → plain_run w code steps ≡ record { progress = progress; machine = s }) → Stands code (suc steps)
unfolding plain_run plain_step
next-state code steps checked GoesOn s keeps each =
    let step = start-steps code s checked (is-started code s.ip keeps) in
    record { state = step.after; each = λ w. rw (each w) (step.each w); keeps = step.keeps }
next-state code steps checked Returned s keeps each =
    record { state = record { progress = Returned; machine = s }; each = λ w. rw (each w) refl; keeps = keeps }
next-state code steps checked (Stopped end) s keeps each = absurd keeps

stands : (code : List ℕ) (steps : ℕ) → Checked code → Stands code steps
unfolding plain_run
stands code zero checked = record {
  state = record { progress = GoesOn; machine = plain_machine };
  each = λ w. refl;
  keeps = start-is code 0 checked.begins;
}
stands code (suc steps) checked =
    let now = stands code steps checked in
    next-state code steps checked now.state.progress now.state.machine now.keeps now.each

checked-code : (code : List ℕ) → length code < 2 ^ 32 → plain_verdict code ≡ Neutral → Checked code
unfolding plain_verdict GoodStarts
checked-code [] small neutral = cc
checked-code (b ∷ bytes) small neutral =
    let code = b ∷ bytes in
    record {
      small = small;
      good = good-starts code (starts code) 0 neutral;
      begins = head-started code (starts code) (length code) 0 neutral (omega arith);
    }

-- what the plain check calls neutral runs alike at both widths, and keeps to the code
pub neutral-alike : (code : List ℕ) → length code < 2 ^ 32 → plain_verdict code ≡ Neutral → RunsAlike code
neutral-alike code small neutral = record {
  same = λ steps. let s = at steps in s.each 4 ∙ sym (s.each 8);
  narrow = λ steps. let s = at steps in subst (KeepsToCode code) (sym (s.each 4)) s.keeps;
  wide = λ steps. let s = at steps in subst (KeepsToCode code) (sym (s.each 8)) s.keeps;
} where
  at : (steps : ℕ) → Stands code steps
  at steps = stands code steps (checked-code code small neutral)
