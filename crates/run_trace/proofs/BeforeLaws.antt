-- What is seen of a run before a step and after it is what the step is made of.
use Rattle.std.proofs.Common.{◌≡◌, ℕ, Bool, true, false, List, drop, length, Option, None, Result, Ok, Err}
use Rattle.std.proofs.Common.{◌++◌, append_assoc, sym, ap, ◌∙◌, if◌then◌else◌}
use Rattle.std.specs.Prelude.{OnOk}
use Rattle.std.specs.Option.{option_and_then, option_map}
use Rattle.ebc_base.specs.Steps.{◌>>=◌, or_else}
use Rattle.ebc_decode.specs.Reading.{read}
use Rattle.ebc_insn.specs.declared.Insn.{Insn}
use Rattle.ebc_width.specs.Ranges.{Range}
use Rattle.ebc_machine.specs.Fetch.{fetched, or_exception}
use Rattle.host_model.specs.HostSteps.{spot_of}
use Rattle.host_model.specs.Placements.{own_placement}
use Rattle.host_model.specs.RunState.{RunState}
use Rattle.host_model.specs.World.{World}
use Rattle.note_types.specs.Concrete.{Concrete, rest_from}
use Rattle.note_types.specs.declared.event.Event.{Event}
use Rattle.note_types.specs.declared.exception.Exception.TheVariants as raises
use Rattle.note_types.specs.declared.notes.Notes.{Notes}
use Rattle.note_types.specs.declared.spot.Spot.{Spot}
use Rattle.step_texts.specs.StepTexts.{step_text}
use Rattle.step_texts.specs.declared.step.Change.{Change}
use Rattle.step_texts.specs.declared.step.Step.{Step}
use Rattle.step_texts.specs.declared.step.Stored.{Stored}
use Rattle.twin_run.specs.Watching.{has_c, is_hosts_turn}
use Rattle.run_trace.specs.Pointed.{pointed_lines}
use Rattle.run_trace.specs.Steps.{before_of, bytes_of, flag_change, insn_of, laid, next_insn, next_store, register_changes, step_of}
use Rattle.run_trace.specs.Steps.{stored_in}
use Rattle.run_trace.specs.Addresses.{held}
use Rattle.run_trace.specs.Stores.{stored_by}
use Rattle.run_trace.specs.Traces.{step_lines}
use Rattle.run_trace.specs.declared.before.Before.{Before}
use Rattle.run_trace.specs.declared.stores.StoreRange.{StoreRange}

-- ---- the instruction

-- where no object holds ip none is found
pub none-found : (s : Concrete) → rest_from s s.ip ≡ None → None ≡ insn_of (fetched s)
unfolding fetched
none-found s none = sym (ap (λ o. insn_of (or_else raises.MemoryFault o >>= (λ bytes. or_exception (read bytes)))) none)

pub hosts-none : (world : World) (r : RunState) → true ≡ is_hosts_turn world r → None ≡ next_insn world r
unfolding next_insn
hosts-none world r hosts = ap (λ b. if b then None else insn_of (fetched r.machine)) hosts

pub machines-insn : (world : World) (r : RunState) (insn : Option Insn) → false ≡ is_hosts_turn world r → insn ≡ insn_of (fetched r.machine)
    → insn ≡ next_insn world r
unfolding next_insn
machines-insn world r insn machines found = found ∙ ap (λ b. if b then None else insn_of (fetched r.machine)) machines

-- ---- what is stored

pub laid-is : (notes : Notes) (s : Concrete) (range : StoreRange) (objects : List Range) (o : Option (List ℕ)) → objects ≡ s.objects
    → rest_from s range.address ≡ o → option_map (bytes_of (held notes objects range.address) range.size) o ≡ laid notes s range
laid-is notes s range objects o lie found = λ i. option_map (bytes_of (held notes (lie i) range.address) range.size) (sym found i)

-- ---- the whole

pub before-is : (w : ℕ) (world : World) (r : RunState) (place : Spot) (insn : Option Insn) (store : Option StoreRange)
    (registers : List ℕ) (c : Bool) (events : ℕ) → place ≡ spot_of world (own_placement w world) r.machine → insn ≡ next_insn world r
    → store ≡ option_and_then (stored_by w registers) insn → registers ≡ r.machine.registers → c ≡ has_c r.machine
    → events ≡ length r.trace
    → record { place = place; insn = insn; store = store; registers = registers; has_c = c; events = events } ≡ before_of w world r
unfolding before_of next_store
before-is w world r place insn store registers c events at is stores holds flag many = λ i. record {
  place = at i;
  insn = is i;
  store = (stores ∙ (λ j. option_and_then (stored_by w (holds j)) (is j))) i;
  registers = holds i;
  has_c = flag i;
  events = many i;
}

pub step-is : (w : ℕ) (world : World) (number : ℕ) (r s : RunState) (notes : Notes) (before : Before) (changes : List (Option Change))
    (flag : Option Bool) (stored : Option Stored) (objects : List Range) (registers : List ℕ) (c : Bool)
    → world.notes ≡ notes → before ≡ before_of w world r → objects ≡ s.machine.objects
    → changes ≡ register_changes notes objects before.registers registers → registers ≡ s.machine.registers
    → flag ≡ flag_change before.has_c c → c ≡ has_c s.machine → stored ≡ stored_in notes before.store s
    → record { number = number; place = before.place; insn = before.insn; registers = changes; flag = flag; stored = stored }
    ≡ step_of w world number r s
unfolding before_of step_of
step-is w world number r s notes before changes flag stored objects registers c its same lie changed holds flags carries is = λ i. record {
  number = number;
  place = (same i).place;
  insn = (same i).insn;
  registers = (changed ∙ (λ j. register_changes (sym its j) (lie j) (same j).registers (holds j))) i;
  flag = (flags ∙ (λ j. flag_change (same j).has_c (carries j))) i;
  stored = (is ∙ (λ j. stored_in (sym its j) (same j).store s)) i;
}

-- so its lines are those of the step, and what arguments point to of the native calls among its events
pub lines-are : (w : ℕ) (world : World) (number : ℕ) (r s : RunState) (notes : Notes) (step : Step) (events : List Event)
    (old told all : List ℕ) → world.notes ≡ notes → step ≡ step_of w world number r s → events ≡ drop (length r.trace) s.trace
    → told ≡ old ++ step_text notes step events → all ≡ told ++ pointed_lines w world s.machine events
    → all ≡ old ++ step_lines w world number r s
unfolding step_lines
lines-are w world number r s notes step events old told all same is added tells points =
    points ∙ ap (λ t. t ++ pointed_lines w world s.machine events) tells
    ∙ append_assoc old (step_text notes step events) (pointed_lines w world s.machine events)
    ∙ (λ i. old ++ (step_text (sym same i) (is i) (added i) ++ pointed_lines w world s.machine (added i)))

-- the events that were there before are those that the trace had
pub events-then : (w : ℕ) (world : World) (r : RunState) (before : Before) → before ≡ before_of w world r → before.events ≡ length r.trace
unfolding before_of
events-then w world r before same = ap (λ (b : Before). b.events) same

-- what follows where a call went through
pub on-ok : {A E : Type 0} (r : Result A E) {P Q : Type 0} → OnOk r P → (P → Q) → OnOk r Q
on-ok (Ok x) holds follows = follows holds
on-ok (Err e) holds follows = tt
