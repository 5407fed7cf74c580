-- A step of the machine in a run changes no byte but those that are told of it.
use Rattle.std.proofs.Common.{◌≡◌, ℕ, ◌+◌, ◌%◌, ◌^◌, Bool, true, false, Option, Some, None, Result, Ok, Err}
use Rattle.std.proofs.Common.{refl, sym, ap, ◌∙◌, subst, nat_eq, if◌then◌else◌}
use Rattle.std.specs.Option.{option_and_then, option_map_or}
use Rattle.std.proofs.lemmas.Bool.{true≢false}
use Rattle.ebc_base.specs.Steps.{◌>>=◌}
use Rattle.ebc_insn.specs.declared.Insn.{Insn}
use Rattle.ebc_machine.specs.Fetch.{fetched}
use Rattle.ebc_machine.specs.Results.{Row}
use Rattle.ebc_machine.specs.Step.{ended, executed, instruction_done, machine_step}
use Rattle.ebc_machine.specs.declared.StepEnd.{StepEnd}
use Rattle.ebc_machine.specs.declared.StepEnd.TheVariants as ends
use Rattle.twin_run.specs.Watching.{is_hosts_turn}
use Rattle.host_model.specs.HostPlans.{host_turn, is_due, ThunkView, NotMapped, NamesNone, Names}
use Rattle.host_model.specs.HostSteps.{call_under_way, host_step, thunk_made, thunk_view}
use Rattle.host_model.specs.Placements.{Placement, thunk_at}
use Rattle.host_model.specs.Progress.{NativeCall, one_instruction}
use Rattle.host_model.specs.RunState.{RunState}
use Rattle.host_model.specs.Runs.{after_instruction, instruction_step, run_step, running_step, step_if}
use Rattle.host_model.specs.World.{World}
use Rattle.note_types.specs.Concrete.{Concrete, IsConcrete, stored}
use Rattle.note_types.specs.declared.ending.Ending.TheVariants.{Running}
use Rattle.note_types.specs.declared.exception.Exception.{Exception}
use Rattle.run_trace.specs.Steps.{insn_of, next_insn, next_store}
use Rattle.run_trace.specs.Stores.{stored_by}
use Rattle.run_trace.specs.StoreLaws.{IsOutside, StepsTellStores}
use Rattle.run_trace.specs.declared.stores.StoreRange.{StoreRange}
use Rattle.run_trace.proofs.StoreLaws.{AsksWithin, StoresWithin, RowWithin, executed-within, is-stored}

-- the bytes that the instruction at ip stores
abbrev pub store_at_ip : ℕ → Concrete → Option StoreRange
store_at_ip w s = option_and_then (stored_by w s.registers) (insn_of (fetched s))

done-within : (w : ℕ) (s : Concrete) → IsConcrete w s → RowWithin w s (store_at_ip w s) (instruction_done w s)
unfolding instruction_done
done-within w s is = either (fetched s)
  where
    either : (found : Result (Insn × ℕ) Exception) → RowWithin w s (option_and_then (stored_by w s.registers) (insn_of found))
        (do
          i ← found
          executed w s ((s.ip + i.1) % 2 ^ 64) i.0)
    either (Ok i) = executed-within w s ((s.ip + i.1) % 2 ^ 64) i.0 is
    either (Err e) = tt

-- ---- in a run

-- Each byte is as it was that isn't told of, where the run goes on.
abbrev pub TellsChanges : Concrete → Option StoreRange → RunState → Type 0
TellsChanges s range t = (x : ℕ) → (t.ending ≡ Running → IsOutside x range) → t.machine.byte x ≡ s.byte x

-- the thunk cell is filled in
filled-tells : (w : ℕ) (t : Concrete) (address v : ℕ) (x : ℕ) → IsOutside x (Some (record { address = address; size = w }))
    → (option_map_or (λ u. u) (stored t address w v) t).byte x ≡ t.byte x
filled-tells w t address v x outside = either (stored t address w v) refl
  where
    either : (o : Option Concrete) → stored t address w v ≡ o → (option_map_or (λ u. u) o t).byte x ≡ t.byte x
    either None none = refl
    either (Some u) some = (is-stored t address w v u some).others x outside

made-tells : (w : ℕ) (world : World) (P : Placement) (r : RunState) (range : Option StoreRange) (t : Concrete) (address : ℕ)
    (view : ThunkView) → r.ending ≡ Running → AsksWithin w r.machine range (ends.MakeThunk address) t
    → TellsChanges r.machine range (thunk_made w world P r t address view)
unfolding thunk_made
made-tells w world P r range t address NotMapped on asks = λ x outside. refl
made-tells w world P r range t address NamesNone on asks = λ x outside. ap (λ b. b x) asks.1
made-tells w world P r range t address (Names f) on asks = λ x outside.
    filled-tells w t address (thunk_at world.notes P f) x (subst (IsOutside x) asks.0 (outside on)) ∙ ap (λ b. b x) asks.1

end-tells : (w : ℕ) (world : World) (P : Placement) (r : RunState) (range : Option StoreRange) (end : StepEnd) (t : Concrete)
    → r.ending ≡ Running → StoresWithin w r.machine range end t
    → TellsChanges r.machine range (after_instruction w world P r (end, t))
unfolding after_instruction
end-tells w world P r range ends.Next t on within = λ x outside. within.others x (outside on)
end-tells w world P r range (ends.Native target) t on within = λ x outside. within.others x (outside on)
end-tells w world P r range ends.Gate t on within = λ x outside. refl
end-tells w world P r range (ends.MakeThunk address) t on within =
    made-tells w world P r range t address (thunk_view world P t address) on within.thunk
end-tells w world P r range (ends.Raised e) t on within = λ x outside. refl

row-tells : (w : ℕ) (world : World) (P : Placement) (r : RunState) (range : Option StoreRange) (row : Row) → r.ending ≡ Running
    → RowWithin w r.machine range row → TellsChanges r.machine range (after_instruction w world P r (ended r.machine row))
unfolding after_instruction
row-tells w world P r range (Ok done) on within = end-tells w world P r range done.0 done.1 on within
row-tells w world P r range (Err e) on within = λ x outside. refl

instruction-tells : (w : ℕ) (world : World) (P : Placement) (r : RunState) → IsConcrete w r.machine → r.ending ≡ Running
    → nat_eq r.machine.ip r.machine.gate ≡ false
    → TellsChanges r.machine (store_at_ip w r.machine) (instruction_step w world P r)
unfolding instruction_step machine_step
instruction-tells w world P r is on away =
    let counted : RunState = record r { script = one_instruction r.script } in
    let row = instruction_done w r.machine in
    subst (λ b. TellsChanges r.machine (store_at_ip w r.machine) (after_instruction w world P counted
    (if b then (ends.Gate, r.machine) else ended r.machine row))) (sym away)
    (row-tells w world P counted (store_at_ip w r.machine) row on (done-within w r.machine is))

-- where it isn't the host's turn the run isn't at the gate
away-then : (gate : Bool) (call : NativeCall ℕ) (due : Bool) → host_turn gate call due ≡ false → gate ≡ false
away-then true call due none = none
away-then false call due none = refl

turn-tells : (w : ℕ) (world : World) (P : Placement) (r : RunState) (hosts : Bool) → IsConcrete w r.machine → r.ending ≡ Running
    → nat_eq r.machine.ip r.machine.gate ≡ false → hosts ≡ false
    → TellsChanges r.machine (option_and_then (stored_by w r.machine.registers) (if hosts then None else insn_of (fetched r.machine)))
    (if hosts then host_step w world P r else instruction_step w world P r)
turn-tells w world P r true is on away machines = absurd (true≢false machines)
turn-tells w world P r false is on away machines = instruction-tells w world P r is on away

pub steps_tell_stores : StepsTellStores
unfolding run_step running_step next_store next_insn
steps_tell_stores w world P r is on machines =
    let away = away-then (nat_eq r.machine.ip r.machine.gate) (call_under_way r.hosts) (is_due world.script r.script) machines in
    subst (λ e. TellsChanges r.machine (next_store w world r) (step_if w world P r e)) (sym on)
    (turn-tells w world P r (is_hosts_turn world r) is on away machines)
