-- An instruction leaves the script place, the trace and the ending alone.
use Rattle.instruction_laws.proofs.Common.{refl}
use Rattle.neutral_machine.proofs.Keeping.{instruction_keeps}
use Rattle.instruction_laws.specs.Laws.{KeepsRun, RunKept}

pub run_kept : RunKept
run_kept world a here i e b g = instruction_keeps world a here i (KeepsRun a) (record {
  holds = record { script = refl; trace = refl; ending = refl };
  at_spot = λ b s k. record { script = k.script; trace = k.trace; ending = k.ending };
  with_registers = λ b r k. record { script = k.script; trace = k.trace; ending = k.ending };
  with_flag = λ b c k. record { script = k.script; trace = k.trace; ending = k.ending };
  with_written = λ b p v k. record { script = k.script; trace = k.trace; ending = k.ending };
  on_top = λ f fs q. record {
    items = λ is. record { script = refl; trace = refl; ending = refl };
    made = λ s. record { script = refl; trace = refl; ending = refl };
    dropped = λ is. record { script = refl; trace = refl; ending = refl };
    inside = λ m g next. record { script = refl; trace = refl; ending = refl };
    left = λ m. record { script = refl; trace = refl; ending = refl };
  };
}) e b g
