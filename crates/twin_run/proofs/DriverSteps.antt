-- The run of the driver of docs/NOTES.md with its script comes to each kind of step, and finishes. The configurations are computed.
use Rattle.twin_run.proofs.Common.{◌≡◌, ℕ, Option, Some, None, refl, Finished, Config, neutral_start, own_placement, static_cells}
use Rattle.twin_run.proofs.Common.{config_after, run_of, driver_image}
use Rattle.neutral_machine.proofs.Computing.{runs_compute}
use Rattle.step_sound.specs.StepKinds.{IsPlain, IsNativeCall, IsThunk, IsNotify, IsCall, IsEnter, IsReply, IsLeaving, IsResuming, IsLast}
use Rattle.twin_run.specs.Met.{ComesTo, TypedPremisesAreMet}
use Rattle.twin_run.proofs.{DriverNotes.driver_named, DriverTyped.driver_world}
use Rattle.note_types.specs.declared.value.Value.TheVariants as value

-- what is there, or something else
abbrev or_else : {A : Type 0} → A → Option A → A
or_else d (Some x) = x
or_else d None = d

abbrev at_step : ℕ → Config
at_step k = or_else (neutral_start driver_named (static_cells driver_named driver_image)) (config_after driver_named driver_image k)

-- ---- instructions

plain : ComesTo driver_image driver_named IsPlain
unfolding runs_compute
plain = record {
  steps = 0;
  config = at_step 0;
  reached = refl;
  running = refl;
  kind = record {
    insn = _;
    at = record { place = 0x1000; size = 6; spot = refl; under = refl; not_due = refl; insn = refl };
    no_call = refl;
    no_thunk = refl;
  };
}

thunk : ComesTo driver_image driver_named IsThunk
unfolding runs_compute
thunk = record {
  steps = 1;
  config = at_step 1;
  reached = refl;
  running = refl;
  kind = record {
    insn = _;
    at = record { place = 0x1006; size = 2; spot = refl; under = refl; not_due = refl; insn = refl };
    thunk = refl;
  };
}

native_call : ComesTo driver_image driver_named IsNativeCall
unfolding runs_compute
native_call = record {
  steps = 10;
  config = at_step 10;
  reached = refl;
  running = refl;
  kind = record { insn = _; at = record { place = 0x1014; size = 2; spot = refl; under = refl; not_due = refl; insn = refl }; call = refl };
}

-- ---- steps of the host

notify : ComesTo driver_image driver_named IsNotify
unfolding runs_compute
notify = record {
  steps = 2;
  config = at_step 2;
  reached = refl;
  running = refl;
  kind = record { place = 0x1008; spot = refl; under = refl; due = refl };
}

call : ComesTo driver_image driver_named IsCall
unfolding runs_compute
call = record {
  steps = 11;
  config = at_step 11;
  reached = refl;
  running = refl;
  kind = record { next = 0x1016; place = 0x1014; target = _; spot = refl; under = refl };
}

reply : ComesTo driver_image driver_named IsReply
unfolding runs_compute
reply = record {
  steps = 12;
  config = at_step 12;
  reached = refl;
  running = refl;
  kind = record {
    call = _;
    callbacks = 0;
    within = record {
      next = 0x1016;
      entry = 0;
      args = _;
      spot = refl;
      under = refl;
      entry_is = refl;
    };
    none_left = refl;
  };
}

enter : ComesTo driver_image driver_named IsEnter
unfolding runs_compute
enter = record {
  steps = 24;
  config = at_step 24;
  reached = refl;
  running = refl;
  kind = record {
    call = _;
    callbacks = 0;
    within = record {
      next = 0x1038;
      entry = 1;
      args = _;
      spot = refl;
      under = refl;
      entry_is = refl;
    };
    callback = _;
    left = refl;
  };
}

leaving : ComesTo driver_image driver_named IsLeaving
unfolding runs_compute
leaving = record {
  steps = 27;
  config = at_step 27;
  reached = refl;
  running = refl;
  kind = record { host = _; below = _; rest = _; spot = refl; frames = refl; notified = refl };
}

resuming : ComesTo driver_image driver_named IsResuming
unfolding runs_compute
resuming = record {
  steps = 5;
  config = at_step 5;
  reached = refl;
  running = refl;
  kind = record { host = _; below = _; rest = _; spot = refl; frames = refl; notified = refl };
}

last : ComesTo driver_image driver_named IsLast
unfolding runs_compute
last = record {
  steps = 35;
  config = at_step 35;
  reached = refl;
  running = refl;
  kind = record { host = _; spot = refl; frames = refl };
}

-- ---- the end

finished : (run_of 4 driver_named (own_placement 4 driver_named) driver_image 36).ending ≡ Finished (value.StatusOk 0)
unfolding runs_compute
finished = refl

pub typed_premises_are_met : TypedPremisesAreMet
typed_premises_are_met = (
  driver_image,
  driver_named,
  record {
    typed = driver_world;
    plain = plain;
    native_call = native_call;
    thunk = thunk;
    notify = notify;
    call = call;
    enter = enter;
    reply = reply;
    leaving = leaving;
    resuming = resuming;
    last = last;
    steps = 36;
    result = value.StatusOk 0;
    finished = finished;
  },
)
