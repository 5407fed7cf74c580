-- The pair of the rows is typed and its bind agrees, and its run finishes once the bound call was answered.
use Rattle.pair_laws.proofs.Common.{◌≡◌, true, List, [], ◌∷◌, Some, refl, none-some, given, PairEvent, IsTypedPair}
use Rattle.pair_laws.proofs.Doubling.{a_notes, a_notes_meet, a_script_meets, b_notes, b_notes_meet, b_script_meets, doubling}
use Rattle.pair_laws.proofs.DoublingImages.{a_bytes, a_functions, a_image_meets, a_shapes, b_bytes, b_functions, b_image_meets, b_shapes}
use Rattle.pair_laws.proofs.{Doubling.doubling_agrees, Doubling.doubling_images, DoublingImages.system_formed, Computing.pairs_compute}
use Rattle.width_checker.specs.Typed.{Typed}
use Rattle.twin_run.proofs.TypedTest.{code_test, code_typed, functions_test, image_test}
use Rattle.twin_run.proofs.DriverTyped.{rows_compute}
use Rattle.pair_laws.specs.Met.{AnswersBoundCall, PairPremisesAreMet}
use Rattle.note_types.specs.declared.event.Event.TheVariants as event
use Rattle.note_types.specs.declared.value.Value.TheVariants as value
use Rattle.pair_model.specs.declared.event.PairEvent.TheVariants as pair_event

-- ---- the code meets the typing rules

a_passes : image_test doubling_images.a a_notes 64 ≡ true
unfolding rows_compute code_test functions_test
a_passes = refl

b_passes : image_test doubling_images.b b_notes 64 ≡ true
unfolding rows_compute code_test functions_test
b_passes = refl

a_typed : Typed doubling_images.a a_notes
a_typed = record {
  tables = record {
    shapes = a_shapes;
    functions = a_functions;
    statics = λ k x s g h. absurd (none-some x g);
    thunks = λ k t g. absurd (none-some t g);
  };
  code = code_typed doubling_images.a a_notes a_bytes refl 64 a_passes;
}

b_typed : Typed doubling_images.b b_notes
b_typed = record {
  tables = record {
    shapes = b_shapes;
    functions = b_functions;
    statics = λ k x s g h. absurd (none-some x g);
    thunks = λ k t g. absurd (none-some t g);
  };
  code = code_typed doubling_images.b b_notes b_bytes refl 64 b_passes;
}

doubling_is_typed : IsTypedPair doubling_images doubling
doubling_is_typed = record {
  a = record {
    well_formed = a_image_meets;
    bytes = a_bytes;
    size = refl;
    notes = a_notes_meet;
    script = a_script_meets system_formed;
    typed = a_typed;
  };
  b = record {
    well_formed = b_image_meets;
    bytes = b_bytes;
    size = refl;
    notes = b_notes_meet;
    script = b_script_meets;
    typed = b_typed;
  };
  binds = doubling_agrees;
}

-- ---- its run

abbrev told : List PairEvent
told = pair_event.A (event.Called 0x100A (Some 0) (given (value.Int 21) ∷ []))
    ∷ pair_event.B (event.Entered 1 (given (value.Int 21) ∷ []))
    ∷ pair_event.B (event.Returned 1 (value.Int 42))
    ∷ []

doubling_answers : AnswersBoundCall doubling_images doubling
unfolding pairs_compute
doubling_answers = record {
  typed = doubling_is_typed;
  steps = 17;
  before = told;
  answer = value.Int 42;
  result = value.Int 42;
  answered = refl;
  finished = refl;
}

pub pair_premises_are_met : PairPremisesAreMet
pair_premises_are_met = (doubling_images, doubling, doubling_answers)
