use Rattle.std.proofs.Common.{Some, ap, arith, ◌-◌, ◌∙◌, length, slice_get}
use Rattle.std.specs.List.{flat_map}
use Rattle.std.specs.Option.{option_map}
use Rattle.host_model.specs.Objects.{objects_of, script_object}
use Rattle.run_trace.proofs.PointedObjects.{from-calls, from-script}
use Rattle.run_trace.proofs.pointing.object_of_script.Goals as goal

pub returns-then-number-first : goal.returns-then-number-first
returns-then-number-first c =
    ap Some c.typed.ensures
    ∙ from-script c.args.script.now c.as_slice-first.result.now c.args.number c.index-first-number.result c.as_slice-first.ensures
    c.if-number-first.true c.index-first-number.is

pub returns : goal.returns
returns c =
    from-calls c.args.script.now c.as_slice-first.result.now c.args.number c.object_of_calls.result c.as_slice-first.ensures
    (let past = c.if-number-first.false in omega (arith, past))
    (c.object_of_calls.ensures ∙ ap
    (λ cs. option_map script_object (slice_get (flat_map objects_of cs) (c.args.number - length c.as_slice-first.result.now)))
    c.as_slice.ensures)
