use Rattle.std.proofs.Common.{length}
use Rattle.run_trace.proofs.PointedObjects.{from-statics, past-statics}
use Rattle.run_trace.proofs.pointing.typed_object.Goals as goal

pub returns-in-Some : goal.returns-in-Some
returns-in-Some c =
    let look = c.in-Some.ensures.lookup in
    from-statics c.args.notes.now c.args.script.now (length c.args.script.now.call) c.as_slice-statics.result.now c.args.object
    c.in-Some.it.now c.as_slice-statics.ensures look.3.0 look.1

pub returns-in-None : goal.returns-in-None
returns-in-None c =
    past-statics c.args.notes.now c.args.script.now (length c.args.script.now.call) c.as_slice-statics.result.now c.args.object
    c.object_of_script.result c.as_slice-statics.ensures c.in-None.ensures.lookup.3 c.object_of_script.ensures
