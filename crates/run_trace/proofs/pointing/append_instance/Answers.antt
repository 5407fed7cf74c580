use Rattle.run_trace.proofs.ArgumentLaws.{bytes-told, no-bytes, no-shape}
use Rattle.run_trace.proofs.BeforeLaws.{on-ok}
use Rattle.run_trace.proofs.pointing.append_instance.Goals as goal

pub returns-in_default-get : goal.returns-in_default-get
returns-in_default-get g c = λ image world s notes script read size is.
    no-shape g.row.W world s.machine c.args.program.notes.now c.args.program.script.now c.args.argument c.args.object c.args.instance
    c.in-Some.typed notes script c.in-Some.ensures c.as_slice.result.now c.args.out.now.items c.as_slice.ensures
    c.in_default-get.ensures.lookup.3

pub returns-in-Some-bytes_of : goal.returns-in-Some-bytes_of
returns-in-Some-bytes_of g c =
    on-ok c.append_pointed.result c.append_pointed.ensures (λ put image world s notes script read size is.
    bytes-told g.row.W world s.machine c.args.program.notes.now c.args.program.script.now c.args.argument c.args.object c.args.instance
    c.in-Some.typed notes script c.in-Some.ensures c.as_slice.result.now c.in-Some-get.shape.now c.as_slice.ensures
    c.in-Some-get.ensures.lookup.3.0 c.in-Some-get.ensures.lookup.1 c.in-Some-bytes_of.bytes.now c.cells_of.result c.args.out.now.items
    c.append_pointed.new.out.items (c.in-Some-bytes_of.ensures image world s read size is) c.cells_of.ensures put)

pub returns-in-None : goal.returns-in-None
returns-in-None g c = λ image world s notes script read size is.
    no-bytes g.row.W world s.machine c.args.program.notes.now c.args.program.script.now c.args.argument c.args.object c.args.instance
    c.in-Some.typed notes script c.in-Some.ensures c.as_slice.result.now c.in-Some-get.shape.now c.as_slice.ensures
    c.in-Some-get.ensures.lookup.3.0 c.in-Some-get.ensures.lookup.1 c.args.out.now.items (c.in-None.ensures image world s read size is)
