use Rattle.std.proofs.Common.{Some, None, ap, refl, take, ◌*◌, ◌-◌, ◌∙◌}
use Rattle.run_trace.specs.Pointed.{object_at, size_of}
use Rattle.run_trace.proofs.PointingLaws.{bytes-found, none-from}
use Rattle.run_trace.proofs.pointing.bytes_of.Goals as goal

pub returns-in_default : goal.returns-in_default
returns-in_default g c = λ image world s read size is.
    none-from g.row.W image world c.args.runner.now s c.requires.width read size is (object_at c.args.notes.now s.machine c.args.object)
    (c.args.instance * size_of g.row.W c.args.shape.now)
    (λ bytes. take ((c.args.count - c.args.instance) * size_of g.row.W c.args.shape.now) bytes)
    (c.in_default.ensures image world s read size is)

pub returns-in-Some-instance_past : goal.returns-in-Some-instance_past
returns-in-Some-instance_past g c = λ image world s read size is.
    ap Some c.instances.ensures
    ∙ bytes-found g.row.W c.args.notes.now s.machine c.args.shape.now c.args.count c.args.object c.args.instance c.in-Some.at
    c.size_of-size.result c.saturating_sub.result (Some c.in-Some-instance_past.bytes.now) c.size_of-size.ensures c.saturating_sub.ensures
    (c.in-Some.ensures image world s read size is) (c.in-Some-instance_past.ensures image world s read size is)

pub returns-in-None : goal.returns-in-None
returns-in-None g c = λ image world s read size is.
    bytes-found g.row.W c.args.notes.now s.machine c.args.shape.now c.args.count c.args.object c.args.instance c.in-Some.at
    c.size_of-size.result (c.args.count - c.args.instance) None c.size_of-size.ensures refl
    (c.in-Some.ensures image world s read size is) (c.in-None.ensures image world s read size is)
