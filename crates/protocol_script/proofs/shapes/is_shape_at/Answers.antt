use Rattle.protocol_script.proofs.Common.{◌≡◌, ◌∙◌, ap, no_shape, shape_of, is_shape}
use Rattle.std.proofs.Common.{rules}
use Rattle.protocol_script.proofs.ShapeLaws.{no-shape}
use Rattle.protocol_script.proofs.shapes.is_shape_at.Goals as goal

pub returns-in-None : goal.returns-in-None
returns-in-None c = let e : no_shape ≡ shape_of c.args.notes.now c.args.shape = search rules in no-shape ∙ ap is_shape e
