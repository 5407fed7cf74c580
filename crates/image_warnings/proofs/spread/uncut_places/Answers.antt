use Rattle.std.proofs.Common.{length}
use Rattle.image_warnings.proofs.SpreadLaws.{marks_found, spread_none}
use Rattle.image_warnings.specs.Uncut.{way_of}
use Rattle.image_warnings.proofs.spread.uncut_places.Goals as goal

pub begin-requires-clause-spread : goal.begin-requires-clause-spread
begin-requires-clause-spread c =
    spread_none c.args.walk.now.image.now c.args.walk.now.f.now (way_of c.args.walk.now.notes.now c.args.above) _
    (length c.code_of-code.result.now)
    (c.in_ok-vec.ensures.items_if_clones_equal (λ y h. h)) c.code_of-code.ensures.size c.new.ensures.items

pub returns : goal.returns
returns c =
    marks_found c.args.walk.now.image.now c.args.walk.now.f.now (way_of c.args.walk.now.notes.now c.args.above) c.finish.new.self
    c.in_ok-finish.ensures.spread c.in_ok-finish.ensures.whole
