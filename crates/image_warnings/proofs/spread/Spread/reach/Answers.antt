use Rattle.std.proofs.Common.{refl, ◌∙◌, ap, Some}
use Rattle.image_warnings.proofs.SpreadLaws.{mark_at, marked_reached, spread_more}
use Rattle.image_warnings.specs.Uncut.{way_of}
use Rattle.image_warnings.proofs.spread.Spread.reach.Goals as goal

pub returns-then-index-clause-reached : goal.returns-then-index-clause-reached
returns-then-index-clause-reached c =
    marked_reached c.args.walk.now.image.now c.args.walk.now.f.now (way_of c.args.walk.now.notes.now c.args.above) c.args.self.now
    c.args.place c.requires.spread c.requires.first
    c.requires.within c.index.result.now c.index.ensures c.if-index.true

pub returns-clause-spread : goal.returns-clause-spread
returns-clause-spread c =
    let w = c.args.walk.now in
    spread_more w.image.now w.f.now (way_of w.notes.now c.args.above) c.args.self.now _ c.args.place c.requires.spread c.requires.first
    c.requires.uncut
    (mark_at w.image.now w.f.now (way_of w.notes.now c.args.above) c.args.self.now c.args.place c.requires.spread c.requires.first
    c.requires.within c.index.result.now
    c.index.ensures ∙ ap (λ b. Some b) c.if-index.false)
    refl c.in_ok-push.ensures.items
