use Rattle.note_infer.proofs.Passing.{other_read}
use Rattle.point_search.proofs.finder.points_at.Goals as goal

pub points_under-requires-clause-notes : goal.points_under-requires-clause-notes
points_under-requires-clause-notes c =
    other_read c.args.search.now.image.now c.args.search.now.notes.now c.in_ok-marked.marked c.args.search.now.leaders.now (record {
      sound = c.requires.image;
      read = c.requires.notes;
      functions = c.requires.functions;
      all = c.requires.leaders;
      few = c.requires.few;
      marks = c.in_ok-marked.ensures;
    })
