use Rattle.note_infer.proofs.Passing.{other_read}
use Rattle.site_finder.proofs.finder.sites.Goals as goal

pub new-requires : goal.new-requires
new-requires c =
    other_read c.args.search.now.image.now c.args.search.now.notes.now c.in_ok-marked.marked c.args.search.now.leaders.now (record {
      sound = c.requires.image;
      read = c.requires.notes;
      functions = c.requires.functions;
      all = c.requires.leaders;
      few = c.requires.few;
      marks = c.in_ok-marked.ensures;
    })
