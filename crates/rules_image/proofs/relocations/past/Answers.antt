use Rattle.rules_image.proofs.Relocs.{mark_behind, mark_same}
use Rattle.rules_image.proofs.relocations.past.Goals as goal

pub returns-in-Some : goal.returns-in-Some
returns-in-Some c =
    let found = c.in-Some.ensures.some in
    mark_behind c.args.image.now c.requires.image c.args.at c.args.next c.args.first c.requires.first c.requires.later _ found.0
    (c.requires.ends _ found.0 found.1)

pub returns-in-None : goal.returns-in-None
returns-in-None c =
    mark_same c.args.image.now c.requires.image c.args.at c.args.next c.args.first c.requires.first c.requires.later c.in-None.ensures.none
