use Rattle.std.proofs.Common.{arith, sym}
use Rattle.pe_image.proofs.Places.{begins_past, below_floor, none_left, room_has, section_has}
use Rattle.pe_image.proofs.relocations.Found.reach.Goals as goal

pub returns-then-place-self-clause-has : goal.returns-then-place-self-clause-has
returns-then-place-self-clause-has c =
    sym (below_floor c.args.headers.now c.args.self.now.places.items c.args.self.now.floor c.args.self.now.room c.args.place
    c.requires.passed (omega arith))

pub returns-then-place-self-2-clause-has : goal.returns-then-place-self-2-clause-has
returns-then-place-self-2-clause-has c =
    sym (room_has c.args.headers.now c.args.self.now.places.items c.args.self.now.floor c.args.self.now.room c.args.place c.requires.passed
    (omega arith) (omega arith) (omega arith))

pub returns-then-section-count-clause-has : goal.returns-then-section-count-clause-has
returns-then-section-count-clause-has c =
    sym (none_left c.args.headers.now c.args.self.now.places.items c.args.self.now.floor c.args.self.now.room c.args.place
    c.first_past-section.result c.requires.sound c.requires.passed (omega arith) c.first_past-section.ensures (omega arith))

pub returns-then-place-begin-clause-has : goal.returns-then-place-begin-clause-has
returns-then-place-begin-clause-has c =
    sym (begins_past c.args.headers.now c.args.self.now.places.items c.args.self.now.floor c.args.self.now.room c.args.place
    c.first_past-section.result c.requires.sound c.requires.passed (omega arith) c.first_past-section.ensures (grind arith))

pub returns-clause-has : goal.returns-clause-has
returns-clause-has c =
    sym (section_has c.args.headers.now c.args.self.now.places.items c.args.self.now.floor c.args.self.now.room c.args.place
    c.first_past-section.result c.requires.passed (omega arith) c.first_past-section.ensures
    (omega (arith, c.first_past-section.ensures.within)) (grind arith))
