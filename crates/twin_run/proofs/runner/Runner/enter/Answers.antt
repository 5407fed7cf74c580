use Rattle.twin_run.proofs.Common.{◌≡◌, ap, sym, subst, arith, take, length, Some, slice_get, Raised, Notes, entered, own_placement, IsAt}
use Rattle.twin_run.proofs.Common.{Runner}
use Rattle.twin_run.proofs.EnteringLaws.{can_enter, entered_at, few_params, kinds_are, refused_at, refused_facts}
use Rattle.note_types.specs.declared.exception.Exception.TheVariants as raises
use Rattle.twin_run.proofs.runner.Runner.enter.Goals as goal

pub kinds_of-kinds-requires : goal.kinds_of-kinds-requires
kinds_of-kinds-requires g c =
    let few = few_params c.args.notes.now c.args.func c.function_at-function.result.now c.requires.notes c.function_at-function.ensures in
    let same = ap length c.as_slice.ensures in
    omega (arith, few, same)

pub enter_code-requires : goal.enter_code-requires
enter_code-requires g c =
    let f = c.function_at-function.result.now in
    let are = kinds_are f c.as_slice.result.now c.kinds_of-kinds.result c.len.result c.as_slice.ensures c.len.ensures
    c.kinds_of-kinds.ensures.kinds in
    let can = can_enter c.args.notes.now c.args.func f (take c.len.result c.kinds_of-kinds.result) c.args.numbers.now c.requires.notes
    c.function_at-function.ensures c.requires.func are c.requires.each in
    (omega arith, (c.requires.width, (can.small, (can.each, (can.few, c.requires.depth)))))

pub returns-in-Done-clause-at : goal.returns-in-Done-clause-at
returns-in-Done-clause-at g c = λ world r notes at.
    let w = g.row.W in
    let x = c.args.self.now in
    let f = c.function_at-function.result.now in
    let y = c.enter_code.new.self in
    let are = kinds_are f c.as_slice.result.now c.kinds_of-kinds.result c.len.result c.as_slice.ensures c.len.ensures
    c.kinds_of-kinds.ensures.kinds in
    let there = subst (λ (n : Notes). slice_get n.function c.args.func ≡ Some f) (sym notes) c.function_at-function.ensures in
    subst (λ (z : Runner w). IsAt w world z (entered c.args.notified w world (own_placement w world) r c.args.func c.args.numbers.now))
    (sym c.in-Done.ensures.kept)
    (entered_at w world x r c.args.notified c.args.func f (take c.len.result c.kinds_of-kinds.result) c.args.numbers.now y.machine y.mem
    y.frames at c.requires.settled there are c.in-Done.ensures.inside c.in-Done.ensures.frames c.in-Done.ensures.objects)

pub returns-in_default-clause-at : goal.returns-in_default-clause-at
returns-in_default-clause-at g c = λ world r notes at.
    let w = g.row.W in
    let x = c.args.self.now in
    let f = c.function_at-function.result.now in
    let are = kinds_are f c.as_slice.result.now c.kinds_of-kinds.result c.len.result c.as_slice.ensures c.len.ensures
    c.kinds_of-kinds.ensures.kinds in
    let there = subst (λ (n : Notes). slice_get n.function c.args.func ≡ Some f) (sym notes) c.function_at-function.ensures in
    let none = refused_facts _ _ c.in_default.not-Done c.enter_code.ensures.fault in
    let same = refused_facts _ _ c.in_default.not-Done c.enter_code.ensures.same in
    subst (λ (z : Runner w). IsAt w world (record z { ending = Raised raises.StackFault }) (entered c.args.notified w world (own_placement w
    world) r c.args.func c.args.numbers.now)) (sym same)
    (refused_at w world x r c.args.notified c.args.func f (take c.len.result c.kinds_of-kinds.result) c.args.numbers.now at there are none)
