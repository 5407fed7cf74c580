use Rattle.label_places.proofs.Common.{◌<◌, get_or, length, option_map, get_or_default, Position, is_meant_in}
use Rattle.label_places.proofs.{EndLaws.no_position, SoughtLaws.sought-ends, SoughtLaws.sought-more}
use Rattle.label_places.proofs.seeking.only_in.Goals as goal

pub loop-position-preserved : goal.loop-position-preserved
unfolding no_position
loop-position-preserved c =
    let ps = c.args.positions.now in
    let k = c.loop-position.position-index in
    let within : k < length ps = c.loop-position-test.true in
    let p : Position = get_or ps k no_position in
    sought-more (is_meant_in c.args.names.now (option_map (λ o. o.now) c.args.object)) ps k p c.is_meant_in-is_meant.result
    c.loop-position.found c.in-Ok.so_far within (get_or_default ps k no_position p within) c.is_meant_in-is_meant.ensures
    c.loop-position.invariant c.in-Ok.ensures

pub returns-in-Err : goal.returns-in-Err
unfolding no_position
returns-in-Err c =
    let ps = c.args.positions.now in
    let k = c.loop-position.position-index in
    let within : k < length ps = c.loop-position-test.true in
    let p : Position = get_or ps k no_position in
    sought-ends (is_meant_in c.args.names.now (option_map (λ o. o.now) c.args.object)) ps k p c.is_meant_in-is_meant.result
    c.loop-position.found c.in-Err.end within (get_or_default ps k no_position p within) c.is_meant_in-is_meant.ensures
    c.loop-position.invariant c.in-Err.ensures
