use Rattle.note_infer.proofs.Common.{rules, ◌≡◌, ◌<◌, ◌≤◌, ◌^◌, ap, arith, length, point_limit, TablesHold, Many, IsInferred, by_number}
use Rattle.note_infer.proofs.{Answering.few_leaders, OneAnswer.inferred_once, OneAnswer.once_ok}
use Rattle.note_infer.proofs.finder.infer.Goals as goal

pub returns-then-not-branch-clause-once : goal.returns-then-not-branch-clause-once
returns-then-not-branch-clause-once c =
    once_ok c.args.image.now c.args.notes.now c.requires.notes c.refused_tables.result c.refused_tables.ensures

pub find_leaders-requires-clause-functions : goal.find_leaders-requires-clause-functions
find_leaders-requires-clause-functions c =
    let tables : TablesHold c.args.image.now c.args.notes.now = c.in_ok-tables_hold.ensures.0 (search rules) in tables.functions

pub overflow_cast-result : goal.overflow_cast-result
overflow_cast-result c =
    let few : length c.in_ok-leaders.leaders.items ≤ 2 ^ 22 =
    few_leaders c.args.image.now c.args.notes.now c.in_ok-leaders.leaders.items c.requires.notes c.in_ok-leaders.ensures in
    let count : c.len-then-point_limit-len.result ≡ length c.in_ok-leaders.leaders.items = search rules in
    omega (arith, few, count)

pub returns-then-point_limit-len-clause-inferred : goal.returns-then-point_limit-len-clause-inferred
returns-then-point_limit-len-clause-inferred c =
    let tables : TablesHold c.args.image.now c.args.notes.now = c.in_ok-tables_hold.ensures.0 (search rules) in
    let many : point_limit c.args.notes.now.version < length c.in_ok-leaders.leaders.items = search rules in
    let count : c.len-then-point_limit-len.result ≡ length c.in_ok-leaders.leaders.items = search rules in
    let answer : IsInferred c.args.image.now c.args.notes.now (Many c.len-then-point_limit-len.result) =
    by_number c.in_ok-leaders.leaders.items tables c.in_ok-leaders.ensures many (ap Many count) in
    answer

pub returns-then-point_limit-len-clause-once : goal.returns-then-point_limit-len-clause-once
returns-then-point_limit-len-clause-once c = λ other x.
    let tables : TablesHold c.args.image.now c.args.notes.now = c.in_ok-tables_hold.ensures.0 (search rules) in
    let many : point_limit c.args.notes.now.version < length c.in_ok-leaders.leaders.items = search rules in
    let count : c.len-then-point_limit-len.result ≡ length c.in_ok-leaders.leaders.items = search rules in
    let answer : IsInferred c.args.image.now c.args.notes.now (Many c.len-then-point_limit-len.result) =
    by_number c.in_ok-leaders.leaders.items tables c.in_ok-leaders.ensures many (ap Many count) in
    inferred_once c.args.image.now c.args.notes.now c.requires.notes other (Many c.len-then-point_limit-len.result) x answer

pub returns-clause-once : goal.returns-clause-once
returns-clause-once c = once_ok c.args.image.now c.args.notes.now c.requires.notes c.find_points.result c.find_points.ensures
