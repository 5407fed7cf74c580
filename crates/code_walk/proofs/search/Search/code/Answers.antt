use Rattle.std.proofs.Common.{arith}
use Rattle.note_infer.specs.Finding.{HasCode}
use Rattle.note_infer.proofs.Gathering.{function_there, has_code}
use Rattle.code_walk.proofs.search.Search.code.Goals as goal
use Rattle.code_walk.proofs.search.Search.code.Goals.{In-Some}

-- the function that was looked up has code
coded : (c : In-Some) → HasCode c.args.self.now.image.now c.in-Some.f.now
coded c =
    let look = c.in-Some.ensures.lookup in
    let there = function_there c.args.self.now.notes.now c.as_slice.result.now c.args.func c.in-Some.f.now c.as_slice.ensures
    look.3.0 look.1 in
    has_code c.args.self.now.image.now c.args.self.now.notes.now c.args.func c.in-Some.f.now c.requires.functions c.requires.notes there

pub code_of-bytes-requires-clause-range : goal.code_of-bytes-requires-clause-range
code_of-bytes-requires-clause-range c = (coded (goal.at.code_of-bytes-requires-clause-range c).In-Some).range

pub code_of-bytes-requires-clause-inside : goal.code_of-bytes-requires-clause-inside
code_of-bytes-requires-clause-inside c = (coded (goal.at.code_of-bytes-requires-clause-inside c).In-Some).home

pub returns : goal.returns
returns c =
    let coded = coded (goal.at.returns c).In-Some in
    let size = c.code_of-bytes.ensures.size in
    let low = coded.range in
    let high = coded.small in
    record { small = omega arith }
