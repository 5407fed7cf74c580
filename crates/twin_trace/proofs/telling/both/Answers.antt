use Rattle.std.proofs.Common.{◌++◌, ap, ◌∙◌}
use Rattle.host_model.specs.Runs.{world_of}
use Rattle.twin_trace.specs.BothTraces.{both_told_lines}
use Rattle.twin_trace.proofs.BothLaws.{has-ends, some-told}
use Rattle.twin_trace.proofs.telling.both.Goals as goal

pub append_lines-requires : goal.append_lines-requires
append_lines-requires c = record {
  image = c.requires.image;
  bytes = c.requires.bytes;
  notes = c.requires.notes;
  script = c.requires.script;
  some = some-told c.args.last c.last_told-last.result c.in_ok-differ.differ c.last_told-last.ensures;
}

pub returns : goal.returns
returns c =
    let image = c.args.image.now in
    let world = world_of c.args.image.now c.args.notes.now c.args.script.now in
    record {
      differ = c.in_ok-differ.differ;
      parts = c.in_ok-differ.ensures;
      ends = has-ends image world _ _ _ _ _ c.last_told-last.ensures
          (c.in_ok-append_lines.ensures
          ∙ (ap (λ t. t ++ both_told_lines image world c.args.first c.last_told-last.result c.in_ok-differ.differ) c.new-out.ensures.items
          ∙ ap (λ l. both_told_lines image world c.args.first l c.in_ok-differ.differ) c.last_told-last.ensures))
          c.in_ok-append_ends.ensures;
    }
