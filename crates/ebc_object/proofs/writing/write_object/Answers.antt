use Rattle.std.proofs.Common.{ap, ◌∙◌}
use Rattle.ebc_object.proofs.Again.{object-again, short-names, written}
use Rattle.ebc_object.specs.Readings.{object_of_file}
use Rattle.ebc_object.proofs.writing.write_object.Goals as goal

pub append_symbols-requires : goal.append_symbols-requires
append_symbols-requires c = short-names c.args.object.now c.as_slice-3.result.now c.as_slice-3.ensures c.requires

pub returns-clause-format : goal.returns-clause-format
returns-clause-format c =
    written c.args.object.now c.new-file.result.items c.append_head.new.file.items c.append.new.file.items c.append-2.new.file.items
    c.append_symbols.new.file.items c.append_fixups.new.file.items
    c.as_slice.result.now c.as_slice-2.result.now c.as_slice-3.result.now c.as_slice-4.result.now
    c.new-file.ensures.items c.in_ok-append_head.ensures c.as_slice.ensures c.in_ok-append.ensures c.as_slice-2.ensures
    c.in_ok-append-2.ensures
    c.as_slice-3.ensures c.in_ok-append_symbols.ensures c.as_slice-4.ensures c.in_ok-append_fixups.ensures

pub returns-clause-read_again : goal.returns-clause-read_again
returns-clause-read_again c = ap object_of_file (returns-clause-format c) ∙ object-again c.args.object.now c.requires
