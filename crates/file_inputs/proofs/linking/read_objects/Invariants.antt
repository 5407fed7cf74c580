use Rattle.std.proofs.Common.{◌≡◌, length, IfSome, All}
use Rattle.ebc_object.specs.Objects.{IsObject}
use Rattle.file_inputs.proofs.LinkLemmas.{IsReadTo}
use Rattle.file_inputs.proofs.ReadsLaws.{Went}
use Rattle.file_inputs.proofs.linking.read_objects.Given as goal

abbrev pub invariant-loop-name : goal.invariant-loop-name
invariant-loop-name g l = record {
  went : Went g.F.Folder.contents g.F.Folder.read_faults g.F.Folder.write_faults l.initial.folder l.folder;
  read : IfSome (g.F.Folder.contents l.initial.folder) (λ files. IsReadTo l.word files l.names l.name-index
      (g.F.Folder.asked l.initial.folder) (g.F.Folder.asked l.folder) l.objects.items);
  objects : All IsObject l.objects.items;
  many : length l.objects.items ≡ l.name-index;
}
