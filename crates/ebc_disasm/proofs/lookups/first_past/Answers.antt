use Rattle.std.proofs.Common.{List, leb, rules}
use Rattle.std.proofs.lemmas.List.Sorted.{IsPartitionPoint-from_clause}
use Rattle.pe_image.specs.declared.image.Section.{Section}
use Rattle.ebc_disasm.proofs.Halving.{end_of, ends_parted}
use Rattle.ebc_disasm.proofs.lookups.first_past.Goals as goal

pub returns : goal.returns
returns c =
    let xs : List Section = c.as_slice.result.now in
    ends_parted c.args.image.now c.args.place c.partition_point.result xs c.as_slice.ensures c.requires
    (λ parted. IsPartitionPoint-from_clause (λ (s : Section). leb (end_of s) c.args.place) xs _ c.partition_point.ensures.partitioned parted
    (λ a r f h. search rules))
