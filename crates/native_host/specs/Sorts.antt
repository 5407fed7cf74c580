-- For proofs: the sorts of numbers, as far as reading goes, which the code has in an enum. docs/HOST.md, "Readings".
use Rattle.host_model.specs.Readings as readings
use Rattle.native_host.specs.declared.sort.Sort.{Sort}
use Rattle.native_host.specs.declared.sort.Sort.TheVariants as sort

abbrev pub sort_of : Sort → readings.Sort
sort_of sort.Anything = readings.Anything
sort_of sort.Number = readings.Number
sort_of (sort.Size n c) = readings.SizeOf n c
sort_of sort.Pointer = readings.Pointer
sort_of sort.Handle = readings.HandleOf
sort_of sort.Entry = readings.EntryOf
sort_of sort.Status = readings.StatusOf
sort_of sort.Method = readings.MethodOf
