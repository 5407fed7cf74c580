use Rattle.std.proofs.Common.{Result, Ok, Err, refl, rules}
use Rattle.std.specs.Result.{OnOk}
use Rattle.ebc_outside.proofs.host_folder.HostFolderFolder.TheImpl.Goals as goal

on-ok : {T E : Type 0} {P : Type 0} (r : Result T E) → P → OnOk r P
on-ok (Ok x) p = p
on-ok (Err e) p = tt

pub write-tells : goal.write-tells
write-tells g c = record {
  written = on-ok c.result refl;
  fault = search rules;
  others = search rules;
  memory = search rules;
  count = search rules;
  uncounted = search rules;
  read_faults = search rules;
  asked = search rules;
}
