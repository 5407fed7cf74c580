use Rattle.ebc_outside.proofs.MemoryLemmas.{file-found}
use Rattle.ebc_outside.proofs.mem_folder.first_bytes.Goals as goal

pub returns-in_ok-head-in-Some : goal.returns-in_ok-head-in-Some
returns-in_ok-head-in-Some c =
    rw (file-found c.args.name.now c.args.files.now.entries, ← c.get.ensures.value, c.in-Some.is)
    (rw (← c.deref.ensures.value) c.in_ok-head-in-Some.ensures)

pub returns-in-None : goal.returns-in-None
returns-in-None c =
    rw (file-found c.args.name.now c.args.files.now.entries, ← c.get.ensures.value, c.in-None.is) tt
