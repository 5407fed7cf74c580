use Rattle.ebc_outside.proofs.MemoryLemmas.{files-inserted}
use Rattle.ebc_outside.proofs.mem_folder.MemFolder.insert.Goals as goal

pub returns-clause-files : goal.returns-clause-files
returns-clause-files c =
    rw (
      c.in_ok-insert.ensures.entries,
      files-inserted c.self.inside.files.entries c.in_ok-copy.copy c.in_ok-kept.kept,
      c.in_ok-copy.ensures.ok,
      c.in_ok-kept.ensures.items,
      ← c.self.view_is,
    )
