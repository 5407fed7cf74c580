-- For proofs: what a folder and a sink in memory, and those of the system, are to their callers. This project defines it:
-- docs/OUTSIDE.md.
use Rattle.std.specs.Prelude.{ℕ, List, refl}
use Rattle.std.specs.Coded.{Coded, code_by, coded×, coded_ℕ, coded_list}
use Rattle.std.specs.FinMap as map
use Rattle.ebc_outside.specs.Files.{Files}

-- a folder in memory: its files, the names of the reads so far, and for reads and for writes how many were begun, the
-- numbers of those that are to fail, and how many failed
pub record KeptFolder : Type 0 where
  pub files : Files
  pub asked : List (List ℕ)
  pub reads : ℕ
  pub failing_reads : List ℕ
  pub read_faults : ℕ
  pub writes : ℕ
  pub failing_writes : List ℕ
  pub write_faults : ℕ

-- the calls of one kind: how many were begun, the numbers of those that are to fail, and how many failed
abbrev pub Calls : Type 0
Calls = ℕ × (List ℕ × ℕ)

abbrev pub calls_code : Coded Calls
calls_code = coded× coded_ℕ (coded× (coded_list coded_ℕ) coded_ℕ)

-- a folder is stored as the tuple of its fields
abbrev pub kept_folder_code : Coded KeptFolder
kept_folder_code =
    code_by (Files × (List (List ℕ) × (Calls × Calls)))
    (coded× (map.code (coded_list coded_ℕ) (coded_list coded_ℕ)) (coded× (coded_list (coded_list coded_ℕ)) (coded× calls_code calls_code)))
    (λ f. (f.files, (f.asked, ((f.reads, (f.failing_reads, f.read_faults)), (f.writes, (f.failing_writes, f.write_faults))))))
    (λ t. record {
      files = t.0;
      asked = t.1.0;
      reads = t.1.1.0.0;
      failing_reads = t.1.1.0.1.0;
      read_faults = t.1.1.0.1.1;
      writes = t.1.1.1.0;
      failing_writes = t.1.1.1.1.0;
      write_faults = t.1.1.1.1.1;
    })
    (λ _. refl)

-- a sink in memory: its text, how many puts were begun, the numbers of those that are to fail,
-- and how many failed
pub record KeptSink : Type 0 where
  pub text : List ℕ
  pub puts : ℕ
  pub failing_puts : List ℕ
  pub faults : ℕ

-- a folder of the system: how many reads and how many writes failed
pub record HostCounts : Type 0 where
  pub read_faults : ℕ
  pub write_faults : ℕ

-- a sink over a writer: the writer, and how many puts failed
pub record KeptWriter (W : Type 0) : Type 0 where
  pub writer : W
  pub faults : ℕ

-- a sink over a writer is stored as the pair of its fields
abbrev pub kept_writer_code : {W : Type 0} → Coded W → Coded (KeptWriter W)
kept_writer_code {W} writer =
    code_by (W × ℕ) (coded× writer coded_ℕ)
    (λ s. (s.writer, s.faults))
    (λ p. record { writer = p.0; faults = p.1 })
    (λ _. refl)
