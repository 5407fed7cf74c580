use Rattle.ebc_cli.proofs.Common.{err_from_is_err_and, ◌>>=◌, done, ReadDriver, binds_limit, binds_meaning, input, driver_files, pair_files}
use Rattle.ebc_cli.proofs.Common.{reads-ended, reads-made, reads-then}
use Rattle.ebc_cli.proofs.pairing.read_pair.Goals as goal

pub returns-in_err-a-clause-reads : goal.returns-in_err-a-clause-reads
unfolding pair_files
returns-in_err-a-clause-reads g c =
    let p = err_from_is_err_and c.from_residual.result c.from_residual.ensures.1 in
    rw (p.1, p.2) (reads-ended _ _ _ _ _ _ _ (λ files. driver_files 1 c.args.a.now files)
    (λ files (a : ReadDriver). driver_files 4 c.args.b.now files
    >>= (λ (b : ReadDriver). input binds_limit (binds_meaning a.notes b.notes) 7 c.args.binds.now files
    >>= (λ binds. done (a, b, binds)))) c.in_err-a.ensures.reads)

pub returns-in-Err-clause-reads : goal.returns-in-Err-clause-reads
unfolding pair_files
returns-in-Err-clause-reads g c =
    reads-then _ _ _ _ _ _ _ c.in_ok-a.a _ _ _ c.in_ok-a.ensures.reads
    (reads-ended _ _ _ _ _ _ c.in-Err.end (λ files. driver_files 4 c.args.b.now files)
    (λ files (b : ReadDriver). input binds_limit (binds_meaning c.in_ok-a.a.notes b.notes) 7 c.args.binds.now files
    >>= (λ binds. done (c.in_ok-a.a, b, binds))) c.in-Err.ensures.reads)

pub returns-in-Err-read_binds_file-clause-reads : goal.returns-in-Err-read_binds_file-clause-reads
unfolding pair_files
returns-in-Err-read_binds_file-clause-reads g c =
    reads-then _ _ _ _ _ _ _ c.in_ok-a.a _ _ _ c.in_ok-a.ensures.reads
    (reads-then _ _ _ _ _ _ _ c.in-Ok.b _ _ _ c.in-Ok.ensures.reads
    (reads-ended _ _ _ _ _ _ c.in-Err-read_binds_file.end
    (λ files. input binds_limit (binds_meaning c.in_ok-a.a.notes c.in-Ok.b.notes) 7 c.args.binds.now files)
    (λ files binds. done (c.in_ok-a.a, c.in-Ok.b, binds)) c.in-Err-read_binds_file.ensures.reads))

pub returns-in-Ok-read_binds_file-clause-reads : goal.returns-in-Ok-read_binds_file-clause-reads
unfolding pair_files
returns-in-Ok-read_binds_file-clause-reads g c =
    reads-then _ _ _ _ _ _ _ c.in_ok-a.a _ _ _ c.in_ok-a.ensures.reads
    (reads-then _ _ _ _ _ _ _ c.in-Ok.b _ _ _ c.in-Ok.ensures.reads
    (reads-made _ _ _ _ _ _ c.in-Ok-read_binds_file.binds
    (λ files. input binds_limit (binds_meaning c.in_ok-a.a.notes c.in-Ok.b.notes) 7 c.args.binds.now files)
    (λ binds. (c.in_ok-a.a, c.in-Ok.b, binds)) c.in-Ok-read_binds_file.ensures.reads))
