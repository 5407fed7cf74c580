use Rattle.twin_run.proofs.Common.{None, Some}
use Rattle.std.proofs.lemmas.Option.{IfSome_then}
use Rattle.twin_run.proofs.WatchingLaws.{bytes_there, none-then}
use Rattle.twin_run.proofs.runner.Runner.bytes_from.Goals as goal

pub returns-clause-found : goal.returns-clause-found
returns-clause-found g c =
    IfSome_then c.bytes_from.result c.bytes_from.ensures.found (λ bytes found world r is.
    bytes_there g.row.W world c.args.self.now r c.args.addr (Some bytes.now) c.bytes_from.ensures.memory is found)

pub returns-clause-none : goal.returns-clause-none
returns-clause-none g c =
    none-then c.bytes_from.result c.bytes_from.ensures.none (λ none world r is.
    bytes_there g.row.W world c.args.self.now r c.args.addr None c.bytes_from.ensures.memory is none)
