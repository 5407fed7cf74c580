use Rattle.std.proofs.lemmas.Slice.Eq.{slice_eq-Decides}
use Rattle.pair_host.proofs.SameShown.{Decides-pair_event}
use Rattle.pair_host.proofs.comparing.same_from.Goals as goal

pub returns : goal.returns
returns c =
    let d = slice_eq-Decides Decides-pair_event c.rest.result.now c.rest-2.result.now c.eq.result c.eq.ensures in
    rw (c.rest.ensures, c.rest-2.ensures) at d
