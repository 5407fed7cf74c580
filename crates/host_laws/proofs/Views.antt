-- What the host sees of a configuration it sees of each run that stands for it, at either width.
use Rattle.host_laws.proofs.Common.{ℕ, ◌≤◌, IsWidth, Placement, stack_bytes, IsPlacement, RunState, Config, addresses, total, Stands, World}
use Rattle.host_laws.proofs.Common.{WorldFits}
use Rattle.host_laws.proofs.{Seen.ViewsAlike, ViewAlike.views_alike, SeenStands.seen_alike}

pub views_stand : (w : ℕ) (world : World) (P : Placement) (mapped : ℕ → ℕ) (a : Config) (r : RunState) → IsWidth w → WorldFits world
    → IsPlacement w world P → total w a.frames ≤ stack_bytes w world.notes
    → Stands w world P mapped a r → ViewsAlike w world P a r
views_stand w world P mapped a r h ok pl room st = views_alike w world P (addresses w world.notes P a.frames) a r
    (seen_alike w world P mapped h ok pl a r room st)
