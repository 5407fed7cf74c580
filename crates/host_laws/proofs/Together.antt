-- The laws as their contracts have them.
use Rattle.host_laws.proofs.Common.{slice_get_within}
use Rattle.host_laws.specs.Laws.{HostStepKeepsStanding, PlansKeepStanding, StartStands, ThunkIsSeen, ThunkKeepsStanding, ViewsAlike}
use Rattle.host_laws.proofs.{HostLaw.host_law, Starting.run_starts, Steps.performed_stands, Thunks.names_stand, Thunks.thunk_stands}
use Rattle.host_laws.proofs.Views.{views_stand}

pub views_are_alike : ViewsAlike
views_are_alike w world P mapped a r s v e = let p = s.placed in
    views_stand w world P mapped a r p.width p.world_fits p.placement s.room s.stands v e

pub plans_keep_standing : PlansKeepStanding
plans_keep_standing w world P mapped a r s p fits = let q = s.placed in
    performed_stands w world P mapped q.width q.world_fits q.placement a r p s.room s.stands fits

pub host_step_keeps_standing : HostStepKeepsStanding
host_step_keeps_standing w world P mapped a b r s given after e =
    let q = s.placed in host_law w world P mapped q.width q.world_fits q.placement a b r s.room after given s.stands e

pub thunk_is_seen : ThunkIsSeen
thunk_is_seen w world P mapped a s q st i t g l n = names_stand w world P mapped q.width q.world_fits q.placement a s i t g l n st

pub thunk_keeps_standing : ThunkKeepsStanding
thunk_keeps_standing w world P mapped a s q room st t g n =
    thunk_stands w world P mapped q.width q.world_fits q.placement a s t g
    (slice_get_within world.notes.function t.function n.note n.there) room st

pub start_stands : StartStands
start_stands w world P mapped statics q small show given =
    run_starts w world P mapped statics q.width q.world_fits q.placement show small given
