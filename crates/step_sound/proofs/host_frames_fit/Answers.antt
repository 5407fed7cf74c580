use Rattle.step_sound.proofs.HostStacks.{host_frames_fit}
use Rattle.step_sound.proofs.host_frames_fit.Goals as goal

pub returns : goal.returns
returns c = host_frames_fit
