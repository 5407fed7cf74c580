use Rattle.protocol_script.proofs.Common.{refl}
use Rattle.protocol_script.proofs.ObjectLaws.{made-all}
use Rattle.protocol_script.proofs.objects.all_objects.Goals as goal

pub returns : goal.returns
returns c = rw (made-all c.args.notes.now c.args.script.now, c.in_ok-add_made.ensures, c.in_ok-made.ensures, c.as_slice.ensures) refl
