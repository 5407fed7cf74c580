use Rattle.protocol_script.proofs.Common.{refl}
use Rattle.protocol_script.proofs.ObjectLaws.{made-start}
use Rattle.protocol_script.proofs.objects.objects_at_start.Goals as goal

pub returns : goal.returns
returns c = rw (
  made-start c.args.notes.now c.args.script.now,
  c.in_ok-add_objects.ensures,
  c.in_ok-add_statics.ensures,
  c.new-made.ensures.items,
  c.as_slice.ensures,
  c.as_slice-2.ensures,
) refl
