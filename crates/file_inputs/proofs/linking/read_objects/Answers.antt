use Rattle.std.proofs.Common.{[], ◌∷◌, arith}
use Rattle.std.proofs.lemmas.Result.{err_from_is_err_and}
use Rattle.cli_base.specs.Readings.{done}
use Rattle.file_inputs.specs.Inputs.{input, object_limit, object_meaning}
use Rattle.file_inputs.specs.Linkings.{each_object}
use Rattle.file_inputs.proofs.LinkLemmas.{all-read, more-read, none-kept, one-ends, one-more}
use Rattle.file_inputs.proofs.ReadsLaws.{reads-after, reads-ended, reads-lost, reads-went, went-more}
use Rattle.file_inputs.proofs.linking.read_objects.Goals as goal

pub returns-in_err-object-clause-reads : goal.returns-in_err-object-clause-reads
returns-in_err-object-clause-reads g c =
    let p = err_from_is_err_and c.from_residual.result c.from_residual.ensures.1 in
    let before = c.loop-name.invariant in
    let end = c.in_err-object.field-0.0 in
    rw (p.1, p.2) (reads-after _ _ _ _ _ _ _ _ _ (each_object c.args.word c.args.names.now) before.went
    (reads-ended _ _ _ _ _ _ end (λ files. input object_limit object_meaning c.args.word c.as_str.result.now files)
    (λ files object. done (object ∷ [])) c.in_err-object.ensures.reads)
    (one-ends c.args.word _ _ c.args.names.now c.loop-name.name-index c.name-item.result c.as_str.result.now _ _ _
    c.loop-name.objects.items end
    (omega arith) c.name-item.is c.as_str.ensures before.went.same_files before.read c.in_err-object.ensures.reads.follows))

pub returns-in_err-push-clause-reads : goal.returns-in_err-push-clause-reads
returns-in_err-push-clause-reads g c =
    let p = err_from_is_err_and c.from_residual-in_err-push.result c.from_residual-in_err-push.ensures.1 in
    let before = c.loop-name.invariant in
    let read = c.in_ok-object.ensures.reads in
    rw (p.1, p.2) (reads-lost _ _ _ _ _ _ (each_object c.args.word c.args.names.now)
    (went-more _ _ _ _ _ _ _ c.in_ok-object.object _ before.went read)
    (none-kept c.args.word _ _ c.args.names.now c.loop-name.name-index c.name-item.result c.as_str.result.now c.in_ok-object.object _ _ _
    c.loop-name.objects.items (omega arith) c.name-item.is c.as_str.ensures before.went.same_files before.read read.follows))

pub loop-name-preserved : goal.loop-name-preserved
loop-name-preserved g c =
    let read = c.in_ok-object.ensures.reads in
    let before = c.loop-name.invariant in
    let more = one-more c.loop-name.objects.items c.push.new.self.items c.in_ok-object.object c.loop-name.name-index before.objects
    c.in_ok-object.ensures.object before.many c.in_ok-push.ensures.items in
    record {
      went = went-more _ _ _ _ _ _ _ c.in_ok-object.object _ before.went read;
      read = more-read c.args.word _ _ c.args.names.now c.loop-name.name-index c.name-item.result c.as_str.result.now
          c.in_ok-object.object _ _ _
          c.loop-name.objects.items c.push.new.self.items (omega arith) c.name-item.is c.as_str.ensures before.went.same_files before.read
          read.follows c.in_ok-push.ensures.items;
      objects = more.0;
      many = more.1;
    }

pub returns-clause-reads : goal.returns-clause-reads
returns-clause-reads g c = reads-went _ _ _ _ _ _ _ (each_object c.args.word c.args.names.now) c.loop-name.invariant.went
    (rw c.new.ensures (all-read c.args.word _ c.args.names.now c.loop-name.name-index _ _ c.loop-name.objects.items (omega arith)
    c.loop-name.invariant.read))
