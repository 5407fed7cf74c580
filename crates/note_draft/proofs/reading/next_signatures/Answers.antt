use Rattle.std.proofs.Common.{◌≡◌, [], refl, length-append, arith, ◌∙◌, sym}
use Rattle.std.proofs.lemmas.Result.{err_from_is_err_and}
use Rattle.toml.specs.View.{items_view}
use Rattle.note_draft.specs.Drafts.{signatures_from}
use Rattle.note_draft.specs.Names.{distinct}
use Rattle.note_draft.proofs.MethodLemmas.{method_names-push, method_names-room, signatures-init, signatures-go_on, signatures-stop}
use Rattle.note_draft.proofs.MethodLemmas.{signatures-done}
use Rattle.note_draft.proofs.reading.next_signatures.Goals as goal

pub loop-i-init : goal.loop-i-init
unfolding distinct
loop-i-init c = record {
  so_far = rw c.new-signatures.ensures.items (signatures-init c.args.path.now c.args.values.now);
  named = rw (c.new-signatures.ensures.items, c.requires.none) no_names;
  counted = rw c.new-signatures.ensures.items refl;
}
  where
    no_names : [] ≡ distinct []
    no_names = refl

pub next_signature-requires : goal.next_signature-requires
next_signature-requires c = method_names-room c.loop-i.methods c.loop-i.signatures.items c.loop-i.invariant.named
    (omega (arith, c.loop-i.invariant.counted, c.loop-i-test.true, c.requires.few))

pub returns-in_err-next_signature-clause-signatures : goal.returns-in_err-next_signature-clause-signatures
returns-in_err-next_signature-clause-signatures c =
    let p = err_from_is_err_and c.from_residual.result c.from_residual.ensures.1 in
    rw (p.1, p.2)
    (signatures-stop c.in_err-next_signature.field-0.0 c.args.path.now c.loop-i.signatures.items c.loop-i.i c.args.values.now
    c.index-values-i.result (signatures_from [] c.args.path.now 0
    (items_view c.args.values.now)) c.loop-i-test.true c.index-values-i.is
    (rw (← c.loop-i.invariant.named) c.in_err-next_signature.ensures.signature) c.loop-i.invariant.so_far)

pub loop-i-preserved : goal.loop-i-preserved
loop-i-preserved c = record {
  so_far = rw c.in_ok-push.ensures.items
      (signatures-go_on c.args.path.now c.loop-i.signatures.items c.loop-i.i c.args.values.now c.index-values-i.result
      c.in_ok-next_signature.field-0 _ c.loop-i-test.true c.index-values-i.is
      (rw (← c.loop-i.invariant.named) c.in_ok-next_signature.ensures.signature) c.loop-i.invariant.so_far);
  named = rw c.in_ok-push.ensures.items
      (method_names-push c.loop-i.methods c.next_signature.new.methods c.loop-i.signatures.items c.in_ok-next_signature.field-0
      c.loop-i.invariant.named c.in_ok-next_signature.ensures.methods);
  counted = rw c.in_ok-push.ensures.items (rw length-append (omega (arith, c.loop-i.invariant.counted)));
}

pub returns-clause-signatures : goal.returns-clause-signatures
returns-clause-signatures c =
    signatures-done c.args.path.now c.loop-i.signatures.items c.loop-i.i c.args.values.now _ c.loop-i-test.false c.loop-i.invariant.so_far
