use Rattle.std.proofs.Common.{◌≡◌, ◌<◌, ◌+◌, ◌++◌, ◌∷◌, ◌^◌, [], refl, ap, sym, subst, ◌∙◌, arith, length, take}
use Rattle.std.proofs.lemmas.List.{length-take-le, take_all, take_more}
use Rattle.ebc_base.specs.Tables.{with_name}
use Rattle.note_draft.specs.Names.{distinct}
use Rattle.note_draft.specs.declared.draft.SignatureDraft.{SignatureDraft}
use Rattle.note_draft.proofs.MethodLemmas.{method_names-push, method_names-room, methods_of}
use Rattle.note_draft.proofs.once.method_names.Goals as goal

pub loop-i-init : goal.loop-i-init
unfolding distinct
loop-i-init c = c.new-names.ensures ∙ no_names
  where
    no_names : [] ≡ distinct []
    no_names = refl

pub add-requires : goal.add-requires
add-requires c =
    let n : length (take c.loop-i.i c.args.signatures.now) ≡ c.loop-i.i =
    length-take-le c.loop-i.i c.args.signatures.now (omega (arith, c.loop-i-test.true)) in
    method_names-room c.loop-i.names (take c.loop-i.i c.args.signatures.now) c.loop-i.invariant
    (omega (arith, n, c.loop-i-test.true, c.requires))

pub loop-i-preserved : goal.loop-i-preserved
loop-i-preserved c =
    let item = c.index-signatures-i in
    let next : take (c.loop-i.i + 1) c.args.signatures.now ≡ take c.loop-i.i c.args.signatures.now
    ++ item.result ∷ [] = take_more c.args.signatures.now c.loop-i.i item.result c.loop-i-test.true
    ∙ ap (λ s. take c.loop-i.i c.args.signatures.now ++ s ∷ []) (sym item.is) in
    let added : c.add.new.self ≡ with_name item.result.method c.loop-i.names =
    subst (λ (s : SignatureDraft). c.add.new.self ≡ with_name s.method c.loop-i.names) (sym item.is) c.in_ok-add.ensures.ok in
    method_names-push c.loop-i.names c.add.new.self (take c.loop-i.i c.args.signatures.now) item.result c.loop-i.invariant added
    ∙ ap (λ ss. distinct (methods_of ss)) (sym next)

pub returns : goal.returns
returns c = c.loop-i.invariant ∙ ap (λ ss. distinct (methods_of ss)) (take_all c.loop-i.i c.args.signatures.now c.loop-i-test.false)
