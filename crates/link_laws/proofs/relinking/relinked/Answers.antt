use Rattle.link_laws.proofs.{Again.all_one, Again.is_listed, Again.IsListed, Again.IsPlanOf, Again.same_file, Common.◌∙◌}
use Rattle.pe_image.proofs.RoundTrip.{IsImage-linked}
use Rattle.link_laws.proofs.relinking.relinked.Goals as goal

pub list-requires : goal.list-requires
list-requires c = IsImage-linked c.args.image.now c.requires.listable.linked

pub linked-requires-clause-objects : goal.linked-requires-clause-objects
linked-requires-clause-objects c =
    let here : IsListed c.args.image.now c.in_ok-assembled.field-0 =
    is_listed c.args.image.now c.deref.result.now c.in_ok-assembled.field-0 c.requires.listable
    (c.deref.ensures.value ∙ c.in_ok-source.ensures) c.in_ok-assembled.ensures
    in
    all_one c.deref-2.result.now c.in_ok-assembled.field-0 (c.deref-2.ensures.value ∙ c.in_ok-objects.ensures.items) here.object

pub returns : goal.returns
returns c =
    let here : IsListed c.args.image.now c.in_ok-assembled.field-0 =
    is_listed c.args.image.now c.deref.result.now c.in_ok-assembled.field-0 c.requires.listable
    (c.deref.ensures.value ∙ c.in_ok-source.ensures) c.in_ok-assembled.ensures
    in
    let planned : IsPlanOf c.args.image.now c.args.plan.now = record {
      base = c.requires.base;
      subsystem = c.requires.subsystem;
      entry = c.requires.entry;
    } in
    same_file c.args.image.now c.in_ok-again.again c.in_ok-assembled.field-0 c.deref-2.result.now c.args.plan.now
    c.in_ok-write_image.field-0.items here (c.deref-2.ensures.value ∙ c.in_ok-objects.ensures.items) planned c.in_ok-again.ensures.answer
    c.in_ok-write_image.ensures.layout
