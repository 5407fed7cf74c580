use Rattle.ebc_link.proofs.Common.{ap, ◌∙◌, slice_get}
use Rattle.ebc_link.proofs.GlobalLaws.{place-named}
use Rattle.ebc_link.proofs.globals.Globals.place.Goals as goal

pub returns : goal.returns
returns c =
    c.place_numbered.ensures
    ∙ (ap (slice_get c.args.self.now.places.items) c.number.ensures.number
    ∙ place-named c.args.name.now c.args.self.now.names c.args.self.now.places.items c.requires)
