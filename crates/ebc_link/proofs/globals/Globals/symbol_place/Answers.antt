use Rattle.ebc_link.proofs.Common.{◌∙◌, defined}
use Rattle.ebc_link.proofs.GlobalLaws.{place-used}
use Rattle.ebc_link.proofs.globals.Globals.symbol_place.Goals as goal

pub returns-then-symbol-eq0 : goal.returns-then-symbol-eq0
returns-then-symbol-eq0 c =
    c.place.ensures ∙ place-used (defined c.args.self.now) c.args.home c.args.symbol.now c.if-symbol-eq0.true
